-- Workers paired with takers, before they count and after.
use Rattle.std.proofs.Common.{◌≡◌, ℕ, ◌+◌, ◌<◌, true, List, [], ◌∷◌, ◌++◌, append_assoc, All, map, length, get_or, refl, sym, ap, ◌∙◌, subst, arith, None}
use Rattle.std.specs.List.{Any, range_with_len}
use Rattle.std.proofs.lemmas.List.{get_or-map, length-map, map-append}
use Rattle.std.proofs.lemmas.List.Elements.{All-push}
use Rattle.std.proofs.lemmas.List.FromFn.{fill_by_all}
use Rattle.safepoint_gate.specs.declared.gate.Gate.{Gate}
use Rattle.task_feed.specs.Dealt.{IsDealt}
use Rattle.task_feed.specs.Takers.{has_ended, row_of, tasks_of}
use Rattle.task_feed.specs.declared.feed.Feed.{Feed}
use Rattle.task_feed.specs.declared.takers.Taker.{Taker}
use Rattle.group_jobs.specs.Dealings.{row_at, tasks_at}
use Rattle.group_jobs.specs.Pairs.{AllFed, AllMayFeed, taker_in, worker_in}
use Rattle.group_jobs.specs.Workers.{AllCountedBy, AllReady, HasCounted, HaveCounted, MayDeal, NoneRefused}
use Rattle.group_jobs.specs.declared.pairs.Pair.{Pair}
use Rattle.group_jobs.specs.declared.shares.Worker.{Worker}
use Rattle.group_jobs.specs.declared.tasks.Task.{Task}
use Rattle.group_jobs.proofs.Hired.{element}

-- the rows, each looked up by the number of its worker
pub rows_back : (rows : List (List ℕ)) → map (row_at rows) (range_with_len 0 (length rows)) ≡ rows
rows_back rows = sym (fill_by_all (row_at rows) rows (length rows) [] refl (λ k lt. refl))

pub length_workers : (pairs : List Pair) → length (map worker_in pairs) ≡ length pairs
length_workers pairs = length-map pairs worker_in

-- ---- lists in step

-- one that is mapped grows by what another loses
pub paired_more : {A B : Type 0} (f : A → B) (done after : List A) (x : A) (rest left all : List B) (y : B) → rest ≡ y ∷ left → after ≡ done ++ x ∷ [] → f x ≡ y → map f done ++ rest ≡ all → map f after ++ left ≡ all
paired_more f done after x rest left all y cut put same old =
    ap (λ l. map f l ++ left) put ∙ ap (λ l. l ++ left) (map-append f done (x ∷ [])) ∙ append_assoc (map f done) (f x ∷ []) left ∙ (λ i. map f done ++ same i ∷ left) ∙ ap (λ l. map f done ++ l) (sym cut) ∙ old

-- one grows by what another, mapped, loses
pub parted_more : {A B : Type 0} (f : A → B) (done after : List B) (rest left : List A) (x : A) (y : B) (all : List B) → rest ≡ x ∷ left → after ≡ done ++ y ∷ [] → y ≡ f x → done ++ map f rest ≡ all → after ++ map f left ≡ all
parted_more f done after rest left x y all cut put same old =
    ap (λ l. l ++ map f left) put ∙ append_assoc done (y ∷ []) (map f left) ∙ (λ i. done ++ same i ∷ map f left) ∙ ap (λ l. done ++ map f l) (sym cut) ∙ old

pub all_more : {A : Type 0} (P : A → Type 0) (done after : List A) (x : A) → after ≡ done ++ x ∷ [] → All P done → P x → All P after
all_more P done after x put all here = subst (All P) (sym put) (All-push P done x all here)

-- ---- before

pub may_feed : (gate : Gate) (feed : Feed) (bytes : List ℕ) (pairs : List Pair) (team : List Worker) → map worker_in pairs ≡ team → AllReady gate bytes team
    → All (λ (pair : Pair). (pair.taking.feed.now ≡ feed) × (row_of pair.taking.taker ≡ [])) pairs → AllMayFeed gate feed bytes pairs
may_feed gate feed bytes pairs team are ready takers k d lt = record {
  of_feed = (takers k d lt).0;
  fresh = (takers k d lt).1;
  counted = subst (HasCounted gate (k + 1) bytes []) (ap (λ (l : List Worker). get_or l k d.worker) (sym are) ∙ get_or-map worker_in pairs k d d.worker lt)
      (ready k d.worker (let long = ap length are in let same = length_workers pairs in omega arith));
}

-- ---- after

module _ (gate : Gate) (feed : Feed) (bytes : List ℕ) (tasks : List Task) (pairs : List Pair) (fed : AllFed gate feed bytes tasks pairs) where
  pub fed_by : (team : List Worker) (rows : List (List ℕ)) → team ≡ map worker_in pairs → rows ≡ map row_of (map taker_in pairs) → AllCountedBy gate bytes tasks (row_at rows) team
  fed_by team rows is are k d lt =
      let long = ap length is in
      let same = length_workers pairs in
      let below : k < length pairs = omega arith in
      let x = (element pairs k below).0 in
      let below_takers : k < length (map taker_in pairs) = let m = length-map pairs taker_in in omega arith in
      let worker : get_or team k d ≡ worker_in (get_or pairs k x) = ap (λ (l : List Worker). get_or l k d) is ∙ get_or-map worker_in pairs k x d below in
      let row : row_at rows k ≡ row_of (taker_in (get_or pairs k x)) =
      ap (λ (l : List (List ℕ)). get_or l k []) are ∙ get_or-map row_of (map taker_in pairs) k (taker_in x) [] below_takers ∙ ap row_of (get_or-map taker_in pairs k x (taker_in x) below) in
      subst (λ (y : List ℕ × Worker). HasCounted gate (k + 1) bytes (tasks_at tasks y.0) y.1) (λ i. (sym row i, sym worker i)) (fed k x below).counted

  -- where all workers found room, one of the takers has ended
  pub fed_ended : (team : List Worker) → team ≡ map worker_in pairs → 0 < length pairs → NoneRefused team → Any (λ (taker : Taker). has_ended taker ≡ true) (map taker_in pairs)
  fed_ended team is some none =
      let x = (element pairs 0 some).0 in
      let first = get_or pairs 0 x in
      let worker : get_or team 0 x.worker ≡ worker_in first = ap (λ (l : List Worker). get_or l 0 x.worker) is ∙ get_or-map worker_in pairs 0 x x.worker some in
      let long = ap length is in
      let same = length_workers pairs in
      let unrefused : first.worker.refused ≡ None = ap (λ (w : Worker). w.refused) (sym worker) ∙ none 0 x.worker (omega arith) in
      let taker = get_or-map taker_in pairs 0 x (taker_in first) some in
      (0, taker_in first, (let m = length-map pairs taker_in in omega arith), taker, (fed 0 x some).ended unrefused)

  pub have_counted : (team : List Worker) (rows : List (List ℕ)) (left : List ℕ) → team ≡ map worker_in pairs → rows ≡ map row_of (map taker_in pairs) → 0 < length pairs → MayDeal bytes tasks → tasks_of feed ≡ length tasks
      → IsDealt (tasks_of feed) rows left → (Any (λ (taker : Taker). has_ended taker ≡ true) (map taker_in pairs) → left ≡ []) → HaveCounted gate bytes tasks (row_at rows) left team
  have_counted team rows left is are some may all dealt ended = record {
    counted = fed_by team rows is are;
    may = may;
    dealt = subst (λ (x : ℕ × List (List ℕ)). IsDealt x.0 x.1 left) (λ i. (all i, rows_here i)) dealt;
    whole = λ none. ended (fed_ended team is some none);
  }
    where
      many : length rows ≡ length team
      many = let a = ap length are in let b = length-map (map taker_in pairs) row_of in let m = length-map pairs taker_in in let t = ap length is in let w = length_workers pairs in omega arith

      rows_here : rows ≡ map (row_at rows) (range_with_len 0 (length team))
      rows_here = sym (rows_back rows) ∙ ap (λ n. map (row_at rows) (range_with_len 0 n)) many
