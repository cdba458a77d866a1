-- The workers of a count, before it and after it.
use Rattle.std.proofs.Common.{◌≡◌, ◌⊎◌, ⊎_elim, inl, inr, ◌+◌, ◌-◌, ◌≤◌, ◌<◌, ℕ, zero, suc, List, [], ◌∷◌, ◌++◌, Bool, false, true≢false, length, get_or, take, refl, sym, ap, subst, ◌∙◌, arith, Some, None, is_some}
use Rattle.std.specs.List.{remove, slice_get}
use Rattle.std.specs.FinMap.{empty, get-empty}
use Rattle.std.proofs.lemmas.List.{get_or-replicate}
use mathlib.Core.Option.{some, some-ne-none, some-injective}
use lib.ListN.{get_elem?}
use Rattle.object_layout.specs.declared.names.Name.{Name}
use Rattle.heap_words.specs.declared.map.Areas.{Areas}
use Rattle.yak_model.specs.Graph.{idle, standard_limits, thread_of}
use Rattle.yak_model.specs.Names.{name_cmp}
use Rattle.yak_model.specs.Private.{FitPages, IsKnown}
use Rattle.yak_model.specs.Room.{table_words}
use Rattle.yak_model.specs.Spaces.{SpaceState, opening_spaces}
use Rattle.yak_model.specs.Texts.{words_of}
use Rattle.yak_model.proofs.Lasting.{private_first}
use Rattle.safepoint_gate.specs.declared.gate.Gate.{Gate}
use Rattle.safepoint_gate.specs.declared.rule.Own.{Own}
use Rattle.safepoint_gate.specs.declared.rule.View.{View}
use Rattle.safepoint_gate.specs.declared.seats.Away.{Away}
use Rattle.safepoint_gate.specs.Made.{AllFresh}
use Rattle.safepoint_gate.specs.Rule.{Mine, newcomer, thread_told}
use Rattle.safepoint_gate.specs.Seats.{IsOf}
use Rattle.safepoint_gate.specs.Steps.{first_calls, first_thread}
use Rattle.mutator.specs.declared.resting.Resting.{Resting}
use Rattle.mutator.specs.Finishing.{AllOf}
use Rattle.mutator.specs.Resting.{seats_of}
use Rattle.mutator.proofs.Rested.{seats_length, seats_more}
use Rattle.group_jobs.specs.Epochs.{AreEpochs, bounds_in}
use Rattle.group_jobs.specs.Followed.{IsSettled, made_in}
use Rattle.group_jobs.specs.Shared.{HasEpoch}
use Rattle.group_jobs.specs.Tallies.{tasks_room}
use Rattle.group_jobs.specs.Tasks.{task_bytes}
use Rattle.group_jobs.specs.Workers.{AllCountedBy, AllReady, AreSeats, HasCounted, IsAtRest, IsGoing, IsThere, own_of}
use Rattle.group_jobs.specs.declared.shares.Worker.{Worker}
use Rattle.group_jobs.specs.declared.tasks.Task.{Task}

-- ---- lists

-- a list from which the first was removed
pub taken : {A : Type 0} (l left : List A) (a : A) → 1 ≤ length l → a ≡ get_or l 0 a → left ≡ remove l 0 → l ≡ a ∷ left
taken [] left a h e r = absurd (omega arith)
taken (x ∷ xs) left a h e r = λ i. sym e i ∷ sym r i

-- an element of a list and one more
in_snoc : {A : Type 0} (xs : List A) (x : A) (k : ℕ) (d : A) → k < length (xs ++ x ∷ []) → ((k < length xs) × (get_or (xs ++ x ∷ []) k d ≡ get_or xs k d)) ⊎ ((k ≡ length xs) × (get_or (xs ++ x ∷ []) k d ≡ x))
in_snoc [] x zero d lt = inr (refl, refl)
in_snoc [] x (suc k) d lt = absurd (omega arith)
in_snoc (y ∷ xs) x zero d lt = inl (omega arith, refl)
in_snoc (y ∷ xs) x (suc k) d lt =
    ⊎_elim (λ (a : (k < length xs) × (get_or (xs ++ x ∷ []) k d ≡ get_or xs k d)). inl ((let p = a.0 in omega arith), a.1)) (λ (b : (k ≡ length xs) × (get_or (xs ++ x ∷ []) k d ≡ x)). inr (ap suc b.0, b.1)) (in_snoc xs x k d (omega arith))

snoc_length : {A : Type 0} (xs : List A) (x : A) → length (xs ++ x ∷ []) ≡ length xs + 1
snoc_length [] x = refl
snoc_length (y ∷ xs) x = let r = snoc_length xs x in omega arith

-- an element, however it is looked up
pub element : {A : Type 0} (xs : List A) (k : ℕ) → k < length xs → (x : A) × ((d : A) → get_or xs k d ≡ x) × (get_elem? xs k ≡ some x)
element [] k lt = absurd (omega arith)
element (x ∷ xs) zero lt = (x, λ d. refl, refl)
element (x ∷ xs) (suc k) lt = element xs k (omega arith)

inside : {A : Type 0} (xs : List A) (k : ℕ) (x : A) → get_elem? xs k ≡ some x → (k < length xs) × (get_or xs k x ≡ x)
inside [] k x e = absurd (some-ne-none x (sym e))
inside (y ∷ xs) zero x e = (omega arith, some-injective y x e)
inside (y ∷ xs) (suc k) x e = let r = inside xs k x e in ((let p = r.0 in omega arith), r.1)

-- ---- a thread that has made no call

none_known : (name : Name) → IsKnown empty name → ⊥
none_known name h = true≢false (sym h ∙ ap is_some (get-empty name_cmp name))

none_fit : FitPages standard_limits empty
none_fit name content e = absurd (none_known name (ap is_some e))

fresh_rest : (t : ℕ) → IsAtRest (newcomer t ∷ []) false []
fresh_rest t = record {
  known = empty;
  knows = ((record { contents = λ name h. absurd (none_known name h); closed = λ from to r h. absurd (none_known to h) }, none_fit), λ name h. absurd (none_known name h));
  progress = (refl, refl);
  root = refl;
  outside = refl;
}

fresh_settled : (m : Areas) (t : ℕ) → 1 ≤ t → t ≤ m.threads → IsSettled m (newcomer t ∷ [])
fresh_settled m t from to = record {
  one = refl;
  state = opening_spaces standard_limits m.threads;
  leaves = refl;
  mine = λ j o e. subst (Mine m []) (at_once j o e)
      record {
        thread = (from, to);
        calls = refl;
        has = λ s leaves. ap (λ (x : SpaceState). thread_of x.graph t) leaves ∙ get_or-replicate m.threads (t - 1) (thread_told (newcomer t)) idle (omega arith);
        knows = private_first standard_limits m.threads t;
        goes_on = ([], refl);
      };
  ends = inl refl;
}
  where
    at_once : (j : ℕ) (o : Own) → get_elem? (newcomer t ∷ []) j ≡ some o → newcomer t ≡ o
    at_once zero o e = some-injective (newcomer t) o e
    at_once (suc j) o e = absurd (some-ne-none o (sym e))

no_task : (m : Areas) (t k : ℕ) (bytes : List ℕ) (task : Task) → slice_get [] k ≡ Some task → ∥ HasEpoch m.threads [] t k (words_of (task_bytes bytes task)) ∥₁
no_task m t k bytes task e = cc

fresh_going : (m : Areas) (t : ℕ) (bytes : List ℕ) → IsGoing m.threads t bytes [] (newcomer t ∷ []) false
fresh_going m t bytes = record {
  has_is = refl;
  made = omega arith;
  room = omega arith;
  none = refl;
  rest = fresh_rest t;
  epochs = refl;
  epoch = λ k task at. no_task m t k bytes task at;
}

-- what a slice of the front of a vector leaves of it
pub front : {A : Type 0} (n : ℕ) (xs ys : List A) → n ≡ length xs → take n (xs ++ ys) ≡ xs
front n [] ys e = ap (λ z. take z ys) e
front zero (x ∷ xs) ys e = absurd (omega arith)
front (suc n) (x ∷ xs) ys e = ap (λ l. x ∷ l) (front n xs ys (omega arith))

-- ---- workers are hired

-- the mutators that are left are those from so many on
abbrev pub AreLeft : List Away → ℕ → List Resting → Type 0
AreLeft all count left = (j : ℕ) (a : Away) → get_elem? (seats_of left) j ≡ some a → get_elem? all (count + j) ≡ some a

-- a worker that was just hired
pub record IsHired (w : Worker) (next : Resting) : Type 0 where
  pub thread : w.thread ≡ next.away.thread
  pub resting : w.resting ≡ Some next
  pub none : w.has_total ≡ false
  pub unrefused : w.refused ≡ None

module _ (gate : Gate) (all : List Away) (resting left : List Resting) (next : Resting) (workers after : List Worker) (w : Worker) (cut : resting ≡ next ∷ left) (put : after ≡ workers ++ w ∷ [])
    (new : AllFresh gate.table.shared.table_id gate.map all) (rest : AreLeft all (length workers) resting) where
  longer : length after ≡ length workers + 1
  longer = ap length put ∙ snoc_length workers w

  pub hired_rest : AreLeft all (length after) left
  hired_rest j a at =
      let more : length workers + suc j ≡ length after + j = let l = longer in omega arith in
      ap (get_elem? all) (sym more) ∙ rest (suc j) a (ap (λ (l : List Resting). get_elem? (seats_of l) (suc j)) cut ∙ at)

  pub hired_count : length workers + length (seats_of resting) ≡ length all → length after + length (seats_of left) ≡ length all
  hired_count e = let l = longer in let c = ap (λ (l : List Resting). length (seats_of l)) cut in omega arith

  module _ (count : length workers + length (seats_of resting) ≡ length all) (full : length all ≡ gate.map.threads) (hired : IsHired w next) (bytes : List ℕ) where
    ready : HasCounted gate (length workers + 1) bytes [] w
    ready =
        let t = length workers + 1 in
        let here : length workers + 0 ≡ length workers = omega arith in
        let seat = new (length workers) next.away (ap (get_elem? all) (sym here) ∙ rest 0 next.away (ap (λ (l : List Resting). get_elem? (seats_of l) 0) cut)) in
        let number : next.away.thread ≡ t = sym next.away.numbered ∙ ap (λ (v : View). first_thread v.own) seat.1 in
        let own : own_of w.resting ≡ newcomer t ∷ [] = ap own_of hired.resting ∙ ap (λ (v : View). v.own) seat.1 in
        let size = ap (λ (l : List Resting). length (seats_of l)) cut in
        record {
          thread = hired.thread ∙ number;
          there = subst (IsThere gate t) (sym hired.resting) ((seat.0, ap (λ (v : View). v.map) seat.1), number);
          settled = subst (λ l. ∥ IsSettled gate.map l ∥₁) (sym own) ∣ fresh_settled gate.map t (omega arith) (omega (arith, count, full, size)) ∣₁;
          room = subst (λ (l : List Own). made_in (first_calls l) ≤ table_words + tasks_room bytes []) (sym own) (omega arith);
          halted = (0, inl (subst (λ (l : List Own). AreEpochs t 0 (bounds_in (first_calls l))) (sym own) refl));
          going = λ _. subst (λ (x : List Own × Bool). IsGoing gate.map.threads t bytes [] x.0 x.1) (λ i. (sym own i, sym hired.none i)) (fresh_going gate.map t bytes);
          refused = λ c e. absurd (true≢false (ap is_some (sym e ∙ hired.unrefused)));
        }

    pub hired_ready : AllReady gate bytes workers → AllReady gate bytes after
    hired_ready all_ready = subst (AllReady gate bytes) (sym put) (λ k d lt.
        ⊎_elim
        (λ (a : (k < length workers) × (get_or (workers ++ w ∷ []) k d ≡ get_or workers k d)). subst (HasCounted gate (k + 1) bytes []) (sym a.1) (all_ready k d a.0))
        (λ (b : (k ≡ length workers) × (get_or (workers ++ w ∷ []) k d ≡ w)). subst (λ (y : ℕ × Worker). HasCounted gate (y.0 + 1) bytes [] y.1) (λ i. (sym b.0 i, sym b.1 i)) ready)
        (in_snoc workers w k d lt))

-- ---- workers are dismissed

-- the workers that are left are those from so many on
abbrev pub AreLast : List Worker → ℕ → List Worker → Type 0
AreLast all count left = (j : ℕ) (d : Worker) → j < length left → get_or left j d ≡ get_or all (count + j) d

-- the first workers' mutators are these
abbrev pub AreFirst : List Worker → List Resting → Type 0
AreFirst all back = (k : ℕ) (d : Worker) (a : Away) → k < length back → (resting : Resting) × ((get_or all k d).resting ≡ Some resting) × (get_or (seats_of back) k a ≡ resting.away)

module _ (all workers left : List Worker) (w : Worker) (back after : List Resting) (r : Resting) (cut : workers ≡ w ∷ left) (put : after ≡ back ++ r ∷ []) (last : AreLast all (length back) workers) where
  longer_back : length after ≡ length back + 1
  longer_back = ap length put ∙ snoc_length back r

  pub dismissed_last : AreLast all (length after) left
  dismissed_last j d lt =
      let more : length back + suc j ≡ length after + j = let l = longer_back in omega arith in
      let long = ap length cut in
      ap (λ (l : List Worker). get_or l (suc j) d) (sym cut) ∙ (last (suc j) d (omega arith) ∙ ap (λ z. get_or all z d) more)

  pub dismissed_count : length back + length workers ≡ length all → length after + length left ≡ length all
  dismissed_count e = let l = longer_back in let c = ap length cut in omega arith

  pub dismissed_first : w.resting ≡ Some r → AreFirst all back → AreFirst all after
  dismissed_first is first = subst (AreFirst all) (sym put) (λ k d a lt.
      ⊎_elim
      (λ (x : (k < length (seats_of back)) × (get_or (seats_of back ++ r.away ∷ []) k a ≡ get_or (seats_of back) k a)).
      let old = first k d a (subst (λ z. k < z) (seats_length back) x.0) in
      (old.0, old.1, ap (λ (l : List Away). get_or l k a) (seats_more back r) ∙ (x.1 ∙ old.2)))
      (λ (x : (k ≡ length (seats_of back)) × (get_or (seats_of back ++ r.away ∷ []) k a ≡ r.away)).
      let long = ap length cut in
      let here : length back + 0 ≡ k = let p = x.0 in let q = seats_length back in omega arith in
      let found : get_or all k d ≡ w = sym (ap (λ z. get_or all z d) here) ∙ (sym (last 0 d (omega arith)) ∙ ap (λ (l : List Worker). get_or l 0 d) cut) in
      (r, ap (λ (y : Worker). y.resting) found ∙ is, ap (λ (l : List Away). get_or l k a) (seats_more back r) ∙ x.1))
      (in_snoc (seats_of back) r.away k a (let p = snoc_length (seats_of back) r.away in let q = seats_length back in let s = snoc_length back r in omega arith)))

-- ---- after a run

module _ (gate : Gate) (bytes : List ℕ) (tasks : List Task) (row : ℕ → List ℕ) (workers : List Worker) (counted : AllCountedBy gate bytes tasks row workers) where
  -- the seat of each worker
  pub seat_of : (seats : List Away) → AreSeats workers seats → (k : ℕ) (d : Worker) (a : Away) → k < length workers → (resting : Resting) × ((get_or workers k d).resting ≡ Some resting) × (get_or seats k a ≡ resting.away) × IsOf gate resting.away.seat.table_id resting.away.seat.me.0
  seat_of seats are k d a lt =
      let seat = are k d a lt in
      (seat.0, seat.1, seat.2, (subst (IsThere gate (k + 1)) seat.1 (counted k d lt).there).0)

  pub counted_seats : (seats : List Away) → length seats ≡ length workers → AreSeats workers seats → AllOf gate seats
  counted_seats seats long are k a at =
      let here = inside seats k a at in
      let lt : k < length workers = let p = here.0 in omega arith in
      let w = element workers k lt in
      let seat = seat_of seats are k w.0 a lt in
      subst (λ (x : Away). IsOf gate x.seat.table_id x.seat.me.0) (sym seat.2 ∙ here.1) seat.3
