-- A thread that counted the words of one more task.
use Rattle.std.proofs.Common.{◌≡◌, ⊎_elim, ℕ, ◌+◌, ◌-◌, ◌^◌, ◌<◌, ◌≤◌, min, Bool, true, false, cond, eqb, List, [], ◌∷◌, ◌++◌, length, get_or, refl, sym, ap, ◌∙◌, subst, arith, Option, None, Some, Result, Ok, Err}
use Rattle.std.specs.List.{Contains}
use Rattle.std.proofs.lemmas.List.Sums.{sum_by-cons}
use Rattle.std.proofs.Math.Logic.{∥∥₁_elim, ∥∥₁_map}
use Rattle.std.proofs.Math.Nat.{ℕ_set}
use Rattle.std.specs.Result.{IfErr, IfOk, OnErr, OnOk}
use Rattle.object_layout.specs.declared.calls.Call.TheVariants as call
use Rattle.object_layout.specs.declared.replies.Census.{Census}
use Rattle.object_layout.specs.declared.replies.Reply.TheVariants as reply
use Rattle.yak_model.specs.declared.history.Entry.{Entry}
use Rattle.yak_model.specs.declared.history.Entry.TheVariants.{Said}
use Rattle.yak_model.specs.declared.datum.Datum.TheVariants as datum
use Rattle.yak_model.specs.Graph.{Thread}
use Rattle.yak_model.specs.History.{caller, part}
use Rattle.yak_model.specs.Names.{root_name}
use Rattle.yak_model.specs.Private.{KnownObjects}
use Rattle.yak_model.specs.Standing.{counted_on}
use Rattle.yak_model.proofs.Lists.{contains_cases, contains_cons}
use Rattle.heap_core.proofs.RoomsSums.{contains_first}
use Rattle.heap_words.specs.declared.map.Areas.{Areas}
use Rattle.yak_model.specs.Room.{table_words}
use Rattle.safepoint_gate.specs.declared.rule.Own.{Own}
use Rattle.safepoint_gate.specs.Steps.{first_calls, first_thread}
use Rattle.mutator.specs.Callers.{first_past, first_told, standing_shared}
use Rattle.heap_words.specs.declared.TheConstants.{STACK_SLOTS}
use Rattle.yak_model.specs.Texts.{word_counts}
use Rattle.heap_tables.specs.declared.TheConstants.{FREE_SLOTS}
use Rattle.heap_tables.specs.Cursors.{MayWalk}
use Rattle.heap_tables.specs.Runs.{slot_in}
use Rattle.heap_tables.specs.Epochs.{GrowsBy}
use Rattle.group_jobs.specs.Followed.{Follows, IsSettled, KnowsOwn, entry_refused, refused_in}
use Rattle.group_jobs.specs.Tallies.{IsProgress, new_total}
use Rattle.group_jobs.specs.declared.TheConstants.{MOST_WORDS, PART_SLOT, TOTAL_SLOT}
use Rattle.group_jobs.specs.Workers.{HasRefused, IsAtRest, exact_most}
use Rattle.group_jobs.proofs.Depths.{names_in, same_thread}
use Rattle.group_jobs.proofs.Tallying.{tally_walk}
use Rattle.group_jobs.proofs.TaskEpochs.{settled_made, told_settled}

-- ---- lists that grew

same_list : (a b : List Entry) → Some a ≡ Some b → a ≡ b
same_list a b e = cc

pub grown : (kind : List Entry → Type 0) (was now : List Entry) → GrowsBy kind (Some was) (Some now) → (more : List Entry) × (now ≡ was ++ more) × kind more
grown kind was now grows = (grows.0, same_list now (was ++ grows.0) grows.1, grows.2)

-- ---- the words of what was made

exact_cases : (begun calls made words most M : ℕ) → min (made + begun) M ≡ min (0 + calls) M → min (made + 0) M ≡ min (0 + words) M → words ≤ most → begun + most < M → calls ≤ begun + most
exact_cases begun calls made words most M r q le small = omega (arith, r, q, le, small)

pub exact_words : (begun calls made start words most : ℕ) → counted_on made begun ≡ counted_on 0 calls → start ≡ 0 → counted_on made 0 ≡ counted_on start words → words ≤ most → begun + most ≤ exact_most → calls ≤ begun + most
exact_words begun calls made start words most counts none counted le small =
    exact_cases begun calls made words most (2 ^ 64 - 1) counts (subst (λ s. counted_on made 0 ≡ counted_on s words) none counted) le (omega (arith, small))

-- ---- calls that found no room

none_cases : (calls refusals M : ℕ) → min (refusals + 0) M ≡ min (0 + calls) M → refusals ≡ 0 → 0 < M → calls ≡ 0
none_cases calls refusals M r none some = omega (arith, r, none, some)

pub none_refused : (begun calls refusals : ℕ) → counted_on refusals begun ≡ counted_on 0 calls → begun ≡ 0 → refusals ≡ 0 → calls ≡ 0
none_refused begun calls refusals counts start none =
    none_cases calls refusals (2 ^ 64 - 1) (subst (λ b. counted_on refusals b ≡ counted_on 0 calls) start counts) none (omega arith)

one_cases : (calls refusals M : ℕ) → min (refusals + 0) M ≡ min (0 + calls) M → refusals ≡ min (0 + 1) M → 1 < M → 0 < calls
one_cases calls refusals M r one some = omega (arith, r, one, some)

pub one_refused : (begun calls refusals start : ℕ) → counted_on refusals begun ≡ counted_on 0 calls → begun ≡ 0 → start ≡ 0 → refusals ≡ counted_on start 1 → 0 < calls
one_refused begun calls refusals start counts none zero_start one =
    one_cases calls refusals (2 ^ 64 - 1) (subst (λ b. counted_on refusals b ≡ counted_on 0 calls) none counts) (subst (λ b. refusals ≡ counted_on b 1) zero_start one) (omega arith)

-- such a call is on the list
pub found_refused : (t : ℕ) (list : List Entry) → ((x : Entry) → Contains list x → caller x ≡ t) → 0 < refused_in list → HasRefused t list
found_refused t [] own some = absurd (omega arith)
found_refused t (x ∷ list) own some =
    by x refl (λ none.
    let sum = sum_by-cons entry_refused x list in
    let more = found_refused t list (λ y c. own y (contains_cons x list y c)) (omega arith) in
    (more.0, contains_cons x list (Said t (call.New more.0) reply.OutOfHeap) more.1))
  where
    by : (y : Entry) → x ≡ y → (entry_refused x ≡ 0 → HasRefused t (x ∷ list)) → HasRefused t (x ∷ list)
    by (Said u (call.New k) reply.OutOfHeap) e rest =
        let mine : u ≡ t = sym (ap caller e) ∙ own x (contains_first x list) in
        (k, subst (Contains (x ∷ list)) (e ∙ ap (λ v. Said v (call.New k) reply.OutOfHeap) mine) (contains_first x list))
    by y e rest = rest (ap entry_refused e)

-- an entry of a thread's part is of the thread
pub part_own : (t : ℕ) (history : List Entry) (x : Entry) → Contains (part history t) x → caller x ≡ t
part_own t [] x c = absurd (omega (arith, c.1))
part_own t (y ∷ history) x c =
    elim (eqb (caller y) t) as (λ b. eqb (caller y) t ≡ b → Contains (cond b (y ∷ part history t) (part history t)) x → caller x ≡ t) [
      | true ↦ λ own d. ⊎_elim (λ (e : y ≡ x). ap caller (sym e) ∙ same_thread t (caller y) own) (λ (r : Contains (part history t) x). part_own t history x r) (contains_cases y (part history t) x d)
      | false ↦ λ _ d. part_own t history x d
    ] refl c

-- ---- at rest

-- what a caller knows doesn't hang on what it counts
pub rests : (own : List Own) (has : Bool) (done : List (List ℕ)) (made refusals : ℕ) (last : Option (Census × ℕ × ℕ)) (known : KnownObjects) → KnowsOwn own known → IsProgress has (standing_shared own made refusals last) known done → slot_in (standing_shared own 0 0 None) 0 ≡ datum.Object root_name → (first_told own).depth ≡ 0 → IsAtRest own has done
rests own true done made refusals last known knows progress root outside = record { known = known; knows = knows; progress = (progress.0, record { name = progress.1.name; slot = progress.1.slot; table = progress.1.table }); root = root; outside = outside }
rests own false done made refusals last known knows progress root outside = record { known = known; knows = knows; progress = progress; root = root; outside = outside }

pub progresses : (own : List Own) (has : Bool) (done : List (List ℕ)) (made refusals : ℕ) (last : Option (Census × ℕ × ℕ)) (rest : IsAtRest own has done) → IsProgress has (standing_shared own made refusals last) rest.known done
progresses own true done made refusals last rest = (rest.progress.0, record { name = rest.progress.1.name; slot = rest.progress.1.slot; table = rest.progress.1.table })
progresses own false done made refusals last rest = rest.progress

-- ---- what is known of a thread whose calls are followed

pub settled_here : (m n : Areas) (begun own : List Own) → m ≡ n → ∥ Follows m begun own ∥₁ → ∥ IsSettled n own ∥₁
settled_here m n begun own same follows = ∥∥₁_map follows (λ f. subst (λ x. IsSettled x own) same f.settled)

pub own_calls : (m : Areas) (begun own : List Own) → ∥ Follows m begun own ∥₁ → (x : Entry) → Contains (first_calls own) x → caller x ≡ first_thread own
own_calls m begun own follows x c =
    ∥∥₁_elim follows (ℕ_set (caller x) (first_thread own)) (λ f. part_own (first_thread own) (first_past own) x (subst (λ l. Contains l x) (sym (told_settled m own f.settled).calls) c))

pub made_calls : (m : Areas) (begun own : List Own) → ∥ Follows m begun own ∥₁ → (first_told own).made ≡ names_in (first_calls own)
made_calls m begun own follows = ∥∥₁_elim follows (ℕ_set (first_told own).made (names_in (first_calls own))) (λ f. settled_made m own f.settled)

-- ---- one answer

pub if_ok : {A B : Type 0} (r : Result A B) (P : A → Type 0) (x : A) → r ≡ Ok x → IfOk r P → P x
if_ok r P x e h = subst (λ q. IfOk q P) e h

pub on_ok : {A B : Type 0} (r : Result A B) (P : Type 0) (x : A) → r ≡ Ok x → OnOk r P → P
on_ok r P x e h = subst (λ q. OnOk q P) e h

pub on_error : {A B : Type 0} (r : Result A B) (P : Type 0) (x : B) → r ≡ Err x → OnErr r P → P
on_error r P x e h = subst (λ q. OnErr q P) e h

pub total_most : (a b : Bool) → new_total a b ≤ table_words
total_most false true = omega arith
total_most true true = omega arith
total_most true false = omega arith
total_most false false = omega arith

pub same_census : (a b : Census × ℕ × ℕ) → Some a ≡ Some b → a.0 ≡ b.0
same_census a b e = cc

pub if_err : {A B : Type 0} (r : Result A B) (P : B → Type 0) (x : B) → r ≡ Err x → IfErr r P → P x
if_err r P x e h = subst (λ q. IfErr q P) e h

-- ---- a table that is read

pub rest_walk : (own : List Own) (done : List (List ℕ)) (made refusals : ℕ) (last : Option (Census × ℕ × ℕ)) (rest : IsAtRest own true done) → length done ≤ MOST_WORDS → MayWalk (standing_shared own made refusals last) rest.known TOTAL_SLOT rest.progress.1.name (word_counts done)
rest_walk own done made refusals last rest few =
    tally_walk (standing_shared own made refusals last) rest.known done (record { name = rest.progress.1.name; slot = rest.progress.1.slot; table = rest.progress.1.table }) few

-- the calls on tables find their slots free above it
pub free_above : (size : ℕ) → size ≡ PART_SLOT → size + FREE_SLOTS ≤ STACK_SLOTS
free_above size is = omega (arith, is)

-- at rest with the same stack and depth, and what was known
pub rest_same : (own now : List Own) (has : Bool) (done : List (List ℕ)) → first_told now ≡ first_told own → (rest : IsAtRest own has done) → KnowsOwn now rest.known → IsAtRest now has done
rest_same own now true done same rest knows = record {
  known = rest.known;
  knows = knows;
  progress = (
    ap (λ (o : Thread). length o.stack) same ∙ rest.progress.0,
    record { name = rest.progress.1.name; slot = ap (λ (o : Thread). get_or o.stack TOTAL_SLOT datum.Null) same ∙ rest.progress.1.slot; table = rest.progress.1.table },
  );
  root = ap (λ (o : Thread). get_or o.stack 0 datum.Null) same ∙ rest.root;
  outside = ap (λ (o : Thread). o.depth) same ∙ rest.outside;
}
rest_same own now false done same rest knows = record {
  known = rest.known;
  knows = knows;
  progress = (ap (λ (o : Thread). length o.stack) same ∙ rest.progress.0, rest.progress.1);
  root = ap (λ (o : Thread). get_or o.stack 0 datum.Null) same ∙ rest.root;
  outside = ap (λ (o : Thread). o.depth) same ∙ rest.outside;
}

pub map_ok : {A B : Type 0} (r : Result A B) (P Q : A → Type 0) → ((x : A) → P x → Q x) → IfOk r P → IfOk r Q
map_ok (Ok x) P Q f h = f x h
map_ok (Err e) P Q f h = tt

pub map_err : {A B : Type 0} (r : Result A B) (P Q : B → Type 0) → ((x : B) → P x → Q x) → IfErr r P → IfErr r Q
map_err (Ok x) P Q f h = tt
map_err (Err e) P Q f h = f e h
