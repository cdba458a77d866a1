-- Resting mutators and their seats.
use Rattle.std.proofs.Common.{◌≡◌, ℕ, zero, suc, ◌+◌, ◌≤◌, List, [], ◌∷◌, ◌++◌, length, get_or, replicate, refl, sym, ap, ◌∙◌, subst, arith, length-append, zero-add}
use Rattle.std.specs.List.{remove}
use Rattle.std.proofs.lemmas.List.{append-nil}
use mathlib.Core.Option.{some, some-ne-none, some-injective}
use lib.ListN.{get_elem?}
use Rattle.heap_words.specs.Contents.{Contents, contents}
use Rattle.heap_core.specs.Opening.{IsOpened}
use Rattle.yak_model.specs.declared.history.Entry.{Entry}
use Rattle.yak_model.specs.Continued.{Explains}
use Rattle.safepoint_gate.specs.declared.gate.Gate.{Gate}
use Rattle.safepoint_gate.specs.declared.rule.Own.{Own}
use Rattle.safepoint_gate.specs.declared.rule.View.{View}
use Rattle.safepoint_gate.specs.declared.seats.Away.{Away}
use Rattle.safepoint_gate.specs.Rule.{AllMine}
use Rattle.safepoint_gate.specs.Made.{AllFresh}
use Rattle.safepoint_gate.specs.Seats.{IsOf}
use Rattle.safepoint_gate.specs.Steps.{IsClosing, at_gate}
use Rattle.atomic_table.specs.Seated.{TableId}
use Rattle.heap_words.specs.declared.map.Areas.{Areas}
use Rattle.mutator.specs.declared.resting.Resting.{Resting}
use Rattle.mutator.specs.Resting.{AllSingle, seats_of}
use Rattle.mutator.specs.Finishing.{AllOf, Finishes, owns_of}

-- ---- lists from which the first was removed

pub taken : (l left : List Away) (a : Away) → 1 ≤ length l → a ≡ get_or l 0 a → left ≡ remove l 0 → l ≡ a ∷ left
taken [] left a h e r = absurd (omega arith)
taken (x ∷ xs) left a h e r = λ i. sym e i ∷ sym r i

pub taken_resting : (l left : List Resting) (a : Resting) → 1 ≤ length l → a ≡ get_or l 0 a → left ≡ remove l 0 → l ≡ a ∷ left
taken_resting [] left a h e r = absurd (omega arith)
taken_resting (x ∷ xs) left a h e r = λ i. sym e i ∷ sym r i

pub single_first : (l left : List Away) (a : Away) → l ≡ a ∷ left → AllSingle l → (length a.seat.me.0.own ≡ 1) × AllSingle left
single_first l left a is all = (all 0 a (ap (λ m. get_elem? m 0) is), λ k b e. all (suc k) b (ap (λ m. get_elem? m (suc k)) is ∙ e))

-- ---- seats of resting mutators

pub seats_more : (all : List Resting) (r : Resting) → seats_of (all ++ r ∷ []) ≡ seats_of all ++ r.away ∷ []
seats_more [] r = refl
seats_more (x ∷ all) r = ap (λ (l : List Away). x.away ∷ l) (seats_more all r)

pub seats_length : (all : List Resting) → length (seats_of all) ≡ length all
seats_length [] = refl
seats_length (x ∷ all) = ap suc (seats_length all)

pub none_left : (made : List Away) (seats all : List Away) → length seats ≡ 0 → made ++ seats ≡ all → made ≡ all
none_left made [] all none e = sym (append-nil made) ∙ e
none_left made (a ∷ seats) all none e = absurd (omega arith)

pub fresh_single : (table : TableId) (m : Areas) (seats : List Away) → AllFresh table m seats → AllSingle seats
fresh_single table m seats all k a at = ap (λ (v : View). length v.own) (all k a at).1

-- ---- the entries of all threads

pub owns_length : (all : List Resting) → length (owns_of (seats_of all)) ≡ length (seats_of all)
owns_length [] = refl
owns_length (r ∷ all) = let n = owns_length all in let one = r.single in let both = length-append r.away.seat.me.0.own (owns_of (seats_of all)) in omega arith

pub of_first_seat : (gate : Gate) (all left : List Resting) (r : Resting) → all ≡ r ∷ left → AllOf gate (seats_of all) → IsOf gate r.away.seat.table_id r.away.seat.me.0 × AllOf gate (seats_of left)
of_first_seat gate all left r is every =
    let seats : seats_of all ≡ r.away ∷ seats_of left = ap seats_of is in
    (every 0 r.away (ap (λ m. get_elem? m 0) seats), λ k b e. every (suc k) b (ap (λ m. get_elem? m (suc k)) seats ∙ e))

pub joined : (own : List Own) (left all : List Resting) → length left ≡ 0 → own ++ owns_of (seats_of left) ≡ owns_of (seats_of all) → own ≡ owns_of (seats_of all)
joined own [] all none e = sym (append-nil own) ∙ e
joined own (a ∷ left) all none e = absurd (omega arith)

get_left : (l more : List Own) (k : ℕ) (o : Own) → get_elem? l k ≡ some o → get_elem? (l ++ more) k ≡ some o
get_left [] more k o e = absurd (some-ne-none o (sym e))
get_left (x ∷ l) more zero o e = e
get_left (x ∷ l) more (suc k) o e = get_left l more k o e

get_right : (l more : List Own) (k : ℕ) → get_elem? (l ++ more) (length l + k) ≡ get_elem? more k
get_right [] more k = ap (get_elem? more) (zero-add k)
get_right (x ∷ l) more k = ap (get_elem? (x ∷ (l ++ more))) (suc_add (length l) k) ∙ get_right l more k
  where
    suc_add : (n j : ℕ) → suc n + j ≡ suc (n + j)
    suc_add n j = omega arith

-- what holds of the threads of all seats holds of those of each
each_mine : (m : Areas) (history : List Entry) (seats : List Away) → AllMine m history (owns_of seats) → (k : ℕ) (a : Away) → get_elem? seats k ≡ some a → AllMine m history a.seat.me.0.own
each_mine m history [] mine k a at = absurd (some-ne-none a (sym at))
each_mine m history (x ∷ seats) mine zero a at =
    subst (λ (y : Away). AllMine m history y.seat.me.0.own) (some-injective x a at) (λ j o o_at. mine j o (get_left x.seat.me.0.own (owns_of seats) j o o_at))
each_mine m history (x ∷ seats) mine (suc k) a at =
    each_mine m history seats (λ j o o_at. mine (length x.seat.me.0.own + j) o (get_right x.seat.me.0.own (owns_of seats) j ∙ o_at)) k a at

-- what a seat that stands for all threads knows as it takes the words back
pub finishes : (v w : View) (seats : List Away) → w ≡ at_gate v w.words w.history → IsClosing w → v.own ≡ owns_of seats → Finishes w seats
finishes v w seats is known own = record {
  own = ap (λ (x : View). x.own) is ∙ own;
  explains = subst (λ z. Explains w.map (contents w.map z) w.history) (ap (λ (x : View). x.closing) is) known.explains;
  mine = known.mine;
  seats_mine = each_mine w.map w.history seats (subst (AllMine w.map w.history) (ap (λ (x : View). x.own) is ∙ own) known.mine);
}

-- ---- mutators of a new heap

-- whose store buffers are empty
pub opened_empty : (m : Areas) (c : Contents) → IsOpened m c → c.buffers ≡ replicate m.threads []
opened_empty m c opened = ap (λ (x : Contents). x.buffers) opened.1

-- the first of them is of its gate
pub new_first : (gate : Gate) (all left : List Resting) (r : Resting) → all ≡ r ∷ left → AllFresh gate.table.shared.table_id gate.map (seats_of all) → IsOf gate r.away.seat.table_id r.away.seat.me.0
new_first gate all left r is every =
    let first = every 0 r.away (ap (λ (l : List Resting). get_elem? (seats_of l) 0) is) in
    (first.0, ap (λ (v : View). v.map) first.1)

-- one that is back, of a gate with one thread
pub only_one : (gate : Gate) (r : Resting) → IsOf gate r.away.seat.table_id r.away.seat.me.0 → AllOf gate (seats_of (r ∷ []))
only_one gate r is zero a at = subst (λ (x : Away). IsOf gate x.seat.table_id x.seat.me.0) (some-injective r.away a at) is
only_one gate r is (suc k) a at = absurd (some-ne-none a (sym at))

pub none_there : (left all : List Resting) (r : Resting) → all ≡ r ∷ left → length (seats_of all) ≡ 1 → left ≡ []
none_there [] all r is one = refl
none_there (x ∷ left) all r is one = let e = ap (λ (l : List Resting). length (seats_of l)) is in absurd (omega arith)
