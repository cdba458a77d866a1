-- The field slots of moved objects, and what their words tell of the objects.
use Rattle.std.proofs.Common.{◌≡◌, ◌≢◌, ℕ, ◌+◌, ◌<◌, Option, Some, List, [], ◌∷◌, ◌++◌, length, get_or, zero, suc, refl, sym, ap, subst, ◌∙◌, add-one, arith}
use Rattle.std.specs.List.{All, range_with_len}
use Rattle.std.proofs.lemmas.List.FromFn.{get_or-range_with_len, length-range_with_len}
use Rattle.std.proofs.lemmas.List.Elements.{All-get_or}
use Rattle.object_layout.specs.declared.names.Name.{Name}
use Rattle.object_layout.specs.declared.TheConstants.{OBJECT_WORDS}
use Rattle.heap_words.specs.declared.map.Areas.{Areas}
use Rattle.heap_words.specs.Contents.{Contents}
use Rattle.epoch_lattice.specs.declared.Space.{Space}
use Rattle.epoch_lattice.specs.declared.TheConstants.{MAX_DEPTH}
use Rattle.epoch_lattice.specs.declared.Space.TheVariants.{Control}
use Rattle.epoch_lattice.specs.Lattice.{IsValid, space_index}
use Rattle.epoch_lattice.proofs.Numbers.{number-own}
use Rattle.yak_model.specs.declared.datum.Datum.TheVariants.{Null, Object}
use Rattle.yak_model.specs.State.{IsDatum, Thing}
use Rattle.yak_model.specs.Placed.{HeapStands, Places}
use Rattle.yak_model.specs.Plans.{Move}
use Rattle.yak_model.specs.Recorded.{Enters}
use Rattle.relocation.specs.Moves.{fields_at, size_at}
use Rattle.remember_sets.specs.Filed.{IsSlot, page_word}
use Rattle.remember_sets.proofs.Entering.{Enter}
use Rattle.standing_calls.proofs.FieldSlots.{goal-of, page-of, some-of}
use Rattle.forwarding.specs.Crossing.{AreData, AreValid}
use Rattle.forwarding.specs.Entering.{words_brought}
use Rattle.forwarding.specs.Slots.{slots_at, slots_brought}

-- ---- one slot and one object more

pub range-more : (a n : ℕ) → range_with_len a (n + 1) ≡ range_with_len a n ++ (a + n) ∷ []
range-more a n = ap (range_with_len a) (add-one n) ∙ more a n
  where
    more : (a n : ℕ) → range_with_len a (suc n) ≡ range_with_len a n ++ (a + n) ∷ []
    more a zero = (let e : a ≡ a + 0 = omega arith in ap (λ k. k ∷ []) e)
    more a (suc n) = (let e : a + 1 + n ≡ a + suc n = omega arith in ap (λ (l : List ℕ). a ∷ l) (more (a + 1) n ∙ ap (λ k. range_with_len (a + 1) n ++ k ∷ []) e))

slots_brought-suc : (heap : List ℕ) (k : ℕ) (moves : ℕ → Move) → slots_brought heap (suc k) moves ≡ slots_brought heap k moves ++ slots_at heap (moves k).new
unfolding slots_brought
slots_brought-suc heap k moves = refl

pub slots_brought-none : (heap : List ℕ) (moves : ℕ → Move) → slots_brought heap 0 moves ≡ []
unfolding slots_brought
slots_brought-none heap moves = refl

pub slots_brought-more : (heap : List ℕ) (k : ℕ) (moves : ℕ → Move) → slots_brought heap (k + 1) moves ≡ slots_brought heap k moves ++ slots_at heap (moves k).new
slots_brought-more heap k moves = ap (λ n. slots_brought heap n moves) (add-one k) ∙ slots_brought-suc heap k moves

words_brought-suc : (heap : List ℕ) (k : ℕ) (moves : ℕ → Move) → words_brought heap (suc k) moves ≡ words_brought heap k moves + size_at heap (moves k).new
unfolding words_brought
words_brought-suc heap k moves = refl

pub words_brought-more : (heap : List ℕ) (k : ℕ) (moves : ℕ → Move) → words_brought heap (k + 1) moves ≡ words_brought heap k moves + size_at heap (moves k).new
words_brought-more heap k moves = (let e : k + 1 ≡ suc k = omega arith in ap (λ n. words_brought heap n moves) e) ∙ words_brought-suc heap k moves

-- a slot of the object at an address
pub slot-at : (m : Areas) (c : Contents) (a f : ℕ) → All (IsSlot m c) (slots_at c.heap a) → f < fields_at c.heap a → IsSlot m c (a + OBJECT_WORDS + f)
slot-at m c a f h lt =
    let long : f < length (slots_at c.heap a) = omega (arith, length-range_with_len (a + OBJECT_WORDS) (fields_at c.heap a), lt) in
    subst (IsSlot m c) (get_or-range_with_len (a + OBJECT_WORDS) (fields_at c.heap a) f 0 lt) (All-get_or (IsSlot m c) (slots_at c.heap a) f 0 long h)

-- ---- what the words tell of the objects

-- a field that enters a region refers to an object of it, and crosses
pub record Crosses (objects : Name → Option Thing) (o : Thing) (f : ℕ) (region : Space) : Type 0 where
  pub to : Name
  pub goal : Thing
  pub refers : get_or o.fields f Null ≡ Object to
  pub reached : objects to ≡ Some goal
  pub home : goal.home ≡ region
  pub enters : Enters o.home goal.home

pub enters-crossing : (m : Areas) (c : Contents) (objects : Name → Option Thing) (l : Places) (work : Name → ℕ) (n : Name) (o : Thing) (f : ℕ) (region : Space) → HeapStands m c.table c.heap objects l work → AreData objects → AreValid objects → IsValid MAX_DEPTH region → region ≢ Control → objects n ≡ Some o → f < length o.fields → Enter m c region (l.at n + OBJECT_WORDS + f) → Crosses objects o f region
enters-crossing m c objects l work n o f region h closed valid fits other e lt enter =
    let x = goal-of objects l.at (get_or o.fields f Null) enter.goal (All-get_or (IsDatum objects) o.fields f Null lt (closed n o e)) (sym ((h.held n o e).fields f lt) ∙ enter.refers) in
    let p = some-of (objects x.0) x.2 in
    let here : page_word m c (l.at n + (OBJECT_WORDS + f)) ≡ space_index o.home + 1 = page-of m c objects l work n o (OBJECT_WORDS + f) h e (omega (arith, lt)) in
    let there : page_word m c (l.at x.0 + 0) ≡ space_index p.0.home + 1 = page-of m c objects l work x.0 p.0 0 h p.1 (omega arith) in
    let first : l.at x.0 + 0 ≡ l.at x.0 = omega arith in
    let place : l.at n + (OBJECT_WORDS + f) ≡ l.at n + OBJECT_WORDS + f = omega arith in
    let number : space_index p.0.home ≡ space_index region = omega (arith, sym there ∙ ap (page_word m c) (first ∙ sym x.3) ∙ enter.into) in
    let home : p.0.home ≡ region = number-own p.0.home region (valid x.0 p.0 p.1) fits number in
    record {
      to = x.0;
      goal = p.0;
      refers = x.1;
      reached = p.1;
      home = home;
      enters = (λ z. other (sym home ∙ z), λ z. enter.from (ap (page_word m c) (sym place) ∙ here ∙ ap (λ k. space_index k + 1) (sym z ∙ home)));
    }
