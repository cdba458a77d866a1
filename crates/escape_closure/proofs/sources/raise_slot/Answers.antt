use Rattle.std.proofs.Props.{props}
use Rattle.std.proofs.Math.Logic.{∥∥₁_elim, ∥∥₁_map}
use Rattle.std.proofs.Common.{◌≡◌, ◌≢◌, ℕ, List, ap, sym, ◌∙◌, get_or, subst, inl}
use Rattle.epoch_lattice.specs.declared.TheConstants.{MAX_DEPTH}
use Rattle.epoch_lattice.specs.Lattice.{IsValid}
use Rattle.heap_words.specs.Cells.{row}
use Rattle.heap_words.specs.Contents.{contents}
use Rattle.epoch_lattice.specs.Lattice.{space_index}
use Rattle.escape_closure.specs.Words.{settled_word}
use Rattle.escape_closure.specs.Raising.{Raising, RaisesOn, IsOwed, IsPaid}
use Rattle.escape_closure.proofs.Tells.{same_index}
use Rattle.escape_closure.proofs.Owes.{stays}
use Rattle.escape_closure.proofs.Outside.{Slot, slot_at, slot_page, slot_fits, slot_due, slot_paid, slot_inside}
use Rattle.escape_closure.proofs.sources.raise_slot.Goals as goal

pub page_of-requires-clause-within : goal.page_of-requires-clause-within
page_of-requires-clause-within g c =
    ∥∥₁_elim c.requires.some (hlevel props) (λ q.
    let m = c.args.map in
    let ws = g.W.Words.words c.args.words.now in
    let old = contents m ws in
    let a = c.args.slot in
    let s : Slot q.0 a = slot_at m q.0 a q.3 q.4 in
    let page = slot_page m q.0 old c.args.tally q.2 a s in
    let fits = slot_fits m q.0 old c.args.tally q.2 a s in
    fits)

pub get_page-told-requires-clause-page : goal.get_page-told-requires-clause-page
get_page-told-requires-clause-page g c =
    ∥∥₁_elim c.requires.some (hlevel props) (λ q.
    let m = c.args.map in
    let ws = g.W.Words.words c.args.words.now in
    let old = contents m ws in
    let a = c.args.slot in
    let s : Slot q.0 a = slot_at m q.0 a q.3 q.4 in
    let page = slot_page m q.0 old c.args.tally q.2 a s in
    let fits = slot_fits m q.0 old c.args.tally q.2 a s in
    rw c.page_of.ensures page.0)

pub get_heap-word-requires-clause-within : goal.get_heap-word-requires-clause-within
get_heap-word-requires-clause-within g c =
    ∥∥₁_elim c.requires.some (hlevel props) (λ q.
    let m = c.args.map in
    let ws = g.W.Words.words c.args.words.now in
    let old = contents m ws in
    let a = c.args.slot in
    let s : Slot q.0 a = slot_at m q.0 a q.3 q.4 in
    let page = slot_page m q.0 old c.args.tally q.2 a s in
    let fits = slot_fits m q.0 old c.args.tally q.2 a s in
    fits)

pub returns-in_default-clause-raising : goal.returns-in_default-clause-raising
returns-in_default-clause-raising g c e index rz recorded filed =
    let m = c.args.map in
    let ws = g.W.Words.words c.args.words.now in
    let old = contents m ws in
    let a = c.args.slot in
    let s : Slot e a = slot_at m e a recorded filed in
    let page = slot_page m e old c.args.tally rz a s in
    let fits = slot_fits m e old c.args.tally rz a s in
    let told : c.get_page-told.result ≡ settled_word s.object.home = c.get_page-told.ensures.value ∙ ap (λ p. get_or (row old.table p) 0 0) c.page_of.ensures ∙ page.1 in
    let valid : IsValid MAX_DEPTH s.object.home = rz.homes.valid s.from s.object s.present in
    absurd (let none = c.in_default.ensures.some s.object.home valid (inl told) in cc)

pub returns-then-index_of-region-clause-raising : goal.returns-then-index_of-region-clause-raising
returns-then-index_of-region-clause-raising g c e index rz recorded filed =
    let m = c.args.map in
    let ws = g.W.Words.words c.args.words.now in
    let old = contents m ws in
    let a = c.args.slot in
    let s : Slot e a = slot_at m e a recorded filed in
    let page = slot_page m e old c.args.tally rz a s in
    let fits = slot_fits m e old c.args.tally rz a s in
    let told : c.get_page-told.result ≡ settled_word s.object.home = c.get_page-told.ensures.value ∙ ap (λ p. get_or (row old.table p) 0 0) c.page_of.ensures ∙ page.1 in
    let valid : IsValid MAX_DEPTH s.object.home = rz.homes.valid s.from s.object s.present in
    let home : c.in-Some.space ≡ s.object.home = let some = c.in-Some.ensures.some s.object.home valid (inl told) in cc in
    let inside : s.object.home ≡ e.region = same_index s.object.home e.region valid rz.homes.region (ap space_index (sym home) ∙ sym c.index_of.ensures.index ∙ c.if-index_of-region.true ∙ sym index) in
    rw c.get_page-told.ensures.words (stays m e old _ rz, slot_inside m e old c.args.tally rz a s old inside)

pub raise-requires-clause-some : goal.raise-requires-clause-some
raise-requires-clause-some g c =
    ∥∥₁_map c.requires.some (λ q.
    let m = c.args.map in
    let ws = g.W.Words.words c.args.words.now in
    let old = contents m ws in
    let a = c.args.slot in
    let s : Slot q.0 a = slot_at m q.0 a q.3 q.4 in
    let page = slot_page m q.0 old c.args.tally q.2 a s in
    let fits = slot_fits m q.0 old c.args.tally q.2 a s in
    let told : c.get_page-told.result ≡ settled_word s.object.home = c.get_page-told.ensures.value ∙ ap (λ p. get_or (row old.table p) 0 0) c.page_of.ensures ∙ page.1 in
    let valid : IsValid MAX_DEPTH s.object.home = q.2.homes.valid s.from s.object s.present in
    let home : c.in-Some.space ≡ s.object.home = let some = c.in-Some.ensures.some s.object.home valid (inl told) in cc in
    let outside : s.object.home ≢ q.0.region = λ r. c.if-index_of-region.false (c.index_of.ensures.index ∙ ap space_index home ∙ ap space_index r ∙ q.1) in
    let same : contents m (g.W.Words.words c.get_heap-word.new.words) ≡ old = ap (contents m) (c.get_heap-word.ensures.words ∙ c.get_page-told.ensures.words) in
    let word : c.get_heap-word.result ≡ get_or old.heap a 0 = c.get_heap-word.ensures.value ∙ ap (λ (x : List ℕ). get_or (contents m x).heap a 0) (c.get_page-told.ensures.words) in
    let owed : IsOwed q.0 c.get_heap-word.result c.in-Some.space = subst (IsOwed q.0 c.get_heap-word.result) (sym home) (slot_due m q.0 old c.args.tally q.2 a s c.get_heap-word.result outside word) in
    (q.0, q.1, subst (λ x. Raising m q.0 x c.args.tally) (sym same) q.2, owed))

pub returns-clause-raising : goal.returns-clause-raising
returns-clause-raising g c e index rz recorded filed =
    let m = c.args.map in
    let ws = g.W.Words.words c.args.words.now in
    let old = contents m ws in
    let a = c.args.slot in
    let s : Slot e a = slot_at m e a recorded filed in
    let page = slot_page m e old c.args.tally rz a s in
    let fits = slot_fits m e old c.args.tally rz a s in
    let told : c.get_page-told.result ≡ settled_word s.object.home = c.get_page-told.ensures.value ∙ ap (λ p. get_or (row old.table p) 0 0) c.page_of.ensures ∙ page.1 in
    let valid : IsValid MAX_DEPTH s.object.home = rz.homes.valid s.from s.object s.present in
    let home : c.in-Some.space ≡ s.object.home = let some = c.in-Some.ensures.some s.object.home valid (inl told) in cc in
    let outside : s.object.home ≢ e.region = λ r. c.if-index_of-region.false (c.index_of.ensures.index ∙ ap space_index home ∙ ap space_index r ∙ index) in
    let same : contents m (g.W.Words.words c.get_heap-word.new.words) ≡ old = ap (contents m) (c.get_heap-word.ensures.words ∙ c.get_page-told.ensures.words) in
    let word : c.get_heap-word.result ≡ get_or old.heap a 0 = c.get_heap-word.ensures.value ∙ ap (λ (x : List ℕ). get_or (contents m x).heap a 0) (c.get_page-told.ensures.words) in
    let owed : IsOwed e c.get_heap-word.result c.in-Some.space = subst (IsOwed e c.get_heap-word.result) (sym home) (slot_due m e old c.args.tally rz a s c.get_heap-word.result outside word) in
    let new = contents m (g.W.Words.words c.raise.new.words) in
    let next : RaisesOn m e old new c.raise.result × IsPaid e new c.get_heap-word.result c.in-Some.space =
    subst (λ x. Raising m e x c.args.tally → IsOwed e c.get_heap-word.result c.in-Some.space → RaisesOn m e x new c.raise.result × IsPaid e new c.get_heap-word.result c.in-Some.space) same (c.raise.ensures.raising e index) rz owed in
    (next.0, slot_paid m e old c.args.tally rz a s new c.get_heap-word.result word (subst (IsPaid e new c.get_heap-word.result) home next.1))
