-- The stacks of the words and those of the state, while only work words and the scratch area have changed.
use Rattle.std.proofs.Common.{◌≡◌, ℕ, ◌-◌, ◌<◌, List, [], ◌∷◌, zero, suc, ap, ◌∙◌, arith, get_or, length, map}
use Rattle.std.proofs.lemmas.List.{length-map}
use Rattle.std.proofs.lemmas.List.Elements.{All-get_or}
use Rattle.std.specs.List.{All}
use Rattle.yak_model.specs.declared.datum.Datum.TheVariants.{Null}
use Rattle.heap_words.specs.declared.map.Areas.{Areas}
use Rattle.heap_words.specs.Contents.{Contents, stack_of}
use Rattle.yak_model.specs.State.{IsDatum}
use Rattle.yak_model.specs.Placed.{datum_word}
use Rattle.yak_model.proofs.Stacks.{get_or-map_all}
use Rattle.heap_walks.specs.Laid.{Laid, IsAmong}

pub some_row : {X : Type 0} (rows : List (List X)) (i k : ℕ) → k < length (get_or rows i []) → i < length rows
some_row [] i k h = absurd (omega (arith, h))
some_row (r ∷ rows) zero k h = omega arith
some_row (r ∷ rows) (suc i) k h = let q = some_row rows i k h in omega (arith, q)

pub stack_now : (m : Areas) (h : Laid) (c : Contents) (t : ℕ) → IsAmong m h c → stack_of c t ≡ map (datum_word h.places.at) (get_or h.state.stacks (t - 1) [])
stack_now m h c t a =
    ap (λ (x : Contents). get_or x.stacks (t - 1) []) a.frame ∙ ap (λ (ss : List (List ℕ)). get_or ss (t - 1) []) a.stands.stacks ∙ get_or-map_all (map (datum_word h.places.at)) h.state.stacks (t - 1) []

pub stack_size : (m : Areas) (h : Laid) (c : Contents) (t : ℕ) → IsAmong m h c → length (stack_of c t) ≡ length (get_or h.state.stacks (t - 1) [])
stack_size m h c t a = ap (λ (st : List ℕ). length st) (stack_now m h c t a) ∙ simp length-map

pub slot_word : (m : Areas) (h : Laid) (c : Contents) (t s : ℕ) → IsAmong m h c → get_or (stack_of c t) s 0 ≡ datum_word h.places.at (get_or (get_or h.state.stacks (t - 1) []) s Null)
slot_word m h c t s a = ap (λ (st : List ℕ). get_or st s 0) (stack_now m h c t a) ∙ get_or-map_all (datum_word h.places.at) (get_or h.state.stacks (t - 1) []) s Null

-- a slot holds a datum of the state
pub slot_fits : (m : Areas) (h : Laid) (c : Contents) (t s : ℕ) → IsAmong m h c → s < length (get_or h.state.stacks (t - 1) []) → IsDatum h.state.objects (get_or (get_or h.state.stacks (t - 1) []) s Null)
slot_fits m h c t s a lt =
    let row : t - 1 < length h.state.stacks = some_row h.state.stacks (t - 1) s lt in
    All-get_or (IsDatum h.state.objects) (get_or h.state.stacks (t - 1) []) s Null lt (All-get_or (All (IsDatum h.state.objects)) h.state.stacks (t - 1) [] row a.stands.closed.stacks)
