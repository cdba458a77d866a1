-- The slots of a collection.
use Rattle.std.proofs.Common.{◌≡◌, ℕ, ◌-◌, ◌≤◌, List, [], length, sym, ap, subst, ◌∙◌, arith}
use Rattle.std.specs.Prelude.{replicate}
use Rattle.std.proofs.Props.{props}
use Rattle.std.proofs.Math.Logic.{∥∥₁_elim}
use Rattle.std.proofs.lemmas.List.Elements.{All-replicate}
use Rattle.std.specs.List.{All}
use Rattle.heap_words.specs.declared.map.Areas.{Areas}
use Rattle.heap_words.specs.declared.TheConstants.{BUFFER_ENTRIES}
use Rattle.heap_words.specs.Contents.{Contents}
use Rattle.yak_model.specs.Spaces.{SpaceState}
use Rattle.yak_model.specs.State.{State, view}
use Rattle.yak_model.specs.Placed.{Places}
use Rattle.yak_model.specs.Stands.{SetsStand, Stands, StandsAs}
use Rattle.remember_sets.specs.Filed.{BuffersHold, SetsHold}
use Rattle.region_pages.specs.Freeing.{with_pool_rebuilt}
use Rattle.standing_calls.proofs.Closed.{filed-closed}
use Rattle.standing_calls.proofs.Logs.{stands-with_logs}
use Rattle.mark_compact.specs.Collecting.{Cleared}

-- the words without logs stand as before
pub cleared-as : (m : Areas) (c d : Contents) (s : State) (l : Places) → StandsAs m c s l → BuffersHold m c → Cleared m c d → StandsAs m d s l
cleared-as m c d s l h buffers cleared =
    let few : All (λ (es : List ℕ). length es ≤ BUFFER_ENTRIES) (replicate m.threads []) = All-replicate (λ (es : List ℕ). length es ≤ BUFFER_ENTRIES) m.threads [] (omega arith) in
    subst (λ (x : Contents). StandsAs m x s l) (sym cleared.others) (stands-with_logs m c s l d.firsts d.sets (replicate m.threads []) h cleared.sets (filed-closed m c d s l h buffers cleared.sets cleared.filed) few)

-- the words without logs stand for the same state, whose objects lie as before
abbrev pub cleared-stands : (m : Areas) (c d : Contents) (s : SpaceState) → Stands m c s → BuffersHold m c → Cleared m c d → Stands m d s
cleared-stands m c d s h buffers cleared = record { whole = h.whole; places = h.places; stands = cleared-as m c d (view s) h.places h.stands buffers cleared }

-- the chains after the pool was made anew
pub firsts-rebuilt : (c1 c2 c3 : Contents) → ∥ c2 ≡ record c1 { stacks = c2.stacks; table = c2.table; scratch = c2.scratch; heap = c2.heap } ∥₁ → c3 ≡ record (with_pool_rebuilt c2) { currents = c3.currents } → c3.firsts ≡ c1.firsts
firsts-rebuilt c1 c2 c3 some frame = ap (λ (x : Contents). x.firsts) frame ∙ ∥∥₁_elim some (hlevel props) (λ f. ap (λ (x : Contents). x.firsts) f)

pub lists-rebuilt : (c1 c2 c3 : Contents) → ∥ c2 ≡ record c1 { stacks = c2.stacks; table = c2.table; scratch = c2.scratch; heap = c2.heap } ∥₁ → c3 ≡ record (with_pool_rebuilt c2) { currents = c3.currents } → c3.sets ≡ c1.sets
lists-rebuilt c1 c2 c3 some frame = ap (λ (x : Contents). x.sets) frame ∙ ∥∥₁_elim some (hlevel props) (λ f. ap (λ (x : Contents). x.sets) f)

pub sets-rebuilt : (m : Areas) (c1 c2 c3 : Contents) → SetsHold m c1 → ∥ c2 ≡ record c1 { stacks = c2.stacks; table = c2.table; scratch = c2.scratch; heap = c2.heap } ∥₁ → c3 ≡ record (with_pool_rebuilt c2) { currents = c3.currents } → SetsHold m c3
sets-rebuilt m c1 c2 c3 h some frame =
    subst (λ (fs : List (List ℕ)). SetsStand m fs c3.sets) (sym (firsts-rebuilt c1 c2 c3 some frame)) (subst (SetsStand m c1.firsts) (sym (lists-rebuilt c1 c2 c3 some frame)) h)
