-- The places on which a thread steps lie behind the gate's word and among the words of the heap.
use Rattle.std.proofs.Common.{◌≡◌, ℕ, ◌≤◌, ◌<◌, inl, inr, refl, subst, arith, Option, List, [], ◌∷◌}
use Rattle.object_layout.specs.declared.calls.Event.{Event}
use Rattle.heap_words.specs.declared.map.Areas.{Areas}
use Rattle.heap_words.specs.Map.{HasThread, IsAreas, readers_at, total_of, HasRegion}
use Rattle.calls_in_flight.specs.Actors.{Actor, MayLoad, MayMeet, in_block, in_claimed, in_entry, in_page}
use Rattle.calls_in_flight.specs.FieldSteps.{MayLoadPool, counter, entry, size}
use Rattle.safepoint_gate.specs.declared.rule.Own.{Own}
use Rattle.calls_in_flight.specs.declared.notes.Known.{Known}
use Rattle.safepoint_gate.specs.Singles.{actor_in}
use Rattle.safepoint_gate.specs.Steps.{first_thread}
use Rattle.calls_in_flight.specs.OwnStores.{MayStore, above_stack, begins, behind_buffer, counts, enters, in_object, logs, makes, marks, pops, pushes, settles, turns}

-- the number of the thread that acts
pub actor_thread : (own : List Own) (lasting : List Known) → first_thread own ≡ (actor_in own lasting).thread
actor_thread [] lasting = refl
actor_thread (o ∷ own) lasting = refl

pub has_actor : (m : Areas) (own : List Own) (lasting : List Known) → HasThread m (first_thread own) → HasThread m (actor_in own lasting).thread
has_actor m own lasting ht = subst (HasThread m) (actor_thread own lasting) ht

abbrev pub IsWithin : Areas → ℕ → Type 0
IsWithin m place = (1 ≤ place) × (place < total_of m)

pub load_within : (m : Areas) (a : Actor) (place : ℕ) → HasThread m a.thread → MayLoad m a place → IsWithin m place
load_within m a place ht (in_block from to) = (omega arith, omega arith)
load_within m a place ht (in_entry p j holds lj e) = let lp = holds.0 in (omega arith, omega arith)
load_within m a place ht (in_page p i used holds shows from li e) = let lp = holds.0 in (omega arith, omega arith)
load_within m a place ht (in_claimed p i lp holds li e) = (omega arith, omega arith)

pub meet_within : (m : Areas) (a : Actor) (place : ℕ) → HasThread m a.thread → MayMeet m a place → IsWithin m place
meet_within m a place ht (inl own) = load_within m a place ht own
meet_within m a place ht (inr object) = let w = object.2.within in let e = object.3 in (omega arith, omega arith)

pub pool_within : (m : Areas) (place : ℕ) → IsAreas m → MayLoadPool m place → IsWithin m place
pool_within m place areas (counter e) = (omega arith, omega arith)
pool_within m place areas (size e) = (omega arith, omega arith)
pool_within m place areas (entry k lk e) = (omega arith, omega arith)

pub store_within : (m : Areas) (a : Actor) (place word : ℕ) (event : Option Event) → HasThread m a.thread → MayStore m a place word event → IsWithin m place
store_within m a _ _ _ ht (above_stack k word from room bare) = (omega arith, omega arith)
store_within m a _ _ _ ht (behind_buffer n word shows room bare) = (omega arith, omega arith)
store_within m a _ _ _ ht (in_object p i word li bare) = let f = p.fits in let t = p.there in (omega arith, omega arith)
store_within m a _ _ _ ht (marks p bare) = let t = p.there in (omega arith, omega arith)
store_within m a _ _ _ ht (counts p bare) = (omega arith, omega arith)
store_within m a _ _ _ ht (enters p claimed bare) = let t = p.there in (omega arith, omega arith)
store_within m a _ _ _ ht (turns p claimed bare) = let d = p.deep in (omega arith, omega arith)
store_within m a _ _ _ ht (settles c rest covers from to) = (from, to)
store_within m a _ _ _ ht (logs n c asked at field word shows room only place stands stores crossing) = (omega arith, omega arith)
store_within m a _ _ _ ht (pushes asked c push room only place) = (omega arith, omega arith)
store_within m a _ _ _ ht (pops n count rests) = (omega arith, omega arith)
store_within m a _ _ _ ht (makes p made) = (omega arith, omega arith)
store_within m a _ _ _ ht (begins deep rests) = (omega arith, omega arith)

pub readers_within : (m : Areas) (owner depth : ℕ) → HasRegion m owner depth → readers_at m owner depth < total_of m
readers_within m owner depth (from, to, one, deep) = omega arith
