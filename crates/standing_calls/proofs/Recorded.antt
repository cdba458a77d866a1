-- Crossing references stay recorded, over what is shown of states.
use Rattle.std.proofs.Common.{◌≡◌, ◌≢◌, ℕ, ◌-◌, ◌≤◌, ◌<◌, Some, List, [], length, get_or, map, refl, sym, ap, subst, ◌∙◌, arith, get_or-set_same, get_or-set_other}
use Rattle.std.specs.List.{All}
use Rattle.std.proofs.lemmas.Bool.{cases_eq}
use Rattle.std.proofs.lemmas.List.{get_or_default, length-map}
use Rattle.std.proofs.Math.Logic.{⊎_elim}
use Rattle.object_layout.specs.declared.names.Name.{Name}
use Rattle.heap_words.specs.declared.map.Areas.{Areas}
use Rattle.heap_words.specs.declared.TheConstants.{STACK_SLOTS}
use Rattle.heap_words.specs.Map.{HasThread}
use Rattle.heap_words.specs.Contents.{Contents, with_stack}
use Rattle.epoch_lattice.specs.declared.Space.TheVariants.{Region}
use Rattle.yak_model.specs.declared.datum.Datum.{Datum}
use Rattle.yak_model.specs.declared.datum.Datum.TheVariants.{Null, Object}
use Rattle.yak_model.specs.Graph.{Thread}
use Rattle.yak_model.specs.Graph as graph
use Rattle.yak_model.specs.Spaces.{SpaceState}
use Rattle.yak_model.specs.State.{IsDatum, State, Thing, object_of, stack, view}
use Rattle.yak_model.specs.Placed.{datum_word}
use Rattle.yak_model.specs.Stands.{Stands, StandsAs}
use Rattle.yak_model.specs.Recorded.{IsReader, Recorded, RecordedAs}
use Rattle.yak_model.proofs.Stacks.{is_thread, restacked, stack-shown, stacked, stands-stacked, view-restacked}
use Rattle.standing_calls.specs.Records.{SameRecords}
use Rattle.standing_calls.specs.Turned.{KeepsPlaces}

-- nothing is recorded anew
pub same_records : (c : Contents) → SameRecords c c
same_records c = record { filed = record { firsts = refl; sets = refl }; buffers = refl; readers = refl }

-- no object goes or moves where none changes
pub keeps_all : (s : State) (at : Name → ℕ) → KeepsPlaces s at s at
keeps_all s at = record { kept = λ n o e. (o, e, refl, refl, refl) }

-- words that stand for a state afterwards, in which crossing references are recorded if they were, and no object has moved
abbrev pub Later : (m : Areas) (c d : Contents) (s : SpaceState) → Stands m c s → SpaceState → Type 0
Later m c d s h after = (later : Stands m d after) × (Recorded m c s h → Recorded m d after later) × KeepsPlaces (view s) h.places.at (view after) later.places.at

-- a thread is a reader wherever a value enters a region of another thread
abbrev pub IsRead : Contents → State → ℕ → Datum → Type 0
IsRead c s t v = (u d : ℕ) (x : Name) (p : Thing) → v ≡ Object x → s.objects x ≡ Some p → p.home ≡ Region u d → u ≢ t → IsReader c.readers t u d

-- the stack of a thread is read so
pub stack-read : (m : Areas) (c : Contents) (s : State) (at : Name → ℕ) (t : ℕ) → HasThread m t → RecordedAs m c s at → All (IsRead c s t) (stack s t)
stack-read m c s at t ht r = λ k d lt u e x p eq ex home ne. r.read t u e k x p ht.0 ht.1 lt (get_or_default (stack s t) k Null d lt ∙ eq) ex home ne

-- another stack, whose values are read
pub recorded-stacked : (m : Areas) (c : Contents) (s : State) (at : Name → ℕ) (t : ℕ) (ws : List ℕ) (st : List Datum) → 1 ≤ t → t - 1 < length s.stacks → RecordedAs m c s at → All (IsRead c s t) st → RecordedAs m (with_stack c t ws) (stacked s t st) at
recorded-stacked m c s at t ws st pos lt r reads = record {
  crossing = r.crossing;
  fields = r.fields;
  read = λ v u d k x p hv hm hk e ex home ne. ⊎_elim
      (λ (q : v ≡ t).
      let own : stack (stacked s t st) v ≡ st = ap (λ i. get_or (stacked s t st).stacks (i - 1) []) q ∙ get_or-set_same s.stacks (t - 1) st [] lt in
      let here : k < length st = subst (λ (vs : List Datum). k < length vs) own hk in
      let value : get_or st k Null ≡ Object x = ap (λ (vs : List Datum). get_or vs k Null) (sym own) ∙ e in
      subst (λ i. IsReader c.readers i u d) (sym q) (reads k Null here u d x p value ex home (λ z. ne (z ∙ sym q))))
      (λ (nq : v ≢ t).
      let apart : v - 1 ≢ t - 1 = λ z. nq (omega (arith, z, hv, pos)) in
      let other : stack (stacked s t st) v ≡ stack s v = get_or-set_other s.stacks (t - 1) (v - 1) st [] apart in
      r.read v u d k x p hv hm (subst (λ (vs : List Datum). k < length vs) other hk) (ap (λ (vs : List Datum). get_or vs k Null) (sym other) ∙ e) ex home ne)
      (cases_eq v t);
  closed = r.closed;
}

-- the stacks that are shown are those of the threads
pub stacks_shown : (m : Areas) (c : Contents) (s : SpaceState) (h : Stands m c s) → length (view s).stacks ≡ m.threads
stacks_shown m c s h = length-map s.graph.threads (λ (th : Thread). th.stack) ∙ is_thread m c s h

-- a stack of words put in place of another
pub restacks : (m : Areas) (c : Contents) (s : SpaceState) (h : Stands m c s) (t : ℕ) (ws : List ℕ) (st : List Datum) → HasThread m t → ws ≡ map (datum_word h.places.at) st → All (IsDatum (object_of s)) st → length ws ≤ STACK_SLOTS → (Recorded m c s h → All (IsRead c (view s) t) st) → Later m c (with_stack c t ws) s h (restacked s t st)
restacks m c s h t ws st ht e fits le reads = (
  record {
    whole = record { limits = h.whole.limits; contents = h.whole.contents; homes = h.whole.homes };
    places = h.places;
    stands = subst (λ (w : State). StandsAs m (with_stack c t ws) w h.places) (sym (view-restacked s t st)) (stands-stacked m c (view s) h.places t ws st h.stands e fits le);
  },
  λ r. subst (λ (w : State). RecordedAs m (with_stack c t ws) w h.places.at) (sym (view-restacked s t st)) (recorded-stacked m c (view s) h.places.at t ws st ht.0 (omega (arith, ht.0, ht.1, stacks_shown m c s h)) r (reads r)),
  record { kept = λ n o e. (o, e, refl, refl, refl) },
)

-- the stack of a thread in the graph
pub slots-read : (m : Areas) (c : Contents) (s : SpaceState) (h : Stands m c s) (t : ℕ) → HasThread m t → Recorded m c s h → All (IsRead c (view s) t) (graph.stack_of s.graph t)
slots-read m c s h t ht r = subst (All (IsRead c (view s) t)) (stack-shown s t) (stack-read m c (view s) h.places.at t ht r)
