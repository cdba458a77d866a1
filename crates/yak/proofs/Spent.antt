-- Words with the greatest number made at a thread still stand for a state, with its crossing references recorded.
use Rattle.std.proofs.Common.{◌≡◌, ℕ, ◌-◌, ◌≤◌, ◌<◌, List, Option, length, get_or, set, refl, sym, subst, ap, ◌∙◌, arith, inl, inr, length-set}
use Rattle.std.proofs.Math.Logic.{⊎_elim, ∥∥₁_map}
use Rattle.std.proofs.Math.Seq.{map-set_same}
use Rattle.std.proofs.lemmas.List.{length-map, map-set}
use Rattle.std.proofs.lemmas.List.Elements.{All-get_or, All-set}
use Rattle.object_layout.specs.declared.names.Name.{Name}
use Rattle.object_layout.specs.declared.TheConstants.{MAX_SERIAL}
use Rattle.heap_words.specs.declared.map.Areas.{Areas}
use Rattle.heap_words.specs.Map.{HasThread}
use Rattle.heap_words.specs.Contents.{Contents, with_made}
use Rattle.yak_model.specs.Graph.{Thread, idle, thread_of, with_thread}
use Rattle.yak_model.specs.Spaces.{SpaceState}
use Rattle.yak_model.specs.State.{State, Thing, view}
use Rattle.yak_model.specs.Placed.{Places}
use Rattle.yak_model.specs.Stands.{NamesMade, Stands, StandsAs}
use Rattle.yak_model.specs.Recorded.{RecordedAs, SomeRecorded}
use Rattle.standing_calls.proofs.Begins.{no_shallower}

-- the shown state with the greatest number made at a thread, and the state itself
abbrev spent_view : State → ℕ → State
spent_view s t = record s { made = set s.made (t - 1) MAX_SERIAL }

abbrev spent : SpaceState → ℕ → SpaceState
spent s t = record s { graph = with_thread s.graph t (let th = thread_of s.graph t in record th { made = MAX_SERIAL }) }

view-spent : (s : SpaceState) (t : ℕ) → view (spent s t) ≡ spent_view (view s) t
view-spent s t =
    let x : Thread = (let th = thread_of s.graph t in record th { made = MAX_SERIAL }) in
    rw (
      map-set_same (λ (th : Thread). th.stack) s.graph.threads (t - 1) x idle refl,
      map-set_same (λ (th : Thread). th.depth) s.graph.threads (t - 1) x idle refl,
      map-set (λ (th : Thread). th.made) s.graph.threads (t - 1) x,
    ) refl

-- names that were made are among those of more objects
names-more : (objects : Name → Option Thing) (made : List ℕ) (i k : ℕ) → get_or made i 0 ≤ k → i < length made → NamesMade objects made → NamesMade objects (set made i k)
names-more objects made i k le lt h n o e = ⊎_elim
    (λ (root : (n.thread ≡ 0) × (n.serial ≡ 0)). inl root)
    (λ (own : (1 ≤ n.thread) × (n.thread ≤ length made) × (1 ≤ n.serial) × (n.serial ≤ get_or made (n.thread - 1) 0)). inr (own.0, omega (arith, own.1, length-set made i k), own.2, omega (arith, own.3, no_shallower made i k (n.thread - 1) le lt)))
    (h n o e)

stands-spent : (m : Areas) (c : Contents) (s : State) (l : Places) (t : ℕ) → HasThread m t → length s.made ≡ m.threads → StandsAs m c s l → StandsAs m (with_made c t MAX_SERIAL) (spent_view s t) l
stands-spent m c s l t ht long h =
    let lt : t - 1 < length s.made = omega (arith, ht.0, ht.1, long) in
    record {
      heap = h.heap;
      open_spaces = h.open_spaces;
      closed = record { stacks = h.closed.stacks; fields = h.closed.fields };
      stacks = h.stacks;
      depths = h.depths;
      made = ap (λ (is : List ℕ). set is (t - 1) MAX_SERIAL) h.made;
      serials = All-set (λ i. i ≤ MAX_SERIAL) s.made (t - 1) MAX_SERIAL (omega arith) h.serials;
      threads = h.threads;
      names = names-more s.objects s.made (t - 1) MAX_SERIAL (All-get_or (λ i. i ≤ MAX_SERIAL) s.made (t - 1) 0 lt h.serials) lt h.names;
      limits = record { depths = h.limits.depths; stacks = h.limits.stacks; buffers = h.limits.buffers };
      zero = h.zero;
      pool = h.pool;
      currents = h.currents;
      sets = h.sets;
      heads_closed = h.heads_closed;
      dense = h.dense;
    }

recorded-spent : (m : Areas) (c : Contents) (s : State) (at : Name → ℕ) (t : ℕ) → RecordedAs m c s at → RecordedAs m (with_made c t MAX_SERIAL) (spent_view s t) at
recorded-spent m c s at t r = record { crossing = r.crossing; fields = r.fields; read = r.read; closed = r.closed }

-- as many numbers made are shown as there are threads
made-long : (m : Areas) (c : Contents) (s : SpaceState) → Stands m c s → length (view s).made ≡ m.threads
made-long m c s h = length-map s.graph.threads (λ (th : Thread). th.made) ∙ sym (length-map s.graph.threads (λ (th : Thread). th.depth)) ∙ h.stands.threads

pub some-spent : (m : Areas) (c : Contents) (t : ℕ) → HasThread m t → SomeRecorded m c → SomeRecorded m (with_made c t MAX_SERIAL)
some-spent m c t ht some = ∥∥₁_map some (λ q.
    let s : SpaceState = q.0 in
    let h : Stands m c s = q.1 in
    let stands : Stands m (with_made c t MAX_SERIAL) (spent s t) = record {
      whole = record { limits = h.whole.limits; contents = h.whole.contents; homes = h.whole.homes };
      places = h.places;
      stands = subst (λ (w : State). StandsAs m (with_made c t MAX_SERIAL) w h.places) (sym (view-spent s t)) (stands-spent m c (view s) h.places t ht (made-long m c s h) h.stands);
    } in
    (spent s t, stands, subst (λ (w : State). RecordedAs m (with_made c t MAX_SERIAL) w h.places.at) (sym (view-spent s t)) (recorded-spent m c (view s) h.places.at t q.2)))
