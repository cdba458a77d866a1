-- The stacks of the words and those of a state.
use Rattle.std.proofs.Common.{◌≡◌, ℕ, ◌-◌, ◌≤◌, ◌<◌, List, [], ◌∷◌, length, get_or, set, map, refl, sym, ap, subst, ◌∙◌, zero, suc}
use Rattle.std.proofs.Math.Logic.{⊎_elim}
use Rattle.std.proofs.Math.Seq.{map-set_same}
use Rattle.std.proofs.lemmas.Bool.{cases_lt}
use Rattle.std.proofs.lemmas.List.{length-map, map-set, get_or_past}
use Rattle.std.proofs.lemmas.List.Elements.{All-get_or, All-nil, All-set}
use Rattle.std.specs.List.{All}
use Rattle.heap_words.specs.declared.map.Areas.{Areas}
use Rattle.heap_words.specs.declared.TheConstants.{STACK_SLOTS}
use Rattle.heap_words.specs.Contents.{Contents, stack_of, with_stack}
use Rattle.yak_model.specs.declared.datum.Datum.{Datum}
use Rattle.yak_model.specs.declared.datum.Datum.TheVariants.{Null}
use Rattle.yak_model.specs.Graph.{Thread, idle, slot_of, thread_of, with_thread}
use Rattle.yak_model.specs.Graph as graph
use Rattle.yak_model.specs.Spaces.{SpaceState}
use Rattle.yak_model.specs.State.{IsDatum, State, object_of, stack, view}
use Rattle.yak_model.specs.Placed.{Places, datum_word}
use Rattle.yak_model.specs.Stands.{Stands, StandsAs}

-- a read goes through a map, where the defaults do too
pub get_or-map_all : {X Y : Type 0} (f : X → Y) → (xs : List X) (i : ℕ) (d : X) → get_or (map f xs) i (f d) ≡ f (get_or xs i d)
get_or-map_all f [] i d = refl
get_or-map_all f (x ∷ xs) zero d = refl
get_or-map_all f (x ∷ xs) (suc i) d = get_or-map_all f xs i d

-- a read of what holds everywhere, past the end too
pub all-at : {X : Type 0} (P : X → Type 0) (xs : List X) (i : ℕ) (d : X) → P d → All P xs → P (get_or xs i d)
all-at P xs i d past h =
    ⊎_elim (λ (lt : i < length xs). All-get_or P xs i d lt h)
    (λ (le : length xs ≤ i). subst P (sym (get_or_past xs i d le)) past)
    (cases_lt i (length xs))

-- the shown state with another stack
abbrev pub stacked : State → ℕ → List Datum → State
stacked s t st = record s { stacks = set s.stacks (t - 1) st }

-- the stack of the words stands for that of the state
pub stack-stands : (m : Areas) (c : Contents) (s : State) (l : Places) (t : ℕ) → StandsAs m c s l → stack_of c t ≡ map (datum_word l.at) (stack s t)
stack-stands m c s l t h = ap (λ (ss : List (List ℕ)). get_or ss (t - 1) []) h.stacks ∙ get_or-map_all (map (datum_word l.at)) s.stacks (t - 1) []

-- another stack changes what is said of stacks alone
pub stands-stacked : (m : Areas) (c : Contents) (s : State) (l : Places) (t : ℕ) (ws : List ℕ) (st : List Datum) → StandsAs m c s l → ws ≡ map (datum_word l.at) st → All (IsDatum s.objects) st → length ws ≤ STACK_SLOTS → StandsAs m (with_stack c t ws) (stacked s t st) l
stands-stacked m c s l t ws st h e fits le = record {
  heap = h.heap;
  open_spaces = h.open_spaces;
  closed = record {
    stacks = All-set (All (IsDatum s.objects)) s.stacks (t - 1) st fits h.closed.stacks;
    fields = h.closed.fields;
  };
  stacks = rw (h.stacks, e, map-set (map (datum_word l.at)) s.stacks (t - 1) st) refl;
  depths = h.depths;
  made = h.made;
  serials = h.serials;
  threads = h.threads;
  names = h.names;
  limits = record {
    depths = h.limits.depths;
    stacks = All-set (λ (xs : List ℕ). length xs ≤ STACK_SLOTS) c.stacks (t - 1) ws le h.limits.stacks;
    buffers = h.limits.buffers;
  };
  zero = h.zero;
  pool = h.pool;
  currents = h.currents;
  sets = h.sets;
  heads_closed = h.heads_closed;
  dense = h.dense;
}

-- the space state with another stack
abbrev pub restacked : SpaceState → ℕ → List Datum → SpaceState
restacked s t st = record s { graph = with_thread s.graph t (let th = thread_of s.graph t in record th { stack = st }) }

pub view-restacked : (s : SpaceState) (t : ℕ) (st : List Datum) → view (restacked s t st) ≡ stacked (view s) t st
view-restacked s t st =
    let x : Thread = (let th = thread_of s.graph t in record th { stack = st }) in
    rw (
      map-set (λ (th : Thread). th.stack) s.graph.threads (t - 1) x,
      map-set_same (λ (th : Thread). th.depth) s.graph.threads (t - 1) x idle refl,
      map-set_same (λ (th : Thread). th.made) s.graph.threads (t - 1) x idle refl,
    )

-- a stack of words put in place of another
pub stands_restacked : (m : Areas) (c : Contents) (s : SpaceState) (h : Stands m c s) (t : ℕ) (ws : List ℕ) (st : List Datum) → ws ≡ map (datum_word h.places.at) st → All (IsDatum (object_of s)) st → length ws ≤ STACK_SLOTS → Stands m (with_stack c t ws) (restacked s t st)
stands_restacked m c s h t ws st e fits le = record {
  whole = record { limits = h.whole.limits; contents = h.whole.contents; homes = h.whole.homes };
  places = h.places;
  stands = subst (λ (w : State). StandsAs m (with_stack c t ws) w h.places) (sym (view-restacked s t st)) (stands-stacked m c (view s) h.places t ws st h.stands e fits le);
}

-- what is shown of a stack is the stack
pub stack-shown : (s : SpaceState) (t : ℕ) → stack (view s) t ≡ graph.stack_of s.graph t
stack-shown s t = get_or-map_all (λ (th : Thread). th.stack) s.graph.threads (t - 1) idle

-- a stack of words, its length and its slots
pub stack_words : (m : Areas) (c : Contents) (s : SpaceState) (h : Stands m c s) (t : ℕ) → stack_of c t ≡ map (datum_word h.places.at) (graph.stack_of s.graph t)
stack_words m c s h t = stack-stands m c (view s) h.places t h.stands ∙ ap (map (datum_word h.places.at)) (stack-shown s t)

pub stack_length : (m : Areas) (c : Contents) (s : SpaceState) (h : Stands m c s) (t : ℕ) → length (stack_of c t) ≡ length (graph.stack_of s.graph t)
stack_length m c s h t = ap (λ (st : List ℕ). length st) (stack_words m c s h t) ∙ length-map (graph.stack_of s.graph t) (datum_word h.places.at)

pub slot-word : (m : Areas) (c : Contents) (s : SpaceState) (h : Stands m c s) (t k : ℕ) → get_or (stack_of c t) k 0 ≡ datum_word h.places.at (slot_of s.graph t k)
slot-word m c s h t k = ap (λ (st : List ℕ). get_or st k 0) (stack_words m c s h t) ∙ get_or-map_all (datum_word h.places.at) (graph.stack_of s.graph t) k Null

-- the slots hold data of the state
pub stack-fits : (m : Areas) (c : Contents) (s : SpaceState) (h : Stands m c s) (t : ℕ) → All (IsDatum (object_of s)) (graph.stack_of s.graph t)
stack-fits m c s h t = subst (All (IsDatum (object_of s))) (stack-shown s t) (all-at (All (IsDatum (object_of s))) (view s).stacks (t - 1) [] (All-nil (IsDatum (object_of s))) h.stands.closed.stacks)

pub slot-fits : (m : Areas) (c : Contents) (s : SpaceState) (h : Stands m c s) (t k : ℕ) → IsDatum (object_of s) (slot_of s.graph t k)
slot-fits m c s h t k = all-at (IsDatum (object_of s)) (graph.stack_of s.graph t) k Null tt (stack-fits m c s h t)

-- the threads of the heap are those of the state
pub is_thread : (m : Areas) (c : Contents) (s : SpaceState) (h : Stands m c s) → length s.graph.threads ≡ m.threads
is_thread m c s h = sym (length-map s.graph.threads (λ (th : Thread). th.depth)) ∙ h.stands.threads
