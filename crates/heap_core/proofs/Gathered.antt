-- What a collection keeps, and how full the heap is after it.
use Rattle.std.proofs.Common.{◌≡◌, ◌≢◌, ℕ, ◌+◌, ◌-◌, List, [], length, get_or, map, sym, ap, ◌∙◌, arith}
use Rattle.std.proofs.Props.{props}
use Rattle.std.proofs.Math.Logic.{∥∥₁_elim, ∥∥₁_map}
use Rattle.object_layout.specs.declared.TheConstants.{OBJECT_WORDS}
use Rattle.heap_words.specs.declared.map.Areas.{Areas}
use Rattle.heap_words.specs.Contents.{Contents, depth_of, made_of, stack_of}
use Rattle.epoch_lattice.specs.declared.Space.{Space}
use Rattle.epoch_lattice.specs.declared.Space.TheVariants.{Control, Region}
use Rattle.yak_model.specs.Graph.{Graph, Thread, idle}
use Rattle.yak_model.specs.Spaces.{Collects, SpaceState}
use Rattle.yak_model.specs.State.{object_of}
use Rattle.yak_model.specs.Stands.{Stands, free_pages, pages_of}
use Rattle.yak_model.specs.Packed.{IsFull, IsPacked, IsSpaceOf}
use Rattle.yak_model.proofs.Stacks.{stack_length}
use Rattle.region_pages.specs.Counts.{free_in, regions_in}
use Rattle.region_pages.proofs.Counting.{used_is}
use Rattle.object_layout.specs.declared.replies.Census.{Census}
use Rattle.object_layout.specs.declared.replies.Shortage.{Shortage}
use Rattle.yak_model.specs.Recorded.{Recorded}
use Rattle.escape_closure.specs.Ends.{RegionShort}
use Rattle.yak_model.specs.Recorded.{SomeRecorded}
use Rattle.standing_calls.specs.Room.{HasNoRoom}
use Rattle.heap_core.specs.Collecting.{CountsFull, IsCollected}
use Rattle.heap_core.proofs.Bounds.{regions-packed}
use Rattle.standing_calls.proofs.Told.{SomeStands}

-- a collection keeps the threads as they are
pub kept-threads : (s after : SpaceState) → Collects s after → after.graph.threads ≡ s.graph.threads
kept-threads s after h = ap (λ (g : Graph). g.threads) h.rest

pub kept-made : (m : Areas) (c d : Contents) (t u : ℕ) → SomeRecorded m c → IsCollected m c d t → made_of d u ≡ made_of c u
kept-made m c d t u some h = ∥∥₁_elim some (hlevel props) (λ q.
    let x = h.state q.0 q.1 q.2 in
    ap (λ (is : List ℕ). get_or is (u - 1) 0) (x.stands.stands.made ∙ ap (λ (ts : List Thread). map (λ (th : Thread). th.made) ts) (kept-threads q.0 x.after x.collects) ∙ sym q.1.stands.made))

pub kept-depth : (m : Areas) (c d : Contents) (t u : ℕ) → SomeRecorded m c → IsCollected m c d t → depth_of d u ≡ depth_of c u
kept-depth m c d t u some h = ∥∥₁_elim some (hlevel props) (λ q.
    let x = h.state q.0 q.1 q.2 in
    ap (λ (is : List ℕ). get_or is (u - 1) 0) (x.stands.stands.depths ∙ ap (λ (ts : List Thread). map (λ (th : Thread). th.depth) ts) (kept-threads q.0 x.after x.collects) ∙ sym q.1.stands.depths))

pub kept-slots : (m : Areas) (c d : Contents) (t u : ℕ) → SomeRecorded m c → IsCollected m c d t → length (stack_of d u) ≡ length (stack_of c u)
kept-slots m c d t u some h = ∥∥₁_elim some (hlevel props) (λ q.
    let x = h.state q.0 q.1 q.2 in
    stack_length m d x.after x.stands u ∙ ap (λ (ts : List Thread). length (get_or ts (u - 1) idle).stack) (kept-threads q.0 x.after x.collects) ∙ sym (stack_length m c q.0 q.1 u))

-- the words stand for some state afterwards, with the crossing references recorded
pub some-collected : (m : Areas) (c d : Contents) (t : ℕ) → SomeRecorded m c → IsCollected m c d t → SomeRecorded m d
some-collected m c d t some h = ∥∥₁_map some (λ q. let x = h.state q.0 q.1 q.2 in (x.after, x.stands, x.recorded))

pub some-stands : (m : Areas) (c : Contents) → SomeRecorded m c → SomeStands m c
some-stands m c some = ∥∥₁_map some (λ q. (q.0, q.1))

-- a space is packed for each state that the words stand for, if for one
pub packed-other : (m : Areas) (c : Contents) (s s' : SpaceState) (h : Stands m c s) (h' : Stands m c s') (x : Space) → length c.table ≡ m.pages → IsPacked m c s h x → IsPacked m c s' h' x
packed-other m c s s' h h' x rows packed =
    let one = used_is m c.table c.heap (object_of s) h.places (λ _. 0) x rows h.stands.heap in
    let two = used_is m c.table c.heap (object_of s') h'.places (λ _. 0) x rows h'.stands.heap in
    omega (arith, packed, one, two)

pub packed-after : (m : Areas) (c d : Contents) (t : ℕ) → SomeRecorded m c → IsCollected m c d t → length d.table ≡ m.pages → (s : SpaceState) (h : Stands m d s) → IsPacked m d s h Control
packed-after m c d t some collected rows s h = ∥∥₁_elim some (hlevel props) (λ q.
    let x = collected.state q.0 q.1 q.2 in
    packed-other m d x.after s x.stands h Control rows x.packed)

-- a region is not Control
is_region : (t d : ℕ) → Region t d ≢ Control
is_region t d e = cc

-- every space is packed where Control is
packed-each : (m : Areas) (c : Contents) (s : SpaceState) (h : Stands m c s) → IsPacked m c s h Control → (x : Space) → IsSpaceOf m x → IsPacked m c s h x
packed-each m c s h control Control here = control
packed-each m c s h control (Region t d) here = regions-packed m c s h (Region t d) here (is_region t d)

-- the heap is full where an object has no room after a collection
pub full-after : (m : Areas) (c d : Contents) (t k : ℕ) → SomeRecorded m c → IsCollected m c d t → length d.table ≡ m.pages → HasNoRoom m d t (k + OBJECT_WORDS) → (s : SpaceState) (h : Stands m d s) → IsFull m d s h t k
full-after m c d t k some collected rows none s h = record {
  none_free = none.none_free;
  no_room = none.few_left;
  packed = packed-each m d s h (packed-after m c d t some collected rows s h);
}

-- the counts of a page table in which no page is free
pub full_counts : (c : Contents) (pages : Census) → pages.free ≡ length (free_pages c.heads c.pool) → pages.free ≡ free_in c.table → pages.region ≡ regions_in c.table → pages.control ≡ pages_of c.table Control → free_pages c.heads c.pool ≡ [] → CountsFull c pages
full_counts c pages free entered region control none =
    let zero : pages.free ≡ 0 = free ∙ ap (λ (xs : List ℕ). length xs) none in
    record { none_free = zero; free = sym entered ∙ zero; pooled = none; region = region; control = control }

-- an end that found the free pages too few changes no depth, and the words still stand for the state
pub short-depth : (m : Areas) (c d : Contents) (t u : ℕ) (shortage : Shortage) → SomeRecorded m c → ((s : SpaceState) (h : Stands m c s) → Recorded m c s h → RegionShort m c d s h t shortage) → depth_of d u ≡ depth_of c u
short-depth m c d t u shortage some short = ∥∥₁_elim some (hlevel props) (λ q. ap (λ (x : Contents). depth_of x u) (short q.0 q.1 q.2).frame)

pub some-short : (m : Areas) (c d : Contents) (t : ℕ) (shortage : Shortage) → SomeRecorded m c → ((s : SpaceState) (h : Stands m c s) → Recorded m c s h → RegionShort m c d s h t shortage) → SomeRecorded m d
some-short m c d t shortage some short = ∥∥₁_map some (λ q. let x = short q.0 q.1 q.2 in (q.0, x.later, x.recorded))
