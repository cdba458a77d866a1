-- The chains of recorded slots, the store buffers and the readers of regions.
use Rattle.std.specs.Prelude.{◌≡◌, ◌≢◌, ℕ, ◌+◌, ◌-◌, ◌*◌, ◌/◌, ◌%◌, ◌≤◌, ◌<◌, ◌==◌, ◌&&◌, Bool, not, nat_lt, cond, List, [], ◌∷◌, map, replicate, slice_index}
use Rattle.std.specs.List.{All, Contains, filter, flat_map}
use Rattle.heap_words.specs.declared.map.Areas.{Areas}
use Rattle.heap_words.specs.Map.{page_words, max_depth, heap_length}
use Rattle.heap_words.specs.Contents.{Contents, readers_of, with_readers}
use Rattle.epoch_lattice.specs.declared.Space.{Space}
use Rattle.epoch_lattice.specs.declared.Space.TheVariants.{Control, Region}
use Rattle.epoch_lattice.specs.Lattice.{space_index}
use Rattle.yak_model.specs.Chains.{IsRegionOf, chain_of}
use Rattle.yak_model.specs.Placed.{space_word}
use Rattle.yak_model.specs.Stands.{SetsStand}

-- The recorded slots of a region, in the order of its chain.
abbrev pub chain : Areas → Contents → Space → List ℕ
chain m c x = chain_of m c.firsts c.sets x

-- A slot stands in some region's chain.
abbrev pub IsFiled : Areas → Contents → ℕ → Type 0
IsFiled m c a = (x : Space) × IsRegionOf m x × Contains (chain m c x) a

-- The recorded slots are in chains, and the words beside them agree.
abbrev pub SetsHold : Areas → Contents → Type 0
SetsHold m c = SetsStand m c.firsts c.sets

-- The chain of each region is what this makes of its chain before.
abbrev pub ChainsBecome : Areas → Contents → Contents → (Space → List ℕ → List ℕ) → Type 0
ChainsBecome m c d change = (x : Space) → IsRegionOf m x → chain m d x ≡ change x (chain m c x)

-- The contents with the chains of others.
abbrev pub with_sets : Contents → Contents → Contents
with_sets c d = record c { firsts = d.firsts; sets = d.sets }

-- Slots without one of them, and with another slot at its place.
abbrev pub without_slot : ℕ → List ℕ → List ℕ
without_slot a slots = filter (λ b. not (b == a)) slots

abbrev pub moved_slot : ℕ → ℕ → List ℕ → List ℕ
moved_slot old new slots = map (λ b. cond (b == old) new b) slots

-- The word in the page table of the page in which a word of the heap lies.
abbrev pub page_word : Areas → Contents → ℕ → ℕ
page_word m c a = space_word c.table (a / page_words m)

-- Whether a slot has a reference that leads into a space from a page of another one.
abbrev pub enters : Areas → Contents → Space → ℕ → Bool
enters m c x a =
    let word = slice_index c.heap a in
    nat_lt 0 word && ((word % 2 == 0) && ((page_word m c (word / 2 - 1) == space_index x + 1) && not (page_word m c a == space_index x + 1)))

-- A region's chain after a slot was filed: the slot is taken out, and put to the front where its reference enters the region.
abbrev pub filed : Areas → Contents → Space → ℕ → List ℕ → List ℕ
filed m c x a slots = cond (enters m c x a) (a ∷ without_slot a slots) (without_slot a slots)

-- The same after each slot of a list was filed, from the first one on.
abbrev pub all_filed : Areas → Contents → Space → List ℕ → List ℕ → List ℕ
all_filed m c x [] slots = slots
all_filed m c x (a ∷ more) slots = all_filed m c x more (filed m c x a slots)

-- A word of the heap in which a reference, if there is one, leads into the heap.
abbrev pub IsSlot : Areas → Contents → ℕ → Type 0
IsSlot m c a = (a < heap_length m) × ((b : ℕ) → slice_index c.heap a ≡ 2 * (b + 1) → b < heap_length m)

-- Each page is free, or of Control or of a region of the heap's threads: the word of each is at most that of the last region.
abbrev pub PagesKnown : Areas → Contents → Type 0
PagesKnown m c = (p : ℕ) → p < m.pages → space_word c.table p ≤ max_depth m * m.threads + 1

-- Each entry of a store buffer is such a word.
abbrev pub BuffersHold : Areas → Contents → Type 0
BuffersHold m c = All (All (IsSlot m c)) c.buffers

-- The entries of all store buffers.
abbrev pub logged : Contents → List ℕ
logged c = flat_map (λ (es : List ℕ). es) c.buffers

-- The contents with empty store buffers.
abbrev pub with_no_logs : Areas → Contents → Contents
with_no_logs m c = record c { buffers = replicate m.threads [] }

-- No page from one on has this word of the space.
abbrev pub NoneFrom : Areas → List (List ℕ) → ℕ → ℕ → Type 0
NoneFrom m table word end = (p : ℕ) → end ≤ p → p < m.pages → space_word table p ≢ word

-- The slots outside the pages of a space.
abbrev pub outside : Areas → Contents → Space → List ℕ → List ℕ
outside m c x slots = filter (λ a. not (page_word m c a == space_index x + 1)) slots

-- The readers word of a region, and the contents with another.
abbrev pub readers_word : Contents → Space → ℕ
readers_word c Control = 0
readers_word c (Region u d) = readers_of c u d

abbrev pub with_readers_word : Contents → Space → ℕ → Contents
with_readers_word c Control v = c
with_readers_word c (Region u d) v = with_readers c u d v
