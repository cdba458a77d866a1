-- How the objects of a state lie in the heap's pages.
use Rattle.std.specs.Prelude.{◌≡◌, ℕ, ◌+◌, ◌*◌, ◌≤◌, ◌<◌, Bool, cond, List, [], take, sum_by, length, slice_index, slice_index_or, slice_set, Option, Some, None, nat_eq, ◌&&◌}
use Rattle.object_layout.specs.declared.names.Name.{Name}
use Rattle.object_layout.specs.declared.TheConstants.{MAX_FIELDS, MAX_SPACE, OBJECT_WORDS}
use Rattle.object_layout.specs.Layout.{name_word, header_word}
use Rattle.heap_words.specs.declared.map.Areas.{Areas}
use Rattle.heap_words.specs.Map.{page_words, heap_length}
use Rattle.heap_words.specs.Cells.{row}
use Rattle.yak_model.specs.declared.datum.Datum.{Datum}
use Rattle.yak_model.specs.declared.datum.Datum.TheVariants.{Null, Int, Object}
use Rattle.epoch_lattice.specs.Lattice.{space_index}
use Rattle.yak_model.specs.State.{Thing}

-- The word of a datum, where `at` gives the address of each name.
abbrev pub datum_word : (Name → ℕ) → Datum → ℕ
datum_word at Null = 0
datum_word at (Int i) = 2 * i + 1
datum_word at (Object n) = 2 * (at n + 1)

-- A page's entry in the page table: the space's index plus 1, or 0 where the page is free; then the used mark.
abbrev pub space_word : List (List ℕ) → ℕ → ℕ
space_word table p = slice_index (row table p) 0

abbrev pub used_mark : List (List ℕ) → ℕ → ℕ
used_mark table p = slice_index (row table p) 1

-- How the objects lie in the heap: the names of each page, in order of address, and the address of each name.
pub record Places : Type 0 where
  pub pages : List (List Name)
  pub at : Name → ℕ

-- The names of a page, in order of address.
abbrev pub names_of : Places → ℕ → List Name
names_of l p = slice_index_or l.pages p []

-- The words of an object that is present, and 0 for a name without one.
abbrev pub words_by : Option Thing → ℕ
words_by None = 0
words_by (Some o) = length o.fields + OBJECT_WORDS

abbrev pub size_by : (Name → Option Thing) → Name → ℕ
size_by objects n = words_by (objects n)

-- A name stands at a place of a page.
pub record IsAt (l : Places) (n : Name) (p k : ℕ) : Type 0 where
  pub page : p < length l.pages
  pub place : k < length (names_of l p)
  pub name : slice_index_or (names_of l p) k n ≡ n

-- The objects of each page lie one after another from its start, and each name lies once. A page has w words.
pub record Tiles (w : ℕ) (size : Name → ℕ) (l : Places) : Type 0 where
  pub fits : (p : ℕ) → p < length l.pages → sum_by size (names_of l p) ≤ w
  pub places : (n : Name) (p k : ℕ) → IsAt l n p k → l.at n ≡ w * p + sum_by size (take k (names_of l p))
  pub once : (n : Name) (p k q j : ℕ) → IsAt l n p k → IsAt l n q j → (p ≡ q) × (k ≡ j)

-- Every object that is present lies in some page.
abbrev pub Present : (Name → Option Thing) → Places → Type 0
Present objects l = (n : Name) (o : Thing) → objects n ≡ Some o → (p : ℕ) × (k : ℕ) × IsAt l n p k

-- An object stands at a heap word: its header, name, work word and fields, whose references lead where `leads` says.
pub record StandsAt (heap : List ℕ) (a : ℕ) (leads : Name → ℕ) (work : ℕ) (n : Name) (o : Thing) : Type 0 where
  pub header : slice_index heap a ≡ header_word (record { fields = length o.fields; space = space_index o.home })
  pub name : slice_index heap (a + 1) ≡ name_word n
  pub work_word : slice_index heap (a + 2) ≡ work
  pub fields : (f : ℕ) → f < length o.fields → slice_index heap (a + OBJECT_WORDS + f) ≡ datum_word leads (slice_index_or o.fields f Null)

-- An object stands where references lead; `work` gives the work word of each name.
abbrev pub ObjectAt : List ℕ → (Name → ℕ) → (Name → ℕ) → Name → Thing → Type 0
ObjectAt heap at work n o = StandsAt heap (at n) at (work n) n o

-- All objects that are present stand where references lead.
abbrev pub Held : List ℕ → (Name → ℕ) → (Name → ℕ) → (Name → Option Thing) → Type 0
Held heap at work objects = (n : Name) (o : Thing) → objects n ≡ Some o → ObjectAt heap at work n o

-- The objects stand where `lies` says, within the limits, while their references lead where `leads` says.
pub record Holds (m : Areas) (heap : List ℕ) (lies leads work : Name → ℕ) (objects : Name → Option Thing) : Type 0 where
  pub within : (n : Name) (o : Thing) → objects n ≡ Some o → lies n + (length o.fields + OBJECT_WORDS) ≤ heap_length m
  pub limits : (n : Name) (o : Thing) → objects n ≡ Some o → (length o.fields ≤ MAX_FIELDS) × (space_index o.home ≤ MAX_SPACE)
  pub stands : (n : Name) (o : Thing) → objects n ≡ Some o → StandsAt heap (lies n) leads (work n) n o

-- Two names are the same.
abbrev pub same_name : Name → Name → Bool
same_name a b = nat_eq a.thread b.thread && nat_eq a.serial b.serial

-- The objects with another one at a name.
abbrev pub with_object : (Name → Option Thing) → Name → Thing → Name → Option Thing
with_object objects n o x = cond (same_name x n) (Some o) (objects x)

-- The object with another value in a field.
abbrev pub with_field : Thing → ℕ → Datum → Thing
with_field o f v = record o { fields = slice_set o.fields f v }

-- The pages hold exactly the objects that are present, each once, in pages of their space, and each page's used mark is
-- where its last object ends.
pub record HeapStands (m : Areas) (table : List (List ℕ)) (heap : List ℕ) (objects : Name → Option Thing) (l : Places) (work : Name → ℕ) : Type 0 where
  pub count : length l.pages ≡ m.pages
  pub tiles : Tiles (page_words m) (size_by objects) l
  pub present : Present objects l
  pub whole : (n : Name) (p k : ℕ) → IsAt l n p k → (o : Thing) × (objects n ≡ Some o) × (space_word table p ≡ space_index o.home + 1)
  pub marks : (p : ℕ) → p < m.pages → used_mark table p ≡ sum_by (size_by objects) (names_of l p)
  pub held : Held heap l.at work objects
