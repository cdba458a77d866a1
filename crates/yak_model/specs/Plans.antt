-- Plans of moves, and what the moves of a lawful plan make of a state.
use Rattle.std.specs.Prelude.{◌≡◌, ◌≢◌, ℕ, ◌+◌, ◌*◌, ◌≤◌, ◌<◌, ◌⊎◌, ◌==◌, Bool, cond, Option, Some, None, length, zero, suc}
use Rattle.object_layout.specs.declared.names.Name.{Name}
use Rattle.object_layout.specs.declared.TheConstants.{OBJECT_WORDS}
use Rattle.heap_words.specs.declared.map.Areas.{Areas}
use Rattle.heap_words.specs.Map.{page_words}
use Rattle.epoch_lattice.specs.declared.Space.{Space}
use Rattle.yak_model.specs.Packed.{IsSpaceOf}
use Rattle.yak_model.specs.State.{Thing, State, IsClosed}

-- A move of an object: the address at which it lies, the one to which it goes, and its new space.
pub record Move : Type 0 where
  pub old : ℕ
  pub new : ℕ
  pub space : Space

-- What the first moves of a plan give to the object at an address, or x where none of them moves it.
unfoldable pub by_move : {A : Type 0} → ℕ → (ℕ → Move) → (Move → A) → ℕ → A → A
by_move zero moves f a x = x
by_move (suc k) moves f a x = cond (a == (moves k).old) (f (moves k)) (by_move k moves f a x)

-- Where the first moves bring the object at an address.
abbrev pub forward : ℕ → (ℕ → Move) → ℕ → ℕ
forward count moves a = by_move count moves (λ v. v.new) a a

-- An object in the space that the first moves give to the object at its address.
abbrev pub rehomed : ℕ → (ℕ → Move) → ℕ → Option Thing → Option Thing
rehomed count moves a None = None
rehomed count moves a (Some o) = Some (record o { home = by_move count moves (λ v. v.space) a o.home })

-- Where names lead after the moves.
abbrev pub forwarded : ℕ → (ℕ → Move) → (Name → ℕ) → Name → ℕ
forwarded count moves at n = forward count moves (at n)

-- The work words after the moves: those of moved objects are 0, and the others are as before.
abbrev pub cleared : ℕ → (ℕ → Move) → (Name → ℕ) → (Name → ℕ) → Name → ℕ
cleared count moves at work n = by_move count moves (λ v. 0) (at n) (work n)

-- The state without the objects that are dropped.
abbrev pub without : State → (Name → Bool) → State
without s dropped = record s { objects = λ n. cond (dropped n) None (s.objects n) }

-- The state whose moved objects are in their new spaces. All else is as before.
abbrev pub after_moves : ℕ → (ℕ → Move) → (Name → ℕ) → State → State
after_moves count moves at s = record s { objects = λ n. rehomed count moves (at n) (s.objects n) }

-- A run of n words from an address on lies within one page.
abbrev pub IsInOnePage : Areas → ℕ → ℕ → Type 0
IsInOnePage m a n = (p : ℕ) × (p < m.pages) × (page_words m * p ≤ a) × (a + n ≤ page_words m * p + page_words m)

-- Two runs of words, of n words from a on and of k words from b on, have no word in common.
abbrev pub AreApart : ℕ → ℕ → ℕ → ℕ → Type 0
AreApart a n b k = (a + n ≤ b) ⊎ (b + k ≤ a)

-- The moves can be made one after another for a state whose objects lie at known addresses, once the dropped ones are gone.
pub record IsLawfulPlan (m : Areas) (count : ℕ) (moves : ℕ → Move) (s : State) (at : Name → ℕ) (dropped : Name → Bool) : Type 0 where
  -- the number of words of each move's object
  pub words : ℕ → ℕ
  -- the moves go by ascending old addresses, so that each object is moved at most once
  pub ascending : (j k : ℕ) → j < k → k < count → (moves j).old < (moves k).old
  -- each old address is that of an object that is kept
  pub present : (k : ℕ) → k < count → (n : Name) × (o : Thing) × ((without s dropped).objects n ≡ Some o) × (at n ≡ (moves k).old) × (words k ≡ length o.fields + OBJECT_WORDS)
  -- each new space is one of the heap
  pub spaces : (k : ℕ) → k < count → IsSpaceOf m (moves k).space
  -- each new place lies in one page
  pub in_page : (k : ℕ) → k < count → IsInOnePage m (moves k).new (words k)
  -- no new place touches another new place
  pub apart : (j k : ℕ) → j < k → k < count → AreApart (moves j).new (words j) (moves k).new (words k)
  -- nor the old place of a later move
  pub later : (j k : ℕ) → j < k → k < count → AreApart (moves j).new (words j) (moves k).old (words k)
  -- nor an object that is kept where it is
  pub beside : (k : ℕ) (n : Name) (o : Thing) → k < count → (without s dropped).objects n ≡ Some o → ((j : ℕ) → j < count → at n ≢ (moves j).old) → AreApart (moves k).new (words k) (at n) (length o.fields + OBJECT_WORDS)
  -- no slot and no field of a kept object refers to a dropped one
  pub closed : IsClosed (without s dropped)
