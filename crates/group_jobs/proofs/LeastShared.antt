-- The words that a count by several workers takes at least: all words of the text stand in tables.
use Rattle.std.proofs.Common.{◌≡◌, ◌≢◌, inl, inr, ℕ, ◌<◌, ◌≤◌, ◌||◌, Bool, true, false, cond, List, [], ◌∷◌, Option, None, Some, sum_by, refl, sym, ap, ◌∙◌, subst, arith}
use Rattle.std.proofs.lemmas.Bool.{cases_lt}
use Rattle.std.proofs.lemmas.List.FromFn.{get_or-range_with_len, length-range_with_len}
use Rattle.std.proofs.lemmas.List.Sums.{sum_by-cons}
use Rattle.std.specs.FinMap as finite
use Rattle.std.specs.FinMap.{entries_sorted, get, get-entries, insert}
use Rattle.std.specs.List.{Contains, range_with_len}
use Rattle.object_layout.specs.declared.names.Name.{Name}
use Rattle.yak_model.specs.Graph.{Content, Fields, size_of}
use Rattle.yak_model.specs.Names.{root_name}
use Rattle.yak_model.specs.Private.{KnownObjects}
use Rattle.yak_model.specs.Room.{least_room, root_words}
use Rattle.yak_model.specs.Tables.{IsCountTable}
use Rattle.yak_model.specs.Texts.{WordCounts, different, places_of, word_counts}
use Rattle.yak_model.proofs.Lists.{contains_cons}
use Rattle.yak_model.proofs.Names.{get-other, get-same, same_or_other}
use Rattle.heap_core.proofs.RoomsNames.{found-key, key-found, keys-distinct, keys_of}
use Rattle.heap_core.proofs.RoomsSums.{contains_first, sum-inside, sum-same}
use Rattle.heap_core.proofs.Weights.{weight, words_in_all}
use Rattle.group_jobs.specs.Alone.{root_object}
use Rattle.group_jobs.specs.Counts.{has_word}
use Rattle.group_jobs.proofs.Counting.{get-word_counts, no_place, told_of}
use Rattle.group_jobs.proofs.Dealing.{some_place}
use Rattle.group_jobs.proofs.Least.{IsHeld, by_names, held_for, root_within, table_within, word_found, words_once}
use Rattle.group_jobs.proofs.Summing.{ties_itself}

-- ---- words that have places

some_told : (words : List (List ℕ)) (word : List ℕ) (n : ℕ) → told_of words word ≡ Some n → 0 < places_of words word
some_told words word n told = elim (has_word words word) as (λ b. has_word words word ≡ b → cond b (Some (places_of words word)) None ≡ Some n → 0 < places_of words word) [
  | true ↦ λ has _. some_place words word has
  | false ↦ λ _ none. cc
] refl told

told_some : (words : List (List ℕ)) (word : List ℕ) → 0 < places_of words word → (n : ℕ) × (get (word_counts words) word ≡ Some n)
told_some words word some = elim (has_word words word) as (λ b. has_word words word ≡ b → (n : ℕ) × (get (word_counts words) word ≡ Some n)) [
  | true ↦ λ has. (places_of words word, get-word_counts words word ∙ ap (λ (b : Bool). cond b (Some (places_of words word)) None) has)
  | false ↦ λ none. absurd (omega (arith, some, no_place words word none))
] refl

first_place : (word : List ℕ) (words : List (List ℕ)) → 0 < places_of (word ∷ words) word
first_place word words = some_place (word ∷ words) word (ap (λ (b : Bool). b || has_word words word) (ties_itself word))

none_empty : (words : List (List ℕ)) (word : List ℕ) → 0 < places_of words word → words ≢ []
none_empty words word some e = let zero : places_of words word ≡ 0 = ap (λ l. places_of l word) e in omega (arith, some, zero)

-- ---- sums of which something is left

some_term : (f : ℕ → ℕ) (xs : List ℕ) → 0 < sum_by f xs → (x : ℕ) × Contains xs x × (0 < f x)
some_term f [] some = absurd (omega (arith, some))
some_term f (x ∷ xs) some = elim (cases_lt 0 (f x)) [
  | inl here ↦ (x, contains_first x xs, here)
  | inr none ↦ let rest = some_term f xs (omega (arith, some, none, sum_by-cons f x xs)) in (rest.0, contains_cons x xs rest.0 rest.1, rest.2)
]

some_worker : (f : ℕ → ℕ) (n : ℕ) → 0 < sum_by f (range_with_len 0 n) → (k : ℕ) × (k < n) × (0 < f k)
some_worker f n some =
    let term = some_term f (range_with_len 0 n) some in
    let place = term.1 in
    let below : place.0 < n = omega (arith, place.1, length-range_with_len 0 n) in
    (term.0, omega (arith, below, sym place.2 ∙ get_or-range_with_len 0 n place.0 term.0 below), term.2)

-- ---- objects with the root as it was made

module _ (objects : KnownObjects) (there : weight (get objects root_name) ≡ root_words) where
  abbrev pub with_root : KnownObjects
  with_root = insert objects root_name root_object

  pub others_there : (n : Name) → n ≢ root_name → get with_root n ≡ get objects n
  others_there n other = get-other objects root_name root_object n other

  root_there : get with_root root_name ≡ Some root_object
  root_there = get-same objects root_name root_object

  same_weight : (n : Name) → weight (get with_root n) ≡ weight (get objects n)
  same_weight n = elim (same_or_other n root_name) [
    | inl is ↦ ap (λ x. weight (get with_root x)) is ∙ ap weight root_there ∙ sym there ∙ ap (λ x. weight (get objects x)) (sym is)
    | inr other ↦ ap weight (others_there n other)
  ]

  some_content : (o : Option Content) (v : Content) → weight o ≡ size_of v → (w : Content) × (o ≡ Some w)
  some_content None (Fields values) e = absurd (omega (arith, e))
  some_content (Some w) v e = (w, refl)

  key_there : (n : Name) → Contains (keys_of (finite.entries with_root)) n → Contains (keys_of (finite.entries objects)) n
  key_there n c =
      let v = key-found (finite.entries with_root) n c in
      let w = some_content (get objects n) v.0 (sym (same_weight n) ∙ ap weight (get-entries with_root n ∙ v.1)) in
      found-key (finite.entries objects) n w.0 (sym (get-entries objects n) ∙ w.1)

  no_more : words_in_all with_root ≤ words_in_all objects
  no_more =
      let inside = sum-inside (λ (n : Name). weight (get with_root n)) (keys_of (finite.entries with_root)) (keys_of (finite.entries objects)) (keys-distinct (finite.entries with_root) (entries_sorted with_root)) key_there in
      let alike = sum-same (λ (n : Name). weight (get with_root n)) (λ (n : Name). weight (get objects n)) (keys_of (finite.entries objects)) (λ n c. same_weight n) in
      omega (arith, inside, alike, by_names with_root, by_names objects)

  -- ---- tables of parts of the words

  module _ (words : List (List ℕ)) (workers : ℕ) (part : ℕ → List (List ℕ)) (sums : (word : List ℕ) → places_of words word ≡ sum_by (λ k. places_of (part k) word) (range_with_len 0 workers))
      (total : (k : ℕ) → k < workers → part k ≢ [] → (name : Name) × IsCountTable with_root name (word_counts (part k))) where
    -- a worker that has the word, with its table
    abbrev HasTable : List ℕ → Type 0
    HasTable word = (name : Name) × (counts : WordCounts) × IsCountTable with_root name counts × ((n : ℕ) × (get counts word ≡ Some n))

    table_of : (word : List ℕ) → 0 < places_of words word → HasTable word
    table_of word some =
        let worker = some_worker (λ k. places_of (part k) word) workers (omega (arith, some, sums word)) in
        let table = total worker.0 worker.1 (none_empty (part worker.0) word worker.2) in
        (table.0, word_counts (part worker.0), table.1, told_some (part worker.0) word worker.2)

    held : (word : List ℕ) → Contains (different words) word → IsHeld with_root word
    held word c =
        let counts : WordCounts = word_counts words in
        let found = word_found (finite.entries counts) word c in
        let table = table_of word (some_told words word found.0 (sym (get-word_counts words word) ∙ get-entries counts word ∙ found.1)) in
        held_for with_root table.0 table.1 table.2 word table.3.0 table.3.1

    pub room_shared : least_room words ≤ words_in_all objects
    room_shared = by words refl
      where
        by : (all : List (List ℕ)) → words ≡ all → least_room all ≤ words_in_all objects
        by [] e = omega (arith, root_within with_root root_there, no_more)
        by (word ∷ rest) e =
            let table = table_of word (subst (λ l. 0 < places_of l word) (sym e) (first_place word rest)) in
            let counts : WordCounts = word_counts (word ∷ rest) in
            let less = table_within with_root root_there table.0 table.1 table.2 (different (word ∷ rest)) (words_once (finite.entries counts) (entries_sorted counts)) (subst (λ l. (w : List ℕ) → Contains (different l) w → IsHeld with_root w) e held) in
            omega (arith, less, no_more)
