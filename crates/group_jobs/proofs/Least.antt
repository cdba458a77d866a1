-- The objects of a table of counts: one for the table, and a key and an entry for each word. They are different and all in the heap.
use Rattle.std.proofs.Common.{◌≡◌, ◌≢◌, ◌⊎◌, inl, inr, ℕ, suc, ◌+◌, ◌*◌, ◌<◌, ◌≤◌, Bool, true, false, cond, ◌&&◌, T, List, [], ◌∷◌, map, length, replicate, get_or, Some, is_eq, refl, ◌∙◌, ap, sym, subst, arith}
use Rattle.std.proofs.Math.Logic.{⊎_elim}
use Rattle.std.specs.List.{Contains, sum_by}
use Rattle.std.specs.FinMap as finite
use Rattle.std.specs.FinMap.{find, get, is_sorted, entries_sorted, get-entries}
use Rattle.std.specs.FinMap.Entries.{below_all}
use Rattle.std.specs.Ordering.{eq_by_cmp, is_lt}
use Rattle.std.proofs.lemmas.Cmp.{nat_list_cmp_total, tied_itself}
use Rattle.std.proofs.lemmas.List.{length-replicate}
use Rattle.std.proofs.lemmas.List.Sums.{sum_by-cons}
use Rattle.object_layout.specs.declared.names.Name.{Name}
use Rattle.object_layout.specs.declared.TheConstants.{OBJECT_WORDS}
use Rattle.heap_words.specs.declared.map.Areas.{Areas}
use Rattle.heap_words.specs.Contents.{Contents}
use Rattle.heap_words.specs.Map.{page_words}
use Rattle.yak_model.specs.declared.datum.Datum.{Datum}
use Rattle.yak_model.specs.declared.datum.Datum.TheVariants as datum
use Rattle.yak_model.specs.declared.TheConstants.{ROOT_FIELDS}
use Rattle.yak_model.specs.Graph.{Content, Fields, size_of}
use Rattle.yak_model.specs.Lawful.{present_words}
use Rattle.yak_model.specs.Names.{root_name}
use Rattle.yak_model.specs.Placed.{size_by}
use Rattle.yak_model.specs.Private.{KnownObjects}
use Rattle.yak_model.specs.Room.{entry_words, key_words, root_words, table_words}
use Rattle.yak_model.specs.Spaces.{SpaceState}
use Rattle.yak_model.specs.State.{object_of}
use Rattle.yak_model.specs.Stands.{Stands}
use Rattle.yak_model.specs.Tables.{HasCount, IsChain, IsCountTable, IsEntry, IsKey, Link, bucket_of, entry_fields}
use Rattle.yak_model.specs.Texts.{WordCounts, word_cmp, word_counts}
use Rattle.yak_model.proofs.Lists.{contains_cases, contains_cons}
use Rattle.heap_core.proofs.RoomsNames.{entry-found, found-key, keys_of, present-paged}
use Rattle.heap_core.proofs.RoomsSums.{Distinct, contains_first, sum-inside, sum-mapped, sum-same}
use Rattle.heap_core.proofs.Weights.{weight, words_in_all}
use Rattle.heap_tables.proofs.RaisedCounts.{bucket_small}
use Rattle.heap_tables.proofs.Entries.{key_no_entry, same_entry, same_fields, same_key}
use Rattle.group_jobs.specs.Alone.{HoldsCounts, HoldsTotal, root_object}
use Rattle.group_jobs.specs.Tallies.{IsAside}
use Rattle.yak_model.specs.Room.{least_room}

-- ---- the objects are within the pages

full_pages : (w : ℕ) (size : List Name → ℕ) (pages : List (List Name)) → ((p : ℕ) → p < length pages → size (get_or pages p []) ≤ w) → sum_by size pages ≤ w * length pages
full_pages w size [] fits = omega arith
full_pages w size (ns ∷ rest) fits =
    let first : size ns ≤ w = fits 0 (omega arith) in
    omega (arith, first, full_pages w size rest (λ p lt. fits (suc p) (omega (arith, lt))), sum_by-cons size ns rest)

pub present-within : (m : Areas) (c : Contents) (s : SpaceState) (h : Stands m c s) → present_words s ≤ page_words m * m.pages
present-within m c s h =
    let size : List Name → ℕ = λ (ns : List Name). sum_by (size_by (object_of s)) ns in
    let most = full_pages (page_words m) size h.places.pages h.stands.heap.tiles.fits in
    subst (λ n. present_words s ≤ page_words m * n) h.stands.heap.count (omega (arith, most, present-paged m c s h))

-- ---- the words of a map of counts

first : (a b : Bool) → T (a && b) → T a
first true b p = tt
first false b p = p

second : (a b : Bool) → T (a && b) → T b
second true b p = p
second false b p = absurd p

abbrev words_in : List (List ℕ × ℕ) → List (List ℕ)
words_in entries = map (λ entry. entry.0) entries

not_below : (word : List ℕ) (entries : List (List ℕ × ℕ)) → T (below_all word_cmp word entries) → Contains (words_in entries) word → ⊥
not_below word [] below c = omega (arith, c.1)
not_below word (entry ∷ entries) below c = ⊎_elim
    (λ (same : entry.0 ≡ word).
    let self : T (is_lt (word_cmp word word)) = subst (λ (w : List ℕ). T (is_lt (word_cmp word w))) same (first (is_lt (word_cmp word entry.0)) (below_all word_cmp word entries) below) in
    subst (λ r. T (is_lt r)) (tied_itself nat_list_cmp_total word) self)
    (λ (b : Contains (words_in entries) word). not_below word entries (second (is_lt (word_cmp word entry.0)) (below_all word_cmp word entries) below) b)
    (contains_cases entry.0 (words_in entries) word c)

pub words_once : (entries : List (List ℕ × ℕ)) → T (is_sorted word_cmp entries) → Distinct (words_in entries)
words_once [] up = tt
words_once (entry ∷ entries) up = (
  not_below entry.0 entries (first (below_all word_cmp entry.0 entries) (is_sorted word_cmp entries) up),
  words_once entries (second (below_all word_cmp entry.0 entries) (is_sorted word_cmp entries) up),
)

pub word_found : (entries : List (List ℕ × ℕ)) (word : List ℕ) → Contains (words_in entries) word → (n : ℕ) × (find word_cmp word entries ≡ Some n)
word_found [] word c = absurd (omega (arith, c.1))
word_found (entry ∷ entries) word c =
    elim (eq_by_cmp word_cmp word entry.0) as (λ b. eq_by_cmp word_cmp word entry.0 ≡ b → (n : ℕ) × (cond b (Some entry.1) (find word_cmp word entries) ≡ Some n)) [
      | true ↦ λ tie. (entry.1, refl)
      | false ↦ λ none. word_found entries word (⊎_elim
          (λ (same : entry.0 ≡ word).
          let tie : eq_by_cmp word_cmp word entry.0 ≡ true = ap (eq_by_cmp word_cmp word) same ∙ ap is_eq (tied_itself nat_list_cmp_total word) in
          absurd (cc))
          (λ (b : Contains (words_in entries) word). b)
          (contains_cases entry.0 (words_in entries) word c))
    ] refl

-- ---- the entries and keys of words

-- An entry of the word is among the objects.
pub record IsHeld (known : KnownObjects) (word : List ℕ) : Type 0 where
  pub link : Link
  pub next : Datum
  pub entry : IsEntry known next link
  pub same : link.word ≡ word

held_in : (known : KnownObjects) (word : List ℕ) (n : ℕ) (links : List Link) (head : Datum) → IsChain known head links → HasCount word links n → IsHeld known word
held_in known word n [] head chain has = absurd has
held_in known word n (link ∷ links) head chain (inl here) = record { link = link; next = chain.1.0; entry = chain.1.1; same = here.0 }
held_in known word n (link ∷ links) head chain (inr later) = held_in known word n links chain.1.0 chain.1.2 later.1

-- The entries of words and their keys.
abbrev names_for : (known : KnownObjects) (words : List (List ℕ)) → ((word : List ℕ) → Contains words word → IsHeld known word) → List Name
names_for known [] held = []
names_for known (word ∷ words) held =
    (held word (contains_first word words)).link.entry
    ∷ (held word (contains_first word words)).link.key
    ∷ names_for known words (λ w c. held w (contains_cons word words w c))

-- The name is that of an entry of one of the words, or of its key.
abbrev IsFor : KnownObjects → List (List ℕ) → Name → Type 0
IsFor known words name =
    (word : List ℕ) × Contains words word × ((h : IsHeld known word) × ((name ≡ h.link.entry) ⊎ (name ≡ h.link.key)))

name_for : (known : KnownObjects) (words : List (List ℕ)) (held : (word : List ℕ) → Contains words word → IsHeld known word) (name : Name) → Contains (names_for known words held) name → IsFor known words name
name_for known [] held name c = absurd (omega (arith, c.1))
name_for known (word ∷ words) held name c =
    let h : IsHeld known word = held word (contains_first word words) in
    let rest : List Name = names_for known words (λ w d. held w (contains_cons word words w d)) in
    ⊎_elim
    (λ (e : h.link.entry ≡ name). (word, contains_first word words, (h, inl (sym e))))
    (λ (b : Contains (h.link.key ∷ rest) name). ⊎_elim
    (λ (e : h.link.key ≡ name). (word, contains_first word words, (h, inr (sym e))))
    (λ (d : Contains rest name).
    let r = name_for known words (λ w d. held w (contains_cons word words w d)) name d in
    (r.0, contains_cons word words r.0 r.1, r.2))
    (contains_cases h.link.key rest name b))
    (contains_cases h.link.entry (h.link.key ∷ rest) name c)

entry_apart : (known : KnownObjects) (words : List (List ℕ)) (word : List ℕ) (h : IsHeld known word) → (Contains words word → ⊥) → IsFor known words h.link.entry → ⊥
entry_apart known words word h lacks is = ⊎_elim
    (λ (e : h.link.entry ≡ is.2.0.link.entry).
    let other : IsHeld known is.0 = is.2.0 in
    let same : h.link.word ≡ other.link.word = same_entry known h.next other.next h.link other.link e h.entry other.entry in
    lacks (subst (Contains words) (sym other.same ∙ sym same ∙ h.same) is.1))
    (λ (e : h.link.entry ≡ is.2.0.link.key).
    let other : IsHeld known is.0 = is.2.0 in
    key_no_entry known other.link.key other.link.word h.next h.link other.entry.1 h.entry (sym e))
    is.2.1

key_apart : (known : KnownObjects) (words : List (List ℕ)) (word : List ℕ) (h : IsHeld known word) → (Contains words word → ⊥) → IsFor known words h.link.key → ⊥
key_apart known words word h lacks is = ⊎_elim
    (λ (e : h.link.key ≡ is.2.0.link.entry).
    let other : IsHeld known is.0 = is.2.0 in
    key_no_entry known h.link.key h.link.word other.next other.link h.entry.1 other.entry e)
    (λ (e : h.link.key ≡ is.2.0.link.key).
    let other : IsHeld known is.0 = is.2.0 in
    let same : h.link.word ≡ other.link.word = same_key known h.link.key other.link.key h.link.word other.link.word e h.entry.1 other.entry.1 in
    lacks (subst (Contains words) (sym other.same ∙ sym same ∙ h.same) is.1))
    is.2.1

names_apart : (known : KnownObjects) (words : List (List ℕ)) (held : (word : List ℕ) → Contains words word → IsHeld known word) → Distinct words → Distinct (names_for known words held)
names_apart known [] held once = tt
names_apart known (word ∷ words) held once =
    let h : IsHeld known word = held word (contains_first word words) in
    let later : (w : List ℕ) → Contains words w → IsHeld known w = λ w d. held w (contains_cons word words w d) in
    let rest : List Name = names_for known words later in (
      λ c. ⊎_elim
          (λ (e : h.link.key ≡ h.link.entry). key_no_entry known h.link.key h.link.word h.next h.link h.entry.1 h.entry e)
          (λ (b : Contains rest h.link.entry). entry_apart known words word h once.0 (name_for known words later h.link.entry b))
          (contains_cases h.link.key rest h.link.entry c),
      (λ b. key_apart known words word h once.0 (name_for known words later h.link.key b), names_apart known words later once.1),
    )

entry_weighs : (known : KnownObjects) (next : Datum) (l : Link) → IsEntry known next l → weight (get known l.entry) ≡ entry_words
entry_weighs known next l is = ap weight is.0

key_weighs : (known : KnownObjects) (key : Name) (word : List ℕ) → IsKey known key word → weight (get known key) ≡ key_words word
key_weighs known key word is =
    let w : weight (get known key) ≡ length is.0 + OBJECT_WORDS = ap weight is.1 in
    omega (arith, w, is.2.size)

names_weigh : (known : KnownObjects) (words : List (List ℕ)) (held : (word : List ℕ) → Contains words word → IsHeld known word) → sum_by (λ (n : Name). weight (get known n)) (names_for known words held) ≡ sum_by (λ (w : List ℕ). key_words w + entry_words) words
names_weigh known [] held = refl
names_weigh known (word ∷ words) held =
    let h : IsHeld known word = held word (contains_first word words) in
    let later : (w : List ℕ) → Contains words w → IsHeld known w = λ w d. held w (contains_cons word words w d) in
    let rest : List Name = names_for known words later in
    let f : Name → ℕ = λ (n : Name). weight (get known n) in
    let key : weight (get known h.link.key) ≡ key_words word = key_weighs known h.link.key h.link.word h.entry.1 ∙ ap key_words h.same in
    omega (
      arith,
      sum_by-cons f h.link.entry (h.link.key ∷ rest),
      sum_by-cons f h.link.key rest,
      sum_by-cons (λ (w : List ℕ). key_words w + entry_words) word words,
      entry_weighs known h.next h.link h.entry,
      key,
      names_weigh known words later,
    )

-- ---- the table

no_int : (known : KnownObjects) (head : Datum) (links : List Link) (n : ℕ) → IsChain known head links → head ≡ datum.Int n → ⊥
no_int known head [] n chain e = cc
no_int known head (l ∷ links) n (is, rest) e = cc

-- a word that has a count has an entry
pub held_for : (known : KnownObjects) (name : Name) (counts : WordCounts) → IsCountTable known name counts → (word : List ℕ) (n : ℕ) → get counts word ≡ Some n → IsHeld known word
held_for known name counts is word n found =
    let b : ℕ = bucket_of word in
    held_in known word n (is.buckets b) (get_or is.heads b datum.Null) (is.table.chains b (bucket_small word)) (is.counted word n found)

module _ (known : KnownObjects) (name : Name) (counts : WordCounts) (is : IsCountTable known name counts) (words : List (List ℕ)) (once : Distinct words) (held : (word : List ℕ) → Contains words word → IsHeld known word) where
  table_apart : IsFor known words name → ⊥
  table_apart at = ⊎_elim
      (λ (e : name ≡ at.2.0.link.entry).
      let h : IsHeld known at.0 = at.2.0 in
      let f = same_fields known name h.link.entry is.heads (entry_fields h.next h.link.key h.link.count) e is.table.object h.entry.0 in
      let size : length is.heads ≡ 3 = ap length f in
      omega (arith, size, is.table.size))
      (λ (e : name ≡ at.2.0.link.key).
      let h : IsHeld known at.0 = at.2.0 in
      let f = same_fields known name h.link.key is.heads h.entry.1.0 e is.table.object h.entry.1.1 in
      no_int known (get_or is.heads 0 datum.Null) (is.buckets 0) (length h.link.word) (is.table.chains 0 (omega arith)) (ap (λ vs. get_or vs 0 datum.Null) f ∙ h.entry.1.2.first))
      at.2.1

  -- the table, and the entries and keys of the words
  abbrev table_names : List Name
  table_names = name ∷ names_for known words held

  table_once : Distinct table_names
  table_once = (λ c. table_apart (name_for known words held name c), names_apart known words held once)

  there : (n : Name) → Contains table_names n → (v : Content) × (get known n ≡ Some v)
  there n c = ⊎_elim
      (λ (e : name ≡ n). (Fields is.heads, ap (get known) (sym e) ∙ is.table.object))
      (λ (b : Contains (names_for known words held) n).
      let at = name_for known words held n b in
      let h : IsHeld known at.0 = at.2.0 in
      ⊎_elim
      (λ (e : n ≡ h.link.entry). (Fields (entry_fields h.next h.link.key h.link.count), ap (get known) e ∙ h.entry.0))
      (λ (e : n ≡ h.link.key). (Fields h.entry.1.0, ap (get known) e ∙ h.entry.1.1))
      at.2.1)
      (contains_cases name (names_for known words held) n c)

  table_weighs : sum_by (λ (n : Name). weight (get known n)) table_names ≡ table_words + sum_by (λ (w : List ℕ). key_words w + entry_words) words
  table_weighs =
      let f : Name → ℕ = λ (n : Name). weight (get known n) in
      let w : weight (get known name) ≡ length is.heads + OBJECT_WORDS = ap weight is.table.object in
      omega (arith, sum_by-cons f name (names_for known words held), w, is.table.size, names_weigh known words held)

-- ---- the objects weigh no more than all

pub by_names : (objects : KnownObjects) → words_in_all objects ≡ sum_by (λ (n : Name). weight (get objects n)) (keys_of (finite.entries objects))
by_names objects =
    sum-same (λ (e : Name × Content). size_of e.1) (λ (e : Name × Content). weight (get objects e.0)) (finite.entries objects)
    (λ e b. ap weight (sym (get-entries objects e.0 ∙ entry-found (finite.entries objects) e (entries_sorted objects) b)))
    ∙ sym (sum-mapped (λ (n : Name). weight (get objects n)) (λ (e : Name × Content). e.0) (finite.entries objects))

pub names_within : (objects : KnownObjects) (names : List Name) → Distinct names → ((n : Name) → Contains names n → (v : Content) × (get objects n ≡ Some v)) → sum_by (λ (n : Name). weight (get objects n)) names ≤ words_in_all objects
names_within objects names once there =
    let less = sum-inside (λ (n : Name). weight (get objects n)) names (keys_of (finite.entries objects)) once (λ n c. let v = there n c in found-key (finite.entries objects) n v.0 (sym (get-entries objects n) ∙ v.1)) in
    omega (arith, less, by_names objects)

pub root_aside : IsAside (replicate ROOT_FIELDS datum.Null)
root_aside = ((λ e. omega (arith, e, length-replicate ROOT_FIELDS datum.Null)), (λ e. omega (arith, e, length-replicate ROOT_FIELDS datum.Null)))

module _ (known : KnownObjects) (root : get known root_name ≡ Some root_object) where
  root_weighs : weight (get known root_name) ≡ root_words
  root_weighs = ap weight root

  pub root_within : root_words ≤ words_in_all known
  root_within =
      let less = names_within known (root_name ∷ []) ((λ c. omega (arith, c.1)), tt) (λ n c. (root_object, ap (get known) (sym (only n c)) ∙ root)) in
      omega (arith, less, root_weighs, sum_by-cons (λ (n : Name). weight (get known n)) root_name [])
    where
      only : (n : Name) → Contains (root_name ∷ []) n → root_name ≡ n
      only n c = ⊎_elim (λ (e : root_name ≡ n). e) (λ (d : Contains [] n). absurd (omega (arith, d.1))) (contains_cases root_name [] n c)

  root_no_key : (word : List ℕ) (key : Name) → IsKey known key word → root_name ≢ key
  root_no_key word key is e =
      let f = same_fields known root_name key (replicate ROOT_FIELDS datum.Null) is.0 e root is.1 in
      let none : datum.Null ≡ datum.Int (length word) = ap (λ vs. get_or vs 0 datum.Null) f ∙ is.2.first in
      cc

  root_apart : (words : List (List ℕ)) → IsFor known words root_name → ⊥
  root_apart words at = ⊎_elim
      (λ (e : root_name ≡ at.2.0.link.entry).
      let h : IsHeld known at.0 = at.2.0 in
      let f = same_fields known root_name h.link.entry (replicate ROOT_FIELDS datum.Null) (entry_fields h.next h.link.key h.link.count) e root h.entry.0 in
      root_aside.1 (ap length f))
      (λ (e : root_name ≡ at.2.0.link.key).
      let h : IsHeld known at.0 = at.2.0 in
      root_no_key h.link.word h.link.key h.entry.1 e)
      at.2.1

  -- the root, a table, and an entry and a key for each of some words, in whatever table these are
  pub table_within : (name : Name) (counts : WordCounts) (is : IsCountTable known name counts) (words : List (List ℕ)) → Distinct words → ((word : List ℕ) → Contains words word → IsHeld known word)
      → root_words + (table_words + sum_by (λ (w : List ℕ). key_words w + entry_words) words) ≤ words_in_all known
  table_within name counts is words once held =
      let names : List Name = table_names known name counts is words once held in
      let less = names_within known (root_name ∷ names) (apart, table_once known name counts is words once held) all_there in
      omega (arith, less, root_weighs, sum_by-cons (λ (n : Name). weight (get known n)) root_name names, table_weighs known name counts is words once held)
    where
      apart : Contains (table_names known name counts is words once held) root_name → ⊥
      apart c = ⊎_elim
          (λ (e : name ≡ root_name).
          let f = same_fields known root_name name (replicate ROOT_FIELDS datum.Null) is.heads (sym e) root is.table.object in
          root_aside.0 (ap length f ∙ is.table.size))
          (λ (b : Contains (names_for known words held) root_name). root_apart words (name_for known words held root_name b))
          (contains_cases name (names_for known words held) root_name c)

      all_there : (n : Name) → Contains (root_name ∷ table_names known name counts is words once held) n → (v : Content) × (get known n ≡ Some v)
      all_there n c = ⊎_elim
          (λ (e : root_name ≡ n). (root_object, ap (get known) (sym e) ∙ root))
          (λ (b : Contains (table_names known name counts is words once held) n). there known name counts is words once held n b)
          (contains_cases root_name (table_names known name counts is words once held) n c)

pub room_held : (m : Areas) (c : Contents) (words : List (List ℕ)) → HoldsCounts m c words → least_room words ≤ page_words m * m.pages
room_held m c [] holds =
    let less = root_within holds.state.graph.objects holds.root in
    omega (arith, less, present-within m c holds.state holds.stands)
room_held m c (word ∷ words) holds =
    let t : HoldsTotal holds.state (word ∷ words) = holds.total (λ e. cc) in
    let counts : WordCounts = word_counts (word ∷ words) in
    let held : (w : List ℕ) → Contains (finite.keys counts) w → IsHeld holds.state.graph.objects w = λ w c.
    let found = word_found (finite.entries counts) w c in
    held_for holds.state.graph.objects t.name counts t.table w found.0 (get-entries counts w ∙ found.1) in
    let less = table_within holds.state.graph.objects holds.root t.name counts t.table (finite.keys counts) (words_once (finite.entries counts) (entries_sorted counts)) held in
    omega (arith, less, present-within m c holds.state holds.stands)
