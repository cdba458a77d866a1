-- Tables of a count: their words, and what stays of one table while another one grows.
use Rattle.std.proofs.Common.{◌≡◌, ◌≢◌, inl, inr, ℕ, ◌+◌, ◌<◌, ◌≤◌, ◌||◌, Bool, true, false, cond, List, [], ◌∷◌, ◌++◌, All, Option, Some, None, is_some, unwrap_or, length, get_or, refl, ◌∙◌, ap, sym, subst, true≢false, arith}
use Rattle.std.specs.FinMap as finite
use Rattle.std.specs.FinMap.{get}
use Rattle.std.specs.Ordering.{eq_by_cmp}
use Rattle.std.proofs.lemmas.List.Elements.{All-nil, All-cons, All-head, All-tail}
use Rattle.object_layout.specs.declared.names.Name.{Name}
use Rattle.yak_model.specs.declared.datum.Datum.{Datum}
use Rattle.yak_model.specs.declared.datum.Datum.TheVariants as datum
use Rattle.yak_model.specs.declared.TheConstants.{BUCKETS}
use Rattle.yak_model.specs.Private.{KnownObjects}
use Rattle.yak_model.specs.Standing.{Standing}
use Rattle.yak_model.specs.Tables.{AreDifferent, AreInBucket, IsChain, IsCountTable, IsKey, IsTable, LacksWord, Link}
use Rattle.yak_model.specs.Texts.{WordCounts, places_of, word_cmp, word_counts}
use Rattle.heap_tables.specs.Adds.{IsNoEntry, IsNowhere, KeepsOthers, StayAfter, StayNowhere}
use Rattle.heap_tables.specs.Counted.{count_of, or_zero, raised}
use Rattle.heap_tables.specs.Cursors.{MayWalk}
use Rattle.heap_tables.specs.Walks.{IsApart}
use Rattle.heap_tables.proofs.Entries.{key_no_entry}
use Rattle.heap_tables.proofs.Raised.{table_apart}
use Rattle.heap_tables.proofs.Places.{word_cases}
use Rattle.heap_tables.proofs.Walked.{same_by_test}
use Rattle.group_jobs.specs.Counts.{has_word}
use Rattle.group_jobs.specs.Tallies.{AreApart, KnowsTallies, Tallies, Tally}
use Rattle.group_jobs.specs.declared.TheConstants.{MOST_WORDS, TOTAL_SLOT}
use Rattle.group_jobs.proofs.Aside.{no_table, nowhere}
use Rattle.group_jobs.proofs.Counting.{count-word_counts, get-word_counts, one_place, places_of-append, word_counts-push}

-- ---- counts of words

zero_or : (o : Option ℕ) → or_zero o ≡ unwrap_or o 0
zero_or None = refl
zero_or (Some n) = refl

pub count_is : (words : List (List ℕ)) (word : List ℕ) → count_of (word_counts words) word ≡ places_of words word
count_is words word = zero_or (get (word_counts words) word) ∙ count-word_counts words word

pub raised_one : (words : List (List ℕ)) (word : List ℕ) → raised (word_counts words) word 1 ≡ word_counts (words ++ word ∷ [])
raised_one words word = ap (λ n. finite.insert (word_counts words) word (n + 1)) (count_is words word) ∙ word_counts-push words word

one_or_none : (b : Bool) → cond {A = ℕ} b 1 0 ≤ 1
one_or_none true = omega arith
one_or_none false = omega arith

pub few_places : (words : List (List ℕ)) (word : List ℕ) → places_of words word ≤ length words
few_places [] word = omega arith
few_places (first ∷ words) word = omega (arith, few_places words word, one_or_none (eq_by_cmp word_cmp word first), one_place first word, places_of-append (first ∷ []) words word)

-- ---- no more links than words

abbrev pub AreOf : List (List ℕ) → List Link → Type 0
AreOf words links = All (λ l. has_word words l.word ≡ true) links

among_rest : (first word : List ℕ) (words : List (List ℕ)) → has_word (first ∷ words) word ≡ true → word ≢ first → has_word words word ≡ true
among_rest first word words is ne = elim (eq_by_cmp word_cmp word first) as (λ b. eq_by_cmp word_cmp word first ≡ b → (b || has_word words word) ≡ true → has_word words word ≡ true) [
  | true ↦ λ tie _. absurd (ne (same_by_test word first tie))
  | false ↦ λ _ rest. rest
] refl is

-- the links without the one of a word
record Removed (word : List ℕ) (links : List Link) : Type 0 where
  rest : List Link
  size : length links ≤ 1 + length rest
  different : AreDifferent rest
  lacks : (v : List ℕ) → LacksWord v links → LacksWord v rest
  all : (words : List (List ℕ)) → AreOf (word ∷ words) links → AreOf words rest

all_lacking : (word : List ℕ) (links : List Link) (words : List (List ℕ)) → LacksWord word links → AreOf (word ∷ words) links → AreOf words links
all_lacking word [] words lacks all = All-nil (λ l. has_word words l.word ≡ true)
all_lacking word (l ∷ links) words lacks all =
    let P = λ (k : Link). has_word (word ∷ words) k.word ≡ true in
    All-cons (λ k. has_word words k.word ≡ true) l links (among_rest word l.word words (All-head P l links all) lacks.0) (all_lacking word links words lacks.1 (All-tail P l links all))

remove : (word : List ℕ) (links : List Link) → AreDifferent links → Removed word links
remove word [] d = record { rest = []; size = omega arith; different = tt; lacks = λ v h. h; all = λ words all. All-nil (λ l. has_word words l.word ≡ true) }
remove word (l ∷ links) d = elim (word_cases l.word word) [
  | inl same ↦ record {
    rest = links;
    size = omega arith;
    different = d.1;
    lacks = λ v h. h.1;
    all = λ words all. all_lacking word links words (subst (λ w. LacksWord w links) same d.0) (All-tail (λ k. has_word (word ∷ words) k.word ≡ true) l links all);
  }
  | inr ne ↦
      let r : Removed word links = remove word links d.1 in
      record {
        rest = l ∷ r.rest;
        size = omega (arith, r.size);
        different = (r.lacks l.word d.0, r.different);
        lacks = λ v h. (h.0, r.lacks v h.1);
        all = λ words all. All-cons (λ k. has_word words k.word ≡ true) l r.rest
            (among_rest word l.word words (All-head (λ k. has_word (word ∷ words) k.word ≡ true) l links all) ne)
            (r.all words (All-tail (λ k. has_word (word ∷ words) k.word ≡ true) l links all));
      }
]

pub few_links : (words : List (List ℕ)) (links : List Link) → AreDifferent links → AreOf words links → length links ≤ length words
few_links [] [] d all = omega arith
few_links [] (l ∷ links) d all = absurd (true≢false (sym (All-head (λ k. has_word [] k.word ≡ true) l links all)))
few_links (first ∷ words) links d all =
    let r : Removed first links = remove first links d in
    let rest = few_links words r.rest r.different (r.all words all) in
    omega (arith, r.size, rest)

-- A word that isn't in the list is none that the map has.
not_there : (words : List (List ℕ)) (word : List ℕ) → has_word words word ≡ false → get (word_counts words) word ≡ None
not_there words word none = get-word_counts words word ∙ ap (λ b. cond b (Some (places_of words word)) None) none

pub are_of : (words : List (List ℕ)) (known : KnownObjects) (name : Name) (table : IsCountTable known name (word_counts words)) (b : ℕ) (links : List Link) → AreInBucket b links → ((v : List ℕ) → LacksWord v (table.buckets b) → LacksWord v links) → AreOf words links
are_of words known name table b [] homes lacks = All-nil (λ l. has_word words l.word ≡ true)
are_of words known name table b (l ∷ links) homes lacks =
    All-cons (λ k. has_word words k.word ≡ true) l links
    (elim (has_word words l.word) as (λ t. has_word words l.word ≡ t → t ≡ true) [
      | true ↦ λ _. refl
      | false ↦ λ none. absurd ((lacks l.word (subst (λ c. LacksWord l.word (table.buckets c)) homes.0 (table.absent l.word (not_there words l.word none)))).0 refl)
    ] refl)
    (are_of words known name table b links homes.1 (λ v h. (lacks v h).1))

pub few_in_bucket : (words : List (List ℕ)) (known : KnownObjects) (name : Name) (table : IsCountTable known name (word_counts words)) (b : ℕ) → b < BUCKETS → length (table.buckets b) ≤ length words
few_in_bucket words known name table b bound =
    few_links words (table.buckets b) ((table.table).distinct b bound) (are_of words known name table b (table.buckets b) ((table.table).homes b bound) (λ v h. h))

-- The table of the total can be walked through.
pub tally_walk : (s : Standing) (known : KnownObjects) (done : List (List ℕ)) (t : Tally s known done) → length done ≤ MOST_WORDS → MayWalk s known TOTAL_SLOT t.name (word_counts done)
tally_walk s known done t few = record {
  slot = t.slot;
  is_table = t.table;
  few = λ b h. let n = few_in_bucket done known t.name t.table b h in omega (arith, n, few);
}

-- ---- what stays of a table

-- the objects of a chain are as they were
abbrev pub AreSame : KnownObjects → KnownObjects → List Link → Type 0
AreSame known later links = All (λ l. (get later l.entry ≡ get known l.entry) × (get later l.key ≡ get known l.key)) links

pub chain_stays : (known later : KnownObjects) (links : List Link) (head : Datum) → AreSame known later links → IsChain known head links → IsChain later head links
chain_stays known later [] head same chain = chain
chain_stays known later (l ∷ links) head same chain =
    let Q = λ (k : Link). (get later k.entry ≡ get known k.entry) × (get later k.key ≡ get known k.key) in
    let h = All-head Q l links same in
    let e = chain.1.1 in
    (chain.0, (chain.1.0, (h.0 ∙ e.0, (e.1.0, h.1 ∙ e.1.1, e.1.2, e.1.3)), chain_stays known later links chain.1.0 (All-tail Q l links same) chain.1.2))

-- A key is no entry.
key_apart : (known : KnownObjects) (k : Name) (w : List ℕ) → IsKey known k w → (links : List Link) (head : Datum) → IsChain known head links → IsNoEntry k links
key_apart known k w key [] head chain = tt
key_apart known k w key (l ∷ links) head chain = (λ e. key_no_entry known k w chain.1.0 l key chain.1.1 (sym e), key_apart known k w key links chain.1.0 chain.1.2)

no_entry : (name : Name) (links : List Link) → IsApart name links → IsNoEntry name links
no_entry name [] h = tt
no_entry name (l ∷ links) h = (h.0, no_entry name links h.2)

module _ (known later : KnownObjects) (part : Name) (heads : List Datum) (buckets : ℕ → List Link) (table : IsTable known part heads buckets) (b : ℕ) (bound : b < BUCKETS) (others : KeepsOthers known part (buckets b) later) where
  same_links : (links : List Link) (head : Datum) → AreApart links buckets → IsChain known head links → AreSame known later links
  same_links [] head apart chain = All-nil (λ l. (get later l.entry ≡ get known l.entry) × (get later l.key ≡ get known l.key))
  same_links (l ∷ links) head apart chain =
      let far = table_apart known part heads buckets table (l ∷ links) head chain in
      let A = λ (k : Link). IsNowhere k.entry buckets in
      let e = chain.1.1 in
      All-cons (λ k. (get later k.entry ≡ get known k.entry) × (get later k.key ≡ get known k.key)) l links (
        others l.entry (ap is_some e.0) (λ q. far.0 q) (All-head A l links apart b bound),
        others l.key (ap is_some e.1.1) (λ q. far.1 q) (key_apart known l.key l.word e.1 (buckets b) (get_or heads b datum.Null) (table.chains b bound)),
      )
      (same_links links chain.1.0 (All-tail A l links apart) chain.1.2)

  pub table_stays : (name : Name) (tops : List Datum) (chains : ℕ → List Link) → IsTable known name tops chains → name ≢ part → ((c : ℕ) → c < BUCKETS → AreApart (chains c) buckets) → IsTable later name tops chains
  table_stays name tops chains t other apart = record {
    object = others name (ap is_some t.object) other (no_entry name (buckets b) (table_apart known name tops chains t (buckets b) (get_or heads b datum.Null) (table.chains b bound))) ∙ t.object;
    size = t.size;
    chains = λ c h. chain_stays known later (chains c) (get_or tops c datum.Null) (same_links (chains c) (get_or tops c datum.Null) (apart c h) (t.chains c h)) (t.chains c h);
    homes = t.homes;
    distinct = t.distinct;
  }

-- Links that are no entries of a table are none of what it is then.
pub still_apart : (known : KnownObjects) (links : List Link) (head : Datum) (buckets after : ℕ → List Link) → IsChain known head links → StayNowhere known buckets after → AreApart links buckets → AreApart links after
still_apart known [] head buckets after chain keeps apart = All-nil (λ l. IsNowhere l.entry after)
still_apart known (l ∷ links) head buckets after chain keeps apart =
    let A = λ (k : Link). IsNowhere k.entry buckets in
    All-cons (λ k. IsNowhere k.entry after) l links (keeps l.entry (ap is_some chain.1.1.0) (All-head A l links apart)) (still_apart known links chain.1.0 buckets after chain.1.2 keeps (All-tail A l links apart))

-- Another word in the table of a part: the total's table is as it was.
pub tallies_more : (s now : Standing) (known later : KnownObjects) (knows : KnownObjects → Type 0) (name : Name) (done doing : List (List ℕ)) (word : List ℕ) (b : ℕ) → b < BUCKETS
    → ((i : ℕ) → get_or (now.own).stack i datum.Null ≡ get_or (s.own).stack i datum.Null)
    → (t : Tallies s known name done doing) → knows later → (part : IsCountTable later name (raised (word_counts doing) word 1)) → KeepsOthers known name ((t.table).buckets b) later → StayNowhere known (t.table).buckets part.buckets
    → ((c : ℕ) → c < BUCKETS → StayAfter s ((t.table).buckets c) (part.buckets c)) → now.thread ≡ s.thread → (s.own).made ≤ (now.own).made
    → KnowsTallies s known now knows name done (doing ++ word ∷ [])
tallies_more s now known later knows name done doing word b bound slots t k part others keeps stay thread made =
    let total = t.total.table in (
      later,
      k,
      record {
        total = record {
          name = t.total.name;
          slot = slots 1 ∙ t.total.slot;
          table = record {
            heads = total.heads;
            buckets = total.buckets;
            table = table_stays known later name (t.table).heads (t.table).buckets (t.table).table b bound others t.total.name total.heads total.buckets total.table t.other t.apart;
            counted = total.counted;
            absent = total.absent;
          };
        };
        slot = slots 2 ∙ t.slot;
        table = record {
          heads = part.heads;
          buckets = part.buckets;
          table = part.table;
          counted = λ w n e. part.counted w n (ap (λ (m : WordCounts). get m w) (raised_one doing word) ∙ e);
          absent = λ w e. part.absent w (ap (λ (m : WordCounts). get m w) (raised_one doing word) ∙ e);
        };
        other = t.other;
        thread = t.thread ∙ sym thread;
        made = let m = t.made in omega arith;
        after = λ c h. stay c h name t.thread t.made (t.after c h);
        apart = λ c h. still_apart known (total.buckets c) (get_or total.heads c datum.Null) (t.table).buckets part.buckets ((total.table).chains c h) keeps (t.apart c h);
      },
      record {
        slot = slots 0;
        objects = λ other values is aside.
            let table = (t.table).table in
            others other (ap is_some is) (no_table known other name values (t.table).heads is aside table.object table.size) (nowhere known other values is aside name (t.table).heads (t.table).buckets table b bound) ∙ is;
      },
    )
