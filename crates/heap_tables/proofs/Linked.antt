-- A table with a new entry.
use Rattle.std.proofs.Common.{◌≡◌, ◌≢◌, inl, inr, ℕ, ◌+◌, ◌<◌, List, [], ◌∷◌, ◌++◌, get_or, set, refl, ◌∙◌, ap, sym, subst, length, Some, None, Option, IsSome, is_some, arith, length-set, get_or-set_same, get_or-set_other, true≢false}
use Rattle.yak_model.specs.declared.TheConstants.{BUCKETS}
use Rattle.std.specs.FinMap.{get, insert}
use Rattle.object_layout.specs.declared.names.Name.{Name}
use Rattle.yak_model.specs.declared.datum.Datum.{Datum}
use Rattle.yak_model.specs.declared.datum.Datum.TheVariants as datum
use Rattle.yak_model.specs.Graph.{Content, Fields, Thread}
use Rattle.yak_model.specs.Private.{KnownObjects, IsKnown}
use Rattle.yak_model.proofs.Names.{get-same, get-other}
use Rattle.yak_model.specs.Standing.{Standing}
use Rattle.heap_tables.specs.Runs.{next_of, popped, pushed, with_made}
use Rattle.heap_tables.proofs.Effects.{slot_below, take_push}
use Rattle.yak_model.specs.Tables.{bucket_of}
use Rattle.yak_model.specs.Tables.{IsKey}
use Rattle.yak_model.specs.Tables.{Link, IsChain, IsTable, LacksWord, AreDifferent, AreInBucket, entry_fields}
use Rattle.heap_tables.specs.Adds.{AddsCount, AreAfter, IsAddedTo, IsNoEntry, Grows, StayAfter, having_made, with_bucket, with_fields}
use Rattle.heap_tables.proofs.Places.{Agree, insert_agrees, chain_agrees}
use Rattle.heap_tables.proofs.Raised.{in_bucket, table_apart}

pub made_below : (s : Standing) (own : Thread) (i : ℕ) → own ≡ with_made s → i < length s.own.stack → get_or own.stack i datum.Null ≡ get_or s.own.stack i datum.Null
made_below s own i e h = ap (λ (o : Thread). get_or o.stack i datum.Null) e ∙ slot_below s.own.stack (datum.Object (next_of s)) i h

pub popped_made : (s : Standing) → popped (with_made s) ≡ record s.own { made = s.own.made + 1 }
popped_made s = ap (λ (st : List Datum). record s.own { stack = st; made = s.own.made + 1 }) (take_push s.own.stack (datum.Object (next_of s)))

-- a push, some objects made, and then a pop
pub popped_having : (o : Thread) (x : Datum) (n : ℕ) → popped (having_made (pushed o x) n) ≡ having_made o n
popped_having o x n = ap (λ (st : List Datum). record o { stack = st; made = o.made + n }) (take_push o.stack x)

pub other_name : (known : KnownObjects) (x y : Name) (c : Content) → get known y ≡ None → get known x ≡ Some c → x ≢ y
other_name known x y c none some e = let q = sym some ∙ ap (get known) e ∙ none in true≢false (ap is_some q)

pub insert_grows : (known : KnownObjects) (y : Name) (d : Content) → get known y ≡ None → Grows known (insert known y d)
insert_grows known y d none x c some = get-other known y d x (other_name known x y c none some) ∙ some

pub chain_grows : (m n : KnownObjects) → Grows m n → (links : List Link) (head : Datum) → IsChain m head links → IsChain n head links
chain_grows m n grows [] head chain = chain
chain_grows m n grows (l ∷ links) head chain =
    let e = chain.1.1 in
    (chain.0, (chain.1.0, (grows l.entry _ e.0, (e.1.0, grows l.key _ e.1.1, e.1.2, e.1.3)), chain_grows m n grows links chain.1.0 chain.1.2))

pub table_grows : (m n : KnownObjects) → Grows m n → (name : Name) (heads : List Datum) (buckets : ℕ → List Link) → IsTable m name heads buckets → IsTable n name heads buckets
table_grows m n grows name heads buckets t = record {
  object = grows name _ t.object;
  size = t.size;
  chains = λ b h. chain_grows m n grows (buckets b) (get_or heads b datum.Null) (t.chains b h);
  homes = t.homes;
  distinct = t.distinct;
}

grown_known : (m n : KnownObjects) → Grows m n → (x : Name) → IsKnown m x → (get n x ≡ get m x) × IsKnown n x
grown_known m n grows x known = by_option (get m x) refl
  where
    by_option : (o : Option Content) → get m x ≡ o → (get n x ≡ get m x) × IsKnown n x
    by_option None e = let h : IsSome {T = Content} None = subst (λ o. IsSome o) e known in absurd (true≢false (sym h))
    by_option (Some c) e = let there = grows x c e in (there ∙ sym e, ap is_some there)

-- a known object isn't one that isn't
known_other : (known : KnownObjects) (x y : Name) → IsKnown known x → get known y ≡ None → y ≢ x
known_other known x y h none e = let q : IsSome {T = Content} None = subst (λ o. IsSome o) (sym (ap (get known) e) ∙ none) h in true≢false (sym q)

-- a new entry at the front of a bucket, whose key is known
pub shared_table : (known : KnownObjects) (name : Name) (heads : List Datum) (buckets : ℕ → List Link) (table : IsTable known name heads buckets) (word : List ℕ) (n b : ℕ) (home : bucket_of word ≡ b) (bound : b < BUCKETS) (lacks : LacksWord word (buckets b))
    (key entry : Name) (no_entry : get known entry ≡ None) (is_key : IsKey known key word) (name_key : name ≢ key)
    → (knows : KnownObjects → Type 0) → knows (insert (with_fields known entry (get_or heads b datum.Null) (datum.Object key) n) name (Fields (set heads b (datum.Object entry))))
    → (added : IsAddedTo known word n name buckets knows) × (added.links ≡ record { entry = entry; key = key; word = word; count = n } ∷ buckets b)
shared_table known name heads buckets table word n b home bound lacks key entry no_entry is_key name_key knows k =
    let two : KnownObjects = with_fields known entry (get_or heads b datum.Null) (datum.Object key) n in
    let last : List Datum = set heads b (datum.Object entry) in
    let after : KnownObjects = insert two name (Fields last) in
    let link : Link = record { entry = entry; key = key; word = word; count = n } in
    let g2 : Grows known two = insert_grows known entry (Fields (get_or heads b datum.Null ∷ datum.Object key ∷ datum.Int n ∷ [])) no_entry in
    let t2 : IsTable two name heads buckets = table_grows known two g2 name heads buckets table in
    let agree : Agree two after name = insert_agrees two name (Fields last) in
    let entry_there : get two entry ≡ Some (Fields (entry_fields (get_or heads b datum.Null) key n)) = get-same known entry (Fields (get_or heads b datum.Null ∷ datum.Object key ∷ datum.Int n ∷ [])) in
    let key_there : get two key ≡ Some (Fields is_key.0) = g2 key _ is_key.1 in
    let name_entry : name ≢ entry = other_name known name entry _ no_entry table.object in
    let within : b < length heads = omega (arith, bound, table.size) in (
      record {
        after = after;
        heads = last;
        links = link ∷ buckets b;
        known_now = k;
        is_table = subst (λ i. IsTable after name last (with_bucket buckets i (link ∷ buckets b))) (sym home) (record {
          object = get-same two name (Fields last);
          size = length-set heads b (datum.Object entry) ∙ table.size;
          chains = in_bucket (λ c ls. IsChain after (get_or last c datum.Null) ls) buckets b (link ∷ buckets b) (
            get_or-set_same heads b (datum.Object entry) datum.Null within,
            (
              get_or heads b datum.Null,
              (agree entry (λ e. name_entry (sym e)) ∙ entry_there, (is_key.0, agree key (λ e. name_key (sym e)) ∙ key_there, is_key.2, is_key.3)),
              chain_agrees two after name agree (buckets b) (get_or heads b datum.Null) (table_apart two name heads buckets t2 (buckets b) (get_or heads b datum.Null) (t2.chains b bound)) (t2.chains b bound),
            ),
          )
              (λ c h o. subst (λ v. IsChain after v (buckets c)) (sym (get_or-set_other heads b c (datum.Object entry) datum.Null o))
              (chain_agrees two after name agree (buckets c) (get_or heads c datum.Null) (table_apart two name heads buckets t2 (buckets c) (get_or heads c datum.Null) (t2.chains c h)) (t2.chains c h)));
          homes = in_bucket AreInBucket buckets b (link ∷ buckets b) (home, table.homes b bound) (λ c h o. table.homes c h);
          distinct = in_bucket (λ c ls. AreDifferent ls) buckets b (link ∷ buckets b) (lacks, table.distinct b bound) (λ c h o. table.distinct c h);
        });
        adds = inr (subst (λ i. LacksWord word (buckets i)) (sym home) lacks, (link, refl, refl, ap (λ i. link ∷ buckets i) (sym home)));
        others = λ x kx o no. get-other two name (Fields last) x o ∙ (grown_known known two g2 x kx).0;
        fresh = λ x kx no. (known_other known x entry kx no_entry, subst (λ i. IsNoEntry x (buckets i)) home no);
      },
      refl,
    )

pub linked_table : (known : KnownObjects) (name : Name) (heads : List Datum) (buckets : ℕ → List Link) (table : IsTable known name heads buckets) (word : List ℕ) (n b : ℕ) (home : bucket_of word ≡ b) (bound : b < BUCKETS) (lacks : LacksWord word (buckets b))
    (key entry : Name) (d : Content) (no_key : get known key ≡ None) (no_entry : get (insert known key d) entry ≡ None) (is_key : IsKey (insert known key d) key word)
    → (knows : KnownObjects → Type 0) → knows (insert (with_fields (insert known key d) entry (get_or heads b datum.Null) (datum.Object key) n) name (Fields (set heads b (datum.Object entry))))
    → (added : IsAddedTo known word n name buckets knows) × (added.links ≡ record { entry = entry; key = key; word = word; count = n } ∷ buckets b)
linked_table known name heads buckets table word n b home bound lacks key entry d no_key no_entry is_key knows k =
    let one : KnownObjects = insert known key d in
    let g1 : Grows known one = insert_grows known key d no_key in
    let t1 = table_grows known one g1 name heads buckets table in
    let both = shared_table one name heads buckets t1 word n b home bound lacks key entry no_entry is_key (other_name known name key _ no_key table.object) knows k in
    let a = both.0 in (
      record {
        after = a.after;
        heads = a.heads;
        links = a.links;
        known_now = a.known_now;
        is_table = a.is_table;
        adds = a.adds;
        others = λ x kx o no. let g = grown_known known one g1 x kx in a.others x g.1 o no ∙ g.0;
        fresh = λ x kx no. a.fresh x (grown_known known one g1 x kx).1 no;
      },
      both.1,
    )

-- a new entry and its key are made after all that the thread had made
pub after_new : (s : Standing) (entry key : Name) (word : List ℕ) (n : ℕ) (links later : List Link) → entry.thread ≡ s.thread → key.thread ≡ s.thread → s.own.made < entry.serial → s.own.made < key.serial
    → later ≡ record { entry = entry; key = key; word = word; count = n } ∷ links → StayAfter s links later
after_new s entry key word n links later entry_is key_is entry_new key_new is first thread within after =
    subst (AreAfter first) (sym is) ((entry_is ∙ sym thread, omega arith), (key_is ∙ sym thread, omega arith), after)

-- a count that was raised leaves the names
names_stay : (name : Name) (passed rest : List Link) (link : Link) (count : ℕ) → AreAfter name (passed ++ link ∷ rest) → AreAfter name (passed ++ (record link { count = count }) ∷ rest)
names_stay name [] rest link count after = after
names_stay name (l ∷ passed) rest link count after = (after.0, after.1, names_stay name passed rest link count after.2)

-- the same of a caller with the same thread and number of objects made
pub after_moved : (s now : Standing) (links later : List Link) → s.thread ≡ now.thread → s.own.made ≡ now.own.made → StayAfter s links later → StayAfter now links later
after_moved s now links later thread made stay first first_thread within after = stay first (first_thread ∙ sym thread) (omega arith) after

pub after_raised : (s : Standing) (word : List ℕ) (n : ℕ) (links later : List Link) → (LacksWord word links → ⊥) → AddsCount word n links later → StayAfter s links later
after_raised s word n links later there adds first thread within after = elim adds [
  | inl a ↦ subst (AreAfter first) (sym a.5) (names_stay first a.0 a.2 a.1 ((a.1).count + n) (subst (AreAfter first) a.3 after))
  | inr b ↦ absurd (there b.0)
]

-- the same map by other names
pub shared_map : (known : KnownObjects) (name : Name) (heads : List Datum) (b n : ℕ) (knows : KnownObjects → Type 0) (entry_was : Name) (front_was key_was : Datum) (front : Datum) (entry : Name) (key : Datum) → entry_was ≡ entry → front_was ≡ front → key_was ≡ key
    → knows (insert (insert known entry_was (Fields (front_was ∷ key_was ∷ datum.Int n ∷ []))) name (Fields (set heads b (datum.Object entry_was))))
    → knows (insert (insert known entry (Fields (front ∷ key ∷ datum.Int n ∷ []))) name (Fields (set heads b (datum.Object entry))))
shared_map known name heads b n knows entry_was front_was key_was front entry key e f q k =
    subst (λ x. knows (insert (insert known x (Fields (front ∷ key ∷ datum.Int n ∷ []))) name (Fields (set heads b (datum.Object x))))) e
    (subst (λ v. knows (insert (insert known entry_was (Fields (v ∷ key ∷ datum.Int n ∷ []))) name (Fields (set heads b (datum.Object entry_was))))) f
    (subst (λ v. knows (insert (insert known entry_was (Fields (front_was ∷ v ∷ datum.Int n ∷ []))) name (Fields (set heads b (datum.Object entry_was))))) q k))
