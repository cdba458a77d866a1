-- Maps of objects that a call on a table leaves aside.
use Rattle.std.proofs.Common.{zero, suc, Bool, true, false, cond, eqb, ◌≡◌, ◌≢◌, ◌⊎◌, inl, inr, ℕ, ◌+◌, ◌<◌, List, [], ◌∷◌, ◌++◌, get_or, drop, refl, ◌∙◌, ap, sym, subst, Some, None, Option, IsSome, is_some, true≢false, length, arith}
use Rattle.std.specs.FinMap.{get, insert}
use Rattle.object_layout.specs.declared.names.Name.{Name}
use Rattle.yak_model.specs.declared.datum.Datum.{Datum}
use Rattle.yak_model.specs.declared.datum.Datum.TheVariants as datum
use Rattle.yak_model.specs.Graph.{Content, Fields, fields_or_none}
use Rattle.yak_model.specs.Private.{GivesAway, IsKnown, KnownObjects, LosesAll, RefersKnown}
use Rattle.yak_model.specs.Spaces.{Walk, here, onward}
use Rattle.yak_model.specs.Tables.{IsChain, LacksWord, Link, groups}
use Rattle.yak_model.specs.declared.TheConstants.{BUCKETS}
use Rattle.heap_tables.specs.Adds.{AddsCount, with_bucket, with_fields}
use Rattle.heap_tables.specs.Keys.{IsKeyBegun}
use Rattle.heap_tables.proofs.Effects.{in_bounds}
use Rattle.heap_tables.proofs.Linked.{other_name}
use Rattle.std.specs.List.{Contains}
use Rattle.std.proofs.lemmas.List.Elements.{Contains-get_or}
use Rattle.yak_model.proofs.Lists.{contains_at}
use Rattle.yak_model.proofs.Names.{get-other, get-same, same_or_other}
use Rattle.yak_model.proofs.Walks.{walk_keeps}
use Rattle.heap_tables.specs.Asides.{LacksLinks, LacksTable, LacksValue}
use Rattle.heap_tables.specs.Seeks.{first_of}

pub not_known : (other : KnownObjects) (name : Name) → (IsKnown other name → ⊥) → get other name ≡ None
not_known other name lacks = by_option (get other name) refl
  where
    by_option : (o : Option Content) → get other name ≡ o → get other name ≡ None
    by_option None e = e
    by_option (Some c) e = absurd (lacks (ap is_some e))

-- the value of a field that isn't of the map is given away without a loss
pub gives_none : (other : KnownObjects) (value : Datum) → LacksValue other value → GivesAway other value other
gives_none other datum.Null lacks = refl
gives_none other (datum.Int i) lacks = refl
gives_none other (datum.Object name) lacks = record {
  lost = λ n walk. not_known other n (walk_keeps (λ x. IsKnown other x → ⊥) (λ a b no edge. absurd (no edge.0)) lacks walk);
  kept = λ n no. refl;
}

pub lacks_as : (other : KnownObjects) (value same : Datum) → value ≡ same → LacksValue other value → LacksValue other same
lacks_as other value same e lacks = subst (LacksValue other) e lacks

-- ---- chains

pub lacks_rest : (other : KnownObjects) (passed rest links : List Link) → links ≡ passed ++ rest → LacksLinks other links → LacksLinks other rest
lacks_rest other passed rest links e lacks = past passed (subst (LacksLinks other) e lacks)
  where
    past : (xs : List Link) → LacksLinks other (xs ++ rest) → LacksLinks other rest
    past [] h = h
    past (x ∷ xs) h = past xs h.2

pub lacks_drop : (other : KnownObjects) (n : ℕ) (links : List Link) → LacksLinks other links → LacksLinks other (drop n links)
lacks_drop other zero [] lacks = lacks
lacks_drop other zero (l ∷ links) lacks = lacks
lacks_drop other (suc n) [] lacks = lacks
lacks_drop other (suc n) (l ∷ links) lacks = lacks_drop other n links lacks.2

pub lacks_first : (other : KnownObjects) (links : List Link) → LacksLinks other links → LacksValue other (first_of links)
lacks_first other [] lacks = tt
lacks_first other (l ∷ links) lacks = lacks.0

pub lacks_head : (other known : KnownObjects) (head : Datum) (links : List Link) → IsChain known head links → LacksLinks other links → LacksValue other head
lacks_head other known head [] chain lacks = subst (LacksValue other) (sym chain) tt
lacks_head other known head (l ∷ links) chain lacks = subst (LacksValue other) (sym chain.0) lacks.0

-- ---- new objects

pub lacks_insert : (other : KnownObjects) (name : Name) (content : Content) (value : Datum) → value ≢ datum.Object name → LacksValue other value → LacksValue (insert other name content) value
lacks_insert other name content datum.Null ne lacks = tt
lacks_insert other name content (datum.Int i) ne lacks = tt
lacks_insert other name content (datum.Object x) ne lacks = λ h. lacks (subst (λ o. IsSome o) (get-other other name content x (λ e. ne (ap datum.Object e))) h)

same_object : (m n : Name) → datum.Object m ≡ datum.Object n → m ≡ n
same_object m n e = cc

-- an object in a slot isn't the next one
pub not_next : (known : KnownObjects) (value : Datum) (x y : Name) (c : Content) → value ≡ datum.Object x → get known x ≡ Some c → get known y ≡ None → value ≢ datum.Object y
not_next known value x y c is there none e = other_name known x y c none there (same_object x y (sym is ∙ e))

-- objects that only one of them leads to are given away with it
given_back : (other more : KnownObjects) (entry : Name) (Mine : Name → Type 0) → Mine entry → ((a b : Name) → Mine a → RefersKnown more a b → Mine b) → ((n : Name) → Mine n → get other n ≡ None)
    → ((n : Name) → (Mine n → ⊥) → get other n ≡ get more n) → ((n : Name) → Mine n → Walk (RefersKnown more) entry n) → LosesAll more entry other
given_back other more entry Mine mine keeps none same reach = record {
  lost = λ n walk. none n (walk_keeps Mine keeps mine walk);
  kept = λ n no. same n (λ h. no (reach n h));
}

-- a field of an entry that refers to an object
entry_reference : (front key : Datum) (n : ℕ) (b : Name) (i : ℕ) → get_or (front ∷ key ∷ datum.Int n ∷ []) i datum.Null ≡ datum.Object b → (front ≡ datum.Object b) ⊎ (key ≡ datum.Object b)
entry_reference front key n b zero e = inl e
entry_reference front key n b (suc zero) e = inr e
entry_reference front key n b (suc (suc zero)) e = cc
entry_reference front key n b (suc (suc (suc i))) e = cc

-- a new entry, whose key isn't of the map
module _ (other : KnownObjects) (entry : Name) (front key : Datum) (n : ℕ) (fresh : get other entry ≡ None) (lacks_front : LacksValue other front) (lacks_key : LacksValue other key) where
  abbrev values : List Datum
  values = front ∷ key ∷ datum.Int n ∷ []

  abbrev more : KnownObjects
  more = with_fields other entry front key n

  lacked : (v : Datum) (b : Name) → LacksValue other v → v ≡ datum.Object b → IsKnown more b → b ≡ entry
  lacked v b lacks e known =
      elim (same_or_other b entry) [
        | inl s ↦ s
        | inr o ↦ (let no : IsKnown other b → ⊥ = subst (LacksValue other) e lacks in absurd (no (subst (λ c. IsSome c) (get-other other entry (Fields values) b o) known)))
      ]

  keeps : (a b : Name) → a ≡ entry → RefersKnown more a b → b ≡ entry
  keeps a b is edge =
      let c : Contains values (datum.Object b) = subst (λ o. Contains (fields_or_none o) (datum.Object b)) (ap (get more) is ∙ get-same other entry (Fields values)) edge.1 in
      elim (entry_reference front key n b c.0 (contains_at values b c)) [ inl e ↦ lacked front b lacks_front e edge.2 | inr e ↦ lacked key b lacks_key e edge.2 ]

  pub shared_back : LosesAll (with_fields other entry front key n) entry other
  shared_back = given_back other more entry (λ x. x ≡ entry) refl keeps (λ x e. ap (get other) e ∙ fresh) (λ x o. sym (get-other other entry (Fields values) x o)) (λ x e. subst (Walk (RefersKnown more) entry) (sym e) here)

-- a new entry and its new key, which refers to nothing
module _ (other : KnownObjects) (key entry : Name) (fields : List Datum) (front : Datum) (n : ℕ) (no_key : get other key ≡ None) (no_entry : get (insert other key (Fields fields)) entry ≡ None)
    (bare : (i : ℕ) (b : Name) → get_or fields i datum.Null ≡ datum.Object b → ⊥) (lacks_front : LacksValue other front) where
  abbrev one : KnownObjects
  one = insert other key (Fields fields)

  abbrev entry_values : List Datum
  entry_values = front ∷ datum.Object key ∷ datum.Int n ∷ []

  abbrev two : KnownObjects
  two = with_fields one entry front (datum.Object key) n

  abbrev Mine : Name → Type 0
  Mine x = (x ≡ entry) ⊎ (x ≡ key)

  key_other : key ≢ entry
  key_other = other_name one key entry (Fields fields) no_entry (get-same other key (Fields fields))

  key_there : get two key ≡ Some (Fields fields)
  key_there = get-other one entry (Fields entry_values) key key_other ∙ get-same other key (Fields fields)

  same : (x : Name) → (Mine x → ⊥) → get other x ≡ get two x
  same x apart = sym (get-other one entry (Fields entry_values) x (λ e. apart (inl e)) ∙ get-other other key (Fields fields) x (λ e. apart (inr e)))

  none : (x : Name) → Mine x → get other x ≡ None
  none x mine = elim mine [
    | inl e ↦ ap (get other) e ∙ sym (get-other other key (Fields fields) entry (λ q. key_other (sym q))) ∙ no_entry
    | inr e ↦ ap (get other) e ∙ no_key
  ]

  fronted : (b : Name) → front ≡ datum.Object b → IsKnown two b → Mine b
  fronted b e known =
      elim (same_or_other b entry) [
        | inl s ↦ inl s
        | inr o ↦
            elim (same_or_other b key) [
              | inl s ↦ inr s
              | inr k ↦ (let no : IsKnown other b → ⊥ = subst (LacksValue other) e lacks_front in absurd (no (subst (λ c. IsSome c) (get-other one entry (Fields entry_values) b o ∙ get-other other key (Fields fields) b k) known)))
            ]
      ]

  both_keep : (a b : Name) → Mine a → RefersKnown two a b → Mine b
  both_keep a b mine edge = elim mine [
    | inl is ↦
        let c : Contains entry_values (datum.Object b) = subst (λ o. Contains (fields_or_none o) (datum.Object b)) (ap (get two) is ∙ get-same one entry (Fields entry_values)) edge.1 in
        elim (entry_reference front (datum.Object key) n b c.0 (contains_at entry_values b c)) [ inl e ↦ fronted b e edge.2 | inr e ↦ inr (sym (same_object key b e)) ]
    | inr is ↦
        let c : Contains fields (datum.Object b) = subst (λ o. Contains (fields_or_none o) (datum.Object b)) (ap (get two) is ∙ key_there) edge.1 in
        absurd (bare c.0 b (contains_at fields b c))
  ]

  reach : (x : Name) → Mine x → Walk (RefersKnown two) entry x
  reach x mine = elim mine [
    | inl e ↦ subst (Walk (RefersKnown two) entry) (sym e) here
    | inr e ↦
        let entry_there = get-same one entry (Fields entry_values) in
        let at : Contains entry_values (datum.Object key) = Contains-get_or entry_values 1 datum.Null (omega arith) in
        subst (Walk (RefersKnown two) entry) (sym e) (onward here (ap is_some entry_there, subst (λ o. Contains (fields_or_none o) (datum.Object key)) (sym entry_there) at, ap is_some key_there))
  ]

  pub added_back : LosesAll (with_fields (insert other key (Fields fields)) entry front (datum.Object key) n) entry other
  added_back = given_back other two entry Mine (inl refl) both_keep none same reach

-- a key refers to nothing
pub key_bare : (known : KnownObjects) (name : Name) (word : List ℕ) (knows : KnownObjects → Type 0) (p : IsKeyBegun known name word (groups (length word)) knows) → (i : ℕ) (b : Name) → get_or p.values i datum.Null ≡ datum.Object b → ⊥
key_bare known name word knows p zero b e = let first = p.first in cc
key_bare known name word knows p (suc i) b e =
    let bound = in_bounds p.values (suc i) b e in
    let size = p.size in
    let next : suc i ≡ i + 1 = omega arith in
    let digit = ap (λ j. get_or p.values j datum.Null) next ∙ p.rest i (omega (arith, bound, size)) in
    cc

-- ---- chains that changed

pub lacks_append : (other : KnownObjects) (passed rest : List Link) → LacksLinks other passed → LacksLinks other rest → LacksLinks other (passed ++ rest)
lacks_append other [] rest lacks more = more
lacks_append other (l ∷ passed) rest lacks more = (lacks.0, lacks.1, lacks_append other passed rest lacks.2 more)

pub lacks_passed : (other : KnownObjects) (passed rest : List Link) → LacksLinks other (passed ++ rest) → LacksLinks other passed
lacks_passed other [] rest lacks = tt
lacks_passed other (l ∷ passed) rest lacks = (lacks.0, lacks.1, lacks_passed other passed rest lacks.2)

-- a count that was raised
pub lacks_raised : (other : KnownObjects) (word : List ℕ) (n : ℕ) (links after : List Link) → (LacksWord word links → ⊥) → AddsCount word n links after → LacksLinks other links → LacksLinks other after
lacks_raised other word n links after there adds lacks = elim adds [
  | inl a ↦
      let whole = subst (LacksLinks other) a.3 lacks in
      let rest = lacks_rest other a.0 (a.1 ∷ a.2) links a.3 lacks in
      subst (LacksLinks other) (sym a.5) (lacks_append other a.0 (record a.1 { count = (a.1).count + n } ∷ a.2) (lacks_passed other a.0 (a.1 ∷ a.2) whole) rest)
  | inr b ↦ absurd (there b.0)
]

-- the links of a bucket
pub lacks_at : (other : KnownObjects) (n : ℕ) (links rest : List Link) (link : Link) → drop n links ≡ link ∷ rest → LacksLinks other links → IsKnown other link.key → ⊥
lacks_at other n links rest link e lacks = (subst (LacksLinks other) e (lacks_drop other n links lacks)).1

pub lacks_bucket : (other : KnownObjects) (name : Name) (buckets : ℕ → List Link) (b : ℕ) (links : List Link) → LacksTable other name buckets → LacksLinks other links → LacksTable other name (with_bucket buckets b links)
lacks_bucket other name buckets b links table lacks = record {
  head = table.head;
  links = λ c h. by_test c h (eqb c b);
}
  where
    by_test : (c : ℕ) → c < BUCKETS → (t : Bool) → LacksLinks other (cond t links (buckets c))
    by_test c h true = lacks
    by_test c h false = table.links c h

pub no_others : (other : KnownObjects) → Contains {X = KnownObjects} [] other → ⊥
no_others other c = let h = c.1 in omega (arith, h)

pub one_other : (only other : KnownObjects) → Contains (only ∷ []) other → only ≡ other
one_other only other c = at c.0 c.1 c.2
  where
    at : (i : ℕ) → i < 1 → get_or (only ∷ []) i other ≡ other → only ≡ other
    at zero h e = e
    at (suc i) h e = absurd (omega (arith, h))

pub none_known : (other : KnownObjects) (name : Name) → get other name ≡ None → IsKnown other name → ⊥
none_known other name none known = let q : IsSome {T = Content} None = subst (λ o. IsSome o) none known in true≢false (sym q)
