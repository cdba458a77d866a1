-- A list of addresses in the scratch area: one more, one less, and room for one more.
use Rattle.std.proofs.Common.{◌≡◌, ◌≢◌, ℕ, ◌+◌, ◌≤◌, ◌<◌, true, false, List, take, length, get_or, set, refl, sym, ap, subst, ◌∙◌, arith, inl, inr, eqb, length-take, length-set, get_or-take, get_or-set_same, get_or-set_other}
use Rattle.std.proofs.lemmas.Bool.{cases_eq, eqb-true}
use Rattle.std.proofs.lemmas.List.{get_or_default}
use Rattle.std.proofs.lemmas.Map.Keys.{IsDistinct-from_apart}
use Rattle.std.proofs.lemmas.Map.Steps.{length-le_from_distinct_below}
use Rattle.std.proofs.lemmas.Map.Views.{Contains-from_any}
use Rattle.std.specs.List.{Contains}
use Rattle.object_layout.specs.declared.names.Name.{Name}
use Rattle.heap_words.specs.declared.map.Areas.{Areas}
use Rattle.heap_words.specs.Map.{heap_length}
use Rattle.yak_model.specs.State.{Thing}
use Rattle.yak_model.specs.Stands.{StandsAs}
use Rattle.yak_model.proofs.Names.{same_or_other}
use Rattle.heap_walks.specs.Laid.{Laid, IsThing}
use Rattle.heap_walks.specs.Listed.{IsListed}
use Rattle.heap_walks.proofs.Objects.{in_heap, same_address}

no_test : (x y : ℕ) → x ≢ y → eqb x y ≡ false
no_test x y ne =
    elim (eqb x y) as (λ t. eqb x y ≡ t → t ≡ false) [
      | true ↦ λ h. absurd (ne (eqb-true x y h))
      | false ↦ λ h. refl
    ] refl

-- different numbers below a bound are no more than the bound
pub distinct_fit : (xs : List ℕ) (k n : ℕ) → k ≤ length xs → ((j : ℕ) → j < k → get_or xs j 0 < n) → ((i j : ℕ) → i < k → j < k → get_or xs i 0 ≡ get_or xs j 0 → i ≡ j) → k ≤ n
distinct_fit xs k n long below once =
    let ys : List ℕ = take k xs in
    let size : length ys ≡ k = simp length-take (omega arith) in
    let read : (i d : ℕ) → i < k → get_or ys i d ≡ get_or xs i 0 = λ i d lt. get_or-take k xs i d lt ∙ get_or_default xs i d 0 (omega arith) in
    let apart : (i j d : ℕ) → i < j → j < length ys → eqb (get_or ys i d) (get_or ys j d) ≡ false =
    λ i j d lt within.
    let ji : j < k = omega arith in
    let ii : i < k = omega arith in
    no_test (get_or ys i d) (get_or ys j d) (λ e. let same : i ≡ j = once i j ii ji (sym (read i d ii) ∙ e ∙ read j d ji) in absurd (omega arith))
    in
    let most : length ys ≤ n = length-le_from_distinct_below ys n (IsDistinct-from_apart eqb ys apart) (λ q h.
    let at : Contains ys q = Contains-from_any (λ x y e. eqb-true x y e) q ys h in
    let lt : at.0 < k = omega (arith, at.1) in
    let e : get_or xs at.0 0 ≡ q = sym (read at.0 q lt) ∙ at.2 in
    omega (arith, below at.0 lt))
    in
    omega arith

-- the list of nothing
pub none_listed : (h : Laid) (collection : Name → Type 0) (scratch : List ℕ) → ((n : Name) → collection n → ⊥) → IsListed h collection scratch 0
none_listed h collection scratch none = record {
  things = λ n i. absurd (none n i);
  listed = λ k lt. absurd (omega (arith, lt));
  placed = λ n i. absurd (none n i);
  once = λ j k lt. absurd (omega (arith, lt));
}

-- the same objects, told otherwise
pub listed_as : (h : Laid) (collection other : Name → Type 0) (scratch : List ℕ) (count : ℕ) → IsListed h collection scratch count → ((n : Name) → collection n → other n) → ((n : Name) → other n → collection n) → IsListed h other scratch count
listed_as h collection other scratch count l to from = record {
  things = λ n i. l.things n (from n i);
  listed = λ k lt. let p = l.listed k lt in (p.0, to p.0 p.1, p.2);
  placed = λ n i. l.placed n (from n i);
  once = l.once;
}

-- an object that is not on the list
module _ (m : Areas) (h : Laid) (collection : Name → Type 0) (scratch : List ℕ) (count : ℕ) (l : IsListed h collection scratch count) (stands : StandsAs m h.before h.state h.places) (long : count < length scratch) (n : Name) (o : Thing) (present : IsThing h n o) (new : collection n → ⊥) where
  elsewhere : (k : ℕ) → k < count → get_or scratch k 0 ≢ h.places.at n
  elsewhere k lt e =
      let p = l.listed k lt in
      let thing = l.things p.0 p.1 in
      let same : p.0 ≡ n = same_address m h p.0 n thing.0 o stands thing.1 present (sym p.2 ∙ e) in
      new (subst collection same p.1)

  abbrev pub grown : List ℕ
  grown = set scratch count (h.places.at n)

  pub last_word : get_or grown count 0 ≡ h.places.at n
  last_word = get_or-set_same scratch count (h.places.at n) 0 long

  pub former_word : (k : ℕ) → k < count → get_or grown k 0 ≡ get_or scratch k 0
  former_word k lt = get_or-set_other scratch count k (h.places.at n) 0 (omega arith)

  once_grown : (i j : ℕ) → i < count + 1 → j < count + 1 → get_or grown i 0 ≡ get_or grown j 0 → i ≡ j
  once_grown i j li lj e = elim (cases_eq i count) [
    | inl ei ↦ elim (cases_eq j count) [
      | inl ej ↦ ei ∙ sym ej
      | inr nj ↦
          let old : j < count = omega arith in
          absurd (elsewhere j old (sym (former_word j old) ∙ sym e ∙ ap (λ k. get_or grown k 0) ei ∙ last_word))
    ]
    | inr ni ↦ elim (cases_eq j count) [
      | inl ej ↦
          let old : i < count = omega arith in
          absurd (elsewhere i old (sym (former_word i old) ∙ e ∙ ap (λ k. get_or grown k 0) ej ∙ last_word))
      | inr nj ↦
          let oi : i < count = omega arith in
          let oj : j < count = omega arith in
          l.once i j oi oj (sym (former_word i oi) ∙ e ∙ former_word j oj)
    ]
  ]

  -- there is room for it
  pub room : count < heap_length m
  room =
      let size : count + 1 ≤ length grown = simp length-set (omega arith) in
      let below : (j : ℕ) → j < count + 1 → get_or grown j 0 < heap_length m = λ j lt. elim (cases_eq j count) [
        | inl e ↦ let q : get_or grown j 0 ≡ h.places.at n = ap (λ i. get_or grown i 0) e ∙ last_word in let b = in_heap m h n o stands present in omega (arith, q, b)
        | inr ne ↦
            let old : j < count = omega arith in
            let p = l.listed j old in
            let thing = l.things p.0 p.1 in
            let b = in_heap m h p.0 thing.0 stands thing.1 in
            omega (arith, former_word j old, p.2, b)
      ] in
      let most = distinct_fit grown (count + 1) (heap_length m) size below once_grown in
      omega (arith, most)

  -- it comes on the list
  pub one_more : (other : Name → Type 0) → other n → ((x : Name) → collection x → other x) → ((x : Name) → x ≢ n → other x → collection x) → IsListed h other grown (count + 1)
  one_more other here still before = record {
    things = λ x i. elim (same_or_other x n) [
      | inl e ↦ (o, ap h.state.objects e ∙ present)
      | inr ne ↦ l.things x (before x ne i)
    ];
    listed = λ k lt. elim (cases_eq k count) [
      | inl e ↦ (n, here, ap (λ i. get_or grown i 0) e ∙ last_word)
      | inr ne ↦
          let old : k < count = omega arith in
          let p = l.listed k old in
          (p.0, still p.0 p.1, former_word k old ∙ p.2)
    ];
    placed = λ x i. elim (same_or_other x n) [
      | inl e ↦ (count, omega arith, last_word ∙ ap h.places.at (sym e))
      | inr ne ↦ let p = l.placed x (before x ne i) in (p.0, omega (arith, p.1), former_word p.0 p.1 ∙ p.2)
    ];
    once = once_grown;
  }

-- the last object leaves the list
pub one_less : (m : Areas) (h : Laid) (collection other : Name → Type 0) (scratch : List ℕ) (last : ℕ) (n : Name) (o : Thing) → IsListed h collection scratch (last + 1) → StandsAs m h.before h.state h.places → IsThing h n o → get_or scratch last 0 ≡ h.places.at n → (other n → ⊥) → ((x : Name) → x ≢ n → collection x → other x) → ((x : Name) → other x → collection x) → IsListed h other scratch last
one_less m h collection other scratch last n o l stands present at gone still before = record {
  things = λ x i. l.things x (before x i);
  listed = λ k lt.
      let p = l.listed k (omega arith) in
      let apart : p.0 ≢ n = λ s.
      let same : k ≡ last = l.once k last (omega arith) (omega arith) (p.2 ∙ ap h.places.at s ∙ sym at) in
      omega (arith, same, lt)
      in
      (p.0, still p.0 apart p.1, p.2);
  placed = λ x i.
      let p = l.placed x (before x i) in
      let apart : p.0 ≢ last = λ s.
      let thing = l.things x (before x i) in
      let same : x ≡ n = same_address m h x n thing.0 o stands thing.1 present (sym p.2 ∙ ap (λ k. get_or scratch k 0) s ∙ at) in
      gone (subst other same i)
      in
      (p.0, omega (arith, p.1, apart), p.2);
  once = λ i j li lj e. l.once i j (omega arith) (omega arith) e;
}
