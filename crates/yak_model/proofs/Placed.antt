use Rattle.std.proofs.Common.{◌≡◌, ◌≢◌, ◌⊎◌, ℕ, ◌+◌, ◌*◌, ◌≤◌, ◌<◌, Bool, true, false, cond, Option, Some, List, take, length, get_or, set, refl, sym, subst, ◌∙◌, arith, inl, inr, length-take, length-set, get_or-set_same, get_or-set_other}
use Rattle.std.proofs.lemmas.Bool.{cases_eq, cases_lt, eqb-true, eq-eqb}
use Rattle.std.proofs.lemmas.List.{take-take, get_or-take, get_or_default}
use Rattle.std.proofs.lemmas.List.Sums.{sum_by_more_le}
use Rattle.std.specs.List.{sum_by}
use Rattle.std.proofs.Math.Logic.{⊎_elim}
use Rattle.std.proofs.Math.Nat.{mul-le-mul_left}
use Rattle.std.specs.Prelude.{nat_eq, ◌&&◌}
use Rattle.object_layout.specs.declared.names.Name.{Name}
use Rattle.yak_model.specs.declared.datum.Datum.{Datum}
use Rattle.yak_model.specs.declared.datum.Datum.TheVariants.{Null}
use Rattle.yak_model.specs.State.{Thing}
use Rattle.yak_model.specs.Placed.{datum_word, Places, names_of, size_by, IsAt, Tiles, Present, ObjectAt, Held, same_name, with_object, with_field}

-- up to the end of an object is no more than up to the start of a later one
ends_before : (size : Name → ℕ) (ns : List Name) (k j : ℕ) (x : Name) → k < j → j ≤ length ns → get_or ns k x ≡ x → sum_by size (take k ns) + size x ≤ sum_by size (take j ns)
ends_before size ns k j x h long e =
    let within : k < length (take j ns) = simp length-take (omega arith) in
    let le : k ≤ j = omega arith in
    let s = sum_by_more_le size (take j ns) k x within in
    let s' : sum_by size (take k ns) + size (get_or ns k x) ≤ sum_by size (take j ns) = rw (take-take k j ns le, get_or-take j ns k x h) at s in
    rw e at s'

ends_within : (size : Name → ℕ) (ns : List Name) (k : ℕ) (x : Name) → k < length ns → get_or ns k x ≡ x → sum_by size (take k ns) + size x ≤ sum_by size ns
ends_within size ns k x h e = rw e at (sum_by_more_le size ns k x h)

-- an object lies in its page
pub in_page : (w : ℕ) (size : Name → ℕ) (l : Places) (x : Name) (p k : ℕ) → Tiles w size l → IsAt l x p k → (w * p ≤ l.at x) × (l.at x + size x ≤ w * p + w)
in_page w size l x p k tiles h =
    let e : l.at x ≡ w * p + sum_by size (take k (names_of l p)) = tiles.places x p k h in
    let s = ends_within size (names_of l p) k x h.place h.name in
    let f = tiles.fits p h.page in
    (omega (arith, e), omega (arith, e, s, f))

before_page : (w : ℕ) (size : Name → ℕ) (l : Places) (x y : Name) (p k q j : ℕ) → Tiles w size l → IsAt l x p k → IsAt l y q j → p < q → l.at x + size x ≤ l.at y
before_page w size l x y p k q j tiles hx hy lt =
    let a = (in_page w size l x p k tiles hx).1 in
    let b = (in_page w size l y q j tiles hy).0 in
    let le : p + 1 ≤ q = omega arith in
    omega (arith, a, b, mul-le-mul_left w le)

before_in_page : (w : ℕ) (size : Name → ℕ) (l : Places) (x y : Name) (p k j : ℕ) → Tiles w size l → IsAt l x p k → IsAt l y p j → k < j → l.at x + size x ≤ l.at y
before_in_page w size l x y p k j tiles hx hy lt =
    let a : l.at x ≡ w * p + sum_by size (take k (names_of l p)) = tiles.places x p k hx in
    let b : l.at y ≡ w * p + sum_by size (take j (names_of l p)) = tiles.places y p j hy in
    let s = ends_before size (names_of l p) k j x lt (omega (arith, hy.place)) hx.name in
    omega (arith, a, b, s)

same_place : (l : Places) (x y : Name) (p k : ℕ) → IsAt l x p k → IsAt l y p k → x ≡ y
same_place l x y p k hx hy = sym hx.name ∙ get_or_default (names_of l p) k x y hx.place ∙ hy.name

-- two different objects lie apart
pub apart : (w : ℕ) (size : Name → ℕ) (l : Places) (x y : Name) (p k q j : ℕ) → Tiles w size l → IsAt l x p k → IsAt l y q j → x ≢ y → (l.at x + size x ≤ l.at y) ⊎ (l.at y + size y ≤ l.at x)
apart w size l x y p k q j tiles hx hy ne =
    ⊎_elim (λ (lt : p < q). inl (before_page w size l x y p k q j tiles hx hy lt))
    (λ (le : q ≤ p). ⊎_elim (λ (gt : q < p). inr (before_page w size l y x q j p k tiles hy hx gt))
    (λ (ge : p ≤ q).
    let e : q ≡ p = omega arith in
    let hy' : IsAt l y p j = subst (λ r. IsAt l y r j) e hy in
    ⊎_elim (λ (lt : k < j). inl (before_in_page w size l x y p k j tiles hx hy' lt))
    (λ (le' : j ≤ k). ⊎_elim (λ (gt : j < k). inr (before_in_page w size l y x p j k tiles hy' hx gt))
    (λ (ge' : k ≤ j).
    let f : j ≡ k = omega arith in
    absurd (ne (same_place l x y p k hx (subst (λ i. IsAt l y p i) f hy'))))
    (cases_lt j k))
    (cases_lt k j))
    (cases_lt q p))
    (cases_lt p q)

-- names that are the same by their test
and_true : (a b : Bool) → (a && b) ≡ true → (a ≡ true) × (b ≡ true)
and_true true b h = (refl, h)
and_true false b h = cc

pub same_name-true : (a b : Name) → same_name a b ≡ true → a ≡ b
same_name-true a b h =
    let both = and_true (nat_eq a.thread b.thread) (nat_eq a.serial b.serial) h in
    let t : a.thread ≡ b.thread = eqb-true a.thread b.thread both.0 in
    let k : a.serial ≡ b.serial = eqb-true a.serial b.serial both.1 in
    let x : a ≡ record { thread = a.thread; serial = a.serial } = refl in
    rw (x, t, k) refl

pub same_name-self : (a : Name) → same_name a a ≡ true
same_name-self a = rw (eq-eqb a.thread a.thread refl, eq-eqb a.serial a.serial refl) refl

-- a write outside an object leaves its words
pub elsewhere : (heap : List ℕ) (at work : Name → ℕ) (x : Name) (o : Thing) (i v : ℕ) → (i < at x) ⊎ (at x + (length o.fields + 3) ≤ i) → ObjectAt heap at work x o → ObjectAt (set heap i v) at work x o
elsewhere heap at work x o i v out h = record {
  header = get_or-set_other heap i (at x) v 0 (omega arith) ∙ h.header;
  name = get_or-set_other heap i (at x + 1) v 0 (omega arith) ∙ h.name;
  work_word = get_or-set_other heap i (at x + 2) v 0 (omega arith) ∙ h.work_word;
  fields = λ f lt. get_or-set_other heap i (at x + 3 + f) v 0 (omega arith) ∙ h.fields f lt;
}

-- a field of an object stored
here-store : (heap : List ℕ) (at work : Name → ℕ) (n : Name) (o : Thing) (f : ℕ) (v : Datum) → f < length o.fields → at n + 3 + f < length heap → ObjectAt heap at work n o → ObjectAt (set heap (at n + 3 + f) (datum_word at v)) at work n (with_field o f v)
here-store heap at work n o f v lt within h =
    let i : ℕ = at n + 3 + f in
    let w : ℕ = datum_word at v in
    record {
      header = get_or-set_other heap i (at n) w 0 (omega arith) ∙ rw (length-set o.fields f v) h.header;
      name = get_or-set_other heap i (at n + 1) w 0 (omega arith) ∙ h.name;
      work_word = get_or-set_other heap i (at n + 2) w 0 (omega arith) ∙ h.work_word;
      fields = λ g lg.
          let lg' : g < length o.fields = rw (← length-set o.fields f v) lg in
          ⊎_elim
          (λ (e : g ≡ f). rw (e, get_or-set_same heap i w 0 within, get_or-set_same o.fields f v Null lt) refl)
          (λ (ne : g ≡ f → ⊥).
          let apart_words : at n + 3 + g ≢ i = omega arith in
          rw (get_or-set_other o.fields f g v Null ne) (get_or-set_other heap i (at n + 3 + g) w 0 apart_words ∙ h.fields g lg'))
          (cases_eq g f);
    }

some-is : (a b : Thing) → Some a ≡ Some b → a ≡ b
some-is a b h = cc

store-case : (w : ℕ) (l : Places) (heap : List ℕ) (work : Name → ℕ) (objects : Name → Option Thing) (n : Name) (o : Thing) (f : ℕ) (v : Datum) → Tiles w (size_by objects) l → Present objects l → Held heap l.at work objects → objects n ≡ Some o → f < length o.fields → l.at n + 3 + f < length heap → (x : Name) (p : Thing) (b : Bool) → same_name x n ≡ b → cond b (Some (with_field o f v)) (objects x) ≡ Some p → ObjectAt (set heap (l.at n + 3 + f) (datum_word l.at v)) l.at work x p
store-case w l heap work objects n o f v tiles present held here lt within x p true same e =
    let i : x ≡ n = same_name-true x n same in
    let q : with_field o f v ≡ p = some-is (with_field o f v) p e in
    rw (i, ← q) (here-store heap l.at work n o f v lt within (held n o here))
store-case w l heap work objects n o f v tiles present held here lt within x p false other e =
    let a = present x p e in
    let b = present n o here in
    let ne : x ≢ n = λ same. absurd (let t : same_name x n ≡ true = rw same (same_name-self n) in cc) in
    let sx : size_by objects x ≡ length p.fields + 3 = rw e refl in
    let sn : size_by objects n ≡ length o.fields + 3 = rw here refl in
    let between = apart w (size_by objects) l x n a.0 a.1 b.0 b.1 tiles a.2 b.2 ne in
    let out : (l.at n + 3 + f < l.at x) ⊎ (l.at x + (length p.fields + 3) ≤ l.at n + 3 + f) =
    ⊎_elim (λ (h : l.at x + size_by objects x ≤ l.at n). inr (omega (arith, h, sx))) (λ (h : l.at n + size_by objects n ≤ l.at x). inl (omega (arith, h, sn))) between
    in
    elsewhere heap l.at work x p (l.at n + 3 + f) (datum_word l.at v) out (held x p e)

-- a field stored
pub held-store : (w : ℕ) (l : Places) (heap : List ℕ) (work : Name → ℕ) (objects : Name → Option Thing) (n : Name) (o : Thing) (f : ℕ) (v : Datum) → Tiles w (size_by objects) l → Present objects l → Held heap l.at work objects → objects n ≡ Some o → f < length o.fields → l.at n + 3 + f < length heap → Held (set heap (l.at n + 3 + f) (datum_word l.at v)) l.at work (with_object objects n (with_field o f v))
held-store w l heap work objects n o f v tiles present held here lt within x p e = store-case w l heap work objects n o f v tiles present held here lt within x p (same_name x n) refl e
