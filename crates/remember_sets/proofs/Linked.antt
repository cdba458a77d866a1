-- Chains after a slot was taken out, put in or moved.
use Rattle.std.proofs.Common.{◌≡◌, ◌≢◌, ◌⊎◌, inl, inr, ℕ, zero, suc, ◌+◌, ◌-◌, ◌≤◌, ◌<◌, List, [], ◌∷◌, ◌++◌, length, get_or, eqb, not, refl, sym, ap, subst, ◌∙◌, arith}
use Rattle.std.specs.List.{All, AllPairs, Contains}
use Rattle.std.proofs.Math.Logic.{⊎_elim}
use Rattle.std.proofs.lemmas.Bool.{cases_eq, cases_lt}
use Rattle.std.proofs.lemmas.List.Kept.{AllPairs-cons}
use Rattle.std.proofs.lemmas.List.Elements.{All-append, All-contains, All-contains_itself, All-cons, All-filter, All-tail, All-weaker, Contains-append_left, Contains-append_right, Contains-append_cases}
use Rattle.heap_words.specs.declared.map.Areas.{Areas}
use Rattle.heap_words.specs.Map.{IsAreas, heap_length}
use Rattle.heap_words.specs.Contents.{Contents}
use Rattle.epoch_lattice.specs.declared.Space.{Space}
use Rattle.epoch_lattice.specs.Lattice.{space_index}
use Rattle.yak_model.specs.Chains.{AreChains, AreLinked, IsRegionOf, former_from, former_word, head_to, head_word, next_to, next_word}
use Rattle.yak_model.proofs.Chains.{Links, contains-cases, contains-here, contains-none, contains-or, contains-there, region-index, region-own}
use Rattle.remember_sets.specs.Filed.{without_slot}
use Rattle.remember_sets.specs.Linking.{IsFormer, IsNext, former_to}
use Rattle.remember_sets.proofs.Slots.{contains-without, not-before, not-behind, pairs-head, pairs-left, pairs-right, pairs-tail, split-at, without-middle, without-none}
use Rattle.remember_sets.proofs.Edits.{Edit}

-- the words of slots that others follow agree with their order
abbrev pub Ends : List ℕ → ℕ → List ℕ → List ℕ → Type 0
Ends s w [] r = Unit {0}
Ends s w (a ∷ l) r = (next_word s a ≡ next_to (l ++ r)) × (former_word s a ≡ w) × Ends s (a + former_from) l r

pub split-ends : (s : List ℕ) (w : ℕ) (l r : List ℕ) → AreLinked s w (l ++ r) → Ends s w l r × AreLinked s (former_to w l) r
split-ends s w [] r h = (tt, h)
split-ends s w (a ∷ l) r h = (let p = split-ends s (a + former_from) l r h.2 in ((h.0, h.1, p.0), p.1))

pub join-ends : (s : List ℕ) (w : ℕ) (l r : List ℕ) → Ends s w l r → AreLinked s (former_to w l) r → AreLinked s w (l ++ r)
join-ends s w [] r h g = g
join-ends s w (a ∷ l) r h g = (h.0, h.1, join-ends s (a + former_from) l r h.2 g)

-- what the second word of a slot behind others names: the last of them
pub former-last : (w : ℕ) (l : List ℕ) (b : ℕ) → w < former_from → former_to w l ≡ b + former_from → Contains l b
former-last w [] b lt e = absurd (omega (arith, lt, e))
former-last w (a ∷ []) b lt e = (0, omega arith, omega (arith, e))
former-last w (a ∷ c ∷ l) b lt e = contains-there a (c ∷ l) b (former-last w (c ∷ l) b lt e)

pub former-slot : (w : ℕ) (a : ℕ) (l : List ℕ) → former_from ≤ former_to w (a ∷ l)
former-slot w a [] = omega arith
former-slot w a (c ∷ l) = former-slot w c l

pub former-names : (m : Areas) (w : ℕ) (l : List ℕ) → All (λ a. a < heap_length m) l → (former_to w l ≡ w) ⊎ ((b : ℕ) × (b < heap_length m) × (former_to w l ≡ b + former_from))
former-names m w [] h = inl refl
former-names m w (a ∷ []) h = inr (a, All-contains (λ b. b < heap_length m) (a ∷ []) a h (contains-here a []), refl)
former-names m w (a ∷ c ∷ l) h =
    ⊎_elim (λ (e : former_to w (c ∷ l) ≡ w). ⊎_elim (λ (lt : w < former_from). absurd (omega (arith, e, lt, former-slot w c l))) (λ (le : former_from ≤ w). inl e) (cases_lt w former_from))
    (λ (p : (b : ℕ) × (b < heap_length m) × (former_to w (c ∷ l) ≡ b + former_from)). inr p)
    (former-names m w (c ∷ l) (λ k d lt. h (suc k) d (omega (arith, lt))))

-- the words of a list stay where those of its slots do
pub frame : (s t : List ℕ) (w : ℕ) (l : List ℕ) → AreLinked s w l → ((b : ℕ) → Contains l b → next_word t b ≡ next_word s b) → ((b : ℕ) → Contains l b → former_word t b ≡ former_word s b) → AreLinked t w l
frame s t w [] h p q = tt
frame s t w (a ∷ l) h p q = (
  p a (contains-here a l) ∙ h.0,
  q a (contains-here a l) ∙ h.1,
  frame s t (a + former_from) l h.2 (λ b c. p b (contains-there a l b c)) (λ b c. q b (contains-there a l b c)),
)

-- the last slot leads to others
pub retail : (s t : List ℕ) (w : ℕ) (l r k : List ℕ) → AllPairs (λ (x y : ℕ). x ≢ y) l → Ends s w l r
    → ((b : ℕ) → Contains l b → former_to w l ≡ b + former_from → next_word t b ≡ next_to k)
    → ((b : ℕ) → Contains l b → former_to w l ≢ b + former_from → next_word t b ≡ next_word s b)
    → ((b : ℕ) → Contains l b → former_word t b ≡ former_word s b) → Ends t w l k
retail s t w [] r k once h at other same = tt
retail s t w (a ∷ []) r k once h at other same = (at a (contains-here a []) refl, same a (contains-here a []) ∙ h.1, tt)
retail s t w (a ∷ c ∷ l) r k once h at other same =
    let not_last : former_to w (a ∷ c ∷ l) ≢ a + former_from = λ e. pairs-head a (c ∷ l) once (former-last 0 (c ∷ l) a (omega arith) e) in (
      other a (contains-here a (c ∷ l)) not_last ∙ h.0,
      same a (contains-here a (c ∷ l)) ∙ h.1,
      retail s t (a + former_from) (c ∷ l) r k (pairs-tail a (c ∷ l) once) h.2
          (λ b d e. at b (contains-there a (c ∷ l) b d) e)
          (λ b d e. other b (contains-there a (c ∷ l) b d) e)
          (λ b d. same b (contains-there a (c ∷ l) b d)),
    )

-- the first slot follows others
pub rehead : (s t : List ℕ) (v w : ℕ) (l : List ℕ) → AllPairs (λ (x y : ℕ). x ≢ y) l → AreLinked s v l
    → ((b : ℕ) → Contains l b → next_word t b ≡ next_word s b)
    → ((b : ℕ) → Contains l b → next_to l ≡ b + 2 → former_word t b ≡ w)
    → ((b : ℕ) → Contains l b → next_to l ≢ b + 2 → former_word t b ≡ former_word s b) → AreLinked t w l
rehead s t v w [] once h same at other = tt
rehead s t v w (a ∷ l) once h same at other = (
  same a (contains-here a l) ∙ h.0,
  at a (contains-here a l) (omega arith),
  frame s t (a + former_from) l h.2 (λ b c. same b (contains-there a l b c))
      (λ b c. other b (contains-there a l b c) (λ e. pairs-head a l once (subst (Contains l) (omega (arith, e)) c))),
)

-- the first slot of a list is what a first word names
pub next-first : (l : List ℕ) (b : ℕ) → next_to l ≡ b + 2 → Contains l b
next-first [] b e = absurd (omega (arith, e))
next-first (a ∷ l) b e = (0, omega arith, omega (arith, e))

pub linked-next : (s : List ℕ) (w : ℕ) (l : List ℕ) (b : ℕ) → AreLinked s w l → Contains l b → 1 ≤ next_word s b
linked-next s w [] b h c = absurd (contains-none b c)
linked-next s w (a ∷ l) b h c =
    ⊎_elim (λ (e : a ≡ b). subst (λ n. 1 ≤ next_word s n) e (omega (arith, h.0)))
    (λ (d : Contains l b). linked-next s (a + former_from) l b h.2 d)
    (contains-cases a l b c)

-- the two parts of a list have nothing in common
pub parts-apart : (l r : List ℕ) (b : ℕ) → AllPairs (λ (x y : ℕ). x ≢ y) (l ++ r) → Contains l b → Contains r b → ⊥
parts-apart [] r b once c d = contains-none b c
parts-apart (a ∷ l) r b once c d =
    ⊎_elim (λ (e : a ≡ b). pairs-head a (l ++ r) once (Contains-append_right l r a (subst (Contains r) (sym e) d)))
    (λ (k : Contains l b). parts-apart l r b (pairs-tail a (l ++ r) once) k d)
    (contains-cases a l b c)

-- the number that the second word behind others has is a region's only where there are none
former-region : (w v : ℕ) (l : List ℕ) → v < former_from → former_to w l ≡ v → w ≡ v
former-region w v [] lt e = e
former-region w v (a ∷ l) lt e = absurd (omega (arith, lt, e, former-slot w a l))

-- the lists before and behind a slot, where its neighbours are set
record Parts (s t : List ℕ) (w : ℕ) (before behind k : List ℕ) (v : ℕ) : Type 0 where
  ends : Ends t w before k
  rest : AreLinked t v behind

parts-linked : (m : Areas) (c d : Contents) (w v : ℕ) (l1 l2 r k : List ℕ) (former next ahead behind a vn vf : ℕ) → Edit m c d former next ahead behind a vn vf → former ≡ former_to w l1 → next ≡ next_to l2 → ahead ≡ next_to k → w < former_from → Ends c.sets w l1 r → AreLinked c.sets v l2 → AllPairs (λ (x y : ℕ). x ≢ y) (l1 ++ l2) → (Contains l1 a → ⊥) → (Contains l2 a → ⊥) → Parts c.sets d.sets w l1 l2 k behind
parts-linked m c d w v l1 l2 r k former next ahead behind a vn vf e fe ne ae lt ends rest once n1 n2 =
    let apart : (b : ℕ) → Contains l1 b → b ≢ a = λ b i z. n1 (subst (Contains l1) z i) in
    let apart2 : (b : ℕ) → Contains l2 b → b ≢ a = λ b i z. n2 (subst (Contains l2) z i) in
    record {
      ends = retail c.sets d.sets w l1 r k (pairs-left l1 l2 once) ends
          (λ b i z. e.next_at b (apart b i) (fe ∙ z) ∙ ae)
          (λ b i z. e.next_other b (apart b i) (λ y. z (sym fe ∙ y)))
          (λ b i. e.former_other b (apart b i) (λ y. parts-apart l1 l2 b once i (next-first l2 b (sym ne ∙ y))));
      rest = rehead c.sets d.sets v behind l2 (pairs-right l1 l2 once) rest
          (λ b i. e.next_other b (apart2 b i) (λ y. parts-apart l1 l2 b once (former-last w l1 b lt (sym fe ∙ y)) i))
          (λ b i z. e.former_at b (apart2 b i) (ne ∙ z))
          (λ b i z. e.former_other b (apart2 b i) (λ y. z (sym ne ∙ y)));
    }

head-after : (m : Areas) (c d : Contents) (x : Space) (l1 r k : List ℕ) (former next ahead behind a vn vf : ℕ) → IsAreas m → IsRegionOf m x → Edit m c d former next ahead behind a vn vf → former ≡ former_to (space_index x) l1 → ahead ≡ next_to k → head_word c.firsts x ≡ head_to (l1 ++ r) → head_word d.firsts x ≡ head_to (l1 ++ k)
head-after m c d x [] r k former next ahead behind a vn vf areas q e fe ae h = e.head x q fe ∙ omega (arith, ae)
head-after m c d x (b ∷ l1) r k former next ahead behind a vn vf areas q e fe ae h =
    e.heads x q (λ z. omega (arith, z, fe, former-slot (space_index x) b l1, (region-index m x areas q).1)) ∙ h

-- a chain that has neither the slot nor its neighbours stays
record Stays (m : Areas) (c d : Contents) (y : Space) (l : List ℕ) : Type 0 where
  head : head_word d.firsts y ≡ head_word c.firsts y
  linked : AreLinked c.sets (space_index y) l → AreLinked d.sets (space_index y) l

other-stays : (m : Areas) (c d : Contents) (x y : Space) (l l1 l2 : List ℕ) (former next ahead behind a vn vf : ℕ) → IsAreas m → IsRegionOf m x → IsRegionOf m y → (y ≡ x → ⊥) → Edit m c d former next ahead behind a vn vf → former ≡ former_to (space_index x) l1 → next ≡ next_to l2 → (Contains l a → ⊥) → ((b : ℕ) → Contains l b → Contains l1 b → ⊥) → ((b : ℕ) → Contains l b → Contains l2 b → ⊥) → Stays m c d y l
other-stays m c d x y l l1 l2 former next ahead behind a vn vf areas q r ne e fe ne2 n n1 n2 =
    let ix = region-index m x areas q in
    let iy = region-index m y areas r in
    let apart : (b : ℕ) → Contains l b → b ≢ a = λ b i z. n (subst (Contains l) z i) in
    record {
      head = e.heads y r (λ z. ne (region-own m y x areas r q (sym (former-region (space_index x) (space_index y) l1 iy.1 (sym fe ∙ z)))));
      linked = λ h. frame c.sets d.sets (space_index y) l h
          (λ b i. e.next_other b (apart b i) (λ z. n1 b i (former-last (space_index x) l1 b ix.1 (sym fe ∙ z))))
          (λ b i. e.former_other b (apart b i) (λ z. n2 b i (next-first l2 b (sym ne2 ∙ z))));
    }

-- a word of the heap that is in no chain keeps its words
free-stays : (m : Areas) (c d : Contents) (w : ℕ) (l1 l2 : List ℕ) (former next ahead behind a vn vf b : ℕ) → Edit m c d former next ahead behind a vn vf → w < former_from → former ≡ former_to w l1 → next ≡ next_to l2 → b ≢ a → (Contains l1 b → ⊥) → (Contains l2 b → ⊥) → (next_word c.sets b ≡ 0) × (former_word c.sets b ≡ 0) → (next_word d.sets b ≡ 0) × (former_word d.sets b ≡ 0)
free-stays m c d w l1 l2 former next ahead behind a vn vf b e lt fe ne apart n1 n2 z = (
  e.next_other b apart (λ y. n1 (former-last w l1 b lt (sym fe ∙ y))) ∙ z.0,
  e.former_other b apart (λ y. n2 (next-first l2 b (sym ne ∙ y))) ∙ z.1,
)

-- where a slot stands in its chain
pub record Stood (m : Areas) (c : Contents) (ch : Space → List ℕ) (x : Space) (a : ℕ) : Type 0 where
  pub before : List ℕ
  pub behind : List ℕ
  pub chain_is : ch x ≡ before ++ a ∷ behind
  pub not_before : Contains before a → ⊥
  pub not_behind : Contains behind a → ⊥
  pub once : AllPairs (λ (x y : ℕ). x ≢ y) (before ++ a ∷ behind)
  pub ends : Ends c.sets (space_index x) before (a ∷ behind)
  pub rest : AreLinked c.sets (a + former_from) behind
  pub former : former_word c.sets a ≡ former_to (space_index x) before
  pub next : next_word c.sets a ≡ next_to behind
  pub is_former : IsFormer m (former_word c.sets a)
  pub is_next : IsNext m (next_word c.sets a)

next-fits : (m : Areas) (l : List ℕ) → All (λ a. a < heap_length m) l → IsNext m (next_to l)
next-fits m [] h = (omega arith, omega arith)
next-fits m (a ∷ l) h = (omega arith, omega (arith, All-contains (λ b. b < heap_length m) (a ∷ l) a h (contains-here a l)))

all-left : (m : Areas) (l r : List ℕ) → All (λ a. a < heap_length m) (l ++ r) → All (λ a. a < heap_length m) l
all-left m l r h = All-weaker (Contains l) (λ a. a < heap_length m) (λ a c. All-contains (λ b. b < heap_length m) (l ++ r) a h (Contains-append_left l r a c)) l (All-contains_itself l)

all-right : (m : Areas) (l r : List ℕ) → All (λ a. a < heap_length m) (l ++ r) → All (λ a. a < heap_length m) r
all-right m l r h = All-weaker (Contains r) (λ a. a < heap_length m) (λ a c. All-contains (λ b. b < heap_length m) (l ++ r) a h (Contains-append_right l r a c)) r (All-contains_itself r)

former-fits : (m : Areas) (x : Space) (l : List ℕ) → IsRegionOf m x → All (λ a. a < heap_length m) l → IsFormer m (former_to (space_index x) l)
former-fits m x l q h =
    ⊎_elim (λ (e : former_to (space_index x) l ≡ space_index x). inl (x, q, e))
    (λ (p : (b : ℕ) × (b < heap_length m) × (former_to (space_index x) l ≡ b + former_from)). inr p)
    (former-names m (space_index x) l h)

pub stood : (m : Areas) (c : Contents) (ch : Space → List ℕ) (x : Space) (a : ℕ) → AreChains m c.firsts c.sets ch → IsRegionOf m x → Contains (ch x) a → Stood m c ch x a
stood m c ch x a h q i =
    let p = split-at a (ch x) i in
    let l1 : List ℕ = p.0 in
    let l2 : List ℕ = p.1 in
    let e : ch x ≡ l1 ++ a ∷ l2 = p.2 in
    let once : AllPairs (λ (x y : ℕ). x ≢ y) (l1 ++ a ∷ l2) = subst (AllPairs (λ (x y : ℕ). x ≢ y)) e (h.once x q) in
    let s = split-ends c.sets (space_index x) l1 (a ∷ l2) (subst (AreLinked c.sets (space_index x)) e (h.linked x q)) in
    let fits : All (λ b. b < heap_length m) (l1 ++ a ∷ l2) = subst (All (λ b. b < heap_length m)) e (h.within x q) in
    let rest_fits : All (λ b. b < heap_length m) l2 = All-tail (λ b. b < heap_length m) a l2 (all-right m l1 (a ∷ l2) fits) in
    record {
      before = l1;
      behind = l2;
      chain_is = e;
      not_before = not-before l1 l2 a once;
      not_behind = not-behind l1 l2 a once;
      once = once;
      ends = s.0;
      rest = s.1.2;
      former = s.1.1;
      next = s.1.0;
      is_former = subst (IsFormer m) (sym s.1.1) (former-fits m x l1 q (all-left m l1 (a ∷ l2) fits));
      is_next = subst (IsNext m) (sym s.1.0) (next-fits m l2 rest_fits);
    }

-- a list without a slot in the middle is apart still
once-without : (l1 l2 : List ℕ) (a : ℕ) → AllPairs (λ (x y : ℕ). x ≢ y) (l1 ++ a ∷ l2) → AllPairs (λ (x y : ℕ). x ≢ y) (l1 ++ l2)
once-without [] l2 a h = pairs-tail a l2 h
once-without (b ∷ l1) l2 a h =
    AllPairs-cons (λ (x y : ℕ). x ≢ y) b (l1 ++ l2)
    (All-weaker (Contains (l1 ++ l2)) (λ y. b ≢ y) (λ y i z.
    pairs-head b (l1 ++ a ∷ l2) h (subst (Contains (l1 ++ a ∷ l2)) (sym z) (⊎_elim (λ (c : Contains l1 y). Contains-append_left l1 (a ∷ l2) y c) (λ (c : Contains l2 y). Contains-append_right l1 (a ∷ l2) y (contains-there a l2 y c)) (Contains-append_cases l1 l2 y i))))
    (l1 ++ l2) (All-contains_itself (l1 ++ l2)))
    (once-without l1 l2 a (pairs-tail b (l1 ++ a ∷ l2) h))

-- a slot of one of the parts is one of the list
part-of : (l1 l2 : List ℕ) (a b : ℕ) → Contains l1 b ⊎ Contains l2 b → Contains (l1 ++ a ∷ l2) b
part-of l1 l2 a b h = ⊎_elim (λ (c : Contains l1 b). Contains-append_left l1 (a ∷ l2) b c) (λ (c : Contains l2 b). Contains-append_right l1 (a ∷ l2) b (contains-there a l2 b c)) h

-- the chains after a slot was taken out of its chain
pub taken-out : (m : Areas) (c d : Contents) (ch : Space → List ℕ) (x : Space) (a : ℕ) → IsAreas m → AreChains m c.firsts c.sets ch → IsRegionOf m x → (p : Stood m c ch x a) → (let former = former_word c.sets a in let next = next_word c.sets a in Edit m c d former next next former a 0 0) → Links m d.firsts d.sets (λ y. without_slot a (ch y))
taken-out m c d ch x a areas h q p e =
    let l1 : List ℕ = p.before in
    let l2 : List ℕ = p.behind in
    let w : ℕ = space_index x in
    let lw : w < former_from = (region-index m x areas q).1 in
    let once : AllPairs (λ (x y : ℕ). x ≢ y) (l1 ++ l2) = once-without l1 l2 a p.once in
    let left : without_slot a (ch x) ≡ l1 ++ l2 = ap (without_slot a) p.chain_is ∙ without-middle a l1 l2 p.not_before p.not_behind in
    let parts = parts-linked m c d w (a + former_from) l1 l2 (a ∷ l2) l2 (former_word c.sets a) (next_word c.sets a) (next_word c.sets a) (former_word c.sets a) a 0 0 e p.former p.next p.next lw p.ends p.rest once p.not_before p.not_behind in
    let in_x : (b : ℕ) → Contains l1 b ⊎ Contains l2 b → Contains (ch x) b = λ b i. subst (λ (l : List ℕ). Contains l b) (sym p.chain_is) (part-of l1 l2 a b i) in
    let stays : (y : Space) → IsRegionOf m y → (Contains (ch y) a → ⊥) → Stays m c d y (ch y) =
    λ y r n.
    let ne : y ≡ x → ⊥ = λ z. n (subst (λ s. Contains (ch s) a) (sym z) (subst (λ (l : List ℕ). Contains l a) (sym p.chain_is) (Contains-append_right l1 (a ∷ l2) a (contains-here a l2)))) in
    other-stays m c d x y (ch y) l1 l2 (former_word c.sets a) (next_word c.sets a) (next_word c.sets a) (former_word c.sets a) a 0 0 areas q r ne e p.former p.next n
    (λ b i j. ne (h.apart y x b r q i (in_x b (inl j))))
    (λ b i j. ne (h.apart y x b r q i (in_x b (inr j)))) in
    let at_x : Contains (ch x) a = subst (λ (l : List ℕ). Contains l a) (sym p.chain_is) (Contains-append_right l1 (a ∷ l2) a (contains-here a l2)) in
    record {
      heads = λ y r.
          ⊎_elim (λ (i : Contains (ch y) a).
          subst (λ s. head_word d.firsts s ≡ head_to (without_slot a (ch s))) (h.apart x y a q r at_x i)
          (head-after m c d x l1 (a ∷ l2) l2 (former_word c.sets a) (next_word c.sets a) (next_word c.sets a) (former_word c.sets a) a 0 0 areas q e p.former p.next (h.heads x q ∙ ap head_to p.chain_is) ∙ ap head_to (sym left)))
          (λ (n : Contains (ch y) a → ⊥). (stays y r n).head ∙ h.heads y r ∙ ap head_to (sym (without-none a (ch y) n)))
          (contains-or a (ch y));
      linked = λ y r.
          ⊎_elim (λ (i : Contains (ch y) a).
          subst (λ s. AreLinked d.sets (space_index s) (without_slot a (ch s))) (h.apart x y a q r at_x i)
          (subst (AreLinked d.sets w) (sym left) (join-ends d.sets w l1 l2 parts.ends (subst (λ n. AreLinked d.sets n l2) p.former parts.rest))))
          (λ (n : Contains (ch y) a → ⊥). subst (AreLinked d.sets (space_index y)) (sym (without-none a (ch y) n)) ((stays y r n).linked (h.linked y r)))
          (contains-or a (ch y));
      within = λ y r. All-filter (λ b. not (eqb b a)) (λ b. b < heap_length m) (ch y) (h.within y r);
      free = λ b lt none.
          ⊎_elim (λ (same : b ≡ a). subst (λ n. (next_word d.sets n ≡ 0) × (former_word d.sets n ≡ 0)) (sym same) (e.next_here, e.former_here))
          (λ (ne : b ≡ a → ⊥).
          let no : (y : Space) → IsRegionOf m y → Contains (ch y) b → ⊥ = λ y r i. none y r (contains-without a b (ch y) ne i) in
          free-stays m c d w l1 l2 (former_word c.sets a) (next_word c.sets a) (next_word c.sets a) (former_word c.sets a) a 0 0 b e lw p.former p.next ne (λ i. no x q (in_x b (inl i))) (λ i. no x q (in_x b (inr i))) (h.free b lt no))
          (cases_eq b a);
    }

-- the chains after a slot was put into one
pub record PutIn (m : Areas) (ch new : Space → List ℕ) (x : Space) (before behind : List ℕ) (a : ℕ) : Type 0 where
  pub region : IsRegionOf m x
  pub was : ch x ≡ before ++ behind
  pub here : new x ≡ before ++ a ∷ behind
  pub elsewhere : (y : Space) → IsRegionOf m y → (y ≡ x → ⊥) → new y ≡ ch y
  pub fits : a < heap_length m
  pub apart : (y : Space) → IsRegionOf m y → Contains (ch y) a → ⊥

pub put-in : (m : Areas) (c d : Contents) (ch new : Space → List ℕ) (x : Space) (l1 l2 : List ℕ) (a former next : ℕ) → IsAreas m → AreChains m c.firsts c.sets ch → PutIn m ch new x l1 l2 a → former ≡ former_to (space_index x) l1 → next ≡ next_to l2 → Edit m c d former next (a + 2) (a + former_from) a next former → Links m d.firsts d.sets new
put-in m c d ch new x l1 l2 a former next areas h p fe ne e =
    let q : IsRegionOf m x = p.region in
    let w : ℕ = space_index x in
    let lw : w < former_from = (region-index m x areas q).1 in
    let in_x : (b : ℕ) → Contains l1 b ⊎ Contains l2 b → Contains (ch x) b = λ b i. subst (λ (l : List ℕ). Contains l b) (sym p.was) (⊎_elim (λ (c : Contains l1 b). Contains-append_left l1 l2 b c) (λ (c : Contains l2 b). Contains-append_right l1 l2 b c) i) in
    let once : AllPairs (λ (x y : ℕ). x ≢ y) (l1 ++ l2) = subst (AllPairs (λ (x y : ℕ). x ≢ y)) p.was (h.once x q) in
    let s = split-ends c.sets w l1 l2 (subst (AreLinked c.sets w) p.was (h.linked x q)) in
    let n1 : Contains l1 a → ⊥ = λ i. p.apart x q (in_x a (inl i)) in
    let n2 : Contains l2 a → ⊥ = λ i. p.apart x q (in_x a (inr i)) in
    let ahead : a + 2 ≡ next_to (a ∷ l2) = omega arith in
    let parts = parts-linked m c d w (former_to w l1) l1 l2 l2 (a ∷ l2) former next (a + 2) (a + former_from) a next former e fe ne ahead lw s.0 s.1 once n1 n2 in
    let here_linked : AreLinked d.sets w (l1 ++ a ∷ l2) = join-ends d.sets w l1 (a ∷ l2) parts.ends (e.next_here ∙ ne, e.former_here ∙ fe, parts.rest) in
    let stays : (y : Space) → IsRegionOf m y → (y ≡ x → ⊥) → Stays m c d y (ch y) =
    λ y r n. other-stays m c d x y (ch y) l1 l2 former next (a + 2) (a + former_from) a next former areas q r n e fe ne (p.apart y r)
    (λ b i j. n (h.apart y x b r q i (in_x b (inl j))))
    (λ b i j. n (h.apart y x b r q i (in_x b (inr j)))) in
    let or_x : (y : Space) → IsRegionOf m y → (x ≡ y) ⊎ (y ≡ x → ⊥) = λ y r. ⊎_elim (λ (i : space_index x ≡ space_index y). inl (region-own m x y areas q r i)) (λ (i : space_index x ≡ space_index y → ⊥). inr (λ z. i (ap space_index (sym z)))) (cases_eq (space_index x) (space_index y)) in
    record {
      heads = λ y r.
          ⊎_elim (λ (i : x ≡ y). subst (λ s. head_word d.firsts s ≡ head_to (new s)) i (head-after m c d x l1 l2 (a ∷ l2) former next (a + 2) (a + former_from) a next former areas q e fe ahead (h.heads x q ∙ ap head_to p.was) ∙ ap head_to (sym p.here)))
          (λ (n : y ≡ x → ⊥). (stays y r n).head ∙ h.heads y r ∙ ap head_to (sym (p.elsewhere y r n)))
          (or_x y r);
      linked = λ y r.
          ⊎_elim (λ (i : x ≡ y). subst (λ s. AreLinked d.sets (space_index s) (new s)) i (subst (AreLinked d.sets w) (sym p.here) here_linked))
          (λ (n : y ≡ x → ⊥). subst (AreLinked d.sets (space_index y)) (sym (p.elsewhere y r n)) ((stays y r n).linked (h.linked y r)))
          (or_x y r);
      within = λ y r.
          ⊎_elim (λ (i : x ≡ y).
          let fits : All (λ b. b < heap_length m) (l1 ++ l2) = subst (All (λ b. b < heap_length m)) p.was (h.within x q) in
          subst (λ s. All (λ b. b < heap_length m) (new s)) i (subst (All (λ b. b < heap_length m)) (sym p.here) (All-append (λ b. b < heap_length m) l1 (a ∷ l2) (all-left m l1 l2 fits) (All-cons (λ b. b < heap_length m) a l2 p.fits (all-right m l1 l2 fits)))))
          (λ (n : y ≡ x → ⊥). subst (All (λ b. b < heap_length m)) (sym (p.elsewhere y r n)) (h.within y r))
          (or_x y r);
      free = λ b lt none.
          let at_x : Contains l1 b ⊎ Contains (a ∷ l2) b → ⊥ = λ i. none x q (subst (λ (l : List ℕ). Contains l b) (sym p.here) (⊎_elim (λ (c : Contains l1 b). Contains-append_left l1 (a ∷ l2) b c) (λ (c : Contains (a ∷ l2) b). Contains-append_right l1 (a ∷ l2) b c) i)) in
          let not_a : b ≡ a → ⊥ = λ same. at_x (inr (subst (Contains (a ∷ l2)) (sym same) (contains-here a l2))) in
          let no_x : Contains (ch x) b → ⊥ = λ i. at_x (⊎_elim (λ (c : Contains l1 b). inl c) (λ (c : Contains l2 b). inr (contains-there a l2 b c)) (Contains-append_cases l1 l2 b (subst (λ (l : List ℕ). Contains l b) p.was i))) in
          let no : (y : Space) → IsRegionOf m y → Contains (ch y) b → ⊥ =
          λ y r i.
          ⊎_elim (λ (z : x ≡ y). no_x (subst (λ s. Contains (ch s) b) (sym z) i))
          (λ (n : y ≡ x → ⊥). none y r (subst (λ (l : List ℕ). Contains l b) (sym (p.elsewhere y r n)) i))
          (or_x y r) in
          free-stays m c d w l1 l2 former next (a + 2) (a + former_from) a next former b e lw fe ne not_a (λ i. no_x (in_x b (inl i))) (λ i. no_x (in_x b (inr i))) (h.free b lt no);
    }

-- the words that name neighbours name words of the heap
pub fits-neighbours : (m : Areas) (c : Contents) (ch : Space → List ℕ) (x : Space) (l1 l2 : List ℕ) → AreChains m c.firsts c.sets ch → IsRegionOf m x → ch x ≡ l1 ++ l2 → IsFormer m (former_to (space_index x) l1) × IsNext m (next_to l2)
fits-neighbours m c ch x l1 l2 h q e =
    let fits : All (λ b. b < heap_length m) (l1 ++ l2) = subst (All (λ b. b < heap_length m)) e (h.within x q) in
    (former-fits m x l1 q (all-left m l1 l2 fits), next-fits m l2 (all-right m l1 l2 fits))

-- where a head and a first word lead
pub head-none : (l : List ℕ) → head_to l ≡ 0 → l ≡ []
head-none [] e = refl
head-none (a ∷ l) e = absurd (omega (arith, e))

pub head-some : (l : List ℕ) → head_to l ≢ 0 → (0 < length l) × (get_or l 0 0 ≡ head_to l - 1)
head-some [] ne = absurd (ne refl)
head-some (a ∷ l) ne = (omega arith, omega arith)

pub next-at : (s : List ℕ) (w : ℕ) (l : List ℕ) (k : ℕ) → AreLinked s w l → k < length l → ((k + 1 ≡ length l) × (next_word s (get_or l k 0) ≡ 1)) ⊎ ((k + 1 < length l) × (next_word s (get_or l k 0) ≡ get_or l (k + 1) 0 + 2))
next-at s w [] k h lt = absurd (omega arith)
next-at s w (a ∷ []) zero h lt = inl (omega arith, h.0)
next-at s w (a ∷ b ∷ l) zero h lt = inr (omega arith, omega (arith, h.0))
next-at s w (a ∷ l) (suc k) h lt =
    let more : suc k + 1 ≡ suc (k + 1) = omega arith in
    ⊎_elim (λ (p : (k + 1 ≡ length l) × (next_word s (get_or l k 0) ≡ 1)). inl (omega (arith, p.0), p.1))
    (λ (p : (k + 1 < length l) × (next_word s (get_or l k 0) ≡ get_or l (k + 1) 0 + 2)). inr (omega (arith, p.0), p.1 ∙ ap (λ n. get_or (a ∷ l) n 0 + 2) (sym more)))
    (next-at s (a + former_from) l k h.2 (omega (arith, lt)))

-- a slot that stands in a chain is one of it
pub at-stood : (m : Areas) (c : Contents) (ch : Space → List ℕ) (x : Space) (a : ℕ) → Stood m c ch x a → Contains (ch x) a
at-stood m c ch x a p = subst (λ (l : List ℕ). Contains l a) (sym p.chain_is) (Contains-append_right p.before (a ∷ p.behind) a (contains-here a p.behind))
