-- Chains after slots were filed one after another.
use Rattle.std.proofs.Common.{◌≡◌, ◌≢◌, ◌↔◌, ◌⊎◌, inl, inr, ℕ, zero, suc, ◌+◌, ◌-◌, ◌<◌, true, false, cond, List, [], ◌∷◌, ◌++◌, take, drop, length, get_or, set, replicate, refl, sym, ap, subst, ◌∙◌, arith}
use Rattle.std.specs.List.{Contains, flat_map}
use Rattle.std.proofs.Math.Logic.{⊎_elim}
use Rattle.std.proofs.lemmas.Bool.{cases_Bool, cond-false, cond-true, true≢false}
use Rattle.std.proofs.lemmas.List.{append-nil, append_assoc, take_more}
use Rattle.heap_words.specs.declared.map.Areas.{Areas}
use Rattle.heap_words.specs.Contents.{Contents, with_buffer}
use Rattle.epoch_lattice.specs.declared.Space.{Space}
use Rattle.yak_model.proofs.Chains.{contains-cases, contains-here, contains-none, contains-or, contains-there}
use Rattle.remember_sets.specs.Filed.{all_filed, enters, filed, with_no_logs, with_sets, without_slot}
use Rattle.remember_sets.proofs.Slots.{contains-without, without-contains}
use Rattle.remember_sets.proofs.Entering.{enters-same}

-- one slot more, and the slots of two lists
pub all_filed-append : (m : Areas) (c : Contents) (x : Space) (l k s : List ℕ) → all_filed m c x (l ++ k) s ≡ all_filed m c x k (all_filed m c x l s)
all_filed-append m c x [] k s = refl
all_filed-append m c x (a ∷ l) k s = all_filed-append m c x l k (filed m c x a s)

pub all_filed-more : (m : Areas) (c : Contents) (x : Space) (l s : List ℕ) (i : ℕ) → i < length l → all_filed m c x (take (i + 1) l) s ≡ filed m c x (get_or l i 0) (all_filed m c x (take i l) s)
all_filed-more m c x l s i lt = ap (λ (k : List ℕ). all_filed m c x k s) (take_more l i 0 lt) ∙ all_filed-append m c x (take i l) (get_or l i 0 ∷ []) s

-- filing goes by the heap and the page table alone
pub filed-same : (m : Areas) (c d : Contents) (x : Space) (a : ℕ) (s : List ℕ) → d.heap ≡ c.heap → d.table ≡ c.table → filed m d x a s ≡ filed m c x a s
filed-same m c d x a s h t = ap (λ b. cond b (a ∷ without_slot a s) (without_slot a s)) (enters-same m c d x a h t)

pub all_filed-same : (m : Areas) (c d : Contents) (x : Space) (l s : List ℕ) → d.heap ≡ c.heap → d.table ≡ c.table → all_filed m d x l s ≡ all_filed m c x l s
all_filed-same m c d x [] s h t = refl
all_filed-same m c d x (a ∷ l) s h t = ap (λ k. all_filed m d x l k) (filed-same m c d x a s h t) ∙ all_filed-same m c d x l (filed m c x a s) h t

-- which slots a chain has after slots were filed
pub filed-has : (m : Areas) (c : Contents) (x : Space) (a i : ℕ) (s : List ℕ) → Contains (filed m c x a s) i ↔ (((i ≡ a) × (enters m c x i ≡ true)) ⊎ ((i ≢ a) × Contains s i))
filed-has m c x a i s =
    ⊎_elim (λ (t : enters m c x a ≡ true).
    let is : filed m c x a s ≡ a ∷ without_slot a s = cond-true (enters m c x a) (a ∷ without_slot a s) (without_slot a s) t in (
      λ h. ⊎_elim (λ (e : a ≡ i). inl (sym e, subst (λ n. enters m c x n ≡ true) e t)) (λ (h : Contains (without_slot a s) i). inr (without-contains a i s h)) (contains-cases a (without_slot a s) i (subst (λ (l : List ℕ). Contains l i) is h)),
      λ h. subst (λ (l : List ℕ). Contains l i) (sym is) (⊎_elim (λ (p : (i ≡ a) × (enters m c x i ≡ true)). subst (Contains (a ∷ without_slot a s)) (sym p.0) (contains-here a (without_slot a s))) (λ (p : (i ≢ a) × Contains s i). contains-there a (without_slot a s) i (contains-without a i s p.0 p.1)) h),
    ))
    (λ (f : enters m c x a ≡ false).
    let is : filed m c x a s ≡ without_slot a s = cond-false (enters m c x a) (a ∷ without_slot a s) (without_slot a s) f in (
      λ h. inr (without-contains a i s (subst (λ (l : List ℕ). Contains l i) is h)),
      λ h. subst (λ (l : List ℕ). Contains l i) (sym is) (⊎_elim (λ (p : (i ≡ a) × (enters m c x i ≡ true)). absurd (true≢false (sym p.1 ∙ ap (enters m c x) p.0 ∙ f))) (λ (p : (i ≢ a) × Contains s i). contains-without a i s p.0 p.1) h),
    ))
    (cases_Bool (enters m c x a))

pub all_filed-has : (m : Areas) (c : Contents) (x : Space) (l s : List ℕ) (i : ℕ) → Contains (all_filed m c x l s) i ↔ ((Contains l i × (enters m c x i ≡ true)) ⊎ ((Contains l i → ⊥) × Contains s i))
all_filed-has m c x [] s i = (λ h. inr (contains-none i, h), λ h. ⊎_elim (λ (p : Contains [] i × (enters m c x i ≡ true)). absurd (contains-none i p.0)) (λ (p : (Contains [] i → ⊥) × Contains s i). p.1) h)
all_filed-has m c x (a ∷ l) s i =
    let rest = all_filed-has m c x l (filed m c x a s) i in
    let one = filed-has m c x a i s in (
      λ h. ⊎_elim (λ (p : Contains l i × (enters m c x i ≡ true)). inl (contains-there a l i p.0, p.1))
          (λ (p : (Contains l i → ⊥) × Contains (filed m c x a s) i).
          ⊎_elim (λ (q : (i ≡ a) × (enters m c x i ≡ true)). inl (subst (Contains (a ∷ l)) (sym q.0) (contains-here a l), q.1))
          (λ (q : (i ≢ a) × Contains s i). inr (λ k. ⊎_elim (λ e. q.0 (sym e)) p.0 (contains-cases a l i k), q.1))
          (one.0 p.1))
          (rest.0 h),
      λ h. ⊎_elim (λ (p : Contains (a ∷ l) i × (enters m c x i ≡ true)).
          ⊎_elim (λ (k : Contains l i). rest.1 (inl (k, p.1)))
          (λ (n : Contains l i → ⊥). rest.1 (inr (n, one.1 (inl (⊎_elim (λ e. sym e) (λ k. absurd (n k)) (contains-cases a l i p.0), p.1)))))
          (contains-or i l))
          (λ (p : (Contains (a ∷ l) i → ⊥) × Contains s i). rest.1 (inr (λ k. p.0 (contains-there a l i k), one.1 (inr (λ e. p.0 (subst (Contains (a ∷ l)) (sym e) (contains-here a l)), p.1)))))
          h,
    )

-- nothing changed but the chains: of no change, and of one after another
pub with_sets-step : (c d e : Contents) → d ≡ with_sets c d → e ≡ with_sets d e → e ≡ with_sets c e
with_sets-step c d e p q = q ∙ ap (λ (k : Contents). with_sets k e) p

-- the buffers of which the first t are empty now
abbrev pub emptied : ℕ → List (List ℕ) → List (List ℕ)
emptied t bs = replicate t [] ++ drop t bs

abbrev pub with_fewer_logs : ℕ → Contents → Contents → Contents
with_fewer_logs t c d = record (with_sets c d) { buffers = emptied t c.buffers }

pub emptied-at : (t : ℕ) (bs : List (List ℕ)) → t < length bs → get_or (emptied t bs) t [] ≡ get_or bs t []
emptied-at t [] lt = absurd (omega arith)
emptied-at zero (x ∷ bs) lt = refl
emptied-at (suc t) (x ∷ bs) lt = emptied-at t bs (omega arith)

pub emptied-more : (t : ℕ) (bs : List (List ℕ)) → t < length bs → set (emptied t bs) t [] ≡ emptied (suc t) bs
emptied-more t [] lt = absurd (omega arith)
emptied-more zero (x ∷ bs) lt = refl
emptied-more (suc t) (x ∷ bs) lt = ap (λ (l : List (List ℕ)). [] ∷ l) (emptied-more t bs (omega arith))

pub emptied-all : (t : ℕ) (bs : List (List ℕ)) → length bs ≡ t → emptied t bs ≡ replicate t []
emptied-all zero [] e = refl
emptied-all zero (x ∷ bs) e = absurd (omega (arith, e))
emptied-all (suc t) [] e = absurd (omega (arith, e))
emptied-all (suc t) (x ∷ bs) e = ap (λ (l : List (List ℕ)). [] ∷ l) (emptied-all t bs (omega (arith, e)))

pub emptied-next : (t : ℕ) (bs : List (List ℕ)) → t < length bs → set (emptied t bs) t [] ≡ emptied (t + 1) bs
emptied-next t bs lt =
    let e : suc t ≡ t + 1 = omega arith in
    emptied-more t bs lt ∙ ap (λ n. emptied n bs) e

-- the entries of one buffer more
pub logged-more : (t : ℕ) (bs : List (List ℕ)) → t < length bs → flat_map (λ (es : List ℕ). es) (take (suc t) bs) ≡ flat_map (λ (es : List ℕ). es) (take t bs) ++ get_or bs t []
logged-more t [] lt = absurd (omega arith)
logged-more zero (x ∷ bs) lt = append-nil x
logged-more (suc t) (x ∷ bs) lt = ap (λ l. x ++ l) (logged-more t bs (omega arith)) ∙ sym (append_assoc x (flat_map (λ (es : List ℕ). es) (take t bs)) (get_or bs t []))

pub logged-next : (t : ℕ) (bs : List (List ℕ)) → t < length bs → flat_map (λ (es : List ℕ). es) (take (t + 1) bs) ≡ flat_map (λ (es : List ℕ). es) (take t bs) ++ get_or bs t []
logged-next t bs lt =
    let e : t + 1 ≡ suc t = omega arith in
    ap (λ n. flat_map (λ (es : List ℕ). es) (take n bs)) e ∙ logged-more t bs lt

-- the frame after one buffer more, and after all
pub fewer-logs-next : (c d e : Contents) (t u : ℕ) → u ≡ t + 1 → t < length c.buffers → d ≡ with_fewer_logs t c d → e ≡ with_buffer (with_sets d e) u [] → e ≡ with_fewer_logs (t + 1) c e
fewer-logs-next c d e t u i lt p q =
    let back : u - 1 ≡ t = omega (arith, i) in
    let first : e ≡ (let x : Contents = record (with_sets d e) { buffers = set d.buffers t [] } in x) = q ∙ ap (λ k. let x : Contents = record (with_sets d e) { buffers = set d.buffers k [] } in x) back in
    let second : (let x : Contents = record (with_sets d e) { buffers = set d.buffers t [] } in x) ≡ (let x : Contents = record (with_sets c e) { buffers = set (emptied t c.buffers) t [] } in x) = ap (λ (y : Contents). let x : Contents = record (with_sets y e) { buffers = set y.buffers t [] } in x) p in
    first ∙ second ∙ ap (λ (bs : List (List ℕ)). let x : Contents = record (with_sets c e) { buffers = bs } in x) (emptied-next t c.buffers lt)

pub fewer-logs-all : (m : Areas) (c d : Contents) (t : ℕ) → t ≡ m.threads → length c.buffers ≡ t → d ≡ with_fewer_logs t c d → d ≡ with_no_logs m (with_sets c d)
fewer-logs-all m c d t e long p = p ∙ ap (λ (bs : List (List ℕ)). let x : Contents = record (with_sets c d) { buffers = bs } in x) (emptied-all t c.buffers long ∙ ap (λ n. replicate n []) e)
