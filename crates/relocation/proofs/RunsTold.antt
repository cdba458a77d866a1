-- Pages that are runs of whole objects, where it isn't told how: a search finds the run.
use Rattle.std.proofs.Common.{◌≡◌, ◌≢◌, ◌⊎◌, ℕ, ◌+◌, ◌-◌, ◌*◌, ◌/◌, ◌%◌, ◌≤◌, ◌<◌, List, get_or, zero, suc, sym, subst, arith, inl, inr}
use Rattle.std.proofs.Props.{props}
use Rattle.std.proofs.lemmas.Bool.{cases_eq, cases_order}
use Rattle.std.proofs.Math.Logic.{⊎_elim, ∥∥₁_elim}
use Rattle.object_layout.specs.declared.headers.Header.{Header}
use Rattle.object_layout.specs.declared.TheConstants.{HEADER_BASE, SPACE_UNIT}
use Rattle.object_layout.specs.Layout.{IsHeader, header_word}
use Rattle.heap_words.specs.declared.map.Areas.{Areas}
use Rattle.heap_words.specs.Map.{page_words}
use Rattle.heap_words.specs.Contents.{Contents}
use Rattle.yak_model.specs.Placed.{used_mark}
use Rattle.yak_model.specs.Plans.{Move}
use Rattle.relocation.specs.Fields.{Lined}
use Rattle.relocation.specs.Moves.{HasHeader}
use Rattle.relocation.specs.Slide.{PageRun, Runs, behind, object_at}
use Rattle.relocation.proofs.SlidObjects.{behind-first, behind-next}

-- the header that a word is
abbrev told : ℕ → Header
told w = record { fields = (w - HEADER_BASE) % SPACE_UNIT; space = (w - HEADER_BASE) / SPACE_UNIT }

told-header : (w : ℕ) (x : Header) → IsHeader x → w ≡ header_word x → IsHeader (told w) × (w ≡ header_word (told w))
told-header w x fits e =
    let fields : (w - HEADER_BASE) % SPACE_UNIT ≡ x.fields = omega (arith, fits.0, fits.1, e) in
    let space : (w - HEADER_BASE) / SPACE_UNIT ≡ x.space = omega (arith, fits.0, fits.1, e) in
    ((omega (arith, fits.0, fields), omega (arith, fits.1, space)), omega (arith, e, fields, space))

pub header-told : (heap : List ℕ) (a : ℕ) → ∥ HasHeader heap a ∥₁ → HasHeader heap a
header-told heap a some =
    let w : ℕ = get_or heap a 0 in (
      told w,
      (∥∥₁_elim some (hlevel props) (λ h. (told-header w h.0 h.1 h.2).0.0), ∥∥₁_elim some (hlevel props) (λ h. (told-header w h.0 h.1 h.2).0.1)),
      ∥∥₁_elim some (hlevel props) (λ h. (told-header w h.0 h.1 h.2).1),
    )

behind-more : (heap : List ℕ) (a j n : ℕ) → behind heap a j + 3 * n ≤ behind heap a (j + n)
behind-more heap a j zero = let e : j + 0 ≡ j = omega arith in rw e (omega arith)
behind-more heap a j (suc n) =
    let before = behind-more heap a j n in
    let next = behind-next heap a (j + n) in
    let e : j + suc n ≡ j + n + 1 = omega arith in
    rw e (omega (arith, before, next))

behind-less : (heap : List ℕ) (a j k : ℕ) → j < k → behind heap a j < behind heap a k
behind-less heap a j k lt =
    let more = behind-more heap a j (k - j) in
    let e : j + (k - j) ≡ k = omega arith in
    let h : behind heap a j + 3 * (k - j) ≤ behind heap a k = subst (λ i. behind heap a j + 3 * (k - j) ≤ behind heap a i) e more in
    omega (arith, h)

-- how many objects end at an address
search_end : (heap : List ℕ) (a z n : ℕ) → ((k : ℕ) × (behind heap a k ≡ z)) ⊎ ((k : ℕ) → k < n → behind heap a k ≢ z)
search_end heap a z zero = inr (λ k lt. absurd (omega (arith, lt)))
search_end heap a z (suc n) = ⊎_elim
    (λ (e : behind heap a n ≡ z). inl (n, e))
    (λ (ne : behind heap a n ≢ z). ⊎_elim
    (λ (found : (k : ℕ) × (behind heap a k ≡ z)). inl found)
    (λ (none : (k : ℕ) → k < n → behind heap a k ≢ z). inr (λ k lt. ⊎_elim (λ (q : k ≡ n). subst (λ j. behind heap a j ≢ z) (sym q) ne) (λ (o : k ≢ n). none k (omega (arith, lt, o))) (cases_eq k n)))
    (search_end heap a z n))
    (cases_eq (behind heap a n) z)

module _ (m : Areas) (c : Contents) (p : ℕ) (some : ∥ PageRun m c p ∥₁) where
  pub one_end : (k : ℕ) → object_at m c.heap p k ≡ page_words m * p + used_mark c.table p → (r : PageRun m c p) → k ≡ r.objects
  one_end k e r = elim (cases_order k r.objects) [
    | inl same ↦ same
    | inr (inl lt) ↦ absurd (let l = behind-less c.heap (page_words m * p) k r.objects lt in let q = r.ends in omega (arith, l, q, e))
    | inr (inr gt) ↦ absurd (let l = behind-less c.heap (page_words m * p) r.objects k gt in let q = r.ends in omega (arith, l, q, e))
  ]

  run-of : (k : ℕ) → object_at m c.heap p k ≡ page_words m * p + used_mark c.table p → PageRun m c p
  run-of k e = record {
    objects = k;
    headers = λ j lt. header-told c.heap (object_at m c.heap p j) (∥∥₁_map' some (λ r. r.headers j (let q = one_end k e r in omega (arith, lt, q))));
    ends = e;
    fits = ∥∥₁_elim some (hlevel props) (λ r. r.fits);
  }
    where
      ∥∥₁_map' : {A : Type 0} {B : Type 0} → ∥ A ∥₁ → (A → B) → ∥ B ∥₁
      ∥∥₁_map' t f = ∥∥₁_elim t (hlevel props) (λ a. ∣ f a ∣₁)

  pub run-told : PageRun m c p
  run-told = elim (search_end c.heap (page_words m * p) (page_words m * p + used_mark c.table p) (page_words m + 1)) [
    | inl found ↦ run-of found.0 found.1
    | inr none ↦ absurd (∥∥₁_elim some (hlevel props) (λ r.
        let more = behind-more c.heap (page_words m * p) 0 r.objects in
        let first = behind-first c.heap (page_words m * p) in
        let e : 0 + r.objects ≡ r.objects = omega arith in
        let long : page_words m * p + 3 * r.objects ≤ object_at m c.heap p r.objects = subst (λ i. page_words m * p + 3 * r.objects ≤ behind c.heap (page_words m * p) i) e (omega (arith, more, first)) in
        let ends = r.ends in
        let fits = r.fits in
        none r.objects (omega (arith, long, ends, fits)) ends))
  ]

pub runs-told : (m : Areas) (slid : ℕ) (c : Contents) → ∥ Runs m slid c ∥₁ → Runs m slid c
runs-told m slid c some p lt control = run-told m c p (∥∥₁_elim some (hlevel props) (λ runs. ∣ runs p lt control ∣₁))

pub lined-told : (m : Areas) (heap : List ℕ) (count : ℕ) (moves : ℕ → Move) → ∥ Lined m heap count moves ∥₁ → Lined m heap count moves
lined-told m heap count moves some = record {
  headers = λ k lt. header-told heap (moves k).old (∥∥₁_elim some (hlevel props) (λ l. ∣ l.headers k lt ∣₁));
  within = λ k lt. ∥∥₁_elim some (hlevel props) (λ l. l.within k lt);
  ordered = λ j k lt lk. ∥∥₁_elim some (hlevel props) (λ l. l.ordered j k lt lk);
  lead = λ k lt i b low high e. ∥∥₁_elim some (hlevel props) (λ l. l.lead k lt i b low high e);
}
