use Rattle.std.proofs.Common.{◌≡◌, ◌≢◌, ℕ, ◌+◌, ◌-◌, ◌*◌, ◌/◌, ◌%◌, ◌<◌, true, false, List, length, get_or, set, refl, sym, ap, subst, ◌∙◌, arith, length-set, get_or-set_same}
use Rattle.std.proofs.lemmas.Bool.{cases_eq, eq-eqb, ne_eqb}
use Rattle.std.proofs.Math.Logic.{⊎_elim}
use Rattle.std.specs.Prelude.{◌==◌}
use Rattle.object_layout.specs.declared.names.Name.{Name}
use Rattle.heap_words.specs.declared.map.Areas.{Areas}
use Rattle.heap_words.specs.Map.{HasThread, block_at, heap_at, heap_length, stack_start, total_of}
use Rattle.heap_words.specs.Contents.{Contents, Sound, contents, stack_of, with_heap, with_stack}
use Rattle.heap_words.proofs.Contents.{contents-get_heap, contents-set_heap, sound-elsewhere, stack_of-word, contents-set_stack, sound-set_stack}
use Rattle.yak_model.specs.declared.datum.Datum.{Datum}
use Rattle.yak_model.specs.declared.datum.Datum.TheVariants.{Null, Int, Object}
use Rattle.yak_model.specs.Placed.{datum_word}
use Rattle.yak_model.specs.Plans.{Move}
use Rattle.relocation.specs.Moves.{Numbered, corrected_word}
use Rattle.yak_model.specs.Plans.{forward}
use Rattle.relocation.proofs.Lawful.{by_move-other, by_move-at}

-- a word that is no reference stays
pub corrected-other : (f : ℕ → ℕ) (w : ℕ) → ((a : ℕ) → w ≡ 2 * (a + 1) → ⊥) → corrected_word f w ≡ w
corrected-other f w none = ⊎_elim
    (λ (odd : w % 2 ≡ 1). let test : (w % 2 == 1) ≡ true = eq-eqb (w % 2) 1 odd in rw test refl)
    (λ (even : w % 2 ≡ 1 → ⊥).
    let test : (w % 2 == 1) ≡ false = ne_eqb (w % 2) 1 even in
    ⊎_elim
    (λ (zero : w ≡ 0). let test' : (w == 0) ≡ true = eq-eqb w 0 zero in rw (test, test') refl)
    (λ (more : w ≡ 0 → ⊥). absurd (none (w / 2 - 1) (omega arith)))
    (cases_eq w 0))
    (cases_eq (w % 2) 1)

pub corrected-reference : (f : ℕ → ℕ) (w a : ℕ) → w ≡ 2 * (a + 1) → corrected_word f w ≡ 2 * (f a + 1)
corrected-reference f w a e =
    let even : (w % 2 == 1) ≡ false = ne_eqb (w % 2) 1 (λ h. omega arith) in
    let some : (w == 0) ≡ false = ne_eqb w 0 (λ h. omega arith) in
    let at : w / 2 - 1 ≡ a = omega arith in
    rw (even, some, at) refl

-- a corrected datum leads where f brings the places
pub corrected-datum : (f : ℕ → ℕ) (at : Name → ℕ) (d : Datum) → corrected_word f (datum_word at d) ≡ datum_word (λ n. f (at n)) d
corrected-datum f at Null = refl
corrected-datum f at (Int i) = corrected-other f (2 * i + 1) (λ a h. omega arith)
corrected-datum f at (Object n) = corrected-reference f (2 * (at n + 1)) (at n) refl

-- an object that the work word leads to no move of
pub place-stays : (m : Areas) (heap : List ℕ) (count : ℕ) (moves : ℕ → Move) (a : ℕ) → Numbered m heap count moves → ((k : ℕ) → k < count → get_or heap (a + 2) 0 ≡ k + 1 → (moves k).old ≢ a) → forward count moves a ≡ a
place-stays m heap count moves a numbered none = by_move-other count moves (λ v. v.new) a a (λ k lt e. none k lt (ap (λ x. get_or heap (x + 2) 0) e ∙ numbered.marks k lt) (sym e))

pub place-moves : (m : Areas) (heap : List ℕ) (count : ℕ) (moves : ℕ → Move) (a k : ℕ) → Numbered m heap count moves → k < count → (moves k).old ≡ a → forward count moves a ≡ (moves k).new
place-moves m heap count moves a k numbered lt e = by_move-at count moves (λ v. v.new) a a k numbered.ascending lt (sym e)

-- a word that was corrected, as the word of a datum, as a field and as a slot of a stack
pub value-written : (was now : List ℕ) (i : ℕ) (f : ℕ → ℕ) (at : Name → ℕ) (d : Datum) → i < length was → now ≡ set was i (corrected_word f (get_or was i 0)) → get_or was i 0 ≡ datum_word at d → get_or now i 0 ≡ datum_word (λ n. f (at n)) d
value-written was now i f at d within e value =
    ap (λ (ws : List ℕ). get_or ws i 0) e ∙ get_or-set_same was i (corrected_word f (get_or was i 0)) 0 within ∙ ap (corrected_word f) value ∙ corrected-datum f at d

pub field-written : (m : Areas) (was now : List ℕ) (i : ℕ) (f : ℕ → ℕ) (a : ℕ) → Sound m was → a < heap_length m → i ≡ heap_at m + a → now ≡ set was i (corrected_word f (get_or was i 0)) → (contents m now ≡ with_heap (contents m was) a (corrected_word f (get_or (contents m was).heap a 0))) × Sound m now
field-written m was now i f a sound within place e =
    let v : ℕ = corrected_word f (get_or was (heap_at m + a) 0) in
    let here : now ≡ set was (heap_at m + a) v = e ∙ ap (λ j. set was j (corrected_word f (get_or was j 0))) place in
    let read : v ≡ corrected_word f (get_or (contents m was).heap a 0) = ap (corrected_word f) (contents-get_heap m was a within) in
    let all : contents m now ≡ with_heap (contents m was) a v = ap (contents m) here ∙ contents-set_heap m was a v within in
    let long : length now ≡ total_of m = ap (λ (ws : List ℕ). length ws) here ∙ length-set was (heap_at m + a) v ∙ sound.whole in
    (all ∙ ap (with_heap (contents m was) a) read, sound-elsewhere m was now sound long (ap (λ (c : Contents). c.depths) all) (ap (λ (c : Contents). c.stacks) all) (ap (λ (c : Contents). c.buffers) all))

pub slot-written : (m : Areas) (was now : List ℕ) (i : ℕ) (f : ℕ → ℕ) (t k : ℕ) → Sound m was → HasThread m t → k < length (stack_of (contents m was) t) → i ≡ block_at m t + (stack_start m + k) → now ≡ set was i (corrected_word f (get_or was i 0)) → (contents m now ≡ (let c = contents m was in with_stack c t (set (stack_of c t) k (corrected_word f (get_or (stack_of c t) k 0))))) × Sound m now
slot-written m was now i f t k sound thread within place e =
    let c : Contents = contents m was in
    let v : ℕ = corrected_word f (get_or was (block_at m t + (stack_start m + k)) 0) in
    let here : now ≡ set was (block_at m t + (stack_start m + k)) v = e ∙ ap (λ j. set was j (corrected_word f (get_or was j 0))) place in
    let read : v ≡ corrected_word f (get_or (stack_of c t) k 0) = ap (corrected_word f) (stack_of-word m was t k thread sound within) in
    (ap (contents m) here ∙ contents-set_stack m was t k v thread sound within ∙ ap (λ w. with_stack c t (set (stack_of c t) k w)) read, subst (Sound m) (sym here) (sound-set_stack m was t k v thread sound within))
