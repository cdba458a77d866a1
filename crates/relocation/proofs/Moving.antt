use Rattle.std.proofs.Common.{◌≡◌, ◌≢◌, ℕ, ◌+◌, ◌≤◌, ◌<◌, List, length, get_or, set, refl, sym, ap, subst, ◌∙◌, arith, inl, inr, add-one, length-set, get_or-set_same, get_or-set_other}
use Rattle.std.proofs.lemmas.Bool.{cases_eq}
use Rattle.std.proofs.Math.Logic.{⊎_elim}
use Rattle.object_layout.specs.declared.headers.Header.{Header}
use Rattle.object_layout.specs.Layout.{IsHeader, header_word}
use Rattle.heap_words.specs.declared.map.Areas.{Areas}
use Rattle.epoch_lattice.specs.Lattice.{space_index}
use Rattle.yak_model.specs.Plans.{Move, AreApart}
use Rattle.relocation.specs.Moves.{fields_at, size_at, Beside, RunCopied, Copied, Moved, Movable, AllMovable, words_moved}

-- the number of fields that a header tells
pub fields_at-header : (heap : List ℕ) (a : ℕ) (h : Header) → IsHeader h → get_or heap a 0 ≡ header_word h → fields_at heap a ≡ h.fields
unfolding fields_at
fields_at-header heap a h ok e = rw e (omega arith)

pub fields_at-same : (was now : List ℕ) (a : ℕ) → get_or now a 0 ≡ get_or was a 0 → fields_at now a ≡ fields_at was a
unfolding fields_at
fields_at-same was now a e = rw e refl

-- an object copied, its header and its work word written
pub object_copied : (was now : List ℕ) (v : Move) (w : ℕ) → RunCopied was now v.old v.new (size_at was v.old) → w ≡ header_word (record { fields = fields_at was v.old; space = space_index v.space }) → v.new + size_at was v.old ≤ length now → Copied was (set (set now v.new w) (v.new + 2) 0) v
object_copied was now v w r e within =
    let mid : List ℕ = set now v.new w in
    let long : v.new + 2 < length mid = rw (length-set now v.new w) (omega arith) in
    record {
      header = get_or-set_other mid (v.new + 2) v.new 0 0 (λ (q : v.new ≡ v.new + 2). omega arith) ∙ get_or-set_same now v.new w 0 (omega arith) ∙ e;
      name = get_or-set_other mid (v.new + 2) (v.new + 1) 0 0 (λ (q : v.new + 1 ≡ v.new + 2). omega arith) ∙ get_or-set_other now v.new (v.new + 1) w 0 (λ (q : v.new + 1 ≡ v.new). omega arith) ∙ r.inside 1 (omega arith);
      work_word = get_or-set_same mid (v.new + 2) 0 0 long;
      fields = λ f lt.
          let here : v.new + 3 + f ≡ v.new + (3 + f) = omega arith in
          let there : v.old + (3 + f) ≡ v.old + 3 + f = omega arith in
          get_or-set_other mid (v.new + 2) (v.new + 3 + f) 0 0 (λ (q : v.new + 3 + f ≡ v.new + 2). omega arith) ∙ get_or-set_other now v.new (v.new + 3 + f) w 0 (λ (q : v.new + 3 + f ≡ v.new). omega arith) ∙ (ap (λ i. get_or now i 0) here ∙ r.inside (3 + f) (omega arith) ∙ ap (λ i. get_or was i 0) there);
    }

pub object_alone : (was now : List ℕ) (v : Move) (w n : ℕ) → RunCopied was now v.old v.new n → 3 ≤ n → (i : ℕ) → Beside i v.new n → get_or (set (set now v.new w) (v.new + 2) 0) i 0 ≡ get_or was i 0
object_alone was now v w n r three i b =
    let mid : List ℕ = set now v.new w in
    let first : i ≢ v.new = λ q. ⊎_elim (λ (lt : i < v.new). omega arith) (λ (le : v.new + n ≤ i). omega arith) b in
    let second : i ≢ v.new + 2 = λ q. ⊎_elim (λ (lt : i < v.new). omega arith) (λ (le : v.new + n ≤ i). omega arith) b in
    get_or-set_other mid (v.new + 2) i 0 0 second ∙ get_or-set_other now v.new i w 0 first ∙ r.outside i b

-- the same words where an object was put
pub copied-kept : (was now next : List ℕ) (v : Move) → Copied was now v → ((i : ℕ) → v.new ≤ i → i < v.new + size_at was v.old → get_or next i 0 ≡ get_or now i 0) → Copied was next v
copied-kept was now next v c same = record {
  header = same v.new (omega arith) (omega arith) ∙ c.header;
  name = same (v.new + 1) (omega arith) (omega arith) ∙ c.name;
  work_word = same (v.new + 2) (omega arith) (omega arith) ∙ c.work_word;
  fields = λ f lt. same (v.new + 3 + f) (omega arith) (omega arith) ∙ c.fields f lt;
}

-- the same words where an object came from
pub copied-from : (was now next : List ℕ) (v : Move) → Copied now next v → ((i : ℕ) → v.old ≤ i → i < v.old + size_at was v.old → get_or now i 0 ≡ get_or was i 0) → Copied was next v
copied-from was now next v c same =
    let e : fields_at now v.old ≡ fields_at was v.old = fields_at-same was now v.old (same v.old (omega arith) (omega arith)) in
    record {
      header = c.header ∙ ap (λ n. header_word (record { fields = n; space = space_index v.space })) e;
      name = c.name ∙ same (v.old + 1) (omega arith) (omega arith);
      work_word = c.work_word;
      fields = λ f lt. c.fields f (omega arith) ∙ same (v.old + 3 + f) (omega arith) (omega arith);
    }

pub beside_apart : (i a n b k : ℕ) → AreApart a n b k → b ≤ i → i < b + k → Beside i a n
beside_apart i a n b k out low high = ⊎_elim (λ (h : a + n ≤ b). inr (omega arith)) (λ (h : b + k ≤ a). inl (omega arith)) out

apart_swap : (a n b k : ℕ) → AreApart a n b k → AreApart b k a n
apart_swap a n b k out = ⊎_elim (λ (h : a + n ≤ b). inr h) (λ (h : b + k ≤ a). inl h) out

-- the words of an object that is still to be moved
pub waiting : (m : Areas) (was now : List ℕ) (count k : ℕ) (moves : ℕ → Move) → AllMovable m was count moves → Moved was now k moves → k < count → (i : ℕ) → (moves k).old ≤ i → i < (moves k).old + size_at was (moves k).old → get_or now i 0 ≡ get_or was i 0
waiting m was now count k moves all done lt i low high = done.others i (λ j h. beside_apart i (moves j).new (size_at was (moves j).old) (moves k).old (size_at was (moves k).old) (all.later j k h lt) low high)

pub moved-none : (was : List ℕ) (moves : ℕ → Move) → Moved was was 0 moves
moved-none was moves = record { copied = λ k lt. absurd (omega arith); others = λ i h. refl }

-- the next move can be made
pub movable-next : (m : Areas) (was now : List ℕ) (count k : ℕ) (moves : ℕ → Move) → AllMovable m was count moves → Moved was now k moves → k < count → Movable m now (moves k)
movable-next m was now count k moves all done lt =
    let v : Move = moves k in
    let one = all.each k lt in
    let here : get_or now v.old 0 ≡ get_or was v.old 0 = waiting m was now count k moves all done lt v.old (omega arith) (omega arith) in
    let e : fields_at now v.old ≡ fields_at was v.old = fields_at-same was now v.old here in
    record {
      header = (one.header.0, one.header.1, here ∙ one.header.2);
      space = one.space;
      old = rw e one.old;
      new = rw e one.new;
    }

-- one move more
pub moved-more : (m : Areas) (was now next : List ℕ) (count k : ℕ) (moves : ℕ → Move) → AllMovable m was count moves → Moved was now k moves → k < count → Copied now next (moves k) → ((i : ℕ) → Beside i (moves k).new (size_at now (moves k).old) → get_or next i 0 ≡ get_or now i 0) → Moved was next (k + 1) moves
moved-more m was now next count k moves all done lt copied alone =
    let v : Move = moves k in
    let same = waiting m was now count k moves all done lt in
    let e : fields_at now v.old ≡ fields_at was v.old = fields_at-same was now v.old (same v.old (omega arith) (omega arith)) in
    let alone' : (i : ℕ) → Beside i v.new (size_at was v.old) → get_or next i 0 ≡ get_or now i 0 = λ i b. alone i (rw e b) in
    record {
      copied = λ j h. ⊎_elim
          (λ (q : j ≡ k). subst (λ x. Copied was next (moves x)) (sym q) (copied-from was now next v copied same))
          (λ (ne : j ≡ k → ⊥).
          let before : j < k = omega arith in
          copied-kept was now next (moves j) (done.copied j before) (λ i low high. alone' i (beside_apart i v.new (size_at was v.old) (moves j).new (size_at was (moves j).old) (apart_swap (moves j).new (size_at was (moves j).old) v.new (size_at was v.old) (all.apart j k before lt)) low high)))
          (cases_eq j k);
      others = λ i h. alone' i (h k (omega arith)) ∙ done.others i (λ j b. h j (omega arith));
    }

-- the words of the object that is to be moved next
pub size-waiting : (m : Areas) (was now : List ℕ) (count k : ℕ) (moves : ℕ → Move) → AllMovable m was count moves → Moved was now k moves → k < count → size_at now (moves k).old ≡ size_at was (moves k).old
size-waiting m was now count k moves all done lt = ap (λ n. n + 3) (fields_at-same was now (moves k).old (waiting m was now count k moves all done lt (moves k).old (omega arith) (omega arith)))

pub words_moved-more : (heap : List ℕ) (k : ℕ) (moves : ℕ → Move) → words_moved heap (k + 1) moves ≡ words_moved heap k moves + size_at heap (moves k).old
unfolding words_moved
words_moved-more heap k moves = ap (λ n. words_moved heap n moves) (add-one k)
