-- What the reads of a marking are counted by.
use Rattle.std.proofs.Common.{◌≡◌, ◌⊎◌, ℕ, zero, suc, ◌+◌, ◌*◌, ◌≤◌, ◌<◌, Bool, true, false, cond, ◌||◌, List, [], ◌∷◌, take, refl, sym, ap, ◌∙◌, arith, inl, inr, get_or, length}
use Rattle.std.specs.List.{sum_by}
use Rattle.std.proofs.lemmas.Bool.{cases_lt}
use Rattle.std.proofs.lemmas.List.Sums.{sum_by-cons, sum_by-le-sum_by, sum_by_more}
use Rattle.std.proofs.lemmas.List.{get_or_past, take_all, get_or_default}
use Rattle.object_layout.specs.declared.names.Name.{Name}
use Rattle.object_layout.specs.declared.TheConstants.{OBJECT_WORDS}
use Rattle.yak_model.specs.Names.{root_name}
use Rattle.yak_model.specs.Placed.{names_of, same_name, size_by}
use Rattle.yak_model.proofs.Placed.{same_name-self, same_name-true}
use Rattle.heap_words.specs.declared.map.Areas.{Areas}
use Rattle.heap_words.specs.Contents.{Contents}
use Rattle.heap_walks.specs.Laid.{Laid, IsAmong}
use Rattle.heap_walks.proofs.Objects.{size_is}
use Rattle.heap_walks.proofs.Pages.{table_now, used_is}
use Rattle.mark_compact.specs.Marked.{words_used}
use Rattle.mark_compact.specs.Marking.{GoesOn, Marking, IsAliveAt}

-- a sum over the first elements grows by the next one, which counts nothing past the end
pub sum_next : {X : Type 0} (f : X → ℕ) (xs : List X) (k : ℕ) (d : X) → f d ≡ 0 → sum_by f (take (k + 1) xs) ≡ sum_by f (take k xs) + f (get_or xs k d)
sum_next f xs k d none =
    elim (cases_lt k (length xs)) [
      | inl lt ↦ sum_by_more f xs k d lt
      | inr le ↦
          let all : sum_by f (take k xs) ≡ sum_by f xs = ap (sum_by f) (take_all k xs le) in
          let more : sum_by f (take (k + 1) xs) ≡ sum_by f xs = ap (sum_by f) (take_all (k + 1) xs (omega arith)) in
          let past : f (get_or xs k d) ≡ f d = ap f (get_or_past xs k d le) in
          omega (arith, all, more, past, none)
    ]

-- a sum whose elements are no more than those of another list
pub sums_le : {X Y : Type 0} (f : X → ℕ) (g : Y → ℕ) (xs : List X) (ys : List Y) (dx : X) (dy : Y) → g dy ≡ 0 → ((p : ℕ) → p < length xs → f (get_or xs p dx) ≤ g (get_or ys p dy)) → sum_by f xs ≤ sum_by g ys
sums_le f g [] ys dx dy none le = omega arith
sums_le f g (x ∷ xs) [] dx dy none le =
    let first : f x ≤ g dy = le 0 (omega arith) in
    let rest : sum_by f xs ≤ sum_by g [] = sums_le f g xs [] dx dy none (λ p lt. le (suc p) (omega (arith, lt))) in
    rw (sum_by-cons f x xs) (omega (arith, first, rest, none))
sums_le f g (x ∷ xs) (y ∷ ys) dx dy none le =
    let first : f x ≤ g y = le 0 (omega arith) in
    let rest : sum_by f xs ≤ sum_by g ys = sums_le f g xs ys dx dy none (λ p lt. le (suc p) (omega (arith, lt))) in
    rw (sum_by-cons f x xs, sum_by-cons g y ys) (omega (arith, first, rest))

-- sums of which one term falls
pub sum_falls : {X : Type 0} (f g : X → ℕ) (xs : List X) (k v : ℕ) (d : X) → k < length xs → ((x : X) → f x ≤ g x) → f (get_or xs k d) + v ≤ g (get_or xs k d) → sum_by f xs + v ≤ sum_by g xs
sum_falls f g [] k v d lt le here = absurd (omega (arith, lt))
sum_falls f g (x ∷ xs) zero v d lt le here = rw (sum_by-cons f x xs, sum_by-cons g x xs) (omega (arith, here, sum_by-le-sum_by f g xs le))
sum_falls f g (x ∷ xs) (suc k) v d lt le here = rw (sum_by-cons f x xs, sum_by-cons g x xs) (omega (arith, le x, sum_falls f g xs k v d (omega (arith, lt)) le here))

-- the stacks stay, and the page table
pub stacks_now : (m : Areas) (h : Laid) (c d : Contents) → IsAmong m h c → IsAmong m h d → d.stacks ≡ c.stacks
stacks_now m h c d a b = ap (λ (x : Contents). x.stacks) b.frame ∙ sym (ap (λ (x : Contents). x.stacks) a.frame)

pub tables_now : (m : Areas) (h : Laid) (c d : Contents) → IsAmong m h c → IsAmong m h d → d.table ≡ c.table
tables_now m h c d a b = table_now m h d b ∙ sym (table_now m h c a)

-- the words of the objects that are not passed
term : Laid → (Name → Bool) → Name → ℕ
term h passed n = cond (passed n) 0 (size_by h.state.objects n)

pub left : Laid → (Name → Bool) → ℕ
left h passed = sum_by (λ (ns : List Name). sum_by (term h passed) ns) h.places.pages

abbrev pub none_passed : Name → Bool
none_passed n = false

abbrev pub one_passed : (Name → Bool) → Name → Name → Bool
one_passed passed n x = passed x || same_name x n

-- at first they are no more than the used words
pub all_left : (m : Areas) (h : Laid) (c : Contents) → IsAmong m h c → left h none_passed ≤ words_used c.table
unfolding left term
all_left m h c a =
    let count = a.stands.heap.count in
    sums_le (λ (ns : List Name). sum_by (size_by h.state.objects) ns) (λ (r : List ℕ). get_or r 1 0) h.places.pages c.table [] [] refl
    (λ p lt. let u = used_is m h c p a (omega (arith, lt, count)) in omega (arith, u))

term_falls : (h : Laid) (passed : Name → Bool) (n : Name) (x : Name) (a b : Bool) → cond (a || b) 0 (size_by h.state.objects x) ≤ cond a 0 (size_by h.state.objects x)
term_falls h passed n x true b = omega arith
term_falls h passed n x false true = omega arith
term_falls h passed n x false false = omega arith

-- with one more passed, its words are no longer left
pub one_less_left : (m : Areas) (h : Laid) (c : Contents) (count a : ℕ) (passed : Name → Bool) → Marking m h c count → (l : IsAliveAt h a) → passed l.name ≡ false → left h (one_passed passed l.name) + (length l.object.fields + OBJECT_WORDS) ≤ left h passed
unfolding left term
one_less_left m h c count a passed mk l new =
    let size = size_by h.state.objects in
    let at = mk.among.stands.heap.present l.name l.object l.present in
    let ns : List Name = names_of h.places at.0 in
    let found : get_or ns at.1 root_name ≡ l.name = sym (get_or_default ns at.1 l.name root_name at.2.place) ∙ at.2.name in
    let le : (x : Name) → term h (one_passed passed l.name) x ≤ term h passed x = λ x. term_falls h passed l.name x (passed x) (same_name x l.name) in
    let own_after : term h (one_passed passed l.name) l.name ≡ 0 = rw (new, same_name-self l.name) refl in
    let own_before : term h passed l.name ≡ size l.name = rw new refl in
    let long = size_is h l.name l.object l.present in
    let own : term h (one_passed passed l.name) l.name + (length l.object.fields + OBJECT_WORDS) ≤ term h passed l.name = omega (arith, own_after, own_before, long) in
    let inner : sum_by (term h (one_passed passed l.name)) ns + (length l.object.fields + OBJECT_WORDS) ≤ sum_by (term h passed) ns =
    sum_falls (term h (one_passed passed l.name)) (term h passed) ns at.1 _ root_name at.2.place le (rw found own) in
    sum_falls _ _ h.places.pages at.0 _ [] at.2.page (λ xs. sum_by-le-sum_by (term h (one_passed passed l.name)) (term h passed) xs le) inner

-- The objects that are passed stand among the first of the list, and the reads from one number to another are no more than
-- three for each of their words.
pub record Spent (h : Laid) (c : Contents) (next before now : ℕ) : Type 0 where
  pub passed : Name → Bool
  pub placed : (n : Name) → passed n ≡ true → (k : ℕ) × (k < next) × (get_or c.scratch k 0 ≡ h.places.at n)
  pub reads : now + 3 * left h passed ≤ before + 3 * left h none_passed

pub nothing_spent : (h : Laid) (c : Contents) (before : ℕ) → Spent h c 0 before before
nothing_spent h c before = record {
  passed = none_passed;
  placed = λ n e. cc;
  reads = omega arith;
}

or_cases : (a b : Bool) → (a || b) ≡ true → (a ≡ true) ⊎ (b ≡ true)
or_cases true b e = inl refl
or_cases false b e = inr e

not_true : (b : Bool) → (b ≡ true → ⊥) → b ≡ false
not_true true h = absurd (h refl)
not_true false h = refl

pub spent_more : (m : Areas) (h : Laid) (c d : Contents) (i j next a before now after : ℕ) → Marking m h c i → GoesOn m h c i d j → next < i → a ≡ get_or c.scratch next 0 → (l : IsAliveAt h a) → Spent h c next before now → after ≤ now + (2 + 3 * length l.object.fields) → Spent h d (next + 1) before after
spent_more m h c d i j next a before now after mk goes lt at l s more =
    let new : s.passed l.name ≡ false = not_true (s.passed l.name) (λ e.
    let w = s.placed l.name e in
    let same : w.0 ≡ next = mk.list.once w.0 next (omega (arith, w.1, lt)) lt (w.2 ∙ sym l.address ∙ at) in
    omega (arith, w.1, same)) in
    let fewer = one_less_left m h c i a s.passed mk l new in
    record {
      passed = one_passed s.passed l.name;
      placed = λ n e. elim (or_cases (s.passed n) (same_name n l.name) e) [
        | inl q ↦
            let w = s.placed n q in
            (w.0, omega (arith, w.1), goes.grows.list w.0 (omega (arith, w.1, lt)) ∙ w.2)
        | inr q ↦
            let same : n ≡ l.name = same_name-true n l.name q in
            (next, omega arith, goes.grows.list next lt ∙ sym at ∙ l.address ∙ ap h.places.at (sym same))
      ];
      reads = omega (arith, s.reads, fewer, more);
    }
