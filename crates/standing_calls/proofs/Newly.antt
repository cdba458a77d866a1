-- The words with a new object stand for the state with it.
use Rattle.std.proofs.Common.{◌≡◌, ◌≢◌, ◌⊎◌, ℕ, ◌+◌, ◌-◌, ◌*◌, ◌≤◌, ◌<◌, cond, Option, Some, None, List, [], ◌∷◌, ◌++◌, length, get_or, set, map, refl, sym, ap, subst, ◌∙◌, arith, length-append, get_or-set_same, get_or-set_other}
use Rattle.std.specs.List.{All, sum_by}
use Rattle.std.proofs.lemmas.Bool.{cases_eq}
use Rattle.std.proofs.lemmas.List.{map-append, map-set}
use Rattle.std.proofs.lemmas.List.Elements.{All-head, All-nil, All-set, All-tail}
use Rattle.std.proofs.Math.Logic.{⊎_elim}
use Rattle.object_layout.specs.declared.names.Name.{Name}
use Rattle.object_layout.specs.declared.TheConstants.{MAX_FIELDS, MAX_SERIAL, OBJECT_WORDS}
use Rattle.heap_words.specs.declared.map.Areas.{Areas}
use Rattle.heap_words.specs.declared.TheConstants.{STACK_SLOTS, BUFFER_ENTRIES}
use Rattle.heap_words.specs.Map.{HasThread, IsAreas, max_depth, page_words}
use Rattle.heap_words.specs.Contents.{Contents, stack_of}
use Rattle.epoch_lattice.specs.declared.Space.{Space}
use Rattle.epoch_lattice.specs.Lattice.{inner_of, space_index}
use Rattle.yak_model.specs.declared.datum.Datum.{Datum}
use Rattle.yak_model.specs.declared.datum.Datum.TheVariants.{Object}
use Rattle.yak_model.specs.State.{IsDatum, State, Thing, depth, stack}
use Rattle.yak_model.specs.Placed.{HeapStands, IsAt, ObjectAt, Places, datum_word, names_of, same_name, size_by, space_word, used_mark, with_object}
use Rattle.yak_model.specs.Stands.{HeadsClosed, SetsStand, StandsAs}
use Rattle.yak_model.proofs.Grown.{datum-word-kept, grown, heap-new}
use Rattle.yak_model.proofs.Placed.{same_name-self}
use Rattle.yak_model.proofs.Stacks.{all-at, stack-stands}
use Rattle.standing_calls.proofs.Entered.{entry, heap-entered, mark-entered, row-other, space-entered}
use Rattle.standing_calls.proofs.Added.{Placing, closed-added, dense-added, inner-open, names-added, open-added}

-- the object that is made, where it lies, and the words that it has
pub record Written (heap heap' : List ℕ) (a size : ℕ) : Type 0 where
  pub others : (i : ℕ) → (i < a) ⊎ (a + size ≤ i) → get_or heap' i 0 ≡ get_or heap i 0

-- the words of the contents with the new object
abbrev pub with_new : Contents → List ℕ → ℕ → ℕ → ℕ → Contents
with_new c heap t k a = record c { heap = heap; made = set c.made (t - 1) k; stacks = set c.stacks (t - 1) (stack_of c t ++ 2 * (a + 1) ∷ []) }

-- the shown state with the new object
abbrev pub newly : State → Name → Thing → ℕ → State
newly s n o t = record s { objects = with_object s.objects n o; stacks = set s.stacks (t - 1) (stack s t ++ Object n ∷ []); made = set s.made (t - 1) (get_or s.made (t - 1) 0 + 1) }

-- no object has the name of the next one
pub no_object-case : (s : State) (n : Name) (t : ℕ) → 1 ≤ t → n ≡ record { thread = t; serial = get_or s.made (t - 1) 0 + 1 } → (m : Areas) (c : Contents) (l : Places) → StandsAs m c s l → (x : Option Thing) → s.objects n ≡ x → s.objects n ≡ None
no_object-case s n t ht is m c l h None e = e
no_object-case s n t ht is m c l h (Some o) e =
    let a : n.thread ≡ t = ap (λ (y : Name). y.thread) is in
    let b : n.serial ≡ get_or s.made (t - 1) 0 + 1 = ap (λ (y : Name). y.serial) is in
    absurd (⊎_elim
    (λ (z : (n.thread ≡ 0) × (n.serial ≡ 0)). let r : ⊥ = omega (arith, a, z.0) in r)
    (λ (z : (1 ≤ n.thread) × (n.thread ≤ length s.made) × (1 ≤ n.serial) × (n.serial ≤ get_or s.made (n.thread - 1) 0)).
    let at : get_or s.made (n.thread - 1) 0 ≡ get_or s.made (t - 1) 0 = ap (λ i. get_or s.made (i - 1) 0) a in
    let r : ⊥ = omega (arith, b, z.3, at) in r)
    (h.names n o e))

-- the data's words stay, since none refers to the new object
words-kept : (objects : Name → Option Thing) (at : Name → ℕ) (n : Name) (a : ℕ) → objects n ≡ None → (vs : List Datum) → All (IsDatum objects) vs → map (datum_word (λ x. cond (same_name x n) a (at x))) vs ≡ map (datum_word at) vs
words-kept objects at n a fresh [] h = refl
words-kept objects at n a fresh (v ∷ vs) h =
    let first = datum-word-kept objects at n a fresh v (All-head (IsDatum objects) v vs h) in
    let rest = words-kept objects at n a fresh vs (All-tail (IsDatum objects) v vs h) in
    ap (λ (i : ℕ). i ∷ map (datum_word (λ x. cond (same_name x n) a (at x))) vs) first ∙ ap (λ (is : List ℕ). datum_word at v ∷ is) rest

stacks-kept : (objects : Name → Option Thing) (at : Name → ℕ) (n : Name) (a : ℕ) → objects n ≡ None → (vss : List (List Datum)) → All (All (IsDatum objects)) vss → map (map (datum_word (λ x. cond (same_name x n) a (at x)))) vss ≡ map (map (datum_word at)) vss
stacks-kept objects at n a fresh [] h = refl
stacks-kept objects at n a fresh (vs ∷ vss) h =
    let first = words-kept objects at n a fresh vs (All-head (All (IsDatum objects)) vs vss h) in
    let rest = stacks-kept objects at n a fresh vss (All-tail (All (IsDatum objects)) vs vss h) in
    ap (λ (is : List ℕ). is ∷ map (map (datum_word (λ x. cond (same_name x n) a (at x)))) vss) first ∙ ap (λ (iss : List (List ℕ)). map (datum_word at) vs ∷ iss) rest

-- the heap with the new object
heap-added : (m : Areas) (c c' : Contents) (s : State) (l : Places) (heap : List ℕ) (n : Name) (o : Thing) (t d size p used a : ℕ) → StandsAs m c s l → Placing m c c' t d size p used → s.objects n ≡ None → o.home ≡ inner_of t d → size ≡ length o.fields + OBJECT_WORDS → a ≡ page_words m * p + used → Written c.heap heap a size → ObjectAt heap (grown l p n a).at (λ _. 0) n o → HeapStands m c'.table heap (with_object s.objects n o) (grown l p n a) (λ _. 0)
heap-added m c c' s l heap n o t d size p used a h place fresh home is address written there =
    let x : Space = inner_of t d in
    let e = place.entered in
    let own = get_or-set_same c.table p (entry x used) [] e.listed in
    let first = heap-entered m c.table c.heap s.objects l (λ _. 0) x p used h.heap e.page e.listed e.before e.mark in
    let sum : sum_by (size_by s.objects) (names_of l p) ≡ used = sym (h.heap.marks p e.page) ∙ e.mark in
    let spaces : (q : ℕ) → space_word c'.table q ≡ space_word (set c.table p (entry x used)) q = λ q. ⊎_elim
    (λ (same : q ≡ p). ap (space_word c'.table) same ∙ space-entered m c.table c'.table x p used size e ∙ sym (ap (λ i. space_word (set c.table p (entry x used)) i) same ∙ ap (λ (r : List ℕ). get_or r 0 0) own))
    (λ (ne : q ≢ p). ap (λ (r : List ℕ). get_or r 0 0) (row-other m c.table c'.table x p used size e q ne ∙ sym (get_or-set_other c.table p q (entry x used) [] ne)))
    (cases_eq q p) in
    let mark : used_mark c'.table p ≡ used_mark (set c.table p (entry x used)) p + (length o.fields + OBJECT_WORDS) = mark-entered m c.table c'.table x p used size e ∙ ap (λ i. used + i) is ∙ ap (λ (r : List ℕ). get_or r 1 0 + (length o.fields + OBJECT_WORDS)) (sym own) in
    let marks : (q : ℕ) → q ≢ p → used_mark c'.table q ≡ used_mark (set c.table p (entry x used)) q = λ q ne. ap (λ (r : List ℕ). get_or r 1 0) (row-other m c.table c'.table x p used size e q ne ∙ sym (get_or-set_other c.table p q (entry x used) [] ne)) in
    heap-new m (set c.table p (entry x used)) c'.table c.heap heap s.objects l (λ _. 0) n o p a first (address ∙ ap (λ i. page_words m * p + i) (sym sum)) fresh e.page (omega (arith, sum, is, e.room)) (ap (λ (r : List ℕ). get_or r 0 0) own ∙ ap (λ (y : Space). space_index y + 1) (sym home)) spaces mark marks (λ y q k. (h.closed.fields y q k).0) (λ i out. written.others i (subst (λ j. (i < a) ⊎ (a + j ≤ i)) (sym is) out)) there

-- the words with a new object stand for the state with it
pub stands-added : (m : Areas) (c c' : Contents) (s : State) (l : Places) (heap : List ℕ) (n : Name) (o : Thing) (t d size p used a : ℕ) → IsAreas m → HasThread m t → d ≡ depth s t → StandsAs m c s l → Placing m c c' t d size p used → n ≡ record { thread = t; serial = get_or s.made (t - 1) 0 + 1 } → get_or s.made (t - 1) 0 < MAX_SERIAL → length (stack_of c t) < STACK_SLOTS → length s.made ≡ m.threads → o.home ≡ inner_of t d → size ≡ length o.fields + OBJECT_WORDS → All (IsDatum (with_object s.objects n o)) o.fields → length o.fields ≤ MAX_FIELDS → a ≡ page_words m * p + used → Written c.heap heap a size → ObjectAt heap (grown l p n a).at (λ _. 0) n o → StandsAs m (with_new c' heap t (get_or s.made (t - 1) 0 + 1) a) (newly s n o t) (grown l p n a)
stands-added m c c' s l heap n o t d size p used a areas ht deep h place is_next unspent room long home is kinds few address written there =
    let fresh = no_object-case s n t ht.0 is_next m c l h (s.objects n) refl in
    let hp : p < length l.pages = rw h.heap.count place.entered.page in
    let k : ℕ = get_or s.made (t - 1) 0 + 1 in
    let apart : (x : Name) (q j : ℕ) → IsAt l x q j → x ≢ n = λ x q j at e. (let w = h.heap.whole x q j at in let no : Some w.0 ≡ None = sym w.1 ∙ ap s.objects e ∙ fresh in cc) in
    let at' : Name → ℕ = (grown l p n a).at in
    let here : at' n ≡ a = rw (same_name-self n) refl in
    let fits : d ≤ max_depth m = rw (deep, ← h.depths) (all-at (λ i. i ≤ max_depth m) c.depths (t - 1) 0 (omega arith) h.limits.depths) in
    let inside : t ≤ length s.depths = rw h.threads ht.1 in
    let words : set c'.stacks (t - 1) (stack_of c' t ++ 2 * (a + 1) ∷ []) ≡ map (map (datum_word at')) (set s.stacks (t - 1) (stack s t ++ Object n ∷ [])) =
    let st : stack_of c' t ≡ map (datum_word at') (stack s t) = ap (λ (ss : List (List ℕ)). get_or ss (t - 1) []) place.same_stacks ∙ stack-stands m c s l t h ∙ sym (words-kept s.objects l.at n a fresh (stack s t) (all-at (All (IsDatum s.objects)) s.stacks (t - 1) [] (All-nil (IsDatum s.objects)) h.closed.stacks)) in
    let all : c'.stacks ≡ map (map (datum_word at')) s.stacks = place.same_stacks ∙ h.stacks ∙ sym (stacks-kept s.objects l.at n a fresh s.stacks h.closed.stacks) in
    let top : stack_of c' t ++ 2 * (a + 1) ∷ [] ≡ map (datum_word at') (stack s t ++ Object n ∷ []) = ap (λ (is : List ℕ). is ++ 2 * (a + 1) ∷ []) st ∙ ap (λ i. map (datum_word at') (stack s t) ++ 2 * (i + 1) ∷ []) (sym here) ∙ sym (map-append (datum_word at') (stack s t) (Object n ∷ [])) in
    ap (λ (ss : List (List ℕ)). set ss (t - 1) (stack_of c' t ++ 2 * (a + 1) ∷ [])) all ∙ ap (set (map (map (datum_word at')) s.stacks) (t - 1)) top ∙ sym (map-set (map (datum_word at')) s.stacks (t - 1) (stack s t ++ Object n ∷ []))
    in
    let same_length : length (stack_of c' t) ≡ length (stack_of c t) = ap (λ (ss : List (List ℕ)). length (get_or ss (t - 1) [])) place.same_stacks in
    record {
      heap = heap-added m c c' s l heap n o t d size p used a h place fresh home is address written there;
      open_spaces = open-added m c c' s.depths t d size p used place h.open_spaces (inner-open s.depths t d ht.0 inside (sym deep));
      closed = (let shown = closed-added s n o t h.closed kinds few in record { stacks = shown.stacks; fields = shown.fields });
      stacks = words;
      depths = place.same_depths ∙ h.depths;
      made = ap (λ (is : List ℕ). set is (t - 1) k) (place.same_made ∙ h.made);
      serials = All-set (λ i. i ≤ MAX_SERIAL) s.made (t - 1) k (omega arith) h.serials;
      threads = h.threads;
      names = names-added s.objects s.made n o t ht.0 (rw long ht.1) is_next h.names;
      limits = record {
        depths = subst (All (λ i. i ≤ max_depth m)) (sym place.same_depths) h.limits.depths;
        stacks = All-set (λ (xs : List ℕ). length xs ≤ STACK_SLOTS) c'.stacks (t - 1) (stack_of c' t ++ 2 * (a + 1) ∷ []) (omega (arith, room, same_length, length-append (stack_of c' t) (2 * (a + 1) ∷ []))) (subst (All (λ (xs : List ℕ). length xs ≤ STACK_SLOTS)) (sym place.same_stacks) h.limits.stacks);
        buffers = subst (All (λ (xs : List ℕ). length xs ≤ BUFFER_ENTRIES)) (sym place.same_buffers) h.limits.buffers;
      };
      zero = record {
        heads = subst (All (λ w. w ≡ 0)) (sym place.unused) h.zero.heads;
        blocks = subst (All (All (λ w. w ≡ 0))) (sym place.same_rests) h.zero.blocks;
      };
      pool = place.pool;
      currents = place.currents;
      sets = subst (λ (fs : List (List ℕ)). SetsStand m fs c'.sets) (sym place.same_firsts) (subst (SetsStand m c.firsts) (sym place.same_sets) h.sets);
      heads_closed = subst (λ (fs : List (List ℕ)). HeadsClosed m fs s.depths) (sym place.same_firsts) h.heads_closed;
      dense = dense-added m c c' l s.objects n o t d size p used a areas ht fits place h.currents hp apart home is h.dense;
    }
