-- A state with one more object, and the words that stand for it.
use Rattle.std.proofs.Common.{◌≡◌, ◌≢◌, ◌⊎◌, ℕ, ◌+◌, ◌-◌, ◌*◌, ◌≤◌, ◌<◌, Bool, true, false, cond, Option, Some, List, [], ◌∷◌, ◌++◌, length, get_or, set, zero, suc, refl, sym, ap, subst, ◌∙◌, arith, inl, inr, length-set, get_or-set_same, get_or-set_other}
use Rattle.std.specs.Prelude.{IsSome}
use Rattle.std.specs.List.{All}
use Rattle.std.proofs.lemmas.Bool.{cases_eq, eq-eqb, ne_eqb}
use Rattle.std.proofs.lemmas.List.Elements.{All-push, All-set, All-weaker, All-nil}
use Rattle.std.proofs.Math.Logic.{⊎_elim}
use Rattle.object_layout.specs.declared.names.Name.{Name}
use Rattle.object_layout.specs.declared.TheConstants.{MAX_FIELDS, OBJECT_WORDS}
use Rattle.heap_words.specs.declared.map.Areas.{Areas}
use Rattle.heap_words.specs.Map.{HasThread, IsAreas, max_depth, page_words}
use Rattle.heap_words.specs.Cells.{row}
use Rattle.heap_words.specs.Contents.{Contents}
use Rattle.epoch_lattice.specs.declared.Space.{Space}
use Rattle.epoch_lattice.specs.declared.Space.TheVariants.{Region}
use Rattle.epoch_lattice.specs.declared.TheConstants.{MAX_DEPTH}
use Rattle.epoch_lattice.specs.Lattice.{IsValid, inner_of, space_index}
use Rattle.epoch_lattice.proofs.Numbers.{number-own}
use Rattle.yak_model.specs.declared.datum.Datum.{Datum}
use Rattle.yak_model.specs.declared.datum.Datum.TheVariants.{Null, Int, Object}
use Rattle.yak_model.specs.State.{IsClosed, IsDatum, IsOpen, State, Thing, stack}
use Rattle.yak_model.specs.Placed.{IsAt, Places, same_name, space_word, used_mark, with_object}
use Rattle.yak_model.specs.Stands.{CurrentsStand, NamesMade, PoolStands, RegionsDense, SpacesOpen, current, pages_of, unused_heads, words_in, words_taken}
use Rattle.yak_model.proofs.Grown.{grown}
use Rattle.yak_model.proofs.Placed.{same_name-self}
use Rattle.yak_model.proofs.Stacks.{all-at}
use Rattle.yak_model.proofs.Stored.{after_object}
use Rattle.standing_calls.proofs.Sums.{words_taken-grown}
use Rattle.standing_calls.proofs.Entered.{Entered, claimed-dense, mark-entered, pages-more, pages-other, pages-own, row-other, space-entered}

-- what placing an object of some words changes in the words of the pages, the pool and the current pages
pub record Placing (m : Areas) (c c' : Contents) (t d size p used : ℕ) : Type 0 where
  pub entered : Entered m c.table c'.table (inner_of t d) p used size
  pub current_now : current c'.currents t d ≡ p + 1
  pub current_was : space_word c.table p ≡ space_index (inner_of t d) + 1 → current c.currents t d ≡ p + 1
  pub others : (u e : ℕ) → 1 ≤ u → ((u ≡ t) × (e ≡ d) → ⊥) → current c'.currents u e ≡ current c.currents u e
  pub few_left : space_word c.table p ≡ 0 → current c.currents t d ≢ 0 → page_words m < used_mark c.table (current c.currents t d - 1) + size
  pub pool : PoolStands m c'.heads c'.pool c'.table
  pub currents : CurrentsStand m c'.currents c'.table
  pub unused : unused_heads c'.heads ≡ unused_heads c.heads
  pub slots : (u : ℕ) → HasThread m u → length (row c.currents (u - 1)) ≡ max_depth m + 1
  pub same_firsts : c'.firsts ≡ c.firsts
  pub same_sets : c'.sets ≡ c.sets
  pub same_rests : c'.rests ≡ c.rests
  pub same_depths : c'.depths ≡ c.depths
  pub same_buffers : c'.buffers ≡ c.buffers
  pub same_made : c'.made ≡ c.made
  pub same_stacks : c'.stacks ≡ c.stacks
  pub same_heap : c'.heap ≡ c.heap

-- a region of the heap is a valid space
region-valid : (m : Areas) (t d : ℕ) → IsAreas m → 1 ≤ t → t ≤ m.threads → d ≤ max_depth m → IsValid MAX_DEPTH (inner_of t d)
region-valid m t zero areas ht hm hd = tt
region-valid m t (suc d) areas ht hm hd = (ht, omega arith, omega arith, hd)

region-parts : (a b x y : ℕ) → Region a b ≡ Region x y → (a ≡ x) × (b ≡ y)
region-parts a b x y h = (cc, cc)

-- regions that differ have different numbers
pub apart-index : (m : Areas) (t d u e : ℕ) → IsAreas m → HasThread m t → d ≤ max_depth m → 1 ≤ u → u ≤ m.threads → 1 ≤ e → e ≤ max_depth m → ((u ≡ t) × (e ≡ d) → ⊥) → space_index (Region u e) ≢ space_index (inner_of t d)
apart-index m t zero u e areas ht hd hu hm he hk ne q = omega arith
apart-index m t (suc d) u e areas ht hd hu hm he hk ne q =
    let same : Region u e ≡ Region t (suc d) = number-own (Region u e) (Region t (suc d)) (hu, omega arith, he, hk) (region-valid m t (suc d) areas ht.0 ht.1 hd) q in
    ne (region-parts u e t (suc d) same)

-- the innermost space of a thread is open
pub inner-open : (depths : List ℕ) (t d : ℕ) → 1 ≤ t → t ≤ length depths → get_or depths (t - 1) 0 ≡ d → IsOpen depths (inner_of t d)
inner-open depths t zero ht hl e = tt
inner-open depths t (suc d) ht hl e = (ht, hl, omega arith, omega (arith, e))

-- the pages' spaces are open
pub open-added : (m : Areas) (c c' : Contents) (depths : List ℕ) (t d size p used : ℕ) → Placing m c c' t d size p used → SpacesOpen m c.table depths → IsOpen depths (inner_of t d) → SpacesOpen m c'.table depths
open-added m c c' depths t d size p used h was open_it q lq = ⊎_elim
    (λ (e : q ≡ p). inr (inner_of t d, ap (space_word c'.table) e ∙ space-entered m c.table c'.table (inner_of t d) p used size h.entered, open_it))
    (λ (ne : q ≢ p). subst (λ (r : List ℕ). (get_or r 0 0 ≡ 0) ⊎ ((x : Space) × (get_or r 0 0 ≡ space_index x + 1) × IsOpen depths x)) (sym (row-other m c.table c'.table (inner_of t d) p used size h.entered q ne)) (was q lq))
    (cases_eq q p)

-- the words of the new object count for its space alone
own_words : (o : Thing) (x : Space) → space_index o.home ≡ space_index x → words_in x (Some o) ≡ length o.fields + OBJECT_WORDS
own_words o x e = rw (eq-eqb (space_index o.home) (space_index x) e) refl

other_words : (o : Thing) (x : Space) → space_index o.home ≢ space_index x → words_in x (Some o) ≡ 0
other_words o x ne = rw (ne_eqb (space_index o.home) (space_index x) ne) refl

-- the region of the new object stays dense
own-dense : (m : Areas) (c c' : Contents) (t d size p used W : ℕ) → Placing m c c' t (suc d) size p used → (0 < pages_of c.table (Region t (suc d)) → (current c.currents t (suc d) ≢ 0) × (page_words m * (pages_of c.table (Region t (suc d)) - 1) + used_mark c.table (current c.currents t (suc d) - 1) ≤ 2 * W)) → 0 < pages_of c'.table (Region t (suc d)) → page_words m * (pages_of c'.table (Region t (suc d)) - 1) + used_mark c'.table p ≤ 2 * (W + size)
own-dense m c c' t d size p used W h was some = ⊎_elim
    (λ (b : space_word c.table p ≡ space_index (Region t (suc d)) + 1).
    let same = pages-own m c.table c'.table (Region t (suc d)) p used size h.entered b in
    let mark = mark-entered m c.table c'.table (Region t (suc d)) p used size h.entered in
    let w = was (subst (λ i. 0 < i) same some) in
    let at : current c.currents t (suc d) - 1 ≡ p = omega (arith, h.current_was b) in
    let old : used_mark c.table (current c.currents t (suc d) - 1) ≡ used = ap (used_mark c.table) at ∙ h.entered.mark in
    rw (same, mark) (omega (arith, w.1, old)))
    (λ (b : (space_word c.table p ≡ 0) × (used ≡ 0)).
    let more = pages-more m c.table c'.table (Region t (suc d)) p used size h.entered b.0 in
    let mark : used_mark c'.table p ≡ size = mark-entered m c.table c'.table (Region t (suc d)) p used size h.entered ∙ omega (arith, b.1) in
    ⊎_elim
    (λ (z : pages_of c.table (Region t (suc d)) ≡ 0).
    let one : pages_of c'.table (Region t (suc d)) ≡ 1 = omega (arith, more, z) in
    rw (one, mark) (omega arith))
    (λ (nz : pages_of c.table (Region t (suc d)) ≢ 0).
    let w = was (omega (arith, nz)) in
    let over = h.few_left b.0 w.0 in
    rw (more, mark) (claimed-dense (page_words m) (pages_of c.table (Region t (suc d))) (used_mark c.table (current c.currents t (suc d) - 1)) W size (omega (arith, nz)) w.1 over))
    (cases_eq (pages_of c.table (Region t (suc d))) 0))
    h.entered.before

-- a page of another region isn't the one in which the object is placed
other-page : (m : Areas) (c c' : Contents) (t d size p used u e : ℕ) → IsAreas m → HasThread m t → d ≤ max_depth m → Placing m c c' t d size p used → CurrentsStand m c.currents c.table → 1 ≤ u → u ≤ m.threads → 1 ≤ e → e ≤ max_depth m → ((u ≡ t) × (e ≡ d) → ⊥) → current c.currents u e ≢ 0 → current c.currents u e - 1 ≢ p
other-page m c c' t d size p used u zero areas ht hd h was hu hm he hk ne some q = omega arith
other-page m c c' t d size p used u (suc e) areas ht hd h was hu hm he hk ne some q =
    let inside : suc e < length (row c.currents (u - 1)) = omega (arith, h.slots u (hu, hm)) in
    let b = (was.belong u (suc e) hu hm inside some).1 in
    let there : space_word c.table p ≡ space_index (Region u (suc e)) + 1 = ap (space_word c.table) (sym q) ∙ b in
    ⊎_elim
    (λ (o : space_word c.table p ≡ space_index (inner_of t d) + 1). apart-index m t d u (suc e) areas ht hd hu hm he hk ne (omega (arith, there, o)))
    (λ (f : (space_word c.table p ≡ 0) × (used ≡ 0)). let r : ⊥ = omega (arith, there, f.0) in r)
    h.entered.before

decide_pair : (u t e d : ℕ) → ((u ≡ t) × (e ≡ d)) ⊎ ((u ≡ t) × (e ≡ d) → ⊥)
decide_pair u t e d = ⊎_elim
    (λ (q : u ≡ t). ⊎_elim (λ (r : e ≡ d). inl (q, r)) (λ (nr : e ≢ d). inr (λ b. nr b.1)) (cases_eq e d))
    (λ (nq : u ≢ t). inr (λ b. nq b.0))
    (cases_eq u t)

-- what is said of one region
abbrev pub IsDense : Areas → List (List ℕ) → List (List ℕ) → List (List Name) → (Name → Option Thing) → ℕ → ℕ → Type 0
IsDense m table currents pages objects t d = (current currents t d ≢ 0) × (page_words m * (pages_of table (Region t d) - 1) + used_mark table (current currents t d - 1) ≤ 2 * words_taken pages objects (Region t d))

own-region : (m : Areas) (c c' : Contents) (l : Places) (objects : Name → Option Thing) (n : Name) (o : Thing) (t d size p used a : ℕ) → 1 ≤ d → d ≤ max_depth m → HasThread m t → Placing m c c' t d size p used → p < length l.pages → ((x : Name) (q k : ℕ) → IsAt l x q k → x ≢ n) → o.home ≡ inner_of t d → size ≡ length o.fields + OBJECT_WORDS → RegionsDense m c.table c.currents l.pages objects → 0 < pages_of c'.table (Region t d) → IsDense m c'.table c'.currents (grown l p n a).pages (with_object objects n o) t d
own-region m c c' l objects n o t zero size p used a one deep ht h hp apart home is was some = absurd (omega arith)
own-region m c c' l objects n o t (suc d) size p used a one deep ht h hp apart home is was some =
    let x : Space = Region t (suc d) in
    let W : ℕ = words_taken l.pages objects x in
    let total : words_taken (grown l p n a).pages (with_object objects n o) x ≡ W + words_in x (Some o) = words_taken-grown l objects n o p a x hp apart in
    let own : words_in x (Some o) ≡ size = own_words o x (ap space_index home) ∙ sym is in
    let at : current c'.currents t (suc d) - 1 ≡ p = omega (arith, h.current_now) in
    let dense = own-dense m c c' t d size p used W h (λ s. was t (suc d) ht.0 ht.1 one deep s) some in
    (λ z. omega (arith, z, h.current_now), rw (at, total, own) dense)

-- the regions stay dense
pub dense-added : (m : Areas) (c c' : Contents) (l : Places) (objects : Name → Option Thing) (n : Name) (o : Thing) (t d size p used a : ℕ) → IsAreas m → HasThread m t → d ≤ max_depth m → Placing m c c' t d size p used → CurrentsStand m c.currents c.table → p < length l.pages → ((x : Name) (q k : ℕ) → IsAt l x q k → x ≢ n) → o.home ≡ inner_of t d → size ≡ length o.fields + OBJECT_WORDS → RegionsDense m c.table c.currents l.pages objects → RegionsDense m c'.table c'.currents (grown l p n a).pages (with_object objects n o)
dense-added m c c' l objects n o t d size p used a areas ht hd h cur hp apart home is was u e hu hm he hk some =
    let y : Space = Region u e in
    let total : words_taken (grown l p n a).pages (with_object objects n o) y ≡ words_taken l.pages objects y + words_in y (Some o) = words_taken-grown l objects n o p a y hp apart in
    ⊎_elim
    (λ (same : (u ≡ t) × (e ≡ d)).
    let some' : 0 < pages_of c'.table (Region t d) = subst (λ i. 0 < pages_of c'.table (Region t i)) same.1 (subst (λ i. 0 < pages_of c'.table (Region i e)) same.0 some) in
    let own = own-region m c c' l objects n o t d size p used a (subst (λ i. 1 ≤ i) same.1 he) hd ht h hp apart home is was some' in
    subst (λ i. IsDense m c'.table c'.currents (grown l p n a).pages (with_object objects n o) i e) (sym same.0) (subst (λ i. IsDense m c'.table c'.currents (grown l p n a).pages (with_object objects n o) t i) (sym same.1) own))
    (λ (ne : (u ≡ t) × (e ≡ d) → ⊥).
    let far = apart-index m t d u e areas ht hd hu hm he hk ne in
    let pages = pages-other m c.table c'.table (inner_of t d) y p used size h.entered far in
    let w = was u e hu hm he hk (subst (λ i. 0 < i) pages some) in
    let at = h.others u e hu ne in
    let not_p = other-page m c c' t d size p used u e areas ht hd h cur hu hm he hk ne w.0 in
    let mark : used_mark c'.table (current c'.currents u e - 1) ≡ used_mark c.table (current c.currents u e - 1) = ap (λ i. used_mark c'.table (i - 1)) at ∙ ap (λ (r : List ℕ). get_or r 1 0) (row-other m c.table c'.table (inner_of t d) p used size h.entered (current c.currents u e - 1) not_p) in
    let none : words_in y (Some o) ≡ 0 = other_words o y (λ q. far (sym q ∙ ap space_index home)) in
    (λ z. w.0 (sym at ∙ z), rw (pages, mark, total) (omega (arith, w.1, none))))
    (decide_pair u t e d)

still : (b : Bool) (x : Option Thing) (o : Thing) → IsSome x → IsSome (cond b (Some o) x)
still true x o h = refl
still false x o h = h

here : (b : Bool) (x : Option Thing) (o : Thing) → b ≡ true → IsSome (cond b (Some o) x)
here true x o h = refl
here false x o h = cc

-- the data of the state stay so
datum-added : (objects : Name → Option Thing) (n : Name) (o : Thing) (d : Datum) → IsDatum objects d → IsDatum (with_object objects n o) d
datum-added objects n o Null h = tt
datum-added objects n o (Int i) h = h
datum-added objects n o (Object x) h = still (same_name x n) (objects x) o h

-- every datum in sight is one of the state
pub closed-added : (s : State) (n : Name) (o : Thing) (t : ℕ) → IsClosed s → All (IsDatum (with_object s.objects n o)) o.fields → length o.fields ≤ MAX_FIELDS → IsClosed (record s { objects = with_object s.objects n o; stacks = set s.stacks (t - 1) (stack s t ++ Object n ∷ []) })
closed-added s n o t h fields few =
    let grow : (vs : List Datum) → All (IsDatum s.objects) vs → All (IsDatum (with_object s.objects n o)) vs = λ vs a. All-weaker (IsDatum s.objects) (IsDatum (with_object s.objects n o)) (datum-added s.objects n o) vs a in
    let stacks : All (All (IsDatum (with_object s.objects n o))) s.stacks = All-weaker (All (IsDatum s.objects)) (All (IsDatum (with_object s.objects n o))) grow s.stacks h.stacks in
    let own : IsDatum (with_object s.objects n o) (Object n) = here (same_name n n) (s.objects n) o (same_name-self n) in
    record {
      stacks = All-set (All (IsDatum (with_object s.objects n o))) s.stacks (t - 1) (stack s t ++ Object n ∷ []) (All-push (IsDatum (with_object s.objects n o)) (stack s t) (Object n) (all-at (All (IsDatum (with_object s.objects n o))) s.stacks (t - 1) [] (All-nil (IsDatum (with_object s.objects n o))) stacks) own) stacks;
      fields = λ x q e. ⊎_elim
          (λ (r : (x ≡ n) × (o ≡ q)). subst (λ (y : Thing). All (IsDatum (with_object s.objects n o)) y.fields × (length y.fields ≤ MAX_FIELDS)) r.1 (fields, few))
          (λ (r : s.objects x ≡ Some q). let a = h.fields x q r in (grow q.fields a.0, a.1))
          (after_object s.objects n o x q e);
    }

-- the names are made
pub names-added : (objects : Name → Option Thing) (made : List ℕ) (n : Name) (o : Thing) (t : ℕ) → 1 ≤ t → t ≤ length made → n ≡ record { thread = t; serial = get_or made (t - 1) 0 + 1 } → NamesMade objects made → NamesMade (with_object objects n o) (set made (t - 1) (get_or made (t - 1) 0 + 1))
names-added objects made n o t ht hl is h x q e =
    let k : ℕ = get_or made (t - 1) 0 + 1 in
    let inside : t - 1 < length made = omega arith in
    let long : length (set made (t - 1) k) ≡ length made = length-set made (t - 1) k in
    let own : get_or (set made (t - 1) k) (t - 1) 0 ≡ k = get_or-set_same made (t - 1) k 0 inside in
    ⊎_elim
    (λ (r : (x ≡ n) × (o ≡ q)).
    let a : x.thread ≡ t = ap (λ (y : Name). y.thread) (r.0 ∙ is) in
    let b : x.serial ≡ k = ap (λ (y : Name). y.serial) (r.0 ∙ is) in
    let at : get_or (set made (t - 1) k) (x.thread - 1) 0 ≡ k = ap (λ i. get_or (set made (t - 1) k) (i - 1) 0) a ∙ own in
    inr (omega (arith, a, ht), omega (arith, a, hl, long), omega (arith, b), omega (arith, b, at)))
    (λ (r : objects x ≡ Some q). ⊎_elim
    (λ (z : (x.thread ≡ 0) × (x.serial ≡ 0)). inl z)
    (λ (z : (1 ≤ x.thread) × (x.thread ≤ length made) × (1 ≤ x.serial) × (x.serial ≤ get_or made (x.thread - 1) 0)).
    inr (
      z.0,
      omega (arith, z.1, long),
      z.2,
      ⊎_elim
          (λ (same : x.thread - 1 ≡ t - 1).
          let at : get_or (set made (t - 1) k) (x.thread - 1) 0 ≡ k = ap (λ i. get_or (set made (t - 1) k) i 0) same ∙ own in
          let was : get_or made (x.thread - 1) 0 ≡ get_or made (t - 1) 0 = ap (λ i. get_or made i 0) same in
          omega (arith, z.3, at, was))
          (λ (other : x.thread - 1 ≢ t - 1). rw (get_or-set_other made (t - 1) (x.thread - 1) k 0 other) z.3)
          (cases_eq (x.thread - 1) (t - 1)),
    ))
    (h x q r))
    (after_object objects n o x q e)
