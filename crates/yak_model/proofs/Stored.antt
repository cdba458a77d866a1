use Rattle.std.proofs.Common.{◌≡◌, ◌⊎◌, ℕ, ◌+◌, ◌-◌, ◌*◌, ◌≤◌, ◌<◌, Bool, true, false, cond, Option, Some, List, length, set, refl, sym, ap, subst, ◌∙◌, inl, inr, length-set}
use Rattle.std.proofs.lemmas.List.Elements.{All-set, All-weaker}
use Rattle.std.proofs.Math.Logic.{⊎_elim}
use Rattle.std.proofs.Math.Path.{fun_ext}
use Rattle.std.specs.Option.{is_some}
use Rattle.std.specs.Prelude.{◌==◌}
use Rattle.std.specs.List.{All, sum_by}
use Rattle.object_layout.specs.declared.names.Name.{Name}
use Rattle.object_layout.specs.declared.TheConstants.{MAX_FIELDS}
use Rattle.heap_words.specs.declared.map.Areas.{Areas}
use Rattle.heap_words.specs.Map.{page_words}
use Rattle.heap_words.specs.Contents.{Contents, with_heap}
use Rattle.epoch_lattice.specs.declared.Space.{Space}
use Rattle.epoch_lattice.specs.declared.Space.TheVariants.{Region}
use Rattle.yak_model.specs.declared.datum.Datum.{Datum}
use Rattle.yak_model.specs.declared.datum.Datum.TheVariants.{Null, Int, Object}
use Rattle.epoch_lattice.specs.Lattice.{space_index}
use Rattle.yak_model.specs.State.{Thing, State, IsDatum}
use Rattle.yak_model.specs.Placed.{datum_word, Places, names_of, size_by, words_by, used_mark, Tiles, HeapStands, same_name, with_object, with_field}
use Rattle.yak_model.specs.Stands.{StandsAs, words_in, words_taken, pages_of, current}
use Rattle.yak_model.proofs.Placed.{same_name-true, held-store}

-- what does not tell the new object from the old one
unchanged-case : {Y : Type 0} (F : Option Thing → Y) (objects : Name → Option Thing) (n : Name) (o p : Thing) → F (Some p) ≡ F (Some o) → objects n ≡ Some o → (x : Name) (b : Bool) → same_name x n ≡ b → F (cond b (Some p) (objects x)) ≡ F (objects x)
unchanged-case F objects n o p e here x true same = e ∙ ap F (sym here) ∙ ap (λ y. F (objects y)) (sym (same_name-true x n same))
unchanged-case F objects n o p e here x false other = refl

pub unchanged : {Y : Type 0} (F : Option Thing → Y) (objects : Name → Option Thing) (n : Name) (o p : Thing) → F (Some p) ≡ F (Some o) → objects n ≡ Some o → (x : Name) → F (with_object objects n p x) ≡ F (objects x)
unchanged F objects n o p e here x = unchanged-case F objects n o p e here x (same_name x n) refl

-- an object afterwards is the new one or one from before
which : (objects : Name → Option Thing) (n : Name) (p : Thing) (x : Name) (q : Thing) (b : Bool) → same_name x n ≡ b → cond b (Some p) (objects x) ≡ Some q → ((x ≡ n) × (p ≡ q)) ⊎ (objects x ≡ Some q)
which objects n p x q true same e = inl (same_name-true x n same, cc)
which objects n p x q false other e = inr e

pub after_object : (objects : Name → Option Thing) (n : Name) (p : Thing) (x : Name) (q : Thing) → with_object objects n p x ≡ Some q → ((x ≡ n) × (p ≡ q)) ⊎ (objects x ≡ Some q)
after_object objects n p x q e = which objects n p x q (same_name x n) refl e

some-is : (a b : Thing) → Some a ≡ Some b → a ≡ b
some-is a b h = cc

-- an object from before is there afterwards, with the same home
still : (objects : Name → Option Thing) (n : Name) (o p : Thing) → objects n ≡ Some o → p.home ≡ o.home → (x : Name) (q : Thing) (b : Bool) → same_name x n ≡ b → objects x ≡ Some q → (r : Thing) × (cond b (Some p) (objects x) ≡ Some r) × (r.home ≡ q.home)
still objects n o p here home x q true same e =
    let at : objects n ≡ Some q = ap objects (sym (same_name-true x n same)) ∙ e in
    let one : o ≡ q = some-is o q (sym here ∙ at) in
    (p, refl, home ∙ ap (λ (t : Thing). t.home) one)
still objects n o p here home x q false other e = (q, e, refl)

heap-store : (m : Areas) (table : List (List ℕ)) (heap : List ℕ) (objects : Name → Option Thing) (l : Places) (work : Name → ℕ) (n : Name) (o : Thing) (f : ℕ) (v : Datum) → HeapStands m table heap objects l work → objects n ≡ Some o → f < length o.fields → l.at n + 3 + f < length heap → HeapStands m table (set heap (l.at n + 3 + f) (datum_word l.at v)) (with_object objects n (with_field o f v)) l work
heap-store m table heap objects l work n o f v h here lt within =
    let p : Thing = with_field o f v in
    let long : length (set o.fields f v) + 3 ≡ length o.fields + 3 = ap (λ k. k + 3) (length-set o.fields f v) in
    let sizes : size_by (with_object objects n p) ≡ size_by objects = fun_ext (unchanged words_by objects n o p long here) in
    record {
      count = h.count;
      tiles = subst (λ (size : Name → ℕ). Tiles (page_words m) size l) (sym sizes) h.tiles;
      present = λ x q e. ⊎_elim (λ (s : (x ≡ n) × (p ≡ q)). h.present x o (ap objects s.0 ∙ here)) (λ (s : objects x ≡ Some q). h.present x q s) (after_object objects n p x q e);
      whole = λ x q k a.
          let w = h.whole x q k a in
          let s = still objects n o p here refl x w.0 (same_name x n) refl w.1 in
          (s.0, s.1, w.2 ∙ ap (λ (y : Space). space_index y + 1) (sym s.2));
      marks = λ q lq. h.marks q lq ∙ ap (λ (size : Name → ℕ). sum_by size (names_of l q)) (sym sizes);
      held = held-store (page_words m) l heap work objects n o f v h.tiles h.present h.held here lt within;
    }

-- the data of the state stay so
data_stay : (objects : Name → Option Thing) (n : Name) (o p : Thing) → objects n ≡ Some o → (d : Datum) → IsDatum objects d → IsDatum (with_object objects n p) d
data_stay objects n o p here Null h = tt
data_stay objects n o p here (Int i) h = h
data_stay objects n o p here (Object x) h = unchanged is_some objects n o p refl here x ∙ h

words-same : (x : Space) (o : Thing) (f : ℕ) (v : Datum) → words_in x (Some (with_field o f v)) ≡ words_in x (Some o)
words-same x o f v = ap (λ k. cond (space_index o.home == space_index x) (k + 3) 0) (length-set o.fields f v)

-- a field stored
pub stands-store : (m : Areas) (c : Contents) (s : State) (l : Places) (n : Name) (o : Thing) (f : ℕ) (v : Datum) → StandsAs m c s l → s.objects n ≡ Some o → f < length o.fields → IsDatum s.objects v → l.at n + 3 + f < length c.heap → StandsAs m (with_heap c (l.at n + 3 + f) (datum_word l.at v)) (record s { objects = with_object s.objects n (with_field o f v) }) l
stands-store m c s l n o f v h here lt datum within =
    let p : Thing = with_field o f v in
    let stay = data_stay s.objects n o p here in
    let long : length (set o.fields f v) + 3 ≡ length o.fields + 3 = ap (λ k. k + 3) (length-set o.fields f v) in
    let old = h.closed.fields n o here in
    record {
      heap = heap-store m c.table c.heap s.objects l (λ _. 0) n o f v h.heap here lt within;
      open_spaces = h.open_spaces;
      closed = record {
        stacks = All-weaker (All (IsDatum s.objects)) (All (IsDatum (with_object s.objects n p))) (λ st a. All-weaker (IsDatum s.objects) (IsDatum (with_object s.objects n p)) stay st a) s.stacks h.closed.stacks;
        fields = λ x q e. ⊎_elim
            (λ (r : (x ≡ n) × (p ≡ q)). subst (λ (t : Thing). All (IsDatum (with_object s.objects n p)) t.fields × (length t.fields ≤ MAX_FIELDS)) r.1
            (All-set (IsDatum (with_object s.objects n p)) o.fields f v (stay v datum) (All-weaker (IsDatum s.objects) (IsDatum (with_object s.objects n p)) stay o.fields old.0), rw (length-set o.fields f v) old.1))
            (λ (r : s.objects x ≡ Some q). let a = h.closed.fields x q r in (All-weaker (IsDatum s.objects) (IsDatum (with_object s.objects n p)) stay q.fields a.0, a.1))
            (after_object s.objects n p x q e);
      };
      stacks = h.stacks;
      depths = h.depths;
      made = h.made;
      serials = h.serials;
      threads = h.threads;
      names = λ x q e. ⊎_elim (λ (r : (x ≡ n) × (p ≡ q)). h.names x o (ap s.objects r.0 ∙ here)) (λ (r : s.objects x ≡ Some q). h.names x q r) (after_object s.objects n p x q e);
      limits = record { depths = h.limits.depths; stacks = h.limits.stacks; buffers = h.limits.buffers };
      zero = h.zero;
      pool = h.pool;
      currents = h.currents;
      sets = h.sets;
      heads_closed = h.heads_closed;
      dense = λ t d ht hm hd hg some.
          let w = h.dense t d ht hm hd hg some in
          let x : Space = Region t d in
          let same : words_taken l.pages (with_object s.objects n p) x ≡ words_taken l.pages s.objects x = ap (λ (g : Name → ℕ). sum_by (λ (ns : List Name). sum_by g ns) l.pages) (fun_ext (unchanged (words_in x) s.objects n o p (words-same x o f v) here)) in
          (w.0, subst (λ k. page_words m * (pages_of c.table x - 1) + used_mark c.table (current c.currents t d - 1) ≤ 2 * k) (sym same) w.1);
    }
