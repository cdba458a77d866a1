-- Crossing references are recorded for each state that the words stand for, if they are for one.
use Rattle.std.proofs.Common.{◌≡◌, ◌≢◌, ◌⊎◌, ℕ, ◌+◌, ◌-◌, ◌*◌, ◌≤◌, ◌<◌, Option, Some, IsSome, List, take, [], length, get_or, zero, suc, refl, sym, ap, subst, ◌∙◌, arith, inl, inr}
use Rattle.std.specs.List.{All, Contains, flat_map, sum_by}
use Rattle.std.proofs.Props.{props}
use Rattle.std.proofs.lemmas.Bool.{cases_lt}
use Rattle.std.proofs.lemmas.List.{get_or_default, length-map, take_all}
use Rattle.std.proofs.lemmas.List.Elements.{All-nil}
use Rattle.std.proofs.lemmas.List.Sums.{sum_by_more, sum_by-take-le}
use Rattle.std.proofs.Math.Logic.{⊎_elim, ∥∥₁_elim}
use Rattle.object_layout.specs.declared.TheConstants.{HEADER_BASE, MAX_FIELDS, MAX_SERIAL, OBJECT_WORDS, SPACE_UNIT}
use Rattle.object_layout.specs.declared.names.Name.{Name}
use Rattle.object_layout.specs.Layout.{name_word}
use Rattle.heap_words.specs.declared.map.Areas.{Areas}
use Rattle.heap_words.specs.Map.{page_words}
use Rattle.heap_words.specs.Contents.{Contents, stack_of}
use Rattle.epoch_lattice.specs.declared.Space.{Space}
use Rattle.epoch_lattice.specs.declared.Space.TheVariants.{Region}
use Rattle.epoch_lattice.specs.declared.TheConstants.{MAX_DEPTH}
use Rattle.epoch_lattice.specs.Lattice.{IsValid, space_index}
use Rattle.epoch_lattice.proofs.Numbers.{number-own}
use Rattle.yak_model.specs.declared.datum.Datum.{Datum}
use Rattle.yak_model.specs.declared.datum.Datum.TheVariants.{Null, Int, Object}
use Rattle.yak_model.specs.Graph.{Limits}
use Rattle.yak_model.specs.Spaces.{SpaceState}
use Rattle.yak_model.specs.State.{IsDatum, State, Thing, depth, object_of, stack, view}
use Rattle.yak_model.specs.Placed.{IsAt, Places, datum_word, names_of, size_by}
use Rattle.yak_model.specs.Chains.{chain_of}
use Rattle.yak_model.specs.Stands.{Stands, StandsAs}
use Rattle.yak_model.specs.Recorded.{Enters, IsField, IsReader, IsRecordedFor, Recorded, RecordedAs}
use Rattle.yak_model.proofs.Chains.{contains-or}
use Rattle.yak_model.proofs.Data.{same-datum, some-of}
use Rattle.yak_model.proofs.Stacks.{all-at, get_or-map_all, stack-stands}
use Rattle.relocation.proofs.SlidLawful.{name_at, stands-at}
use Rattle.yak_model.specs.Recorded.{SomeRecorded}
use Rattle.standing_calls.proofs.Homes.{home-shown}

-- a header tells its fields and its space, and a name's word the name
same_header : (f g a b : ℕ) → f ≤ MAX_FIELDS → g ≤ MAX_FIELDS → HEADER_BASE + SPACE_UNIT * a + f ≡ HEADER_BASE + SPACE_UNIT * b + g → (f ≡ g) × (a ≡ b)
same_header f g a b hf hg e = (omega (arith, e), omega (arith, e))

same_name_word : (x y : Name) → x.serial ≤ MAX_SERIAL → y.serial ≤ MAX_SERIAL → name_word x ≡ name_word y → x ≡ y
same_name_word x y hx hy e =
    let thread : x.thread ≡ y.thread = omega (arith, e) in
    let serial : x.serial ≡ y.serial = omega (arith, e) in
    λ i. record { thread = thread i; serial = serial i }

-- what an object of one state is in another that the same words stand for
record Known (objects' : Name → Option Thing) (at at' : Name → ℕ) (n : Name) (o : Thing) : Type 0 where
  pub object : Thing
  pub present : objects' n ≡ Some object
  pub place : at' n ≡ at n
  pub count : length object.fields ≡ length o.fields
  pub space : space_index object.home ≡ space_index o.home

module _ (m : Areas) (c : Contents) (s s' : State) (l l' : Places) (h : StandsAs m c s l) (h' : StandsAs m c s' l') where
  serial-fits : (n : Name) (o : Thing) → s.objects n ≡ Some o → n.serial ≤ MAX_SERIAL
  serial-fits n o e = ⊎_elim
      (λ (z : (n.thread ≡ 0) × (n.serial ≡ 0)). omega (arith, z.1))
      (λ (z : (1 ≤ n.thread) × (n.thread ≤ length s.made) × (1 ≤ n.serial) × (n.serial ≤ get_or s.made (n.thread - 1) 0)).
      let most : get_or s.made (n.thread - 1) 0 ≤ MAX_SERIAL = all-at (λ k. k ≤ MAX_SERIAL) s.made (n.thread - 1) 0 (omega arith) h.serials in
      omega (arith, z.3, most))
      (h.names n o e)

module _ (m : Areas) (c : Contents) (s s' : State) (l l' : Places) (h : StandsAs m c s l) (h' : StandsAs m c s' l') where
  -- objects at one place of a page, behind as many words
  same_at : (n n' : Name) (p k : ℕ) → IsAt l n p k → IsAt l' n' p k → sum_by (size_by s.objects) (take k (names_of l p)) ≡ sum_by (size_by s'.objects) (take k (names_of l' p)) → (n ≡ n') × ((o : Thing) → s.objects n ≡ Some o → Known s'.objects l.at l'.at n o)
  same_at n n' p k a a' e =
      let w = h.heap.whole n p k a in
      let w' = h'.heap.whole n' p k a' in
      let place : l'.at n' ≡ l.at n = h'.heap.tiles.places n' p k a' ∙ ap (λ i. page_words m * p + i) (sym e) ∙ sym (h.heap.tiles.places n p k a) in
      let held = h.heap.held n w.0 w.1 in
      let held' = h'.heap.held n' w'.0 w'.1 in
      let name : n ≡ n' = same_name_word n n' (serial-fits m c s s' l l' h h' n w.0 w.1) (serial-fits m c s' s l' l h' h n' w'.0 w'.1) (sym held.name ∙ ap (λ i. get_or c.heap (i + 1) 0) (sym place) ∙ held'.name) in (
        name,
        λ o present.
            let same : w.0 ≡ o = (let q : Some w.0 ≡ Some o = sym w.1 ∙ present in cc) in
            let header = same_header (length w'.0.fields) (length w.0.fields) (space_index w'.0.home) (space_index w.0.home) (h'.closed.fields n' w'.0 w'.1).1 (h.closed.fields n w.0 w.1).1 (sym held'.header ∙ ap (λ i. get_or c.heap i 0) place ∙ held.header) in
            record {
              object = w'.0;
              present = ap s'.objects name ∙ w'.1;
              place = ap l'.at name ∙ place;
              count = header.0 ∙ ap (λ (x : Thing). length x.fields) same;
              space = header.1 ∙ ap (λ (x : Thing). space_index x.home) same;
            },
      )

module _ (m : Areas) (c : Contents) (s s' : State) (l l' : Places) (h : StandsAs m c s l) (h' : StandsAs m c s' l') where
  -- the names of a page are the same, one after another
  same_walk : (p k : ℕ) → p < m.pages → k ≤ length (names_of l p) → (k ≤ length (names_of l' p)) × (sum_by (size_by s.objects) (take k (names_of l p)) ≡ sum_by (size_by s'.objects) (take k (names_of l' p)))
  same_walk p zero hp le = (omega arith, refl)
  same_walk p (suc k) hp le =
      let ns : List Name = names_of l p in
      let ns' : List Name = names_of l' p in
      let size : Name → ℕ = size_by s.objects in
      let size' : Name → ℕ = size_by s'.objects in
      let d : Name = record { thread = 0; serial = 0 } in
      let before = same_walk p k hp (omega arith) in
      let lt : k < length ns = omega arith in
      let a = stands-at m c.table c.heap s.objects l (λ _. 0) h.heap p k hp lt in
      let n : Name = name_at l p k in
      let w = h.heap.whole n p k a in
      let words : size n ≡ length w.0.fields + OBJECT_WORDS = rw w.1 refl in
      let more : sum_by size (take (k + 1) ns) ≡ sum_by size (take k ns) + size n = sum_by_more size ns k d lt in
      let total : sum_by size ns ≡ sum_by size' ns' = sym (h.heap.marks p hp) ∙ h'.heap.marks p hp in
      let within : sum_by size (take (k + 1) ns) ≤ sum_by size ns = sum_by-take-le size ns (k + 1) in
      let room : k < length ns' = ⊎_elim
      (λ (y : k < length ns'). y)
      (λ (y : length ns' ≤ k). let all : sum_by size' (take k ns') ≡ sum_by size' ns' = ap (sum_by size') (take_all k ns' y) in absurd (omega (arith, all, total, within, more, words, before.1)))
      (cases_lt k (length ns')) in
      let a' = stands-at m c.table c.heap s'.objects l' (λ _. 0) h'.heap p k hp room in
      let n' : Name = name_at l' p k in
      let same = same_at m c s s' l l' h h' n n' p k a a' before.1 in
      let known = same.1 w.0 w.1 in
      let words' : size' n' ≡ length known.object.fields + OBJECT_WORDS = ap size' (sym same.0) ∙ (let q : size' n ≡ length known.object.fields + OBJECT_WORDS = rw known.present refl in q) in
      let more' : sum_by size' (take (k + 1) ns') ≡ sum_by size' (take k ns') + size' n' = sum_by_more size' ns' k d room in
      let next : suc k ≡ k + 1 = omega arith in (
        omega (arith, room),
        ap (λ i. sum_by size (take i ns)) next ∙ (let q : sum_by size (take (k + 1) ns) ≡ sum_by size' (take (k + 1) ns') = omega (arith, more, more', words, words', known.count, before.1) in q) ∙ ap (λ i. sum_by size' (take i ns')) (sym next),
      )

  -- each object of the one state is one of the other
  known : (n : Name) (o : Thing) → s.objects n ≡ Some o → Known s'.objects l.at l'.at n o
  known n o e =
      let a = h.heap.present n o e in
      let p : ℕ = a.0 in
      let k : ℕ = a.1 in
      let hp : p < m.pages = omega (arith, a.2.page, h.heap.count) in
      let here = a.2.place in
      let before = same_walk p k hp (omega (arith, here)) in
      let after = same_walk p (suc k) hp (omega (arith, here)) in
      let room : k < length (names_of l' p) = omega (arith, after.0) in
      (same_at m c s s' l l' h h' n (name_at l' p k) p k a.2 (stands-at m c.table c.heap s'.objects l' (λ _. 0) h'.heap p k hp room) before.1).1 o e

module _ (m : Areas) (c : Contents) (s s' : State) (l l' : Places) (h : StandsAs m c s l) (h' : StandsAs m c s' l') where
  -- a datum of the one state is one of the other, with the same word
  datum-known : (v : Datum) → IsDatum s.objects v → IsDatum s'.objects v × (datum_word l'.at v ≡ datum_word l.at v)
  datum-known Null fits = (tt, refl)
  datum-known (Int i) fits = (fits, refl)
  datum-known (Object n) fits =
      let o = some-of (s.objects n) fits in
      let k = known m c s s' l l' h h' n o.0 o.1 in
      (subst (λ (x : Option Thing). IsSome x) (sym k.present) refl, ap (λ i. 2 * (i + 1)) k.place)

  same_value : (v v' : Datum) → IsDatum s.objects v → IsDatum s'.objects v' → datum_word l.at v ≡ datum_word l'.at v' → v' ≡ v
  same_value v v' fits fits' e =
      let k = datum-known v fits in
      same-datum m c s' l' v' v h' fits' k.0 (sym e ∙ sym k.1)

  -- the fields of an object
  field-known : (n : Name) (o : Thing) (f : ℕ) (e : s.objects n ≡ Some o) → f < length o.fields → get_or (known m c s s' l l' h h' n o e).object.fields f Null ≡ get_or o.fields f Null
  field-known n o f e lt =
      let k = known m c s s' l l' h h' n o e in
      let lt' : f < length k.object.fields = omega (arith, lt, k.count) in
      same_value (get_or o.fields f Null) (get_or k.object.fields f Null)
      (all-at (IsDatum s.objects) o.fields f Null tt (h.closed.fields n o e).0)
      (all-at (IsDatum s'.objects) k.object.fields f Null tt (h'.closed.fields n k.object k.present).0)
      (sym ((h.heap.held n o e).fields f lt) ∙ ap (λ i. get_or c.heap (i + OBJECT_WORDS + f) 0) (sym k.place) ∙ (h'.heap.held n k.object k.present).fields f lt')

  -- the slots of a stack
  slots-fit : (t k : ℕ) → IsDatum s.objects (get_or (stack s t) k Null)
  slots-fit t k = all-at (IsDatum s.objects) (stack s t) k Null tt (all-at (All (IsDatum s.objects)) s.stacks (t - 1) [] (All-nil (IsDatum s.objects)) h.closed.stacks)

  slot-words : (t k : ℕ) → get_or (stack_of c t) k 0 ≡ datum_word l.at (get_or (stack s t) k Null)
  slot-words t k = ap (λ (ws : List ℕ). get_or ws k 0) (stack-stands m c s l t h) ∙ get_or-map_all (datum_word l.at) (stack s t) k Null

  slots-many : (t : ℕ) → length (stack_of c t) ≡ length (stack s t)
  slots-many t = ap (λ (ws : List ℕ). length ws) (stack-stands m c s l t h) ∙ length-map (stack s t) (datum_word l.at)

module _ (m : Areas) (c : Contents) (s s' : State) (l l' : Places) (h : StandsAs m c s l) (h' : StandsAs m c s' l') where
  slot-known : (t k : ℕ) → get_or (stack s' t) k Null ≡ get_or (stack s t) k Null
  slot-known t k = same_value m c s s' l l' h h' (get_or (stack s t) k Null) (get_or (stack s' t) k Null) (slots-fit m c s s' l l' h h' t k) (slots-fit m c s' s l' l h' h t k) (sym (slot-words m c s s' l l' h h' t k) ∙ slot-words m c s' s l' l h' h t k)

  slots-same : (t : ℕ) → length (stack s' t) ≡ length (stack s t)
  slots-same t = sym (slots-many m c s' s l' l h' h t) ∙ slots-many m c s s' l l' h h' t

  -- a field of the other state is one of this
  field-of : (a : ℕ) → IsField l'.at s' a → IsField l.at s a
  field-of a f =
      let k = known m c s' s l' l h' h f.0 f.1 f.3 in
      (f.0, k.object, f.2, k.present, omega (arith, f.4, k.count), f.5 ∙ ap (λ i. i + OBJECT_WORDS + f.2) (sym k.place))

  -- what is recorded for the one state is for the other
  module _ (valid : (n : Name) (o : Thing) → s.objects n ≡ Some o → IsValid MAX_DEPTH o.home) (valid' : (n : Name) (o : Thing) → s'.objects n ≡ Some o → IsValid MAX_DEPTH o.home) where
    home-known : (n : Name) (o : Thing) (e : s.objects n ≡ Some o) → (known m c s s' l l' h h' n o e).object.home ≡ o.home
    home-known n o e =
        let k = known m c s s' l l' h h' n o e in
        number-own k.object.home o.home (valid' n k.object k.present) (valid n o e) k.space

    crossing-known : (n x : Name) (o p : Thing) (f : ℕ) → RecordedAs m c s' l'.at → s.objects n ≡ Some o → f < length o.fields → get_or o.fields f Null ≡ Object x → s.objects x ≡ Some p → Enters o.home p.home → IsRecordedFor m c.firsts c.sets c.buffers p.home (l.at n + OBJECT_WORDS + f)
    crossing-known n x o p f r e lt refers ex enters =
        let k = known m c s s' l l' h h' n o e in
        let j = known m c s s' l l' h h' x p ex in
        let from = home-known n o e in
        let to = home-known x p ex in
        let enters' : Enters k.object.home j.object.home = ((λ q. enters.0 (sym to ∙ q)), (λ q. enters.1 (sym to ∙ q ∙ from))) in
        subst (λ (y : Space). IsRecordedFor m c.firsts c.sets c.buffers y (l.at n + OBJECT_WORDS + f)) to (subst (λ a. IsRecordedFor m c.firsts c.sets c.buffers j.object.home (a + OBJECT_WORDS + f)) k.place (r.crossing n x k.object j.object f k.present (omega (arith, lt, k.count)) (field-known m c s s' l l' h h' n o f e lt ∙ refers) j.present enters'))

    read-known : (t u d k : ℕ) (x : Name) (p : Thing) → RecordedAs m c s' l'.at → 1 ≤ t → t ≤ m.threads → k < length (stack s t) → get_or (stack s t) k Null ≡ Object x → s.objects x ≡ Some p → p.home ≡ Region u d → u ≢ t → IsReader c.readers t u d
    read-known t u d k x p r ht hm lt e ex home ne =
        let j = known m c s s' l l' h h' x p ex in
        r.read t u d k x j.object ht hm (omega (arith, lt, slots-same t)) (slot-known t k ∙ e) j.present (home-known x p ex ∙ home) ne

-- a search below a number
search_below : (P : ℕ → Type 0) → ((k : ℕ) → P k ⊎ (P k → ⊥)) → (n : ℕ) → ((k : ℕ) × (k < n) × P k) ⊎ ((k : ℕ) → k < n → P k → ⊥)
search_below P decide zero = inr (λ k lt p. omega (arith, lt))
search_below P decide (suc n) = ⊎_elim
    (λ (p : P n). inl (n, omega arith, p))
    (λ (none : P n → ⊥). ⊎_elim
    (λ (found : (k : ℕ) × (k < n) × P k). inl (found.0, omega (arith, found.1), found.2))
    (λ (no : (k : ℕ) → k < n → P k → ⊥). inr (λ k lt p. ⊎_elim (λ (y : k < n). no k y p) (λ (y : n ≤ k). none (subst P (let q : k ≡ n = omega arith in q) p)) (cases_lt k n)))
    (search_below P decide n))
    (decide n)

-- a word is a field of the object at a place of a page
abbrev FieldAt : State → Places → ℕ → ℕ → ℕ → Type 0
FieldAt s l a p k = (o : Thing) × (f : ℕ) × (k < length (names_of l p)) × (s.objects (name_at l p k) ≡ Some o) × (f < length o.fields) × (a ≡ l.at (name_at l p k) + OBJECT_WORDS + f)

module _ (m : Areas) (c : Contents) (s : State) (l : Places) (h : StandsAs m c s l) where
  -- whether there is one
  find_at : (a p k : ℕ) → p < m.pages → FieldAt s l a p k ⊎ (FieldAt s l a p k → ⊥)
  find_at a p k hp = ⊎_elim
      (λ (lt : k < length (names_of l p)).
      let n : Name = name_at l p k in
      let w = h.heap.whole n p k (stands-at m c.table c.heap s.objects l (λ _. 0) h.heap p k hp lt) in
      let start : ℕ = l.at n + OBJECT_WORDS in
      ⊎_elim
      (λ (before : a < start). inr (λ (q : FieldAt s l a p k). omega (arith, before, q.5)))
      (λ (from : start ≤ a). ⊎_elim
      (λ (inside : a - start < length w.0.fields). inl (w.0, a - start, lt, w.1, inside, omega (arith, from)))
      (λ (past : length w.0.fields ≤ a - start). inr (λ (q : FieldAt s l a p k).
      let same : Some w.0 ≡ Some q.0 = sym w.1 ∙ q.3 in
      let thing : w.0 ≡ q.0 = cc in
      let long : length w.0.fields ≡ length q.0.fields = ap (λ (x : Thing). length x.fields) thing in
      omega (arith, past, q.4, q.5, long)))
      (cases_lt (a - start) (length w.0.fields)))
      (cases_lt a start))
      (λ (past : length (names_of l p) ≤ k). inr (λ (q : FieldAt s l a p k). omega (arith, past, q.2)))
      (cases_lt k (length (names_of l p)))

  find_in_page : (a p : ℕ) → p < m.pages → ((k : ℕ) × FieldAt s l a p k) ⊎ (((k : ℕ) × FieldAt s l a p k) → ⊥)
  find_in_page a p hp = ⊎_elim
      (λ (f : (k : ℕ) × (k < length (names_of l p)) × FieldAt s l a p k). inl (f.0, f.2))
      (λ (none : (k : ℕ) → k < length (names_of l p) → FieldAt s l a p k → ⊥). inr (λ f. none f.0 f.1.2 f.1))
      (search_below (FieldAt s l a p) (λ k. find_at a p k hp) (length (names_of l p)))

  find_page : (a p : ℕ) → ((p < m.pages) × ((k : ℕ) × FieldAt s l a p k)) ⊎ (((p < m.pages) × ((k : ℕ) × FieldAt s l a p k)) → ⊥)
  find_page a p = ⊎_elim
      (λ (hp : p < m.pages). ⊎_elim
      (λ (f : (k : ℕ) × FieldAt s l a p k). inl (hp, f))
      (λ (none : ((k : ℕ) × FieldAt s l a p k) → ⊥). inr (λ f. none f.1))
      (find_in_page a p hp))
      (λ (past : m.pages ≤ p). inr (λ f. let lt : p < m.pages = f.0 in omega (arith, past, lt)))
      (cases_lt p m.pages)

  find_field : (a : ℕ) → IsField l.at s a ⊎ (IsField l.at s a → ⊥)
  find_field a = ⊎_elim
      (λ (f : (p : ℕ) × (p < m.pages) × ((p < m.pages) × ((k : ℕ) × FieldAt s l a p k))).
      let k : ℕ = f.2.1.0 in
      let q : FieldAt s l a f.0 k = f.2.1.1 in
      inl (name_at l f.0 k, q.0, q.1, q.3, q.4, q.5))
      (λ (none : (p : ℕ) → p < m.pages → ((p < m.pages) × ((k : ℕ) × FieldAt s l a p k)) → ⊥). inr (λ (f : IsField l.at s a).
      let at = h.heap.present f.0 f.1 f.3 in
      let hp : at.0 < m.pages = omega (arith, at.2.page, h.heap.count) in
      let same : name_at l at.0 at.1 ≡ f.0 = get_or_default (names_of l at.0) at.1 (record { thread = 0; serial = 0 }) f.0 at.2.place ∙ at.2.name in
      none at.0 hp (hp, (at.1, (f.1, f.2, at.2.place, ap s.objects same ∙ f.3, f.4, f.5 ∙ ap (λ (x : Name). l.at x + OBJECT_WORDS + f.2) (sym same))))))
      (search_below (λ p. (p < m.pages) × ((k : ℕ) × FieldAt s l a p k)) (find_page a) m.pages)

-- whether a slot is recorded for a region
find_recorded : (m : Areas) (c : Contents) (x : Space) (a : ℕ) → IsRecordedFor m c.firsts c.sets c.buffers x a ⊎ (IsRecordedFor m c.firsts c.sets c.buffers x a → ⊥)
find_recorded m c x a =
    let filed : List ℕ = chain_of m c.firsts c.sets x in
    let logged : List ℕ = flat_map (λ (b : List ℕ). b) c.buffers in
    ⊎_elim
    (λ (y : Contains filed a). inl (inl y))
    (λ (no : Contains filed a → ⊥). ⊎_elim
    (λ (y : Contains logged a). inl (inr y))
    (λ (none : Contains logged a → ⊥). inr (λ r. ⊎_elim (λ (y : Contains filed a). no y) (λ (y : Contains logged a). none y) r))
    (contains-or a logged))
    (contains-or a filed)

-- the homes of present objects are valid
homes_valid : (m : Areas) (c : Contents) (s : SpaceState) → Stands m c s → (n : Name) (o : Thing) → object_of s n ≡ Some o → IsValid MAX_DEPTH o.home
homes_valid m c s h n o e = subst (λ (x : Limits). IsValid x.depth o.home) h.whole.limits (h.whole.homes n o.home (home-shown s n o e))

pub recorded-told : (m : Areas) (c : Contents) → SomeRecorded m c → (s : SpaceState) (h : Stands m c s) → Recorded m c s h
recorded-told m c some s h = record {
  crossing = λ n x o p f e lt refers ex enters. ⊎_elim
      (λ (y : IsRecordedFor m c.firsts c.sets c.buffers p.home (h.places.at n + OBJECT_WORDS + f)). y)
      (λ (no : IsRecordedFor m c.firsts c.sets c.buffers p.home (h.places.at n + OBJECT_WORDS + f) → ⊥). absurd (∥∥₁_elim some (hlevel props) (λ q.
      no (crossing-known m c (view s) (view q.0) h.places q.1.places h.stands q.1.stands (homes_valid m c s h) (homes_valid m c q.0 q.1) n x o p f q.2 e lt refers ex enters))))
      (find_recorded m c p.home (h.places.at n + OBJECT_WORDS + f));
  fields = λ a r. ⊎_elim
      (λ (y : IsField h.places.at (view s) a). y)
      (λ (no : IsField h.places.at (view s) a → ⊥). absurd (∥∥₁_elim some (hlevel props) (λ q.
      no (field-of m c (view s) (view q.0) h.places q.1.places h.stands q.1.stands a (q.2.fields a r)))))
      (find_field m c (view s) h.places h.stands a);
  read = λ t u d k x p ht hm lt e ex home ne. ∥∥₁_elim some (hlevel props) (λ q.
      read-known m c (view s) (view q.0) h.places q.1.places h.stands q.1.stands (homes_valid m c s h) (homes_valid m c q.0 q.1) t u d k x p q.2 ht hm lt e ex home ne);
  closed = λ u d hu hm hd lt. ∥∥₁_elim some (hlevel props) (λ q.
      let same : depth (view q.0) u ≡ depth (view s) u = ap (λ (is : List ℕ). get_or is (u - 1) 0) (sym q.1.stands.depths ∙ h.stands.depths) in
      q.2.closed u d hu hm hd (omega (arith, lt, same)));
}
