-- The whole of a marking.
use Rattle.std.proofs.Common.{◌≡◌, ◌≢◌, ◌⊎◌, ◌↔◌, ℕ, zero, suc, ◌+◌, ◌≤◌, ◌<◌, true, false, cond, ◌||◌, IsTrue, refl, sym, ap, subst, ◌∙◌, arith, inl, inr, get_or, length}
use Rattle.std.proofs.lemmas.Bool.{cases_eq}
use Rattle.std.proofs.lemmas.List.{length-map}
use Rattle.std.specs.FinSet as names
use Rattle.std.specs.Ordering.{is_eq}
use Rattle.std.specs.Cmp.{tied_itself}
use Rattle.object_layout.specs.declared.names.Name.{Name}
use Rattle.epoch_lattice.specs.declared.Space.{Space}
use Rattle.epoch_lattice.specs.declared.Space.TheVariants.{Control, Region}
use Rattle.yak_model.specs.Names.{name_cmp}
use Rattle.yak_model.specs.Spaces.{SpaceState}
use Rattle.yak_model.proofs.Names.{name_cmp_total, different, same_or_other}
use Rattle.yak_model.proofs.Walks.{reach_keeps}
use Rattle.heap_words.specs.declared.map.Areas.{Areas}
use Rattle.heap_words.specs.Map.{IsAreas, heap_length, scratch_length}
use Rattle.heap_words.specs.Contents.{Contents}
use Rattle.epoch_lattice.specs.Lattice.{space_index}
use Rattle.yak_model.specs.State.{Thing, view}
use Rattle.yak_model.specs.Placed.{HeapStands}
use Rattle.yak_model.specs.Stands.{Stands}
use Rattle.heap_walks.specs.Reach.{Points}
use Rattle.mark_compact.specs.Reach.{IsAlive, IsControl, IsStart}
use Rattle.heap_walks.specs.Laid.{Laid, work_of}
use Rattle.mark_compact.specs.Marking.{IsMarked, Marking, IsStackMarked, ArePagesMarked, AreListedScanned}
use Rattle.mark_compact.specs.Marked.{IsLiveControl, MarksLive}
use Rattle.heap_walks.proofs.Objects.{same_thing, same_address, header_now, name_now, field_now}
use Rattle.heap_walks.proofs.Works.{among_first}
use Rattle.heap_walks.proofs.Lists.{none_listed}
use Rattle.heap_walks.proofs.Seen.{present_of, is_in, home_of_in, shown, present_home}
use Rattle.mark_compact.proofs.Lives.{live_of_alive, alive_of_live}

abbrev pub laid : (m : Areas) (c : Contents) (s : SpaceState) → Stands m c s → Laid
laid m c s st = record { state = view s; places = st.places; before = c }

pub begins : (m : Areas) (c : Contents) (s : SpaceState) (st : Stands m c s) → IsAreas m → length c.heap ≡ heap_length m → length c.scratch ≡ scratch_length m → Marking m (laid m c s st) c 0
begins m c s st areas heap scratch = record {
  among = among_first m (laid m c s st) areas st.stands heap scratch;
  fits = omega arith;
  marks = λ n o e. inl (st.stands.heap.held n o e).work_word;
  list = none_listed (laid m c s st) (IsMarked (laid m c s st) c) c.scratch (λ n marked. let q = (st.stands.heap.held n marked.0.0 marked.0.1).work_word in omega (arith, q, marked.1));
}

space_case : (x : Space) → (x ≡ Control) ⊎ (x ≢ Control)
space_case Control = inl refl
space_case (Region t d) = inr (λ e. cc)

region_index : (x : Space) → x ≢ Control → 1 < space_index x + 1
region_index Control ne = absurd (ne refl)
region_index (Region t d) ne = omega arith

module _ (m : Areas) (h : Laid) (d : Contents) (count : ℕ) (mk : Marking m h d count) where
  -- where nothing waits any more, what lives is marked
  pub all_marked : length h.state.stacks ≡ m.threads → ((t : ℕ) → t < m.threads → IsStackMarked h d t) → ArePagesMarked h d m.pages → AreListedScanned h d count → (n : Name) → IsAlive h.state n → IsControl h.state n → IsMarked h d n
  all_marked threads stacks pages list n alive =
      reach_keeps _ _ (λ x. IsControl h.state x → IsMarked h d x) (λ r start. from_start r start) (λ a b known edge. along a b known edge) n alive
    where
      from_start : (r : Name) → IsStart h.state r → IsControl h.state r → IsMarked h d r
      from_start r (inl held) control = stacks held.0 (omega (arith, held.1.0, threads)) r held.1.1 control
      from_start r (inr region) control =
          let same : region.0 ≡ control.0 = same_thing h r region.0 control.0 region.1 control.1 in
          absurd (region.2 (ap (λ (t : Thing). t.home) same ∙ control.2))

      along : (a b : Name) → (IsControl h.state a → IsMarked h d a) → Points h.state a b → IsControl h.state b → IsMarked h d b
      along a b known edge control =
          elim (space_case edge.0.home) [
            | inl e ↦
                let p = mk.list.placed a (known (edge.0, edge.1, e)) in
                list p.0 p.1 a p.2 edge.0 b edge.1 edge.2 control
            | inr ne ↦
                let at = mk.among.stands.heap.present a edge.0 edge.1 in
                let w = mk.among.stands.heap.whole a at.0 at.1 at.2 in
                let same : w.0 ≡ edge.0 = same_thing h a w.0 edge.0 w.1 edge.1 in
                let home : space_index w.0.home ≡ space_index edge.0.home = ap (λ (t : Thing). space_index t.home) same in
                let region = region_index edge.0.home ne in
                let page : at.0 < m.pages = omega (arith, at.2.page, mk.among.stands.heap.count) in
                pages at.0 page (omega (arith, region, home, w.2)) a at.1 at.2 edge.0 b edge.1 edge.2 control
          ]

  -- the marked objects as a set
  Below : ℕ → Name → Type 0
  Below k n = (j : ℕ) × (j < k) × (get_or d.scratch j 0 ≡ h.places.at n) × IsMarked h d n

  SetBelow : ℕ → Type 0
  SetBelow k = (all : names.FinSet name_cmp) × ((n : Name) → IsTrue (names.contains all n) ↔ Below k n) × (names.len all ≡ k)

  below_step : (k : ℕ) → k < count → SetBelow k → SetBelow (suc k)
  unfolding SetBelow Below
  below_step k lt before =
      let l = mk.list.listed k lt in
      let x : Name = l.0 in
      let grown = names.insert before.0 x in
      let absent : names.contains before.0 x ≡ false = elim (names.contains before.0 x) as (λ b. names.contains before.0 x ≡ b → b ≡ false) [
        | true ↦ λ e.
            let w = (before.1 x).0 e in
            let same : w.0 ≡ k = mk.list.once w.0 k (omega (arith, w.1)) lt (w.2 ∙ sym l.2) in
            absurd (omega (arith, same, w.1))
        | false ↦ λ e. refl
      ] refl in
      let own : names.contains grown x ≡ true = names.contains-insert name_cmp_total before.0 x x ∙ ap (λ r. is_eq r || names.contains before.0 x) (tied_itself name_cmp_total x) in (
        grown,
        λ n. elim (same_or_other n x) [
          | inl e ↦ (
            λ q. (k, omega arith, l.2 ∙ ap h.places.at (sym e), subst (IsMarked h d) (sym e) l.1),
            λ w. ap (names.contains grown) e ∙ own,
          )
          | inr ne ↦
              let tested : names.contains grown n ≡ names.contains before.0 n = names.contains-insert name_cmp_total before.0 x n ∙ ap (λ b. b || names.contains before.0 n) (different n x ne) in (
                λ q. let w = (before.1 n).0 (sym tested ∙ q) in (w.0, omega (arith, w.1), w.2, w.3),
                λ w. elim (cases_eq w.0 k) [
                  | inl e ↦
                      let at : h.places.at n ≡ h.places.at x = sym w.2 ∙ ap (λ j. get_or d.scratch j 0) e ∙ l.2 in
                      absurd (ne (same_address m h n x w.3.0.0 l.1.0.0 mk.among.stands w.3.0.1 l.1.0.1 at))
                  | inr other ↦ tested ∙ (before.1 n).1 (w.0, omega (arith, w.1, other), w.2, w.3)
                ],
              )
        ],
        names.len-insert name_cmp_total before.0 x ∙ ap (λ b. cond b (names.len before.0) (names.len before.0 + 1)) absent ∙ ap (λ j. j + 1) before.2 ∙ omega arith,
      )

  below_all : (k : ℕ) → k ≤ count → SetBelow k
  unfolding SetBelow Below
  below_all zero le = (names.empty, λ n. (λ e. absurd (let q = names.contains-empty name_cmp n in cc), λ w. absurd (omega (arith, w.1))), names.len-empty name_cmp)
  below_all (suc k) le = below_step k (omega arith) (below_all k (omega arith))

  pub marked_set : (all : names.FinSet name_cmp) × ((n : Name) → IsTrue (names.contains all n) ↔ IsMarked h d n) × (count ≡ names.len all)
  unfolding SetBelow Below
  marked_set =
      let all = below_all count (omega arith) in
      (all.0, λ n. (λ e. ((all.1 n).0 e).3, λ marked. let p = mk.list.placed n marked in (all.1 n).1 (p.0, p.1, p.2, marked)), sym all.2)

  pub still_stands : HeapStands m d.table d.heap h.state.objects h.places (work_of h d)
  still_stands =
      let old = mk.among.stands.heap in
      let table : d.table ≡ h.before.table = ap (λ (x : Contents). x.table) mk.among.frame in
      rw table (record {
        count = old.count;
        tiles = old.tiles;
        present = old.present;
        whole = old.whole;
        marks = old.marks;
        held = λ n o e. record {
          header = header_now m h d n o mk.among e;
          name = name_now m h d n o mk.among e ∙ (old.held n o e).name;
          work_word = refl;
          fields = λ f lt. field_now m h d n o f mk.among e lt;
        };
      })

pub marks_live : (m : Areas) (c d : Contents) (s : SpaceState) (st : Stands m c s) (count : ℕ) → Marking m (laid m c s st) d count → length c.heap ≡ heap_length m → ((t : ℕ) → t < m.threads → IsStackMarked (laid m c s st) d t) → ArePagesMarked (laid m c s st) d m.pages → AreListedScanned (laid m c s st) d count → MarksLive m s st.places c d count
marks_live m c d s st count mk size stacks pages list =
    let h : Laid = laid m c s st in
    let threads : length h.state.stacks ≡ m.threads = let q = st.stands.threads in simp length-map (simp length-map at q) in
    let marked : (n : Name) → IsLiveControl s n → IsMarked h d n = λ n lc. all_marked m h d count mk threads stacks pages list n (alive_of_live s st.whole n lc.1) (is_in s st.whole n Control lc.0) in
    let live : (n : Name) → IsMarked h d n → IsLiveControl s n = λ n q. (
      home_of_in s st.whole n Control q.0,
      elim (mk.marks n q.0.0 q.0.1) [
        | inl free ↦ absurd (omega (arith, free, q.1))
        | inr one ↦ live_of_alive s st.whole n one.2
      ],
    ) in
    let all = marked_set m h d count mk in
    record {
      live = λ n lc. (marked n lc).1;
      dead = λ n present not_live.
          let home = present_home s n present in
          let o = shown s n home.0 st.whole home.1 in
          elim (mk.marks n o.0 o.1) [
            | inl free ↦ free
            | inr one ↦ absurd (not_live (live n ((o.0, o.1, one.1), one.0)))
          ];
      frame = mk.among.frame;
      size = mk.among.heap_size ∙ sym size;
      kept = λ a out. mk.among.kept a (λ n o e. out n (present_of s n o e));
      heap = still_stands m h d count mk;
      counted = (all.0, λ n. (λ e. live n ((all.1 n).0 e), λ lc. (all.1 n).1 (marked n lc)), all.2);
    }
