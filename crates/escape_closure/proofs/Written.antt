-- The words in which a thread ends its innermost region, and what their targets leave.
use Rattle.std.proofs.Common.{◌≡◌, ℕ, ◌+◌, ◌-◌, ◌*◌, ◌≤◌, ◌==◌, List, [], ◌∷◌, ◌++◌, suc, Some, get_or, length, refl, sym, ap, subst, ◌∙◌, arith, inl, inr}
use Rattle.std.proofs.lemmas.Bool.{cases_eq}
use Rattle.std.proofs.lemmas.List.{length-map, get_or-map}
use Rattle.std.proofs.lemmas.List.Sums.{count_by-le-length}
use Rattle.std.specs.List.{flat_map}
use Rattle.object_layout.specs.declared.names.Name.{Name}
use Rattle.epoch_lattice.specs.declared.Space.{Space}
use Rattle.epoch_lattice.specs.declared.Space.TheVariants.{Region}
use Rattle.epoch_lattice.specs.declared.TheConstants.{MAX_DEPTH}
use Rattle.epoch_lattice.specs.Lattice.{IsValid, inner_of, space_index}
use Rattle.epoch_lattice.proofs.Numbers.{number-own}
use Rattle.yak_model.specs.Graph.{Thread, idle, thread_of}
use Rattle.yak_model.specs.Spaces.{Counts, IsReachedFor, IsTarget, SpaceState, innermost}
use Rattle.yak_model.specs.State.{Thing, object_of, view}
use Rattle.yak_model.specs.Placed.{HeapStands}
use Rattle.yak_model.specs.Stands.{Stands, words_taken}
use Rattle.yak_model.specs.Recorded.{Recorded}
use Rattle.yak_model.specs.Chains.{IsRegionOf}
use Rattle.yak_model.proofs.Stacks.{all-at}
use Rattle.heap_words.specs.declared.map.Areas.{Areas}
use Rattle.heap_words.specs.declared.TheConstants.{STACK_SLOTS}
use Rattle.heap_words.specs.Map.{HasThread, IsAreas, heap_length, max_depth, scratch_length}
use Rattle.heap_words.specs.Contents.{Contents, depth_of, stack_of}
use Rattle.heap_walks.specs.Laid.{work_of}
use Rattle.heap_walks.proofs.Lists.{none_listed}
use Rattle.heap_walks.proofs.Objects.{field_now, header_now, name_now}
use Rattle.heap_walks.proofs.Seen.{present_home, present_of, seen, shown}
use Rattle.heap_walks.proofs.Works.{among_first}
use Rattle.heap_walks.proofs.Stacks.{stack_size}
use Rattle.escape_closure.specs.Sources.{IsReachedIn}
use Rattle.escape_closure.specs.Raising.{Ended, EndsAt, HasSome, IsDueToScan, IsHere, IsSettled, TargetsStand}
use Rattle.forwarding.specs.Crossing.{AreFiled}
use Rattle.remember_sets.specs.Filed.{chain}
use Rattle.escape_closure.specs.Targets.{IsEscaping, TargetsWritten}
use Rattle.escape_closure.proofs.Counted.{counts_as, counts_none}
use Rattle.escape_closure.proofs.Reaches.{inner_region, reached_here, reached_in, reached_of, target_of_least}

pub none_filed : (buffers : List (List ℕ)) → AreFiled buffers → flat_map (λ (b : List ℕ). b) buffers ≡ []
none_filed [] h = refl
none_filed (b ∷ bs) h =
    let first : b ≡ [] = h 0 [] (omega arith) in
    let rest : flat_map (λ (x : List ℕ). x) bs ≡ [] = none_filed bs (λ k d lt. h (suc k) d (omega (arith, lt))) in
    ap (λ (x : List ℕ). x ++ flat_map (λ (y : List ℕ). y) bs) first ∙ rest

pub depth_is : (m : Areas) (c : Contents) (s : SpaceState) (st : Stands m c s) (t : ℕ) → HasThread m t → depth_of c t ≡ (thread_of s.graph t).depth
depth_is m c s st t has =
    let many : length s.graph.threads ≡ m.threads = let q = st.stands.threads in simp length-map at q in
    ap (λ (ds : List ℕ). get_or ds (t - 1) 0) st.stands.depths ∙ get_or-map (λ (h : Thread). h.depth) s.graph.threads (t - 1) idle 0 (omega (arith, many, has))

pub region_is : (m : Areas) (c : Contents) (s : SpaceState) (st : Stands m c s) (t depth : ℕ) → HasThread m t → depth ≡ depth_of c t → 1 ≤ depth → innermost s.graph t ≡ Region t depth
region_is m c s st t depth has is le = ap (inner_of t) (sym (is ∙ depth_is m c s st t has)) ∙ inner_region t depth le

pub innermost_region : (m : Areas) (c : Contents) (s : SpaceState) (st : Stands m c s) (t : ℕ) → HasThread m t → 1 ≤ depth_of c t → IsRegionOf m (innermost s.graph t)
innermost_region m c s st t has low =
    let deep : depth_of c t ≤ max_depth m = all-at (λ k. k ≤ max_depth m) c.depths (t - 1) 0 (omega arith) st.stands.limits.depths in
    subst (IsRegionOf m) (sym (region_is m c s st t (depth_of c t) has refl low)) (has.0, has.1, low, deep)

abbrev pub ended : (m : Areas) (c : Contents) (s : SpaceState) → Stands m c s → ℕ → ℕ → Ended
ended m c s st t depth = record { laid = record { state = view s; places = st.places; before = c }; thread = t; region = Region t depth }

module _ (m : Areas) (c : Contents) (s : SpaceState) (st : Stands m c s) (t depth : ℕ) (areas : IsAreas m) (has : HasThread m t) (low : 1 ≤ depth) (high : depth ≤ MAX_DEPTH) where
  abbrev pub e : Ended
  e = ended m c s st t depth

  home_valid : (n : Name) (o : Thing) → object_of s n ≡ Some o → IsValid MAX_DEPTH o.home
  home_valid n o present = subst (λ k. IsValid k o.home) (ap (λ l. l.depth) st.whole.limits) (st.whole.homes n o.home (seen s n o present).home_is)

  zero_word : (n : Name) (o : Thing) → object_of s n ≡ Some o → work_of e.laid c n ≡ 0
  zero_word n o present = (st.stands.heap.held n o present).work_word

  threads_are : length (view s).stacks ≡ m.threads
  threads_are = let q = st.stands.threads in simp length-map (simp length-map at q)

  pub ends_at : length c.heap ≡ heap_length m → length c.scratch ≡ scratch_length m → AreFiled c.buffers → Recorded m c s st → EndsAt m e c t depth
  ends_at heap scratch filed recorded = record {
    region = refl;
    thread_is = refl;
    raising = record {
      among = among_first m e.laid areas st.stands heap scratch;
      homes = record { region = (has.0, omega (arith, has, areas), low, high); valid = home_valid };
      fits = omega arith;
      works = λ n o present. inl (zero_word n o present);
      list = none_listed e.laid (IsDueToScan e c) c.scratch (λ n w. omega (arith, w.1, zero_word n w.0.0 w.0.1));
      counted = counts_none (HasSome e c) (λ n w. w.1 (zero_word n w.0.0 w.0.1));
      few = omega (arith, count_by-le-length (λ (w : ℕ). w == 0) c.heap, heap);
    };
    zero_words = zero_word;
    recorded = recorded;
    filed = none_filed c.buffers filed;
    threads = threads_are;
  }

  module _ (d : Contents) (before after escaping : ℕ) (region : innermost s.graph t ≡ Region t depth) (stand : TargetsStand m e before d after escaping) where
    settled_at : (n : Name) → IsEscaping s t n → IsHere e n × IsSettled e d n
    settled_at n esc =
        let here : IsHere e n = reached_here s st.whole t has.0 (Region t depth) n esc.0 (subst (λ r. IsReachedFor s t r n esc.0) region esc.1) in
        (here, stand.settled n here)

    known : (n : Name) (x : Space) → IsReachedFor s t (innermost s.graph t) n x → IsReachedIn (view s) t (Region t depth) n x
    known n x r = reached_in s st.whole t has.0 (Region t depth) n x (subst (λ q. IsReachedFor s t q n x) region r)

    escaping_of : (n : Name) (x : Space) → IsReachedIn (view s) t (Region t depth) n x → IsEscaping s t n
    escaping_of n x r = (x, subst (λ q. IsReachedFor s t q n x) (sym region) (reached_of s st.whole t has.0 (Region t depth) n x r))

    target_word : (n : Name) → IsEscaping s t n → (x : Space) × IsValid MAX_DEPTH x × IsTarget s t (innermost s.graph t) n x × (work_of e.laid d n ≡ space_index x + 1)
    target_word n esc = elim (settled_at n esc).1 [
      | inl none ↦ absurd (none.1 esc.0 (known n esc.0 esc.1))
      | inr one ↦ (one.0, one.1, subst (λ q. IsTarget s t q n one.0) (sym region) (target_of_least s st.whole t has.0 (Region t depth) n one.0 one.3), one.2)
    ]

    other_word : (n : Name) (o : Thing) → object_of s n ≡ Some o → (IsEscaping s t n → ⊥) → work_of e.laid d n ≡ 0
    other_word n o present stays = elim (cases_eq (space_index o.home) (space_index (Region t depth))) [
      | inl q ↦
          let home : o.home ≡ Region t depth = number-own o.home (Region t depth) (home_valid n o present) (has.0, omega (arith, has, areas), low, high) q in
          elim (stand.settled n (o, present, home)) [
            | inl none ↦ none.0
            | inr one ↦ absurd (stays (escaping_of n one.4.0 one.4.1))
          ]
      | inr ne ↦ stand.outside n o present (λ q. ne (ap space_index q))
    ]

    counted : Counts (IsEscaping s t) escaping
    counted = counts_as (HasSome e d) (IsEscaping s t) escaping stand.counted
        (λ n some. elim (stand.settled n some.0) [
          | inl none ↦ absurd (some.1 none.0)
          | inr one ↦ escaping_of n one.4.0 one.4.1
        ])
        (λ n esc. ((settled_at n esc).0, λ q. let w = target_word n esc in omega (arith, w.3, q)))

    still_stands : HeapStands m d.table d.heap (object_of s) st.places (work_of e.laid d)
    still_stands =
        let old = st.stands.heap in
        let table : d.table ≡ c.table = ap (λ (x : Contents). x.table) stand.among.frame in
        rw table (record {
          count = old.count;
          tiles = old.tiles;
          present = old.present;
          whole = old.whole;
          marks = old.marks;
          held = λ n o q. record {
            header = header_now m e.laid d n o stand.among q;
            name = name_now m e.laid d n o stand.among q ∙ (old.held n o q).name;
            work_word = refl;
            fields = λ f lt. field_now m e.laid d n o f stand.among q lt;
          };
        })

    pub targets_written : length c.heap ≡ heap_length m → TargetsWritten m s st.places t c d escaping
    targets_written size = record {
      targets = target_word;
      others = λ n present stays.
          let home = present_home s n present in
          let o = shown s n home.0 st.whole home.1 in
          other_word n o.0 o.1 stays;
      counted = counted;
      frame = stand.among.frame;
      size = stand.among.heap_size ∙ sym size;
      kept = λ a out. stand.among.kept a (λ n o q. out n (present_of s n o q));
      heap = still_stands;
    }

    pub few_reads : after ≤ before + (27 * words_taken st.places.pages (object_of s) (innermost s.graph t) + 5 * length (chain m c (innermost s.graph t)) + 3 * length (stack_of c t) + (3 + (1 + 3 * STACK_SLOTS) * m.threads))
    few_reads =
        let size : length (stack_of d t) ≡ length (get_or (view s).stacks (t - 1) []) = stack_size m e.laid d t stand.among in
        let same : length (stack_of d t) ≡ length (stack_of c t) = ap (λ (x : Contents). length (stack_of x t)) stand.among.frame in
        rw region (omega (arith, stand.reads, size, same))
