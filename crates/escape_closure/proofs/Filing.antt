-- The start of an end: what is recorded is filed.
use Rattle.std.proofs.Math.Logic.{⊎_elim}
use Rattle.std.proofs.Common.{◌≡◌, ℕ, ◌+◌, ◌-◌, ◌≤◌, true, List, [], ◌∷◌, length, get_or, refl, sym, ap, subst, ◌∙◌, arith, inl, inr}
use Rattle.std.specs.List.{Contains}
use Rattle.std.proofs.lemmas.Bool.{cases_Bool, cond-false, cond-true}
use Rattle.std.proofs.lemmas.List.{get_or-replicate, length-replicate}
use Rattle.std.proofs.lemmas.List.Sums.{count_by-le-length, length-filter}
use Rattle.heap_words.specs.declared.map.Areas.{Areas}
use Rattle.heap_words.specs.Map.{HasThread, IsAreas}
use Rattle.heap_words.specs.Contents.{Contents, InLimits, depth_of}
use Rattle.epoch_lattice.specs.declared.Space.{Space}
use Rattle.yak_model.specs.Chains.{IsRegionOf}
use Rattle.yak_model.specs.Spaces.{SpaceState, innermost}
use Rattle.yak_model.specs.State.{object_of, view}
use Rattle.yak_model.specs.Stands.{HeadsClosed, Stands, StandsAs}
use Rattle.yak_model.specs.Recorded.{IsReader, IsRecorded, IsRecordedFor, Recorded}
use Rattle.yak_model.proofs.Chains.{contains-or}
use Rattle.remember_sets.specs.Filed.{SetsHold, all_filed, chain, enters, filed, logged, with_no_logs, with_sets, without_slot}
use Rattle.remember_sets.proofs.Entering.{Enter, enters-since}
use Rattle.remember_sets.proofs.Folded.{all_filed-has}
use Rattle.forwarding.specs.Crossing.{AreFiled}
use Rattle.standing_calls.proofs.Closed.{filed-closed}
use Rattle.standing_calls.proofs.FieldSlots.{crossing-enters}
use Rattle.standing_calls.proofs.Homes.{home-region, home-valid}
use Rattle.standing_calls.proofs.Logs.{buffers-told, entries_of, no_entry, stands-with_logs}
use Rattle.escape_closure.specs.Targets.{TargetsWritten}
use Rattle.escape_closure.specs.Leaves.{FilesRecorded}
use Rattle.escape_closure.specs.Leaving.{Begun, records_of}
use Rattle.escape_closure.proofs.Written.{innermost_region}

abbrev nil : List ℕ
nil = []

pub none_logged : (m : Areas) (c filing : Contents) → filing ≡ with_no_logs m (with_sets c filing) → AreFiled filing.buffers
none_logged m c filing others = subst AreFiled (sym (ap (λ (x : Contents). x.buffers) others)) (λ k d lt. get_or-replicate m.threads k nil d (omega (arith, lt, length-replicate m.threads nil)))

-- ---- what is filed is no more than what was recorded

one_more : (m : Areas) (c : Contents) (x : Space) (a : ℕ) (slots : List ℕ) → length (filed m c x a slots) ≤ length slots + 1
one_more m c x a slots =
    let few : length (without_slot a slots) ≤ length slots = omega (arith, length-filter {X = ℕ}, count_by-le-length {X = ℕ}) in
    ⊎_elim
    (λ (t : enters m c x a ≡ true). let size = ap (λ (l : List ℕ). length l) (cond-true (enters m c x a) (a ∷ without_slot a slots) (without_slot a slots) t) in omega (arith, few, size))
    (λ t. let size = ap (λ (l : List ℕ). length l) (cond-false (enters m c x a) (a ∷ without_slot a slots) (without_slot a slots) t) in omega (arith, few, size))
    (cases_Bool (enters m c x a))

pub few_filed : (m : Areas) (c : Contents) (x : Space) (l slots : List ℕ) → length (all_filed m c x l slots) ≤ length slots + length l
few_filed m c x [] slots = omega arith
few_filed m c x (a ∷ l) slots = let rest = few_filed m c x l (filed m c x a slots) in let one = one_more m c x a slots in omega (arith, rest, one)

module _ (m : Areas) (c filing : Contents) (s : SpaceState) (st : Stands m c s) (recorded : Recorded m c s st) (areas : IsAreas m) (records : FilesRecorded m c filing) (sets : SetsHold m filing) (others : filing ≡ with_no_logs m (with_sets c filing)) (limits : InLimits m filing) where
  -- what is recorded
  forth : (a : ℕ) → IsRecorded m filing.firsts filing.sets filing.buffers a → IsRecorded m c.firsts c.sets c.buffers a
  forth a h = ⊎_elim
      (λ (f : (x : Space) × IsRegionOf m x × Contains (chain m filing x) a).
      ⊎_elim
      (λ (p : Contains (logged c) a × (enters m c f.0 a ≡ true)). inr p.0)
      (λ (p : (Contains (logged c) a → ⊥) × Contains (chain m c f.0) a). inl (f.0, f.1, p.1))
      ((all_filed-has m c f.0 (logged c) (chain m c f.0) a).0 (subst (λ (l : List ℕ). Contains l a) (records f.0 f.1) f.2)))
      (λ (f : Contains (entries_of filing.buffers) a). absurd (no_entry m.threads a (subst (λ (bs : List (List ℕ)). Contains (entries_of bs) a) (ap (λ (x : Contents). x.buffers) others) f)))
      h

  back : (x : Space) (a : ℕ) → IsRegionOf m x → Enter m c x a → IsRecordedFor m c.firsts c.sets c.buffers x a → IsRecordedFor m filing.firsts filing.sets filing.buffers x a
  back x a r enter h =
      let now : Contains (all_filed m c x (logged c) (chain m c x)) a = (all_filed-has m c x (logged c) (chain m c x) a).1 (⊎_elim
      (λ (f : Contains (logged c) a). inl (f, enters-since m c x a enter))
      (λ (no : Contains (logged c) a → ⊥). inr (no, ⊎_elim (λ (f : Contains (chain m c x) a). f) (λ (f : Contains (logged c) a). absurd (no f)) h))
      (contains-or a (logged c))) in
      inl (subst (λ (l : List ℕ). Contains l a) (sym (records x r)) now)

  pub frame : filing ≡ record c { firsts = filing.firsts; sets = filing.sets; buffers = filing.buffers }
  frame = others ∙ ap (λ (bs : List (List ℕ)). record c { firsts = filing.firsts; sets = filing.sets; buffers = bs }) (sym (ap (λ (x : Contents). x.buffers) others))

  abbrev pub filed_stands : Stands m filing s
  filed_stands = record {
    whole = st.whole;
    places = st.places;
    stands =
        let closed : HeadsClosed m filing.firsts (view s).depths = filed-closed m c filing (view s) st.places st.stands (buffers-told m c ∣ (s, st, recorded) ∣₁) sets records in
        subst (λ (x : Contents). StandsAs m x (view s) st.places) (sym frame) (stands-with_logs m c (view s) st.places filing.firsts filing.sets filing.buffers st.stands sets closed limits.buffers);
  }

  pub filed_recorded : Recorded m filing s filed_stands
  filed_recorded =
      let readers : filing.readers ≡ c.readers = ap (λ (x : Contents). x.readers) others in
      record {
        crossing = λ n x o p f en lt e ex enters.
            back p.home (st.places.at n + 3 + f) (home-region m c s st x p areas ex enters.0) (crossing-enters m c (object_of s) st.places (λ _. 0) n x o p f st.stands.heap (home-valid m c s st) en lt e ex enters) (recorded.crossing n x o p f en lt e ex enters);
        fields = λ b h. recorded.fields b (forth b h);
        read = λ v u e k x p hv hm hk q ex home ne. subst (λ rs. IsReader rs v u e) (sym readers) (recorded.read v u e k x p hv hm hk q ex home ne);
        closed = λ u e hu hm he lt. ap (λ (rs : List (List ℕ)). get_or (get_or rs (u - 1) []) (e - 1) 0) readers ∙ recorded.closed u e hu hm he lt;
      }

  pub few_recorded : (t : ℕ) → HasThread m t → 1 ≤ depth_of c t → length (chain m filing (innermost s.graph t)) ≤ records_of m c (innermost s.graph t)
  few_recorded t has low =
      let x : Space = innermost s.graph t in
      let same = ap (λ (l : List ℕ). length l) (records x (innermost_region m c s st t has low)) in
      let few = few_filed m c x (logged c) (chain m c x) in
      omega (arith, same, few)

  pub begun : (d : Contents) (t escaping : ℕ) → HasThread m t → 1 ≤ depth_of c t → TargetsWritten m s st.places t filing d escaping → Begun m c d s st t escaping
  begun d t escaping has low written = record {
    filing = filing;
    later = filed_stands;
    places = refl;
    recorded = filed_recorded;
    filed = none_logged m c filing others;
    written = written;
    few = few_recorded t has low;
    records = records;
    frame = frame;
  }
