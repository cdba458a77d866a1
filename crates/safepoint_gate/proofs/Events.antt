-- Steps that add entries to the history keep the rule.
use Rattle.std.proofs.Common.{◌≡◌, ◌≢◌, ℕ, zero, suc, ◌%◌, ◌≤◌, List, [], ◌∷◌, ◌++◌, length, set, refl, sym, ap, ◌∙◌, subst, arith, bit_and, get_or-set_same, set-set, length-set, Some, lit≤, append_assoc}
use Rattle.std.proofs.lemmas.List.{append-nil}
use Rattle.std.proofs.lemmas.Nat.{and_mask}
use mathlib.Core.Option.{none, some, some-ne-none, some-injective}
use lib.ListN.{get_elem?}
use Rattle.atomic_table.specs.Table.{step, keeps, Allows}
use Rattle.heap_words.specs.declared.map.Areas.{Areas}
use Rattle.heap_words.specs.Contents.{contents}
use Rattle.object_layout.specs.declared.calls.Event.{Event}
use Rattle.yak_model.specs.Continued.{Explains, entries_told}
use Rattle.yak_model.specs.Graph.{standard_limits, thread_of}
use Rattle.yak_model.specs.declared.history.Entry.{Entry}
use Rattle.yak_model.specs.declared.history.Entry.TheVariants.{Said}
use Rattle.yak_model.specs.History.{IsLegal, part}
use Rattle.yak_model.specs.Private.{BecomesKnown, KnownObjects, PrivateAfter}
use Rattle.yak_model.specs.Spaces.{SpaceState, spaces}
use Rattle.yak_model.proofs.Continued.{explains_more, has_others, one_state, part_others, part_own}
use Rattle.yak_model.proofs.Lasting.{becomes_known, private_more, private_others}
use Rattle.safepoint_gate.specs.declared.rule.Own.{Own}
use Rattle.safepoint_gate.specs.declared.rule.Place.TheVariants.{Inside, Closed}
use Rattle.safepoint_gate.specs.Rule.{present, inner, asking, closed, present_at, inner_at, asking_at, closed_at, moving_at, hidden, thread_told, AllMine, AllRest, CountsSeats, Mine, OneHistory}
use Rattle.safepoint_gate.specs.Steps.{KeepBuffers, MayOpen, Sat, with_own, with_entries, told, first_known, first_thread, opens_with}
use Rattle.safepoint_gate.proofs.Totals.{total_set, total_at}
use Rattle.safepoint_gate.proofs.Keeps.{gate_of, bounds, resting, some_words}
use Rattle.safepoint_gate.proofs.Changing.{acts}
use Rattle.safepoint_gate.proofs.Closers.{closed_quiet, others_open}
use Rattle.safepoint_gate.proofs.Keeps as Keep
use Rattle.safepoint_gate.proofs.Flying.{beside_same, each, only, rest_differs, stand_open}
use Rattle.calls_in_flight.specs.Flight.{at_rest}

module _ (m : Areas) where
  -- the history with the entries of a call is legal
  abbrev Legal : List Entry → ℕ → Event → Type 0
  Legal history t event = IsLegal standard_limits m.threads (history ++ entries_told t event)

  -- what the call makes of the objects that a thread knows
  abbrev Becomes : List Entry → ℕ → Event → KnownObjects → KnownObjects → Type 0
  Becomes history t event known after = BecomesKnown standard_limits m.threads history t known (Said t event.call event.reply) after

  -- a call of another thread leaves what a thread has of its own
  pub mine_others : (history : List Entry) (t : ℕ) (event : Event) (o : Own) → 1 ≤ t → t ≢ o.thread → Legal history t event → Mine m history o → Mine m (history ++ entries_told t event) o
  mine_others history t event o from apart legal mine = record {
    thread = mine.thread;
    calls = part_others history t event o.thread apart ∙ mine.calls;
    has = has_others m history t event o.thread (thread_told o) from mine.thread.0 (λ e. apart (sym e)) mine.has;
    knows = private_others standard_limits m.threads history t event legal o.thread o.known apart (lit≤ tt) mine.knows;
    goes_on = (mine.goes_on.0 ++ entries_told t event, ap (λ l. l ++ entries_told t event) mine.goes_on.1 ∙ append_assoc o.past mine.goes_on.0 (entries_told t event));
  }

  -- a call of its own adds its entries, and leaves it what it has in the state
  pub mine_own : (history : List Entry) (t : ℕ) (event : Event) (o : Own) (s : SpaceState) (known : KnownObjects) → t ≡ o.thread → Legal history t event → Becomes history t event o.known known
      → spaces standard_limits m.threads (history ++ entries_told t event) s → Mine m history o
      → Mine m (history ++ entries_told t event) (with_entries o (entries_told t event) (thread_of s.graph t) known (history ++ entries_told t event))
  mine_own history t event o s known same legal becomes leaves mine = record {
    thread = mine.thread;
    calls = subst (λ z. part (history ++ entries_told t event) z ≡ part history z ++ entries_told t event) same (part_own history t event) ∙ ap (λ l. l ++ entries_told t event) mine.calls;
    has = λ other left. ap (λ z. thread_of other.graph z) (sym same) ∙ ap (λ (x : SpaceState). thread_of x.graph t) (one_state m (history ++ entries_told t event) other s left leaves);
    knows = subst (λ u. PrivateAfter standard_limits m.threads (history ++ entries_told t event) u known) same
        (private_more standard_limits m.threads history t event legal t o.known known (lit≤ tt) (subst (λ u. PrivateAfter standard_limits m.threads history u o.known) (sym same) mine.knows) becomes);
    goes_on = ([], sym (append-nil (history ++ entries_told t event)));
  }

  pub mine_told : (history : List Entry) (event : Event) (own : List Own) (o : Own) (s : SpaceState) (known : KnownObjects) → own ≡ o ∷ [] → Legal history (first_thread own) event
      → Becomes history (first_thread own) event (first_known own) known → spaces standard_limits m.threads (history ++ entries_told (first_thread own) event) s → AllMine m history own
      → AllMine m (history ++ entries_told (first_thread own) event) (told own (entries_told (first_thread own) event) (thread_of s.graph (first_thread own)) known (history ++ entries_told (first_thread own) event))
  mine_told history event own o s known is legal becomes leaves mine =
      let t = first_thread own in
      let more = entries_told t event in
      let has = thread_of s.graph t in
      let one : Mine m (history ++ more) (with_entries o more has known (history ++ more)) =
      mine_own history t event o s known (ap first_thread is) legal (subst (λ k. Becomes history t event k known) (ap first_known is) becomes) leaves (mine 0 o (ap (λ z. get_elem? z 0) is)) in
      subst (AllMine m (history ++ more)) (sym (ap (λ z. told z more has known (history ++ more)) is)) (single (with_entries o more has known (history ++ more)) (history ++ more) one)
    where
      single : (q : Own) (whole : List Entry) → Mine m whole q → AllMine m whole (q ∷ [])
      single q whole is zero p at = subst (Mine m whole) (some-injective q p at) is
      single q whole is (suc k) p at = absurd (some-ne-none p (sym at))

  -- a seat's one thread with the entries of a call
  pub mine_one : (history : List Entry) (event : Event) (own : List Own) (o : Own) (s : SpaceState) (known : KnownObjects) → own ≡ o ∷ [] → Legal history (first_thread own) event
      → Becomes history (first_thread own) event (first_known own) known → spaces standard_limits m.threads (history ++ entries_told (first_thread own) event) s → AllMine m history own
      → Mine m (history ++ entries_told (first_thread own) event) (with_entries o (entries_told (first_thread own) event) (thread_of s.graph (first_thread own)) known (history ++ entries_told (first_thread own) event))
  mine_one history event own o s known is legal becomes leaves mine =
      mine_own history (first_thread own) event o s known (ap first_thread is) legal (subst (λ k. Becomes history (first_thread own) event k known) (ap first_known is) becomes) leaves (mine 0 o (ap (λ z. get_elem? z 0) is))

  -- the closer opens with a call
  pub opens_with_keeps : (slots id : ℕ) (me : Sat) (event : Event) → me.0.place ≡ Closed → length me.0.own ≡ 1 → MayOpen me.0 (Some event)
      → Allows (OneHistory m) slots id me 0 (λ n. bit_and n 4294967295) (opens_with event (step slots 0 4294967295 0 none) me)
  opens_with_keeps slots id me event is single continues s k _ at _ =
      let v = me.0 in
      let o = (only v.own single).0 in
      let own : v.own ≡ o ∷ [] = (only v.own single).1 in
      let t = first_thread v.own in
      let more = entries_told t event in
      let f = k.fits id v at in
      let p : present v ≡ 1 = ap present_at is in
      let a : asking v ≡ 1 = ap asking_at is in
      let i : inner v ≡ 0 = ap inner_at is in
      let c : closed v ≡ 1 = ap closed_at is in
      let knows = f.knows c in
      let same : v.map ≡ m = f.map_is (omega (arith, single)) in
      let before : Explains v.map (contents v.map v.closing) v.history =
      subst (λ (y : Areas × List Entry). Explains y.0 (contents y.0 v.closing) y.1) (λ j. (sym same j, sym knows.history_is j)) knows.explains in
      let after : Explains v.map (contents v.map v.words) (v.history ++ more) = explains_more v.map (contents v.map v.closing) (contents v.map v.words) v.history t event before continues.0 in
      let known : Explains m (contents m (hidden s.words)) (k.history ++ more) =
      subst (λ (y : Areas × List ℕ × List Entry). Explains y.0 (contents y.0 y.1) (y.2 ++ more)) (λ j. (same j, knows.words_are j, knows.history_is j)) after in
      let buffers : KeepBuffers m (contents m v.closing) (contents m (hidden s.words)) = subst (λ (y : Areas × List ℕ). KeepBuffers y.0 (contents y.0 v.closing) (contents y.0 y.1)) (λ j. (same j, knows.words_are j)) continues.1 in
      let has = thread_of known.state.graph t in
      let made = becomes_known standard_limits m.threads k.history t event known.lawful.legal t (first_known v.own) in
      let w = with_own v Inside (told v.own more has made.0 (k.history ++ more)) in
      let p' : Own = with_entries o more has made.0 (k.history ++ more) in
      let is_own : w.own ≡ p' ∷ [] = ap (λ z. told z more has made.0 (k.history ++ more)) own in
      let o_at : get_elem? v.own 0 ≡ some o = ap (λ z. get_elem? z 0) own in
      let quiet = f.rests (ap moving_at is) in
      let call = f.calls 0 o o_at in
      let rest : o.flight ≡ at_rest o.thread = quiet.0 0 o o_at in
      let rests : AllRest w.own = subst AllRest (sym is_own) (each (λ (x : Own). x.flight ≡ at_rest x.thread) p' rest) in
      let none_moves = closed_quiet m s k id v at c in
      let b = bounds m s k in
      let count = k.counted.count in
      let one = k.counted.one in
      let here = total_at asking s.views id v at in
      let P = total_set present s.views id v w at in
      let A = total_set asking s.views id v w at in
      let C = total_set closed s.views id v w at in
      let wide : 1 ≤ length s.words = subst (λ z. 1 ≤ z) (sym k.wide) (some_words m) in
      let masked : bit_and (gate_of s) 4294967295 ≡ gate_of s % 4294967296 = and_mask (gate_of s) 32 in
      let mine = f.mine 0 o o_at in
      let by : t ≡ o.thread = ap first_thread own in (
        w,
        keeps,
        tt,
        acts m s k id v w me.1 0 (bit_and (gate_of s) 4294967295) (hidden s.words) (k.history ++ more) o p' k.underway at own is_own refl same refl (omega arith) (λ _. (rests, refl))
            (λ j u apart there. others_open m s k id j v u at c apart there)
            (λ q apart. mine_others k.history t event q (let z = mine.thread.0 in omega arith) (λ e. apart (sym by ∙ e)) known.lawful.legal)
            (mine_one k.history event v.own o known.state made.0 own known.lawful.legal made.1 known.leaves f.mine)
            record { flight_is = call.flight_is; lasting_is = call.lasting_is ∙ quiet.1; few = call.few; differs = rest_differs m p' [] rest }
            k.by_thread
            (beside_same m k.underway v.own)
            (subst (λ z. CountsSeats z (set s.views id w)) (sym (get_or-set_same s.words 0 (bit_and (gate_of s) 4294967295) 0 (omega arith)))
            record { count = omega arith; one = omega arith; alone = λ h. absurd (omega arith) })
            (set-set s.words 0 (bit_and (gate_of s) 4294967295) 0)
            (stand_open m (hidden s.words) (k.history ++ more) k.underway k.areas (length-set s.words 0 0 ∙ k.wide) k.by_thread (resting m s k none_moves) (λ x ht. (Keep.still m s k none_moves x ht).1)
            (λ x ht. let z = buffers x ht in let y = knows.counted x ht in omega (arith, z, y)) known),
        (
          record {
            has = has;
            known = made.0;
            view = λ i. with_own v Inside (told v.own more has made.0 (sym knows.history_is i ++ more));
            becomes = subst (λ (y : Areas × List Entry). BecomesKnown standard_limits y.0.threads y.1 t (first_known v.own) (Said t event.call event.reply) made.0) (λ j. (sym same j, sym knows.history_is j)) made.1;
            explains = after;
            mine = subst (λ (y : Areas × List Entry). AllMine y.0 (y.1 ++ more) w.own) (λ j. (sym same j, sym knows.history_is j)) (mine_told k.history event v.own o known.state made.0 own known.lawful.legal made.1 known.leaves f.mine);
          },
          refl,
          rests,
        ),
      )
