-- The steps of a seat that has closed the gate keep the rule.
use Rattle.std.proofs.Common.{◌≡◌, ◌≢◌, ℕ, ◌%◌, ◌≤◌, ◌==◌, cond, List, [], ◌∷◌, length, get_or, set, refl, sym, ap, ◌∙◌, subst, ⊎_elim, arith, length-set, set-set, get_or-set_same, get_or-set_other, bit_and, None, eq-eqb, ne_eqb}
use Rattle.std.proofs.lemmas.Bool.{cases_eq}
use Rattle.std.proofs.lemmas.List.{set_comm}
use Rattle.std.proofs.lemmas.Nat.{and_mask}
use mathlib.Core.Option.{none, some}
use lib.ListN.{get_elem?}
use Rattle.atomic_table.specs.Table.{step, keeps, Allows}
use Rattle.heap_words.specs.declared.map.Areas.{Areas}
use Rattle.heap_words.specs.Map.{HasThread}
use Rattle.heap_words.specs.Contents.{buffer_of, contents}
use Rattle.yak_model.specs.Continued.{Explains}
use Rattle.yak_model.specs.declared.history.Entry.{Entry}
use Rattle.yak_model.proofs.Continued.{explains_still}
use Rattle.safepoint_gate.specs.declared.rule.Own.{Own}
use Rattle.safepoint_gate.specs.declared.rule.Place.{Place}
use Rattle.safepoint_gate.specs.declared.rule.Place.TheVariants.{Away, Inside, Retreating, Asking, Closed}
use Rattle.calls_in_flight.specs.Flight.{at_rest}
use Rattle.safepoint_gate.specs.declared.rule.View.{View}
use Rattle.safepoint_gate.specs.Rule.{present, inner, asking, closed, present_at, inner_at, asking_at, closed_at, moving, moving_at, times, hidden, AllMine, AllRest, CountsSeats, IsUnderway, OneHistory, Mine, Underway}
use Rattle.safepoint_gate.specs.Steps.{KeepBuffers, MayOpen, Sat, written, gets, sets, opens, first_thread, flushed, with_own}
use Rattle.safepoint_gate.proofs.Totals.{total_set, total_at, total_two, set_there}
use Rattle.safepoint_gate.proofs.Keeps.{St, gate_of, changes, unchanged, bounds, other_fits, resting, some_words}
use Rattle.safepoint_gate.proofs.Keeps as Keep
use Rattle.safepoint_gate.proofs.Flying.{each, only, rest_differs, stand_open, times_at}

moving-inner : (p : Place) → moving_at p ≤ inner_at p
moving-inner Away = omega arith
moving-inner Inside = omega arith
moving-inner Retreating = omega arith
moving-inner Asking = omega arith
moving-inner Closed = omega arith

module _ (m : Areas) where
  -- a view that changes, but for its phase and its threads
  pub counted_same : (n : ℕ) (views : List View) (id : ℕ) (v w : View) → get_elem? views id ≡ some v → w.place ≡ v.place → CountsSeats n views → CountsSeats n (set views id w)
  counted_same n views id v w at place k =
      let p : present w ≡ present v = ap present_at place in
      let a : asking w ≡ asking v = ap asking_at place in
      let i : inner w ≡ inner v = ap inner_at place in
      let c : closed w ≡ closed v = ap closed_at place in
      let P = total_set present views id v w at in
      let A = total_set asking views id v w at in
      let I = total_set inner views id v w at in
      let C = total_set closed views id v w at in
      let count = k.count in
      let one = k.one in
      let alone = k.alone in
      record { count = omega arith; one = omega arith; alone = λ h. let z = alone (omega arith) in omega arith }

  -- no other seat has closed the gate
  pub others_open : (s : St) (k : OneHistory m s) (id j : ℕ) (v u : View) → get_elem? s.views id ≡ some v → closed v ≡ 1 → j ≢ id → get_elem? s.views j ≡ some u → closed u ≡ 0
  others_open s k id j v u at c apart there = let two = total_two closed s.views id j v u (λ e. apart (sym e)) at there in let b = bounds m s k in let one = k.counted.one in omega arith

  pub gets_keeps : (slots id i : ℕ) (me : Sat) → me.0.place ≡ Closed → 1 ≤ i → Allows (OneHistory m) slots id me i (λ n. n) (gets (step slots i 0 0 none) me)
  gets_keeps slots id i me is from s k _ at _ =
      let knows = (k.fits id me.0 at).knows (ap closed_at is) in
      (me.0, keeps, tt, unchanged m s k id i me.0 me.1 at, ((refl, refl), sym (get_or-set_other s.words 0 i 0 0 (λ e. omega arith)) ∙ ap (λ z. get_or z i 0) (sym knows.words_are)))

  pub sets_keeps : (slots id i n : ℕ) (me : Sat) → me.0.place ≡ Closed → 1 ≤ i → Allows (OneHistory m) slots id me i (λ _. n) (λ _. sets (step slots i n 0 none) me n)
  sets_keeps slots id i n me is from s k _ at _ =
      let v = me.0 in
      let w = written v (set v.words i n) in
      let f = k.fits id v at in
      let c : closed v ≡ 1 = ap closed_at is in
      let knows = f.knows c in (
        w,
        keeps,
        tt,
        changes m s k id v w me.1 i n (set v.words i n) k.history k.underway at
            (subst (λ z. CountsSeats z (set s.views id w)) (sym (get_or-set_other s.words i 0 n 0 (λ e. omega arith))) (counted_same (gate_of s) s.views id v w at refl k.counted))
            (λ t. refl)
            refl
            (set_comm s.words i 0 n 0 (λ e. omega arith) ∙ ap (λ z. set z i n) (sym knows.words_are))
            k.by_thread
            record { map_is = f.map_is; single = f.single; mine = f.mine; calls = f.calls; rests = f.rests; knows = λ _. record { words_are = refl; history_is = knows.history_is; explains = knows.explains; counted = knows.counted } }
            (λ j u apart there g. let z = others_open s k id j v u at c apart there in record { map_is = g.map_is; single = g.single; mine = g.mine; calls = g.calls; rests = g.rests; knows = λ e. absurd (omega arith) })
            (λ z. let C = total_at closed (set s.views id w) id w (set_there s.views id v w at) in absurd (omega arith)),
        (refl, refl),
      )

  -- no call is in flight while a seat has closed the gate
  pub closed_quiet : (s : St) (k : OneHistory m s) (id : ℕ) (v : View) → get_elem? s.views id ≡ some v → closed v ≡ 1 → (j : ℕ) (u : View) → get_elem? s.views j ≡ some u → moving u ≡ 0
  closed_quiet s k id v at c j u there =
      let here = total_at closed s.views id v at in
      let alone = k.counted.alone (omega arith) in
      let inside = total_at inner s.views j u there in
      let below : moving u ≤ inner u = moving-inner u.place in
      omega arith

  -- the own store buffer is empty, and the others are no longer than they were
  abbrev emptied : Underway → ℕ → Underway
  emptied u t = record { flights = u.flights; lasting = u.lasting; logged = λ x. cond (x == t) 0 (u.logged x) }

  -- the closer opens, over words of the state of the closing
  pub opens_keeps : (slots id : ℕ) (me : Sat) → me.0.place ≡ Closed → length me.0.own ≡ 1 → MayOpen me.0 None → Allows (OneHistory m) slots id me 0 (λ n. bit_and n 4294967295) (opens (step slots 0 4294967295 0 none) me)
  opens_keeps slots id me is single still s k _ at _ =
      let v = me.0 in
      let o = (only v.own single).0 in
      let own : v.own ≡ o ∷ [] = (only v.own single).1 in
      let t = first_thread v.own in
      let by : o.thread ≡ t = sym (ap first_thread own) in
      let w = with_own v Inside (flushed v.own) in
      let is_own : w.own ≡ flushed (o ∷ []) = ap flushed own in
      let f = k.fits id v at in
      let quiet = f.rests (ap moving_at is) in
      let o_at : get_elem? v.own 0 ≡ some o = ap (λ z. get_elem? z 0) own in
      let mine = f.mine 0 o o_at in
      let call = f.calls 0 o o_at in
      let rest : o.flight ≡ at_rest o.thread = quiet.0 0 o o_at in
      let now : Underway = emptied k.underway t in
      let p : present v ≡ 1 = ap present_at is in
      let a : asking v ≡ 1 = ap asking_at is in
      let i : inner v ≡ 0 = ap inner_at is in
      let c : closed v ≡ 1 = ap closed_at is in
      let knows = f.knows c in
      let b = bounds m s k in
      let count = k.counted.count in
      let one = k.counted.one in
      let here = total_at asking s.views id v at in
      let P = total_set present s.views id v w at in
      let A = total_set asking s.views id v w at in
      let C = total_set closed s.views id v w at in
      let wide : 1 ≤ length s.words = subst (λ z. 1 ≤ z) (sym k.wide) (some_words m) in
      let masked : bit_and (gate_of s) 4294967295 ≡ gate_of s % 4294967296 = and_mask (gate_of s) 32 in
      let same : v.map ≡ m = f.map_is (omega (arith, single)) in
      let known : Explains v.map (contents v.map v.closing) v.history =
      subst (λ (y : Areas × List Entry). Explains y.0 (contents y.0 v.closing) y.1) (λ i. (sym same i, sym knows.history_is i)) knows.explains in
      let after : Explains v.map (contents v.map v.words) v.history = explains_still v.map (contents v.map v.closing) (contents v.map v.words) v.history known still.0 in
      let explained : Explains m (contents m (hidden s.words)) k.history = subst (λ (y : Areas × List ℕ × List Entry). Explains y.0 (contents y.0 y.1) y.2) (λ i. (same i, knows.words_are i, knows.history_is i)) after in
      let buffers : KeepBuffers m (contents m v.closing) (contents m (hidden s.words)) = subst (λ (y : Areas × List ℕ). KeepBuffers y.0 (contents y.0 v.closing) (contents y.0 y.1)) (λ i. (same i, knows.words_are i)) still.1 in
      let empty : buffer_of (contents m (hidden s.words)) t ≡ [] = subst (λ (y : Areas × List ℕ). buffer_of (contents y.0 y.1) t ≡ []) (λ i. (same i, knows.words_are i)) still.2 in
      let none_moves = closed_quiet s k id v at c in
      let few : (u : ℕ) → HasThread m u → length (buffer_of (contents m (hidden s.words)) u) ≤ now.logged u = λ u ht. ⊎_elim
      (λ (e : u ≡ t). omega (arith, ap (λ z. length (buffer_of (contents m (hidden s.words)) z)) e, ap (λ (l : List ℕ). length l) empty))
      (λ (ne : u ≢ t). let z = buffers u ht in let y = knows.counted u ht in rw (ne_eqb u t ne) (omega (arith, z, y)))
      (cases_eq u t) in
      let other : (u : ℕ) → times u v.own ≡ 0 → u ≢ t = λ u none e. let z = times_at v.own 0 o o_at in let y : times u v.own ≡ times o.thread v.own = ap (λ x. times x v.own) (e ∙ sym by) in omega arith in
      let o' : Own = record { thread = o.thread; calls = o.calls; stack = o.stack; depth = o.depth; made = o.made; known = o.known; past = o.past; flight = o.flight; loads = o.loads; put = 0 } in
      let mine' : Mine m k.history o' = record { thread = mine.thread; calls = mine.calls; has = mine.has; knows = mine.knows; goes_on = mine.goes_on } in
      let call' : IsUnderway m now [] o' = record {
        flight_is = call.flight_is;
        lasting_is = call.lasting_is ∙ quiet.1;
        few = rw (eq-eqb o.thread t by) (omega arith);
        differs = rest_differs m o' [] rest;
      } in
      let rests : AllRest w.own = subst AllRest (sym is_own) (each (λ (x : Own). x.flight ≡ at_rest x.thread) o' rest) in (
        w,
        keeps,
        tt,
        changes m s k id v w me.1 0 (bit_and (gate_of s) 4294967295) (hidden s.words) k.history now at
            (subst (λ z. CountsSeats z (set s.views id w)) (sym (get_or-set_same s.words 0 (bit_and (gate_of s) 4294967295) 0 (omega arith)))
            record { count = omega arith; one = omega arith; alone = λ h. absurd (omega arith) })
            (λ u. ap (times u) is_own ∙ sym (ap (times u) own))
            (ap length is_own ∙ sym (ap length own))
            (set-set s.words 0 (bit_and (gate_of s) 4294967295) 0)
            record { count = k.by_thread.count; threads = k.by_thread.threads }
            record {
              map_is = λ _. same;
              single = let l = ap length is_own in omega arith;
              mine = subst (AllMine m k.history) (sym is_own) (each (Mine m k.history) o' mine');
              calls = subst (λ (l : List Own). (x : ℕ) (q : Own) → get_elem? l x ≡ some q → IsUnderway m now [] q) (sym is_own) (each (IsUnderway m now []) o' call');
              rests = λ _. (rests, refl);
              knows = λ e. absurd (omega arith);
            }
            (λ j u apart there g. let z = others_open s k id j v u at c apart there in
            other_fits m s k id j v u (hidden s.words) k.history now at apart there
            record { flights = λ x ht none. refl; lasting = λ x ht none. refl; logged = λ x ht none. rw (ne_eqb x t (other x none)) refl }
            g g.mine (λ e. absurd (omega arith)))
            (λ z. stand_open m (hidden s.words) k.history now k.areas (length-set s.words 0 0 ∙ k.wide) record { count = k.by_thread.count; threads = k.by_thread.threads } (resting m s k none_moves)
            (λ x ht. (Keep.still m s k none_moves x ht).1) few explained),
        ((refl, after), refl, rests),
      )
