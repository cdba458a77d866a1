-- Each step keeps the rule.
use Rattle.std.proofs.Common.{◌≡◌, ◌≢◌, ℕ, ◌+◌, ◌-◌, ◌*◌, ◌%◌, ◌^◌, ◌<◌, ◌≤◌, List, [], length, get_or, set, bit_or, refl, sym, ap, ◌∙◌, subst, ⊎_elim, arith, length-set, set-set, get_or-set_same}
use Rattle.std.proofs.lemmas.Nat.{or_block}
use Rattle.std.specs.Int.Bits.{or_shifted_r, or_zero_r}
use mathlib.Core.Option.{none, some, some-injective}
use mathlib.Core.Logic.{dite}
use native.Mathlib.Decide.{dec_lt, ℕ_discrete}
use lib.ListN.{get_elem?}
use Rattle.atomic_table.specs.Table.{State, step, keeps, stepped, Allows}
use Rattle.atomic_table.proofs.Lists.{at_set, set_again}
use Rattle.std.proofs.lemmas.List.{set-get_or}
use Rattle.heap_words.specs.declared.map.Areas.{Areas}
use Rattle.heap_words.specs.Map.{HasThread, IsAreas, total_of}
use Rattle.heap_words.specs.Contents.{buffer_of, contents}
use Rattle.yak_model.specs.Continued.{Explains}
use Rattle.yak_model.specs.declared.history.Entry.{Entry}
use Rattle.safepoint_gate.specs.declared.rule.Place.{Place}
use Rattle.safepoint_gate.specs.declared.rule.Place.TheVariants.{Away, Inside, Retreating, Asking, Closed}
use Rattle.safepoint_gate.specs.declared.rule.View.{View}
use Rattle.safepoint_gate.specs.Rule.{total, present, inner, asking, closed, present_at, inner_at, asking_at, closed_at, times, stands_for, numbers, hidden, moving, moving_at, AllMine, AllRest, AreByThread, CountsSeats, Fits, IsUnderway, OneHistory, Knows, StandsOpen, Underway}
use Rattle.safepoint_gate.specs.Steps.{Sat, at_place, at_gate, enters, leaves, asks, looks, Closes, IsClosing}
use Rattle.safepoint_gate.specs.declared.rule.Own.{Own}
use Rattle.calls_in_flight.specs.declared.notes.Known.{Known}
use Rattle.calls_in_flight.specs.Flight.{AreAtRest, at_rest, flight_at}
use Rattle.safepoint_gate.proofs.Flying.{Beside, all_rest, beside_call, beside_forgotten, call_forgotten, find_thread, forgotten, open_forgotten, stand_closed, times_at}
use Rattle.safepoint_gate.proofs.Totals.{set_there, total_set, total_at, total_two, total_below}

abbrev pub St : Type 0
St = State (Unit {0}) View

abbrev pub gate_of : St → ℕ
gate_of s = get_or s.words 0 0

present-single : (p : Place) → present_at p ≤ 1
present-single Away = omega arith
present-single Inside = omega arith
present-single Retreating = omega arith
present-single Asking = omega arith
present-single Closed = omega arith

pub closed-asks : (p : Place) → closed_at p ≤ asking_at p
closed-asks Away = omega arith
closed-asks Inside = omega arith
closed-asks Retreating = omega arith
closed-asks Asking = omega arith
closed-asks Closed = omega arith

pub asks-present : (p : Place) → asking_at p ≤ present_at p
asks-present Away = omega arith
asks-present Inside = omega arith
asks-present Retreating = omega arith
asks-present Asking = omega arith
asks-present Closed = omega arith

inner-present : (p : Place) → inner_at p ≤ present_at p
inner-present Away = omega arith
inner-present Inside = omega arith
inner-present Retreating = omega arith
inner-present Asking = omega arith
inner-present Closed = omega arith

-- the words of a heap are some
pub some_words : (m : Areas) → 1 ≤ total_of m
some_words m = omega arith

pub moving-present : (p : Place) → moving_at p ≤ present_at p
moving-present Away = omega arith
moving-present Inside = omega arith
moving-present Retreating = omega arith
moving-present Asking = omega arith
moving-present Closed = omega arith

module _ (m : Areas) where
  pub fits_set : (F : View → Type 0) (views : List View) (id : ℕ) (w : View) → F w → ((j : ℕ) (u : View) → j ≢ id → get_elem? views j ≡ some u → F u) → (j : ℕ) (u : View) → get_elem? (set views id w) j ≡ some u → F u
  fits_set F views id w mine others j u e =
      ⊎_elim
      (λ (x : (j ≡ id) × (w ≡ u)). subst F x.1 mine)
      (λ (x : (j ≢ id) × (get_elem? views j ≡ some u)). others j u x.0 x.1)
      (at_set views id j w u e)

  -- what a step owes: the count of the gate, the seat's own facts, those of the others, and the words where no seat has closed the gate
  pub changes : (s : St) (k : OneHistory m s) (id : ℕ) (v w : View) (cs : List (ℕ × Unit {0})) (i n : ℕ) (words : List ℕ) (history : List Entry) (u : Underway) → get_elem? s.views id ≡ some v
      → CountsSeats (get_or (set s.words i n) 0 0) (set s.views id w)
      → ((t : ℕ) → times t w.own ≡ times t v.own)
      → length w.own ≡ length v.own
      → hidden (set s.words i n) ≡ words
      → AreByThread m u.flights
      → Fits m words history u w
      → ((j : ℕ) (x : View) → j ≢ id → get_elem? s.views j ≡ some x → Fits m (hidden s.words) k.history k.underway x → Fits m words history u x)
      → (total closed (set s.views id w) ≡ 0 → StandsOpen m words history u)
      → OneHistory m (stepped s i n id cs w keeps)
  changes s k id v w cs i n words history u at counted same long now by mine others fine = record {
    history = history;
    underway = u;
    areas = k.areas;
    wide = length-set s.words i n ∙ k.wide;
    all_given = let a = k.all_given in let b = total_set numbers s.views id v w at in omega arith;
    counted = counted;
    once = λ t thread. let a = k.once t thread in let b = total_set (stands_for t) s.views id v w at in let c : times t w.own ≡ times t v.own = same t in omega arith;
    by_thread = by;
    fits = subst (λ z. (j : ℕ) (x : View) → get_elem? (set s.views id w) j ≡ some x → Fits m z history u x) (sym now) after;
    open_ = λ none_closed. subst (λ z. StandsOpen m z history u) (sym now) (fine none_closed);
  }
    where
      after : (j : ℕ) (x : View) → get_elem? (set s.views id w) j ≡ some x → Fits m words history u x
      after = fits_set (Fits m words history u) s.views id w mine (λ j x apart e. others j x apart e (k.fits j x e))

  -- a step that changes nothing
  pub unchanged : (s : St) (k : OneHistory m s) (id i : ℕ) (v : View) (cs : List (ℕ × Unit {0})) → get_elem? s.views id ≡ some v → OneHistory m (stepped s i (get_or s.words i 0) id cs v keeps)
  unchanged s k id i v cs at = subst (OneHistory m) (λ j. record { words = sym (set-get_or s.words i 0) j; homes = s.homes; views = sym (set_again s.views id v at) j }) k

  -- a thread of another seat is none of this one
  pub none_else : (s : St) (k : OneHistory m s) (id j : ℕ) (v x : View) (l : ℕ) (q : Own) → get_elem? s.views id ≡ some v → j ≢ id → get_elem? s.views j ≡ some x → get_elem? x.own l ≡ some q → times q.thread v.own ≡ 0
  none_else s k id j v x l q at apart there q_at =
      let once = k.once q.thread ((k.fits j x there).mine l q q_at).thread in
      let two = total_two (stands_for q.thread) s.views id j v x (λ e. apart (sym e)) at there in
      let here = times_at x.own l q q_at in
      omega arith

  -- another seat, where nothing changes that is under way in its threads
  pub other_fits : (s : St) (k : OneHistory m s) (id j : ℕ) (v x : View) (words : List ℕ) (history : List Entry) (now : Underway) → get_elem? s.views id ≡ some v → j ≢ id → get_elem? s.views j ≡ some x
      → Beside m k.underway now v.own → Fits m (hidden s.words) k.history k.underway x → AllMine m history x.own → (closed x ≡ 1 → Knows m words history now x) → Fits m words history now x
  other_fits s k id j v x words history now at apart there beside g mine knows = record {
    map_is = g.map_is;
    single = g.single;
    mine = mine;
    calls = λ l q q_at. beside_call m k.underway now v.own x.lasting q beside (g.mine l q q_at).thread (none_else s k id j v x l q at apart there q_at) (g.calls l q q_at);
    rests = g.rests;
    knows = knows;
  }

  -- where no call is in flight, the history explains the words
  pub still : (s : St) (k : OneHistory m s) → ((j : ℕ) (x : View) → get_elem? s.views j ≡ some x → moving x ≡ 0) → (t : ℕ) → HasThread m t → (flight_at k.underway.flights (t - 1) ≡ at_rest t) × (k.underway.lasting t ≡ [])
  still s k quiet t ht =
      let once = k.once t ht in
      let found = find_thread s.views t (omega (arith, once)) in
      let x = found.1 in
      let g = k.fits found.0 x found.2 in
      let l = found.3.0 in
      let q = found.3.1 in
      let q_at = found.3.2 in
      let same : q.thread ≡ t = found.3.3 in
      let rests = g.rests (quiet found.0 x found.2) in
      let c = g.calls l q q_at in (
        subst (λ u. flight_at k.underway.flights (u - 1) ≡ at_rest u) same (c.flight_is ∙ rests.0 l q q_at),
        ap k.underway.lasting (sym same) ∙ (c.lasting_is ∙ rests.1),
      )

  pub resting : (s : St) (k : OneHistory m s) → ((j : ℕ) (x : View) → get_elem? s.views j ≡ some x → moving x ≡ 0) → AreAtRest k.underway.flights
  resting s k quiet = all_rest m k.underway.flights k.by_thread (λ t ht. (still s k quiet t ht).0)

  abbrev pub Told : St → List Entry → Underway → Type 0
  Told s history u = Explains m (contents m (hidden s.words)) history × ((t : ℕ) → HasThread m t → length (buffer_of (contents m (hidden s.words)) t) ≤ u.logged t)

  pub explained : (s : St) (k : OneHistory m s) → total closed s.views ≡ 0 → ((j : ℕ) (x : View) → get_elem? s.views j ≡ some x → moving x ≡ 0) → Told s k.history k.underway
  explained s k none_closed quiet = stand_closed m (hidden s.words) k.history k.underway (resting s k quiet) (k.open_ none_closed)

  few_threads : m.threads ≤ 8 → m.threads ≤ 255
  few_threads h = omega arith

  -- bounds on the gate
  pub bounds : (s : St) (k : OneHistory m s) → (total present s.views ≤ 255) × (total closed s.views ≤ total asking s.views) × (total inner s.views ≤ total present s.views)
  bounds s k = (
    (let a = total_below present numbers s.views (λ j v e. (k.fits j v e).single) in let b = k.all_given in let c : m.threads ≤ 255 = few_threads k.areas.3 in omega arith),
    total_below closed asking s.views (λ j v e. closed-asks v.place),
    total_below inner present s.views (λ j v e. inner-present v.place),
  )

  pub recounted : (s : St) (k : OneHistory m s) (id : ℕ) (v : View) (q : Place) (n : ℕ) → get_elem? s.views id ≡ some v
      → n + present v + 4294967296 * asking v ≡ gate_of s + present_at q + 4294967296 * asking_at q
      → total asking s.views + asking_at q ≤ 1 + asking v
      → (0 < total closed (set s.views id (at_place v q)) → total inner (set s.views id (at_place v q)) ≡ 0)
      → CountsSeats n (set s.views id (at_place v q))
  recounted s k id v q n at moved one alone = let w = at_place v q in
      let P = total_set present s.views id v w at in
      let A = total_set asking s.views id v w at in
      let count = k.counted.count in
      record { count = omega arith; one = omega arith; alone = alone }

  -- the seat's phase alone changes, and it hasn't closed the gate
  phase_changes : (s : St) (k : OneHistory m s) (id : ℕ) (v : View) (q : Place) (cs : List (ℕ × Unit {0})) (n : ℕ) → get_elem? s.views id ≡ some v
      → closed_at q ≡ 0 → closed v ≡ 0 → present_at q ≤ length v.own → AllRest v.own
      → CountsSeats n (set s.views id (at_place v q))
      → OneHistory m (stepped s 0 n id cs (at_place v q) keeps)
  phase_changes s k id v q cs n at not was single rests counted = let w = at_place v q in
      let f = k.fits id v at in
      let C = total_set closed s.views id v w at in
      let wide : 1 ≤ length s.words = subst (λ z. 1 ≤ z) (sym k.wide) (some_words m) in
      let now = forgotten k.underway v.own in
      changes s k id v w cs 0 n (hidden s.words) k.history now at (subst (λ z. CountsSeats z (set s.views id w)) (sym (get_or-set_same s.words 0 n 0 (omega arith))) counted) (λ t. refl) refl (set-set s.words 0 n 0)
      record { count = k.by_thread.count; threads = k.by_thread.threads }
      record {
        map_is = f.map_is;
        single = single;
        mine = f.mine;
        calls = λ l o o_at. call_forgotten m k.underway v.own v.lasting l o o_at (rests l o o_at) (f.calls l o o_at);
        rests = λ _. (rests, refl);
        knows = λ e. absurd (omega arith);
      }
      (λ j x apart there g. other_fits s k id j v x (hidden s.words) k.history now at apart there (beside_forgotten m k.underway v.own) g g.mine (λ e. let z = g.knows e in record { words_are = z.words_are; history_is = z.history_is; explains = z.explains; counted = z.counted }))
      (λ z. open_forgotten m (hidden s.words) k.history k.underway v.own (k.open_ (omega arith)))

  -- no call of a seat that is away is in flight
  pub away_rests : (s : St) (k : OneHistory m s) (id : ℕ) (v : View) → get_elem? s.views id ≡ some v → v.place ≡ Away → AllRest v.own
  away_rests s k id v at away = ((k.fits id v at).rests (ap moving_at away)).0

  enters_low : (slots id : ℕ) (me : Sat) → me.0.place ≡ Away → length me.0.own ≡ 1 → (s : St) (k : OneHistory m s) → get_elem? s.views id ≡ some me.0 → gate_of s < 4294967296
      → OneHistory m (stepped s 0 ((gate_of s + 1) % 2 ^ 64) id me.1 (at_place me.0 Inside) keeps)
  enters_low slots id me away single s k at low =
      let b = bounds s k in
      let p0 : present me.0 ≡ 0 = ap present_at away in
      let a0 : asking me.0 ≡ 0 = ap asking_at away in
      let c0 : closed me.0 ≡ 0 = ap closed_at away in
      let count = k.counted.count in
      let one = k.counted.one in
      let C = total_set closed s.views id me.0 (at_place me.0 Inside) at in
      phase_changes s k id me.0 Inside me.1 _ at refl c0 (omega arith) (away_rests s k id me.0 at away) (recounted s k id me.0 Inside _ at (omega arith) (omega arith) (λ h. absurd (omega arith)))

  enters_high : (slots id : ℕ) (me : Sat) → me.0.place ≡ Away → length me.0.own ≡ 1 → (s : St) (k : OneHistory m s) → get_elem? s.views id ≡ some me.0 → 4294967296 ≤ gate_of s
      → OneHistory m (stepped s 0 ((gate_of s + 1) % 2 ^ 64) id me.1 (at_place me.0 Retreating) keeps)
  enters_high slots id me away single s k at high =
      let b = bounds s k in
      let p0 : present me.0 ≡ 0 = ap present_at away in
      let a0 : asking me.0 ≡ 0 = ap asking_at away in
      let c0 : closed me.0 ≡ 0 = ap closed_at away in
      let i0 : inner me.0 ≡ 0 = ap inner_at away in
      let count = k.counted.count in
      let one = k.counted.one in
      let alone = k.counted.alone in
      let C = total_set closed s.views id me.0 (at_place me.0 Retreating) at in
      let I = total_set inner s.views id me.0 (at_place me.0 Retreating) at in
      phase_changes s k id me.0 Retreating me.1 _ at refl c0 (omega arith) (away_rests s k id me.0 at away) (recounted s k id me.0 Retreating _ at (omega arith) (omega arith) (λ h. let z = alone (omega arith) in omega arith))

  pub enters_keeps : (slots id : ℕ) (me : Sat) → me.0.place ≡ Away → length me.0.own ≡ 1 → Allows (OneHistory m) slots id me 0 (λ n. (n + 1) % 2 ^ 64) (enters (step slots 0 1 0 none) me)
  enters_keeps slots id me away single s k _ at _ = dite (dec_lt (gate_of s) 4294967296)
      (λ low. (at_place me.0 Inside, keeps, tt, enters_low slots id me away single s k at low, ((λ _. (refl, refl)), (λ high. absurd (omega arith)), away_rests s k id me.0 at away)))
      (λ high. (at_place me.0 Retreating, keeps, tt, enters_high slots id me away single s k at (omega arith), ((λ low. absurd (high low)), (λ _. (refl, refl)), away_rests s k id me.0 at away)))

  -- a seat that is present, and neither asks nor has closed, goes
  pub leaves_keeps : (slots id : ℕ) (me : Sat) → present me.0 ≡ 1 → asking me.0 ≡ 0 → closed me.0 ≡ 0 → AllRest me.0.own → Allows (OneHistory m) slots id me 0 (λ n. (n + (2 ^ 64 - 1)) % 2 ^ 64) (leaves (step slots 0 1 0 none) me)
  leaves_keeps slots id me p1 a0 c0 rests s k _ at fits =
      let b = bounds s k in
      let count = k.counted.count in
      let one = k.counted.one in
      let alone = k.counted.alone in
      let v = me.0 in
      let i : inner v ≤ present v = inner-present v.place in
      let here : present v ≤ total present s.views = total_at present s.views id v at in
      let w = at_place v Away in
      let C = total_set closed s.views id v w at in
      let I = total_set inner s.views id v w at in
      (w, keeps, tt, phase_changes s k id v Away me.1 _ at refl c0 (omega arith) rests (recounted s k id v Away _ at (omega arith) (omega arith) (λ h. let z = alone (omega arith) in omega arith)), (refl, refl))

  or_low : (n : ℕ) → n < 4294967296 → bit_or n 4294967296 ≡ n + 4294967296
  or_low n low = let e = or_shifted_r 1 32 n low in e ∙ omega arith

  or_high : (n : ℕ) → 4294967296 ≤ n → n < 8589934592 → bit_or n 4294967296 ≡ n
  or_high n high low = let r : ℕ = n - 4294967296 in let small : r < 2 ^ 32 = omega arith in
      let split : n ≡ 1 * 2 ^ 32 + r = omega arith in
      ap (λ z. bit_or z 4294967296) split ∙ (or_block 32 1 1 r 0 small (omega arith) ∙ ap (λ z. 1 * 2 ^ 32 + z) (or_zero_r r)) ∙ sym split

  pub asks_keeps : (slots id : ℕ) (me : Sat) → me.0.place ≡ Inside → length me.0.own ≡ 1 → AllRest me.0.own → Allows (OneHistory m) slots id me 0 (λ n. bit_or n 4294967296) (asks (step slots 0 4294967296 0 none) me)
  asks_keeps slots id me inside single rests s k _ at fits = dite (dec_lt (gate_of s) 4294967296)
      (λ low. (at_place me.0 Asking, keeps, tt, asks_low low, ((λ _. (refl, refl)), (λ high. absurd (omega arith)))))
      (λ high. (me.0, keeps, tt, asks_high (omega arith), ((λ low. absurd (high low)), (λ _. (refl, refl)))))
    where
      asks_low : gate_of s < 4294967296 → OneHistory m (stepped s 0 (bit_or (gate_of s) 4294967296) id me.1 (at_place me.0 Asking) keeps)
      asks_low low =
          let v = me.0 in
          let w = at_place v Asking in
          let b = bounds s k in
          let p1 : present v ≡ 1 = ap present_at inside in
          let a0 : asking v ≡ 0 = ap asking_at inside in
          let c0 : closed v ≡ 0 = ap closed_at inside in
          let i1 : inner v ≡ 1 = ap inner_at inside in
          let count = k.counted.count in
          let o = or_low (gate_of s) low in
          let C = total_set closed s.views id v w at in
          phase_changes s k id v Asking me.1 _ at refl c0 (omega arith) rests (recounted s k id v Asking _ at (omega arith) (omega arith) (λ h. absurd (omega arith)))

      asks_high : 4294967296 ≤ gate_of s → OneHistory m (stepped s 0 (bit_or (gate_of s) 4294967296) id me.1 me.0 keeps)
      asks_high high =
          let v = me.0 in
          let b = bounds s k in
          let a0 : asking v ≡ 0 = ap asking_at inside in
          let count = k.counted.count in
          let one = k.counted.one in
          subst (λ n. OneHistory m (stepped s 0 n id me.1 v keeps)) (sym (or_high (gate_of s) high (omega arith))) (unchanged s k id 0 v me.1 at)

  -- what a seat comes to know as it closes the gate
  pub closing_known : (s : St) (k : OneHistory m s) (id : ℕ) (v : View) → get_elem? s.views id ≡ some v → 1 ≤ length v.own → moving v ≡ 0 → Told s k.history k.underway → IsClosing (at_gate v (hidden s.words) k.history)
  closing_known s k id v at some_own settled known =
      let f = k.fits id v at in
      let same : m ≡ v.map = sym (f.map_is some_own) in
      let some_word : 1 ≤ length s.words = subst (λ z. 1 ≤ z) (sym k.wide) (some_words m) in
      record {
        areas = subst IsAreas same k.areas;
        wide = (length-set s.words 0 0 ∙ k.wide) ∙ ap total_of same;
        gate_hidden = get_or-set_same s.words 0 0 0 (omega arith);
        explains = subst (λ z. Explains z (contents z (hidden s.words)) k.history) same known.0;
        mine = subst (λ z. AllMine z k.history v.own) same f.mine;
        rests = (f.rests settled).0;
        counted = λ l o o_at. subst (λ z. length (buffer_of (contents z (hidden s.words)) o.thread) ≤ o.put) same (let a = known.1 o.thread (f.mine l o o_at).thread in let b = (f.calls l o o_at).few in omega (arith, a, b));
      }

  -- the seat closes the gate: it has the words, and no other seat is inside
  pub closes : (s : St) (k : OneHistory m s) (id : ℕ) (v : View) (cs : List (ℕ × Unit {0})) (n : ℕ) → get_elem? s.views id ≡ some v → moving v ≡ 0 → 1 ≤ length v.own → Told s k.history k.underway
      → CountsSeats n (set s.views id (at_gate v (hidden s.words) k.history))
      → OneHistory m (stepped s 0 n id cs (at_gate v (hidden s.words) k.history) keeps)
  closes s k id v cs n at settled some_own known counted =
      let w = at_gate v (hidden s.words) k.history in
      let f = k.fits id v at in
      let quiet = f.rests settled in
      let wide : 1 ≤ length s.words = subst (λ z. 1 ≤ z) (sym k.wide) (some_words m) in
      let C : total closed (set s.views id w) ≡ 0 → ⊥ = λ z. let there = total_at closed (set s.views id w) id w (set_there s.views id v w at) in omega arith in
      changes s k id v w cs 0 n (hidden s.words) k.history k.underway at
      (subst (λ z. CountsSeats z (set s.views id w)) (sym (get_or-set_same s.words 0 n 0 (omega arith))) counted)
      (λ t. refl)
      refl
      (set-set s.words 0 n 0)
      k.by_thread
      record {
        map_is = f.map_is;
        single = some_own;
        mine = f.mine;
        calls = λ l o o_at. subst (λ (z : List Known). IsUnderway m k.underway z o) quiet.1 (f.calls l o o_at);
        rests = λ _. (quiet.0, refl);
        knows = λ _. record { words_are = refl; history_is = refl; explains = known.0; counted = known.1 };
      }
      (λ j x apart e g. g)
      (λ z. absurd (C z))

  -- the seat that asked finds itself alone
  pub looks_keeps : (slots id : ℕ) (me : Sat) → me.0.place ≡ Asking → length me.0.own ≡ 1 → Allows (OneHistory m) slots id me 0 (λ n. n) (looks (step slots 0 0 0 none) me)
  looks_keeps slots id me asked single s k _ at fits = dite (ℕ_discrete (gate_of s) 4294967297)
      (λ alone. (at_gate me.0 (hidden s.words) k.history, keeps, tt, finds_alone alone, ((λ _. told alone), (λ other. absurd (other alone)))))
      (λ other. (me.0, keeps, tt, finds_others, ((λ alone. absurd (other alone)), (λ _. (refl, refl)))))
    where
      a1 : asking me.0 ≡ 1
      a1 = ap asking_at asked

      c0 : closed me.0 ≡ 0
      c0 = ap closed_at asked

      i1 : inner me.0 ≡ 1
      i1 = ap inner_at asked

      p1 : present me.0 ≡ 1
      p1 = ap present_at asked

      none_closed : total closed s.views ≡ 0
      none_closed = let i : inner me.0 ≡ 1 = i1 in let h = total_at inner s.views id me.0 at in let alone = k.counted.alone in dite (ℕ_discrete (total closed s.views) 0) (λ z. z) (λ more. let z = alone (omega arith) in absurd (omega arith))

      m0 : moving me.0 ≡ 0
      m0 = ap moving_at asked

      quiet : gate_of s ≡ 4294967297 → (j : ℕ) (x : View) → get_elem? s.views j ≡ some x → moving x ≡ 0
      quiet alone j x there = dite (ℕ_discrete j id)
          (λ same. let is : x ≡ me.0 = some-injective x me.0 (sym there ∙ (ap (λ z. get_elem? s.views z) same ∙ at)) in ap moving is ∙ m0)
          (λ other.
          let two = total_two present s.views id j me.0 x (λ z. other (sym z)) at there in
          let here = total_at asking s.views id me.0 at in
          let a : asking me.0 ≡ 1 = a1 in
          let p : present me.0 ≡ 1 = p1 in
          let count = k.counted.count in
          let one = k.counted.one in
          let below : moving x ≤ present x = moving-present x.place in
          omega arith)

      known : gate_of s ≡ 4294967297 → Told s k.history k.underway
      known alone = explained s k none_closed (quiet alone)

      told : gate_of s ≡ 4294967297 → Closes me (at_gate me.0 (hidden s.words) k.history, me.1)
      told alone = ((refl, refl), closing_known s k id me.0 at (omega (arith, single)) m0 (known alone))

      finds_alone : gate_of s ≡ 4294967297 → OneHistory m (stepped s 0 (gate_of s) id me.1 (at_gate me.0 (hidden s.words) k.history) keeps)
      finds_alone alone =
          let v = me.0 in
          let a : asking v ≡ 1 = a1 in
          let c : closed v ≡ 0 = c0 in
          let i : inner v ≡ 1 = i1 in
          let p : present v ≡ 1 = p1 in
          let f = k.fits id v at in
          let w = at_gate v (hidden s.words) k.history in
          let b = bounds s k in
          let count = k.counted.count in
          let one = k.counted.one in
          let wide : 1 ≤ length s.words = subst (λ z. 1 ≤ z) (sym k.wide) (some_words m) in
          let P = total_set present s.views id v w at in
          let A = total_set asking s.views id v w at in
          let I = total_set inner s.views id v w at in
          let C = total_set closed s.views id v w at in
          closes s k id v me.1 (gate_of s) at m0 (omega (arith, single)) (known alone)
          record { count = omega arith; one = omega arith; alone = λ _. omega arith }

      finds_others : OneHistory m (stepped s 0 (gate_of s) id me.1 me.0 keeps)
      finds_others = unchanged s k id 0 me.0 me.1 at
