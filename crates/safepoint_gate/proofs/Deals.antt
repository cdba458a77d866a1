-- Seats that are made, cut and joined keep the rule.
use Rattle.std.proofs.Common.{◌≡◌, ◌⊎◌, ⊎_elim, inl, inr, ◌==◌, ℕ, zero, suc, ◌+◌, ◌-◌, ◌<◌, ◌≤◌, Bool, true, false, List, [], ◌∷◌, ◌++◌, take, drop, length, set, refl, sym, ap, ◌∙◌, subst, arith, length-append, eq-eqb, ne_eqb, get_or, replicate}
use Rattle.std.specs.Prelude.{if◌then◌else◌, slice_index}
use Rattle.std.proofs.lemmas.List.{get_or-replicate, set-get_or}
use mathlib.Core.Option.{none, some, some-ne-none, some-injective}
use mathlib.Core.Logic.{dite}
use native.Mathlib.Decide.{ℕ_discrete}
use lib.ListN.{get_elem?}
use Rattle.atomic_table.specs.Table.{Splits, Joins, opening, Allows, step, keeps}
use Rattle.atomic_table.proofs.Lists.{at_snoc, set_else}
use Rattle.heap_words.specs.declared.map.Areas.{Areas}
use Rattle.heap_words.specs.Map.{HasThread, IsAreas, total_of}
use Rattle.heap_words.specs.Contents.{buffer_of, contents}
use Rattle.yak_model.specs.Graph.{idle, standard_limits, thread_of}
use Rattle.yak_model.specs.Recorded.{StandsRecorded}
use Rattle.yak_model.specs.Spaces.{SpaceState, opening_spaces}
use Rattle.yak_model.proofs.Continued.{explains_opening}
use Rattle.yak_model.proofs.Lasting.{private_first}
use Rattle.safepoint_gate.specs.declared.rule.Place.TheVariants.{Away}
use Rattle.safepoint_gate.specs.declared.rule.Own.{Own}
use Rattle.safepoint_gate.specs.declared.rule.View.{View}
use Rattle.safepoint_gate.specs.Rule.{total, present, inner, asking, closed, present_at, inner_at, asking_at, closed_at, moving, moving_at, times, stands_for, numbers, hidden, thread_told, AreByThread, IsUnderway, Mine, Fits, OneHistory, StandsOpen, Underway, newcomer, fresh, first_view}
use Rattle.safepoint_gate.specs.Steps.{of_first, of_others, of_both, of_none, first_thread, at_gate, seals, Sat}
use Rattle.safepoint_gate.proofs.Totals.{total_at, total_set, total_two, total_snoc, total_below}
use Rattle.safepoint_gate.proofs.Flying.{all_rest, rest_differs, stand_open}
use Rattle.safepoint_gate.proofs.Keeps.{St, fits_set, asks-present, bounds, closes, closing_known, explained, moving-present, some_words}
use Rattle.calls_in_flight.specs.declared.notes.Flight.{Flight}
use Rattle.calls_in_flight.specs.declared.notes.Known.{Known}
use Rattle.calls_in_flight.specs.Flight.{at_rest, flight_at}

get_drop : (l : List Own) (k : ℕ) (o : Own) → get_elem? (drop 1 l) k ≡ some o → get_elem? l (suc k) ≡ some o
get_drop [] k o e = absurd (some-ne-none o (sym e))
get_drop (x ∷ xs) k o e = e

get_take : (l : List Own) (k : ℕ) (o : Own) → get_elem? (take 1 l) k ≡ some o → get_elem? l k ≡ some o
get_take [] k o e = absurd (some-ne-none o (sym e))
get_take (x ∷ xs) zero o e = e
get_take (x ∷ xs) (suc k) o e = absurd (some-ne-none o (sym e))

times_cut : (t : ℕ) (l : List Own) → times t (drop 1 l) + times t (take 1 l) ≡ times t l
times_cut t [] = omega arith
times_cut t (x ∷ xs) = omega arith

length_cut : (l : List Own) → length (drop 1 l) + length (take 1 l) ≡ length l
length_cut [] = omega arith
length_cut (x ∷ xs) = omega arith

times_append : (t : ℕ) (l m : List Own) → times t (l ++ m) ≡ times t l + times t m
times_append t [] m = omega arith
times_append t (x ∷ xs) m = let r = times_append t xs m in omega arith

-- what stands in l ++ m stands in l or in m
pub get_append : (l m : List Own) (k : ℕ) (o : Own) → get_elem? (l ++ m) k ≡ some o → (get_elem? l k ≡ some o) ⊎ ((j : ℕ) × (get_elem? m j ≡ some o))
get_append [] m k o e = inr (k, e)
get_append (x ∷ xs) m zero o e = inl e
get_append (x ∷ xs) m (suc k) o e = get_append xs m k o e

pub get_left : (l m : List Own) (k : ℕ) (o : Own) → get_elem? l k ≡ some o → get_elem? (l ++ m) k ≡ some o
get_left [] m k o e = absurd (some-ne-none o (sym e))
get_left (x ∷ xs) m zero o e = e
get_left (x ∷ xs) m (suc k) o e = get_left xs m k o e

pub first-some : (own : List Own) (thread : ℕ) → first_thread own ≡ thread → 1 ≤ thread → 1 ≤ length own
first-some [] thread e h = absurd (omega arith)
first-some (o ∷ own) thread e h = omega arith

pub first-append : (own more : List Own) → 1 ≤ length own → first_thread (own ++ more) ≡ first_thread own
first-append [] more h = absurd (omega arith)
first-append (o ∷ own) more h = refl

pub first-take : (own : List Own) → first_thread (take 1 own) ≡ first_thread own
first-take [] = refl
first-take (o ∷ own) = refl

fresh_at : (k n j : ℕ) (o : Own) → get_elem? (fresh k n) j ≡ some o → (o ≡ newcomer (k + j)) × (j < n)
fresh_at k zero j o e = absurd (some-ne-none o (sym e))
fresh_at k (suc n) zero o e = let z : k ≡ k + 0 = omega arith in (sym (some-injective _ o e) ∙ ap newcomer z, omega arith)
fresh_at k (suc n) (suc j) o e = let r = fresh_at (suc k) n j o e in let z : suc k + j ≡ k + suc j = omega arith in (r.0 ∙ ap newcomer z, (let l = r.1 in omega arith))

miss : (b : Bool) → b ≡ false → if◌then◌else◌ {A = ℕ} b 1 0 ≡ 0
miss b e = ap (λ (c : Bool). if◌then◌else◌ {A = ℕ} c 1 0) e

fresh_low : (t k n : ℕ) → t < k → times t (fresh k n) ≡ 0
fresh_low t k zero h = refl
fresh_low t k (suc n) h = let r = fresh_low t (suc k) n (omega arith) in omega (arith, miss (k == t) (ne_eqb k t (λ e. omega arith)))

hit : (b : Bool) → b ≡ true → if◌then◌else◌ {A = ℕ} b 1 0 ≡ 1
hit b e = ap (λ (c : Bool). if◌then◌else◌ {A = ℕ} c 1 0) e

fresh_once : (t k n : ℕ) → k ≤ t → t < k + n → times t (fresh k n) ≡ 1
fresh_once t k zero from to = absurd (omega arith)
fresh_once t k (suc n) from to = dite (ℕ_discrete k t)
    (λ same. let r = fresh_low t (suc k) n (omega arith) in omega (arith, hit (k == t) (eq-eqb k t same)))
    (λ apart. let r = fresh_once t (suc k) n (omega arith) (omega arith) in omega (arith, miss (k == t) (ne_eqb k t apart)))

fresh_length : (k n : ℕ) → length (fresh k n) ≡ n
fresh_length k zero = refl
fresh_length k (suc n) = let r = fresh_length (suc k) n in omega arith

-- threads at rest, in order
abbrev rests_from : ℕ → ℕ → List Flight
rests_from k zero = []
rests_from k (suc n) = at_rest k ∷ rests_from (suc k) n

rests_long : (k n : ℕ) → length (rests_from k n) ≡ n
rests_long k zero = refl
rests_long k (suc n) = let r = rests_long (suc k) n in omega arith

rests_at : (k n i : ℕ) → i < n → flight_at (rests_from k n) i ≡ at_rest (k + i)
rests_at k zero i li = absurd (omega arith)
rests_at k (suc n) zero li = let z : k ≡ k + 0 = omega arith in ap at_rest z
rests_at k (suc n) (suc i) li = let z : suc k + i ≡ k + suc i = omega arith in rests_at (suc k) n i (omega arith) ∙ ap at_rest z

module _ (m : Areas) where
  abbrev start : Underway
  start = record { flights = rests_from 1 m.threads; lasting = λ t. []; logged = λ t. 0 }

  start_at : (t : ℕ) → HasThread m t → flight_at (rests_from 1 m.threads) (t - 1) ≡ at_rest t
  start_at t ht = let back : 1 + (t - 1) ≡ t = omega (arith, ht.0) in rests_at 1 m.threads (t - 1) (omega (arith, ht.0, ht.1)) ∙ ap at_rest back

  pub begins : IsAreas m → (words : List ℕ) → length words ≡ total_of m → slice_index words 0 ≡ 0 → (contents m words).buffers ≡ replicate m.threads [] → StandsRecorded m (contents m words) (opening_spaces standard_limits m.threads) → OneHistory m (opening words [] (first_view m))
  begins areas words long zero_gate empty stands =
      let many = fresh_length 1 m.threads in
      record {
        history = [];
        underway = start;
        areas = areas;
        wide = long;
        all_given = omega arith;
        counted = record { count = omega arith; one = omega arith; alone = λ h. absurd (omega arith) };
        once = λ t thread. let r = fresh_once t 1 m.threads thread.0 (let p = thread.1 in omega arith) in omega arith;
        by_thread = by;
        fits = one;
        open_ = λ _. subst (λ z. StandsOpen m z [] start) (sym hidden_same)
            (stand_open m words [] start areas long by (all_rest m (rests_from 1 m.threads) by start_at) (λ t ht. refl)
            (λ t ht. let none : buffer_of (contents m words) t ≡ [] = ap (λ (bs : List (List ℕ)). get_or bs (t - 1) []) empty ∙ get_or-replicate m.threads (t - 1) [] [] (omega (arith, ht.0, ht.1)) in omega (arith, ap (λ (l : List ℕ). length l) none))
            (explains_opening m (contents m words) stands));
      }
    where
      hidden_same : hidden words ≡ words
      hidden_same = ap (λ z. set words 0 z) (sym zero_gate) ∙ set-get_or words 0 0

      by : AreByThread m (rests_from 1 m.threads)
      by = record { count = rests_long 1 m.threads; threads = λ t ht. ap (λ (f : Flight). f.thread) (start_at t ht) }

      first : Fits m (hidden words) [] start (first_view m)
      first = record {
        map_is = λ _. refl;
        single = omega arith;
        mine = λ j o e. let r = fresh_at 1 m.threads j o e in let below = r.1 in subst (Mine m []) (sym r.0)
            record {
              thread = (omega arith, omega arith);
              calls = refl;
              has = λ s leaves. ap (λ (x : SpaceState). thread_of x.graph (1 + j)) leaves ∙ get_or-replicate m.threads (1 + j - 1) (thread_told (newcomer (1 + j))) idle (omega arith);
              knows = private_first standard_limits m.threads (1 + j);
              goes_on = ([], refl);
            };
        calls = λ j o e. let r = fresh_at 1 m.threads j o e in let below = r.1 in subst (IsUnderway m start []) (sym r.0)
            record {
              flight_is = start_at (1 + j) (omega arith, omega arith);
              lasting_is = refl;
              few = omega arith;
              differs = rest_differs m (newcomer (1 + j)) [] refl;
            };
        rests = λ _. ((λ j o e. let r = fresh_at 1 m.threads j o e in subst (λ (x : Own). x.flight ≡ at_rest x.thread) (sym r.0) refl), refl);
        knows = λ c. absurd (omega arith);
      }

      one : (j : ℕ) (v : View) → get_elem? (first_view m ∷ []) j ≡ some v → Fits m (hidden words) [] start v
      one zero v e = subst (Fits m (hidden words) [] start) (some-injective _ v e) first
      one (suc j) v e = absurd (some-ne-none v (sym e))

  pub splits_keeps : (id : ℕ) (v : View) → v.place ≡ Away → Splits (OneHistory m) id v (of_others v) (of_first v)
  splits_keeps id v away s k at =
      let l = of_others v in
      let r = of_first v in
      let vs = set s.views id l in
      let f = k.fits id v at in
      let p : present v ≡ 0 = ap present_at away in
      let a : asking v ≡ 0 = ap asking_at away in
      let i : inner v ≡ 0 = ap inner_at away in
      let c : closed v ≡ 0 = ap closed_at away in
      let P = total_set present s.views id v l at in
      let A = total_set asking s.views id v l at in
      let I = total_set inner s.views id v l at in
      let C = total_set closed s.views id v l at in
      let N = total_set numbers s.views id v l at in
      let P' = total_snoc present vs r in
      let A' = total_snoc asking vs r in
      let I' = total_snoc inner vs r in
      let C' = total_snoc closed vs r in
      let N' = total_snoc numbers vs r in
      let cut = length_cut v.own in
      let count = k.counted.count in
      let one = k.counted.one in
      let alone = k.counted.alone in
      let given = k.all_given in
      let quiet = f.rests (ap moving_at away) in
      let calls : (j : ℕ) (o : Own) → get_elem? v.own j ≡ some o → IsUnderway m k.underway [] o = λ j o e. subst (λ (z : List Known). IsUnderway m k.underway z o) quiet.1 (f.calls j o e) in
      let left : Fits m (hidden s.words) k.history k.underway l = record { map_is = λ h. f.map_is (omega arith); calls = λ j o e. calls (suc j) o (get_drop v.own j o e); rests = λ _. ((λ j o e. quiet.0 (suc j) o (get_drop v.own j o e)), refl); single = omega arith; mine = λ j o e. f.mine (suc j) o (get_drop v.own j o e); knows = λ e. absurd (omega arith) } in
      let right : Fits m (hidden s.words) k.history k.underway r = record { map_is = λ h. f.map_is (omega arith); calls = λ j o e. calls j o (get_take v.own j o e); rests = λ _. ((λ j o e. quiet.0 j o (get_take v.own j o e)), refl); single = omega arith; mine = λ j o e. f.mine j o (get_take v.own j o e); knows = λ e. absurd (omega arith) } in
      let after : (j : ℕ) (u : View) → get_elem? (vs ++ r ∷ []) j ≡ some u → Fits m (hidden s.words) k.history k.underway u =
      λ j u e. ⊎_elim (fits_set m (Fits m (hidden s.words) k.history k.underway) s.views id l left (λ j' u' _ e'. k.fits j' u' e') j u) (λ (same : r ≡ u). subst (Fits m (hidden s.words) k.history k.underway) same right) (at_snoc vs r u j e) in
      record {
        history = k.history;
        underway = k.underway;
        by_thread = k.by_thread;
        areas = k.areas;
        wide = k.wide;
        all_given = omega arith;
        counted = record { count = omega arith; one = omega arith; alone = λ h. let z = alone (omega arith) in omega arith };
        once = λ t thread. let x = k.once t thread in let y = total_set (stands_for t) s.views id v l at in let z = total_snoc (stands_for t) vs r in let q = times_cut t v.own in omega arith;
        fits = after;
        open_ = λ z. k.open_ (omega arith);
      }

  pub joins_keeps : (id other : ℕ) (v w : View) → v.place ≡ Away → w.place ≡ Away → 1 ≤ length v.own → Joins (OneHistory m) id v other w (of_both v w) of_none
  joins_keeps id other v w away away' some_own s k at apart there =
      let b = of_both v w in
      let vs = set s.views id b in
      let was : get_elem? s.views other ≡ some w = sym (set_else s.views id other b apart) ∙ there in
      let f = k.fits id v at in
      let g = k.fits other w was in
      let p : present v ≡ 0 = ap present_at away in
      let a : asking v ≡ 0 = ap asking_at away in
      let i : inner v ≡ 0 = ap inner_at away in
      let c : closed v ≡ 0 = ap closed_at away in
      let p' : present w ≡ 0 = ap present_at away' in
      let a' : asking w ≡ 0 = ap asking_at away' in
      let i' : inner w ≡ 0 = ap inner_at away' in
      let c' : closed w ≡ 0 = ap closed_at away' in
      let P = total_set present s.views id v b at in
      let A = total_set asking s.views id v b at in
      let I = total_set inner s.views id v b at in
      let C = total_set closed s.views id v b at in
      let N = total_set numbers s.views id v b at in
      let P' = total_set present vs other w of_none there in
      let A' = total_set asking vs other w of_none there in
      let I' = total_set inner vs other w of_none there in
      let C' = total_set closed vs other w of_none there in
      let N' = total_set numbers vs other w of_none there in
      let long = length-append v.own w.own in
      let count = k.counted.count in
      let one = k.counted.one in
      let alone = k.counted.alone in
      let given = k.all_given in
      let quiet = f.rests (ap moving_at away) in
      let quiet' = g.rests (ap moving_at away') in
      let both : Fits m (hidden s.words) k.history k.underway b = record {
        map_is = λ h. f.map_is some_own;
        single = omega arith;
        mine = λ j o e. ⊎_elim (f.mine j o) (λ (x : (j' : ℕ) × (get_elem? w.own j' ≡ some o)). g.mine x.0 o x.1) (get_append v.own w.own j o e);
        calls = λ j o e. ⊎_elim (λ (x : get_elem? v.own j ≡ some o). subst (λ (z : List Known). IsUnderway m k.underway z o) quiet.1 (f.calls j o x)) (λ (x : (j' : ℕ) × (get_elem? w.own j' ≡ some o)). subst (λ (z : List Known). IsUnderway m k.underway z o) quiet'.1 (g.calls x.0 o x.1)) (get_append v.own w.own j o e);
        rests = λ _. ((λ j o e. ⊎_elim (quiet.0 j o) (λ (x : (j' : ℕ) × (get_elem? w.own j' ≡ some o)). quiet'.0 x.0 o x.1) (get_append v.own w.own j o e)), refl);
        knows = λ e. absurd (omega arith);
      } in
      let spent : Fits m (hidden s.words) k.history k.underway of_none = record { map_is = λ h. absurd (omega arith); calls = λ j o e. absurd (some-ne-none o (sym e)); rests = λ _. ((λ j o e. absurd (some-ne-none o (sym e))), refl); single = omega arith; mine = λ j o e. absurd (some-ne-none o (sym e)); knows = λ e. absurd (omega arith) } in
      let after : (j : ℕ) (u : View) → get_elem? (set vs other of_none) j ≡ some u → Fits m (hidden s.words) k.history k.underway u =
      fits_set m (Fits m (hidden s.words) k.history k.underway) vs other of_none spent (λ j u _ e. fits_set m (Fits m (hidden s.words) k.history k.underway) s.views id b both (λ j' u' _ e'. k.fits j' u' e') j u e) in
      record {
        history = k.history;
        underway = k.underway;
        by_thread = k.by_thread;
        areas = k.areas;
        wide = k.wide;
        all_given = omega arith;
        counted = record { count = omega arith; one = omega arith; alone = λ h. let z = alone (omega arith) in omega arith };
        once = λ t thread. let x = k.once t thread in let y = total_set (stands_for t) s.views id v b at in let z = total_set (stands_for t) vs other w of_none there in let q = times_append t v.own w.own in omega arith;
        fits = after;
        open_ = λ z. k.open_ (omega arith);
      }

  -- where a seat that is away stands for all threads, no other seat is present
  pub settles : (s : St) (k : OneHistory m s) (id : ℕ) (v : View) → get_elem? s.views id ≡ some v → v.place ≡ Away → length v.own ≡ m.threads → total present s.views ≤ 0
  settles s k id v at away all =
      let p : present v ≡ 0 = ap present_at away in
      let given = k.all_given in
      none_there present s.views (λ j u e. dite (ℕ_discrete j id)
      (λ same. let is : u ≡ v = some-injective u v (sym e ∙ (ap (λ z. get_elem? s.views z) same ∙ at)) in let d : present u ≡ present v = ap present is in omega arith)
      (λ other. let two = total_two numbers s.views id j v u (λ z. other (sym z)) at e in let single = (k.fits j u e).single in omega arith))
    where
      none_there : (f : View → ℕ) (views : List View) → ((j : ℕ) (u : View) → get_elem? views j ≡ some u → f u ≤ 0) → total f views ≤ 0
      none_there f [] h = omega arith
      none_there f (x ∷ xs) h = let a = h 0 x refl in let r = none_there f xs (λ j u e. h (suc j) u e) in omega arith

  pub seals_keeps : (slots id : ℕ) (me : Sat) → me.0.place ≡ Away → length me.0.own ≡ m.threads → Allows (OneHistory m) slots id me 0 (λ _. 4294967297) (λ _. seals (step slots 0 4294967297 0 none) me 4294967297)
  seals_keeps slots id me away all s k _ at _ =
      let v = me.0 in
      let f = k.fits id v at in
      let w = at_gate v (hidden s.words) k.history in
      let none = settles s k id v at away all in
      let b = bounds m s k in
      let asking_none = total_below asking present s.views (λ j u e. asks-present u.place) in
      let p : present v ≡ 0 = ap present_at away in
      let a : asking v ≡ 0 = ap asking_at away in
      let i : inner v ≡ 0 = ap inner_at away in
      let c : closed v ≡ 0 = ap closed_at away in
      let some_thread : 1 ≤ m.threads = k.areas.2 in
      let wide : 1 ≤ length s.words = subst (λ z. 1 ≤ z) (sym k.wide) (some_words m) in
      let P = total_set present s.views id v w at in
      let A = total_set asking s.views id v w at in
      let I = total_set inner s.views id v w at in
      let quiet : (j : ℕ) (u : View) → get_elem? s.views j ≡ some u → moving u ≡ 0 = λ j u there. let one = total_at present s.views j u there in let below : moving u ≤ present u = moving-present u.place in omega arith in
      let known = explained m s k (omega arith) quiet in
      let settled : moving v ≡ 0 = ap moving_at away in (
        w,
        keeps,
        tt,
        closes m s k id v me.1 4294967297 at settled (omega (arith, all)) known
            record { count = omega arith; one = omega arith; alone = λ _. omega arith },
        ((refl, refl), closing_known m s k id v at (omega (arith, all)) settled known),
      )
