-- The single steps of a thread that is inside keep the rule.
use Rattle.std.proofs.Common.{◌≡◌, ℕ, ◌+◌, ◌-◌, ◌%◌, ◌^◌, ◌≤◌, List, [], ◌∷◌, ◌++◌, length, get_or, set, bit_or, Option, Some, None, false, refl, sym, ap, ◌∙◌, subst, arith}
use Rattle.std.proofs.lemmas.List.{set-get_or}
use mathlib.Core.Option.{none}
use Rattle.atomic_table.specs.Table.{Act, Allows, Valid, carried_after, keeps, step, stepped}
use Rattle.object_layout.specs.declared.calls.Event.{Event}
use Rattle.object_layout.specs.declared.calls.Call.{Call}
use Rattle.object_layout.specs.declared.replies.Reply.{Reply}
use Rattle.object_layout.specs.declared.replies.Reply.TheVariants as reply
use Rattle.object_layout.specs.declared.TheConstants.{OBJECT_WORDS}
use Rattle.heap_words.specs.declared.map.Areas.{Areas}
use Rattle.heap_words.specs.Map.{heap_at, readers_at}
use Rattle.region_pages.specs.declared.TheConstants.{CLAIM_COUNTER}
use Rattle.calls_in_flight.specs.declared.notes.Flight.{Flight}
use Rattle.calls_in_flight.specs.declared.notes.Known.{Known}
use Rattle.calls_in_flight.specs.Actors.{Actor, MayMeet, MayTell, learn}
use Rattle.calls_in_flight.specs.Differing.{DiffersOnly}
use Rattle.calls_in_flight.specs.FieldSteps.{LoadsFrom, MayLoadPool, MayRead, MayStoreField}
use Rattle.calls_in_flight.specs.Flight.{at_rest}
use Rattle.calls_in_flight.specs.OwnStores.{MayStore, above_stack, begins, behind_buffer, counts, done_by, enters, in_object, logs, makes, marks, pops, pushes, settles, turns}
use Rattle.calls_in_flight.proofs.ViewEvents.{stores_event}
use Rattle.calls_in_flight.proofs.ViewFields as Fields
use Rattle.calls_in_flight.proofs.ViewMeets as Met
use Rattle.calls_in_flight.proofs.ViewPool.{claims_pool, differs-same, loads_pool, sets_reader}
use Rattle.calls_in_flight.proofs.ViewStores as Stored
use Rattle.calls_in_flight.proofs.ViewTells as Told
use Rattle.safepoint_gate.specs.declared.rule.Own.{Own}
use Rattle.safepoint_gate.specs.declared.rule.Place.TheVariants.{Inside}
use Rattle.safepoint_gate.specs.declared.rule.View.{View}
use Rattle.safepoint_gate.specs.Rule.{OneHistory, actor_of, hidden}
use Rattle.safepoint_gate.specs.Singles as play
use Rattle.safepoint_gate.specs.Singles.{actor}
use Rattle.safepoint_gate.proofs.Keeps.{St}
use Rattle.safepoint_gate.proofs.Singly.{acting, after_step, call, few_after, flying, hides, in_lone, in_plain, kept_after, left_by, lone, mine_flying, plain, so_after, stands, stands_after, still_differs, still_keeps, still_leaves, teller, told_keeps, told_says, told_shows, unmoved, word_there}

-- an answer at a number that was found
abbrev Found : (m : Areas) (s : St) (id i n : ℕ) (cs : List (ℕ × Unit {0})) → ((w : View) → List (ℕ × Unit {0}) → Type 0) → Type 0
Found m s id i n cs then = (w : View) × (a : Act (Unit {0})) × Valid s.homes cs a × OneHistory m (stepped s i n id cs w a) × then w (carried_after cs a)

module _ (m : Areas) where
  -- ---- loads of words that last

  meets_plain : (slots id i : ℕ) (o : Own) (z : View) (cs : List (ℕ × Unit {0})) → MayMeet m (actor_of o z.lasting) i → Allows (OneHistory m) slots id (plain m o z, cs) i (λ n. n) (play.meets (step slots i 0 0 none) (plain m o z, cs))
  meets_plain slots id i o z cs may s k _ at _ =
      let h = stands m o z s k id at in
      let a : Actor = actor_of o z.lasting in
      let ws : List ℕ = hidden s.words in
      let fs : List Flight = k.underway.flights in
      let law = Met.meets m ws fs h.state h.stands a (acting m o z s k id at) i may in
      let word : ℕ = get_or ws i 0 in
      let lasting : List Known = learn i word z.lasting in
      let loads : List Known = o.loads ++ record { place = i; word = word } ∷ [] in
      let p : Own = flying o o.flight loads o.put in
      let l = unmoved m o z s k id at o.flight lasting (call m o z s k id at).flight_is law.knows in
      let differs : DiffersOnly m (actor_of p lasting) = differs-same m a o.flight lasting (call m o z s k id at).differs refl (λ q x. x) in
      subst (λ n. Found m s id i (get_or s.words i 0) cs (λ w rest. play.meets (step slots i 0 0 none) (plain m o z, cs) n (w, rest))) (word_there s.words i law.is_place.0) (
        after_step m z p lasting,
        keeps,
        tt,
        kept_after m o z s k id at i (get_or s.words i 0) cs law.is_place.0 ws (ap hidden (set-get_or s.words i 0)) fs h.state h.stands p 0 lasting k.history refl (omega arith) l differs (λ q apart x. x) (mine_flying m o z s k id at o.flight loads o.put)
            (stands_after m o z s k id at ws fs h.state h.stands o.flight 0 lasting k.history h.lawful h.leaves h.packed l),
        (
          (
            refl,
            record {
              again = law.again;
              so = so_after m o z s k id at ws fs h.state h.stands o.flight loads o.put 0 lasting h.leaves l differs;
              few = few_after m o z s k id at ws fs h.state h.stands o.flight loads o.put 0 lasting h.leaves l differs (omega arith);
            },
          ),
          refl,
        ),
      )

  pub meets_keeps : (slots id i : ℕ) (v : View) (cs : List (ℕ × Unit {0})) → v.map ≡ m → v.place ≡ Inside → length v.own ≡ 1 → MayMeet v.map (actor v) i → Allows (OneHistory m) slots id (v, cs) i (λ n. n) (play.meets (step slots i 0 0 none) (v, cs))
  meets_keeps slots id i v cs map inside single = in_plain m v map inside single (λ x. MayMeet x.map (actor x) i → Allows (OneHistory m) slots id (x, cs) i (λ n. n) (play.meets (step slots i 0 0 none) (x, cs))) (λ o. meets_plain slots id i o v cs)

  meets_with_plain : (slots id i : ℕ) (o : Own) (z : View) (cs : List (ℕ × Unit {0})) (asked : Call) (said : Reply) → MayMeet m (actor_of o z.lasting) i → MayTell m (actor_of o z.lasting) (record { call = asked; reply = said; collected = false })
      → Allows (OneHistory m) slots id (plain m o z, cs) i (λ n. n) (play.meets_with (record { call = asked; reply = said; collected = false }) (step slots i 0 0 none) (plain m o z, cs))
  meets_with_plain slots id i o z cs asked said may tell s k _ at _ =
      let h = stands m o z s k id at in
      let a : Actor = actor_of o z.lasting in
      let event : Event = record { call = asked; reply = said; collected = false } in
      let ws : List ℕ = hidden s.words in
      let fs : List Flight = k.underway.flights in
      let law = Met.meets m ws fs h.state h.stands a (acting m o z s k id at) i may in
      let moves = Told.tells m ws fs h.state h.stands a (acting m o z s k id at) event tell in
      let loads : List Known = o.loads ++ record { place = i; word = get_or ws i 0 } ∷ [] in
      let p : Own = teller m o z s k id at ws fs asked said (at_rest o.thread) [] loads moves in
      subst (λ n. Found m s id i (get_or s.words i 0) cs (λ w rest. play.meets_with event (step slots i 0 0 none) (plain m o z, cs) n (w, rest))) (word_there s.words i law.is_place.0) (
        after_step m z p [],
        keeps,
        tt,
        told_keeps m o z s k id at i (get_or s.words i 0) cs law.is_place.0 ws (ap hidden (set-get_or s.words i 0)) fs asked said (at_rest o.thread) [] loads moves,
        ((told_says m o z s k id at ws fs asked said (at_rest o.thread) [] loads moves, law.again), refl),
      )

  pub meets_with_keeps : (slots id i : ℕ) (v : View) (cs : List (ℕ × Unit {0})) (event : Event) → v.map ≡ m → v.place ≡ Inside → length v.own ≡ 1 → MayMeet v.map (actor v) i → MayTell v.map (actor v) event
      → Allows (OneHistory m) slots id (v, cs) i (λ n. n) (play.meets_with event (step slots i 0 0 none) (v, cs))
  meets_with_keeps slots id i v cs event map inside single may tell =
      in_lone event tell.alone (λ e. MayTell v.map (actor v) e → Allows (OneHistory m) slots id (v, cs) i (λ n. n) (play.meets_with e (step slots i 0 0 none) (v, cs)))
      (in_plain m v map inside single (λ x. MayMeet x.map (actor x) i → MayTell x.map (actor x) (lone event) → Allows (OneHistory m) slots id (x, cs) i (λ n. n) (play.meets_with (lone event) (step slots i 0 0 none) (x, cs)))
      (λ o. meets_with_plain slots id i o v cs event.call event.reply) may) tell

  -- ---- stores of own words

  puts_plain : (slots id i n : ℕ) (o : Own) (z : View) (cs : List (ℕ × Unit {0})) → MayStore m (actor_of o z.lasting) i n None → Allows (OneHistory m) slots id (plain m o z, cs) i (λ _. n) (λ _. play.puts (step slots i n 0 none) (plain m o z, cs) n)
  puts_plain slots id i n o z cs may s k _ at _ =
      let h = stands m o z s k id at in
      let a : Actor = actor_of o z.lasting in
      let ws : List ℕ = hidden s.words in
      let law = Stored.stores m ws k.underway.flights h.state h.stands a (acting m o z s k id at) i n may in
      let from = law.is_place.0 in
      let count : ℕ = o.put + law.put in (
        after_step m z (flying o law.flight o.loads count) (learn i n z.lasting),
        keeps,
        tt,
        still_keeps m o z s k id at i n cs from (set ws i n) (hides s.words i n from) law.others law.flight o.loads count law.put (learn i n z.lasting) (omega arith) law.moves,
        (
          record {
            flight = law.flight;
            put = count;
            view = refl;
            flies = law.flies;
            one_more = λ e. omega (arith, law.one_more e);
            no_more = λ ne. omega (arith, law.no_more ne);
          },
          refl,
        ),
      )

  pub puts_keeps : (slots id i n : ℕ) (v : View) (cs : List (ℕ × Unit {0})) → v.map ≡ m → v.place ≡ Inside → length v.own ≡ 1 → MayStore v.map (actor v) i n None → Allows (OneHistory m) slots id (v, cs) i (λ _. n) (λ _. play.puts (step slots i n 0 none) (v, cs) n)
  puts_keeps slots id i n v cs map inside single = in_plain m v map inside single (λ x. MayStore x.map (actor x) i n None → Allows (OneHistory m) slots id (x, cs) i (λ _. n) (λ _. play.puts (step slots i n 0 none) (x, cs) n)) (λ o. puts_plain slots id i n o v cs)

  -- ---- the pool

  loads_pool_plain : (slots id i : ℕ) (o : Own) (z : View) (cs : List (ℕ × Unit {0})) → MayLoadPool m i → Allows (OneHistory m) slots id (plain m o z, cs) i (λ n. n) (play.loads_pool (step slots i 0 0 none) (plain m o z, cs))
  loads_pool_plain slots id i o z cs may s k _ at _ =
      let h = stands m o z s k id at in
      let a : Actor = actor_of o z.lasting in
      let ws : List ℕ = hidden s.words in
      let law = loads_pool m ws k.underway.flights h.state h.stands a i (acting m o z s k id at) may in
      let loads : List Known = o.loads ++ record { place = i; word = get_or ws i 0 } ∷ [] in
      let l = left_by m o z s k id at ws law.others law.flight [] 0 law.lasting law.moves in
      let leaves = still_leaves m o z s k id at ws law.others law.flight 0 law.lasting law.moves in
      let differs = still_differs m o z s k id at ws law.others law.flight loads o.put 0 law.lasting law.moves in
      subst (λ n. Found m s id i (get_or s.words i 0) cs (λ w rest. play.loads_pool (step slots i 0 0 none) (plain m o z, cs) n (w, rest))) (word_there s.words i law.is_place.0) (
        after_step m z (flying o law.flight loads o.put) law.lasting,
        keeps,
        tt,
        still_keeps m o z s k id at i (get_or s.words i 0) cs law.is_place.0 ws (ap hidden (set-get_or s.words i 0)) law.others law.flight loads o.put 0 law.lasting (omega arith) law.moves,
        (
          record {
            flight = law.flight;
            lasting = law.lasting;
            view = refl;
            pool = law.pool;
            meets = record {
              again = law.again;
              so = so_after m o z s k id at ws law.others law.moves.stepped.after law.moves.stepped.later law.flight loads o.put 0 law.lasting leaves l differs;
              few = few_after m o z s k id at ws law.others law.moves.stepped.after law.moves.stepped.later law.flight loads o.put 0 law.lasting leaves l differs (omega arith);
            };
          },
          refl,
        ),
      )

  pub loads_pool_keeps : (slots id i : ℕ) (v : View) (cs : List (ℕ × Unit {0})) → v.map ≡ m → v.place ≡ Inside → length v.own ≡ 1 → MayLoadPool v.map i → Allows (OneHistory m) slots id (v, cs) i (λ n. n) (play.loads_pool (step slots i 0 0 none) (v, cs))
  loads_pool_keeps slots id i v cs map inside single = in_plain m v map inside single (λ x. MayLoadPool x.map i → Allows (OneHistory m) slots id (x, cs) i (λ n. n) (play.loads_pool (step slots i 0 0 none) (x, cs))) (λ o. loads_pool_plain slots id i o v cs)

  claims_plain : (slots id : ℕ) (o : Own) (z : View) (cs : List (ℕ × Unit {0})) → o.flight.claims ≡ 1 → Allows (OneHistory m) slots id (plain m o z, cs) CLAIM_COUNTER (λ n. (n + 1) % 2 ^ 64) (play.claims (step slots CLAIM_COUNTER 1 0 none) (plain m o z, cs))
  claims_plain slots id o z cs found s k _ at _ =
      let h = stands m o z s k id at in
      let a : Actor = actor_of o z.lasting in
      let ws : List ℕ = hidden s.words in
      let from : 1 ≤ CLAIM_COUNTER = omega arith in
      let law = claims_pool m ws k.underway.flights h.state h.stands a (acting m o z s k id at) found in
      let was : ℕ = get_or ws CLAIM_COUNTER 0 in
      let next : ℕ = (get_or s.words CLAIM_COUNTER 0 + 1) % 2 ^ 64 in
      let is_next : next ≡ was + 1 = omega (arith, law.small, word_there s.words CLAIM_COUNTER from) in
      let loads : List Known = o.loads ++ record { place = CLAIM_COUNTER; word = was } ∷ [] in
      subst (λ n. Found m s id CLAIM_COUNTER next cs (λ w rest. play.claims (step slots CLAIM_COUNTER 1 0 none) (plain m o z, cs) n (w, rest))) (word_there s.words CLAIM_COUNTER from) (
        after_step m z (flying o law.flight loads o.put) law.lasting,
        keeps,
        tt,
        still_keeps m o z s k id at CLAIM_COUNTER next cs from (set ws CLAIM_COUNTER (was + 1)) (hides s.words CLAIM_COUNTER next from ∙ ap (set ws CLAIM_COUNTER) is_next) law.others law.flight loads o.put 0 law.lasting (omega arith) law.moves,
        (record { flight = law.flight; lasting = law.lasting; view = refl; claims = law.claims }, refl),
      )

  pub claims_keeps : (slots id : ℕ) (v : View) (cs : List (ℕ × Unit {0})) → v.map ≡ m → v.place ≡ Inside → length v.own ≡ 1 → (actor v).flight.claims ≡ 1 → Allows (OneHistory m) slots id (v, cs) CLAIM_COUNTER (λ n. (n + 1) % 2 ^ 64) (play.claims (step slots CLAIM_COUNTER 1 0 none) (v, cs))
  claims_keeps slots id v cs map inside single = in_plain m v map inside single (λ x. (actor x).flight.claims ≡ 1 → Allows (OneHistory m) slots id (x, cs) CLAIM_COUNTER (λ n. (n + 1) % 2 ^ 64) (play.claims (step slots CLAIM_COUNTER 1 0 none) (x, cs))) (λ o. claims_plain slots id o v cs)

  -- ---- readers

  sets_reader_plain : (slots id i bits owner depth : ℕ) (o : Own) (z : View) (cs : List (ℕ × Unit {0})) → i ≡ readers_at m owner depth → bits ≡ 2 ^ (o.thread - 1) → MayRead m (actor_of o z.lasting) owner depth
      → Allows (OneHistory m) slots id (plain m o z, cs) i (λ n. bit_or n bits) (play.sets_reader (step slots i bits 0 none) (plain m o z, cs))
  sets_reader_plain slots id i bits owner depth o z cs place bit may s k _ at _ =
      let h = stands m o z s k id at in
      let a : Actor = actor_of o z.lasting in
      let ws : List ℕ = hidden s.words in
      let law = sets_reader m ws k.underway.flights h.state h.stands a owner depth (acting m o z s k id at) may in
      let r : ℕ = readers_at m owner depth in
      let from : 1 ≤ i = omega (arith, place, law.is_place.0) in
      let next : ℕ = bit_or (get_or s.words i 0) bits in
      let f : Flight = record o.flight { reading = None } in
      let same : hidden (set s.words i next) ≡ set ws r (bit_or (get_or ws r 0) (2 ^ (o.thread - 1))) =
      hides s.words i next from ∙ ap (λ x. set ws i (bit_or x bits)) (sym (word_there s.words i from)) ∙ (λ j. set ws (place j) (bit_or (get_or ws (place j) 0) (bit j))) in (
        after_step m z (flying o f o.loads o.put) z.lasting,
        keeps,
        tt,
        still_keeps m o z s k id at i next cs from (set ws r (bit_or (get_or ws r 0) (2 ^ (o.thread - 1)))) same law.others f o.loads o.put 0 z.lasting (omega arith) law.moves,
        (refl, refl),
      )

  pub sets_reader_keeps : (slots id i bits owner depth : ℕ) (v : View) (cs : List (ℕ × Unit {0})) → v.map ≡ m → v.place ≡ Inside → length v.own ≡ 1 → i ≡ readers_at v.map owner depth → bits ≡ 2 ^ ((actor v).thread - 1) → MayRead v.map (actor v) owner depth
      → Allows (OneHistory m) slots id (v, cs) i (λ n. bit_or n bits) (play.sets_reader (step slots i bits 0 none) (v, cs))
  sets_reader_keeps slots id i bits owner depth v cs map inside single =
      in_plain m v map inside single (λ x. i ≡ readers_at x.map owner depth → bits ≡ 2 ^ ((actor x).thread - 1) → MayRead x.map (actor x) owner depth → Allows (OneHistory m) slots id (x, cs) i (λ n. bit_or n bits) (play.sets_reader (step slots i bits 0 none) (x, cs)))
      (λ o. sets_reader_plain slots id i bits owner depth o v cs)

  -- ---- stores of fields

  stores_field_plain : (slots id i n : ℕ) (o : Own) (z : View) (cs : List (ℕ × Unit {0})) (asked : Call) (object field : ℕ) → i ≡ heap_at m + (object + OBJECT_WORDS + field) → MayStoreField m (actor_of o z.lasting) asked object field n
      → Allows (OneHistory m) slots id (plain m o z, cs) i (λ _. n) (λ _. play.stores_field (done_by asked) (step slots i n 0 none) (plain m o z, cs) n)
  stores_field_plain slots id i n o z cs asked object field place may s k _ at _ =
      let h = stands m o z s k id at in
      let a : Actor = actor_of o z.lasting in
      let ws : List ℕ = hidden s.words in
      let fs : List Flight = k.underway.flights in
      let law = Fields.stores_value m ws fs h.state h.stands a (acting m o z s k id at) asked object field n may in
      let x : ℕ = heap_at m + (object + OBJECT_WORDS + field) in
      let from : 1 ≤ i = omega (arith, place, law.is_place.0) in
      let p : Own = teller m o z s k id at (set ws x n) fs asked reply.Ok (at_rest o.thread) [] o.loads law.moves in (
        after_step m z p [],
        keeps,
        tt,
        told_keeps m o z s k id at i n cs from (set ws x n) (hides s.words i n from ∙ ap (λ y. set ws y n) place) fs asked reply.Ok (at_rest o.thread) [] o.loads law.moves,
        (told_says m o z s k id at (set ws x n) fs asked reply.Ok (at_rest o.thread) [] o.loads law.moves, refl),
      )

  pub stores_field_keeps : (slots id i n : ℕ) (v : View) (cs : List (ℕ × Unit {0})) (event : Event) (asked : Call) (object field : ℕ) → event ≡ done_by asked → v.map ≡ m → v.place ≡ Inside → length v.own ≡ 1 → i ≡ heap_at v.map + (object + OBJECT_WORDS + field) → MayStoreField v.map (actor v) asked object field n
      → Allows (OneHistory m) slots id (v, cs) i (λ _. n) (λ _. play.stores_field event (step slots i n 0 none) (v, cs) n)
  stores_field_keeps slots id i n v cs event asked object field is map inside single place may =
      subst (λ e. Allows (OneHistory m) slots id (v, cs) i (λ _. n) (λ _. play.stores_field e (step slots i n 0 none) (v, cs) n)) (sym is)
      (in_plain m v map inside single (λ x. i ≡ heap_at x.map + (object + OBJECT_WORDS + field) → MayStoreField x.map (actor x) asked object field n → Allows (OneHistory m) slots id (x, cs) i (λ _. n) (λ _. play.stores_field (done_by asked) (step slots i n 0 none) (x, cs) n))
      (λ o. stores_field_plain slots id i n o v cs asked object field) place may)

  -- ---- stores of own words that tell an event

  puts_with_plain : (slots id i n : ℕ) (o : Own) (z : View) (cs : List (ℕ × Unit {0})) (asked : Call) (said : Reply) → MayStore m (actor_of o z.lasting) i n (Some (record { call = asked; reply = said; collected = false }))
      → Allows (OneHistory m) slots id (plain m o z, cs) i (λ _. n) (λ _. play.puts_with (record { call = asked; reply = said; collected = false }) (step slots i n 0 none) (plain m o z, cs) n)
  puts_with_plain slots id i n o z cs asked said may s k _ at _ =
      let h = stands m o z s k id at in
      let a : Actor = actor_of o z.lasting in
      let event : Event = record { call = asked; reply = said; collected = false } in
      let ws : List ℕ = hidden s.words in
      let law = stores_event m ws k.underway.flights h.state h.stands a (acting m o z s k id at) i n event may in
      let from = law.is_place.0 in
      let p : Own = teller m o z s k id at (set ws i n) law.others asked said (at_rest o.thread) [] o.loads law.moves in (
        after_step m z p [],
        keeps,
        tt,
        told_keeps m o z s k id at i n cs from (set ws i n) (hides s.words i n from) law.others asked said (at_rest o.thread) [] o.loads law.moves,
        (told_says m o z s k id at (set ws i n) law.others asked said (at_rest o.thread) [] o.loads law.moves, refl),
      )

  -- such an event tells of no collection
  abbrev Alone : Option Event → Type 0
  Alone None = Unit {0}
  Alone (Some event) = event.collected ≡ false

  store_alone : (a : Actor) (i n : ℕ) (event : Option Event) → MayStore m a i n event → Alone event
  store_alone a _ _ _ (above_stack k word from room bare) = tt
  store_alone a _ _ _ (behind_buffer e word shows room bare) = tt
  store_alone a _ _ _ (in_object p j word lj bare) = tt
  store_alone a _ _ _ (marks p bare) = tt
  store_alone a _ _ _ (counts p bare) = tt
  store_alone a _ _ _ (enters p claimed bare) = tt
  store_alone a _ _ _ (turns p claimed bare) = tt
  store_alone a _ _ _ (settles c rest covers from to) = tt
  store_alone a _ _ _ (logs e c asked at field word shows room only place stood stores crossing) = tt
  store_alone a _ _ _ (pushes asked c push room only place) = refl
  store_alone a _ _ _ (pops e count rests) = refl
  store_alone a _ _ _ (makes p made) = refl
  store_alone a _ _ _ (begins deep rests) = refl

  pub puts_with_keeps : (slots id i n : ℕ) (v : View) (cs : List (ℕ × Unit {0})) (event : Event) → v.map ≡ m → v.place ≡ Inside → length v.own ≡ 1 → MayStore v.map (actor v) i n (Some event)
      → Allows (OneHistory m) slots id (v, cs) i (λ _. n) (λ _. play.puts_with event (step slots i n 0 none) (v, cs) n)
  puts_with_keeps slots id i n v cs event map inside single =
      in_plain m v map inside single (λ x. MayStore x.map (actor x) i n (Some event) → Allows (OneHistory m) slots id (x, cs) i (λ _. n) (λ _. play.puts_with event (step slots i n 0 none) (x, cs) n))
      (λ o may. in_lone event (store_alone (actor_of o v.lasting) i n (Some event) may) (λ e. MayStore m (actor_of o v.lasting) i n (Some e) → Allows (OneHistory m) slots id (plain m o v, cs) i (λ _. n) (λ _. play.puts_with e (step slots i n 0 none) (plain m o v, cs) n))
      (puts_with_plain slots id i n o v cs event.call event.reply) may)

  -- ---- loads of fields

  loads_field_plain : (slots id i : ℕ) (o : Own) (z : View) (cs : List (ℕ × Unit {0})) (asked : Call) (object field : ℕ) → i ≡ heap_at m + (object + OBJECT_WORDS + field) → LoadsFrom m (actor_of o z.lasting) asked object field
      → Allows (OneHistory m) slots id (plain m o z, cs) i (λ n. n) (play.loads_field (done_by asked) (step slots i 0 0 none) (plain m o z, cs))
  loads_field_plain slots id i o z cs asked object field place may s k _ at _ =
      let h = stands m o z s k id at in
      let a : Actor = actor_of o z.lasting in
      let ws : List ℕ = hidden s.words in
      let law = Fields.loads_value m ws k.underway.flights h.state h.stands a (acting m o z s k id at) asked object field may in
      let from : 1 ≤ i = omega (arith, place, law.is_place.0) in
      let p : Own = teller m o z s k id at ws law.others asked reply.Ok law.flight law.lasting o.loads law.moves in
      let shows = told_shows m o z s k id at ws law.others asked reply.Ok law.flight law.lasting o.loads law.moves in
      let word : get_or ws (heap_at m + (object + OBJECT_WORDS + field)) 0 ≡ get_or s.words i 0 = ap (λ y. get_or ws y 0) (sym place) ∙ word_there s.words i from in
      subst (λ n. Found m s id i (get_or s.words i 0) cs (λ w rest. play.loads_field (done_by asked) (step slots i 0 0 none) (plain m o z, cs) n (w, rest))) word (
        after_step m z p law.lasting,
        keeps,
        tt,
        told_keeps m o z s k id at i (get_or s.words i 0) cs from ws (ap hidden (set-get_or s.words i 0)) law.others asked reply.Ok law.flight law.lasting o.loads law.moves,
        (
          record {
            flight = law.flight;
            lasting = law.lasting;
            tells = shows.0;
            value = law.value;
            pushed = shows.1 ∙ law.pushed;
            loaded = law.loaded;
          },
          refl,
        ),
      )

  pub loads_field_keeps : (slots id i : ℕ) (v : View) (cs : List (ℕ × Unit {0})) (event : Event) (asked : Call) (object field : ℕ) → event ≡ done_by asked → v.map ≡ m → v.place ≡ Inside → length v.own ≡ 1 → i ≡ heap_at v.map + (object + OBJECT_WORDS + field) → LoadsFrom v.map (actor v) asked object field
      → Allows (OneHistory m) slots id (v, cs) i (λ n. n) (play.loads_field event (step slots i 0 0 none) (v, cs))
  loads_field_keeps slots id i v cs event asked object field is map inside single place may =
      subst (λ e. Allows (OneHistory m) slots id (v, cs) i (λ n. n) (play.loads_field e (step slots i 0 0 none) (v, cs))) (sym is)
      (in_plain m v map inside single (λ x. i ≡ heap_at x.map + (object + OBJECT_WORDS + field) → LoadsFrom x.map (actor x) asked object field → Allows (OneHistory m) slots id (x, cs) i (λ n. n) (play.loads_field (done_by asked) (step slots i 0 0 none) (x, cs)))
      (λ o. loads_field_plain slots id i o v cs asked object field) place may)
