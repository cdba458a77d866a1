-- Stores of own words by a view that tell the event of a short call: a slot more, a slot less, an epoch begun.
use Rattle.std.proofs.Common.{◌≡◌, ◌≢◌, ℕ, ◌+◌, ◌<◌, List, [], ◌∷◌, length, get_or, set, refl, sym, ap, subst, ◌∙◌, arith, get_or-set_same}
use Rattle.std.proofs.lemmas.List.Elements.{All-cons, All-nil}
use Rattle.object_layout.specs.declared.TheConstants.{MAX_DEPTH}
use Rattle.object_layout.specs.declared.calls.Call.{Call}
use Rattle.object_layout.specs.declared.calls.Call.TheVariants.{Int, Null, Dup, Pop, New, Load, Store, Get, Same, Begin, End, Collect, Census}
use Rattle.object_layout.specs.declared.replies.Reply.TheVariants.{Ok}
use Rattle.heap_words.specs.declared.map.Areas.{Areas}
use Rattle.heap_words.specs.declared.TheConstants.{STACK_SLOTS}
use Rattle.heap_words.specs.Contents.{depth_of, stack_of}
use Rattle.yak_model.specs.declared.history.Entry.{Entry}
use Rattle.yak_model.specs.declared.history.Entry.TheVariants.{Said}
use Rattle.yak_model.specs.Spaces.{SpaceState}
use Rattle.calls_in_flight.specs.Actors.{Actor, HasOnly, IsAtRest}
use Rattle.calls_in_flight.specs.Differing.{MayDiffer}
use Rattle.calls_in_flight.specs.Fits.{StandInFlight}
use Rattle.calls_in_flight.specs.Flight.{Cover, Flight, IsBare, at_rest, flight_at}
use Rattle.calls_in_flight.specs.Kinds as kinds
use Rattle.calls_in_flight.specs.Kinds.{IsStep}
use Rattle.calls_in_flight.specs.Knowing.{IsLasting, Known}
use Rattle.calls_in_flight.specs.OwnStores.{IsPushOf, done_by}
use Rattle.calls_in_flight.specs.Steps.{Deepens, Grows, Shrinks, depth_at, length_at, slot_at, with_covers}
use Rattle.calls_in_flight.specs.Whole.{whole}
use Rattle.calls_in_flight.proofs.Acting.{Acts, IsPlace, Moves, StoresEvent, acting_in, place_of}
use Rattle.calls_in_flight.proofs.Keeping.{step-keeps}
use Rattle.calls_in_flight.proofs.OwnWords.{own-depth, own-length}
use Rattle.calls_in_flight.proofs.ViewActs.{block-own, inside, own-place}
use Rattle.calls_in_flight.proofs.ViewSees.{depth-same}
use Rattle.calls_in_flight.proofs.ViewWords.{length-told, slot-shown}

module _ (m : Areas) (ws : List ℕ) (fs : List Flight) (s : SpaceState) (h : StandInFlight m ws fs s) (a : Actor) (acts : Acts m ws fs s h a) where
  -- a step that leaves no call of the thread in flight
  pub ends-call : (now : List ℕ) (gs : List Flight) (done : List Entry) → (step : IsStep m ws fs (place_of a) now gs done 0) → flight_at gs (place_of a) ≡ at_rest a.thread → Moves m ws now fs gs s h a (at_rest a.thread) done 0 []
  ends-call now gs done step is =
      let st = step-keeps m ws fs (place_of a) s h now gs done 0 step in
      record {
        step = step;
        stepped = st;
        flight = is;
        knows = All-nil (λ (k : Known). (get_or now k.place 0 ≡ k.word) × IsLasting m now gs st.after st.later (place_of a) k.place);
        differs = All-nil (MayDiffer m (acting_in a st.after (at_rest a.thread) []));
      }

  -- a word of its block that is bare
  pub bare-length : IsBare a.flight.covers (length_at m a.thread) → get_or ws (length_at m a.thread) 0 ≡ length a.told.stack
  bare-length bare =
      let i : ℕ = place_of a in
      let there : IsBare (flight_at fs i).covers (length_at m (flight_at fs i).thread) = subst (λ t. IsBare (flight_at fs i).covers (length_at m t)) (sym acts.numbered) (subst (λ (f : Flight). IsBare f.covers (length_at m a.thread)) (sym acts.flight) bare) in
      subst (λ t. get_or ws (length_at m t) 0 ≡ length (stack_of (whole m ws fs) t)) acts.numbered (own-length m ws fs s i h (inside m ws fs s h a acts) there) ∙ length-told m ws fs s h a acts

  pub bare-depth : IsBare a.flight.covers (depth_at m a.thread) → get_or ws (depth_at m a.thread) 0 ≡ a.told.depth
  bare-depth bare =
      let i : ℕ = place_of a in
      let there : IsBare (flight_at fs i).covers (depth_at m (flight_at fs i).thread) = subst (λ t. IsBare (flight_at fs i).covers (depth_at m t)) (sym acts.numbered) (subst (λ (f : Flight). IsBare f.covers (depth_at m a.thread)) (sym acts.flight) bare) in
      subst (λ t. get_or ws (depth_at m t) 0 ≡ depth_of (whole m ws fs) t) acts.numbered (own-depth m ws fs s i h (inside m ws fs s h a acts) there) ∙ depth-same m ws fs s h a acts

  pub length-place : IsPlace m (length_at m a.thread)
  length-place = own-place m ws fs s h a (length_at m a.thread) acts (block-own m ws fs s h a (length_at m a.thread) acts (omega arith) (omega arith))

  none-bare : (p : ℕ) → IsAtRest a → IsBare a.flight.covers p
  none-bare p rest = subst (λ (f : Flight). IsBare f.covers p) (sym rest) (All-nil (λ (k : Cover). k.place ≢ p))

  -- ---- a slot more

  grows : (c : Cover) → length a.told.stack < STACK_SLOTS → HasOnly a (c ∷ []) → c.place ≡ slot_at m a.thread (length a.told.stack) → Grows m ws fs (place_of a) (length a.told.stack) c.stands (at_rest a.thread)
  grows c room only place =
      let n : ℕ = length a.told.stack in
      let p : ℕ = length_at m a.thread in
      let covers : a.flight.covers ≡ c ∷ [] = ap (λ (x : Flight). x.covers) only in
      let apart : c.place ≢ p = λ e. omega (arith, place, e) in
      let bare : IsBare a.flight.covers p = subst (λ (ks : List Cover). IsBare ks p) (sym covers) (All-cons (λ (k : Cover). k.place ≢ p) c [] apart (All-nil (λ (k : Cover). k.place ≢ p))) in
      record {
        inside = inside m ws fs s h a acts;
        count = subst (λ u. get_or ws (length_at m u) 0 ≡ n) (sym acts.numbered) (bare-length bare);
        room = room;
        cover = c;
        covers = ap (λ (x : Flight). x.covers) acts.flight ∙ covers;
        place = subst (λ u. c.place ≡ slot_at m u n) (sym acts.numbered) place;
        word = refl;
        after = ap (λ (x : Flight). with_covers x []) (sym (acts.flight ∙ only));
      }

  pushed : (asked : Call) → (let i = place_of a in let n = length a.told.stack in IsStep m ws fs i (set ws (length_at m (flight_at fs i).thread) (n + 1)) (set fs i (at_rest a.thread)) (Said (flight_at fs i).thread asked Ok ∷ []) 0) → StoresEvent m ws fs s h a (length_at m a.thread) (length a.told.stack + 1) (done_by asked)
  pushed asked step =
      let i : ℕ = place_of a in
      let n : ℕ = length a.told.stack in
      let f : Flight = at_rest a.thread in
      let mine : IsStep m ws fs i (set ws (length_at m a.thread) (n + 1)) (set fs i f) (Said a.thread asked Ok ∷ []) 0 = subst (λ u. IsStep m ws fs i (set ws (length_at m u) (n + 1)) (set fs i f) (Said u asked Ok ∷ []) 0) acts.numbered step in
      record {
        is_place = length-place;
        others = set fs i f;
        moves = ends-call (set ws (length_at m a.thread) (n + 1)) (set fs i f) (Said a.thread asked Ok ∷ []) mine (get_or-set_same fs i f (at_rest 0) (inside m ws fs s h a acts));
      }

  pub pushes : (asked : Call) (c : Cover) → IsPushOf m a asked c.stands → length a.told.stack < STACK_SLOTS → HasOnly a (c ∷ []) → c.place ≡ slot_at m a.thread (length a.told.stack) → StoresEvent m ws fs s h a (length_at m a.thread) (length a.told.stack + 1) (done_by asked)
  pushes (Int k) c is room only place =
      let f : Flight = at_rest a.thread in
      pushed (Int k) (kinds.pushes_int (length a.told.stack) k f is.0 (subst (λ w. Grows m ws fs (place_of a) (length a.told.stack) w f) is.1 (grows c room only place)))
  pushes Null c is room only place =
      let f : Flight = at_rest a.thread in
      pushed Null (kinds.pushes_null (length a.told.stack) f (subst (λ w. Grows m ws fs (place_of a) (length a.told.stack) w f) is (grows c room only place)))
  pushes (Dup k) c is room only place =
      let word : c.stands ≡ get_or (stack_of (whole m ws fs) (flight_at fs (place_of a)).thread) k 0 = subst (λ u. c.stands ≡ get_or (stack_of (whole m ws fs) u) k 0) (sym acts.numbered) (sym (slot-shown m ws fs s h a acts k c.stands is.0 is.1)) in
      pushed (Dup k) (kinds.pushes_slot (length a.told.stack) k c.stands (at_rest a.thread) is.0 word (grows c room only place))
  pushes Pop c is room only place = absurd is
  pushes (New k) c is room only place = absurd is
  pushes (Load k j) c is room only place = absurd is
  pushes (Store k j x) c is room only place = absurd is
  pushes (Get k) c is room only place = absurd is
  pushes (Same k x) c is room only place = absurd is
  pushes Begin c is room only place = absurd is
  pushes End c is room only place = absurd is
  pushes Collect c is room only place = absurd is
  pushes Census c is room only place = absurd is

  -- ---- a slot less

  pub pops : (n : ℕ) → length a.told.stack ≡ n + 1 → IsAtRest a → StoresEvent m ws fs s h a (length_at m a.thread) n (done_by Pop)
  pops n one rest =
      let i : ℕ = place_of a in
      let shrinks : Shrinks m ws fs i n = record {
        inside = inside m ws fs s h a acts;
        covers = ap (λ (x : Flight). x.covers) (acts.flight ∙ rest);
        count = subst (λ u. get_or ws (length_at m u) 0 ≡ n + 1) (sym acts.numbered) (bare-length (none-bare (length_at m a.thread) rest) ∙ one);
      } in
      let step : IsStep m ws fs i (set ws (length_at m a.thread) n) fs (Said a.thread Pop Ok ∷ []) 0 = subst (λ u. IsStep m ws fs i (set ws (length_at m u) n) fs (Said u Pop Ok ∷ []) 0) acts.numbered (kinds.pops n shrinks) in
      record {
        is_place = length-place;
        others = fs;
        moves = ends-call (set ws (length_at m a.thread) n) fs (Said a.thread Pop Ok ∷ []) step (acts.flight ∙ rest);
      }

  -- ---- an epoch begun

  pub begins : a.told.depth < MAX_DEPTH → IsAtRest a → StoresEvent m ws fs s h a (depth_at m a.thread) (a.told.depth + 1) (done_by Begin)
  begins room rest =
      let i : ℕ = place_of a in
      let d : ℕ = a.told.depth in
      let p : ℕ = depth_at m a.thread in
      let deepens : Deepens m ws fs i d = record {
        inside = inside m ws fs s h a acts;
        covers = ap (λ (x : Flight). x.covers) (acts.flight ∙ rest);
        before = subst (λ u. get_or ws (depth_at m u) 0 ≡ d) (sym acts.numbered) (bare-depth (none-bare p rest));
        room = room;
      } in
      let step : IsStep m ws fs i (set ws p (d + 1)) fs (Said a.thread Begin Ok ∷ []) 0 = subst (λ u. IsStep m ws fs i (set ws (depth_at m u) (d + 1)) fs (Said u Begin Ok ∷ []) 0) acts.numbered (kinds.begins d deepens) in
      record {
        is_place = own-place m ws fs s h a p acts (block-own m ws fs s h a p acts (omega arith) (omega arith));
        others = fs;
        moves = ends-call (set ws p (d + 1)) fs (Said a.thread Begin Ok ∷ []) step (acts.flight ∙ rest);
      }
