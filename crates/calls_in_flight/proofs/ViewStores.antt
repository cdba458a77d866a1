-- Stores of own words by a view that tell no event.
use Rattle.std.proofs.Common.{◌≡◌, ◌≢◌, ℕ, ◌+◌, ◌≤◌, ◌<◌, List, [], ◌∷◌, None, get_or, set, refl, sym, ap, subst, ◌∙◌, arith, inl, inr, get_or-set_same}
use Rattle.std.specs.List.{All, Contains}
use Rattle.std.proofs.lemmas.List.Elements.{All-cons, All-head, All-tail, All-nil}
use Rattle.std.proofs.Math.Logic.{⊎_elim}
use Rattle.object_layout.specs.declared.TheConstants.{OBJECT_WORDS}
use Rattle.object_layout.specs.declared.calls.Call.{Call}
use Rattle.heap_words.specs.declared.map.Areas.{Areas}
use Rattle.heap_words.specs.declared.TheConstants.{BUFFER_ENTRIES}
use Rattle.heap_words.specs.Map.{HasThread, heap_at, page_at}
use Rattle.heap_words.specs.Contents.{made_of}
use Rattle.yak_model.specs.Placed.{used_mark}
use Rattle.yak_model.specs.Spaces.{SpaceState}
use Rattle.yak_model.specs.State.{view}
use Rattle.region_pages.specs.declared.TheConstants.{SPACE_WORD, USED_MARK}
use Rattle.standing_calls.proofs.Entered.{free-mark}
use Rattle.calls_in_flight.specs.Actors.{Actor, HoldsPage, HasOnly, Shows, learn}
use Rattle.calls_in_flight.specs.Differing.{MayDiffer, above_stack, behind_buffer, counted, entered, in_object, loaded_length, loaded_slot, marked, turned}
use Rattle.calls_in_flight.specs.FieldSteps.{StoresInto}
use Rattle.calls_in_flight.specs.Fits.{StandInFlight}
use Rattle.calls_in_flight.specs.Flight.{Cover, Flight, IsBare, at_rest, flight_at}
use Rattle.calls_in_flight.specs.Kinds as kinds
use Rattle.calls_in_flight.specs.Kinds.{IsStep}
use Rattle.calls_in_flight.specs.Owning.{IsOwn, in_entry, in_page}
use Rattle.calls_in_flight.specs.OwnStores.{HasNoRoomFor, IsInCurrent, MayStore, Placing, front_of, placed_words}
use Rattle.calls_in_flight.specs.OwnStores as own
use Rattle.calls_in_flight.specs.Steps.{Lays, Settles, current_at, entry_at, logged_at, made_at, slot_at, with_covers}
use Rattle.calls_in_flight.specs.Fields.{Logs}
use Rattle.calls_in_flight.specs.Whole.{whole}
use Rattle.calls_in_flight.proofs.Acting.{Acts, StoresWord, place_of}
use Rattle.calls_in_flight.proofs.Covers.{bare-head}
use Rattle.calls_in_flight.proofs.Grounds.{fit_at, holds_at}
use Rattle.calls_in_flight.proofs.OwnWords.{own-made}
use Rattle.calls_in_flight.proofs.ViewActs.{bare-word, block-own, contains-front, differ-kept, inside, knows-put, moves-on, own-place, word-met}
use Rattle.calls_in_flight.proofs.ViewReach.{stores-in}
use Rattle.calls_in_flight.proofs.ViewSees.{made-same}
use Rattle.calls_in_flight.proofs.ViewWords.{mark-shown, page-own}

-- no cover lies at the store buffer's length
not_logged : (m : Areas) (a : Actor) (c : Cover) → HasThread m a.thread → MayDiffer m a c → c.place ≢ logged_at m a.thread
not_logged m a c t (above_stack k le lt e) z = omega (arith, e, z)
not_logged m a c t (behind_buffer k lt e) z = omega (arith, e, z)
not_logged m a c t (loaded_slot k le e) z = omega (arith, e, z)
not_logged m a c t (loaded_length e st sh) z = omega (arith, e, z)
not_logged m a c t (in_object le lt) z = omega (arith, le, z, t.0, t.1)
not_logged m a c t (marked p lt e) z = omega (arith, e, z, t.0, t.1)
not_logged m a c t (counted e st sh) z = omega (arith, e, z)
not_logged m a c t (turned p has e st) z = omega (arith, e, z)
not_logged m a c t (entered p has e st) z = omega (arith, e, z, t.0, t.1)

same_head : {X : Type 0} (x y : X) (xs ys : List X) → x ∷ xs ≡ y ∷ ys → x ≡ y
same_head x y xs ys e = cc

same_tail : {X : Type 0} (x y : X) (xs ys : List X) → x ∷ xs ≡ y ∷ ys → xs ≡ ys
same_tail x y xs ys e = cc

module _ (m : Areas) (ws : List ℕ) (fs : List Flight) (s : SpaceState) (h : StandInFlight m ws fs s) (a : Actor) (acts : Acts m ws fs s h a) where
  -- a word stored under a cover
  lay : (p w : ℕ) → IsOwn m (whole m ws fs) (flight_at fs (place_of a)) p → IsBare a.flight.covers p → p ≢ logged_at m a.thread → MayDiffer m a (record { place = p; stands = w; shown = get_or ws p 0 }) → StoresWord m ws fs s h a p w
  lay p w mine bare far differs =
      let i : ℕ = place_of a in
      let li = inside m ws fs s h a acts in
      let k : Cover = record { place = p; stands = w; shown = get_or ws p 0 } in
      let f : Flight = with_covers a.flight (k ∷ a.flight.covers) in
      let lasting = learn p w a.lasting in
      let b : Actor = record { thread = a.thread; told = a.told; flight = f; lasting = lasting } in
      let lays : Lays m ws fs i p w f = record {
        inside = li;
        own = mine;
        bare = subst (λ (x : Flight). IsBare x.covers p) (sym acts.flight) bare;
        after = ap (λ (x : Flight). with_covers x (k ∷ x.covers)) (sym acts.flight);
      } in
      record {
        is_place = own-place m ws fs s h a p acts mine;
        flight = f;
        others = set fs i f;
        put = 0;
        moves = moves-on m ws (set ws p w) fs (set fs i f) s h a f 0 lasting acts (kinds.lays p w f lays) (get_or-set_same fs i f (at_rest 0) li) (λ st. knows-put m ws fs (set fs i f) s h a p w 0 st acts mine)
            (All-cons (MayDiffer m b) k a.flight.covers (differ-kept m a b k refl refl (λ q c. c) differs) (λ j d lj. differ-kept m a b (get_or a.flight.covers j d) refl refl (λ q c. c) (acts.differs j d lj)));
        flies = record {
          lays = λ z ne. (get_or ws p 0, (λ was has. (word-met m ws fs s h a p was acts has).0), refl);
          settles = λ c rest e at. absurd (bare-head c rest p (subst (λ (ks : List Cover). IsBare ks p) e bare) at);
          logs = λ e. absurd (far e);
        };
        one_more = λ e. absurd (far e);
        no_more = λ ne. refl;
      }

  -- the last cover settled
  settle : (c : Cover) (rest : List Cover) → a.flight.covers ≡ c ∷ rest → StoresWord m ws fs s h a c.place c.shown
  settle c rest e =
      let i : ℕ = place_of a in
      let li = inside m ws fs s h a acts in
      let p : ℕ = c.place in
      let w : ℕ = c.shown in
      let F : Flight = flight_at fs i in
      let f : Flight = with_covers a.flight rest in
      let lasting = learn p w a.lasting in
      let b : Actor = record { thread = a.thread; told = a.told; flight = f; lasting = lasting } in
      let covers : F.covers ≡ c ∷ rest = ap (λ (x : Flight). x.covers) acts.flight ∙ e in
      let fit = fit_at m ws fs i h.fit li in
      let Own : Cover → Type 0 = λ k. IsOwn m (whole m ws fs) F k.place in
      let Stand : Cover → Type 0 = λ k. get_or ws k.place 0 ≡ k.stands in
      let mine : IsOwn m (whole m ws fs) F p = All-head Own c rest (subst (All Own) covers fit.own) in
      let stands : get_or ws p 0 ≡ c.stands = All-head Stand c rest (subst (All Stand) covers fit.stand) in
      let all : All (MayDiffer m a) (c ∷ rest) = subst (All (MayDiffer m a)) e acts.differs in
      let far : p ≢ logged_at m a.thread = not_logged m a c acts.thread (All-head (MayDiffer m a) c rest all) in
      let left : All (MayDiffer m a) rest = All-tail (MayDiffer m a) c rest all in
      let settles : Settles ws fs i p w f = record {
        inside = li;
        covers = covers ∙ ap (λ x. record { place = p; stands = x; shown = w } ∷ rest) (sym stands);
        after = ap (λ (x : Flight). with_covers x rest) (sym acts.flight);
      } in
      record {
        is_place = own-place m ws fs s h a p acts mine;
        flight = f;
        others = set fs i f;
        put = 0;
        moves = moves-on m ws (set ws p w) fs (set fs i f) s h a f 0 lasting acts (kinds.settles p w f settles) (get_or-set_same fs i f (at_rest 0) li) (λ st. knows-put m ws fs (set fs i f) s h a p w 0 st acts mine)
            (λ j d lj. differ-kept m a b (get_or rest j d) refl refl (λ q x. x) (left j d lj));
        flies = record {
          lays = λ bare ne. absurd (bare-head c rest p (subst (λ (ks : List Cover). IsBare ks p) e bare) refl);
          settles = λ k ks z at. ap (with_covers a.flight) (same_tail c k rest ks (sym e ∙ z));
          logs = λ z. absurd (far z);
        };
        one_more = λ z. absurd (far z);
        no_more = λ ne. refl;
      }

  -- an entry put into the store buffer
  log : (n : ℕ) (c : Cover) (asked : Call) (at field word : ℕ) → Shows a (logged_at m a.thread) n → n < BUFFER_ENTRIES → HasOnly a (c ∷ []) → c.place ≡ entry_at m a.thread n → c.stands ≡ at + OBJECT_WORDS + field → StoresInto m a asked at field word → StoresWord m ws fs s h a (logged_at m a.thread) (n + 1)
  log n c asked at field word shows room only place stands stores =
      let i : ℕ = place_of a in
      let li = inside m ws fs s h a acts in
      let F : Flight = flight_at fs i in
      let t : ℕ = a.thread in
      let p : ℕ = logged_at m t in
      let f : Flight = at_rest t in
      let lasting = learn p (n + 1) a.lasting in
      let apart : c.place ≢ p = λ e. omega (arith, place, e) in
      let covers : a.flight.covers ≡ c ∷ [] = ap (λ (x : Flight). x.covers) only in
      let bare : IsBare a.flight.covers p = subst (λ (ks : List Cover). IsBare ks p) (sym covers) (All-cons (λ (k : Cover). k.place ≢ p) c [] apart (All-nil (λ (k : Cover). k.place ≢ p))) in
      let count : get_or ws p 0 ≡ n = bare-word m ws fs s h a p n acts bare shows in
      let mine : IsOwn m (whole m ws fs) F p = block-own m ws fs s h a p acts (omega arith) (omega arith) in
      let logs : Logs m ws fs i n stores.slot field (at + OBJECT_WORDS + field) f = record {
        inside = li;
        count = subst (λ u. get_or ws (logged_at m u) 0 ≡ n) (sym acts.numbered) count;
        room = room;
        cover = c;
        covers = ap (λ (x : Flight). x.covers) acts.flight ∙ covers;
        place = subst (λ u. c.place ≡ entry_at m u n) (sym acts.numbered) place;
        word = stands;
        field = stores-in m ws fs s h a acts asked at field word stores;
        after = ap (λ (x : Flight). with_covers x []) (sym (acts.flight ∙ only));
      } in
      let step : IsStep m ws fs i (set ws p (n + 1)) (set fs i f) [] 1 = subst (λ u. IsStep m ws fs i (set ws (logged_at m u) (n + 1)) (set fs i f) [] 1) acts.numbered (kinds.logs n stores.slot field (at + OBJECT_WORDS + field) f logs) in
      record {
        is_place = own-place m ws fs s h a p acts mine;
        flight = f;
        others = set fs i f;
        put = 1;
        moves = moves-on m ws (set ws p (n + 1)) fs (set fs i f) s h a f 1 lasting acts step (get_or-set_same fs i f (at_rest 0) li) (λ st. knows-put m ws fs (set fs i f) s h a p (n + 1) 1 st acts mine) (All-nil (MayDiffer m (record { thread = t; told = a.told; flight = f; lasting = lasting })));
        flies = record {
          lays = λ z ne. absurd (ne refl);
          settles = λ k ks z e. absurd (apart (ap (λ (x : Cover). x.place) (same_head c k [] ks (sym covers ∙ z)) ∙ e));
          logs = λ e. refl;
        };
        one_more = λ e. refl;
        no_more = λ ne. absurd (ne refl);
      }

  -- ---- where an object is placed

  pub placed-page : (p : Placing m a) → HoldsPage m a p.page
  placed-page p = ⊎_elim
      (λ (x : IsInCurrent m a p.page p.used). (p.there, inl (a.told.depth, p.deep, x.0)))
      (λ (x : (p.used ≡ 0) × (a.flight.claimed ≡ p.page ∷ []) × HasNoRoomFor m a (p.fields + OBJECT_WORDS)). (p.there, inr (subst (λ (ps : List ℕ). Contains ps p.page) (sym x.1) (contains-front p.page []))))
      p.placed

  pub placed-above : (p : Placing m a) → used_mark (whole m ws fs).table p.page ≤ p.used
  placed-above p = ⊎_elim
      (λ (x : IsInCurrent m a p.page p.used). omega (arith, mark-shown m ws fs s h a acts p.page p.used (placed-page p) x.1))
      (λ (x : (p.used ≡ 0) × (a.flight.claimed ≡ p.page ∷ []) × HasNoRoomFor m a (p.fields + OBJECT_WORDS)).
      let c = whole m ws fs in
      let has : Contains (flight_at fs (place_of a)).claimed p.page = subst (λ (ps : List ℕ). Contains ps p.page) (sym (ap (λ (f : Flight). f.claimed) acts.flight ∙ x.1)) (contains-front p.page []) in
      let free = (holds_at m ws fs s (place_of a) h.fit h.stands (inside m ws fs s h a acts)).claimed p.page has in
      omega (arith, free-mark m c.table c.heap (view s).objects h.stands.places (λ _. 0) p.page h.stands.stands.heap free.0 free.1))
      p.placed

  made-word : IsBare a.flight.covers (made_at m a.thread) → get_or ws (made_at m a.thread) 0 ≡ a.told.made
  made-word bare =
      let i : ℕ = place_of a in
      let there : IsBare (flight_at fs i).covers (made_at m (flight_at fs i).thread) = subst (λ t. IsBare (flight_at fs i).covers (made_at m t)) (sym acts.numbered) (subst (λ (f : Flight). IsBare f.covers (made_at m a.thread)) (sym acts.flight) bare) in
      subst (λ t. get_or ws (made_at m t) 0 ≡ made_of (whole m ws fs) t) acts.numbered (own-made m ws fs s i h (inside m ws fs s h a acts) there) ∙ made-same m ws fs s h a acts

  pub stores : (place word : ℕ) → MayStore m a place word None → StoresWord m ws fs s h a place word
  stores _ _ (own.above_stack k word le lt bare) = lay (slot_at m a.thread k) word (block-own m ws fs s h a (slot_at m a.thread k) acts (omega arith) (omega (arith, lt))) bare (λ e. omega (arith, e)) (above_stack k le lt refl)
  stores _ _ (own.behind_buffer n word shows lt bare) = lay (entry_at m a.thread n) word (block-own m ws fs s h a (entry_at m a.thread n) acts (omega arith) (omega (arith, lt))) bare (λ e. omega (arith, e)) (behind_buffer n lt refl)
  stores _ _ (own.in_object p i word lt bare) =
      let q : ℕ = heap_at m + (front_of p + i) in
      let low = placed-above p in
      let mine : IsOwn m (whole m ws fs) (flight_at fs (place_of a)) q = in_page p.page (p.used + i) (page-own m ws fs s h a acts p.page (placed-page p)) (omega (arith, low)) (omega (arith, lt, p.fits)) (omega arith) in
      lay q word mine bare (λ e. omega (arith, e, acts.thread.0, acts.thread.1)) (in_object (omega arith) (omega (arith, lt, p.fits, p.there)))
  stores _ _ (own.marks p bare) =
      let q : ℕ = page_at m p.page + USED_MARK in
      lay q (p.used + placed_words p) (in_entry p.page USED_MARK (page-own m ws fs s h a acts p.page (placed-page p)) (omega arith) refl) bare (λ e. omega (arith, e, acts.thread.0, acts.thread.1)) (marked p.page p.there refl)
  stores _ _ (own.counts p bare) = lay (made_at m a.thread) (a.told.made + 1) (block-own m ws fs s h a (made_at m a.thread) acts (omega arith) (omega arith)) bare (λ e. omega (arith, e)) (counted refl refl (made-word bare))
  stores _ _ (own.enters p has bare) =
      let q : ℕ = page_at m p.page + SPACE_WORD in
      lay q _ (in_entry p.page SPACE_WORD (page-own m ws fs s h a acts p.page (placed-page p)) (omega arith) refl) bare (λ e. omega (arith, e, acts.thread.0, acts.thread.1)) (entered p.page has refl refl)
  stores _ _ (own.turns p has bare) =
      let q : ℕ = current_at m a.thread a.told.depth in
      lay q (p.page + 1) (block-own m ws fs s h a q acts (omega arith) (omega (arith, p.deep))) bare (λ e. omega (arith, e)) (turned p.page has refl refl)
  stores _ _ (own.settles c rest e low high) = settle c rest e
  stores _ _ (own.logs n c asked at field word shows room only place stands into crosses) = log n c asked at field word shows room only place stands into
