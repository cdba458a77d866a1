-- An object made by a view: what is stored when the stack's length is, and the entry of the call.
use Rattle.std.proofs.Common.{◌≡◌, ◌≢◌, ◌⊎◌, ℕ, ◌+◌, ◌<◌, List, [], ◌∷◌, length, get_or, set, refl, sym, ap, subst, ◌∙◌, arith, inl, inr, get_or-set_same}
use Rattle.std.specs.List.{All, Contains}
use Rattle.std.proofs.lemmas.List.Elements.{All-cons}
use Rattle.std.proofs.Math.Logic.{⊎_elim}
use Rattle.object_layout.specs.declared.calls.Call.TheVariants.{New}
use Rattle.object_layout.specs.declared.replies.Reply.TheVariants.{Ok}
use Rattle.heap_words.specs.declared.map.Areas.{Areas}
use Rattle.heap_words.specs.Map.{heap_at, page_at, page_words}
use Rattle.epoch_lattice.specs.Lattice.{inner_of, space_index}
use Rattle.yak_model.specs.declared.history.Entry.TheVariants.{Said}
use Rattle.yak_model.specs.Placed.{space_word}
use Rattle.yak_model.specs.Spaces.{SpaceState}
use Rattle.yak_model.specs.Stands.{current}
use Rattle.region_pages.specs.declared.TheConstants.{USED_MARK}
use Rattle.calls_in_flight.specs.Actors.{Actor, HasOnly, Shows, under}
use Rattle.calls_in_flight.specs.Fits.{StandInFlight}
use Rattle.calls_in_flight.specs.Flight.{Cover, Flight, IsBare, at_rest, flight_at}
use Rattle.calls_in_flight.specs.Kinds.{IsStep, makes, makes_claimed}
use Rattle.calls_in_flight.specs.Making.{IsNew, LiesAt, Makes, MakesInCurrent, MakesOnClaimed}
use Rattle.calls_in_flight.specs.OwnStores.{HasNoRoomFor, IsInCurrent, IsLaid, IsMade, Placing, done_by, entry_laid, front_of, in_current, made_laid, mark_laid, on_claimed, page_laid, placed_words, slot_laid}
use Rattle.calls_in_flight.specs.Steps.{current_at, depth_at, length_at, made_at, slot_at, with_covers}
use Rattle.calls_in_flight.specs.Whole.{whole}
use Rattle.calls_in_flight.proofs.Acting.{Acts, StoresEvent, place_of}
use Rattle.calls_in_flight.proofs.Apart.{named-page}
use Rattle.calls_in_flight.proofs.Grounds.{holds_at, named}
use Rattle.calls_in_flight.proofs.OwnWords.{own-current}
use Rattle.calls_in_flight.proofs.Ready.{bare-before}
use Rattle.calls_in_flight.proofs.ViewActs.{bare-word, contains-front, inside}
use Rattle.calls_in_flight.proofs.ViewPushes.{bare-depth, bare-length, ends-call, length-place}
use Rattle.calls_in_flight.proofs.ViewWords.{current-shown, met-word}

module _ (m : Areas) (ws : List ℕ) (fs : List Flight) (s : SpaceState) (h : StandInFlight m ws fs s) (a : Actor) (acts : Acts m ws fs s h a) (p : Placing m a) where
  -- ---- bare places

  -- where the covers of its call in flight are these
  in_flight : (ks : List Cover) → a.flight.covers ≡ ks → (flight_at fs (place_of a)).covers ≡ ks
  in_flight ks e = ap (λ (f : Flight). f.covers) acts.flight ∙ e

  -- a place that they leave bare, by the thread's number
  bare_at : (ks : List Cover) (at : ℕ → ℕ) → a.flight.covers ≡ ks → IsBare ks (at a.thread) → IsBare (flight_at fs (place_of a)).covers (at (flight_at fs (place_of a)).thread)
  bare_at ks at e bare = subst (λ t. IsBare (flight_at fs (place_of a)).covers (at t)) (sym acts.numbered) (subst (λ (js : List Cover). IsBare js (at a.thread)) (sym (in_flight ks e)) bare)

  -- what lies before the heap, beside the covers that don't
  abbrev Apart : ℕ → Cover → Type 0
  Apart x k = k.place ≢ x

  bare_three : (x above : ℕ) (object : List Cover) → All (LiesAt m (front_of p) (front_of p + placed_words p)) object → Apart x (slot_laid p above) → Apart x (made_laid m a) → Apart x (mark_laid p p.used) → x < heap_at m → IsBare (slot_laid p above ∷ made_laid m a ∷ mark_laid p p.used ∷ object) x
  bare_three x above object within b c d lt =
      All-cons (Apart x) (slot_laid p above) (made_laid m a ∷ mark_laid p p.used ∷ object) b (All-cons (Apart x) (made_laid m a) (mark_laid p p.used ∷ object) c (All-cons (Apart x) (mark_laid p p.used) object d (bare-before m object (front_of p) (front_of p + placed_words p) x within lt)))

  bare_five : (x above now mark entry : ℕ) (object : List Cover) → All (LiesAt m (front_of p) (front_of p + placed_words p)) object → Apart x (slot_laid p above) → Apart x (made_laid m a) → Apart x (page_laid p now) → Apart x (mark_laid p mark) → Apart x (entry_laid p entry) → x < heap_at m
      → IsBare (slot_laid p above ∷ made_laid m a ∷ page_laid p now ∷ mark_laid p mark ∷ entry_laid p entry ∷ object) x
  bare_five x above now mark entry object within b c d e f lt =
      let rest : All (Apart x) object = bare-before m object (front_of p) (front_of p + placed_words p) x within lt in
      let four : All (Apart x) (page_laid p now ∷ mark_laid p mark ∷ entry_laid p entry ∷ object) = All-cons (Apart x) (page_laid p now) (mark_laid p mark ∷ entry_laid p entry ∷ object) d (All-cons (Apart x) (mark_laid p mark) (entry_laid p entry ∷ object) e (All-cons (Apart x) (entry_laid p entry) object f rest)) in
      All-cons (Apart x) (slot_laid p above) (made_laid m a ∷ page_laid p now ∷ mark_laid p mark ∷ entry_laid p entry ∷ object) b (All-cons (Apart x) (made_laid m a) (page_laid p now ∷ mark_laid p mark ∷ entry_laid p entry ∷ object) c four)

  -- ---- what stands in the words

  stands-new : IsMade m a p → IsNew m ws (front_of p) p.fields (inner_of a.thread a.told.depth) (record { thread = a.thread; serial = a.told.made + 1 })
  stands-new made = record {
    header = met-word m ws fs s h a acts (heap_at m + front_of p) _ made.header;
    named = met-word m ws fs s h a acts (heap_at m + (front_of p + 1)) _ made.name;
    zero = λ i low lt. met-word m ws fs s h a acts (heap_at m + (front_of p + i)) 0 (made.zero i low lt);
  }

  making : (ks : List Cover) → a.flight.covers ≡ ks → IsBare ks (length_at m a.thread) → IsBare ks (depth_at m a.thread) → IsMade m a p → Makes m ws fs (place_of a) p.fields
  making ks e bare_length bare_depth made =
      record {
        inside = inside m ws fs s h a acts;
        few = p.few;
        n = length a.told.stack;
        count = subst (λ t. get_or ws (length_at m t) 0 ≡ length a.told.stack) (sym acts.numbered) (bare-length m ws fs s h a acts (subst (λ (js : List Cover). IsBare js (length_at m a.thread)) (sym e) bare_length));
        room = made.room;
        made = a.told.made;
        unspent = made.unspent;
        depth = a.told.depth;
        deep = subst (λ t. get_or ws (depth_at m t) 0 ≡ a.told.depth) (sym acts.numbered) (bare-depth m ws fs s h a acts (subst (λ (js : List Cover). IsBare js (depth_at m a.thread)) (sym e) bare_depth));
        page = p.page;
        used = p.used;
        fits = p.fits;
        stands = subst (λ t. IsNew m ws (front_of p) p.fields (inner_of t a.told.depth) (record { thread = t; serial = a.told.made + 1 })) (sym acts.numbered) (stands-new made);
      }

  -- ---- the step

  abbrev StepsTo : ℕ → Type 0
  StepsTo t = IsStep m ws fs (place_of a) (set ws (length_at m t) (length a.told.stack + 1)) (set fs (place_of a) (at_rest a.thread)) (Said t (New p.fields) Ok ∷ []) 0

  told : StepsTo (flight_at fs (place_of a)).thread → StoresEvent m ws fs s h a (length_at m a.thread) (length a.told.stack + 1) (done_by (New p.fields))
  told step =
      let i : ℕ = place_of a in
      let t : ℕ = a.thread in
      let gs : List Flight = set fs i (at_rest t) in
      record {
        is_place = length-place m ws fs s h a acts;
        others = gs;
        moves = ends-call m ws fs s h a acts (set ws (length_at m t) (length a.told.stack + 1)) gs (Said t (New p.fields) Ok ∷ []) (subst StepsTo acts.numbered step) (get_or-set_same fs i (at_rest t) (at_rest 0) (inside m ws fs s h a acts));
      }

  -- ---- in the current page

  in_current-steps : (above : ℕ) (object : List Cover) → IsMade m a p → All (LiesAt m (front_of p) (front_of p + placed_words p)) object → IsInCurrent m a p.page p.used → HasOnly a (slot_laid p above ∷ made_laid m a ∷ mark_laid p p.used ∷ object) → StepsTo (flight_at fs (place_of a)).thread
  unfolding making
  in_current-steps above object made within is only =
      let i : ℕ = place_of a in
      let t : ℕ = a.thread in
      let d : ℕ = a.told.depth in
      let F : Flight = flight_at fs i in
      let ks : List Cover = slot_laid p above ∷ made_laid m a ∷ mark_laid p p.used ∷ object in
      let ht = acts.thread in
      let e : a.flight.covers ≡ ks = ap (λ (f : Flight). f.covers) only in
      let g : Makes m ws fs i p.fields = making ks e
      (bare_three (length_at m t) above object within (λ z. omega (arith, z)) (λ z. omega (arith, z)) (λ z. omega (arith, z, ht.0, ht.1)) (omega (arith, ht.0, ht.1)))
      (bare_three (depth_at m t) above object within (λ z. omega (arith, z)) (λ z. omega (arith, z)) (λ z. omega (arith, z, ht.0, ht.1)) (omega (arith, ht.0, ht.1)))
      made in
      let bare = bare_three (current_at m t d) above object within (λ z. omega (arith, z, p.deep)) (λ z. omega (arith, z)) (λ z. omega (arith, z, ht.0, ht.1, p.deep)) (omega (arith, ht.0, ht.1, p.deep)) in
      let c : MakesInCurrent m ws fs i p.fields g (at_rest t) = record {
        above = above;
        object = object;
        within = within;
        covers = subst (λ u. F.covers ≡ record (slot_laid p above) { place = slot_at m u (length a.told.stack) } ∷ record (made_laid m a) { place = made_at m u } ∷ mark_laid p p.used ∷ object) (sym acts.numbered) (in_flight ks e);
        current = own-current m ws fs s i d h (inside m ws fs s h a acts) (bare_at ks (λ u. current_at m u d) e bare) p.deep ∙ ap (λ u. current (whole m ws fs).currents u d) acts.numbered ∙ current-shown m ws fs s h a acts d (p.page + 1) p.deep is.0;
        after = ap (λ (f : Flight). with_covers f []) (sym (acts.flight ∙ only));
      } in
      makes p.fields g (at_rest t) c

  -- ---- at the front of a claimed page

  -- the current page that is no more, by what its cover shows
  short : (ks : List Cover) (now : ℕ) → a.flight.covers ≡ ks → a.flight.claimed ≡ p.page ∷ [] → Contains ks (page_laid p now) → ((q : ℕ) → q ≢ p.page → q < m.pages → IsBare ks (page_at m q + USED_MARK)) → HasNoRoomFor m a (placed_words p)
      → (now ≡ 0) ⊎ ((q : ℕ) × (now ≡ q + 1) × (page_words m < get_or ws (page_at m q + USED_MARK) 0 + placed_words p))
  short ks now e claimed has bare room =
      let i : ℕ = place_of a in
      let d : ℕ = a.told.depth in
      let F : Flight = flight_at fs i in
      let c = whole m ws fs in
      let shows : Shows a (current_at m a.thread d) now = under (p.page + 1) (subst (λ (js : List Cover). Contains js (page_laid p now)) (sym e) has) in
      let is : current c.currents a.thread d ≡ now = current-shown m ws fs s h a acts d now p.deep shows in
      let holds = holds_at m ws fs s i h.fit h.stands (inside m ws fs s h a acts) in
      let taken : Contains F.claimed p.page = subst (λ (ps : List ℕ). Contains ps p.page) (sym (ap (λ (f : Flight). f.claimed) acts.flight ∙ claimed)) (contains-front p.page []) in
      ⊎_elim
      (λ (x : Shows a (current_at m a.thread d) 0). inl (sym is ∙ current-shown m ws fs s h a acts d 0 p.deep x))
      (λ (x : (q : ℕ) × (used : ℕ) × IsInCurrent m a q used × (page_words m < used + placed_words p)).
      let q : ℕ = x.0 in
      let used : ℕ = x.1 in
      let at : current c.currents a.thread d ≡ q + 1 = current-shown m ws fs s h a acts d (q + 1) p.deep x.2.0 in
      let page = named-page m c F q d (named m ws fs s h.fit h.stands) holds.thread p.deep (ap (λ u. current c.currents u d) acts.numbered ∙ at) in
      let other : q ≢ p.page = λ z. omega (arith, page.1, ap (space_word c.table) z, (holds.claimed p.page taken).1) in
      let word : get_or ws (page_at m q + USED_MARK) 0 ≡ used = bare-word m ws fs s h a (page_at m q + USED_MARK) used acts (subst (λ (js : List Cover). IsBare js (page_at m q + USED_MARK)) (sym e) (bare q other page.0)) x.2.1 in
      inr (q, sym is ∙ at, omega (arith, word, x.3)))
      room

  on_claimed-steps : (above now mark entry : ℕ) (object : List Cover) → IsMade m a p → All (LiesAt m (front_of p) (front_of p + placed_words p)) object → p.used ≡ 0 → HasNoRoomFor m a (placed_words p)
      → a.flight ≡ record (at_rest a.thread) { covers = slot_laid p above ∷ made_laid m a ∷ page_laid p now ∷ mark_laid p mark ∷ entry_laid p entry ∷ object; claimed = p.page ∷ [] } → StepsTo (flight_at fs (place_of a)).thread
  unfolding making
  on_claimed-steps above now mark entry object made within front room only =
      let i : ℕ = place_of a in
      let t : ℕ = a.thread in
      let d : ℕ = a.told.depth in
      let F : Flight = flight_at fs i in
      let ks : List Cover = slot_laid p above ∷ made_laid m a ∷ page_laid p now ∷ mark_laid p mark ∷ entry_laid p entry ∷ object in
      let ht = acts.thread in
      let e : a.flight.covers ≡ ks = ap (λ (f : Flight). f.covers) only in
      let claimed : a.flight.claimed ≡ p.page ∷ [] = ap (λ (f : Flight). f.claimed) only in
      let g : Makes m ws fs i p.fields = making ks e
      (bare_five (length_at m t) above now mark entry object within (λ z. omega (arith, z)) (λ z. omega (arith, z)) (λ z. omega (arith, z)) (λ z. omega (arith, z, ht.0, ht.1)) (λ z. omega (arith, z, ht.0, ht.1)) (omega (arith, ht.0, ht.1)))
      (bare_five (depth_at m t) above now mark entry object within (λ z. omega (arith, z)) (λ z. omega (arith, z)) (λ z. omega (arith, z)) (λ z. omega (arith, z, ht.0, ht.1)) (λ z. omega (arith, z, ht.0, ht.1)) (omega (arith, ht.0, ht.1)))
      made in
      let mark_bare : (q : ℕ) → q ≢ p.page → q < m.pages → IsBare ks (page_at m q + USED_MARK) = λ q ne lt.
      bare_five (page_at m q + USED_MARK) above now mark entry object within (λ z. omega (arith, z, ht.0, ht.1, made.room)) (λ z. omega (arith, z, ht.0, ht.1)) (λ z. omega (arith, z, ht.0, ht.1, p.deep)) (λ z. omega (arith, z, ne)) (λ z. omega (arith, z)) (omega (arith, lt)) in
      let c : MakesOnClaimed m ws fs i p.fields g (at_rest t) = record {
        above = above;
        current = now;
        mark = mark;
        entry = entry;
        object = object;
        within = within;
        covers = subst (λ u. F.covers ≡ record (slot_laid p above) { place = slot_at m u (length a.told.stack) } ∷ record (made_laid m a) { place = made_at m u } ∷ record (page_laid p now) { place = current_at m u d } ∷ mark_laid p mark ∷ record (entry_laid p entry) { stands = space_index (inner_of u d) + 1 } ∷ object) (sym acts.numbered) (in_flight ks e);
        front = front;
        rest = [];
        claimed = ap (λ (f : Flight). f.claimed) acts.flight ∙ claimed;
        short = short ks now e claimed (2, omega arith, refl) mark_bare room;
        after = ap (λ (f : Flight). record f { covers = []; claimed = [] }) (sym (acts.flight ∙ only));
      } in
      makes_claimed p.fields g (at_rest t) c

  laid-steps : IsMade m a p → IsLaid m a p → StepsTo (flight_at fs (place_of a)).thread
  laid-steps made (in_current above object within is only) = in_current-steps above object made within is only
  laid-steps made (on_claimed above now mark entry object within front room only) = on_claimed-steps above now mark entry object made within front room only

pub makes_event : (m : Areas) (ws : List ℕ) (fs : List Flight) (s : SpaceState) (h : StandInFlight m ws fs s) (a : Actor) → Acts m ws fs s h a → (p : Placing m a) → IsMade m a p → StoresEvent m ws fs s h a (length_at m a.thread) (length a.told.stack + 1) (done_by (New p.fields))
makes_event m ws fs s h a acts p made = told m ws fs s h a acts p (laid-steps m ws fs s h a acts p made made.laid)
