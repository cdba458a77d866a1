-- What a thread stores of the page of a new object.
use Rattle.std.proofs.Common.{lit<, ◌≡◌, ◌≢◌, ℕ, zero, suc, ◌+◌, ◌≤◌, ◌<◌, true, false, List, [], ◌∷◌, length, sym, ap, ◌∙◌, subst, arith, true≢false}
use Rattle.std.specs.Prelude.{None}
use Rattle.std.specs.List.{All, Contains}
use Rattle.object_layout.specs.declared.TheConstants.{OBJECT_WORDS}
use Rattle.heap_words.specs.declared.map.Areas.{Areas}
use Rattle.heap_words.specs.Map.{HasThread, heap_at, max_depth, page_at, table_at}
use Rattle.region_pages.specs.declared.TheConstants.{SPACE_WORD, USED_MARK}
use Rattle.epoch_lattice.specs.Lattice.{inner_of, space_index}
use Rattle.calls_in_flight.specs.declared.notes.Cover.{Cover}
use Rattle.calls_in_flight.specs.declared.notes.Flight.{Flight}
use Rattle.calls_in_flight.specs.Flight.{IsBare}
use Rattle.calls_in_flight.specs.Actors.{Actor, HasMet, Shows}
use Rattle.calls_in_flight.specs.OwnStores.{MayStore, enters, marks, turns}
use Rattle.calls_in_flight.specs.Steps.{current_at, logged_at, with_covers}
use Rattle.safepoint_gate.specs.declared.rule.View.{View}
use Rattle.safepoint_gate.specs.Singles.{Stored, actor}
use Rattle.mutator.specs.declared.new_objects.Room.{Room}
use Rattle.mutator.specs.Making.{EntersPage, HasRoom, KeepsShown}
use Rattle.mutator.proofs.Looking.{Laid, bare_met, front, laid_shows, still_met, stores_lay}
use Rattle.mutator.proofs.Placed.{block_below, flies_more, placing_of, pool_below, room_kept, table_below}

abbrev pub cover_at : ℕ → ℕ → ℕ → Cover
cover_at place word shown = record { place = place; stands = word; shown = shown }

-- ---- a word laid

module _ (v w : View) (place word : ℕ) (bare : IsBare (actor v).flight.covers place) (l : Laid v place word w) where
  pub laid_flight : (actor w).flight ≡ with_covers (actor v).flight (cover_at place word l.shown ∷ (actor v).flight.covers)
  laid_flight = ap (λ (a : Actor). a.flight) l.actor_is

  pub laid_keeps : KeepsShown v w
  laid_keeps q x h = subst (λ (a : Actor). Shows a q x) (sym l.actor_is) (laid_shows (actor v) place word l.shown bare l.was q x h)

  pub laid_met : (q x : ℕ) → q ≢ place → HasMet (actor v) q x → HasMet (actor w) q x
  laid_met q x ne h = subst (λ (a : Actor). HasMet a q x) (sym l.actor_is) (still_met place word (actor v).lasting q x ne h)

  pub laid_map : w.map ≡ v.map
  laid_map = ap (λ (x : View). x.map) l.view

  pub laid_thread : (actor w).thread ≡ (actor v).thread
  laid_thread = ap (λ (a : Actor). a.thread) l.actor_is

  pub laid_told : (actor w).told ≡ (actor v).told
  laid_told = ap (λ (a : Actor). a.told) l.actor_is

  pub laid_room : (room : Room) (fields : ℕ) → HasRoom v.map (actor v) room fields (actor v).flight.covers → HasRoom w.map (actor w) room fields (actor w).flight.covers
  laid_room room fields h =
      room_kept v.map w.map (actor v) (actor w) laid_map laid_thread laid_told laid_keeps room fields (actor v).flight.covers (actor w).flight.covers
      (laid_flight ∙ ap (λ (f : Flight). with_covers (actor v).flight f.covers) (sym laid_flight)) h

-- ---- places

pub bare_more : (k : Cover) (ks : List Cover) (q : ℕ) → k.place ≢ q → IsBare ks q → IsBare (k ∷ ks) q
bare_more k ks q ne h zero d lt = ne
bare_more k ks q ne h (suc j) d lt = h j d (omega (arith, lt))

pub page_low : (m : Areas) (p j : ℕ) → p < m.pages → j < 2 → page_at m p + j < heap_at m
page_low m p j there lt = let h = pool_below m in omega (arith, there, lt, h)

pub current_low : (m : Areas) (t d : ℕ) → HasThread m t → d ≤ max_depth m → current_at m t d < table_at m
current_low m t d thread deep = block_below m t (4 + d) thread (omega (arith, deep))

pub logged_low : (m : Areas) (t : ℕ) → HasThread m t → logged_at m t < table_at m
logged_low m t thread = block_below m t 3 thread (lit< tt)

pub bare_low : (m : Areas) (ks : List Cover) (q : ℕ) → All (λ (k : Cover). heap_at m ≤ k.place) ks → q < heap_at m → IsBare ks q
bare_low m ks q high low j d lt = λ e. let h = high j d lt in absurd (omega (arith, h, e, low))

-- ---- the page

module _ (v : View) (room : Room) (fields : ℕ) (single : length v.own ≡ 1) (thread : HasThread v.map (actor v).thread) (h : HasRoom v.map (actor v) room fields (actor v).flight.covers)
    (high : All (λ (k : Cover). heap_at v.map ≤ k.place) (actor v).flight.covers) where
  size : ℕ
  size = fields + OBJECT_WORDS

  abbrev mark_place : ℕ
  mark_place = page_at v.map room.page + USED_MARK

  abbrev entry_place : ℕ
  entry_place = page_at v.map room.page + SPACE_WORD

  -- in the current page
  mark_bare : IsBare (actor v).flight.covers mark_place
  mark_bare = bare_low v.map (actor v).flight.covers mark_place high (page_low v.map room.page USED_MARK h.there (lit< tt))

  pub may_mark : MayStore v.map (actor v) (page_at v.map room.page + USED_MARK) (room.used + (fields + OBJECT_WORDS)) None
  may_mark = marks (placing_of v.map (actor v) room fields (actor v).flight.covers h) mark_bare

  pub enters_current : (w : View) → room.claimed ≡ false → Stored v (page_at v.map room.page + USED_MARK) (room.used + (fields + OBJECT_WORDS)) None w → EntersPage v room (fields + OBJECT_WORDS) w
  enters_current w unclaimed stored =
      let ne : mark_place ≢ logged_at v.map (actor v).thread = λ e. let b = logged_low v.map (actor v).thread thread in absurd (omega (arith, e, b)) in
      let l = stores_lay v w mark_place (room.used + (fields + OBJECT_WORDS)) single mark_bare ne stored in
      let used : l.shown ≡ room.used = l.was room.used (bare_met (actor v) mark_place room.used mark_bare (h.in_current unclaimed).0.1) in
      record {
        view = l.view;
        shows = laid_keeps v w mark_place (room.used + (fields + OBJECT_WORDS)) mark_bare l;
        met = λ q x low had. laid_met v w mark_place (room.used + (fields + OBJECT_WORDS)) mark_bare l q x (λ e. let p = page_low v.map room.page USED_MARK h.there (lit< tt) in absurd (omega (arith, e, p, low))) had;
        in_current = λ _. laid_flight v w mark_place (room.used + (fields + OBJECT_WORDS)) mark_bare l ∙ ap (λ (x : ℕ). with_covers (actor v).flight (cover_at mark_place (room.used + (fields + OBJECT_WORDS)) x ∷ (actor v).flight.covers)) used;
        on_claimed = λ other. absurd (true≢false (sym other ∙ unclaimed));
      }

  -- on a claimed page
  entry_bare : IsBare (actor v).flight.covers entry_place
  entry_bare = bare_low v.map (actor v).flight.covers entry_place high (page_low v.map room.page SPACE_WORD h.there (lit< tt))

  abbrev entry_word : ℕ
  entry_word = space_index (inner_of (actor v).thread (actor v).told.depth) + 1

  module _ (yes : room.claimed ≡ true) where
    holds : (w : View) → HasRoom w.map (actor w) room fields (actor w).flight.covers → Contains (actor w).flight.claimed room.page
    holds w r = subst (λ (l : List ℕ). Contains l room.page) (sym (ap (λ (f : Flight). f.claimed) ((r.on_claimed yes).2))) (front [] room.page)

    pub may_enter : MayStore v.map (actor v) (page_at v.map room.page + SPACE_WORD) (space_index (inner_of (actor v).thread (actor v).told.depth) + 1) None
    may_enter = enters (placing_of v.map (actor v) room fields (actor v).flight.covers h) (holds v h) entry_bare

    module _ (u : View) (first : Stored v (page_at v.map room.page + SPACE_WORD) (space_index (inner_of (actor v).thread (actor v).told.depth) + 1) None u) where
      abbrev l1 : Laid v (page_at v.map room.page + SPACE_WORD) (space_index (inner_of (actor v).thread (actor v).told.depth) + 1) u
      l1 = stores_lay v u (page_at v.map room.page + SPACE_WORD) (space_index (inner_of (actor v).thread (actor v).told.depth) + 1) single entry_bare (λ e. let b = logged_low v.map (actor v).thread thread in absurd (omega (arith, e, b))) first

      room1 : HasRoom u.map (actor u) room fields (actor u).flight.covers
      room1 = laid_room v u entry_place entry_word entry_bare l1 room fields h

      map1 : u.map ≡ v.map
      map1 = laid_map v u entry_place entry_word entry_bare l1

      thread1 : (actor u).thread ≡ (actor v).thread
      thread1 = laid_thread v u entry_place entry_word entry_bare l1

      bare1 : IsBare (actor u).flight.covers mark_place
      bare1 = subst (λ (f : Flight). IsBare f.covers mark_place) (sym (laid_flight v u entry_place entry_word entry_bare l1))
          (bare_more (cover_at entry_place entry_word l1.shown) (actor v).flight.covers mark_place (λ e. absurd (omega (arith, e))) mark_bare)

      mark_same : page_at u.map room.page + USED_MARK ≡ mark_place
      mark_same = ap (λ (m : Areas). page_at m room.page + USED_MARK) map1

      pub may_mark_claimed : MayStore u.map (actor u) (page_at v.map room.page + USED_MARK) (room.used + (fields + OBJECT_WORDS)) None
      may_mark_claimed = subst (λ (q : ℕ). MayStore u.map (actor u) q (room.used + (fields + OBJECT_WORDS)) None) mark_same
          (marks (placing_of u.map (actor u) room fields (actor u).flight.covers room1) (subst (IsBare (actor u).flight.covers) (sym mark_same) bare1))

      module _ (w : View) (one : length u.own ≡ 1) (second : Stored u (page_at v.map room.page + USED_MARK) (room.used + (fields + OBJECT_WORDS)) None w) where
        ne2 : mark_place ≢ logged_at u.map (actor u).thread
        ne2 e =
            let b = logged_low v.map (actor v).thread thread in
            let same : logged_at u.map (actor u).thread ≡ logged_at v.map (actor v).thread = (λ i. logged_at (map1 i) (thread1 i)) in
            absurd (omega (arith, e, b, same))

        abbrev l2 : Laid u (page_at v.map room.page + USED_MARK) (room.used + (fields + OBJECT_WORDS)) w
        l2 = stores_lay u w (page_at v.map room.page + USED_MARK) (room.used + (fields + OBJECT_WORDS)) one bare1 ne2 second

        room2 : HasRoom w.map (actor w) room fields (actor w).flight.covers
        room2 = laid_room u w mark_place (room.used + (fields + OBJECT_WORDS)) bare1 l2 room fields room1

        map2 : w.map ≡ v.map
        map2 = laid_map u w mark_place (room.used + (fields + OBJECT_WORDS)) bare1 l2 ∙ map1

        thread2 : (actor w).thread ≡ (actor v).thread
        thread2 = laid_thread u w mark_place (room.used + (fields + OBJECT_WORDS)) bare1 l2 ∙ thread1

        told2 : (actor w).told ≡ (actor v).told
        told2 = laid_told u w mark_place (room.used + (fields + OBJECT_WORDS)) bare1 l2 ∙ laid_told v u entry_place entry_word entry_bare l1

        flight2 : (actor w).flight ≡ with_covers (actor v).flight (cover_at mark_place (room.used + (fields + OBJECT_WORDS)) l2.shown ∷ cover_at entry_place entry_word l1.shown ∷ (actor v).flight.covers)
        flight2 = laid_flight u w mark_place (room.used + (fields + OBJECT_WORDS)) bare1 l2 ∙ ap (λ (f : Flight). with_covers f (cover_at mark_place (room.used + (fields + OBJECT_WORDS)) l2.shown ∷ f.covers)) (laid_flight v u entry_place entry_word entry_bare l1)

        abbrev current_place : ℕ
        current_place = current_at v.map (actor v).thread (actor v).told.depth

        bare2 : IsBare (actor w).flight.covers current_place
        bare2 =
            let low = current_low v.map (actor v).thread (actor v).told.depth thread h.deep in
            let beside : current_place < heap_at v.map = let t = table_below v.map in let p = pool_below v.map in omega (arith, low, t, p) in
            subst (λ (f : Flight). IsBare f.covers current_place) (sym flight2)
            (bare_more (cover_at mark_place (room.used + (fields + OBJECT_WORDS)) l2.shown) (cover_at entry_place entry_word l1.shown ∷ (actor v).flight.covers) current_place (λ e. absurd (omega (arith, e, low)))
            (bare_more (cover_at entry_place entry_word l1.shown) (actor v).flight.covers current_place (λ e. absurd (omega (arith, e, low)))
            (bare_low v.map (actor v).flight.covers current_place high beside)))

        current_same : current_at w.map (actor w).thread (actor w).told.depth ≡ current_place
        current_same = λ i. current_at (map2 i) (thread2 i) (told2 i).depth

        pub may_turn : MayStore w.map (actor w) (current_at v.map (actor v).thread (actor v).told.depth) (room.page + 1) None
        may_turn = subst (λ (q : ℕ). MayStore w.map (actor w) q (room.page + 1) None) current_same
            (turns (placing_of w.map (actor w) room fields (actor w).flight.covers room2) (holds w room2) (subst (IsBare (actor w).flight.covers) (sym current_same) bare2))

        module _ (x : View) (two : length w.own ≡ 1) (third : Stored w (current_at v.map (actor v).thread (actor v).told.depth) (room.page + 1) None x) where
          ne3 : current_place ≢ logged_at w.map (actor w).thread
          ne3 e =
              let same : logged_at w.map (actor w).thread ≡ logged_at v.map (actor v).thread = (λ i. logged_at (map2 i) (thread2 i)) in
              absurd (omega (arith, e, same))

          abbrev l3 : Laid w (current_at v.map (actor v).thread (actor v).told.depth) (room.page + 1) x
          l3 = stores_lay w x (current_at v.map (actor v).thread (actor v).told.depth) (room.page + 1) two bare2 ne3 third

          pub enters_claimed : EntersPage v room (fields + OBJECT_WORDS) x
          enters_claimed =
              let low = current_low v.map (actor v).thread (actor v).told.depth thread h.deep in
              let t = table_below v.map in
              let p = pool_below v.map in
              let mark_low = page_low v.map room.page USED_MARK h.there (lit< tt) in
              let entry_low = page_low v.map room.page SPACE_WORD h.there (lit< tt) in
              record {
                view = flies_more v w x single (flies_more v u w single l1.view l2.view) l3.view;
                shows = λ q n s. laid_keeps w x current_place (room.page + 1) bare2 l3 q n (laid_keeps u w mark_place (room.used + (fields + OBJECT_WORDS)) bare1 l2 q n (laid_keeps v u entry_place entry_word entry_bare l1 q n s));
                met = λ q n far had.
                    laid_met w x current_place (room.page + 1) bare2 l3 q n (λ e. absurd (omega (arith, e, far, low, t, p)))
                    (laid_met u w mark_place (room.used + (fields + OBJECT_WORDS)) bare1 l2 q n (λ e. absurd (omega (arith, e, far, mark_low)))
                    (laid_met v u entry_place entry_word entry_bare l1 q n (λ e. absurd (omega (arith, e, far, entry_low))) had));
                in_current = λ other. absurd (true≢false (sym yes ∙ other));
                on_claimed = λ _. (l3.shown, l2.shown, l1.shown, laid_flight w x current_place (room.page + 1) bare2 l3 ∙ ap (λ (f : Flight). with_covers f (cover_at current_place (room.page + 1) l3.shown ∷ f.covers)) flight2);
              }
