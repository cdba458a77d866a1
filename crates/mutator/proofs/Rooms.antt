-- The search for room of a thread that makes an object.
use Rattle.std.proofs.Common.{lit<, ◌≡◌, ◌≢◌, ℕ, zero, suc, ◌+◌, ◌-◌, ◌≤◌, ◌<◌, false, List, [], ◌∷◌, ◌++◌, length, refl, sym, ap, ◌∙◌, subst, arith, inl, inr, append_assoc}
use Rattle.std.specs.Prelude.{None}
use Rattle.std.proofs.lemmas.List.Elements.{All-append, Contains-append_left, Contains-append_right}
use Rattle.heap_words.specs.declared.TheConstants.{HEAD_WORDS}
use Rattle.heap_words.specs.declared.map.Areas.{Areas}
use Rattle.heap_words.specs.Map.{max_depth, page_at, page_words}
use Rattle.region_pages.specs.declared.TheConstants.{USED_MARK}
use Rattle.calls_in_flight.specs.declared.notes.Flight.{Flight}
use Rattle.calls_in_flight.specs.declared.notes.Known.{Known}
use Rattle.calls_in_flight.specs.Flight.{at_rest}
use Rattle.calls_in_flight.specs.Actors.{Actor, HoldsPage, MayLoad, Shows, in_entry}
use Rattle.calls_in_flight.specs.OwnStores.{IsInCurrent}
use Rattle.calls_in_flight.specs.Steps.{current_at}
use Rattle.safepoint_gate.specs.declared.rule.View.{View}
use Rattle.safepoint_gate.specs.Singles.{IsQuiet, Loaded, actor, loads_of, moved, put_of}
use Rattle.safepoint_gate.specs.Steps.{first_thread}
use Rattle.barriers.specs.Shown.{WasLoaded}
use Rattle.mutator.specs.Making.{AreOwn, FindsNone, FindsRoom, Loads, Searches}
use Rattle.mutator.proofs.Answering.{actor_moved, flying, loads_moved, moved_again, put_moved, thread_in}
use Rattle.mutator.proofs.Looking.{front, loaded_is, loaded_same, loaded_shows, moved_own, shows_loaded}

-- ---- loads, one after another

pub loads_more : (v u w : View) (f : Flight) (l first more : List Known) → length v.own ≡ 1 → Loads v first u → w ≡ moved u f l (loads_of u ++ more) (put_of u) → Loads v (first ++ more) w
loads_more v u w f l first more single before after =
    let next = moved_again v u (actor u).flight u.lasting (loads_of v ++ first) (put_of v) single before w f l (loads_of u ++ more) (put_of u) after in
    let loads : loads_of u ++ more ≡ loads_of v ++ (first ++ more) = ap (λ (x : List Known). x ++ more) (loads_moved v u (actor u).flight u.lasting (loads_of v ++ first) (put_of v) single before) ∙ append_assoc (loads_of v) first more in
    let put : put_of u ≡ put_of v = put_moved v u (actor u).flight u.lasting (loads_of v ++ first) (put_of v) single before in
    moved_own v w f l (loads_of v ++ (first ++ more)) (put_of v) single (next ∙ (λ i. moved v f l (loads i) (put i)))

pub loads_first : (v w : View) (f : Flight) (l more : List Known) → length v.own ≡ 1 → w ≡ moved v f l (loads_of v ++ more) (put_of v) → Loads v more w
loads_first v w f l more single is = moved_own v w f l (loads_of v ++ more) (put_of v) single is

pub map_of : (v w : View) (more : List Known) → Loads v more w → w.map ≡ v.map
map_of v w more is = ap (λ (x : View). x.map) is

pub told_of : (v w : View) (more : List Known) → length v.own ≡ 1 → Loads v more w → actor w ≡ flying (actor v) (actor w).flight w.lasting
told_of v w more single is = actor_moved v w (actor w).flight w.lasting (loads_of v ++ more) (put_of v) single is

pub one_own : (place word : ℕ) → HEAD_WORDS ≤ place → AreOwn (record { place = place; word = word } ∷ [])
one_own place word high zero d lt = high
one_own place word high (suc j) d lt = absurd (omega (arith, lt))

abbrev pub searches_one : (v w : View) (place word : ℕ) → length v.own ≡ 1 → HEAD_WORDS ≤ place → Loaded v place None word w → Searches v w
searches_one v w place word single high loaded = record {
  more = record { place = place; word = word } ∷ [];
  view = loads_first v w (actor v).flight _ (record { place = place; word = word } ∷ []) single loaded.0;
  flight = ap (λ (a : Actor). a.flight) (loaded_is v w place word single loaded);
  so = loaded.1.so;
  shows = loaded_shows v w place word single loaded;
  own = one_own place word high;
}

abbrev pub searches_more : (v u w : View) (place word : ℕ) → length v.own ≡ 1 → length u.own ≡ 1 → HEAD_WORDS ≤ place → Searches v u → Loaded u place None word w → Searches v w
searches_more v u w place word single one high before loaded = record {
  more = before.more ++ record { place = place; word = word } ∷ [];
  view = loads_more v u w (actor u).flight _ before.more (record { place = place; word = word } ∷ []) single before.view loaded.0;
  flight = ap (λ (a : Actor). a.flight) (loaded_is u w place word one loaded) ∙ before.flight;
  so = loaded.1.so;
  shows = λ q x h. loaded_shows u w place word one loaded q x (before.shows q x h);
  own = All-append (λ (k : Known). HEAD_WORDS ≤ k.place) before.more (record { place = place; word = word } ∷ []) before.own (one_own place word high);
}

-- ---- places

pub high_current : (m : Areas) (t d : ℕ) → HEAD_WORDS ≤ current_at m t d
high_current m t d = omega arith

pub high_page : (m : Areas) (p j : ℕ) → HEAD_WORDS ≤ page_at m p + j
high_page m p j = omega arith

-- ---- room in the current page

module _ (v u : View) (current depth size : ℕ) (single : length v.own ≡ 1) (quiet : IsQuiet v) (deep : depth ≡ (actor v).told.depth) (low : depth ≤ max_depth v.map)
    (loaded : Loaded v (current_at v.map (actor v).thread depth) None current u) where
  abbrev first_searches : Searches v u
  first_searches = searches_one v u (current_at v.map (actor v).thread depth) current single (high_current v.map (actor v).thread depth) loaded

  same : actor u ≡ flying (actor v) (actor v).flight (actor u).lasting
  same = loaded_same v u (current_at v.map (actor v).thread depth) current single loaded

  map_same : u.map ≡ v.map
  map_same = ap (λ (x : View). x.map) loaded.0

  thread_same : (actor u).thread ≡ (actor v).thread
  thread_same = ap (λ (a : Actor). a.thread) same

  depth_same : (actor u).told.depth ≡ depth
  depth_same = ap (λ (a : Actor). a.told.depth) same ∙ sym deep

  shown : Shows (actor u) (current_at u.map (actor u).thread (actor u).told.depth) current
  shown = subst (λ (p : ℕ). Shows (actor u) p current) (λ i. current_at (sym map_same i) (sym thread_same i) (sym depth_same i)) (shows_loaded v u (current_at v.map (actor v).thread depth) current single quiet loaded)

  was : WasLoaded (record { place = current_at v.map (actor v).thread depth; word = current } ∷ []) (current_at v.map (first_thread v.own) (actor v).told.depth) current
  was = subst (λ (p : ℕ). WasLoaded (record { place = current_at v.map (actor v).thread depth; word = current } ∷ []) p current) (λ i. current_at v.map (sym (thread_in v) i) (deep i)) (front [] (record { place = current_at v.map (actor v).thread depth; word = current }))

  pub finds_no_current : current ≡ 0 → FindsNone v size u
  finds_no_current none = record {
    searches = first_searches;
    full = inl (subst (λ (n : ℕ). WasLoaded (record { place = current_at v.map (actor v).thread depth; word = current } ∷ []) (current_at v.map (first_thread v.own) (actor v).told.depth) n) none was);
    none = inl (subst (λ (n : ℕ). Shows (actor u) (current_at u.map (actor u).thread (actor u).told.depth) n) none shown);
  }

  low_now : (actor u).told.depth ≤ max_depth u.map
  low_now = let e = depth_same in omega (arith, e, low)

  pub current_page : current ≢ 0 → (current ≡ (current - 1) + 1) × (current - 1 < u.map.pages)
  current_page some = elim (loaded.1.so.sees.currents (actor u).told.depth current low_now shown) [
    | inl none ↦ absurd (some none)
    | inr page ↦ (omega (arith, page.1), omega (arith, page.1, page.2))
  ]

  pub holds : current ≢ 0 → HoldsPage u.map (actor u) (current - 1)
  holds some = ((current_page some).1, inl ((actor u).told.depth, low_now, subst (λ (n : ℕ). Shows (actor u) (current_at u.map (actor u).thread (actor u).told.depth) n) ((current_page some).0) shown))

  pub may_look : current ≢ 0 → MayLoad u.map (actor u) (page_at u.map (current - 1) + USED_MARK)
  may_look some = in_entry (current - 1) USED_MARK (holds some) (lit< tt) refl

  module _ (w : View) (used : ℕ) (one : length u.own ≡ 1) (some : current ≢ 0) (next : Loaded u (page_at u.map (current - 1) + USED_MARK) None used w) where
    abbrev searches : Searches v w
    searches = searches_more v u w (page_at u.map (current - 1) + USED_MARK) used single one (high_page u.map (current - 1) USED_MARK) first_searches next

    rests : IsQuiet u
    rests = first_searches.flight ∙ (quiet ∙ ap at_rest (thread_in v ∙ sym thread_same ∙ sym (thread_in u)))

    map_next : w.map ≡ u.map
    map_next = ap (λ (x : View). x.map) next.0

    last : actor w ≡ flying (actor u) (actor u).flight (actor w).lasting
    last = loaded_same u w (page_at u.map (current - 1) + USED_MARK) used one next

    pub in_current : IsInCurrent w.map (actor w) (current - 1) used
    in_current =
        let thread : (actor w).thread ≡ (actor u).thread = ap (λ (a : Actor). a.thread) last in
        let depth_now : (actor w).told.depth ≡ (actor u).told.depth = ap (λ (a : Actor). a.told.depth) last in
        let page : Shows (actor w) (current_at u.map (actor u).thread (actor u).told.depth) (current - 1 + 1) =
        loaded_shows u w (page_at u.map (current - 1) + USED_MARK) used one next _ _ (subst (λ (n : ℕ). Shows (actor u) (current_at u.map (actor u).thread (actor u).told.depth) n) ((current_page some).0) shown) in
        let mark = shows_loaded u w (page_at u.map (current - 1) + USED_MARK) used one rests next in (
          subst (λ (p : ℕ). Shows (actor w) p (current - 1 + 1)) (λ i. current_at (sym map_next i) (sym thread i) (sym depth_now i)) page,
          subst (λ (p : ℕ). Shows (actor w) p used) (λ i. page_at (sym map_next i) (current - 1) + USED_MARK) mark,
        )

    there : current - 1 < w.map.pages
    there = subst (λ (m : Areas). current - 1 < m.pages) (sym map_next) ((current_page some).1)

    pub used_most : used ≤ page_words w.map
    used_most =
        let d : (actor w).told.depth ≤ max_depth w.map = let e : (actor w).told.depth ≡ (actor u).told.depth = ap (λ (a : Actor). a.told.depth) last in let h = low_now in omega (arith, e, h) in
        next.1.so.sees.marks (current - 1) used (there, inl ((actor w).told.depth, d, in_current.0)) in_current.1

    pub finds_room : used + size ≤ page_words w.map → FindsRoom v size (record { page = current - 1; used = used; claimed = false }) w
    finds_room fits = record { searches = searches; there = there; fits = fits; current = in_current; unclaimed = refl }

    pub finds_none : page_words w.map < used + size → FindsNone v size w
    finds_none full = record {
      searches = searches;
      full = inr (
        current - 1,
        used,
        Contains-append_left (record { place = current_at v.map (actor v).thread depth; word = current } ∷ []) (record { place = page_at u.map (current - 1) + USED_MARK; word = used } ∷ []) _
            (subst (λ (n : ℕ). WasLoaded (record { place = current_at v.map (actor v).thread depth; word = current } ∷ []) (current_at v.map (first_thread v.own) (actor v).told.depth) n) ((current_page some).0) was),
        Contains-append_right (record { place = current_at v.map (actor v).thread depth; word = current } ∷ []) (record { place = page_at u.map (current - 1) + USED_MARK; word = used } ∷ []) _
            (subst (λ (m : Areas). WasLoaded (record { place = page_at u.map (current - 1) + USED_MARK; word = used } ∷ []) (page_at m (current - 1) + USED_MARK) used) map_same (front [] (record { place = page_at u.map (current - 1) + USED_MARK; word = used }))),
        full,
      );
      none = inr (current - 1, used, in_current, full);
    }
