-- What a thread knows of the room for a new object, as it stores words of its own.
use Rattle.std.proofs.Common.{lit<, ◌≡◌, ◌≢◌, ℕ, zero, suc, ◌+◌, ◌≤◌, ◌<◌, Bool, true, false, List, [], ◌∷◌, length, refl, sym, ap, ◌∙◌, subst, arith, inl, inr}
use Rattle.std.specs.Prelude.{◌⊎◌, None}
use Rattle.std.specs.List.{All}
use Rattle.std.proofs.lemmas.Bool.{cases_eq}
use Rattle.object_layout.specs.declared.TheConstants.{OBJECT_WORDS}
use Rattle.object_layout.specs.declared.headers.Header.{Header}
use Rattle.object_layout.specs.declared.names.Name.{Name}
use Rattle.object_layout.specs.Layout.{header_word, name_word}
use Rattle.yak_model.specs.Graph.{Thread}
use Rattle.heap_words.specs.declared.map.Areas.{Areas}
use Rattle.heap_words.specs.Map.{HasThread, heap_at, max_depth, page_at, pool_at, table_at, block_at, block_words}
use Rattle.region_pages.specs.declared.TheConstants.{USED_MARK}
use Rattle.calls_in_flight.specs.declared.notes.Cover.{Cover}
use Rattle.calls_in_flight.specs.declared.notes.Flight.{Flight}
use Rattle.calls_in_flight.specs.declared.notes.Known.{Known}
use Rattle.calls_in_flight.specs.Flight.{IsBare, at_rest}
use Rattle.calls_in_flight.specs.Actors.{Actor, HasMet, Shows}
use Rattle.calls_in_flight.specs.Making.{LiesAt}
use Rattle.calls_in_flight.specs.OwnStores.{HasNoRoomFor, IsInCurrent, MayStore, Placing, front_of, in_object}
use Rattle.calls_in_flight.specs.Steps.{current_at, logged_at, with_covers}
use Rattle.safepoint_gate.specs.declared.rule.Own.{Own}
use Rattle.safepoint_gate.specs.declared.rule.View.{View}
use Rattle.safepoint_gate.specs.declared.seats.Inside.{Inside}
use Rattle.safepoint_gate.specs.Singles.{Stored, acting, actor, actor_in, loads_in, loads_of, moved, put_in, put_of, with_call}
use Rattle.mutator.specs.declared.new_objects.Room.{Room}
use Rattle.mutator.specs.Making.{Flies, HasRoom, KeepsShown, WritesObject}
use Rattle.mutator.proofs.Answering.{actor_moved, flying, loads_moved, moved_again, put_moved, thread_in}
use Rattle.mutator.proofs.Looking.{Laid, front, laid_shows, learned, still_met, stores_lay}

-- ---- views

pub still : (v : View) → Flies v v
still v = ap (λ (own : List Own). acting v own v.lasting) (of v.own v.lasting)
  where
    of : (own : List Own) (lasting : List Known) → own ≡ with_call own (actor_in own lasting).flight (loads_in own) (put_in own)
    of [] lasting = refl
    of (o ∷ own) lasting = refl

pub flies_more : (v u w : View) → length v.own ≡ 1 → Flies v u → Flies u w → Flies v w
flies_more v u w single before after =
    let next = moved_again v u (actor u).flight u.lasting (loads_of v) (put_of v) single before w (actor w).flight w.lasting (loads_of u) (put_of u) after in
    let loads : loads_of u ≡ loads_of v = loads_moved v u (actor u).flight u.lasting (loads_of v) (put_of v) single before in
    let put : put_of u ≡ put_of v = put_moved v u (actor u).flight u.lasting (loads_of v) (put_of v) single before in
    next ∙ (λ i. moved v (actor w).flight w.lasting (loads i) (put i))

pub flies_is : (v w : View) → length v.own ≡ 1 → Flies v w → actor w ≡ flying (actor v) (actor w).flight w.lasting
flies_is v w single is = actor_moved v w (actor w).flight w.lasting (loads_of v) (put_of v) single is

pub flies_map : (v w : View) → Flies v w → w.map ≡ v.map
flies_map v w is = ap (λ (x : View). x.map) is

-- ---- room that is still there

module _ (m n : Areas) (a b : Actor) (map : n ≡ m) (thread : b.thread ≡ a.thread) (told : b.told ≡ a.told) (shows : (place word : ℕ) → Shows a place word → Shows b place word) where
  pub current_kept : (p used : ℕ) → IsInCurrent m a p used → IsInCurrent n b p used
  current_kept p used h = (
    subst (λ (q : ℕ). Shows b q (p + 1)) (λ i. current_at (sym map i) (sym thread i) (sym told i).depth) (shows _ _ h.0),
    subst (λ (q : ℕ). Shows b q used) (λ i. page_at (sym map i) p + USED_MARK) (shows _ _ h.1),
  )

  pub no_room_kept : (size : ℕ) → HasNoRoomFor m a size → HasNoRoomFor n b size
  no_room_kept size (inl none) = inl (subst (λ (q : ℕ). Shows b q 0) (λ i. current_at (sym map i) (sym thread i) (sym told i).depth) (shows _ _ none))
  no_room_kept size (inr full) = inr (full.0, full.1, current_kept full.0 full.1 full.2, full.3)

  abbrev pub placing_kept : b.flight.claimed ≡ a.flight.claimed → Placing m a → Placing n b
  placing_kept claimed p = record {
    fields = p.fields;
    few = p.few;
    page = p.page;
    there = subst (λ (x : Areas). p.page < x.pages) (sym map) p.there;
    deep = subst (λ (x : Thread). x.depth ≤ max_depth n) (sym told) p.deep;
    used = p.used;
    fits = p.fits;
    placed = elim p.placed [
      | inl current ↦ inl (current_kept p.page p.used current)
      | inr front ↦ inr (front.0, claimed ∙ front.1, no_room_kept (p.fields + OBJECT_WORDS) front.2)
    ];
  }

  pub room_kept : (room : Room) (fields : ℕ) (covers now : List Cover) → b.flight ≡ with_covers a.flight now → HasRoom m a room fields covers → HasRoom n b room fields now
  room_kept room fields covers now flight h = record {
    few = h.few;
    there = subst (λ (x : Areas). room.page < x.pages) (sym map) h.there;
    deep = subst (λ (x : Thread). x.depth ≤ max_depth n) (sym told) h.deep;
    fits = h.fits;
    in_current = λ no. (current_kept room.page room.used (h.in_current no).0, flight ∙ ap (λ (f : Flight). with_covers f now) ((h.in_current no).1) ∙ ap (λ (t : ℕ). record (at_rest t) { covers = now }) (sym thread));
    on_claimed = λ yes. ((h.on_claimed yes).0, no_room_kept (fields + OBJECT_WORDS) ((h.on_claimed yes).1), flight ∙ ap (λ (f : Flight). with_covers f now) ((h.on_claimed yes).2) ∙ ap (λ (t : ℕ). record (at_rest t) { covers = now; claimed = room.page ∷ [] }) (sym thread));
  }

pub placed_by : (m : Areas) (a : Actor) (room : Room) (fields : ℕ) (covers : List Cover) (h : HasRoom m a room fields covers) (b : Bool) → room.claimed ≡ b
    → IsInCurrent m a room.page room.used ⊎ ((room.used ≡ 0) × (a.flight.claimed ≡ room.page ∷ []) × HasNoRoomFor m a (fields + OBJECT_WORDS))
placed_by m a room fields covers h false e = inl (h.in_current e).0
placed_by m a room fields covers h true e = inr ((h.on_claimed e).0, ap (λ (f : Flight). f.claimed) ((h.on_claimed e).2), (h.on_claimed e).1)

abbrev pub placing_of : (m : Areas) (a : Actor) (room : Room) (fields : ℕ) (covers : List Cover) → HasRoom m a room fields covers → Placing m a
placing_of m a room fields covers h = record {
  fields = fields;
  few = h.few;
  page = room.page;
  there = h.there;
  deep = h.deep;
  used = room.used;
  fits = h.fits;
  placed = placed_by m a room fields covers h room.claimed refl;
}

-- ---- words of the object

-- the first words of it were stored, so many
pub record Wrote (v : View) (from count : ℕ) (w : View) : Type 0 where
  pub view : Flies v w
  pub object : List Cover
  pub lies : All (LiesAt v.map from (from + count)) object
  pub flight : (actor w).flight ≡ with_covers (actor v).flight object
  pub shows : KeepsShown v w

pub wrote_none : (v : View) (from : ℕ) → (actor v).flight.covers ≡ [] → Wrote v from 0 v
wrote_none v from none = record {
  view = still v;
  object = [];
  lies = λ j d h. absurd (omega (arith, h));
  flight = ap (with_covers (actor v).flight) none;
  shows = λ q x h. h;
}

pub block_below : (m : Areas) (t j : ℕ) → HasThread m t → j < block_words m → block_at m t + j < table_at m
block_below m t j h lt = omega (arith, h.0, h.1, lt)

pub table_below : (m : Areas) → table_at m ≤ pool_at m
table_below m = omega arith

pub pool_below : (m : Areas) → pool_at m + m.pages ≤ heap_at m
pool_below m = omega arith

module _ (v w : View) (from count : ℕ) (single : length v.own ≡ 1) (before : Wrote v from count w) where
  same_map : w.map ≡ v.map
  same_map = flies_map v w before.view

  same_actor : actor w ≡ flying (actor v) (actor w).flight w.lasting
  same_actor = flies_is v w single before.view

  pub next_bare : (place : ℕ) → place ≡ heap_at v.map + (from + count) → IsBare (actor w).flight.covers place
  next_bare place at = subst (λ (f : Flight). IsBare f.covers place) (sym before.flight) (λ j d lt. let l = before.lies j d lt in λ e. absurd (omega (arith, l.1, e, at)))

  pub may_write : (p : Placing v.map (actor v)) → from ≡ front_of p → count < p.fields + OBJECT_WORDS → (place word : ℕ) → place ≡ heap_at w.map + (from + count) → MayStore w.map (actor w) place word None
  may_write p front lt place word at =
      let thread : (actor w).thread ≡ (actor v).thread = ap (λ (a : Actor). a.thread) same_actor in
      let told : (actor w).told ≡ (actor v).told = ap (λ (a : Actor). a.told) same_actor in
      let claimed : (actor w).flight.claimed ≡ (actor v).flight.claimed = ap (λ (f : Flight). f.claimed) before.flight in
      let there : heap_at w.map + (front_of (placing_kept v.map w.map (actor v) (actor w) same_map thread told before.shows claimed p) + count) ≡ place = ap (λ (x : ℕ). heap_at w.map + (x + count)) (sym front) ∙ sym at in
      let bare : IsBare (actor w).flight.covers place = next_bare place (at ∙ ap (λ (m : Areas). heap_at m + (from + count)) same_map) in
      subst (λ (q : ℕ). MayStore w.map (actor w) q word None) there
      (in_object (placing_kept v.map w.map (actor v) (actor w) same_map thread told before.shows claimed p) count word lt (subst (λ (q : ℕ). IsBare (actor w).flight.covers q) (sym there) bare))

  module _ (u : View) (place word : ℕ) (one : length w.own ≡ 1) (thread : HasThread v.map (actor v).thread) (at : place ≡ heap_at v.map + (from + count)) (stored : Stored w place word None u) where
    apart : place ≢ logged_at w.map (actor w).thread
    apart e =
        let where_ : logged_at w.map (actor w).thread ≡ logged_at v.map (actor v).thread = (λ i. logged_at (same_map i) (same_actor i).thread) in
        let b = block_below v.map (actor v).thread 3 thread (lit< tt) in
        let t = table_below v.map in
        let p = pool_below v.map in
        absurd (omega (arith, e, where_, at, b, t, p))

    pub lays_next : Laid w place word u
    lays_next = stores_lay w u place word one (next_bare place at) apart stored

    pub wrote_more : Wrote v from (count + 1) u
    wrote_more =
        let l = lays_next in
        let cover : Cover = record { place = place; stands = word; shown = l.shown } in
        record {
          view = flies_more v w u single before.view l.view;
          object = cover ∷ before.object;
          lies = more_lie cover before.object (omega (arith, at), omega (arith, at)) before.lies;
          flight = ap (λ (a : Actor). a.flight) l.actor_is ∙ ap (λ (f : Flight). with_covers f (cover ∷ f.covers)) before.flight;
          shows = λ q x h. subst (λ (a : Actor). Shows a q x) (sym l.actor_is) (laid_shows (actor w) place word l.shown (next_bare place at) l.was q x (before.shows q x h));
        }
      where
        more_lie : (k : Cover) (ks : List Cover) → LiesAt v.map from (from + (count + 1)) k → All (LiesAt v.map from (from + count)) ks → All (LiesAt v.map from (from + (count + 1))) (k ∷ ks)
        more_lie k ks here later zero d lt = here
        more_lie k ks here later (suc j) d lt = let l = later j d (omega (arith, lt)) in (l.0, omega (arith, l.1))

    pub met_next : HasMet (actor u) place word
    met_next = subst (λ (a : Actor). HasMet a place word) (sym lays_next.actor_is) (learned place word (actor w).lasting)

    pub met_before : (q x : ℕ) → q ≢ place → HasMet (actor w) q x → HasMet (actor u) q x
    met_before q x ne h = subst (λ (a : Actor). HasMet a q x) (sym lays_next.actor_is) (still_met place word (actor w).lasting q x ne h)

abbrev pub wrote_of : (v w : View) (from : ℕ) (header : Header) (name : Name) (count : ℕ) → WritesObject v from header name count w → Wrote v from count w
wrote_of v w from header name count h = record { view = h.view; object = h.object; lies = h.lies; flight = h.flight; shows = h.shows }

-- the header and the name were stored
pub names_object : (v u w : View) (from at next word name_at : ℕ) (header : Header) (name : Name) (single : length v.own ≡ 1) (one : length u.own ≡ 1) (thread : HasThread v.map (actor v).thread) → (actor v).flight.covers ≡ []
    → at ≡ heap_at v.map + from → next ≡ heap_at v.map + (from + 1) → word ≡ header_word header → name_at ≡ name_word name → Stored v at word None u → Stored u next name_at None w → WritesObject v from header name 2 w
names_object v u w from at next word name_at header name single one thread none here there is_header is_name first second =
    let w0 = wrote_none v from none in
    let at0 : at ≡ heap_at v.map + (from + 0) = omega (arith, here) in
    let w1 = wrote_more v v from 0 single w0 u at word single thread at0 first in
    let m1 = met_next v v from 0 single w0 u at word single thread at0 first in
    let w2 = wrote_more v u from 1 single w1 w next name_at one thread there second in
    let m2 = met_next v u from 1 single w1 w next name_at one thread there second in
    let ne : at ≢ next = λ e. absurd (omega (arith, e, here, there)) in
    let m3 = met_before v u from 1 single w1 w next name_at one thread there second at word ne m1 in
    record {
      view = w2.view;
      object = w2.object;
      lies = w2.lies;
      flight = w2.flight;
      shows = w2.shows;
      header_met = subst (λ (x : ℕ × ℕ). HasMet (actor w) x.0 x.1) (λ i. (here i, is_header i)) m3;
      name_met = subst (λ (x : ℕ × ℕ). HasMet (actor w) x.0 x.1) (λ i. (there i, is_name i)) m2;
      zero_met = λ i low high. absurd (omega (arith, low, high));
    }

-- a word of 0 more
pub writes_more : (v w u : View) (from at i : ℕ) (header : Header) (name : Name) (single : length v.own ≡ 1) (one : length w.own ≡ 1) (thread : HasThread v.map (actor v).thread) → 2 ≤ i → at ≡ heap_at v.map + (from + i)
    → WritesObject v from header name i w → Stored w at 0 None u → WritesObject v from header name (i + 1) u
writes_more v w u from at i header name single one thread two here h stored =
    let w1 = wrote_of v w from header name i h in
    let more = wrote_more v w from i single w1 u at 0 one thread here stored in
    let now = met_next v w from i single w1 u at 0 one thread here stored in
    record {
      view = more.view;
      object = more.object;
      lies = more.lies;
      flight = more.flight;
      shows = more.shows;
      header_met = met_before v w from i single w1 u at 0 one thread here stored (heap_at v.map + from) _ (λ e. absurd (omega (arith, e, here, two))) h.header_met;
      name_met = met_before v w from i single w1 u at 0 one thread here stored (heap_at v.map + (from + 1)) _ (λ e. absurd (omega (arith, e, here, two))) h.name_met;
      zero_met = λ j low high. elim (cases_eq j i) [
        | inl same ↦ subst (λ (q : ℕ). HasMet (actor u) q 0) (here ∙ ap (λ (x : ℕ). heap_at v.map + (from + x)) (sym same)) now
        | inr other ↦ met_before v w from i single w1 u at 0 one thread here stored (heap_at v.map + (from + j)) 0 (λ e. other (omega (arith, e, here))) (h.zero_met j low (omega (arith, high, other)))
      ];
    }

-- the heap has the thread of a seat
pub thread_of_seat : (inside : Inside) → HasThread inside.seat.me.0.map (actor inside.seat.me.0).thread
thread_of_seat inside = subst (HasThread inside.seat.me.0.map) (sym inside.numbered ∙ thread_in inside.seat.me.0) inside.threaded
