-- A slot that is put into a thread's store buffer.
use Rattle.std.proofs.Common.{◌≡◌, ◌≢◌, ℕ, ◌+◌, ◌≤◌, ◌<◌, List, [], ◌∷◌, ◌++◌, length, zero, suc, refl, sym, ap, subst, ◌∙◌, arith, None}
use Rattle.object_layout.specs.declared.TheConstants.{OBJECT_WORDS}
use Rattle.object_layout.specs.declared.calls.Call.{Call}
use Rattle.heap_words.specs.declared.map.Areas.{Areas}
use Rattle.heap_words.specs.declared.TheConstants.{BUFFER_ENTRIES}
use Rattle.heap_words.specs.Map.{HasThread, heap_at}
use Rattle.calls_in_flight.specs.declared.notes.Cover.{Cover}
use Rattle.calls_in_flight.specs.declared.notes.Flight.{Flight}
use Rattle.calls_in_flight.specs.declared.notes.Known.{Known}
use Rattle.calls_in_flight.specs.Actors.{Actor, HasMet, Shows, learn, met}
use Rattle.calls_in_flight.specs.FieldSteps.{IsLogged, MeetsCrossing, StoresInto}
use Rattle.calls_in_flight.specs.Flight.{IsBare, at_rest}
use Rattle.calls_in_flight.specs.OwnStores.{MayStore, behind_buffer, logs}
use Rattle.calls_in_flight.specs.Steps.{entry_at, logged_at, slot_at, with_covers}
use Rattle.safepoint_gate.specs.declared.rule.View.{View}
use Rattle.safepoint_gate.specs.Singles.{IsQuiet, IsSo, Loaded, Stored, actor, loads_of, moved, put_of}
use Rattle.safepoint_gate.specs.Steps.{first_thread}
use Rattle.barriers.specs.Barred.{HasLogged, HasNoRoomToLog, OnlyLoads}
use Rattle.barriers.specs.Shown.{WasLoaded}
use Rattle.barriers.proofs.StillKnown.{Has, Keeps, keeps-crossing, keeps-store, keeps-stores, learns-beside, learns-word, met-shows, shows-met}
use Rattle.barriers.proofs.MovedViews.{actor-lasting, first-actor, length-with, loaded-met, loaded-word, loads-first, loads-loads, loads-map, loads-put, loads-quiet, moved-actor, moved-loads, moved-moved, moved-put}

-- no call in flight covers a place
pub none-bare : (p : ℕ) → IsBare [] p
none-bare p k d lt = absurd (omega (arith, lt))

pub one-bare : (c : Cover) (p : ℕ) → c.place ≢ p → IsBare (c ∷ []) p
one-bare c p ne zero d lt = ne
one-bare c p ne (suc k) d lt = absurd (omega (arith, lt))

pub quiet-rest : (v : View) → IsQuiet v → (actor v).flight ≡ at_rest (actor v).thread
quiet-rest v quiet = quiet ∙ ap at_rest (first-actor v)

pub quiet-none : (v : View) → IsQuiet v → (actor v).flight.covers ≡ []
quiet-none v quiet = ap (λ (f : Flight). f.covers) quiet

-- the length of the buffer, as it was loaded
module _ (v w : View) (n : ℕ) (quiet : IsQuiet v) (loaded : Loaded v (logged_at v.map (first_thread v.own)) None n w) where
  abbrev more : List Known
  more = record { place = logged_at v.map (first_thread v.own); word = n } ∷ []

  only : OnlyLoads v more (learn (logged_at v.map (first_thread v.own)) n v.lasting) w
  only = loaded.0

  pub length-shows : Shows (actor w) (logged_at w.map (actor w).thread) n
  length-shows =
      let map : w.map ≡ v.map = loads-map v w more _ only in
      let thread : (actor w).thread ≡ first_thread v.own = sym (first-actor w) ∙ loads-first v w more _ only in
      met-shows (actor w) (logged_at w.map (actor w).thread) n (quiet-none w (loads-quiet v w more _ only quiet))
      (subst (λ p. HasMet (actor w) p n) (λ i. logged_at (sym map i) (sym thread i)) (loaded-word v w (logged_at v.map (first_thread v.own)) n loaded))

  pub no-room : length v.own ≡ 1 → BUFFER_ENTRIES ≤ n → HasNoRoomToLog v w
  no-room one many =
      let shows : Shows (actor w) (logged_at w.map (first_thread w.own)) n = subst (λ t. Shows (actor w) (logged_at w.map t) n) (sym (first-actor w)) length-shows in
      let le : n ≤ BUFFER_ENTRIES = loaded.1.so.sees.logged n length-shows in
      let few : n ≤ put_of v = subst (λ x. n ≤ x) (loads-put v w more _ only one) (loaded.1.few n shows) in
      let is : n ≡ BUFFER_ENTRIES = omega (arith, le, many) in
      record {
        more = more;
        lasting = learn (logged_at v.map (first_thread v.own)) n v.lasting;
        view = only;
        so = loaded.1.so;
        full = subst (λ x. WasLoaded more (logged_at v.map (first_thread v.own)) x) is (zero, omega arith, refl);
        many = subst (λ x. x ≤ put_of v) is few;
        kept = loaded-met v w (logged_at v.map (first_thread v.own)) n loaded;
      }

-- the entry, and then the length
module _ (w : View) (one : length w.own ≡ 1) (quiet : IsQuiet w) (so : IsSo w) (n : ℕ) (shows : Shows (actor w) (logged_at w.map (actor w).thread) n) (room : n < BUFFER_ENTRIES) (asked : Call) (at field word : ℕ) (st : StoresInto w.map (actor w) asked at field word) (cr : MeetsCrossing w.map (actor w) at word) where
  m : Areas
  m = w.map

  abbrev a : Actor
  a = actor w

  abbrev E : ℕ
  E = entry_at w.map (actor w).thread n

  abbrev L : ℕ
  L = logged_at w.map (actor w).thread

  abbrev slot : ℕ
  slot = at + OBJECT_WORDS + field

  has_thread : HasThread w.map (actor w).thread
  has_thread = so.sees.thread

  apart : E ≢ L
  apart e = omega (arith, e)

  pub may-fill : MayStore w.map (actor w) (entry_at w.map (actor w).thread n) (at + OBJECT_WORDS + field) None
  may-fill = behind_buffer n slot shows room (subst (λ l. IsBare l E) (sym (quiet-none w quiet)) (none-bare E))

  slot_entry : (k : ℕ) → k < length a.told.stack → slot_at w.map (actor w).thread k ≢ E
  slot_entry k lt e = omega (arith, lt, so.sees.few_slots, e)

  slot_length : (k : ℕ) → slot_at w.map (actor w).thread k ≢ L
  slot_length k e = omega (arith, e)

  heap_entry : (x : ℕ) → heap_at w.map + x ≢ E
  heap_entry x e = omega (arith, e, room, has_thread.0, has_thread.1)

  heap_length_ : (x : ℕ) → heap_at w.map + x ≢ L
  heap_length_ x e = omega (arith, e, has_thread.0, has_thread.1)

  module _ (u : View) (s : Stored w (entry_at w.map (actor w).thread n) (at + OBJECT_WORDS + field) None u) where
    laid : (shown : ℕ) × ((was : ℕ) → HasMet a E was → shown ≡ was) × (s.flight ≡ with_covers a.flight (record { place = E; stands = slot; shown = shown } ∷ a.flight.covers))
    laid = s.flies.lays (subst (λ l. IsBare l E) (sym (quiet-none w quiet)) (none-bare E)) apart

    abbrev cover : Cover
    cover = record { place = E; stands = slot; shown = laid.0 }

    abbrev g : Flight
    g = with_covers (at_rest (actor w).thread) (cover ∷ [])

    flight-is : s.flight ≡ g
    flight-is = laid.2 ∙ ap (λ (f : Flight). with_covers f (cover ∷ f.covers)) (quiet-rest w quiet)

    abbrev b : Actor
    b = record (actor w) { flight = g; lasting = learn E slot w.lasting }

    actor-is : actor u ≡ b
    actor-is = ap actor s.view ∙ moved-actor w s.flight (learn E slot w.lasting) (loads_of w) s.put one ∙ ap (λ (f : Flight). record (actor w) { flight = f; lasting = learn E slot w.lasting }) flight-is

    map-is : u.map ≡ w.map
    map-is = ap (λ (x : View). x.map) s.view

    keeps-b : Keeps w.map w.map (actor w) b
    keeps-b = keeps-store w.map (actor w) g E slot w.lasting (sym (actor-lasting w)) slot_entry heap_entry
        (λ k lt. subst (λ l. IsBare l (slot_at w.map (actor w).thread k)) (sym (quiet-none w quiet)) (none-bare (slot_at w.map (actor w).thread k)))
        (λ k lt. one-bare cover (slot_at w.map (actor w).thread k) (λ e. slot_entry k lt (sym e)))

    st-b : StoresInto w.map b asked at field word
    st-b = keeps-stores w.map w.map (actor w) b keeps-b asked at field word st

    cr-b : MeetsCrossing w.map b at word
    cr-b = keeps-crossing w.map w.map (actor w) b keeps-b at word cr

    shows-b : Shows b L n
    shows-b = met (one-bare cover L apart) (learns-beside E slot L n w.lasting (λ e. apart (sym e)) (subst (λ l. Has l L n) (actor-lasting w) (shows-met (actor w) L n (quiet-none w quiet) shows)))

    pub may-log : MayStore u.map (actor u) (logged_at u.map (actor u).thread) (n + 1) None
    may-log =
        subst (λ (x : Areas × Actor). MayStore x.0 x.1 (logged_at x.0 x.1.thread) (n + 1) None) (λ i. (sym map-is i, sym actor-is i))
        (logs n cover asked at field word shows-b room refl refl refl st-b cr-b)

    module _ (z : View) (t : Stored u (logged_at u.map (actor u).thread) (n + 1) None z) where
      one-u : length u.own ≡ 1
      one-u = ap (λ (x : View). length x.own) s.view ∙ length-with w.own s.flight (loads_of w) s.put ∙ one

      abbrev d : Actor
      d = record b { flight = at_rest (actor w).thread; lasting = learn L (n + 1) (learn E slot w.lasting) }

      thread-u : (actor u).thread ≡ (actor w).thread
      thread-u = ap (λ (x : Actor). x.thread) actor-is

      place-is : logged_at u.map (actor u).thread ≡ L
      place-is = λ i. logged_at (map-is i) (thread-u i)

      rests : t.flight ≡ at_rest (actor w).thread
      rests = t.flies.logs refl ∙ ap at_rest thread-u

      put-is : t.put ≡ put_of w + 1
      put-is =
          t.one_more (ap (logged_at u.map) (sym (first-actor u))) ∙ ap (λ x. x + 1) (ap put_of s.view ∙ moved-put w s.flight (learn E slot w.lasting) (loads_of w) s.put one
          ∙ s.no_more (λ e. apart (e ∙ ap (logged_at w.map) (first-actor w))))

      loads-is : loads_of u ≡ loads_of w
      loads-is = ap loads_of s.view ∙ moved-loads w s.flight (learn E slot w.lasting) (loads_of w) s.put one

      lasting-u : u.lasting ≡ learn E slot w.lasting
      lasting-u = ap (λ (x : View). x.lasting) s.view

      view-w : z ≡ moved w (at_rest (actor w).thread) (learn L (n + 1) (learn E slot w.lasting)) (loads_of w) (put_of w + 1)
      view-w =
          t.view ∙ (λ i. moved u (rests i) (learn (place-is i) (n + 1) (lasting-u i)) (loads-is i) (put-is i))
          ∙ ap (λ (x : View). moved x (at_rest (actor w).thread) (learn L (n + 1) (learn E slot w.lasting)) (loads_of w) (put_of w + 1)) s.view
          ∙ moved-moved w s.flight (at_rest (actor w).thread) (learn E slot w.lasting) (learn L (n + 1) (learn E slot w.lasting)) (loads_of w) (loads_of w) s.put (put_of w + 1)

      actor-z : actor z ≡ d
      actor-z = ap actor view-w ∙ moved-actor w (at_rest (actor w).thread) (learn L (n + 1) (learn E slot w.lasting)) (loads_of w) (put_of w + 1) one

      map-z : z.map ≡ w.map
      map-z = ap (λ (x : View). x.map) view-w

      keeps-d : Keeps w.map w.map b d
      keeps-d = keeps-store w.map b (at_rest (actor w).thread) L (n + 1) (learn E slot w.lasting) refl (λ k lt. slot_length k) heap_length_
          (λ k lt. one-bare cover (slot_at w.map (actor w).thread k) (λ e. slot_entry k lt (sym e)))
          (λ k lt. none-bare (slot_at w.map (actor w).thread k))

      logged-d : IsLogged w.map d slot
      logged-d = (n + 1, n, met (none-bare L) (learns-word L (n + 1) (learn E slot w.lasting)), omega arith, met (none-bare E) (learns-beside L (n + 1) E slot (learn E slot w.lasting) apart (learns-word E slot w.lasting)))

      pub has-logged : (v : View) (loads lasting : List Known) → OnlyLoads v loads lasting w → length v.own ≡ 1 → WasLoaded loads (logged_at v.map (first_thread v.own)) n → HasLogged v asked at field word z
      has-logged v loads lasting only one-v was =
          let thread : (actor w).thread ≡ first_thread v.own = sym (first-actor w) ∙ loads-first v w loads lasting only in
          record {
            more = loads;
            lasting = learn L (n + 1) (learn E slot w.lasting);
            view = view-w ∙ (λ i. moved w (at_rest (thread i)) (learn L (n + 1) (learn E slot w.lasting)) (loads-loads v w loads lasting only one-v i) (loads-put v w loads lasting only one-v i + 1))
                ∙ ap (λ (x : View). moved x (at_rest (first_thread v.own)) (learn L (n + 1) (learn E slot w.lasting)) (loads_of v ++ loads) (put_of v + 1)) only
                ∙ moved-moved v (actor v).flight (at_rest (first_thread v.own)) lasting (learn L (n + 1) (learn E slot w.lasting)) (loads_of v ++ loads) (loads_of v ++ loads) (put_of v) (put_of v + 1);
            stores = subst (λ (x : Areas × Actor). StoresInto x.0 x.1 asked at field word) (λ i. (sym map-z i, sym actor-z i)) (keeps-stores w.map w.map b d keeps-d asked at field word st-b);
            crossing = subst (λ (x : Areas × Actor). MeetsCrossing x.0 x.1 at word) (λ i. (sym map-z i, sym actor-z i)) (keeps-crossing w.map w.map b d keeps-d at word cr-b);
            logged = subst (λ (x : Areas × Actor). IsLogged x.0 x.1 slot) (λ i. (sym map-z i, sym actor-z i)) logged-d;
            shown = (n, was, room);
          }
