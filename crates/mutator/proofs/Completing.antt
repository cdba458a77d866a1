-- The last words of a new object, and its entry.
use Rattle.std.proofs.Common.{lit<, ◌≡◌, ◌≢◌, ℕ, ◌+◌, ◌*◌, ◌≤◌, ◌<◌, Bool, true, false, List, [], ◌∷◌, length, refl, sym, ap, ◌∙◌, subst, arith, inl, inr}
use Rattle.std.specs.Prelude.{◌⊎◌, Some, None}
use Rattle.std.specs.List.{All}
use Rattle.object_layout.specs.declared.TheConstants.{MAX_SERIAL, OBJECT_WORDS}
use Rattle.object_layout.specs.declared.calls.Call.TheVariants.{New}
use Rattle.object_layout.specs.declared.headers.Header.{Header}
use Rattle.object_layout.specs.declared.names.Name.{Name}
use Rattle.object_layout.specs.declared.replies.Reply.TheVariants.{Ok}
use Rattle.object_layout.specs.Layout.{header_word, name_word}
use Rattle.yak_model.specs.Graph.{Thread}
use Rattle.heap_words.specs.declared.TheConstants.{STACK_SLOTS}
use Rattle.heap_words.specs.declared.map.Areas.{Areas}
use Rattle.heap_words.specs.Map.{HasThread, block_at, heap_at, page_words, stack_start, table_at}
use Rattle.epoch_lattice.specs.Lattice.{inner_of, space_index}
use Rattle.calls_in_flight.specs.declared.notes.Cover.{Cover}
use Rattle.calls_in_flight.specs.declared.notes.Flight.{Flight}
use Rattle.calls_in_flight.specs.Flight.{IsBare}
use Rattle.calls_in_flight.specs.Actors.{Actor, HasMet, Shows}
use Rattle.calls_in_flight.specs.OwnStores.{IsLaid, IsMade, MayStore, Placing, above_stack, counts, done_by, in_current, makes, on_claimed}
use Rattle.calls_in_flight.specs.Steps.{current_at, length_at, logged_at, made_at, slot_at, with_covers}
use Rattle.safepoint_gate.specs.declared.rule.View.{View}
use Rattle.safepoint_gate.specs.Singles.{Stored, actor}
use Rattle.mutator.specs.declared.new_objects.Room.{Room}
use Rattle.mutator.specs.Quick.{Answers, told_by}
use Rattle.mutator.specs.Making.{EntersPage, Flies, HasRoom, WritesObject, entry_over, mark_over, page_over}
use Rattle.mutator.proofs.Answering.{answers_by_store, flying}
use Rattle.mutator.proofs.Looking.{Laid, bare_met, stores_lay}
use Rattle.mutator.proofs.Placed.{block_below, flies_is, flies_map, flies_more, placing_of, pool_below, room_kept, table_below}
use Rattle.mutator.proofs.Entering.{bare_low, bare_more, cover_at, laid_flight, laid_keeps, laid_met}

either : (b : Bool) → (b ≡ false) ⊎ (b ≡ true)
either false = inl refl
either true = inr refl

-- nothing is covered before the first word
pub none_covered : (m : Areas) (a : Actor) (room : Room) (fields : ℕ) → HasRoom m a room fields [] → a.flight.covers ≡ []
none_covered m a room fields h = elim (either room.claimed) [
  | inl unclaimed ↦ ap (λ (f : Flight). f.covers) ((h.in_current unclaimed).1)
  | inr claimed ↦ ap (λ (f : Flight). f.covers) ((h.on_claimed claimed).2)
]

-- what was seen of the thread after a step, in the frame of the view before
abbrev pub seen : View → View → Actor
seen v w = flying (actor v) (actor w).flight w.lasting

module _ (v w1 : View) (room : Room) (k : ℕ) (header : Header) (name : Name) (single : length v.own ≡ 1) (thread : HasThread v.map (actor v).thread) (h : HasRoom v.map (actor v) room k [])
    (written : WritesObject v (page_words v.map * room.page + room.used) header name (k + OBJECT_WORDS) w1) where
  abbrev m : Areas
  m = v.map

  abbrev t : ℕ
  t = (actor v).thread

  abbrev told : Thread
  told = (actor v).told

  abbrev front_at : ℕ
  front_at = page_words v.map * room.page + room.used

  abbrev object : List Cover
  object = written.object

  is1 : actor w1 ≡ seen v w1
  is1 = flies_is v w1 single written.view

  map1 : w1.map ≡ v.map
  map1 = flies_map v w1 written.view

  pub object_high : All (λ (c : Cover). heap_at v.map ≤ c.place) written.object
  object_high j d lt = let l = written.lies j d lt in omega (arith, l.0)

  -- the room is still there
  pub room_then : HasRoom w1.map (actor w1) room k (actor w1).flight.covers
  room_then = room_kept v.map w1.map (actor v) (actor w1) map1 (ap (λ (a : Actor). a.thread) is1) (ap (λ (a : Actor). a.told) is1) written.shows room k [] (actor w1).flight.covers
      (written.flight ∙ ap (λ (f : Flight). with_covers (actor v).flight f.covers) (sym written.flight)) h

  pub high_then : All (λ (c : Cover). heap_at w1.map ≤ c.place) (actor w1).flight.covers
  high_then = subst (λ (y : Areas × List Cover). All (λ (c : Cover). heap_at y.0 ≤ c.place) y.1) (λ i. (sym map1 i, sym (ap (λ (f : Flight). f.covers) written.flight) i)) object_high

  module _ (w2 : View) (one : length w1.own ≡ 1) (entered : EntersPage w1 room (k + OBJECT_WORDS) w2) where
    fly2 : Flies v w2
    fly2 = flies_more v w1 w2 single written.view entered.view

    is2 : actor w2 ≡ seen v w2
    is2 = flies_is v w2 single fly2

    map2 : w2.map ≡ v.map
    map2 = flies_map v w2 fly2

    shows2 : (q x : ℕ) → Shows (actor v) q x → Shows (seen v w2) q x
    shows2 q x s = subst (λ (a : Actor). Shows a q x) is2 (entered.shows q x (written.shows q x s))

    -- the covers by then
    flight_current : room.claimed ≡ false → (actor w2).flight ≡ with_covers (actor v).flight (mark_over v.map room (k + OBJECT_WORDS) room.used ∷ written.object)
    flight_current unclaimed = entered.in_current unclaimed ∙ (λ i. with_covers (written.flight i) (mark_over (map1 i) room (k + OBJECT_WORDS) room.used ∷ (written.flight i).covers))

    abbrev on_page : ℕ → ℕ → ℕ → List Cover
    on_page current mark entry = page_over v.map (actor v) room current ∷ mark_over v.map room (k + OBJECT_WORDS) mark ∷ entry_over v.map (actor v) room entry ∷ written.object

    flight_claimed : room.claimed ≡ true → (current : ℕ) × (mark : ℕ) × (entry : ℕ) × ((actor w2).flight ≡ with_covers (actor v).flight (on_page current mark entry))
    flight_claimed claimed =
        let e = entered.on_claimed claimed in
        (e.0, e.1, e.2, e.3 ∙ (λ i. with_covers (written.flight i) (page_over (map1 i) (is1 i) room e.0 ∷ mark_over (map1 i) room (k + OBJECT_WORDS) e.1 ∷ entry_over (map1 i) (is1 i) room e.2 ∷ (written.flight i).covers)))

    -- a place of the block that is no current page is bare
    bare_block : (j : ℕ) → block_at v.map (actor v).thread + j < table_at v.map → block_at v.map (actor v).thread + j ≢ current_at v.map (actor v).thread (actor v).told.depth → IsBare (actor w2).flight.covers (block_at v.map (actor v).thread + j)
    bare_block j low other =
        let tb = table_below v.map in
        let pb = pool_below v.map in
        let under_heap : block_at v.map (actor v).thread + j < heap_at v.map = omega (arith, low, tb, pb) in
        let rest = bare_low v.map written.object (block_at v.map (actor v).thread + j) object_high under_heap in
        elim (either room.claimed) [
          | inl unclaimed ↦ subst (λ (f : Flight). IsBare f.covers (block_at v.map (actor v).thread + j)) (sym (flight_current unclaimed))
              (bare_more (mark_over v.map room (k + OBJECT_WORDS) room.used) written.object (block_at v.map (actor v).thread + j) (λ e. absurd (omega (arith, e, low))) rest)
          | inr claimed ↦
              let e = flight_claimed claimed in
              subst (λ (f : Flight). IsBare f.covers (block_at v.map (actor v).thread + j)) (sym e.3)
              (bare_more (page_over v.map (actor v) room e.0) (mark_over v.map room (k + OBJECT_WORDS) e.1 ∷ entry_over v.map (actor v) room e.2 ∷ written.object) (block_at v.map (actor v).thread + j) (λ x. other (sym x))
              (bare_more (mark_over v.map room (k + OBJECT_WORDS) e.1) (entry_over v.map (actor v) room e.2 ∷ written.object) (block_at v.map (actor v).thread + j) (λ x. absurd (omega (arith, x, low)))
              (bare_more (entry_over v.map (actor v) room e.2) written.object (block_at v.map (actor v).thread + j) (λ x. absurd (omega (arith, x, low))) rest)))
        ]

    same_flight : (actor w2).flight ≡ with_covers (actor v).flight (actor w2).flight.covers
    same_flight = elim (either room.claimed) [
      | inl unclaimed ↦ flight_current unclaimed ∙ ap (λ (f : Flight). with_covers (actor v).flight f.covers) (sym (flight_current unclaimed))
      | inr claimed ↦ let e = flight_claimed claimed in e.3 ∙ ap (λ (f : Flight). with_covers (actor v).flight f.covers) (sym e.3)
    ]

    room2 : HasRoom v.map (seen v w2) room k (actor w2).flight.covers
    room2 = room_kept v.map v.map (actor v) (seen v w2) refl refl refl shows2 room k [] (actor w2).flight.covers same_flight h

    abbrev made_place : ℕ
    made_place = made_at v.map (actor v).thread

    made_low : made_at v.map (actor v).thread < table_at v.map
    made_low = block_below v.map (actor v).thread 1 thread (lit< tt)

    bare2 : IsBare (actor w2).flight.covers (made_at v.map (actor v).thread)
    bare2 = bare_block 1 made_low (λ e. absurd (omega (arith, e)))

    -- the number made
    pub may_count : MayStore w2.map (actor w2) (made_at v.map (actor v).thread) ((actor v).told.made + 1) None
    may_count = subst (λ (y : Areas × Actor). MayStore y.0 y.1 (made_at v.map (actor v).thread) ((actor v).told.made + 1) None) (λ i. (sym map2 i, sym is2 i))
        (counts (placing_of v.map (seen v w2) room k (actor w2).flight.covers room2) bare2)

    module _ (w3 : View) (two : length w2.own ≡ 1) (counted : Shows (actor v) (made_at v.map (actor v).thread) (actor v).told.made)
        (third : Stored w2 (made_at v.map (actor v).thread) ((actor v).told.made + 1) None w3) where
      logged2 : logged_at w2.map (actor w2).thread ≡ logged_at v.map (actor v).thread
      logged2 = λ i. logged_at (map2 i) (is2 i).thread

      abbrev l3 : Laid w2 (made_at v.map (actor v).thread) ((actor v).told.made + 1) w3
      l3 = stores_lay w2 w3 (made_at v.map (actor v).thread) ((actor v).told.made + 1) two bare2 (λ e. let s = logged2 in absurd (omega (arith, e, s))) third

      was_made : l3.shown ≡ (actor v).told.made
      was_made = l3.was (actor v).told.made (bare_met (actor w2) (made_at v.map (actor v).thread) (actor v).told.made bare2 (subst (λ (a : Actor). Shows a (made_at v.map (actor v).thread) (actor v).told.made) (sym is2) (shows2 (made_at v.map (actor v).thread) (actor v).told.made counted)))

      abbrev made_cover : Cover
      made_cover = cover_at (made_at v.map (actor v).thread) ((actor v).told.made + 1) (actor v).told.made

      flight3 : (actor w3).flight ≡ with_covers (actor w2).flight (cover_at (made_at v.map (actor v).thread) ((actor v).told.made + 1) (actor v).told.made ∷ (actor w2).flight.covers)
      flight3 = laid_flight w2 w3 (made_at v.map (actor v).thread) ((actor v).told.made + 1) bare2 l3
          ∙ ap (λ (x : ℕ). with_covers (actor w2).flight (cover_at (made_at v.map (actor v).thread) ((actor v).told.made + 1) x ∷ (actor w2).flight.covers)) was_made

      fly3 : Flies v w3
      fly3 = flies_more v w2 w3 single fly2 l3.view

      is3 : actor w3 ≡ seen v w3
      is3 = flies_is v w3 single fly3

      map3 : w3.map ≡ v.map
      map3 = flies_map v w3 fly3

      abbrev slot_place : ℕ
      slot_place = slot_at v.map (actor v).thread (length (actor v).told.stack)

      module _ (slots : length (actor v).told.stack < STACK_SLOTS) where
        slot_low : slot_at v.map (actor v).thread (length (actor v).told.stack) < table_at v.map
        slot_low = block_below v.map (actor v).thread (stack_start v.map + length (actor v).told.stack) thread (omega (arith, slots))

        bare3 : IsBare (actor w3).flight.covers (slot_at v.map (actor v).thread (length (actor v).told.stack))
        bare3 = subst (λ (f : Flight). IsBare f.covers (slot_at v.map (actor v).thread (length (actor v).told.stack))) (sym flight3)
            (bare_more (cover_at (made_at v.map (actor v).thread) ((actor v).told.made + 1) (actor v).told.made) (actor w2).flight.covers (slot_at v.map (actor v).thread (length (actor v).told.stack)) (λ e. absurd (omega (arith, e)))
            (bare_block (stack_start v.map + length (actor v).told.stack) slot_low (λ e. let d = h.deep in absurd (omega (arith, e, d)))))

        -- the slot
        pub may_push : (word : ℕ) → MayStore w3.map (actor w3) (slot_at v.map (actor v).thread (length (actor v).told.stack)) word None
        may_push word = subst (λ (y : Areas × Actor). MayStore y.0 y.1 (slot_at v.map (actor v).thread (length (actor v).told.stack)) word None) (λ i. (sym map3 i, sym is3 i))
            (above_stack (length (actor v).told.stack) word (omega arith) slots bare3)

        module _ (w4 : View) (three : length w3.own ≡ 1) (fourth : Stored w3 (slot_at v.map (actor v).thread (length (actor v).told.stack)) (2 * ((page_words v.map * room.page + room.used) + 1)) None w4) where
          logged3 : logged_at w3.map (actor w3).thread ≡ logged_at v.map (actor v).thread
          logged3 = λ i. logged_at (map3 i) (is3 i).thread

          abbrev l4 : Laid w3 (slot_at v.map (actor v).thread (length (actor v).told.stack)) (2 * ((page_words v.map * room.page + room.used) + 1)) w4
          l4 = stores_lay w3 w4 (slot_at v.map (actor v).thread (length (actor v).told.stack)) (2 * ((page_words v.map * room.page + room.used) + 1)) three bare3 (λ e. let s = logged3 in absurd (omega (arith, e, s))) fourth

          pub fly4 : Flies v w4
          fly4 = flies_more v w3 w4 single fly3 l4.view

          is4 : actor w4 ≡ seen v w4
          is4 = flies_is v w4 single fly4

          map4 : w4.map ≡ v.map
          map4 = flies_map v w4 fly4

          abbrev slot_cover : Cover
          slot_cover = cover_at (slot_at v.map (actor v).thread (length (actor v).told.stack)) (2 * ((page_words v.map * room.page + room.used) + 1)) l4.shown

          flight4 : (actor w4).flight ≡ with_covers (actor w2).flight (cover_at (slot_at v.map (actor v).thread (length (actor v).told.stack)) (2 * ((page_words v.map * room.page + room.used) + 1)) l4.shown ∷ cover_at (made_at v.map (actor v).thread) ((actor v).told.made + 1) (actor v).told.made ∷ (actor w2).flight.covers)
          flight4 = laid_flight w3 w4 (slot_at v.map (actor v).thread (length (actor v).told.stack)) (2 * ((page_words v.map * room.page + room.used) + 1)) bare3 l4
              ∙ ap (λ (f : Flight). with_covers f (cover_at (slot_at v.map (actor v).thread (length (actor v).told.stack)) (2 * ((page_words v.map * room.page + room.used) + 1)) l4.shown ∷ f.covers)) flight3

          shows4 : (q x : ℕ) → Shows (actor v) q x → Shows (seen v w4) q x
          shows4 q x s = subst (λ (a : Actor). Shows a q x) is4
              (laid_keeps w3 w4 (slot_at v.map (actor v).thread (length (actor v).told.stack)) (2 * ((page_words v.map * room.page + room.used) + 1)) bare3 l4 q x
              (laid_keeps w2 w3 (made_at v.map (actor v).thread) ((actor v).told.made + 1) bare2 l3 q x (entered.shows q x (written.shows q x s))))

          met4 : (q x : ℕ) → heap_at v.map ≤ q → HasMet (actor w1) q x → HasMet (seen v w4) q x
          met4 q x far had =
              let tb = table_below v.map in
              let pb = pool_below v.map in
              let ml = made_low in
              let sl = slot_low in
              let at1 : heap_at w1.map ≤ q = subst (λ (a : Areas). heap_at a ≤ q) (sym map1) far in
              subst (λ (a : Actor). HasMet a q x) is4
              (laid_met w3 w4 (slot_at v.map (actor v).thread (length (actor v).told.stack)) (2 * ((page_words v.map * room.page + room.used) + 1)) bare3 l4 q x (λ e. absurd (omega (arith, e, far, tb, pb, sl)))
              (laid_met w2 w3 (made_at v.map (actor v).thread) ((actor v).told.made + 1) bare2 l3 q x (λ e. absurd (omega (arith, e, far, tb, pb, ml))) (entered.met q x at1 had)))

          room4 : HasRoom v.map (seen v w4) room k (actor w4).flight.covers
          room4 = room_kept v.map v.map (actor v) (seen v w4) refl refl refl shows4 room k [] (actor w4).flight.covers
              (flight4 ∙ ap (λ (f : Flight). with_covers f (cover_at (slot_at v.map (actor v).thread (length (actor v).told.stack)) (2 * ((page_words v.map * room.page + room.used) + 1)) l4.shown ∷ cover_at (made_at v.map (actor v).thread) ((actor v).told.made + 1) (actor v).told.made ∷ (actor w2).flight.covers)) same_flight
              ∙ ap (λ (f : Flight). with_covers (actor v).flight f.covers) (sym flight4)) h

          abbrev placing : Placing v.map (seen v w4)
          placing = placing_of v.map (seen v w4) room k (actor w4).flight.covers room4

          is_laid : IsLaid v.map (seen v w4) placing
          is_laid = elim (either room.claimed) [
            | inl unclaimed ↦ in_current l4.shown written.object written.lies ((room4.in_current unclaimed).0)
                (flight4 ∙ ap (λ (f : Flight). with_covers f (cover_at (slot_at v.map (actor v).thread (length (actor v).told.stack)) (2 * ((page_words v.map * room.page + room.used) + 1)) l4.shown ∷ cover_at (made_at v.map (actor v).thread) ((actor v).told.made + 1) (actor v).told.made ∷ f.covers)) (flight_current unclaimed ∙ ap (λ (f : Flight). with_covers f (mark_over v.map room (k + OBJECT_WORDS) room.used ∷ written.object)) ((h.in_current unclaimed).1)))
            | inr claimed ↦
                let e = flight_claimed claimed in
                on_claimed l4.shown e.0 e.1 e.2 written.object written.lies ((room4.on_claimed claimed).0) ((room4.on_claimed claimed).1)
                (flight4 ∙ ap (λ (f : Flight). with_covers f (cover_at (slot_at v.map (actor v).thread (length (actor v).told.stack)) (2 * ((page_words v.map * room.page + room.used) + 1)) l4.shown ∷ cover_at (made_at v.map (actor v).thread) ((actor v).told.made + 1) (actor v).told.made ∷ f.covers)) (e.3 ∙ ap (λ (f : Flight). with_covers f (on_page e.0 e.1 e.2)) ((h.on_claimed claimed).2)))
          ]

          module _ (unspent : (actor v).told.made < MAX_SERIAL) (is_header : header ≡ record { fields = k; space = space_index (inner_of (actor v).thread (actor v).told.depth) }) (is_name : name ≡ record { thread = (actor v).thread; serial = (actor v).told.made + 1 }) where
            is_made : IsMade v.map (seen v w4) placing
            is_made = record {
              room = slots;
              unspent = unspent;
              header = subst (λ (x : Header). HasMet (seen v w4) (heap_at v.map + (page_words v.map * room.page + room.used)) (header_word x)) is_header (met4 (heap_at v.map + (page_words v.map * room.page + room.used)) _ (omega arith) written.header_met);
              name = subst (λ (x : Name). HasMet (seen v w4) (heap_at v.map + ((page_words v.map * room.page + room.used) + 1)) (name_word x)) is_name (met4 (heap_at v.map + ((page_words v.map * room.page + room.used) + 1)) _ (omega arith) written.name_met);
              zero = λ i low high. met4 (heap_at v.map + ((page_words v.map * room.page + room.used) + i)) 0 (omega arith) (written.zero_met i low high);
              laid = is_laid;
            }

            -- the length of the stack
            pub may_make : MayStore w4.map (actor w4) (length_at v.map (actor v).thread) (length (actor v).told.stack + 1) (Some (done_by (New k)))
            may_make = subst (λ (y : Areas × Actor). MayStore y.0 y.1 (length_at v.map (actor v).thread) (length (actor v).told.stack + 1) (Some (done_by (New k)))) (λ i. (sym map4 i, sym is4 i)) (makes placing is_made)

          pub answers_made : (w5 : View) (at word : ℕ) → Stored w4 at word (Some (told_by (New k) Ok)) w5 → Answers v (New k) Ok [] w5
          answers_made w5 at word last = answers_by_store v w4 w5 (New k) Ok (actor w4).flight w4.lasting at word single (λ s must. must) fly4 last
