-- A new object: what its thread looks at first, and how the call ends.
use Rattle.std.proofs.Common.{lit<, ◌≡◌, ℕ, ◌+◌, ◌≤◌, ◌<◌, List, [], ◌++◌, length, sym, ap, ◌∙◌, subst, arith, inl, inr, append-nil}
use Rattle.std.specs.Prelude.{None}
use Rattle.std.proofs.lemmas.List.Elements.{Contains-append_right}
use Rattle.object_layout.specs.declared.TheConstants.{MAX_FIELDS, MAX_SERIAL, OBJECT_WORDS}
use Rattle.object_layout.specs.declared.calls.Call.TheVariants.{New}
use Rattle.object_layout.specs.declared.replies.Refusal.TheVariants as refusal
use Rattle.object_layout.specs.declared.replies.Reply.TheVariants as reply
use Rattle.yak_model.specs.Graph.{Thread, refusal_of}
use Rattle.heap_words.specs.declared.TheConstants.{STACK_SLOTS}
use Rattle.heap_words.specs.declared.map.Areas.{Areas}
use Rattle.heap_words.specs.Map.{HasThread, max_depth, page_at, pool_at}
use Rattle.region_pages.specs.declared.TheConstants.{USED_MARK}
use Rattle.calls_in_flight.specs.declared.notes.Known.{Known}
use Rattle.calls_in_flight.specs.Actors.{Actor, MayTell, Shows}
use Rattle.calls_in_flight.specs.Steps.{current_at, depth_at, made_at}
use Rattle.safepoint_gate.specs.declared.rule.View.{View}
use Rattle.safepoint_gate.specs.Singles.{IsQuiet, Loaded, actor, loads_of, moved, put_of}
use Rattle.safepoint_gate.specs.Steps.{first_thread}
use Rattle.barriers.specs.Shown.{WasLoaded}
use Rattle.mutator.specs.declared.new_objects.Room.{Room}
use Rattle.mutator.specs.Quick.{Answers, AnswersNew, FindsNoPage, ShowsFull, ShowsNoPage, told_by}
use Rattle.mutator.specs.Making.{GetsNone, GetsRoom, Searches}
use Rattle.mutator.proofs.Answering.{answers_since, flying, thread_in}
use Rattle.mutator.proofs.Looking.{shows_loaded}
use Rattle.mutator.proofs.Rooms.{loads_more, map_of, searches_more, told_of}
use Rattle.mutator.proofs.Placed.{block_below, table_below}
use Rattle.mutator.proofs.Trying.{found_later, let_new, none_later, tells_spent}
use Rattle.mutator.proofs.Asking.{map_still, quiet_still, rests_still, thread_still, told_still}

-- ---- the number made and the depth

module _ (v u : View) (single : length v.own ≡ 1) (one : length u.own ≡ 1) (quiet : IsQuiet v) (searched : Searches v u) where
  -- a word of the block that was loaded next
  next_shows : (w : View) (place word : ℕ) → Loaded u place None word w → Shows (actor w) place word
  next_shows w place word loaded = shows_loaded u w place word one (quiet_still v u single searched quiet) loaded

  pub looks_made : (w : View) (made : ℕ) → Loaded u (made_at v.map (actor v).thread) None made w → Searches v w
  looks_made w made loaded = searches_more v u w (made_at v.map (actor v).thread) made single one (omega arith) searched loaded

  pub looks_depth : (w : View) (depth : ℕ) → Loaded u (depth_at v.map (actor v).thread) None depth w → Searches v w
  looks_depth w depth loaded = searches_more v u w (depth_at v.map (actor v).thread) depth single one (omega arith) searched loaded

  module _ (w : View) (made : ℕ) (loaded : Loaded u (made_at v.map (actor v).thread) None made w) where
    abbrev now : Searches v w
    now = searches_more v u w (made_at v.map (actor v).thread) made single one (omega arith) searched loaded

    pub made_shown : Shows (actor w) (made_at v.map (actor v).thread) made
    made_shown = next_shows w (made_at v.map (actor v).thread) made loaded

    pub made_known : made ≡ (actor v).told.made
    made_known =
        let there : Shows (actor w) (made_at w.map (actor w).thread) made = subst (λ (p : ℕ). Shows (actor w) p made) (λ i. made_at (sym (map_still v w single now) i) (sym (thread_still v w single now) i)) made_shown in
        loaded.1.so.sees.made_is made there ∙ ap (λ (t : Thread). t.made) (told_still v w single now)

  module _ (w : View) (depth : ℕ) (loaded : Loaded u (depth_at v.map (actor v).thread) None depth w) where
    abbrev then : Searches v w
    then = searches_more v u w (depth_at v.map (actor v).thread) depth single one (omega arith) searched loaded

    pub depth_known : depth ≡ (actor w).told.depth
    depth_known = loaded.1.so.sees.depth_is depth (subst (λ (p : ℕ). Shows (actor w) p depth) (λ i. depth_at (sym (map_still v w single then) i) (sym (thread_still v w single then) i)) (next_shows w (depth_at v.map (actor v).thread) depth loaded))

    pub depth_low : depth ≤ max_depth w.map
    depth_low = let e = depth_known in let h = loaded.1.so.sees.not_deep in omega (arith, e, h)

-- ---- the end

module _ (v u : View) (k : ℕ) (single : length v.own ≡ 1) (one : length u.own ≡ 1) (searched : Searches v u) where
  pub spent_told : IsQuiet v → k ≤ MAX_FIELDS → length (actor v).told.stack < STACK_SLOTS → MAX_SERIAL ≤ (actor v).told.made → MayTell u.map (actor u) (told_by (New k) (reply.Refused refusal.NamesSpent))
  spent_told quiet few slots spent =
      tells_spent u.map (actor u) k (rests_still v u single searched quiet) few (subst (λ (t : Thread). length t.stack < STACK_SLOTS) (sym (told_still v u single searched)) slots) (subst (λ (t : Thread). MAX_SERIAL ≤ t.made) (sym (told_still v u single searched)) spent)

  module _ (w : View) (room : Room) (got : GetsRoom u k room w) where
    last : actor w ≡ flying (actor u) (actor w).flight w.lasting
    last = told_of u w got.more one got.view

    told_last : (actor w).told ≡ (actor v).told
    told_last = ap (λ (a : Actor). a.told) last ∙ told_still v u single searched

    thread_last : (actor w).thread ≡ (actor v).thread
    thread_last = ap (λ (a : Actor). a.thread) last ∙ thread_still v u single searched

    map_last : w.map ≡ v.map
    map_last = map_of u w got.more got.view ∙ map_still v u single searched

    pub depth_then : (actor u).told.depth ≡ (actor w).told.depth
    depth_then = sym (ap (λ (a : Actor). a.told.depth) last)

    pub made_then : (actor v).told.made ≡ (actor w).told.made
    made_then = sym (ap (λ (t : Thread). t.made) told_last)

    pub length_then : length (actor v).told.stack ≡ length (actor w).told.stack
    length_then = sym (ap (λ (t : Thread). length t.stack) told_last)

    pub counted_then : (made : ℕ) → HasThread v.map (actor v).thread → Shows (actor u) (made_at v.map (actor v).thread) made → Shows (actor w) (made_at w.map (actor w).thread) made
    counted_then made thread shown =
        let low : made_at v.map (actor v).thread < pool_at u.map =
        let b = block_below v.map (actor v).thread 1 thread (lit< tt) in
        let t = table_below v.map in
        let same : pool_at u.map ≡ pool_at v.map = ap pool_at (map_still v u single searched) in
        omega (arith, b, t, same) in
        subst (λ (p : ℕ). Shows (actor w) p made) (λ i. made_at (sym map_last i) (sym thread_last i)) (got.shows (made_at v.map (actor v).thread) made low shown)

    -- it was made
    pub made_new : (x : View) → Answers w (New k) reply.Ok [] x → AnswersNew v k reply.Ok x
    made_new x answers = record {
      more = (searched.more ++ got.more) ++ [];
      answers = answers_since v w x (New k) reply.Ok (actor w).flight w.lasting (searched.more ++ got.more) [] single (loads_more v u w (actor w).flight w.lasting searched.more got.more single searched.view got.view) answers;
      found = subst (λ (l : List Known). ShowsNoPage l → ⊥) (sym (append-nil (searched.more ++ got.more))) (found_later searched.more got.more searched.own got.found);
      not_full = λ e. cc;
    }

  -- no page was left
  pub found_none : (w : View) → k ≤ MAX_FIELDS → length (actor v).told.stack < STACK_SLOTS → (actor v).told.made < MAX_SERIAL → GetsNone u k w → FindsNoPage v k w
  found_none w few slots unspent got =
      let is : actor w ≡ flying (actor u) (actor w).flight w.lasting = told_of u w got.more one got.view in
      let told : (actor w).told ≡ (actor v).told = ap (λ (a : Actor). a.told) is ∙ told_still v u single searched in
      let thread : (actor w).thread ≡ first_thread v.own = ap (λ (a : Actor). a.thread) is ∙ thread_still v u single searched ∙ sym (thread_in v) in
      let few_slots : length (actor w).told.stack < STACK_SLOTS = subst (λ (t : Thread). length t.stack < STACK_SLOTS) (sym told) slots in
      let some_left : (actor w).told.made < MAX_SERIAL = subst (λ (t : Thread). t.made < MAX_SERIAL) (sym told) unspent in
      let view = loads_more v u w (actor w).flight w.lasting searched.more got.more single searched.view got.view in
      record {
        more = searched.more ++ got.more;
        lasting = w.lasting;
        view = view ∙ (λ i. moved v ((got.flight ∙ searched.flight) i) w.lasting (loads_of v ++ (searched.more ++ got.more)) (put_of v));
        so = got.so;
        let_ = subst (λ (t : ℕ). refusal_of got.so.state.graph t (New k) ≡ None) thread (let_new w.map (actor w) k got.so.state.graph got.so.sees.agrees few few_slots some_left);
        full = full_before;
        none = none_later searched.more got.more got.none;
      }
    where
      place_same : current_at u.map (first_thread u.own) (actor u).told.depth ≡ current_at v.map (first_thread v.own) (actor v).told.depth
      place_same = λ i. current_at (map_still v u single searched i) ((thread_in u ∙ thread_still v u single searched ∙ sym (thread_in v)) i) (told_still v u single searched i).depth

      current_there : (n : ℕ) → WasLoaded got.more (current_at u.map (first_thread u.own) (actor u).told.depth) n → WasLoaded (searched.more ++ got.more) (current_at v.map (first_thread v.own) (actor v).told.depth) n
      current_there n h = subst (λ (p : ℕ). WasLoaded (searched.more ++ got.more) p n) place_same (Contains-append_right searched.more got.more (record { place = current_at u.map (first_thread u.own) (actor u).told.depth; word = n }) h)

      full_before : ShowsFull v (searched.more ++ got.more) (actor v).told.depth (k + OBJECT_WORDS)
      full_before = elim got.full [
        | inl none ↦ inl (current_there 0 none)
        | inr full ↦ inr (
          full.0,
          full.1,
          current_there (full.0 + 1) full.2,
          subst (λ (m : Areas). WasLoaded (searched.more ++ got.more) (page_at m full.0 + USED_MARK) full.1) (map_still v u single searched) (Contains-append_right searched.more got.more (record { place = page_at u.map full.0 + USED_MARK; word = full.1 }) full.3),
          full.4,
        )
      ]
