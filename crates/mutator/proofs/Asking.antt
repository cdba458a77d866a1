-- What the parts of a short call do, by what the thread knows before and after.
use Rattle.std.proofs.Common.{◌≡◌, ℕ, ◌+◌, ◌≤◌, ◌<◌, List, [], ◌∷◌, ◌++◌, length, refl, sym, ap, ◌∙◌, subst, arith, inr, append-nil}
use Rattle.std.specs.Prelude.{◌↔◌, Some, None}
use Rattle.std.proofs.lemmas.List.Elements.{All-append}
use Rattle.object_layout.specs.declared.TheConstants.{MAX_DEPTH}
use Rattle.object_layout.specs.declared.calls.Call.{Call}
use Rattle.object_layout.specs.declared.calls.Call.TheVariants as call
use Rattle.object_layout.specs.declared.replies.Reply.{Reply}
use Rattle.object_layout.specs.declared.replies.Reply.TheVariants as reply
use Rattle.heap_words.specs.declared.map.Areas.{Areas}
use Rattle.heap_words.specs.declared.TheConstants.{HEAD_WORDS, STACK_SLOTS}
use Rattle.yak_model.specs.Continued.{entries_told}
use Rattle.yak_model.specs.Spaces.{SpaceState}
use Rattle.calls_in_flight.specs.declared.notes.Cover.{Cover}
use Rattle.calls_in_flight.specs.declared.notes.Flight.{Flight}
use Rattle.calls_in_flight.specs.declared.notes.Known.{Known}
use Rattle.calls_in_flight.specs.Flight.{at_rest}
use Rattle.calls_in_flight.specs.Actors.{Actor, HasOnly, IsAtRest, MayLoad, Shows, in_block}
use Rattle.calls_in_flight.specs.OwnStores.{IsPushOf, MayStore, above_stack, begins, done_by, pops, pushes}
use Rattle.calls_in_flight.specs.Seeing.{slot_told}
use Rattle.calls_in_flight.specs.Steps.{depth_at, length_at, slot_at, with_covers}
use Rattle.safepoint_gate.specs.declared.rule.Own.{Own}
use Rattle.safepoint_gate.specs.declared.rule.View.{View}
use Rattle.safepoint_gate.specs.Singles.{IsQuiet, IsSo, Loaded, Stored, acting, actor, actor_in, loads_in, loads_of, moved, put_in, put_of, with_call}
use Rattle.safepoint_gate.specs.Steps.{first_thread, told}
use Rattle.barriers.specs.Shown.{MustRecord}
use Rattle.mutator.specs.Making.{Searches}
use Rattle.mutator.specs.Quick.{Answered, Answers, ShowsSlot, told_by}
use Rattle.mutator.proofs.Answering.{answers_since, thread_in}
use Rattle.mutator.proofs.Looking.{Laid, laid, laid_shows, quiet_bare, shows_loaded, stores_lay}
use Rattle.mutator.proofs.Rooms.{loads_more, map_of, searches_one, told_of}

-- ---- what holds after loads

pub rests : (v : View) → IsQuiet v → IsAtRest (actor v)
rests v quiet = quiet ∙ ap at_rest (thread_in v)

module _ (v w : View) (single : length v.own ≡ 1) (searched : Searches v w) where
  pub told_still : (actor w).told ≡ (actor v).told
  told_still = ap (λ (a : Actor). a.told) (told_of v w searched.more single searched.view)

  pub thread_still : (actor w).thread ≡ (actor v).thread
  thread_still = ap (λ (a : Actor). a.thread) (told_of v w searched.more single searched.view)

  pub length_still : (n : ℕ) → n ≡ length (actor v).told.stack → n ≡ length (actor w).told.stack
  length_still n is = is ∙ sym (ap (λ (t : Actor). length t.told.stack) (told_of v w searched.more single searched.view))

  pub map_still : w.map ≡ v.map
  map_still = map_of v w searched.more searched.view

  pub quiet_still : IsQuiet v → IsQuiet w
  quiet_still quiet = searched.flight ∙ quiet ∙ ap at_rest (thread_in v ∙ sym thread_still ∙ sym (thread_in w))

  pub rests_still : IsQuiet v → IsAtRest (actor w)
  rests_still quiet = rests w (quiet_still quiet)

  pub slot_still : (k word : ℕ) → ShowsSlot v k word → ShowsSlot w k word
  slot_still k word h = (
    (let n = ap (λ (t : Actor). length t.told.stack) (told_of v w searched.more single searched.view) in let there = h.0 in omega (arith, n, there)),
    subst (λ (p : ℕ). Shows (actor w) p word) (λ i. slot_at (sym map_still i) (sym thread_still i) k) (searched.shows (slot_at v.map (actor v).thread k) word h.1),
  )

  -- the call goes on from there
  pub answers_from : (u : View) (asked : Call) (said : Reply) (more : List Known) → Answers w asked said more u → Answered v asked said u
  answers_from u asked said more h = (searched.more ++ more, answers_since v w u asked said (actor w).flight w.lasting searched.more more single searched.view h)

-- ---- own words that may be loaded

pub may_length : (v : View) → MayLoad v.map (actor v) (length_at v.map (actor v).thread)
may_length v = in_block (omega arith) (omega arith)

pub may_depth : (v : View) → MayLoad v.map (actor v) (depth_at v.map (actor v).thread)
may_depth v = in_block (omega arith) (omega arith)

pub may_slot : (v : View) (k : ℕ) → k < STACK_SLOTS → MayLoad v.map (actor v) (slot_at v.map (actor v).thread k)
may_slot v k lt = in_block (omega arith) (omega (arith, lt))

pub high_block : (m : Areas) (t j : ℕ) → HEAD_WORDS ≤ slot_at m t j
high_block m t j = omega arith

-- the length of the stack was loaded
pub looks_length : (v w : View) (n : ℕ) → length v.own ≡ 1 → Loaded v (length_at v.map (first_thread v.own)) None n w → Searches v w
looks_length v w n single loaded = searches_one v w (length_at v.map (first_thread v.own)) n single (omega arith) loaded

pub looks_depth : (v w : View) (n : ℕ) → length v.own ≡ 1 → Loaded v (depth_at v.map (actor v).thread) None n w → Searches v w
looks_depth v w n single loaded = searches_one v w (depth_at v.map (actor v).thread) n single (omega arith) loaded

-- a slot was loaded
pub looks_slot : (v w : View) (k word : ℕ) → length v.own ≡ 1 → Loaded v (slot_at v.map (actor v).thread k) None word w → Searches v w
looks_slot v w k word single loaded = searches_one v w (slot_at v.map (actor v).thread k) word single (high_block v.map (actor v).thread k) loaded

pub shows_slot : (v w : View) (k word : ℕ) → length v.own ≡ 1 → IsQuiet v → k < length (actor v).told.stack → Loaded v (slot_at v.map (actor v).thread k) None word w → ShowsSlot w k word
shows_slot v w k word single quiet there loaded =
    let s = looks_slot v w k word single loaded in (
      (let n = ap (λ (t : Actor). length t.told.stack) (told_of v w s.more single s.view) in omega (arith, n, there)),
      subst (λ (p : ℕ). Shows (actor w) p word) (λ i. slot_at (sym (map_still v w single s) i) (sym (thread_still v w single s) i) k) (shows_loaded v w (slot_at v.map (actor v).thread k) word single quiet loaded),
    )

-- the depth, as it was loaded
pub depth_known : (v w : View) (n : ℕ) → length v.own ≡ 1 → IsQuiet v → Loaded v (depth_at v.map (actor v).thread) None n w → n ≡ (actor w).told.depth
depth_known v w n single quiet loaded =
    let s = looks_depth v w n single loaded in
    loaded.1.so.sees.depth_is n (subst (λ (p : ℕ). Shows (actor w) p n) (λ i. depth_at (sym (map_still v w single s) i) (sym (thread_still v w single s) i)) (shows_loaded v w (depth_at v.map (actor v).thread) n single quiet loaded))

-- one search after another
pub then : (v u w : View) → length v.own ≡ 1 → Searches v u → Searches u w → Searches v w
then v u w single before after = record {
  more = before.more ++ after.more;
  view = loads_more v u w (actor w).flight w.lasting before.more after.more single before.view after.view;
  flight = after.flight ∙ before.flight;
  so = after.so;
  shows = λ q x h. after.shows q x (before.shows q x h);
  own = All-append (λ (k : Known). HEAD_WORDS ≤ k.place) before.more after.more before.own after.own;
}

same_own : (own : List Own) (lasting : List Known) → own ≡ with_call own (actor_in own lasting).flight (loads_in own) (put_in own)
same_own [] lasting = refl
same_own (o ∷ own) lasting = refl

-- nothing was loaded
pub still : (v : View) → IsSo v → Searches v v
still v so = record {
  more = [];
  view = ap (λ (own : List Own). acting v own v.lasting) (same_own v.own v.lasting) ∙ ap (λ (l : List Known). moved v (actor v).flight v.lasting l (put_of v)) (sym (append-nil (loads_of v)));
  flight = refl;
  so = so;
  shows = λ q x h. h;
  own = λ j d lt. absurd (omega (arith, lt));
}

-- two slots were loaded, one after the other
module _ (v u w : View) (k j word other : ℕ) (single : length v.own ≡ 1) (again : length u.own ≡ 1) (quiet : IsQuiet v) (first : k < length (actor v).told.stack) (second : j < length (actor v).told.stack)
    (loaded : Loaded v (slot_at v.map (actor v).thread k) None word u) (next : Loaded u (slot_at u.map (actor u).thread j) None other w) where
  pub looks_both : Searches v w
  looks_both = then v u w single (looks_slot v u k word single loaded) (looks_slot u w j other again next)

  pub shows_first : ShowsSlot w k word
  shows_first = slot_still u w again (looks_slot u w j other again next) k word (shows_slot v u k word single quiet first loaded)

  pub shows_second : ShowsSlot w j other
  shows_second =
      let searched = looks_slot v u k word single loaded in
      let long = length_still v u single searched (length (actor v).told.stack) refl in
      shows_slot u w j other again (quiet_still v u single searched quiet) (omega (arith, second, long)) next

  pub same_known : word ≡ other ↔ slot_told (actor w) k ≡ slot_told (actor w) j
  same_known = next.1.so.sees.same k j word other shows_first.0 shows_second.0 shows_first.1 shows_second.1

-- ---- a store that tells the entry

pub answers_by_store : (v w : View) (at word : ℕ) (asked : Call) → ((s : SpaceState) (t : ℕ) → MustRecord s t asked → ⊥) → Stored v at word (Some (told_by asked reply.Ok)) w → Answers v asked reply.Ok [] w
answers_by_store v w at word asked none stored =
    subst (Answers v asked reply.Ok []) (sym stored.view)
    (record {
      put = put_of v;
      says = record {
        has = stored.says.has;
        known = stored.says.known;
        history = stored.says.history;
        before = stored.says.before;
        lawful = stored.says.lawful;
        leaves = stored.says.leaves;
        was = stored.says.was;
        becomes = stored.says.becomes;
        own_is =
            stored.says.own_is
            ∙ ap (λ (l : List Known). with_call (told v.own (entries_told (first_thread v.own) (told_by asked reply.Ok)) stored.says.has stored.says.known (stored.says.history ++ entries_told (first_thread v.own) (told_by asked reply.Ok))) (at_rest (first_thread v.own)) l (put_of v))
            (sym (append-nil (loads_of v)));
        mine = stored.says.mine;
      };
      puts = inr ((λ must ok. none stored.says.before (first_thread v.own) must), refl);
      view = refl;
    })

-- ---- a word is put on the stack

push_records_none : (m : Areas) (a : Actor) (asked : Call) (word : ℕ) → IsPushOf m a asked word → (s : SpaceState) (t : ℕ) → MustRecord s t asked → ⊥
push_records_none m a (call.Int i) word push s t must = must
push_records_none m a call.Null word push s t must = must
push_records_none m a (call.Dup k) word push s t must = must
push_records_none m a asked word push s t must = absurd push

-- a push asks the same of a thread after its word was laid
push_laid : (m : Areas) (a : Actor) (asked : Call) (place word shown : ℕ) → ((q x : ℕ) → Shows a q x → Shows (laid a place word shown) q x) → IsPushOf m a asked word → IsPushOf m (laid a place word shown) asked word
push_laid m a (call.Int i) place word shown keeps push = push
push_laid m a call.Null place word shown keeps push = push
push_laid m a (call.Dup k) place word shown keeps push = (push.0, keeps (slot_at m a.thread k) word push.1)
push_laid m a asked place word shown keeps push = absurd push

module _ (v : View) (single : length v.own ≡ 1) (quiet : IsQuiet v) (n : ℕ) (is : n ≡ length (actor v).told.stack) (room : n < STACK_SLOTS) (word : ℕ) (asked : Call) (push : IsPushOf v.map (actor v) asked word) where
  pub may_lay : MayStore v.map (actor v) (slot_at v.map (actor v).thread n) word None
  may_lay = above_stack n word (omega (arith, is)) room (quiet_bare v (slot_at v.map (actor v).thread n) quiet)

  module _ (u : View) (stored : Stored v (slot_at v.map (actor v).thread n) word None u) where
    lays : Laid v (slot_at v.map (actor v).thread n) word u
    lays = stores_lay v u (slot_at v.map (actor v).thread n) word single (quiet_bare v (slot_at v.map (actor v).thread n) quiet) (λ e. absurd (omega (arith, e))) stored

    abbrev cover : Cover
    cover = record { place = slot_at v.map (actor v).thread n; stands = word; shown = lays.shown }

    only : HasOnly (laid (actor v) (slot_at v.map (actor v).thread n) word lays.shown) (cover ∷ [])
    only = ap (λ (f : Flight). with_covers f (cover ∷ f.covers)) (rests v quiet)

    may_laid : MayStore v.map (laid (actor v) (slot_at v.map (actor v).thread n) word lays.shown) (length_at v.map (actor v).thread) (length (actor v).told.stack + 1) (Some (done_by asked))
    may_laid = pushes asked cover
        (push_laid v.map (actor v) asked (slot_at v.map (actor v).thread n) word lays.shown (laid_shows (actor v) (slot_at v.map (actor v).thread n) word lays.shown (quiet_bare v (slot_at v.map (actor v).thread n) quiet) lays.was) push)
        (omega (arith, is, room)) only (ap (slot_at v.map (actor v).thread) is)

    pub may_grow : MayStore u.map (actor u) (length_at v.map (actor v).thread) (n + 1) (Some (told_by asked reply.Ok))
    may_grow =
        let map : u.map ≡ v.map = ap (λ (x : View). x.map) lays.view in
        subst (λ (k : ℕ). MayStore u.map (actor u) (length_at v.map (actor v).thread) (k + 1) (Some (done_by asked))) (sym is)
        (subst (λ (y : Areas × Actor). MayStore y.0 y.1 (length_at v.map (actor v).thread) (length (actor v).told.stack + 1) (Some (done_by asked))) (λ i. (sym map i, sym lays.actor_is i)) may_laid)

    pub grown : (w : View) (at : ℕ) → Stored u at (n + 1) (Some (told_by asked reply.Ok)) w → Answers v asked reply.Ok [] w
    grown w at last =
        answers_since v u w asked reply.Ok (actor u).flight u.lasting [] [] single
        (lays.view ∙ ap (λ (l : List Known). moved v (actor u).flight u.lasting l (put_of v)) (sym (append-nil (loads_of v))))
        (answers_by_store u w at (n + 1) asked (push_records_none v.map (actor v) asked word push) last)

-- ---- the top slot is dropped, and an epoch opened

pub may_pop : (v : View) (n : ℕ) → IsQuiet v → length (actor v).told.stack ≡ n + 1 → MayStore v.map (actor v) (length_at v.map (actor v).thread) n (Some (told_by call.Pop reply.Ok))
may_pop v n quiet is = pops n is (rests v quiet)

pub may_begin : (v : View) (d : ℕ) → IsQuiet v → d ≡ (actor v).told.depth → d < MAX_DEPTH → MayStore v.map (actor v) (depth_at v.map (actor v).thread) (d + 1) (Some (told_by call.Begin reply.Ok))
may_begin v d quiet is low = subst (λ (k : ℕ). MayStore v.map (actor v) (depth_at v.map (actor v).thread) (k + 1) (Some (told_by call.Begin reply.Ok))) (sym is) (begins (omega (arith, is, low)) (rests v quiet))
