-- A new object, as its thread looks whether it can be made.
use Rattle.std.proofs.Common.{lit<, ◌≡◌, ℕ, ◌+◌, ◌-◌, ◌≤◌, ◌<◌, Bool, true, false, List, [], ◌∷◌, ◌++◌, length, cond, ltb, leb, sym, ap, ◌∙◌, subst, arith, inl, inr, true≢false}
use Rattle.std.specs.Prelude.{Some, None, Result, Ok, Err, IfErr}
use Rattle.std.proofs.lemmas.Bool.{le-leb, lt-leb, le-ltb}
use Rattle.std.proofs.lemmas.List.Elements.{All-append, All-contains, Contains-append_cases, Contains-append_left, Contains-append_right}
use Rattle.object_layout.specs.declared.TheConstants.{MAX_FIELDS, MAX_SERIAL, OBJECT_WORDS}
use Rattle.object_layout.specs.declared.calls.Call.TheVariants.{New}
use Rattle.object_layout.specs.declared.replies.Refusal.{Refusal}
use Rattle.object_layout.specs.declared.replies.Refusal.TheVariants as refusal
use Rattle.object_layout.specs.declared.replies.Reply.{Reply}
use Rattle.object_layout.specs.declared.replies.Reply.TheVariants as reply
use Rattle.yak_model.specs.Graph.{Graph, Limits, Thread, first_refusal, refusal_of, thread_of}
use Rattle.heap_words.specs.declared.TheConstants.{HEAD_WORDS, STACK_SLOTS}
use Rattle.heap_words.specs.declared.map.Areas.{Areas}
use Rattle.heap_words.specs.Map.{HasThread, page_at, pool_at}
use Rattle.region_pages.specs.declared.TheConstants.{CLAIM_COUNTER, POOL_LENGTH, USED_MARK}
use Rattle.calls_in_flight.specs.declared.notes.Known.{Known}
use Rattle.calls_in_flight.specs.Flight.{at_rest}
use Rattle.calls_in_flight.specs.Actors.{Actor, Agrees, IsAtRest, MayTell, Shows}
use Rattle.calls_in_flight.specs.OwnStores.{HasNoRoomFor}
use Rattle.calls_in_flight.specs.Steps.{current_at}
use Rattle.safepoint_gate.specs.declared.rule.View.{View}
use Rattle.safepoint_gate.specs.Singles.{IsQuiet, actor}
use Rattle.barriers.specs.Shown.{WasLoaded}
use Rattle.mutator.specs.declared.new_objects.Room.{Room}
use Rattle.mutator.specs.Quick.{Answers, AnswersNew, ShowsFull, ShowsNoPage, told_by}
use Rattle.mutator.specs.Making.{AreOwn, ClaimsNone, ClaimsRoom, FindsNone, FindsRoom, GetsNone, GetsRoom, Searches}
use Rattle.mutator.proofs.Answering.{answers_since, flying, thread_in}
use Rattle.mutator.proofs.Rooms.{loads_more, map_of, one_own, told_of}
use Rattle.mutator.proofs.Placed.{table_below}
use Rattle.mutator.proofs.Entering.{current_low}
use Rattle.mutator.proofs.Refusing.{not_full, tells_refusal}
use Rattle.mutator.proofs.Asking.{map_still, rests, thread_still}

-- ---- loads and no loads of the pool

-- own words show nothing of the pool
pub own_finds : (more : List Known) → AreOwn more → ShowsNoPage more → ⊥
own_finds more own none =
    let high : HEAD_WORDS ≤ POOL_LENGTH = All-contains (λ (k : Known). HEAD_WORDS ≤ k.place) more (record { place = POOL_LENGTH; word = none.0 }) own none.2 in
    absurd (omega (arith, high))

later_there : (first more : List Known) (place word : ℕ) → AreOwn first → place < HEAD_WORDS → WasLoaded (first ++ more) place word → WasLoaded more place word
later_there first more place word own low h = elim (Contains-append_cases first more (record { place = place; word = word }) h) [
  | inl early ↦ absurd (let high : HEAD_WORDS ≤ place = All-contains (λ (k : Known). HEAD_WORDS ≤ k.place) first (record { place = place; word = word }) own early in omega (arith, high, low))
  | inr late ↦ late
]

pub found_later : (first more : List Known) → AreOwn first → (ShowsNoPage more → ⊥) → ShowsNoPage (first ++ more) → ⊥
found_later first more own found none = found (none.0, none.1, later_there first more POOL_LENGTH none.0 own (lit< tt) none.2, later_there first more CLAIM_COUNTER none.1 own (lit< tt) none.3, none.4)

pub none_later : (first more : List Known) → ShowsNoPage more → ShowsNoPage (first ++ more)
none_later first more none = (none.0, none.1, Contains-append_right first more _ none.2, Contains-append_right first more _ none.3, none.4)

-- ---- refusals

module _ (m : Areas) (a : Actor) (k : ℕ) where
  long_not : (g : Graph) → Agrees m a g → k ≤ MAX_FIELDS → ltb (g.limits.page - OBJECT_WORDS) k ≡ false
  long_not g agrees few = let page = ap (λ (l : Limits). l.page) agrees.limits in le-ltb _ _ (omega (arith, page, few))

  made_of : (g : Graph) → Agrees m a g → (thread_of g a.thread).made ≡ a.told.made
  made_of g agrees = ap (λ (t : Thread). t.made) agrees.has

  tests : (g : Graph) (b : Bool) → Agrees m a g → k ≤ MAX_FIELDS → length a.told.stack < STACK_SLOTS → leb MAX_SERIAL (thread_of g a.thread).made ≡ b → refusal_of g a.thread (New k) ≡ cond b (Some refusal.NamesSpent) None
  tests g b agrees few slots last = λ i. first_refusal ((long_not g agrees few i, refusal.TooLong) ∷ (not_full m a g agrees slots i, refusal.StackFull) ∷ (last i, refusal.NamesSpent) ∷ [])

  pub tells_spent : IsAtRest a → k ≤ MAX_FIELDS → length a.told.stack < STACK_SLOTS → MAX_SERIAL ≤ a.told.made → MayTell m a (told_by (New k) (reply.Refused refusal.NamesSpent))
  tells_spent rested few slots spent =
      tells_refusal m a (New k) refusal.NamesSpent tt tt rested
      (λ g agrees. tests g true agrees few slots (le-leb MAX_SERIAL (thread_of g a.thread).made (let n = made_of g agrees in omega (arith, n, spent))))

  pub let_new : (g : Graph) → Agrees m a g → k ≤ MAX_FIELDS → length a.told.stack < STACK_SLOTS → a.told.made < MAX_SERIAL → refusal_of g a.thread (New k) ≡ None
  let_new g agrees few slots unspent = tests g false agrees few slots (lt-leb MAX_SERIAL (thread_of g a.thread).made (let n = made_of g agrees in omega (arith, n, unspent)))

-- a refusal after loads of own words
pub refuses_new : (v u w : View) (k at word : ℕ) (why : Refusal) (said : Reply) → length v.own ≡ 1 → HEAD_WORDS ≤ at → Searches v u → said ≡ reply.Refused why → Answers u (New k) (reply.Refused why) (record { place = at; word = word } ∷ []) w → AnswersNew v k said w
refuses_new v u w k at word why said single high searched is answers =
    subst (λ (r : Reply). AnswersNew v k r w) (sym is)
    (record {
      more = searched.more ++ record { place = at; word = word } ∷ [];
      answers = answers_since v u w (New k) (reply.Refused why) (actor u).flight u.lasting searched.more (record { place = at; word = word } ∷ []) single searched.view answers;
      found = own_finds (searched.more ++ record { place = at; word = word } ∷ []) (All-append (λ (x : Known). HEAD_WORDS ≤ x.place) searched.more (record { place = at; word = word } ∷ []) searched.own (one_own at word high));
      not_full = λ e. cc;
    })

-- ---- the search for room

abbrev pub searches_join : (v u w : View) → length v.own ≡ 1 → Searches v u → Searches u w → Searches v w
searches_join v u w single a b = record {
  more = a.more ++ b.more;
  view = loads_more v u w (actor w).flight w.lasting a.more b.more single a.view b.view;
  flight = b.flight ∙ a.flight;
  so = b.so;
  shows = λ q x h. b.shows q x (a.shows q x h);
  own = All-append (λ (k : Known). HEAD_WORDS ≤ k.place) a.more b.more a.own b.own;
}

-- a view with nothing in flight, after a search
rests_then : (v u : View) → length v.own ≡ 1 → IsQuiet v → Searches v u → (actor u).flight ≡ at_rest (actor u).thread
rests_then v u single quiet searched = searched.flight ∙ rests v quiet ∙ ap at_rest (sym (thread_still v u single searched))

module _ (v u : View) (k : ℕ) (single : length v.own ≡ 1) (quiet : IsQuiet v) (few : k ≤ MAX_FIELDS) where
  pub gets_current : (room : Room) → FindsRoom v (k + OBJECT_WORDS) room u → GetsRoom v k room u
  gets_current room h = record {
    more = h.searches.more;
    view = h.searches.view;
    shows = λ q x low s. h.searches.shows q x s;
    has = record {
      few = few;
      there = h.there;
      deep = h.searches.so.sees.not_deep;
      fits = h.fits;
      in_current = λ _. (h.current, rests_then v u single quiet h.searches);
      on_claimed = λ claimed. absurd (true≢false (sym claimed ∙ h.unclaimed));
    };
    found = own_finds h.searches.more h.searches.own;
  }

  module _ (one : length u.own ≡ 1) (thread : HasThread v.map (actor v).thread) (h : FindsNone v (k + OBJECT_WORDS) u) where
    same_map : u.map ≡ v.map
    same_map = map_still v u single h.searches

    same_thread : (actor u).thread ≡ (actor v).thread
    same_thread = thread_still v u single h.searches

    pub quiet_then : IsQuiet u
    quiet_then = rests_then v u single quiet h.searches ∙ ap at_rest (sym (thread_in u))

    full_later : (more : List Known) → ShowsFull v (h.searches.more ++ more) (actor v).told.depth (k + OBJECT_WORDS)
    full_later more = elim h.full [
      | inl none ↦ inl (Contains-append_left h.searches.more more _ none)
      | inr full ↦ inr (full.0, full.1, Contains-append_left h.searches.more more _ full.2, Contains-append_left h.searches.more more _ full.3, full.4)
    ]

    pub gets_none : (w : View) → ClaimsNone u w → GetsNone v k w
    gets_none w c = record {
      more = h.searches.more ++ c.more;
      view = loads_more v u w (actor w).flight w.lasting h.searches.more c.more single h.searches.view c.view;
      flight = c.flight ∙ h.searches.flight;
      so = c.so;
      full = full_later c.more;
      none = none_later h.searches.more c.more c.none;
    }

    current_below : current_at u.map (actor u).thread (actor u).told.depth < pool_at u.map
    current_below =
        let there : HasThread u.map (actor u).thread = subst (λ (y : Areas × ℕ). HasThread y.0 y.1) (λ i. (sym same_map i, sym same_thread i)) thread in
        let low = current_low u.map (actor u).thread (actor u).told.depth there h.searches.so.sees.not_deep in
        let t = table_below u.map in
        omega (arith, low, t)

    module _ (w : View) (room : Room) (c : ClaimsRoom u room w) where
      last : actor w ≡ flying (actor u) (actor w).flight w.lasting
      last = told_of u w c.more one c.view

      map_last : w.map ≡ u.map
      map_last = map_of u w c.more c.view

      shows_last : (q x : ℕ) → q < pool_at u.map → Shows (actor u) q x → Shows (actor w) q x
      shows_last q x low s = c.shows q x low s

      current_last : current_at w.map (actor w).thread (actor w).told.depth ≡ current_at u.map (actor u).thread (actor u).told.depth
      current_last = λ i. current_at (map_last i) (last i).thread (last i).told.depth

      none_last : HasNoRoomFor w.map (actor w) (k + OBJECT_WORDS)
      none_last = elim h.none [
        | inl none ↦ inl (subst (λ (q : ℕ). Shows (actor w) q 0) (sym current_last) (shows_last _ 0 current_below none))
        | inr full ↦
            let in_heap : full.0 < u.map.pages = elim (h.searches.so.sees.currents (actor u).told.depth (full.0 + 1) h.searches.so.sees.not_deep full.2.0) [
              | inl none ↦ absurd (omega (arith, none))
              | inr page ↦ let e = page.1 in let lt = page.2 in omega (arith, e, lt)
            ] in
            let low : page_at u.map full.0 + USED_MARK < pool_at u.map = omega (arith, in_heap) in
            inr (
              full.0,
              full.1,
              (
                subst (λ (q : ℕ). Shows (actor w) q (full.0 + 1)) (sym current_last) (shows_last _ (full.0 + 1) current_below full.2.0),
                subst (λ (m : Areas). Shows (actor w) (page_at m full.0 + USED_MARK) full.1) (sym map_last) (shows_last _ full.1 low full.2.1),
              ),
              full.3,
            )
      ]

      pub gets_claimed : GetsRoom v k room w
      gets_claimed = record {
        more = h.searches.more ++ c.more;
        view = loads_more v u w (actor w).flight w.lasting h.searches.more c.more single h.searches.view c.view;
        shows = λ q x low s. c.shows q x (subst (λ (m : Areas). q < pool_at m) (sym same_map) low) (h.searches.shows q x s);
        has = record {
          few = few;
          there = c.there;
          deep = let d : (actor w).told.depth ≡ (actor u).told.depth = ap (λ (a : Actor). a.told.depth) last in let deep = h.searches.so.sees.not_deep in omega (arith, d, deep);
          fits = let front = c.front in omega (arith, front, few);
          in_current = λ unclaimed. absurd (true≢false (sym c.claimed ∙ unclaimed));
          on_claimed = λ _. (c.front, none_last, c.flight ∙ ap (λ (t : ℕ). record (at_rest t) { claimed = room.page ∷ [] }) (sym (ap (λ (a : Actor). a.thread) last)));
        };
        found = found_later h.searches.more c.more h.searches.own c.found;
      }

pub err_weaker : {T E : Type 0} (r : Result T E) (P Q : Type 0) → (P → Q) → IfErr r (λ _. P) → IfErr r (λ _. Q)
err_weaker (Ok x) P Q f h = h
err_weaker (Err e) P Q f h = f h

pub err_any : {T E : Type 0} (r : Result T E) (P : Type 0) → P → IfErr r (λ _. P)
err_any (Ok x) P h = tt
err_any (Err e) P h = h
