-- A call under way: what its thread has loaded since it began, and the entry that ends it.
use Rattle.std.proofs.Common.{◌≡◌, ℕ, zero, suc, List, [], ◌∷◌, ◌++◌, length, refl, sym, ap, ◌∙◌, subst, arith, append_assoc, append-nil, inl, inr}
use Rattle.std.specs.Prelude.{Some}
use mathlib.Core.Option.{some-injective}
use Rattle.heap_words.specs.declared.map.Areas.{Areas}
use Rattle.object_layout.specs.declared.calls.Call.{Call}
use Rattle.object_layout.specs.declared.calls.Call.TheVariants as call
use Rattle.object_layout.specs.declared.replies.Reply.{Reply}
use Rattle.object_layout.specs.declared.replies.Reply.TheVariants as reply
use Rattle.yak_model.specs.declared.history.Entry.{Entry}
use Rattle.yak_model.specs.Spaces.{SpaceState}
use Rattle.standing_calls.specs.Turned.{IsIdle}
use Rattle.calls_in_flight.specs.declared.notes.Flight.{Flight}
use Rattle.calls_in_flight.specs.declared.notes.Known.{Known}
use Rattle.calls_in_flight.specs.Flight.{at_rest}
use Rattle.calls_in_flight.specs.Actors.{Actor}
use Rattle.calls_in_flight.specs.Seeing.{Sees}
use Rattle.safepoint_gate.specs.declared.rule.Own.{Own}
use Rattle.safepoint_gate.specs.declared.rule.View.{View}
use Rattle.safepoint_gate.specs.Rule.{AllMine, Mine}
use Rattle.safepoint_gate.specs.Singles.{IsSo, Loaded, Stored, acting, actor, actor_in, loads_in, loads_of, moved, put_in, put_of, with_call}
use Rattle.safepoint_gate.specs.Steps.{first_thread, told}
use Rattle.yak_model.specs.Continued.{entries_told}
use Rattle.barriers.specs.Shown.{MustRecord}
use Rattle.mutator.specs.Quick.{Answers, told_by}

-- ---- what is under way in the one thread of a seat

-- the thread with this in flight and these words met
abbrev pub flying : Actor → Flight → List Known → Actor
flying a f lasting = record { thread = a.thread; told = a.told; flight = f; lasting = lasting }

pub thread_in : (v : View) → first_thread v.own ≡ (actor v).thread
thread_in v = of v.own v.lasting
  where
    of : (own : List Own) (lasting : List Known) → first_thread own ≡ (actor_in own lasting).thread
    of [] lasting = refl
    of (o ∷ own) lasting = refl

pub thread_kept : (own : List Own) (f : Flight) (k : List Known) (p : ℕ) → first_thread (with_call own f k p) ≡ first_thread own
thread_kept [] f k p = refl
thread_kept (o ∷ own) f k p = refl

pub call_again : (own : List Own) (f g : Flight) (k l : List Known) (p q : ℕ) → with_call (with_call own f k p) g l q ≡ with_call own g l q
call_again [] f g k l p q = refl
call_again (o ∷ own) f g k l p q = refl

single_kept : (own : List Own) (f : Flight) (k : List Known) (p : ℕ) → length own ≡ 1 → length (with_call own f k p) ≡ 1
single_kept [] f k p e = e
single_kept (o ∷ own) f k p e = e

loads_after : (own : List Own) (f : Flight) (k : List Known) (p : ℕ) → length own ≡ 1 → loads_in (with_call own f k p) ≡ k
loads_after [] f k p e = absurd (omega arith)
loads_after (o ∷ own) f k p e = refl

put_after : (own : List Own) (f : Flight) (k : List Known) (p : ℕ) → length own ≡ 1 → put_in (with_call own f k p) ≡ p
put_after [] f k p e = absurd (omega arith)
put_after (o ∷ own) f k p e = refl

actor_after : (own : List Own) (f : Flight) (k was now : List Known) (p : ℕ) → length own ≡ 1 → actor_in (with_call own f k p) now ≡ flying (actor_in own was) f now
actor_after [] f k was now p e = absurd (omega arith)
actor_after (o ∷ own) f k was now p e = refl

module _ (v w : View) (f : Flight) (lasting loads : List Known) (put : ℕ) (single : length v.own ≡ 1) (is : w ≡ moved v f lasting loads put) where
  pub actor_moved : actor w ≡ flying (actor v) f lasting
  actor_moved = ap actor is ∙ actor_after v.own f loads v.lasting lasting put single

  pub loads_moved : loads_of w ≡ loads
  loads_moved = ap loads_of is ∙ loads_after v.own f loads put single

  pub put_moved : put_of w ≡ put
  put_moved = ap put_of is ∙ put_after v.own f loads put single

  pub thread_moved : first_thread w.own ≡ first_thread v.own
  thread_moved = ap (λ (x : View). first_thread x.own) is ∙ thread_kept v.own f loads put

  pub map_moved : w.map ≡ v.map
  map_moved = ap (λ (x : View). x.map) is

  -- a step more
  pub moved_again : (u : View) (g : Flight) (now more : List Known) (many : ℕ) → u ≡ moved w g now more many → u ≡ moved v g now more many
  moved_again u g now more many next =
      next ∙ ap (λ (x : View). moved x g now more many) is ∙ ap (λ (own : List Own). acting v own now) (call_again v.own f g loads more put many)

-- ---- the threads' parts of the history

mine_of : (m : Areas) (history : List Entry) (o : Own) (f g : Flight) (k l : List Known) (p q : ℕ) → Mine m history (record o { flight = f; loads = k; put = p }) → Mine m history (record o { flight = g; loads = l; put = q })
mine_of m history o f g k l p q h = record { thread = h.thread; calls = h.calls; has = h.has; knows = h.knows; goes_on = h.goes_on }

mine_call : (m : Areas) (history : List Entry) (own : List Own) (f g : Flight) (k l : List Known) (p q : ℕ) → AllMine m history (with_call own f k p) → AllMine m history (with_call own g l q)
mine_call m history [] f g k l p q h j x at = h j x at
mine_call m history (o ∷ own) f g k l p q h zero x at = subst (Mine m history) (some-injective _ x at) (mine_of m history o f g k l p q (h 0 (record o { flight = f; loads = k; put = p }) refl))
mine_call m history (o ∷ own) f g k l p q h (suc j) x at = h (suc j) x at

pub mine_back : (m : Areas) (history : List Entry) (own : List Own) (f : Flight) (k : List Known) (p : ℕ) → AllMine m history (with_call own f k p) → AllMine m history own
mine_back m history [] f k p h = h
mine_back m history (o ∷ own) f k p h = mine_call m history (o ∷ own) f o.flight k o.loads p o.put h

-- what the thread knows is so where it knew the same before
pub so_again : (v u w : View) (f g : Flight) (k l was now : List Known) (p q : ℕ) → length v.own ≡ 1 → u ≡ moved v f was k p → w ≡ moved v g now l q → actor w ≡ actor u → IsSo u → IsSo w
so_again v u w f g k l was now p q single eu ew same so =
    let before : IsSo (moved v f was k p) = subst IsSo eu so in
    subst IsSo (sym ew)
    (record {
      history = before.history;
      state = before.state;
      lawful = before.lawful;
      leaves = before.leaves;
      mine = mine_call v.map before.history v.own f g k l p q before.mine;
      sees = subst (λ (a : Actor). Sees v.map a before.state) (ap actor (sym eu) ∙ sym same ∙ ap actor ew) before.sees;
    })

-- ---- answers

-- a call that is refused or only shows something records no slot
pub idle_puts_none : (s : SpaceState) (t : ℕ) (asked : Call) (said : Reply) → IsIdle asked said → MustRecord s t asked → said ≡ reply.Ok → ⊥
idle_puts_none s t (call.Store k f x) said (inl shows) must ok = shows
idle_puts_none s t (call.Store k f x) said (inr refused) must ok = let no : reply.Refused refused.0 ≡ reply.Ok = sym refused.1 ∙ ok in cc
idle_puts_none s t asked said idle must ok = absurd must

-- a load told the entry of a call
pub answers_by_load : (v w : View) (at word : ℕ) (asked : Call) (said : Reply) → IsIdle asked said → Loaded v at (Some (told_by asked said)) word w → Answers v asked said (record { place = at; word = word } ∷ []) w
answers_by_load v w at word asked said idle loaded =
    let tells = loaded.0 in
    subst (Answers v asked said (record { place = at; word = word } ∷ [])) (sym tells.view)
    (record {
      put = put_of v;
      says = tells.says;
      puts = inr ((λ must ok. idle_puts_none tells.says.before (first_thread v.own) asked said idle must ok), refl);
      view = refl;
    })

answers_over : (v : View) (w : View) (own : List Own) (asked : Call) (said : Reply) (f : Flight) (lasting first more : List Known) → length own ≡ 1
    → Answers (moved (acting v own v.lasting) f lasting (loads_in own ++ first) (put_in own)) asked said more w → Answers (acting v own v.lasting) asked said (first ++ more) w
answers_over v w [] asked said f lasting first more single h = absurd (omega arith)
answers_over v w (o ∷ own) asked said f lasting first more single h =
    record {
      put = h.put;
      says = record {
        has = h.says.has;
        known = h.says.known;
        history = h.says.history;
        before = h.says.before;
        lawful = h.says.lawful;
        leaves = h.says.leaves;
        was = mine_back v.map h.says.history (o ∷ own) f (o.loads ++ first) o.put h.says.was;
        becomes = h.says.becomes;
        own_is = h.says.own_is ∙ ap (λ (l : List Known). with_call (told (o ∷ own) (entries_told o.thread (told_by asked said)) h.says.has h.says.known (h.says.history ++ entries_told o.thread (told_by asked said))) (at_rest o.thread) l h.put) (append_assoc o.loads first more);
        mine = h.says.mine;
      };
      puts = h.puts;
      view = h.view;
    }

-- a call that had loaded words ends
pub answers_since : (v u w : View) (asked : Call) (said : Reply) (f : Flight) (lasting first more : List Known) → length v.own ≡ 1 → u ≡ moved v f lasting (loads_of v ++ first) (put_of v) → Answers u asked said more w → Answers v asked said (first ++ more) w
answers_since v u w asked said f lasting first more single is h = answers_over v w v.own asked said f lasting first more single (subst (λ (x : View). Answers x asked said more w) is h)

store_over : (v w : View) (own : List Own) (asked : Call) (said : Reply) (f : Flight) (lasting : List Known) (at word : ℕ) → length own ≡ 1 → ((s : SpaceState) → MustRecord s (first_thread own) asked → ⊥)
    → Stored (moved (acting v own v.lasting) f lasting (loads_in own) (put_in own)) at word (Some (told_by asked said)) w → Answers (acting v own v.lasting) asked said [] w
store_over v w [] asked said f lasting at word single none stored = absurd (omega arith)
store_over v w (o ∷ own) asked said f lasting at word single none stored =
    subst (Answers (acting v (o ∷ own) v.lasting) asked said []) (sym stored.view)
    (record {
      put = o.put;
      says = record {
        has = stored.says.has;
        known = stored.says.known;
        history = stored.says.history;
        before = stored.says.before;
        lawful = stored.says.lawful;
        leaves = stored.says.leaves;
        was = mine_back v.map stored.says.history (o ∷ own) f o.loads o.put stored.says.was;
        becomes = stored.says.becomes;
        own_is = stored.says.own_is ∙ ap (λ (l : List Known). with_call (told (o ∷ own) (entries_told o.thread (told_by asked said)) stored.says.has stored.says.known (stored.says.history ++ entries_told o.thread (told_by asked said))) (at_rest o.thread) l o.put) (sym (append-nil o.loads));
        mine = stored.says.mine;
      };
      puts = inr ((λ must ok. none stored.says.before must), refl);
      view = refl;
    })

-- a call of which the words had been stored ends with a store that tells its entry
pub answers_by_store : (v u w : View) (asked : Call) (said : Reply) (f : Flight) (lasting : List Known) (at word : ℕ) → length v.own ≡ 1 → ((s : SpaceState) → MustRecord s (first_thread v.own) asked → ⊥) → u ≡ moved v f lasting (loads_of v) (put_of v)
    → Stored u at word (Some (told_by asked said)) w → Answers v asked said [] w
answers_by_store v u w asked said f lasting at word single none is stored = store_over v w v.own asked said f lasting at word single none (subst (λ (x : View). Stored x at word (Some (told_by asked said)) w) is stored)
