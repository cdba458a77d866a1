use Rattle.std.proofs.Common.{◌≡◌, ℕ, ◌<◌, [], ◌∷◌, ◌++◌, All, subst, ap, sym, ◌∙◌, arith}
use Rattle.crossbeam_queue.specs.Passes.{view}
use Rattle.task_feed.specs.Dealt.{IsAscending}
use Rattle.task_feed.specs.declared.hands.Hand.{Hand}
use Rattle.task_feed.proofs.Deals.{has_left, takes}
use Rattle.task_feed.proofs.Takings.{all_told, drained, one_more, same_whole}
use Rattle.task_feed.proofs.dealing.drain.Goals as goal

pub pop_as-requires-clause-rule : goal.pop_as-requires-clause-rule
pop_as-requires-clause-rule g c =
    let h = c.loop.invariant.hand_is in
    let whole = same_whole (view c.loop.pass) (view c.args.pass) (ap (λ (v : Hand). v.parts) h) (ap (λ (v : Hand). v.all) h) c.requires.whole in
    let some = whole.has_part in
    (takes _ _ (λ e. absurd (omega (arith, e, some))) (λ _. whole), has_left _ _)

pub push_reserved-requires : goal.push_reserved-requires
push_reserved-requires g c =
    let t = rw c.in-Some-Some.field-0-is at c.in-Some-Some.ensures.rule in
    let h = c.loop.invariant in
    let more = one_more (view c.args.pass).taken c.loop.left.items c.in-Some-Some.task (view c.args.pass).put (view c.loop.pass) (view c.pop_as.new.pass)
    (ap (λ v. v.put) h.hand_is) (ap (λ v. v.taken) h.hand_is) h.ascending h.within t in
    omega (arith, more.fits, h.room)

pub loop-preserved : goal.loop-preserved
loop-preserved g c =
    let t = rw c.in-Some-Some.field-0-is at c.in-Some-Some.ensures.rule in
    let h = c.loop.invariant in
    let before = (view c.args.pass).taken in
    let row = c.loop.left.items ++ c.in-Some-Some.task ∷ [] in
    let more = one_more before c.loop.left.items c.in-Some-Some.task (view c.args.pass).put (view c.loop.pass) (view c.pop_as.new.pass)
    (ap (λ v. v.put) h.hand_is) (ap (λ v. v.taken) h.hand_is) h.ascending h.within t in
    let items : c.push_reserved.new.self.items ≡ row = c.push_reserved.ensures.items in
    let room = c.push_reserved.ensures.capacity in
    let parts : (view c.loop.pass).parts ≡ (view c.args.pass).parts = ap (λ (v : Hand). v.parts) h.hand_is in
    let all : (view c.loop.pass).all ≡ (view c.args.pass).all = ap (λ (v : Hand). v.all) h.hand_is in
    let ends : (view c.loop.pass).ends ≡ (view c.args.pass).ends = ap (λ (v : Hand). v.ends) h.hand_is in
    record {
      goes = (tt, tt);
      pass = (c.pop_as.ensures.queue.0 ∙ h.pass.0, c.pop_as.ensures.queue.2 ∙ h.pass.1);
      hand_is = drained before c.push_reserved.new.self.items row (view c.args.pass).parts (view c.args.pass).all (view c.args.pass).put (view c.args.pass).ends (view c.loop.pass) (view c.pop_as.new.pass)
          parts all ends more.none items more.hand_is;
      ascending = subst IsAscending (sym items) more.ascending;
      within = subst (All (λ (task : ℕ). task < (view c.args.pass).put)) (sym items) more.within;
      room = omega (arith, room, h.room);
      ended = λ some_end. absurd (omega (arith, some_end, ends, more.none));
    }

pub returns-in-Some-None-clause-once : goal.returns-in-Some-None-clause-once
returns-in-Some-None-clause-once g c =
    let t = rw c.in-Some-None.field-0-is at c.in-Some-None.ensures.rule in
    let h = c.loop.invariant in
    let whole = same_whole (view c.loop.pass) (view c.args.pass) (ap (λ (v : Hand). v.parts) h.hand_is) (ap (λ (v : Hand). v.all) h.hand_is) c.requires.whole in
    all_told (view c.args.pass).taken c.loop.left.items (view c.args.pass).put (view c.loop.pass) (ap (λ (v : Hand). v.put) h.hand_is) (ap (λ (v : Hand). v.taken) h.hand_is) (t.2 whole)

pub returns-in-None-pop_as-clause-once : goal.returns-in-None-pop_as-clause-once
returns-in-None-pop_as-clause-once g c =
    let t = c.in-None-pop_as.ensures.rule in
    let h = c.loop.invariant in
    let whole = same_whole (view c.loop.pass) (view c.args.pass) (ap (λ (v : Hand). v.parts) h.hand_is) (ap (λ (v : Hand). v.all) h.hand_is) c.requires.whole in
    all_told (view c.args.pass).taken c.loop.left.items (view c.args.pass).put (view c.loop.pass) (ap (λ (v : Hand). v.put) h.hand_is) (ap (λ (v : Hand). v.taken) h.hand_is) (t.1.2.1 whole t.1.1)
