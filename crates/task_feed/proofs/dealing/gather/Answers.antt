use Rattle.std.proofs.Common.{◌≡◌, ℕ, ◌<◌, List, [], ◌∷◌, ◌++◌, Vec, true, All, Any, ◌⊎◌, length, map, sum_by, subst, refl, ap, sym, ◌∙◌, arith, length-append}
use Rattle.std.proofs.lemmas.List.Elements.{All-head, All-tail}
use Rattle.crossbeam_queue.specs.Passes.{view}
use Rattle.std.specs.declared.alloc.Global.{Global}
use Rattle.std.specs.Vec.{vec_len}
use Rattle.task_feed.specs.Dealt.{places}
use Rattle.task_feed.specs.Hands.{together}
use Rattle.task_feed.specs.FeedContents.{lists_in}
use Rattle.task_feed.specs.Takers.{TakesFrom, has_ended, row_of}
use Rattle.task_feed.specs.declared.takers.Taker.{Taker}
use Rattle.task_feed.specs.declared.hands.Hand.{Hand}
use Rattle.task_feed.proofs.Deals.{merges}
use Rattle.task_feed.proofs.Gathers.{ended_first, ended_step, front, has_some, one_row, rows_step, taken_step}
use Rattle.task_feed.proofs.dealing.gather.Goals as goal

pub absorb-requires-clause-rule : goal.absorb-requires-clause-rule
absorb-requires-clause-rule c =
    let h = c.loop-takers.invariant in
    merges _ _ _ _ (λ e. absurd (omega (arith, e, h.some_part)))

pub loop-takers-preserved : goal.loop-takers-preserved
loop-takers-preserved c =
    let h = c.loop-takers.invariant in
    let taker = c.remove-theirs.result in
    let rest = c.remove-theirs.new.self.items in
    let rows = c.loop-takers.rows.items in
    let v = view c.loop-takers.pass in
    let u = view taker.pass in
    let some_len = has_some (vec_len c.loop-takers.takers) c.loop-takers-test.ensures in
    let has_one : 0 < length c.loop-takers.takers.items = omega (arith, some_len) in
    let all : c.loop-takers.takers.items ≡ taker ∷ rest =
    front c.loop-takers.takers.items taker has_one c.remove-theirs.ensures.value ∙ ap (λ (l : List Taker). taker ∷ l) (sym c.remove-theirs.ensures.items) in
    let made : All (TakesFrom c.args.tasks.now) (taker ∷ rest) = subst (All (TakesFrom c.args.tasks.now)) all h.made in
    let theirs = (All-head (TakesFrom c.args.tasks.now) taker rest made).hand_is in
    let rule : view c.absorb.new.pass ≡ together v u = c.absorb.ensures.rule in
    let pushed = c.push_reserved-in-loop-takers.ensures.items in
    let parts = ap (λ (x : Hand). x.parts) rule in
    let one = ap (λ (x : Hand). x.parts) theirs in
    let long = ap length all in
    let longer = ap length pushed in
    let capacity = c.push_reserved-in-loop-takers.ensures.capacity in
    record {
      pass = (c.absorb.ensures.queue.0 ∙ h.pass.0, c.absorb.ensures.queue.2 ∙ h.pass.1);
      parts = omega (arith, parts, one, long, h.parts);
      some_part = omega (arith, parts, h.some_part);
      all = ap (λ (x : Hand). x.all) rule ∙ h.all;
      put = ap (λ (x : Hand). x.put) rule ∙ h.put;
      made = All-tail (TakesFrom c.args.tasks.now) taker rest made;
      rows = ap (λ (l : List (Vec ℕ Global)). lists_in l ++ map row_of rest) pushed
          ∙ rows_step rows taker.taken taker rest (map row_of c.args.takers.items) refl (ap (λ (l : List Taker). lists_in rows ++ map row_of l) (sym all) ∙ h.rows);
      room = omega (arith, longer, long, h.room, capacity, length-append rows (taker.taken ∷ []));
      taken = λ task. ap (λ (x : Hand). places task x.taken) rule ∙ taken_step rows taker.taken v u (ap (λ (x : Hand). x.taken) theirs) h.taken task
          ∙ ap (λ (l : List (Vec ℕ Global)). sum_by (places task) (lists_in l)) (sym pushed);
      ended = λ some_ended.
          subst (λ (n : ℕ). (0 < n) ⊎ Any (λ (t : Taker). has_ended t ≡ true) rest) (sym (ap (λ (x : Hand). x.ends) rule))
          (ended_step v u taker rest (ap (λ (x : Hand). x.ends) theirs)
          (subst (λ (l : List Taker). (0 < v.ends) ⊎ Any (λ (t : Taker). has_ended t ≡ true) l) all (h.ended some_ended)));
    }

pub loop-takers-init : goal.loop-takers-init
loop-takers-init c =
    let taker = c.remove-pass.result in
    let rest = c.remove-pass.new.self.items in
    let some_taker = c.requires.some in
    let has_one : 0 < length c.args.takers.items = omega (arith, c.requires.all, some_taker) in
    let all : c.args.takers.items ≡ taker ∷ rest =
    front c.args.takers.items taker has_one c.remove-pass.ensures.value ∙ ap (λ (l : List Taker). taker ∷ l) (sym c.remove-pass.ensures.items) in
    let made : All (TakesFrom c.args.tasks.now) (taker ∷ rest) = subst (All (TakesFrom c.args.tasks.now)) all c.requires.made in
    let mine = All-head (TakesFrom c.args.tasks.now) taker rest made in
    let pushed : c.push_reserved.new.self.items ≡ taker.taken ∷ [] = c.push_reserved.ensures.items ∙ ap (λ (l : List (Vec ℕ Global)). l ++ taker.taken ∷ []) c.requires.rows in
    let long = ap length all in
    let one = ap (λ (x : Hand). x.parts) mine.hand_is in
    let longer = ap length pushed in
    let capacity = c.push_reserved.ensures.capacity in
    record {
      pass = mine.pass;
      parts = omega (arith, one, long, c.requires.all);
      some_part = omega (arith, one);
      all = ap (λ (x : Hand). x.all) mine.hand_is;
      put = ap (λ (x : Hand). x.put) mine.hand_is;
      made = All-tail (TakesFrom c.args.tasks.now) taker rest made;
      rows = ap (λ (l : List (Vec ℕ Global)). lists_in l ++ map row_of rest) pushed ∙ ap (map row_of) (sym all);
      room = omega (arith, longer, long, c.requires.all, c.requires.room, capacity);
      taken = λ task. ap (λ (x : Hand). places task x.taken) mine.hand_is ∙ one_row task taker.taken.items ∙ ap (λ (l : List (Vec ℕ Global)). sum_by (places task) (lists_in l)) (sym pushed);
      ended = λ some_ended. ended_first (view taker.pass) taker rest (ap (λ (x : Hand). x.ends) mine.hand_is)
          (subst (λ (l : List Taker). Any (λ (t : Taker). has_ended t ≡ true) l) all some_ended);
    }
