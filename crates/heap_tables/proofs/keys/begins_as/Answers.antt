use Rattle.std.proofs.Common.{◌≡◌, ◌<◌, ◌∙◌, ℕ, ap, sym, arith, length, get_or}
use Rattle.std.proofs.lemmas.Bool.{eqb-false, eqb-true}
use Rattle.yak_model.specs.declared.datum.Datum.TheVariants as datum
use Rattle.heap_tables.specs.Runs.{popped}
use Rattle.heap_tables.proofs.Effects.{loaded, unloaded, popped_pushed, size_after, top_after}
use Rattle.heap_tables.proofs.RunOn.{ran_more}
use Rattle.yak_model.specs.Tables.{group}
use Rattle.heap_tables.proofs.keys.begins_as.Goals as goal

same_int : (m n : ℕ) → datum.Int m ≡ datum.Int n → m ≡ n
same_int m n e = cc

empty_none : (n : ℕ) → n ≡ 0 → 0 < n → ⊥
empty_none n e some = absurd (omega (arith, e, some))

pub returns-then-not-try_load-clause-own : goal.returns-then-not-try_load-clause-own
returns-then-not-try_load-clause-own g c =
    let h = c.requires.key in
    unloaded 1 (length h.4.1.0) (λ b. c.if-not-try_load.ensures.pushed h.0 h.1 h.4.1.0 h.3 (h.4.0, h.4.1.1) b) (λ b. c.if-not-try_load.ensures.past h.0 h.1 h.4.1.0 h.3 (h.4.0, h.4.1.1) b)

pub returns-then-not-try_load-clause-answer : goal.returns-then-not-try_load-clause-answer
returns-then-not-try_load-clause-answer g c known name other k key e =
    let some = eqb-false _ _ (sym c.if-is_empty.ensures) in
    (c.if-not-try_load.ensures.pushed known name key.1.0 k (key.0, key.1.1) (omega (arith, key.1.2.size, ap length e, some))).0

pub slot_is-same-requires-clause-some : goal.slot_is-same-requires-clause-some
slot_is-same-requires-clause-some g c = let h = c.requires.key in (h.0, c.if-not-try_load.ensures.keeps h.0 h.3)

pub slot_is-same-requires-clause-slot : goal.slot_is-same-requires-clause-slot
slot_is-same-requires-clause-slot g c =
    let h = c.requires.key in
    let e = loaded 1 (length h.4.1.0) (λ b. c.if-not-try_load.ensures.pushed h.0 h.1 h.4.1.0 h.3 (h.4.0, h.4.1.1) b) (λ b. c.if-not-try_load.ensures.past h.0 h.1 h.4.1.0 h.3 (h.4.0, h.4.1.1) b) in
    omega (arith, c.requires.top, size_after (g.C.Caller.standing c.args.caller.now).own _ (get_or h.4.1.0 1 datum.Null) e)

pub pop-requires-clause-some : goal.pop-requires-clause-some
pop-requires-clause-some g c = let h = c.requires.key in (h.0, c.slot_is-same.ensures.keeps h.0 (c.if-not-try_load.ensures.keeps h.0 h.3))

pub pop-requires-clause-slot : goal.pop-requires-clause-slot
pop-requires-clause-slot g c =
    let h = c.requires.key in
    let e = loaded 1 (length h.4.1.0) (λ b. c.if-not-try_load.ensures.pushed h.0 h.1 h.4.1.0 h.3 (h.4.0, h.4.1.1) b) (λ b. c.if-not-try_load.ensures.past h.0 h.1 h.4.1.0 h.3 (h.4.0, h.4.1.1) b) in
    omega (arith, size_after (g.C.Caller.standing c.args.caller.now).own _ (get_or h.4.1.0 1 datum.Null) (c.slot_is-same.ensures.own ∙ e))

pub returns-clause-ran : goal.returns-clause-ran
returns-clause-ran g c = let C = g.C.Caller in ran_more C.base C.tells C.tells_known C.standing _ _ _ (ran_more C.base C.tells C.tells_known C.standing _ _ _ c.if-not-try_load.ensures.ran c.slot_is-same.ensures.ran) c.pop.ensures.ran

pub returns-clause-own : goal.returns-clause-own
returns-clause-own g c =
    let h = c.requires.key in
    let e = loaded 1 (length h.4.1.0) (λ b. c.if-not-try_load.ensures.pushed h.0 h.1 h.4.1.0 h.3 (h.4.0, h.4.1.1) b) (λ b. c.if-not-try_load.ensures.past h.0 h.1 h.4.1.0 h.3 (h.4.0, h.4.1.1) b) in
    c.pop.ensures.popped ∙ ap popped (c.slot_is-same.ensures.own ∙ e) ∙ popped_pushed _ _

pub returns-clause-answer : goal.returns-clause-answer
returns-clause-answer g c known name other k key e =
    let some = eqb-false _ _ (sym c.if-is_empty.ensures) in
    let there = c.if-not-try_load.ensures.pushed known name key.1.0 k (key.0, key.1.1) (omega (arith, key.1.2.size, ap length e, some)) in
    let bound : 0 < length other = omega (arith, ap length e, some) in
    c.slot_is-same.ensures.answer.1
    (top_after (g.C.Caller.standing c.args.caller.now).own _ (get_or key.1.0 1 datum.Null) c.args.top there.1 c.requires.top ∙ key.1.2.rest 0 (omega (arith, bound)) ∙ ap (λ w. datum.Int (group w 0)) e ∙ ap datum.Int (sym c.requires.first))

pub returns-then-is_empty-clause-begins : goal.returns-then-is_empty-clause-begins
returns-then-is_empty-clause-begins g c known name other k key said some more = absurd (empty_none _ (eqb-true _ _ (sym c.if-is_empty.ensures)) some)

pub returns-clause-begins : goal.returns-clause-begins
returns-clause-begins g c known name other k key said some more =
    let there = c.if-not-try_load.ensures.pushed known name key.1.0 k (key.0, key.1.1) (omega (arith, key.1.2.size, more)) in
    let at_top = top_after (g.C.Caller.standing c.args.caller.now).own _ (get_or key.1.0 1 datum.Null) c.args.top there.1 c.requires.top in
    same_int _ _ (sym (key.1.2.rest 0 (omega (arith, more))) ∙ sym at_top ∙ c.slot_is-same.ensures.answer.0 said) ∙ c.requires.first
