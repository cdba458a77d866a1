use Rattle.std.proofs.Common.{◌≡◌, ◌<◌, ℕ, zero, suc, List, [], ◌∷◌, length, ◌∙◌, ap, sym, refl, arith, below_more, true≢false}
use Rattle.yak_model.specs.Graph.{Thread}
use Rattle.yak_model.specs.Tables.{group, groups}
use Rattle.yak_model.specs.declared.datum.Datum.TheVariants as datum
use Rattle.heap_tables.proofs.Effects.{value_same}
use Rattle.heap_tables.proofs.Groups.{equal_words}
use Rattle.heap_tables.proofs.RunOn.{ran_more}
use Rattle.heap_tables.proofs.keys.is_key.Goals as goal

same_int : (m n : ℕ) → datum.Int m ≡ datum.Int n → m ≡ n
same_int m n e = cc

same_first : (xs ys : List ℕ) → length xs ≡ length ys → (0 < length ys → 0 < length xs → group xs 0 ≡ group ys 0) → group xs 0 ≡ group ys 0
same_first [] [] e begins = refl
same_first [] (y ∷ ys) e begins = absurd (omega (arith, e))
same_first (x ∷ xs) [] e begins = absurd (omega (arith, e))
same_first (x ∷ xs) (y ∷ ys) e begins = begins (omega arith) (omega arith)

first_alone : (P : ℕ → Type 0) → P 0 → (j : ℕ) → j < 1 → P j
first_alone P h zero lt = h
first_alone P h (suc j) lt = absurd (omega (arith, lt))

pub returns-then-not-begins_as-clause-answer : goal.returns-then-not-begins_as-clause-answer
returns-then-not-begins_as-clause-answer g c known name other k key =
    (λ e. absurd (true≢false (sym e)), λ same. c.if-not-begins_as.ensures.answer known name other k key same)

pub field_is-requires-clause-field : goal.field_is-requires-clause-field
field_is-requires-clause-field g c =
    let h = c.requires.key in
    (h.0, h.1, h.4.1.0, c.if-not-begins_as.ensures.keeps h.0 h.3, (value_same (g.C.Caller.standing c.args.caller.now).own _ c.args.key c.if-not-begins_as.ensures.own ∙ h.4.0, h.4.1.1), omega (arith, h.4.1.2.size))

pub returns-then-not-field_is-clause-ran : goal.returns-then-not-field_is-clause-ran
returns-then-not-field_is-clause-ran g c = let C = g.C.Caller in ran_more C.base C.tells C.tells_known C.standing _ _ _ c.if-not-begins_as.ensures.ran c.field_is.ensures.ran

pub loop-i-init : goal.loop-i-init
loop-i-init g c = let C = g.C.Caller in record {
  ran = ran_more C.base C.tells C.tells_known C.standing _ _ _ c.if-not-begins_as.ensures.ran c.field_is.ensures.ran;
  keeps = λ known k. c.field_is.ensures.keeps known (c.if-not-begins_as.ensures.keeps known k);
  own = c.field_is.ensures.own ∙ c.if-not-begins_as.ensures.own;
  same = λ known name other k key.
      let slot = value_same (g.C.Caller.standing c.args.caller.now).own _ c.args.key c.if-not-begins_as.ensures.own ∙ key.0 in
      let size : length other ≡ length c.args.word.now = same_int _ _ (sym key.1.2.first ∙ (c.if-not-field_is.ensures.answer known name key.1.0 (c.if-not-begins_as.ensures.keeps known k) (slot, key.1.1) (omega (arith, key.1.2.size))).0 refl) in
      (size, first_alone (λ j. group other j ≡ group c.args.word.now j) (same_first other c.args.word.now size (c.if-not-begins_as.ensures.begins known name other k key refl)));
}

pub field_is-requires-in-loop-i-clause-field : goal.field_is-requires-in-loop-i-clause-field
field_is-requires-in-loop-i-clause-field g c =
    let h = c.requires.key in
    let size = (c.loop-i.invariant.same h.0 h.1 h.2 h.3 h.4).0 in
    let slot = value_same (g.C.Caller.standing c.args.caller.now).own _ c.args.key c.loop-i.invariant.own ∙ h.4.0 in
    let fits = ap (λ n. groups n) size in
    (h.0, h.1, h.4.1.0, c.loop-i.invariant.keeps h.0 h.3, (slot, h.4.1.1), omega (arith, h.4.1.2.size, fits, c.loop-i-test.true, c.groups-count.ensures.groups))

pub loop-i-preserved : goal.loop-i-preserved
loop-i-preserved g c =
    let C = g.C.Caller in
    let inv = c.loop-i.invariant in record {
      ran = ran_more C.base C.tells C.tells_known C.standing _ _ _ inv.ran c.field_is-in-loop-i.ensures.ran;
      keeps = λ known k. c.field_is-in-loop-i.ensures.keeps known (inv.keeps known k);
      own = c.field_is-in-loop-i.ensures.own ∙ inv.own;
      same = λ known name other k key.
          let old = inv.same known name other k key in
          let slot = value_same (C.standing c.args.caller.now).own _ c.args.key inv.own ∙ key.0 in
          let fits = ap (λ n. groups n) old.0 in
          let answer = (c.if-not-field_is-2.ensures.answer known name key.1.0 (inv.keeps known k) (slot, key.1.1) (omega (arith, key.1.2.size, fits, c.loop-i-test.true, c.groups-count.ensures.groups))).0 refl in
          let here = same_int _ _ (sym (key.1.2.rest c.loop-i.i (omega (arith, fits, c.loop-i-test.true, c.groups-count.ensures.groups))) ∙ answer) ∙ c.group.ensures.same in
          (old.0, below_more (λ j. group other j ≡ group c.args.word.now j) c.loop-i.i old.1 here);
    }

pub returns-clause-answer : goal.returns-clause-answer
returns-clause-answer g c known name other k key =
    let old = c.loop-i.invariant.same known name other k key in
    let fits = ap (λ n. groups n) old.0 in
    (λ _. equal_words other c.args.word.now key.1.3 (λ i. (c.type_inv.word i).fits) old.0 (λ i h. old.1 i (omega (arith, h, fits, c.loop-i-test.false, c.groups-count.ensures.groups))), λ _. refl)

pub returns-then-not-field_is-2-clause-ran : goal.returns-then-not-field_is-2-clause-ran
returns-then-not-field_is-2-clause-ran g c = let C = g.C.Caller in ran_more C.base C.tells C.tells_known C.standing _ _ _ c.loop-i.invariant.ran c.field_is-in-loop-i.ensures.ran
