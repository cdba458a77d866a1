use Rattle.std.proofs.Common.{◌≡◌, ⊎_elim, inl, inr, ℕ, ◌+◌, ◌≤◌, ◌∙◌, ap, arith, refl, subst, Option, None, Some, List, Result, Ok, Err, unwrap_or}
use Rattle.std.proofs.lemmas.Result.{err_from_is_err_and}
use Rattle.std.specs.FinMap.{get, insert}
use Rattle.object_layout.specs.declared.TheConstants.{MAX_INT}
use Rattle.object_layout.specs.declared.names.Name.{Name}
use Rattle.yak_model.specs.Graph.{Thread}
use Rattle.yak_model.specs.Private.{KnownObjects}
use Rattle.yak_model.specs.Standing.{Standing}
use Rattle.yak_model.specs.Texts.{WordCounts}
use Rattle.heap_tables.specs.declared.checked.AddError.{AddError}
use Rattle.heap_tables.specs.declared.checked.AddError.TheVariants.{OutOfHeap, TooLarge}
use Rattle.heap_tables.specs.Adds.{having_made}
use Rattle.heap_tables.specs.Counted.{IsCounted, MayCount, MayLook, count_of, or_zero}
use Rattle.heap_tables.proofs.Effects.{value_same}
use Rattle.heap_tables.proofs.Linked.{after_moved}
use Rattle.heap_tables.proofs.RunOn.{then_ran, then_out, next_same}
use Rattle.heap_tables.proofs.checked.add_checked.Goals as goal

zero_else : (o : Option ℕ) → unwrap_or o 0 ≡ or_zero o
zero_else None = refl
zero_else (Some n) = refl

no_full : (e : Result (Unit {0}) AddError) → e ≡ Err OutOfHeap → e ≡ Err TooLarge → ⊥
no_full e full large = cc

no_sum : (e : Result (Unit {0}) AddError) → e ≡ Ok tt → e ≡ Err TooLarge → ⊥
no_sum e ok large = cc

-- where the word was looked up, and the sum fits, the count may rise
abbrev may_rise : (s now : Standing) (known : KnownObjects) (table : ℕ) (word : List ℕ) (n : ℕ) (name : Name) (counts : WordCounts) → MayLook s known table word name counts → now.own ≡ s.own → count_of counts word + n ≤ MAX_INT → MayCount now known table word n name counts
may_rise s now known table word n name counts may own sum = record {
  slot = value_same s.own now.own table own ∙ may.slot;
  is_table = may.is_table;
  short = may.short;
  sum = sum;
}

abbrev looked : (s : Standing) (known : KnownObjects) (table : ℕ) (word : List ℕ) (n : ℕ) (name : Name) (counts : WordCounts) → MayCount s known table word n name counts → MayLook s known table word name counts
looked s known table word n name counts may = record { slot = may.slot; is_table = may.is_table; short = may.short }

-- the same of the caller as it was before the word was looked up
since_look : (s now after : Standing) (known : KnownObjects) (table : ℕ) (word : List ℕ) (n : ℕ) (name : Name) (counts : WordCounts) (may : MayCount s known table word n name counts) (thread : now.thread ≡ s.thread) (own : now.own ≡ s.own) (knows : KnownObjects → Type 0) → IsCounted now after known table word n name counts (may_rise s now known table word n name counts (looked s known table word n name counts may) own may.sum) knows → IsCounted s after known table word n name counts may knows
since_look s now after known table word n name counts may thread own knows told =
    let made = ap (λ (o : Thread). o.made) own in
    let m = told.0 in
    let r = told.1 in (
      (λ some. m.0 some ∙ made, λ none. m.1 none ∙ ap (λ k. k + 2) made),
      (r.0, r.1, r.2, r.3, r.4, r.5, λ b h. after_moved now s ((may.is_table).buckets b) ((r.2).buckets b) thread made (r.6 b h)),
    )

pub returns-then-passes_limit-clause-too_large : goal.returns-then-passes_limit-clause-too_large
returns-then-passes_limit-clause-too_large g c known name counts k may =
    let same = c.unwrap_or-count.ensures ∙ ap (λ o. unwrap_or o 0) (c.count_of.ensures.count known name counts k may) ∙ zero_else (get counts c.args.word.now) in
    let passes = c.if-passes_limit.ensures.passes refl in
    (λ _. omega (arith, same, passes), λ _. refl)

pub add-requires-clause-table : goal.add-requires-clause-table
add-requires-clause-table g c =
    let C = g.C.Caller in
    let h = c.requires.table in
    let same = c.unwrap_or-count.ensures ∙ ap (λ o. unwrap_or o 0) (c.count_of.ensures.count h.0 h.1 h.2 h.3 h.4) ∙ zero_else (get h.2 c.args.word.now) in
    let stays = c.if-passes_limit.ensures.stays refl in
    (h.0, h.1, h.2, c.count_of.ensures.kept h.0 h.1 h.2 h.3 h.4, may_rise (C.standing c.args.caller.now) (C.standing c.count_of.new.caller) h.0 c.args.table c.args.word.now c.args.n h.1 h.2 h.4 c.count_of.ensures.own (omega (arith, same, stays)))

pub returns-in_err-add-clause-too_large : goal.returns-in_err-add-clause-too_large
returns-in_err-add-clause-too_large g c known name counts k may =
    let same = c.unwrap_or-count.ensures ∙ ap (λ o. unwrap_or o 0) (c.count_of.ensures.count known name counts k may) ∙ zero_else (get counts c.args.word.now) in
    let stays = c.if-passes_limit.ensures.stays refl in
    let p = err_from_is_err_and c.from_residual.result c.from_residual.ensures.1 in
    (λ large. absurd (no_full _ (p.1 ∙ ap Err p.2) large), λ passes. let never : ⊥ = omega (arith, same, stays, passes) in absurd never)

pub returns-in_err-add-clause-ran_out : goal.returns-in_err-add-clause-ran_out
returns-in_err-add-clause-ran_out g c _ =
    let C = g.C.Caller in
    let own = c.count_of.ensures.own in
    let first = c.count_of.ensures.ran in
    ⊎_elim
    (λ x. inl (then_out C.base C.tells C.tells_known C.standing _ _ _ 0 _ first x.0, x.1 ∙ own))
    (λ x. inr (then_out C.base C.tells C.tells_known C.standing _ _ _ _ _ first x.0, x.1 ∙ ap (λ o. having_made o 1) own))
    c.in_err-add.ensures.ran_out

pub returns-in_err-add-clause-kept : goal.returns-in_err-add-clause-kept
returns-in_err-add-clause-kept g c _ known name counts may k =
    let s = g.C.Caller.standing c.args.caller.now in
    let look = looked s known c.args.table c.args.word.now c.args.n name counts may in
    c.in_err-add.ensures.kept known name counts (may_rise s _ known c.args.table c.args.word.now c.args.n name counts look c.count_of.ensures.own may.sum) (c.count_of.ensures.kept known name counts k look)

pub returns-in_err-add-clause-left : goal.returns-in_err-add-clause-left
returns-in_err-add-clause-left g c _ known name counts may other k ko lacks =
    let s = g.C.Caller.standing c.args.caller.now in
    let look = looked s known c.args.table c.args.word.now c.args.n name counts may in
    let next = next_same s (g.C.Caller.standing c.count_of.new.caller) c.count_of.ensures.ran.since.thread (ap (λ (o : Thread). o.made) c.count_of.ensures.own) in
    elim (c.in_err-add.ensures.left known name counts (may_rise s _ known c.args.table c.args.word.now c.args.n name counts look c.count_of.ensures.own may.sum) other (c.count_of.ensures.kept known name counts k look) (c.count_of.ensures.aside known name counts look other k ko lacks) lacks) [
      | inl h ↦ inl h
      | inr h ↦ inr (h.0, subst (λ n. g.C.Caller.knows c.add.new.caller (insert other n h.0)) next h.1)
    ]

pub returns-clause-too_large : goal.returns-clause-too_large
returns-clause-too_large g c known name counts k may =
    let same = c.unwrap_or-count.ensures ∙ ap (λ o. unwrap_or o 0) (c.count_of.ensures.count known name counts k may) ∙ zero_else (get counts c.args.word.now) in
    let stays = c.if-passes_limit.ensures.stays refl in
    (λ large. absurd (no_sum _ refl large), λ passes. let never : ⊥ = omega (arith, same, stays, passes) in absurd never)

pub returns-clause-ran : goal.returns-clause-ran
returns-clause-ran g c =
    let C = g.C.Caller in
    let own = c.count_of.ensures.own in
    let first = c.count_of.ensures.ran in
    ⊎_elim
    (λ x. inl (then_ran C.base C.tells C.tells_known C.standing _ _ _ _ first x.0, x.1 ∙ own))
    (λ x. inr (then_ran C.base C.tells C.tells_known C.standing _ _ _ _ first x.0, x.1 ∙ ap (λ o. having_made o 2) own))
    c.in_ok-add.ensures.ran

pub returns-clause-counted : goal.returns-clause-counted
returns-clause-counted g c known name counts may k =
    let C = g.C.Caller in
    let s = C.standing c.args.caller.now in
    let look = looked s known c.args.table c.args.word.now c.args.n name counts may in
    since_look s (C.standing c.count_of.new.caller) (C.standing c.add.new.caller) known c.args.table c.args.word.now c.args.n name counts may c.count_of.ensures.ran.since.thread c.count_of.ensures.own (C.knows c.add.new.caller)
    (c.in_ok-add.ensures.counted known name counts (may_rise s _ known c.args.table c.args.word.now c.args.n name counts look c.count_of.ensures.own may.sum) (c.count_of.ensures.kept known name counts k look))

pub returns-clause-aside : goal.returns-clause-aside
returns-clause-aside g c known name counts may other k ko lacks =
    let s = g.C.Caller.standing c.args.caller.now in
    let look = looked s known c.args.table c.args.word.now c.args.n name counts may in
    c.in_ok-add.ensures.aside known name counts (may_rise s _ known c.args.table c.args.word.now c.args.n name counts look c.count_of.ensures.own may.sum) other (c.count_of.ensures.kept known name counts k look) (c.count_of.ensures.aside known name counts look other k ko lacks) lacks
