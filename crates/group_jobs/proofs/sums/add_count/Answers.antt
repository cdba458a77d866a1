use Rattle.std.proofs.Common.{◌≡◌, ◌+◌, ◌-◌, ℕ, List, true≢false, length, get_or, inr, sym, ap, ◌∙◌, arith, rules, is_eq, ◌++◌, ◌∷◌, []}
use Rattle.std.proofs.lemmas.List.{get_or_default}
use Rattle.yak_model.specs.Texts.{word_cmp}
use Rattle.heap_tables.proofs.OnResult.{ok_map}
use Rattle.group_jobs.proofs.Summing.{Pair, behind_none, behind_other, last_of, raised_last, tied, ties_itself}
use Rattle.group_jobs.proofs.sums.add_count.Goals as goal
use Rattle.group_jobs.proofs.sums.add_count.Goals.{else-size-gt0-via-then-size-gt0+else-is_eq, else-size-gt0-via-else-size-gt0}

pub overflow_add-index_mut : goal.overflow_add-index_mut
overflow_add-index_mut c =
    let items = c.args.sums.now.items in
    let k = c.len-size.result - 1 in
    let d = c.index_mut.result.now in
    let last = c.behind-sums.inside in
    let size : k + 1 ≡ length items = search rules in
    let here : get_or items k d ≡ (last.word.items, last.count) = sym c.index_mut.ensures.value ∙ sym c.behind-sums.view_is in
    let seen : c.index.result.now ≡ d = c.index.ensures ∙ get_or_default items k c.index.result.now d (omega (arith, size)) ∙ sym c.index_mut.ensures.value in
    let same : c.index.result.now.0 ≡ c.args.counted.0 = tied c.index.result.now.0 c.args.counted.0 (ap is_eq (sym c.order.ensures) ∙ sym c.is_eq.ensures ∙ c.if-is_eq.true) in
    let front = last_of items k d size in
    let count : last.count ≡ d.1 = ap (λ (p : Pair). p.1) c.behind-sums.view_is in
    let more : c.counted.inside.count ≡ c.args.counted.1 = ap (λ (p : Pair). p.1) c.counted.view_is in
    let fits = c.requires.fits front.0 d.1 (front.1 ∙ (λ i. front.0 ++ (sym c.index_mut.ensures.value ∙ (λ j. ((ap (λ (p : Pair). p.0) (sym seen) ∙ same) j, d.1))) i ∷ [])) in
    search (rules, arith)

pub returns-then-is_eq : goal.returns-then-is_eq
returns-then-is_eq c =
    let items = c.args.sums.now.items in
    let k = c.len-size.result - 1 in
    let d = c.index_mut.result.now in
    let last = c.behind-sums.inside in
    let size : k + 1 ≡ length items = search rules in
    let seen : c.index.result.now ≡ d = c.index.ensures ∙ get_or_default items k c.index.result.now d (omega (arith, size)) ∙ sym c.index_mut.ensures.value in
    let same : c.index.result.now.0 ≡ c.args.counted.0 = tied c.index.result.now.0 c.args.counted.0 (ap is_eq (sym c.order.ensures) ∙ sym c.is_eq.ensures ∙ c.if-is_eq.true) in
    let word : last.word.items ≡ d.0 = ap (λ (p : Pair). p.0) c.behind-sums.view_is in
    let count : last.count ≡ d.1 = ap (λ (p : Pair). p.1) c.behind-sums.view_is in
    let more : c.counted.inside.count ≡ c.args.counted.1 = ap (λ (p : Pair). p.1) c.counted.view_is in
    raised_last items c.args.counted d (last.word.items, last.count + c.counted.inside.count) k d size (sym c.index_mut.ensures.value) (ap (λ (p : Pair). p.0) (sym seen) ∙ same) (λ i. (word i, count i + more i))

pub returns : goal.returns
returns c = ok_map c.push_count.result _ _
    (λ put. inr (
      (elim c.else-size-gt0.branch [
        | else-size-gt0-via-then-size-gt0+else-is_eq w ↦
            let k = c.len-size.result - 1 in
            let d = w.index.result.now in
            behind_other c.args.sums.now.items c.args.counted k d (search rules)
            (λ e. true≢false (sym (ties_itself c.args.counted.0) ∙ ap (λ (word : List ℕ). is_eq (word_cmp word c.args.counted.0)) (sym e ∙ ap (λ (p : Pair). p.0) (sym w.index.ensures)) ∙ ap is_eq (sym w.order.ensures) ∙ sym w.is_eq.ensures ∙ w.if-is_eq.false))
        | else-size-gt0-via-else-size-gt0 w ↦ behind_none c.args.sums.now.items c.args.counted (search rules)
      ]),
      put,
    ))
    c.push_count.ensures
