use Rattle.heap_tables.proofs.RunOn.{ran_more}
use Rattle.yak_model.specs.declared.TheConstants.{BUCKETS}
use Rattle.std.proofs.Common.{◌≡◌, ◌+◌, ◌<◌, ◌∙◌, ap, sym, subst, refl, arith, length, get_or, true≢false, ◌∷◌}
use Rattle.yak_model.specs.Graph.{Thread}
use Rattle.yak_model.specs.declared.datum.Datum.TheVariants as datum
use Rattle.heap_tables.specs.Runs.{pushed, popped}
use Rattle.heap_tables.proofs.Effects.{popped_pushed, top_after, size_after, length_push}
use Rattle.yak_model.specs.Tables.{bucket_of}
use Rattle.yak_model.specs.Tables.{IsChain, HasCount}
use Rattle.heap_tables.specs.Walks.{IsAtChain}
use Rattle.heap_tables.proofs.Raised.{table_apart, has_count_at, entry_at, raised_table}
use Rattle.heap_tables.proofs.Asides.{lacks_as, lacks_rest}
use Rattle.heap_tables.proofs.tables.add_far.Goals as goal

pub find-requires-clause-chain : goal.find-requires-clause-chain
find-requires-clause-chain g c =
    let h = c.requires.table in
    let t = (h.5).is_table in
    let b = bucket_of c.args.word.now in
    let e = c.bucket_of-bucket.ensures.same in
    let small : b < BUCKETS = omega (arith, e, c.bucket_of-bucket.ensures.small) in
    let chain = t.chains b small in
    (h.0, h.1, h.2, h.3 b, h.4, (((h.5).slot, t.object), omega (arith, t.size, c.bucket_of-bucket.ensures.small), subst (λ i. IsChain h.0 (get_or h.2 i datum.Null) (h.3 b)) (sym e) chain), table_apart h.0 h.1 h.2 h.3 t (h.3 b) (get_or h.2 b datum.Null) chain, (h.5).short)

pub raise-requires-clause-entry : goal.raise-requires-clause-entry
raise-requires-clause-entry g c =
    let h = c.requires.table in
    let t = (h.5).is_table in
    let b = bucket_of c.args.word.now in
    let e = c.bucket_of-bucket.ensures.same in
    let small : b < BUCKETS = omega (arith, e, c.bucket_of-bucket.ensures.small) in
    let chain = t.chains b small in
    let at : IsAtChain (g.C.Caller.standing c.args.caller.now) h.0 c.args.table c.bucket_of-bucket.result h.1 h.2 (h.3 b) = (((h.5).slot, t.object), omega (arith, t.size, c.bucket_of-bucket.ensures.small), subst (λ i. IsChain h.0 (get_or h.2 i datum.Null) (h.3 b)) (sym e) chain) in
    let apart = table_apart h.0 h.1 h.2 h.3 t (h.3 b) (get_or h.2 b datum.Null) chain in
    let found = c.if-find.ensures.found h.0 h.1 h.2 (h.3 b) h.4 at apart (h.5).short in
    let still = c.if-find.ensures.known h.0 h.1 h.2 (h.3 b) h.4 at apart (h.5).short in
    let f = found.0 refl in
    let there = entry_at h.0 f.0 f.2 f.1 (get_or h.2 b datum.Null) (subst (IsChain h.0 (get_or h.2 b datum.Null)) f.3 chain) in
    let deep : length (pushed (g.C.Caller.standing c.args.caller.now).own (get_or h.2 c.bucket_of-bucket.result datum.Null)).stack ≡ c.args.top + 1 = length_push _ _ ∙ ap (λ m. m + 1) c.requires.top in
    let size = size_after (pushed (g.C.Caller.standing c.args.caller.now).own (get_or h.2 c.bucket_of-bucket.result datum.Null)) _ (datum.Object (f.1).entry) f.6 in (
      h.0,
      there.0,
      f.1,
      still,
      (top_after (pushed (g.C.Caller.standing c.args.caller.now).own (get_or h.2 c.bucket_of-bucket.result datum.Null)) _ (datum.Object (f.1).entry) (c.args.top + 1) f.6 deep, there.1),
      (h.5).sum (f.1).count (subst (λ ls. HasCount c.args.word.now ls (f.1).count) (sym f.3) (has_count_at c.args.word.now f.0 f.2 f.1 f.5 f.4)),
    )

pub raise-requires-clause-room : goal.raise-requires-clause-room
raise-requires-clause-room g c =
    let h = c.requires.table in
    let t = (h.5).is_table in
    let b = bucket_of c.args.word.now in
    let e = c.bucket_of-bucket.ensures.same in
    let small : b < BUCKETS = omega (arith, e, c.bucket_of-bucket.ensures.small) in
    let chain = t.chains b small in
    let at : IsAtChain (g.C.Caller.standing c.args.caller.now) h.0 c.args.table c.bucket_of-bucket.result h.1 h.2 (h.3 b) = (((h.5).slot, t.object), omega (arith, t.size, c.bucket_of-bucket.ensures.small), subst (λ i. IsChain h.0 (get_or h.2 i datum.Null) (h.3 b)) (sym e) chain) in
    let apart = table_apart h.0 h.1 h.2 h.3 t (h.3 b) (get_or h.2 b datum.Null) chain in
    let found = c.if-find.ensures.found h.0 h.1 h.2 (h.3 b) h.4 at apart (h.5).short in
    let still = c.if-find.ensures.known h.0 h.1 h.2 (h.3 b) h.4 at apart (h.5).short in
    let f = found.0 refl in
    let there = entry_at h.0 f.0 f.2 f.1 (get_or h.2 b datum.Null) (subst (IsChain h.0 (get_or h.2 b datum.Null)) f.3 chain) in
    let deep : length (pushed (g.C.Caller.standing c.args.caller.now).own (get_or h.2 c.bucket_of-bucket.result datum.Null)).stack ≡ c.args.top + 1 = length_push _ _ ∙ ap (λ m. m + 1) c.requires.top in
    let size = size_after (pushed (g.C.Caller.standing c.args.caller.now).own (get_or h.2 c.bucket_of-bucket.result datum.Null)) _ (datum.Object (f.1).entry) f.6 in
    omega (arith, c.requires.room, c.requires.top, deep, size)

pub raise-requires-clause-top : goal.raise-requires-clause-top
raise-requires-clause-top g c =
    let h = c.requires.table in
    let t = (h.5).is_table in
    let b = bucket_of c.args.word.now in
    let e = c.bucket_of-bucket.ensures.same in
    let small : b < BUCKETS = omega (arith, e, c.bucket_of-bucket.ensures.small) in
    let chain = t.chains b small in
    let at : IsAtChain (g.C.Caller.standing c.args.caller.now) h.0 c.args.table c.bucket_of-bucket.result h.1 h.2 (h.3 b) = (((h.5).slot, t.object), omega (arith, t.size, c.bucket_of-bucket.ensures.small), subst (λ i. IsChain h.0 (get_or h.2 i datum.Null) (h.3 b)) (sym e) chain) in
    let apart = table_apart h.0 h.1 h.2 h.3 t (h.3 b) (get_or h.2 b datum.Null) chain in
    let found = c.if-find.ensures.found h.0 h.1 h.2 (h.3 b) h.4 at apart (h.5).short in
    let still = c.if-find.ensures.known h.0 h.1 h.2 (h.3 b) h.4 at apart (h.5).short in
    let f = found.0 refl in
    let there = entry_at h.0 f.0 f.2 f.1 (get_or h.2 b datum.Null) (subst (IsChain h.0 (get_or h.2 b datum.Null)) f.3 chain) in
    let deep : length (pushed (g.C.Caller.standing c.args.caller.now).own (get_or h.2 c.bucket_of-bucket.result datum.Null)).stack ≡ c.args.top + 1 = length_push _ _ ∙ ap (λ m. m + 1) c.requires.top in
    let size = size_after (pushed (g.C.Caller.standing c.args.caller.now).own (get_or h.2 c.bucket_of-bucket.result datum.Null)) _ (datum.Object (f.1).entry) f.6 in
    omega (arith, deep, size)

pub pop-requires-clause-some : goal.pop-requires-clause-some
pop-requires-clause-some g c =
    let h = c.requires.table in
    let t = (h.5).is_table in
    let b = bucket_of c.args.word.now in
    let e = c.bucket_of-bucket.ensures.same in
    let small : b < BUCKETS = omega (arith, e, c.bucket_of-bucket.ensures.small) in
    let chain = t.chains b small in
    let at : IsAtChain (g.C.Caller.standing c.args.caller.now) h.0 c.args.table c.bucket_of-bucket.result h.1 h.2 (h.3 b) = (((h.5).slot, t.object), omega (arith, t.size, c.bucket_of-bucket.ensures.small), subst (λ i. IsChain h.0 (get_or h.2 i datum.Null) (h.3 b)) (sym e) chain) in
    let apart = table_apart h.0 h.1 h.2 h.3 t (h.3 b) (get_or h.2 b datum.Null) chain in
    let found = c.if-find.ensures.found h.0 h.1 h.2 (h.3 b) h.4 at apart (h.5).short in
    let still = c.if-find.ensures.known h.0 h.1 h.2 (h.3 b) h.4 at apart (h.5).short in
    let f = found.0 refl in
    let there = entry_at h.0 f.0 f.2 f.1 (get_or h.2 b datum.Null) (subst (IsChain h.0 (get_or h.2 b datum.Null)) f.3 chain) in
    let deep : length (pushed (g.C.Caller.standing c.args.caller.now).own (get_or h.2 c.bucket_of-bucket.result datum.Null)).stack ≡ c.args.top + 1 = length_push _ _ ∙ ap (λ m. m + 1) c.requires.top in
    let size = size_after (pushed (g.C.Caller.standing c.args.caller.now).own (get_or h.2 c.bucket_of-bucket.result datum.Null)) _ (datum.Object (f.1).entry) f.6 in
    let lifted = c.raise.ensures.raised h.0 there.0 f.1 still (top_after (pushed (g.C.Caller.standing c.args.caller.now).own (get_or h.2 c.bucket_of-bucket.result datum.Null)) _ (datum.Object (f.1).entry) (c.args.top + 1) f.6 deep, there.1) in
    (_, lifted)

pub pop-requires-clause-slot : goal.pop-requires-clause-slot
pop-requires-clause-slot g c =
    let h = c.requires.table in
    let t = (h.5).is_table in
    let b = bucket_of c.args.word.now in
    let e = c.bucket_of-bucket.ensures.same in
    let small : b < BUCKETS = omega (arith, e, c.bucket_of-bucket.ensures.small) in
    let chain = t.chains b small in
    let at : IsAtChain (g.C.Caller.standing c.args.caller.now) h.0 c.args.table c.bucket_of-bucket.result h.1 h.2 (h.3 b) = (((h.5).slot, t.object), omega (arith, t.size, c.bucket_of-bucket.ensures.small), subst (λ i. IsChain h.0 (get_or h.2 i datum.Null) (h.3 b)) (sym e) chain) in
    let apart = table_apart h.0 h.1 h.2 h.3 t (h.3 b) (get_or h.2 b datum.Null) chain in
    let found = c.if-find.ensures.found h.0 h.1 h.2 (h.3 b) h.4 at apart (h.5).short in
    let still = c.if-find.ensures.known h.0 h.1 h.2 (h.3 b) h.4 at apart (h.5).short in
    let f = found.0 refl in
    let there = entry_at h.0 f.0 f.2 f.1 (get_or h.2 b datum.Null) (subst (IsChain h.0 (get_or h.2 b datum.Null)) f.3 chain) in
    let deep : length (pushed (g.C.Caller.standing c.args.caller.now).own (get_or h.2 c.bucket_of-bucket.result datum.Null)).stack ≡ c.args.top + 1 = length_push _ _ ∙ ap (λ m. m + 1) c.requires.top in
    let size = size_after (pushed (g.C.Caller.standing c.args.caller.now).own (get_or h.2 c.bucket_of-bucket.result datum.Null)) _ (datum.Object (f.1).entry) f.6 in
    omega (arith, size, ap (λ (o : Thread). length o.stack) c.raise.ensures.own)

pub pop-requires-then-find-clause-some : goal.pop-requires-then-find-clause-some
pop-requires-then-find-clause-some g c =
    let h = c.requires.table in
    let t = (h.5).is_table in
    let b = bucket_of c.args.word.now in
    let e = c.bucket_of-bucket.ensures.same in
    let small : b < BUCKETS = omega (arith, e, c.bucket_of-bucket.ensures.small) in
    let chain = t.chains b small in
    let at : IsAtChain (g.C.Caller.standing c.args.caller.now) h.0 c.args.table c.bucket_of-bucket.result h.1 h.2 (h.3 b) = (((h.5).slot, t.object), omega (arith, t.size, c.bucket_of-bucket.ensures.small), subst (λ i. IsChain h.0 (get_or h.2 i datum.Null) (h.3 b)) (sym e) chain) in
    let apart = table_apart h.0 h.1 h.2 h.3 t (h.3 b) (get_or h.2 b datum.Null) chain in
    let found = c.if-find.ensures.found h.0 h.1 h.2 (h.3 b) h.4 at apart (h.5).short in
    let still = c.if-find.ensures.known h.0 h.1 h.2 (h.3 b) h.4 at apart (h.5).short in
    let f = found.0 refl in
    let there = entry_at h.0 f.0 f.2 f.1 (get_or h.2 b datum.Null) (subst (IsChain h.0 (get_or h.2 b datum.Null)) f.3 chain) in
    let deep : length (pushed (g.C.Caller.standing c.args.caller.now).own (get_or h.2 c.bucket_of-bucket.result datum.Null)).stack ≡ c.args.top + 1 = length_push _ _ ∙ ap (λ m. m + 1) c.requires.top in
    let size = size_after (pushed (g.C.Caller.standing c.args.caller.now).own (get_or h.2 c.bucket_of-bucket.result datum.Null)) _ (datum.Object (f.1).entry) f.6 in
    let lifted = c.raise.ensures.raised h.0 there.0 f.1 still (top_after (pushed (g.C.Caller.standing c.args.caller.now).own (get_or h.2 c.bucket_of-bucket.result datum.Null)) _ (datum.Object (f.1).entry) (c.args.top + 1) f.6 deep, there.1) in
    (_, c.pop.ensures.keeps _ lifted)

pub pop-requires-then-find-clause-slot : goal.pop-requires-then-find-clause-slot
pop-requires-then-find-clause-slot g c =
    let h = c.requires.table in
    let t = (h.5).is_table in
    let b = bucket_of c.args.word.now in
    let e = c.bucket_of-bucket.ensures.same in
    let small : b < BUCKETS = omega (arith, e, c.bucket_of-bucket.ensures.small) in
    let chain = t.chains b small in
    let at : IsAtChain (g.C.Caller.standing c.args.caller.now) h.0 c.args.table c.bucket_of-bucket.result h.1 h.2 (h.3 b) = (((h.5).slot, t.object), omega (arith, t.size, c.bucket_of-bucket.ensures.small), subst (λ i. IsChain h.0 (get_or h.2 i datum.Null) (h.3 b)) (sym e) chain) in
    let apart = table_apart h.0 h.1 h.2 h.3 t (h.3 b) (get_or h.2 b datum.Null) chain in
    let found = c.if-find.ensures.found h.0 h.1 h.2 (h.3 b) h.4 at apart (h.5).short in
    let still = c.if-find.ensures.known h.0 h.1 h.2 (h.3 b) h.4 at apart (h.5).short in
    let f = found.0 refl in
    let there = entry_at h.0 f.0 f.2 f.1 (get_or h.2 b datum.Null) (subst (IsChain h.0 (get_or h.2 b datum.Null)) f.3 chain) in
    let deep : length (pushed (g.C.Caller.standing c.args.caller.now).own (get_or h.2 c.bucket_of-bucket.result datum.Null)).stack ≡ c.args.top + 1 = length_push _ _ ∙ ap (λ m. m + 1) c.requires.top in
    let size = size_after (pushed (g.C.Caller.standing c.args.caller.now).own (get_or h.2 c.bucket_of-bucket.result datum.Null)) _ (datum.Object (f.1).entry) f.6 in
    omega (arith, deep, ap (λ (o : Thread). length o.stack) (c.pop.ensures.popped ∙ ap popped (c.raise.ensures.own ∙ f.6) ∙ popped_pushed _ _))

pub pop-requires-else-find-clause-some : goal.pop-requires-else-find-clause-some
pop-requires-else-find-clause-some g c =
    let h = c.requires.table in
    let t = (h.5).is_table in
    let b = bucket_of c.args.word.now in
    let e = c.bucket_of-bucket.ensures.same in
    let small : b < BUCKETS = omega (arith, e, c.bucket_of-bucket.ensures.small) in
    let chain = t.chains b small in
    let at : IsAtChain (g.C.Caller.standing c.args.caller.now) h.0 c.args.table c.bucket_of-bucket.result h.1 h.2 (h.3 b) = (((h.5).slot, t.object), omega (arith, t.size, c.bucket_of-bucket.ensures.small), subst (λ i. IsChain h.0 (get_or h.2 i datum.Null) (h.3 b)) (sym e) chain) in
    let apart = table_apart h.0 h.1 h.2 h.3 t (h.3 b) (get_or h.2 b datum.Null) chain in
    let found = c.if-find.ensures.found h.0 h.1 h.2 (h.3 b) h.4 at apart (h.5).short in
    let still = c.if-find.ensures.known h.0 h.1 h.2 (h.3 b) h.4 at apart (h.5).short in
    (h.0, still)

pub pop-requires-else-find-clause-slot : goal.pop-requires-else-find-clause-slot
pop-requires-else-find-clause-slot g c =
    let h = c.requires.table in
    let t = (h.5).is_table in
    let b = bucket_of c.args.word.now in
    let e = c.bucket_of-bucket.ensures.same in
    let small : b < BUCKETS = omega (arith, e, c.bucket_of-bucket.ensures.small) in
    let chain = t.chains b small in
    let at : IsAtChain (g.C.Caller.standing c.args.caller.now) h.0 c.args.table c.bucket_of-bucket.result h.1 h.2 (h.3 b) = (((h.5).slot, t.object), omega (arith, t.size, c.bucket_of-bucket.ensures.small), subst (λ i. IsChain h.0 (get_or h.2 i datum.Null) (h.3 b)) (sym e) chain) in
    let apart = table_apart h.0 h.1 h.2 h.3 t (h.3 b) (get_or h.2 b datum.Null) chain in
    let found = c.if-find.ensures.found h.0 h.1 h.2 (h.3 b) h.4 at apart (h.5).short in
    let still = c.if-find.ensures.known h.0 h.1 h.2 (h.3 b) h.4 at apart (h.5).short in
    omega (arith, size_after (g.C.Caller.standing c.args.caller.now).own _ (get_or h.2 c.bucket_of-bucket.result datum.Null) (found.1 refl).1)

pub returns-then-find-clause-own : goal.returns-then-find-clause-own
returns-then-find-clause-own g c =
    let h = c.requires.table in
    let t = (h.5).is_table in
    let b = bucket_of c.args.word.now in
    let e = c.bucket_of-bucket.ensures.same in
    let small : b < BUCKETS = omega (arith, e, c.bucket_of-bucket.ensures.small) in
    let chain = t.chains b small in
    let at : IsAtChain (g.C.Caller.standing c.args.caller.now) h.0 c.args.table c.bucket_of-bucket.result h.1 h.2 (h.3 b) = (((h.5).slot, t.object), omega (arith, t.size, c.bucket_of-bucket.ensures.small), subst (λ i. IsChain h.0 (get_or h.2 i datum.Null) (h.3 b)) (sym e) chain) in
    let apart = table_apart h.0 h.1 h.2 h.3 t (h.3 b) (get_or h.2 b datum.Null) chain in
    let found = c.if-find.ensures.found h.0 h.1 h.2 (h.3 b) h.4 at apart (h.5).short in
    let still = c.if-find.ensures.known h.0 h.1 h.2 (h.3 b) h.4 at apart (h.5).short in
    let f = found.0 refl in
    let there = entry_at h.0 f.0 f.2 f.1 (get_or h.2 b datum.Null) (subst (IsChain h.0 (get_or h.2 b datum.Null)) f.3 chain) in
    let deep : length (pushed (g.C.Caller.standing c.args.caller.now).own (get_or h.2 c.bucket_of-bucket.result datum.Null)).stack ≡ c.args.top + 1 = length_push _ _ ∙ ap (λ m. m + 1) c.requires.top in
    let size = size_after (pushed (g.C.Caller.standing c.args.caller.now).own (get_or h.2 c.bucket_of-bucket.result datum.Null)) _ (datum.Object (f.1).entry) f.6 in
    c.pop-then-find.ensures.popped ∙ ap popped (c.pop.ensures.popped ∙ ap popped (c.raise.ensures.own ∙ f.6) ∙ popped_pushed _ _) ∙ popped_pushed _ _

pub returns-then-find-clause-added : goal.returns-then-find-clause-added
returns-then-find-clause-added g c known name heads buckets k may =
    let t = (may).is_table in
    let b = bucket_of c.args.word.now in
    let e = c.bucket_of-bucket.ensures.same in
    let small : b < BUCKETS = omega (arith, e, c.bucket_of-bucket.ensures.small) in
    let chain = t.chains b small in
    let at : IsAtChain (g.C.Caller.standing c.args.caller.now) known c.args.table c.bucket_of-bucket.result name heads (buckets b) = (((may).slot, t.object), omega (arith, t.size, c.bucket_of-bucket.ensures.small), subst (λ i. IsChain known (get_or heads i datum.Null) (buckets b)) (sym e) chain) in
    let apart = table_apart known name heads buckets t (buckets b) (get_or heads b datum.Null) chain in
    let found = c.if-find.ensures.found known name heads (buckets b) k at apart (may).short in
    let still = c.if-find.ensures.known known name heads (buckets b) k at apart (may).short in
    let f = found.0 refl in
    let there = entry_at known f.0 f.2 f.1 (get_or heads b datum.Null) (subst (IsChain known (get_or heads b datum.Null)) f.3 chain) in
    let deep : length (pushed (g.C.Caller.standing c.args.caller.now).own (get_or heads c.bucket_of-bucket.result datum.Null)).stack ≡ c.args.top + 1 = length_push _ _ ∙ ap (λ m. m + 1) c.requires.top in
    let size = size_after (pushed (g.C.Caller.standing c.args.caller.now).own (get_or heads c.bucket_of-bucket.result datum.Null)) _ (datum.Object (f.1).entry) f.6 in
    let lifted = c.raise.ensures.raised known there.0 f.1 still (top_after (pushed (g.C.Caller.standing c.args.caller.now).own (get_or heads c.bucket_of-bucket.result datum.Null)) _ (datum.Object (f.1).entry) (c.args.top + 1) f.6 deep, there.1) in (
      λ _. (
        raised_table known name heads buckets t c.args.word.now c.args.n small f.0 f.2 f.1 f.3 f.4 there.0 there.1 (g.C.Caller.knows c.pop-then-find.new.caller) (c.pop-then-find.ensures.keeps _ (c.pop.ensures.keeps _ lifted)),
        ((f.1).count, subst (λ ls. HasCount c.args.word.now ls (f.1).count) (sym f.3) (has_count_at c.args.word.now f.0 f.2 f.1 f.5 f.4)),
      ),
      λ e. absurd (true≢false e),
    )

pub returns-else-find-clause-own : goal.returns-else-find-clause-own
returns-else-find-clause-own g c =
    let h = c.requires.table in
    let t = (h.5).is_table in
    let b = bucket_of c.args.word.now in
    let e = c.bucket_of-bucket.ensures.same in
    let small : b < BUCKETS = omega (arith, e, c.bucket_of-bucket.ensures.small) in
    let chain = t.chains b small in
    let at : IsAtChain (g.C.Caller.standing c.args.caller.now) h.0 c.args.table c.bucket_of-bucket.result h.1 h.2 (h.3 b) = (((h.5).slot, t.object), omega (arith, t.size, c.bucket_of-bucket.ensures.small), subst (λ i. IsChain h.0 (get_or h.2 i datum.Null) (h.3 b)) (sym e) chain) in
    let apart = table_apart h.0 h.1 h.2 h.3 t (h.3 b) (get_or h.2 b datum.Null) chain in
    let found = c.if-find.ensures.found h.0 h.1 h.2 (h.3 b) h.4 at apart (h.5).short in
    let still = c.if-find.ensures.known h.0 h.1 h.2 (h.3 b) h.4 at apart (h.5).short in
    c.pop-else-find.ensures.popped ∙ ap popped (found.1 refl).1 ∙ popped_pushed _ _

pub returns-else-find-clause-added : goal.returns-else-find-clause-added
returns-else-find-clause-added g c known name heads buckets k may =
    let t = (may).is_table in
    let b = bucket_of c.args.word.now in
    let e = c.bucket_of-bucket.ensures.same in
    let small : b < BUCKETS = omega (arith, e, c.bucket_of-bucket.ensures.small) in
    let chain = t.chains b small in
    let at : IsAtChain (g.C.Caller.standing c.args.caller.now) known c.args.table c.bucket_of-bucket.result name heads (buckets b) = (((may).slot, t.object), omega (arith, t.size, c.bucket_of-bucket.ensures.small), subst (λ i. IsChain known (get_or heads i datum.Null) (buckets b)) (sym e) chain) in
    let apart = table_apart known name heads buckets t (buckets b) (get_or heads b datum.Null) chain in
    let found = c.if-find.ensures.found known name heads (buckets b) k at apart (may).short in
    let still = c.if-find.ensures.known known name heads (buckets b) k at apart (may).short in
    (λ e. absurd (true≢false (sym e)), λ _. ((found.1 refl).0, c.pop-else-find.ensures.keeps known still))

pub returns-then-find-clause-ran : goal.returns-then-find-clause-ran
returns-then-find-clause-ran g c = let C = g.C.Caller in ran_more C.base C.tells C.tells_known C.standing _ _ _ (ran_more C.base C.tells C.tells_known C.standing _ _ _ (ran_more C.base C.tells C.tells_known C.standing _ _ _ c.if-find.ensures.ran c.raise.ensures.ran) c.pop.ensures.ran) c.pop-then-find.ensures.ran

pub returns-else-find-clause-ran : goal.returns-else-find-clause-ran
returns-else-find-clause-ran g c = let C = g.C.Caller in ran_more C.base C.tells C.tells_known C.standing _ _ _ c.if-find.ensures.ran c.pop-else-find.ensures.ran

pub returns-then-find-clause-aside : goal.returns-then-find-clause-aside
returns-then-find-clause-aside g c known name heads buckets other k may ko lacks =
    let t = may.is_table in
    let b = bucket_of c.args.word.now in
    let e = c.bucket_of-bucket.ensures.same in
    let small : b < BUCKETS = omega (arith, e, c.bucket_of-bucket.ensures.small) in
    let chain = t.chains b small in
    let at : IsAtChain (g.C.Caller.standing c.args.caller.now) known c.args.table c.bucket_of-bucket.result name heads (buckets b) = ((may.slot, t.object), omega (arith, t.size, c.bucket_of-bucket.ensures.small), subst (λ i. IsChain known (get_or heads i datum.Null) (buckets b)) (sym e) chain) in
    let apart = table_apart known name heads buckets t (buckets b) (get_or heads b datum.Null) chain in
    let still = c.if-find.ensures.aside known name heads (buckets b) other k at apart may.short ko (lacks.head, lacks.links b small) in
    let f = (c.if-find.ensures.found known name heads (buckets b) k at apart may.short).0 refl in
    let front = get_or heads c.bucket_of-bucket.result datum.Null in
    let own = (g.C.Caller.standing c.args.caller.now).own in
    let deep : length (pushed own front).stack ≡ c.args.top + 1 = length_push _ _ ∙ ap (λ m. m + 1) c.requires.top in
    let entry = top_after (pushed own front) _ (datum.Object (f.1).entry) (c.args.top + 1) f.6 deep in
    let rest = lacks_rest other f.0 (f.1 ∷ f.2) (buckets b) f.3 (lacks.links b small) in
    let raised = c.raise.ensures.aside other still (lacks_as other (datum.Object (f.1).entry) _ (sym entry) rest.0) in
    c.pop-then-find.ensures.keeps other (c.pop.ensures.keeps other raised)

pub returns-else-find-clause-aside : goal.returns-else-find-clause-aside
returns-else-find-clause-aside g c known name heads buckets other k may ko lacks =
    let t = may.is_table in
    let b = bucket_of c.args.word.now in
    let e = c.bucket_of-bucket.ensures.same in
    let small : b < BUCKETS = omega (arith, e, c.bucket_of-bucket.ensures.small) in
    let chain = t.chains b small in
    let at : IsAtChain (g.C.Caller.standing c.args.caller.now) known c.args.table c.bucket_of-bucket.result name heads (buckets b) = ((may.slot, t.object), omega (arith, t.size, c.bucket_of-bucket.ensures.small), subst (λ i. IsChain known (get_or heads i datum.Null) (buckets b)) (sym e) chain) in
    let apart = table_apart known name heads buckets t (buckets b) (get_or heads b datum.Null) chain in
    let still = c.if-find.ensures.aside known name heads (buckets b) other k at apart may.short ko (lacks.head, lacks.links b small) in
    c.pop-else-find.ensures.keeps other still
