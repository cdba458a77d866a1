use Rattle.std.proofs.Math.Logic.{∥∥₁_map}
use Rattle.std.proofs.Common.{◌≡◌, ◌-◌, arith, ap, sym, ◌∙◌, subst}
use Rattle.epoch_lattice.specs.Lattice.{parent_of}
use Rattle.heap_words.specs.Contents.{contents}
use Rattle.epoch_lattice.specs.Lattice.{space_index}
use Rattle.escape_closure.specs.Raising.{Raising, RaisesOn, IsStackDue}
use Rattle.escape_closure.proofs.Ends.{own_due, targets_stand}
use Rattle.escape_closure.proofs.ending.settle_targets.Goals as goal

pub raise_slots-slots-requires-clause-some : goal.raise_slots-slots-requires-clause-some
raise_slots-slots-requires-clause-some g c =
    ∥∥₁_map c.requires.some (λ q. (q.0, q.1.region, q.1.raising, q.1.recorded))

pub raise_stack-own-requires-clause-some : goal.raise_stack-own-requires-clause-some
raise_stack-own-requires-clause-some g c =
    ∥∥₁_map c.requires.some (λ q.
    let m = c.args.map in
    let index : space_index q.0.region ≡ c.index_of-region.result = ap space_index q.1.region ∙ sym c.index_of-region.ensures.index in
    let a = c.raise_slots-slots.ensures.raising q.0 q.1.region q.1.raising q.1.recorded in
    let is : c.parent.result ≡ parent_of q.0.region = c.parent.ensures.parent ∙ ap parent_of (sym q.1.region) in
    let due : IsStackDue q.0 (c.args.thread - 1) c.parent.result = own_due q.0 (c.args.thread - 1) c.parent.result (omega (arith, q.1.thread_is)) is in
    (q.0, index, a.0.raising, due))

pub raise_readers-all-requires-clause-some : goal.raise_readers-all-requires-clause-some
raise_readers-all-requires-clause-some g c =
    ∥∥₁_map c.requires.some (λ q.
    let m = c.args.map in
    let index : space_index q.0.region ≡ c.index_of-region.result = ap space_index q.1.region ∙ sym c.index_of-region.ensures.index in
    let a = c.raise_slots-slots.ensures.raising q.0 q.1.region q.1.raising q.1.recorded in
    let is : c.parent.result ≡ parent_of q.0.region = c.parent.ensures.parent ∙ ap parent_of (sym q.1.region) in
    let due : IsStackDue q.0 (c.args.thread - 1) c.parent.result = own_due q.0 (c.args.thread - 1) c.parent.result (omega (arith, q.1.thread_is)) is in
    let s2 = contents m (g.W.Words.words c.raise_stack-own.new.words) in
    let b = c.raise_stack-own.ensures.raising q.0 index a.0.raising due in
    let same : contents m (g.W.Words.words c.get_readers-readers.new.words) ≡ s2 = ap (contents m) c.get_readers-readers.ensures.words in
    let mid : Raising m q.0 (contents m (g.W.Words.words c.get_readers-readers.new.words)) c.raise_stack-own.result = subst (λ x. Raising m q.0 x c.raise_stack-own.result) (sym same) b.0.raising in
    (q.0, index, mid, q.1.thread_is))

pub drain-requires-clause-some : goal.drain-requires-clause-some
drain-requires-clause-some g c =
    ∥∥₁_map c.requires.some (λ q.
    let m = c.args.map in
    let index : space_index q.0.region ≡ c.index_of-region.result = ap space_index q.1.region ∙ sym c.index_of-region.ensures.index in
    let a = c.raise_slots-slots.ensures.raising q.0 q.1.region q.1.raising q.1.recorded in
    let is : c.parent.result ≡ parent_of q.0.region = c.parent.ensures.parent ∙ ap parent_of (sym q.1.region) in
    let due : IsStackDue q.0 (c.args.thread - 1) c.parent.result = own_due q.0 (c.args.thread - 1) c.parent.result (omega (arith, q.1.thread_is)) is in
    let s2 = contents m (g.W.Words.words c.raise_stack-own.new.words) in
    let b = c.raise_stack-own.ensures.raising q.0 index a.0.raising due in
    let same : contents m (g.W.Words.words c.get_readers-readers.new.words) ≡ s2 = ap (contents m) c.get_readers-readers.ensures.words in
    let mid : Raising m q.0 (contents m (g.W.Words.words c.get_readers-readers.new.words)) c.raise_stack-own.result = subst (λ x. Raising m q.0 x c.raise_stack-own.result) (sym same) b.0.raising in
    let k = c.raise_readers-all.ensures.raising q.0 index mid q.1.thread_is in
    (q.0, index, k.0.raising))

pub returns-clause-targets : goal.returns-clause-targets
returns-clause-targets g c e ends =
    let m = c.args.map in
    let index : space_index e.region ≡ c.index_of-region.result = ap space_index ends.region ∙ sym c.index_of-region.ensures.index in
    let a = c.raise_slots-slots.ensures.raising e ends.region ends.raising ends.recorded in
    let is : c.parent.result ≡ parent_of e.region = c.parent.ensures.parent ∙ ap parent_of (sym ends.region) in
    let due : IsStackDue e (c.args.thread - 1) c.parent.result = own_due e (c.args.thread - 1) c.parent.result (omega (arith, ends.thread_is)) is in
    let s2 = contents m (g.W.Words.words c.raise_stack-own.new.words) in
    let b = c.raise_stack-own.ensures.raising e index a.0.raising due in
    let same : contents m (g.W.Words.words c.get_readers-readers.new.words) ≡ s2 = ap (contents m) c.get_readers-readers.ensures.words in
    let mid : Raising m e (contents m (g.W.Words.words c.get_readers-readers.new.words)) c.raise_stack-own.result = subst (λ x. Raising m e x c.raise_stack-own.result) (sym same) b.0.raising in
    let k = c.raise_readers-all.ensures.raising e index mid ends.thread_is in
    let s3 = contents m (g.W.Words.words c.raise_readers-all.new.words) in
    let last = c.drain.ensures.scans e index k.0.raising in
    let on : RaisesOn m e s2 s3 c.raise_readers-all.result = subst (λ x. RaisesOn m e x s3 c.raise_readers-all.result) same k.0 in
    targets_stand m e _ _ s2 s3 _ _ _ _ c.args.thread c.args.depth c.get_readers-readers.result (g.W.Words.reads c.args.words.now) (g.W.Words.reads c.raise_slots-slots.new.words) (g.W.Words.reads c.raise_stack-own.new.words) (g.W.Words.reads c.raise_readers-all.new.words) _ c.drain.result c.parent.result c.requires.region.0 ends a.0 a.1 a.2 b.0 b.1 is b.2 c.get_readers-readers.ensures.value on k.1 (omega (arith, k.2, c.get_readers-readers.ensures.reads)) last
