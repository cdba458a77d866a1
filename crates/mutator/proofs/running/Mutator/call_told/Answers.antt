use Rattle.std.proofs.Common.{refl}
use Rattle.object_layout.specs.declared.calls.Call.TheVariants as call
use Rattle.heap_core.specs.Steps.{plain}
use Rattle.mutator.specs.Running.{view_in}
use Rattle.mutator.proofs.Meanwhile.{makes_closed, makes_new, place_in, single_in, told_answered, told_made}
use Rattle.mutator.proofs.running.Mutator.call_told.Goals as goal

pub returns-in-Int-clause-made : goal.returns-in-Int-clause-made
returns-in-Int-clause-made g c =
    let s = c.args.self.now in
    told_answered (view_in s.inside) (view_in c.depth-depth.new.self.inside) (view_in c.push_int-reply.new.self.inside) c.args.call (call.Int c.in-Int.i) c.push_int-reply.result c.depth-depth.ensures.loads (place_in s.inside s.present) c.in-Int.is (λ k e. cc) c.push_int-reply.ensures.answered

pub returns-in-Null-clause-made : goal.returns-in-Null-clause-made
returns-in-Null-clause-made g c =
    let s = c.args.self.now in
    told_answered (view_in s.inside) (view_in c.depth-depth.new.self.inside) (view_in c.push_null-reply.new.self.inside) c.args.call call.Null c.push_null-reply.result c.depth-depth.ensures.loads (place_in s.inside s.present) c.in-Null.is (λ k e. cc) c.push_null-reply.ensures.answered

pub returns-in-Dup-clause-made : goal.returns-in-Dup-clause-made
returns-in-Dup-clause-made g c =
    let s = c.args.self.now in
    told_answered (view_in s.inside) (view_in c.depth-depth.new.self.inside) (view_in c.dup-reply.new.self.inside) c.args.call (call.Dup c.in-Dup.s) c.dup-reply.result c.depth-depth.ensures.loads (place_in s.inside s.present) c.in-Dup.is (λ k e. cc) c.dup-reply.ensures.answered

pub returns-in-Pop-clause-made : goal.returns-in-Pop-clause-made
returns-in-Pop-clause-made g c =
    let s = c.args.self.now in
    told_answered (view_in s.inside) (view_in c.depth-depth.new.self.inside) (view_in c.pop-reply.new.self.inside) c.args.call call.Pop c.pop-reply.result c.depth-depth.ensures.loads (place_in s.inside s.present) c.in-Pop.is (λ k e. cc) c.pop-reply.ensures.answered

pub returns-in-Load-clause-made : goal.returns-in-Load-clause-made
returns-in-Load-clause-made g c =
    let s = c.args.self.now in
    told_answered (view_in s.inside) (view_in c.depth-depth.new.self.inside) (view_in c.load-reply.new.self.inside) c.args.call (call.Load c.in-Load.s c.in-Load.f) c.load-reply.result c.depth-depth.ensures.loads (place_in s.inside s.present) c.in-Load.is (λ k e. cc) c.load-reply.ensures.answered

pub returns-in-Get-clause-made : goal.returns-in-Get-clause-made
returns-in-Get-clause-made g c =
    let s = c.args.self.now in
    told_answered (view_in s.inside) (view_in c.depth-depth.new.self.inside) (view_in c.get-reply.new.self.inside) c.args.call (call.Get c.in-Get.s) c.get-reply.result c.depth-depth.ensures.loads (place_in s.inside s.present) c.in-Get.is (λ k e. cc) c.get-reply.ensures.answered

pub returns-in-Same-clause-made : goal.returns-in-Same-clause-made
returns-in-Same-clause-made g c =
    let s = c.args.self.now in
    told_answered (view_in s.inside) (view_in c.depth-depth.new.self.inside) (view_in c.same-reply.new.self.inside) c.args.call (call.Same c.in-Same.s c.in-Same.x) c.same-reply.result c.depth-depth.ensures.loads (place_in s.inside s.present) c.in-Same.is (λ k e. cc) c.same-reply.ensures.answered

pub returns-in-Begin-clause-made : goal.returns-in-Begin-clause-made
returns-in-Begin-clause-made g c =
    let s = c.args.self.now in
    told_answered (view_in s.inside) (view_in c.depth-depth.new.self.inside) (view_in c.begin-reply.new.self.inside) c.args.call call.Begin c.begin-reply.result c.depth-depth.ensures.loads (place_in s.inside s.present) c.in-Begin.is (λ k e. cc) c.begin-reply.ensures.answered

pub returns-in-Store-clause-made : goal.returns-in-Store-clause-made
returns-in-Store-clause-made g c =
    let s = c.args.self.now in
    told_made (view_in s.inside) (view_in c.depth-depth.new.self.inside) (view_in c.store_or_flush-reply.new.self.inside) c.args.call (call.Store c.in-Store.s c.in-Store.f c.in-Store.x) (plain c.store_or_flush-reply.result) c.depth-depth.ensures.loads (place_in s.inside s.present) c.in-Store.is c.store_or_flush-reply.ensures.made

pub returns-in-New-clause-made : goal.returns-in-New-clause-made
returns-in-New-clause-made g c =
    let s = c.args.self.now in
    let t = c.depth-depth.new.self in
    let u = view_in t.inside in
    let w = view_in c.new_or_collect.new.self.inside in
    told_made (view_in s.inside) u w c.args.call (call.New c.in-New.k) c.new_or_collect.result c.depth-depth.ensures.loads (place_in s.inside s.present) c.in-New.is
    (makes_new u w c.in-New.k c.new_or_collect.result (single_in t.inside t.present) (place_in t.inside t.present) t.quiet c.new_or_collect.ensures.makes)

pub returns-in-End-clause-made : goal.returns-in-End-clause-made
returns-in-End-clause-made g c =
    let s = c.args.self.now in
    let t = c.depth-depth.new.self in
    told_made (view_in s.inside) (view_in t.inside) (view_in c.call_closed.new.self.inside) c.args.call c.args.call c.call_closed.result c.depth-depth.ensures.loads (place_in s.inside s.present) refl
    (makes_closed (view_in t.inside) (view_in c.call_closed.new.self.inside) c.args.call c.call_closed.result t.quiet c.call_closed.ensures.makes)
