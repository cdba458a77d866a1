use Rattle.std.proofs.Common.{◌≡◌, ℕ, sym, ◌∙◌}
use Rattle.calls_in_flight.specs.OwnStores.{done_by}
use Rattle.safepoint_gate.specs.declared.seats.Inside.{Inside}
use Rattle.safepoint_gate.specs.Singles.{actor}
use Rattle.barriers.proofs.FieldsLoaded.{barred_control, barred_none, barred_own, barred_read, leads-slot, may-read}
use Rattle.barriers.proofs.MovedViews.{first-actor}
use Rattle.barriers.proofs.fields.load_barrier.Goals as goal

-- the thread of the seat, as its actor
number : (was mid now : Inside) (t : ℕ) → t ≡ now.thread → now.thread ≡ mid.thread → mid.thread ≡ was.thread → t ≡ (actor was.seat.me.0).thread
number was mid now t is one two = is ∙ one ∙ two ∙ sym was.numbered ∙ first-actor was.seat.me.0

pub space_of-region-requires-clause-refers : goal.space_of-region-requires-clause-refers
space_of-region-requires-clause-refers c =
    leads-slot c.args.inside.now.seat.me.0 c.load_field-word.new.self.seat.me.0 (done_by c.args.call) c.load_field-word.result c.args.inside.now.single c.load_field-word.ensures.loaded c.in-Some.target c.in-Some.ensures

pub set_reader-requires-clause-region : goal.set_reader-requires-clause-region
set_reader-requires-clause-region c =
    let thread = number c.args.inside.now c.load_field-word.new.self c.space_of-region.new.inside c.thread.result c.thread.ensures c.space_of-region.ensures.thread c.load_field-word.ensures.thread in
    may-read c.args.inside.now.seat.me.0 c.load_field-word.new.self.seat.me.0 (done_by c.args.call) c.load_field-word.result c.args.inside.now.single c.load_field-word.ensures.loaded c.in-Some.target c.in-Some.ensures
    c.space_of-region.result c.space_of-region.new.inside.seat.me.0 c.space_of-region.ensures.space c.in-Region.owner c.in-Region.depth c.in-Region.is (λ e. c.if-owner-thread.true (e ∙ sym thread))

pub returns-then-owner-thread-clause-loaded : goal.returns-then-owner-thread-clause-loaded
returns-then-owner-thread-clause-loaded c =
    let thread = number c.args.inside.now c.load_field-word.new.self c.space_of-region.new.inside c.thread.result c.thread.ensures c.space_of-region.ensures.thread c.load_field-word.ensures.thread in
    barred_read c.args.inside.now.seat.me.0 c.load_field-word.new.self.seat.me.0 (done_by c.args.call) c.load_field-word.result c.args.inside.now.single c.load_field-word.ensures.loaded c.in-Some.target c.in-Some.ensures
    c.space_of-region.result c.space_of-region.new.inside.seat.me.0 c.space_of-region.ensures.space c.in-Region.owner c.in-Region.depth c.in-Region.is (λ e. c.if-owner-thread.true (e ∙ sym thread))
    c.set_reader.new.self.seat.me.0 c.set_reader.ensures.read

pub returns-else-owner-thread-clause-loaded : goal.returns-else-owner-thread-clause-loaded
returns-else-owner-thread-clause-loaded c =
    let thread = number c.args.inside.now c.load_field-word.new.self c.space_of-region.new.inside c.thread.result c.thread.ensures c.space_of-region.ensures.thread c.load_field-word.ensures.thread in
    barred_own c.args.inside.now.seat.me.0 c.load_field-word.new.self.seat.me.0 (done_by c.args.call) c.load_field-word.result c.args.inside.now.single c.load_field-word.ensures.loaded c.in-Some.target c.in-Some.ensures
    c.space_of-region.result c.space_of-region.new.inside.seat.me.0 c.space_of-region.ensures.space c.in-Region.owner c.in-Region.depth c.in-Region.is (c.if-owner-thread.false ∙ thread)

pub returns-in_default-region-clause-loaded : goal.returns-in_default-region-clause-loaded
returns-in_default-region-clause-loaded c =
    barred_control c.args.inside.now.seat.me.0 c.load_field-word.new.self.seat.me.0 (done_by c.args.call) c.load_field-word.result c.args.inside.now.single c.load_field-word.ensures.loaded c.in-Some.target c.in-Some.ensures
    c.space_of-region.result c.space_of-region.new.inside.seat.me.0 c.space_of-region.ensures.space c.in_default-region.not-Region

pub returns-in_default-clause-loaded : goal.returns-in_default-clause-loaded
returns-in_default-clause-loaded c =
    barred_none c.args.inside.now.seat.me.0 c.load_field-word.new.self.seat.me.0 (done_by c.args.call) c.load_field-word.result c.args.inside.now.single c.load_field-word.ensures.loaded c.in_default.ensures
