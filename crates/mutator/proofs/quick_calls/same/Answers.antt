use Rattle.std.proofs.Common.{◌≡◌, ◌∙◌, ◌<◌, ℕ, sym, subst, arith, length}
use Rattle.std.specs.Prelude.{None}
use Rattle.object_layout.specs.declared.calls.Call.TheVariants as call
use Rattle.object_layout.specs.declared.replies.Reply.{Reply}
use Rattle.object_layout.specs.declared.replies.Refusal.TheVariants as refusal
use Rattle.object_layout.specs.declared.replies.Reply.TheVariants as reply
use Rattle.calls_in_flight.specs.Actors.{MayTell}
use Rattle.calls_in_flight.specs.Steps.{slot_at}
use Rattle.safepoint_gate.specs.Singles.{Loaded, actor}
use Rattle.mutator.specs.Quick.{Answered, told_by}
use Rattle.mutator.proofs.Answering.{thread_in}
use Rattle.mutator.proofs.Asking.{answers_from, length_still, looks_both, looks_length, quiet_still, rests_still, same_known, shows_first, shows_second, then}
use Rattle.mutator.proofs.Refusing.{tells_no, tells_yes}
use Rattle.mutator.proofs.quick_calls.same.Goals as goal
use Rattle.mutator.proofs.quick_calls.same.Goals.{then-word-other, else-word-other}

pub returns-then-s-length-clause-answered : goal.returns-then-s-length-clause-answered
returns-then-s-length-clause-answered c =
    let v = c.args.inside.now.seat.me.0 in
    let u = c.stack_length-length.new.inside.seat.me.0 in
    let one = c.args.inside.now.single in
    let searched = looks_length v u c.stack_length-length.result one c.stack_length-length.ensures.loaded in
    subst (λ (said : Reply). Answered v (call.Same c.args.s c.args.x) said c.refuse.new.inside.seat.me.0) (sym c.refuse.ensures.reply)
    (answers_from v u one searched c.refuse.new.inside.seat.me.0 (call.Same c.args.s c.args.x) (reply.Refused refusal.BadSlot) _ c.refuse.ensures.answered.1)

pub tell-requires-clause-event : goal.tell-requires-clause-event
tell-requires-clause-event c =
    let v = c.args.inside.now.seat.me.0 in
    let u = c.stack_length-length.new.inside.seat.me.0 in
    let one = c.args.inside.now.single in
    let searched = looks_length v u c.stack_length-length.result one c.stack_length-length.ensures.loaded in
    let x = c.load_own-word.new.self.seat.me.0 in
    let y = c.load_own-other.new.self.seat.me.0 in
    let long = length_still v u one searched c.stack_length-length.result c.stack_length-length.ensures.length in
    let low = c.if-s-length.false in
    let under = c.if-x-length.false in
    let quiet = quiet_still v u one searched c.requires.quiet in
    let first : c.args.s < length (actor u).told.stack = omega (arith, low, long) in
    let second : c.args.x < length (actor u).told.stack = omega (arith, under, long) in
    let at : c.slot_place-first.result ≡ slot_at u.map (actor u).thread c.args.s = c.slot_place-first.ensures ∙ (λ i. slot_at ((c.map.ensures ∙ sym c.stack_length-length.ensures.gate.1) i) ((c.thread.ensures ∙ sym c.stack_length-length.new.inside.numbered ∙ thread_in u) i) c.args.s) in
    let there : c.slot_place-second.result ≡ slot_at x.map (actor x).thread c.args.x = c.slot_place-second.ensures ∙ (λ i. slot_at ((c.map-2.ensures ∙ sym c.load_own-word.ensures.gate.1) i) ((c.thread-2.ensures ∙ sym c.load_own-word.ensures.thread ∙ sym c.load_own-word.new.self.numbered ∙ thread_in x) i) c.args.x) in
    let loaded = subst (λ (p : ℕ). Loaded u p None c.load_own-word.result x) at c.load_own-word.ensures.loaded in
    let next = subst (λ (p : ℕ). Loaded x p None c.load_own-other.result y) there c.load_own-other.ensures.loaded in
    let again = c.stack_length-length.new.inside.single in
    let later = c.load_own-word.new.self.single in
    let both = looks_both u x y c.args.s c.args.x c.load_own-word.result c.load_own-other.result again later quiet first second loaded next in
    let shown = shows_first u x y c.args.s c.args.x c.load_own-word.result c.load_own-other.result again later quiet first second loaded next in
    let other = shows_second u x y c.args.s c.args.x c.load_own-word.result c.load_own-other.result again later quiet first second loaded next in
    let same = same_known u x y c.args.s c.args.x c.load_own-word.result c.load_own-other.result again later quiet first second loaded next in
    let rests = rests_still u y again both quiet in
    elim c.if-word-other.branch [
      | then-word-other w ↦ subst (λ (said : Reply). MayTell y.map (actor y) (told_by (call.Same c.args.s c.args.x) said)) (sym w.reply-is) (tells_yes y.map (actor y) c.args.s c.args.x rests shown.0 other.0 (same.0 w.if-word-other.true))
      | else-word-other w ↦ subst (λ (said : Reply). MayTell y.map (actor y) (told_by (call.Same c.args.s c.args.x) said)) (sym w.reply-is) (tells_no y.map (actor y) c.args.s c.args.x rests shown.0 other.0 (λ e. w.if-word-other.false (same.1 e)))
    ]

pub returns-clause-answered : goal.returns-clause-answered
returns-clause-answered c =
    let v = c.args.inside.now.seat.me.0 in
    let u = c.stack_length-length.new.inside.seat.me.0 in
    let one = c.args.inside.now.single in
    let searched = looks_length v u c.stack_length-length.result one c.stack_length-length.ensures.loaded in
    let x = c.load_own-word.new.self.seat.me.0 in
    let y = c.load_own-other.new.self.seat.me.0 in
    let long = length_still v u one searched c.stack_length-length.result c.stack_length-length.ensures.length in
    let low = c.if-s-length.false in
    let under = c.if-x-length.false in
    let quiet = quiet_still v u one searched c.requires.quiet in
    let first : c.args.s < length (actor u).told.stack = omega (arith, low, long) in
    let second : c.args.x < length (actor u).told.stack = omega (arith, under, long) in
    let at : c.slot_place-first.result ≡ slot_at u.map (actor u).thread c.args.s = c.slot_place-first.ensures ∙ (λ i. slot_at ((c.map.ensures ∙ sym c.stack_length-length.ensures.gate.1) i) ((c.thread.ensures ∙ sym c.stack_length-length.new.inside.numbered ∙ thread_in u) i) c.args.s) in
    let there : c.slot_place-second.result ≡ slot_at x.map (actor x).thread c.args.x = c.slot_place-second.ensures ∙ (λ i. slot_at ((c.map-2.ensures ∙ sym c.load_own-word.ensures.gate.1) i) ((c.thread-2.ensures ∙ sym c.load_own-word.ensures.thread ∙ sym c.load_own-word.new.self.numbered ∙ thread_in x) i) c.args.x) in
    let loaded = subst (λ (p : ℕ). Loaded u p None c.load_own-word.result x) at c.load_own-word.ensures.loaded in
    let next = subst (λ (p : ℕ). Loaded x p None c.load_own-other.result y) there c.load_own-other.ensures.loaded in
    let again = c.stack_length-length.new.inside.single in
    let later = c.load_own-word.new.self.single in
    let both = looks_both u x y c.args.s c.args.x c.load_own-word.result c.load_own-other.result again later quiet first second loaded next in
    subst (λ (said : Reply). Answered v (call.Same c.args.s c.args.x) said c.tell.new.inside.seat.me.0) (sym c.tell.ensures.reply)
    (answers_from v y one (then v u y one searched both) c.tell.new.inside.seat.me.0 (call.Same c.args.s c.args.x) c.if-word-other.reply _ c.tell.ensures.answered.1)
