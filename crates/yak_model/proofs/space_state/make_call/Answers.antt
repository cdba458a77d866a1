use Rattle.std.proofs.Common.{◌≡◌, sym, subst}
use Rattle.object_layout.specs.declared.calls.Call.{Call}
use Rattle.object_layout.specs.declared.calls.Call.TheVariants as call
use Rattle.object_layout.specs.declared.replies.Reply.{Reply}
use Rattle.yak_model.specs.History.{Said}
use Rattle.yak_model.specs.Machine.{shown_state}
use Rattle.yak_model.specs.Spaces.{Turns}
use Rattle.yak_model.proofs.Sound.{Keeps, keeps_sound}
use Rattle.yak_model.proofs.Steps.{allowed_by, answer_keeps, cannot_turn, denied_by, made_is_sound, made_turns_by}
use Rattle.yak_model.proofs.space_state.make_call.Goals as goal

pub returns-in-Some-clause-sound : goal.returns-in-Some-clause-sound
returns-in-Some-clause-sound c =
    made_is_sound c.args.graph.now c.make_object.new.graph c.args.homes.now.items c.make_object.new.homes.items c.requires.sound c.args.thread c.requires.thread c.in-Some.k c.make_object.result
    c.make_object.ensures.graph c.make_object.ensures.homes c.make_object.ensures.allowed c.make_object.ensures.same_graph c.make_object.ensures.same_homes c.make_object.ensures.err_graph c.make_object.ensures.err_homes

pub returns-in-Some-clause-allowed : goal.returns-in-Some-clause-allowed
returns-in-Some-clause-allowed c =
    let g = c.args.graph.now in
    let homes = c.args.homes.now.items in
    let is = c.in-Some.ensures.some in
    allowed_by c.make_object.result
    (made_turns_by g c.make_object.new.graph homes c.make_object.new.homes.items c.requires.sound c.args.thread c.requires.thread c.in-Some.k c.make_object.result
    c.make_object.ensures.graph c.make_object.ensures.homes c.make_object.ensures.allowed)
    (λ turns. subst (λ (a : Call). Turns (shown_state g homes) (Said c.args.thread a c.args.reply) (shown_state c.make_object.new.graph c.make_object.new.homes.items)) (sym is.0)
    (subst (λ (r : Reply). Turns (shown_state g homes) (Said c.args.thread (call.New c.in-Some.k) r) (shown_state c.make_object.new.graph c.make_object.new.homes.items)) (sym is.1) turns))

pub returns-in-None-clause-sound : goal.returns-in-None-clause-sound
returns-in-None-clause-sound c =
    keeps_sound c.args.graph.now c.answer.new.self c.args.homes.now.items c.requires.sound
    (answer_keeps c.args.graph.now c.answer.new.self c.args.thread c.args.call c.args.reply c.requires.sound.limits c.in-None.ensures.none c.answer.result c.answer.ensures.allowed c.answer.ensures.denied c.answer.ensures.err)

pub returns-in-None-clause-denied : goal.returns-in-None-clause-denied
returns-in-None-clause-denied c =
    denied_by (c.answer.new.self ≡ c.args.graph.now) c.answer.result c.answer.ensures.denied
    (cannot_turn c.args.graph.now c.args.homes.now.items c.args.thread c.requires.thread c.args.call c.args.reply c.requires.no_end c.requires.no_collect)

pub returns-in-None-clause-threads : goal.returns-in-None-clause-threads
returns-in-None-clause-threads c =
    let keeps : Keeps c.args.graph.now c.answer.new.self =
    answer_keeps c.args.graph.now c.answer.new.self c.args.thread c.args.call c.args.reply c.requires.sound.limits c.in-None.ensures.none c.answer.result c.answer.ensures.allowed c.answer.ensures.denied c.answer.ensures.err in
    keeps.threads
