use Rattle.std.proofs.Common.{◌≤◌, ◌<◌, arith, length, refl, ◌∙◌, inl, inr, ap}
use Rattle.std.proofs.Math.Logic.{∥∥₁_map}
use Rattle.object_layout.specs.declared.TheConstants.{MAX_SERIAL}
use Rattle.object_layout.specs.declared.replies.Reply.TheVariants.{Ok, Refused}
use Rattle.object_layout.specs.declared.replies.Refusal.TheVariants.{NamesSpent, StackFull, TooLong}
use Rattle.heap_words.specs.declared.TheConstants.{STACK_SLOTS}
use Rattle.heap_words.specs.Contents.{contents, made_of, stack_of}
use Rattle.heap_core.specs.Steps.{plain}
use Rattle.standing_calls.proofs.Makes.{names_spent, new_stack_full, too_long}
use Rattle.heap_core.proofs.objects.new_object.Goals as goal

pub returns-then-k-clause-made : goal.returns-then-k-clause-made
returns-then-k-clause-made g c =
    let old = contents c.args.map (g.W.Words.words c.args.words.now) in
    inl (record {
      reply = Refused TooLong;
      answer = inr (TooLong, refl);
      turned = too_long c.args.map old c.args.thread c.args.k c.requires.thread c.if-k.true;
      says = c.plain_step.ensures;
    })

pub returns-then-count-ge-STACK_SLOTS-clause-made : goal.returns-then-count-ge-STACK_SLOTS-clause-made
returns-then-count-ge-STACK_SLOTS-clause-made g c =
    let old = contents c.args.map (g.W.Words.words c.args.words.now) in
    let full : STACK_SLOTS ≤ length (stack_of old c.args.thread) = omega (arith, c.stack_length-count.ensures.value, c.if-count-ge-STACK_SLOTS.true) in
    rw c.stack_length-count.ensures.words (inl (record {
      reply = Refused StackFull;
      answer = inr (StackFull, refl);
      turned = new_stack_full c.args.map old c.args.thread c.args.k c.requires.thread c.if-k.false full;
      says = c.plain_step-then-count-ge-STACK_SLOTS.ensures;
    }))

pub returns-then-made-ge-MAX_SERIAL-clause-made : goal.returns-then-made-ge-MAX_SERIAL-clause-made
returns-then-made-ge-MAX_SERIAL-clause-made g c =
    let old = contents c.args.map (g.W.Words.words c.args.words.now) in
    let room : length (stack_of old c.args.thread) < STACK_SLOTS = omega (arith, c.stack_length-count.ensures.value, c.if-count-ge-STACK_SLOTS.false) in
    let value = rw c.stack_length-count.ensures.words at c.get_made-made.ensures.value in
    let spent : MAX_SERIAL ≤ made_of old c.args.thread = omega (arith, value, c.if-made-ge-MAX_SERIAL.true) in
    rw (c.get_made-made.ensures.words, c.stack_length-count.ensures.words) (inl (record {
      reply = Refused NamesSpent;
      answer = inr (NamesSpent, refl);
      turned = names_spent c.args.map old c.args.thread c.args.k c.requires.thread c.if-k.false room spent;
      says = c.plain_step-then-made-ge-MAX_SERIAL.ensures;
    }))

pub make-requires-clause-stands : goal.make-requires-clause-stands
make-requires-clause-stands g c = rw (c.get_made-made.ensures.words, c.stack_length-count.ensures.words) (∥∥₁_map c.requires.recorded (λ q. (q.0, q.1)))

pub make_collected-requires-clause-recorded : goal.make_collected-requires-clause-recorded
make_collected-requires-clause-recorded g c = rw (c.in-Err.ensures.none.1, c.get_made-made.ensures.words, c.stack_length-count.ensures.words) c.requires.recorded

pub returns-in-Ok-clause-made : goal.returns-in-Ok-clause-made
returns-in-Ok-clause-made g c =
    let made = rw (c.get_made-made.ensures.words, c.stack_length-count.ensures.words) at c.in-Ok.ensures.made in
    inl (record {
      reply = Ok;
      answer = inl refl;
      turned = made.1;
      says = c.plain_step-in-Ok.ensures ∙ ap plain made.0;
    })

pub returns-in-Err-clause-made : goal.returns-in-Err-clause-made
returns-in-Err-clause-made g c =
    let none = rw (c.get_made-made.ensures.words, c.stack_length-count.ensures.words) at c.in-Err.ensures.none.0 in
    let made = rw (c.in-Err.ensures.none.1, c.get_made-made.ensures.words, c.stack_length-count.ensures.words) at c.make_collected.ensures.made in
    inr (none, made)
