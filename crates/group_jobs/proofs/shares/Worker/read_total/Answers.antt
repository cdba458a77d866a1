use Rattle.std.proofs.Common.{◌≡◌, ◌+◌, ◌≤◌, ℕ, List, [], Option, refl, sym, ◌∙◌, subst}
use Rattle.yak_model.specs.Room.{table_words}
use Rattle.mutator.specs.declared.resting.Resting.{Resting}
use Rattle.safepoint_gate.specs.Steps.{first_calls}
use Rattle.group_jobs.specs.Followed.{made_in}
use Rattle.group_jobs.specs.Tallies.{tasks_room, words_in}
use Rattle.group_jobs.specs.Workers.{own_of}
use Rattle.yak_model.specs.Texts.{word_counts}
use Rattle.heap_tables.specs.Entries.{AreEntries}
use Rattle.group_jobs.proofs.Nothing.{nothing_counted}
use Rattle.group_jobs.proofs.Progress.{not_busy}
use Rattle.group_jobs.proofs.Sharing.{exact_all, read_counted}
use Rattle.group_jobs.proofs.shares.Worker.read_total.Goals as goal

pub read_rested-resting-requires-clause-exact : goal.read_rested-resting-requires-clause-exact
read_rested-resting-requires-clause-exact g c =
    let h = c.requires.some in
    let r = c.in-Some.resting in
    exact_all h.0 h.1 (made_in (first_calls r.away.seat.me.0.own)) h.3
    (subst (λ (o : Option Resting). made_in (first_calls (own_of o)) ≤ table_words + tasks_room h.0 h.1) (sym c.take.ensures.value ∙ c.in-Some.is) h.2.room)

pub returns-then-not-self-clause-list : goal.returns-then-not-self-clause-list
returns-then-not-self-clause-list g c = λ bytes tasks had small.
    let going = had.going c.requires.unrefused in
    let none : words_in bytes tasks ≡ [] = not_busy (words_in bytes tasks) (sym going.has_is ∙ c.if-not-self.true) in
    subst (λ (x : List (List ℕ) × List (List ℕ × ℕ)). AreEntries (word_counts x.0) x.1) (λ i. (sym none i, sym c.new.ensures.items i)) nothing_counted

pub returns-clause-keeps : goal.returns-clause-keeps
returns-clause-keeps g c = λ bytes tasks had small.
    let step = c.read_rested-resting in
    let r = c.in-Some.resting in
    read_counted c.args.heap.now.gate c.args.self.now.thread bytes tasks c.args.self.now _ r step.result.0 (sym c.take.ensures.value ∙ c.in-Some.is) refl refl step.ensures.heap step.ensures.thread step.ensures.follows c.requires.unrefused had c.if-not-self.false refl refl small step.ensures.reads
