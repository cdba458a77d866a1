use Rattle.std.proofs.Common.{◌≡◌, ◌-◌, List, ap, sym, subst, ◌∙◌, get_or}
use Rattle.std.specs.FinMap.{from_entries}
use Rattle.yak_model.specs.Graph.{Graph, idle, thread_of, with_depth}
use Rattle.yak_model.specs.Kept.{AreDistinct, AreHomesValid, IsRest, Kept, state_of, threads_at}
use Rattle.yak_model.specs.Machine.{IsSound, contents_of, homes_of, kept_of, shown_state}
use Rattle.yak_model.specs.Spaces.{EndsEpoch, SpaceState}
use Rattle.yak_model.proofs.Parts.{back_state, ended_sound, kept_distinct, kept_valid, same_state}
use Rattle.yak_model.proofs.space_state.end_innermost.Goals as goal

pub end_epoch-requires-clause-distinct : goal.end_epoch-requires-clause-distinct
end_epoch-requires-clause-distinct c =
    subst AreDistinct (sym (c.in_ok-objects.ensures ∙ ap (kept_of c.args.graph.now) c.deref.ensures.value)) (kept_distinct c.args.graph.now c.args.homes.now.items c.requires.sound)

pub end_epoch-requires-clause-homes : goal.end_epoch-requires-clause-homes
end_epoch-requires-clause-homes c =
    subst AreHomesValid (sym (c.in_ok-objects.ensures ∙ ap (kept_of c.args.graph.now) c.deref.ensures.value)) (kept_valid c.args.graph.now c.args.homes.now.items c.requires.sound)

pub returns-clause-sound : goal.returns-clause-sound
returns-clause-sound c =
    let g = c.args.graph.now in
    let t = c.args.thread in
    let homes = c.args.homes.now.items in
    let objects = c.end_epoch.new.objects.items in
    let listed : c.in_ok-objects.objects.items ≡ kept_of g homes = c.in_ok-objects.ensures ∙ ap (kept_of g) c.deref.ensures.value in
    let rest : IsRest (kept_of g homes) objects = subst (λ before. IsRest before objects) listed c.in_ok-moved.ensures.rest in
    let seen : c.deref-2.result.now ≡ objects = c.deref-2.ensures.value in
    let graphs : c.put_objects.new.graph ≡ record g { objects = from_entries (contents_of objects) } =
    c.in_ok-put_objects.ensures.graph ∙ ap (λ (l : List Kept). record g { objects = from_entries (contents_of l) }) seen in
    let lists = c.in_ok-put_objects.ensures.homes ∙ ap homes_of seen in
    let last : c.set_depth.new.self ≡ with_depth (record g { objects = from_entries (contents_of objects) }) t ((thread_of g t).depth - 1) =
    c.set_depth.ensures ∙ (λ i. with_depth (graphs i) t (c.depth_of-depth.ensures i - 1)) in
    subst (λ (x : Graph). IsSound x c.put_objects.new.homes.items) (sym last)
    (subst (IsSound (with_depth (record g { objects = from_entries (contents_of objects) }) t ((thread_of g t).depth - 1))) (sym lists)
    (ended_sound g homes c.requires.sound t objects rest))

pub returns-clause-ok : goal.returns-clause-ok
returns-clause-ok c =
    let g = c.args.graph.now in
    let t = c.args.thread in
    let homes = c.args.homes.now.items in
    let objects = c.end_epoch.new.objects.items in
    let listed : c.in_ok-objects.objects.items ≡ kept_of g homes = c.in_ok-objects.ensures ∙ ap (kept_of g) c.deref.ensures.value in
    let seen : c.deref-2.result.now ≡ objects = c.deref-2.ensures.value in
    let graphs : c.put_objects.new.graph ≡ record g { objects = from_entries (contents_of objects) } =
    c.in_ok-put_objects.ensures.graph ∙ ap (λ (l : List Kept). record g { objects = from_entries (contents_of l) }) seen in
    let lists = c.in_ok-put_objects.ensures.homes ∙ ap homes_of seen in
    let last : c.set_depth.new.self ≡ with_depth (record g { objects = from_entries (contents_of objects) }) t ((thread_of g t).depth - 1) =
    c.set_depth.ensures ∙ (λ i. with_depth (graphs i) t (c.depth_of-depth.ensures i - 1)) in
    let threads = c.threads.result.now in
    let before : state_of g.limits threads c.in_ok-objects.objects.items ≡ shown_state g homes =
    (λ i. state_of g.limits (c.threads.ensures i) (listed i)) ∙ same_state g homes c.requires.sound in
    let after : state_of g.limits (threads_at threads t ((get_or threads (t - 1) idle).depth - 1)) objects ≡ shown_state c.set_depth.new.self c.put_objects.new.homes.items =
    (λ i. state_of g.limits (threads_at (c.threads.ensures i) t ((get_or (c.threads.ensures i) (t - 1) idle).depth - 1)) objects)
    ∙ back_state g.limits (threads_at g.threads t ((get_or g.threads (t - 1) idle).depth - 1)) objects
    ∙ (λ i. shown_state (sym last i) (sym lists i)) in
    subst (λ (s : SpaceState). EndsEpoch s t c.in_ok-moved.moved c.args.tight (shown_state c.set_depth.new.self c.put_objects.new.homes.items)) before
    (subst (EndsEpoch (state_of g.limits threads c.in_ok-objects.objects.items) t c.in_ok-moved.moved c.args.tight) after (c.in_ok-moved.ensures.ok g.limits))
