use Rattle.std.proofs.Common.{◌≡◌, List, arith, refl, ap, sym, subst, ◌∙◌}
use Rattle.std.specs.FinMap.{from_entries}
use Rattle.yak_model.specs.Graph.{Graph}
use Rattle.yak_model.specs.Kept.{AreDistinct, AreHomesValid, IsRest, Kept, state_of}
use Rattle.yak_model.specs.Machine.{IsSound, contents_of, homes_of, kept_of, shown_state}
use Rattle.yak_model.specs.Spaces.{Collects, SpaceState}
use Rattle.yak_model.proofs.Parts.{kept_distinct, kept_valid, same_state, back_state, rest_sound}
use Rattle.yak_model.proofs.space_state.collect_objects.Goals as goal

pub collect-requires-clause-distinct : goal.collect-requires-clause-distinct
collect-requires-clause-distinct c =
    subst AreDistinct (sym (c.in_ok-objects.ensures ∙ ap (kept_of c.args.graph.now) c.deref.ensures.value)) (kept_distinct c.args.graph.now c.args.homes.now.items c.requires)

pub collect-requires-clause-homes : goal.collect-requires-clause-homes
collect-requires-clause-homes c =
    subst AreHomesValid (sym (c.in_ok-objects.ensures ∙ ap (kept_of c.args.graph.now) c.deref.ensures.value)) (kept_valid c.args.graph.now c.args.homes.now.items c.requires)

pub returns-clause-sound : goal.returns-clause-sound
returns-clause-sound c =
    let g = c.args.graph.now in
    let homes = c.args.homes.now.items in
    let objects = c.collect.new.objects.items in
    let listed : c.in_ok-objects.objects.items ≡ kept_of g homes = c.in_ok-objects.ensures ∙ ap (kept_of g) c.deref.ensures.value in
    let rest : IsRest (kept_of g homes) objects = subst (λ before. IsRest before objects) listed c.in_ok-collect.ensures.rest in
    let seen : c.deref-2.result.now ≡ objects = c.deref-2.ensures.value in
    let graphs : c.put_objects.new.graph ≡ record g { objects = from_entries (contents_of objects) } =
    c.in_ok-put_objects.ensures.graph ∙ ap (λ (l : List Kept). record g { objects = from_entries (contents_of l) }) seen in
    let lists = c.in_ok-put_objects.ensures.homes ∙ ap homes_of seen in
    subst (λ (x : Graph). IsSound x c.put_objects.new.homes.items) (sym graphs)
    (subst (IsSound (record g { objects = from_entries (contents_of objects) })) (sym lists)
    (rest_sound g homes c.requires g.threads refl c.requires.depths (λ t. omega arith) c.requires.serials (omega arith) objects rest))

pub returns-clause-ok : goal.returns-clause-ok
returns-clause-ok c =
    let g = c.args.graph.now in
    let homes = c.args.homes.now.items in
    let objects = c.collect.new.objects.items in
    let listed : c.in_ok-objects.objects.items ≡ kept_of g homes = c.in_ok-objects.ensures ∙ ap (kept_of g) c.deref.ensures.value in
    let seen : c.deref-2.result.now ≡ objects = c.deref-2.ensures.value in
    let graphs : c.put_objects.new.graph ≡ record g { objects = from_entries (contents_of objects) } =
    c.in_ok-put_objects.ensures.graph ∙ ap (λ (l : List Kept). record g { objects = from_entries (contents_of l) }) seen in
    let lists = c.in_ok-put_objects.ensures.homes ∙ ap homes_of seen in
    let before : state_of g.limits c.threads.result.now c.in_ok-objects.objects.items ≡ shown_state g homes =
    (λ i. state_of g.limits (c.threads.ensures i) (listed i)) ∙ same_state g homes c.requires in
    let after : state_of g.limits c.threads.result.now objects ≡ shown_state c.put_objects.new.graph c.put_objects.new.homes.items =
    (λ i. state_of g.limits (c.threads.ensures i) objects) ∙ back_state g.limits g.threads objects ∙ (λ i. shown_state (sym graphs i) (sym lists i)) in
    subst (λ (s : SpaceState). Collects s (shown_state c.put_objects.new.graph c.put_objects.new.homes.items)) before
    (subst (Collects (state_of g.limits c.threads.result.now c.in_ok-objects.objects.items)) after (c.in_ok-collect.ensures.ok g.limits))
