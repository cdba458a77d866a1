-- The worker of a heap that opens knows the root alone.
use Rattle.std.proofs.Common.{◌≡◌, inl, inr, ℕ, cond, lit≤, ◌≤◌, [], ◌∷◌, Some, None, is_some, length, refl, ◌∙◌, ap, sym, subst, arith}
use Rattle.std.specs.FinMap as finite
use Rattle.std.specs.FinMap.{empty, entries, entries-insert, get, get-empty, put}
use Rattle.std.specs.List.{Contains}
use Rattle.object_layout.specs.declared.names.Name.{Name}
use Rattle.heap_words.specs.declared.map.Areas.{Areas}
use Rattle.heap_words.specs.Contents.{Contents}
use Rattle.yak_model.specs.declared.datum.Datum.TheVariants as datum
use Rattle.yak_model.specs.Graph.{Content, Graph, fields_or_none, opening, size_of, standard_limits}
use Rattle.yak_model.specs.Names.{name_cmp, root_name}
use Rattle.yak_model.specs.Private.{AreMade, FitPages, IsKnown, IsPrivate}
use Rattle.yak_model.specs.Spaces.{Refers, opening_spaces}
use Rattle.yak_model.specs.Stands.{Stands}
use Rattle.yak_model.proofs.Names.{get-other, get-same, name_cmp_total, same_or_other}
use Rattle.heap_core.specs.Callers.{KnowsAlone, graph_with, with_absent}
use Rattle.heap_core.proofs.Calling.{state-made}
use Rattle.group_jobs.specs.Alone.{opening_known, root_object}
use Rattle.group_jobs.specs.declared.TheConstants.{WORKER}
use Rattle.group_jobs.proofs.Nothing.{no_entries}

abbrev opened : Graph
opened = opening standard_limits WORKER

known_entries : entries opening_known ≡ (root_name, root_object) ∷ []
known_entries = entries-insert name_cmp_total empty root_name root_object ∙ ap (put name_cmp root_name root_object) (no_entries name_cmp Content)

nothing_absent : with_absent opening_known (entries opening_known) ≡ opening_known
nothing_absent =
    ap (with_absent opening_known) known_entries
    ∙ ap (λ o. cond (is_some o) opening_known (finite.insert opening_known root_name root_object)) (get-same empty root_name root_object)

same_graph : graph_with opened opening_known ≡ opened
same_graph = ap (λ objects. record opened { objects = objects }) nothing_absent

nothing_refers : (from name : Name) → Refers opened from name → IsKnown opening_known from
nothing_refers from name r = elim (same_or_other from root_name) [
  | inl e ↦ ap is_some (ap (get opening_known) e ∙ get-same empty root_name root_object)
  | inr other ↦
      let none : get opening_known from ≡ None = get-other empty root_name root_object from other ∙ get-empty name_cmp from in
      absurd (omega (arith, (subst (λ o. Contains (fields_or_none o) (datum.Object name)) none r).1))
]

root_private : IsPrivate opened WORKER opening_known
root_private = record {
  contents = λ name known. refl;
  stacks = λ name known u on. let size : length (opened.threads) ≡ WORKER = refl in omega (arith, on.0, size);
  fields = λ name known from r. nothing_refers from name r;
}

root_fits : FitPages standard_limits opening_known
root_fits name content e = elim (same_or_other name root_name) [
  | inl q ↦
      let found : Some content ≡ Some root_object = sym e ∙ ap (get opening_known) q ∙ get-same empty root_name root_object in
      let one : content ≡ root_object = cc in
      subst (λ (x : Content). size_of x ≤ standard_limits.page) (sym one) (lit≤ tt)
  | inr other ↦
      let none : get opening_known name ≡ None = get-other empty root_name root_object name other ∙ get-empty name_cmp name in
      let absent : None ≡ Some content = sym none ∙ e in
      cc
]

pub knows_root : (m : Areas) (c : Contents) (t : ℕ) → t ≡ WORKER → Stands m c (opening_spaces standard_limits WORKER) → KnowsAlone m c t opening_known
knows_root m c t e h = record {
  state = opening_spaces standard_limits WORKER;
  stands = h;
  made = subst AreMade (sym same_graph) (state-made m c (opening_spaces standard_limits WORKER) h);
  private = subst (λ (u : ℕ). IsPrivate (graph_with opened opening_known) u opening_known) (sym e) (subst (λ g. IsPrivate g WORKER opening_known) (sym same_graph) root_private);
  fits = root_fits;
}
