-- Finite maps from names that are kept under pairs of numbers.
use Rattle.std.proofs.Common.{◌≡◌, ℕ, List, [], ◌∷◌, map, cond, refl, ap, sym, ◌∙◌, Some}
use Rattle.std.specs.declared.cmp.Ordering.{Ordering}
use Rattle.std.specs.Ordering.{nat_cmp, eq_by_cmp, ordering_then}
use Rattle.std.specs.Cmp.{eq_by_cmp_equiv}
use Rattle.std.specs.FinMap.{FinMap, find, from_entries, get, insert, get-insert, get-from_entries, same_map}
use Rattle.std.specs.BTreeMap as tree
use Rattle.std.specs.Map.{lookup}
use Rattle.object_layout.specs.declared.names.Name.{Name}
use Rattle.yak_model.specs.Graph.{Content}
use Rattle.yak_model.specs.Names.{name_cmp}
use Rattle.yak_model.proofs.Names.{name_cmp_total, name_cmp-IsAntisymmetric}

abbrev pub pair_cmp : ℕ × ℕ → ℕ × ℕ → Ordering
pair_cmp x y = ordering_then (nat_cmp x.0 y.0) (nat_cmp x.1 y.1)

abbrev pub entry_of : (ℕ × ℕ) × Content → Name × Content
entry_of e = (record { thread = (e.0).0; serial = (e.0).1 }, e.1)

-- the finite map that the entries show
abbrev pub named : List ((ℕ × ℕ) × Content) → FinMap name_cmp Content
named es = from_entries (map entry_of es)

found : (es : List ((ℕ × ℕ) × Content)) (q : Name) → find name_cmp q (map entry_of es) ≡ lookup (tree.is_at (pair_cmp (q.thread, q.serial))) es
found [] q = refl
found (e ∷ es) q = ap (cond (eq_by_cmp pair_cmp (q.thread, q.serial) e.0) (Some e.1)) (found es q)

pub get-named : (es : List ((ℕ × ℕ) × Content)) (q : Name) → get (named es) q ≡ lookup (tree.is_at (pair_cmp (q.thread, q.serial))) es
get-named es q = get-from_entries name_cmp_total (map entry_of es) q ∙ found es q

pub put-named : (m n : tree.BTreeMap (ℕ × ℕ) Content) (name : Name) (v : Content) → ((q : ℕ × ℕ) → tree.get pair_cmp n q ≡ cond (tree.is_at (pair_cmp (name.thread, name.serial)) q) (Some v) (tree.get pair_cmp m q)) → named n.entries ≡ insert (named m.entries) name v
put-named m n name v is =
    same_map name_cmp_total name_cmp-IsAntisymmetric _ _
    (λ q. get-named n.entries q
    ∙ is (q.thread, q.serial)
    ∙ ap (λ b. cond b (Some v) (tree.get pair_cmp m (q.thread, q.serial))) ((eq_by_cmp_equiv name_cmp_total).symm name q)
    ∙ ap (cond (eq_by_cmp name_cmp q name) (Some v)) (sym (get-named m.entries q))
    ∙ sym (get-insert name_cmp_total (named m.entries) name v q))

pub put-shown : (m n : tree.BTreeMap (ℕ × ℕ) Content) (s : FinMap name_cmp Content) (name : Name) (v w : Content) → ((q : ℕ × ℕ) → tree.get pair_cmp n q ≡ cond (tree.is_at (pair_cmp (name.thread, name.serial)) q) (Some v) (tree.get pair_cmp m q)) → v ≡ w → named m.entries ≡ s → named n.entries ≡ insert s name w
put-shown m n s name v w is same shown = put-named m n name v is ∙ (λ i. insert (shown i) name (same i))
