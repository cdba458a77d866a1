-- Walks from roots.
use Rattle.object_layout.specs.declared.names.Name.{Name}
use Rattle.yak_model.specs.Spaces.{IsReached, Walk, here, onward}

-- what holds where a walk begins and is kept along edges holds where it ends
pub walk_keeps : {edge : Name → Name → Type 0} {from : Name} (P : Name → Type 0) → ((a b : Name) → P a → edge a b → P b) → P from → {to : Name} → Walk edge from to → P to
walk_keeps P keeps p here = p
walk_keeps P keeps p (onward w e) = keeps _ _ (walk_keeps P keeps p w) e

pub reach_keeps : (edge : Name → Name → Type 0) (is_root : Name → Type 0) (P : Name → Type 0) → ((n : Name) → is_root n → P n) → ((a b : Name) → P a → edge a b → P b) → (n : Name) → IsReached edge is_root n → P n
reach_keeps edge is_root P roots keeps n h = walk_keeps P keeps (roots h.0 h.1) h.2

-- a walk along other edges
pub walk_map : {edge other : Name → Name → Type 0} → ((a b : Name) → edge a b → other a b) → {from to : Name} → Walk edge from to → Walk other from to
walk_map f here = here
walk_map f (onward w e) = onward (walk_map f w) (f _ _ e)
