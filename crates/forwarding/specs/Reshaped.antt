-- A state whose objects have other homes, or none.
use Rattle.std.specs.Prelude.{◌≡◌, Option}
use Rattle.object_layout.specs.declared.names.Name.{Name}
use Rattle.epoch_lattice.specs.declared.Space.{Space}
use Rattle.yak_model.specs.Spaces.{KeepsContents, SpaceState, home_of}

-- The homes are those that a function gives, an object without one is gone, and all else is as it was.
pub record Reshaped (s : SpaceState) (given : Name → Option Space) (after : SpaceState) : Type 0 where
  pub homes : (n : Name) → home_of after n ≡ given n
  pub contents : KeepsContents s after
  pub rest : after.graph ≡ record s.graph { objects = after.graph.objects }
