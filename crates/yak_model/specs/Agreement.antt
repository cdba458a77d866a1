-- The graph and the spaces agree on all that a thread can see.
use Rattle.std.specs.Prelude.{◌≡◌, ℕ, List}
use Rattle.object_layout.specs.declared.names.Name.{Name}
use Rattle.yak_model.specs.Graph.{Graph, Limits, opening}
use Rattle.yak_model.specs.History.{Entry, Leads}
use Rattle.yak_model.specs.Spaces.{IsPresent, IsReachedFromStacks, SpaceState, content_at, spaces}

-- Stacks, depths and numbers made are equal, what is present has its fields, and what a stack reaches is present.
pub record Agrees (g : Graph) (s : SpaceState) : Type 0 where
  pub limits : s.graph.limits ≡ g.limits
  pub threads : s.graph.threads ≡ g.threads
  pub contents : (name : Name) → IsPresent s name → content_at s.graph name ≡ content_at g name
  pub reached : (name : Name) → IsReachedFromStacks g name → IsPresent s name

-- A history that leaves a space state is legal, and the graph that it leaves agrees with that state.
abbrev pub MachinesAgree : Type 0
MachinesAgree =
    (limits : Limits) (threads : ℕ) (history : List Entry) (s : SpaceState) → spaces limits threads history s
    → (g : Graph) × Leads (opening limits threads) history g × Agrees g s
