use Rattle.std.proofs.Common.{◌≡◌, ◌≤◌, ◌<◌, ◌-◌}
use Rattle.yak.specs.Generator.{number_at, numbered, rounds}
use Rattle.yak.proofs.generator.push_rounds.Given as goal

-- the rounds so far are on lines
abbrev pub invariant-rounds : goal.invariant-rounds
invariant-rounds l = record {
  lines : l.lines.items ≡ numbered 2 (rounds l.seed l.before);
  number : l.x ≡ number_at l.seed l.before;
  small : l.x < 65537;
  few : l.before ≤ l.seed;
}

abbrev pub decreases-rounds : goal.decreases-rounds
decreases-rounds l = l.seed - l.before
