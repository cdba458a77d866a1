use Rattle.std.proofs.Common.{◌≡◌, ◌++◌, ◌∷◌, decimal, drop, map, string_bytes}
use Rattle.script_text.specs.Printing.{spaced}
use Rattle.script_text.proofs.Spelling.{after_spaces}
use Rattle.script_text.proofs.commands.push_words.Given as goal

-- what is printed, and what the rest will add
abbrev pub invariant-loop-number : goal.invariant-loop-number
invariant-loop-number l = string_bytes l.text ++ after_spaces (map decimal (drop l.number-index l.numbers)) ≡ string_bytes l.fn.text ++ 32 ∷ spaced (l.word ∷ map decimal l.numbers)
