-- The lines of texts that stand one behind the other.
use Rattle.std.proofs.Common.{◌≡◌, ◌≤◌, ◌+◌, ◌-◌, ℕ, zero, suc, false, List, [], ◌∷◌, ◌++◌, length, length-append, replicate, refl, sym, ap, ◌∙◌, inl, inr, arith}
use Rattle.std.proofs.lemmas.List.{append_assoc}
use Rattle.std.proofs.lemmas.List.Elements.{All-nil}
use Rattle.bstr.specs.Text.{no_cr}
use Rattle.script_text.specs.declared.scripts.Line.{Line}
use Rattle.script_text.specs.Commands.{command_words}
use Rattle.script_text.specs.ScriptContents.{ScriptContents}
use Rattle.script_text.specs.Printing.{lines_text, script_text, spaced}
use Rattle.script_text.specs.Scripts.{header_words}
use Rattle.script_text.specs.Words.{is_feed, lines}
use Rattle.script_text.proofs.Lines.{HasNoFeed, first_feed, lines_first}

-- the lines of what comes behind a text come behind its lines
pub record EndsLine (text : List ℕ) : Type 0 where
  pub parted : (rest : List ℕ) → lines (text ++ rest) ≡ lines text ++ lines rest

no_lines : lines [] ≡ []
unfolding lines
no_lines = refl

nothing_ends : EndsLine []
nothing_ends = record { parted = λ rest. rw no_lines refl }

both_end : (a b : List ℕ) → EndsLine a → EndsLine b → EndsLine (a ++ b)
both_end a b one other = record {
  parted = λ rest.
      ap lines (append_assoc a b rest) ∙ one.parted (b ++ rest) ∙ ap (λ (ls : List (List ℕ)). lines a ++ ls) (other.parted rest)
      ∙ sym (append_assoc (lines a) (lines b) (lines rest)) ∙ ap (λ (ls : List (List ℕ)). ls ++ lines rest) (sym (one.parted b));
}

last_fed : (text : List ℕ) → HasNoFeed text → EndsLine (text ++ 10 ∷ [])
last_fed text none = record {
  parted = λ rest.
      let whole : lines ((text ++ 10 ∷ []) ++ rest) ≡ no_cr text ∷ lines rest = ap lines (append_assoc text (10 ∷ []) rest) ∙ lines_first text rest none in
      let alone : lines (text ++ 10 ∷ []) ≡ no_cr text ∷ [] = lines_first text [] none ∙ ap (λ (ls : List (List ℕ)). no_cr text ∷ ls) no_lines in
      whole ∙ ap (λ (ls : List (List ℕ)). ls ++ lines rest) (sym alone);
}

fed_by : (fuel : ℕ) (text : List ℕ) → length text ≤ fuel → EndsLine (text ++ 10 ∷ [])
fed_by zero [] le = last_fed [] (All-nil (λ byte. is_feed byte ≡ false))
fed_by zero (byte ∷ text) le = absurd (omega (arith, le))
fed_by (suc fuel) text le = elim (first_feed text) [
  | inl none ↦ last_fed text none
  | inr found ↦ (let (line, rest, is, none) = found in
      let shorter : length rest ≤ fuel = omega (arith, le, ap length is, length-append line (10 ∷ rest)) in
      let cut : text ++ 10 ∷ [] ≡ (line ++ 10 ∷ []) ++ (rest ++ 10 ∷ []) = rw is (append_assoc line (10 ∷ rest) (10 ∷ []) ∙ sym (append_assoc line (10 ∷ []) (rest ++ 10 ∷ []))) in
      rw cut (both_end (line ++ 10 ∷ []) (rest ++ 10 ∷ []) (last_fed line none) (fed_by fuel rest shorter)))
]

-- a text with a line feed behind it
pub fed_ends : (text : List ℕ) → EndsLine (text ++ 10 ∷ [])
fed_ends text = fed_by (length text) text (omega arith)

feeds_end : (count : ℕ) → EndsLine (replicate count 10)
feeds_end zero = nothing_ends
feeds_end (suc count) = both_end (10 ∷ []) (replicate count 10) (fed_ends []) (feeds_end count)

commands_end : (number : ℕ) (commands : List Line) → EndsLine (lines_text number commands)
commands_end number [] = nothing_ends
commands_end number (line ∷ commands) =
    let command = spaced (command_words line.thread line.call) in
    let more = lines_text (line.number + 1) commands in
    let cut : command ++ 10 ∷ more ≡ (command ++ 10 ∷ []) ++ more = sym (append_assoc command (10 ∷ []) more) in
    both_end (replicate (line.number - number) 10) (command ++ 10 ∷ more) (feeds_end (line.number - number))
    (rw cut (both_end (command ++ 10 ∷ []) more (fed_ends command) (commands_end (line.number + 1) commands)))

-- the text of a script
pub script_ends : (script : ScriptContents) → EndsLine (script_text script)
script_ends script =
    let header = spaced (header_words script.heap) in
    let more = lines_text 2 script.lines in
    let cut : header ++ 10 ∷ more ≡ (header ++ 10 ∷ []) ++ more = sym (append_assoc header (10 ∷ []) more) in
    rw cut (both_end (header ++ 10 ∷ []) more (fed_ends header) (commands_end 2 script.lines))
