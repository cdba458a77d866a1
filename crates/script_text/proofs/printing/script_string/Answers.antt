use Rattle.std.proofs.Common.{◌≡◌, ◌+◌, ◌-◌, ◌<◌, ◌∷◌, List, length, get_or, drop, add-one, ℕ, ap, subst, refl, ◌∙◌, arith, string_bytes}
use Rattle.std.proofs.lemmas.List.{drop_all}
use Rattle.std.proofs.Math.Seq.{drop-cons}
use Rattle.object_layout.specs.declared.calls.Call.TheVariants.{Int}
use Rattle.script_text.specs.declared.scripts.Line.{Line}
use Rattle.script_text.specs.ScriptContents.{ScriptContents}
use Rattle.script_text.specs.Scripts.{header_words}
use Rattle.script_text.specs.Printing.{spaced}
use Rattle.script_text.proofs.Spelling.{IsPrintedTo, begins, goes_on, ends, ends_text}
use Rattle.script_text.proofs.printing.script_string.Goals as goal

lines_of : ScriptContents → List Line
lines_of script = script.lines

abbrev blank : Line
blank = record { number = 0; thread = 0; call = Int 0 }

-- before a line is printed
opened : (script : ScriptContents) (text : List ℕ) (number : ℕ) (shown : List Line) (i : ℕ) → shown ≡ script.lines → i < length shown → IsPrintedTo script text number (drop i script.lines)
    → IsPrintedTo script text number (get_or shown i blank ∷ drop (i + 1) script.lines)
opened script text number shown i same lt so_far =
    let left : drop i shown ≡ get_or shown i blank ∷ drop (i + 1) shown = rw add-one (drop-cons shown i blank lt) in
    let rest : drop i script.lines ≡ get_or shown i blank ∷ drop (i + 1) script.lines = subst (λ (xs : List Line). drop i xs ≡ get_or shown i blank ∷ drop (i + 1) xs) same left in
    rw rest at so_far

pub lines-init : goal.lines-init
lines-init c =
    begins c.args.script.now (string_bytes c.push.new.self) (spaced (header_words c.args.script.now.heap)) c.requires (rw (c.in_ok-push.ensures.bytes, c.in_ok-push.ensures.ascii (omega arith), c.in_ok-push_header.ensures, c.new-text.ensures.bytes) refl) refl

pub push_command-requires : goal.push_command-requires
unfolding lines_of
push_command-requires c =
    let whole = c.args.script.now in
    let shown = c.as_slice-line-items.result.now in
    let same : shown ≡ whole.lines = c.as_slice-line-items.ensures.value ∙ ap lines_of c.script.view_is in
    let before = opened whole (string_bytes c.lines.text) (c.lines.printed + 1) shown c.lines.line-index same c.lines-test.true c.lines.invariant in
    before.rise.3

pub lines-preserved : goal.lines-preserved
unfolding lines_of
lines-preserved c =
    let whole = c.args.script.now in
    let shown = c.as_slice-line-items.result.now in
    let same : shown ≡ whole.lines = c.as_slice-line-items.ensures.value ∙ ap lines_of c.script.view_is in
    let line = get_or shown c.lines.line-index blank in
    let before = opened whole (string_bytes c.lines.text) (c.lines.printed + 1) shown c.lines.line-index same c.lines-test.true c.lines.invariant in
    let count : line.number - (c.lines.printed + 1) ≡ line.number - c.lines.printed - 1 = omega arith in
    goes_on whole (string_bytes c.lines.text) (string_bytes c.push-in-lines.new.self) (c.lines.printed + 1) line (drop (c.lines.line-index + 1) whole.lines) before c.in_ok-push_command.ensures.within
    (rw (c.in_ok-push-2.ensures.bytes, c.in_ok-push-2.ensures.ascii (omega arith), c.in_ok-push_command.ensures.text, c.in_ok-push_feeds.ensures, count) refl)

pub returns-clause-text : goal.returns-clause-text
unfolding lines_of
returns-clause-text c =
    let whole = c.args.script.now in
    let same : c.as_slice-line-items.result.now ≡ whole.lines = c.as_slice-line-items.ensures.value ∙ ap lines_of c.script.view_is in
    ends_text whole (string_bytes c.lines.text) (c.lines.printed + 1) (drop c.lines.line-index whole.lines) (drop_all c.lines.line-index whole.lines (omega (arith, c.lines-test.false, ap length same))) c.lines.invariant

pub returns-clause-reads : goal.returns-clause-reads
unfolding lines_of
returns-clause-reads c =
    let whole = c.args.script.now in
    let same : c.as_slice-line-items.result.now ≡ whole.lines = c.as_slice-line-items.ensures.value ∙ ap lines_of c.script.view_is in
    ends whole (string_bytes c.lines.text) (c.lines.printed + 1) (drop c.lines.line-index whole.lines) (drop_all c.lines.line-index whole.lines (omega (arith, c.lines-test.false, ap length same))) c.lines.invariant
