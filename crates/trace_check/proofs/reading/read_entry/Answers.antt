use Rattle.std.proofs.Common.{◌≡◌, [], ◌∷◌, sym, ◌∙◌}
use Rattle.std.specs.Prelude.{codes, decimal}
use Rattle.script_text.specs.Words.{words}
use Rattle.trace_check.specs.declared.traces.Entry.TheVariants as entry
use Rattle.trace_check.specs.Reading.{IsEntry, entry_words}
use Rattle.trace_check.proofs.Digits.{not_collected}
use Rattle.trace_check.proofs.reading.read_entry.Goals as goal

pub returns-in_default : goal.returns-in_default
returns-in_default c = λ told fits is.
    let first = c.in_ok-first.first.now in
    let rest = c.next.new.self in
    let parts : words c.args.line.now ≡ first ∷ rest = sym c.of-words.ensures ∙ c.in_ok-first.ensures in
    let named : first ≡ codes "collected" = rw c.if-is_collected.true at c.is_collected.ensures in
    elim told as (λ x. IsEntry c.args.threads x → words c.args.line.now ≡ entry_words x → ⊥) [
      | entry.Said n r ↦ λ f e.
          let both : first ∷ rest ≡ entry_words (entry.Said n r) = sym parts ∙ e in
          let number : first ≡ decimal n = cc both in
          not_collected n f.0 (sym number ∙ named)
      | entry.Collected t ↦ λ f e.
          let both : first ∷ rest ≡ entry_words (entry.Collected t) = sym parts ∙ e in
          let thread : rest ≡ decimal t ∷ [] = cc both in
          c.in_default.ensures t f.0 f.1 thread
    ] fits is
