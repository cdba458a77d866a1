-- What a check answers.
use Rattle.std.proofs.Common.{◌≡◌, ℕ, ◌<◌, List, [], ◌∷◌, Option, Some, None, Result, Ok, Err, IfOk, length, get_or, zero, suc, refl, ap, subst, arith}
use Rattle.std.specs.Prelude.{IfNone, IfSome}
use Rattle.script_text.specs.ScriptContents.{ScriptContents}
use Rattle.script_text.specs.Printing.{Rises}
use Rattle.yak_model.specs.Unique.{StatesAreUnique}
use Rattle.trace_check.specs.declared.traces.Entry.{Entry}
use Rattle.trace_check.specs.Traces.{AreOfThreads, IsOfThreads}
use Rattle.trace_check.specs.Breaks.{IsLawfulTrace, TraceBreaksAt}
use Rattle.trace_check.proofs.Whole.{never_breaks, one_break}

pub of_threads_at : (threads : ℕ) (entries : List Entry) (i : ℕ) (d : Entry) → AreOfThreads threads entries → i < length entries → IsOfThreads threads (get_or entries i d)
of_threads_at threads [] i d are lt = absurd (omega (arith, lt))
of_threads_at threads (e ∷ entries) zero d are lt = are.0
of_threads_at threads (e ∷ entries) (suc i) d are lt = of_threads_at threads entries i d are.1 (omega (arith, lt))

pub none_of : {T E : Type 0} (P : Type 0) (r : Result (Option T) E) → IfOk r (λ done. IfNone done P) → r ≡ Ok None → P
none_of {T} {E} P r h is = subst (λ (x : Result (Option T) E). IfOk x (λ done. IfNone done P)) is h

pub some_of : {T E : Type 0} (P : T → Type 0) (r : Result (Option T) E) (x : T) → IfOk r (λ done. IfSome done P) → r ≡ Ok (Some x) → P x
some_of {T} {E} P r x h is = subst (λ (y : Result (Option T) E). IfOk y (λ done. IfSome done P)) is h

module _ (unique : StatesAreUnique) (script : ScriptContents) (rise : Rises script.heap.threads 2 script.lines) (entries : List Entry) {E : Type 0} where
  pub every_lawful : (r : Result (Option ℕ) E) → IfOk r (λ answer. IfSome answer (λ k. TraceBreaksAt script entries k)) → IsLawfulTrace script entries → IfOk r (λ answer. answer ≡ None)
  every_lawful (Ok None) breaks lawful = refl
  every_lawful (Ok (Some k)) breaks lawful = absurd (never_breaks unique script rise entries k lawful breaks)
  every_lawful (Err e) breaks lawful = tt

  pub every_break : (r : Result (Option ℕ) E) → IfOk r (λ answer. IfNone answer (IsLawfulTrace script entries)) → IfOk r (λ answer. IfSome answer (λ k. TraceBreaksAt script entries k))
      → (k : ℕ) → TraceBreaksAt script entries k → IfOk r (λ answer. answer ≡ Some k)
  every_break (Ok None) lawful breaks k at = absurd (never_breaks unique script rise entries k lawful at)
  every_break (Ok (Some j)) lawful breaks k at = ap Some (one_break script entries j k breaks at)
  every_break (Err e) lawful breaks k at = tt
