-- A text is one trace at most, and refused for one reason at most.
use Rattle.std.proofs.Common.{◌≡◌, ◌≤◌, ◌+◌, ◌⊎◌, ℕ, List, [], ◌∷◌, drop, take, refl, sym, subst, ap, ◌∙◌, inl, inr, arith}
use Rattle.std.specs.Prelude.{codes, decimal, IfErr, IfOk, Result, Ok, Err}
use Rattle.std.proofs.lemmas.Bool.{cases_lt}
use Rattle.std.proofs.lemmas.Fmt.{decimal_injective}
use Rattle.object_layout.specs.declared.TheConstants.{MAX_THREADS}
use Rattle.script_text.specs.ScriptContents.{ScriptContents}
use Rattle.script_text.specs.declared.faults.Bad.{Bad}
use Rattle.script_text.specs.Replies.{reply_words}
use Rattle.script_text.specs.Scripts.{IsBadOf, IsScriptOf, IsSilent}
use Rattle.script_text.proofs.Replied.{same_reply}
use Rattle.script_text.proofs.Single.{not_both_texts, one_fault, one_script}
use Rattle.trace_check.specs.declared.traces.Entry.{Entry}
use Rattle.trace_check.specs.declared.traces.Entry.TheVariants as entry
use Rattle.trace_check.specs.declared.traces.TraceError.{TraceError}
use Rattle.trace_check.specs.declared.traces.TraceError.TheVariants as error
use Rattle.trace_check.specs.Reading.{FirstNoEntry, HasNoMark, HoldsEntries, IsBadScript, IsBadTrace, IsEntry, IsEntryLine, IsMarked, IsNoEntry, IsTraceOf, RefusesTrace, entry_words}
use Rattle.trace_check.specs.Traces.{Trace}
use Rattle.trace_check.proofs.Digits.{not_collected}

-- ---- one line, one entry

same_words : (threads : ℕ) (a b : Entry) → threads ≤ MAX_THREADS → IsEntry threads a → IsEntry threads b → entry_words a ≡ entry_words b → a ≡ b
same_words threads (entry.Said n r) (entry.Said m s) few one other e =
    let number : decimal n ≡ decimal m = cc in
    let said : reply_words r ≡ reply_words s = cc in
    let first : n ≡ m = decimal_injective n m (omega (arith, one.0)) (omega (arith, other.0)) number in
    let second : r ≡ s = same_reply r s one.1 other.1 said in
    cc (first, second)
same_words threads (entry.Said n r) (entry.Collected t) few one other e = let word : decimal n ≡ codes "collected" = cc in absurd (not_collected n one.0 word)
same_words threads (entry.Collected t) (entry.Said n r) few one other e = let word : decimal n ≡ codes "collected" = cc in absurd (not_collected n other.0 word)
same_words threads (entry.Collected t) (entry.Collected u) few one other e =
    let thread : decimal t ≡ decimal u = cc in
    let same : t ≡ u = decimal_injective t u (omega (arith, one.1, few)) (omega (arith, other.1, few)) thread in
    cc same

same_entry : (threads : ℕ) (line : List ℕ) (a b : Entry) → threads ≤ MAX_THREADS → IsEntryLine threads line a → IsEntryLine threads line b → a ≡ b
same_entry threads line a b few one other = same_words threads a b few one.possible other.possible (sym one.spelled ∙ other.spelled)

-- ---- lines of entries

same_entries : (threads : ℕ) (lines : List (List ℕ)) (one other : List Entry) → threads ≤ MAX_THREADS → HoldsEntries threads lines one → HoldsEntries threads lines other → one ≡ other
same_entries threads [] one other few a b = a ∙ sym b
same_entries threads (line ∷ lines) one other few (inl (silent, a)) (inl (again, b)) = same_entries threads lines one other few a b
same_entries threads (line ∷ lines) one other few (inl (silent, a)) (inr (told, others, is, whole, b)) = absurd (is.loud silent)
same_entries threads (line ∷ lines) one other few (inr (told, others, is, whole, a)) (inl (silent, b)) = absurd (is.loud silent)
same_entries threads (line ∷ lines) one other few (inr (told, others, is, whole, a)) (inr (told', others', is', whole', b)) =
    let first : told ≡ told' = same_entry threads line told told' few is is' in
    let later : others ≡ others' = same_entries threads lines others others' few a b in
    whole ∙ rw (first, later) (sym whole')

not_both_entries : (threads number : ℕ) (lines : List (List ℕ)) (entries : List Entry) (bad : ℕ) → HoldsEntries threads lines entries → FirstNoEntry threads number lines bad → ⊥
not_both_entries threads number [] entries bad holds fault = fault
not_both_entries threads number (line ∷ lines) entries bad (inl (silent, holds)) (inl (fault, here)) = fault.loud silent
not_both_entries threads number (line ∷ lines) entries bad (inl (silent, holds)) (inr (good, later)) = not_both_entries threads (number + 1) lines entries bad holds later
not_both_entries threads number (line ∷ lines) entries bad (inr (told, others, is, whole, holds)) (inl (fault, here)) = fault.none told is
not_both_entries threads number (line ∷ lines) entries bad (inr (told, others, is, whole, holds)) (inr (good, later)) = not_both_entries threads (number + 1) lines others bad holds later

good_or_none : (threads : ℕ) (line : List ℕ) → IsNoEntry threads line → (IsSilent line ⊎ ((told : Entry) × IsEntryLine threads line told)) → ⊥
good_or_none threads line fault (inl silent) = fault.loud silent
good_or_none threads line fault (inr (told, is)) = fault.none told is

same_no_entry : (threads number : ℕ) (lines : List (List ℕ)) (a b : ℕ) → FirstNoEntry threads number lines a → FirstNoEntry threads number lines b → a ≡ b
same_no_entry threads number [] a b one other = absurd one
same_no_entry threads number (line ∷ lines) a b (inl (fault, here)) (inl (fault', here')) = here ∙ sym here'
same_no_entry threads number (line ∷ lines) a b (inl (fault, here)) (inr (good, later)) = absurd (good_or_none threads line fault good)
same_no_entry threads number (line ∷ lines) a b (inr (good, later)) (inl (fault, here)) = absurd (good_or_none threads line fault good)
same_no_entry threads number (line ∷ lines) a b (inr (good, later)) (inr (good', later')) = same_no_entry threads (number + 1) lines a b later later'

-- ---- one mark

same_mark : (lines : List (List ℕ)) (a b : ℕ) → IsMarked lines a → IsMarked lines b → a ≡ b
same_mark lines a b one other = elim (cases_lt a b) [
  | inl less ↦ absurd (other.first a less one.mark)
  | inr least ↦ elim (cases_lt b a) [
    | inl less ↦ absurd (one.first b less other.mark)
    | inr most ↦ omega (arith, least, most)
  ]
]

no_mark : (lines : List (List ℕ)) (a : ℕ) → IsMarked lines a → HasNoMark lines → ⊥
no_mark lines a is none = none a is.within is.mark

-- ---- texts

trace_of : ScriptContents → List Entry → Trace
trace_of script entries = record { script = script; entries = entries }

same_parts : (a b : Trace) → a.script ≡ b.script → a.entries ≡ b.entries → a ≡ b
unfolding trace_of
same_parts a b script entries = ap (λ (s : ScriptContents). trace_of s a.entries) script ∙ ap (trace_of b.script) entries

few_threads : (lines : List (List ℕ)) (script : ScriptContents) → IsScriptOf lines script → script.heap.threads ≤ MAX_THREADS
few_threads [] script is = absurd is
few_threads (line ∷ lines) script is = is.0.possible.few_threads

-- the entries that lines hold where another script has the same threads
held_by : (lines : List (List ℕ)) (a b : ScriptContents) (entries : List Entry) → a ≡ b → HoldsEntries a.heap.threads lines entries → HoldsEntries b.heap.threads lines entries
held_by lines a b entries same holds = subst (λ (s : ScriptContents). HoldsEntries s.heap.threads lines entries) same holds

pub one_trace : (lines : List (List ℕ)) (a b : Trace) → IsTraceOf lines a → IsTraceOf lines b → a ≡ b
one_trace lines a b (at, marked, script, held) (at', marked', script', held') =
    let mark : at' ≡ at = same_mark lines at' at marked' marked in
    let other : IsScriptOf (take at lines) b.script = subst (λ (n : ℕ). IsScriptOf (take n lines) b.script) mark script' in
    let scripts : b.script ≡ a.script = one_script (take at lines) b.script a.script other script in
    let later : HoldsEntries b.script.heap.threads (drop (at + 1) lines) b.entries = subst (λ (n : ℕ). HoldsEntries b.script.heap.threads (drop (n + 1) lines) b.entries) mark held' in
    let entries : a.entries ≡ b.entries = same_entries a.script.heap.threads (drop (at + 1) lines) a.entries b.entries (few_threads (take at lines) a.script script) held (held_by (drop (at + 1) lines) b.script a.script b.entries scripts later) in
    same_parts a b (sym scripts) entries

pub one_bad_script : (lines : List (List ℕ)) (a b : Bad) → IsBadScript lines a → IsBadScript lines b → a ≡ b
one_bad_script lines a b (inl (at, marked, bad)) (inl (at', marked', bad')) =
    one_fault (take at lines) a b bad (subst (λ (n : ℕ). IsBadOf (take n lines) b) (same_mark lines at' at marked' marked) bad')
one_bad_script lines a b (inl (at, marked, bad)) (inr (none, bad')) = absurd (no_mark lines at marked none)
one_bad_script lines a b (inr (none, bad)) (inl (at', marked', bad')) = absurd (no_mark lines at' marked' none)
one_bad_script lines a b (inr (none, bad)) (inr (none', bad')) = one_fault lines a b bad bad'

pub one_bad_trace : (lines : List (List ℕ)) (a b : ℕ) → IsBadTrace lines a → IsBadTrace lines b → a ≡ b
one_bad_trace lines a b (inl (at, script, marked, is, bad)) (inl (at', script', marked', is', bad')) =
    let mark : at' ≡ at = same_mark lines at' at marked' marked in
    let other : IsScriptOf (take at lines) script' = subst (λ (n : ℕ). IsScriptOf (take n lines) script') mark is' in
    let scripts : script' ≡ script = one_script (take at lines) script' script other is in
    let here : FirstNoEntry script'.heap.threads (at + 2) (drop (at + 1) lines) b = subst (λ (n : ℕ). FirstNoEntry script'.heap.threads (n + 2) (drop (n + 1) lines) b) mark bad' in
    let fault : FirstNoEntry script.heap.threads (at + 2) (drop (at + 1) lines) b = subst (λ (s : ScriptContents). FirstNoEntry s.heap.threads (at + 2) (drop (at + 1) lines) b) scripts here in
    same_no_entry script.heap.threads (at + 2) (drop (at + 1) lines) a b bad fault
one_bad_trace lines a b (inl (at, script, marked, is, bad)) (inr (script', none, is', here)) = absurd (no_mark lines at marked none)
one_bad_trace lines a b (inr (script, none, is, here)) (inl (at', script', marked', is', bad')) = absurd (no_mark lines at' marked' none)
one_bad_trace lines a b (inr (script, none, is, here)) (inr (script', none', is', here')) = here ∙ sym here'

pub trace_or_bad_script : (lines : List (List ℕ)) (text : Trace) (bad : Bad) → IsTraceOf lines text → IsBadScript lines bad → ⊥
trace_or_bad_script lines text bad (at, marked, script, held) (inl (at', marked', fault)) =
    not_both_texts (take at lines) text.script bad script (subst (λ (n : ℕ). IsBadOf (take n lines) bad) (same_mark lines at' at marked' marked) fault)
trace_or_bad_script lines text bad (at, marked, script, held) (inr (none, fault)) = no_mark lines at marked none

pub trace_or_bad_trace : (lines : List (List ℕ)) (text : Trace) (number : ℕ) → IsTraceOf lines text → IsBadTrace lines number → ⊥
trace_or_bad_trace lines text number (at, marked, script, held) (inl (at', other, marked', is, bad)) =
    let mark : at' ≡ at = same_mark lines at' at marked' marked in
    let same : IsScriptOf (take at lines) other = subst (λ (n : ℕ). IsScriptOf (take n lines) other) mark is in
    let scripts : text.script ≡ other = one_script (take at lines) text.script other script same in
    let here : FirstNoEntry other.heap.threads (at + 2) (drop (at + 1) lines) number = subst (λ (n : ℕ). FirstNoEntry other.heap.threads (n + 2) (drop (n + 1) lines) number) mark bad in
    not_both_entries other.heap.threads (at + 2) (drop (at + 1) lines) text.entries number (held_by (drop (at + 1) lines) text.script other text.entries scripts held) here
trace_or_bad_trace lines text number (at, marked, script, held) (inr (other, none, is, here)) = no_mark lines at marked none

pub bad_script_or_trace : (lines : List (List ℕ)) (bad : Bad) (number : ℕ) → IsBadScript lines bad → IsBadTrace lines number → ⊥
bad_script_or_trace lines bad number (inl (at, marked, fault)) (inl (at', script, marked', is, later)) =
    not_both_texts (take at lines) script bad (subst (λ (n : ℕ). IsScriptOf (take n lines) script) (same_mark lines at' at marked' marked) is) fault
bad_script_or_trace lines bad number (inl (at, marked, fault)) (inr (script, none, is, here)) = no_mark lines at marked none
bad_script_or_trace lines bad number (inr (none, fault)) (inl (at', script, marked', is, later)) = no_mark lines at' marked' none
bad_script_or_trace lines bad number (inr (none, fault)) (inr (script, none', is, here)) = not_both_texts lines script bad is fault

-- ---- what a reading gives

pub every_trace : (lines : List (List ℕ)) (result : Result Trace TraceError) → IfOk result (λ text. IsTraceOf lines text) → IfErr result (λ error. RefusesTrace lines error)
    → (text : Trace) → IsTraceOf lines text → (result ≡ Ok text) ⊎ (result ≡ Err error.Memory)
every_trace lines (Ok found) one other text is = inl (ap Ok (one_trace lines found text one is))
every_trace lines (Err (error.Script bad)) one other text is = absurd (trace_or_bad_script lines text bad is other)
every_trace lines (Err (error.BadTrace number)) one other text is = absurd (trace_or_bad_trace lines text number is other)
every_trace lines (Err error.Memory) one other text is = inr refl

pub every_bad_script : (lines : List (List ℕ)) (result : Result Trace TraceError) → IfOk result (λ text. IsTraceOf lines text) → IfErr result (λ error. RefusesTrace lines error)
    → (bad : Bad) → IsBadScript lines bad → (result ≡ Err (error.Script bad)) ⊎ (result ≡ Err error.Memory)
every_bad_script lines (Ok found) one other bad is = absurd (trace_or_bad_script lines found bad one is)
every_bad_script lines (Err (error.Script found)) one other bad is = inl (ap (λ (b : Bad). Err (error.Script b)) (one_bad_script lines found bad other is))
every_bad_script lines (Err (error.BadTrace number)) one other bad is = absurd (bad_script_or_trace lines bad number is other)
every_bad_script lines (Err error.Memory) one other bad is = inr refl

pub every_bad_trace : (lines : List (List ℕ)) (result : Result Trace TraceError) → IfOk result (λ text. IsTraceOf lines text) → IfErr result (λ error. RefusesTrace lines error)
    → (number : ℕ) → IsBadTrace lines number → (result ≡ Err (error.BadTrace number)) ⊎ (result ≡ Err error.Memory)
every_bad_trace lines (Ok found) one other number is = absurd (trace_or_bad_trace lines found number one is)
every_bad_trace lines (Err (error.Script bad)) one other number is = absurd (bad_script_or_trace lines bad number other is)
every_bad_trace lines (Err (error.BadTrace found)) one other number is = inl (ap (λ (n : ℕ). Err (error.BadTrace n)) (one_bad_trace lines found number other is))
every_bad_trace lines (Err error.Memory) one other number is = inr refl
