-- Which statuses making a trace and checking one may end with, and what the number of each tells.
use Rattle.std.proofs.Common.{◌≡◌, ◌≤◌, ◌<◌, ◌⊎◌, ℕ, List, [], length, refl, subst, inl, inr}
use denote.Enum.Declared.{tag_of}
use Rattle.yak_io.specs.declared.TheConstants.{INPUT_LIMIT}
use Rattle.script_text.specs.declared.faults.Bad.{Bad}
use Rattle.script_text.specs.ScriptContents.{ScriptContents}
use Rattle.script_text.specs.Scripts.{IsBadLine, IsScript}
use Rattle.script_text.specs.Words.{lines}
use Rattle.trace_check.specs.Breaks.{IsLawfulTrace, TraceBreaksAt}
use Rattle.trace_check.specs.Reading.{IsBadScript, IsBadTrace, IsTraceOf}
use Rattle.trace_check.specs.Traces.{Trace}
use Rattle.trace_check.proofs.Single.{bad_script_or_trace, one_trace, trace_or_bad_script, trace_or_bad_trace}
use Rattle.yak.specs.contracts.endings.Status.{the_type}
use Rattle.yak.specs.declared.endings.Status.{Status}
use Rattle.yak.specs.declared.endings.Status.TheVariants.{Done, Usage, Refused, ReadFault, WriteFault, NoMemory, TooLarge, OutOfHeap, LongWord, BadTrace, NotLawful}
use Rattle.yak.specs.declared.forms.Form.TheVariants.{Traced}
use Rattle.yak.specs.declared.forms.Tracing.{Tracing}
use Rattle.yak.specs.declared.forms.Tracing.TheVariants.{Make, Check}
use Rattle.yak.specs.Forms.{IsTraced}
use Rattle.yak.specs.Keeping.{Keeping}
use Rattle.yak.specs.Endings.{Input, IsFaultless, IsInput, KeepsNothing, Output, ends_by, number_of}
use Rattle.yak.specs.Traced.{AnswersCheck, AnswersTrace, AnswersTracing, OfInput, traced_means, tracing_means, tracing_to}
use Rattle.yak.proofs.Numbers.{number_is, of_number, one_of_two}
use Rattle.yak.proofs.Statuses.{Never, not_large, same_input, too_many}
use Rattle.yak.proofs.Words.{one_form}
use Rattle.yak.proofs.Writing.{HasNoFaultText, same_text}

-- ---- words

pub same_tracing : (words : List (List ℕ)) (one other : Tracing) → IsTraced words one → IsTraced words other → one ≡ other
same_tracing words one other a b = let e = one_form words (Traced one) (Traced other) a b in cc e

-- ---- what the bytes of an input come to

pub of_bytes : (tracing : Tracing) (status : Status) (input : Input) (bytes text : List ℕ) → IsInput input bytes → tracing_to tracing status bytes text → tracing_means tracing status input text
of_bytes tracing Done input bytes text is told = (bytes, is, told)
of_bytes tracing Refused input bytes text is told = (bytes, is, told)
of_bytes tracing BadTrace input bytes text is told = (bytes, is, told)
of_bytes tracing NotLawful input bytes text is told = (bytes, is, told)
of_bytes Make NoMemory input bytes text is told = told
of_bytes Check NoMemory input bytes text is told = told
of_bytes Make Usage input bytes text is told = told
of_bytes Check Usage input bytes text is told = told
of_bytes Make ReadFault input bytes text is told = absurd told
of_bytes Check ReadFault input bytes text is told = absurd told
of_bytes Make WriteFault input bytes text is told = told
of_bytes Check WriteFault input bytes text is told = told
of_bytes Make TooLarge input bytes text is told = absurd told
of_bytes Check TooLarge input bytes text is told = absurd told
of_bytes Make OutOfHeap input bytes text is told = told
of_bytes Check OutOfHeap input bytes text is told = told
of_bytes Make LongWord input bytes text is told = told
of_bytes Check LongWord input bytes text is told = told

-- an input that was told comes to what its bytes come to
of_told : (tracing : Tracing) (status : Status) (input : Input) (output : Output) (bytes text : List ℕ) → IsFaultless input output bytes → OfInput tracing status input text → tracing_to tracing status bytes text
of_told tracing status input output bytes text clean (read, is, told) = subst (λ (l : List ℕ). tracing_to tracing status l text) (same_input input bytes read clean.told is) told

-- ---- which statuses come

-- where each status that the bytes may come to is excluded but one, that one comes
ends_with : (tracing : Tracing) (status : Status) (input : Input) (output : Output) (kept : Keeping) → ends_by (traced_means tracing) status input output kept
    → (bytes : List ℕ) → IsFaultless input output bytes → length bytes ≤ INPUT_LIMIT → (wanted : Status) → ((text : List ℕ) → tracing_to tracing status bytes text → (status ≡ wanted) ⊎ (status ≡ NoMemory)) → (status ≡ wanted) ⊎ (status ≡ NoMemory)
ends_with tracing Done input output kept h bytes clean fits wanted each = each h.0 (of_told tracing Done input output bytes h.0 clean h.1.meaning.0)
ends_with tracing Refused input output kept h bytes clean fits wanted each = each h.0 (of_told tracing Refused input output bytes h.0 clean h.1.meaning.0)
ends_with tracing BadTrace input output kept h bytes clean fits wanted each = each h.0 (of_told tracing BadTrace input output bytes h.0 clean h.1.meaning.0)
ends_with tracing NotLawful input output kept h bytes clean fits wanted each = each h.0 (of_told tracing NotLawful input output bytes h.0 clean h.1.meaning.0)
ends_with tracing NoMemory input output kept h bytes clean fits wanted each = inr refl
ends_with tracing ReadFault input output kept h bytes clean fits wanted each = absurd (clean.read_well h.1.meaning.0.0)
ends_with tracing WriteFault input output kept h bytes clean fits wanted each = absurd (clean.written_well h.1.3.rose)
ends_with tracing TooLarge input output kept h bytes clean fits wanted each = absurd (not_large input bytes clean.told fits h.1.meaning.0.0)
ends_with tracing Usage input output kept h bytes clean fits wanted each = absurd h.1.meaning.0
ends_with tracing OutOfHeap input output kept h bytes clean fits wanted each = absurd h.1.meaning.0
ends_with tracing LongWord input output kept h bytes clean fits wanted each = absurd h.1.meaning.0

excess_ends : (tracing : Tracing) (status : Status) (input : Input) (output : Output) (kept : Keeping) → ends_by (traced_means tracing) status input output kept
    → (bytes : List ℕ) → IsFaultless input output bytes → INPUT_LIMIT < length bytes → (status ≡ TooLarge) ⊎ (status ≡ NoMemory)
excess_ends tracing Done input output kept h bytes clean many = absurd (too_many input bytes h.1.meaning.0.0 clean.told many h.1.meaning.0.1)
excess_ends tracing Refused input output kept h bytes clean many = absurd (too_many input bytes h.1.meaning.0.0 clean.told many h.1.meaning.0.1)
excess_ends tracing BadTrace input output kept h bytes clean many = absurd (too_many input bytes h.1.meaning.0.0 clean.told many h.1.meaning.0.1)
excess_ends tracing NotLawful input output kept h bytes clean many = absurd (too_many input bytes h.1.meaning.0.0 clean.told many h.1.meaning.0.1)
excess_ends tracing NoMemory input output kept h bytes clean many = inr refl
excess_ends tracing ReadFault input output kept h bytes clean many = absurd (clean.read_well h.1.meaning.0.0)
excess_ends tracing WriteFault input output kept h bytes clean many = absurd (clean.written_well h.1.3.rose)
excess_ends tracing TooLarge input output kept h bytes clean many = inl refl
excess_ends tracing Usage input output kept h bytes clean many = absurd h.1.meaning.0
excess_ends tracing OutOfHeap input output kept h bytes clean many = absurd h.1.meaning.0
excess_ends tracing LongWord input output kept h bytes clean many = absurd h.1.meaning.0

-- ---- what the bytes of a script come to

script_makes : Never → (status : Status) (bytes text : List ℕ) (script : ScriptContents) → IsScript bytes script → tracing_to Make status bytes text → (status ≡ Done) ⊎ (status ≡ NoMemory)
script_makes never Done bytes text script is told = inl refl
script_makes never Refused bytes text script is told = absurd (never bytes script told.bad is told.refused)
script_makes never NoMemory bytes text script is told = inr refl
script_makes never Usage bytes text script is told = absurd told
script_makes never ReadFault bytes text script is told = absurd told
script_makes never WriteFault bytes text script is told = absurd told
script_makes never TooLarge bytes text script is told = absurd told
script_makes never OutOfHeap bytes text script is told = absurd told
script_makes never LongWord bytes text script is told = absurd told
script_makes never BadTrace bytes text script is told = absurd told
script_makes never NotLawful bytes text script is told = absurd told

refusal_makes : Never → (status : Status) (bytes text : List ℕ) (bad : Bad) → IsBadLine bytes bad → tracing_to Make status bytes text → (status ≡ Refused) ⊎ (status ≡ NoMemory)
refusal_makes never Done bytes text bad is told = absurd (never bytes told.script bad told.read is)
refusal_makes never Refused bytes text bad is told = inl refl
refusal_makes never NoMemory bytes text bad is told = inr refl
refusal_makes never Usage bytes text bad is told = absurd told
refusal_makes never ReadFault bytes text bad is told = absurd told
refusal_makes never WriteFault bytes text bad is told = absurd told
refusal_makes never TooLarge bytes text bad is told = absurd told
refusal_makes never OutOfHeap bytes text bad is told = absurd told
refusal_makes never LongWord bytes text bad is told = absurd told
refusal_makes never BadTrace bytes text bad is told = absurd told
refusal_makes never NotLawful bytes text bad is told = absurd told

-- ---- what the bytes of a trace come to

-- no trace is both lawful and broken
abbrev pub Either : Type 0
Either = (ls : List (List ℕ)) (trace : Trace) (entry : ℕ) → IsTraceOf ls trace → IsLawfulTrace trace.script trace.entries → TraceBreaksAt trace.script trace.entries entry → ⊥

lawful_checks : Either → (status : Status) (bytes text : List ℕ) (trace : Trace) → IsTraceOf (lines bytes) trace → IsLawfulTrace trace.script trace.entries
    → tracing_to Check status bytes text → (status ≡ Done) ⊎ (status ≡ NoMemory)
lawful_checks either Done bytes text trace is lawful told = inl refl
lawful_checks either Refused bytes text trace is lawful told = absurd (trace_or_bad_script (lines bytes) trace told.bad is told.refused)
lawful_checks either BadTrace bytes text trace is lawful told = absurd (trace_or_bad_trace (lines bytes) trace told.line is told.refused)
lawful_checks either NotLawful bytes text trace is lawful told =
    let same : told.trace ≡ trace = one_trace (lines bytes) told.trace trace told.read is in
    absurd (either (lines bytes) trace told.entry is lawful (subst (λ (t : Trace). TraceBreaksAt t.script t.entries told.entry) same told.breaks))
lawful_checks either NoMemory bytes text trace is lawful told = inr refl
lawful_checks either Usage bytes text trace is lawful told = absurd told
lawful_checks either ReadFault bytes text trace is lawful told = absurd told
lawful_checks either WriteFault bytes text trace is lawful told = absurd told
lawful_checks either TooLarge bytes text trace is lawful told = absurd told
lawful_checks either OutOfHeap bytes text trace is lawful told = absurd told
lawful_checks either LongWord bytes text trace is lawful told = absurd told

break_checks : Either → (status : Status) (bytes text : List ℕ) (trace : Trace) (entry : ℕ) → IsTraceOf (lines bytes) trace → TraceBreaksAt trace.script trace.entries entry
    → tracing_to Check status bytes text → (status ≡ NotLawful) ⊎ (status ≡ NoMemory)
break_checks either Done bytes text trace entry is breaks told =
    let same : told.trace ≡ trace = one_trace (lines bytes) told.trace trace told.read is in
    absurd (either (lines bytes) trace entry is (subst (λ (t : Trace). IsLawfulTrace t.script t.entries) same told.lawful) breaks)
break_checks either Refused bytes text trace entry is breaks told = absurd (trace_or_bad_script (lines bytes) trace told.bad is told.refused)
break_checks either BadTrace bytes text trace entry is breaks told = absurd (trace_or_bad_trace (lines bytes) trace told.line is told.refused)
break_checks either NotLawful bytes text trace entry is breaks told = inl refl
break_checks either NoMemory bytes text trace entry is breaks told = inr refl
break_checks either Usage bytes text trace entry is breaks told = absurd told
break_checks either ReadFault bytes text trace entry is breaks told = absurd told
break_checks either WriteFault bytes text trace entry is breaks told = absurd told
break_checks either TooLarge bytes text trace entry is breaks told = absurd told
break_checks either OutOfHeap bytes text trace entry is breaks told = absurd told
break_checks either LongWord bytes text trace entry is breaks told = absurd told

bad_script_checks : (status : Status) (bytes text : List ℕ) (bad : Bad) → IsBadScript (lines bytes) bad → tracing_to Check status bytes text → (status ≡ Refused) ⊎ (status ≡ NoMemory)
bad_script_checks Done bytes text bad is told = absurd (trace_or_bad_script (lines bytes) told.trace bad told.read is)
bad_script_checks Refused bytes text bad is told = inl refl
bad_script_checks BadTrace bytes text bad is told = absurd (bad_script_or_trace (lines bytes) bad told.line is told.refused)
bad_script_checks NotLawful bytes text bad is told = absurd (trace_or_bad_script (lines bytes) told.trace bad told.read is)
bad_script_checks NoMemory bytes text bad is told = inr refl
bad_script_checks Usage bytes text bad is told = absurd told
bad_script_checks ReadFault bytes text bad is told = absurd told
bad_script_checks WriteFault bytes text bad is told = absurd told
bad_script_checks TooLarge bytes text bad is told = absurd told
bad_script_checks OutOfHeap bytes text bad is told = absurd told
bad_script_checks LongWord bytes text bad is told = absurd told

bad_trace_checks : (status : Status) (bytes text : List ℕ) (line : ℕ) → IsBadTrace (lines bytes) line → tracing_to Check status bytes text → (status ≡ BadTrace) ⊎ (status ≡ NoMemory)
bad_trace_checks Done bytes text line is told = absurd (trace_or_bad_trace (lines bytes) told.trace line told.read is)
bad_trace_checks Refused bytes text line is told = absurd (bad_script_or_trace (lines bytes) told.bad line told.refused is)
bad_trace_checks BadTrace bytes text line is told = inl refl
bad_trace_checks NotLawful bytes text line is told = absurd (trace_or_bad_trace (lines bytes) told.trace line told.read is)
bad_trace_checks NoMemory bytes text line is told = inr refl
bad_trace_checks Usage bytes text line is told = absurd told
bad_trace_checks ReadFault bytes text line is told = absurd told
bad_trace_checks WriteFault bytes text line is told = absurd told
bad_trace_checks TooLarge bytes text line is told = absurd told
bad_trace_checks OutOfHeap bytes text line is told = absurd told
bad_trace_checks LongWord bytes text line is told = absurd told

-- ---- what each status tells

answers_both : (tracing : Tracing) (status : Status) (input : Input) (output : Output) (kept : Keeping) → ends_by (traced_means tracing) status input output kept → KeepsNothing kept
    → AnswersTracing tracing (number_of status) input output kept
answers_both tracing status input output kept h nothing =
    let at : (other : Status) → number_of status ≡ number_of other → ends_by (traced_means tracing) other input output kept =
    λ other e. subst (λ (s : Status). ends_by (traced_means tracing) s input output kept) (of_number status other e) h in
    record {
      ending = (status, refl, h);
      read_fault = λ e. (let end = at ReadFault e in (end.1.meaning.0.0, same_text output end.0 [] end.1.meaning.0.1 end.1.all));
      write_fault = λ e. (at WriteFault e).1.3.rose;
      cut = λ e. (at WriteFault e).1;
      no_memory = λ e. (let end = at NoMemory e in same_text output end.0 [] end.1.meaning.0 end.1.all);
      too_large = λ e. (let end = at TooLarge e in (end.1.meaning.0.0, same_text output end.0 [] end.1.meaning.0.1 end.1.all));
      no_others = λ others. elim others [ inl e ↦ (at Usage e).1.meaning.0 | inr (inl e) ↦ (at OutOfHeap e).1.meaning.0 | inr (inr e) ↦ (at LongWord e).1.meaning.0 ];
      kept = nothing;
      every_excess = λ bytes clean many. one_of_two status TooLarge NoMemory (excess_ends tracing status input output kept h bytes clean many);
    }

trace_so : Never → (status : Status) (input : Input) (output : Output) (kept : Keeping) → ends_by (traced_means Make) status input output kept → KeepsNothing kept
    → AnswersTrace (number_of status) input output kept
trace_so never status input output kept h nothing =
    let at : (other : Status) → number_of status ≡ number_of other → ends_by (traced_means Make) other input output kept =
    λ other e. subst (λ (s : Status). ends_by (traced_means Make) s input output kept) (of_number status other e) h in
    record {
      both = answers_both Make status input output kept h nothing;
      traces = λ e. (let end = at Done e in (end.1.meaning.0.0, end.1.meaning.0.1, (end.0, end.1.meaning.0.2, end.1.all)));
      refused = λ e. (let end = at Refused e in (end.1.meaning.0.0, end.1.meaning.0.1, (end.0, end.1.meaning.0.2, end.1.all)));
      no_check = λ others. elim others [ inl e ↦ (at BadTrace e).1.meaning.0.2 | inr e ↦ (at NotLawful e).1.meaning.0.2 ];
      every_script = λ bytes script clean fits is. one_of_two status Done NoMemory (ends_with Make status input output kept h bytes clean fits Done (λ text told. script_makes never status bytes text script is told));
      every_refusal = λ bytes bad clean fits is. one_of_two status Refused NoMemory (ends_with Make status input output kept h bytes clean fits Refused (λ text told. refusal_makes never status bytes text bad is told));
    }

check_so : Either → (status : Status) (input : Input) (output : Output) (kept : Keeping) → ends_by (traced_means Check) status input output kept → KeepsNothing kept
    → AnswersCheck (number_of status) input output kept
check_so either status input output kept h nothing =
    let at : (other : Status) → number_of status ≡ number_of other → ends_by (traced_means Check) other input output kept =
    λ other e. subst (λ (s : Status). ends_by (traced_means Check) s input output kept) (of_number status other e) h in
    record {
      both = answers_both Check status input output kept h nothing;
      lawful = λ e. (let end = at Done e in (end.1.meaning.0.0, end.1.meaning.0.1, (end.0, end.1.meaning.0.2, end.1.all)));
      refused = λ e. (let end = at Refused e in (end.1.meaning.0.0, end.1.meaning.0.1, (end.0, end.1.meaning.0.2, end.1.all)));
      bad_trace = λ e. (let end = at BadTrace e in (end.1.meaning.0.0, end.1.meaning.0.1, (end.0, end.1.meaning.0.2, end.1.all)));
      not_lawful = λ e. (let end = at NotLawful e in (end.1.meaning.0.0, end.1.meaning.0.1, (end.0, end.1.meaning.0.2, end.1.all)));
      every_lawful = λ bytes trace clean fits is lawful. one_of_two status Done NoMemory (ends_with Check status input output kept h bytes clean fits Done (λ text told. lawful_checks either status bytes text trace is lawful told));
      every_break = λ bytes trace entry clean fits is breaks. one_of_two status NotLawful NoMemory (ends_with Check status input output kept h bytes clean fits NotLawful (λ text told. break_checks either status bytes text trace entry is breaks told));
      every_bad_script = λ bytes bad clean fits is. one_of_two status Refused NoMemory (ends_with Check status input output kept h bytes clean fits Refused (λ text told. bad_script_checks status bytes text bad is told));
      every_bad_trace = λ bytes line clean fits is. one_of_two status BadTrace NoMemory (ends_with Check status input output kept h bytes clean fits BadTrace (λ text told. bad_trace_checks status bytes text line is told));
    }

-- a run that keeps no heap, where the statuses mean this, ends with a status
abbrev pub EndsAlone : Tracing → Status → Input → Output → Type 0
EndsAlone tracing status input output = (kept : Keeping) → KeepsNothing kept → ends_by (traced_means tracing) status input output kept

pub answers_trace : Never → (tracing : Tracing) (status : Status) (input : Input) (output : Output) → EndsAlone tracing status input output
    → tracing ≡ Make → (kept : Keeping) → KeepsNothing kept → AnswersTrace (tag_of the_type status) input output kept
answers_trace never tracing status input output h is kept nothing =
    subst (λ (n : ℕ). AnswersTrace n input output kept) (number_is status) (trace_so never status input output kept (subst (λ (t : Tracing). ends_by (traced_means t) status input output kept) is (h kept nothing)) nothing)

pub answers_check : Either → (tracing : Tracing) (status : Status) (input : Input) (output : Output) → EndsAlone tracing status input output
    → tracing ≡ Check → (kept : Keeping) → KeepsNothing kept → AnswersCheck (tag_of the_type status) input output kept
answers_check either tracing status input output h is kept nothing =
    subst (λ (n : ℕ). AnswersCheck n input output kept) (number_is status) (check_so either status input output kept (subst (λ (t : Tracing). ends_by (traced_means t) status input output kept) is (h kept nothing)) nothing)

-- no text of a trace belongs to a write fault
pub no_fault : (tracing : Tracing) → HasNoFaultText (traced_means tracing)
no_fault tracing input text kept h = h.0
