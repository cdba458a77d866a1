-- What is printed of a trace reads as it was.
use Rattle.std.proofs.Common.{◌≡◌, ◌<◌, ◌≤◌, ◌+◌, ◌^◌, ℕ, zero, suc, List, [], ◌∷◌, ◌++◌, length, length-append, get_or, drop, take, refl, sym, subst, ap, ◌∙◌, inl, inr, arith}
use Rattle.std.specs.Prelude.{codes, decimal}
use Rattle.std.specs.Str.Parse.{AllDigits}
use Rattle.std.proofs.lemmas.Fmt.{decimal_nonempty, digits_decimal}
use Rattle.std.proofs.lemmas.List.{append_assoc, get_or_append_left}
use Rattle.std.proofs.lemmas.Str.Parse.{numerals_by_value, tells_digits}
use Rattle.std.proofs.Math.Seq.{drop-append-add, get_or-append_seam, take-append_seam}
use Rattle.object_layout.specs.declared.TheConstants.{MAX_THREADS}
use Rattle.script_text.specs.declared.scripts.Line.{Line}
use Rattle.script_text.specs.Commands.{command_words}
use Rattle.script_text.specs.ScriptContents.{ScriptContents}
use Rattle.script_text.specs.Printing.{script_text, spaced}
use Rattle.script_text.specs.Replies.{reply_text, reply_words}
use Rattle.script_text.specs.Scripts.{Holds, IsScript, IsScriptOf}
use Rattle.script_text.specs.Words.{lines, words}
use Rattle.script_text.proofs.Joined.{script_ends}
use Rattle.script_text.proofs.Replied.{are_reply, reply_some, spaced_reply}
use Rattle.script_text.proofs.Spelling.{AreWords, Inline, IsWord, after_spaces, decimal_word, inline_spaced, lines_more, not_comment, spaced_first, word_by, words_spaced}
use Rattle.trace_check.specs.declared.traces.Entry.{Entry}
use Rattle.trace_check.specs.declared.traces.Entry.TheVariants as entry
use Rattle.trace_check.specs.Reading.{AreEntries, HasNoMark, HasNumbers, HaveNumbers, HoldsEntries, IsEntry, IsEntryLine, IsMark, IsTraceOf, entry_words}
use Rattle.trace_check.specs.Texts.{entries_text, entry_line, mark_line, trace_text}
use Rattle.trace_check.specs.Traces.{AreOfThreads, IsOfThreads}

-- ---- no line of a script is a mark

held_no_mark : (threads number : ℕ) (ls : List (List ℕ)) (commands : List Line) → Holds threads number ls commands → HasNoMark ls
held_no_mark threads number [] commands holds i lt = absurd (omega (arith, lt))
held_no_mark threads number (line ∷ ls) commands (inl (silent, holds)) zero lt = λ mark. mark.loud silent
held_no_mark threads number (line ∷ ls) commands (inl (silent, holds)) (suc i) lt = held_no_mark threads (number + 1) ls commands holds i (omega (arith, lt))
held_no_mark threads number (line ∷ ls) commands (inr (thread, call, others, is, whole, holds)) zero lt = λ mark. (let both : command_words thread call ≡ codes "==" ∷ [] = sym is.spelled ∙ mark.spelled in cc both)
held_no_mark threads number (line ∷ ls) commands (inr (thread, call, others, is, whole, holds)) (suc i) lt = held_no_mark threads (number + 1) ls others holds i (omega (arith, lt))

pub script_no_mark : (ls : List (List ℕ)) (script : ScriptContents) → IsScriptOf ls script → HasNoMark ls
script_no_mark [] script is i lt = absurd is
script_no_mark (line ∷ ls) script is zero lt = λ mark. (let both = sym is.0.spelled ∙ mark.spelled in cc both)
script_no_mark (line ∷ ls) script is (suc i) lt = held_no_mark script.heap.threads 2 ls script.lines is.1 i (omega (arith, lt))

-- ---- lines of entries

spaced_more : (w : List ℕ) (ws : List (List ℕ)) → 0 < length ws → spaced (w ∷ ws) ≡ w ++ 32 ∷ spaced ws
spaced_more w [] some = absurd (omega (arith, some))
spaced_more w (v ∷ ws) some = refl

line_is : (told : Entry) → entry_line told ≡ spaced (entry_words told) ++ 10 ∷ []
line_is (entry.Said n r) =
    let parted : spaced (decimal n ∷ reply_words r) ≡ decimal n ++ 32 ∷ reply_text r = spaced_more (decimal n) (reply_words r) (reply_some r) ∙ ap (λ (text : List ℕ). decimal n ++ 32 ∷ text) (spaced_reply r) in
    ap (λ (text : List ℕ). text ++ 10 ∷ []) (append_assoc (decimal n) (32 ∷ []) (reply_text r) ∙ sym parted)
line_is (entry.Collected t) = refl

-- what an entry line is made of
pub record IsSpelled (told : Entry) : Type 0 where
  pub first : List ℕ
  pub rest : List (List ℕ)
  pub is : entry_words told ≡ first ∷ rest
  pub word : IsWord first
  pub others : AreWords rest
  pub loud : get_or (spaced (first ∷ rest)) 0 0 ≡ 35 → ⊥

spelled : (threads : ℕ) (told : Entry) → threads ≤ MAX_THREADS → IsEntry threads told → IsSpelled told
spelled threads (entry.Said n r) few is =
    let small : n < 2 ^ 64 = omega (arith, is.0) in
    record {
      first = decimal n;
      rest = reply_words r;
      is = refl;
      word = decimal_word n small;
      others = are_reply r is.1;
      loud = rw (spaced_first (decimal n) (reply_words r)) (not_comment (decimal n) (after_spaces (reply_words r)) (digits_decimal (numerals_by_value (AllDigits 10) tells_digits) n small) (decimal_nonempty n small));
    }
spelled threads (entry.Collected t) few is = record {
  first = codes "collected";
  rest = decimal t ∷ [];
  is = refl;
  word = word_by _ refl;
  others = (decimal_word t (omega (arith, is.1, few)), tt);
  loud = λ e. omega (arith, e);
}

entry_line_is : (threads : ℕ) (told : Entry) → threads ≤ MAX_THREADS → IsEntry threads told → IsEntryLine threads (spaced (entry_words told)) told
entry_line_is threads told few is =
    let s = spelled threads told few is in
    let reads : words (spaced (s.first ∷ s.rest)) ≡ s.first ∷ s.rest = words_spaced s.first s.rest s.word s.others in
    let same : spaced (entry_words told) ≡ spaced (s.first ∷ s.rest) = ap spaced s.is in
    let whole : words (spaced (entry_words told)) ≡ entry_words told = ap words same ∙ reads ∙ sym s.is in
    record {
      loud = λ silent. elim silent [
        | inl none ↦ (let e : s.first ∷ s.rest ≡ [] = sym s.is ∙ sym whole ∙ none in cc e)
        | inr comment ↦ s.loud (ap (λ (text : List ℕ). get_or text 0 0) (sym same) ∙ comment)
      ];
      spelled = whole;
      possible = is;
    }

lines_told : (threads : ℕ) (told : Entry) (more : List ℕ) → threads ≤ MAX_THREADS → IsEntry threads told → lines (entry_line told ++ more) ≡ spaced (entry_words told) ∷ lines more
lines_told threads told more few is =
    let s = spelled threads told few is in
    let cut : entry_line told ++ more ≡ spaced (entry_words told) ++ 10 ∷ more = rw (line_is told) (append_assoc (spaced (entry_words told)) (10 ∷ []) more) in
    let inline : Inline (spaced (entry_words told)) = subst (λ (ws : List (List ℕ)). Inline (spaced ws)) (sym s.is) (inline_spaced s.first s.rest s.word s.others) in
    ap lines cut ∙ lines_more (spaced (entry_words told)) more inline

no_lines : lines [] ≡ []
unfolding lines
no_lines = refl

entries_held : (threads : ℕ) (entries : List Entry) → threads ≤ MAX_THREADS → AreEntries threads entries → HoldsEntries threads (lines (entries_text entries)) entries
entries_held threads [] few are = rw no_lines refl
entries_held threads (told ∷ entries) few are =
    rw (lines_told threads told (entries_text entries) few are.0) (inr (told, entries, entry_line_is threads told few are.0, refl, entries_held threads entries few are.1))

is_entry : (threads : ℕ) (told : Entry) → HasNumbers told → IsOfThreads threads told → IsEntry threads told
is_entry threads (entry.Said n r) has of = has
is_entry threads (entry.Collected t) has of = of

pub are_entries : (threads : ℕ) (entries : List Entry) → HaveNumbers entries → AreOfThreads threads entries → AreEntries threads entries
are_entries threads [] have of = tt
are_entries threads (told ∷ entries) have of = (is_entry threads told have.0 of.0, are_entries threads entries have.1 of.1)

-- ---- the whole text

mark : List ℕ
mark = codes "=="

is_mark : IsMark mark
unfolding mark
is_mark =
    let reads : words (codes "==") ≡ codes "==" ∷ [] = words_spaced (codes "==") [] (word_by _ refl) tt in
    record {
      loud = λ silent. elim silent [ inl none ↦ (let e : codes "==" ∷ [] ≡ [] = sym reads ∙ none in cc e) | inr comment ↦ omega (arith, comment) ];
      spelled = reads;
    }

lines_marked : (more : List ℕ) → lines (mark_line ++ more) ≡ mark ∷ lines more
unfolding mark
lines_marked more = lines_more (codes "==") more (omega arith, (omega arith, tt))

text_lines : (script : ScriptContents) (entries : List Entry) → lines (trace_text script entries) ≡ lines (script_text script) ++ mark ∷ lines (entries_text entries)
text_lines script entries =
    ap lines (append_assoc (script_text script) mark_line (entries_text entries)) ∙ (script_ends script).parted (mark_line ++ entries_text entries)
    ∙ ap (λ (ls : List (List ℕ)). lines (script_text script) ++ ls) (lines_marked (entries_text entries))

few_threads : (ls : List (List ℕ)) (script : ScriptContents) → IsScriptOf ls script → script.heap.threads ≤ MAX_THREADS
few_threads [] script is = absurd is
few_threads (line ∷ ls) script is = is.0.possible.few_threads

parted : (front more : List (List ℕ)) (script : ScriptContents) (entries : List Entry) → IsScriptOf front script → HoldsEntries script.heap.threads more entries
    → IsTraceOf (front ++ mark ∷ more) (record { script = script; entries = entries })
parted front more script entries is holds =
    let all = front ++ mark ∷ more in
    let at : get_or all (length front) [] ≡ mark = get_or-append_seam front mark more [] in
    let taken : take (length front) all ≡ front = take-append_seam front (mark ∷ more) in
    let left : drop (length front + 1) all ≡ more = drop-append-add front (mark ∷ more) 1 in (
      length front,
      record {
        within = omega (arith, length-append front (mark ∷ more));
        mark = subst IsMark (sym at) is_mark;
        first = λ i lt. subst (λ (line : List ℕ). IsMark line → ⊥) (sym (get_or_append_left front (mark ∷ more) [] i lt)) (script_no_mark front script is i lt);
      },
      subst (λ (ls : List (List ℕ)). IsScriptOf ls script) (sym taken) is,
      subst (λ (ls : List (List ℕ)). HoldsEntries script.heap.threads ls entries) (sym left) holds,
    )

pub reads_back : (script : ScriptContents) (entries : List Entry) → IsScript (script_text script) script → AreEntries script.heap.threads entries
    → IsTraceOf (lines (trace_text script entries)) (record { script = script; entries = entries })
reads_back script entries is are =
    rw (text_lines script entries) (parted (lines (script_text script)) (lines (entries_text entries)) script entries is (entries_held script.heap.threads entries (few_threads (lines (script_text script)) script is) are))
