-- Traces that grow by the entries of a line.
use Rattle.std.proofs.Common.{◌≡◌, ℕ, ◌+◌, ◌<◌, ◌≤◌, Bool, true, false, List, [], ◌∷◌, ◌++◌, Result, Ok, Err, OnOk, length, map, take, refl, sym, ap, subst, ◌∙◌, arith, append_assoc}
use Rattle.std.proofs.lemmas.List.{take_all, take_more}
use Rattle.epoch_lattice.specs.declared.Space.TheVariants.{Control}
use Rattle.object_layout.specs.declared.calls.Call.TheVariants.{Collect}
use Rattle.object_layout.specs.declared.replies.Reply.{Reply}
use Rattle.object_layout.specs.declared.replies.Reply.TheVariants as reply
use Rattle.heap_words.specs.declared.map.Areas.{Areas}
use Rattle.heap_words.specs.Contents.{contents}
use Rattle.yak_model.specs.Continued.{AreLawful, PackedIfAsked}
use Rattle.yak_model.specs.Recorded.{StandsRecorded}
use Rattle.yak_model.proofs.Lawful.{EachLawful, lawful_more, lawful_none}
use Rattle.script_text.specs.declared.scripts.Line.{Line}
use Rattle.script_text.specs.ScriptContents.{ScriptContents}
use Rattle.script_text.specs.Printing.{IsValid}
use Rattle.yak_model.specs.Agreement.{MachinesAgree}
use Rattle.yak_model.specs.Graph.{standard_limits}
use Rattle.yak_model.specs.declared.history.Entry as history
use Rattle.yak_model.specs.declared.history.Entry.TheVariants as happened
use Rattle.yak_model.specs.Lawful.{EndsAsked}
use Rattle.yak_model.specs.Packed.{IsPacked}
use Rattle.yak_model.specs.Recorded.{Recorded}
use Rattle.yak_model.specs.Spaces.{SpaceState, opening_spaces, spaces}
use Rattle.yak_model.specs.Stands.{Stands}
use Rattle.yak_model.specs.Unique.{StatesAreUnique}
use Rattle.yak_model.proofs.Turned.{turns_more}
use Rattle.trace_check.specs.declared.traces.Entry.{Entry}
use Rattle.trace_check.specs.Traces.{AreOfThreads, all_named, history_of, lines_at, own}
use Rattle.trace_check.specs.Breaks.{EachTells, IsLawfulTrace, Leaves}
use Rattle.trace_check.specs.Cursors.{line_at, no_line}
use Rattle.trace_check.specs.Making.{Held, TracesLine, held_of, step_entries, step_history}
use Rattle.trace_check.proofs.Ends.{last_is}
use Rattle.trace_check.proofs.Histories.{none_first}
use Rattle.trace_check.proofs.Naming.{at_number, history_append, named_append, rises_at}

pub on_ok : {T E : Type 0} (P Q : Type 0) (r : Result T E) → (P → Q) → OnOk r P → OnOk r Q
on_ok P Q (Ok x) f p = f p
on_ok P Q (Err e) f p = tt

-- ---- the end of a step

last_of_step : (line : Line) (b : Bool) (said : Reply) (before : List history.Entry) → (former : List history.Entry) × (before ++ step_history line b said ≡ former ++ happened.Said line.thread line.call said ∷ [])
last_of_step line true said before = (before ++ happened.Collected line.thread ∷ [], sym (append_assoc before (happened.Collected line.thread ∷ []) (happened.Said line.thread line.call said ∷ [])))
last_of_step line false said before = (before, refl)

asked_last : (line : Line) (b : Bool) (said : Reply) (before : List history.Entry) → EndsAsked (before ++ step_history line b said) → line.call ≡ Collect
asked_last line b said before asked =
    let last = last_of_step line b said before in
    let same : happened.Said line.thread line.call said ≡ happened.Said asked.1 Collect reply.Ok = last_is last.0 asked.0 _ _ (sym last.1 ∙ asked.2) in
    cc same

-- Control is packed after a step if a collection that was asked for was last
pub packed_after : (line : Line) (b : Bool) (said : Reply) (next : Held)
    → (line.call ≡ Collect → (s : SpaceState) (h : Stands next.map (contents next.map next.words) s) → IsPacked next.map (contents next.map next.words) s h Control)
    → (before : List history.Entry) (s : SpaceState) (h : Stands next.map (contents next.map next.words) s) → PackedIfAsked next.map (contents next.map next.words) s h (before ++ step_history line b said)
packed_after line b said next packed before s h asked = packed (asked_last line b said before asked) s h

-- ---- what a step's entries tell

module _ (lines : List Line) (line : Line) (at : lines_at lines line.number ≡ line ∷ []) (said : Reply) where
  abbrev call_of : Line → history.Entry
  call_of l = happened.Said l.thread l.call said

  told_step : (b : Bool) → history_of lines (step_entries line b said) ≡ step_history line b said
  told_step true = ap (λ (l : List Line). happened.Collected line.thread ∷ (map call_of l ++ [])) at
  told_step false = ap (λ (l : List Line). map call_of l ++ []) at

  named_step : (b : Bool) → all_named lines (step_entries line b said) ≡ line ∷ []
  named_step true = ap (λ (l : List Line). l ++ []) at
  named_step false = ap (λ (l : List Line). l ++ []) at

  each_step : (b : Bool) → EachTells lines (step_entries line b said)
  each_step true = ((happened.Collected line.thread, refl), ((call_of line, ap (map call_of) at), tt))
  each_step false = ((call_of line, ap (map call_of) at), tt)

each_append : (lines : List Line) (a b : List Entry) → EachTells lines a → EachTells lines b → EachTells lines (a ++ b)
each_append lines [] b one other = other
each_append lines (e ∷ a) b one other = (one.0, each_append lines a b one.1 other)

threads_append : (threads : ℕ) (a b : List Entry) → AreOfThreads threads a → AreOfThreads threads b → AreOfThreads threads (a ++ b)
threads_append threads [] b one other = other
threads_append threads (e ∷ a) b one other = (one.0, threads_append threads a b one.1 other)

threads_step : (threads : ℕ) (line : Line) (said : Reply) (b : Bool) → 1 ≤ line.thread → line.thread ≤ threads → AreOfThreads threads (step_entries line b said)
threads_step threads line said true some few = ((some, few), (tt, tt))
threads_step threads line said false some few = (tt, tt)

-- ---- lines

-- so many lines have run and were told, and Control is packed if a collection that was asked for was last
pub record HasTraced (script : ScriptContents) (done : ℕ) (entries : List Entry) (held : Held) : Type 0 where
  pub each : EachTells script.lines entries
  pub named : all_named script.lines entries ≡ take done script.lines
  pub of_threads : AreOfThreads script.heap.threads entries
  pub state : SpaceState
  pub leaves : Leaves script entries state
  pub lawful : EachLawful script.heap.pages (opening_spaces standard_limits script.heap.threads) (history_of script.lines entries)
  pub pages : held.map.pages ≡ script.heap.pages
  pub threads : held.map.threads ≡ script.heap.threads
  pub stands : Stands held.map (contents held.map held.words) state
  pub recorded : Recorded held.map (contents held.map held.words) state stands
  pub packed : PackedIfAsked held.map (contents held.map held.words) state stands (history_of script.lines entries)

pub traced_none : (script : ScriptContents) (map : Areas) (words : List ℕ) → map.pages ≡ script.heap.pages → map.threads ≡ script.heap.threads
    → StandsRecorded map (contents map words) (opening_spaces standard_limits script.heap.threads) → HasTraced script 0 [] (held_of map words)
traced_none script map words pages threads stands = record {
  each = tt;
  named = refl;
  of_threads = tt;
  state = opening_spaces standard_limits script.heap.threads;
  leaves = refl;
  lawful = lawful_none script.heap.pages (opening_spaces standard_limits script.heap.threads);
  pages = pages;
  threads = threads;
  stands = stands.0;
  recorded = stands.1;
  packed = λ asked. absurd (none_first asked.0 _ [] asked.2);
}

pub traced_more : StatesAreUnique → (script : ScriptContents) → IsValid script → (i : ℕ) (line : Line) (before after : List Entry) (heap next : Held) → i < length script.lines → line ≡ line_at script.lines i → next.map ≡ heap.map
    → HasTraced script i before heap → TracesLine line heap next before after → HasTraced script (i + 1) after next
traced_more unique script valid i line before after heap next lt is same so_far traces =
    let lines = script.lines in
    let start = opening_spaces standard_limits script.heap.threads in
    let b = traces.collected in
    let said = traces.reply in
    let at : lines_at lines line.number ≡ line ∷ [] =
    subst (λ (l : Line). lines_at lines l.number ≡ l ∷ []) (sym is) (at_number script.heap.threads 2 lines i valid.rise lt) in
    let of = rises_at script.heap.threads 2 lines i valid.rise lt in
    let thread : line.thread ≡ (line_at lines i).thread = ap (λ (l : Line). l.thread) is in
    let turned = traces.turns so_far.state so_far.stands so_far.recorded in
    let told : history_of lines after ≡ history_of lines before ++ step_history line b said =
    ap (history_of lines) traces.told ∙ history_append lines before (step_entries line b said) ∙ ap (λ (l : List history.Entry). history_of lines before ++ l) (told_step lines line at said b) in
    let leaves : spaces standard_limits script.heap.threads (history_of lines before ++ step_history line b said) turned.0 =
    turns_more start so_far.state turned.0 (history_of lines before) (step_history line b said) so_far.leaves turned.1 in
    let lawful : AreLawful script.heap.pages (history_of lines before) so_far.state (step_history line b said) =
    subst (λ (pages : ℕ). AreLawful pages (history_of lines before) so_far.state (step_history line b said)) so_far.pages
    (traces.lawful so_far.state so_far.stands so_far.recorded (history_of lines before) so_far.packed) in
    let all : all_named lines after ≡ take (i + 1) lines =
    ap (all_named lines) traces.told ∙ named_append lines before (step_entries line b said)
    ∙ (λ j. so_far.named j ++ named_step lines line at said b j)
    ∙ ap (λ (l : Line). take i lines ++ l ∷ []) is ∙ sym (take_more lines i no_line lt) in
    record {
      each = subst (EachTells lines) (sym traces.told) (each_append lines before (step_entries line b said) so_far.each (each_step lines line at said b));
      named = all;
      of_threads = subst (AreOfThreads script.heap.threads) (sym traces.told)
          (threads_append script.heap.threads before (step_entries line b said) so_far.of_threads (threads_step script.heap.threads line said b (omega (arith, thread, of.some)) (omega (arith, thread, of.few))));
      state = turned.0;
      leaves = subst (λ (l : List history.Entry). spaces standard_limits script.heap.threads l turned.0) (sym told) leaves;
      lawful = subst (EachLawful script.heap.pages start) (sym told)
          (lawful_more unique script.heap.pages start so_far.state (history_of lines before) (step_history line b said) so_far.leaves so_far.lawful lawful);
      pages = ap (λ (m : Areas). m.pages) same ∙ so_far.pages;
      threads = ap (λ (m : Areas). m.threads) same ∙ so_far.threads;
      stands = turned.2;
      recorded = turned.3;
      packed = subst (PackedIfAsked next.map (contents next.map next.words) turned.0 turned.2) (sym told) (traces.packed (history_of lines before) turned.0 turned.2);
    }

-- all lines have run
pub traced_all : MachinesAgree → (script : ScriptContents) (i : ℕ) (entries : List Entry) (held : Held) → length script.lines ≤ i → HasTraced script i entries held
    → (all_named script.lines entries ≡ script.lines) × IsLawfulTrace script entries
traced_all agree script i entries held le traced =
    let all : all_named script.lines entries ≡ script.lines = traced.named ∙ take_all i script.lines le in
    let agreed = agree standard_limits script.heap.threads (history_of script.lines entries) traced.state traced.leaves in (
      all,
      record {
        each = traced.each;
        order = λ t some few. ap (own t) all;
        lawful = record { legal = (agreed.0, agreed.1); defined = (traced.state, traced.leaves); entries = traced.lawful };
      },
    )
