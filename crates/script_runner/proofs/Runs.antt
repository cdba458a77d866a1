-- Runs that grow by a line.
use Rattle.std.proofs.Common.{◌≡◌, ◌+◌, ◌≤◌, ◌<◌, ℕ, List, [], ◌∷◌, ◌++◌, true, false, get_or, length, refl, sym, ap, subst, ◌∙◌, arith, append_assoc}
use Rattle.std.proofs.lemmas.List.Elements.{All-cons, All-get_or, All-nil, filter-append}
use Rattle.std.specs.Prelude.{All}
use Rattle.epoch_lattice.specs.declared.Space.TheVariants.{Control}
use Rattle.object_layout.specs.declared.calls.Call.{Call}
use Rattle.object_layout.specs.declared.calls.Call.TheVariants.{Collect}
use Rattle.object_layout.specs.declared.replies.Reply.{Reply}
use Rattle.object_layout.specs.declared.replies.Reply.TheVariants.{Ok}
use Rattle.object_layout.specs.Calls.{IsCall}
use Rattle.heap_words.specs.declared.map.Areas.{Areas}
use Rattle.heap_words.specs.Contents.{contents}
use Rattle.heap_core.specs.declared.owned.Stepped.{Stepped}
use Rattle.yak_model.specs.Continued.{AreLawful, PackedIfAsked}
use Rattle.yak_model.specs.Recorded.{StandsRecorded}
use Rattle.heap_core.specs.Steps.{entries}
use Rattle.script_text.specs.declared.scripts.Line.{Line}
use Rattle.script_text.specs.ScriptContents.{ScriptContents, Heap}
use Rattle.script_text.specs.Printing.{IsValid, Rises}
use Rattle.yak_model.specs.Agreement.{MachinesAgree}
use Rattle.yak_model.specs.Graph.{standard_limits}
use Rattle.yak_model.specs.declared.history.Entry.{Entry}
use Rattle.yak_model.specs.declared.history.Entry.TheVariants.{Said, Collected}
use Rattle.yak_model.specs.Lawful.{EndsAsked}
use Rattle.yak_model.specs.Packed.{IsPacked}
use Rattle.yak_model.specs.Spaces.{SpaceState, spaces, opening_spaces}
use Rattle.yak_model.specs.Stands.{Stands}
use Rattle.yak_model.specs.Unique.{StatesAreUnique}
use Rattle.script_runner.specs.Runs.{Held, IsRun, RunsLine, all_said, calls_of, held_of, is_call, said}
use Rattle.yak_model.proofs.Lawful.{lawful_more, lawful_none}
use Rattle.yak_model.proofs.Turned.{turns_more}

-- ---- one line

-- the calls of a step's entries
calls_of_step : (thread : ℕ) (call : Call) (stepped : Stepped) → calls_of (entries thread call stepped) ≡ Said thread call stepped.reply ∷ []
calls_of_step thread call stepped =
    elim (stepped.collected) as (λ b. calls_of (entries thread call (record stepped { collected = b })) ≡ Said thread call stepped.reply ∷ []) [ true ↦ refl | false ↦ refl ]

-- the last of a list and one more
last_more : (one two : List Entry) (a b : Entry) → one ++ a ∷ [] ≡ two ++ b ∷ [] → a ≡ b
last_more [] [] a b e = cc e
last_more [] (y ∷ []) a b e = absurd (cc e)
last_more [] (y ∷ z ∷ two) a b e = absurd (cc e)
last_more (x ∷ []) [] a b e = absurd (cc e)
last_more (x ∷ z ∷ one) [] a b e = absurd (cc e)
last_more (x ∷ one) (y ∷ two) a b e = let tails : one ++ a ∷ [] ≡ two ++ b ∷ [] = cc e in last_more one two a b tails

-- the entries of a step end with its call
last_of_step : (thread : ℕ) (call : Call) (stepped : Stepped) (before : List Entry) → (former : List Entry) × (before ++ entries thread call stepped ≡ former ++ Said thread call stepped.reply ∷ [])
last_of_step thread call stepped before =
    elim (stepped.collected) as (λ b. (former : List Entry) × (before ++ entries thread call (record stepped { collected = b }) ≡ former ++ Said thread call stepped.reply ∷ [])) [
      | true ↦ (before ++ Collected thread ∷ [], sym (append_assoc before (Collected thread ∷ []) (Said thread call stepped.reply ∷ [])))
      | false ↦ (before, refl)
    ]

asked_last : (thread : ℕ) (call : Call) (stepped : Stepped) (before : List Entry) → EndsAsked (before ++ entries thread call stepped) → call ≡ Collect
asked_last thread call stepped before asked =
    let last = last_of_step thread call stepped before in
    let same : Said thread call stepped.reply ≡ Said asked.1 Collect Ok = last_more last.0 asked.0 _ _ (sym last.1 ∙ asked.2) in
    cc same

-- Control is packed after a step if a collection that was asked for was last
pub packed_after : (thread : ℕ) (call : Call) (stepped : Stepped) (next : Held)
    → (call ≡ Collect → (s : SpaceState) (h : Stands next.map (contents next.map next.words) s) → IsPacked next.map (contents next.map next.words) s h Control)
    → (before : List Entry) (s : SpaceState) (h : Stands next.map (contents next.map next.words) s) → PackedIfAsked next.map (contents next.map next.words) s h (before ++ entries thread call stepped)
packed_after thread call stepped next packed before s h asked = packed (asked_last thread call stepped before asked) s h

pub calls_of_line : (line : Line) (stepped : Stepped) → calls_of (entries line.thread line.call stepped) ≡ said line stepped.reply ∷ []
calls_of_line line stepped = calls_of_step line.thread line.call stepped

-- ---- lines

-- so far the lines have run, and Control is packed if a collection that was asked for was last
pub record HasRun (size : Heap) (lines : List Line) (replies : List Reply) (held : Held) : Type 0 where
  pub run : IsRun size lines replies held
  pub packed : PackedIfAsked held.map (contents held.map held.words) run.state run.heap.stands run.history

none_asked : (former : List Entry) (entry : Entry) → [] ≡ former ++ entry ∷ [] → ⊥
none_asked [] entry e = cc e
none_asked (x ∷ former) entry e = cc e

-- before the first line
pub run_opened : MachinesAgree → (size : Heap) (map : Areas) (words : List ℕ) → map.pages ≡ size.pages → map.threads ≡ size.threads
    → StandsRecorded map (contents map words) (opening_spaces standard_limits size.threads) → HasRun size [] [] (held_of map words)
run_opened agree size map words pages threads stands =
    let start = opening_spaces standard_limits size.threads in
    let agreed = agree standard_limits size.threads [] start refl in
    record {
      run = record {
        each = refl;
        history = [];
        state = start;
        told = refl;
        lawful = record { legal = (agreed.0, agreed.1); defined = (start, refl); entries = lawful_none size.pages start };
        leaves = refl;
        heap = record { pages = pages; threads = threads; stands = stands.0; recorded = stands.1 };
      };
      packed = λ asked. absurd (none_asked asked.0 _ asked.2);
    }

pub said_more : (lines : List Line) (replies : List Reply) (line : Line) (reply : Reply) → length replies ≡ length lines → all_said (lines ++ line ∷ []) (replies ++ reply ∷ []) ≡ all_said lines replies ++ said line reply ∷ []
said_more [] [] line reply each = refl
said_more [] (r ∷ replies) line reply each = absurd (omega (arith, each))
said_more (l ∷ lines) [] line reply each = absurd (omega (arith, each))
said_more (l ∷ lines) (r ∷ replies) line reply each = ap (λ (x : List Entry). said l r ∷ x) (said_more lines replies line reply (omega (arith, each)))

one_more : {A : Type 0} (xs : List A) (x : A) → length (xs ++ x ∷ []) ≡ length xs + 1
one_more [] x = refl
one_more (y ∷ xs) x = rw (one_more xs x) (omega arith)

-- after one more line
pub run_more : MachinesAgree → StatesAreUnique → (size : Heap) (lines : List Line) (replies : List Reply) (reply : Reply) (heap next : Held) (line : Line) → next.map ≡ heap.map
    → HasRun size lines replies heap → RunsLine line reply heap next → HasRun size (lines ++ line ∷ []) (replies ++ reply ∷ []) next
run_more agree unique size lines replies reply heap next line same so_far ran =
    let run = so_far.run in
    let start = opening_spaces standard_limits size.threads in
    let turned = ran.turns run.state run.heap.stands run.heap.recorded in
    let leaves : spaces standard_limits size.threads (run.history ++ ran.entries) turned.0 =
    turns_more start run.state turned.0 run.history ran.entries run.leaves turned.1 in
    let agreed = agree standard_limits size.threads (run.history ++ ran.entries) turned.0 leaves in
    let lawful : AreLawful size.pages run.history run.state ran.entries =
    subst (λ (pages : ℕ). AreLawful pages run.history run.state ran.entries) run.heap.pages
    (ran.lawful run.state run.heap.stands run.heap.recorded run.history so_far.packed) in
    record {
      run = record {
        each = one_more replies reply ∙ ap (λ (n : ℕ). n + 1) run.each ∙ sym (one_more lines line);
        history = run.history ++ ran.entries;
        state = turned.0;
        told = filter-append is_call run.history ran.entries ∙ rw (run.told, ran.told) (sym (said_more lines replies line reply run.each));
        lawful = record {
          legal = (agreed.0, agreed.1);
          defined = (turned.0, leaves);
          entries = lawful_more unique size.pages start run.state run.history ran.entries run.leaves run.lawful.entries lawful;
        };
        leaves = leaves;
        heap = record {
          pages = ap (λ (m : Areas). m.pages) same ∙ run.heap.pages;
          threads = ap (λ (m : Areas). m.threads) same ∙ run.heap.threads;
          stands = turned.2;
          recorded = turned.3;
        };
      };
      packed = ran.packed run.history turned.0 turned.2;
    }

-- ---- commands that can be run

-- a command that a heap of so many threads can run
pub record IsRunnable (threads : ℕ) (line : Line) : Type 0 where
  pub some : 1 ≤ line.thread
  pub few : line.thread ≤ threads
  pub number : IsCall line.call

-- the commands of a script that can be written can be run
pub runnable : (threads number : ℕ) (commands : List Line) → Rises threads number commands → All (IsRunnable threads) commands
runnable threads number [] rises = All-nil (IsRunnable threads)
runnable threads number (line ∷ commands) rises =
    All-cons (IsRunnable threads) line commands
    (record { some = rises.1; few = rises.2; number = rises.3 })
    (runnable threads (line.number + 1) commands rises.4)

-- one of its commands
pub runs_at : (script : ScriptContents) (items : List Line) (i : ℕ) (d : Line) → items ≡ script.lines → i < length items → IsValid script → IsRunnable script.heap.threads (get_or items i d)
runs_at script items i d same inside valid =
    All-get_or (IsRunnable script.heap.threads) items i d inside
    (subst (All (IsRunnable script.heap.threads)) (sym same) (runnable script.heap.threads 2 script.lines valid.rise))
