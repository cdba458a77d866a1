-- The text of traces: a script, a line `==`, and a line for each entry.
use Rattle.std.specs.Prelude.{ℕ, List, [], ◌∷◌, ◌++◌, codes, decimal}
use Rattle.script_text.specs.ScriptContents.{ScriptContents}
use Rattle.script_text.specs.Printing.{script_text}
use Rattle.script_text.specs.Replies.{reply_line}
use Rattle.trace_check.specs.declared.traces.Entry.{Entry}
use Rattle.trace_check.specs.declared.traces.Entry.TheVariants as entry

-- the line that parts a script from its trace
abbrev pub mark_line : List ℕ
mark_line = codes "==\n"

-- the line of a collection
abbrev pub collected_line : ℕ → List ℕ
collected_line thread = codes "collected " ++ decimal thread ++ codes "\n"

-- the line of an entry
abbrev pub entry_line : Entry → List ℕ
entry_line (entry.Said number reply) = reply_line number reply
entry_line (entry.Collected thread) = collected_line thread

-- the lines of entries
abbrev pub entries_text : List Entry → List ℕ
entries_text [] = []
entries_text (first ∷ rest) = entry_line first ++ entries_text rest

-- the text of a trace
abbrev pub trace_text : ScriptContents → List Entry → List ℕ
trace_text script entries = script_text script ++ mark_line ++ entries_text entries
