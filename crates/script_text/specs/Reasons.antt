-- The text of a refusal.
use Rattle.std.specs.Prelude.{ℕ, List, ◌++◌, codes, decimal}
use Rattle.script_text.specs.declared.faults.Reason.{Reason}
use Rattle.script_text.specs.declared.faults.Reason.TheVariants.{BadHeader, BadThread, BadCommand, BadNumber, ExtraWord, MissingWord}
use Rattle.script_text.specs.declared.faults.Bad.{Bad}

-- how a reason is printed
abbrev pub reason_text : Reason → List ℕ
reason_text BadHeader = codes "bad header"
reason_text BadThread = codes "bad thread"
reason_text BadCommand = codes "bad command"
reason_text BadNumber = codes "bad number"
reason_text ExtraWord = codes "extra word"
reason_text MissingWord = codes "missing word"

-- how a refusal is printed: its line and its reason
abbrev pub bad_text : Bad → List ℕ
bad_text bad = codes "line " ++ decimal bad.line ++ codes ": " ++ reason_text bad.reason
