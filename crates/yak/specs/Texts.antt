-- What is written of replies.
use Rattle.std.specs.Prelude.{ℕ, ◌-◌, List, [], ◌∷◌, ◌++◌, length, codes, decimal, slice_index_or}
use Rattle.std.specs.List.{sum_by}
use Rattle.object_layout.specs.declared.replies.Reply.{Reply}
use Rattle.object_layout.specs.declared.replies.Reply.TheVariants.{Ok, Ended}
use Rattle.script_text.specs.declared.scripts.Line.{Line}
use Rattle.script_text.specs.Replies.{reply_line, reply_text}

-- for each command line its number, a space, the text of its reply and a line feed
abbrev pub replies_text : List Line → List Reply → List ℕ
replies_text [] replies = []
replies_text (line ∷ lines) [] = []
replies_text (line ∷ lines) (reply ∷ replies) = reply_line line.number reply ++ replies_text lines replies

-- how many objects moved, where the reply is that to the end of an epoch
abbrev pub moved_in : Reply → ℕ
moved_in (Ended moved tight) = moved
moved_in _ = 0

-- the last reply
abbrev pub last_of : List Reply → Reply
last_of replies = slice_index_or replies (length replies - 1) Ok

-- the number of calls, how many objects all ends moved, and the last reply
abbrev pub summary : List Line → List Reply → List ℕ
summary lines replies =
    codes "calls " ++ decimal (length lines) ++ codes "\nmoved " ++ decimal (sum_by moved_in replies) ++ codes "\n"
    ++ reply_text (last_of replies) ++ codes "\n"
