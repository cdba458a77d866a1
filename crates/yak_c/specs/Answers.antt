-- What a call on a heap in memory does and says.
use Rattle.std.specs.Prelude.{◌≡◌, ◌⊎◌, ℕ, Bool, cond, List, Result, Ok, Err}
use Rattle.object_layout.specs.declared.calls.Call.{Call}
use Rattle.object_layout.specs.declared.replies.Refusal.{Refusal}
use Rattle.object_layout.specs.declared.replies.Refusal.TheVariants as refusal
use Rattle.object_layout.specs.declared.replies.Reply.{Reply}
use Rattle.object_layout.specs.declared.replies.Reply.TheVariants as reply
use Rattle.object_layout.specs.Calls.{IsCall}
use Rattle.heap_words.specs.Map.{HasThread}
use Rattle.heap_core.specs.declared.owned.Stepped.{Stepped}
use Rattle.heap_core.specs.Done.{Done}
use Rattle.yak_c.specs.declared.answers.Fault.{Fault}
use Rattle.yak_c.specs.declared.answers.Fault.TheVariants as fault
use Rattle.yak_c.specs.declared.Ended.{Ended}
use Rattle.yak_c.specs.declared.Pages.{Pages}
use Rattle.yak_c.specs.declared.Value.{Value}
use Rattle.yak_c.specs.declared.TheConstants as codes
use Rattle.yak_c.specs.Memory.{HasShape, IsHeap, IsLength, IsOpened, contents_in, map_in}

-- ---- what a call does

-- Why no call was made.
abbrev pub IsFault : List ℕ → ℕ → Call → Fault → Type 0
IsFault memory t asked fault.NoHeap = ¬ HasShape memory
IsFault memory t asked fault.NoThread = HasShape memory × ¬ HasThread (map_in memory) t
IsFault memory t asked fault.BadNumber = ¬ IsCall asked

-- The call was made as a step of the thread, and the memory is a heap of the same numbers again.
pub record Makes (memory after : List ℕ) (t : ℕ) (asked : Call) (stepped : Stepped) : Type 0 where
  pub shape : HasShape memory
  pub thread : HasThread (map_in memory) t
  pub number : IsCall asked
  pub heap : IsHeap after
  pub same : map_in after ≡ map_in memory
  pub done : Done (map_in memory) (contents_in memory) (contents_in after) t asked stepped

-- The call was made, or it was not and nothing has changed.
abbrev pub Answers : List ℕ → List ℕ → ℕ → Call → Result Stepped Fault → Type 0
Answers memory after t asked (Ok stepped) = Makes memory after t asked stepped
Answers memory after t asked (Err why) = (after ≡ memory) × IsFault memory t asked why

-- The call has some answer, of which this holds.
abbrev pub Says : List ℕ → List ℕ → ℕ → Call → (Result Stepped Fault → Type 0) → Type 0
Says memory after t asked more = (answer : Result Stepped Fault) × Answers memory after t asked answer × more answer

-- The memory was made a heap, or it has not the length of one and nothing has changed.
abbrev pub opens : ℕ → ℕ → List ℕ → List ℕ → ℕ → Type 0
opens pages threads memory after status =
    ((status ≡ codes.YAK_OK) × IsOpened pages threads after)
    ⊎ ((status ≡ codes.YAK_NO_HEAP) × (after ≡ memory) × ¬ IsLength pages threads memory)

-- ---- numbers for it

abbrev pub refusal_code : Refusal → ℕ
refusal_code refusal.BadSlot = codes.YAK_BAD_SLOT
refusal_code refusal.NotAReference = codes.YAK_NOT_A_REFERENCE
refusal_code refusal.BadField = codes.YAK_BAD_FIELD
refusal_code refusal.StackFull = codes.YAK_STACK_FULL
refusal_code refusal.StackEmpty = codes.YAK_STACK_EMPTY
refusal_code refusal.TooDeep = codes.YAK_TOO_DEEP
refusal_code refusal.NoEpoch = codes.YAK_NO_EPOCH
refusal_code refusal.TooLong = codes.YAK_TOO_LONG
refusal_code refusal.NamesSpent = codes.YAK_NAMES_SPENT

abbrev pub reply_code : Reply → ℕ
reply_code reply.OutOfHeap = codes.YAK_OUT_OF_HEAP
reply_code (reply.Refused why) = refusal_code why
reply_code said = codes.YAK_OK

abbrev pub fault_code : Fault → ℕ
fault_code fault.NoHeap = codes.YAK_NO_HEAP
fault_code fault.NoThread = codes.YAK_NO_THREAD
fault_code fault.BadNumber = codes.YAK_BAD_NUMBER

-- the status that tells an answer
abbrev pub status_of : Result Stepped Fault → ℕ
status_of (Ok stepped) = reply_code stepped.reply
status_of (Err why) = fault_code why

-- ---- what is told beside it

abbrev pub value_told : Reply → Value → Value
value_told reply.Null before = record { kind = codes.YAK_NULL; number = 0 }
value_told (reply.Int i) before = record { kind = codes.YAK_INT; number = i }
value_told (reply.Object k) before = record { kind = codes.YAK_OBJECT; number = k }
value_told said before = before

-- 1 for what is so, and else 0
abbrev pub flag : Bool → ℕ
flag is = cond is 1 0

abbrev pub same_told : Reply → ℕ → ℕ
same_told reply.Yes before = 1
same_told reply.No before = 0
same_told said before = before

abbrev pub end_told : Reply → Bool → Ended → Ended
end_told (reply.Ended moved tight) collected before = record { moved = moved; tight = flag tight; collected = flag collected }
end_told said collected before = before

abbrev pub pages_told : Reply → Pages → Pages
pages_told (reply.Pages free region control) before = record { free = free; region = region; control = control }
pages_told said before = before

-- the value that is told, or what was there before
abbrev pub told_value : Result Stepped Fault → Value → Value
told_value (Ok stepped) before = value_told stepped.reply before
told_value (Err why) before = before

-- whether two slots hold the same, or what was there before
abbrev pub told_same : Result Stepped Fault → ℕ → ℕ
told_same (Ok stepped) before = same_told stepped.reply before
told_same (Err why) before = before

-- how the epoch ended, or what was there before
abbrev pub told_end : Result Stepped Fault → Ended → Ended
told_end (Ok stepped) before = end_told stepped.reply stepped.collected before
told_end (Err why) before = before

-- the pages, or what was there before
abbrev pub told_pages : Result Stepped Fault → Pages → Pages
told_pages (Ok stepped) before = pages_told stepped.reply before
told_pages (Err why) before = before
