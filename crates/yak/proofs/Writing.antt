-- What is written and what a number tells, whatever the statuses mean.
use Rattle.std.proofs.Common.{◌≡◌, ℕ, List, subst}
use Rattle.std.specs.Io.KnownBytes.{Appends}
use Rattle.yak.specs.declared.endings.Status.{Status}
use Rattle.yak.specs.declared.endings.Status.TheVariants.{Done, Usage, Refused, ReadFault, WriteFault, NoMemory, TooLarge, OutOfHeap, LongWord, BadTrace, NotLawful}
use Rattle.yak.specs.Keeping.{Keeping}
use Rattle.yak.specs.Endings.{Input, Meaning, Output, ends_by}

pub same_text : (output : Output) (text other : List ℕ) → text ≡ other → Appends output.before output.after text → Appends output.before output.after other
same_text output text other e all = subst (λ (l : List ℕ). Appends output.before output.after l) e all

-- no text belongs to a write fault
abbrev pub HasNoFaultText : Meaning → Type 0
HasNoFaultText means = (input : Input) (text : List ℕ) (kept : Keeping) → means WriteFault input text kept → ⊥

all_written : (means : Meaning) → HasNoFaultText means → (status : Status) (input : Input) (output : Output) (kept : Keeping) (text : List ℕ) → means status input text kept
    → Appends output.before output.after text → ends_by means status input output kept
all_written means none Done input output kept text is all = (text, record { meaning = is; all = all })
all_written means none Usage input output kept text is all = (text, record { meaning = is; all = all })
all_written means none Refused input output kept text is all = (text, record { meaning = is; all = all })
all_written means none ReadFault input output kept text is all = (text, record { meaning = is; all = all })
all_written means none WriteFault input output kept text is all = absurd (none input text kept is)
all_written means none NoMemory input output kept text is all = (text, record { meaning = is; all = all })
all_written means none TooLarge input output kept text is all = (text, record { meaning = is; all = all })
all_written means none OutOfHeap input output kept text is all = (text, record { meaning = is; all = all })
all_written means none LongWord input output kept text is all = (text, record { meaning = is; all = all })
all_written means none BadTrace input output kept text is all = (text, record { meaning = is; all = all })
all_written means none NotLawful input output kept text is all = (text, record { meaning = is; all = all })

-- the whole text of a status was written
pub written_by : (means : Meaning) → HasNoFaultText means → (status : Status) (input : Input) (output : Output) (kept : Keeping) (text given : List ℕ) → means status input text kept
    → given ≡ text → Appends output.before output.after given → ends_by means status input output kept
written_by means none status input output kept text given is same all =
    all_written means none status input output kept text is (same_text output given text same all)
