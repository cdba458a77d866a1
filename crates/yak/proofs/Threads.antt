-- Which statuses a run in threads may end with, and what the number of each tells.
use Rattle.std.proofs.Common.{◌≡◌, ◌≤◌, ◌<◌, ◌⊎◌, ℕ, List, [], length, refl, subst, inl, inr}
use denote.Enum.Declared.{tag_of}
use Rattle.yak_io.specs.Causes.{Rose}
use Rattle.yak_io.specs.declared.TheConstants.{INPUT_LIMIT}
use Rattle.script_text.specs.declared.faults.Bad.{Bad}
use Rattle.script_text.specs.ScriptContents.{ScriptContents}
use Rattle.script_text.specs.Scripts.{IsBadLine, IsScript}
use Rattle.yak.specs.contracts.endings.Status.{the_type}
use Rattle.yak.specs.declared.endings.Status.{Status}
use Rattle.yak.specs.declared.endings.Status.TheVariants.{Done, Usage, Refused, ReadFault, WriteFault, NoMemory, TooLarge, OutOfHeap, LongWord, BadTrace, NotLawful}
use Rattle.yak.specs.Keeping.{Keeping}
use Rattle.yak.specs.Endings.{EndsRefused, Input, IsFaultless, IsTooLarge, KeepsNothing, Output, WritesNothing, ends_by, number_of}
use Rattle.yak.specs.Threaded.{AnswersThreads, EndsThreaded, threads_mean}
use Rattle.yak.proofs.Numbers.{number_is, of_number, one_of_two}
use Rattle.yak.proofs.Statuses.{Never, not_large, same_input, too_many}
use Rattle.yak.proofs.Writing.{same_text}

-- ---- which statuses come

script_ends : Never → (status : Status) (input : Input) (output : Output) (kept : Keeping) → ends_by threads_mean status input output kept
    → (bytes : List ℕ) (script : ScriptContents) → IsFaultless input output bytes → length bytes ≤ INPUT_LIMIT → IsScript bytes script → (status ≡ Done) ⊎ (status ≡ NoMemory)
script_ends never Done input output kept h bytes script clean fits is = inl refl
script_ends never Usage input output kept h bytes script clean fits is = absurd h.1.meaning
script_ends never Refused input output kept h bytes script clean fits is =
    let told = h.1.meaning.0 in
    absurd (never bytes script told.2.bad is (subst (λ (l : List ℕ). IsBadLine l told.2.bad) (same_input input bytes told.0 clean.told told.1) told.2.refused))
script_ends never ReadFault input output kept h bytes script clean fits is = absurd (clean.read_well h.1.meaning.0)
script_ends never WriteFault input output kept h bytes script clean fits is = absurd (clean.written_well h.1.3.rose)
script_ends never NoMemory input output kept h bytes script clean fits is = inr refl
script_ends never TooLarge input output kept h bytes script clean fits is = absurd (not_large input bytes clean.told fits h.1.meaning.0)
script_ends never OutOfHeap input output kept h bytes script clean fits is = absurd h.1.meaning
script_ends never LongWord input output kept h bytes script clean fits is = absurd h.1.meaning
script_ends never BadTrace input output kept h bytes script clean fits is = absurd h.1.meaning
script_ends never NotLawful input output kept h bytes script clean fits is = absurd h.1.meaning

refusal_ends : Never → (status : Status) (input : Input) (output : Output) (kept : Keeping) → ends_by threads_mean status input output kept
    → (bytes : List ℕ) (bad : Bad) → IsFaultless input output bytes → length bytes ≤ INPUT_LIMIT → IsBadLine bytes bad → (status ≡ Refused) ⊎ (status ≡ NoMemory)
refusal_ends never Done input output kept h bytes bad clean fits is =
    let told = h.1.meaning in
    let run = told.2.2 in
    absurd (never bytes run.script bad (subst (λ (l : List ℕ). IsScript l run.script) (same_input input bytes told.0 clean.told told.1) run.read) is)
refusal_ends never Usage input output kept h bytes bad clean fits is = absurd h.1.meaning
refusal_ends never Refused input output kept h bytes bad clean fits is = inl refl
refusal_ends never ReadFault input output kept h bytes bad clean fits is = absurd (clean.read_well h.1.meaning.0)
refusal_ends never WriteFault input output kept h bytes bad clean fits is = absurd (clean.written_well h.1.3.rose)
refusal_ends never NoMemory input output kept h bytes bad clean fits is = inr refl
refusal_ends never TooLarge input output kept h bytes bad clean fits is = absurd (not_large input bytes clean.told fits h.1.meaning.0)
refusal_ends never OutOfHeap input output kept h bytes bad clean fits is = absurd h.1.meaning
refusal_ends never LongWord input output kept h bytes bad clean fits is = absurd h.1.meaning
refusal_ends never BadTrace input output kept h bytes bad clean fits is = absurd h.1.meaning
refusal_ends never NotLawful input output kept h bytes bad clean fits is = absurd h.1.meaning

excess_ends : (status : Status) (input : Input) (output : Output) (kept : Keeping) → ends_by threads_mean status input output kept
    → (bytes : List ℕ) → IsFaultless input output bytes → INPUT_LIMIT < length bytes → (status ≡ TooLarge) ⊎ (status ≡ NoMemory)
excess_ends Done input output kept h bytes clean many = absurd (too_many input bytes h.1.meaning.0 clean.told many h.1.meaning.1)
excess_ends Usage input output kept h bytes clean many = absurd h.1.meaning
excess_ends Refused input output kept h bytes clean many = absurd (too_many input bytes h.1.meaning.0.0 clean.told many h.1.meaning.0.1)
excess_ends ReadFault input output kept h bytes clean many = absurd (clean.read_well h.1.meaning.0)
excess_ends WriteFault input output kept h bytes clean many = absurd (clean.written_well h.1.3.rose)
excess_ends NoMemory input output kept h bytes clean many = inr refl
excess_ends TooLarge input output kept h bytes clean many = inl refl
excess_ends OutOfHeap input output kept h bytes clean many = absurd h.1.meaning
excess_ends LongWord input output kept h bytes clean many = absurd h.1.meaning
excess_ends BadTrace input output kept h bytes clean many = absurd h.1.meaning
excess_ends NotLawful input output kept h bytes clean many = absurd h.1.meaning

-- ---- what each status tells

at_done : (input : Input) (output : Output) (kept : Keeping) → ends_by threads_mean Done input output kept → EndsThreaded input output kept
at_done input output kept h = let told = h.1.meaning in (told.0, told.1, (h.0, told.2.0, told.2.1, told.2.2, h.1.all))

at_refused : (input : Input) (output : Output) (kept : Keeping) → ends_by threads_mean Refused input output kept → EndsRefused input output
at_refused input output kept h = let told = h.1.meaning.0 in (told.0, told.1, (h.0, told.2, h.1.all))

at_read_fault : (input : Input) (output : Output) (kept : Keeping) → ends_by threads_mean ReadFault input output kept
    → Rose input.faults_before input.faults_after × WritesNothing output
at_read_fault input output kept h = (h.1.meaning.0, same_text output h.0 [] h.1.meaning.1 h.1.all)

at_no_memory : (input : Input) (output : Output) (kept : Keeping) → ends_by threads_mean NoMemory input output kept → WritesNothing output
at_no_memory input output kept h = same_text output h.0 [] h.1.meaning.0 h.1.all

at_too_large : (input : Input) (output : Output) (kept : Keeping) → ends_by threads_mean TooLarge input output kept → IsTooLarge input × WritesNothing output
at_too_large input output kept h = (h.1.meaning.0, same_text output h.0 [] h.1.meaning.1 h.1.all)

keeps_nothing : (status : Status) (input : Input) (output : Output) (kept : Keeping) → ends_by threads_mean status input output kept
    → (number_of status ≡ 0 → ⊥) → KeepsNothing kept
keeps_nothing Done input output kept h some = absurd (some refl)
keeps_nothing Usage input output kept h some = absurd h.1.meaning
keeps_nothing Refused input output kept h some = h.1.meaning.1
keeps_nothing ReadFault input output kept h some = h.1.meaning.2
keeps_nothing WriteFault input output kept h some = h.0
keeps_nothing NoMemory input output kept h some = h.1.meaning.1
keeps_nothing TooLarge input output kept h some = h.1.meaning.2
keeps_nothing OutOfHeap input output kept h some = absurd h.1.meaning
keeps_nothing LongWord input output kept h some = absurd h.1.meaning
keeps_nothing BadTrace input output kept h some = absurd h.1.meaning
keeps_nothing NotLawful input output kept h some = absurd h.1.meaning

-- ---- all that it tells

answers_so : Never → (status : Status) (input : Input) (output : Output) (kept : Keeping) → ends_by threads_mean status input output kept
    → AnswersThreads (number_of status) input output kept
answers_so never status input output kept h =
    let at : (other : Status) → number_of status ≡ number_of other → ends_by threads_mean other input output kept =
    λ other e. subst (λ (s : Status). ends_by threads_mean s input output kept) (of_number status other e) h in
    record {
      ending = (status, refl, h);
      runs = λ e. at_done input output kept (at Done e);
      refused = λ e. at_refused input output kept (at Refused e);
      read_fault = λ e. at_read_fault input output kept (at ReadFault e);
      write_fault = λ e. (at WriteFault e).1.3.rose;
      cut = λ e. (at WriteFault e).1;
      no_memory = λ e. at_no_memory input output kept (at NoMemory e);
      too_large = λ e. at_too_large input output kept (at TooLarge e);
      no_others = λ others. elim others [
        | inl e ↦ (at Usage e).1.meaning
        | inr (inl e) ↦ (at OutOfHeap e).1.meaning
        | inr (inr (inl e)) ↦ (at LongWord e).1.meaning
        | inr (inr (inr (inl e))) ↦ (at BadTrace e).1.meaning
        | inr (inr (inr (inr e))) ↦ (at NotLawful e).1.meaning
      ];
      kept = keeps_nothing status input output kept h;
      every_script = λ bytes script clean fits is. one_of_two status Done NoMemory (script_ends never status input output kept h bytes script clean fits is);
      every_refusal = λ bytes bad clean fits is. one_of_two status Refused NoMemory (refusal_ends never status input output kept h bytes bad clean fits is);
      every_excess = λ bytes clean many. one_of_two status TooLarge NoMemory (excess_ends status input output kept h bytes clean many);
    }

pub answers_threads : Never → (status : Status) (input : Input) (output : Output) (kept : Keeping) → ends_by threads_mean status input output kept
    → AnswersThreads (tag_of the_type status) input output kept
answers_threads never status input output kept h =
    subst (λ (n : ℕ). AnswersThreads n input output kept) (number_is status) (answers_so never status input output kept h)
