-- Which statuses a count by workers with threads of their own may end with, and what the number of each tells.
use Rattle.std.proofs.Common.{◌≡◌, ◌≤◌, ◌<◌, ◌⊎◌, ℕ, true, false, List, [], length, refl, sym, subst, inl, inr}
use denote.Enum.Declared.{tag_of}
use Rattle.yak_io.specs.Causes.{Rose}
use Rattle.object_layout.specs.declared.replies.Census.{Census}
use Rattle.heap_words.specs.Map.{IsAreas}
use Rattle.yak_io.specs.declared.TheConstants.{INPUT_LIMIT}
use Rattle.safepoint_gate.specs.declared.finished.Finished.{Finished}
use Rattle.group_jobs.specs.LongWords.{has_long_word}
use Rattle.group_jobs.specs.Shared.{TellsWhyShared}
use Rattle.group_jobs.specs.declared.count.CountError.{CountError}
use Rattle.group_jobs.specs.declared.count.CountError.TheVariants as error
use Rattle.yak.specs.contracts.endings.Status.{the_type}
use Rattle.yak.specs.declared.endings.Status.{Status}
use Rattle.yak.specs.declared.endings.Status.TheVariants.{Done, Usage, Refused, ReadFault, WriteFault, NoMemory, TooLarge, OutOfHeap, LongWord, BadTrace, NotLawful}
use Rattle.yak.specs.declared.forms.Form.TheVariants.{Count}
use Rattle.yak.specs.declared.forms.Options.{Options}
use Rattle.yak.specs.Forms.{IsShared}
use Rattle.yak.specs.Keeping.{Keeping, shared}
use Rattle.yak.specs.Endings.{EndsLong, Input, IsFaultless, IsInput, IsTooLarge, KeepsNothing, Output, WritesNothing, ends_by, number_of}
use Rattle.yak.specs.SharedCounts.{AnswersShared, EndsCountedShared, EndsOutShared, shares_mean, shares_to, size_of_heap}
use Rattle.yak.proofs.Numbers.{number_is, of_number, one_of_three, one_of_two}
use Rattle.yak.proofs.Ranges.{form_ranged}
use Rattle.yak.proofs.Statuses.{not_both, not_large, same_input, too_many}
use Rattle.yak.proofs.Words.{one_form}
use Rattle.yak.proofs.Writing.{same_text}

-- ---- words

-- the numbers that such words tell are those of a heap and its threads
pub shared_size : (words : List (List ℕ)) (options : Options) → IsShared words options → IsAreas (size_of_heap options) × (1 ≤ options.task)
shared_size words options asked =
    let ranged = form_ranged words options asked.named in
    ((ranged.pages.0, ranged.pages.1, ranged.workers.0, ranged.workers.1), ranged.task)

-- ---- what the bytes of an input come to

pub of_bytes : (options : Options) (status : Status) (input : Input) (bytes text : List ℕ) (kept : Keeping) → IsInput input bytes → shares_to options status bytes text kept
    → shares_mean options status input text kept
of_bytes options Done input bytes text kept is told = (bytes, is, told)
of_bytes options Usage input bytes text kept is told = told
of_bytes options Refused input bytes text kept is told = told
of_bytes options ReadFault input bytes text kept is told = absurd told
of_bytes options WriteFault input bytes text kept is told = told
of_bytes options NoMemory input bytes text kept is told = told
of_bytes options TooLarge input bytes text kept is told = absurd told
of_bytes options OutOfHeap input bytes text kept is told = (bytes, is, told)
of_bytes options LongWord input bytes text kept is told = (bytes, is, told)
of_bytes options BadTrace input bytes text kept is told = told
of_bytes options NotLawful input bytes text kept is told = told

-- where the heap had no room, it is kept, and nothing is written
pub out_so : (options : Options) (bytes text : List ℕ) (err : CountError Finished) (census : Census) (finished : Finished) → err ≡ error.OutOfHeap census finished
    → TellsWhyShared (size_of_heap options) options.task bytes err → has_long_word bytes ≡ false → text ≡ []
    → shares_to options OutOfHeap bytes text (shared finished.seat.me.0)
out_so options bytes text err census finished is why short empty =
    ((finished.seat.me.0, refl, record { short = short; census = census; finished = finished; left = refl; why = subst (TellsWhyShared (size_of_heap options) options.task bytes) is why }), empty)

-- ---- which statuses come

count_ends : (options : Options) (status : Status) (input : Input) (output : Output) (kept : Keeping) → ends_by (shares_mean options) status input output kept
    → (bytes : List ℕ) → IsFaultless input output bytes → length bytes ≤ INPUT_LIMIT → has_long_word bytes ≡ false → (status ≡ Done) ⊎ (status ≡ OutOfHeap) ⊎ (status ≡ NoMemory)
count_ends options Done input output kept h bytes clean fits short = inl refl
count_ends options Usage input output kept h bytes clean fits short = absurd h.1.meaning
count_ends options Refused input output kept h bytes clean fits short = absurd h.1.meaning
count_ends options ReadFault input output kept h bytes clean fits short = absurd (clean.read_well h.1.meaning.0)
count_ends options WriteFault input output kept h bytes clean fits short = absurd (clean.written_well h.1.3.rose)
count_ends options NoMemory input output kept h bytes clean fits short = inr (inr refl)
count_ends options TooLarge input output kept h bytes clean fits short = absurd (not_large input bytes clean.told fits h.1.meaning.0)
count_ends options OutOfHeap input output kept h bytes clean fits short = inr (inl refl)
count_ends options LongWord input output kept h bytes clean fits short = (let told = h.1.meaning in absurd (not_both told.0 bytes (sym (same_input input bytes told.0 clean.told told.1)) short told.2.0.long))
count_ends options BadTrace input output kept h bytes clean fits short = absurd h.1.meaning
count_ends options NotLawful input output kept h bytes clean fits short = absurd h.1.meaning

long_ends : (options : Options) (status : Status) (input : Input) (output : Output) (kept : Keeping) → ends_by (shares_mean options) status input output kept
    → (bytes : List ℕ) → IsFaultless input output bytes → length bytes ≤ INPUT_LIMIT → has_long_word bytes ≡ true → (status ≡ LongWord) ⊎ (status ≡ NoMemory)
long_ends options Done input output kept h bytes clean fits long = (let told = h.1.meaning in absurd (not_both bytes told.0 (same_input input bytes told.0 clean.told told.1) told.2.2.short long))
long_ends options Usage input output kept h bytes clean fits long = absurd h.1.meaning
long_ends options Refused input output kept h bytes clean fits long = absurd h.1.meaning
long_ends options ReadFault input output kept h bytes clean fits long = absurd (clean.read_well h.1.meaning.0)
long_ends options WriteFault input output kept h bytes clean fits long = absurd (clean.written_well h.1.3.rose)
long_ends options NoMemory input output kept h bytes clean fits long = inr refl
long_ends options TooLarge input output kept h bytes clean fits long = absurd (not_large input bytes clean.told fits h.1.meaning.0)
long_ends options OutOfHeap input output kept h bytes clean fits long = (let told = h.1.meaning in absurd (not_both bytes told.0 (same_input input bytes told.0 clean.told told.1) told.2.0.2.short long))
long_ends options LongWord input output kept h bytes clean fits long = inl refl
long_ends options BadTrace input output kept h bytes clean fits long = absurd h.1.meaning
long_ends options NotLawful input output kept h bytes clean fits long = absurd h.1.meaning

excess_ends : (options : Options) (status : Status) (input : Input) (output : Output) (kept : Keeping) → ends_by (shares_mean options) status input output kept
    → (bytes : List ℕ) → IsFaultless input output bytes → INPUT_LIMIT < length bytes → (status ≡ TooLarge) ⊎ (status ≡ NoMemory)
excess_ends options Done input output kept h bytes clean many = absurd (too_many input bytes h.1.meaning.0 clean.told many h.1.meaning.1)
excess_ends options Usage input output kept h bytes clean many = absurd h.1.meaning
excess_ends options Refused input output kept h bytes clean many = absurd h.1.meaning
excess_ends options ReadFault input output kept h bytes clean many = absurd (clean.read_well h.1.meaning.0)
excess_ends options WriteFault input output kept h bytes clean many = absurd (clean.written_well h.1.3.rose)
excess_ends options NoMemory input output kept h bytes clean many = inr refl
excess_ends options TooLarge input output kept h bytes clean many = inl refl
excess_ends options OutOfHeap input output kept h bytes clean many = absurd (too_many input bytes h.1.meaning.0 clean.told many h.1.meaning.1)
excess_ends options LongWord input output kept h bytes clean many = absurd (too_many input bytes h.1.meaning.0 clean.told many h.1.meaning.1)
excess_ends options BadTrace input output kept h bytes clean many = absurd h.1.meaning
excess_ends options NotLawful input output kept h bytes clean many = absurd h.1.meaning

-- ---- what each status tells

at_done : (options : Options) (input : Input) (output : Output) (kept : Keeping) → ends_by (shares_mean options) Done input output kept → EndsCountedShared options input output kept
at_done options input output kept h = let told = h.1.meaning in (told.0, told.1, (h.0, told.2.0, told.2.1, told.2.2, h.1.all))

at_read_fault : (options : Options) (input : Input) (output : Output) (kept : Keeping) → ends_by (shares_mean options) ReadFault input output kept
    → Rose input.faults_before input.faults_after × WritesNothing output
at_read_fault options input output kept h = (h.1.meaning.0, same_text output h.0 [] h.1.meaning.1 h.1.all)

at_no_memory : (options : Options) (input : Input) (output : Output) (kept : Keeping) → ends_by (shares_mean options) NoMemory input output kept → WritesNothing output
at_no_memory options input output kept h = same_text output h.0 [] h.1.meaning.0 h.1.all

at_too_large : (options : Options) (input : Input) (output : Output) (kept : Keeping) → ends_by (shares_mean options) TooLarge input output kept
    → IsTooLarge input × WritesNothing output
at_too_large options input output kept h = (h.1.meaning.0, same_text output h.0 [] h.1.meaning.1 h.1.all)

at_out_of_heap : (options : Options) (input : Input) (output : Output) (kept : Keeping) → ends_by (shares_mean options) OutOfHeap input output kept
    → EndsOutShared options input output kept
at_out_of_heap options input output kept h =
    let told = h.1.meaning in
    ((told.0, told.1, told.2.0), same_text output h.0 [] told.2.1 h.1.all)

at_long_word : (options : Options) (input : Input) (output : Output) (kept : Keeping) → ends_by (shares_mean options) LongWord input output kept → EndsLong input output
at_long_word options input output kept h = let told = h.1.meaning in (told.0, told.1, (h.0, told.2.0, h.1.all))

keeps_nothing : (options : Options) (status : Status) (input : Input) (output : Output) (kept : Keeping) → ends_by (shares_mean options) status input output kept
    → (number_of status ≡ 0 → ⊥) → (number_of status ≡ 7 → ⊥) → KeepsNothing kept
keeps_nothing options Done input output kept h some out = absurd (some refl)
keeps_nothing options Usage input output kept h some out = absurd h.1.meaning
keeps_nothing options Refused input output kept h some out = absurd h.1.meaning
keeps_nothing options ReadFault input output kept h some out = h.1.meaning.2
keeps_nothing options WriteFault input output kept h some out = h.0
keeps_nothing options NoMemory input output kept h some out = h.1.meaning.1
keeps_nothing options TooLarge input output kept h some out = h.1.meaning.2
keeps_nothing options OutOfHeap input output kept h some out = absurd (out refl)
keeps_nothing options LongWord input output kept h some out = h.1.meaning.2.1
keeps_nothing options BadTrace input output kept h some out = absurd h.1.meaning
keeps_nothing options NotLawful input output kept h some out = absurd h.1.meaning

-- ---- all that it tells

answers_so : (options : Options) (status : Status) (input : Input) (output : Output) (kept : Keeping) → ends_by (shares_mean options) status input output kept
    → AnswersShared options (number_of status) input output kept
answers_so options status input output kept h =
    let at : (other : Status) → number_of status ≡ number_of other → ends_by (shares_mean options) other input output kept =
    λ other e. subst (λ (s : Status). ends_by (shares_mean options) s input output kept) (of_number status other e) h in
    record {
      ending = (status, refl, h);
      counts = λ e. at_done options input output kept (at Done e);
      read_fault = λ e. at_read_fault options input output kept (at ReadFault e);
      write_fault = λ e. (at WriteFault e).1.3.rose;
      cut = λ e. (at WriteFault e).1;
      no_memory = λ e. at_no_memory options input output kept (at NoMemory e);
      too_large = λ e. at_too_large options input output kept (at TooLarge e);
      out_of_heap = λ e. at_out_of_heap options input output kept (at OutOfHeap e);
      long_word = λ e. at_long_word options input output kept (at LongWord e);
      no_others = λ others. elim others [
        | inl e ↦ (at Usage e).1.meaning
        | inr (inl e) ↦ (at Refused e).1.meaning
        | inr (inr (inl e)) ↦ (at BadTrace e).1.meaning
        | inr (inr (inr e)) ↦ (at NotLawful e).1.meaning
      ];
      kept = keeps_nothing options status input output kept h;
      every_count = λ bytes clean fits short. one_of_three status Done OutOfHeap NoMemory (count_ends options status input output kept h bytes clean fits short);
      every_long_word = λ bytes clean fits long. one_of_two status LongWord NoMemory (long_ends options status input output kept h bytes clean fits long);
      every_excess = λ bytes clean many. one_of_two status TooLarge NoMemory (excess_ends options status input output kept h bytes clean many);
    }

pub answers_shared : (options : Options) (status : Status) (input : Input) (output : Output) (kept : Keeping) → ends_by (shares_mean options) status input output kept
    → AnswersShared options (tag_of the_type status) input output kept
answers_shared options status input output kept h =
    subst (λ (n : ℕ). AnswersShared options n input output kept) (number_is status) (answers_so options status input output kept h)

-- the words ask for one count at most
pub shared_answers : (words : List (List ℕ)) (one other : Options) → IsShared words one → IsShared words other → (number : ℕ) (input : Input) (output : Output) (kept : Keeping)
    → AnswersShared one number input output kept → AnswersShared other number input output kept
shared_answers words one other is asked number input output kept answers =
    subst (λ (o : Options). AnswersShared o number input output kept) (let e = one_form words (Count one) (Count other) is.named asked.named in cc e) answers
