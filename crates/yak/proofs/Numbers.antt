-- What the number of a status tells of a run on one core.
use Rattle.std.proofs.Common.{◌≡◌, ◌⊎◌, ℕ, zero, suc, List, [], refl, sym, ap, subst, ◌∙◌, inl, inr}
use denote.Enum.Declared.{tag_of}
use Rattle.std.specs.Io.KnownBytes.{Appends}
use Rattle.yak_io.specs.Causes.{Rose}
use Rattle.yak.specs.contracts.endings.Status.{the_type}
use Rattle.yak.specs.declared.endings.Status.{Status}
use Rattle.yak.specs.declared.endings.Status.TheVariants.{Done, Usage, Refused, ReadFault, WriteFault, NoMemory, TooLarge, OutOfHeap, LongWord, BadTrace, NotLawful}
use Rattle.yak.specs.declared.forms.Options.{Options}
use Rattle.yak.specs.Keeping.{Keeping}
use Rattle.yak.specs.Endings.{EndsLong, EndsOut, EndsRefused, Input, IsTooLarge, KeepsNothing, Output, WritesNothing, ends, number_of, usage_line}
use Rattle.yak.specs.Answers.{Answers}
use Rattle.yak.specs.Forms.{IsAsked, IsCount, IsReading, IsReplay}
use Rattle.yak.proofs.Statuses.{Never, count_ends, counted_so, excess_ends, gen_ends, generated_so, long_ends, other_words, refusal_ends, replayed_so, script_ends}
use Rattle.yak.proofs.Writing.{same_text}

-- ---- numbers

-- the status of a number
abbrev status_at : ℕ → Status
status_at zero = Done
status_at (suc zero) = Usage
status_at (suc (suc zero)) = Refused
status_at (suc (suc (suc zero))) = ReadFault
status_at (suc (suc (suc (suc zero)))) = WriteFault
status_at (suc (suc (suc (suc (suc zero))))) = NoMemory
status_at (suc (suc (suc (suc (suc (suc zero)))))) = TooLarge
status_at (suc (suc (suc (suc (suc (suc (suc zero))))))) = OutOfHeap
status_at (suc (suc (suc (suc (suc (suc (suc (suc zero)))))))) = LongWord
status_at (suc (suc (suc (suc (suc (suc (suc (suc (suc zero))))))))) = BadTrace
status_at (suc (suc (suc (suc (suc (suc (suc (suc (suc (suc more)))))))))) = NotLawful

back : (status : Status) → status_at (number_of status) ≡ status
back Done = refl
back Usage = refl
back Refused = refl
back ReadFault = refl
back WriteFault = refl
back NoMemory = refl
back TooLarge = refl
back OutOfHeap = refl
back LongWord = refl
back BadTrace = refl
back NotLawful = refl

pub of_number : (status other : Status) → number_of status ≡ number_of other → status ≡ other
of_number status other e = sym (back status) ∙ (ap status_at e ∙ back other)

pub number_is : (status : Status) → number_of status ≡ tag_of the_type status
number_is Done = refl
number_is Usage = refl
number_is Refused = refl
number_is ReadFault = refl
number_is WriteFault = refl
number_is NoMemory = refl
number_is TooLarge = refl
number_is OutOfHeap = refl
number_is LongWord = refl
number_is BadTrace = refl
number_is NotLawful = refl

pub one_of_two : (status a b : Status) → (status ≡ a) ⊎ (status ≡ b) → (number_of status ≡ number_of a) ⊎ (number_of status ≡ number_of b)
one_of_two status a b (inl e) = inl (ap number_of e)
one_of_two status a b (inr e) = inr (ap number_of e)

pub one_of_three : (status a b c : Status) → (status ≡ a) ⊎ (status ≡ b) ⊎ (status ≡ c)
    → (number_of status ≡ number_of a) ⊎ (number_of status ≡ number_of b) ⊎ (number_of status ≡ number_of c)
one_of_three status a b c (inl e) = inl (ap number_of e)
one_of_three status a b c (inr (inl e)) = inr (inl (ap number_of e))
one_of_three status a b c (inr (inr e)) = inr (inr (ap number_of e))

-- ---- what each status tells

at_usage : (words : List (List ℕ)) (input : Input) (output : Output) (kept : Keeping) → ends Usage words input output kept
    → (IsAsked words → ⊥) × Appends output.before output.after usage_line
at_usage words input output kept h = (h.1.meaning.0, same_text output h.0 usage_line h.1.meaning.1 h.1.all)

at_refused : (words : List (List ℕ)) (input : Input) (output : Output) (kept : Keeping) → ends Refused words input output kept → IsReplay words × EndsRefused input output
at_refused words input output kept h = let told = h.1.meaning.1 in (h.1.meaning.0, (told.0, told.1, (h.0, told.2, h.1.all)))

at_read_fault : (words : List (List ℕ)) (input : Input) (output : Output) (kept : Keeping) → ends ReadFault words input output kept
    → IsReading words × Rose input.faults_before input.faults_after × WritesNothing output
at_read_fault words input output kept h = (h.1.meaning.0, h.1.meaning.1, same_text output h.0 [] h.1.meaning.2 h.1.all)

at_no_memory : (words : List (List ℕ)) (input : Input) (output : Output) (kept : Keeping) → ends NoMemory words input output kept → WritesNothing output
at_no_memory words input output kept h = same_text output h.0 [] h.1.meaning.0 h.1.all

at_too_large : (words : List (List ℕ)) (input : Input) (output : Output) (kept : Keeping) → ends TooLarge words input output kept
    → IsReading words × IsTooLarge input × WritesNothing output
at_too_large words input output kept h = (h.1.meaning.0, h.1.meaning.1, same_text output h.0 [] h.1.meaning.2 h.1.all)

at_out_of_heap : (words : List (List ℕ)) (input : Input) (output : Output) (kept : Keeping) → ends OutOfHeap words input output kept
    → (options : Options) × IsCount words options × EndsOut options input output
at_out_of_heap words input output kept h = let told = h.1.meaning.0 in (told.0, told.1, (told.2, same_text output h.0 [] h.1.meaning.1 h.1.all))

at_long_word : (words : List (List ℕ)) (input : Input) (output : Output) (kept : Keeping) → ends LongWord words input output kept
    → ((options : Options) × IsCount words options) × EndsLong input output
at_long_word words input output kept h = let told = h.1.meaning.0 in ((told.0, told.1), (told.2.0, told.2.1, (h.0, told.2.2, h.1.all)))

keeps_nothing : (status : Status) (words : List (List ℕ)) (input : Input) (output : Output) (kept : Keeping) → ends status words input output kept
    → (number_of status ≡ 0 → ⊥) → KeepsNothing kept
keeps_nothing Done words input output kept h some = absurd (some refl)
keeps_nothing Usage words input output kept h some = h.1.meaning.2
keeps_nothing Refused words input output kept h some = h.1.meaning.2
keeps_nothing ReadFault words input output kept h some = h.1.meaning.3
keeps_nothing WriteFault words input output kept h some = h.0
keeps_nothing NoMemory words input output kept h some = h.1.meaning.1
keeps_nothing TooLarge words input output kept h some = h.1.meaning.3
keeps_nothing OutOfHeap words input output kept h some = h.1.meaning.2
keeps_nothing LongWord words input output kept h some = h.1.meaning.1
keeps_nothing BadTrace words input output kept h some = absurd h.1.meaning
keeps_nothing NotLawful words input output kept h some = absurd h.1.meaning

-- ---- all that it tells

answers_so : Never → (status : Status) (words : List (List ℕ)) (input : Input) (output : Output) (kept : Keeping) → ends status words input output kept
    → Answers (number_of status) words input output kept
answers_so never status words input output kept h =
    let at : (other : Status) → number_of status ≡ number_of other → ends other words input output kept =
    λ other e. subst (λ (s : Status). ends s words input output kept) (of_number status other e) h in
    record {
      ending = (status, refl, h);
      replays = λ replay e. replayed_so status words input output kept h replay (of_number status Done e);
      generates = λ rounds gen e. generated_so status words input output kept h rounds gen (of_number status Done e);
      counts = λ options count e. counted_so status words input output kept h options count (of_number status Done e);
      usage = λ e. at_usage words input output kept (at Usage e);
      refused = λ e. at_refused words input output kept (at Refused e);
      read_fault = λ e. at_read_fault words input output kept (at ReadFault e);
      write_fault = λ e. (at WriteFault e).1.3.rose;
      cut = λ e. (at WriteFault e).1;
      no_memory = λ e. at_no_memory words input output kept (at NoMemory e);
      too_large = λ e. at_too_large words input output kept (at TooLarge e);
      out_of_heap = λ e. at_out_of_heap words input output kept (at OutOfHeap e);
      long_word = λ e. at_long_word words input output kept (at LongWord e);
      no_others = λ others. elim others [ inl e ↦ (at BadTrace e).1.meaning | inr e ↦ (at NotLawful e).1.meaning ];
      kept = keeps_nothing status words input output kept h;
      other_words = λ other. one_of_three status Usage WriteFault NoMemory (other_words status words input output kept h other);
      every_script = λ bytes script named clean fits is. one_of_two status Done NoMemory (script_ends never status words input output kept h bytes script named clean fits is);
      every_refusal = λ bytes bad named clean fits is. one_of_two status Refused NoMemory (refusal_ends never status words input output kept h bytes bad named clean fits is);
      every_gen = λ rounds gen well. one_of_two status Done NoMemory (gen_ends status words input output kept h rounds gen well);
      every_excess = λ bytes reading clean many. one_of_two status TooLarge NoMemory (excess_ends status words input output kept h bytes reading clean many);
      every_count = λ options bytes count clean fits short. one_of_three status Done OutOfHeap NoMemory (count_ends status words input output kept h options bytes count clean fits short);
      every_long_word = λ options bytes count clean fits long. one_of_two status LongWord NoMemory (long_ends status words input output kept h options bytes count clean fits long);
    }

pub answers : Never → (status : Status) (words : List (List ℕ)) (input : Input) (output : Output) (kept : Keeping) → ends status words input output kept
    → Answers (tag_of the_type status) words input output kept
answers never status words input output kept h =
    subst (λ (n : ℕ). Answers n words input output kept) (number_is status) (answers_so never status words input output kept h)
