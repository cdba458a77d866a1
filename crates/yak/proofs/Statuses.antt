-- Which statuses a run may end with.
use Rattle.std.proofs.Common.{◌≡◌, ◌≤◌, ◌<◌, ◌⊎◌, ℕ, List, length, Option, Some, refl, sym, ap, subst, ◌∙◌, inl, inr, arith, Bool, true, false}
use Rattle.std.specs.Prelude.{IfSome, OnOk, Result, Ok, Err}
use Rattle.std.specs.Result.{is_err}
use Rattle.std.specs.Io.KnownBytes.{Appends}
use Rattle.yak_io.specs.Causes.{Rose}
use Rattle.yak_io.specs.declared.TheConstants.{INPUT_LIMIT}
use Rattle.script_text.specs.declared.faults.Bad.{Bad}
use Rattle.script_text.specs.ScriptContents.{ScriptContents}
use Rattle.script_text.specs.Scripts.{IsBadLine, IsScript}
use Rattle.yak.specs.Keeping.{Keeping}
use Rattle.yak.specs.declared.endings.Status.{Status}
use Rattle.yak.specs.declared.endings.Status.TheVariants.{Done, Usage, Refused, ReadFault, WriteFault, NoMemory, TooLarge, OutOfHeap, LongWord, BadTrace, NotLawful}
use Rattle.yak.specs.declared.forms.Form.TheVariants.{Replay, Count, Gen}
use Rattle.yak.specs.declared.forms.Options.{Options}
use Rattle.group_jobs.specs.LongWords.{has_long_word}
use Rattle.yak.specs.Endings.{Counts, EndsCounted, EndsGenerated, EndsReplayed, Generates, Input, IsFaultless, IsInput, Output, belongs, ends}
use Rattle.yak.specs.Forms.{IsAsked, IsCount, IsGen, IsReading, IsReplay}
use Rattle.yak.proofs.Words.{one_form}

-- ---- words

gen_or_replay : (words : List (List ℕ)) (rounds : ℕ) → IsReplay words → IsGen words rounds → ⊥
gen_or_replay words rounds replay gen = let e = one_form words Replay (Gen rounds) replay gen in absurd (cc e)

count_or_replay : (words : List (List ℕ)) (options : Options) → IsReplay words → IsCount words options → ⊥
count_or_replay words options replay count = let e = one_form words Replay (Count options) replay count.named in absurd (cc e)

count_or_gen : (words : List (List ℕ)) (options : Options) (rounds : ℕ) → IsCount words options → IsGen words rounds → ⊥
count_or_gen words options rounds count gen = let e = one_form words (Count options) (Gen rounds) count.named gen in absurd (cc e)

reading_or_gen : (words : List (List ℕ)) (rounds : ℕ) → IsReading words → IsGen words rounds → ⊥
reading_or_gen words rounds (inl replay) gen = gen_or_replay words rounds replay gen
reading_or_gen words rounds (inr (options, count)) gen = count_or_gen words options rounds count gen

reading_asked : (words : List (List ℕ)) → IsReading words → IsAsked words
reading_asked words (inl replay) = (Replay, replay, tt)
reading_asked words (inr (options, count)) = (Count options, count.named, count.alone)

count_asked : (words : List (List ℕ)) (options : Options) → IsCount words options → IsAsked words
count_asked words options count = (Count options, count.named, count.alone)

same_rounds : (words : List (List ℕ)) (one other : ℕ) → IsGen words one → IsGen words other → one ≡ other
same_rounds words one other a b = let e = one_form words (Gen one) (Gen other) a b in cc e

same_options : (words : List (List ℕ)) (one other : Options) → IsCount words one → IsCount words other → one ≡ other
same_options words one other a b = let e = one_form words (Count one) (Count other) a.named b.named in cc e

-- ---- inputs

of_told : (before : Option (List ℕ)) (bytes : List ℕ) (P : List ℕ → Type 0) → before ≡ Some bytes → IfSome before P → P bytes
of_told before bytes P told h = subst (λ (o : Option (List ℕ)). IfSome o P) told h

pub same_input : (input : Input) (bytes other : List ℕ) → input.before ≡ Some bytes → IsInput input other → other ≡ bytes
same_input input bytes other told is = of_told input.before bytes (λ (l : List ℕ). other ≡ l) told is.whole.all

pub not_large : (input : Input) (bytes : List ℕ) → input.before ≡ Some bytes → length bytes ≤ INPUT_LIMIT → IfSome input.before (λ told. INPUT_LIMIT < length told) → ⊥
not_large input bytes told fits large = let more = of_told input.before bytes (λ (l : List ℕ). INPUT_LIMIT < length l) told large in absurd (omega (arith, fits, more))

-- ---- statuses

abbrev pub Never : Type 0
Never = (bytes : List ℕ) (script : ScriptContents) (bad : Bad) → IsScript bytes script → IsBadLine bytes bad → ⊥

done_replayed : (words : List (List ℕ)) (input : Input) (output : Output) (text : List ℕ) (kept : Keeping) → Appends output.before output.after text
    → belongs words Done input text kept → IsReplay words → EndsReplayed input output kept
done_replayed words input output text kept all (inl (named, (bytes, is, (held, here, replays)))) replay = (bytes, is, (text, held, here, replays, all))
done_replayed words input output text kept all (inr (inl (rounds, gen, more))) replay = absurd (gen_or_replay words rounds replay gen)
done_replayed words input output text kept all (inr (inr (options, count, more))) replay = absurd (count_or_replay words options replay count)

done_generated : (words : List (List ℕ)) (input : Input) (output : Output) (text : List ℕ) (kept : Keeping) (rounds : ℕ) → Appends output.before output.after text
    → belongs words Done input text kept → IsGen words rounds → EndsGenerated rounds output kept
done_generated words input output text kept rounds all (inl replay) gen = absurd (gen_or_replay words rounds replay.0 gen)
done_generated words input output text kept rounds all (inr (inl (other, is, (held, here, generates)))) gen =
    (text, held, here, subst (λ (n : ℕ). Generates n text held) (same_rounds words other rounds is gen) generates, all)
done_generated words input output text kept rounds all (inr (inr (options, count, more))) gen = absurd (count_or_gen words options rounds count gen)

done_counted : (words : List (List ℕ)) (input : Input) (output : Output) (text : List ℕ) (kept : Keeping) (options : Options) → Appends output.before output.after text
    → belongs words Done input text kept → IsCount words options → EndsCounted options input output kept
done_counted words input output text kept options all (inl replay) count = absurd (count_or_replay words options replay.0 count)
done_counted words input output text kept options all (inr (inl (rounds, gen, more))) count = absurd (count_or_gen words options rounds count gen)
done_counted words input output text kept options all (inr (inr (other, is, (bytes, input_is, (held, here, counted))))) count =
    (bytes, input_is, (text, held, here, subst (λ (o : Options). Counts o bytes text held) (same_options words other options is count) counted, all))

done_asked : (words : List (List ℕ)) (input : Input) (text : List ℕ) (kept : Keeping) → belongs words Done input text kept → IsAsked words
done_asked words input text kept (inl replay) = (Replay, replay.0, tt)
done_asked words input text kept (inr (inl (rounds, gen, more))) = (Gen rounds, gen, tt)
done_asked words input text kept (inr (inr (options, count, more))) = count_asked words options count

done_refused : Never → (words : List (List ℕ)) (input : Input) (output : Output) (text : List ℕ) (kept : Keeping) → belongs words Done input text kept
    → (bytes : List ℕ) (bad : Bad) → IsReplay words → IsFaultless input output bytes → IsBadLine bytes bad → ⊥
done_refused never words input output text kept (inl (replay, (other, is, (held, here, replays)))) bytes bad named clean bad_is =
    never bytes replays.script bad (subst (λ (l : List ℕ). IsScript l replays.script) (same_input input bytes other clean.told is) replays.read) bad_is
done_refused never words input output text kept (inr (inl (rounds, gen, more))) bytes bad named clean bad_is = gen_or_replay words rounds named gen
done_refused never words input output text kept (inr (inr (options, count, more))) bytes bad named clean bad_is = count_or_replay words options named count

pub not_both : (bytes other : List ℕ) → other ≡ bytes → has_long_word other ≡ false → has_long_word bytes ≡ true → ⊥
not_both bytes other same short long = let e : false ≡ true = sym short ∙ ap has_long_word same ∙ long in cc e

done_long : (words : List (List ℕ)) (input : Input) (output : Output) (text : List ℕ) (kept : Keeping) (options : Options) → belongs words Done input text kept
    → (bytes : List ℕ) → IsCount words options → IsFaultless input output bytes → has_long_word bytes ≡ true → ⊥
done_long words input output text kept options (inl replay) bytes count clean long = count_or_replay words options replay.0 count
done_long words input output text kept options (inr (inl (rounds, gen, more))) bytes count clean long = count_or_gen words options rounds count gen
done_long words input output text kept options (inr (inr (other, is, (read, input_is, (held, here, counted))))) bytes count clean long =
    not_both bytes read (same_input input bytes read clean.told input_is) counted.short long

pub too_many : (input : Input) (bytes read : List ℕ) → input.before ≡ Some bytes → INPUT_LIMIT < length bytes → IsInput input read → ⊥
too_many input bytes read told more is =
    let few = is.within in
    let size : length read ≡ length bytes = ap length (same_input input bytes read told is) in
    absurd (omega (arith, few, size, more))

done_many : (words : List (List ℕ)) (input : Input) (output : Output) (text : List ℕ) (kept : Keeping) → belongs words Done input text kept
    → (bytes : List ℕ) → IsReading words → IsFaultless input output bytes → INPUT_LIMIT < length bytes → ⊥
done_many words input output text kept (inl (replay, (read, is, more))) bytes reading clean many = too_many input bytes read clean.told many is
done_many words input output text kept (inr (inl (rounds, gen, more))) bytes reading clean many = reading_or_gen words rounds reading gen
done_many words input output text kept (inr (inr (options, count, (read, is, more)))) bytes reading clean many = too_many input bytes read clean.told many is

pub replayed_so : (status : Status) (words : List (List ℕ)) (input : Input) (output : Output) (kept : Keeping) → ends status words input output kept
    → IsReplay words → status ≡ Done → EndsReplayed input output kept
replayed_so Done words input output kept h replay done = done_replayed words input output h.0 kept h.1.all h.1.meaning replay
replayed_so Usage words input output kept h replay done = absurd (cc done)
replayed_so Refused words input output kept h replay done = absurd (cc done)
replayed_so ReadFault words input output kept h replay done = absurd (cc done)
replayed_so WriteFault words input output kept h replay done = absurd (cc done)
replayed_so NoMemory words input output kept h replay done = absurd (cc done)
replayed_so TooLarge words input output kept h replay done = absurd (cc done)
replayed_so OutOfHeap words input output kept h replay done = absurd (cc done)
replayed_so LongWord words input output kept h replay done = absurd (cc done)
replayed_so BadTrace words input output kept h replay done = absurd (cc done)
replayed_so NotLawful words input output kept h replay done = absurd (cc done)

pub generated_so : (status : Status) (words : List (List ℕ)) (input : Input) (output : Output) (kept : Keeping) → ends status words input output kept
    → (rounds : ℕ) → IsGen words rounds → status ≡ Done → EndsGenerated rounds output kept
generated_so Done words input output kept h rounds gen done = done_generated words input output h.0 kept rounds h.1.all h.1.meaning gen
generated_so Usage words input output kept h rounds gen done = absurd (cc done)
generated_so Refused words input output kept h rounds gen done = absurd (cc done)
generated_so ReadFault words input output kept h rounds gen done = absurd (cc done)
generated_so WriteFault words input output kept h rounds gen done = absurd (cc done)
generated_so NoMemory words input output kept h rounds gen done = absurd (cc done)
generated_so TooLarge words input output kept h rounds gen done = absurd (cc done)
generated_so OutOfHeap words input output kept h rounds gen done = absurd (cc done)
generated_so LongWord words input output kept h rounds gen done = absurd (cc done)
generated_so BadTrace words input output kept h rounds gen done = absurd (cc done)
generated_so NotLawful words input output kept h rounds gen done = absurd (cc done)

pub counted_so : (status : Status) (words : List (List ℕ)) (input : Input) (output : Output) (kept : Keeping) → ends status words input output kept
    → (options : Options) → IsCount words options → status ≡ Done → EndsCounted options input output kept
counted_so Done words input output kept h options count done = done_counted words input output h.0 kept options h.1.all h.1.meaning count
counted_so Usage words input output kept h options count done = absurd (cc done)
counted_so Refused words input output kept h options count done = absurd (cc done)
counted_so ReadFault words input output kept h options count done = absurd (cc done)
counted_so WriteFault words input output kept h options count done = absurd (cc done)
counted_so NoMemory words input output kept h options count done = absurd (cc done)
counted_so TooLarge words input output kept h options count done = absurd (cc done)
counted_so OutOfHeap words input output kept h options count done = absurd (cc done)
counted_so LongWord words input output kept h options count done = absurd (cc done)
counted_so BadTrace words input output kept h options count done = absurd (cc done)
counted_so NotLawful words input output kept h options count done = absurd (cc done)

pub other_words : (status : Status) (words : List (List ℕ)) (input : Input) (output : Output) (kept : Keeping) → ends status words input output kept
    → (IsAsked words → ⊥) → (status ≡ Usage) ⊎ (status ≡ WriteFault) ⊎ (status ≡ NoMemory)
other_words Done words input output kept h other = absurd (other (done_asked words input h.0 kept h.1.meaning))
other_words Usage words input output kept h other = inl refl
other_words Refused words input output kept h other = absurd (other (Replay, h.1.meaning.0, tt))
other_words ReadFault words input output kept h other = absurd (other (reading_asked words h.1.meaning.0))
other_words WriteFault words input output kept h other = inr (inl refl)
other_words NoMemory words input output kept h other = inr (inr refl)
other_words TooLarge words input output kept h other = absurd (other (reading_asked words h.1.meaning.0))
other_words OutOfHeap words input output kept h other = absurd (other (count_asked words h.1.meaning.0.0 h.1.meaning.0.1))
other_words LongWord words input output kept h other = absurd (other (count_asked words h.1.meaning.0.0 h.1.meaning.0.1))
other_words BadTrace words input output kept h other = absurd h.1.meaning
other_words NotLawful words input output kept h other = absurd h.1.meaning

pub script_ends : Never → (status : Status) (words : List (List ℕ)) (input : Input) (output : Output) (kept : Keeping) → ends status words input output kept
    → (bytes : List ℕ) (script : ScriptContents) → IsReplay words → IsFaultless input output bytes → length bytes ≤ INPUT_LIMIT → IsScript bytes script → (status ≡ Done) ⊎ (status ≡ NoMemory)
script_ends never Done words input output kept h bytes script named clean fits is = inl refl
script_ends never Usage words input output kept h bytes script named clean fits is = absurd (h.1.meaning.0 (Replay, named, tt))
script_ends never Refused words input output kept h bytes script named clean fits is =
    let told = h.1.meaning.1 in
    absurd (never bytes script told.2.bad is (subst (λ (l : List ℕ). IsBadLine l told.2.bad) (same_input input bytes told.0 clean.told told.1) told.2.refused))
script_ends never ReadFault words input output kept h bytes script named clean fits is = absurd (clean.read_well h.1.meaning.1)
script_ends never WriteFault words input output kept h bytes script named clean fits is = absurd (clean.written_well h.1.3.rose)
script_ends never NoMemory words input output kept h bytes script named clean fits is = inr refl
script_ends never TooLarge words input output kept h bytes script named clean fits is = absurd (not_large input bytes clean.told fits h.1.meaning.1)
script_ends never OutOfHeap words input output kept h bytes script named clean fits is = absurd (count_or_replay words h.1.meaning.0.0 named h.1.meaning.0.1)
script_ends never LongWord words input output kept h bytes script named clean fits is = absurd (count_or_replay words h.1.meaning.0.0 named h.1.meaning.0.1)
script_ends never BadTrace words input output kept h bytes script named clean fits is = absurd h.1.meaning
script_ends never NotLawful words input output kept h bytes script named clean fits is = absurd h.1.meaning

pub refusal_ends : Never → (status : Status) (words : List (List ℕ)) (input : Input) (output : Output) (kept : Keeping) → ends status words input output kept
    → (bytes : List ℕ) (bad : Bad) → IsReplay words → IsFaultless input output bytes → length bytes ≤ INPUT_LIMIT → IsBadLine bytes bad → (status ≡ Refused) ⊎ (status ≡ NoMemory)
refusal_ends never Done words input output kept h bytes bad named clean fits is = absurd (done_refused never words input output h.0 kept h.1.meaning bytes bad named clean is)
refusal_ends never Usage words input output kept h bytes bad named clean fits is = absurd (h.1.meaning.0 (Replay, named, tt))
refusal_ends never Refused words input output kept h bytes bad named clean fits is = inl refl
refusal_ends never ReadFault words input output kept h bytes bad named clean fits is = absurd (clean.read_well h.1.meaning.1)
refusal_ends never WriteFault words input output kept h bytes bad named clean fits is = absurd (clean.written_well h.1.3.rose)
refusal_ends never NoMemory words input output kept h bytes bad named clean fits is = inr refl
refusal_ends never TooLarge words input output kept h bytes bad named clean fits is = absurd (not_large input bytes clean.told fits h.1.meaning.1)
refusal_ends never OutOfHeap words input output kept h bytes bad named clean fits is = absurd (count_or_replay words h.1.meaning.0.0 named h.1.meaning.0.1)
refusal_ends never LongWord words input output kept h bytes bad named clean fits is = absurd (count_or_replay words h.1.meaning.0.0 named h.1.meaning.0.1)
refusal_ends never BadTrace words input output kept h bytes bad named clean fits is = absurd h.1.meaning
refusal_ends never NotLawful words input output kept h bytes bad named clean fits is = absurd h.1.meaning

pub gen_ends : (status : Status) (words : List (List ℕ)) (input : Input) (output : Output) (kept : Keeping) → ends status words input output kept
    → (rounds : ℕ) → IsGen words rounds → (Rose output.faults_before output.faults_after → ⊥) → (status ≡ Done) ⊎ (status ≡ NoMemory)
gen_ends Done words input output kept h rounds gen well = inl refl
gen_ends Usage words input output kept h rounds gen well = absurd (h.1.meaning.0 (Gen rounds, gen, tt))
gen_ends Refused words input output kept h rounds gen well = absurd (gen_or_replay words rounds h.1.meaning.0 gen)
gen_ends ReadFault words input output kept h rounds gen well = absurd (reading_or_gen words rounds h.1.meaning.0 gen)
gen_ends WriteFault words input output kept h rounds gen well = absurd (well h.1.3.rose)
gen_ends NoMemory words input output kept h rounds gen well = inr refl
gen_ends TooLarge words input output kept h rounds gen well = absurd (reading_or_gen words rounds h.1.meaning.0 gen)
gen_ends OutOfHeap words input output kept h rounds gen well = absurd (count_or_gen words h.1.meaning.0.0 rounds h.1.meaning.0.1 gen)
gen_ends LongWord words input output kept h rounds gen well = absurd (count_or_gen words h.1.meaning.0.0 rounds h.1.meaning.0.1 gen)
gen_ends BadTrace words input output kept h rounds gen well = absurd h.1.meaning
gen_ends NotLawful words input output kept h rounds gen well = absurd h.1.meaning

pub count_ends : (status : Status) (words : List (List ℕ)) (input : Input) (output : Output) (kept : Keeping) → ends status words input output kept
    → (options : Options) (bytes : List ℕ) → IsCount words options → IsFaultless input output bytes → length bytes ≤ INPUT_LIMIT → has_long_word bytes ≡ false → (status ≡ Done) ⊎ (status ≡ OutOfHeap) ⊎ (status ≡ NoMemory)
count_ends Done words input output kept h options bytes count clean fits short = inl refl
count_ends Usage words input output kept h options bytes count clean fits short = absurd (h.1.meaning.0 (count_asked words options count))
count_ends Refused words input output kept h options bytes count clean fits short = absurd (count_or_replay words options h.1.meaning.0 count)
count_ends ReadFault words input output kept h options bytes count clean fits short = absurd (clean.read_well h.1.meaning.1)
count_ends WriteFault words input output kept h options bytes count clean fits short = absurd (clean.written_well h.1.3.rose)
count_ends NoMemory words input output kept h options bytes count clean fits short = inr (inr refl)
count_ends TooLarge words input output kept h options bytes count clean fits short = absurd (not_large input bytes clean.told fits h.1.meaning.1)
count_ends OutOfHeap words input output kept h options bytes count clean fits short = inr (inl refl)
count_ends LongWord words input output kept h options bytes count clean fits short =
    let told = h.1.meaning.0.2 in
    absurd (not_both told.0 bytes (sym (same_input input bytes told.0 clean.told told.1)) short told.2.long)
count_ends BadTrace words input output kept h options bytes count clean fits short = absurd h.1.meaning
count_ends NotLawful words input output kept h options bytes count clean fits short = absurd h.1.meaning

pub long_ends : (status : Status) (words : List (List ℕ)) (input : Input) (output : Output) (kept : Keeping) → ends status words input output kept
    → (options : Options) (bytes : List ℕ) → IsCount words options → IsFaultless input output bytes → length bytes ≤ INPUT_LIMIT → has_long_word bytes ≡ true → (status ≡ LongWord) ⊎ (status ≡ NoMemory)
long_ends Done words input output kept h options bytes count clean fits long = absurd (done_long words input output h.0 kept options h.1.meaning bytes count clean long)
long_ends Usage words input output kept h options bytes count clean fits long = absurd (h.1.meaning.0 (count_asked words options count))
long_ends Refused words input output kept h options bytes count clean fits long = absurd (count_or_replay words options h.1.meaning.0 count)
long_ends ReadFault words input output kept h options bytes count clean fits long = absurd (clean.read_well h.1.meaning.1)
long_ends WriteFault words input output kept h options bytes count clean fits long = absurd (clean.written_well h.1.3.rose)
long_ends NoMemory words input output kept h options bytes count clean fits long = inr refl
long_ends TooLarge words input output kept h options bytes count clean fits long = absurd (not_large input bytes clean.told fits h.1.meaning.1)
long_ends OutOfHeap words input output kept h options bytes count clean fits long =
    let out = h.1.meaning.0.2 in
    absurd (not_both bytes out.0 (same_input input bytes out.0 clean.told out.1) out.2.short long)
long_ends LongWord words input output kept h options bytes count clean fits long = inl refl
long_ends BadTrace words input output kept h options bytes count clean fits long = absurd h.1.meaning
long_ends NotLawful words input output kept h options bytes count clean fits long = absurd h.1.meaning

pub excess_ends : (status : Status) (words : List (List ℕ)) (input : Input) (output : Output) (kept : Keeping) → ends status words input output kept
    → (bytes : List ℕ) → IsReading words → IsFaultless input output bytes → INPUT_LIMIT < length bytes → (status ≡ TooLarge) ⊎ (status ≡ NoMemory)
excess_ends Done words input output kept h bytes reading clean many = absurd (done_many words input output h.0 kept h.1.meaning bytes reading clean many)
excess_ends Usage words input output kept h bytes reading clean many = absurd (h.1.meaning.0 (reading_asked words reading))
excess_ends Refused words input output kept h bytes reading clean many = absurd (too_many input bytes h.1.meaning.1.0 clean.told many h.1.meaning.1.1)
excess_ends ReadFault words input output kept h bytes reading clean many = absurd (clean.read_well h.1.meaning.1)
excess_ends WriteFault words input output kept h bytes reading clean many = absurd (clean.written_well h.1.3.rose)
excess_ends NoMemory words input output kept h bytes reading clean many = inr refl
excess_ends TooLarge words input output kept h bytes reading clean many = inl refl
excess_ends OutOfHeap words input output kept h bytes reading clean many = absurd (too_many input bytes h.1.meaning.0.2.0 clean.told many h.1.meaning.0.2.1)
excess_ends LongWord words input output kept h bytes reading clean many = absurd (too_many input bytes h.1.meaning.0.2.0 clean.told many h.1.meaning.0.2.1)
excess_ends BadTrace words input output kept h bytes reading clean many = absurd h.1.meaning
excess_ends NotLawful words input output kept h bytes reading clean many = absurd h.1.meaning

-- what a success tells, where the result is no error
pub of_success : {T E : Type 0} (result : Result T E) (failed : Bool) (P : Type 0) → OnOk result P → failed ≡ is_err result → failed ≡ false → P
of_success (Ok x) failed P h is well = h
of_success (Err e) failed P h is well = let t : true ≡ false = sym is ∙ well in absurd (cc t)
