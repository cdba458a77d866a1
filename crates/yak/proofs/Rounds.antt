-- Generated scripts: lines that are put behind others, and how long they are.
use Rattle.std.proofs.Common.{◌≡◌, ◌≤◌, ◌<◌, ◌+◌, ◌-◌, ◌*◌, ◌/◌, ◌%◌, ◌^◌, ℕ, zero, suc, List, [], ◌∷◌, ◌++◌, codes, length, take, refl, sym, ap, ◌∙◌, arith, append_assoc}
use Rattle.std.specs.Prelude.{All, decimal}
use Rattle.std.proofs.lemmas.List.Elements.{All-nil, All-cons}
use Rattle.std.proofs.lemmas.List.{length-append, length-take-le}
use Rattle.std.proofs.lemmas.Fmt.{length-decimal-le}
use Rattle.object_layout.specs.declared.calls.Call.{Call}
use Rattle.object_layout.specs.declared.calls.Call.TheVariants.{Null, Pop, New, Load, Store, Get, Begin, End, Collect, Census}
use Rattle.object_layout.specs.Calls.{IsCall}
use Rattle.yak_io.specs.declared.TheConstants.{INPUT_LIMIT}
use Rattle.script_text.specs.declared.scripts.Line.{Line}
use Rattle.script_text.specs.Commands.{IsWithin, Number, command_words, index, number_words, numbers_of, word_of}
use Rattle.script_text.specs.Printing.{AreWithin, IsValid, Rises, lines_text, script_text, spaced}
use Rattle.script_text.specs.Scripts.{IsScript}
use Rattle.script_text.proofs.Spelling.{printed_script}
use Rattle.yak.specs.declared.forms.TheConstants.{MAX_ROUNDS}
use Rattle.yak.specs.Generator.{Command, commands, generated, kind, next_number, number_at, numbered, round, rounds}

-- ---- lines behind lines

numbered_more : (number : ℕ) (first second : List Command) → numbered number (first ++ second) ≡ numbered number first ++ numbered (number + length first) second
numbered_more number [] second = let e : number + length {A = Command} [] ≡ number = omega arith in ap (λ (n : ℕ). numbered n second) (sym e)
numbered_more number (c ∷ first) second =
    let e : number + 1 + length first ≡ number + length (c ∷ first) = omega arith in
    ap (λ (l : List Line). record { number = number; thread = c.0; call = c.1 } ∷ l) (numbered_more (number + 1) first second ∙ ap (λ (n : ℕ). numbered (number + 1) first ++ numbered n second) e)

pub length_numbered : (number : ℕ) (first : List Command) → length (numbered number first) ≡ length first
length_numbered number [] = refl
length_numbered number (c ∷ first) = let e = length_numbered (number + 1) first in omega (arith, e)

-- commands on the lines behind some, and more of them on the next
pub lines_more : (before now next : List Line) (first second : List Command) → now ≡ before ++ numbered (length before + 2) first → next ≡ now ++ numbered (length now + 2) second
    → next ≡ before ++ numbered (length before + 2) (first ++ second)
lines_more before now next first second is more =
    let few : length now + 2 ≡ length before + 2 + length first =
    (let e = ap length is ∙ length-append before (numbered (length before + 2) first) in
    let l = length_numbered (length before + 2) first in
    omega (arith, e, l)) in
    more ∙ ap (λ (n : ℕ). now ++ numbered n second) few ∙ ap (λ (l : List Line). l ++ numbered (length before + 2 + length first) second) is
    ∙ append_assoc before (numbered (length before + 2) first) (numbered (length before + 2 + length first) second)
    ∙ ap (λ (l : List Line). before ++ l) (sym (numbered_more (length before + 2) first second))

pub lines_room : (before now : List Line) (first : List Command) → now ≡ before ++ numbered (length before + 2) first → length now ≡ length before + length first
lines_room before now first is =
    let e = ap length is ∙ length-append before (numbered (length before + 2) first) in
    let l = length_numbered (length before + 2) first in
    omega (arith, e, l)

pub lines_fit : (before now : List Line) (first : List Command) (i : ℕ) → now ≡ before ++ numbered (length before + 2) (take i first) → i < length first → length before + length first < 2 ^ 30 → length now < 2 ^ 30
lines_fit before now first i is inside fits =
    let e = lines_room before now (take i first) is in
    let l = length-take-le i first (omega (arith, inside)) in
    omega (arith, e, l, inside, fits)

-- the same from the first line on
pub lines_on : (now next : List Line) (first second : List Command) → now ≡ numbered 2 first → next ≡ now ++ numbered (length now + 2) second → next ≡ numbered 2 (first ++ second)
lines_on now next first second is more = lines_more [] now next first second is more

pub lines_few : (now : List Line) (first : List Command) → now ≡ numbered 2 first → length now ≡ length first
lines_few now first is = let e = lines_room [] now first is in omega (arith, e)

next_rounds : (seed before : ℕ) → rounds seed (before + 1) ≡ rounds seed before ++ round (before % 4 + 1) (number_at seed (before + 1))
next_rounds seed before = let e : before + 1 ≡ suc before = omega arith in rw e refl

pub lines_of_round : (now next : List Line) (seed before x : ℕ) → x ≡ number_at seed (before + 1) → now ≡ numbered 2 (rounds seed before)
    → next ≡ now ++ numbered (length now + 2) (round (before % 4 + 1) x) → next ≡ numbered 2 (rounds seed (before + 1))
lines_of_round now next seed before x at is more =
    lines_on now next (rounds seed before) (round (before % 4 + 1) x) is more
    ∙ ap (λ (n : ℕ). numbered 2 (rounds seed before ++ round (before % 4 + 1) n)) at ∙ ap (numbered 2) (sym (next_rounds seed before))

pub number_after : (seed before x now : ℕ) → now ≡ next_number x → x ≡ number_at seed before → now ≡ number_at seed (before + 1)
number_after seed before x now next at =
    let e : suc before ≡ before + 1 = omega arith in
    next ∙ ap next_number at ∙ ap (number_at seed) e

-- ---- how many commands there are

pub last_kind : (t u f k r : ℕ) → (r ≡ 0 → ⊥) → (r ≡ 1 → ⊥) → kind t u f k r ≡ kind t u f k 2
last_kind t u f k zero a b = absurd (a refl)
last_kind t u f k (suc zero) a b = absurd (b refl)
last_kind t u f k (suc (suc r)) a b = refl

few_of_kind : (t u f k r : ℕ) → length (kind t u f k r) ≤ 11
few_of_kind t u f k zero = omega arith
few_of_kind t u f k (suc zero) = omega arith
few_of_kind t u f k (suc (suc r)) = omega arith

pub few_rounds : (seed before : ℕ) → length (rounds seed before) ≤ 11 * before
few_rounds seed zero = omega arith
few_rounds seed (suc before) =
    let t = before % 4 + 1 in
    let x = number_at seed (suc before) in
    let l = length-append (rounds seed before) (round t x) in
    let e = few_rounds seed before in
    let k = few_of_kind t (t % 4 + 1) (x / 3 % 16) (x / 48 % 20) (x % 3) in
    omega (arith, l, e, k)

-- ---- how long they are

-- the bytes of words, each with one more byte
total : List (List ℕ) → ℕ
total [] = 0
total (word ∷ words) = length word + 1 + total words

digit : (n : ℕ) → n < 10 → length (decimal n) ≤ 1
digit n small = length-decimal-le 1 n (omega arith) (omega (arith, small)) (omega (arith, small))

digits : (n : ℕ) → n < 100 → length (decimal n) ≤ 2
digits n small = length-decimal-le 2 n (omega arith) (omega (arith, small)) (omega (arith, small))

-- a call whose word and numbers are short and within their limits
record IsBrief (asked : Call) : Type 0 where
  short : total (number_words (numbers_of asked)) + length (word_of asked) ≤ 12
  within : All IsWithin (numbers_of asked)

-- a command that a heap of 4 threads can run, and whose line has at most 15 bytes
record IsFine (command : Command) : Type 0 where
  some : 1 ≤ command.0
  few : command.0 ≤ 4
  call : IsCall command.1
  short : total (command_words command.0 command.1) ≤ 15
  within : All IsWithin (numbers_of command.1)

fine : (t : ℕ) → 1 ≤ t → t ≤ 4 → (asked : Call) → IsCall asked → IsBrief asked → IsFine (t, asked)
unfolding total
fine t some few asked is brief =
    let d = digit t (omega (arith, few)) in
    let short = brief.short in
    record { some = some; few = few; call = is; short = omega (arith, d, short); within = brief.within }

none_within : All IsWithin []
none_within = All-nil IsWithin

one_within : (n : ℕ) → n ≤ 4294967295 → (more : List Number) → All IsWithin more → All IsWithin (index n ∷ more)
one_within n few more within = All-cons IsWithin (index n) more few within

new_short : (k : ℕ) → k < 20 → IsBrief (New k)
unfolding total
new_short k small =
    let d = digits k (omega (arith, small)) in
    record { short = omega (arith, d); within = one_within k (omega (arith, small)) [] none_within }

store_short : (s f x : ℕ) → s < 10 → f < 16 → x < 10 → IsBrief (Store s f x)
unfolding total
store_short s f x a b c =
    let d = digit s a in
    let e = digits f (omega (arith, b)) in
    let g = digit x c in
    record {
      short = omega (arith, d, e, g);
      within = one_within s (omega (arith, a)) (index f ∷ index x ∷ []) (one_within f (omega (arith, b)) (index x ∷ []) (one_within x (omega (arith, c)) [] none_within));
    }

load_short : (f : ℕ) → f < 16 → IsBrief (Load 0 f)
unfolding total
load_short f b =
    let d = digit 0 (omega arith) in
    let e = digits f (omega (arith, b)) in
    record { short = omega (arith, d, e); within = one_within 0 (omega arith) (index f ∷ []) (one_within f (omega (arith, b)) [] none_within) }

get_short : IsBrief (Get 1)
unfolding total
get_short = let d = digit 1 (omega arith) in record { short = omega (arith, d); within = one_within 1 (omega arith) [] none_within }

begin_short : IsBrief Begin
unfolding total
begin_short = record { short = omega arith; within = none_within }

end_short : IsBrief End
unfolding total
end_short = record { short = omega arith; within = none_within }

pop_short : IsBrief Pop
unfolding total
pop_short = record { short = omega arith; within = none_within }

null_short : IsBrief Null
unfolding total
null_short = record { short = omega arith; within = none_within }

collect_short : IsBrief Collect
unfolding total
collect_short = record { short = omega arith; within = none_within }

census_short : IsBrief Census
unfolding total
census_short = record { short = omega arith; within = none_within }

-- commands that are fine
AllFine : List Command → Type 0
AllFine [] = Unit {0}
AllFine (command ∷ more) = IsFine command × AllFine more

all_fine : (first second : List Command) → AllFine first → AllFine second → AllFine (first ++ second)
unfolding AllFine
all_fine [] second a b = b
all_fine (c ∷ first) second a b = (a.0, all_fine first second a.1 b)

fine_kind : (t u f k r : ℕ) → 1 ≤ t → t ≤ 4 → 1 ≤ u → u ≤ 4 → f < 16 → k < 20 → AllFine (kind t u f k r)
unfolding AllFine
fine_kind t u f k zero a b c d small few = (
  fine t a b Begin tt begin_short,
  (
    fine t a b (New 3) tt (new_short 3 (omega arith)),
    (
      fine t a b (New k) tt (new_short k few),
      (
        fine t a b (Store 1 0 2) tt (store_short 1 0 2 (omega arith) (omega arith) (omega arith)),
        (
          fine t a b (Store 0 f 1) tt (store_short 0 f 1 (omega arith) small (omega arith)),
          (fine t a b End tt end_short, (fine t a b Pop tt pop_short, (fine t a b Pop tt pop_short, tt))),
        ),
      ),
    ),
  ),
)
fine_kind t u f k (suc zero) a b c d small few =
    (fine t a b Begin tt begin_short, (fine t a b (New k) tt (new_short k few), (fine t a b Pop tt pop_short, (fine t a b End tt end_short, tt))))
fine_kind t u f k (suc (suc r)) a b c d small few = (
  fine t a b Begin tt begin_short,
  (
    fine t a b (New k) tt (new_short k few),
    (
      fine t a b (Store 0 f 1) tt (store_short 0 f 1 (omega arith) small (omega arith)),
      (
        fine u c d (Load 0 f) tt (load_short f small),
        (
          fine t a b Null tt null_short,
          (
            fine t a b (Store 0 f 2) tt (store_short 0 f 2 (omega arith) small (omega arith)),
            (fine t a b Pop tt pop_short, (fine t a b Pop tt pop_short, (fine t a b End tt end_short, (fine u c d (Get 1) tt get_short, (fine u c d Pop tt pop_short, tt))))),
          ),
        ),
      ),
    ),
  ),
)

fine_round : (t x : ℕ) → 1 ≤ t → t ≤ 4 → AllFine (round t x)
fine_round t x some few =
    fine_kind t (t % 4 + 1) (x / 3 % 16) (x / 48 % 20) (x % 3) some few (omega arith) (omega arith) (omega arith) (omega arith)

fine_rounds : (seed before : ℕ) → AllFine (rounds seed before)
unfolding AllFine
fine_rounds seed zero = tt
fine_rounds seed (suc before) =
    all_fine (rounds seed before) (round (before % 4 + 1) (number_at seed (suc before))) (fine_rounds seed before)
    (fine_round (before % 4 + 1) (number_at seed (suc before)) (omega arith) (omega arith))

fine_commands : (seed : ℕ) → AllFine (commands seed)
unfolding AllFine
fine_commands seed =
    all_fine (rounds seed seed) ((1, Collect) ∷ (1, Census) ∷ []) (fine_rounds seed seed)
    (fine 1 (omega arith) (omega arith) Collect tt collect_short, (fine 1 (omega arith) (omega arith) Census tt census_short, tt))

-- ---- the script and its text

rises : (number : ℕ) (first : List Command) → AllFine first → Rises 4 number (numbered number first)
unfolding AllFine
rises number [] h = tt
rises number (c ∷ first) h = (omega arith, h.0.some, h.0.few, h.0.call, rises (number + 1) first h.1)

pub valid : (seed : ℕ) → IsValid (generated seed)
valid seed = record {
  possible = record { some_pages = omega arith; few_pages = omega arith; some_threads = omega arith; few_threads = omega arith };
  rise = rises 2 (commands seed) (fine_commands seed);
}

all_within : (number : ℕ) (first : List Command) → AllFine first → AreWithin (numbered number first)
unfolding AllFine
all_within number [] h = tt
all_within number (c ∷ first) h = (h.0.within, all_within (number + 1) first h.1)

-- its text is that script
pub reads : (seed : ℕ) → IsScript (script_text (generated seed)) (generated seed)
reads seed = printed_script (generated seed) (valid seed) (all_within 2 (commands seed) (fine_commands seed))

spaced_total : (word : List ℕ) (words : List (List ℕ)) → length (spaced (word ∷ words)) + 1 ≡ total (word ∷ words)
unfolding total
spaced_total word [] = omega arith
spaced_total word (next ∷ words) =
    let l = length-append word (32 ∷ spaced (next ∷ words)) in
    let e = spaced_total next words in
    omega (arith, l, e)

lines_short : (number : ℕ) (first : List Command) → AllFine first → length (lines_text number (numbered number first)) ≤ 15 * length first
unfolding AllFine
lines_short number [] h = omega arith
lines_short number (c ∷ first) h =
    let one = h.0.short in
    let more = lines_short (number + 1) first h.1 in
    let words = spaced_total (decimal c.0) (word_of c.1 ∷ number_words (numbers_of c.1)) in
    let l = length-append (spaced (command_words c.0 c.1)) (10 ∷ lines_text (number + 1) (numbered (number + 1) first)) in
    let none : number - number ≡ 0 = omega arith in
    rw none (omega (arith, one, more, words, l))

pub text_short : (seed : ℕ) → seed ≤ MAX_ROUNDS → length (script_text (generated seed)) ≤ INPUT_LIMIT
unfolding total
text_short seed few =
    let body = lines_short 2 (commands seed) (fine_commands seed) in
    let count = length-append (rounds seed seed) ((1, Collect) ∷ (1, Census) ∷ []) in
    let some = few_rounds seed seed in
    let words = spaced_total (codes "heap") (decimal 64 ∷ decimal 4 ∷ []) in
    let pages = digits 64 (omega arith) in
    let threads = digit 4 (omega arith) in
    let l = length-append (spaced (codes "heap" ∷ decimal 64 ∷ decimal 4 ∷ [])) (10 ∷ lines_text 2 (numbered 2 (commands seed))) in
    omega (arith, body, count, some, words, pages, threads, l, few)

pub some_lines : (seed : ℕ) → 2 ≤ length (generated seed).lines
some_lines seed =
    let e = length_numbered 2 (commands seed) in
    let count = length-append (rounds seed seed) ((1, Collect) ∷ (1, Census) ∷ []) in
    omega (arith, e, count)

pub few_lines : (seed : ℕ) → seed ≤ MAX_ROUNDS → length (generated seed).lines < 2 ^ 32
few_lines seed few =
    let e = length_numbered 2 (commands seed) in
    let count = length-append (rounds seed seed) ((1, Collect) ∷ (1, Census) ∷ []) in
    let some = few_rounds seed seed in
    omega (arith, e, count, some, few)
