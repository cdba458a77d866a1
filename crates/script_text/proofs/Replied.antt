-- The words of replies: each reply has its own, and they are those of its text.
use Rattle.std.proofs.Common.{◌≡◌, ◌<◌, ◌^◌, ℕ, Bool, true, false, leb, List, [], length, get_or, refl, sym, ap, ◌∙◌, if◌then◌else◌, arith}
use Rattle.std.specs.Prelude.{codes, decimal}
use Rattle.std.specs.Str.{bytes_eq}
use Rattle.std.specs.Str.Parse.{digits_value}
use Rattle.std.proofs.lemmas.Fmt.{decimal_is_IsNumeral}
use Rattle.std.proofs.lemmas.List.{append_assoc}
use Rattle.object_layout.specs.declared.replies.Refusal.{Refusal}
use Rattle.object_layout.specs.declared.replies.Refusal.TheVariants.{BadSlot, NotAReference, BadField, StackFull, StackEmpty, TooDeep, NoEpoch, TooLong, NamesSpent}
use Rattle.object_layout.specs.declared.replies.Reply.{Reply}
use Rattle.object_layout.specs.declared.replies.Reply.TheVariants.{Ok, Null, Int, Object, Yes, No, Ended, Pages, OutOfHeap, Refused}
use Rattle.script_text.specs.Printing.{spaced}
use Rattle.script_text.specs.Replies.{IsReply, refusal_text, refusal_words, reply_text, reply_words}
use Rattle.script_text.specs.Words.{words}
use Rattle.script_text.proofs.Spelling.{AreWords, IsWord, decimal_word, word_by, words_again}

-- ---- the reply of words

value : List ℕ → ℕ
value digits = digits_value 10 digits

value_is : (n : ℕ) → n < 2 ^ 64 → value (decimal n) ≡ n
unfolding value
value_is n small = (decimal_is_IsNumeral n small).1

word_at : List (List ℕ) → ℕ → List ℕ
word_at ws i = get_or ws i []

is_at : List (List ℕ) → ℕ → List ℕ → Bool
unfolding word_at
is_at ws i word = bytes_eq (word_at ws i) word

refusal_of : List (List ℕ) → Refusal
refusal_of ws =
    if is_at ws 0 (codes "bad") then (if is_at ws 1 (codes "slot") then BadSlot else BadField)
    else if is_at ws 0 (codes "not") then NotAReference
    else if is_at ws 0 (codes "stack") then (if is_at ws 1 (codes "full") then StackFull else StackEmpty)
    else if is_at ws 0 (codes "too") then (if is_at ws 1 (codes "deep") then TooDeep else TooLong)
    else if is_at ws 0 (codes "no") then NoEpoch
    else NamesSpent

is_plain : List (List ℕ) → Bool
is_plain ws = leb (length ws) 1

reply_of : List (List ℕ) → Reply
reply_of ws =
    if is_at ws 0 (codes "ok") then (if is_plain ws then Ok else Ended (value (word_at ws 2)) (leb 4 (length ws)))
    else if is_at ws 0 (codes "null") then Null
    else if is_at ws 0 (codes "int") then Int (value (word_at ws 1))
    else if is_at ws 0 (codes "ref") then Object (value (word_at ws 1))
    else if is_at ws 0 (codes "yes") then Yes
    else if is_at ws 0 (codes "no") then (if is_plain ws then No else Refused NoEpoch)
    else if is_at ws 0 (codes "pages") then Pages (value (word_at ws 2)) (value (word_at ws 4)) (value (word_at ws 6))
    else if is_at ws 0 (codes "out") then OutOfHeap
    else Refused (refusal_of ws)

refusal_again : (refusal : Refusal) → reply_of (refusal_words refusal) ≡ Refused refusal
unfolding reply_of refusal_of is_at word_at is_plain
refusal_again BadSlot = refl
refusal_again NotAReference = refl
refusal_again BadField = refl
refusal_again StackFull = refl
refusal_again StackEmpty = refl
refusal_again TooDeep = refl
refusal_again NoEpoch = refl
refusal_again TooLong = refl
refusal_again NamesSpent = refl

pages_of : ℕ → ℕ → ℕ → Reply
pages_of free region control = Pages free region control

reply_again : (reply : Reply) → IsReply reply → reply_of (reply_words reply) ≡ reply
unfolding reply_of is_at word_at is_plain
reply_again Ok is = refl
reply_again Null is = refl
reply_again (Int number) is = ap Int (value_is number is)
reply_again (Object fields) is = ap Object (value_is fields (omega (arith, is)))
reply_again Yes is = refl
reply_again No is = refl
reply_again (Ended moved false) is = ap (λ (n : ℕ). Ended n false) (value_is moved is)
reply_again (Ended moved true) is = ap (λ (n : ℕ). Ended n true) (value_is moved is)
reply_again (Pages free region control) is =
    let one : value (decimal free) ≡ free = value_is free (omega (arith, is.0)) in
    let two : value (decimal region) ≡ region = value_is region (omega (arith, is.1)) in
    let three : value (decimal control) ≡ control = value_is control (omega (arith, is.2)) in
    ap (λ (n : ℕ). Pages n (value (decimal region)) (value (decimal control))) one
    ∙ ap (λ (n : ℕ). Pages free n (value (decimal control))) two ∙ ap (λ (n : ℕ). Pages free region n) three
reply_again OutOfHeap is = refl
reply_again (Refused refusal) is = refusal_again refusal

-- no two replies have the same words
pub same_reply : (a b : Reply) → IsReply a → IsReply b → reply_words a ≡ reply_words b → a ≡ b
same_reply a b one other e = sym (reply_again a one) ∙ ap reply_of e ∙ reply_again b other

-- ---- the words of a text

are_refusal : (refusal : Refusal) → AreWords (refusal_words refusal)
are_refusal BadSlot = (word_by _ refl, (word_by _ refl, tt))
are_refusal NotAReference = (word_by _ refl, (word_by _ refl, (word_by _ refl, tt)))
are_refusal BadField = (word_by _ refl, (word_by _ refl, tt))
are_refusal StackFull = (word_by _ refl, (word_by _ refl, tt))
are_refusal StackEmpty = (word_by _ refl, (word_by _ refl, tt))
are_refusal TooDeep = (word_by _ refl, (word_by _ refl, tt))
are_refusal NoEpoch = (word_by _ refl, (word_by _ refl, tt))
are_refusal TooLong = (word_by _ refl, (word_by _ refl, tt))
are_refusal NamesSpent = (word_by _ refl, (word_by _ refl, tt))

small : (n : ℕ) → n < 2 ^ 32 → IsWord (decimal n)
small n lt = decimal_word n (omega (arith, lt))

pub are_reply : (reply : Reply) → IsReply reply → AreWords (reply_words reply)
are_reply Ok is = (word_by _ refl, tt)
are_reply Null is = (word_by _ refl, tt)
are_reply (Int number) is = (word_by _ refl, (decimal_word number is, tt))
are_reply (Object fields) is = (word_by _ refl, (decimal_word fields (omega (arith, is)), tt))
are_reply Yes is = (word_by _ refl, tt)
are_reply No is = (word_by _ refl, tt)
are_reply (Ended moved false) is = (word_by _ refl, (word_by _ refl, (decimal_word moved is, tt)))
are_reply (Ended moved true) is = (word_by _ refl, (word_by _ refl, (decimal_word moved is, (word_by _ refl, tt))))
are_reply (Pages free region control) is = (word_by _ refl, (word_by _ refl, (small free is.0, (word_by _ refl, (small region is.1, (word_by _ refl, (small control is.2, tt)))))))
are_reply OutOfHeap is = (word_by _ refl, (word_by _ refl, (word_by _ refl, tt)))
are_reply (Refused refusal) is = are_refusal refusal

spaced_refusal : (refusal : Refusal) → spaced (refusal_words refusal) ≡ refusal_text refusal
spaced_refusal BadSlot = refl
spaced_refusal NotAReference = refl
spaced_refusal BadField = refl
spaced_refusal StackFull = refl
spaced_refusal StackEmpty = refl
spaced_refusal TooDeep = refl
spaced_refusal NoEpoch = refl
spaced_refusal TooLong = refl
spaced_refusal NamesSpent = refl

-- a reply's text is its words, parted by a space
pub spaced_reply : (reply : Reply) → spaced (reply_words reply) ≡ reply_text reply
spaced_reply Ok = refl
spaced_reply Null = refl
spaced_reply (Int number) = refl
spaced_reply (Object fields) = refl
spaced_reply Yes = refl
spaced_reply No = refl
spaced_reply (Ended moved false) = refl
spaced_reply (Ended moved true) = refl
spaced_reply (Pages free region control) = simp append_assoc
spaced_reply OutOfHeap = refl
spaced_reply (Refused refusal) = spaced_refusal refusal

refusal_some : (refusal : Refusal) → 0 < length (refusal_words refusal)
refusal_some BadSlot = omega arith
refusal_some NotAReference = omega arith
refusal_some BadField = omega arith
refusal_some StackFull = omega arith
refusal_some StackEmpty = omega arith
refusal_some TooDeep = omega arith
refusal_some NoEpoch = omega arith
refusal_some TooLong = omega arith
refusal_some NamesSpent = omega arith

pub reply_some : (reply : Reply) → 0 < length (reply_words reply)
reply_some Ok = omega arith
reply_some Null = omega arith
reply_some (Int number) = omega arith
reply_some (Object fields) = omega arith
reply_some Yes = omega arith
reply_some No = omega arith
reply_some (Ended moved false) = omega arith
reply_some (Ended moved true) = omega arith
reply_some (Pages free region control) = omega arith
reply_some OutOfHeap = omega arith
reply_some (Refused refusal) = refusal_some refusal

pub reply_words_are : (reply : Reply) → IsReply reply → words (reply_text reply) ≡ reply_words reply
reply_words_are reply is = ap words (sym (spaced_reply reply)) ∙ words_again (reply_words reply) (are_reply reply is) (reply_some reply)
