-- Options of a count, one after another.
use Rattle.std.proofs.Common.{◌≡◌, ◌≢◌, ◌<◌, ◌^◌, ◌-◌, inl, inr, ℕ, Bool, true, false, not, List, [], ◌∷◌, ◌++◌, get_or, length, take, drop, String, Global, codes, refl, sym, ap, subst, ◌∙◌, append_assoc, arith}
use Rattle.std.specs.Prelude.{◌==◌, decimal, map, string_bytes}
use Rattle.std.specs.Str.{bytes_eq}
use Rattle.std.proofs.Math.Seq.{take-append_seam}
use Rattle.std.proofs.lemmas.List.{append_cancel_left, length-append, take_all, take-append-drop}
use Rattle.std.proofs.lemmas.List.{length-drop}
use Rattle.std.proofs.lemmas.Fmt.{decimal_injective}
use Rattle.std.proofs.Math.Dec.{eqb-suc-zero}
use Rattle.std.proofs.lemmas.Slice.Eq.{bytes_eq-Decides}
use Rattle.yak.specs.declared.forms.Setting.{Setting}
use Rattle.yak.specs.declared.forms.Setting.TheVariants.{Workers, Task, Pages}
use Rattle.yak.specs.declared.forms.Settings.{Settings}
use Rattle.yak.specs.Forms.{IsJoined, IsNumber, IsSetting, Sets, Tells, all_told, feed_word, one_told, setting_word, tell, unset}

-- ---- fronts

untrue : (b : Bool) → not b ≡ true → b ≡ false
untrue true h = sym h
untrue false h = refl

unfalse : (b : Bool) → not b ≡ false → b ≡ true
unfalse true h = refl
unfalse false h = sym h

pub too_short : (text front rest : List ℕ) → length text < length front → text ≡ front ++ rest → ⊥
too_short text front rest short is = let l = ap length is ∙ length-append front rest in omega (arith, l, short)

pub no_front : (text front rest : List ℕ) → not (bytes_eq (take (length front) text) front) ≡ true → text ≡ front ++ rest → ⊥
no_front text front rest differs is =
    let front_is : take (length front) text ≡ front = ap (take (length front)) is ∙ take-append_seam front rest in
    let e : true ≡ false = sym ((bytes_eq-Decides _ _).1 front_is) ∙ untrue _ differs in
    absurd (cc e)

pub is_front : (text front : List ℕ) → not (bytes_eq (take (length front) text) front) ≡ false → text ≡ front ++ take (length text - length front) (drop (length front) text)
is_front text front same =
    let front_is : take (length front) text ≡ front = (bytes_eq-Decides _ _).0 (unfalse _ same) in
    rw (take_all (length text - length front) (drop (length front) text) (rw (length-drop (length front) text) (omega arith)))
    (sym (take-append-drop (length front) text) ∙ ap (λ (l : List ℕ). l ++ drop (length front) text) front_is)

-- ---- one option with a number

letter : Setting → ℕ
letter Workers = 119
letter Task = 116
letter Pages = 112

letter_of : (setting : Setting) (more : List ℕ) → get_or (setting_word setting ++ more) 2 0 ≡ letter setting
unfolding letter
letter_of Workers more = refl
letter_of Task more = refl
letter_of Pages more = refl

letter_alone : (setting : Setting) → get_or (setting_word setting) 2 0 ≡ letter setting
unfolding letter
letter_alone Workers = refl
letter_alone Task = refl
letter_alone Pages = refl

same_setting : (one other : Setting) → letter one ≡ letter other → one ≡ other
unfolding letter
same_setting Workers Workers e = refl
same_setting Workers Task e = absurd (omega (arith, e))
same_setting Workers Pages e = absurd (omega (arith, e))
same_setting Task Workers e = absurd (omega (arith, e))
same_setting Task Task e = refl
same_setting Task Pages e = absurd (omega (arith, e))
same_setting Pages Workers e = absurd (omega (arith, e))
same_setting Pages Task e = absurd (omega (arith, e))
same_setting Pages Pages e = refl

small : (setting : Setting) (number : ℕ) → IsNumber setting number → number < 2 ^ 64
small Workers number h = let few = h.few in omega (arith, few)
small Task number h = let few = h.few in omega (arith, few)
small Pages number h = let few = h.few in omega (arith, few)

head_of : (a b : List ℕ) (xs ys : List (List ℕ)) → a ∷ xs ≡ b ∷ ys → a ≡ b
head_of a b xs ys e = cc e

tail_of : (a b : List ℕ) (xs ys : List (List ℕ)) → a ∷ xs ≡ b ∷ ys → xs ≡ ys
tail_of a b xs ys e = cc e

one_word : (word : List ℕ) (setting : Setting) (number : ℕ) → IsJoined word setting number → word ≡ setting_word setting ++ 61 ∷ decimal number
one_word word setting number joined = joined.spelled ∙ append_assoc (setting_word setting) (codes "=") (decimal number)

-- the first word tells which option it is
first_letter : (words : List (List ℕ)) (setting : Setting) (number : ℕ) (rest : List (List ℕ)) → IsSetting words setting number rest → get_or (get_or words 0 []) 2 0 ≡ letter setting
first_letter words setting number rest (inl (word, joined, is)) =
    ap (λ (ws : List (List ℕ)). get_or (get_or ws 0 []) 2 0) is ∙ ap (λ (w : List ℕ). get_or w 2 0) (one_word word setting number joined) ∙ letter_of setting (61 ∷ decimal number)
first_letter words setting number rest (inr (within, is)) =
    ap (λ (ws : List (List ℕ)). get_or (get_or ws 0 []) 2 0) is ∙ letter_alone setting

record IsOne (number other : ℕ) (rest others : List (List ℕ)) : Type 0 where
  numbers : number ≡ other
  rests : rest ≡ others

longer : (word digits : List ℕ) → word ++ 61 ∷ digits ≡ word → ⊥
longer word digits e = let l = sym (length-append word (61 ∷ digits)) ∙ ap length e in absurd (omega (arith, l))

same_option : (words : List (List ℕ)) (setting : Setting) (number other : ℕ) (rest others : List (List ℕ)) → IsSetting words setting number rest → IsSetting words setting other others → IsOne number other rest others
same_option words setting number other rest others (inl (word, joined, is)) (inl (word', joined', is')) =
    let heads : word ≡ word' = head_of _ _ _ _ (sym is ∙ is') in
    let texts : setting_word setting ++ codes "=" ++ decimal number ≡ setting_word setting ++ codes "=" ++ decimal other = sym joined.spelled ∙ heads ∙ joined'.spelled in
    record {
      numbers = decimal_injective number other (small setting number joined.within) (small setting other joined'.within)
          (append_cancel_left (setting_word setting ++ codes "=") (decimal number) (decimal other) texts);
      rests = tail_of _ _ _ _ (sym is ∙ is');
    }
same_option words setting number other rest others (inl (word, joined, is)) (inr (within, is')) =
    absurd (longer (setting_word setting) (decimal number) (sym (one_word word setting number joined) ∙ head_of _ _ _ _ (sym is ∙ is')))
same_option words setting number other rest others (inr (within, is)) (inl (word, joined, is')) =
    absurd (longer (setting_word setting) (decimal other) (sym (one_word word setting other joined) ∙ head_of _ _ _ _ (sym is' ∙ is)))
same_option words setting number other rest others (inr (within, is)) (inr (within', is')) =
    let tails = tail_of _ _ _ _ (sym is ∙ is') in
    record {
      numbers = decimal_injective number other (small setting number within) (small setting other within') (head_of _ _ _ _ tails);
      rests = tail_of _ _ _ _ tails;
    }

pub no_setting : (words : List (List ℕ))
    → ((number : ℕ) (rest : List (List ℕ)) → IsSetting words Workers number rest → ⊥)
    → ((number : ℕ) (rest : List (List ℕ)) → IsSetting words Task number rest → ⊥)
    → ((number : ℕ) (rest : List (List ℕ)) → IsSetting words Pages number rest → ⊥)
    → (setting : Setting) (number : ℕ) (rest : List (List ℕ)) → IsSetting words setting number rest → ⊥
no_setting words a b c Workers number rest h = a number rest h
no_setting words a b c Task number rest h = b number rest h
no_setting words a b c Pages number rest h = c number rest h

-- fewer words are left after an option with a number
shorter : (words : List (List ℕ)) (setting : Setting) (number : ℕ) (rest : List (List ℕ)) → IsSetting words setting number rest → length rest < length words
shorter words setting number rest (inl (word, joined, is)) = let l = ap length is in omega (arith, l)
shorter words setting number rest (inr (within, is)) = let l = ap length is in omega (arith, l)

-- the option without a number has a letter of its own
not_fed : (words : List (List ℕ)) (setting : Setting) (number : ℕ) (rest others : List (List ℕ)) → IsSetting words setting number rest → words ≡ feed_word ∷ others → ⊥
unfolding letter
not_fed words Workers number rest others h fed = let e = sym (ap (λ (ws : List (List ℕ)). get_or (get_or ws 0 []) 2 0) fed) ∙ first_letter words Workers number rest h in omega (arith, e)
not_fed words Task number rest others h fed = let e = sym (ap (λ (ws : List (List ℕ)). get_or (get_or ws 0 []) 2 0) fed) ∙ first_letter words Task number rest h in omega (arith, e)
not_fed words Pages number rest others h fed = let e = sym (ap (λ (ws : List (List ℕ)). get_or (get_or ws 0 []) 2 0) fed) ∙ first_letter words Pages number rest h in omega (arith, e)

-- ---- one option of either kind

pub none_tells : (words : List (List ℕ)) (before : Settings) → ((others : List (List ℕ)) → words ≢ feed_word ∷ others)
    → ((setting : Setting) (number : ℕ) (rest : List (List ℕ)) → IsSetting words setting number rest → ⊥) → (after : Settings) (rest : List (List ℕ)) → Tells words before after rest → ⊥
none_tells words before unfed never after rest (inl (setting, number, is, untold, same)) = never setting number rest is
none_tells words before unfed never after rest (inr (is, untold, same)) = unfed rest is

record IsSameRest (one other : Settings) (rest others : List (List ℕ)) : Type 0 where
  settings : one ≡ other
  rests : rest ≡ others

same_kind : (words : List (List ℕ)) (setting other : Setting) (number second : ℕ) (rest others : List (List ℕ)) → IsSetting words setting number rest → IsSetting words other second others → other ≡ setting
same_kind words setting other number second rest others is is' = same_setting other setting (sym (first_letter words other second others is') ∙ first_letter words setting number rest is)

-- words tell one option only
same_tells : (words : List (List ℕ)) (before one other : Settings) (rest others : List (List ℕ)) → Tells words before one rest → Tells words before other others → IsSameRest one other rest others
same_tells words before one other rest others (inl (setting, number, is, untold, same)) (inl (setting', number', is', untold', same')) =
    let alike : setting' ≡ setting = same_kind words setting setting' number number' rest others is is' in
    let found : IsOne number number' rest others = same_option words setting number number' rest others is (subst (λ (s : Setting). IsSetting words s number' others) alike is') in
    record {
      settings = same ∙ ap (λ (n : ℕ). tell setting n before) found.numbers ∙ ap (λ (s : Setting). tell s number' before) (sym alike) ∙ sym same';
      rests = found.rests;
    }
same_tells words before one other rest others (inl (setting, number, is, untold, same)) (inr (fed, untold', same')) = absurd (not_fed words setting number rest others is fed)
same_tells words before one other rest others (inr (fed, untold, same)) (inl (setting, number, is, untold', same')) = absurd (not_fed words setting number others rest is fed)
same_tells words before one other rest others (inr (fed, untold, same)) (inr (fed', untold', same')) =
    record { settings = same ∙ sym same'; rests = tail_of _ _ _ _ (sym fed ∙ fed') }

-- fewer words are left after an option
fewer : (words : List (List ℕ)) (before after : Settings) (rest : List (List ℕ)) → Tells words before after rest → length rest < length words
fewer words before after rest (inl (setting, number, is, untold, same)) = shorter words setting number rest is
fewer words before after rest (inr (fed, untold, same)) = let l = ap length fed in omega (arith, l)

-- ---- options

-- from these settings on the words left tell the same as all of them
pub record IsSame (all : List (List ℕ)) (before : Settings) (words : List (List ℕ)) : Type 0 where
  pub forth : (settings : Settings) → Sets settings before words → Sets settings unset all
  pub back : (settings : Settings) → Sets settings unset all → Sets settings before words

pub same_all : (all : List (List ℕ)) → IsSame all unset all
same_all all = record { forth = λ settings h. h; back = λ settings h. h }

no_words_left : (words : List (List ℕ)) (before after : Settings) (rest : List (List ℕ)) → words ≡ [] → Tells words before after rest → ⊥
no_words_left words before after rest e h = let l = ap length e in let short = fewer words before after rest h in absurd (omega (arith, l, short))

next_sets : (before after settings : Settings) (words rest : List (List ℕ)) → Tells words before after rest → Sets settings before words → Sets settings after rest
next_sets before after settings words rest tells (all_told empty same) = absurd (no_words_left words before after rest empty tells)
next_sets before after settings words rest tells (one_told after' rest' tells' later) =
    let one : IsSameRest after after' rest rest' = same_tells words before after after' rest rest' tells tells' in
    rw one.rests (subst (λ (z : Settings). Sets settings z rest') (sym one.settings) later)

pub same_next : (all : List (List ℕ)) (before after : Settings) (words rest : List (List ℕ)) → IsSame all before words → Tells words before after rest → IsSame all after rest
same_next all before after words rest same tells = record {
  forth = λ settings h. same.forth settings (one_told after rest tells h);
  back = λ settings h. next_sets before after settings words rest tells (same.back settings h);
}

none_sets : (before settings : Settings) (words : List (List ℕ)) → ((after : Settings) (rest : List (List ℕ)) → Tells words before after rest → ⊥)
    → words ≢ [] → Sets settings before words → ⊥
none_sets before settings words never some (all_told empty same) = some empty
none_sets before settings words never some (one_told after rest tells later) = never after rest tells

pub same_none : (all : List (List ℕ)) (before : Settings) (words : List (List ℕ)) → IsSame all before words
    → ((after : Settings) (rest : List (List ℕ)) → Tells words before after rest → ⊥) → words ≢ [] → (settings : Settings) → Sets settings unset all → ⊥
same_none all before words same never some settings h = none_sets before settings words never some (same.back settings h)

pub same_done : (all : List (List ℕ)) (settings : Settings) (words : List (List ℕ)) → IsSame all settings words → words ≡ [] → Sets settings unset all
same_done all settings words same empty = same.forth settings (all_told empty refl)

-- ---- words as strings

pub all_words : (words : List (String Global)) → words ≢ [] → map string_bytes words ≢ []
all_words [] some e = some refl
all_words (word ∷ words) some e = cc e

pub no_words_of : (words : List (String Global)) → words ≡ [] → map string_bytes words ≡ []
no_words_of words e = ap (map string_bytes) e

pub some_left : (words : List (String Global)) (test : Bool) → test ≡ (length words == 0) → test ≡ false → words ≢ []
some_left words test is no_more e = let t : false ≡ true = sym no_more ∙ is ∙ ap (λ (ws : List (String Global)). length ws == 0) e in absurd (cc t)

pub none_left : (words : List (String Global)) (test : Bool) → test ≡ (length words == 0) → test ≡ true → words ≡ []
none_left [] test is yes' = refl
none_left (word ∷ words) test is yes' = let t : true ≡ false = sym yes' ∙ is ∙ eqb-suc-zero (length words) in absurd (cc t)

-- ---- one result

pub sets_unique : (one before other : Settings) (words : List (List ℕ)) → Sets one before words → Sets other before words → one ≡ other
sets_unique one before other words (all_told empty same) (all_told empty' same') = same ∙ sym same'
sets_unique one before other words (all_told empty same) (one_told after rest tells later) = absurd (no_words_left words before after rest empty tells)
sets_unique one before other words (one_told after rest tells later) sets =
    sets_unique one after other rest later (next_sets before after other words rest tells sets)
