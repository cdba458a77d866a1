-- Forms by their words.
use Rattle.std.proofs.Common.{◌≡◌, ◌≢◌, ◌≤◌, ℕ, true, false, List, [], ◌∷◌, Option, Some, None, codes, refl, sym, ap, subst, ◌∙◌, arith}
use Rattle.std.specs.Prelude.{MatchOption, decimal}
use Rattle.std.specs.Str.{bytes_eq}
use Rattle.std.proofs.lemmas.Slice.Eq.{bytes_eq-Decides}
use Rattle.std.proofs.lemmas.Fmt.{decimal_injective}
use Rattle.yak.specs.declared.forms.TheConstants.{MAX_ROUNDS}
use Rattle.yak.specs.declared.forms.Form.{Form}
use Rattle.yak.specs.declared.forms.Form.TheVariants.{Replay, Threads, Count, Gen, Traced}
use Rattle.yak.specs.declared.forms.Tracing.{Tracing}
use Rattle.yak.specs.declared.forms.Tracing.TheVariants.{Make, Check}
use Rattle.yak.specs.declared.forms.Options.{Options}
use Rattle.yak.specs.declared.forms.Settings.{Settings}
use Rattle.yak.specs.Forms.{IsForm, Sets, chosen, tracing_word, unset}
use Rattle.yak.proofs.Settings.{sets_unique}

-- the first word of a form
pub form_word : Form → List ℕ
form_word Replay = codes "replay"
form_word Threads = codes "threads"
form_word (Count options) = codes "count"
form_word (Gen rounds) = codes "gen"
form_word (Traced tracing) = tracing_word tracing

differ : (a b : List ℕ) → bytes_eq a b ≡ false → a ≡ b → ⊥
differ a b differs same = let e : true ≡ false = sym ((bytes_eq-Decides a b).1 same) ∙ differs in absurd (cc e)

heads : (a b : List ℕ) (xs ys : List (List ℕ)) → a ∷ xs ≡ b ∷ ys → a ≡ b
heads a b xs ys e = cc e

tails : (a b : List ℕ) (xs ys : List (List ℕ)) → a ∷ xs ≡ b ∷ ys → xs ≡ ys
tails a b xs ys e = cc e

pub no_words : (form : Form) → IsForm [] form → ⊥
no_words Replay e = cc e
no_words Threads e = cc e
no_words (Count options) h = let e = h.2 in cc e
no_words (Gen rounds) h = let e = h.1 in cc e
no_words (Traced tracing) e = cc e

pub first_word : (word : List ℕ) (rest : List (List ℕ)) (form : Form) → IsForm (word ∷ rest) form → word ≡ form_word form
unfolding form_word
first_word word rest Replay e = heads _ _ _ _ e
first_word word rest Threads e = heads _ _ _ _ e
first_word word rest (Count options) h = heads _ _ _ _ h.2
first_word word rest (Gen rounds) h = heads _ _ _ _ h.1
first_word word rest (Traced tracing) e = heads _ _ _ _ e

-- words of one form ask for the word of no other
pub same_word : (words : List (List ℕ)) (one other : Form) → IsForm words one → IsForm words other → form_word one ≡ form_word other
same_word [] one other a b = absurd (no_words one a)
same_word (word ∷ rest) one other a b = sym (first_word word rest one a) ∙ first_word word rest other b

pub other_word : (word : List ℕ) (rest : List (List ℕ)) → word ≢ codes "replay" → word ≢ codes "threads" → word ≢ codes "trace" → word ≢ codes "check" → word ≢ codes "gen" → word ≢ codes "count" → (form : Form) → IsForm (word ∷ rest) form → ⊥
unfolding form_word
other_word word rest a b m k c d Replay h = a (first_word word rest Replay h)
other_word word rest a b m k c d Threads h = b (first_word word rest Threads h)
other_word word rest a b m k c d (Count options) h = d (first_word word rest (Count options) h)
other_word word rest a b m k c d (Gen rounds) h = c (first_word word rest (Gen rounds) h)
other_word word rest a b m k c d (Traced Make) h = m (first_word word rest (Traced Make) h)
other_word word rest a b m k c d (Traced Check) h = k (first_word word rest (Traced Check) h)

only : (word : List ℕ) (rest : List (List ℕ)) (wanted : List ℕ) (form : Form) → word ≡ wanted → bytes_eq wanted (form_word form) ≡ false → IsForm (word ∷ rest) form → ⊥
only word rest wanted form is differs h = differ wanted (form_word form) differs (sym is ∙ first_word word rest form h)

not_replay : (word : List ℕ) (rest : List (List ℕ)) → word ≡ codes "replay" → rest ≢ [] → (form : Form) → IsForm (word ∷ rest) form → ⊥
unfolding form_word
not_replay word rest is some Replay h = some (tails _ _ _ _ h)
not_replay word rest is some Threads h = only word rest (codes "replay") Threads is refl h
not_replay word rest is some (Count options) h = only word rest (codes "replay") (Count options) is refl h
not_replay word rest is some (Gen rounds) h = only word rest (codes "replay") (Gen rounds) is refl h
not_replay word rest is some (Traced Make) h = only word rest (codes "replay") (Traced Make) is refl h
not_replay word rest is some (Traced Check) h = only word rest (codes "replay") (Traced Check) is refl h

not_threads : (word : List ℕ) (rest : List (List ℕ)) → word ≡ codes "threads" → rest ≢ [] → (form : Form) → IsForm (word ∷ rest) form → ⊥
unfolding form_word
not_threads word rest is some Replay h = only word rest (codes "threads") Replay is refl h
not_threads word rest is some Threads h = some (tails _ _ _ _ h)
not_threads word rest is some (Count options) h = only word rest (codes "threads") (Count options) is refl h
not_threads word rest is some (Gen rounds) h = only word rest (codes "threads") (Gen rounds) is refl h
not_threads word rest is some (Traced Make) h = only word rest (codes "threads") (Traced Make) is refl h
not_threads word rest is some (Traced Check) h = only word rest (codes "threads") (Traced Check) is refl h

pub replay_form : (result : Option Form) (word : List ℕ) (rest : List (List ℕ)) → word ≡ codes "replay" → MatchOption result (rest ≢ []) (λ found. (found ≡ Replay) × (rest ≡ []))
    → MatchOption result ((form : Form) → IsForm (word ∷ rest) form → ⊥) (λ form. IsForm (word ∷ rest) form)
replay_form None word rest is some = not_replay word rest is some
replay_form (Some form) word rest is found = rw found.0 (rw (is, found.1) refl)

pub threads_form : (result : Option Form) (word : List ℕ) (rest : List (List ℕ)) → word ≡ codes "threads" → MatchOption result (rest ≢ []) (λ found. (found ≡ Threads) × (rest ≡ []))
    → MatchOption result ((form : Form) → IsForm (word ∷ rest) form → ⊥) (λ form. IsForm (word ∷ rest) form)
threads_form None word rest is some = not_threads word rest is some
threads_form (Some form) word rest is found = rw found.0 (rw (is, found.1) refl)

not_traced : (word : List ℕ) (rest : List (List ℕ)) (tracing : Tracing) → word ≡ tracing_word tracing → rest ≢ [] → (form : Form) → IsForm (word ∷ rest) form → ⊥
unfolding form_word
not_traced word rest Make is some Replay h = only word rest (codes "trace") Replay is refl h
not_traced word rest Make is some Threads h = only word rest (codes "trace") Threads is refl h
not_traced word rest Make is some (Count options) h = only word rest (codes "trace") (Count options) is refl h
not_traced word rest Make is some (Gen rounds) h = only word rest (codes "trace") (Gen rounds) is refl h
not_traced word rest Make is some (Traced other) h = some (tails _ _ _ _ h)
not_traced word rest Check is some Replay h = only word rest (codes "check") Replay is refl h
not_traced word rest Check is some Threads h = only word rest (codes "check") Threads is refl h
not_traced word rest Check is some (Count options) h = only word rest (codes "check") (Count options) is refl h
not_traced word rest Check is some (Gen rounds) h = only word rest (codes "check") (Gen rounds) is refl h
not_traced word rest Check is some (Traced other) h = some (tails _ _ _ _ h)

pub traced_form : (result : Option Form) (word : List ℕ) (rest : List (List ℕ)) (tracing : Tracing) → word ≡ tracing_word tracing → MatchOption result (rest ≢ []) (λ found. (found ≡ Traced tracing) × (rest ≡ []))
    → MatchOption result ((form : Form) → IsForm (word ∷ rest) form → ⊥) (λ form. IsForm (word ∷ rest) form)
traced_form None word rest tracing is some = not_traced word rest tracing is some
traced_form (Some form) word rest tracing is found = rw found.0 (rw (is, found.1) refl)

pub not_gen : (word : List ℕ) (rest : List (List ℕ)) → word ≡ codes "gen" → ((rounds : ℕ) → rounds ≤ MAX_ROUNDS → rest ≢ decimal rounds ∷ []) → (form : Form) → IsForm (word ∷ rest) form → ⊥
unfolding form_word
not_gen word rest is none Replay h = only word rest (codes "gen") Replay is refl h
not_gen word rest is none Threads h = only word rest (codes "gen") Threads is refl h
not_gen word rest is none (Count options) h = only word rest (codes "gen") (Count options) is refl h
not_gen word rest is none (Gen rounds) h = none rounds h.0 (tails _ _ _ _ h.1)
not_gen word rest is none (Traced Make) h = only word rest (codes "gen") (Traced Make) is refl h
not_gen word rest is none (Traced Check) h = only word rest (codes "gen") (Traced Check) is refl h

pub gen_form : (word : List ℕ) (rest : List (List ℕ)) (rounds : ℕ) → word ≡ codes "gen" → rounds ≤ MAX_ROUNDS → rest ≡ decimal rounds ∷ [] → IsForm (word ∷ rest) (Gen rounds)
gen_form word rest rounds is few same = (few, rw (is, same) refl)

pub not_count : (word : List ℕ) (rest : List (List ℕ)) → word ≡ codes "count" → ((settings : Settings) → Sets settings unset rest → ⊥) → (form : Form) → IsForm (word ∷ rest) form → ⊥
unfolding form_word
not_count word rest is none Replay h = only word rest (codes "count") Replay is refl h
not_count word rest is none Threads h = only word rest (codes "count") Threads is refl h
not_count word rest is none (Count options) h = none h.0 (subst (λ (l : List (List ℕ)). Sets h.0 unset l) (sym (tails _ _ _ _ h.2)) h.3)
not_count word rest is none (Gen rounds) h = only word rest (codes "count") (Gen rounds) is refl h
not_count word rest is none (Traced Make) h = only word rest (codes "count") (Traced Make) is refl h
not_count word rest is none (Traced Check) h = only word rest (codes "count") (Traced Check) is refl h

pub count_form : (word : List ℕ) (rest : List (List ℕ)) (settings : Settings) (options : Options) → word ≡ codes "count" → Sets settings unset rest → options ≡ chosen settings → IsForm (word ∷ rest) (Count options)
count_form word rest settings options is sets same = (settings, rest, ap (λ (w : List ℕ). w ∷ rest) is, sets, same)

-- ---- one form

abbrev IsOneForm : Form → Form → List (List ℕ) → Type 0
IsOneForm one other words = IsForm words one → IsForm words other → one ≡ other

unlike : (words : List (List ℕ)) (one other : Form) → bytes_eq (form_word one) (form_word other) ≡ false → IsOneForm one other words
unlike words one other differs a b = absurd (differ (form_word one) (form_word other) differs (same_word words one other a b))

same_count : (words : List (List ℕ)) (one other : Options) → IsOneForm (Count one) (Count other) words
same_count words one other a b =
    let rests : a.1 ≡ b.1 = tails _ _ _ _ (sym a.2 ∙ b.2) in
    let settings : a.0 ≡ b.0 = sets_unique a.0 unset b.0 a.1 a.3 (subst (λ (l : List (List ℕ)). Sets b.0 unset l) (sym rests) b.3) in
    ap Count (a.4 ∙ ap chosen settings ∙ sym b.4)

same_gen : (words : List (List ℕ)) (one other : ℕ) → IsOneForm (Gen one) (Gen other) words
same_gen words one other a b =
    let few = a.0 in
    let less = b.0 in
    ap Gen (decimal_injective one other (omega (arith, few)) (omega (arith, less)) (heads _ _ _ _ (tails _ _ _ _ (sym a.1 ∙ b.1))))

pub one_form : (words : List (List ℕ)) (one other : Form) → IsForm words one → IsForm words other → one ≡ other
unfolding form_word
one_form words Replay Replay a b = refl
one_form words Replay Threads a b = unlike words Replay Threads refl a b
one_form words Replay (Count other) a b = unlike words Replay (Count other) refl a b
one_form words Replay (Gen other) a b = unlike words Replay (Gen other) refl a b
one_form words Replay (Traced Make) a b = unlike words Replay (Traced Make) refl a b
one_form words Replay (Traced Check) a b = unlike words Replay (Traced Check) refl a b
one_form words Threads Replay a b = unlike words Threads Replay refl a b
one_form words Threads Threads a b = refl
one_form words Threads (Count other) a b = unlike words Threads (Count other) refl a b
one_form words Threads (Gen other) a b = unlike words Threads (Gen other) refl a b
one_form words Threads (Traced Make) a b = unlike words Threads (Traced Make) refl a b
one_form words Threads (Traced Check) a b = unlike words Threads (Traced Check) refl a b
one_form words (Count one) Replay a b = unlike words (Count one) Replay refl a b
one_form words (Count one) Threads a b = unlike words (Count one) Threads refl a b
one_form words (Count one) (Count other) a b = same_count words one other a b
one_form words (Count one) (Gen other) a b = unlike words (Count one) (Gen other) refl a b
one_form words (Count one) (Traced Make) a b = unlike words (Count one) (Traced Make) refl a b
one_form words (Count one) (Traced Check) a b = unlike words (Count one) (Traced Check) refl a b
one_form words (Gen one) Replay a b = unlike words (Gen one) Replay refl a b
one_form words (Gen one) Threads a b = unlike words (Gen one) Threads refl a b
one_form words (Gen one) (Count other) a b = unlike words (Gen one) (Count other) refl a b
one_form words (Gen one) (Gen other) a b = same_gen words one other a b
one_form words (Gen one) (Traced Make) a b = unlike words (Gen one) (Traced Make) refl a b
one_form words (Gen one) (Traced Check) a b = unlike words (Gen one) (Traced Check) refl a b
one_form words (Traced Make) Replay a b = unlike words (Traced Make) Replay refl a b
one_form words (Traced Make) Threads a b = unlike words (Traced Make) Threads refl a b
one_form words (Traced Make) (Count other) a b = unlike words (Traced Make) (Count other) refl a b
one_form words (Traced Make) (Gen other) a b = unlike words (Traced Make) (Gen other) refl a b
one_form words (Traced Make) (Traced Make) a b = refl
one_form words (Traced Make) (Traced Check) a b = unlike words (Traced Make) (Traced Check) refl a b
one_form words (Traced Check) Replay a b = unlike words (Traced Check) Replay refl a b
one_form words (Traced Check) Threads a b = unlike words (Traced Check) Threads refl a b
one_form words (Traced Check) (Count other) a b = unlike words (Traced Check) (Count other) refl a b
one_form words (Traced Check) (Gen other) a b = unlike words (Traced Check) (Gen other) refl a b
one_form words (Traced Check) (Traced Make) a b = unlike words (Traced Check) (Traced Make) refl a b
one_form words (Traced Check) (Traced Check) a b = refl
