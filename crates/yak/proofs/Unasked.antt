-- Words that ask for nothing that is answered.
use Rattle.std.proofs.Common.{◌≡◌, ℕ, List, Option, None, Some, sym, subst}
use Rattle.std.specs.Prelude.{MatchOption}
use Rattle.yak.specs.declared.forms.Form.{Form}
use Rattle.yak.specs.declared.forms.Form.TheVariants.{Count, Threads}
use Rattle.yak.specs.declared.forms.Options.{Options}
use Rattle.yak.specs.Forms.{GoesShared, IsAsked, IsBuiltForm, IsForm, IsShared, IsThreads, IsUnshared}
use Rattle.yak.proofs.Words.{one_form}

pub unbuilt : (words : List (List ℕ)) (form : Form) → IsForm words form → (IsBuiltForm form → ⊥) → IsAsked words → ⊥
unbuilt words form is never (other, other_is, answered) = never (subst IsBuiltForm (sym (one_form words form other is other_is)) answered)

pub none_unasked : (words : List (List ℕ)) → ((form : Form) → IsForm words form → ⊥) → IsAsked words → ⊥
none_unasked words none (form, is, answered) = none form is

pub threads_form : (words : List (List ℕ)) (form : Form) → IsForm words form → form ≡ Threads → IsThreads words
threads_form words form is same = subst (λ (f : Form). IsForm words f) same is

pub unthreaded : (words : List (List ℕ)) (form : Form) → IsForm words form → (form ≡ Threads → ⊥) → IsThreads words → ⊥
unthreaded words form is other named = other (one_form words form Threads is named)

pub none_threads : (words : List (List ℕ)) → ((form : Form) → IsForm words form → ⊥) → IsThreads words → ⊥
none_threads words none named = none Threads named

shared_form : (words : List (List ℕ)) (form : Form) (options : Options) → IsForm words form → form ≡ Count options → GoesShared options → IsShared words options
shared_form words form options is same goes = record { named = subst (IsForm words) same is; goes = goes }

unshared : (words : List (List ℕ)) (form : Form) → IsForm words form → ((options : Options) → form ≡ Count options → GoesShared options → ⊥) → IsUnshared words
unshared words form is other options asked = other options (one_form words form (Count options) is asked.named) asked.goes

pub none_shared : (words : List (List ℕ)) → ((form : Form) → IsForm words form → ⊥) → IsUnshared words
none_shared words none options asked = none (Count options) asked.named

pub asked_shared : (words : List (List ℕ)) (form : Form) (found : Option Options) → IsForm words form
    → MatchOption found ((options : Options) → form ≡ Count options → GoesShared options → ⊥) (λ options. (form ≡ Count options) × (GoesShared options))
    → MatchOption found (IsUnshared words) (λ options. IsShared words options)
asked_shared words form None is h = unshared words form is h
asked_shared words form (Some options) is h = shared_form words form options is h.0 h.1
