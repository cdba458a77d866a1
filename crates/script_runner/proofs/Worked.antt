-- The calls of one thread among the lines of all.
use Rattle.std.proofs.Common.{◌≡◌, ◌≢◌, ◌+◌, ◌≤◌, ◌<◌, ℕ, zero, suc, Bool, cond, eqb, List, [], ◌∷◌, ◌++◌, take, get_or, set, length, refl, sym, ap, ◌∙◌, arith, eq-eqb, ne_eqb, get_or-set_same, length-set}
use mathlib.Core.Logic.{dite}
use native.Mathlib.Decide.{ℕ_discrete}
use Rattle.std.proofs.lemmas.List.{append-nil, take_more}
use Rattle.std.proofs.lemmas.List.Elements.{filter-append}
use Rattle.object_layout.specs.declared.calls.Call.TheVariants.{Int}
use Rattle.object_layout.specs.declared.replies.Reply.{Reply}
use Rattle.object_layout.specs.declared.replies.Reply.TheVariants.{Ok}
use Rattle.yak_model.specs.declared.history.Entry.{Entry}
use Rattle.yak_model.specs.History.{caller, part}
use Rattle.script_text.specs.declared.scripts.Line.{Line}
use Rattle.script_runner.specs.Runs.{all_said, said}
use Rattle.script_runner.proofs.Runs.{said_more}

abbrev pub no_line : Line
no_line = record { number = 0; thread = 0; call = Int 0 }

-- one line more, and its reply
part_snoc : (t : ℕ) (entries : List Entry) (line : Line) (reply : Reply) → part (entries ++ said line reply ∷ []) t ≡ part entries t ++ cond (eqb line.thread t) (said line reply ∷ []) []
part_snoc t entries line reply = filter-append (λ (entry : Entry). eqb (caller entry) t) entries (said line reply ∷ [])

shorter : {A : Type 0} (n : ℕ) (xs : List A) → n ≤ length xs → length (take n xs) ≡ n
shorter zero xs h = refl
shorter (suc n) [] h = absurd (omega arith)
shorter (suc n) (x ∷ xs) h = ap suc (shorter n xs (omega arith))

pub said_next : (lines : List Line) (replies : List Reply) (i t : ℕ) → i < length lines → length replies ≡ length lines
    → part (all_said (take (i + 1) lines) (take (i + 1) replies)) t
    ≡ part (all_said (take i lines) (take i replies)) t ++ cond (eqb (get_or lines i no_line).thread t) (said (get_or lines i no_line) (get_or replies i Ok) ∷ []) []
said_next lines replies i t lt same =
    let first = take_more lines i no_line lt in
    let second = take_more replies i Ok (omega (arith, lt, same)) in
    let each : length (take i replies) ≡ length (take i lines) = shorter i replies (omega (arith, lt, same)) ∙ sym (shorter i lines (omega (arith, lt))) in
    (λ j. part (all_said (first j) (second j)) t)
    ∙ (ap (λ (l : List Entry). part l t) (said_more (take i lines) (take i replies) (get_or lines i no_line) (get_or replies i Ok) each)
    ∙ part_snoc t (all_said (take i lines) (take i replies)) (get_or lines i no_line) (get_or replies i Ok))

take_set : {A : Type 0} (xs : List A) (i : ℕ) (x : A) → take i (set xs i x) ≡ take i xs
take_set [] i x = refl
take_set (y ∷ xs) zero x = refl
take_set (y ∷ xs) (suc i) x = ap (λ l. y ∷ l) (take_set xs i x)

-- a line of the thread, to which a reply was put at its place
pub said_own : (lines : List Line) (replies : List Reply) (i t : ℕ) (reply : Reply) → i < length lines → length replies ≡ length lines → (get_or lines i no_line).thread ≡ t
    → part (all_said (take (i + 1) lines) (take (i + 1) (set replies i reply))) t ≡ part (all_said (take i lines) (take i replies)) t ++ said (get_or lines i no_line) reply ∷ []
said_own lines replies i t reply lt same own =
    said_next lines (set replies i reply) i t lt (length-set replies i reply ∙ same)
    ∙ ((λ j. part (all_said (take i lines) (take_set replies i reply j)) t ++ cond (eqb (get_or lines i no_line).thread t) (said (get_or lines i no_line) (get_or-set_same replies i reply Ok (omega (arith, lt, same)) j) ∷ []) [])
    ∙ ap (λ (b : Bool). part (all_said (take i lines) (take i replies)) t ++ cond b (said (get_or lines i no_line) reply ∷ []) []) (eq-eqb (get_or lines i no_line).thread t own))

-- a line of another thread
pub said_other : (lines : List Line) (replies : List Reply) (i t : ℕ) → i < length lines → length replies ≡ length lines → (get_or lines i no_line).thread ≢ t
    → part (all_said (take (i + 1) lines) (take (i + 1) replies)) t ≡ part (all_said (take i lines) (take i replies)) t
said_other lines replies i t lt same other =
    said_next lines replies i t lt same
    ∙ (ap (λ (b : Bool). part (all_said (take i lines) (take i replies)) t ++ cond b (said (get_or lines i no_line) (get_or replies i Ok) ∷ []) []) (ne_eqb (get_or lines i no_line).thread t other)
    ∙ append-nil (part (all_said (take i lines) (take i replies)) t))

pub take_whole : {A : Type 0} (xs : List A) (n : ℕ) → length xs ≤ n → take n xs ≡ xs
take_whole [] zero h = refl
take_whole [] (suc n) h = refl
take_whole (x ∷ xs) zero h = absurd (omega arith)
take_whole (x ∷ xs) (suc n) h = ap (λ l. x ∷ l) (take_whole xs n (omega arith))

-- replies that agree at the lines of the thread
pub said_agree : (lines : List Line) (replies others : List Reply) (t : ℕ) → length replies ≡ length lines → length others ≡ length lines
    → ((i : ℕ) → i < length lines → (get_or lines i no_line).thread ≡ t → get_or replies i Ok ≡ get_or others i Ok)
    → part (all_said lines replies) t ≡ part (all_said lines others) t
said_agree [] replies others t long same agree = refl
said_agree (line ∷ lines) [] others t long same agree = absurd (omega (arith, long))
said_agree (line ∷ lines) (r ∷ replies) [] t long same agree = absurd (omega (arith, same))
said_agree (line ∷ lines) (r ∷ replies) (o ∷ others) t long same agree =
    let rest = said_agree lines replies others t (omega (arith, long)) (omega (arith, same)) (λ i lt own. agree (suc i) (omega (arith, lt)) own) in
    let left = part (all_said lines replies) t in
    let right = part (all_said lines others) t in
    dite (ℕ_discrete line.thread t)
    (λ own. let e : r ≡ o = agree 0 (omega arith) own in λ j. cond (eqb line.thread t) (said line (e j) ∷ rest j) (rest j))
    (λ other.
    ap (λ (b : Bool). cond b (said line r ∷ left) left) (ne_eqb line.thread t other)
    ∙ (rest ∙ sym (ap (λ (b : Bool). cond b (said line o ∷ right) right) (ne_eqb line.thread t other))))
