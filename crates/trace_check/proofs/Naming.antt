-- The lines that entries name.
use Rattle.std.proofs.Common.{◌≡◌, ◌≢◌, ◌==◌, ℕ, zero, suc, ◌+◌, ◌<◌, ◌≤◌, Bool, true, false, cond, List, [], ◌∷◌, ◌++◌, length, drop, filter, refl, sym, ap, subst, ◌∙◌, inl, inr, arith, append_assoc, add-one}
use Rattle.std.specs.List.{Contains}
use Rattle.std.proofs.lemmas.Bool.{eqb-true, eq-eqb, ne_eqb}
use Rattle.std.proofs.lemmas.List.{append-nil, drop_all}
use Rattle.std.proofs.lemmas.List.Elements.{filter-append}
use Rattle.std.proofs.Math.Seq.{drop-cons}
use Rattle.object_layout.specs.Calls.{IsCall}
use Rattle.script_text.specs.declared.scripts.Line.{Line}
use Rattle.script_text.specs.Printing.{Rises}
use Rattle.yak_model.specs.declared.history.Entry as history
use Rattle.yak_model.proofs.Lists.{contains_cases, contains_cons}
use Rattle.trace_check.specs.declared.traces.Entry.{Entry}
use Rattle.trace_check.specs.Traces.{all_named, history_of, lines_at, named, own, told}
use Rattle.trace_check.specs.Cursors.{line_at, no_line}

-- ---- appended lists

pub own_append : (t : ℕ) (a b : List Line) → own t (a ++ b) ≡ own t a ++ own t b
own_append t a b = filter-append (λ (line : Line). line.thread == t) a b

pub named_append : (lines : List Line) (a b : List Entry) → all_named lines (a ++ b) ≡ all_named lines a ++ all_named lines b
named_append lines [] b = refl
named_append lines (e ∷ a) b = ap (λ l. named lines e ++ l) (named_append lines a b) ∙ sym (append_assoc (named lines e) (all_named lines a) (all_named lines b))

pub history_append : (lines : List Line) (a b : List Entry) → history_of lines (a ++ b) ≡ history_of lines a ++ history_of lines b
history_append lines [] b = refl
history_append lines (e ∷ a) b = ap (λ l. told lines e ++ l) (history_append lines a b) ∙ sym (append_assoc (told lines e) (history_of lines a) (history_of lines b))

pub named_more : (lines : List Line) (a : List Entry) (e : Entry) → all_named lines (a ++ e ∷ []) ≡ all_named lines a ++ named lines e
named_more lines a e = named_append lines a (e ∷ []) ∙ ap (λ l. all_named lines a ++ l) (append-nil (named lines e))

pub history_more : (lines : List Line) (a : List Entry) (e : Entry) (step : history.Entry) → told lines e ≡ step ∷ [] → history_of lines (a ++ e ∷ []) ≡ history_of lines a ++ step ∷ []
history_more lines a e step is = history_append lines a (e ∷ []) ∙ ap (λ l. history_of lines a ++ l) (append-nil (told lines e) ∙ is)

-- ---- the lines of a thread

pub own_first : (t : ℕ) (line : Line) (rest : List Line) → line.thread ≡ t → own t (line ∷ rest) ≡ line ∷ own t rest
own_first t line rest e = ap (λ b. cond b (line ∷ own t rest) (own t rest)) (eq-eqb line.thread t e)

pub own_other : (t : ℕ) (line : Line) (rest : List Line) → line.thread ≢ t → own t (line ∷ rest) ≡ own t rest
own_other t line rest n = ap (λ b. cond b (line ∷ own t rest) (own t rest)) (ne_eqb line.thread t n)

-- what a filter keeps was on the list
pub filtered : {A : Type 0} (p : A → Bool) (xs : List A) (x : A) → Contains (filter p xs) x → Contains xs x × (p x ≡ true)
filtered p [] x c = absurd (omega (arith, c.1))
filtered {A} p (y ∷ xs) x c =
    elim (p y) as (λ b. p y ≡ b → Contains (cond b (y ∷ filter p xs) (filter p xs)) x → Contains (y ∷ xs) x × (p x ≡ true)) [
      | true ↦ λ e d. elim (contains_cases y (filter p xs) x d) [
        | inl same ↦ ((0, omega arith, same), ap p (sym same) ∙ e)
        | inr later ↦ (let r = filtered p xs x later in (contains_cons y xs x r.0, r.1))
      ]
      | false ↦ λ e d. let r = filtered p xs x d in (contains_cons y xs x r.0, r.1)
    ] refl c

-- the place of a line has a thread, a call and a number
pub record IsLineOf (threads number : ℕ) (line : Line) : Type 0 where
  pub from : number ≤ line.number
  pub some : 1 ≤ line.thread
  pub few : line.thread ≤ threads
  pub call : IsCall line.call

pub rises_at : (threads number : ℕ) (lines : List Line) (p : ℕ) → Rises threads number lines → p < length lines → IsLineOf threads number (line_at lines p)
rises_at threads number [] p rise lt = absurd (omega (arith, lt))
rises_at threads number (line ∷ lines) zero rise lt = record { from = rise.0; some = rise.1; few = rise.2; call = rise.3 }
rises_at threads number (line ∷ lines) (suc p) rise lt =
    let later = rises_at threads (line.number + 1) lines p rise.4 (omega (arith, lt)) in
    record { from = omega (arith, later.from, rise.0); some = later.some; few = later.few; call = later.call }

pub rises_in : (threads number : ℕ) (lines : List Line) (line : Line) → Rises threads number lines → Contains lines line → IsLineOf threads number line
rises_in threads number [] line rise c = absurd (omega (arith, c.1))
rises_in threads number (first ∷ lines) line rise c =
    elim (contains_cases first lines line c) [
      | inl same ↦ subst (IsLineOf threads number) same (record { from = rise.0; some = rise.1; few = rise.2; call = rise.3 })
      | inr later ↦ (let r = rises_in threads (first.number + 1) lines line rise.4 later in record { from = omega (arith, r.from, rise.0); some = r.some; few = r.few; call = r.call })
    ]

-- ---- the line of a number

below : (threads number : ℕ) (lines : List Line) (n : ℕ) → Rises threads number lines → n < number → lines_at lines n ≡ []
below threads number [] n rise lt = refl
below threads number (line ∷ lines) n rise lt =
    ap (λ b. cond b (line ∷ lines_at lines n) (lines_at lines n)) (ne_eqb line.number n (λ e. omega (arith, e, lt, rise.0)))
    ∙ below threads (line.number + 1) lines n rise.4 (omega (arith, lt, rise.0))

pub at_number : (threads number : ℕ) (lines : List Line) (p : ℕ) → Rises threads number lines → p < length lines → lines_at lines (line_at lines p).number ≡ line_at lines p ∷ []
at_number threads number [] p rise lt = absurd (omega (arith, lt))
at_number threads number (line ∷ lines) zero rise lt =
    ap (λ b. cond b (line ∷ lines_at lines line.number) (lines_at lines line.number)) (eq-eqb line.number line.number refl)
    ∙ ap (λ l. line ∷ l) (below threads (line.number + 1) lines line.number rise.4 (omega arith))
at_number threads number (line ∷ lines) (suc p) rise lt =
    let later = rises_at threads (line.number + 1) lines p rise.4 (omega (arith, lt)) in
    let n = (line_at lines p).number in
    ap (λ b. cond b (line ∷ lines_at lines n) (lines_at lines n)) (ne_eqb line.number n (λ e. omega (arith, e, later.from)))
    ∙ at_number threads (line.number + 1) lines p rise.4 (omega (arith, lt))

-- the line of a number is one of the list, and has the number
pub line_of_number : (lines : List Line) (n : ℕ) (line : Line) → lines_at lines n ≡ line ∷ [] → Contains lines line × (line.number ≡ n)
line_of_number lines n line is =
    let c : Contains (lines_at lines n) line = subst (λ (l : List Line). Contains l line) (sym is) (0, omega arith, refl) in
    let r = filtered (λ (l : Line). l.number == n) lines line c in
    (r.0, eqb-true line.number n r.1)

-- ---- the rest from a place on

pub rest_from : (lines : List Line) (p : ℕ) → p < length lines → drop p lines ≡ line_at lines p ∷ drop (p + 1) lines
rest_from lines p lt = rw add-one (drop-cons lines p no_line lt)

pub own_from : (lines : List Line) (t p : ℕ) → p < length lines → (line_at lines p).thread ≡ t → own t (drop p lines) ≡ line_at lines p ∷ own t (drop (p + 1) lines)
own_from lines t p lt e = ap (own t) (rest_from lines p lt) ∙ own_first t (line_at lines p) (drop (p + 1) lines) e

pub own_at_end : (lines : List Line) (t p : ℕ) → length lines ≤ p → own t (drop p lines) ≡ []
own_at_end lines t p le = ap (own t) (drop_all p lines le)
