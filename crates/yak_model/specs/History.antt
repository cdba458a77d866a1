-- Histories of calls.
use Rattle.std.specs.Prelude.{◌≡◌, ℕ, ◌≤◌, List, [], ◌∷◌, eqb}
use Rattle.std.specs.List.{filter}
use Rattle.object_layout.specs.Calls.{IsCall}
use Rattle.yak_model.specs.Graph.{Graph, IsThread, Limits, answers, opening}
pub use Rattle.yak_model.specs.declared.history.Entry.{Entry}
pub use Rattle.yak_model.specs.declared.history.Entry.TheVariants.{Said, Collected}

-- One entry leads from g to h.
abbrev pub Moves : Graph → Entry → Graph → Type 0
Moves g (Said t asked said) h = IsThread g t × answers g t asked said h × IsCall asked
Moves g (Collected t) h = IsThread g t × (h ≡ g)

-- The entries are allowed one after another, and lead from g to h.
abbrev pub Leads : Graph → List Entry → Graph → Type 0
Leads g [] h = h ≡ g
Leads g (entry ∷ rest) h = (mid : Graph) × Moves g entry mid × Leads mid rest h

-- The object graph allows the history, from its opening on.
abbrev pub IsLegal : Limits → ℕ → List Entry → Type 0
IsLegal limits threads history = (h : Graph) × Leads (opening limits threads) history h

-- the thread of an entry
abbrev pub caller : Entry → ℕ
caller (Said t asked said) = t
caller (Collected t) = t

-- the entries of one thread, in order
abbrev pub part : List Entry → ℕ → List Entry
part history t = filter (λ entry. eqb (caller entry) t) history

-- Each thread's own list is its part of the history.
abbrev pub IsOrder : ℕ → List Entry → (ℕ → List Entry) → Type 0
IsOrder threads history own = (t : ℕ) → 1 ≤ t → t ≤ threads → part history t ≡ own t
