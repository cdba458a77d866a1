-- Reading lines of entries one after the other.
use Rattle.std.proofs.Common.{◌≡◌, ◌≤◌, ℕ, ◌+◌, List, [], ◌∷◌, ◌++◌, refl, sym, subst, append_assoc, inl, inr, length, arith}
use Rattle.std.proofs.lemmas.List.{append-nil}
use Rattle.trace_check.specs.declared.traces.Entry.{Entry}
use Rattle.trace_check.specs.declared.traces.Entry.TheVariants as entry
use Rattle.trace_check.specs.Traces.{AreOfThreads, IsOfThreads}
use Rattle.trace_check.specs.declared.traces.TraceError.{TraceError}
use Rattle.trace_check.specs.declared.traces.TraceError.TheVariants as error
use Rattle.trace_check.specs.Reading.{AddsEntry, FirstNoEntry, HoldsEntries, IsEntry, RefusesEntries, StopsAt}

-- of all lines from a number on, those before another held the entries, and the rest are left
pub record IsReadTo (threads first : ℕ) (all : List (List ℕ)) (number : ℕ) (rest : List (List ℕ)) (entries : List Entry) : Type 0 where
  pub completes : (more : List Entry) → HoldsEntries threads rest more → HoldsEntries threads all (entries ++ more)
  pub faults : (bad : ℕ) → FirstNoEntry threads number rest bad → FirstNoEntry threads first all bad

pub past_line : (threads first : ℕ) (all : List (List ℕ)) (number : ℕ) (line : List ℕ) (rest : List (List ℕ)) (before after : List Entry) → AddsEntry threads line before after
    → IsReadTo threads first all number (line ∷ rest) before → IsReadTo threads first all (number + 1) rest after
past_line threads first all number line rest before after (inl (silent, same)) so_far = rw same (record {
  completes = λ more holds. so_far.completes more (inl (silent, holds));
  faults = λ bad fault. so_far.faults bad (inr (inl silent, fault));
})
past_line threads first all number line rest before after (inr (told, is, more)) so_far = rw more (record {
  completes = λ others holds. rw append_assoc (so_far.completes (told ∷ others) (inr (told, others, is, refl, holds)));
  faults = λ bad fault. so_far.faults bad (inr (inr (told, is), fault));
})

pub done : (threads first : ℕ) (all : List (List ℕ)) (number : ℕ) (rest : List (List ℕ)) (entries : List Entry) → rest ≡ [] → IsReadTo threads first all number rest entries → HoldsEntries threads all entries
done threads first all number rest entries none so_far =
    let last : HoldsEntries threads rest [] = rw none refl in
    rw append-nil at (so_far.completes [] last)

-- a line that stops the reading tells what refuses the lines
pub stopped : (threads first : ℕ) (all : List (List ℕ)) (number : ℕ) (line : List ℕ) (rest : List (List ℕ)) (entries : List Entry) (error : TraceError)
    → IsReadTo threads first all number (line ∷ rest) entries → StopsAt threads number line error → RefusesEntries threads first all error
stopped threads first all number line rest entries (error.Script bad) so_far stops = stops
stopped threads first all number line rest entries (error.BadTrace bad) so_far stops = so_far.faults bad (inl stops)
stopped threads first all number line rest entries error.Memory so_far stops = tt

-- ---- the threads of collections that are held

of_entry : (threads : ℕ) (told : Entry) → IsEntry threads told → IsOfThreads threads told
of_entry threads (entry.Said number reply) is = tt
of_entry threads (entry.Collected thread) is = is

pub held_threads : (threads : ℕ) (lines : List (List ℕ)) (entries : List Entry) → HoldsEntries threads lines entries → AreOfThreads threads entries
held_threads threads [] entries none = subst (AreOfThreads threads) (sym none) tt
held_threads threads (line ∷ lines) entries (inl (silent, held)) = held_threads threads lines entries held
held_threads threads (line ∷ lines) entries (inr (told, others, is, whole, held)) =
    subst (AreOfThreads threads) (sym whole) (of_entry threads told is.possible, held_threads threads lines others held)

-- ---- how many entries are held

pub held_few : (threads : ℕ) (lines : List (List ℕ)) (entries : List Entry) → HoldsEntries threads lines entries → length entries ≤ length lines
held_few threads [] entries none = rw none (omega arith)
held_few threads (line ∷ lines) entries (inl (silent, held)) = let rest = held_few threads lines entries held in omega (arith, rest)
held_few threads (line ∷ lines) entries (inr (told, others, is, whole, held)) = let rest = held_few threads lines others held in rw whole (omega (arith, rest))
