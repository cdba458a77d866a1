-- What a call in flight has put into the words that isn't there yet in the state, or isn't there any more.
use Rattle.std.specs.Prelude.{◌≡◌, ◌≢◌, ℕ, List, [], None, slice_index_or}
use Rattle.std.specs.List.{All}
pub use Rattle.calls_in_flight.specs.declared.notes.Cover.{Cover}
pub use Rattle.calls_in_flight.specs.declared.notes.Flight.{Flight}
pub use Rattle.calls_in_flight.specs.declared.notes.Reading.{Reading}

-- No call of the thread is in flight.
abbrev pub at_rest : ℕ → Flight
at_rest t = record { thread = t; covers = []; claimed = []; reading = None; claims = 0 }

-- No call is in flight at all.
abbrev pub AreAtRest : List Flight → Type 0
AreAtRest fs = All (λ (f : Flight). f ≡ at_rest f.thread) fs

-- The call in flight at a place of a list of them, in which each thread of the heap has one.
abbrev pub flight_at : List Flight → ℕ → Flight
flight_at fs i = slice_index_or fs i (at_rest 0)

-- No cover lies at the place.
abbrev pub IsBare : List Cover → ℕ → Type 0
IsBare covers a = All (λ (k : Cover). k.place ≢ a) covers
