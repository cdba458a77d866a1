-- What words hold apart from the calls in flight.
use Rattle.std.specs.Prelude.{ℕ, ◌+◌, ◌-◌, ◌^◌, List, [], ◌∷◌, ◌++◌, length, slice_index, slice_set, bit_or, Option, Some, None}
use Rattle.heap_words.specs.declared.map.Areas.{Areas}
use Rattle.heap_words.specs.Cells.{row, row_set}
use Rattle.heap_words.specs.Contents.{Contents, contents}
use Rattle.yak_model.specs.Stands.{free_pages}
use Rattle.region_pages.specs.Freeing.{pool_with}
use Rattle.region_pages.specs.declared.TheConstants.{CLAIM_COUNTER, POOL_LENGTH}
use Rattle.calls_in_flight.specs.Flight.{Cover, Flight, Reading}

-- The words with the words that covers show.
abbrev pub laid : List Cover → List ℕ → List ℕ
laid [] ws = ws
laid (k ∷ ks) ws = slice_set (laid ks ws) k.place k.shown

-- The words with what the covers of all calls in flight show.
abbrev pub laid_all : List Flight → List ℕ → List ℕ
laid_all [] ws = ws
laid_all (f ∷ fs) ws = laid f.covers (laid_all fs ws)

-- The pages that calls in flight have claimed and not entered.
abbrev pub claimed_in : List Flight → List ℕ
claimed_in [] = []
claimed_in (f ∷ fs) = f.claimed ++ claimed_in fs

-- The claims that calls in flight may still make.
abbrev pub claims_in : List Flight → ℕ
claims_in [] = 0
claims_in (f ∷ fs) = f.claims + claims_in fs

-- The readers words with a thread's bit set in that of a region.
abbrev pub read_by : ℕ → Option Reading → List (List ℕ) → List (List ℕ)
read_by t None readers = readers
read_by t (Some r) readers = row_set readers (r.owner - 1) (r.depth - 1) (bit_or (slice_index (row readers (r.owner - 1)) (r.depth - 1)) (2 ^ (t - 1)))

-- The readers words with the bits of all threads that have yet to become readers.
abbrev pub read_in : List Flight → List (List ℕ) → List (List ℕ)
read_in [] readers = readers
read_in (f ∷ fs) readers = read_by f.thread f.reading (read_in fs readers)

-- The free pages, where claimed pages that aren't entered are free yet.
abbrev pub free_with : List ℕ → List ℕ → List ℕ → List ℕ
free_with claimed heads pool = claimed ++ free_pages heads pool

-- The first words and the pool, with claimed pages put back before the claim counter.
abbrev pub heads_with : List ℕ → List ℕ → List ℕ → List ℕ
heads_with [] heads pool = heads
heads_with (p ∷ ps) heads pool = slice_set (slice_set heads CLAIM_COUNTER 0) POOL_LENGTH (length (free_with (p ∷ ps) heads pool))

abbrev pub pool_back : List ℕ → List ℕ → List ℕ → List ℕ
pool_back [] heads pool = pool
pool_back (p ∷ ps) heads pool = pool_with (free_with (p ∷ ps) heads pool) pool

-- The contents with the calls in flight taken back, or completed where their entries stand in the history already.
abbrev pub completed : List Flight → Contents → Contents
completed fs c = record c { heads = heads_with (claimed_in fs) c.heads c.pool; pool = pool_back (claimed_in fs) c.heads c.pool; readers = read_in fs c.readers }

-- What words hold apart from the calls in flight. With none in flight it is what the words hold.
abbrev pub whole : Areas → List ℕ → List Flight → Contents
whole m ws fs = completed fs (contents m (laid_all fs ws))
