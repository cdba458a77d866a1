-- What a loop of reads or of writes has done so far.
use Rattle.std.proofs.Common.{◌≡◌, ℕ, ◌+◌, ◌≤◌, ◌<◌, List, [], ◌++◌, length, take, drop, Option, sym, arith}
use Rattle.std.specs.Io.KnownBytes.{Appends, Consumes}
use Rattle.std.proofs.lemmas.List.{take-append-drop, drop-drop, drop_all, take_at, length-drop, length-append}

pub record Reading (faults_then faults_now : ℕ) (then now : Option (List ℕ)) (bytes : List ℕ) (limit : ℕ) : Type 0 where
  pub later : faults_then ≤ faults_now
  pub taken : Consumes then now bytes
  pub within : length bytes ≤ limit

pub record Writing (faults_then faults_now : ℕ) (then now : Option (List ℕ)) (bytes : List ℕ) (count : ℕ) : Type 0 where
  pub later : faults_then ≤ faults_now
  pub taken : Appends then now (take count bytes)
  pub within : count ≤ length bytes

-- a read of the next bytes of a list, from a place on
pub gave_next : (at count : ℕ) (bytes into copied : List ℕ) → copied ≡ take count (drop at bytes) → length copied ≡ count → (count ≡ 0 → 0 < length into → length (drop at bytes) ≡ 0)
    → (drop at bytes ≡ take count (copied ++ drop count into) ++ drop (at + count) bytes) × (count ≡ 0 → 0 < length (copied ++ drop count into) → drop (at + count) bytes ≡ [])
gave_next at count bytes into copied e len least =
    let front : take count (copied ++ drop count into) ≡ copied = take_at copied (drop count into) count len in
    let split : take count (drop at bytes) ++ drop count (drop at bytes) ≡ drop at bytes = take-append-drop count (drop at bytes) in
    let rest : drop count (drop at bytes) ≡ drop (at + count) bytes = drop-drop count at bytes in (
      rw (front, e, ← rest) (sym split),
      λ none room. drop_all (at + count) bytes (let ended : length (drop at bytes) ≡ 0 = least none (omega (arith, length-append copied (drop count into), length-drop count into)) in omega (arith, ended, length-drop at bytes)),
    )
