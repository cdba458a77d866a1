-- The epochs in a thread's own list, and what runs of calls add to it.
use Rattle.std.specs.Prelude.{◌≡◌, ◌⊎◌, ◌<◌, ℕ, zero, suc, Bool, true, false, List, [], ◌∷◌, ◌++◌, filter}
use Rattle.object_layout.specs.declared.calls.Call.TheVariants as call
use Rattle.object_layout.specs.declared.replies.Reply.TheVariants as reply
use Rattle.yak_model.specs.declared.history.Entry.{Entry}
use Rattle.yak_model.specs.declared.history.Entry.TheVariants.{Said}

-- a call that begins or ends an epoch, whatever its reply
abbrev pub is_bound : Entry → Bool
is_bound (Said t call.Begin said) = true
is_bound (Said t call.End said) = true
is_bound entry = false

abbrev pub bounds_in : List Entry → List Entry
bounds_in list = filter is_bound list

-- They begin and end so many epochs, one after the other, and none is refused.
abbrev pub AreEpochs : ℕ → ℕ → List Entry → Type 0
AreEpochs t zero bounds = bounds ≡ []
AreEpochs t (suc n) bounds =
    (moved : ℕ) × (tight : Bool) × (rest : List Entry) × (bounds ≡ Said t call.Begin reply.Ok ∷ Said t call.End (reply.Ended moved tight) ∷ rest) × AreEpochs t n rest

-- After so many epochs there may be one that was begun and not ended.
abbrev pub AreHalted : ℕ → ℕ → List Entry → Type 0
AreHalted t n bounds = AreEpochs t n bounds ⊎ ((former : List Entry) × AreEpochs t n former × (bounds ≡ former ++ Said t call.Begin reply.Ok ∷ []))

-- ---- what is added

-- None of them begins or ends an epoch.
abbrev pub IsWithin : List Entry → Type 0
IsWithin more = bounds_in more ≡ []

-- The last call ended an epoch.
abbrev pub IsEnded : ℕ → List Entry → Type 0
IsEnded t more =
    (inside : List Entry) × (moved : ℕ) × (tight : Bool) × IsWithin inside × (more ≡ inside ++ Said t call.End (reply.Ended moved tight) ∷ [])

-- The thread began an epoch, made calls in it and ended it.
abbrev pub IsOneEpoch : ℕ → List Entry → Type 0
IsOneEpoch t more = (inside : List Entry) × IsEnded t inside × (more ≡ Said t call.Begin reply.Ok ∷ inside)

-- The thread began an epoch at most, and ended none.
abbrev pub IsHalted : ℕ → List Entry → Type 0
IsHalted t more = (bounds_in more ≡ []) ⊎ (bounds_in more ≡ Said t call.Begin reply.Ok ∷ [])

-- The thread began and ended so many epochs, one after the other.
abbrev pub MakesEpochs : ℕ → ℕ → List Entry → Type 0
MakesEpochs t n more = AreEpochs t n (bounds_in more)

-- It did so with fewer, and may have begun one more.
abbrev pub HaltsWithin : ℕ → ℕ → List Entry → Type 0
HaltsWithin t n more = (k : ℕ) × (k < n) × AreHalted t k (bounds_in more)
