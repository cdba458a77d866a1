-- What the loads of a call show.
use Rattle.std.specs.Prelude.{◌≡◌, ◌⊎◌, ℕ, ◌+◌, List}
use Rattle.std.specs.List.{Contains}
use Rattle.object_layout.specs.declared.TheConstants.{MAX_DEPTH}
use Rattle.object_layout.specs.declared.calls.Call.{Call}
use Rattle.object_layout.specs.declared.calls.Call.TheVariants.{Store}
use Rattle.object_layout.specs.declared.replies.Reply.{Reply}
use Rattle.object_layout.specs.declared.replies.Reply.TheVariants.{Ok}
use Rattle.object_layout.specs.Layout.{IsHeader, header_word}
use Rattle.heap_words.specs.declared.map.Areas.{Areas}
use Rattle.heap_words.specs.Map.{heap_at}
use Rattle.epoch_lattice.specs.declared.Space.{Space}
use Rattle.epoch_lattice.specs.Lattice.{IsValid, space_index}
use Rattle.yak_model.specs.Graph.{slot_of}
use Rattle.yak_model.specs.Spaces.{SpaceState}
use Rattle.standing_calls.specs.Records.{Crosses, home_at}
use Rattle.calls_in_flight.specs.declared.notes.Known.{Known}

-- The word was loaded at the place.
abbrev pub WasLoaded : List Known → ℕ → ℕ → Type 0
WasLoaded loads place word = Contains loads (record { place = place; word = word })

-- The header that was loaded there is that of an object of this space.
abbrev pub LoadedSpace : Areas → List Known → ℕ → Space → Type 0
LoadedSpace m loads at x = (fields : ℕ) × IsValid MAX_DEPTH x × IsHeader (record { fields = fields; space = space_index x }) × WasLoaded loads (heap_at m + at) (header_word (record { fields = fields; space = space_index x }))

-- The call stores a reference that crosses, in this state, so that the slot must be recorded.
abbrev pub MustRecord : SpaceState → ℕ → Call → Type 0
MustRecord s t (Store k f x) = Crosses (home_at s (slot_of s.graph t k)) (home_at s (slot_of s.graph t x))
MustRecord s t asked = ⊥

-- A call that is done puts an entry into the store buffer exactly where a slot must be recorded.
abbrev pub PutsEntry : SpaceState → ℕ → Call → Reply → ℕ → ℕ → Type 0
PutsEntry s t asked said was now = (MustRecord s t asked × (said ≡ Ok) × (now ≡ was + 1)) ⊎ ((MustRecord s t asked → said ≡ Ok → ⊥) × (now ≡ was))
