-- What a thread knows of its own words.
use Rattle.std.proofs.Common.{◌≡◌, ◌≢◌, ℕ, ◌≤◌, ◌<◌, List, [], length, get_or, set, refl, sym, ap, subst, ◌∙◌, arith}
use Rattle.std.specs.List.{All}
use Rattle.std.proofs.lemmas.Bool.{cases_eq}
use Rattle.std.proofs.Math.Logic.{⊎_elim}
use Rattle.heap_words.specs.declared.map.Areas.{Areas}
use Rattle.heap_words.specs.Map.{HasThread, max_depth}
use Rattle.heap_words.specs.Contents.{buffer_of, currents_of, depth_of, made_of, stack_of}
use Rattle.heap_words.proofs.Contents.{buffer_of-length_word, currents_of-word, depth_of-word, made_of-word, stack_of-fits, stack_of-length_word, stack_of-word}
use Rattle.yak_model.specs.Spaces.{SpaceState}
use Rattle.calls_in_flight.specs.Flight.{Cover, Flight, IsBare, at_rest, flight_at}
use Rattle.calls_in_flight.specs.Whole.{laid, laid_all, whole}
use Rattle.calls_in_flight.specs.Owning.{IsOwn, in_block}
use Rattle.calls_in_flight.specs.Fits.{StandInFlight}
use Rattle.calls_in_flight.specs.Steps.{current_at, depth_at, length_at, logged_at, made_at, slot_at}
use Rattle.calls_in_flight.proofs.Covers.{lifted, lifted-laid}
use Rattle.calls_in_flight.proofs.Flights.{IsBareBeside, IsBareIn, bare-others, laid_all-bare, laid_all-own, laid_all-put, laid_all-set, others}
use Rattle.calls_in_flight.proofs.Grounds.{bare-beside, fit_at, sound_under}
use Rattle.calls_in_flight.proofs.Quiet.{covers-beside}

-- the thread of a call in flight
pub thread_at : (m : Areas) (ws : List ℕ) (fs : List Flight) (s : SpaceState) (i : ℕ) → StandInFlight m ws fs s → i < length fs → HasThread m (flight_at fs i).thread
thread_at m ws fs s i h lt = (fit_at m ws fs i h.fit lt).thread

-- a word of its own that isn't covered shows what stands there
pub own-bare : (m : Areas) (ws : List ℕ) (fs : List Flight) (s : SpaceState) (i a : ℕ) → StandInFlight m ws fs s → i < length fs → IsOwn m (whole m ws fs) (flight_at fs i) a → IsBare (flight_at fs i).covers a → IsBareIn fs a
own-bare m ws fs s i a h lt own bare j lj = ⊎_elim
    (λ (e : j ≡ i). subst (λ k. IsBare (flight_at fs k).covers a) (sym e) bare)
    (λ (ne : j ≢ i). bare-beside m ws fs s i a h.fit h.stands lt own j lj ne)
    (cases_eq j i)

pub own-word : (m : Areas) (ws : List ℕ) (fs : List Flight) (s : SpaceState) (i a : ℕ) → StandInFlight m ws fs s → i < length fs → IsOwn m (whole m ws fs) (flight_at fs i) a → IsBare (flight_at fs i).covers a → get_or ws a 0 ≡ get_or (laid_all fs ws) a 0
own-word m ws fs s i a h lt own bare = sym (laid_all-bare fs ws a (own-bare m ws fs s i a h lt own bare))

-- the words of its block
pub own-length : (m : Areas) (ws : List ℕ) (fs : List Flight) (s : SpaceState) (i : ℕ) → StandInFlight m ws fs s → i < length fs → IsBare (flight_at fs i).covers (length_at m (flight_at fs i).thread) → get_or ws (length_at m (flight_at fs i).thread) 0 ≡ length (stack_of (whole m ws fs) (flight_at fs i).thread)
own-length m ws fs s i h lt bare =
    let t : ℕ = (flight_at fs i).thread in
    own-word m ws fs s i (length_at m t) h lt (in_block (omega arith) (omega arith)) bare ∙ stack_of-length_word m (laid_all fs ws) t (thread_at m ws fs s i h lt) (sound_under m ws fs s h.fit h.stands)

pub own-depth : (m : Areas) (ws : List ℕ) (fs : List Flight) (s : SpaceState) (i : ℕ) → StandInFlight m ws fs s → i < length fs → IsBare (flight_at fs i).covers (depth_at m (flight_at fs i).thread) → get_or ws (depth_at m (flight_at fs i).thread) 0 ≡ depth_of (whole m ws fs) (flight_at fs i).thread
own-depth m ws fs s i h lt bare =
    let t : ℕ = (flight_at fs i).thread in
    own-word m ws fs s i (depth_at m t) h lt (in_block (omega arith) (omega arith)) bare ∙ depth_of-word m (laid_all fs ws) t (thread_at m ws fs s i h lt)

pub own-made : (m : Areas) (ws : List ℕ) (fs : List Flight) (s : SpaceState) (i : ℕ) → StandInFlight m ws fs s → i < length fs → IsBare (flight_at fs i).covers (made_at m (flight_at fs i).thread) → get_or ws (made_at m (flight_at fs i).thread) 0 ≡ made_of (whole m ws fs) (flight_at fs i).thread
own-made m ws fs s i h lt bare =
    let t : ℕ = (flight_at fs i).thread in
    own-word m ws fs s i (made_at m t) h lt (in_block (omega arith) (omega arith)) bare ∙ made_of-word m (laid_all fs ws) t (thread_at m ws fs s i h lt)

pub own-slot : (m : Areas) (ws : List ℕ) (fs : List Flight) (s : SpaceState) (i k : ℕ) → StandInFlight m ws fs s → i < length fs → IsBare (flight_at fs i).covers (slot_at m (flight_at fs i).thread k) → k < length (stack_of (whole m ws fs) (flight_at fs i).thread) → get_or ws (slot_at m (flight_at fs i).thread k) 0 ≡ get_or (stack_of (whole m ws fs) (flight_at fs i).thread) k 0
own-slot m ws fs s i k h lt bare lk =
    let t : ℕ = (flight_at fs i).thread in
    let sound = sound_under m ws fs s h.fit h.stands in
    let ht = thread_at m ws fs s i h lt in
    own-word m ws fs s i (slot_at m t k) h lt (in_block (omega arith) (omega (arith, lk, stack_of-fits m (laid_all fs ws) t ht sound))) bare ∙ stack_of-word m (laid_all fs ws) t k ht sound lk

pub own-current : (m : Areas) (ws : List ℕ) (fs : List Flight) (s : SpaceState) (i d : ℕ) → StandInFlight m ws fs s → i < length fs → IsBare (flight_at fs i).covers (current_at m (flight_at fs i).thread d) → d ≤ max_depth m → get_or ws (current_at m (flight_at fs i).thread d) 0 ≡ get_or (currents_of (whole m ws fs) (flight_at fs i).thread) d 0
own-current m ws fs s i d h lt bare ld =
    let t : ℕ = (flight_at fs i).thread in
    own-word m ws fs s i (current_at m t d) h lt (in_block (omega arith) (omega (arith, ld))) bare ∙ currents_of-word m (laid_all fs ws) t d (thread_at m ws fs s i h lt) (omega (arith, ld))

pub own-logged : (m : Areas) (ws : List ℕ) (fs : List Flight) (s : SpaceState) (i : ℕ) → StandInFlight m ws fs s → i < length fs → IsBare (flight_at fs i).covers (logged_at m (flight_at fs i).thread) → get_or ws (logged_at m (flight_at fs i).thread) 0 ≡ length (buffer_of (whole m ws fs) (flight_at fs i).thread)
own-logged m ws fs s i h lt bare =
    let t : ℕ = (flight_at fs i).thread in
    own-word m ws fs s i (logged_at m t) h lt (in_block (omega arith) (omega arith)) bare ∙ buffer_of-length_word m (laid_all fs ws) t (thread_at m ws fs s i h lt) (sound_under m ws fs s h.fit h.stands)

-- ---- the covers of a call in flight lifted by a step of it

-- the words as the thread sees them, with all other calls in flight taken back
abbrev pub seen : List Flight → ℕ → List ℕ → List ℕ
seen fs i ws = laid_all (others fs i) ws

pub seen-lifted : (m : Areas) (ws : List ℕ) (fs : List Flight) (s : SpaceState) (i : ℕ) → StandInFlight m ws fs s → i < length fs → lifted (flight_at fs i).covers (laid_all fs ws) ≡ seen fs i ws
seen-lifted m ws fs s i h lt =
    let F : Flight = flight_at fs i in
    let was = fit_at m ws fs i h.fit lt in
    let beside = covers-beside m ws fs s i h.fit h.stands lt in
    let stand : All (λ (k : Cover). get_or (seen fs i ws) k.place 0 ≡ k.stands) F.covers = λ k d lk. laid_all-bare (others fs i) ws (get_or F.covers k d).place (bare-others fs i (get_or F.covers k d).place (beside k d lk)) ∙ was.stand k d lk in
    ap (lifted F.covers) (laid_all-own fs i (at_rest F.thread) ws lt refl beside) ∙ lifted-laid F.covers (seen fs i ws) was.once stand

pub put-bare : (m : Areas) (ws : List ℕ) (fs : List Flight) (s : SpaceState) (i a w : ℕ) (f : Flight) → StandInFlight m ws fs s → i < length fs → IsOwn m (whole m ws fs) (flight_at fs i) a → f.covers ≡ [] → laid_all (set fs i f) (set ws a w) ≡ set (lifted (flight_at fs i).covers (laid_all fs ws)) a w
put-bare m ws fs s i a w f h lt own none =
    let put = laid_all-put fs i f (set ws a w) lt (subst (All (λ (k : Cover). IsBareBeside fs i k.place)) (sym none) (λ k d lk. absurd (omega (arith, lk)))) in
    put ∙ ap (λ (ks : List Cover). laid ks (laid_all (others fs i) (set ws a w))) none ∙ laid_all-set (others fs i) ws a w (bare-others fs i a (bare-beside m ws fs s i a h.fit h.stands lt own)) ∙ ap (λ (xs : List ℕ). set xs a w) (sym (seen-lifted m ws fs s i h lt))
