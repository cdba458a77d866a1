-- What words show of an object that is being made.
use Rattle.std.proofs.Common.{◌≡◌, ◌⊎◌, ℕ, ◌+◌, ◌*◌, ◌≤◌, ◌<◌, List, [], length, get_or, set, refl, sym, ap, ◌∙◌, arith}
use Rattle.std.specs.List.{All}
use Rattle.object_layout.specs.declared.TheConstants.{OBJECT_WORDS}
use Rattle.object_layout.specs.Layout.{header_word, name_word}
use Rattle.heap_words.specs.declared.map.Areas.{Areas}
use Rattle.heap_words.specs.Map.{HasThread, heap_at, max_depth, page_words, total_of}
use Rattle.heap_words.specs.Contents.{Contents, Sound, contents, depth_of, made_of, stack_of, with_made}
use Rattle.heap_words.proofs.Contents.{contents-get_heap, contents-set_made, depth_of-fits, made_of-word}
use Rattle.epoch_lattice.specs.Lattice.{inner_of, space_index}
use Rattle.yak_model.specs.Spaces.{SpaceState}
use Rattle.standing_calls.specs.Objects.{IsWritten}
use Rattle.calls_in_flight.specs.Flight.{Cover, Flight, IsBare, at_rest, flight_at}
use Rattle.calls_in_flight.specs.Whole.{laid, laid_all, whole}
use Rattle.calls_in_flight.specs.Owning.{IsOwn, IsOwnPage, in_page}
use Rattle.calls_in_flight.specs.Fits.{StandInFlight}
use Rattle.calls_in_flight.specs.Making.{LiesAt, Makes}
use Rattle.calls_in_flight.specs.Steps.{depth_at, length_at, made_at, slot_at}
use Rattle.calls_in_flight.proofs.Apart.{page-exists}
use Rattle.calls_in_flight.proofs.Chains.{contents-unused, sound-set}
use Rattle.calls_in_flight.proofs.Covers.{laid-shown}
use Rattle.calls_in_flight.proofs.Flights.{bare-others, laid_all-bare, laid_all-own, length-laid_all, others}
use Rattle.calls_in_flight.proofs.Grounds.{bare-beside, fit_at, holds_at, named, sound_under, under}
use Rattle.calls_in_flight.proofs.OwnWords.{own-depth, own-length, seen, thread_at}
use Rattle.calls_in_flight.proofs.Quiet.{covers-beside}

-- what a cover shows, and what stands under it
pub shown-at : (m : Areas) (ws : List ℕ) (fs : List Flight) (s : SpaceState) (i j : ℕ) (k : Cover) → StandInFlight m ws fs s → i < length fs → j < length (flight_at fs i).covers → get_or (flight_at fs i).covers j k ≡ k → k.place < total_of m → get_or (laid_all fs ws) k.place 0 ≡ k.shown
shown-at m ws fs s i j k h lt lj is within =
    let F : Flight = flight_at fs i in
    let was = fit_at m ws fs i h.fit lt in
    let v : List ℕ = laid_all (others fs i) ws in
    let long : length v ≡ total_of m = length-laid_all (others fs i) ws ∙ h.fit.long in
    let own : laid_all fs ws ≡ laid F.covers v = laid_all-own fs i (at_rest F.thread) ws lt refl (covers-beside m ws fs s i h.fit h.stands lt) in
    let at : (get_or F.covers j k).place ≡ k.place = ap (λ (x : Cover). x.place) is in
    ap (λ (xs : List ℕ). get_or xs k.place 0) own ∙ ap (λ p. get_or (laid F.covers v) p 0) (sym at) ∙ laid-shown F.covers v j k was.once lj (omega (arith, at, within, long)) ∙ ap (λ (x : Cover). x.shown) is

pub seen-own : (m : Areas) (ws : List ℕ) (fs : List Flight) (s : SpaceState) (i a : ℕ) → StandInFlight m ws fs s → i < length fs → IsOwn m (whole m ws fs) (flight_at fs i) a → get_or (seen fs i ws) a 0 ≡ get_or ws a 0
seen-own m ws fs s i a h lt own = laid_all-bare (others fs i) ws a (bare-others fs i a (bare-beside m ws fs s i a h.fit h.stands lt own))

-- covers in the heap leave the words before it bare
pub bare-before : (m : Areas) (ks : List Cover) (a end x : ℕ) → All (LiesAt m a end) ks → x < heap_at m → IsBare ks x
bare-before m ks a end x h lt j d lj e = omega (arith, (h j d lj).0, lt, e)

-- what is known of the thread
pub record Ready (m : Areas) (ws : List ℕ) (fs : List Flight) (i k : ℕ) (g : Makes m ws fs i k) : Type 0 where
  pub thread : HasThread m (flight_at fs i).thread
  pub sound : Sound m (laid_all fs ws)
  pub count : g.n ≡ length (stack_of (under m ws fs) (flight_at fs i).thread)
  pub depth : depth_of (under m ws fs) (flight_at fs i).thread ≡ g.depth
  pub deep : g.depth ≤ max_depth m
  pub made : g.made ≡ made_of (under m ws fs) (flight_at fs i).thread

pub ready : (m : Areas) (ws : List ℕ) (fs : List Flight) (s : SpaceState) (i k : ℕ) (g : Makes m ws fs i k) → StandInFlight m ws fs s → IsBare (flight_at fs i).covers (length_at m (flight_at fs i).thread) → IsBare (flight_at fs i).covers (depth_at m (flight_at fs i).thread) → 1 < length (flight_at fs i).covers → (let c : Cover = record { place = made_at m (flight_at fs i).thread; stands = g.made + 1; shown = g.made } in get_or (flight_at fs i).covers 1 c ≡ c) → Ready m ws fs i k g
ready m ws fs s i k g h bare_length bare_depth two is =
    let t : ℕ = (flight_at fs i).thread in
    let ht = thread_at m ws fs s i h g.inside in
    let sound = sound_under m ws fs s h.fit h.stands in
    let deep : depth_of (under m ws fs) t ≡ g.depth = sym (own-depth m ws fs s i h g.inside bare_depth) ∙ g.deep in
    record {
      thread = ht;
      sound = sound;
      count = sym g.count ∙ own-length m ws fs s i h g.inside bare_length;
      depth = deep;
      deep = omega (arith, deep, depth_of-fits m (laid_all fs ws) t ht sound);
      made = sym (shown-at m ws fs s i 1 (record { place = made_at m t; stands = g.made + 1; shown = g.made }) h g.inside two is (omega (arith, ht.0, ht.1))) ∙ made_of-word m (laid_all fs ws) t ht;
    }

-- the words with the slot and the number made put back
abbrev pub numbered : {m : Areas} {ws : List ℕ} {fs : List Flight} {i k : ℕ} → Makes m ws fs i k → List ℕ
numbered {m} {ws} {fs} {i} {k} g = set (set (laid_all fs ws) (slot_at m (flight_at fs i).thread g.n) (2 * ((page_words m * g.page + g.used) + 1))) (made_at m (flight_at fs i).thread) (g.made + 1)

pub numbered-holds : (m : Areas) (ws : List ℕ) (fs : List Flight) (i k : ℕ) (g : Makes m ws fs i k) → Ready m ws fs i k g → (contents m (numbered g) ≡ with_made (under m ws fs) (flight_at fs i).thread (g.made + 1)) × Sound m (numbered g)
numbered-holds m ws fs i k g r =
    let t : ℕ = (flight_at fs i).thread in
    let w : ℕ = 2 * ((page_words m * g.page + g.used) + 1) in
    let W : List ℕ = laid_all fs ws in
    let one : contents m (set W (slot_at m t g.n) w) ≡ under m ws fs = contents-unused m W t g.n w r.thread r.sound r.count g.room in
    let sound : Sound m (set W (slot_at m t g.n) w) = sound-set m W (slot_at m t g.n) w (under m ws fs) r.sound one refl refl refl in
    let two = contents-set_made m (set W (slot_at m t g.n) w) t (g.made + 1) r.thread sound in
    (two ∙ ap (λ (x : Contents). with_made x t (g.made + 1)) one, sound-set m (set W (slot_at m t g.n) w) (made_at m t) (g.made + 1) (with_made (contents m (set W (slot_at m t g.n) w)) t (g.made + 1)) sound two refl refl refl)

-- the object's words are the thread's own
pub object-own : (m : Areas) (ws : List ℕ) (fs : List Flight) (s : SpaceState) (i k j : ℕ) (g : Makes m ws fs i k) → IsOwnPage m (whole m ws fs) (flight_at fs i) g.page → (let c = whole m ws fs in get_or (get_or c.table g.page []) 1 0 ≤ g.used) → j < k + OBJECT_WORDS → IsOwn m (whole m ws fs) (flight_at fs i) (heap_at m + ((page_words m * g.page + g.used) + j))
object-own m ws fs s i k j g own low lt = in_page g.page (g.used + j) own (omega (arith, low)) (omega (arith, lt, g.fits)) (omega arith)

-- the object as it is written, once the words that are seen are the contents' words
pub is-written : (m : Areas) (ws : List ℕ) (fs : List Flight) (s : SpaceState) (i k : ℕ) (g : Makes m ws fs i k) (c : Contents) → StandInFlight m ws fs s → IsOwnPage m (whole m ws fs) (flight_at fs i) g.page → (let d = whole m ws fs in get_or (get_or d.table g.page []) 1 0 ≤ g.used) → (let a = page_words m * g.page + g.used in (x : ℕ) → (x < a) ⊎ (a + (k + OBJECT_WORDS) ≤ x) → get_or (contents m (seen fs i ws)).heap x 0 ≡ get_or c.heap x 0) → (let a = page_words m * g.page + g.used in IsWritten c (record c { heap = (contents m (seen fs i ws)).heap }) a (header_word (record { fields = k; space = space_index (inner_of (flight_at fs i).thread g.depth) })) (name_word (record { thread = (flight_at fs i).thread; serial = g.made + 1 })) (k + OBJECT_WORDS) (k + OBJECT_WORDS))
is-written m ws fs s i k g c h own low others_kept =
    let v : List ℕ = seen fs i ws in
    let a : ℕ = page_words m * g.page + g.used in
    let lt : g.page < m.pages = page-exists m (whole m ws fs) (flight_at fs i) g.page (named m ws fs s h.fit h.stands) (holds_at m ws fs s i h.fit h.stands g.inside) own in
    let word : (j : ℕ) → j < k + OBJECT_WORDS → get_or (contents m v).heap (a + j) 0 ≡ get_or ws (heap_at m + (a + j)) 0 = λ j lj. sym (contents-get_heap m v (a + j) (omega (arith, lt, lj, g.fits))) ∙ seen-own m ws fs s i (heap_at m + (a + j)) h g.inside (object-own m ws fs s i k j g own low lj) in
    let zero_at : a + 0 ≡ a = omega arith in
    record {
      rest = refl;
      header = ap (λ x. get_or (contents m v).heap x 0) (sym zero_at) ∙ word 0 (omega arith) ∙ ap (λ x. get_or ws (heap_at m + x) 0) zero_at ∙ g.stands.header;
      name = word 1 (omega arith) ∙ g.stands.named;
      zero = λ j low' lj. word j lj ∙ g.stands.zero j low' lj;
      others = others_kept;
    }
