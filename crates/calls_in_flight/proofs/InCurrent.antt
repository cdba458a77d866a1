-- An object made in the thread's current page.
use Rattle.std.proofs.Common.{◌≡◌, ◌≢◌, ℕ, ◌+◌, ◌-◌, ◌*◌, ◌≤◌, ◌<◌, List, [], ◌∷◌, ◌++◌, length, get_or, set, drop, zero, suc, refl, sym, ap, subst, ◌∙◌, arith, inl, length-set, length-append, length-drop}
use Rattle.std.specs.Prelude.{Option, IfSome}
use Rattle.std.specs.List.{All, AllPairs}
use Rattle.std.proofs.lemmas.List.Elements.{All-cons}
use Rattle.object_layout.specs.declared.TheConstants.{OBJECT_WORDS}
use Rattle.object_layout.specs.Layout.{header_word, name_word}
use Rattle.object_layout.specs.declared.calls.Call.TheVariants as call
use Rattle.object_layout.specs.declared.replies.Reply.TheVariants as reply
use Rattle.heap_words.specs.declared.map.Areas.{Areas}
use Rattle.heap_words.specs.Map.{HasRegion, HasThread, heap_at, page_at, page_words}
use Rattle.heap_words.specs.Cells.{row_set}
use Rattle.heap_words.specs.Contents.{Contents, Sound, contents, depth_of, stack_of, with_made, with_page, with_stack}
use Rattle.heap_words.proofs.Contents.{contents-get_page, contents-set_page, length-made, sound-elsewhere}
use Rattle.epoch_lattice.specs.Lattice.{inner_of, space_index}
use Rattle.yak_model.specs.declared.history.Entry.TheVariants.{Said}
use Rattle.yak_model.specs.Placed.{used_mark}
use Rattle.yak_model.specs.Spaces.{SpaceState}
use Rattle.yak_model.specs.Stands.{PoolStands, Stands, current}
use Rattle.region_pages.specs.Placement.{IsPlacedInCurrent, depth_in, with_used}
use Rattle.region_pages.specs.declared.TheConstants.{USED_MARK}
use Rattle.region_pages.proofs.Entries.{space-with_used, used-with_used_other}
use Rattle.region_pages.proofs.Placing.{currents-spaces, is_placed, pool-spaces}
use Rattle.region_pages.proofs.Shapes.{Shape, shape}
use Rattle.standing_calls.specs.Objects.{IsWritten}
use Rattle.standing_calls.specs.Turned.{Turned}
use Rattle.standing_calls.proofs.Makes.{made_turns}
use Rattle.calls_in_flight.specs.Flight.{Cover, Flight, IsBare, Reading, flight_at}
use Rattle.calls_in_flight.specs.Whole.{claimed_in, claims_in, completed, free_with, heads_with, laid_all, pool_back, whole}
use Rattle.calls_in_flight.specs.Owning.{IsOwn, IsOwnPage, in_block, in_entry, in_page}
use Rattle.calls_in_flight.specs.Fits.{FlightsFit, StandInFlight}
use Rattle.calls_in_flight.specs.Stepped.{Stepped}
use Rattle.calls_in_flight.specs.Making.{Makes, MakesInCurrent, made_cover, mark_cover, slot_cover}
use Rattle.calls_in_flight.specs.Steps.{current_at, depth_at, length_at, slot_at}
use Rattle.calls_in_flight.proofs.Apart.{page-apart, page-exists, page-kept}
use Rattle.calls_in_flight.proofs.Chains.{Rewritten, contents-grown, length-lifted, lifted-heap, sound-set}
use Rattle.calls_in_flight.proofs.Claimed.{claims-put}
use Rattle.calls_in_flight.proofs.Covers.{lifted}
use Rattle.calls_in_flight.proofs.Events.{completed-same, same_flight, step-turned}
use Rattle.calls_in_flight.proofs.Grounds.{bare-beside, fit_at, fits-beside, fits-moved, fits-put, free_under, holds_at, named, pages-apart, sound_under, threads-apart, under}
use Rattle.calls_in_flight.proofs.OwnWords.{own-current, put-bare, seen, seen-lifted}
use Rattle.calls_in_flight.proofs.Quiet.{puts_set}
use Rattle.calls_in_flight.proofs.Ready.{Ready, bare-before, is-written, numbered, numbered-holds, ready, seen-own, shown-at}

-- ---- the shape of what the words hold

heads_with-length : (ps heads pool : List ℕ) → length (heads_with ps heads pool) ≡ length heads
heads_with-length [] heads pool = refl
heads_with-length (p ∷ ps) heads pool = length-set (set heads 1 0) 2 (length (free_with (p ∷ ps) heads pool)) ∙ length-set heads 1 0

pool_back-length : (ps heads pool : List ℕ) (n : ℕ) → length pool ≡ n → length (free_with ps heads pool) ≤ n → length (pool_back ps heads pool) ≡ n
pool_back-length [] heads pool n long few = long
pool_back-length (p ∷ ps) heads pool n long few =
    let all : List ℕ = free_with (p ∷ ps) heads pool in
    omega (arith, length-append all (drop (length all) pool), length-drop (length all) pool, long, few)

pub shape_whole : (m : Areas) (ws : List ℕ) (fs : List Flight) (s : SpaceState) → FlightsFit m ws fs → Stands m (whole m ws fs) s → Shape m (whole m ws fs)
shape_whole m ws fs s fit h =
    let sh : Shape m (under m ws fs) = shape m (laid_all fs ws) (sound_under m ws fs s fit h) in
    record {
      heads = heads_with-length (claimed_in fs) (under m ws fs).heads (under m ws fs).pool ∙ sh.heads;
      pool = pool_back-length (claimed_in fs) (under m ws fs).heads (under m ws fs).pool m.pages sh.pool (free_under m ws fs s fit h).few;
      table = sh.table;
      entries = sh.entries;
      currents = sh.currents;
      slots = sh.slots;
    }

pub depth-inner : (t d : ℕ) → depth_in (inner_of t d) ≡ d
depth-inner t zero = refl
depth-inner t (suc d) = refl

-- ---- covers and bare places

bare_three : (m : Areas) (ws : List ℕ) (fs : List Flight) (i k x : ℕ) (g : Makes m ws fs i k) (f : Flight) (c : MakesInCurrent m ws fs i k g f) → (slot_cover g c.above).place ≢ x → (made_cover g).place ≢ x → (mark_cover g g.used).place ≢ x → x < heap_at m → IsBare (flight_at fs i).covers x
bare_three m ws fs i k x g f c a b d lt =
    let P : Cover → Type 0 = λ y. y.place ≢ x in
    let rest : All P c.object = bare-before m c.object _ _ x c.within lt in
    subst (λ (ks : List Cover). IsBare ks x) (sym c.covers) (All-cons P (slot_cover g c.above) (made_cover g ∷ mark_cover g g.used ∷ c.object) a (All-cons P (made_cover g) (mark_cover g g.used ∷ c.object) b (All-cons P (mark_cover g g.used) c.object d rest)))

-- a cover in its place
pub cover_at : (ks js : List Cover) (j : ℕ) (k : Cover) → ks ≡ js → get_or js j k ≡ k → get_or ks j k ≡ k
cover_at ks js j k e is = ap (λ (x : List Cover). get_or x j k) e ∙ is

pub record Placed (m : Areas) (ws : List ℕ) (fs : List Flight) (i k : ℕ) (g : Makes m ws fs i k) : Type 0 where
  pub ready : Ready m ws fs i k g
  pub own : IsOwnPage m (whole m ws fs) (flight_at fs i) g.page
  pub within : g.page < m.pages

-- what is known where the object stands in the current page
in_place : (m : Areas) (ws : List ℕ) (fs : List Flight) (s : SpaceState) (i k : ℕ) (g : Makes m ws fs i k) (f : Flight) → StandInFlight m ws fs s → MakesInCurrent m ws fs i k g f → Placed m ws fs i k g
in_place m ws fs s i k g f h c =
    let F : Flight = flight_at fs i in
    let t : ℕ = F.thread in
    let ht = (fit_at m ws fs i h.fit g.inside).thread in
    let covered : 2 < length F.covers = subst (λ (ks : List Cover). 2 < length ks) (sym c.covers) (omega arith) in
    let r : Ready m ws fs i k g = ready m ws fs s i k g h
    (bare_three m ws fs i k (length_at m t) g f c (λ e. omega (arith, e)) (λ e. omega (arith, e)) (λ e. omega (arith, e, ht.0, ht.1)) (omega (arith, ht.0, ht.1)))
    (bare_three m ws fs i k (depth_at m t) g f c (λ e. omega (arith, e)) (λ e. omega (arith, e)) (λ e. omega (arith, e, ht.0, ht.1)) (omega (arith, ht.0, ht.1)))
    (omega (arith, covered)) (cover_at F.covers (slot_cover g c.above ∷ made_cover g ∷ mark_cover g g.used ∷ c.object) 1 (made_cover g) c.covers refl) in
    let bare = bare_three m ws fs i k (current_at m t g.depth) g f c (λ e. omega (arith, e, r.deep)) (λ e. omega (arith, e)) (λ e. omega (arith, e, ht.0, ht.1, r.deep)) (omega (arith, ht.0, ht.1, r.deep)) in
    let is : current (whole m ws fs).currents t g.depth ≡ g.page + 1 = sym (own-current m ws fs s i g.depth h g.inside bare r.deep) ∙ c.current in
    let own : IsOwnPage m (whole m ws fs) F g.page = inl (g.depth, r.deep, is) in
    record { ready = r; own = own; within = page-exists m (whole m ws fs) F g.page (named m ws fs s h.fit h.stands) (holds_at m ws fs s i h.fit h.stands g.inside) own }

-- the page's used mark, as the state has it
mark_shown : (m : Areas) (ws : List ℕ) (fs : List Flight) (s : SpaceState) (i k : ℕ) (g : Makes m ws fs i k) (f : Flight) → StandInFlight m ws fs s → MakesInCurrent m ws fs i k g f → used_mark (under m ws fs).table g.page ≡ g.used
mark_shown m ws fs s i k g f h c =
    let F : Flight = flight_at fs i in
    let p = in_place m ws fs s i k g f h c in
    let covered : 2 < length F.covers = subst (λ (ks : List Cover). 2 < length ks) (sym c.covers) (omega arith) in
    let shown = shown-at m ws fs s i 2 (mark_cover g g.used) h g.inside covered (cover_at F.covers (slot_cover g c.above ∷ made_cover g ∷ mark_cover g g.used ∷ c.object) 2 (mark_cover g g.used) c.covers refl) (omega (arith, p.within)) in
    sym (contents-get_page m (laid_all fs ws) g.page 1 p.within (omega arith)) ∙ shown

-- the words under the object
abbrev basis : {m : Areas} {ws : List ℕ} {fs : List Flight} {i k : ℕ} → Makes m ws fs i k → List ℕ
basis {m} {ws} {fs} {i} {k} g = set (numbered g) (page_at m g.page + USED_MARK) (g.used + (k + OBJECT_WORDS))

abbrev basis_is : {m : Areas} {ws : List ℕ} {fs : List Flight} {i k : ℕ} → Makes m ws fs i k → Contents
basis_is {m} {ws} {fs} {i} {k} g = with_page (with_made (under m ws fs) (flight_at fs i).thread (g.made + 1)) g.page USED_MARK (g.used + (k + OBJECT_WORDS))

basis-holds : (m : Areas) (ws : List ℕ) (fs : List Flight) (i k : ℕ) (g : Makes m ws fs i k) → Ready m ws fs i k g → g.page < m.pages → (contents m (basis g) ≡ basis_is g) × Sound m (basis g)
basis-holds m ws fs i k g r lt =
    let e = numbered-holds m ws fs i k g r in
    let two = contents-set_page m (numbered g) g.page USED_MARK (g.used + (k + OBJECT_WORDS)) lt (omega arith) in
    (two ∙ ap (λ (x : Contents). with_page x g.page USED_MARK (g.used + (k + OBJECT_WORDS))) e.0, sound-set m (numbered g) (page_at m g.page + USED_MARK) (g.used + (k + OBJECT_WORDS)) (with_page (contents m (numbered g)) g.page USED_MARK (g.used + (k + OBJECT_WORDS))) e.1 two refl refl refl)

-- the words as the thread sees them
pub record Seen (m : Areas) (ws : List ℕ) (fs : List Flight) (i : ℕ) (base : Contents) (a end : ℕ) : Type 0 where
  pub rewritten : Rewritten base (contents m (seen fs i ws)) a end
  pub sound : Sound m (seen fs i ws)

seen-holds : (m : Areas) (ws : List ℕ) (fs : List Flight) (s : SpaceState) (i k : ℕ) (g : Makes m ws fs i k) (f : Flight) → StandInFlight m ws fs s → MakesInCurrent m ws fs i k g f → (let a = page_words m * g.page + g.used in Seen m ws fs i (basis_is g) a (a + (k + OBJECT_WORDS)))
seen-holds m ws fs s i k g f h c =
    let a : ℕ = page_words m * g.page + g.used in
    let p = in_place m ws fs s i k g f h c in
    let e = basis-holds m ws fs i k g p.ready p.within in
    let is : lifted c.object (basis g) ≡ seen fs i ws = ap (λ (ks : List Cover). lifted ks (laid_all fs ws)) (sym c.covers) ∙ seen-lifted m ws fs s i h g.inside in
    let re : Rewritten (contents m (basis g)) (contents m (lifted c.object (basis g))) a (a + (k + OBJECT_WORDS)) = lifted-heap m c.object (basis g) a (a + (k + OBJECT_WORDS)) (omega (arith, p.within, g.fits)) c.within in
    let sound : Sound m (lifted c.object (basis g)) = sound-elsewhere m (basis g) (lifted c.object (basis g)) e.1 (length-lifted c.object (basis g) ∙ e.1.whole) (ap (λ (x : Contents). x.depths) re.rest) (ap (λ (x : Contents). x.stacks) re.rest) (ap (λ (x : Contents). x.buffers) re.rest) in
    record {
      rewritten = subst (λ (xs : List ℕ). Rewritten (basis_is g) (contents m xs) a (a + (k + OBJECT_WORDS))) is (subst (λ (x : Contents). Rewritten x (contents m (lifted c.object (basis g))) a (a + (k + OBJECT_WORDS))) e.0 re);
      sound = subst (Sound m) is sound;
    }

-- ---- the words once the stack's length is stored

abbrev stored_at : {m : Areas} {ws : List ℕ} {fs : List Flight} {i k : ℕ} → Makes m ws fs i k → List ℕ
stored_at {m} {ws} {fs} {i} {k} g = set ws (length_at m (flight_at fs i).thread) (g.n + 1)

abbrev pub reference : {m : Areas} {ws : List ℕ} {fs : List Flight} {i k : ℕ} → Makes m ws fs i k → ℕ
reference {m} {ws} {fs} {i} {k} g = 2 * ((page_words m * g.page + g.used) + 1)

-- the slot as the thread sees it
pub slot-seen : (m : Areas) (ws : List ℕ) (fs : List Flight) (s : SpaceState) (i k above : ℕ) (ks : List Cover) (g : Makes m ws fs i k) → StandInFlight m ws fs s → (flight_at fs i).covers ≡ slot_cover g above ∷ ks → get_or (seen fs i ws) (slot_at m (flight_at fs i).thread g.n) 0 ≡ reference g
slot-seen m ws fs s i k above ks g h covers =
    let F : Flight = flight_at fs i in
    let stand : All (λ (x : Cover). get_or ws x.place 0 ≡ x.stands) (slot_cover g above ∷ ks) = subst (All (λ (x : Cover). get_or ws x.place 0 ≡ x.stands)) covers (fit_at m ws fs i h.fit g.inside).stand in
    seen-own m ws fs s i (slot_at m F.thread g.n) h g.inside (in_block (omega arith) (omega (arith, g.room))) ∙ stand 0 (slot_cover g above) (omega arith)

-- what the words hold under the calls in flight then, from what the thread sees
pub grown-seen : (m : Areas) (ws : List ℕ) (fs : List Flight) (s : SpaceState) (i k above a end : ℕ) (ks : List Cover) (base : Contents) (g : Makes m ws fs i k) (f : Flight) → StandInFlight m ws fs s → Ready m ws fs i k g → (flight_at fs i).covers ≡ slot_cover g above ∷ ks → f.covers ≡ [] → Seen m ws fs i base a end → base.stacks ≡ (under m ws fs).stacks → under m (set ws (length_at m (flight_at fs i).thread) (g.n + 1)) (set fs i f) ≡ (let x : Contents = record base { heap = (contents m (seen fs i ws)).heap } in with_stack x (flight_at fs i).thread (stack_of (under m ws fs) (flight_at fs i).thread ++ reference g ∷ []))
grown-seen m ws fs s i k above a end ks base g f h r covers none sn same =
    let t : ℕ = (flight_at fs i).thread in
    let v : List ℕ = seen fs i ws in
    let stacks : (contents m v).stacks ≡ (under m ws fs).stacks = ap (λ (x : Contents). x.stacks) sn.rewritten.rest ∙ same in
    let put = put-bare m ws fs s i (length_at m t) (g.n + 1) f h g.inside (in_block (omega arith) (omega arith)) none in
    let lift : lifted (flight_at fs i).covers (laid_all fs ws) ≡ v = seen-lifted m ws fs s i h g.inside in
    let count : g.n ≡ length (stack_of (contents m v) t) = r.count ∙ ap (λ (ss : List (List ℕ)). length (get_or ss (t - 1) [])) (sym stacks) in
    let grown = contents-grown m v t g.n (reference g) r.thread sn.sound count g.room (slot-seen m ws fs s i k above ks g h covers) in
    ap (contents m) (put ∙ ap (λ (xs : List ℕ). set xs (length_at m t) (g.n + 1)) lift) ∙ grown
    ∙ ap (λ (x : Contents). with_stack x t (stack_of (contents m v) t ++ reference g ∷ [])) sn.rewritten.rest
    ∙ ap (λ (ss : List (List ℕ)). (let x : Contents = record base { heap = (contents m v).heap } in with_stack x t (get_or ss (t - 1) [] ++ reference g ∷ []))) stacks

made_under : (m : Areas) (ws : List ℕ) (fs : List Flight) (s : SpaceState) (i k : ℕ) (g : Makes m ws fs i k) (f : Flight) → StandInFlight m ws fs s → MakesInCurrent m ws fs i k g f → under m (stored_at g) (set fs i f) ≡ (let x : Contents = record (basis_is g) { heap = (contents m (seen fs i ws)).heap } in with_stack x (flight_at fs i).thread (stack_of (under m ws fs) (flight_at fs i).thread ++ reference g ∷ []))
made_under m ws fs s i k g f h c =
    let a : ℕ = page_words m * g.page + g.used in
    grown-seen m ws fs s i k c.above a (a + (k + OBJECT_WORDS)) (made_cover g ∷ mark_cover g g.used ∷ c.object) (basis_is g) g f h (in_place m ws fs s i k g f h c).ready c.covers (ap (λ (x : Flight). x.covers) c.after) (seen-holds m ws fs s i k g f h c) refl

-- the entry of the call is added as the stack's length is stored
pub makes-turn : (m : Areas) (ws : List ℕ) (fs : List Flight) (s : SpaceState) (i k : ℕ) (g : Makes m ws fs i k) (f : Flight) → StandInFlight m ws fs s → MakesInCurrent m ws fs i k g f → (let now = set ws (length_at m (flight_at fs i).thread) (g.n + 1) in Turned m (whole m ws fs) (whole m now (set fs i f)) (flight_at fs i).thread (call.New k) reply.Ok)
makes-turn m ws fs s i k g f h c =
    let F : Flight = flight_at fs i in
    let t : ℕ = F.thread in
    let x : Contents = whole m ws fs in
    let gs : List Flight = set fs i f in
    let d : Contents = whole m (stored_at g) gs in
    let size : ℕ = k + OBJECT_WORDS in
    let a : ℕ = page_words m * g.page + g.used in
    let p = in_place m ws fs s i k g f h c in
    let r = p.ready in
    let same = same_flight F f [] c.after in
    let mark : used_mark x.table g.page ≡ g.used = mark_shown m ws fs s i k g f h c in
    let heap : List ℕ = (contents m (seen fs i ws)).heap in
    let c1 : Contents = with_used x g.page (g.used + size) in
    let c2 : Contents = record c1 { heap = heap } in
    let c3 : Contents = with_made c2 t (g.made + 1) in
    let is : d ≡ with_stack c3 t (stack_of c3 t ++ reference g ∷ []) = completed-same fs i f (under m (stored_at g) gs) g.inside same.thread same.claimed same.reading ∙ ap (completed fs) (made_under m ws fs s i k g f h c) in
    let spaces = λ (q : ℕ). space-with_used x.table g.page q (g.used + size) in
    let pool : PoolStands m c1.heads c1.pool c1.table = pool-spaces m x.heads x.pool x.table c1.table spaces h.stands.stands.pool in
    let n = named m ws fs s h.fit h.stands in
    let bare = bare_three m ws fs i k (current_at m t g.depth) g f c (λ e. omega (arith, e, r.deep)) (λ e. omega (arith, e)) (λ e. omega (arith, e, r.thread.0, r.thread.1, r.deep)) (omega (arith, r.thread.0, r.thread.1, r.deep)) in
    let at : current x.currents t g.depth ≡ g.page + 1 = sym (own-current m ws fs s i g.depth h g.inside bare r.deep) ∙ c.current in
    let deep : depth_of x t ≡ g.depth = r.depth in
    let first : IsPlacedInCurrent m x t g.depth size a c1 = is_placed m x c1 t g.depth size g.page g.used at (sym mark) g.fits refl in
    let placed : IsPlacedInCurrent m x t (depth_in (inner_of t (depth_of x t))) size a c1 = subst (λ q. IsPlacedInCurrent m x t q size a c1) (sym (depth-inner t (depth_of x t) ∙ deep)) first in
    let sn = seen-holds m ws fs s i k g f h c in
    let written : IsWritten c1 c2 a (header_word (record { fields = k; space = space_index (inner_of t g.depth) })) (name_word (record { thread = t; serial = g.made + 1 })) size size = is-written m ws fs s i k g c1 h p.own (omega (arith, mark)) sn.rewritten.others in
    made_turns m x c1 c2 c3 d t k g.made a (header_word (record { fields = k; space = space_index (inner_of t g.depth) })) (name_word (record { thread = t; serial = g.made + 1 })) (reference g) reply.Ok h.fit.areas r.thread g.few (omega (arith, r.count, g.room)) r.made g.unspent (shape_whole m ws fs s h.fit h.stands) (length-made m (laid_all fs ws)) pool (currents-spaces m x.currents x.table c1.table spaces n.currents) (ap (λ q. header_word (record { fields = k; space = space_index (inner_of t q) })) (sym deep)) refl refl (inl placed) written refl is

-- ---- the calls in flight fit

-- all fit after the stack's length is stored, where the others' own words stay theirs
pub fits-made : (m : Areas) (ws : List ℕ) (fs : List Flight) (s : SpaceState) (i w : ℕ) (f : Flight) → StandInFlight m ws fs s → i < length fs → f.thread ≡ (flight_at fs i).thread → f.reading ≡ (flight_at fs i).reading → f.claims ≡ (flight_at fs i).claims → f.covers ≡ [] → (let now = set ws (length_at m (flight_at fs i).thread) w in ((under m now (set fs i f)).heads ≡ (under m ws fs).heads) → ((j b : ℕ) → j < length fs → j ≢ i → IsOwn m (whole m ws fs) (flight_at fs j) b → IsOwn m (whole m now (set fs i f)) (flight_at fs j) b) → FlightsFit m now (set fs i f))
fits-made m ws fs s i w f h lt et er ecl none heads keeps =
    let F : Flight = flight_at fs i in
    let a : ℕ = length_at m F.thread in
    let now : List ℕ = set ws a w in
    let d : Contents = whole m now (set fs i f) in
    let was = fit_at m ws fs i h.fit lt in
    let own : IsOwn m (whole m ws fs) F a = in_block (omega arith) (omega arith) in
    let claims : claims_in (set fs i f) ≡ claims_in fs = omega (arith, claims-put fs i f lt, ecl) in
    fits-put m ws now fs i f h.fit lt et (length-set ws a w)
    (record {
      thread = subst (HasThread m) (sym et) was.thread;
      own = subst (All (λ (k : Cover). IsOwn m d f k.place)) (sym none) (λ k e lk. absurd (omega (arith, lk)));
      once = subst (AllPairs (λ (x y : Cover). x.place ≢ y.place)) (sym none) (λ x y e lx ly. absurd (omega (arith, ly)));
      stand = subst (All (λ (k : Cover). get_or now k.place 0 ≡ k.stands)) (sym none) (λ k e lk. absurd (omega (arith, lk)));
      reading = subst (λ (r : Option Reading). IfSome r (λ (x : Reading). HasRegion m x.owner x.depth)) (sym er) was.reading;
      claims = subst (λ n. n ≤ 1) (sym ecl) was.claims;
    })
    (λ j lj ne. fits-moved m now (whole m ws fs) d (flight_at fs j) (λ b o. keeps j b lj ne o) (fits-beside m ws (whole m ws fs) (flight_at fs j) a w (bare-beside m ws fs s i a h.fit h.stands lt own j lj ne) (fit_at m ws fs j h.fit lj)))
    (rw heads h.fit.within)
    (rw (heads, claims) h.fit.passed)

-- a word stays a thread's own where its pages do, with their used marks
pub own-elsewhere : (m : Areas) (c d : Contents) (g : Flight) (b : ℕ) → ((q : ℕ) → IsOwnPage m c g q → IsOwnPage m d g q × (used_mark d.table q ≡ used_mark c.table q)) → IsOwn m c g b → IsOwn m d g b
own-elsewhere m c d g b keeps (in_block lt gt) = in_block lt gt
own-elsewhere m c d g b keeps (in_entry p j own lj e) = in_entry p j (keeps p own).0 lj e
own-elsewhere m c d g b keeps (in_page p i own low li e) = let k = keeps p own in in_page p i k.0 (omega (arith, k.1, low)) li e

-- a page of one thread is none of another one's
pub page-beside : (m : Areas) (ws : List ℕ) (fs : List Flight) (s : SpaceState) (i j q : ℕ) → StandInFlight m ws fs s → i < length fs → j < length fs → j ≢ i → IsOwnPage m (whole m ws fs) (flight_at fs j) q → IsOwnPage m (whole m ws fs) (flight_at fs i) q → ⊥
page-beside m ws fs s i j q h li lj ne own other =
    page-apart m (whole m ws fs) (flight_at fs j) (flight_at fs i) q (named m ws fs s h.fit h.stands) (holds_at m ws fs s j h.fit h.stands lj) (holds_at m ws fs s i h.fit h.stands li) (threads-apart m ws fs i j h.fit li lj ne) (λ c k. pages-apart m ws fs s i j q h.fit h.stands li lj ne c k) own other

-- the other threads' own words stay theirs
makes-own : (m : Areas) (ws : List ℕ) (fs : List Flight) (s : SpaceState) (i k : ℕ) (g : Makes m ws fs i k) (f : Flight) → StandInFlight m ws fs s → MakesInCurrent m ws fs i k g f → (j b : ℕ) → j < length fs → j ≢ i → IsOwn m (whole m ws fs) (flight_at fs j) b → IsOwn m (whole m (set ws (length_at m (flight_at fs i).thread) (g.n + 1)) (set fs i f)) (flight_at fs j) b
makes-own m ws fs s i k g f h c j b lj ne own =
    let F : Flight = flight_at fs i in
    let x : Contents = whole m ws fs in
    let d : Contents = whole m (stored_at g) (set fs i f) in
    let p = in_place m ws fs s i k g f h c in
    let e = made_under m ws fs s i k g f h c in
    let table : d.table ≡ row_set x.table g.page 1 (g.used + (k + OBJECT_WORDS)) = ap (λ (y : Contents). y.table) e in
    let currents : d.currents ≡ x.currents = ap (λ (y : Contents). y.currents) e in
    own-elsewhere m x d (flight_at fs j) b (λ q o.
    let apart : q ≢ g.page = λ z. page-beside m ws fs s i j q h g.inside lj ne o (subst (IsOwnPage m x F) (sym z) p.own) in
    (page-kept m x d (flight_at fs j) q currents o, ap (λ (y : List (List ℕ)). used_mark y q) table ∙ used-with_used_other x.table g.page q (g.used + (k + OBJECT_WORDS)) apart)) own

pub make-steps : (m : Areas) (ws : List ℕ) (fs : List Flight) (s : SpaceState) (i k : ℕ) (g : Makes m ws fs i k) (f : Flight) (h : StandInFlight m ws fs s) → MakesInCurrent m ws fs i k g f → Stepped m ws (set ws (length_at m (flight_at fs i).thread) (g.n + 1)) fs (set fs i f) i s h (Said (flight_at fs i).thread (call.New k) reply.Ok ∷ []) 0
make-steps m ws fs s i k g f h c =
    let F : Flight = flight_at fs i in
    let same = same_flight F f [] c.after in
    let e = made_under m ws fs s i k g f h c in
    let own = makes-own m ws fs s i k g f h c in
    step-turned m ws (stored_at g) fs (set fs i f) i s F.thread (call.New k) reply.Ok h (puts_set fs i f g.inside same.thread)
    (fits-made m ws fs s i (g.n + 1) f h g.inside same.thread same.reading same.claims (ap (λ (y : Flight). y.covers) c.after) (ap (λ (y : Contents). y.heads) e) (λ j b lj ne o. own j b lj ne o))
    (makes-turn m ws fs s i k g f h c) own (ap (λ (y : Contents). y.buffers) e)
