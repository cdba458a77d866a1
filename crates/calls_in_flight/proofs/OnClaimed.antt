-- An object made on a page that the thread has claimed.
use Rattle.std.proofs.Common.{◌≡◌, ◌≢◌, ℕ, ◌+◌, ◌-◌, ◌*◌, ◌≤◌, ◌<◌, List, [], ◌∷◌, ◌++◌, length, get_or, set, drop, refl, sym, ap, subst, ◌∙◌, arith, inl, inr, length-set, length-append, length-drop, get_or-set_same, get_or-set_other}
use Rattle.std.specs.List.{All, Contains}
use Rattle.std.proofs.lemmas.Bool.{cases_eq}
use Rattle.std.proofs.lemmas.List.{append_assoc, set-set, drop-set-lt}
use Rattle.std.proofs.lemmas.List.Elements.{All-cons}
use Rattle.std.proofs.Math.Logic.{⊎_elim}
use Rattle.object_layout.specs.declared.TheConstants.{OBJECT_WORDS}
use Rattle.object_layout.specs.Layout.{header_word, name_word}
use Rattle.object_layout.specs.declared.calls.Call.TheVariants as call
use Rattle.object_layout.specs.declared.replies.Reply.TheVariants as reply
use Rattle.heap_words.specs.declared.map.Areas.{Areas}
use Rattle.heap_words.specs.declared.TheConstants.{HEAD_WORDS}
use Rattle.heap_words.specs.Map.{heap_at, max_depth, page_at, page_words}
use Rattle.heap_words.specs.Cells.{row, row_set}
use Rattle.heap_words.specs.Contents.{Contents, Sound, contents, depth_of, stack_of, with_current, with_made, with_page, with_stack}
use Rattle.heap_words.proofs.Contents.{contents-get_page, contents-set_current, contents-set_page, currents_of-word, length-made, sound-elsewhere}
use Rattle.epoch_lattice.specs.declared.Space.{Space}
use Rattle.epoch_lattice.specs.Lattice.{inner_of, space_index}
use Rattle.yak_model.specs.declared.history.Entry.TheVariants.{Said}
use Rattle.yak_model.specs.Placed.{Places, space_word, used_mark}
use Rattle.yak_model.specs.Spaces.{SpaceState}
use Rattle.yak_model.specs.State.{view}
use Rattle.yak_model.specs.Stands.{CurrentsStand, PoolStands, Stands, StandsAs, claim_counter, current, free_pages, pool_length, unused_heads}
use Rattle.yak_model.specs.Recorded.{RecordedAs}
use Rattle.region_pages.specs.Pages.{with_claimed}
use Rattle.region_pages.specs.Placement.{IsPlacedOnClaimed, depth_in, with_used, words_left_at}
use Rattle.region_pages.specs.declared.TheConstants.{SPACE_WORD, USED_MARK}
use Rattle.region_pages.proofs.Claims.{Contains-front, currents-claimed, first_free, pool-claimed}
use Rattle.region_pages.proofs.Entries.{current-other_thread, entry-other, entry-same, space-with_used}
use Rattle.region_pages.proofs.Freed.{rebuilt_free}
use Rattle.region_pages.proofs.Placing.{currents-placed, few_left, none_left, pool-spaces}
use Rattle.region_pages.proofs.Shapes.{Shape, shape}
use Rattle.standing_calls.specs.Objects.{IsWritten}
use Rattle.standing_calls.specs.Turned.{Turned}
use Rattle.standing_calls.proofs.Entered.{free-mark}
use Rattle.standing_calls.proofs.Makes.{made_turns}
use Rattle.standing_calls.proofs.Told.{inner-is_own, inner-is_space}
use Rattle.calls_in_flight.specs.Flight.{Cover, Flight, IsBare, flight_at}
use Rattle.calls_in_flight.specs.Whole.{claimed_in, completed, free_with, heads_with, laid_all, pool_back, read_in, whole}
use Rattle.calls_in_flight.specs.Owning.{IsOwn, IsOwnPage, in_entry}
use Rattle.calls_in_flight.specs.Fits.{FlightsFit, StandInFlight}
use Rattle.calls_in_flight.specs.Stepped.{Stepped}
use Rattle.calls_in_flight.specs.Making.{Makes, MakesOnClaimed, entry_cover, made_cover, mark_cover, page_cover, slot_cover}
use Rattle.calls_in_flight.specs.Steps.{current_at, depth_at, length_at}
use Rattle.calls_in_flight.proofs.Apart.{named-page}
use Rattle.calls_in_flight.proofs.Chains.{Rewritten, length-lifted, lifted-heap, sound-set}
use Rattle.calls_in_flight.proofs.Claimed.{before, behind, claimed-at, claimed-put}
use Rattle.calls_in_flight.proofs.Claims.{heads_with-unused, recorded-repooled, stands-repooled}
use Rattle.calls_in_flight.proofs.Covers.{lifted}
use Rattle.calls_in_flight.proofs.Events.{mine-block, no_entry}
use Rattle.calls_in_flight.proofs.Grounds.{fit_at, free_under, holds_at, named, sound_under, threads-apart, under}
use Rattle.calls_in_flight.proofs.InCurrent.{Placed, Seen, cover_at, depth-inner, fits-made, grown-seen, own-elsewhere, page-beside, reference}
use Rattle.calls_in_flight.proofs.OwnWords.{own-word, seen, seen-lifted}
use Rattle.calls_in_flight.proofs.Pools.{AreFree, free-moved, pool-free, pool-stands}
use Rattle.calls_in_flight.proofs.Quiet.{puts_set, read-same}
use Rattle.calls_in_flight.proofs.Ready.{Ready, bare-before, is-written, numbered, numbered-holds, ready, shown-at}

-- ---- covers and bare places

bare_five : (m : Areas) (ws : List ℕ) (fs : List Flight) (i k x : ℕ) (g : Makes m ws fs i k) (f : Flight) (c : MakesOnClaimed m ws fs i k g f) → (slot_cover g c.above).place ≢ x → (made_cover g).place ≢ x → (page_cover g c.current).place ≢ x → (mark_cover g c.mark).place ≢ x → (entry_cover g c.entry).place ≢ x → x < heap_at m → IsBare (flight_at fs i).covers x
bare_five m ws fs i k x g f c a b p d e lt =
    let P : Cover → Type 0 = λ y. y.place ≢ x in
    let rest : All P c.object = bare-before m c.object _ _ x c.within lt in
    subst (λ (ks : List Cover). IsBare ks x) (sym c.covers) (All-cons P (slot_cover g c.above) (made_cover g ∷ page_cover g c.current ∷ mark_cover g c.mark ∷ entry_cover g c.entry ∷ c.object) a (All-cons P (made_cover g) (page_cover g c.current ∷ mark_cover g c.mark ∷ entry_cover g c.entry ∷ c.object) b (All-cons P (page_cover g c.current) (mark_cover g c.mark ∷ entry_cover g c.entry ∷ c.object) p (All-cons P (mark_cover g c.mark) (entry_cover g c.entry ∷ c.object) d (All-cons P (entry_cover g c.entry) c.object e rest)))))

-- what is known where the object stands on a claimed page
pub record Fresh (m : Areas) (ws : List ℕ) (fs : List Flight) (i k : ℕ) (g : Makes m ws fs i k) : Type 0 where
  pub placed : Placed m ws fs i k g
  pub free : space_word (whole m ws fs).table g.page ≡ 0
  pub mark : used_mark (whole m ws fs).table g.page ≡ 0

fresh : (m : Areas) (ws : List ℕ) (fs : List Flight) (s : SpaceState) (i k : ℕ) (g : Makes m ws fs i k) (f : Flight) → StandInFlight m ws fs s → MakesOnClaimed m ws fs i k g f → Fresh m ws fs i k g
fresh m ws fs s i k g f h c =
    let F : Flight = flight_at fs i in
    let t : ℕ = F.thread in
    let x = whole m ws fs in
    let ht = (fit_at m ws fs i h.fit g.inside).thread in
    let covered : 2 < length F.covers = subst (λ (ks : List Cover). 2 < length ks) (sym c.covers) (omega arith) in
    let r : Ready m ws fs i k g = ready m ws fs s i k g h
    (bare_five m ws fs i k (length_at m t) g f c (λ e. omega (arith, e)) (λ e. omega (arith, e)) (λ e. omega (arith, e)) (λ e. omega (arith, e, ht.0, ht.1)) (λ e. omega (arith, e, ht.0, ht.1)) (omega (arith, ht.0, ht.1)))
    (bare_five m ws fs i k (depth_at m t) g f c (λ e. omega (arith, e)) (λ e. omega (arith, e)) (λ e. omega (arith, e)) (λ e. omega (arith, e, ht.0, ht.1)) (λ e. omega (arith, e, ht.0, ht.1)) (omega (arith, ht.0, ht.1)))
    (omega (arith, covered)) (cover_at F.covers (slot_cover g c.above ∷ made_cover g ∷ page_cover g c.current ∷ mark_cover g c.mark ∷ entry_cover g c.entry ∷ c.object) 1 (made_cover g) c.covers refl) in
    let in_claimed : Contains F.claimed g.page = subst (λ (ps : List ℕ). Contains ps g.page) (sym c.claimed) (Contains-front c.rest g.page) in
    let free = (holds_at m ws fs s i h.fit h.stands g.inside).claimed g.page in_claimed in
    record {
      placed = record { ready = r; own = inr in_claimed; within = free.0 };
      free = free.1;
      mark = free-mark m x.table x.heap (view s).objects h.stands.places (λ _. 0) g.page h.stands.stands.heap free.0 free.1;
    }

-- the current page that the state still has
current_shown : (m : Areas) (ws : List ℕ) (fs : List Flight) (s : SpaceState) (i k : ℕ) (g : Makes m ws fs i k) (f : Flight) → StandInFlight m ws fs s → (c : MakesOnClaimed m ws fs i k g f) → Ready m ws fs i k g → current (whole m ws fs).currents (flight_at fs i).thread g.depth ≡ c.current
current_shown m ws fs s i k g f h c r =
    let F : Flight = flight_at fs i in
    let t : ℕ = F.thread in
    let covered : 2 < length F.covers = subst (λ (ks : List Cover). 2 < length ks) (sym c.covers) (omega arith) in
    let shown = shown-at m ws fs s i 2 (page_cover g c.current) h g.inside covered (cover_at F.covers (slot_cover g c.above ∷ made_cover g ∷ page_cover g c.current ∷ mark_cover g c.mark ∷ entry_cover g c.entry ∷ c.object) 2 (page_cover g c.current) c.covers refl) (omega (arith, r.deep, r.thread.0, r.thread.1)) in
    sym (currents_of-word m (laid_all fs ws) t g.depth r.thread (omega (arith, r.deep))) ∙ shown

-- it has no room for the object
few : (m : Areas) (ws : List ℕ) (fs : List Flight) (s : SpaceState) (i k : ℕ) (g : Makes m ws fs i k) (f : Flight) → StandInFlight m ws fs s → MakesOnClaimed m ws fs i k g f → words_left_at m (whole m ws fs) (flight_at fs i).thread g.depth < k + OBJECT_WORDS
few m ws fs s i k g f h c =
    let F : Flight = flight_at fs i in
    let t : ℕ = F.thread in
    let x : Contents = whole m ws fs in
    let size : ℕ = k + OBJECT_WORDS in
    let fr = fresh m ws fs s i k g f h c in
    let r = fr.placed.ready in
    let at : current x.currents t g.depth ≡ c.current = current_shown m ws fs s i k g f h c r in
    ⊎_elim
    (λ (z : c.current ≡ 0). none_left m x t g.depth size (omega arith) (at ∙ z))
    (λ (q : (p : ℕ) × (c.current ≡ p + 1) × (page_words m < get_or ws (page_at m p + USED_MARK) 0 + size)).
    let is : current x.currents t g.depth ≡ q.0 + 1 = at ∙ q.1 in
    let page = named-page m x F q.0 g.depth (named m ws fs s h.fit h.stands) r.thread r.deep is in
    let apart : q.0 ≢ g.page = λ e. omega (arith, page.1, fr.free, ap (space_word x.table) e) in
    let bare = bare_five m ws fs i k (page_at m q.0 + USED_MARK) g f c (λ e. omega (arith, e, g.room, r.thread.0, r.thread.1)) (λ e. omega (arith, e, r.thread.0, r.thread.1)) (λ e. omega (arith, e, r.deep, r.thread.0, r.thread.1)) (λ e. apart (omega (arith, e))) (λ e. omega (arith, e)) (omega (arith, page.0)) in
    let mark : get_or ws (page_at m q.0 + USED_MARK) 0 ≡ used_mark x.table q.0 = own-word m ws fs s i (page_at m q.0 + USED_MARK) h g.inside (in_entry q.0 1 (inl (g.depth, r.deep, is)) (omega arith) refl) bare ∙ contents-get_page m (laid_all fs ws) q.0 1 page.0 (omega arith) in
    few_left m x t g.depth size q.0 (omega arith) is (omega (arith, q.2, mark)))
    c.short

-- ---- the words under the object

entry_words : (r : List ℕ) (a b : ℕ) → length r ≡ 2 → set (set r 1 b) 0 a ≡ a ∷ b ∷ []
entry_words [] a b h = absurd (omega arith)
entry_words (x ∷ []) a b h = absurd (omega arith)
entry_words (x ∷ y ∷ []) a b h = refl
entry_words (x ∷ y ∷ z ∷ r) a b h = absurd (omega arith)

entry_both : (table : List (List ℕ)) (p a b : ℕ) → p < length table → length (row table p) ≡ 2 → row_set (row_set table p 1 b) p 0 a ≡ set table p (a ∷ b ∷ [])
entry_both table p a b lt long =
    let e = get_or-set_same table p (set (row table p) 1 b) [] lt in
    set-set table p (set (row table p) 1 b) (set (row (row_set table p 1 b) p) 0 a) ∙ ap (λ (r : List ℕ). set table p (set r 0 a)) e ∙ ap (λ (r : List ℕ). set table p r) (entry_words (row table p) a b long)

abbrev space_of_new : {m : Areas} {ws : List ℕ} {fs : List Flight} {i k : ℕ} → Makes m ws fs i k → ℕ
space_of_new {m} {ws} {fs} {i} {k} g = space_index (inner_of (flight_at fs i).thread g.depth) + 1

abbrev paged : {m : Areas} {ws : List ℕ} {fs : List Flight} {i k : ℕ} → Makes m ws fs i k → List ℕ
paged {m} {ws} {fs} {i} {k} g = set (numbered g) (current_at m (flight_at fs i).thread g.depth) (g.page + 1)

abbrev basis : {m : Areas} {ws : List ℕ} {fs : List Flight} {i k : ℕ} → Makes m ws fs i k → List ℕ
basis {m} {ws} {fs} {i} {k} g = set (set (paged g) (page_at m g.page + USED_MARK) (g.used + (k + OBJECT_WORDS))) (page_at m g.page + SPACE_WORD) (space_of_new g)

abbrev basis_is : {m : Areas} {ws : List ℕ} {fs : List Flight} {i k : ℕ} → Makes m ws fs i k → Contents
basis_is {m} {ws} {fs} {i} {k} g = (let c : Contents = with_current (with_made (under m ws fs) (flight_at fs i).thread (g.made + 1)) (flight_at fs i).thread g.depth (g.page + 1) in record c { table = set (under m ws fs).table g.page (space_of_new g ∷ (g.used + (k + OBJECT_WORDS)) ∷ []) })

basis-holds : (m : Areas) (ws : List ℕ) (fs : List Flight) (i k : ℕ) (g : Makes m ws fs i k) → Ready m ws fs i k g → g.page < m.pages → (contents m (basis g) ≡ basis_is g) × Sound m (basis g)
basis-holds m ws fs i k g r lt =
    let t : ℕ = (flight_at fs i).thread in
    let u : Contents = under m ws fs in
    let size : ℕ = g.used + (k + OBJECT_WORDS) in
    let sh : Shape m u = shape m (laid_all fs ws) r.sound in
    let e = numbered-holds m ws fs i k g r in
    let one : contents m (paged g) ≡ with_current (with_made u t (g.made + 1)) t g.depth (g.page + 1) = contents-set_current m (numbered g) t g.depth (g.page + 1) r.thread e.1 (omega (arith, r.deep)) ∙ ap (λ (x : Contents). with_current x t g.depth (g.page + 1)) e.0 in
    let sound_one : Sound m (paged g) = sound-set m (numbered g) (current_at m t g.depth) (g.page + 1) (with_current (with_made u t (g.made + 1)) t g.depth (g.page + 1)) e.1 one (sym (ap (λ (x : Contents). x.depths) e.0)) (sym (ap (λ (x : Contents). x.stacks) e.0)) (sym (ap (λ (x : Contents). x.buffers) e.0)) in
    let marked : List ℕ = set (paged g) (page_at m g.page + USED_MARK) size in
    let two : contents m marked ≡ with_page (contents m (paged g)) g.page USED_MARK size = contents-set_page m (paged g) g.page USED_MARK size lt (omega arith) in
    let sound_two : Sound m marked = sound-set m (paged g) (page_at m g.page + USED_MARK) size (with_page (contents m (paged g)) g.page USED_MARK size) sound_one two refl refl refl in
    let three : contents m (basis g) ≡ with_page (contents m marked) g.page SPACE_WORD (space_of_new g) = contents-set_page m marked g.page SPACE_WORD (space_of_new g) lt (omega arith) in
    let sound_three : Sound m (basis g) = sound-set m marked (page_at m g.page + SPACE_WORD) (space_of_new g) (with_page (contents m marked) g.page SPACE_WORD (space_of_new g)) sound_two three refl refl refl in
    let table : row_set (row_set u.table g.page 1 size) g.page 0 (space_of_new g) ≡ set u.table g.page (space_of_new g ∷ size ∷ []) = entry_both u.table g.page (space_of_new g) size (omega (arith, sh.table, lt)) (sh.entries g.page lt) in
    (three ∙ ap (λ (x : Contents). with_page x g.page SPACE_WORD (space_of_new g)) two ∙ ap (λ (x : Contents). with_page (with_page x g.page USED_MARK size) g.page SPACE_WORD (space_of_new g)) one ∙ ap (λ (y : List (List ℕ)). (let c : Contents = with_current (with_made u t (g.made + 1)) t g.depth (g.page + 1) in record c { table = y })) table, sound_three)

seen-holds : (m : Areas) (ws : List ℕ) (fs : List Flight) (s : SpaceState) (i k : ℕ) (g : Makes m ws fs i k) (f : Flight) → StandInFlight m ws fs s → MakesOnClaimed m ws fs i k g f → (let a = page_words m * g.page + g.used in Seen m ws fs i (basis_is g) a (a + (k + OBJECT_WORDS)))
seen-holds m ws fs s i k g f h c =
    let a : ℕ = page_words m * g.page + g.used in
    let p = (fresh m ws fs s i k g f h c).placed in
    let e = basis-holds m ws fs i k g p.ready p.within in
    let is : lifted c.object (basis g) ≡ seen fs i ws = ap (λ (ks : List Cover). lifted ks (laid_all fs ws)) (sym c.covers) ∙ seen-lifted m ws fs s i h g.inside in
    let re : Rewritten (contents m (basis g)) (contents m (lifted c.object (basis g))) a (a + (k + OBJECT_WORDS)) = lifted-heap m c.object (basis g) a (a + (k + OBJECT_WORDS)) (omega (arith, p.within, g.fits)) c.within in
    let sound : Sound m (lifted c.object (basis g)) = sound-elsewhere m (basis g) (lifted c.object (basis g)) e.1 (length-lifted c.object (basis g) ∙ e.1.whole) (ap (λ (x : Contents). x.depths) re.rest) (ap (λ (x : Contents). x.stacks) re.rest) (ap (λ (x : Contents). x.buffers) re.rest) in
    record {
      rewritten = subst (λ (xs : List ℕ). Rewritten (basis_is g) (contents m xs) a (a + (k + OBJECT_WORDS))) is (subst (λ (x : Contents). Rewritten x (contents m (lifted c.object (basis g))) a (a + (k + OBJECT_WORDS))) e.0 re);
      sound = subst (Sound m) is sound;
    }

abbrev stored_at : {m : Areas} {ws : List ℕ} {fs : List Flight} {i k : ℕ} → Makes m ws fs i k → List ℕ
stored_at {m} {ws} {fs} {i} {k} g = set ws (length_at m (flight_at fs i).thread) (g.n + 1)

made_under : (m : Areas) (ws : List ℕ) (fs : List Flight) (s : SpaceState) (i k : ℕ) (g : Makes m ws fs i k) (f : Flight) → StandInFlight m ws fs s → MakesOnClaimed m ws fs i k g f → under m (stored_at g) (set fs i f) ≡ (let x : Contents = record (basis_is g) { heap = (contents m (seen fs i ws)).heap } in with_stack x (flight_at fs i).thread (stack_of (under m ws fs) (flight_at fs i).thread ++ reference g ∷ []))
made_under m ws fs s i k g f h c =
    let a : ℕ = page_words m * g.page + g.used in
    grown-seen m ws fs s i k c.above a (a + (k + OBJECT_WORDS)) (made_cover g ∷ page_cover g c.current ∷ mark_cover g c.mark ∷ entry_cover g c.entry ∷ c.object) (basis_is g) g f h (fresh m ws fs s i k g f h c).placed.ready c.covers (ap (λ (x : Flight). x.covers) c.after) (seen-holds m ws fs s i k g f h c) refl

-- ---- the same words with the claimed page first in the pool

-- the claimed page, all other claimed pages, and the free ones are the free pages of the state
free_first : (m : Areas) (ws : List ℕ) (fs : List Flight) (s : SpaceState) (i k : ℕ) (g : Makes m ws fs i k) (f : Flight) → StandInFlight m ws fs s → MakesOnClaimed m ws fs i k g f → (let u = under m ws fs in AreFree m (free_with (g.page ∷ claimed_in (set fs i f)) u.heads u.pool) u.table)
free_first m ws fs s i k g f h c =
    let F : Flight = flight_at fs i in
    let u : Contents = under m ws fs in
    let left : List ℕ = free_pages u.heads u.pool in
    let own : List ℕ = c.rest ++ behind fs i in
    let was : claimed_in fs ≡ before fs i ++ (g.page ∷ own) = claimed-at fs i g.inside ∙ ap (λ (ps : List ℕ). before fs i ++ (ps ++ behind fs i)) c.claimed in
    let now : claimed_in (set fs i f) ≡ before fs i ++ own = claimed-put fs i f g.inside ∙ ap (λ (x : Flight). before fs i ++ (x.claimed ++ behind fs i)) c.after in
    let old : AreFree m ((before fs i ++ (g.page ∷ own)) ++ left) u.table = subst (λ (xs : List ℕ). AreFree m (xs ++ left) u.table) was (free_under m ws fs s h.fit h.stands) in
    let spread : AreFree m (before fs i ++ (g.page ∷ (own ++ left))) u.table = subst (λ (xs : List ℕ). AreFree m xs u.table) (append_assoc (before fs i) (g.page ∷ own) left) old in
    let front : AreFree m (g.page ∷ (before fs i ++ (own ++ left))) u.table = free-moved m (before fs i) (own ++ left) g.page u.table spread in
    subst (λ (xs : List ℕ). AreFree m (g.page ∷ xs) u.table) (sym (append_assoc (before fs i) own left) ∙ ap (λ (ps : List ℕ). ps ++ left) (sym now)) front

-- what the words hold, with the page in front
abbrev turned_to : Areas → List ℕ → List Flight → List Flight → ℕ → Contents
turned_to m ws fs gs p = (let c : Contents = whole m ws fs in let u : Contents = under m ws fs in record c { heads = heads_with (p ∷ claimed_in gs) u.heads u.pool; pool = pool_back (p ∷ claimed_in gs) u.heads u.pool })

pub record Fronted (m : Areas) (ws : List ℕ) (fs gs : List Flight) (p : ℕ) : Type 0 where
  pub long : length (heads_with (p ∷ claimed_in gs) (under m ws fs).heads (under m ws fs).pool) ≡ HEAD_WORDS
  pub pool : PoolStands m (heads_with (p ∷ claimed_in gs) (under m ws fs).heads (under m ws fs).pool) (pool_back (p ∷ claimed_in gs) (under m ws fs).heads (under m ws fs).pool) (under m ws fs).table
  pub shape : Shape m (turned_to m ws fs gs p)
  pub below : (let hs = heads_with (p ∷ claimed_in gs) (under m ws fs).heads (under m ws fs).pool in claim_counter hs < pool_length hs)
  pub first : (let u = under m ws fs in let hs = heads_with (p ∷ claimed_in gs) u.heads u.pool in let ps = pool_back (p ∷ claimed_in gs) u.heads u.pool in free_pages hs ps ≡ p ∷ free_pages (set hs 1 (claim_counter hs + 1)) ps)
  pub rest : (let u = under m ws fs in let hs = heads_with (p ∷ claimed_in gs) u.heads u.pool in let ps = pool_back (p ∷ claimed_in gs) u.heads u.pool in free_pages (set hs 1 (claim_counter hs + 1)) ps ≡ free_with (claimed_in gs) u.heads u.pool)

same_rest : (x y : ℕ) (xs ys : List ℕ) → x ∷ xs ≡ y ∷ ys → xs ≡ ys
same_rest x y xs ys e = cc

fronted : (m : Areas) (ws : List ℕ) (fs : List Flight) (s : SpaceState) (i k : ℕ) (g : Makes m ws fs i k) (f : Flight) → StandInFlight m ws fs s → MakesOnClaimed m ws fs i k g f → Fronted m ws fs (set fs i f) g.page
fronted m ws fs s i k g f h c =
    let u : Contents = under m ws fs in
    let p : ℕ = g.page in
    let gs : List Flight = set fs i f in
    let all : List ℕ = free_with (p ∷ claimed_in gs) u.heads u.pool in
    let hs : List ℕ = heads_with (p ∷ claimed_in gs) u.heads u.pool in
    let ps : List ℕ = pool_back (p ∷ claimed_in gs) u.heads u.pool in
    let sh : Shape m u = shape m (laid_all fs ws) (sound_under m ws fs s h.fit h.stands) in
    let free : AreFree m all u.table = free_first m ws fs s i k g f h c in
    let long : length hs ≡ HEAD_WORDS = length-set (set u.heads 1 0) 2 (length all) ∙ length-set u.heads 1 0 ∙ sh.heads in
    let pool : PoolStands m hs ps u.table = pool-stands m (p ∷ claimed_in gs) u.heads u.pool u.table sh.heads h.fit.within (omega (arith, h.fit.passed)) free in
    let count : pool_length hs ≡ length all = get_or-set_same (set u.heads 1 0) 2 (length all) 0 (omega (arith, sh.heads, length-set u.heads 1 0)) in
    let claims : claim_counter hs ≡ 0 = get_or-set_other (set u.heads 1 0) 2 1 (length all) 0 (omega arith) ∙ get_or-set_same u.heads 1 0 0 (omega (arith, sh.heads)) in
    let below : claim_counter hs < pool_length hs = omega (arith, count, claims) in
    let pool_long : length ps ≡ m.pages = omega (arith, length-append all (drop (length all) u.pool), length-drop (length all) u.pool, sh.pool, free.few) in
    let front : get_or ps (claim_counter hs) 0 ≡ p = ap (λ j. get_or ps j 0) claims in
    let first : free_pages hs ps ≡ p ∷ free_pages (set hs 1 (claim_counter hs + 1)) ps = first_free hs ps long below (omega (arith, count, pool_long, free.few)) ∙ ap (λ x. x ∷ free_pages (set hs 1 (claim_counter hs + 1)) ps) front in
    let back : free_pages hs ps ≡ all = rebuilt_free u.heads all u.pool sh.heads in
    record {
      long = long;
      pool = pool;
      shape = record { heads = long; pool = pool_long; table = sh.table; entries = sh.entries; currents = sh.currents; slots = sh.slots };
      below = below;
      first = first;
      rest = same_rest p p (free_pages (set hs 1 (claim_counter hs + 1)) ps) (free_with (claimed_in gs) u.heads u.pool) (sym first ∙ back);
    }

-- the shape of words in which a page is claimed
shape_claimed : (m : Areas) (c : Contents) (x : Space) (p : ℕ) → Shape m c → p < m.pages → Shape m (with_claimed c x p)
shape_claimed m c x p sh lt =
    let r : List ℕ = (space_index x + 1) ∷ 0 ∷ [] in
    record {
      heads = length-set c.heads 1 (claim_counter c.heads + 1) ∙ sh.heads;
      pool = sh.pool;
      table = length-set c.table p r ∙ sh.table;
      entries = λ q lq. ⊎_elim
          (λ (e : q ≡ p). ap (λ (y : ℕ). length (row (set c.table p r) y)) e ∙ ap (λ (y : List ℕ). length y) (entry-same c.table p r (omega (arith, sh.table, lt))))
          (λ (ne : q ≢ p). ap (λ (y : List ℕ). length y) (entry-other c.table p q r ne) ∙ sh.entries q lq)
          (cases_eq q p);
      currents = sh.currents;
      slots = sh.slots;
    }

-- the entry of a claimed page with its mark
claimed_entry : (table : List (List ℕ)) (p a b : ℕ) → p < length table → row_set (set table p (a ∷ 0 ∷ [])) p 1 b ≡ set table p (a ∷ b ∷ [])
claimed_entry table p a b lt =
    let r : List ℕ = a ∷ 0 ∷ [] in
    ap (λ (y : List ℕ). set (set table p r) p (set y 1 b)) (get_or-set_same table p r [] lt) ∙ set-set table p r (a ∷ b ∷ [])

-- ---- the state turns

-- the contents after the object is placed and written, its number made raised, and the reference pushed
abbrev placed_on : {m : Areas} {ws : List ℕ} {fs : List Flight} {i k : ℕ} → Makes m ws fs i k → Contents → Contents
placed_on {m} {ws} {fs} {i} {k} g x = (let t = (flight_at fs i).thread in with_current (with_used (with_claimed x (inner_of t (depth_of x t)) g.page) g.page (k + OBJECT_WORDS)) t (depth_in (inner_of t (depth_of x t))) (g.page + 1))

abbrev pushed_on : {m : Areas} {ws : List ℕ} {fs : List Flight} {i k : ℕ} → Makes m ws fs i k → List ℕ → Contents → Contents
pushed_on {m} {ws} {fs} {i} {k} g heap x = (let t = (flight_at fs i).thread in let c : Contents = placed_on g x in let w : Contents = record c { heap = heap } in let d : Contents = with_made w t (g.made + 1) in with_stack d t (stack_of d t ++ reference g ∷ []))

turned_claimed : (m : Areas) (ws : List ℕ) (fs : List Flight) (s : SpaceState) (i k : ℕ) (g : Makes m ws fs i k) (f : Flight) → StandInFlight m ws fs s → MakesOnClaimed m ws fs i k g f → (let x = turned_to m ws fs (set fs i f) g.page in Turned m x (pushed_on g (contents m (seen fs i ws)).heap x) (flight_at fs i).thread (call.New k) reply.Ok)
turned_claimed m ws fs s i k g f h c =
    let F : Flight = flight_at fs i in
    let t : ℕ = F.thread in
    let gs : List Flight = set fs i f in
    let size : ℕ = k + OBJECT_WORDS in
    let x : Contents = turned_to m ws fs gs g.page in
    let fr = fresh m ws fs s i k g f h c in
    let r = fr.placed.ready in
    let fro = fronted m ws fs s i k g f h c in
    let heap : List ℕ = (contents m (seen fs i ws)).heap in
    let sp : Space = inner_of t (depth_of x t) in
    let deep : depth_of x t ≡ g.depth = r.depth in
    let lt = fr.placed.within in
    let claimed : Contents = with_claimed x sp g.page in
    let c1 : Contents = placed_on g x in
    let c2 : Contents = record c1 { heap = heap } in
    let c3 : Contents = with_made c2 t (g.made + 1) in
    let n = named m ws fs s h.fit h.stands in
    let hd : depth_of x t ≤ max_depth m = omega (arith, deep, r.deep) in
    let pool_claimed : PoolStands m claimed.heads claimed.pool claimed.table = pool-claimed m x.heads x.pool x.table g.page sp fro.long fro.shape.table fro.pool fro.below fro.first in
    let pool : PoolStands m c1.heads c1.pool c1.table = pool-spaces m claimed.heads claimed.pool claimed.table c1.table (λ q. space-with_used claimed.table g.page q size) pool_claimed in
    let currents_claimed : CurrentsStand m claimed.currents claimed.table = currents-claimed m x.currents x.table g.page ((space_index sp + 1) ∷ 0 ∷ []) fr.free n.currents in
    let currents : CurrentsStand m c1.currents c1.table = currents-placed m x claimed sp t g.page size fro.shape (shape_claimed m x sp g.page fro.shape lt) r.thread (inner-is_space m t (depth_of x t) r.thread hd) (inner-is_own t (depth_of x t)) lt fr.free n.currents currents_claimed refl in
    let a : ℕ = page_words m * g.page + g.used in
    let front : a ≡ page_words m * g.page = omega (arith, c.front) in
    let short : words_left_at m x t (depth_in sp) < size = subst (λ q. words_left_at m x t q < size) (sym (depth-inner t (depth_of x t) ∙ deep)) (few m ws fs s i k g f h c) in
    let placed : IsPlacedOnClaimed m x t sp size a c1 = record { page = g.page; free = fro.first; address = front; changed = refl } in
    let sn = seen-holds m ws fs s i k g f h c in
    let written : IsWritten c1 c2 a (header_word (record { fields = k; space = space_index (inner_of t g.depth) })) (name_word (record { thread = t; serial = g.made + 1 })) size size = is-written m ws fs s i k g c1 h fr.placed.own (omega (arith, fr.mark)) sn.rewritten.others in
    made_turns m x c1 c2 c3 (pushed_on g heap x) t k g.made a (header_word (record { fields = k; space = space_index (inner_of t g.depth) })) (name_word (record { thread = t; serial = g.made + 1 })) (reference g) reply.Ok h.fit.areas r.thread g.few (omega (arith, r.count, g.room)) r.made g.unspent fro.shape (length-made m (laid_all fs ws)) pool currents (ap (λ q. header_word (record { fields = k; space = space_index (inner_of t q) })) (sym deep)) refl refl (inr (short, placed)) written refl refl

-- what the words hold afterwards, but for the pool
now_is : (m : Areas) (ws : List ℕ) (fs : List Flight) (s : SpaceState) (i k : ℕ) (g : Makes m ws fs i k) (f : Flight) → StandInFlight m ws fs s → MakesOnClaimed m ws fs i k g f → (let d = whole m (stored_at g) (set fs i f) in d ≡ (let y : Contents = pushed_on g (contents m (seen fs i ws)).heap (turned_to m ws fs (set fs i f) g.page) in record y { heads = d.heads; pool = d.pool }))
now_is m ws fs s i k g f h c =
    let F : Flight = flight_at fs i in
    let t : ℕ = F.thread in
    let gs : List Flight = set fs i f in
    let u : Contents = under m ws fs in
    let x : Contents = turned_to m ws fs gs g.page in
    let size : ℕ = k + OBJECT_WORDS in
    let d : Contents = whole m (stored_at g) gs in
    let heap : List ℕ = (contents m (seen fs i ws)).heap in
    let fr = fresh m ws fs s i k g f h c in
    let r = fr.placed.ready in
    let sh : Shape m u = shape m (laid_all fs ws) r.sound in
    let lt = fr.placed.within in
    let deep : depth_of x t ≡ g.depth = r.depth in
    let inner : depth_in (inner_of t (depth_of x t)) ≡ g.depth = depth-inner t (depth_of x t) ∙ deep in
    let readers : read_in gs u.readers ≡ read_in fs u.readers = read-same fs i f u.readers (ap (λ (y : Flight). y.thread) c.after) (ap (λ (y : Flight). y.reading) c.after) in
    let table : set u.table g.page (space_of_new g ∷ (g.used + size) ∷ []) ≡ (placed_on g x).table =
    ap (λ q. set u.table g.page (space_of_new g ∷ q ∷ [])) (let z : g.used + size ≡ size = omega (arith, c.front) in z)
    ∙ ap (λ q. set u.table g.page ((space_index (inner_of t q) + 1) ∷ size ∷ [])) (sym deep)
    ∙ sym (claimed_entry u.table g.page (space_index (inner_of t (depth_of x t)) + 1) size (omega (arith, sh.table, lt)))
    in
    let currents : row_set u.currents (t - 1) g.depth (g.page + 1) ≡ (placed_on g x).currents = ap (λ q. row_set u.currents (t - 1) q (g.page + 1)) (sym inner) in
    let e : d ≡ completed gs (let y : Contents = record (basis_is g) { heap = heap } in with_stack y t (stack_of u t ++ reference g ∷ [])) = ap (completed gs) (made_under m ws fs s i k g f h c) in
    let now : Contents = pushed_on g heap x in
    e ∙ ap (λ (rs : List (List ℕ)). (let y : Contents = record (basis_is g) { heap = heap } in let z : Contents = with_stack y t (stack_of u t ++ reference g ∷ []) in record z { heads = heads_with (claimed_in gs) u.heads u.pool; pool = pool_back (claimed_in gs) u.heads u.pool; readers = rs })) readers
    ∙ ap (λ (ts : List (List ℕ)). record now { heads = heads_with (claimed_in gs) u.heads u.pool; pool = pool_back (claimed_in gs) u.heads u.pool; table = ts; currents = row_set u.currents (t - 1) g.depth (g.page + 1) }) table
    ∙ ap (λ (cs : List (List ℕ)). record now { heads = heads_with (claimed_in gs) u.heads u.pool; pool = pool_back (claimed_in gs) u.heads u.pool; currents = cs }) currents
    ∙ ap (λ (y : Contents). record now { heads = y.heads; pool = y.pool }) (sym e)

-- the free pages afterwards
free_after : (m : Areas) (ws : List ℕ) (fs : List Flight) (s : SpaceState) (i k : ℕ) (g : Makes m ws fs i k) (f : Flight) → StandInFlight m ws fs s → MakesOnClaimed m ws fs i k g f → (let u = under m ws fs in let y = pushed_on g (contents m (seen fs i ws)).heap (turned_to m ws fs (set fs i f) g.page) in PoolStands m y.heads y.pool y.table → PoolStands m (heads_with (claimed_in (set fs i f)) u.heads u.pool) (pool_back (claimed_in (set fs i f)) u.heads u.pool) y.table)
free_after m ws fs s i k g f h c stands =
    let u : Contents = under m ws fs in
    let gs : List Flight = set fs i f in
    let y : Contents = pushed_on g (contents m (seen fs i ws)).heap (turned_to m ws fs gs g.page) in
    let sh : Shape m u = shape m (laid_all fs ws) (sound_under m ws fs s h.fit h.stands) in
    let fro = fronted m ws fs s i k g f h c in
    let long : length y.heads ≡ HEAD_WORDS = length-set (heads_with (g.page ∷ claimed_in gs) u.heads u.pool) 1 _ ∙ fro.long in
    let free : AreFree m (free_pages y.heads y.pool) y.table = pool-free m [] y.heads y.pool y.table long stands in
    pool-stands m (claimed_in gs) u.heads u.pool y.table sh.heads h.fit.within (omega (arith, h.fit.passed)) (subst (λ (xs : List ℕ). AreFree m xs y.table) fro.rest free)

-- the other threads' own words stay theirs
claims-own : (m : Areas) (ws : List ℕ) (fs : List Flight) (s : SpaceState) (i k : ℕ) (g : Makes m ws fs i k) (f : Flight) → StandInFlight m ws fs s → MakesOnClaimed m ws fs i k g f → (j b : ℕ) → j < length fs → j ≢ i → IsOwn m (whole m ws fs) (flight_at fs j) b → IsOwn m (whole m (set ws (length_at m (flight_at fs i).thread) (g.n + 1)) (set fs i f)) (flight_at fs j) b
claims-own m ws fs s i k g f h c j b lj ne own =
    let F : Flight = flight_at fs i in
    let t : ℕ = F.thread in
    let x : Contents = whole m ws fs in
    let d : Contents = whole m (stored_at g) (set fs i f) in
    let p = (fresh m ws fs s i k g f h c).placed in
    let e = made_under m ws fs s i k g f h c in
    let row : List ℕ = space_of_new g ∷ (g.used + (k + OBJECT_WORDS)) ∷ [] in
    let table : d.table ≡ set x.table g.page row = ap (λ (y : Contents). y.table) e in
    let currents : d.currents ≡ row_set x.currents (t - 1) g.depth (g.page + 1) = ap (λ (y : Contents). y.currents) e in
    own-elsewhere m x d (flight_at fs j) b (λ q o.
    let apart : q ≢ g.page = λ z. page-beside m ws fs s i j q h g.inside lj ne o (subst (IsOwnPage m x F) (sym z) p.own) in
    let far : (flight_at fs j).thread - 1 ≢ t - 1 = λ z. threads-apart m ws fs i j h.fit g.inside lj ne (omega (arith, z, (fit_at m ws fs j h.fit lj).thread.0, p.ready.thread.0)) in
    let kept : IsOwnPage m d (flight_at fs j) q = ⊎_elim
    (λ (y : (n : ℕ) × (n ≤ max_depth m) × (current x.currents (flight_at fs j).thread n ≡ q + 1)). inl (y.0, y.1, ap (λ (cs : List (List ℕ)). current cs (flight_at fs j).thread y.0) currents ∙ current-other_thread x.currents t g.depth (flight_at fs j).thread y.0 (g.page + 1) far ∙ y.2))
    (λ (y : Contains (flight_at fs j).claimed q). inr y)
    o in
    (kept, ap (λ (ts : List (List ℕ)). used_mark ts q) table ∙ ap (λ (r : List ℕ). get_or r 1 0) (entry-other x.table g.page q row apart))) own

-- all calls in flight fit
claims-fit : (m : Areas) (ws : List ℕ) (fs : List Flight) (s : SpaceState) (i k : ℕ) (g : Makes m ws fs i k) (f : Flight) → StandInFlight m ws fs s → MakesOnClaimed m ws fs i k g f → FlightsFit m (set ws (length_at m (flight_at fs i).thread) (g.n + 1)) (set fs i f)
claims-fit m ws fs s i k g f h c =
    let own = claims-own m ws fs s i k g f h c in
    fits-made m ws fs s i (g.n + 1) f h g.inside (ap (λ (y : Flight). y.thread) c.after) (ap (λ (y : Flight). y.reading) c.after) (ap (λ (y : Flight). y.claims) c.after) (ap (λ (y : Flight). y.covers) c.after) (ap (λ (y : Contents). y.heads) (made_under m ws fs s i k g f h c)) (λ j b lj ne o. own j b lj ne o)

-- the entry of the call is added as the stack's length is stored
pub make_claimed-steps : (m : Areas) (ws : List ℕ) (fs : List Flight) (s : SpaceState) (i k : ℕ) (g : Makes m ws fs i k) (f : Flight) (h : StandInFlight m ws fs s) → MakesOnClaimed m ws fs i k g f → Stepped m ws (set ws (length_at m (flight_at fs i).thread) (g.n + 1)) fs (set fs i f) i s h (Said (flight_at fs i).thread (call.New k) reply.Ok ∷ []) 0
make_claimed-steps m ws fs s i k g f h c =
    let gs : List Flight = set fs i f in
    let u : Contents = under m ws fs in
    let z : Contents = whole m ws fs in
    let x : Contents = turned_to m ws fs gs g.page in
    let y : Contents = pushed_on g (contents m (seen fs i ws)).heap x in
    let d : Contents = whole m (stored_at g) gs in
    let l : Places = h.stands.places in
    let fro = fronted m ws fs s i k g f h c in
    let unused : unused_heads x.heads ≡ unused_heads z.heads = heads_with-unused (g.page ∷ claimed_in gs) u.heads u.pool ∙ sym (heads_with-unused (claimed_in fs) u.heads u.pool) in
    let stands : Stands m x s = record { whole = h.stands.whole; places = l; stands = stands-repooled m z (view s) l x.heads x.pool h.stands.stands fro.pool unused } in
    let recorded : RecordedAs m x (view s) l.at = recorded-repooled m z (view s) l x.heads x.pool h.recorded in
    let turned = turned_claimed m ws fs s i k g f h c in
    let turns = turned.turns s stands in
    let after : SpaceState = turns.0 in
    let later : Stands m y after = turns.2 in
    let kept : RecordedAs m y (view after) later.places.at = turns.3 recorded in
    let pool : PoolStands m d.heads d.pool y.table = subst (λ (w : Contents). PoolStands m w.heads w.pool y.table) (sym (ap (completed gs) (made_under m ws fs s i k g f h c))) (free_after m ws fs s i k g f h c later.stands.pool) in
    let heads_is : d.heads ≡ heads_with (claimed_in gs) u.heads u.pool = ap (λ (w : Contents). (completed gs w).heads) (made_under m ws fs s i k g f h c) in
    let unused' : unused_heads d.heads ≡ unused_heads y.heads = ap unused_heads heads_is ∙ heads_with-unused (claimed_in gs) u.heads u.pool ∙ sym (heads_with-unused (g.page ∷ claimed_in gs) u.heads u.pool) ∙ sym (drop-set-lt 3 x.heads 1 _ (omega arith)) in
    let is = now_is m ws fs s i k g f h c in
    let last = stands-repooled m y (view after) later.places d.heads d.pool later.stands pool unused' in
    let last_recorded = recorded-repooled m y (view after) later.places d.heads d.pool kept in
    let buffers : d.buffers ≡ z.buffers = ap (λ (w : Contents). w.buffers) (made_under m ws fs s i k g f h c) in
    record {
      after = after;
      turns = turns.1;
      later = record {
        fit = claims-fit m ws fs s i k g f h c;
        stands = record {
          whole = later.whole;
          places = later.places;
          stands = subst (λ (w : Contents). StandsAs m w (view after) later.places) (sym is) last;
        };
        recorded = subst (λ (w : Contents). RecordedAs m w (view after) later.places.at) (sym is) last_recorded;
      };
      places = turned.kept s stands;
      flights = puts_set fs i f g.inside (ap (λ (w : Flight). w.thread) c.after);
      mine = λ b low own. mine-block m ws (stored_at g) fs gs i b (Said (flight_at fs i).thread (call.New k) reply.Ok ∷ []) (puts_set fs i f g.inside (ap (λ (w : Flight). w.thread) c.after)) low (no_entry (Said (flight_at fs i).thread (call.New k) reply.Ok)) own;
      own = claims-own m ws fs s i k g f h c;
      buffers = λ j lj ne. ap (λ (bs : List (List ℕ)). get_or bs ((flight_at fs j).thread - 1) []) buffers;
      logged = omega (arith, ap (λ (bs : List (List ℕ)). length (get_or bs ((flight_at fs i).thread - 1) [])) buffers);
      table = λ e. absurd (no_entry (Said (flight_at fs i).thread (call.New k) reply.Ok) e);
    }
