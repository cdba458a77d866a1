-- The space of an object, as its header tells it.
use Rattle.std.proofs.Common.{◌≡◌, ◌≢◌, ℕ, ◌+◌, ◌-◌, ◌*◌, ◌≤◌, ◌<◌, Option, Some, None, length, get_or, refl, sym, ap, subst, ◌∙◌, arith}
use Rattle.std.specs.Prelude.{IfSome}
use Rattle.std.proofs.Props.{props}
use Rattle.std.proofs.lemmas.List.{get_or_past}
use Rattle.std.proofs.Math.Logic.{⊎_elim, ∥∥₁_elim}
use Rattle.object_layout.specs.declared.names.Name.{Name}
use Rattle.object_layout.specs.declared.headers.Header.{Header}
use Rattle.object_layout.specs.declared.TheConstants.{MAX_ADDRESS}
use Rattle.object_layout.specs.Layout.{IsHeader, header_word}
use Rattle.heap_words.specs.declared.map.Areas.{Areas}
use Rattle.heap_words.specs.Map.{IsAreas, heap_length, max_depth}
use Rattle.heap_words.specs.Contents.{Contents, stack_of}
use Rattle.epoch_lattice.specs.declared.Space.{Space}
use Rattle.epoch_lattice.specs.declared.Space.TheVariants.{Control, Region}
use Rattle.epoch_lattice.specs.declared.TheConstants.{MAX_DEPTH}
use Rattle.epoch_lattice.specs.Lattice.{IsValid, space_index, space_of}
use Rattle.epoch_lattice.proofs.Numbers.{number-own, number-reads_back}
use Rattle.yak_model.specs.declared.datum.Datum.{Datum}
use Rattle.yak_model.specs.declared.datum.Datum.TheVariants as datum
use Rattle.yak_model.specs.Graph.{Content, Limits, fields_of, slot_of}
use Rattle.yak_model.specs.Graph as graph
use Rattle.yak_model.specs.Spaces.{SpaceState, content_at, home_of}
use Rattle.yak_model.specs.State.{IsOpen, Thing, object_of, thing_of, view}
use Rattle.yak_model.specs.Placed.{space_word}
use Rattle.yak_model.specs.Stands.{Stands}
use Rattle.yak_model.specs.Packed.{IsSpaceOf}
use Rattle.yak_model.specs.Chains.{IsRegionOf}
use Rattle.yak_model.proofs.Data.{home-index, in_heap, no_reference, refers}
use Rattle.yak_model.proofs.Stacks.{all-at, slot-fits, slot-word, stack_length}
use Rattle.standing_calls.specs.Records.{IsWordOf, home_at}
use Rattle.standing_calls.proofs.Told.{open-space, space-prop, space-valid}

-- what is shown of an object's space is its home
shown_home : (x : Option Space) (y : Option Content) (o : Thing) → thing_of x y ≡ Some o → x ≡ Some o.home
shown_home None y o e = cc
shown_home (Some home) None o e = cc
shown_home (Some home) (Some content) o e = let q : record { home = home; fields = fields_of content } ≡ o = cc in ap (λ (t : Thing). Some t.home) q

pub home-shown : (s : SpaceState) (n : Name) (o : Thing) → object_of s n ≡ Some o → home_of s n ≡ Some o.home
home-shown s n o e = shown_home (home_of s n) (content_at s.graph n) o e

one_thing : (a b : Thing) → Some a ≡ Some b → a ≡ b
one_thing a b e = cc

-- the space of an object is valid
pub home-valid : (m : Areas) (c : Contents) (s : SpaceState) → Stands m c s → (n : Name) (o : Thing) → object_of s n ≡ Some o → IsValid MAX_DEPTH o.home
home-valid m c s h n o e = subst (λ (l : Limits). IsValid l.depth o.home) h.whole.limits (h.whole.homes n o.home (home-shown s n o e))

-- the space of an object is an open one of the heap
pub home-open : (m : Areas) (c : Contents) (s : SpaceState) (h : Stands m c s) (n : Name) (o : Thing) → IsAreas m → object_of s n ≡ Some o → IsOpen (view s).depths o.home × IsSpaceOf m o.home
home-open m c s h n o areas e =
    let at = h.stands.heap.present n o e in
    let w = h.stands.heap.whole n at.0 at.1 at.2 in
    let same : w.0.home ≡ o.home = ap (λ (t : Thing). t.home) (one_thing w.0 o (sym w.1 ∙ e)) in
    let word : space_word c.table at.0 ≡ space_index o.home + 1 = w.2 ∙ ap (λ (x : Space). space_index x + 1) same in
    let lt : at.0 < m.pages = omega (arith, at.2.page, h.stands.heap.count) in
    let deep : (t : ℕ) → get_or (view s).depths (t - 1) 0 ≤ max_depth m = λ t. rw (← h.stands.depths) (all-at (λ i. i ≤ max_depth m) c.depths (t - 1) 0 (omega arith) h.stands.limits.depths) in
    let valid : IsValid MAX_DEPTH o.home = home-valid m c s h n o e in
    ⊎_elim
    (λ (z : space_word c.table at.0 ≡ 0). absurd (omega (arith, z, word)))
    (λ (p : (x : Space) × (space_word c.table at.0 ≡ space_index x + 1) × IsOpen (view s).depths x).
    let here : IsSpaceOf m p.0 = open-space m (view s).depths p.0 h.stands.threads deep p.2 in
    let one : p.0 ≡ o.home = number-own p.0 o.home (space-valid m p.0 areas here) valid (omega (arith, word, p.1)) in
    (subst (IsOpen (view s).depths) one p.2, subst (IsSpaceOf m) one here))
    (h.stands.open_spaces at.0 lt)

-- and a region of the heap where it isn't Control
pub region-of-heap : (m : Areas) (x : Space) → IsSpaceOf m x → x ≢ Control → IsRegionOf m x
region-of-heap m Control own ne = absurd (ne refl)
region-of-heap m (Region t d) own ne = own

pub home-region : (m : Areas) (c : Contents) (s : SpaceState) (h : Stands m c s) (n : Name) (o : Thing) → IsAreas m → object_of s n ≡ Some o → o.home ≢ Control → IsRegionOf m o.home
home-region m c s h n o areas e ne = region-of-heap m o.home (home-open m c s h n o areas e).1 ne

-- a word that isn't a reference has no space
not_home : (s : SpaceState) (d : Datum) → ((n : Name) → d ≡ datum.Object n → ⊥) → home_at s d ≡ None
not_home s datum.Null never = refl
not_home s (datum.Int i) never = refl
not_home s (datum.Object n) never = absurd (never n refl)

pub no_home : (m : Areas) (c : Contents) (s : SpaceState) (h : Stands m c s) (word : ℕ) (v : IsWordOf s h.places.at word) → IsAreas m → ((a : ℕ) → a ≤ MAX_ADDRESS → word ≡ 2 * (a + 1) → ⊥) → None ≡ home_at s v.value
no_home m c s h word v areas never = sym (not_home s v.value (λ n e. no_reference m c (view s) h.places v.value n areas h.stands v.fits (λ a le q. never a le (v.laid ∙ q)) e))

-- the object of a word that is a reference
pub record Homed (m : Areas) (c : Contents) (s : SpaceState) (h : Stands m c s) (value : Datum) (a : ℕ) : Type 0 where
  pub name : Name
  pub thing : Thing
  pub present : object_of s name ≡ Some thing
  pub home : home_at s value ≡ Some thing.home
  pub header : get_or c.heap a 0 ≡ header_word (record { fields = length thing.fields; space = space_index thing.home })
  pub is_header : IsHeader (record { fields = length thing.fields; space = space_index thing.home })
  pub within : a < heap_length m
  pub own : IsSpaceOf m thing.home
  pub read_back : space_of (space_index thing.home) ≡ Some thing.home

pub homed : (m : Areas) (c : Contents) (s : SpaceState) (h : Stands m c s) (word a : ℕ) (v : IsWordOf s h.places.at word) → IsAreas m → word ≡ 2 * (a + 1) → Homed m c s h v.value a
homed m c s h word a v areas e =
    let r = refers m c (view s) h.places v.value a h.stands v.fits (sym v.laid ∙ e) in
    let own = (home-open m c s h r.0 r.1 areas r.3).1 in
    record {
      name = r.0;
      thing = r.1;
      present = r.3;
      home = ap (home_at s) r.2 ∙ home-shown s r.0 r.1 r.3;
      header = ap (λ i. get_or c.heap i 0) r.4 ∙ (h.stands.heap.held r.0 r.1 r.3).header;
      is_header = ((h.stands.closed.fields r.0 r.1 r.3).1, home-index m c (view s) h.places r.0 r.1 areas h.stands r.3);
      within = omega (arith, r.4, in_heap m c (view s) h.places r.0 r.1 h.stands r.3);
      own = own;
      read_back = number-reads_back r.1.home (space-valid m r.1.home areas own);
    }

-- the header that is read
same_space : (x y : Header) → IsHeader x → IsHeader y → header_word x ≡ header_word y → x.space ≡ y.space
same_space x y hx hy e = omega (arith, hx.0, hx.1, hy.0, hy.1, e)

pub space_told : (m : Areas) (c : Contents) (s : SpaceState) (h : Stands m c s) (word a read : ℕ) (v : IsWordOf s h.places.at word) (told : Header) → IsAreas m → word ≡ 2 * (a + 1) → read ≡ get_or c.heap a 0 → IsHeader told → header_word told ≡ read → space_of told.space ≡ home_at s v.value
space_told m c s h word a read v told areas e is fits same =
    let p = homed m c s h word a v areas e in
    let space : told.space ≡ space_index p.thing.home = same_space told (record { fields = length p.thing.fields; space = space_index p.thing.home }) fits p.is_header (same ∙ is ∙ p.header) in
    ap space_of space ∙ p.read_back ∙ sym p.home

pub no_header : (m : Areas) (c : Contents) (s : SpaceState) (h : Stands m c s) (word a read : ℕ) (v : IsWordOf s h.places.at word) → IsAreas m → word ≡ 2 * (a + 1) → read ≡ get_or c.heap a 0 → ((x : Header) → IsHeader x → header_word x ≡ read → ⊥) → ⊥
no_header m c s h word a read v areas e is never =
    let p = homed m c s h word a v areas e in
    never (record { fields = length p.thing.fields; space = space_index p.thing.home }) p.is_header (sym p.header ∙ sym is)

-- the words stand for some state, of which a word is that of a value
abbrev pub SomeWord : Areas → Contents → ℕ → Type 0
SomeWord m c word = ∥ ((s : SpaceState) × (h : Stands m c s) × IsWordOf s h.places.at word) ∥₁

pub word_within : (m : Areas) (c : Contents) (word a : ℕ) → IsAreas m → word ≡ 2 * (a + 1) → SomeWord m c word → a < heap_length m
word_within m c word a areas e some = ∥∥₁_elim some (hlevel props) (λ q. (homed m c q.0 q.1 word a q.2 areas e).within)

one_space : (x y : Space) → Some x ≡ Some y → x ≡ y
one_space x y e = cc

-- the space that is told is one of the heap
pub space_own : (m : Areas) (c : Contents) (word a : ℕ) (o : Option Space) → IsAreas m → word ≡ 2 * (a + 1) → SomeWord m c word → ((s : SpaceState) (h : Stands m c s) (v : IsWordOf s h.places.at word) → o ≡ home_at s v.value) → IfSome o (λ x. IsSpaceOf m x)
space_own m c word a None areas e some told = tt
space_own m c word a (Some x) areas e some told = ∥∥₁_elim some (space-prop m x) (λ q. let p = homed m c q.0 q.1 word a q.2 areas e in subst (IsSpaceOf m) (sym (one_space x p.thing.home (told q.0 q.1 q.2 ∙ p.home))) p.own)

-- the value of a slot
abbrev pub slot_value : (m : Areas) (c : Contents) (s : SpaceState) (h : Stands m c s) (t k word : ℕ) → word ≡ get_or (stack_of c t) k 0 → IsWordOf s h.places.at word
slot_value m c s h t k word e = record { value = slot_of s.graph t k; fits = slot-fits m c s h t k; laid = e ∙ slot-word m c s h t k }

pub no_slot_home : (m : Areas) (c : Contents) (s : SpaceState) (h : Stands m c s) (t k : ℕ) → length (stack_of c t) ≤ k → None ≡ home_at s (slot_of s.graph t k)
no_slot_home m c s h t k le =
    let past : slot_of s.graph t k ≡ datum.Null = get_or_past (graph.stack_of s.graph t) k datum.Null (omega (arith, le, stack_length m c s h t)) in
    ap (home_at s) (sym past)
