-- What the word of a datum tells of it.
use Rattle.std.proofs.Common.{◌≡◌, ◌≢◌, ℕ, ◌+◌, ◌-◌, ◌*◌, ◌≤◌, ◌<◌, Bool, true, false, Option, Some, None, List, length, get_or, refl, sym, ap, subst, ◌∙◌, arith}
use Rattle.std.specs.Prelude.{IsSome, ◌%◌}
use Rattle.std.specs.List.{All}
use Rattle.std.proofs.Math.Logic.{⊎_elim}
use Rattle.std.proofs.lemmas.List.Elements.{All-get_or}
use Rattle.object_layout.specs.declared.names.Name.{Name}
use Rattle.object_layout.specs.declared.TheConstants.{HEADER_BASE, MAX_ADDRESS, MAX_FIELDS, MAX_SPACE, OBJECT_WORDS, SPACE_UNIT}
use Rattle.heap_words.specs.declared.map.Areas.{Areas}
use Rattle.heap_words.specs.Map.{IsAreas, heap_length, max_depth, page_words}
use Rattle.heap_words.specs.Contents.{Contents}
use Rattle.epoch_lattice.specs.declared.Space.{Space}
use Rattle.epoch_lattice.specs.declared.Space.TheVariants.{Control, Region}
use Rattle.yak_model.specs.declared.datum.Datum.{Datum}
use Rattle.yak_model.specs.declared.datum.Datum.TheVariants.{Null, Int, Object}
use Rattle.yak_model.specs.Graph.{Content, fields_at, fields_of, fields_or_none}
use Rattle.yak_model.specs.Spaces.{SpaceState, content_at, home_of}
use Rattle.epoch_lattice.specs.Lattice.{space_index}
use Rattle.yak_model.specs.State.{IsDatum, IsOpen, State, Thing, object_of, thing_of}
use Rattle.yak_model.specs.Placed.{Places, datum_word, same_name, size_by, space_word}
use Rattle.yak_model.specs.Stands.{StandsAs}
use Rattle.yak_model.proofs.Placed.{apart, in_page, same_name-self, same_name-true}

pub some-of : (x : Option Thing) → IsSome x → (o : Thing) × (x ≡ Some o)
some-of (Some o) h = (o, refl)
some-of None h = cc

some-is : (a b : Thing) → Some a ≡ Some b → a ≡ b
some-is a b h = cc

-- an object lies in the heap
pub in_heap : (m : Areas) (c : Contents) (s : State) (l : Places) (n : Name) (o : Thing) → StandsAs m c s l → s.objects n ≡ Some o → l.at n + (length o.fields + OBJECT_WORDS) ≤ heap_length m
in_heap m c s l n o h e =
    let at = h.heap.present n o e in
    let b = (in_page (page_words m) (size_by s.objects) l n at.0 at.1 h.heap.tiles at.2).1 in
    let size : size_by s.objects n ≡ length o.fields + OBJECT_WORDS = rw e refl in
    let page = at.2.page in
    let count = h.heap.count in
    omega (arith, b, size, page, count)

-- an address is that of an object
pub refers : (m : Areas) (c : Contents) (s : State) (l : Places) (d : Datum) (a : ℕ) → StandsAs m c s l → IsDatum s.objects d → datum_word l.at d ≡ 2 * (a + 1) → (n : Name) × (o : Thing) × (d ≡ Object n) × (s.objects n ≡ Some o) × (a ≡ l.at n)
refers m c s l Null a h fits e = absurd (omega (arith, e))
refers m c s l (Int i) a h fits e = absurd (omega (arith, e))
refers m c s l (Object n) a h fits e =
    let p = some-of (s.objects n) fits in
    (n, p.0, refl, p.1, omega (arith, e))

-- an odd word is that of an integer, and 0 that of null
pub is_integer : (at : Name → ℕ) (d : Datum) (i : ℕ) → datum_word at d ≡ 2 * i + 1 → d ≡ Int i
is_integer at Null i e = absurd (omega (arith, e))
is_integer at (Int j) i e = let q : j ≡ i = omega (arith, e) in ap Int q
is_integer at (Object n) i e = absurd (omega (arith, e))

pub is_null : (at : Name → ℕ) (d : Datum) → datum_word at d ≡ 0 → d ≡ Null
is_null at Null e = refl
is_null at (Int i) e = absurd (omega (arith, e))
is_null at (Object n) e = absurd (omega (arith, e))

-- the word of a datum is one of the layout
pub is_word : (m : Areas) (c : Contents) (s : State) (l : Places) (d : Datum) → IsAreas m → StandsAs m c s l → IsDatum s.objects d → 2 * (MAX_ADDRESS + 1) < datum_word l.at d → datum_word l.at d % 2 ≡ 0 → ⊥
is_word m c s l Null areas h fits lt even = omega (arith, lt)
is_word m c s l (Int i) areas h fits lt even = omega (arith, lt, even)
is_word m c s l (Object n) areas h fits lt even =
    let p = some-of (s.objects n) fits in
    omega (arith, lt, in_heap m c s l n p.0 h p.1)

-- no address, no reference
pub no_reference : (m : Areas) (c : Contents) (s : State) (l : Places) (d : Datum) (n : Name) → IsAreas m → StandsAs m c s l → IsDatum s.objects d → ((a : ℕ) → a ≤ MAX_ADDRESS → datum_word l.at d ≡ 2 * (a + 1) → ⊥) → d ≡ Object n → ⊥
no_reference m c s l d n areas h fits never e =
    let fits' : IsDatum s.objects (Object n) = subst (IsDatum s.objects) e fits in
    let p = some-of (s.objects n) fits' in
    never (l.at n) (omega (arith, in_heap m c s l n p.0 h p.1)) (ap (datum_word l.at) e)

-- two present objects at one address are one
same_object : (m : Areas) (c : Contents) (s : State) (l : Places) (n x : Name) (o p : Thing) → StandsAs m c s l → s.objects n ≡ Some o → s.objects x ≡ Some p → l.at n ≡ l.at x → (b : Bool) → same_name n x ≡ b → n ≡ x
same_object m c s l n x o p h en ex same true t = same_name-true n x t
same_object m c s l n x o p h en ex same false t =
    let ne : n ≢ x = λ q. absurd (let u : same_name n x ≡ true = rw q (same_name-self x) in cc) in
    let a = h.heap.present n o en in
    let b = h.heap.present x p ex in
    let sn : size_by s.objects n ≡ length o.fields + OBJECT_WORDS = rw en refl in
    let sx : size_by s.objects x ≡ length p.fields + OBJECT_WORDS = rw ex refl in
    absurd (⊎_elim (λ (q : l.at n + size_by s.objects n ≤ l.at x). let r : ⊥ = omega (arith, q, sn, same) in r)
    (λ (q : l.at x + size_by s.objects x ≤ l.at n). let r : ⊥ = omega (arith, q, sx, same) in r)
    (apart (page_words m) (size_by s.objects) l n x a.0 a.1 b.0 b.1 h.heap.tiles a.2 b.2 ne))

-- different data have different words
pub same-datum : (m : Areas) (c : Contents) (s : State) (l : Places) (d e : Datum) → StandsAs m c s l → IsDatum s.objects d → IsDatum s.objects e → datum_word l.at d ≡ datum_word l.at e → d ≡ e
same-datum m c s l d Null h hd he q = is_null l.at d q
same-datum m c s l d (Int i) h hd he q = is_integer l.at d i q
same-datum m c s l d (Object x) h hd he q =
    let r = refers m c s l d (l.at x) h hd q in
    let p = some-of (s.objects x) he in
    r.2 ∙ ap Object (same_object m c s l r.0 x r.1 p.0 h r.3 p.1 (sym r.4) (same_name r.0 x) refl)

-- the index of an open space
open-index : (m : Areas) (depths : List ℕ) (x : Space) → IsAreas m → length depths ≡ m.threads → All (λ d. d ≤ max_depth m) depths → IsOpen depths x → space_index x ≤ MAX_SPACE
open-index m depths Control areas e all open_it = omega arith
open-index m depths (Region t d) areas e all open_it =
    let deep : get_or depths (t - 1) 0 ≤ max_depth m = All-get_or (λ x. x ≤ max_depth m) depths (t - 1) 0 (omega arith) all in
    omega (arith, deep)

pub home-index : (m : Areas) (c : Contents) (s : State) (l : Places) (n : Name) (o : Thing) → IsAreas m → StandsAs m c s l → s.objects n ≡ Some o → space_index o.home ≤ MAX_SPACE
home-index m c s l n o areas h e =
    let at = h.heap.present n o e in
    let w = h.heap.whole n at.0 at.1 at.2 in
    let same : w.0 ≡ o = some-is w.0 o (sym w.1 ∙ e) in
    let home : space_index w.0.home ≡ space_index o.home = ap (λ (t : Thing). space_index t.home) same in
    let lt : at.0 < m.pages = omega (arith, at.2.page, h.heap.count) in
    let deep : All (λ d. d ≤ max_depth m) s.depths = subst (All (λ d. d ≤ max_depth m)) h.depths h.limits.depths in
    ⊎_elim (λ free. absurd (omega (arith, free, w.2)))
    (λ (p : (x : Space) × (space_word c.table at.0 ≡ space_index x + 1) × IsOpen s.depths x). omega (arith, home, w.2, p.1, open-index m s.depths p.0 areas h.threads deep p.2))
    (h.open_spaces at.0 lt)

-- what is told of a header's number of fields
abbrev pub Tells : ℕ → ℕ → Type 0
Tells word count = (fields space : ℕ) → fields ≤ MAX_FIELDS → space ≤ MAX_SPACE → word ≡ HEADER_BASE + SPACE_UNIT * space + fields → count ≡ fields

-- the field count that a header tells
pub counted : (m : Areas) (c : Contents) (s : State) (l : Places) (n : Name) (o : Thing) (r : ℕ) → IsAreas m → StandsAs m c s l → s.objects n ≡ Some o → Tells (get_or c.heap (l.at n) 0) r → r ≡ length o.fields
counted m c s l n o r areas h e tells = tells (length o.fields) (space_index o.home) (h.closed.fields n o e).1 (home-index m c s l n o areas h e) (h.heap.held n o e).header

-- what has no content is no object, and the fields of an object are those of the graph
content_fields : (x : Option Space) (y : Option Content) (o : Thing) → thing_of x y ≡ Some o → fields_or_none y ≡ o.fields
content_fields None y o e = cc
content_fields (Some home) None o e = cc
content_fields (Some home) (Some content) o e = let q : record { home = home; fields = fields_of content } ≡ o = some-is _ o e in ap (λ (t : Thing). t.fields) q

pub object_fields : (s : SpaceState) (n : Name) (o : Thing) → object_of s n ≡ Some o → fields_at s.graph (Object n) ≡ o.fields
object_fields s n o e = content_fields (home_of s n) (content_at s.graph n) o e
