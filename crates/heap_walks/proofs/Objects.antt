-- Where the objects of a state lie, while only work words and the scratch area have changed.
use Rattle.std.proofs.Common.{◌≡◌, ◌≢◌, ◌⊎◌, ℕ, ◌+◌, ◌*◌, ◌≤◌, ◌<◌, Some, length, get_or, refl, sym, ap, ◌∙◌, arith, inl, inr}
use Rattle.object_layout.specs.declared.names.Name.{Name}
use Rattle.object_layout.specs.declared.TheConstants.{MAX_ADDRESS, MAX_SPACE, OBJECT_WORDS, HEADER_BASE, SPACE_UNIT}
use Rattle.yak_model.specs.declared.datum.Datum.{Datum}
use Rattle.yak_model.specs.declared.datum.Datum.TheVariants.{Null, Object}
use Rattle.heap_words.specs.declared.map.Areas.{Areas}
use Rattle.heap_words.specs.Map.{IsAreas, heap_length, page_words}
use Rattle.heap_words.specs.Contents.{Contents}
use Rattle.epoch_lattice.specs.Lattice.{space_index}
use Rattle.yak_model.specs.State.{Thing, IsDatum}
use Rattle.yak_model.specs.Placed.{datum_word, size_by}
use Rattle.yak_model.specs.Stands.{StandsAs}
use Rattle.yak_model.proofs.Names.{same_or_other}
use Rattle.yak_model.proofs.Placed.{apart}
use Rattle.yak_model.proofs.Data.{home-index, refers, Tells}
use Rattle.yak_model.proofs.Data as words
use Rattle.heap_walks.specs.Laid.{Laid, IsAmong, IsKeptWord, IsThing}

some_is : (a b : Thing) → Some a ≡ Some b → a ≡ b
some_is a b h = cc

pub same_thing : (h : Laid) (n : Name) (o p : Thing) → IsThing h n o → IsThing h n p → o ≡ p
same_thing h n o p e f = some_is o p (sym e ∙ f)

pub size_is : (h : Laid) (n : Name) (o : Thing) → IsThing h n o → size_by h.state.objects n ≡ length o.fields + OBJECT_WORDS
size_is h n o e = rw e refl

-- where an object ends
pub in_heap : (m : Areas) (h : Laid) (n : Name) (o : Thing) → StandsAs m h.before h.state h.places → IsThing h n o → h.places.at n + (length o.fields + OBJECT_WORDS) ≤ heap_length m
in_heap m h n o s e = words.in_heap m h.before h.state h.places n o s e

pub lie_apart : (m : Areas) (h : Laid) (n x : Name) (o p : Thing) → StandsAs m h.before h.state h.places → IsThing h n o → IsThing h x p → n ≢ x → (h.places.at n + (length o.fields + OBJECT_WORDS) ≤ h.places.at x) ⊎ (h.places.at x + (length p.fields + OBJECT_WORDS) ≤ h.places.at n)
lie_apart m h n x o p s e f ne =
    let a = s.heap.present n o e in
    let b = s.heap.present x p f in
    let sn = size_is h n o e in
    let sx = size_is h x p f in
    elim (apart (page_words m) (size_by h.state.objects) h.places n x a.0 a.1 b.0 b.1 s.heap.tiles a.2 b.2 ne) [
      | inl q ↦ inl (omega (arith, q, sn))
      | inr q ↦ inr (omega (arith, q, sx))
    ]

pub same_address : (m : Areas) (h : Laid) (n x : Name) (o p : Thing) → StandsAs m h.before h.state h.places → IsThing h n o → IsThing h x p → h.places.at n ≡ h.places.at x → n ≡ x
same_address m h n x o p s e f at =
    elim (same_or_other n x) [
      | inl q ↦ q
      | inr ne ↦ absurd (elim (lie_apart m h n x o p s e f ne) as (λ _. ⊥) [ inl q ↦ omega (arith, q, at) | inr q ↦ omega (arith, q, at) ])
    ]

-- the words of an object but its work word are no work words
pub kept_word : (m : Areas) (h : Laid) (n : Name) (o : Thing) (j : ℕ) → StandsAs m h.before h.state h.places → IsThing h n o → j < length o.fields + OBJECT_WORDS → j ≢ 2 → IsKeptWord h (h.places.at n + j)
kept_word m h n o j s e lt ne x p f q =
    elim (same_or_other n x) [
      | inl i ↦ let at : h.places.at n ≡ h.places.at x = ap h.places.at i in ne (omega arith)
      | inr o ↦ elim (lie_apart m h n x _ p s e f o) as (λ _. ⊥) [ inl a ↦ omega (arith, a, q, lt) | inr a ↦ omega (arith, a, q, lt) ]
    ]

pub home_index : (m : Areas) (h : Laid) (n : Name) (o : Thing) → IsAreas m → StandsAs m h.before h.state h.places → IsThing h n o → space_index o.home ≤ MAX_SPACE
home_index m h n o areas s e = home-index m h.before h.state h.places n o areas s e

-- what a reader meets now
pub header_now : (m : Areas) (h : Laid) (c : Contents) (n : Name) (o : Thing) → IsAmong m h c → IsThing h n o → get_or c.heap (h.places.at n) 0 ≡ HEADER_BASE + SPACE_UNIT * space_index o.home + length o.fields
header_now m h c n o a e =
    let k : IsKeptWord h (h.places.at n) = λ x p f q. kept_word m h n o 0 a.stands e (omega arith) (omega arith) x p f (omega (arith, q)) in
    a.kept (h.places.at n) k ∙ (a.stands.heap.held n o e).header

pub name_now : (m : Areas) (h : Laid) (c : Contents) (n : Name) (o : Thing) → IsAmong m h c → IsThing h n o → get_or c.heap (h.places.at n + 1) 0 ≡ get_or h.before.heap (h.places.at n + 1) 0
name_now m h c n o a e = a.kept (h.places.at n + 1) (kept_word m h n o 1 a.stands e (omega arith) (omega arith))

pub field_now : (m : Areas) (h : Laid) (c : Contents) (n : Name) (o : Thing) (f : ℕ) → IsAmong m h c → IsThing h n o → f < length o.fields → get_or c.heap (h.places.at n + OBJECT_WORDS + f) 0 ≡ datum_word h.places.at (get_or o.fields f Null)
field_now m h c n o f a e lt =
    let k : IsKeptWord h (h.places.at n + OBJECT_WORDS + f) = λ x p g q. kept_word m h n o (OBJECT_WORDS + f) a.stands e (omega arith) (omega arith) x p g (omega (arith, q)) in
    a.kept (h.places.at n + OBJECT_WORDS + f) k ∙ (a.stands.heap.held n o e).fields f lt

-- the field count that a header tells
pub counted : (m : Areas) (h : Laid) (c : Contents) (n : Name) (o : Thing) (a r : ℕ) → IsAmong m h c → IsThing h n o → a ≡ h.places.at n → Tells (get_or c.heap a 0) r → r ≡ length o.fields
counted m h c n o a r among e at tells = tells (length o.fields) (space_index o.home) (among.stands.closed.fields n o e).1 (home_index m h n o among.areas among.stands e) (ap (λ i. get_or c.heap i 0) at ∙ header_now m h c n o among e)

-- the present object to which the word of a datum leads
pub leads_to : (m : Areas) (h : Laid) (d : Datum) (a word : ℕ) → StandsAs m h.before h.state h.places → IsDatum h.state.objects d → word ≡ datum_word h.places.at d → word ≡ 2 * (a + 1) → (n : Name) × (o : Thing) × (d ≡ Object n) × IsThing h n o × (a ≡ h.places.at n)
leads_to m h d a word s fits e f = refers m h.before h.state h.places d a s fits (sym e ∙ f)

-- a word without an address refers to no present object
pub no_address : (m : Areas) (h : Laid) (n : Name) (o : Thing) (word : ℕ) → IsAreas m → StandsAs m h.before h.state h.places → IsThing h n o → ((a : ℕ) → a ≤ MAX_ADDRESS → word ≡ 2 * (a + 1) → ⊥) → word ≢ 2 * (h.places.at n + 1)
no_address m h n o word areas s e none f =
    let b = in_heap m h n o s e in
    none (h.places.at n) (omega (arith, b, areas)) f
