-- What following a reference leaves.
use Rattle.std.proofs.Common.{◌≡◌, ◌≢◌, ℕ, ◌+◌, ◌*◌, ◌≤◌, ◌<◌, refl, sym, ap, subst, ◌∙◌, arith, inl, inr, get_or, length, set}
use Rattle.object_layout.specs.declared.names.Name.{Name}
use Rattle.object_layout.specs.declared.TheConstants.{HEADER_BASE, MAX_ADDRESS, MAX_FIELDS, MAX_SPACE, OBJECT_WORDS, SPACE_UNIT}
use Rattle.epoch_lattice.specs.declared.Space.{Space}
use Rattle.epoch_lattice.specs.declared.Space.TheVariants.{Control, Region}
use Rattle.epoch_lattice.specs.Lattice.{space_index}
use Rattle.heap_words.specs.declared.map.Areas.{Areas}
use Rattle.heap_words.specs.Map.{heap_length}
use Rattle.heap_words.specs.Contents.{Contents}
use Rattle.yak_model.specs.State.{Thing}
use Rattle.heap_walks.specs.Laid.{Laid, work_of}
use Rattle.heap_walks.proofs.Objects.{in_heap, same_address, same_thing, header_now, home_index, leads_to}
use Rattle.heap_walks.proofs.Objects as objects
use Rattle.mark_compact.specs.Reach.{IsControl}
use Rattle.mark_compact.specs.Marking.{IsAliveAt, IsMarked, Marking, GoesOn, IsLead, IsFollowed}
use Rattle.mark_compact.proofs.Marks.{marking_after, grows_after, marked_now, room, after}

-- the live object to which a reference word leads
pub led : (m : Areas) (h : Laid) (c : Contents) (count word a : ℕ) → Marking m h c count → IsLead h word → word ≡ 2 * (a + 1) → IsAliveAt h a
led m h c count word a mk l e =
    let p = leads_to m h l.datum a word mk.among.stands l.fits l.word_is e in
    record { name = p.0; object = p.1; present = p.3; address = p.4; alive = l.alive p.0 p.2 }

pub alive_fits : (m : Areas) (h : Laid) (c : Contents) (count a : ℕ) → Marking m h c count → (l : IsAliveAt h a) → a + (length l.object.fields + OBJECT_WORDS) ≤ heap_length m
alive_fits m h c count a mk l = let b = in_heap m h l.name l.object mk.among.stands l.present in omega (arith, b, l.address)

pub led_fits : (m : Areas) (h : Laid) (c : Contents) (count a : ℕ) → Marking m h c count → IsAliveAt h a → a + OBJECT_WORDS ≤ heap_length m
led_fits m h c count a mk l = let b = alive_fits m h c count a mk l in omega (arith, b)

pub stays : (m : Areas) (h : Laid) (c : Contents) (count : ℕ) → Marking m h c count → GoesOn m h c count c count
stays m h c count mk = record { marking = mk; grows = record { longer = omega arith; marks = λ n q. q; list = λ k lt. refl } }

pub no_address : (m : Areas) (h : Laid) (c : Contents) (count word : ℕ) → Marking m h c count → ((a : ℕ) → a ≤ MAX_ADDRESS → word ≡ 2 * (a + 1) → ⊥) → IsFollowed h c word
no_address m h c count word mk none n control e = absurd (objects.no_address m h n control.0 word mk.among.areas mk.among.stands control.1 none e)

-- the object to which the word leads is the one at the address
same_led : (m : Areas) (h : Laid) (c : Contents) (count a word : ℕ) → Marking m h c count → (l : IsAliveAt h a) → word ≡ 2 * (a + 1) → (n : Name) → IsControl h.state n → word ≡ 2 * (h.places.at n + 1) → l.name ≡ n
same_led m h c count a word mk l e n control f =
    same_address m h l.name n l.object control.0 mk.among.stands l.present control.1 (omega (arith, e, f, l.address))

control_is : (x : Space) → space_index x ≡ 0 → x ≡ Control
control_is Control h = refl
control_is (Region t d) h = absurd (omega (arith, h))

header_at : (m : Areas) (h : Laid) (c : Contents) (count a : ℕ) → Marking m h c count → (l : IsAliveAt h a) → get_or c.heap a 0 ≡ HEADER_BASE + SPACE_UNIT * space_index l.object.home + length l.object.fields
header_at m h c count a mk l = ap (λ i. get_or c.heap i 0) l.address ∙ header_now m h c l.name l.object mk.among l.present

-- what a test of the header tells
abbrev pub TellsControl : ℕ → Type 0 → Type 0
TellsControl header test = (fields space : ℕ) → fields ≤ MAX_FIELDS → space ≤ MAX_SPACE → header ≡ HEADER_BASE + SPACE_UNIT * space + fields → (test → space ≡ 0) × (space ≡ 0 → test)

told : (m : Areas) (h : Laid) (c : Contents) (count a : ℕ) (test : Type 0) → Marking m h c count → (l : IsAliveAt h a) → TellsControl (get_or c.heap a 0) test → (test → space_index l.object.home ≡ 0) × (space_index l.object.home ≡ 0 → test)
told m h c count a test mk l tells =
    tells (length l.object.fields) (space_index l.object.home) (mk.among.stands.closed.fields l.name l.object l.present).1 (home_index m h l.name l.object mk.among.areas mk.among.stands l.present) (header_at m h c count a mk l)

pub other_space : (m : Areas) (h : Laid) (c : Contents) (count a word : ℕ) (test : Type 0) → Marking m h c count → IsAliveAt h a → word ≡ 2 * (a + 1) → TellsControl (get_or c.heap a 0) test → (test → ⊥) → IsFollowed h c word
other_space m h c count a word test mk l e tells fails n control f =
    let same : l.name ≡ n = same_led m h c count a word mk l e n control f in
    let thing : l.object ≡ control.0 = same_thing h n l.object control.0 (ap h.state.objects (sym same) ∙ l.present) control.1 in
    absurd (fails ((told m h c count a test mk l tells).1 (ap (λ (t : Thing). space_index t.home) thing ∙ ap space_index control.2)))

pub has_mark : (m : Areas) (h : Laid) (c : Contents) (count a word : ℕ) → Marking m h c count → IsAliveAt h a → word ≡ 2 * (a + 1) → get_or c.heap (a + 2) 0 ≢ 0 → IsFollowed h c word
has_mark m h c count a word mk l e some n control f =
    let same : l.name ≡ n = same_led m h c count a word mk l e n control f in
    let at : a ≡ h.places.at n = l.address ∙ ap h.places.at same in
    elim (mk.marks n control.0 control.1) [
      | inl zero_word ↦ absurd (some (ap (λ i. get_or c.heap (i + 2) 0) at ∙ zero_word))
      | inr one ↦ (control, one.0)
    ]

pub new_mark : (m : Areas) (h : Laid) (c d : Contents) (count a word : ℕ) (test : Type 0) → Marking m h c count → IsAliveAt h a → word ≡ 2 * (a + 1) → TellsControl (get_or c.heap a 0) test → test → get_or c.heap (a + 2) 0 ≡ 0 → d ≡ (record c { heap = set c.heap (a + 2) 1; scratch = set c.scratch count a }) → GoesOn m h c count d (count + 1) × IsFollowed h d word
new_mark m h c d count a word test mk l e tells passes free made =
    let home : l.object.home ≡ Control = control_is l.object.home ((told m h c count a test mk l tells).0 passes) in
    let free_at : work_of h c l.name ≡ 0 = ap (λ i. get_or c.heap (i + 2) 0) (sym l.address) ∙ free in
    let made_at : d ≡ after m h c count mk l.name l.object l.present home free_at = made ∙ ap (λ i. record c { heap = set c.heap (i + 2) 1; scratch = set c.scratch count i }) l.address in
    rw made_at (
      record { marking = marking_after m h c count mk l.name l.object l.present home free_at l.alive; grows = grows_after m h c count mk l.name l.object l.present home free_at l.alive },
      λ n control f.
          let same : l.name ≡ n = same_led m h c count a word mk l e n control f in
          subst (IsMarked h (after m h c count mk l.name l.object l.present home free_at)) same (marked_now m h c count mk l.name l.object l.present home free_at),
    )

pub room_at : (m : Areas) (h : Laid) (c : Contents) (count a : ℕ) (test : Type 0) → Marking m h c count → IsAliveAt h a → TellsControl (get_or c.heap a 0) test → test → get_or c.heap (a + 2) 0 ≡ 0 → count < heap_length m
room_at m h c count a test mk l tells passes free =
    let home : l.object.home ≡ Control = control_is l.object.home ((told m h c count a test mk l tells).0 passes) in
    let free_at : work_of h c l.name ≡ 0 = ap (λ i. get_or c.heap (i + 2) 0) (sym l.address) ∙ free in
    room m h c count mk l.name l.object l.present home free_at
