-- The fields of an object, one after another.
use Rattle.std.proofs.Common.{◌≡◌, ℕ, ◌+◌, ◌≤◌, ◌<◌, sym, ap, subst, ◌∙◌, arith, get_or, length, below_more}
use Rattle.std.proofs.lemmas.List.{get_or_default}
use Rattle.std.proofs.lemmas.List.Elements.{All-get_or, Contains-get_or}
use Rattle.std.specs.List.{Contains}
use Rattle.object_layout.specs.declared.TheConstants.{OBJECT_WORDS}
use Rattle.yak_model.specs.declared.datum.Datum.TheVariants.{Null, Object}
use Rattle.yak_model.specs.Spaces.{onward}
use Rattle.heap_words.specs.declared.map.Areas.{Areas}
use Rattle.heap_words.specs.Contents.{Contents}
use Rattle.yak_model.specs.State.{Thing, IsDatum}
use Rattle.yak_model.specs.Placed.{datum_word}
use Rattle.yak_model.proofs.Data.{Tells}
use Rattle.heap_walks.specs.Laid.{Laid}
use Rattle.heap_walks.proofs.Objects.{same_address, same_thing, field_now}
use Rattle.heap_walks.proofs.Objects as objects
use Rattle.mark_compact.specs.Marking.{Marking, Grows, GoesOn, IsLead, IsFollowed, IsFollowedTo, IsAliveAt, IsScanned}

pub then_on : (m : Areas) (h : Laid) (c d e : Contents) (i j k : ℕ) → GoesOn m h c i d j → GoesOn m h d j e k → GoesOn m h c i e k
then_on m h c d e i j k a b = record {
  marking = b.marking;
  grows = record {
    longer = omega (arith, a.grows.longer, b.grows.longer);
    marks = λ n q. b.grows.marks n (a.grows.marks n q);
    list = λ p lt. b.grows.list p (omega (arith, a.grows.longer)) ∙ a.grows.list p lt;
  };
}

pub followed_still : (h : Laid) (c d : Contents) (i j word : ℕ) → Grows h c i d j → IsFollowed h c word → IsFollowed h d word
followed_still h c d i j word g f n control e = g.marks n (f n control e)

pub followed_more : (h : Laid) (c d : Contents) (i j a k word : ℕ) (l : IsAliveAt h a) → Grows h c i d j → word ≡ datum_word h.places.at (get_or l.object.fields k Null) → IsFollowedTo h c a l k → IsFollowed h d word → IsFollowedTo h d a l (k + 1)
followed_more h c d i j a k word l g e before now =
    below_more _ k (λ p lt. followed_still h c d i j _ g (before p lt)) (subst (IsFollowed h d) e now)

pub counted : (m : Areas) (h : Laid) (c : Contents) (count a r : ℕ) → Marking m h c count → (l : IsAliveAt h a) → Tells (get_or c.heap a 0) r → r ≡ length l.object.fields
counted m h c count a r mk l tells = objects.counted m h c l.name l.object a r mk.among l.present l.address tells

pub field_word : (m : Areas) (h : Laid) (c : Contents) (count a f : ℕ) → Marking m h c count → (l : IsAliveAt h a) → f < length l.object.fields → get_or c.heap (a + OBJECT_WORDS + f) 0 ≡ datum_word h.places.at (get_or l.object.fields f Null)
field_word m h c count a f mk l lt = ap (λ i. get_or c.heap (i + OBJECT_WORDS + f) 0) l.address ∙ field_now m h c l.name l.object f mk.among l.present lt

pub field_lead : (m : Areas) (h : Laid) (c : Contents) (count a f word : ℕ) → Marking m h c count → (l : IsAliveAt h a) → f < length l.object.fields → word ≡ get_or c.heap (a + OBJECT_WORDS + f) 0 → IsLead h word
field_lead m h c count a f word mk l lt e = record {
  datum = get_or l.object.fields f Null;
  fits = All-get_or (IsDatum h.state.objects) l.object.fields f Null lt (mk.among.stands.closed.fields l.name l.object l.present).0;
  word_is = e ∙ field_word m h c count a f mk l lt;
  alive = λ n q. (l.alive.0, l.alive.1, onward l.alive.2 (l.object, l.present, subst (Contains l.object.fields) q (Contains-get_or l.object.fields f Null lt)));
}

pub scanned : (m : Areas) (h : Laid) (c : Contents) (count a k : ℕ) → Marking m h c count → (l : IsAliveAt h a) → length l.object.fields ≤ k → IsFollowedTo h c a l k → IsScanned h c a
scanned m h c count a k mk l all to n at o x e refers control =
    let same : l.name ≡ n = same_address m h l.name n l.object o mk.among.stands l.present e (sym l.address ∙ at) in
    let thing : l.object ≡ o = same_thing h n l.object o (ap h.state.objects (sym same) ∙ l.present) e in
    let here : Contains l.object.fields (Object x) = subst (λ (t : Thing). Contains t.fields (Object x)) (sym thing) refers in
    let value : get_or l.object.fields here.0 Null ≡ Object x = get_or_default l.object.fields here.0 Null (Object x) here.1 ∙ here.2 in
    to here.0 (omega (arith, here.1)) x control (ap (datum_word h.places.at) value)
