-- The slots of a stack, one after another.
use Rattle.std.proofs.Common.{◌≡◌, ℕ, ◌+◌, ◌-◌, ◌≤◌, ◌<◌, [], ap, subst, ◌∙◌, arith, inl, get_or, length, below_more}
use Rattle.std.proofs.lemmas.List.{get_or_default}
use Rattle.std.proofs.lemmas.List.Elements.{Contains-get_or}
use Rattle.std.specs.List.{Contains}
use Rattle.yak_model.specs.declared.datum.Datum.TheVariants.{Null, Object}
use Rattle.yak_model.specs.Spaces.{here}
use Rattle.heap_words.specs.declared.map.Areas.{Areas}
use Rattle.heap_words.specs.Contents.{Contents, stack_of}
use Rattle.yak_model.specs.Placed.{datum_word}
use Rattle.heap_walks.specs.Laid.{Laid, IsAmong}
use Rattle.heap_walks.proofs.Stacks.{some_row, slot_fits, slot_word}
use Rattle.mark_compact.specs.Marking.{Grows, IsLead, IsFollowed, IsStackFollowedTo, IsStackMarked}
use Rattle.mark_compact.proofs.Scans.{followed_still}

pub slot_lead : (m : Areas) (h : Laid) (c : Contents) (t s word : ℕ) → IsAmong m h c → s < length (get_or h.state.stacks (t - 1) []) → word ≡ get_or (stack_of c t) s 0 → IsLead h word
slot_lead m h c t s word a lt e = record {
  datum = get_or (get_or h.state.stacks (t - 1) []) s Null;
  fits = slot_fits m h c t s a lt;
  word_is = e ∙ slot_word m h c t s a;
  alive = λ n q. (n, inl (t - 1, (some_row h.state.stacks (t - 1) s lt, subst (Contains (get_or h.state.stacks (t - 1) [])) q (Contains-get_or (get_or h.state.stacks (t - 1) []) s Null lt))), here);
}

pub slot_more : (h : Laid) (c d : Contents) (i j t k word : ℕ) → Grows h c i d j → word ≡ datum_word h.places.at (get_or (get_or h.state.stacks t []) k Null) → IsStackFollowedTo h c t k → IsFollowed h d word → IsStackFollowedTo h d t (k + 1)
slot_more h c d i j t k word g e before now =
    below_more _ k (λ p lt. followed_still h c d i j _ g (before p lt)) (subst (IsFollowed h d) e now)

pub stack_marked : (h : Laid) (c : Contents) (t k : ℕ) → length (get_or h.state.stacks t []) ≤ k → IsStackFollowedTo h c t k → IsStackMarked h c t
stack_marked h c t k all to n refers control =
    let value : get_or (get_or h.state.stacks t []) refers.0 Null ≡ Object n = get_or_default (get_or h.state.stacks t []) refers.0 Null (Object n) refers.1 ∙ refers.2 in
    to refers.0 (omega (arith, refers.1)) n control (ap (datum_word h.places.at) value)

pub stack_still : (h : Laid) (c d : Contents) (i j t : ℕ) → Grows h c i d j → IsStackMarked h c t → IsStackMarked h d t
stack_still h c d i j t g f n refers control = g.marks n (f n refers control)
