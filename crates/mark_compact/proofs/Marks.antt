-- One mark more.
use Rattle.std.proofs.Common.{◌≡◌, ◌≢◌, ◌⊎◌, ℕ, ◌+◌, ◌<◌, length, sym, ap, subst, ◌∙◌, arith, inl, inr}
use Rattle.object_layout.specs.declared.names.Name.{Name}
use Rattle.epoch_lattice.specs.declared.Space.TheVariants.{Control}
use Rattle.yak_model.proofs.Names.{same_or_other}
use Rattle.heap_words.specs.declared.map.Areas.{Areas}
use Rattle.heap_words.specs.Map.{heap_length}
use Rattle.heap_words.specs.Contents.{Contents, with_heap, with_scratch}
use Rattle.yak_model.specs.State.{Thing}
use Rattle.heap_walks.specs.Laid.{Laid, IsThing, work_at, work_of}
use Rattle.heap_walks.proofs.Objects.{same_thing}
use Rattle.heap_walks.proofs.Works.{among_scratch, among_written, other_word, own_word}
use Rattle.heap_walks.proofs.Lists.{former_word, one_more}
use Rattle.heap_walks.proofs.Lists as lists
use Rattle.mark_compact.specs.Reach.{IsAlive}
use Rattle.mark_compact.specs.Marking.{IsMarked, Marking, Grows}

pub long : (m : Areas) (h : Laid) (c : Contents) (count : ℕ) → Marking m h c count → count < length c.scratch
long m h c count mk = omega (arith, mk.fits, mk.among.scratch_size)

module _ (m : Areas) (h : Laid) (c : Contents) (count : ℕ) (mk : Marking m h c count) (n : Name) (o : Thing) (present : IsThing h n o) (home : o.home ≡ Control) (unmarked : work_of h c n ≡ 0) where
  new : IsMarked h c n → ⊥
  new q = omega (arith, q.1, unmarked)

  pub room : count < heap_length m
  room = lists.room m h (IsMarked h c) c.scratch count mk.list mk.among.stands (long m h c count mk) n o present new

  abbrev pub after : Contents
  after = with_scratch (with_heap c (work_at h n) 1) count (h.places.at n)

  own : work_of h after n ≡ 1
  own = own_word m h c mk.among n o present 1

  other : (x : Name) (p : Thing) → IsThing h x p → x ≢ n → work_of h after x ≡ work_of h c x
  other = other_word m h c mk.among n o present 1

  marked_still : (x : Name) → IsMarked h c x → IsMarked h after x
  marked_still x marked =
      elim (same_or_other x n) [
        | inl e ↦ (marked.0, subst (λ y. work_of h after y ≡ 1) (sym e) own)
        | inr ne ↦ (marked.0, other x marked.0.0 marked.0.1 ne ∙ marked.1)
      ]

  marked_before : (x : Name) → x ≢ n → IsMarked h after x → IsMarked h c x
  marked_before x ne marked = (marked.0, sym (other x marked.0.0 marked.0.1 ne) ∙ marked.1)

  pub marked_now : IsMarked h after n
  marked_now = ((o, present, home), own)

  module _ (alive : IsAlive h.state n) where
    marks_after : (x : Name) (p : Thing) → IsThing h x p → (work_of h after x ≡ 0) ⊎ ((work_of h after x ≡ 1) × (p.home ≡ Control) × IsAlive h.state x)
    marks_after x p e =
        elim (same_or_other x n) [
          | inl q ↦
              let thing : o ≡ p = same_thing h n o p present (ap h.state.objects (sym q) ∙ e) in
              inr (subst (λ y. work_of h after y ≡ 1) (sym q) own, ap (λ (t : Thing). t.home) (sym thing) ∙ home, subst (IsAlive h.state) (sym q) alive)
          | inr ne ↦ subst (λ w. (w ≡ 0) ⊎ ((w ≡ 1) × (p.home ≡ Control) × IsAlive h.state x)) (sym (other x p e ne)) (mk.marks x p e)
        ]

    pub marking_after : Marking m h after (count + 1)
    marking_after = record {
      among = among_scratch m h (with_heap c (work_at h n) 1) count (h.places.at n) (among_written m h c mk.among n o present 1);
      fits = let r = room in omega (arith, r);
      marks = marks_after;
      list = one_more m h (IsMarked h c) c.scratch count mk.list mk.among.stands (long m h c count mk) n o present new (IsMarked h after) marked_now marked_still marked_before;
    }

    pub grows_after : Grows h c count after (count + 1)
    grows_after = record {
      longer = omega arith;
      marks = marked_still;
      list = former_word m h (IsMarked h c) c.scratch count mk.list mk.among.stands (long m h c count mk) n o present new;
    }
