-- One work word rewritten.
use Rattle.std.proofs.Common.{◌≡◌, ◌≢◌, ℕ, ◌+◌, ◌≤◌, length, set, refl, ap, ◌∙◌, arith, length-set, get_or-set_same, get_or-set_other}
use Rattle.object_layout.specs.declared.names.Name.{Name}
use Rattle.object_layout.specs.declared.TheConstants.{OBJECT_WORDS}
use Rattle.heap_words.specs.declared.map.Areas.{Areas}
use Rattle.heap_words.specs.Map.{IsAreas, heap_length, scratch_length}
use Rattle.heap_words.specs.Contents.{Contents, with_heap, with_scratch}
use Rattle.yak_model.specs.State.{Thing}
use Rattle.yak_model.specs.Stands.{StandsAs}
use Rattle.heap_walks.specs.Laid.{Laid, IsAmong, IsThing, work_at, work_of}
use Rattle.heap_walks.proofs.Objects.{in_heap, same_address}

-- the words with which a walk begins are among those that it may leave
pub among_first : (m : Areas) (h : Laid) → IsAreas m → StandsAs m h.before h.state h.places → length h.before.heap ≡ heap_length m → length h.before.scratch ≡ scratch_length m → IsAmong m h h.before
among_first m h areas stands heap scratch = record {
  areas = areas;
  stands = stands;
  frame = refl;
  kept = λ a k. refl;
  heap_size = heap;
  scratch_size = scratch;
}

-- a write of the scratch area
pub among_scratch : (m : Areas) (h : Laid) (c : Contents) (k v : ℕ) → IsAmong m h c → IsAmong m h (with_scratch c k v)
among_scratch m h c k v a = record {
  areas = a.areas;
  stands = a.stands;
  frame = ap (λ (x : Contents). record x { scratch = set c.scratch k v }) a.frame;
  kept = a.kept;
  heap_size = a.heap_size;
  scratch_size = length-set c.scratch k v ∙ a.scratch_size;
}

module _ (m : Areas) (h : Laid) (c : Contents) (among : IsAmong m h c) (n : Name) (o : Thing) (present : IsThing h n o) (w : ℕ) where
  abbrev pub written : Contents
  written = with_heap c (work_at h n) w

  pub own_fits : h.places.at n + OBJECT_WORDS ≤ heap_length m
  own_fits = let b = in_heap m h n o among.stands present in omega (arith, b)

  pub own_word : work_of h written n ≡ w
  own_word = get_or-set_same c.heap (work_at h n) w 0 (omega (arith, own_fits, among.heap_size))

  pub other_word : (x : Name) (p : Thing) → IsThing h x p → x ≢ n → work_of h written x ≡ work_of h c x
  other_word x p f ne = get_or-set_other c.heap (work_at h n) (work_at h x) w 0 (λ q. ne (same_address m h x n p o among.stands f present (omega (arith, q))))

  pub among_written : IsAmong m h written
  among_written = record {
    areas = among.areas;
    stands = among.stands;
    frame = ap (λ (x : Contents). record x { heap = written.heap }) among.frame;
    kept = λ a k. get_or-set_other c.heap (work_at h n) a w 0 (k n o present) ∙ among.kept a k;
    heap_size = length-set c.heap (work_at h n) w ∙ among.heap_size;
    scratch_size = among.scratch_size;
  }
