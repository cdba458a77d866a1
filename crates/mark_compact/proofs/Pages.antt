-- The objects of a region's page, one after another, and those of the list.
use Rattle.std.proofs.Common.{◌≡◌, ◌≢◌, ℕ, ◌+◌, ◌*◌, ◌<◌, List, below_more, sym, ap, subst, ◌∙◌, arith, inl, inr, get_or, length}
use Rattle.object_layout.specs.declared.names.Name.{Name}
use Rattle.object_layout.specs.declared.TheConstants.{OBJECT_WORDS}
use Rattle.epoch_lattice.specs.declared.Space.{Space}
use Rattle.epoch_lattice.specs.declared.Space.TheVariants.{Control}
use Rattle.epoch_lattice.specs.Lattice.{space_index}
use Rattle.yak_model.specs.Spaces.{here}
use Rattle.heap_words.specs.declared.map.Areas.{Areas}
use Rattle.heap_words.specs.Map.{page_words}
use Rattle.heap_words.specs.Contents.{Contents}
use Rattle.yak_model.specs.Placed.{space_word}
use Rattle.heap_walks.specs.Laid.{Laid, IsAmong}
use Rattle.heap_walks.specs.Walked.{IsWalked}
use Rattle.heap_walks.proofs.Pages.{Met, table_now, walk_goes}
use Rattle.mark_compact.specs.Marking.{Marking, Grows, IsAliveAt, IsScanned, IsPassed, IsPageMarked, ArePagesMarked, AreListedScanned, GoesOn}

pub not_control : (x : Space) → 1 < space_index x + 1 → x ≢ Control
not_control x lt e = let q : space_index x ≡ 0 = ap space_index e in omega (arith, lt, q)

-- an object of a region's page is live
abbrev pub met_alive : (m : Areas) (h : Laid) (c : Contents) (page offset place a : ℕ) → IsAmong m h c → 1 < space_word c.table page → a ≡ page_words m * page + offset → Met m h page offset place → IsAliveAt h a
met_alive m h c page offset place a among region at met =
    let word : space_word c.table page ≡ space_index met.object.home + 1 = ap (λ (t : List (List ℕ)). space_word t page) (table_now m h c among) ∙ met.home in
    record {
      name = met.name;
      object = met.object;
      present = met.present;
      address = at ∙ met.address;
      alive = (met.name, inr (met.object, met.present, not_control met.object.home (omega (arith, region, word))), here);
    }

pub passed_still : (h : Laid) (c d : Contents) (i j : ℕ) (n : Name) → Grows h c i d j → IsPassed h c n → IsPassed h d n
passed_still h c d i j n g f o x e refers control = g.marks x (f o x e refers control)

-- the walk passes an object whose fields were followed
pub walk_on : (m : Areas) (h : Laid) (c d : Contents) (i j page offset fields a : ℕ) → (w : IsWalked h (IsPassed h c) page offset) → (met : Met m h page offset w.place) → fields ≡ length met.object.fields → Grows h c i d j → a ≡ page_words m * page + offset → IsScanned h d a → IsWalked h (IsPassed h d) page (offset + (fields + OBJECT_WORDS))
walk_on m h c d i j page offset fields a w met e g at scanned = walk_goes m h (IsPassed h c) (IsPassed h d) page offset fields w met e (λ n f. passed_still h c d i j n g f) (scanned met.name (at ∙ met.address))

pub page_still : (h : Laid) (c d : Contents) (i j page : ℕ) → Grows h c i d j → IsPageMarked h c page → IsPageMarked h d page
page_still h c d i j page g f n k at = passed_still h c d i j n g (f n k at)

pub pages_more : (m : Areas) (h : Laid) (c d : Contents) (i j page : ℕ) → IsAmong m h c → Grows h c i d j → ArePagesMarked h c page → (1 < space_word c.table page → IsPageMarked h d page) → ArePagesMarked h d (page + 1)
pages_more m h c d i j page a g before now =
    below_more (λ p. 1 < space_word h.before.table p → IsPageMarked h d p) page
    (λ p lt region. page_still h c d i j p g (before p lt region))
    (λ region. now (subst (λ (t : List (List ℕ)). 1 < space_word t page) (sym (table_now m h c a)) region))

-- the objects of the list are live
abbrev pub listed_alive : (m : Areas) (h : Laid) (c : Contents) (count k : ℕ) → Marking m h c count → k < count → IsAliveAt h (get_or c.scratch k 0)
listed_alive m h c count k mk lt =
    let l = mk.list.listed k lt in
    let control = l.1.0 in
    record {
      name = l.0;
      object = control.0;
      present = control.1;
      address = l.2;
      alive = elim (mk.marks l.0 control.0 control.1) [
        | inl q ↦ absurd (omega (arith, q, l.1.1))
        | inr q ↦ q.2
      ];
    }

pub listed_more : (m : Areas) (h : Laid) (c d : Contents) (i j k : ℕ) → GoesOn m h c i d j → k < i → AreListedScanned h c k → IsScanned h d (get_or c.scratch k 0) → AreListedScanned h d (k + 1)
listed_more m h c d i j k g lt before now =
    below_more (λ p. IsScanned h d (get_or d.scratch p 0)) k
    (λ p less. subst (IsScanned h d) (sym (g.grows.list p (omega (arith, less, lt)))) (λ n at. passed_still h c d i j n g.grows (before p less n at)))
    (subst (IsScanned h d) (sym (g.grows.list k lt)) now)
