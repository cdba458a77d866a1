-- A free page that is entered for a space holds no object, so the heap stands as before.
use Rattle.std.proofs.Common.{◌≡◌, ◌≢◌, ℕ, ◌<◌, List, [], ◌∷◌, length, get_or, set, sum_by, refl, sym, ap, ◌∙◌, arith, inl, inr, ◌⊎◌, ⊎_elim, Option}
use Rattle.std.proofs.lemmas.Bool.{cases_eq}
use Rattle.object_layout.specs.declared.names.Name.{Name}
use Rattle.heap_words.specs.declared.map.Areas.{Areas}
use Rattle.epoch_lattice.specs.declared.Space.{Space}
use Rattle.yak_model.specs.State.{Thing, IsOpen}
use Rattle.yak_model.specs.Placed.{Places, HeapStands, names_of, size_by, space_word, used_mark}
use Rattle.yak_model.specs.Stands.{SpacesOpen}
use Rattle.region_pages.proofs.Entries.{entry-same, entry-other}
use Rattle.region_pages.proofs.Claims.{entry}

nil_or_name : (ns : List Name) → (ns ≡ []) ⊎ ((n : Name) × (0 < length ns) × (get_or ns 0 n ≡ n))
nil_or_name [] = inl refl
nil_or_name (n ∷ ns) = inr (n, omega arith, refl)

-- a free page has no names
pub no_names : (m : Areas) (table : List (List ℕ)) (heap : List ℕ) (objects : Name → Option Thing) (l : Places) (work : Name → ℕ) (page : ℕ) → HeapStands m table heap objects l work → page < m.pages → space_word table page ≡ 0 → names_of l page ≡ []
no_names m table heap objects l work page h lt free =
    ⊎_elim (λ (e : names_of l page ≡ []). e)
    (λ (n : (n : Name) × (0 < length (names_of l page)) × (get_or (names_of l page) 0 n ≡ n)).
    let w = h.whole n.0 page 0 (record { page = omega (arith, h.count); place = n.1; name = n.2 }) in
    absurd (omega (arith, free, w.2)))
    (nil_or_name (names_of l page))

pub heap-claimed : (m : Areas) (table : List (List ℕ)) (heap : List ℕ) (objects : Name → Option Thing) (l : Places) (work : Name → ℕ) (page : ℕ) (x : Space) → HeapStands m table heap objects l work → length table ≡ m.pages → page < m.pages → space_word table page ≡ 0 → HeapStands m (set table page (entry x)) heap objects l work
heap-claimed m table heap objects l work page x h rows lt free =
    let within : page < length table = omega arith in
    let empty = no_names m table heap objects l work page h lt free in
    record {
      count = h.count;
      tiles = h.tiles;
      present = h.present;
      whole = λ n p k at.
          let w = h.whole n p k at in
          let ne : p ≢ page = λ e. omega (arith, free, w.2, ap (λ (q : ℕ). space_word table q) e) in
          (w.0, w.1, ap (λ (r : List ℕ). get_or r 0 0) (entry-other table page p (entry x) ne) ∙ w.2);
      marks = λ p hp.
          ⊎_elim (λ (e : p ≡ page). ap (λ (q : ℕ). used_mark (set table page (entry x)) q) e ∙ ap (λ (r : List ℕ). get_or r 1 0) (entry-same table page (entry x) within) ∙ ap (λ (ns : List Name). sum_by (size_by objects) ns) (sym empty) ∙ ap (λ (q : ℕ). sum_by (size_by objects) (names_of l q)) (sym e))
          (λ (ne : p ≢ page). ap (λ (r : List ℕ). get_or r 1 0) (entry-other table page p (entry x) ne) ∙ h.marks p hp)
          (cases_eq p page);
      held = h.held;
    }

pub spaces-claimed : (m : Areas) (table : List (List ℕ)) (depths : List ℕ) (page : ℕ) (x : Space) → length table ≡ m.pages → page < m.pages → IsOpen depths x → SpacesOpen m table depths → SpacesOpen m (set table page (entry x)) depths
spaces-claimed m table depths page x rows lt open_space spaces = λ p hp.
    let within : page < length table = omega arith in
    ⊎_elim (λ (e : p ≡ page). inr (x, ap (λ (q : ℕ). space_word (set table page (entry x)) q) e ∙ ap (λ (r : List ℕ). get_or r 0 0) (entry-same table page (entry x) within), open_space))
    (λ (ne : p ≢ page). rw (entry-other table page p (entry x) ne) (spaces p hp))
    (cases_eq p page)
