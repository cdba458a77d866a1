-- An object that is placed: its page, and what is kept of the others.
use Rattle.std.proofs.Common.{◌≡◌, ◌≢◌, ℕ, ◌+◌, ◌-◌, ◌*◌, ◌≤◌, ◌<◌, List, [], ◌∷◌, ◌++◌, set, get_or, length, length-set, sym, ap, ◌∙◌, arith, inl, inr, get_or-set_same, zero, suc}
use Rattle.std.proofs.lemmas.List.{set-get_or}
use Rattle.epoch_lattice.specs.declared.Space.{Space}
use Rattle.epoch_lattice.specs.declared.Space.TheVariants.{Region}
use Rattle.epoch_lattice.specs.Lattice.{inner_of, space_index}
use Rattle.heap_words.specs.declared.map.Areas.{Areas}
use Rattle.heap_words.specs.Map.{HasThread, page_words}
use Rattle.heap_words.specs.Cells.{row, row_set}
use Rattle.heap_words.specs.Contents.{Contents}
use Rattle.yak_model.specs.Packed.{IsSpaceOf}
use Rattle.yak_model.specs.Placed.{space_word, used_mark}
use Rattle.yak_model.specs.Stands.{CurrentsStand, PoolStands, claim_counter, current, free_pages}
use Rattle.region_pages.specs.Placement.{IsOwn, IsPlaced, IsPlacedInCurrent, IsPlacedOnClaimed, depth_in}
use Rattle.region_pages.specs.declared.TheConstants.{CLAIM_COUNTER}
use Rattle.region_pages.proofs.Shapes.{Shape}
use Rattle.region_pages.proofs.Entries.{entry-same, entry-other, space-with_used, used-with_used, used-with_used_other, current-cases}
use Rattle.region_pages.proofs.Claims.{entry, free_page}
use Rattle.region_pages.proofs.Placing.{current_within, depth_fits, inner_is}
use Rattle.escape_closure.proofs.Follows.{left_none}

-- where nothing is in use in free pages
abbrev pub FreeBlank : Areas → List (List ℕ) → Type 0
FreeBlank m table = (p : ℕ) → p < m.pages → space_word table p ≡ 0 → used_mark table p ≡ 0

-- an object of some words was put at the end of a page of its space
pub record Put (m : Areas) (c after : Contents) (x : Space) (size a : ℕ) : Type 0 where
  pub page : ℕ
  pub exists : page < m.pages
  pub address : a ≡ page_words m * page + used_mark c.table page
  pub mark : used_mark after.table page ≡ used_mark c.table page + size
  pub others : (p : ℕ) → p ≢ page → used_mark after.table p ≡ used_mark c.table p
  pub entered : space_word after.table page ≡ space_index x + 1
  pub kept : (p : ℕ) → space_word c.table p ≢ 0 → space_word after.table p ≡ space_word c.table p
  pub aside : (p : ℕ) → p ≢ page → space_word after.table p ≡ space_word c.table p
  pub left : (p : ℕ) → space_word after.table p ≡ 0 → (space_word c.table p ≡ 0) × (p ≢ page)
  pub claimed : List ℕ
  pub free : free_pages c.heads c.pool ≡ claimed ++ free_pages after.heads after.pool
  pub frame : after ≡ record c { heads = set c.heads CLAIM_COUNTER (claim_counter after.heads); currents = after.currents; table = after.table }
  pub still : (u e : ℕ) → 1 ≤ u → 1 ≤ e → Region u e ≢ x → current after.currents u e ≡ current c.currents u e

framed : (c after : Contents) (hs : List ℕ) (cs ts : List (List ℕ)) → after ≡ record c { heads = hs; currents = cs; table = ts } → hs ≡ set c.heads CLAIM_COUNTER (claim_counter hs) → after ≡ record c { heads = set c.heads CLAIM_COUNTER (claim_counter after.heads); currents = after.currents; table = after.table }
framed c after hs cs ts e h =
    e ∙ ap (λ (ys : List ℕ). record c { heads = ys; currents = cs; table = ts }) h
    ∙ ap (λ (y : Contents). record c { heads = set c.heads CLAIM_COUNTER (claim_counter y.heads); currents = y.currents; table = y.table }) (sym e)

-- the space of a thread's own depth
other_region : (m : Areas) (t u e : ℕ) (x : Space) → IsSpaceOf m x → IsOwn t x → 1 ≤ e → u ≡ t → e ≡ depth_in x → x ≡ Region u e
other_region m t u e x of own low same deep = sym (inner_is m t x of own) ∙ region_at t u e (depth_in x) low same deep
  where
    region_at : (t u e d : ℕ) → 1 ≤ e → u ≡ t → e ≡ d → inner_of t d ≡ Region u e
    region_at t u e zero low same deep = absurd (omega (arith, low, deep))
    region_at t u e (suc d) low same deep = ap (λ (k : ℕ). Region k (suc d)) (sym same) ∙ ap (λ (k : ℕ). Region u k) (sym deep)

module _ (m : Areas) (c after : Contents) (t size a : ℕ) (x : Space) (s : Shape m c) (has : HasThread m t) (least : 3 ≤ size) (of : IsSpaceOf m x) (own : IsOwn t x) (stands : CurrentsStand m c.currents c.table) (pool : PoolStands m c.heads c.pool c.table) (blank : FreeBlank m c.table) where
  module _ (p : IsPlacedInCurrent m c t (depth_in x) size a after) where
    some : current c.currents t (depth_in x) ≢ 0
    some z = let none = left_none m c t (depth_in x) z in omega (arith, p.fits, none, least)

    page : ℕ
    page = current c.currents t (depth_in x) - 1

    within : page < m.pages
    unfolding page
    within = let w = current_within m c t (depth_in x) s has (depth_fits m x of) stands some in let ne = some in omega (arith, w, ne)

    in_table : page < length c.table
    in_table = let w = within in omega (arith, w, s.table)

    table_is : after.table ≡ row_set c.table page 1 (used_mark c.table page + size)
    unfolding page
    table_is = ap (λ (y : Contents). y.table) p.changed

    space_is : (k : ℕ) → space_word after.table k ≡ space_word c.table k
    space_is k = ap (λ (ts : List (List ℕ)). space_word ts k) table_is ∙ space-with_used c.table page k (used_mark c.table page + size)

    own_word : space_word c.table page ≡ space_index x + 1
    unfolding page
    own_word =
        let deep = depth_fits m x of in
        (stands.belong t (depth_in x) has.0 has.1 (omega (arith, deep, s.slots t has)) some).1 ∙ ap (λ (y : Space). space_index y + 1) (inner_is m t x of own)

    address_is : a ≡ page_words m * page + used_mark c.table page
    unfolding page
    address_is = p.address

    changed_is : after ≡ record c { table = row_set c.table page 1 (used_mark c.table page + size) }
    unfolding page
    changed_is = p.changed

    in_current : Put m c after x size a
    in_current = record {
      page = page;
      exists = within;
      address = address_is;
      mark = ap (λ (ts : List (List ℕ)). used_mark ts page) table_is ∙ used-with_used c.table page (used_mark c.table page + size) in_table (s.entries page within);
      others = λ k ne. ap (λ (ts : List (List ℕ)). used_mark ts k) table_is ∙ used-with_used_other c.table page k (used_mark c.table page + size) ne;
      entered = space_is page ∙ own_word;
      kept = λ k ne. space_is k;
      aside = λ k ne. space_is k;
      left = λ k z. (sym (space_is k) ∙ z, λ e. omega (arith, z, space_is k, ap (λ j. space_word c.table j) e, own_word));
      claimed = [];
      free = sym (ap (λ (y : Contents). free_pages y.heads y.pool) p.changed);
      frame = framed c after c.heads c.currents (row_set c.table page 1 (used_mark c.table page + size)) changed_is (sym (set-get_or c.heads CLAIM_COUNTER 0));
      still = λ u e lu le ne. ap (λ (y : Contents). current y.currents u e) p.changed;
    }

  module _ (p : IsPlacedOnClaimed m c t x size a after) where
    was : (p.page < m.pages) × (space_word c.table p.page ≡ 0)
    was = free_page m c.heads c.pool c.table p.page (free_pages after.heads after.pool) pool p.free

    entered : List (List ℕ)
    entered = set c.table p.page (entry x)

    old_in : p.page < length c.table
    old_in = let w = was.0 in omega (arith, w, s.table)

    new_in : p.page < length entered
    unfolding entered
    new_in = let w = old_in in omega (arith, w, length-set c.table p.page (entry x))

    long : length (row entered p.page) ≡ 2
    unfolding entered
    long = ap (λ (r : List ℕ). length r) (entry-same c.table p.page (entry x) old_in)

    now_table : after.table ≡ row_set entered p.page 1 size
    unfolding entered
    now_table = ap (λ (y : Contents). y.table) p.changed

    own_space : space_word after.table p.page ≡ space_index x + 1
    unfolding entered
    own_space = ap (λ (ts : List (List ℕ)). space_word ts p.page) now_table ∙ space-with_used entered p.page p.page size ∙ ap (λ (r : List ℕ). get_or r 0 0) (entry-same c.table p.page (entry x) old_in)

    other_space : (k : ℕ) → k ≢ p.page → space_word after.table k ≡ space_word c.table k
    unfolding entered
    other_space k ne = ap (λ (ts : List (List ℕ)). space_word ts k) now_table ∙ space-with_used entered p.page k size ∙ ap (λ (r : List ℕ). get_or r 0 0) (entry-other c.table p.page k (entry x) ne)

    own_used : used_mark after.table p.page ≡ size
    own_used = ap (λ (ts : List (List ℕ)). used_mark ts p.page) now_table ∙ used-with_used entered p.page size new_in long

    other_used : (k : ℕ) → k ≢ p.page → used_mark after.table k ≡ used_mark c.table k
    unfolding entered
    other_used k ne = ap (λ (ts : List (List ℕ)). used_mark ts k) now_table ∙ used-with_used_other entered p.page k size ne ∙ ap (λ (r : List ℕ). get_or r 1 0) (entry-other c.table p.page k (entry x) ne)

    nothing : used_mark c.table p.page ≡ 0
    nothing = blank p.page was.0 was.1

    counter : claim_counter (set c.heads CLAIM_COUNTER (claim_counter c.heads + 1)) ≡ claim_counter c.heads + 1
    counter = get_or-set_same c.heads CLAIM_COUNTER (claim_counter c.heads + 1) 0 (omega (arith, s.heads))

    on_claimed : Put m c after x size a
    on_claimed = record {
      page = p.page;
      exists = was.0;
      address = let z = nothing in omega (arith, p.address, z);
      mark = let z = nothing in let w = own_used in omega (arith, z, w);
      others = other_used;
      entered = own_space;
      kept = λ k ne. other_space k (λ e. ne (ap (λ j. space_word c.table j) e ∙ was.1));
      aside = λ k ne. other_space k ne;
      left = λ k z.
          let apart : k ≢ p.page = λ e. let w = own_space in omega (arith, z, ap (λ j. space_word after.table j) e, w) in
          (sym (other_space k apart) ∙ z, apart);
      claimed = p.page ∷ [];
      free = p.free;
      frame = framed c after (set c.heads CLAIM_COUNTER (claim_counter c.heads + 1)) (row_set c.currents (t - 1) (depth_in x) (p.page + 1)) (row_set (set c.table p.page (entry x)) p.page 1 size) p.changed (ap (set c.heads CLAIM_COUNTER) (sym counter));
      still = λ u e lu le ne.
          let deep = depth_fits m x of in
          ap (λ (y : Contents). current y.currents u e) p.changed
          ∙ (elim (current-cases c.currents t (depth_in x) u e (p.page + 1) has.0 lu (omega (arith, s.currents, has)) (omega (arith, s.slots t has, deep))) [
            | inl w ↦ absurd (ne (sym (other_region m t u e x of own le w.0 w.1)))
            | inr w ↦ w.1
          ]);
    }

  pub put : IsPlaced m c t x size a after → Put m c after x size a
  put (inl p) = in_current p
  put (inr p) = on_claimed p.1
