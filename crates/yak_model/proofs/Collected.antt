-- A collection of a list of objects is one of their space state.
use Rattle.std.proofs.Common.{◌≡◌, ◌≢◌, ◌↔◌, ℕ, ◌<◌, List, Bool, true≢false, cond, length, get_or, refl, ◌∙◌, ap, sym, subst, inl, inr, Option, Some, None, is_some}
use Rattle.std.specs.List.{Contains}
use Rattle.std.specs.FinMap.{get-from_entries}
use Rattle.object_layout.specs.declared.names.Name.{Name}
use Rattle.epoch_lattice.specs.declared.Space.{Space}
use Rattle.epoch_lattice.specs.declared.Space.TheVariants.{Control}
use Rattle.yak_model.specs.declared.datum.Datum.TheVariants as datum
use Rattle.yak_model.specs.Graph.{Limits, Thread, fields_or_none}
use Rattle.yak_model.specs.Kept.{AreDistinct, IsFirst, IsLiveName, IsMarked, Kept, ListRefers, home_at, name_at, nobody, settled, state_of, target_at}
use Rattle.yak_model.specs.Spaces.{Collects, IsLive, IsPresent, IsReached, IsRoot, SpaceState, content_at, here, home_of, onward}
use Rattle.yak_model.proofs.Names.{name_cmp_total}
use Rattle.yak_model.proofs.Marks.{Roots}
use Rattle.yak_model.proofs.Settled.{absent_settled, find_absent, find_place, found, place_or_none, place_settled}
use Rattle.yak_model.proofs.Walks.{reach_keeps}

no_value : {X : Type 0} {x : X} → None ≡ Some x → ⊥
no_value e = true≢false (sym (ap is_some e))

module _ (limits : Limits) (threads : List Thread) (objects : List Kept) (distinct : AreDistinct objects) where
  abbrev before : SpaceState
  before = state_of limits threads objects

  pub home_of_place : (i : ℕ) → i < length objects → home_of before (name_at objects i) ≡ Some (home_at objects i)
  home_of_place i lt = get-from_entries name_cmp_total _ _ ∙ find_place (λ (k : Kept). k.home) objects distinct i lt

  pub content_of_place : (i : ℕ) → i < length objects → content_at before.graph (name_at objects i) ≡ Some (get_or objects i nobody).content
  content_of_place i lt = get-from_entries name_cmp_total _ _ ∙ find_place (λ (k : Kept). k.content) objects distinct i lt

  pub home_absent : (name : Name) → ((i : ℕ) → i < length objects → name_at objects i ≢ name) → home_of before name ≡ None
  home_absent name absent = get-from_entries name_cmp_total _ _ ∙ find_absent (λ (k : Kept). k.home) objects name absent

  pub place_of_present : (name : Name) → IsPresent before name → (i : ℕ) × (i < length objects) × (name_at objects i ≡ name)
  place_of_present name p =
      elim (place_or_none objects name) [
        | inl q ↦ q
        | inr absent ↦ absurd (true≢false (sym p ∙ ap is_some (home_absent name absent)))
      ]

  root_of_first : (j : ℕ) → j < length objects → IsFirst threads objects j → IsRoot before (name_at objects j)
  root_of_first j lt (inl n) = inr (home_at objects j, home_of_place j lt, n)
  root_of_first j lt (inr held) = inl (held.0, (held.1, held.2))

  first_of_root : (j : ℕ) → j < length objects → IsRoot before (name_at objects j) → IsFirst threads objects j
  first_of_root j lt (inl held) = inr (held.0, held.1.0, held.1.1)
  first_of_root j lt (inr region) =
      let same : home_at objects j ≡ region.0 = cc (home_of_place j lt) in
      inl (λ e. region.2 (sym same ∙ e))

  live_of_list : (name : Name) → IsLiveName threads objects name → IsLive before name
  live_of_list name h =
      reach_keeps _ _ (IsLive before)
      (λ n root. (n, subst (IsRoot before) root.3 (root_of_first root.0 root.1 root.2), here))
      (λ a b live edge.
      let present : IsPresent before a = subst (IsPresent before) edge.2 (ap is_some (home_of_place edge.0 edge.1)) in
      let fields : (fields_or_none (content_at before.graph a)) ≡ fields_or_none (Some (get_or objects edge.0 nobody).content) = ap fields_or_none (ap (content_at before.graph) (sym edge.2) ∙ content_of_place edge.0 edge.1) in
      (live.0, live.1, onward live.2 (present, subst (λ l. Contains l (datum.Object b)) (sym fields) edge.3))) name h

  list_of_live : (name : Name) → IsLive before name → (i : ℕ) → i < length objects → name_at objects i ≡ name → IsLiveName threads objects name
  list_of_live name h =
      reach_keeps _ _ (λ n. (i : ℕ) → i < length objects → name_at objects i ≡ n → IsLiveName threads objects n)
      (λ n root i lt e. (n, (i, lt, first_of_root i lt (subst (IsRoot before) (sym e) root), e), here))
      (λ a b known edge i lt e.
      let place : (j : ℕ) × (j < length objects) × (name_at objects j ≡ a) = place_of_present a edge.0 in
      let live : IsLiveName threads objects a = known place.0 place.1 place.2 in
      let fields : (fields_or_none (content_at before.graph a)) ≡ fields_or_none (Some (get_or objects place.0 nobody).content) = ap fields_or_none (ap (content_at before.graph) (sym place.2) ∙ content_of_place place.0 place.1) in
      (live.0, live.1, onward live.2 (place.0, place.1, place.2, subst (λ l. Contains l (datum.Object b)) fields edge.1))) name h

  module _ (homes : List (Option Space)) (size : length homes ≡ length objects) where
    abbrev after : SpaceState
    after = state_of limits threads (settled objects homes)

    pub home_after : (i : ℕ) → i < length objects → home_of after (name_at objects i) ≡ target_at homes i
    home_after i lt = get-from_entries name_cmp_total _ _ ∙ place_settled (λ (k : Kept). k.home) objects homes distinct size i lt ∙ itself (target_at homes i)
      where
        itself : (o : Option Space) → found (λ (k : Kept). k.home) o (get_or objects i nobody) ≡ o
        itself None = refl
        itself (Some home) = refl

    pub content_after : (i : ℕ) → i < length objects → content_at after.graph (name_at objects i) ≡ cond (is_some (target_at homes i)) (Some (get_or objects i nobody).content) None
    content_after i lt = get-from_entries name_cmp_total _ _ ∙ place_settled (λ (k : Kept). k.content) objects homes distinct size i lt ∙ itself (target_at homes i)
      where
        itself : (o : Option Space) → found (λ (k : Kept). k.content) o (get_or objects i nobody) ≡ cond (is_some o) (Some (get_or objects i nobody).content) None
        itself None = refl
        itself (Some home) = refl

    pub absent_after : (name : Name) → ((i : ℕ) → i < length objects → name_at objects i ≢ name) → home_of after name ≡ None
    absent_after name absent = get-from_entries name_cmp_total _ _ ∙ absent_settled (λ (k : Kept). k.home) objects homes name absent

    pub content_absent_after : (name : Name) → ((i : ℕ) → i < length objects → name_at objects i ≢ name) → content_at after.graph name ≡ None
    content_absent_after name absent = get-from_entries name_cmp_total _ _ ∙ absent_settled (λ (k : Kept). k.content) objects homes name absent

    pub contents_kept : (name : Name) → content_at after.graph name ≡ cond (is_some (home_of after name)) (content_at before.graph name) None
    contents_kept name =
        elim (place_or_none objects name) [
          | inl p ↦ subst (λ n. content_at after.graph n ≡ cond (is_some (home_of after n)) (content_at before.graph n) None) p.2
              (content_after p.0 p.1 ∙ sym (ap (λ o. cond (is_some o) (content_at before.graph (name_at objects p.0)) None) (home_after p.0 p.1) ∙ ap (λ c. cond (is_some (target_at homes p.0)) c None) (content_of_place p.0 p.1)))
          | inr absent ↦ content_absent_after name absent ∙ sym (ap (λ o. cond (is_some o) (content_at before.graph name) None) (absent_after name absent))
        ]

  module _ (homes : List (Option Space)) (size : length homes ≡ length objects)
      (kept : (i : ℕ) → i < length objects → IsLiveName threads objects (name_at objects i) → target_at homes i ≡ Some (home_at objects i))
      (dropped : (i : ℕ) → i < length objects → (IsLiveName threads objects (name_at objects i) → ⊥) → target_at homes i ≡ None) where
    live_kept : (name : Name) → IsLive before name → home_of (after homes size) name ≡ home_of before name
    live_kept name live =
        elim (place_or_none objects name) [
          | inl p ↦
              let listed : IsLiveName threads objects (name_at objects p.0) = subst (IsLiveName threads objects) (sym p.2) (list_of_live name live p.0 p.1 p.2) in
              subst (λ n. home_of (after homes size) n ≡ home_of before n) p.2 (home_after homes size p.0 p.1 ∙ kept p.0 p.1 listed ∙ sym (home_of_place p.0 p.1))
          | inr absent ↦ absent_after homes size name absent ∙ sym (home_absent name absent)
        ]

    dead_dropped : (name : Name) → home_of before name ≡ Some Control → (IsLive before name → ⊥) → home_of (after homes size) name ≡ None
    dead_dropped name home dead =
        elim (place_or_none objects name) [
          | inl p ↦ subst (λ n. home_of (after homes size) n ≡ None) p.2
              (home_after homes size p.0 p.1 ∙ dropped p.0 p.1 (λ listed. dead (live_of_list name (subst (IsLiveName threads objects) p.2 listed))))
          | inr absent ↦ absent_after homes size name absent
        ]

    others_kept : (name : Name) → home_of before name ≢ Some Control → home_of (after homes size) name ≡ home_of before name
    others_kept name other =
        elim (place_or_none objects name) [
          | inl p ↦ live_kept name (name, inr (home_at objects p.0, ap (home_of before) (sym p.2) ∙ home_of_place p.0 p.1, λ e. other (ap (home_of before) (sym p.2) ∙ home_of_place p.0 p.1 ∙ ap Some e)), here)
          | inr absent ↦ absent_after homes size name absent ∙ sym (home_absent name absent)
        ]

    pub collects_settled : Collects (state_of limits threads objects) (state_of limits threads (settled objects homes))
    collects_settled = record {
      live = live_kept;
      dropped = dead_dropped;
      outside = others_kept;
      contents = contents_kept homes size;
      rest = refl;
    }

-- marks that begin with the objects that a collection begins with
pub live_of_marks : (threads : List Thread) (objects : List Kept) (first : List Bool) → ((i : ℕ) → i < length objects → IsMarked first i ↔ IsFirst threads objects i) → (name : Name) → IsReached (ListRefers objects) (Roots objects first) name → IsLiveName threads objects name
live_of_marks threads objects first same name h = (h.0, (h.1.0, h.1.1, (same h.1.0 h.1.1).0 h.1.2, h.1.3), h.2)

pub marks_of_live : (threads : List Thread) (objects : List Kept) (first : List Bool) → ((i : ℕ) → i < length objects → IsMarked first i ↔ IsFirst threads objects i) → (name : Name) → IsLiveName threads objects name → IsReached (ListRefers objects) (Roots objects first) name
marks_of_live threads objects first same name h = (h.0, (h.1.0, h.1.1, (same h.1.0 h.1.1).1 h.1.2, h.1.3), h.2)
