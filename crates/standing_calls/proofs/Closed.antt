-- Closed regions have no recorded slots, also after the buffers are filed.
use Rattle.std.proofs.Common.{◌≡◌, ℕ, ◌+◌, ◌-◌, ◌/◌, ◌≤◌, ◌<◌, true, List, [], ◌∷◌, get_or, sym, subst, ◌∙◌, arith}
use Rattle.std.specs.List.{All, Contains, flat_map}
use Rattle.std.proofs.Math.Logic.{⊎_elim}
use Rattle.std.proofs.lemmas.Bool.{cases_eq}
use Rattle.std.proofs.lemmas.List.Elements.{All-contains, All-head, All-tail, Contains-append_cases, Contains-get_or}
use Rattle.heap_words.specs.declared.map.Areas.{Areas}
use Rattle.heap_words.specs.Map.{HasRegion, heap_length, max_depth, page_words}
use Rattle.heap_words.specs.Contents.{Contents}
use Rattle.epoch_lattice.specs.declared.Space.{Space}
use Rattle.epoch_lattice.specs.declared.Space.TheVariants.{Control, Region}
use Rattle.epoch_lattice.specs.Lattice.{space_index}
use Rattle.yak_model.specs.State.{IsOpen, State}
use Rattle.yak_model.specs.Placed.{Places, space_word}
use Rattle.yak_model.specs.Stands.{HeadsClosed, StandsAs}
use Rattle.yak_model.specs.Chains.{IsRegionOf, head_to, head_word}
use Rattle.yak_model.proofs.Chains.{contains-none}
use Rattle.remember_sets.specs.Filed.{BuffersHold, ChainsBecome, IsSlot, SetsHold, all_filed, chain, enters, logged}
use Rattle.remember_sets.proofs.Entering.{Enter, enters-tells}
use Rattle.remember_sets.proofs.Folded.{all_filed-has}
use Rattle.remember_sets.proofs.Linked.{head-none, head-some}
use Rattle.standing_calls.proofs.Logs.{depths-fit}

-- what holds of each entry of each buffer holds of all entries
pub all-logged : (P : ℕ → Type 0) (bs : List (List ℕ)) (i : ℕ) → All (All P) bs → Contains (flat_map (λ (b : List ℕ). b) bs) i → P i
all-logged P [] i h c = absurd (contains-none i c)
all-logged P (b ∷ bs) i h c =
    ⊎_elim (λ (d : Contains b i). All-contains P b i (All-head (All P) b bs h) d)
    (λ (d : Contains (flat_map (λ (b : List ℕ). b) bs) i). all-logged P bs i (All-tail (All P) b bs h) d)
    (Contains-append_cases b (flat_map (λ (b : List ℕ). b) bs) i c)

-- no reference enters a region that isn't open
open-region : (m : Areas) (depths : List ℕ) (y : Space) (u d : ℕ) → HasRegion m u d → ((t : ℕ) → get_or depths (t - 1) 0 ≤ max_depth m) → IsOpen depths y → space_index y ≡ space_index (Region u d) → d ≤ get_or depths (u - 1) 0
open-region m depths Control u d r deep h e = absurd (omega (arith, e))
open-region m depths (Region t g) u d r deep h e =
    let same : t ≡ u = omega (arith, e, h.0, h.2, h.3, deep t, r.0, r.2, r.3) in
    let level : g ≡ d = omega (arith, e, h.0, h.2, h.3, deep t, r.0, r.2, r.3) in
    subst (λ n. d ≤ get_or depths (n - 1) 0) same (omega (arith, h.3, level))

pub none-enters : (m : Areas) (c : Contents) (s : State) (l : Places) (u d i : ℕ) → StandsAs m c s l → HasRegion m u d → get_or s.depths (u - 1) 0 < d → IsSlot m c i → Enter m c (Region u d) i → ⊥
none-enters m c s l u d i h r closed slot e =
    let lt : e.goal < heap_length m = slot.1 e.goal e.refers in
    let page : e.goal / page_words m < m.pages = omega (arith, lt) in
    ⊎_elim (λ (z : space_word c.table (e.goal / page_words m) ≡ 0). omega (arith, z, e.into))
    (λ (y : (y : Space) × (space_word c.table (e.goal / page_words m) ≡ space_index y + 1) × IsOpen s.depths y). omega (arith, closed, open-region m s.depths y.0 u d r (depths-fit m c s l h) y.2 (omega (arith, y.1, e.into))))
    (h.open_spaces (e.goal / page_words m) page)

-- an empty chain has the head 0
pub head-empty : (m : Areas) (c : Contents) (x : Space) → SetsHold m c → IsRegionOf m x → ((i : ℕ) → Contains (chain m c x) i → ⊥) → head_word c.firsts x ≡ 0
head-empty m c x h r none =
    ⊎_elim (λ (e : head_to (chain m c x) ≡ 0). h.heads x r ∙ e)
    (λ (ne : head_to (chain m c x) ≡ 0 → ⊥). (let p = head-some (chain m c x) ne in absurd (none (get_or (chain m c x) 0 0) (Contains-get_or (chain m c x) 0 0 p.0))))
    (cases_eq (head_to (chain m c x)) 0)

pub chain-closed : (m : Areas) (c : Contents) (s : State) (l : Places) (u d i : ℕ) → StandsAs m c s l → HasRegion m u d → get_or s.depths (u - 1) 0 < d → Contains (chain m c (Region u d)) i → ⊥
chain-closed m c s l u d i h r closed k =
    let none : chain m c (Region u d) ≡ [] = head-none (chain m c (Region u d)) (sym (h.sets.heads (Region u d) r) ∙ h.heads_closed u d r closed) in
    contains-none i (subst (λ (x : List ℕ). Contains x i) none k)

-- after the buffers were filed too
pub filed-closed : (m : Areas) (c d : Contents) (s : State) (l : Places) → StandsAs m c s l → BuffersHold m c → SetsHold m d → ChainsBecome m c d (λ x slots. all_filed m c x (logged c) slots) → HeadsClosed m d.firsts s.depths
filed-closed m c d s l h buffers sets filed u e r closed =
    head-empty m d (Region u e) sets r (λ i k.
    ⊎_elim (λ (p : Contains (logged c) i × (enters m c (Region u e) i ≡ true)). none-enters m c s l u e i h r closed (all-logged (IsSlot m c) c.buffers i buffers p.0) (enters-tells m c (Region u e) i p.1))
    (λ (p : (Contains (logged c) i → ⊥) × Contains (chain m c (Region u e)) i). chain-closed m c s l u e i h r closed p.1)
    ((all_filed-has m c (Region u e) (logged c) (chain m c (Region u e)) i).0 (subst (λ (x : List ℕ). Contains x i) (filed (Region u e) r) k)))
