-- The chains and the store buffers of words that stand, and words with other ones in their place.
use Rattle.std.proofs.Common.{◌≡◌, ℕ, ◌+◌, ◌-◌, ◌*◌, ◌≤◌, ◌<◌, List, [], ◌∷◌, length, get_or, replicate, zero, suc, sym, ap, subst, arith, inr}
use Rattle.std.proofs.Props.{props}
use Rattle.std.proofs.Math.Logic.{∥∥₁_elim, ⊎_elim}
use Rattle.std.proofs.lemmas.List.{get_or_default}
use Rattle.std.proofs.lemmas.List.Elements.{Contains-append_left, Contains-append_right}
use Rattle.std.specs.List.{All, Contains, flat_map}
use Rattle.heap_words.specs.declared.map.Areas.{Areas}
use Rattle.heap_words.specs.declared.TheConstants.{BUFFER_ENTRIES}
use Rattle.heap_words.specs.Map.{IsAreas, max_depth}
use Rattle.heap_words.specs.Contents.{Contents}
use Rattle.epoch_lattice.specs.declared.Space.{Space}
use Rattle.epoch_lattice.specs.declared.Space.TheVariants.{Control, Region}
use Rattle.epoch_lattice.specs.Lattice.{space_index}
use Rattle.yak_model.specs.Spaces.{SpaceState}
use Rattle.yak_model.specs.State.{IsOpen, State, view}
use Rattle.yak_model.specs.Placed.{Places, space_word}
use Rattle.yak_model.specs.Stands.{HeadsClosed, SetsStand, Stands, StandsAs}
use Rattle.yak_model.specs.Recorded.{Recorded, SomeRecorded}
use Rattle.yak_model.specs.Chains.{chain_of}
use Rattle.yak_model.proofs.Stacks.{all-at}
use Rattle.yak_model.proofs.Chains.{linked-prop, region-own}
use Rattle.remember_sets.specs.Filed.{BuffersHold, IsSlot, PagesKnown, SetsHold}
use Rattle.standing_calls.proofs.FieldSlots.{field-slot}

-- ---- entries of buffers

-- the entries of all buffers
abbrev pub entries_of : List (List ℕ) → List ℕ
entries_of bs = flat_map (λ (b : List ℕ). b) bs

-- emptied buffers have no entry
pub no_entry : (n x : ℕ) → Contains (entries_of (replicate n [])) x → ⊥
no_entry zero x h = let lt : h.0 < 0 = h.1 in absurd (omega (arith, lt))
no_entry (suc n) x h = no_entry n x h

-- an entry of one buffer is an entry of all
entry_among : (bs : List (List ℕ)) (k j : ℕ) (d : ℕ) → k < length bs → j < length (get_or bs k []) → Contains (entries_of bs) (get_or (get_or bs k []) j d)
entry_among [] k j d lt lj = absurd (omega (arith, lt))
entry_among (b ∷ bs) zero j d lt lj = Contains-append_left b (entries_of bs) (get_or b j d) (j, lj, get_or_default b j (get_or b j d) d lj)
entry_among (b ∷ bs) (suc k) j d lt lj = Contains-append_right b (entries_of bs) (get_or (get_or bs k []) j d) (entry_among bs k j d (omega (arith, lt)) lj)

-- ---- what words that stand for some state show of the slots

pub sets-told : (m : Areas) (c : Contents) → IsAreas m → SomeRecorded m c → SetsHold m c
sets-told m c areas some = record {
  heads = λ x r. ∥∥₁_elim some (hlevel props) (λ q. q.1.stands.sets.heads x r);
  linked = λ x r. ∥∥₁_elim some (linked-prop c.sets (space_index x) (chain_of m c.firsts c.sets x)) (λ q. q.1.stands.sets.linked x r);
  within = λ x r k d lt. ∥∥₁_elim some (hlevel props) (λ q. q.1.stands.sets.within x r k d lt);
  free = λ a lt none. ∥∥₁_elim some (hlevel props) (λ q. q.1.stands.sets.free a lt none);
  once = λ x r i j d lt in_list. ∥∥₁_elim some (hlevel props) (λ q. q.1.stands.sets.once x r i j d lt in_list);
  apart = λ x y a r t i j. region-own m x y areas r t (∥∥₁_elim some (hlevel props) (λ q. ap space_index (q.1.stands.sets.apart x y a r t i j)));
}

pub buffers-told : (m : Areas) (c : Contents) → SomeRecorded m c → BuffersHold m c
buffers-told m c some k es lk j d lj =
    let here : get_or c.buffers k es ≡ get_or c.buffers k [] = get_or_default c.buffers k es [] lk in
    let lj' : j < length (get_or c.buffers k []) = subst (λ (l : List ℕ). j < length l) here lj in
    let a : ℕ = get_or (get_or c.buffers k []) j d in
    let slot : IsSlot m c a = (
      ∥∥₁_elim some (hlevel props) (λ q. (told m c q.0 q.1 q.2 a (entry_among c.buffers k j d lk lj')).0),
      λ b word. ∥∥₁_elim some (hlevel props) (λ q. (told m c q.0 q.1 q.2 a (entry_among c.buffers k j d lk lj')).1 b word),
    ) in
    subst (λ (l : List ℕ). IsSlot m c (get_or l j d)) (sym here) slot
  where
    told : (m : Areas) (c : Contents) (s : SpaceState) (h : Stands m c s) → Recorded m c s h → (a : ℕ) → Contains (entries_of c.buffers) a → IsSlot m c a
    told m c s h r a i =
        let f = r.fields a (inr i) in
        subst (IsSlot m c) (sym f.5) (field-slot m c (view s).objects h.places (λ _. 0) f.0 f.1 f.2 h.stands.heap (λ n o e. (h.stands.closed.fields n o e).0) f.3 f.4)

pub depths-fit : (m : Areas) (c : Contents) (s : State) (l : Places) → StandsAs m c s l → (t : ℕ) → get_or s.depths (t - 1) 0 ≤ max_depth m
depths-fit m c s l h t = all-at (λ d. d ≤ max_depth m) s.depths (t - 1) 0 (omega arith) (subst (All (λ d. d ≤ max_depth m)) h.depths h.limits.depths)

-- the number of an open space
pub open-number : (m : Areas) (depths : List ℕ) (x : Space) → length depths ≡ m.threads → ((t : ℕ) → get_or depths (t - 1) 0 ≤ max_depth m) → IsOpen depths x → space_index x ≤ max_depth m * m.threads
open-number m depths Control long deep h = omega arith
open-number m depths (Region t d) long deep h = omega (arith, h.0, h.1, h.2, h.3, long, deep t)

pub pages-known : (m : Areas) (c : Contents) (s : State) (l : Places) → StandsAs m c s l → PagesKnown m c
pages-known m c s l h p lt =
    ⊎_elim (λ (z : space_word c.table p ≡ 0). omega (arith, z))
    (λ (x : (x : Space) × (space_word c.table p ≡ space_index x + 1) × IsOpen s.depths x). omega (arith, x.1, open-number m s.depths x.0 h.threads (depths-fit m c s l h) x.2))
    (h.open_spaces p lt)

pub pages-told : (m : Areas) (c : Contents) → SomeRecorded m c → PagesKnown m c
pages-told m c some p lt = ∥∥₁_elim some (hlevel props) (λ q. pages-known m c (view q.0) q.1.places q.1.stands p lt)

-- ---- the words

-- the words with other chains and store buffers
pub stands-with_logs : (m : Areas) (c : Contents) (s : State) (l : Places) (firsts : List (List ℕ)) (sets : List ℕ) (buffers : List (List ℕ)) → StandsAs m c s l → SetsStand m firsts sets → HeadsClosed m firsts s.depths → All (λ (es : List ℕ). length es ≤ BUFFER_ENTRIES) buffers → (let x : Contents = record c { firsts = firsts; sets = sets; buffers = buffers } in StandsAs m x s l)
stands-with_logs m c s l firsts sets buffers h stand closed few = record {
  heap = h.heap;
  open_spaces = h.open_spaces;
  closed = h.closed;
  stacks = h.stacks;
  depths = h.depths;
  made = h.made;
  serials = h.serials;
  threads = h.threads;
  names = h.names;
  limits = record { depths = h.limits.depths; stacks = h.limits.stacks; buffers = few };
  zero = h.zero;
  pool = h.pool;
  currents = h.currents;
  sets = stand;
  heads_closed = closed;
  dense = h.dense;
}
