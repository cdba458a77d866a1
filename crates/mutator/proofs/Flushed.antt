-- Store buffers that are filed behind the closed gate.
use Rattle.std.proofs.Common.{◌≡◌, ℕ, ◌-◌, List, [], length, sym, ap, ◌∙◌, subst, arith, None}
use Rattle.std.proofs.lemmas.List.{get_or-replicate}
use Rattle.epoch_lattice.specs.declared.Space.TheVariants.{Control}
use Rattle.heap_words.specs.declared.map.Areas.{Areas}
use Rattle.heap_words.specs.Map.{HasThread, IsAreas}
use Rattle.heap_words.specs.Contents.{Contents, InLimits, buffer_of, contents}
use Rattle.yak_model.specs.Continued.{Explains, StandsStill}
use Rattle.yak_model.specs.Packed.{PackedAs}
use Rattle.yak_model.specs.State.{object_of}
use Rattle.remember_sets.specs.Filed.{ChainsBecome, SetsHold, all_filed, logged, with_no_logs, with_sets}
use Rattle.escape_closure.proofs.Filing.{filed_recorded, filed_stands}
use Rattle.safepoint_gate.specs.declared.rule.Place.TheVariants.{Inside}
use Rattle.safepoint_gate.specs.declared.rule.View.{View}
use Rattle.safepoint_gate.specs.Steps.{IsClosing, KeepBuffers, MayOpen, at_gate, first_thread, flushed, with_own, written}
use Rattle.mutator.specs.Calls.{FlushesBuffers}
use Rattle.mutator.proofs.Stepped.{closing_explains, stepped_view}

module _ (m : Areas) (was now : Contents) (areas : IsAreas m) (filed : ChainsBecome m was now (λ x slots. all_filed m was x (logged was) slots)) (sets : SetsHold m now) (others : now ≡ with_no_logs m (with_sets was now)) (limits : InLimits m now) where
  -- the words stand for the same state
  pub files_still : StandsStill m was now
  files_still = record {
    stands = λ s h r. filed_stands m was now s h r areas filed sets others limits;
    recorded = λ s h r. filed_recorded m was now s h r areas filed sets others limits;
    packed = λ s h r packed. subst (λ (x : Contents). PackedAs m x.table h.places.pages (object_of s) Control) (sym others) packed;
  }

  -- the buffer of each thread is empty
  pub files_own : (t : ℕ) → HasThread m t → buffer_of now t ≡ []
  files_own t thread =
      let none : List ℕ = [] in
      ap (λ (x : Contents). buffer_of x t) others ∙ get_or-replicate m.threads (t - 1) none [] (omega (arith, thread.0, thread.1))

  -- so none is longer than before
  pub files_keep : KeepBuffers m was now
  files_keep t thread = let e = ap (λ (b : List ℕ). length b) (files_own t thread) in omega (arith, e)

-- the gate may be opened over the words
pub may_stay : (v c d : View) → c ≡ at_gate v c.words c.history → written d [] ≡ written c [] → StandsStill c.map (contents c.map c.words) (contents c.map d.words) → KeepBuffers c.map (contents c.map c.words) (contents c.map d.words)
    → buffer_of (contents c.map d.words) (first_thread v.own) ≡ [] → MayOpen d None
may_stay v c d is same still keep none =
    let map_same : c.map ≡ v.map = ap (λ (x : View). x.map) is in
    subst (λ (x : View). StandsStill x.map (contents x.map x.closing) (contents x.map d.words) × KeepBuffers x.map (contents x.map x.closing) (contents x.map d.words) × (buffer_of (contents x.map d.words) (first_thread x.own) ≡ [])) (sym (stepped_view v c d is same)) (
      subst (λ m. StandsStill m (contents m c.words) (contents m d.words)) map_same still,
      subst (λ m. KeepBuffers m (contents m c.words) (contents m d.words)) map_same keep,
      subst (λ m. buffer_of (contents m d.words) (first_thread v.own) ≡ []) map_same none,
    )

-- the gate was closed, the buffers were filed, and the gate was opened
module _ (v c d w : View) (is : c ≡ at_gate v c.words c.history) (known : IsClosing c) (same : written d [] ≡ written c []) (opened : w ≡ with_own d Inside (flushed d.own)) (explained : Explains d.map (contents d.map d.words) d.history)
    (still : StandsStill c.map (contents c.map c.words) (contents c.map d.words)) (filed : buffer_of (contents c.map d.words) (first_thread v.own) ≡ []) where
  abbrev after : View
  after = with_own (written (at_gate v c.words c.history) d.words) Inside (flushed v.own)

  after_is : w ≡ after
  after_is = opened ∙ ap (λ (x : View). with_own x Inside (flushed x.own)) (stepped_view v c d is same)

  map_same : c.map ≡ v.map
  map_same = ap (λ (x : View). x.map) is

  pub flushes : FlushesBuffers v w
  flushes =
      let before : Explains v.map (contents v.map c.words) c.history = subst (λ m. Explains m (contents m c.words) c.history) map_same (closing_explains v c is known) in
      let now : Explains v.map (contents v.map d.words) c.history = subst (λ (x : View). Explains x.map (contents x.map d.words) x.history) (stepped_view v c d is same) explained in
      let stays : StandsStill v.map (contents v.map c.words) (contents v.map d.words) = subst (λ m. StandsStill m (contents m c.words) (contents m d.words)) map_same still in
      let none : buffer_of (contents v.map d.words) (first_thread v.own) ≡ [] = subst (λ m. buffer_of (contents m d.words) (first_thread v.own) ≡ []) map_same filed in
      record {
        map_is = ap (λ (x : View). x.map) after_is;
        place_is = ap (λ (x : View). x.place) after_is;
        own = ap (λ (x : View). x.own) after_is;
        still = subst (λ (x : View). StandsStill x.map (contents x.map x.closing) (contents x.map x.words)) (sym after_is) stays;
        filed = subst (λ (x : View). buffer_of (contents x.map x.words) (first_thread v.own) ≡ []) (sym after_is) none;
        closing = subst (λ (x : View). Explains x.map (contents x.map x.closing) x.history) (sym after_is) before;
        explains = subst (λ (x : View). Explains x.map (contents x.map x.words) x.history) (sym after_is) now;
      }
