use Rattle.std.proofs.Common.{◌≡◌, ◌≤◌, ◌<◌, ◌-◌, ℕ, List, [], Option, Some, None, drop, get_or, length, take, refl, sym, ap, subst, ◌∙◌, arith}
use Rattle.std.specs.Option.{MatchOption}
use Rattle.std.proofs.lemmas.List.{take_all}
use Rattle.object_layout.specs.declared.values.Addr.{Addr}
use Rattle.heap_words.specs.declared.map.Areas.{Areas}
use Rattle.heap_words.specs.Contents.{Contents, contents}
use Rattle.epoch_lattice.specs.declared.Space.{Space}
use Rattle.yak_model.specs.Chains.{IsRegionOf}
use Rattle.remember_sets.specs.Filed.{PagesKnown, SetsHold, all_filed, chain, with_sets}
use Rattle.remember_sets.proofs.Folded.{with_sets-step}
use Rattle.escape_closure.proofs.Refiles.{Refiled, Refiling, first-slot, refiled-more}
use Rattle.escape_closure.proofs.refiling.refile_slots.Given as given
use Rattle.escape_closure.proofs.refiling.refile_slots.Goals as goal

pub loop-next-init : goal.loop-next-init
loop-next-init g c =
    let m : Areas = c.args.map in
    let was : Contents = contents m (g.W.Words.words c.args.words.now) in
    let slots : List ℕ = chain m was c.args.region in
    let none : length slots - length slots ≡ 0 = omega arith in
    record {
      filed = rw c.first_slot-next.ensures.words (λ x q. ap (λ n. all_filed m was x (take n slots) (chain m was x)) (sym none));
      rest = rw c.first_slot-next.ensures.words (ap (λ n. drop n slots) (sym none));
      fewer = rw c.first_slot-next.ensures.words (omega arith);
      first = rw c.first_slot-next.ensures.words c.first_slot-next.ensures.first;
      sets = rw c.first_slot-next.ensures.words c.requires.sets;
      others = rw c.first_slot-next.ensures.words refl;
      sound = rw c.first_slot-next.ensures.words c.requires.sound;
      reads = omega (arith, c.first_slot-next.ensures.reads);
      base = c.first_slot-next.ensures.base;
    }

-- the turn of the loop
turn : (m : Areas) (was mid : Contents) (r : Space) (o : Option Addr) (a : Addr) → o ≡ Some a → IsRegionOf m r → SetsHold m mid → mid ≡ with_sets was mid → chain m mid r ≡ drop (length (chain m was r) - length (chain m mid r)) (chain m was r) → length (chain m mid r) ≤ length (chain m was r) → MatchOption o (chain m mid r ≡ []) (λ (b : Addr). (0 < length (chain m mid r)) × (get_or (chain m mid r) 0 0 ≡ b.0)) → Refiling m was mid r a.0
turn m was mid r o a e q sets others rest fewer first =
    let f : (0 < length (chain m mid r)) × (get_or (chain m mid r) 0 0 ≡ a.0) = subst (λ (x : Option Addr). MatchOption x (chain m mid r ≡ []) (λ (b : Addr). (0 < length (chain m mid r)) × (get_or (chain m mid r) 0 0 ≡ b.0))) e first in
    record { region = q; sets = sets; others = others; rest = rest; fewer = fewer; some = f.0; first = f.1 }

pub add_slot-requires-clause-slot : goal.add_slot-requires-clause-slot
add_slot-requires-clause-slot g c =
    let m : Areas = c.args.map in
    let was : Contents = contents m (g.W.Words.words c.args.words.now) in
    let mid : Contents = contents m (g.W.Words.words c.loop-next.words) in
    let inv = c.loop-next.invariant in
    first-slot m was mid c.args.region c.in-Some.slot.0 (turn m was mid c.args.region c.loop-next.next c.in-Some.slot c.in-Some.is c.requires.region inv.sets inv.others inv.rest inv.fewer inv.first) c.requires.slots

pub add_slot-requires-clause-pages : goal.add_slot-requires-clause-pages
add_slot-requires-clause-pages g c = subst (PagesKnown c.args.map) (sym c.loop-next.invariant.others) c.requires.pages

more : (g : given.Over) (c : goal.After-first_slot-next-in-Some g) → (let m = c.args.map in Refiled m (contents m (g.W.Words.words c.args.words.now)) (contents m (g.W.Words.words c.add_slot.new.words)) c.args.region (length (chain m (contents m (g.W.Words.words c.loop-next.words)) c.args.region)))
more g c =
    let m : Areas = c.args.map in
    let was : Contents = contents m (g.W.Words.words c.args.words.now) in
    let mid : Contents = contents m (g.W.Words.words c.loop-next.words) in
    let inv = c.loop-next.invariant in
    refiled-more m was mid (contents m (g.W.Words.words c.add_slot.new.words)) c.args.region c.in-Some.slot.0 (turn m was mid c.args.region c.loop-next.next c.in-Some.slot c.in-Some.is c.requires.region inv.sets inv.others inv.rest inv.fewer inv.first) c.requires.left inv.filed c.add_slot.ensures.filed

pub loop-next-smaller : goal.loop-next-smaller
loop-next-smaller g c =
    let r = more g c in
    rw c.first_slot-next-in-Some.ensures.words (omega (arith, r.fewer))

pub loop-next-preserved : goal.loop-next-preserved
loop-next-preserved g c =
    let m : Areas = c.args.map in
    let was : Contents = contents m (g.W.Words.words c.args.words.now) in
    let mid : Contents = contents m (g.W.Words.words c.loop-next.words) in
    let new : Contents = contents m (g.W.Words.words c.add_slot.new.words) in
    let inv = c.loop-next.invariant in
    let r = more g c in
    record {
      filed = rw c.first_slot-next-in-Some.ensures.words r.filed;
      rest = rw c.first_slot-next-in-Some.ensures.words r.rest;
      fewer = rw c.first_slot-next-in-Some.ensures.words (omega (arith, r.fewer, inv.fewer));
      first = rw c.first_slot-next-in-Some.ensures.words c.first_slot-next-in-Some.ensures.first;
      sets = rw c.first_slot-next-in-Some.ensures.words c.add_slot.ensures.sets;
      others = rw c.first_slot-next-in-Some.ensures.words (with_sets-step was mid new inv.others c.add_slot.ensures.others);
      sound = rw c.first_slot-next-in-Some.ensures.words c.add_slot.ensures.sound;
      reads = rw c.first_slot-next-in-Some.ensures.words (omega (arith, c.first_slot-next-in-Some.ensures.reads, c.add_slot.ensures.reads, inv.reads, r.fewer, inv.fewer));
      base = c.first_slot-next-in-Some.ensures.base ∙ (c.add_slot.ensures.base ∙ inv.base);
    }

-- at the end the chain is empty
empty : (g : given.Over) (c : goal.In_default g) → chain c.args.map (contents c.args.map (g.W.Words.words c.loop-next.words)) c.args.region ≡ []
empty g c = at-none (chain c.args.map (contents c.args.map (g.W.Words.words c.loop-next.words)) c.args.region) c.loop-next.next c.in_default.is c.loop-next.invariant.first
  where
    at-none : (l : List ℕ) (o : Option Addr) → o ≡ None → MatchOption o (l ≡ []) (λ (b : Addr). (0 < length l) × (get_or l 0 0 ≡ b.0)) → l ≡ []
    at-none l o e h = subst (λ (x : Option Addr). MatchOption x (l ≡ []) (λ (b : Addr). (0 < length l) × (get_or l 0 0 ≡ b.0))) e h

pub returns-clause-filed : goal.returns-clause-filed
returns-clause-filed g c x q =
    let m : Areas = c.args.map in
    let was : Contents = contents m (g.W.Words.words c.args.words.now) in
    let slots : List ℕ = chain m was c.args.region in
    let all : length slots - length (chain m (contents m (g.W.Words.words c.loop-next.words)) c.args.region) ≡ length slots = omega (arith, ap (λ (l : List ℕ). length l) (empty g c)) in
    c.loop-next.invariant.filed x q ∙ ap (λ n. all_filed m was x (take n slots) (chain m was x)) all ∙ ap (λ (l : List ℕ). all_filed m was x l (chain m was x)) (take_all (length slots) slots (omega arith))

pub returns-clause-none : goal.returns-clause-none
returns-clause-none g c = empty g c

pub returns-clause-reads : goal.returns-clause-reads
returns-clause-reads g c = omega (arith, c.loop-next.invariant.reads, ap (λ (l : List ℕ). length l) (empty g c))
