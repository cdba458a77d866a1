use Rattle.std.proofs.Common.{◌≡◌, ◌≤◌, ◌<◌, ◌+◌, ◌-◌, arith, refl, subst, sym, ap, ◌∙◌, List, ℕ}
use Rattle.std.specs.List.{Contains}
use Rattle.std.proofs.Math.Logic.{⊎_elim}
use Rattle.object_layout.specs.declared.TheConstants.{OBJECT_WORDS}
use Rattle.heap_words.specs.declared.map.Areas.{Areas}
use Rattle.heap_words.specs.Map.{heap_length}
use Rattle.heap_words.specs.Contents.{Contents, contents}
use Rattle.epoch_lattice.specs.declared.Space.{Space}
use Rattle.yak_model.specs.Chains.{IsRegionOf}
use Rattle.yak_model.specs.Plans.{Move}
use Rattle.relocation.specs.Moves.{HasHeader, fields_at, move_at}
use Rattle.remember_sets.specs.Filed.{ChainsBecome, IsFiled, chain, with_sets}
use Rattle.remember_sets.proofs.Folded.{with_sets-step}
use Rattle.forwarding.specs.Slots.{CanFollow, IsOldField, followed, moved_run}
use Rattle.forwarding.proofs.Followed.{IsNewField, WasThere, followed-has, followed-more, followed-none}
use Rattle.forwarding.proofs.following.follow_moves.Goals as goal

pub loop-k-init : goal.loop-k-init
loop-k-init g c =
    let m : Areas = c.args.map in
    let was : Contents = contents m (g.W.Words.words c.args.words.now) in
    record {
      moved = λ x q. sym (followed-none was.heap (move_at was.scratch) (chain m was x));
      sets = c.requires.sets;
      others = refl;
      sound = c.requires.sound;
      base = refl;
    }

-- the object of a move whose turn it is
record Turn (m : Areas) (now : Contents) (old new : ℕ) : Type 0 where
  header : HasHeader now.heap new
  front : new ≤ old
  within : old + OBJECT_WORDS + fields_at now.heap new ≤ heap_length m
  meets : (f : ℕ) → f < fields_at now.heap new → IsFiled m now (new + OBJECT_WORDS + f) → old ≤ new + f

-- where a recorded slot of now stands in a new place, it lies behind the object's old one
meeting : (m : Areas) (was now : Contents) (count k f : ℕ) (moves : ℕ → Move) → CanFollow m was.heap (IsFiled m was) count moves → ChainsBecome m was now (λ _ slots. followed was.heap k moves slots) → k < count → f < fields_at was.heap (moves k).new → IsFiled m now ((moves k).new + OBJECT_WORDS + f) → (moves k).old ≤ (moves k).new + f
meeting m was now count k f moves can moved lt within i =
    let a : ℕ = (moves k).new + OBJECT_WORDS + f in
    let c : Contains (followed was.heap k moves (chain m was i.0)) a = subst (λ (l : List ℕ). Contains l a) (moved i.0 i.1) i.2 in
    ⊎_elim (λ (n : IsNewField was.heap k moves a).
    absurd (omega (arith, can.spread n.move k n.among lt, n.within, n.place)))
    (λ (w : WasThere was.heap k moves (chain m was i.0) a).
    can.meets k f lt within (i.0, i.1, w.was) (λ (o : IsOldField was.heap k moves a). w.not_old o.0 (a - ((moves o.0).old + OBJECT_WORDS)) o.1 (omega (arith, o.2, o.3)) (omega (arith, o.2))))
    (followed-has was.heap k moves (chain m was i.0) a c)

turn : (m : Areas) (was now : Contents) (count k : ℕ) (moves : ℕ → Move) → CanFollow m was.heap (IsFiled m was) count moves → ChainsBecome m was now (λ _ slots. followed was.heap k moves slots) → now.heap ≡ was.heap → k < count → Turn m now (moves k).old (moves k).new
turn m was now count k moves can moved heap lt =
    let fields : fields_at now.heap (moves k).new ≡ fields_at was.heap (moves k).new = ap (λ (l : List ℕ). fields_at l (moves k).new) heap in
    record {
      header = subst (λ (l : List ℕ). HasHeader l (moves k).new) (sym heap) (can.header k lt);
      front = can.front k lt;
      within = omega (arith, can.within k lt, fields);
      meets = λ f within i. meeting m was now count k f moves can moved lt (omega (arith, within, fields)) i;
    }

pub follow_object-requires : goal.follow_object-requires
follow_object-requires g c =
    let m : Areas = c.args.map in
    let was : Contents = contents m (g.W.Words.words c.args.words.now) in
    let now : Contents = contents m (g.W.Words.words c.read_move-v.new.words) in
    let k : ℕ = c.loop-k.k in
    let moves : ℕ → Move = move_at was.scratch in
    let others : now ≡ with_sets was (contents m (g.W.Words.words c.loop-k.words)) = ap (contents m) c.read_move-v.ensures.words ∙ c.loop-k.invariant.others in
    let read = c.read_move-v.ensures.read ∙ ap (λ (x : Contents). move_at x.scratch k) c.loop-k.invariant.others in
    let old : c.read_move-v.result.old ≡ (moves k).old = ap (λ (v : Move). v.old) read in
    let new : c.read_move-v.result.new ≡ (moves k).new = ap (λ (v : Move). v.new) read in
    let moved : ChainsBecome m was now (λ _ slots. followed was.heap k moves slots) = subst (λ (ws : List ℕ). ChainsBecome m was (contents m ws) (λ _ slots. followed was.heap k moves slots)) (sym c.read_move-v.ensures.words) c.loop-k.invariant.moved in
    let t : Turn m now c.read_move-v.result.old c.read_move-v.result.new = subst (λ a. Turn m now a c.read_move-v.result.new) (sym old) (subst (Turn m now (moves k).old) (sym new) (turn m was now c.args.plan.now.count k moves c.requires.can_follow moved (ap (λ (x : Contents). x.heap) others) c.loop-k-test.true)) in
    record {
      sound = rw c.read_move-v.ensures.words c.loop-k.invariant.sound;
      sets = rw c.read_move-v.ensures.words c.loop-k.invariant.sets;
      header = t.header;
      front = t.front;
      within = t.within;
      meets = t.meets;
    }

pub loop-k-preserved : goal.loop-k-preserved
loop-k-preserved g c =
    let m : Areas = c.args.map in
    let was : Contents = contents m (g.W.Words.words c.args.words.now) in
    let mid : Contents = contents m (g.W.Words.words c.loop-k.words) in
    let new : Contents = contents m (g.W.Words.words c.follow_object.new.words) in
    let k : ℕ = c.loop-k.k in
    let moves : ℕ → Move = move_at was.scratch in
    let inv = c.loop-k.invariant in
    let same : contents m (g.W.Words.words c.read_move-v.new.words) ≡ mid = ap (contents m) c.read_move-v.ensures.words in
    let read = c.read_move-v.ensures.read ∙ ap (λ (x : Contents). move_at x.scratch k) inv.others in
    let heap : mid.heap ≡ was.heap = ap (λ (x : Contents). x.heap) inv.others in
    let one : (x : Space) → IsRegionOf m x → chain m new x ≡ moved_run (c.read_move-v.result.old + OBJECT_WORDS) (c.read_move-v.result.new + OBJECT_WORDS) (fields_at mid.heap c.read_move-v.result.new) (chain m mid x) = subst (λ (y : Contents). (x : Space) → IsRegionOf m x → chain m new x ≡ moved_run (c.read_move-v.result.old + OBJECT_WORDS) (c.read_move-v.result.new + OBJECT_WORDS) (fields_at y.heap c.read_move-v.result.new) (chain m y x)) same c.follow_object.ensures.moved in
    let places : (v : Move) → v ≡ moves k → (x : Space) → moved_run (v.old + OBJECT_WORDS) (v.new + OBJECT_WORDS) (fields_at was.heap v.new) (chain m mid x) ≡ moved_run ((moves k).old + OBJECT_WORDS) ((moves k).new + OBJECT_WORDS) (fields_at was.heap (moves k).new) (chain m mid x) = λ v e x. ap (λ (v : Move). moved_run (v.old + OBJECT_WORDS) (v.new + OBJECT_WORDS) (fields_at was.heap v.new) (chain m mid x)) e in
    record {
      moved = λ x q.
          one x q ∙ ap (λ (l : List ℕ). moved_run (c.read_move-v.result.old + OBJECT_WORDS) (c.read_move-v.result.new + OBJECT_WORDS) (fields_at l c.read_move-v.result.new) (chain m mid x)) heap ∙ places _ read x ∙ ap (moved_run ((moves k).old + OBJECT_WORDS) ((moves k).new + OBJECT_WORDS) (fields_at was.heap (moves k).new)) (inv.moved x q) ∙ sym (followed-more was.heap k moves (chain m was x));
      sets = c.follow_object.ensures.sets;
      others = with_sets-step was mid new inv.others (subst (λ (y : Contents). new ≡ with_sets y new) same c.follow_object.ensures.others);
      sound = c.follow_object.ensures.sound;
      base = c.follow_object.ensures.base ∙ (c.read_move-v.ensures.base ∙ inv.base);
    }

pub returns-clause-moved : goal.returns-clause-moved
returns-clause-moved g c x q =
    let m : Areas = c.args.map in
    let was : Contents = contents m (g.W.Words.words c.args.words.now) in
    let all : c.loop-k.k ≡ c.args.plan.now.count = omega arith in
    c.loop-k.invariant.moved x q ∙ ap (λ n. followed was.heap n (move_at was.scratch) (chain m was x)) all
