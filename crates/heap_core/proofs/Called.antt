-- A step as a call of a caller, over the words before it and after it.
use Rattle.std.proofs.Common.{◌≡◌, ◌≢◌, ℕ, ◌+◌, ◌≤◌, ◌<◌, List, length, min, ◌-◌, ◌^◌, refl, sym, subst, Option, Some, MatchOption, arith}
use Rattle.std.proofs.Math.Logic.{⊎_elim, ∥∥₁_elim, ∥∥₁_map}
use Rattle.std.proofs.lemmas.Bool.{cases_lt}
use Rattle.std.proofs.Props.{props}
use Rattle.object_layout.specs.declared.calls.Call.{Call}
use Rattle.object_layout.specs.declared.calls.Call.TheVariants as call
use Rattle.object_layout.specs.declared.replies.Census.{Census}
use Rattle.object_layout.specs.declared.replies.Reply.TheVariants as reply
use Rattle.heap_words.specs.declared.map.Areas.{Areas}
use Rattle.heap_words.specs.Map.{HasThread, IsAreas, total_of}
use Rattle.heap_words.specs.Contents.{Contents, contents, depth_of}
use Rattle.epoch_lattice.specs.declared.Space.TheVariants.{Control}
use Rattle.yak_model.specs.declared.history.Entry.{Entry}
use Rattle.yak_model.specs.Packed.{IsPacked}
use Rattle.yak_model.specs.Recorded.{Recorded}
use Rattle.yak_model.specs.Spaces.{SpaceState, TurnsAll}
use Rattle.yak_model.specs.Standing.{Counted, MovesKnown, counted_on, words_made}
use Rattle.yak_model.specs.Stands.{Stands}
use Rattle.region_pages.proofs.Shapes.{shape}
use Rattle.heap_core.specs.declared.owned.Stepped.{Stepped}
use Rattle.heap_core.specs.Callers.{FillsPages, KnowsAlone, MakesStep, TellsKnown, TellsThread, standing_told, thread_told, words_asked, words_used}
use Rattle.heap_core.specs.Collecting.{CountsFull}
use Rattle.heap_core.specs.Done.{CollectsWhere, Done, EndsSo, FillsHeap, StepRecords, StepRoom, TellsFull, TellsPages, TellsShortage}
use Rattle.yak_model.specs.Continued.{AreLawful, PackedIfAsked, PacksControl}
use Rattle.yak_model.specs.Recorded.{SomeRecorded}
use Rattle.standing_calls.specs.Turned.{IsIdle}
use Rattle.heap_core.specs.Steps.{entries}
use Rattle.heap_core.proofs.Calling.{moves-known}
use Rattle.heap_core.proofs.Filling.{Steps, counted-full, fills-pages, holds-after, tells-after, tells_known-after, used-after, used-within, words-kept}
use Rattle.heap_core.proofs.Sound.{sound-from}

long-table : (m : Areas) (ws : List ℕ) → IsAreas m → length ws ≡ total_of m → SomeRecorded m (contents m ws) → length (contents m ws).table ≡ m.pages
long-table m ws areas whole some = (shape m ws (sound-from m ws areas whole (∥∥₁_map some (λ q. (q.0, q.1))))).table

-- the words in use are no more than those counted before, as one number that stands at its last value
pub begun-holds : (m : Areas) (ws : List ℕ) (present made begun : ℕ) → IsAreas m → length ws ≡ total_of m → SomeRecorded m (contents m ws) → words_used (contents m ws).table ≤ present + made → begun ≡ counted_on present made → words_used (contents m ws).table ≤ begun
begun-holds m ws present made begun areas whole some holds count =
    let within = ∥∥₁_elim some (hlevel props) (λ q. used-within m (contents m ws) q.0 q.1 (long-table m ws areas whole some)) in
    ⊎_elim
    (λ (lt : present + made < 2 ^ 64). omega (arith, holds, count, lt))
    (λ (le : 2 ^ 64 ≤ present + made). omega (arith, within, areas.1, count, le))
    (cases_lt (present + made) (2 ^ 64))

-- what a step says of the words before it and after it
pub record Called (m : Areas) (before later : List ℕ) (t : ℕ) (asked : Call) (stepped : Stepped) : Type 0 where
  pub areas : IsAreas m
  pub thread : HasThread m t
  pub steps : Steps m (contents m before) (contents m later) t asked stepped
  pub some : SomeRecorded m (contents m before)
  pub some_now : SomeRecorded m (contents m later)
  pub long : length (contents m before).table ≡ m.pages
  pub longer : length (contents m later).table ≡ m.pages
  pub fills : (s : SpaceState) (h : Stands m (contents m later) s) → FillsHeap m (contents m later) s h t asked stepped.reply
  pub tells : TellsFull (contents m later) stepped.reply stepped.full

pub called : (m m' : Areas) → m' ≡ m → (before later : List ℕ) (t : ℕ) (asked : Call) (stepped : Stepped) → IsAreas m → HasThread m t → length before ≡ total_of m → length later ≡ total_of m'
    → SomeRecorded m (contents m before) → SomeRecorded m' (contents m' later)
    → ((s : SpaceState) (h : Stands m (contents m before) s) → (after : SpaceState) × TurnsAll s (entries t asked stepped) after × (stands : Stands m' (contents m' later) after) × (Recorded m (contents m before) s h → Recorded m' (contents m' later) after stands))
    → ((s : SpaceState) (h : Stands m' (contents m' later) s) → FillsHeap m' (contents m' later) s h t asked stepped.reply)
    → TellsFull (contents m' later) stepped.reply stepped.full → Called m before later t asked stepped
called m m' e before later t asked stepped areas thread whole whole' some some' turns fills tells =
    let whole_now : length later ≡ total_of m = subst (λ (x : Areas). length later ≡ total_of x) e whole' in
    let some_now : SomeRecorded m (contents m later) = subst (λ (x : Areas). SomeRecorded x (contents x later)) e some' in
    record {
      areas = areas;
      thread = thread;
      steps = subst (λ (x : Areas). (s : SpaceState) (h : Stands m (contents m before) s) → (after : SpaceState) × TurnsAll s (entries t asked stepped) after × (stands : Stands x (contents x later) after) × (Recorded m (contents m before) s h → Recorded x (contents x later) after stands)) e turns;
      some = some;
      some_now = some_now;
      long = long-table m before areas whole some;
      longer = long-table m later areas whole_now some_now;
      fills = subst (λ (x : Areas). (s : SpaceState) (h : Stands x (contents x later) s) → FillsHeap x (contents x later) s h t asked stepped.reply) e fills;
      tells = subst (λ (x : Areas). TellsFull (contents x later) stepped.reply stepped.full) e tells;
    }

module _ (m : Areas) (before later : List ℕ) (t : ℕ) (asked : Call) (stepped : Stepped) (k : Called m before later t asked stepped) where
  pub call-tells : (u : ℕ) (own : _) → TellsThread m (contents m before) t u own → TellsThread m (contents m later) t u own
  call-tells = tells-after m (contents m before) (contents m later) t asked stepped k.steps k.thread k.some

  pub call-tells_known : (u : ℕ) (known : _) → TellsKnown m (contents m before) t u known → TellsKnown m (contents m later) t u known
  call-tells_known = tells_known-after m (contents m before) (contents m later) t asked stepped k.steps k.thread

  pub call-knows : (made refusals : ℕ) (last : Option (Census × ℕ × ℕ)) (known : _) → KnowsAlone m (contents m before) t known → MovesKnown (standing_told (contents m before) t made refusals last) known asked stepped.reply (thread_told (contents m later) t) (KnowsAlone m (contents m later) t)
  call-knows made refusals last known knows =
      let turn = k.steps knows.state knows.stands in
      moves-known m (contents m before) knows.state knows.stands (contents m later) t known knows.made knows.private knows.fits asked stepped turn.0 turn.1 turn.2 made refusals last

  pub call-holds : (present made made' more : ℕ) → words_used (contents m before).table ≤ present + made → more ≡ words_made asked stepped.reply → made' ≡ counted_on made more → words_used (contents m later).table ≤ present + made'
  call-holds present made made' more holds same count =
      let grows = used-after m (contents m before) (contents m later) t asked stepped k.steps k.thread k.some k.long k.longer in
      let within = ∥∥₁_elim k.some_now (hlevel props) (λ q. used-within m (contents m later) q.0 q.1 k.longer) in
      let after = holds-after m (words_used (contents m before).table) (words_used (contents m later).table) present made more k.areas holds (omega (arith, grows, same)) within in
      omega (arith, after, count)

  -- where the counts of the pages are told, the heap was full
  is-full : (census : Census) → stepped.full ≡ Some census → (stepped.reply ≡ reply.OutOfHeap) × CountsFull (contents m later) census
  is-full census e = subst (λ o. MatchOption o (stepped.reply ≢ reply.OutOfHeap) (λ counts. (stepped.reply ≡ reply.OutOfHeap) × CountsFull (contents m later) counts)) e k.tells

  pub call-none-free : (census : Census) → stepped.full ≡ Some census → census.free ≡ 0
  call-none-free census e = (is-full census e).1.none_free

  pub call-words : (census : Census) → stepped.full ≡ Some census → (words : ℕ) → words ≡ min (words_asked asked) (2 ^ 16 - 1) → words ≡ words_asked asked
  call-words census e = words-kept m (contents m before) (contents m later) t asked stepped k.steps k.thread k.some k.some_now k.fills (is-full census e).0

  pub call-fills : (census : Census) → stepped.full ≡ Some census → (words : ℕ) → words_used (contents m later).table ≤ words → FillsPages m words (depth_of (contents m later) t)
  call-fills census e = fills-pages m (contents m before) (contents m later) t asked stepped k.steps k.thread k.some k.some_now k.fills (is-full census e).0 k.areas k.longer

  pub call-counted : (made made' refusals refusals' depth words : ℕ) (last : Option (Census × ℕ × ℕ)) (census : Census) → stepped.full ≡ Some census → made' ≡ counted_on made (words_made asked stepped.reply) → refusals' ≡ counted_on refusals 1 → depth ≡ depth_of (contents m later) t → words ≡ min (words_asked asked) (2 ^ 16 - 1)
      → Counted (standing_told (contents m before) t made refusals last) asked stepped.reply (standing_told (contents m later) t made' refusals' (Some (census, depth, words)))
  call-counted made made' refusals refusals' depth words last census e =
      counted-full m (contents m before) (contents m later) t asked stepped k.steps k.thread k.some k.some_now k.fills (is-full census e).0 made made' refusals refusals' depth words last census (is-full census e).1

  -- the same over other names of the words after the call
  pub call-knows-as : (m' : Areas) (now : List ℕ) → m' ≡ m → now ≡ later → (made refusals : ℕ) (last : Option (Census × ℕ × ℕ)) (known : _) → KnowsAlone m (contents m before) t known → MovesKnown (standing_told (contents m before) t made refusals last) known asked stepped.reply (thread_told (contents m' now) t) (KnowsAlone m' (contents m' now) t)
  call-knows-as m' now same words made refusals last known knows =
      subst (λ (x : Areas). MovesKnown (standing_told (contents m before) t made refusals last) known asked stepped.reply (thread_told (contents x now) t) (KnowsAlone x (contents x now) t)) (sym same)
      (subst (λ (ws : List ℕ). MovesKnown (standing_told (contents m before) t made refusals last) known asked stepped.reply (thread_told (contents m ws) t) (KnowsAlone m (contents m ws) t)) (sym words)
      (call-knows made refusals last known knows))

  -- the call as a step
  pub call-step-as : (m' : Areas) (now : List ℕ) → m' ≡ m → now ≡ later → Done m (contents m before) (contents m later) t asked stepped
      → (kept kept_now : Option (Census × ℕ × ℕ)) → MatchOption stepped.full (kept_now ≡ kept) (λ census. kept_now ≡ Some (census, depth_of (contents m later) t, words_asked asked)) → MakesStep m (contents m before) (contents m' now) t asked stepped.reply kept kept_now
  call-step-as m' now same words done kept kept_now keeps =
      subst (λ (x : Areas). MakesStep m (contents m before) (contents x now) t asked stepped.reply kept kept_now) (sym same)
      (subst (λ (ws : List ℕ). MakesStep m (contents m before) (contents m ws) t asked stepped.reply kept kept_now) (sym words)
      (record { stepped = stepped; reply = refl; turns = k.steps; done = done; keeps = keeps }))

-- ---- all that a step does

packs : (m : Areas) (now : Contents) (s : SpaceState) (h : Stands m now s) (asked : Call) → (asked ≡ call.Collect → IsPacked m now s h Control) → PacksControl m now s h asked
packs m now s h (call.Int i) packed = tt
packs m now s h call.Null packed = tt
packs m now s h (call.Dup i) packed = tt
packs m now s h call.Pop packed = tt
packs m now s h (call.New k) packed = tt
packs m now s h (call.Load i f) packed = tt
packs m now s h (call.Store i f x) packed = tt
packs m now s h (call.Get i) packed = tt
packs m now s h (call.Same i x) packed = tt
packs m now s h call.Begin packed = tt
packs m now s h call.End packed = tt
packs m now s h call.Collect packed = packed refl
packs m now s h call.Census packed = tt

-- what a step tells over the map before it and the map after it
pub record StepTold (m m' : Areas) (before later : List ℕ) (t : ℕ) (asked : Call) (stepped : Stepped) : Type 0 where
  pub turns : (s : SpaceState) (h : Stands m (contents m before) s) → (after : SpaceState) × TurnsAll s (entries t asked stepped) after × (stands : Stands m' (contents m' later) after) × (Recorded m (contents m before) s h → Recorded m' (contents m' later) after stands)
  pub lawful : (s : SpaceState) (h : Stands m (contents m before) s) → Recorded m (contents m before) s h → (earlier : List Entry) → PackedIfAsked m (contents m before) s h earlier → AreLawful m.pages earlier s (entries t asked stepped)
  pub collected : (s : SpaceState) (h : Stands m (contents m before) s) → CollectsWhere m (contents m before) s h t asked stepped.reply stepped.collected
  pub full : TellsFull (contents m' later) stepped.reply stepped.full
  pub filled : (s : SpaceState) (h : Stands m' (contents m' later) s) → FillsHeap m' (contents m' later) s h t asked stepped.reply
  pub shortage : (s : SpaceState) (h : Stands m (contents m before) s) → TellsShortage m (contents m before) s h t stepped.reply stepped.shortage
  pub ended : EndsSo m (contents m before) (contents m' later) t asked stepped
  pub census : TellsPages (contents m before) asked stepped.reply
  pub packed : asked ≡ call.Collect → (s : SpaceState) (h : Stands m' (contents m' later) s) → IsPacked m' (contents m' later) s h Control
  pub records : (s : SpaceState) (h : Stands m (contents m before) s) → StepRecords m (contents m before) (contents m' later) s h t asked stepped.reply stepped.collected
  pub room : StepRoom m (contents m before) (contents m' later) t asked stepped.reply stepped.collected
  pub idle : IsIdle asked stepped.reply → contents m' later ≡ contents m before

done-told : (m : Areas) (before later : List ℕ) (t : ℕ) (asked : Call) (stepped : Stepped) → StepTold m m before later t asked stepped → Done m (contents m before) (contents m later) t asked stepped
done-told m before later t asked stepped k = record {
  turns = λ s h r. k.turns s h;
  lawful = k.lawful;
  collected = λ s h r. k.collected s h;
  full = k.full;
  filled = k.filled;
  shortage = λ s h r. k.shortage s h;
  ended = k.ended;
  counts = k.census;
  packed = λ s h. packs m (contents m later) s h asked (λ e. k.packed e s h);
  records = λ s h r. k.records s h;
  room = k.room;
  idle = k.idle;
}

pub step-done : (m m' : Areas) → m' ≡ m → (before later : List ℕ) (t : ℕ) (asked : Call) (stepped : Stepped) → StepTold m m' before later t asked stepped → Done m (contents m before) (contents m later) t asked stepped
step-done m m' e before later t asked stepped k = done-told m before later t asked stepped (subst (λ (x : Areas). StepTold m x before later t asked stepped) e k)
