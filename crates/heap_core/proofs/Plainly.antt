-- Steps that say no more than their reply.
use Rattle.std.proofs.Common.{◌≡◌, ◌≢◌, ℕ, List, true, false, Option, Some, None, refl, sym, subst}
use Rattle.std.specs.Prelude.{MatchOption}
use Rattle.std.proofs.Props.{props}
use Rattle.std.proofs.Math.Logic.{⊎_elim, ∥∥₁_elim}
use Rattle.object_layout.specs.declared.calls.Call.{Call}
use Rattle.object_layout.specs.declared.calls.Call.TheVariants as call
use Rattle.object_layout.specs.declared.replies.Reply.{Reply}
use Rattle.object_layout.specs.declared.replies.Reply.TheVariants as reply
use Rattle.object_layout.specs.declared.replies.Refusal.{Refusal}
use Rattle.heap_words.specs.declared.map.Areas.{Areas}
use Rattle.heap_words.specs.Contents.{Contents}
use Rattle.yak_model.specs.declared.datum.Datum.{Datum}
use Rattle.yak_model.specs.declared.datum.Datum.TheVariants as datum
use Rattle.yak_model.specs.Graph.{Does, Graph, answers, refusal_of, shown}
use Rattle.yak_model.specs.declared.history.Entry.{Entry}
use Rattle.yak_model.specs.declared.history.Entry.TheVariants.{Said}
use Rattle.yak_model.specs.Lawful.{IsReplyLawful}
use Rattle.yak_model.specs.Spaces.{SpaceState, Turns}
use Rattle.yak_model.specs.Stands.{Stands}
use Rattle.heap_core.specs.Done.{CollectsWhere, Done, EndsSo, FillsHeap, StepRecords, StepRoom, TellsPages}
use Rattle.yak_model.specs.Continued.{PacksControl}
use Rattle.standing_calls.specs.Records.{Records}
use Rattle.yak_model.specs.Recorded.{SomeRecorded}
use Rattle.standing_calls.specs.Room.{TakesRoom}
use Rattle.standing_calls.specs.Turned.{Turned}
use Rattle.heap_core.specs.Steps.{plain}

-- the calls that make no collection, no object and no count, and end no epoch
abbrev pub IsPlain : Call → Type 0
IsPlain (call.Int i) = Unit {0}
IsPlain call.Null = Unit {0}
IsPlain (call.Dup s) = Unit {0}
IsPlain call.Pop = Unit {0}
IsPlain (call.New k) = ⊥
IsPlain (call.Load s f) = Unit {0}
IsPlain (call.Store s f x) = Unit {0}
IsPlain (call.Get s) = Unit {0}
IsPlain (call.Same s x) = Unit {0}
IsPlain call.Begin = Unit {0}
IsPlain call.End = ⊥
IsPlain call.Collect = ⊥
IsPlain call.Census = ⊥

-- replies that tell nothing of the room in the heap
abbrev pub IsQuiet : Reply → Type 0
IsQuiet reply.OutOfHeap = ⊥
IsQuiet (reply.Ended moved tight) = ⊥
IsQuiet (reply.Pages free region control) = ⊥
IsQuiet said = Unit {0}

quiet-shown : (g : Graph) (v : Datum) → IsQuiet (shown g v)
quiet-shown g datum.Null = tt
quiet-shown g (datum.Int i) = tt
quiet-shown g (datum.Object n) = tt

is_quiet : (said other : Reply) → said ≡ other → IsQuiet other → IsQuiet said
is_quiet said other e h = subst IsQuiet (sym e) h

-- a plain call that isn't refused is answered quietly
quiet-done : (g after : Graph) (t : ℕ) (asked : Call) (said : Reply) → IsPlain asked → Does g t asked said after → IsQuiet said
quiet-done g after t (call.Int i) said p h = is_quiet said reply.Ok h.0 tt
quiet-done g after t call.Null said p h = is_quiet said reply.Ok h.0 tt
quiet-done g after t (call.Dup s) said p h = is_quiet said reply.Ok h.0 tt
quiet-done g after t call.Pop said p h = is_quiet said reply.Ok h.0 tt
quiet-done g after t (call.New k) said p h = absurd p
quiet-done g after t (call.Load s f) said p h = is_quiet said reply.Ok h.0 tt
quiet-done g after t (call.Store s f x) said p h = is_quiet said reply.Ok h.0 tt
quiet-done g after t (call.Get s) said p h = is_quiet said _ h.0 (quiet-shown g _)
quiet-done g after t (call.Same s x) said p h = ⊎_elim (λ a. is_quiet said reply.Yes a.0 tt) (λ a. is_quiet said reply.No a.0 tt) h.0
quiet-done g after t call.Begin said p h = is_quiet said reply.Ok h.0 tt
quiet-done g after t call.End said p h = absurd p
quiet-done g after t call.Collect said p h = absurd p
quiet-done g after t call.Census said p h = absurd p

quiet-either : (g after : Graph) (t : ℕ) (asked : Call) (said : Reply) (refusal : Option Refusal) → IsPlain asked → MatchOption refusal (Does g t asked said after) (λ why. (said ≡ reply.Refused why) × (after ≡ g)) → IsQuiet said
quiet-either g after t asked said None p h = quiet-done g after t asked said p h
quiet-either g after t asked said (Some why) p h = is_quiet said (reply.Refused why) h.0 tt

-- a quiet reply may come anywhere in a lawful history
quiet-lawful : (pages : ℕ) (before : List Entry) (s : SpaceState) (t : ℕ) (said : Reply) → IsQuiet said → IsReplyLawful pages before s t said
quiet-lawful pages before s t reply.Ok h = tt
quiet-lawful pages before s t reply.Null h = tt
quiet-lawful pages before s t (reply.Int i) h = tt
quiet-lawful pages before s t (reply.Object n) h = tt
quiet-lawful pages before s t reply.Yes h = tt
quiet-lawful pages before s t reply.No h = tt
quiet-lawful pages before s t (reply.Ended moved tight) h = absurd h
quiet-lawful pages before s t (reply.Pages free region control) h = absurd h
quiet-lawful pages before s t reply.OutOfHeap h = absurd h
quiet-lawful pages before s t (reply.Refused why) h = tt

pub not_full : (said : Reply) → IsQuiet said → said ≢ reply.OutOfHeap
not_full said h e = subst IsQuiet e h

pub not_tight : (said : Reply) → IsQuiet said → (moved : ℕ) → said ≢ reply.Ended moved true
not_tight said h moved e = subst IsQuiet e h

-- what is told of a plain call besides its turn
record Parts (m : Areas) (was now : Contents) (t : ℕ) (asked : Call) (said : Reply) : Type 0 where
  pub collected : (s : SpaceState) (h : Stands m was s) → CollectsWhere m was s h t asked said false
  pub filled : (s : SpaceState) (h : Stands m now s) → said ≢ reply.OutOfHeap → FillsHeap m now s h t asked said
  pub ended : EndsSo m was now t asked (plain said)
  pub counts : TellsPages was asked said
  pub packed : (s : SpaceState) (h : Stands m now s) → PacksControl m now s h asked
  pub records : (s : SpaceState) (h : Stands m was s) → Records m s h.places.at was now t asked said → StepRecords m was now s h t asked said false
  pub room : TakesRoom m was now t asked said → StepRoom m was now t asked said false

parts : (m : Areas) (was now : Contents) (t : ℕ) (asked : Call) (said : Reply) → IsPlain asked → Parts m was now t asked said
parts m was now t (call.Int i) said p = record { collected = λ s h. refl; filled = λ s h q. q; ended = tt; counts = tt; packed = λ s h. tt; records = λ s h r. r; room = λ r. r }
parts m was now t call.Null said p = record { collected = λ s h. refl; filled = λ s h q. q; ended = tt; counts = tt; packed = λ s h. tt; records = λ s h r. r; room = λ r. r }
parts m was now t (call.Dup x) said p = record { collected = λ s h. refl; filled = λ s h q. q; ended = tt; counts = tt; packed = λ s h. tt; records = λ s h r. r; room = λ r. r }
parts m was now t call.Pop said p = record { collected = λ s h. refl; filled = λ s h q. q; ended = tt; counts = tt; packed = λ s h. tt; records = λ s h r. r; room = λ r. r }
parts m was now t (call.New k) said p = absurd p
parts m was now t (call.Load x f) said p = record { collected = λ s h. refl; filled = λ s h q. q; ended = tt; counts = tt; packed = λ s h. tt; records = λ s h r. r; room = λ r. r }
parts m was now t (call.Store x f y) said p = record { collected = λ s h. refl; filled = λ s h q. q; ended = tt; counts = tt; packed = λ s h. tt; records = λ s h r. r; room = λ r. r }
parts m was now t (call.Get x) said p = record { collected = λ s h. refl; filled = λ s h q. q; ended = tt; counts = tt; packed = λ s h. tt; records = λ s h r. r; room = λ r. r }
parts m was now t (call.Same x y) said p = record { collected = λ s h. refl; filled = λ s h q. q; ended = tt; counts = tt; packed = λ s h. tt; records = λ s h r. r; room = λ r. r }
parts m was now t call.Begin said p = record { collected = λ s h. refl; filled = λ s h q. q; ended = tt; counts = tt; packed = λ s h. tt; records = λ s h r. r; room = λ r. r }
parts m was now t call.End said p = absurd p
parts m was now t call.Collect said p = absurd p
parts m was now t call.Census said p = absurd p

-- the reply of a plain call, by the turn that it takes
turn-answers : (s after : SpaceState) (t : ℕ) (asked : Call) (said : Reply) → IsPlain asked → Turns s (Said t asked said) after → answers s.graph t asked said after.graph
turn-answers s after t (call.Int i) said p h = h.1
turn-answers s after t call.Null said p h = h.1
turn-answers s after t (call.Dup x) said p h = h.1
turn-answers s after t call.Pop said p h = h.1
turn-answers s after t (call.New k) said p h = absurd p
turn-answers s after t (call.Load x f) said p h = h.1
turn-answers s after t (call.Store x f y) said p h = h.1
turn-answers s after t (call.Get x) said p h = h.1
turn-answers s after t (call.Same x y) said p h = h.1
turn-answers s after t call.Begin said p h = h.1
turn-answers s after t call.End said p h = absurd p
turn-answers s after t call.Collect said p h = absurd p
turn-answers s after t call.Census said p h = absurd p

quiet-prop : (said : Reply) → IsProp (IsQuiet said)
quiet-prop reply.Ok = hlevel props
quiet-prop reply.Null = hlevel props
quiet-prop (reply.Int i) = hlevel props
quiet-prop (reply.Object n) = hlevel props
quiet-prop reply.Yes = hlevel props
quiet-prop reply.No = hlevel props
quiet-prop (reply.Ended moved tight) = hlevel props
quiet-prop (reply.Pages free region control) = hlevel props
quiet-prop reply.OutOfHeap = hlevel props
quiet-prop (reply.Refused why) = hlevel props

pub some-quiet : (m : Areas) (was now : Contents) (t : ℕ) (asked : Call) (said : Reply) → IsPlain asked → SomeRecorded m was → Turned m was now t asked said → IsQuiet said
some-quiet m was now t asked said p some h = ∥∥₁_elim some (quiet-prop said) (λ q.
    let turned = h.turns q.0 q.1 in
    quiet-either q.0.graph turned.1.0.graph t asked said (refusal_of q.0.graph t asked) p (turn-answers q.0 turned.1.0 t asked said p turned.1.1))

-- all that a plain step does
pub plainly : (m : Areas) (was now : Contents) (t : ℕ) (asked : Call) (said : Reply) → IsPlain asked → IsQuiet said → Turned m was now t asked said → Done m was now t asked (plain said)
plainly m was now t asked said p quiet h =
    let all = parts m was now t asked said p in
    record {
      turns = λ s stands r. h.turns s stands;
      lawful = λ s stands r before packed. (quiet-lawful m.pages before s t said quiet, λ mid turned. tt);
      collected = λ s stands r. all.collected s stands;
      full = not_full said quiet;
      filled = λ s stands. all.filled s stands (not_full said quiet);
      shortage = λ s stands r. not_tight said quiet;
      ended = all.ended;
      counts = all.counts;
      packed = all.packed;
      records = λ s stands r. all.records s stands (h.records s stands);
      room = all.room h.room;
      idle = h.idle;
    }
