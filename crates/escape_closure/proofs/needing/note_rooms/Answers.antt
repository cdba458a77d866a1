use Rattle.std.proofs.Common.{◌≡◌, ◌+◌, ℕ, List, arith, refl, sym, ap, ◌∙◌, subst, get_or, set}
use Rattle.heap_words.specs.Map.{heap_length}
use Rattle.heap_words.specs.Contents.{Contents, contents, with_scratch}
use Rattle.heap_words.proofs.Contents.{length-scratch}
use Rattle.yak_model.specs.Stands.{CurrentsStand}
use Rattle.escape_closure.specs.Placing.{rooms_at}
use Rattle.escape_closure.proofs.Placing.{only_first, only_more, rooms_still}
use Rattle.std.proofs.lemmas.Bool.{cases_eq}
use Rattle.std.proofs.Common.{inl, inr, get_or-set_same, get_or-set_other}
use Rattle.escape_closure.proofs.needing.note_rooms.Goals as goal

pub room_at-room-requires-clause-currents : goal.room_at-room-requires-clause-currents
room_at-room-requires-clause-currents g c =
    let m = c.args.map in
    let old = contents m (g.W.Words.words c.args.words.now) in
    subst (λ (x : Contents). CurrentsStand m x.currents x.table) (sym c.loop-index.invariant.others.frame) c.requires.currents

pub set_scratch-requires-clause-within : goal.set_scratch-requires-clause-within
set_scratch-requires-clause-within g c = omega (arith, c.room_place.ensures)

pub loop-index-init : goal.loop-index-init
loop-index-init g c = record {
  sound = c.requires.sound;
  base = refl;
  reads = omega arith;
  others = only_first c.args.map (contents c.args.map (g.W.Words.words c.args.words.now));
  rooms = λ i lt. absurd (omega (arith, lt));
}

pub loop-index-preserved : goal.loop-index-preserved
loop-index-preserved g c =
    let m = c.args.map in
    let old = contents m (g.W.Words.words c.args.words.now) in
    let mid = contents m (g.W.Words.words c.loop-index.words) in
    let new = contents m (g.W.Words.words c.set_scratch.new.words) in
    let k = c.loop-index.index in
    let v = c.room_at-room.result in
    let made : new ≡ with_scratch mid (heap_length m + k) v = c.set_scratch.ensures.set ∙ ap (λ (x : List ℕ). with_scratch (contents m x) c.room_place.result v) c.room_at-room.ensures.words ∙ ap (λ p. with_scratch mid p v) c.room_place.ensures in
    let long = length-scratch m (g.W.Words.words c.loop-index.words) c.loop-index.invariant.sound.whole in
    record {
      sound = c.set_scratch.ensures.sound;
      base = c.set_scratch.ensures.base ∙ c.room_at-room.ensures.base ∙ c.loop-index.invariant.base;
      reads = omega (arith, c.set_scratch.ensures.reads, c.room_at-room.ensures.reads, c.loop-index.invariant.reads);
      others = only_more m old mid new k v c.loop-index.invariant.others made;
      rooms = λ i lt. elim (cases_eq i k) [
        | inl e ↦
            ap (λ (x : Contents). get_or x.scratch (heap_length m + i) 0) made ∙ ap (λ j. get_or (set mid.scratch (heap_length m + k) v) (heap_length m + j) 0) e ∙ get_or-set_same mid.scratch (heap_length m + k) v 0 (omega (arith, long))
            ∙ c.room_at-room.ensures.room ∙ rooms_still m old mid c.args.thread k c.loop-index.invariant.others ∙ ap (rooms_at m old c.args.thread) (sym e)
        | inr ne ↦
            ap (λ (x : Contents). get_or x.scratch (heap_length m + i) 0) made ∙ get_or-set_other mid.scratch (heap_length m + k) (heap_length m + i) v 0 (omega (arith, ne)) ∙ c.loop-index.invariant.rooms i (omega (arith, lt, ne))
      ];
    }

pub returns-clause-rooms : goal.returns-clause-rooms
returns-clause-rooms g c i le = c.loop-index.invariant.rooms i (omega (arith, le))
