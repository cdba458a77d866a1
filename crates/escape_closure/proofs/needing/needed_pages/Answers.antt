use Rattle.std.proofs.Math.Logic.{∥∥₁_map}
use Rattle.std.proofs.Common.{◌≡◌, sym, ◌∙◌, length}
use Rattle.heap_words.specs.Contents.{contents}
use Rattle.heap_words.proofs.Contents.{length-scratch}
use Rattle.escape_closure.specs.Placing.{rooms_at}
use Rattle.escape_closure.proofs.Placing.{only_then, roll_still}
use Rattle.escape_closure.proofs.needing.needed_pages.Goals as goal

pub claims_of-requires-clause-some : goal.claims_of-requires-clause-some
claims_of-requires-clause-some g c =
    let m = c.args.map in
    let old = contents m (g.W.Words.words c.args.words.now) in
    let mid = contents m (g.W.Words.words c.note_rooms.new.words) in
    let size : length mid.scratch ≡ length old.scratch = length-scratch m _ c.note_rooms.ensures.sound.whole ∙ sym (length-scratch m _ c.requires.sound.whole) in
    ∥∥₁_map c.requires.some (λ z. (z.0, z.1, roll_still m z.0 old mid c.args.count size c.note_rooms.ensures.others z.2))

pub returns-clause-needed : goal.returns-clause-needed
returns-clause-needed g c q ready r =
    let m = c.args.map in
    let old = contents m (g.W.Words.words c.args.words.now) in
    let mid = contents m (g.W.Words.words c.note_rooms.new.words) in
    let size : length mid.scratch ≡ length old.scratch = length-scratch m _ c.note_rooms.ensures.sound.whole ∙ sym (length-scratch m _ c.requires.sound.whole) in
    c.claims_of.ensures.needed q ready (roll_still m q old mid c.args.count size c.note_rooms.ensures.others r) (rooms_at m old c.args.thread) c.note_rooms.ensures.rooms

pub returns-clause-others : goal.returns-clause-others
returns-clause-others g c = only_then c.args.map _ _ _ c.note_rooms.ensures.others c.claims_of.ensures.others
