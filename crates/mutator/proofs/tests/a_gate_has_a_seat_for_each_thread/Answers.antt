use Rattle.std.proofs.Common.{◌≡◌, ℕ, ap, sym, subst}
use Rattle.heap_words.specs.declared.map.Areas.{Areas}
use Rattle.heap_words.specs.declared.memory.Image.{Image}
use Rattle.heap_words.specs.Contents.{contents}
use Rattle.yak_model.specs.Graph.{standard_limits}
use Rattle.yak_model.specs.Spaces.{opening_spaces}
use Rattle.yak_model.specs.Recorded.{StandsRecorded}
use Rattle.mutator.proofs.tests.a_gate_has_a_seat_for_each_thread.Goals as goal

-- the words of a new heap stand for the opening state
opens : (m : Areas) (image words : Image) (threads : ℕ) → image ≡ words → m ≡ words.map → m.threads ≡ threads → StandsRecorded m (contents m words.words.items) (opening_spaces standard_limits threads) → StandsRecorded image.map (contents image.map image.words.items) (opening_spaces standard_limits image.map.threads)
opens m image words threads same own many opening =
    subst (λ (i : Image). StandsRecorded i.map (contents i.map i.words.items) (opening_spaces standard_limits i.map.threads)) (sym same)
    (subst (λ (x : Areas). StandsRecorded x (contents x words.words.items) (opening_spaces standard_limits x.threads)) own
    (subst (λ (n : ℕ). StandsRecorded m (contents m words.words.items) (opening_spaces standard_limits n)) (sym many) opening))

pub new-requires-2-clause-opening : goal.new-requires-2-clause-opening
new-requires-2-clause-opening g c =
    let core = c.in-Ok.core in
    opens core.map c.into_words.result core.words 2 c.into_words.ensures core.own (ap (λ (m : Areas). m.threads) c.in-Ok.ensures.map) c.in-Ok.ensures.opening
