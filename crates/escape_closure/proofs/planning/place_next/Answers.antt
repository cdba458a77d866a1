use Rattle.std.proofs.Common.{◌≡◌, ℕ, List, sym, ap, ◌∙◌, subst, get_or}
use Rattle.heap_words.specs.Contents.{contents}
use Rattle.region_pages.specs.Placement.{IsPlaced}
use Rattle.relocation.specs.Moves.{move_at}
use Rattle.escape_closure.proofs.Follows.{placed_scratch}
use Rattle.escape_closure.proofs.planning.place_next.Goals as goal

pub returns-clause-placed : goal.returns-clause-placed
returns-clause-placed g c =
    let m = c.args.map in
    let old = contents m (g.W.Words.words c.args.words.now) in
    let mid = contents m (g.W.Words.words c.place.new.words) in
    let space = c.in-Some.space in
    let some = c.in-Some-owner_of.ensures.some in
    let placed = c.in-Ok.ensures.placed in
    let scratch : mid.scratch ≡ old.scratch = placed_scratch m old mid c.in-Some-owner_of.owner c.args.entry.size c.in-Ok.new.0 space placed.0 in (
      c.add_move.ensures.count,
      record {
        space = space;
        number = sym c.in-Some.ensures.space;
        exists = some.0;
        new = c.in-Ok.new.0;
        between = mid;
        placed = subst (λ o. IsPlaced m old o space c.args.entry.size c.in-Ok.new.0 mid) some.3 placed.0;
        within = placed.1;
        move = c.add_move.ensures.added;
        former = λ j lt. c.add_move.ensures.former j lt ∙ ap (λ (s : List ℕ). move_at s j) scratch;
        behind = λ i past. c.add_move.ensures.others i past ∙ ap (λ (s : List ℕ). get_or s i 0) scratch;
        marked = c.add_move.ensures.marked;
      },
    )
