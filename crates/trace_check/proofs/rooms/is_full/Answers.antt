use Rattle.std.proofs.Common.{◌≡◌, ◌+◌, ◌*◌, ℕ, ap, arith}
use Rattle.std.proofs.lemmas.Bool.{leb-true, le-leb}
use Rattle.object_layout.specs.declared.TheConstants.{PAGE_WORDS}
use Rattle.yak_model.specs.Graph.{Limits}
use Rattle.yak_model.specs.Lawful.{open_regions}
use Rattle.heap_core.proofs.RoomsNames.{words-parted}
use Rattle.trace_check.proofs.rooms.is_full.Goals as goal

pub returns : goal.returns
returns c =
    let s = c.args.spaces.now in
    let page : s.graph.limits.page ≡ PAGE_WORDS = ap (λ (l : Limits). l.page) c.requires.limits in
    let whole = ap (λ (p : ℕ). p * c.args.pages) page in
    let regions = ap (λ (p : ℕ). p * (open_regions s + 1)) page in
    let all = words-parted s in (
      λ t. let le = leb-true _ _ t in omega (arith, le),
      λ h. le-leb _ _ (omega (arith, h)),
    )
