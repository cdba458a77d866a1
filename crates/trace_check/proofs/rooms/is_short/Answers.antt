use Rattle.std.proofs.Common.{◌≡◌, ◌+◌, ◌*◌, ℕ, ap, arith}
use Rattle.std.proofs.lemmas.Bool.{ltb-true, lt-ltb}
use Rattle.object_layout.specs.declared.TheConstants.{PAGE_WORDS}
use Rattle.yak_model.specs.Graph.{Limits}
use Rattle.yak_model.specs.Lawful.{open_regions}
use Rattle.yak_model.specs.Spaces.{Escapes, innermost}
use Rattle.heap_core.proofs.RoomsNames.{words-parted}
use Rattle.trace_check.proofs.Turns.{words_unique}
use Rattle.trace_check.proofs.rooms.is_short.Goals as goal

pub returns : goal.returns
returns c =
    let s = c.args.spaces.now in
    let t = c.args.thread in
    let escaped = c.in_ok-escaped.escaped in
    let page : s.graph.limits.page ≡ PAGE_WORDS = ap (λ (l : Limits). l.page) c.requires.limits in
    let whole = ap (λ (p : ℕ). p * c.args.pages) page in
    let regions = ap (λ (p : ℕ). 2 * p * (open_regions s + 1)) page in
    let all = words-parted s in (
      λ b. let lt = ltb-true _ _ b in (escaped, c.in_ok-escaped.ensures.words, omega (arith, lt)),
      λ h.
          let same : h.0 ≡ escaped = words_unique s (Escapes s t (innermost s.graph t)) h.0 escaped h.1 c.in_ok-escaped.ensures.words in
          lt-ltb _ _ (omega (arith, same, h.2)),
    )
