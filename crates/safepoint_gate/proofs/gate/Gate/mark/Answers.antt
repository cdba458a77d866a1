use Rattle.std.proofs.Common.{rules, ◌∙◌, ◌≡◌, ◌<◌, ◌-◌, ◌*◌, ◌%◌, ◌^◌, ap, sym, subst, ℕ, arith}
use Rattle.heap_words.specs.declared.map.Areas.{Areas}
use Rattle.heap_words.specs.Map.{HasThread, IsAreas, readers_at, total_of}
use Rattle.std.proofs.lemmas.Nat.{pow_below}
use Rattle.safepoint_gate.specs.Singles.{actor}
use Rattle.safepoint_gate.proofs.Plays.{sets_reader_keeps}
use Rattle.safepoint_gate.proofs.Ranges.{actor_thread, readers_within}
use Rattle.safepoint_gate.proofs.gate.Gate.mark.Goals as goal

pub fetch_or-requires : goal.fetch_or-requires
fetch_or-requires c =
    let gate = c.args.self.now in
    let v = c.args.seat.now.me.0 in
    let map : v.map ≡ gate.table.shared.key = c.requires.gate.1 ∙ sym gate.keyed in
    let words : total_of v.map ≡ gate.table.shared.table_id.words = ap (λ (m : Areas). total_of m) c.requires.gate.1 ∙ sym gate.wide in
    let t : ℕ = c.args.thread in
    let region = c.requires.region.0 in
    let areas : IsAreas v.map = subst (λ (m : Areas). IsAreas m) (sym c.requires.gate.1) gate.areas in
    let place : c.readers-at.result ≡ readers_at v.map c.args.owner c.args.depth = c.readers-at.ensures ∙ ap (λ (m : Areas). readers_at m c.args.owner c.args.depth) (sym c.requires.gate.1) in
    let within : readers_at v.map c.args.owner c.args.depth < total_of v.map = readers_within v.map c.args.owner c.args.depth region in
    let by : t ≡ (actor v).thread = sym c.requires.thread ∙ actor_thread v.own v.lasting in
    let has : HasThread v.map t = subst (HasThread v.map) c.requires.thread c.requires.threaded in
    let small : 2 ^ (t - 1) < 2 ^ 64 = pow_below (t - 1) 64 (omega (arith, has.0, has.1, areas.3)) in
    let bits : (1 * 2 ^ (t - 1)) % 18446744073709551616 ≡ 2 ^ ((actor v).thread - 1) = omega (arith, small) ∙ ap (λ x. 2 ^ (x - 1)) by in
    (search rules, omega (arith, place, within, words), sets_reader_keeps gate.table.shared.key _ _ _ _ c.args.owner c.args.depth v _ map c.requires.inside c.requires.single place bits c.requires.region)
