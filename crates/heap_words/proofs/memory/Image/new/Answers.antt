use Rattle.std.proofs.Common.{rules, arith, ◌≡◌, replicate}
use Rattle.heap_words.specs.declared.map.Areas.{Areas}
use Rattle.heap_words.specs.Map.{total_of}
use Rattle.heap_words.proofs.Zero.{contents-zero, sound-zero}
use Rattle.heap_words.proofs.memory.Image.new.Goals as goal

pub returns-clause-sound : goal.returns-clause-sound
returns-clause-sound c =
    let m : Areas = record { pages = c.args.pages; threads = c.args.threads } in
    let e : c.in-Ok.words.items ≡ replicate (total_of m) 0 = search rules in
    rw e (sound-zero m (omega arith, omega arith, omega arith, omega arith))

pub returns-clause-contents : goal.returns-clause-contents
returns-clause-contents c =
    let m : Areas = record { pages = c.args.pages; threads = c.args.threads } in
    let e : c.in-Ok.words.items ≡ replicate (total_of m) 0 = search rules in
    rw e (contents-zero m)
