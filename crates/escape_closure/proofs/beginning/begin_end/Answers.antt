use Rattle.std.proofs.Math.Logic.{∥∥₁_map}
use Rattle.std.proofs.Common.{length, ◌≡◌, arith, ap}
use Rattle.heap_words.specs.Contents.{Contents, contents, depth_of, stack_of}
use Rattle.standing_calls.proofs.Logs.{buffers-told, pages-told, sets-told}
use Rattle.escape_closure.proofs.Filing.{begun, few_recorded, filed_recorded, filed_stands, none_logged}
use Rattle.escape_closure.proofs.beginning.begin_end.Goals as goal

pub file_logs-requires-clause-sets : goal.file_logs-requires-clause-sets
file_logs-requires-clause-sets g c = sets-told c.args.map (contents c.args.map (g.W.Words.words c.args.words.now)) c.requires.sound.areas c.requires.recorded

pub file_logs-requires-clause-buffers : goal.file_logs-requires-clause-buffers
file_logs-requires-clause-buffers g c = buffers-told c.args.map (contents c.args.map (g.W.Words.words c.args.words.now)) c.requires.recorded

pub file_logs-requires-clause-pages : goal.file_logs-requires-clause-pages
file_logs-requires-clause-pages g c = pages-told c.args.map (contents c.args.map (g.W.Words.words c.args.words.now)) c.requires.recorded

pub targets-requires-clause-depth : goal.targets-requires-clause-depth
targets-requires-clause-depth g c =
    let same = ap (λ (x : Contents). depth_of x c.args.thread) c.file_logs.ensures.others in
    omega (arith, c.requires.depth, same)

pub targets-requires-clause-filed : goal.targets-requires-clause-filed
targets-requires-clause-filed g c = none_logged c.args.map (contents c.args.map (g.W.Words.words c.args.words.now)) (contents c.args.map (g.W.Words.words c.file_logs.new.words)) c.file_logs.ensures.others

pub targets-requires-clause-stands : goal.targets-requires-clause-stands
targets-requires-clause-stands g c =
    let m = c.args.map in
    let old = contents m (g.W.Words.words c.args.words.now) in
    let mid = contents m (g.W.Words.words c.file_logs.new.words) in
    let e = c.file_logs.ensures in
    let areas = c.requires.sound.areas in
    ∥∥₁_map c.requires.recorded (λ q. (q.0, filed_stands m old mid q.0 q.1 q.2 areas e.filed e.sets e.others e.sound.limits, filed_recorded m old mid q.0 q.1 q.2 areas e.filed e.sets e.others e.sound.limits))

pub returns-clause-begun : goal.returns-clause-begun
returns-clause-begun g c s h recorded =
    let m = c.args.map in
    let old = contents m (g.W.Words.words c.args.words.now) in
    let mid = contents m (g.W.Words.words c.file_logs.new.words) in
    let d = contents m (g.W.Words.words c.targets.new.words) in
    let e = c.file_logs.ensures in
    let areas = c.requires.sound.areas in
    begun m old mid s h recorded areas e.filed e.sets e.others e.sound.limits d c.args.thread c.targets.result c.requires.thread c.requires.depth (c.targets.ensures.targets s (filed_stands m old mid s h recorded areas e.filed e.sets e.others e.sound.limits) (filed_recorded m old mid s h recorded areas e.filed e.sets e.others e.sound.limits))

pub returns-clause-reads : goal.returns-clause-reads
returns-clause-reads g c s h recorded =
    let m = c.args.map in
    let t = c.args.thread in
    let old = contents m (g.W.Words.words c.args.words.now) in
    let mid = contents m (g.W.Words.words c.file_logs.new.words) in
    let e = c.file_logs.ensures in
    let areas = c.requires.sound.areas in
    let few = few_recorded m old mid s h recorded areas e.filed e.sets e.others e.sound.limits t c.requires.thread c.requires.depth in
    let reads = c.targets.ensures.reads s (filed_stands m old mid s h recorded areas e.filed e.sets e.others e.sound.limits) (filed_recorded m old mid s h recorded areas e.filed e.sets e.others e.sound.limits) in
    let stack : length (stack_of mid t) ≡ length (stack_of old t) = ap (λ (x : Contents). length (stack_of x t)) e.others in
    omega (arith, few, reads, stack, e.reads)
