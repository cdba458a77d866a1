use Rattle.std.proofs.Math.Logic.{∥∥₁_map, ∥∥₁_elim}
use Rattle.std.proofs.Props.{props}
use Rattle.std.proofs.Common.{◌≡◌, ◌∙◌, arith, ap}
use Rattle.heap_words.specs.declared.map.Areas.{Areas}
use Rattle.heap_words.specs.Map.{HasThread}
use Rattle.heap_words.specs.Contents.{Contents, contents, depth_of}
use Rattle.standing_calls.proofs.Logs.{buffers-told, pages-told, sets-told}
use Rattle.escape_closure.proofs.Filing.{begun, filed_recorded, filed_stands, none_logged}
use Rattle.heap_core.proofs.tests.plan_end.Goals as goal

pub file_logs-requires-clause-sets : goal.file_logs-requires-clause-sets
file_logs-requires-clause-sets g c = sets-told c.args.map (contents c.args.map (g.W.Words.words c.args.words.now)) c.requires.sound.areas c.requires.recorded

pub file_logs-requires-clause-buffers : goal.file_logs-requires-clause-buffers
file_logs-requires-clause-buffers g c = buffers-told c.args.map (contents c.args.map (g.W.Words.words c.args.words.now)) c.requires.recorded

pub file_logs-requires-clause-pages : goal.file_logs-requires-clause-pages
file_logs-requires-clause-pages g c = pages-told c.args.map (contents c.args.map (g.W.Words.words c.args.words.now)) c.requires.recorded

pub targets-requires-clause-depth : goal.targets-requires-clause-depth
targets-requires-clause-depth g c =
    let same = ap (λ (x : Contents). depth_of x c.args.thread) c.file_logs.ensures.others in
    omega (arith, c.requires.depth, same)

pub targets-requires-clause-filed : goal.targets-requires-clause-filed
targets-requires-clause-filed g c = none_logged c.args.map (contents c.args.map (g.W.Words.words c.args.words.now)) (contents c.args.map (g.W.Words.words c.file_logs.new.words)) c.file_logs.ensures.others

pub targets-requires-clause-stands : goal.targets-requires-clause-stands
targets-requires-clause-stands g c =
    let m = c.args.map in
    let old = contents m (g.W.Words.words c.args.words.now) in
    let mid = contents m (g.W.Words.words c.file_logs.new.words) in
    let e = c.file_logs.ensures in
    let areas = c.requires.sound.areas in
    ∥∥₁_map c.requires.recorded (λ q. (q.0, filed_stands m old mid q.0 q.1 q.2 areas e.filed e.sets e.others e.sound.limits, filed_recorded m old mid q.0 q.1 q.2 areas e.filed e.sets e.others e.sound.limits))

pub plan_moves-requires-clause-depth : goal.plan_moves-requires-clause-depth
plan_moves-requires-clause-depth g c =
    let m = c.args.map in
    let t = c.args.thread in
    let old = contents m (g.W.Words.words c.args.words.now) in
    let mid = contents m (g.W.Words.words c.file_logs.new.words) in
    let e = c.file_logs.ensures in
    let areas = c.requires.sound.areas in
    ∥∥₁_elim c.requires.recorded (hlevel props) (λ q.
    let written = c.targets.ensures.targets q.0 (filed_stands m old mid q.0 q.1 q.2 areas e.filed e.sets e.others e.sound.limits) (filed_recorded m old mid q.0 q.1 q.2 areas e.filed e.sets e.others e.sound.limits) in
    let steps = ap (λ (x : Contents). depth_of x t) written.frame ∙ ap (λ (x : Contents). depth_of x t) e.others in
    omega (arith, c.requires.depth, steps))

pub plan_moves-requires-clause-aimed : goal.plan_moves-requires-clause-aimed
plan_moves-requires-clause-aimed g c =
    let m = c.args.map in
    let old = contents m (g.W.Words.words c.args.words.now) in
    let mid = contents m (g.W.Words.words c.file_logs.new.words) in
    let e = c.file_logs.ensures in
    let areas = c.requires.sound.areas in
    ∥∥₁_map c.requires.recorded (λ q.
    let stands = filed_stands m old mid q.0 q.1 q.2 areas e.filed e.sets e.others e.sound.limits in
    let written = c.targets.ensures.targets q.0 stands (filed_recorded m old mid q.0 q.1 q.2 areas e.filed e.sets e.others e.sound.limits) in
    (q.0, mid, stands, c.targets.result, written))
