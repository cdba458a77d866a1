use Rattle.std.proofs.Common.{◌≡◌, ◌+◌, ℕ, Option, Some, None, MatchOption, refl, sym, ap, subst, ◌∙◌, arith}
use Rattle.object_layout.specs.declared.replies.Census.{Census}
use Rattle.heap_words.specs.Map.{IsAreas}
use Rattle.heap_words.specs.Contents.{contents, depth_of}
use Rattle.yak_model.specs.Standing.{counted_on}
use Rattle.heap_core.specs.Callers.{words_asked}
use Rattle.heap_core.proofs.Called.{Called, StepTold, call-counted, call-fills, call-holds, call-knows-as, call-none-free, call-step-as, call-tells, call-tells_known, call-words, called, step-done}
use Rattle.heap_core.proofs.Calling.{some-knows-nothing}
use Rattle.heap_core.proofs.Filling.{fills-more}
use Rattle.heap_core.proofs.caller.CoreCallerCaller.make_call.Goals as goal

-- the depth that is told of the last call without room
abbrev depth_told : Option (Census × ℕ × ℕ) → ℕ
depth_told None = 0
depth_told (Some x) = x.1

some-last : (x y : Census × ℕ × ℕ) → Some x ≡ Some y → x ≡ y
some-last x y e = cc

pub invariant_of-self : goal.invariant_of-self
invariant_of-self g c =
    let s = c.args.self.now in
    let core = s.core in
    let w0 = g.W.Words.words core.words in
    let step = c.step-stepped in
    let w1 = g.W.Words.words step.new.self.words in
    let areas : IsAreas core.map = rw core.own (g.met.W.Words.within_limits core.words) in
    let k : Called core.map w0 w1 s.thread c.args.call step.result = called core.map step.new.self.map step.ensures.map w0 w1 s.thread c.args.call step.result areas s.has_thread (rw core.own (g.met.W.Words.whole core.words)) (rw step.new.self.own (g.met.W.Words.whole step.new.self.words)) core.stands step.new.self.stands step.ensures.turns step.ensures.filled step.ensures.full in
    let holds = call-holds core.map w0 w1 s.thread c.args.call step.result k s.present s.made c.count_up-self.result c.words_made.result s.holds c.words_made.ensures c.count_up-self.ensures.counted in
    record {
      has_thread = rw (c.depth.ensures.map, step.ensures.map) s.has_thread;
      knows_none = some-knows-nothing c.depth.new.self.map (contents c.depth.new.self.map (g.W.Words.words c.depth.new.self.words)) s.thread c.depth.new.self.stands;
      some = (λ e. cc, λ e. let count = c.count_up-self-in-Some.ensures.counted in absurd (omega (arith, count, e)));
      none_free = λ x e. subst (λ (l : Census × ℕ × ℕ). l.0.free ≡ 0) (some-last (c.in-Some.census, c.depth.result, c.words_asked.result) x e) (call-none-free core.map w0 w1 s.thread c.args.call step.result k c.in-Some.census c.in-Some.is);
      holds = rw (c.depth.ensures.words, c.depth.ensures.map, step.ensures.map) holds;
      filled = λ x e.
          let deep : x.1 ≡ depth_of (contents core.map w1) s.thread = ap (λ (o : Option (Census × ℕ × ℕ)). depth_told o) (sym e) ∙ c.depth.ensures.depth ∙ ap (λ m. depth_of (contents m w1) s.thread) step.ensures.map in
          rw (c.depth.ensures.map, step.ensures.map, deep) (call-fills core.map w0 w1 s.thread c.args.call step.result k c.in-Some.census c.in-Some.is (s.present + c.count_up-self.result) holds);
    }

pub invariant_of-self-in_default : goal.invariant_of-self-in_default
invariant_of-self-in_default g c =
    let s = c.args.self.now in
    let core = s.core in
    let w0 = g.W.Words.words core.words in
    let step = c.step-stepped in
    let w1 = g.W.Words.words step.new.self.words in
    let areas : IsAreas core.map = rw core.own (g.met.W.Words.within_limits core.words) in
    let k : Called core.map w0 w1 s.thread c.args.call step.result = called core.map step.new.self.map step.ensures.map w0 w1 s.thread c.args.call step.result areas s.has_thread (rw core.own (g.met.W.Words.whole core.words)) (rw step.new.self.own (g.met.W.Words.whole step.new.self.words)) core.stands step.new.self.stands step.ensures.turns step.ensures.filled step.ensures.full in
    let holds = call-holds core.map w0 w1 s.thread c.args.call step.result k s.present s.made c.count_up-self.result c.words_made.result s.holds c.words_made.ensures c.count_up-self.ensures.counted in
    record {
      has_thread = rw step.ensures.map s.has_thread;
      knows_none = some-knows-nothing step.new.self.map (contents step.new.self.map w1) s.thread step.new.self.stands;
      some = s.some;
      none_free = s.none_free;
      holds = rw step.ensures.map holds;
      filled = λ x e. rw step.ensures.map (fills-more core.map (s.present + s.made) (s.present + c.count_up-self.result) x.1 (omega (arith, c.count_up-self.ensures.rises)) (s.filled x e));
    }

pub returns-in_default-clause-stays : goal.returns-in_default-clause-stays
returns-in_default-clause-stays g c =
    let s = c.args.self.now in
    let core = s.core in
    let w0 = g.W.Words.words core.words in
    let step = c.step-stepped in
    let w1 = g.W.Words.words step.new.self.words in
    let areas : IsAreas core.map = rw core.own (g.met.W.Words.within_limits core.words) in
    let k : Called core.map w0 w1 s.thread c.args.call step.result = called core.map step.new.self.map step.ensures.map w0 w1 s.thread c.args.call step.result areas s.has_thread (rw core.own (g.met.W.Words.whole core.words)) (rw step.new.self.own (g.met.W.Words.whole step.new.self.words)) core.stands step.new.self.stands step.ensures.turns step.ensures.filled step.ensures.full in
    rw (step.ensures.map, step.ensures.base) (refl, call-tells core.map w0 w1 s.thread c.args.call step.result k, call-tells_known core.map w0 w1 s.thread c.args.call step.result k)

pub returns-in-Some-clause-stays : goal.returns-in-Some-clause-stays
returns-in-Some-clause-stays g c =
    let s = c.args.self.now in
    let core = s.core in
    let w0 = g.W.Words.words core.words in
    let step = c.step-stepped in
    let w1 = g.W.Words.words step.new.self.words in
    let areas : IsAreas core.map = rw core.own (g.met.W.Words.within_limits core.words) in
    let k : Called core.map w0 w1 s.thread c.args.call step.result = called core.map step.new.self.map step.ensures.map w0 w1 s.thread c.args.call step.result areas s.has_thread (rw core.own (g.met.W.Words.whole core.words)) (rw step.new.self.own (g.met.W.Words.whole step.new.self.words)) core.stands step.new.self.stands step.ensures.turns step.ensures.filled step.ensures.full in
    rw (c.depth.ensures.words, c.depth.ensures.map, c.depth.ensures.base, step.ensures.map, step.ensures.base) (refl, call-tells core.map w0 w1 s.thread c.args.call step.result k, call-tells_known core.map w0 w1 s.thread c.args.call step.result k)

pub returns-in_default-clause-known : goal.returns-in_default-clause-known
returns-in_default-clause-known g c =
    let s = c.args.self.now in
    let core = s.core in
    let w0 = g.W.Words.words core.words in
    let step = c.step-stepped in
    let w1 = g.W.Words.words step.new.self.words in
    let areas : IsAreas core.map = rw core.own (g.met.W.Words.within_limits core.words) in
    let k : Called core.map w0 w1 s.thread c.args.call step.result = called core.map step.new.self.map step.ensures.map w0 w1 s.thread c.args.call step.result areas s.has_thread (rw core.own (g.met.W.Words.whole core.words)) (rw step.new.self.own (g.met.W.Words.whole step.new.self.words)) core.stands step.new.self.stands step.ensures.turns step.ensures.filled step.ensures.full in
    call-knows-as core.map w0 w1 s.thread c.args.call step.result k step.new.self.map w1 step.ensures.map refl s.made s.refusals s.last

pub returns-in-Some-clause-known : goal.returns-in-Some-clause-known
returns-in-Some-clause-known g c =
    let s = c.args.self.now in
    let core = s.core in
    let w0 = g.W.Words.words core.words in
    let step = c.step-stepped in
    let w1 = g.W.Words.words step.new.self.words in
    let areas : IsAreas core.map = rw core.own (g.met.W.Words.within_limits core.words) in
    let k : Called core.map w0 w1 s.thread c.args.call step.result = called core.map step.new.self.map step.ensures.map w0 w1 s.thread c.args.call step.result areas s.has_thread (rw core.own (g.met.W.Words.whole core.words)) (rw step.new.self.own (g.met.W.Words.whole step.new.self.words)) core.stands step.new.self.stands step.ensures.turns step.ensures.filled step.ensures.full in
    call-knows-as core.map w0 w1 s.thread c.args.call step.result k c.depth.new.self.map (g.W.Words.words c.depth.new.self.words) (c.depth.ensures.map ∙ step.ensures.map) c.depth.ensures.words s.made s.refusals s.last

pub returns-in-Some-clause-counted : goal.returns-in-Some-clause-counted
returns-in-Some-clause-counted g c =
    let s = c.args.self.now in
    let core = s.core in
    let w0 = g.W.Words.words core.words in
    let step = c.step-stepped in
    let w1 = g.W.Words.words step.new.self.words in
    let areas : IsAreas core.map = rw core.own (g.met.W.Words.within_limits core.words) in
    let k : Called core.map w0 w1 s.thread c.args.call step.result = called core.map step.new.self.map step.ensures.map w0 w1 s.thread c.args.call step.result areas s.has_thread (rw core.own (g.met.W.Words.whole core.words)) (rw step.new.self.own (g.met.W.Words.whole step.new.self.words)) core.stands step.new.self.stands step.ensures.turns step.ensures.filled step.ensures.full in
    let deep : c.depth.result ≡ depth_of (contents core.map w1) s.thread = c.depth.ensures.depth ∙ ap (λ m. depth_of (contents m w1) s.thread) step.ensures.map in
    let more = c.count_up-self.ensures.counted ∙ ap (counted_on s.made) c.words_made.ensures in
    rw (c.depth.ensures.words, c.depth.ensures.map, step.ensures.map) (call-counted core.map w0 w1 s.thread c.args.call step.result k s.made c.count_up-self.result s.refusals c.count_up-self-in-Some.result c.depth.result c.words_asked.result s.last c.in-Some.census c.in-Some.is more c.count_up-self-in-Some.ensures.counted deep c.words_asked.ensures)

pub returns-in_default-clause-step : goal.returns-in_default-clause-step
returns-in_default-clause-step g c =
    let s = c.args.self.now in
    let core = s.core in
    let w0 = g.W.Words.words core.words in
    let step = c.step-stepped in
    let w1 = g.W.Words.words step.new.self.words in
    let areas : IsAreas core.map = rw core.own (g.met.W.Words.within_limits core.words) in
    let k : Called core.map w0 w1 s.thread c.args.call step.result = called core.map step.new.self.map step.ensures.map w0 w1 s.thread c.args.call step.result areas s.has_thread (rw core.own (g.met.W.Words.whole core.words)) (rw step.new.self.own (g.met.W.Words.whole step.new.self.words)) core.stands step.new.self.stands step.ensures.turns step.ensures.filled step.ensures.full in
    let told : StepTold core.map step.new.self.map w0 w1 s.thread c.args.call step.result = record {
      turns = step.ensures.turns;
      lawful = step.ensures.lawful;
      collected = step.ensures.collected;
      full = step.ensures.full;
      filled = step.ensures.filled;
      shortage = step.ensures.shortage;
      ended = step.ensures.ended;
      census = step.ensures.census;
      packed = step.ensures.packed;
      records = step.ensures.records;
      room = step.ensures.room;
      idle = step.ensures.idle;
    } in
    let done = step-done core.map step.new.self.map step.ensures.map w0 w1 s.thread c.args.call step.result told in
    call-step-as core.map w0 w1 s.thread c.args.call step.result k step.new.self.map w1 step.ensures.map refl done s.last s.last (subst (λ (o : Option Census). MatchOption o (s.last ≡ s.last) (λ census. s.last ≡ Some (census, depth_of (contents core.map w1) s.thread, words_asked c.args.call))) (sym c.in_default.is) refl)

pub returns-in-Some-clause-step : goal.returns-in-Some-clause-step
returns-in-Some-clause-step g c =
    let s = c.args.self.now in
    let core = s.core in
    let w0 = g.W.Words.words core.words in
    let step = c.step-stepped in
    let w1 = g.W.Words.words step.new.self.words in
    let areas : IsAreas core.map = rw core.own (g.met.W.Words.within_limits core.words) in
    let k : Called core.map w0 w1 s.thread c.args.call step.result = called core.map step.new.self.map step.ensures.map w0 w1 s.thread c.args.call step.result areas s.has_thread (rw core.own (g.met.W.Words.whole core.words)) (rw step.new.self.own (g.met.W.Words.whole step.new.self.words)) core.stands step.new.self.stands step.ensures.turns step.ensures.filled step.ensures.full in
    let deep : c.depth.result ≡ depth_of (contents core.map w1) s.thread = c.depth.ensures.depth ∙ ap (λ m. depth_of (contents m w1) s.thread) step.ensures.map in
    let wide = call-words core.map w0 w1 s.thread c.args.call step.result k c.in-Some.census c.in-Some.is c.words_asked.result c.words_asked.ensures in
    let kept_now : Option (Census × ℕ × ℕ) = Some (c.in-Some.census, c.depth.result, c.words_asked.result) in
    let kept : kept_now ≡ Some (c.in-Some.census, depth_of (contents core.map w1) s.thread, words_asked c.args.call) = λ i. Some (c.in-Some.census, deep i, wide i) in
    let keeps : MatchOption step.result.full (kept_now ≡ s.last) (λ census. kept_now ≡ Some (census, depth_of (contents core.map w1) s.thread, words_asked c.args.call)) =
    subst (λ (o : Option Census). MatchOption o (kept_now ≡ s.last) (λ census. kept_now ≡ Some (census, depth_of (contents core.map w1) s.thread, words_asked c.args.call))) (sym c.in-Some.is) kept
    in
    let told : StepTold core.map step.new.self.map w0 w1 s.thread c.args.call step.result = record {
      turns = step.ensures.turns;
      lawful = step.ensures.lawful;
      collected = step.ensures.collected;
      full = step.ensures.full;
      filled = step.ensures.filled;
      shortage = step.ensures.shortage;
      ended = step.ensures.ended;
      census = step.ensures.census;
      packed = step.ensures.packed;
      records = step.ensures.records;
      room = step.ensures.room;
      idle = step.ensures.idle;
    } in
    let done = step-done core.map step.new.self.map step.ensures.map w0 w1 s.thread c.args.call step.result told in
    call-step-as core.map w0 w1 s.thread c.args.call step.result k c.depth.new.self.map (g.W.Words.words c.depth.new.self.words) (c.depth.ensures.map ∙ step.ensures.map) c.depth.ensures.words done s.last kept_now keeps
