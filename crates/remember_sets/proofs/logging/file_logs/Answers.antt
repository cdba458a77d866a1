use Rattle.std.proofs.Common.{◌≡◌, ℕ, ◌+◌, ◌-◌, ◌≤◌, ◌<◌, List, [], ◌++◌, take, length, get_or, arith, ap, sym, subst, ◌∙◌, refl, length-append}
use Rattle.std.specs.List.{All, flat_map}
use Rattle.std.proofs.lemmas.List.{take_all}
use Rattle.std.proofs.lemmas.List.Elements.{All-get_or, All-weaker}
use Rattle.heap_words.specs.declared.map.Areas.{Areas}
use Rattle.heap_words.specs.Contents.{Contents, contents, buffer_of}
use Rattle.heap_words.proofs.Contents.{length-buffers}
use Rattle.remember_sets.specs.Filed.{IsSlot, PagesKnown, all_filed, chain}
use Rattle.remember_sets.proofs.Entering.{slot-same}
use Rattle.remember_sets.proofs.Folded.{all_filed-append, all_filed-same, emptied, emptied-at, fewer-logs-all, fewer-logs-next, logged-next, with_fewer_logs}
use Rattle.remember_sets.proofs.logging.file_logs.Goals as goal

-- the buffer of a thread whose turn it is
own : (was mid : Contents) (t : ℕ) → t < length was.buffers → mid ≡ with_fewer_logs t was mid → buffer_of mid (t + 1) ≡ get_or was.buffers t []
own was mid t lt e =
    let back : t + 1 - 1 ≡ t = omega arith in
    ap (λ (x : Contents). buffer_of x (t + 1)) e ∙ ap (λ k. get_or (emptied t was.buffers) k []) back ∙ emptied-at t was.buffers lt

pub loop-t-preserved : goal.loop-t-preserved
loop-t-preserved g c =
    let m : Areas = c.args.map in
    let ws : List ℕ = g.W.Words.words c.args.words.now in
    let was : Contents = contents m ws in
    let mid : Contents = contents m (g.W.Words.words c.loop-t.words) in
    let new : Contents = contents m (g.W.Words.words c.file_buffer.new.words) in
    let t : ℕ = c.loop-t.t in
    let inv = c.loop-t.invariant in
    let step = c.file_buffer.ensures in
    let lt : t < length was.buffers = omega (arith, length-buffers m ws) in
    let mine : buffer_of mid (t + 1) ≡ get_or was.buffers t [] = own was mid t lt inv.others in
    let xs : List ℕ = flat_map (λ (es : List ℕ). es) (take t was.buffers) in
    let ys : List ℕ = get_or was.buffers t [] in
    let zs : List ℕ = flat_map (λ (es : List ℕ). es) (take (t + 1) was.buffers) in
    let more : zs ≡ xs ++ ys = logged-next t was.buffers lt in
    let longer : length zs ≡ length xs + length ys = ap (λ (l : List ℕ). length l) more ∙ length-append xs ys in
    let own_length : length (buffer_of mid (t + 1)) ≡ length ys = ap (λ (l : List ℕ). length l) mine in
    let heap : mid.heap ≡ was.heap = ap (λ (y : Contents). y.heap) inv.others in
    let table : mid.table ≡ was.table = ap (λ (y : Contents). y.table) inv.others in
    record {
      sound = step.sound;
      base = step.base ∙ inv.base;
      sets = step.sets;
      others = fewer-logs-next was mid new t (t + 1) refl lt inv.others step.others;
      filed = λ x q.
          step.filed x q ∙ all_filed-same m was mid x (buffer_of mid (t + 1)) (chain m mid x) heap table ∙ ap (λ (l : List ℕ). all_filed m was x l (chain m mid x)) mine ∙ ap (all_filed m was x ys) (inv.filed x q) ∙ sym (all_filed-append m was x xs ys (chain m was x)) ∙ ap (λ (l : List ℕ). all_filed m was x l (chain m was x)) (sym more);
      reads = omega (arith, step.reads, inv.reads, longer, own_length);
    }

pub file_buffer-requires-clause-buffer : goal.file_buffer-requires-clause-buffer
file_buffer-requires-clause-buffer g c =
    let m : Areas = c.args.map in
    let ws : List ℕ = g.W.Words.words c.args.words.now in
    let was : Contents = contents m ws in
    let mid : Contents = contents m (g.W.Words.words c.loop-t.words) in
    let t : ℕ = c.loop-t.t in
    let lt : t < length was.buffers = omega (arith, length-buffers m ws) in
    let mine : buffer_of mid (t + 1) ≡ get_or was.buffers t [] = own was mid t lt c.loop-t.invariant.others in
    let heap : mid.heap ≡ was.heap = ap (λ (y : Contents). y.heap) c.loop-t.invariant.others in
    let h : All (IsSlot m was) (get_or was.buffers t []) = All-get_or (All (IsSlot m was)) was.buffers t [] lt c.requires.buffers in
    subst (All (IsSlot m mid)) (sym mine) (All-weaker (IsSlot m was) (IsSlot m mid) (λ a s. slot-same m was mid a heap s) (get_or was.buffers t []) h)

pub file_buffer-requires-clause-pages : goal.file_buffer-requires-clause-pages
file_buffer-requires-clause-pages g c =
    let m : Areas = c.args.map in
    subst (PagesKnown m) (sym c.loop-t.invariant.others) c.requires.pages

pub returns-clause-filed : goal.returns-clause-filed
returns-clause-filed g c x q =
    let m : Areas = c.args.map in
    let ws : List ℕ = g.W.Words.words c.args.words.now in
    let was : Contents = contents m ws in
    let le : length was.buffers ≤ c.loop-t.t = omega (arith, length-buffers m ws) in
    c.loop-t.invariant.filed x q ∙ ap (λ (l : List (List ℕ)). all_filed m was x (flat_map (λ (es : List ℕ). es) l) (chain m was x)) (take_all c.loop-t.t was.buffers le)

pub returns-clause-others : goal.returns-clause-others
returns-clause-others g c =
    let m : Areas = c.args.map in
    let ws : List ℕ = g.W.Words.words c.args.words.now in
    let was : Contents = contents m ws in
    let now : Contents = contents m (g.W.Words.words c.loop-t.words) in
    let e : c.loop-t.t ≡ m.threads = omega arith in
    let long : length was.buffers ≡ c.loop-t.t = omega (arith, length-buffers m ws, e) in
    fewer-logs-all m was now c.loop-t.t e long c.loop-t.invariant.others

pub returns-clause-reads : goal.returns-clause-reads
returns-clause-reads g c =
    let m : Areas = c.args.map in
    let ws : List ℕ = g.W.Words.words c.args.words.now in
    let was : Contents = contents m ws in
    let le : length was.buffers ≤ c.loop-t.t = omega (arith, length-buffers m ws) in
    let whole = ap (λ (l : List (List ℕ)). length (flat_map (λ (es : List ℕ). es) l)) (take_all c.loop-t.t was.buffers le) in
    omega (arith, c.loop-t.invariant.reads, whole)
