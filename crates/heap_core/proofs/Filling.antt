-- What a step does to what a caller tells, counts and keeps of the pages.
use Rattle.std.proofs.Common.{◌≡◌, ◌≢◌, ◌⊎◌, ℕ, ◌+◌, ◌-◌, ◌*◌, ◌^◌, ◌≤◌, ◌<◌, List, [], ◌∷◌, min, get_or, length, suc, refl, ◌∙◌, ap, sym, subst, inl, inr, Option, Some, None, MatchOption, arith}
use Rattle.std.proofs.Math.Logic.{⊎_elim, ∥∥₁_elim}
use Rattle.std.proofs.Props.{props}
use Rattle.std.specs.List.{sum_by}
use Rattle.std.proofs.lemmas.Bool.{cases_lt}
use Rattle.std.proofs.lemmas.List.Sums.{sum_by-cons}
use Rattle.object_layout.specs.declared.calls.Call.{Call}
use Rattle.object_layout.specs.declared.calls.Call.TheVariants as call
use Rattle.object_layout.specs.declared.replies.Census.{Census}
use Rattle.object_layout.specs.declared.replies.Reply.TheVariants as reply
use Rattle.object_layout.specs.declared.TheConstants.{OBJECT_WORDS}
use Rattle.heap_words.specs.declared.map.Areas.{Areas}
use Rattle.heap_words.specs.Map.{HasThread, IsAreas, page_words}
use Rattle.heap_words.specs.Contents.{Contents, depth_of}
use Rattle.yak_model.specs.Graph.{Does, Graph, Limits, Thread, answers, idle, refusal_of, thread_of}
use Rattle.yak_model.specs.Lawful.{open_regions, present_words}
use Rattle.yak_model.specs.Placed.{used_mark}
use Rattle.yak_model.specs.Spaces.{SpaceState}
use Rattle.yak_model.specs.Standing.{Counted, counted_on, words_made}
use Rattle.yak_model.specs.Stands.{Stands}
use Rattle.yak_model.proofs.Fitting.{short}
use Rattle.yak_model.proofs.Stacks.{is_thread}
use Rattle.heap_core.specs.declared.owned.Stepped.{Stepped}
use Rattle.heap_core.specs.Callers.{FillsPages, KnowsAlone, TellsKnown, TellsThread, standing_told, thread_told, words_asked, words_used}
use Rattle.heap_core.specs.Collecting.{CountsFull}
use Rattle.heap_core.specs.Done.{FillsHeap}
use Rattle.yak_model.specs.Recorded.{SomeRecorded}
use Rattle.heap_core.specs.Steps.{entries}
use Rattle.yak_model.specs.Continued.{TurnsTo}
use Rattle.heap_core.proofs.Answering.{FollowsCall, of_objects}
use Rattle.heap_core.proofs.Bounds.{full-bound}
use Rattle.heap_core.proofs.Calling.{follows-step, knows-after}
use Rattle.yak_model.proofs.Others.{answers-beside, same_or_other_thread}
use Rattle.heap_core.proofs.Threads.{thread-told}
use Rattle.heap_core.proofs.Weights.{step-weighs, words-used}

-- every state that the words stood for turns to one that they stand for now
abbrev pub Steps : Areas → Contents → Contents → ℕ → Call → Stepped → Type 0
Steps m was now t asked stepped = (s : SpaceState) (h : Stands m was s) → TurnsTo m was now s h (entries t asked stepped)

module _ (m : Areas) (was now : Contents) (t : ℕ) (asked : Call) (stepped : Stepped) (steps : Steps m was now t asked stepped) (thread : HasThread m t) where
  -- ---- the other threads

  other-stays : (s : SpaceState) → Stands m was s → (u : ℕ) → HasThread m u → u ≢ t → thread_told now u ≡ thread_told was u
  other-stays s h u has ne =
      let turn = steps s h in
      let f : FollowsCall s.graph.objects s t asked stepped.reply turn.0 = follows-step m was s h s.graph.objects (λ n some. refl) t asked stepped turn.0 turn.1 in
      let apart : (u - 1) ≢ (t - 1) = λ e. ne (omega (arith, e, has.0, thread.0)) in
      thread-told m now turn.0 turn.2 u ∙ answers-beside s.graph t u apart asked stepped.reply (of_objects turn.0.graph f.next) f.moves.1 ∙ sym (thread-told m was s h u)

  pub tells-after : SomeRecorded m was → (u : ℕ) (own : Thread) → TellsThread m was t u own → TellsThread m now t u own
  tells-after some u own tells = record {
    thread = tells.thread;
    other = tells.other;
    as_told = elim (same_or_other_thread (thread_told now u) (thread_told was u)) [
      | inl e ↦ tells.as_told ∙ sym e
      | inr o ↦ absurd (∥∥₁_elim some (hlevel props) (λ q. o (other-stays q.0 q.1 u tells.thread tells.other)))
    ];
  }

  pub tells_known-after : (u : ℕ) (known : _) → TellsKnown m was t u known → TellsKnown m now t u known
  tells_known-after u known tells =
      let k : KnowsAlone m was u known = tells.alone in
      let turn = steps k.state k.stands in
      record {
        thread = tells.thread;
        other = tells.other;
        alone = knows-after m was k.state k.stands t u known k.made k.private asked stepped turn.0 turn.1 k.fits now turn.2 known ((λ e. absurd (tells.other (sym e))), (λ ne. refl));
      }

  -- ---- the words in use

  pub used-after : SomeRecorded m was → length was.table ≡ m.pages → length now.table ≡ m.pages → words_used now.table ≤ words_used was.table + words_made asked stepped.reply
  used-after some long longer = ∥∥₁_elim some (hlevel props) (λ q.
      let turn = steps q.0 q.1 in
      omega (arith, step-weighs m was q.0 q.1 t asked stepped turn.0 turn.1, words-used m was q.0 q.1 long, words-used m now turn.0 turn.2 longer))

-- ---- words in use are within the pages

used-most : (m : Areas) (table : List (List ℕ)) → ((p : ℕ) → p < length table → get_or (get_or table p []) 1 0 ≤ page_words m) → words_used table ≤ page_words m * length table
used-most m [] marks = omega arith
used-most m (r ∷ rest) marks =
    let first : get_or r 1 0 ≤ page_words m = marks 0 (omega arith) in
    omega (arith, first, used-most m rest (λ p lt. marks (suc p) (omega (arith, lt))), sum_by-cons (λ (x : List ℕ). get_or x 1 0) r rest)

-- a page's used mark is within the page
pub mark-within : (m : Areas) (c : Contents) (s : SpaceState) (h : Stands m c s) (p : ℕ) → p < m.pages → used_mark c.table p ≤ page_words m
mark-within m c s h p lt =
    let mark = h.stands.heap.marks p lt in
    let fits = h.stands.heap.tiles.fits p (omega (arith, lt, h.stands.heap.count)) in
    omega (arith, mark, fits)

pub used-within : (m : Areas) (c : Contents) (s : SpaceState) (h : Stands m c s) → length c.table ≡ m.pages → words_used c.table ≤ page_words m * m.pages
used-within m c s h long =
    let most = used-most m c.table (λ p lt. mark-within m c s h p (omega (arith, lt, long))) in
    omega (arith, most, long)

-- the objects weigh no more than those present at first and those made, where this is counted up to a number past the pages
pub holds-after : (m : Areas) (used used' present made more : ℕ) → IsAreas m → used ≤ present + made → used' ≤ used + more → used' ≤ page_words m * m.pages → used' ≤ present + counted_on made more
holds-after m used used' present made more areas before step within =
    ⊎_elim
    (λ (lt : made + more < 2 ^ 64). omega (arith, before, step, lt))
    (λ (le : 2 ^ 64 ≤ made + more). omega (arith, within, areas.1, le))
    (cases_lt (made + more) (2 ^ 64))

-- ---- a call that found no room

-- a call for an object, or another one
pub new-or-other : (asked : Call) → ((k : ℕ) × (asked ≡ call.New k)) ⊎ ((k : ℕ) → asked ≢ call.New k)
new-or-other (call.Int i) = inr (λ k e. cc)
new-or-other call.Null = inr (λ k e. cc)
new-or-other (call.Dup i) = inr (λ k e. cc)
new-or-other call.Pop = inr (λ k e. cc)
new-or-other (call.New k) = inl (k, refl)
new-or-other (call.Load i f) = inr (λ k e. cc)
new-or-other (call.Store i f x) = inr (λ k e. cc)
new-or-other (call.Get i) = inr (λ k e. cc)
new-or-other (call.Same i x) = inr (λ k e. cc)
new-or-other call.Begin = inr (λ k e. cc)
new-or-other call.End = inr (λ k e. cc)
new-or-other call.Collect = inr (λ k e. cc)
new-or-other call.Census = inr (λ k e. cc)

-- no other call fills the heap
pub not-full : (m : Areas) (now : Contents) (s : SpaceState) (h : Stands m now s) (t : ℕ) (asked : Call) → ((k : ℕ) → asked ≢ call.New k) → FillsHeap m now s h t asked reply.OutOfHeap → ⊥
not-full m now s h t (call.Int i) other fills = fills refl
not-full m now s h t call.Null other fills = fills refl
not-full m now s h t (call.Dup i) other fills = fills refl
not-full m now s h t call.Pop other fills = fills refl
not-full m now s h t (call.New k) other fills = other k refl
not-full m now s h t (call.Load i f) other fills = fills refl
not-full m now s h t (call.Store i f x) other fills = fills refl
not-full m now s h t (call.Get i) other fills = fills refl
not-full m now s h t (call.Same i x) other fills = fills refl
not-full m now s h t call.Begin other fills = fills refl
not-full m now s h t call.End other fills = fills refl
not-full m now s h t call.Collect other fills = fills refl
not-full m now s h t call.Census other fills = fills refl

-- an object for which there is no room is short enough, and nothing changes
pub full-answer : (g : Graph) (t k : ℕ) (h : Graph) → answers g t (call.New k) reply.OutOfHeap h → (k ≤ g.limits.page - OBJECT_WORDS) × (h ≡ g)
full-answer g t k h =
    elim (refusal_of g t (call.New k)) as (λ o. refusal_of g t (call.New k) ≡ o → MatchOption o (Does g t (call.New k) reply.OutOfHeap h) (λ why. (reply.OutOfHeap ≡ reply.Refused why) × (h ≡ g)) → (k ≤ g.limits.page - OBJECT_WORDS) × (h ≡ g)) [
      | None ↦ λ e d. elim d [ inl ok ↦ cc | inr full ↦ (short g.limits.page k _ e, full.1) ]
      | Some why ↦ λ e r. cc
    ] refl

-- ---- the depths of one thread

only-depth : (threads : List Thread) → length threads ≡ 1 → sum_by (λ (x : Thread). x.depth) threads ≡ (get_or threads 0 idle).depth
only-depth [] e = cc
only-depth (x ∷ []) e = omega (arith, sum_by-cons (λ (y : Thread). y.depth) x [])
only-depth (x ∷ y ∷ rest) e = absurd (omega (arith, e))

module _ (m : Areas) (was now : Contents) (t : ℕ) (asked : Call) (stepped : Stepped) (steps : Steps m was now t asked stepped) (thread : HasThread m t) (some : SomeRecorded m was) (some_now : SomeRecorded m now) (fills : (s : SpaceState) (h : Stands m now s) → FillsHeap m now s h t asked stepped.reply) (full : stepped.reply ≡ reply.OutOfHeap) where
  pub is-new : (k : ℕ) × (asked ≡ call.New k)
  is-new =
      elim (new-or-other asked) [
        | inl new ↦ new
        | inr other ↦ absurd (∥∥₁_elim some_now (hlevel props) (λ q. not-full m now q.0 q.1 t asked other (subst (FillsHeap m now q.0 q.1 t asked) full (fills q.0 q.1))))
      ]

  -- the state stays, and the object is short enough
  nothing-made : (s : SpaceState) (h : Stands m was s) → (is-new.0 ≤ s.graph.limits.page - OBJECT_WORDS) × (thread_told now t ≡ thread_told was t)
  nothing-made s h =
      let turn = steps s h in
      let f : FollowsCall s.graph.objects s t asked stepped.reply turn.0 = follows-step m was s h s.graph.objects (λ n some. refl) t asked stepped turn.0 turn.1 in
      let later : Graph = of_objects turn.0.graph f.next in
      let answer : answers s.graph t (call.New is-new.0) reply.OutOfHeap later = subst (λ r. answers s.graph t (call.New is-new.0) r later) full (subst (λ a. answers s.graph t a stepped.reply later) is-new.1 f.moves.1) in
      let a = full-answer s.graph t is-new.0 later answer in
      (a.0, thread-told m now turn.0 turn.2 t ∙ ap (λ (g : Graph). thread_of g t) a.1 ∙ sym (thread-told m was s h t))

  depth-stays : depth_of now t ≡ depth_of was t
  depth-stays = ∥∥₁_elim some (hlevel props) (λ q. ap (λ (x : Thread). x.depth) (nothing-made q.0 q.1).1)

  few : is-new.0 + OBJECT_WORDS ≤ 2 ^ 16 - 1
  few = ∥∥₁_elim some (hlevel props) (λ q. let page = ap (λ (l : Limits). l.page) q.1.whole.limits in omega (arith, page, (nothing-made q.0 q.1).0))

  pub words-kept : (words : ℕ) → words ≡ min (words_asked asked) (2 ^ 16 - 1) → words ≡ words_asked asked
  words-kept words wide =
      let asks : words_asked asked ≡ is-new.0 + OBJECT_WORDS = ap words_asked is-new.1 in
      omega (arith, wide, asks, few)

  pub counted-full : (made made' refusals refusals' depth words : ℕ) (last : Option (Census × ℕ × ℕ)) (census : Census) → CountsFull now census → made' ≡ counted_on made (words_made asked stepped.reply) → refusals' ≡ counted_on refusals 1 → depth ≡ depth_of now t → words ≡ min (words_asked asked) (2 ^ 16 - 1)
      → Counted (standing_told was t made refusals last) asked stepped.reply (standing_told now t made' refusals' (Some (census, depth, words)))
  counted-full made made' refusals refusals' depth words last census counts more once deep wide =
      let deep' : depth ≡ depth_of was t = deep ∙ depth-stays in
      let asks : words_asked asked ≡ is-new.0 + OBJECT_WORDS = ap words_asked is-new.1 in
      let wide' : words ≡ is-new.0 + OBJECT_WORDS = omega (arith, wide, asks, few) in
      record {
        thread = refl;
        limits = refl;
        words = more;
        list = refl;
        full = λ e. (once, (is-new.0, census, is-new.1, counts.none_free, (λ i. Some (census, deep' i, wide' i))));
        other = λ ne. absurd (ne full);
      }

  -- the pages of a heap of one thread
  pub fills-pages : IsAreas m → length now.table ≡ m.pages → (words : ℕ) → words_used now.table ≤ words → FillsPages m words (depth_of now t)
  fills-pages areas long words most one = ∥∥₁_elim some_now (hlevel props) (λ q.
      let s : SpaceState = q.0 in
      let h : Stands m now s = q.1 in
      let fill : FillsHeap m now s h t (call.New is-new.0) stepped.reply = subst (λ a. FillsHeap m now s h t a stepped.reply) is-new.1 (fills s h) in
      let bound : page_words m * m.pages ≤ 2 * present_words s + page_words m * (open_regions s + 1) = subst (λ (l : Limits). l.page * m.pages ≤ 2 * present_words s + l.page * (open_regions s + 1)) h.whole.limits (full-bound m now s h t is-new.0 areas (fill full)) in
      let first : t - 1 ≡ 0 = omega (arith, thread.1, one) in
      let open_ones : open_regions s ≡ (get_or s.graph.threads 0 idle).depth = only-depth s.graph.threads (is_thread m now s h ∙ one) in
      let own : (thread_of s.graph t).depth ≡ (get_or s.graph.threads 0 idle).depth = ap (λ k. (get_or s.graph.threads k idle).depth) first in
      let depth : depth_of now t ≡ (thread_of s.graph t).depth = ap (λ (x : Thread). x.depth) (thread-told m now s h t) in
      omega (arith, bound, open_ones, own, depth, words-used m now s h long, most))

-- more words fill the pages too
pub fills-more : (m : Areas) (words more depth : ℕ) → words ≤ more → FillsPages m words depth → FillsPages m more depth
fills-more m words more depth le fills one = omega (arith, fills one, le)
