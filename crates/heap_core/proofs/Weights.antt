-- The words of the objects that are present: those in use in the pages, and what a step adds to them.
use Rattle.std.proofs.Common.{◌≡◌, ◌⊎◌, ℕ, ◌+◌, ◌≤◌, ◌<◌, List, [], ◌∷◌, true≢false, get_or, set, replicate, length, refl, ◌∙◌, ap, sym, subst, inl, inr, Option, Some, None, MatchOption, IsSome, is_some, arith, length-set}
use Rattle.std.proofs.lemmas.List.{length-replicate}
use Rattle.std.specs.List.{Contains, sum_by}
use Rattle.std.specs.FinMap as finite
use Rattle.std.specs.FinMap.{FinMap, get}
use Rattle.std.proofs.lemmas.List.Sums.{sum_by-cons}
use Rattle.object_layout.specs.declared.names.Name.{Name}
use Rattle.object_layout.specs.declared.TheConstants.{OBJECT_WORDS}
use Rattle.object_layout.specs.declared.calls.Call.{Call}
use Rattle.object_layout.specs.declared.calls.Call.TheVariants as call
use Rattle.object_layout.specs.declared.replies.Reply.{Reply}
use Rattle.object_layout.specs.declared.replies.Reply.TheVariants as reply
use Rattle.heap_words.specs.declared.map.Areas.{Areas}
use Rattle.heap_words.specs.Contents.{Contents}
use Rattle.yak_model.specs.declared.datum.Datum.{Datum}
use Rattle.yak_model.specs.declared.datum.Datum.TheVariants as datum
use Rattle.yak_model.specs.Names.{name_cmp}
use Rattle.yak_model.specs.Graph.{Content, Does, Fields, Graph, IsThread, answers, fields_at, fields_or_none, next_name, put_field, refusal_of, size_of, slot_of}
use Rattle.yak_model.specs.Lawful.{present_words}
use Rattle.yak_model.specs.Placed.{size_by}
use Rattle.yak_model.specs.Private.{IsMade}
use Rattle.yak_model.specs.Spaces.{SpaceState, TurnsAll, content_at}
use Rattle.yak_model.specs.Standing.{words_made}
use Rattle.yak_model.specs.State.{object_of}
use Rattle.yak_model.specs.Stands.{Stands}
use Rattle.yak_model.proofs.Names.{get-same, get-other, same_or_other}
use Rattle.heap_core.specs.declared.owned.Stepped.{Stepped}
use Rattle.heap_core.specs.Callers.{words_used}
use Rattle.heap_core.specs.Steps.{entries}
use Rattle.yak_model.proofs.Agreement.{slot_on_stack}
use Rattle.yak_model.proofs.Lists.{contains_cons}
use Rattle.heap_core.proofs.Alone.{nothing, there_or_not}
use Rattle.heap_core.proofs.Answering.{FollowsCall, HoldsStacks, of_objects}
use Rattle.heap_core.proofs.Calling.{follows-step, holds-stacks, state-made}
use Rattle.heap_core.proofs.RoomsNames.{entry-found, found-key, key-found, keys-distinct, keys_of, present-paged}
use Rattle.heap_core.proofs.RoomsSums.{contains_first, sum-inside, sum-less, sum-mapped, sum-same, sums-less}

-- ---- words of contents

-- the words of what was looked up, 0 where there is nothing
abbrev pub weight : Option Content → ℕ
weight None = 0
weight (Some content) = size_of content

heavy : (content : Content) → 1 ≤ size_of content
heavy (Fields values) = omega arith

there : (o : Option Content) → 1 ≤ weight o → (v : Content) × (o ≡ Some v)
there None h = absurd (omega (arith, h))
there (Some v) h = (v, refl)

-- the words of all objects
abbrev pub words_in_all : FinMap name_cmp Content → ℕ
words_in_all objects = sum_by (λ (e : Name × Content). size_of e.1) (finite.entries objects)

module _ (objects : FinMap name_cmp Content) where
  key-there : (n : Name) → Contains (keys_of (finite.entries objects)) n → (v : Content) × (get objects n ≡ Some v)
  key-there n k = let f = key-found (finite.entries objects) n k in (f.0, finite.get-entries objects n ∙ f.1)

  there-key : (n : Name) (v : Content) → get objects n ≡ Some v → Contains (keys_of (finite.entries objects)) n
  there-key n v e = found-key (finite.entries objects) n v (sym (finite.get-entries objects n) ∙ e)

  words-by_key : words_in_all objects ≡ sum_by (λ (n : Name). weight (get objects n)) (keys_of (finite.entries objects))
  words-by_key =
      sum-same (λ (e : Name × Content). size_of e.1) (λ (e : Name × Content). weight (get objects e.0)) (finite.entries objects)
      (λ e b. ap weight (sym (finite.get-entries objects e.0 ∙ entry-found (finite.entries objects) e (finite.entries_sorted objects) b)))
      ∙ sym (sum-mapped (λ (n : Name). weight (get objects n)) (λ (e : Name × Content). e.0) (finite.entries objects))

-- a name whose object isn't in some objects is all by which others may weigh more
grow : (a b : FinMap name_cmp Content) (new : Name) (extra : ℕ) → get a new ≡ None → ((n : Name) → (weight (get b n) ≤ weight (get a n)) ⊎ ((n ≡ new) × (weight (get b n) ≤ extra))) → words_in_all b ≤ words_in_all a + extra
grow a b new extra fresh most =
    let kb : List Name = keys_of (finite.entries b) in
    let ka : List Name = keys_of (finite.entries a) in
    let inside : sum_by (λ (n : Name). weight (get b n)) kb ≤ sum_by (λ (n : Name). weight (get b n)) (new ∷ ka) = sum-inside (λ (n : Name). weight (get b n)) kb (new ∷ ka) (keys-distinct (finite.entries b) (finite.entries_sorted b)) among in
    let below : sum_by (λ (n : Name). weight (get b n)) ka ≤ sum_by (λ (n : Name). weight (get a n)) ka = sum-less (λ (n : Name). weight (get b n)) (λ (n : Name). weight (get a n)) ka lighter in
    omega (arith, inside, below, at_new, words-by_key a, words-by_key b, sum_by-cons (λ (n : Name). weight (get b n)) new ka)
  where
    none : weight (get a new) ≡ 0
    none = ap weight fresh

    at_new : weight (get b new) ≤ extra
    at_new = elim (most new) [ inl le ↦ omega (arith, le, none) | inr le ↦ le.1 ]

    lighter : (n : Name) → Contains (keys_of (finite.entries a)) n → weight (get b n) ≤ weight (get a n)
    lighter n k =
        let v = key-there a n k in
        elim (most n) [
          | inl le ↦ le
          | inr le ↦ absurd (true≢false (sym (ap is_some v.1) ∙ ap (λ x. is_some (get a x)) le.0 ∙ ap is_some fresh))
        ]

    among : (n : Name) → Contains (keys_of (finite.entries b)) n → Contains (new ∷ keys_of (finite.entries a)) n
    among n k =
        let v = key-there b n k in
        let some : 1 ≤ weight (get b n) = subst (λ o. 1 ≤ weight o) (sym v.1) (heavy v.0) in
        elim (most n) [
          | inl le ↦ let w = there (get a n) (omega (arith, le, some)) in contains_cons new (keys_of (finite.entries a)) n (there-key a n w.0 w.1)
          | inr le ↦ subst (Contains (new ∷ keys_of (finite.entries a))) (sym le.0) (contains_first new (keys_of (finite.entries a)))
        ]

-- ---- what a call makes

module _ (g : Graph) (t : ℕ) where
  -- an object weighs no more, or is the new one
  abbrev pub Weighs : Call → Reply → Graph → Type 0
  Weighs asked said h = (n : Name) → (weight (content_at h n) ≤ weight (content_at g n)) ⊎ ((n ≡ next_name g t) × (weight (content_at h n) ≤ words_made asked said))

  same-weighs : (asked : Call) (said : Reply) (h : Graph) → h.objects ≡ g.objects → Weighs asked said h
  same-weighs asked said h e n = inl (let q : weight (get h.objects n) ≡ weight (get g.objects n) = ap (λ o. weight (get o n)) e in omega (arith, q))

  stored-weight : (o : Option Content) → IsSome o → (f : ℕ) (x : Datum) → size_of (Fields (set (fields_or_none o) f x)) ≡ weight o
  stored-weight None some f x = cc
  stored-weight (Some (Fields values)) some f x = ap (λ k. k + OBJECT_WORDS) (length-set values f x)

  put-weighs : (v : Datum) (f : ℕ) (x : Datum) → ((n : Name) → v ≡ datum.Object n → IsSome (content_at g n)) → (n : Name) → weight (content_at (put_field g v f x) n) ≡ weight (content_at g n)
  put-weighs datum.Null f x held n = refl
  put-weighs (datum.Int i) f x held n = refl
  put-weighs (datum.Object m) f x held n =
      elim (same_or_other n m) [
        | inl q ↦ ap (λ k. weight (content_at (put_field g (datum.Object m) f x) k)) q ∙ ap weight (get-same g.objects m (Fields (set (fields_at g (datum.Object m)) f x))) ∙ stored-weight (content_at g m) (held m refl) f x ∙ ap (λ k. weight (content_at g k)) (sym q)
        | inr o ↦ ap weight (get-other g.objects m (Fields (set (fields_at g (datum.Object m)) f x)) n o)
      ]

  made-weighs : (k : ℕ) (h : Graph) → h.objects ≡ finite.insert g.objects (next_name g t) (Fields (replicate k datum.Null)) → Weighs (call.New k) reply.Ok h
  made-weighs k h e n =
      elim (same_or_other n (next_name g t)) [
        | inl q ↦
            let w : weight (content_at h n) ≡ length (replicate k datum.Null) + OBJECT_WORDS = ap (λ o. weight (get o n)) e ∙ ap (λ x. weight (get (finite.insert g.objects (next_name g t) (Fields (replicate k datum.Null))) x)) q ∙ ap weight (get-same g.objects (next_name g t) (Fields (replicate k datum.Null))) in
            inr (q, omega (arith, w, length-replicate k datum.Null))
        | inr o ↦
            let w : weight (content_at h n) ≡ weight (content_at g n) = ap (λ z. weight (get z n)) e ∙ ap weight (get-other g.objects (next_name g t) (Fields (replicate k datum.Null)) n o) in
            inl (omega (arith, w))
      ]

  module _ (thread : IsThread g t) (held : HoldsStacks g) where
    done-weighs : (asked : Call) (said : Reply) (h : Graph) → Does g t asked said h → Weighs asked said h
    done-weighs (call.Int i) said h d = same-weighs (call.Int i) said h (ap (λ (z : Graph). z.objects) d.1)
    done-weighs call.Null said h d = same-weighs call.Null said h (ap (λ (z : Graph). z.objects) d.1)
    done-weighs (call.Dup i) said h d = same-weighs (call.Dup i) said h (ap (λ (z : Graph). z.objects) d.1)
    done-weighs call.Pop said h d = same-weighs call.Pop said h (ap (λ (z : Graph). z.objects) d.1)
    done-weighs (call.New k) said h d =
        elim d [
          | inl ok ↦ subst (λ r. Weighs (call.New k) r h) (sym ok.0) (made-weighs k h (ap (λ (z : Graph). z.objects) ok.1))
          | inr full ↦ same-weighs (call.New k) said h (ap (λ (z : Graph). z.objects) full.1)
        ]
    done-weighs (call.Load i f) said h d = same-weighs (call.Load i f) said h (ap (λ (z : Graph). z.objects) d.1)
    done-weighs (call.Store i f x) said h d = λ n.
        let w : weight (content_at h n) ≡ weight (content_at g n) = ap (λ z. weight (content_at z n)) d.1 ∙ put-weighs (slot_of g t i) f (slot_of g t x) (λ m e. held t m (slot_on_stack g t i m thread e)) n in
        inl (omega (arith, w))
    done-weighs (call.Get i) said h d = same-weighs (call.Get i) said h (ap (λ (z : Graph). z.objects) d.1)
    done-weighs (call.Same i x) said h d = same-weighs (call.Same i x) said h (ap (λ (z : Graph). z.objects) d.1)
    done-weighs call.Begin said h d = same-weighs call.Begin said h (ap (λ (z : Graph). z.objects) d.1)
    done-weighs call.End said h d = same-weighs call.End said h (ap (λ (z : Graph). z.objects) d.1)
    done-weighs call.Collect said h d = same-weighs call.Collect said h (ap (λ (z : Graph). z.objects) d.1)
    done-weighs call.Census said h d = same-weighs call.Census said h (ap (λ (z : Graph). z.objects) d.1)

    answers-weighs : (asked : Call) (said : Reply) (h : Graph) → answers g t asked said h → Weighs asked said h
    answers-weighs asked said h =
        elim (refusal_of g t asked) as (λ o. MatchOption o (Does g t asked said h) (λ why. (said ≡ reply.Refused why) × (h ≡ g)) → Weighs asked said h) [
          | None ↦ λ d. done-weighs asked said h d
          | Some why ↦ λ r. same-weighs asked said h (ap (λ (z : Graph). z.objects) r.1)
        ]

-- ---- what a step makes

module _ (m : Areas) (c : Contents) (s : SpaceState) (h : Stands m c s) where
  -- the next object of a thread isn't there yet
  next-fresh : (t : ℕ) → content_at s.graph (next_name s.graph t) ≡ None
  next-fresh t =
      elim (content_at s.graph (next_name s.graph t)) as (λ o. content_at s.graph (next_name s.graph t) ≡ o → o ≡ None) [
        | None ↦ λ e. refl
        | Some v ↦ λ e. let made : IsMade s.graph (next_name s.graph t) = (state-made m c s h).objects (next_name s.graph t) (ap is_some e) in absurd (omega (arith, made))
      ] refl

  -- a step adds at most the words of the object that it makes
  pub step-weighs : (t : ℕ) (asked : Call) (stepped : Stepped) (after : SpaceState) → TurnsAll s (entries t asked stepped) after → present_words after ≤ present_words s + words_made asked stepped.reply
  step-weighs t asked stepped after turns =
      let f : FollowsCall s.graph.objects s t asked stepped.reply after = follows-step m c s h s.graph.objects (λ n some. refl) t asked stepped after turns in
      let weighs = answers-weighs s.graph t f.moves.0 (holds-stacks m c s h) asked stepped.reply (of_objects after.graph f.next) f.moves.1 in
      grow s.graph.objects after.graph.objects (next_name s.graph t) (words_made asked stepped.reply) (next-fresh t) (λ n. elim (there_or_not after.graph n) [
        | inl some ↦ subst (λ o. (weight o ≤ weight (content_at s.graph n)) ⊎ ((n ≡ next_name s.graph t) × (weight o ≤ words_made asked stepped.reply))) (sym (f.includes n some)) (weighs n)
        | inr none ↦ inl (let w : weight (content_at after.graph n) ≡ 0 = ap weight (nothing (content_at after.graph n) none) in omega (arith, w))
      ])

  -- the words of the objects are those in use
  pub words-used : length c.table ≡ m.pages → present_words s ≡ words_used c.table
  words-used long =
      let pages : List (List Name) = h.places.pages in
      let size : List Name → ℕ = λ (ns : List Name). sum_by (size_by (object_of s)) ns in
      let mark : List ℕ → ℕ = λ (r : List ℕ). get_or r 1 0 in
      let same : (p : ℕ) → p < m.pages → mark (get_or c.table p []) ≡ size (get_or pages p []) = h.stands.heap.marks in
      let count : length pages ≡ m.pages = h.stands.heap.count in
      let up = sums-less size mark [] [] pages c.table (count ∙ sym long) (λ k lt. let q = same k (omega (arith, lt, count)) in omega (arith, q)) in
      let down = sums-less mark size [] [] c.table pages (long ∙ sym count) (λ k lt. let q = same k (omega (arith, lt, long)) in omega (arith, q)) in
      omega (arith, present-paged m c s h, up, down)
