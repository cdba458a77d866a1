-- The words of the objects that a history leaves are no more than those that its calls made.
use Rattle.std.proofs.Common.{◌≡◌, ℕ, ◌+◌, ◌≤◌, Bool, true, false, cond, not, List, [], ◌∷◌, length, set, replicate, refl, sym, ap, ◌∙◌, subst, arith, inl, inr, Option, None, Some, MatchOption, is_some}
use Rattle.std.proofs.lemmas.Bool.{leb-false}
use Rattle.std.proofs.lemmas.List.{length-replicate, length-set}
use Rattle.std.proofs.lemmas.List.Sums.{sum_by-cons}
use Rattle.std.specs.FinMap.{FinMap, empty, entries, entries-insert, entries_sorted, get, get-entries, insert, put}
use Rattle.std.specs.FinMap.Entries.{by_order}
use Rattle.std.specs.List.{Contains, sum_by}
use Rattle.std.specs.declared.cmp.Ordering.TheVariants.{Less, Equal, Greater}
use Rattle.object_layout.specs.declared.names.Name.{Name}
use Rattle.object_layout.specs.declared.calls.Call.{Call}
use Rattle.object_layout.specs.declared.calls.Call.TheVariants as call
use Rattle.object_layout.specs.declared.replies.Refusal.TheVariants as refusal
use Rattle.object_layout.specs.declared.replies.Reply.{Reply}
use Rattle.object_layout.specs.declared.replies.Reply.TheVariants as reply
use Rattle.object_layout.specs.declared.TheConstants.{OBJECT_WORDS}
use Rattle.yak_model.specs.declared.TheConstants.{ROOT_FIELDS}
use Rattle.yak_model.specs.declared.datum.Datum.{Datum}
use Rattle.yak_model.specs.declared.datum.Datum.TheVariants as datum
use Rattle.yak_model.specs.declared.history.Entry.{Entry}
use Rattle.yak_model.specs.declared.history.Entry.TheVariants.{Said, Collected}
use Rattle.yak_model.specs.Graph.{Content, Does, Fields, Graph, answers, fields_at, fields_or_none, first_refusal, is_bad_field, is_bad_slot, is_reference, next_name, put_field, refusal_of, size_of, slot_of, standard_limits}
use Rattle.yak_model.specs.Lawful.{present_words}
use Rattle.yak_model.specs.Names.{name_cmp, root_name}
use Rattle.yak_model.specs.Room.{root_words}
use Rattle.yak_model.specs.Spaces.{KeepsContents, SpaceState, Turns, TurnsAll, content_at, home_of, opening_spaces, spaces}
use Rattle.yak_model.specs.Standing.{words_made}
use Rattle.yak_model.proofs.Names.{get-other, get-same, name_cmp_total, same_or_other}
use Rattle.heap_core.proofs.RoomsNames.{key-found, keys-distinct, keys_of}
use Rattle.heap_core.proofs.RoomsSums.{sum-less}
use Rattle.heap_core.proofs.Weights.{weight, words_in_all}
use Rattle.group_jobs.specs.Followed.{entry_made, made_in}
use Rattle.group_jobs.proofs.Least.{by_names, names_within}
use Rattle.group_jobs.proofs.Nothing.{no_entries}

-- ---- words of objects

some_there : (o : Option Content) → 1 ≤ weight o → (v : Content) × (o ≡ Some v)
some_there None h = absurd (omega (arith, h))
some_there (Some v) h = (v, refl)

heavy : (v : Content) → 1 ≤ size_of v
heavy (Fields values) = omega arith

-- objects that each have no more words have no more together
lighter : (a b : FinMap name_cmp Content) → ((n : Name) → weight (get b n) ≤ weight (get a n)) → words_in_all b ≤ words_in_all a
lighter a b less =
    let names : List Name = keys_of (entries b) in
    let below = sum-less (λ (n : Name). weight (get b n)) (λ (n : Name). weight (get a n)) names (λ n c. less n) in
    let within = names_within a names (keys-distinct (entries b) (entries_sorted b)) (λ n c. some_there (get a n) (let le = less n in let some = there n c in omega arith)) in
    omega (arith, by_names b, below, within)
  where
    there : (n : Name) → Contains (keys_of (entries b)) n → 1 ≤ weight (get b n)
    there n c =
        let found = key-found (entries b) n c in
        subst (λ o. 1 ≤ weight o) (sym (get-entries b n ∙ found.1)) (heavy found.0)

-- an object more
put_weighs : (k : Name) (v : Content) (es : List (Name × Content)) → sum_by (λ (e : Name × Content). size_of e.1) (put name_cmp k v es) ≤ sum_by (λ (e : Name × Content). size_of e.1) es + size_of v
put_weighs k v [] = omega arith
put_weighs k v (e ∷ es) =
    let f : Name × Content → ℕ = λ (p : Name × Content). size_of p.1 in
    let rest = put_weighs k v es in
    let here = sum_by-cons f e es in
    elim (name_cmp k e.0) as (λ o. sum_by f (by_order o ((k, v) ∷ e ∷ es) ((e.0, v) ∷ es) (e ∷ put name_cmp k v es)) ≤ sum_by f (e ∷ es) + size_of v) [
      | Less ↦ omega (arith, sum_by-cons f (k, v) (e ∷ es))
      | Equal ↦ omega (arith, here, sum_by-cons f (e.0, v) es)
      | Greater ↦ omega (arith, here, rest, sum_by-cons f e (put name_cmp k v es))
    ]

inserted : (a : FinMap name_cmp Content) (k : Name) (v : Content) → words_in_all (insert a k v) ≤ words_in_all a + size_of v
inserted a k v = subst (λ es. sum_by (λ (e : Name × Content). size_of e.1) es ≤ words_in_all a + size_of v) (sym (entries-insert name_cmp_total a k v)) (put_weighs k v (entries a))

-- ---- one call

module _ (g : Graph) (t : ℕ) where
  -- The call left no more than the words that it made beside those that were there.
  abbrev Weighs : Call → Reply → Graph → Type 0
  Weighs asked said h = words_in_all h.objects ≤ words_in_all g.objects + words_made asked said

  same_weighs : (asked : Call) (said : Reply) (h : Graph) → h.objects ≡ g.objects → Weighs asked said h
  same_weighs asked said h e = let same = ap words_in_all e in omega arith

  made_weighs : (k : ℕ) (said : Reply) (h : Graph) → Does g t (call.New k) said h → Weighs (call.New k) said h
  made_weighs k said h (inl done) =
      let more = inserted g.objects (next_name g t) (Fields (replicate k datum.Null)) in
      let is = ap (λ (x : Graph). words_in_all x.objects) done.1 in
      let size = length-replicate k datum.Null in
      let words = ap (words_made (call.New k)) done.0 in
      omega arith
  made_weighs k said h (inr full) = same_weighs (call.New k) said h (ap (λ (x : Graph). x.objects) full.1)

  -- ---- a field that is written

  stored_weight : (o : Option Content) (f : ℕ) (x : Datum) → 1 ≤ length (fields_or_none o) → size_of (Fields (set (fields_or_none o) f x)) ≡ weight o
  stored_weight None f x some = absurd (omega (arith, some))
  stored_weight (Some (Fields values)) f x some = ap (λ k. k + OBJECT_WORDS) (length-set values f x)

  put_lighter : (v : Datum) (f : ℕ) (x : Datum) → 1 ≤ length (fields_at g v) → (n : Name) → weight (get (put_field g v f x).objects n) ≤ weight (get g.objects n)
  put_lighter datum.Null f x some n = omega arith
  put_lighter (datum.Int i) f x some n = omega arith
  put_lighter (datum.Object m) f x some n =
      let v : Content = Fields (set (fields_at g (datum.Object m)) f x) in
      elim (same_or_other n m) [
        | inl same ↦
            let now : weight (get (insert g.objects m v) n) ≡ size_of v = ap (λ k. weight (get (insert g.objects m v) k)) same ∙ ap weight (get-same g.objects m v) in
            let was : weight (get g.objects n) ≡ weight (get g.objects m) = ap (λ k. weight (get g.objects k)) same in
            let size = stored_weight (get g.objects m) f x some in
            omega arith
        | inr other ↦ let is = ap weight (get-other g.objects m v n other) in omega arith
      ]

  last_passed : (a b c d : Bool) → first_refusal ((a, refusal.BadSlot) ∷ (b, refusal.BadSlot) ∷ (c, refusal.NotAReference) ∷ (d, refusal.BadField) ∷ []) ≡ None → d ≡ false
  last_passed true b c d e = cc
  last_passed false true c d e = cc
  last_passed false false true d e = cc
  last_passed false false false true e = cc
  last_passed false false false false e = refl

  stored_weighs : (i f x : ℕ) (said : Reply) (h : Graph) → refusal_of g t (call.Store i f x) ≡ None → h ≡ put_field g (slot_of g t i) f (slot_of g t x) → Weighs (call.Store i f x) said h
  stored_weighs i f x said h none is =
      let within = leb-false (length (fields_at g (slot_of g t i))) f (last_passed (is_bad_slot g t i) (is_bad_slot g t x) (not (is_reference (slot_of g t i))) (is_bad_field g t i f) none) in
      let less = lighter g.objects (put_field g (slot_of g t i) f (slot_of g t x)).objects (put_lighter (slot_of g t i) f (slot_of g t x) (omega (arith, within))) in
      let now = ap (λ (y : Graph). words_in_all y.objects) is in
      omega arith

  -- ---- any call

  done_weighs : (asked : Call) (said : Reply) (h : Graph) → refusal_of g t asked ≡ None → Does g t asked said h → Weighs asked said h
  done_weighs (call.Int i) said h none d = same_weighs (call.Int i) said h (ap (λ (x : Graph). x.objects) d.1)
  done_weighs call.Null said h none d = same_weighs call.Null said h (ap (λ (x : Graph). x.objects) d.1)
  done_weighs (call.Dup i) said h none d = same_weighs (call.Dup i) said h (ap (λ (x : Graph). x.objects) d.1)
  done_weighs call.Pop said h none d = same_weighs call.Pop said h (ap (λ (x : Graph). x.objects) d.1)
  done_weighs (call.New k) said h none d = made_weighs k said h d
  done_weighs (call.Load i f) said h none d = same_weighs (call.Load i f) said h (ap (λ (x : Graph). x.objects) d.1)
  done_weighs (call.Store i f x) said h none d = stored_weighs i f x said h none d.1
  done_weighs (call.Get i) said h none d = same_weighs (call.Get i) said h (ap (λ (x : Graph). x.objects) d.1)
  done_weighs (call.Same i x) said h none d = same_weighs (call.Same i x) said h (ap (λ (x : Graph). x.objects) d.1)
  done_weighs call.Begin said h none d = same_weighs call.Begin said h (ap (λ (x : Graph). x.objects) d.1)
  done_weighs call.End said h none d = same_weighs call.End said h (ap (λ (x : Graph). x.objects) d.1)
  done_weighs call.Collect said h none d = same_weighs call.Collect said h (ap (λ (x : Graph). x.objects) d.1)
  done_weighs call.Census said h none d = same_weighs call.Census said h (ap (λ (x : Graph). x.objects) d.1)

  answers_weigh : (asked : Call) (said : Reply) (h : Graph) → answers g t asked said h → Weighs asked said h
  answers_weigh asked said h =
      elim (refusal_of g t asked) as (λ o. refusal_of g t asked ≡ o → MatchOption o (Does g t asked said h) (λ why. (said ≡ reply.Refused why) × (h ≡ g)) → Weighs asked said h) [
        | None ↦ λ none d. done_weighs asked said h none d
        | Some why ↦ λ _ r. same_weighs asked said h (ap (λ (x : Graph). x.objects) r.1)
      ] refl

-- ---- a history

-- what is kept has no more words
kept_lighter : (s after : SpaceState) → KeepsContents s after → present_words after ≤ present_words s
kept_lighter s after keeps = lighter s.graph.objects after.graph.objects (λ n. at (is_some (home_of after n)) n (keeps n))
  where
    at : (b : Bool) (n : Name) → content_at after.graph n ≡ cond b (content_at s.graph n) None → weight (content_at after.graph n) ≤ weight (content_at s.graph n)
    at true n e = let is = ap weight e in omega arith
    at false n e = let is = ap weight e in omega arith

turn_weighs : (s after : SpaceState) (x : Entry) → Turns s x after → present_words after ≤ present_words s + entry_made x
turn_weighs s after (Said u call.End (reply.Ended moved tight)) turned = let less = kept_lighter s after turned.1.contents in omega arith
turn_weighs s after (Said u call.Collect reply.Ok) turned = let less = kept_lighter s after turned.1.contents in omega arith
turn_weighs s after (Said u asked said) turned = answers_weigh s.graph u asked said after.graph turned.1
turn_weighs s after (Collected u) turned = let less = kept_lighter s after turned.1.contents in omega arith

turns_weigh : (list : List Entry) (s after : SpaceState) → TurnsAll s list after → present_words after ≤ present_words s + made_in list
turns_weigh [] s after turned = let same = ap present_words turned in omega arith
turns_weigh (x ∷ list) s after (mid, turned, rest) =
    let first = turn_weighs s mid x turned in
    let later = turns_weigh list mid after rest in
    let sum = sum_by-cons entry_made x list in
    omega arith

pub present_opening : (threads : ℕ) → present_words (opening_spaces standard_limits threads) ≡ root_words
present_opening threads =
    ap (sum_by (λ (e : Name × Content). size_of e.1)) (entries-insert name_cmp_total empty root_name (Fields (replicate ROOT_FIELDS datum.Null)) ∙ ap (put name_cmp root_name (Fields (replicate ROOT_FIELDS datum.Null))) (no_entries name_cmp Content))

-- The words that are there are at most the root's and those of the objects that the calls made.
pub history_weighs : (threads : ℕ) (history : List Entry) (s : SpaceState) → spaces standard_limits threads history s → present_words s ≤ root_words + made_in history
history_weighs threads history s turned =
    let more = turns_weigh history (opening_spaces standard_limits threads) s turned in
    let first = present_opening threads in
    omega arith
