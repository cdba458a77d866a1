-- What always holds of a graph with its list of homes, after each step.
use Rattle.std.proofs.Common.{◌≡◌, ◌≢◌, ◌⊎◌, ℕ, zero, suc, ◌+◌, ◌-◌, ◌<◌, ◌≤◌, List, [], ◌∷◌, ◌++◌, Bool, true, false, not, true≢false, cond, leb, leb-true, get_or-set_same, length, ltb, ltb-false, get_or, set, replicate, map, refl, ◌∙◌, arith, ap, sym, subst, inl, inr, Option, Some, None, is_some, MatchOption, length-set, length-append, leb-false}
use Rattle.std.proofs.lemmas.List.{get_or_push, get_or_append_left, length-replicate}
use Rattle.std.proofs.lemmas.List.Sums.{sum_by-cons, sum_by-set}
use Rattle.std.specs.List.{sum_by}
use Rattle.std.specs.FinMap.{find, get, insert, from_entries, from_entries_push}
use Rattle.object_layout.specs.declared.names.Name.{Name}
use Rattle.object_layout.specs.declared.TheConstants.{MAX_SERIAL, OBJECT_WORDS, PAGE_WORDS}
use Rattle.object_layout.specs.declared.calls.Call.{Call}
use Rattle.object_layout.specs.declared.calls.Call.TheVariants as call
use Rattle.object_layout.specs.declared.replies.Refusal.{Refusal}
use Rattle.object_layout.specs.declared.replies.Refusal.TheVariants as refusal
use Rattle.object_layout.specs.declared.replies.Reply.{Reply}
use Rattle.object_layout.specs.declared.replies.Reply.TheVariants as reply
use Rattle.epoch_lattice.specs.declared.Space.{Space}
use Rattle.epoch_lattice.specs.declared.TheConstants.{MAX_DEPTH, MAX_THREADS}
use Rattle.epoch_lattice.specs.Lattice.{IsValid, inner_of}
use Rattle.yak_model.specs.declared.datum.Datum.{Datum}
use Rattle.yak_model.specs.declared.datum.Datum.TheVariants as datum
use Rattle.yak_model.specs.declared.homes.Home.{Home}
use Rattle.yak_model.specs.Names.{name_cmp}
use Rattle.yak_model.specs.Graph.{Content, Does, Fields, Graph, IsThread, Limits, Thread, answers, fields_at, fields_or_none, first_refusal, idle, is_bad_field, is_bad_slot, is_reference, is_stack_full, make, next_name, push, put_field, refusal_of, slot_of, stack_of, standard_limits, thread_of, with_depth, with_object, with_thread}
use Rattle.yak_model.specs.Machine.{IsSound, all_made, home_name, homes_map, no_home, size_at}
use Rattle.yak_model.specs.Private.{IsMade}
use Rattle.yak_model.specs.Spaces.{content_at, innermost}
use Rattle.yak_model.proofs.Lists.{set_cases}
use Rattle.yak_model.proofs.Made.{made_grows}
use Rattle.yak_model.proofs.Names.{find_other, get-other, get-same, name_cmp-IsAntisymmetric, name_cmp_total, same_or_other}

-- what a call keeps that makes no object
pub record Keeps (g h : Graph) : Type 0 where
  pub limits : h.limits ≡ g.limits
  pub threads : length h.threads ≡ length g.threads
  pub depths : ((w : ℕ) → (thread_of g w).depth ≤ MAX_DEPTH) → (w : ℕ) → (thread_of h w).depth ≤ MAX_DEPTH
  pub present : (name : Name) → is_some (content_at h name) ≡ is_some (content_at g name)
  pub made : (w : ℕ) → (thread_of g w).made ≤ (thread_of h w).made
  pub fits : ((n : Name) → size_at g n ≤ PAGE_WORDS) → (n : Name) → size_at h n ≤ PAGE_WORDS
  pub serials : ((w : ℕ) → (thread_of g w).made ≤ MAX_SERIAL) → (w : ℕ) → (thread_of h w).made ≤ MAX_SERIAL
  pub all : all_made g ≤ all_made h

pub keeps_itself : (g : Graph) → Keeps g g
keeps_itself g = record {
  limits = refl;
  threads = refl;
  depths = λ d. d;
  present = λ n. refl;
  made = λ w. omega arith;
  fits = λ f. f;
  serials = λ s. s;
  all = omega arith;
}

-- one thread made more
all_grows : (threads : List Thread) (i : ℕ) (state : Thread) → (get_or threads i idle).made ≤ state.made
    → sum_by (λ (t : Thread). t.made) threads ≤ sum_by (λ (t : Thread). t.made) (set threads i state)
all_grows [] i state le = omega arith
all_grows (x ∷ rest) zero state le = omega (arith, le, sum_by-cons (λ (t : Thread). t.made) x rest, sum_by-cons (λ (t : Thread). t.made) state rest)
all_grows (x ∷ rest) (suc i) state le =
    omega (arith, all_grows rest i state le, sum_by-cons (λ (t : Thread). t.made) x rest, sum_by-cons (λ (t : Thread). t.made) x (set rest i state))

pub keeps_sound : (g h : Graph) (homes : List Home) → IsSound g homes → Keeps g h → IsSound h homes
keeps_sound g h homes sound keeps = record {
  limits = keeps.limits ∙ sound.limits;
  threads = omega (arith, keeps.threads, sound.threads);
  depths = keeps.depths sound.depths;
  distinct = sound.distinct;
  valid = sound.valid;
  present = λ n. keeps.present n ∙ sound.present n;
  made = λ i lt. omega (arith, sound.made i lt, keeps.made (home_name homes i).thread);
  fits = keeps.fits sound.fits;
  serials = keeps.serials sound.serials;
  few = omega (arith, sound.few, keeps.all);
}

abbrev no_refusal : Option Refusal
no_refusal = None

cond_none : (b : Bool) (why : Refusal) (o : Option Refusal) → cond b (Some why) o ≡ None → (b ≡ false) × (o ≡ None)
cond_none true why o e = absurd (true≢false (ap is_some e))
cond_none false why o e = (refl, e)

module _ (g : Graph) (u : ℕ) where
  -- a thread has another stack or depth
  thread_keeps : (state : Thread) → (thread_of g u).made ≤ state.made → (((w : ℕ) → (thread_of g w).depth ≤ MAX_DEPTH) → state.depth ≤ MAX_DEPTH)
      → (((w : ℕ) → (thread_of g w).made ≤ MAX_SERIAL) → state.made ≤ MAX_SERIAL) → Keeps g (with_thread g u state)
  thread_keeps state le deep most = record {
    limits = refl;
    threads = length-set g.threads (u - 1) state;
    depths = λ d w. elim (set_cases g.threads (u - 1) (w - 1) state idle) [
      | inl e ↦ omega (arith, deep d, ap (λ (x : Thread). x.depth) e)
      | inr e ↦ omega (arith, d w, ap (λ (x : Thread). x.depth) e)
    ];
    present = λ n. refl;
    made = λ w. made_grows g u w state le;
    fits = λ f. f;
    serials = λ s w. elim (set_cases g.threads (u - 1) (w - 1) state idle) [
      | inl e ↦ omega (arith, most s, ap (λ (x : Thread). x.made) e)
      | inr e ↦ omega (arith, s w, ap (λ (x : Thread). x.made) e)
    ];
    all = all_grows g.threads (u - 1) state le;
  }

  push_keeps : (v : Datum) → Keeps g (push g u v)
  push_keeps v = thread_keeps _ (omega arith) (λ d. d u) (λ s. s u)

  pub depth_keeps : (depth : ℕ) → (((w : ℕ) → (thread_of g w).depth ≤ MAX_DEPTH) → depth ≤ MAX_DEPTH) → Keeps g (with_depth g u depth)
  depth_keeps depth deep = thread_keeps _ (omega arith) deep (λ s. s u)

  put_keeps : (v : Datum) (f : ℕ) (x : Datum) → f < length (fields_at g v) → Keeps g (put_field g v f x)
  put_keeps datum.Null f x lt = keeps_itself g
  put_keeps (datum.Int y) f x lt = keeps_itself g
  put_keeps (datum.Object m) f x lt = record {
    limits = refl;
    threads = refl;
    depths = λ d. d;
    present = λ n. elim (same_or_other n m) [
      | inl q ↦ ap is_some (ap (get (insert g.objects m now)) q ∙ get-same g.objects m now) ∙ sym (ap (λ k. is_some (get g.objects k)) q ∙ there (get g.objects m) lt)
      | inr o ↦ ap is_some (get-other g.objects m now n o)
    ];
    made = λ w. omega arith;
    fits = λ fit n. elim (same_or_other n m) [
      | inl q ↦
          let size : size_at (put_field g (datum.Object m) f x) n ≡ size_at g m =
          ap (λ (k : Name). length (fields_or_none (get (insert g.objects m now) k)) + OBJECT_WORDS) q
          ∙ ap (λ (o : Option Content). length (fields_or_none o) + OBJECT_WORDS) (get-same g.objects m now)
          ∙ ap (λ (k : ℕ). k + OBJECT_WORDS) (length-set (fields_at g (datum.Object m)) f x) in
          omega (arith, size, fit m)
      | inr o ↦
          let size : size_at (put_field g (datum.Object m) f x) n ≡ size_at g n = ap (λ (c : Option Content). length (fields_or_none c) + OBJECT_WORDS) (get-other g.objects m now n o) in
          omega (arith, size, fit n)
    ];
    serials = λ s. s;
    all = omega arith;
  }
    where
      now : Content
      now = Fields (set (fields_at g (datum.Object m)) f x)

      there : (o : Option Content) → f < length (fields_or_none o) → is_some o ≡ true
      there None h = absurd (omega (arith, h))
      there (Some c) h = refl

  call_keeps : g.limits ≡ standard_limits → (asked : Call) (said : Reply) (h : Graph) → ((k : ℕ) → asked ≡ call.New k → said ≢ reply.Ok) → refusal_of g u asked ≡ None → Does g u asked said h → Keeps g h
  call_keeps limits (call.Int i) said h other free d = subst (Keeps g) (sym d.1) (push_keeps (datum.Int i))
  call_keeps limits call.Null said h other free d = subst (Keeps g) (sym d.1) (push_keeps datum.Null)
  call_keeps limits (call.Dup s) said h other free d = subst (Keeps g) (sym d.1) (push_keeps (slot_of g u s))
  call_keeps limits call.Pop said h other free d = subst (Keeps g) (sym d.1) (thread_keeps _ (omega arith) (λ e. e u) (λ s. s u))
  call_keeps limits (call.New k) said h other free d =
      elim d [ inl ok ↦ absurd (other k refl ok.0) | inr full ↦ subst (Keeps g) (sym full.1) (keeps_itself g) ]
  call_keeps limits (call.Load s f) said h other free d = subst (Keeps g) (sym d.1) (push_keeps _)
  call_keeps limits (call.Store s f x) said h other free d =
      let field = first_refusal ((is_bad_field g u s f, refusal.BadField) ∷ []) in
      let value = cond (not (is_reference (slot_of g u s))) (Some refusal.NotAReference) field in
      let slot = cond (is_bad_slot g u x) (Some refusal.BadSlot) value in
      let a : (is_bad_slot g u s ≡ false) × (slot ≡ None) = cond_none (is_bad_slot g u s) refusal.BadSlot slot free in
      let b : (is_bad_slot g u x ≡ false) × (value ≡ None) = cond_none (is_bad_slot g u x) refusal.BadSlot value a.1 in
      let c : (not (is_reference (slot_of g u s)) ≡ false) × (field ≡ None) = cond_none (not (is_reference (slot_of g u s))) refusal.NotAReference field b.1 in
      let e : (is_bad_field g u s f ≡ false) × (no_refusal ≡ None) = cond_none (is_bad_field g u s f) refusal.BadField no_refusal c.1 in
      subst (Keeps g) (sym d.1) (put_keeps (slot_of g u s) f (slot_of g u x) (leb-false _ _ e.0))
  call_keeps limits (call.Get s) said h other free d = subst (Keeps g) (sym d.1) (keeps_itself g)
  call_keeps limits (call.Same s x) said h other free d = subst (Keeps g) (sym d.1) (keeps_itself g)
  call_keeps limits call.Begin said h other free d =
      let e : (leb g.limits.depth (thread_of g u).depth ≡ false) × (no_refusal ≡ None) = cond_none (leb g.limits.depth (thread_of g u).depth) refusal.TooDeep no_refusal free in
      let lt : (thread_of g u).depth < g.limits.depth = leb-false _ _ e.0 in
      let most : g.limits.depth ≡ MAX_DEPTH = ap (λ (l : Limits). l.depth) limits in
      subst (Keeps g) (sym d.1) (depth_keeps _ (λ _. omega arith))
  call_keeps limits call.End said h other free d = subst (Keeps g) (sym d.1) (depth_keeps _ (λ e. omega (arith, e u)))
  call_keeps limits call.Collect said h other free d = subst (Keeps g) (sym d.1) (keeps_itself g)
  call_keeps limits call.Census said h other free d = subst (Keeps g) (sym d.1) (keeps_itself g)

  pub answers_keep : g.limits ≡ standard_limits → (asked : Call) (said : Reply) (h : Graph) → ((k : ℕ) → asked ≡ call.New k → said ≢ reply.Ok) → answers g u asked said h → Keeps g h
  answers_keep limits asked said h other =
      elim (refusal_of g u asked) as (λ o. refusal_of g u asked ≡ o → MatchOption o (Does g u asked said h) (λ why. (said ≡ reply.Refused why) × (h ≡ g)) → Keeps g h) [
        | None ↦ λ e d. call_keeps limits asked said h other e d
        | Some why ↦ λ e r. subst (Keeps g) (sym r.1) (keeps_itself g)
      ] refl

-- the innermost space of a thread is one that a heap can have
pub inner_valid : (t depth : ℕ) → 1 ≤ t → t ≤ MAX_THREADS → depth ≤ MAX_DEPTH → IsValid MAX_DEPTH (inner_of t depth)
inner_valid t zero a b c = tt
inner_valid t (suc d) a b c = (a, b, omega arith, c)

-- the names of a list of homes with their spaces
abbrev pub pairs : List Home → List (Name × Space)
pairs homes = map (λ (h : Home). (h.name, h.space)) homes

-- no home has a name that isn't on the list
absent_home : (homes : List Home) (name : Name) → ((i : ℕ) → i < length homes → home_name homes i ≢ name) → find name_cmp name (pairs homes) ≡ None
absent_home [] name h = refl
absent_home (x ∷ rest) name h =
    find_other name x.name x.space (pairs rest) (λ e. h 0 (omega arith) (sym e)) ∙ absent_home rest name (λ i lt. h (suc i) (omega arith))

-- a page has room for an object of so many fields, and the thread's next name isn't spent
pub record HasRoom (g : Graph) (t k : ℕ) : Type 0 where
  pub short : k + OBJECT_WORDS ≤ PAGE_WORDS
  pub unspent : (thread_of g t).made < MAX_SERIAL

pub room_of : (g : Graph) (t k : ℕ) → g.limits ≡ standard_limits → refusal_of g t (call.New k) ≡ None → HasRoom g t k
room_of g t k limits free =
    let spent = first_refusal ((leb MAX_SERIAL (thread_of g t).made, refusal.NamesSpent) ∷ []) in
    let full = cond (is_stack_full g t) (Some refusal.StackFull) spent in
    let a : (ltb (g.limits.page - OBJECT_WORDS) k ≡ false) × (full ≡ None) = cond_none (ltb (g.limits.page - OBJECT_WORDS) k) refusal.TooLong full free in
    let b : (is_stack_full g t ≡ false) × (spent ≡ None) = cond_none (is_stack_full g t) refusal.StackFull spent a.1 in
    let c : (leb MAX_SERIAL (thread_of g t).made ≡ false) × (no_refusal ≡ None) = cond_none (leb MAX_SERIAL (thread_of g t).made) refusal.NamesSpent no_refusal b.1 in
    let page : g.limits.page ≡ PAGE_WORDS = ap (λ (l : Limits). l.page) limits in
    let short : k ≤ g.limits.page - OBJECT_WORDS = ltb-false _ _ a.0 in
    record { short = omega (arith, short, page); unspent = leb-false _ _ c.0 }

module _ (g : Graph) (homes : List Home) (sound : IsSound g homes) (t : ℕ) (thread : IsThread g t) (k : ℕ) where
  abbrev new : Name
  new = next_name g t

  abbrev made_home : Home
  made_home = record { name = new; space = innermost g t }

  fresh : (i : ℕ) → i < length homes → home_name homes i ≢ new
  fresh i lt e = absurd (omega (arith, subst (IsMade g) e (sound.made i lt)))

  pub homes_grow : homes_map (homes ++ made_home ∷ []) ≡ insert (homes_map homes) new (innermost g t)
  homes_grow =
      ap from_entries (pairs_append homes)
      ∙ from_entries_push name_cmp_total name_cmp-IsAntisymmetric (pairs homes) new (innermost g t) (absent_home homes new fresh)
    where
      pairs_append : (xs : List Home) → pairs (xs ++ made_home ∷ []) ≡ pairs xs ++ (new, innermost g t) ∷ []
      pairs_append [] = refl
      pairs_append (x ∷ xs) = ap (λ (l : List (Name × Space)). (x.name, x.space) ∷ l) (pairs_append xs)

  -- the home at a place of the longer list
  at_old : (i : ℕ) → i < length homes → get_or (homes ++ made_home ∷ []) i no_home ≡ get_or homes i no_home
  at_old i lt = get_or_append_left homes (made_home ∷ []) no_home i lt

  at_new : (i : ℕ) → length homes ≡ i → get_or (homes ++ made_home ∷ []) i no_home ≡ made_home
  at_new i e = get_or_push homes made_home no_home i e

  place_cases : (i : ℕ) → i < length (homes ++ made_home ∷ []) → (i < length homes) ⊎ (length homes ≡ i)
  place_cases i lt =
      elim (leb (length homes) i) as (λ b. leb (length homes) i ≡ b → (i < length homes) ⊎ (length homes ≡ i)) [
        | true ↦ λ e. inr (omega (arith, leb-true _ _ e, length-append homes (made_home ∷ [])))
        | false ↦ λ e. inl (leb-false _ _ e)
      ] refl

  abbrev made_thread : Thread
  made_thread = record (thread_of g t) { stack = stack_of g t ++ datum.Object new ∷ []; made = (thread_of g t).made + 1 }

  abbrev with_new : Graph
  with_new = with_object g new (Fields (replicate k datum.Null))

  module _ (room : HasRoom g t k) where
    made_keeps : Keeps with_new (make g t k)
    made_keeps = thread_keeps with_new t made_thread (omega arith) (λ d. d t) (λ s. omega (arith, room.unspent))

    new_fits : (n : Name) → size_at with_new n ≤ PAGE_WORDS
    new_fits n =
        elim (same_or_other n new) [
          | inl q ↦
              let size : size_at with_new n ≡ k + OBJECT_WORDS =
              ap (λ (m : Name). length (fields_or_none (get (insert g.objects new (Fields (replicate k datum.Null))) m)) + OBJECT_WORDS) q
              ∙ ap (λ (o : Option Content). length (fields_or_none o) + OBJECT_WORDS) (get-same g.objects new (Fields (replicate k datum.Null)))
              ∙ ap (λ (m : ℕ). m + OBJECT_WORDS) (length-replicate k datum.Null) in
              omega (arith, size, room.short)
          | inr o ↦
              let size : size_at with_new n ≡ size_at g n = ap (λ (c : Option Content). length (fields_or_none c) + OBJECT_WORDS) (get-other g.objects new (Fields (replicate k datum.Null)) n o) in
              omega (arith, size, sound.fits n)
        ]

    one_more : all_made (make g t k) ≡ all_made g + 1
    one_more =
        let e = sum_by-set (λ (x : Thread). x.made) g.threads (t - 1) made_thread idle (omega (arith, thread.0, thread.1)) in
        omega (arith, e)

    still_made : (n : Name) → IsMade g n → IsMade (make g t k) n
    still_made n h = omega (arith, h, made_keeps.made n.thread)

    new_made : IsMade (make g t k) new
    new_made =
        let e : thread_of (make g t k) t ≡ made_thread = get_or-set_same g.threads (t - 1) made_thread idle (omega (arith, thread.0, thread.1)) in
        omega (arith, ap (λ (x : Thread). x.made) e)

    -- a new object
    pub make_sound : IsSound (make g t k) (homes ++ made_home ∷ [])
    make_sound = record {
      limits = sound.limits;
      threads = omega (arith, made_keeps.threads, sound.threads);
      depths = made_keeps.depths sound.depths;
      distinct = λ i j lt lu e. elim (place_cases i lt) [
        | inl x ↦ elim (place_cases j lu) [
          | inl y ↦ sound.distinct i j x y (ap (λ (h : Home). h.name) (sym (at_old i x)) ∙ e ∙ ap (λ (h : Home). h.name) (at_old j y))
          | inr y ↦ absurd (fresh i x (ap (λ (h : Home). h.name) (sym (at_old i x)) ∙ e ∙ ap (λ (h : Home). h.name) (at_new j y)))
        ]
        | inr x ↦ elim (place_cases j lu) [
          | inl y ↦ absurd (fresh j y (ap (λ (h : Home). h.name) (sym (at_old j y)) ∙ sym e ∙ ap (λ (h : Home). h.name) (at_new i x)))
          | inr y ↦ sym x ∙ y
        ]
      ];
      valid = λ i lt. elim (place_cases i lt) [
        | inl x ↦ subst (λ (h : Home). IsValid MAX_DEPTH h.space) (sym (at_old i x)) (sound.valid i x)
        | inr x ↦ subst (λ (h : Home). IsValid MAX_DEPTH h.space) (sym (at_new i x)) (inner_valid t _ thread.0 (omega (arith, thread.1, sound.threads)) (sound.depths t))
      ];
      present = λ n. elim (same_or_other n new) [
        | inl q ↦ ap (λ m. is_some (get (insert g.objects new (Fields (replicate k datum.Null))) m)) q ∙ ap is_some (get-same g.objects new _)
            ∙ sym (ap is_some (ap (λ m. get m n) homes_grow ∙ ap (get (insert (homes_map homes) new (innermost g t))) q ∙ get-same (homes_map homes) new _))
        | inr o ↦ ap is_some (get-other g.objects new _ n o) ∙ sound.present n
            ∙ sym (ap is_some (ap (λ m. get m n) homes_grow ∙ get-other (homes_map homes) new _ n o))
      ];
      made = λ i lt. elim (place_cases i lt) [
        | inl x ↦ subst (λ (h : Home). IsMade (make g t k) h.name) (sym (at_old i x)) (still_made _ (sound.made i x))
        | inr x ↦ subst (λ (h : Home). IsMade (make g t k) h.name) (sym (at_new i x)) new_made
      ];
      fits = made_keeps.fits new_fits;
      serials = made_keeps.serials sound.serials;
      few = omega (arith, sound.few, one_more, length-append homes (made_home ∷ []));
    }
