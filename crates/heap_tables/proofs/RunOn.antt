-- Runs of calls, one after another.
use Rattle.std.proofs.Common.{◌≡◌, ℕ, ◌+◌, ◌-◌, ◌^◌, min, List, [], ◌++◌, refl, ◌∙◌, arith, ap, sym, subst, Option, Some, None}
use Rattle.std.proofs.lemmas.List.{append_assoc, append-nil}
use Rattle.std.proofs.lemmas.List.Elements.{All-append, All-nil}
use Rattle.yak_model.specs.Graph.{Thread}
use Rattle.yak_model.specs.declared.history.Entry.{Entry}
use Rattle.yak_model.specs.Private.{KnownObjects}
use Rattle.yak_model.specs.Standing.{Standing, Stays, counted_on}
use Rattle.heap_tables.specs.Runs.{next_of, GrowsPlainly, IsPlainEntry, Ran, RanOut, Since}

counted-cases : (a b c v w M : ℕ) → min (b + 0) M ≡ min (a + v) M → min (c + 0) M ≡ min (b + w) M → min (c + 0) M ≡ min (a + (v + w)) M
counted-cases a b c v w M r q = omega (arith, r, q)

counted-twice : (a b c v w : ℕ) → counted_on b 0 ≡ counted_on a v → counted_on c 0 ≡ counted_on b w → counted_on c 0 ≡ counted_on a (v + w)
counted-twice a b c v w r q = counted-cases a b c v w (2 ^ 64 - 1) r q

plain-none : (t : ℕ) (a : Option (List Entry)) → GrowsPlainly t a a
plain-none t None = refl
plain-none t (Some list) = ([], ap Some (sym (append-nil list)), All-nil (IsPlainEntry t))

plain-more : (t u : ℕ) (a b c : Option (List Entry)) → u ≡ t → GrowsPlainly t a b → GrowsPlainly u b c → GrowsPlainly t a c
plain-more t u None b c e g h = let h2 : GrowsPlainly u None c = subst (λ o. GrowsPlainly u o c) g h in h2
plain-more t u (Some list) b c e g h =
    let h1 : GrowsPlainly t b c = subst (λ v. GrowsPlainly v b c) e h in
    let h2 : GrowsPlainly t (Some (list ++ g.0)) c = subst (λ o. GrowsPlainly t o c) g.1 h1 in
    (g.0 ++ h2.0, h2.1 ∙ ap Some (append_assoc list g.0 h2.0), All-append (IsPlainEntry t) g.0 h2.0 g.2 h2.2)

since-more : (a b c : Standing) (v w : ℕ) → Since a b v → Since b c w → Since a c (v + w)
since-more a b c v w r q = record {
  thread = q.thread ∙ r.thread;
  limits = q.limits ∙ r.limits;
  depth = q.depth ∙ r.depth;
  words_made = counted-twice a.words b.words c.words v w r.words_made q.words_made;
  list = plain-more a.thread b.thread a.list b.list c.list r.thread r.list q.list;
}

module _ {S B : Type 0} (base : S → B) (tells : S → ℕ → Thread → Type 0) (tells_known : S → ℕ → KnownObjects → Type 0) (standing : S → Standing) where
  stays-more : (a b c : S) → Stays base tells tells_known a b → Stays base tells tells_known b c → Stays base tells tells_known a c
  stays-more a b c r q = (q.0 ∙ r.0, λ t o h. q.1 t o (r.1 t o h), λ t k h. q.2 t k (r.2 t k h))

  -- objects of v words, and then of w
  pub ran_then : (a b c : S) (v w : ℕ) → Ran base tells tells_known standing a b v → Ran base tells tells_known standing b c w → Ran base tells tells_known standing a c (v + w)
  ran_then a b c v w r q = record {
    stays = stays-more a b c r.stays q.stays;
    since = since-more (standing a) (standing b) (standing c) v w r.since q.since;
    quiet = record { refusals = q.quiet.refusals ∙ r.quiet.refusals; last = q.quiet.last ∙ r.quiet.last };
  }

  -- no objects
  pub ran_more : (a b c : S) → Ran base tells tells_known standing a b 0 → Ran base tells tells_known standing b c 0 → Ran base tells tells_known standing a c 0
  ran_more a b c r q = ran_then a b c 0 0 r q

  -- objects of v words, and then a refusal
  pub ran_out : (a b c : S) (v w k : ℕ) → Ran base tells tells_known standing a b v → RanOut base tells tells_known standing b c w k → RanOut base tells tells_known standing a c (v + w) k
  ran_out a b c v w k r q = record {
    stays = stays-more a b c r.stays q.stays;
    since = since-more (standing a) (standing b) (standing c) v w r.since q.since;
    refused = record {
      refusals = q.refused.refusals ∙ ap (λ n. counted_on n 1) r.quiet.refusals;
      census = q.refused.census;
      none_free = q.refused.none_free;
      last = q.refused.last ∙ ap (λ d. Some (q.refused.census, d, k + 3)) r.since.depth;
    };
  }

  -- a refusal, and then no more objects and no refusal
  pub out_then : (a b c : S) (v k : ℕ) → RanOut base tells tells_known standing a b v k → Ran base tells tells_known standing b c 0 → RanOut base tells tells_known standing a c v k
  out_then a b c v k r q = record {
    stays = stays-more a b c r.stays q.stays;
    since = let s = since-more (standing a) (standing b) (standing c) v 0 r.since q.since in subst (λ n. Since (standing a) (standing c) n) (let e : v + 0 ≡ v = omega arith in e) s;
    refused = record {
      refusals = q.quiet.refusals ∙ r.refused.refusals;
      census = r.refused.census;
      none_free = r.refused.none_free;
      last = q.quiet.last ∙ r.refused.last;
    };
  }

  -- the same with another number that is equal
  pub ran_words : (a b : S) (v w : ℕ) → v ≡ w → Ran base tells tells_known standing a b v → Ran base tells tells_known standing a b w
  ran_words a b v w e r = subst (λ n. Ran base tells tells_known standing a b n) e r

  pub out_words : (a b : S) (v w k : ℕ) → v ≡ w → RanOut base tells tells_known standing a b v k → RanOut base tells tells_known standing a b w k
  out_words a b v w k e r = subst (λ n. RanOut base tells tells_known standing a b n k) e r

  -- no objects at first, or at last
  pub then_ran : (a b c : S) (w : ℕ) → Ran base tells tells_known standing a b 0 → Ran base tells tells_known standing b c w → Ran base tells tells_known standing a c w
  then_ran a b c w r q = ran_words a c (0 + w) w (let e : 0 + w ≡ w = omega arith in e) (ran_then a b c 0 w r q)

  pub ran_end : (a b c : S) (w : ℕ) → Ran base tells tells_known standing a b w → Ran base tells tells_known standing b c 0 → Ran base tells tells_known standing a c w
  ran_end a b c w r q = ran_words a c (w + 0) w (let e : w + 0 ≡ w = omega arith in e) (ran_then a b c w 0 r q)

  pub then_out : (a b c : S) (w k : ℕ) → Ran base tells tells_known standing a b 0 → RanOut base tells tells_known standing b c w k → RanOut base tells tells_known standing a c w k
  then_out a b c w k r q = out_words a c (0 + w) w k (let e : 0 + w ≡ w = omega arith in e) (ran_out a b c 0 w k r q)

  -- no calls
  pub ran_none : (a : S) → Ran base tells tells_known standing a a 0
  ran_none a = record {
    stays = (refl, λ _ _ h. h, λ _ _ h. h);
    since = record { thread = refl; limits = refl; depth = refl; words_made = refl; list = plain-none (standing a).thread (standing a).list };
    quiet = record { refusals = refl; last = refl };
  }

-- the next object is the same after calls that made none
pub next_same : (a b : Standing) → b.thread ≡ a.thread → b.own.made ≡ a.own.made → next_of b ≡ next_of a
next_same a b e f = ap (λ t. record { thread = t; serial = b.own.made + 1 }) e ∙ ap (λ n. record { thread = a.thread; serial = n + 1 }) f
