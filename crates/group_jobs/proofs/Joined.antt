-- Calls of a caller, one run after another.
use Rattle.std.proofs.Common.{◌≡◌, ℕ, ◌+◌, ◌-◌, ◌^◌, ◌≤◌, min, refl, ◌∙◌, arith, ap}
use Rattle.yak_model.specs.Graph.{Thread}
use Rattle.yak_model.specs.Private.{KnownObjects}
use Rattle.yak_model.specs.Standing.{Standing, Stays, counted_on}
use Rattle.object_layout.specs.declared.TheConstants.{OBJECT_WORDS}
use Rattle.heap_tables.specs.Runs.{Ran, RanOut}
use Rattle.heap_tables.specs.Epochs.{Makes, Went}
use Rattle.group_jobs.specs.Goings.{WentOut}

counted-cases : (a b c v w M : ℕ) → min (b + 0) M ≡ min (a + v) M → min (c + 0) M ≡ min (b + w) M → min (c + 0) M ≡ min (a + (v + w)) M
counted-cases a b c v w M r q = omega (arith, r, q)

counted-twice : (a b c v w : ℕ) → counted_on b 0 ≡ counted_on a v → counted_on c 0 ≡ counted_on b w → counted_on c 0 ≡ counted_on a (v + w)
counted-twice a b c v w r q = counted-cases a b c v w (2 ^ 64 - 1) r q

makes_then : (a b c : Standing) (v w m n : ℕ) → Makes a b v m → Makes b c w n → Makes a c (v + w) (m + n)
makes_then a b c v w m n r q = record {
  thread = q.thread ∙ r.thread;
  limits = q.limits ∙ r.limits;
  counted = counted-twice a.words b.words c.words v w r.counted q.counted;
  within = omega (arith, r.within, q.within);
}

makes_most : (a b : Standing) (v m n : ℕ) → m ≤ n → Makes a b v m → Makes a b v n
makes_most a b v m n le r = record { thread = r.thread; limits = r.limits; counted = r.counted; within = omega (arith, r.within, le) }

module _ {S B : Type 0} (base : S → B) (tells : S → ℕ → Thread → Type 0) (tells_known : S → ℕ → KnownObjects → Type 0) (standing : S → Standing) where
  stays_then : (a b c : S) → Stays base tells tells_known a b → Stays base tells tells_known b c → Stays base tells tells_known a c
  stays_then a b c r q = (q.0 ∙ r.0, λ t o h. q.1 t o (r.1 t o h), λ t k h. q.2 t k (r.2 t k h))

  -- objects of at most m words, and then of at most n
  pub went_then : (a b c : S) (m n most : ℕ) → m + n ≤ most → Went base tells tells_known standing a b m → Went base tells tells_known standing b c n → Went base tells tells_known standing a c most
  went_then a b c m n most le r q = record {
    words = r.words + q.words;
    stays = stays_then a b c r.stays q.stays;
    makes = makes_most (standing a) (standing c) (r.words + q.words) (m + n) most le (makes_then (standing a) (standing b) (standing c) r.words q.words m n r.makes q.makes);
    quiet = record { refusals = q.quiet.refusals ∙ r.quiet.refusals; last = q.quiet.last ∙ r.quiet.last };
  }

  -- objects of at most m words, and then a refusal
  pub went_out : (a b c : S) (deep deepest m n most : ℕ) → m + n ≤ most → deep ≤ deepest → Went base tells tells_known standing a b m → WentOut base tells tells_known standing b c deep n → WentOut base tells tells_known standing a c deepest most
  went_out a b c deep deepest m n most le low r q = record {
    words = r.words + q.words;
    asked = q.asked;
    depth = q.depth;
    stays = stays_then a b c r.stays q.stays;
    makes = makes_most (standing a) (standing c) (r.words + q.words) (m + n) most le (makes_then (standing a) (standing b) (standing c) r.words q.words m n r.makes q.makes);
    within = let h = (r.makes).within in omega (arith, h, q.within, le);
    deep = omega (arith, q.deep, low);
    lacked = record {
      refusals = (q.lacked).refusals ∙ ap (λ n. counted_on n 1) (r.quiet).refusals;
      census = (q.lacked).census;
      none_free = (q.lacked).none_free;
      last = (q.lacked).last;
    };
  }

  -- the same with a greater number
  pub went_most : (a b : S) (m n : ℕ) → m ≤ n → Went base tells tells_known standing a b m → Went base tells tells_known standing a b n
  went_most a b m n le r = record { words = r.words; stays = r.stays; makes = makes_most (standing a) (standing b) r.words m n le r.makes; quiet = r.quiet }

  pub out_most : (a b : S) (deep deepest m n : ℕ) → m ≤ n → deep ≤ deepest → WentOut base tells tells_known standing a b deep m → WentOut base tells tells_known standing a b deepest n
  out_most a b deep deepest m n le low r = record {
    words = r.words;
    asked = r.asked;
    depth = r.depth;
    stays = r.stays;
    makes = makes_most (standing a) (standing b) r.words m n le r.makes;
    within = omega (arith, r.within, le);
    deep = omega (arith, r.deep, low);
    lacked = r.lacked;
  }

  -- no calls
  pub went_none : (a : S) → Went base tells tells_known standing a a 0
  went_none a = record {
    words = 0;
    stays = (refl, λ _ _ h. h, λ _ _ h. h);
    makes = record { thread = refl; limits = refl; counted = refl; within = omega arith };
    quiet = record { refusals = refl; last = refl };
  }

  -- a run that begins and ends no epoch
  pub went_ran : (a b : S) (w most : ℕ) → w ≤ most → Ran base tells tells_known standing a b w → Went base tells tells_known standing a b most
  went_ran a b w most le r = record {
    words = w;
    stays = r.stays;
    makes = record { thread = (r.since).thread; limits = (r.since).limits; counted = (r.since).words_made; within = le };
    quiet = r.quiet;
  }

  pub out_ran : (a b : S) (w k most : ℕ) → w + (k + OBJECT_WORDS) ≤ most → RanOut base tells tells_known standing a b w k → WentOut base tells tells_known standing a b (standing a).own.depth most
  out_ran a b w k most le r = record {
    words = w;
    asked = k + OBJECT_WORDS;
    depth = (standing a).own.depth;
    stays = r.stays;
    makes = record { thread = (r.since).thread; limits = (r.since).limits; counted = (r.since).words_made; within = omega (arith, le) };
    within = le;
    deep = omega arith;
    lacked = record { refusals = (r.refused).refusals; census = (r.refused).census; none_free = (r.refused).none_free; last = (r.refused).last };
  }
