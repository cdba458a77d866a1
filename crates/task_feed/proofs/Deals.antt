-- Each step keeps the rule of a feed's queue.
use Rattle.std.proofs.Common.{◌≡◌, ◌≢◌, ℕ, zero, suc, ◌+◌, ◌-◌, ◌<◌, List, [], ◌∷◌, ◌++◌, Option, Some, None, cond, length, nat_lt, set, sum_by, refl, ap, sym, ◌∙◌, subst, ⊎_elim, arith}
use mathlib.Core.Option.{some, some-ne-none, some-injective}
use lib.ListN.{get_elem?}
use Rattle.std.proofs.lemmas.List.Sums.{sum_by_push}
use Rattle.std.proofs.lemmas.Bool.Decides.{nat_tests}
use Rattle.crossbeam_queue.specs.Fifo.{Pushes, Pops, Forks, Merges, Learns}
use Rattle.crossbeam_queue.proofs.Lists.{at_set}
use Rattle.task_feed.specs.Dealt.{places}
use Rattle.task_feed.specs.Hands.{Deals, HasAll, HasLeft, HasPut, HasRoom, HasTaken, IsHand, IsWhole, hand, idle, left_share, right_share, slips, together}
use Rattle.task_feed.specs.declared.hands.Hand.{Hand}
use Rattle.task_feed.proofs.Rows.{all_below, below_more, places_append, places_push}
use Rattle.task_feed.proofs.Slips.{first, length_slips, slips_sign, slips_task}
use Rattle.task_feed.proofs.Views.{Each, Idles, each_set, each_snoc, others_idle, part_le, sum_set, whole}

abbrev parts_of : Hand → ℕ
parts_of v = v.parts

idles : (items : List (Option ℕ)) (views : List Hand) → (h : Deals items views) → Each Idles views
idles items views h j u e = (h.each j u e).idle_is

-- a hand that has a part
has_part : (all put : ℕ) (w : Hand) → w.parts ≢ 0 → w.all ≡ all → w.put ≡ put → IsHand all put w
has_part all put w has all_is is = record { idle_is = λ none. absurd (has none); all_is = λ _. all_is; put_is = λ _. is }

module _ (items : List (Option ℕ)) (views : List Hand) (pass : ℕ) (v : Hand) (h : Deals items views) (at : get_elem? views pass ≡ some v) where
  put_is : v.parts ≢ 0 → v.put ≡ h.gone + h.rest
  put_is has = (h.each pass v at).put_is has

  all_is : v.parts ≢ 0 → v.all ≡ h.all
  all_is has = (h.each pass v at).all_is has

  some_part : IsWhole v → v.parts ≢ 0
  some_part w e = absurd (omega (arith, e, w.has_part))

  all_parts : IsWhole v → sum_by parts_of views ≡ v.parts
  all_parts w = h.parts ∙ sym (all_is (some_part w)) ∙ sym w.has_all

  -- with all parts, what is summed is what the pass has
  all_due : IsWhole v → sum_by (λ (u : Hand). u.due) views ≡ v.due
  all_due w = whole (λ (u : Hand). u.due) views pass v refl (idles items views h) at (all_parts w)

  all_ends : IsWhole v → sum_by (λ (u : Hand). u.ends) views ≡ v.ends
  all_ends w = whole (λ (u : Hand). u.ends) views pass v refl (idles items views h) at (all_parts w)

  all_places : IsWhole v → (task : ℕ) → sum_by (λ (u : Hand). places task u.taken) views ≡ places task v.taken
  all_places w task = whole (λ (u : Hand). places task u.taken) views pass v refl (idles items views h) at (all_parts w)

  -- where no task is left, who has all parts has all tasks
  has_all : IsWhole v → h.rest ≡ 0 → HasAll v
  has_all w none task =
      let is : v.put ≡ h.gone = let p = put_is (some_part w) in omega (arith, p, none) in
      sym (all_places w task) ∙ h.once task ∙ ap (λ (n : ℕ). cond (nat_lt task n) 1 0) (sym is)

pub has_room : (pass : ℕ) (v : Hand) → Learns Deals pass v (HasRoom v)
has_room pass v items views h at all =
    let long = ap length h.queue ∙ length_slips h.gone h.rest (sum_by (λ (u : Hand). u.due) views) in
    let due = all_due items views pass v h at all in
    let put = put_is items views pass v h at (some_part items views pass v h at all) in
    omega (arith, long, due, put)

pub has_left : (pass : ℕ) (v : Hand) → Learns Deals pass v (HasLeft v)
has_left pass v items views h at =
    let long = ap length h.queue ∙ length_slips h.gone h.rest (sum_by (λ (u : Hand). u.due) views) in
    let le = part_le (λ (u : Hand). u.due) views pass v at in (
      (λ waits. omega (arith, long, le, waits)),
      λ all none. has_all items views pass v h at all (omega (arith, long, none)),
    )

pub begins : Deals [] (hand 1 1 0 0 0 [] ∷ [])
begins = record {
  gone = 0;
  rest = 0;
  all = 1;
  queue = refl;
  parts = refl;
  ended = λ _. refl;
  once = λ task. grind (arith, nat_tests);
  each = each_one;
}
  where
    each_one : (pass : ℕ) (v : Hand) → get_elem? (hand 1 1 0 0 0 [] ∷ []) pass ≡ some v → IsHand 1 0 v
    each_one zero v e = subst (IsHand 1 0) (some-injective (hand 1 1 0 0 0 []) v e) (has_part 1 0 (hand 1 1 0 0 0 []) (λ n. absurd (omega (arith, n))) refl refl)
    each_one (suc k) v e = absurd (some-ne-none v (sym e))

-- the other passes have no part
others : (items : List (Option ℕ)) (views : List Hand) (pass : ℕ) (v : Hand) (all put : ℕ) → (h : Deals items views) → IsWhole v → (at : get_elem? views pass ≡ some v)
    → (j : ℕ) (u : Hand) → j ≢ pass → get_elem? views j ≡ some u → IsHand all put u
others items views pass v all put h w at j u other here =
    let none = others_idle views pass j v u at (all_parts items views pass v h at w) other here in
    record { idle_is = (h.each j u here).idle_is; all_is = λ has. absurd (has none); put_is = λ has. absurd (has none) }

-- each hand, where one that has all parts becomes another
each_whole : (items : List (Option ℕ)) (views : List Hand) (pass : ℕ) (v w : Hand) (all put : ℕ) → (h : Deals items views) → IsWhole v → (at : get_elem? views pass ≡ some v) → IsHand all put w
    → (j : ℕ) (u : Hand) → get_elem? (set views pass w) j ≡ some u → IsHand all put u
each_whole items views pass v w all put h has at mine j u e =
    ⊎_elim (λ (x : (j ≡ pass) × (w ≡ u)). subst (IsHand all put) x.1 mine)
    (λ (x : (j ≢ pass) × (get_elem? views j ≡ some u)). others items views pass v all put h has at j u x.0 x.1) (at_set views pass j w u e)

pub puts_task : (n pass : ℕ) (v : Hand) (task : ℕ) → IsWhole v → v.due ≡ 0 → v.ends ≡ 0 → v.put ≡ task → Pushes Deals n pass v (Some task) (HasPut v (Some task))
puts_task n pass v task has_whole no_due no_ends put items views room h at =
    let w : Hand = hand v.parts v.all (v.put + 1) v.due v.ends v.taken in
    let next : List Hand = set views pass w in
    let has = some_part items views pass v h at has_whole in
    let is = put_is items views pass v h at has in
    let ends = all_ends items views pass v h at has_whole in
    let due = all_due items views pass v h at has_whole in
    let due' = sum_set (λ (u : Hand). u.due) views pass v w at in
    let ends' = sum_set (λ (u : Hand). u.ends) views pass v w at in
    let parts' = sum_set parts_of views pass v w at in
    let none : sum_by (λ (u : Hand). u.due) views ≡ 0 = omega (arith, due, no_due) in
    let none' : sum_by (λ (u : Hand). u.due) next ≡ 0 = omega (arith, due, due', no_due) in (
      w,
      record {
        gone = h.gone;
        rest = suc h.rest;
        all = h.all;
        queue = ap (λ (l : List (Option ℕ)). l ++ Some task ∷ []) h.queue
            ∙ ap (λ (d : ℕ). slips h.gone h.rest d ++ Some task ∷ []) none
            ∙ ap (λ (t : ℕ). slips h.gone h.rest 0 ++ Some t ∷ []) (sym put ∙ is)
            ∙ slips_task h.gone h.rest
            ∙ ap (λ (d : ℕ). slips h.gone (suc h.rest) d) (sym none');
        parts = omega (arith, h.parts, parts');
        ended = λ some_end. absurd (omega (arith, some_end, ends', ends, no_ends));
        once = λ t. omega (arith, h.once t, sum_set (λ (u : Hand). places t u.taken) views pass v w at);
        each = each_whole items views pass v w h.all (h.gone + suc h.rest) h has_whole at
            (has_part h.all (h.gone + suc h.rest) w has (all_is items views pass v h at has) (omega (arith, is)));
      },
      refl,
    )

pub puts_sign : (n pass : ℕ) (v : Hand) → IsWhole v → Pushes Deals n pass v None (HasPut v None)
puts_sign n pass v has_whole items views room h at =
    let w : Hand = hand (v.due + 1) (v.due + 1) v.put (v.due + 1) v.ends v.taken in
    let next : List Hand = set views pass w in
    let has = some_part items views pass v h at has_whole in
    let due' = sum_set (λ (u : Hand). u.due) views pass v w at in
    let ends' = sum_set (λ (u : Hand). u.ends) views pass v w at in
    let parts' = sum_set parts_of views pass v w at in
    let all = all_parts items views pass v h at has_whole in
    let more : suc (sum_by (λ (u : Hand). u.due) views) ≡ sum_by (λ (u : Hand). u.due) next = omega (arith, due') in (
      w,
      record {
        gone = h.gone;
        rest = h.rest;
        all = v.due + 1;
        queue = ap (λ (l : List (Option ℕ)). l ++ None ∷ []) h.queue
            ∙ slips_sign h.gone h.rest (sum_by (λ (u : Hand). u.due) views)
            ∙ ap (λ (d : ℕ). slips h.gone h.rest d) more;
        parts = omega (arith, all, parts');
        ended = λ some_end. h.ended (omega (arith, some_end, ends'));
        once = λ t. omega (arith, h.once t, sum_set (λ (u : Hand). places t u.taken) views pass v w at);
        each = each_whole items views pass v w (v.due + 1) (h.gone + h.rest) h has_whole at
            (has_part (v.due + 1) (h.gone + h.rest) w (λ e. absurd (omega (arith, e))) refl (put_is items views pass v h at has));
      },
      refl,
    )

-- a task leaves the queue
takes_task : (pass : ℕ) (v : Hand) (items : List (Option ℕ)) (views : List Hand) (rest : ℕ) → v.parts ≢ 0 → (before : List (Option ℕ)) → (h : Deals before views) → get_elem? views pass ≡ some v
    → h.rest ≡ suc rest → items ≡ slips (suc h.gone) rest (sum_by (λ (u : Hand). u.due) views)
    → (w : Hand) × Deals items (set views pass w) × HasTaken v (Some h.gone) w
takes_task pass v items views rest has before h at more queue =
    let w : Hand = hand v.parts v.all v.put v.due v.ends (v.taken ++ h.gone ∷ []) in
    let next : List Hand = set views pass w in
    let is = put_is before views pass v h at has in
    let due' = sum_set (λ (u : Hand). u.due) views pass v w at in
    let ends' = sum_set (λ (u : Hand). u.ends) views pass v w at in
    let parts' = sum_set (λ (u : Hand). u.parts) views pass v w at in
    let none : sum_by (λ (u : Hand). u.ends) views ≡ 0 = no_end (sum_by (λ (u : Hand). u.ends) views) h.ended in
    let v_none : v.ends ≡ 0 = (let le = part_le (λ (u : Hand). u.ends) views pass v at in omega (arith, le, none)) in
    let same_put : suc h.gone + rest ≡ h.gone + h.rest = omega (arith, more) in (
      w,
      record {
        gone = suc h.gone;
        rest = rest;
        all = h.all;
        queue = queue ∙ ap (λ (d : ℕ). slips (suc h.gone) rest d) (omega (arith, due'));
        parts = omega (arith, h.parts, parts');
        ended = λ some_end. absurd (omega (arith, some_end, ends', none, v_none));
        once = λ t. once_more t;
        each = each_set (IsHand h.all (suc h.gone + rest)) views pass w (has_part h.all (suc h.gone + rest) w has (all_is before views pass v h at has) (omega (arith, is, more)))
            (λ j u e. subst (λ (put : ℕ). IsHand h.all put u) (sym same_put) (h.each j u e));
      },
      (
        refl,
        omega (arith, is, more),
        all_below v.taken h.gone (λ t. (let le = part_le (λ (u : Hand). places t u.taken) views pass v at in omega (arith, le, h.once t))),
        v_none,
      ),
    )
  where
    no_end : (ends : ℕ) → (0 < ends → h.rest ≡ 0) → ends ≡ 0
    no_end zero f = refl
    no_end (suc k) f = absurd (omega (arith, f (omega arith), more))

    once_more : (t : ℕ) → sum_by (λ (u : Hand). places t u.taken) (set views pass (hand v.parts v.all v.put v.due v.ends (v.taken ++ h.gone ∷ []))) ≡ cond (nat_lt t (suc h.gone)) 1 0
    once_more t =
        let s = sum_set (λ (u : Hand). places t u.taken) views pass v (hand v.parts v.all v.put v.due v.ends (v.taken ++ h.gone ∷ [])) at in
        omega (arith, s, h.once t, places_push t v.taken h.gone, below_more t h.gone)

-- a sign of the end leaves the queue
takes_sign : (pass : ℕ) (v : Hand) (items : List (Option ℕ)) (views : List Hand) (due : ℕ) → v.parts ≢ 0 → (v.due ≡ 0 → IsWhole v) → (before : List (Option ℕ)) → (h : Deals before views)
    → get_elem? views pass ≡ some v → h.rest ≡ 0 → sum_by (λ (u : Hand). u.due) views ≡ suc due → items ≡ slips h.gone 0 due
    → (w : Hand) × Deals items (set views pass w) × HasTaken v None w
takes_sign pass v items views due has may before h at none some_due queue =
    let w : Hand = hand v.parts v.all v.put (v.due - 1) (v.ends + 1) v.taken in
    let next : List Hand = set views pass w in
    let is = put_is before views pass v h at has in
    let waits : 0 < v.due = one_due v.due refl in
    let due' = sum_set (λ (u : Hand). u.due) views pass v w at in
    let parts' = sum_set (λ (u : Hand). u.parts) views pass v w at in
    let left : due ≡ sum_by (λ (u : Hand). u.due) next = omega (arith, due', some_due, waits) in (
      w,
      record {
        gone = h.gone;
        rest = 0;
        all = h.all;
        queue = queue ∙ ap (λ (d : ℕ). slips h.gone 0 d) left;
        parts = omega (arith, h.parts, parts');
        ended = λ _. refl;
        once = λ t. omega (arith, h.once t, sum_set (λ (u : Hand). places t u.taken) views pass v w at);
        each = each_set (IsHand h.all (h.gone + 0)) views pass w (has_part h.all (h.gone + 0) w has (all_is before views pass v h at has) (omega (arith, is, none)))
            (λ j u e. subst (λ (rest : ℕ). IsHand h.all (h.gone + rest) u) none (h.each j u e));
      },
      (refl, waits, λ all. has_all before views pass v h at all none),
    )
  where
    one_due : (d : ℕ) → v.due ≡ d → 0 < v.due
    one_due zero e = absurd (omega (arith, e, all_due before views pass v h at (may e), some_due))
    one_due (suc d) e = omega (arith, e)

pub takes : (pass : ℕ) (v : Hand) → v.parts ≢ 0 → (v.due ≡ 0 → IsWhole v) → Pops Deals pass v (HasTaken v)
takes pass v has may x items views h at =
    ⊎_elim
    (λ (a : (more : ℕ) × (h.rest ≡ suc more) × (x ≡ Some h.gone) × (items ≡ slips (suc h.gone) more (sum_by (λ (u : Hand). u.due) views))).
    subst (λ (y : Option ℕ). (w : Hand) × Deals items (set views pass w) × HasTaken v y w) (sym a.2) (takes_task pass v items views a.0 has (x ∷ items) h at a.1 a.3))
    (λ (b : (more : ℕ) × (h.rest ≡ 0) × (sum_by (λ (u : Hand). u.due) views ≡ suc more) × (x ≡ None) × (items ≡ slips h.gone 0 more)).
    subst (λ (y : Option ℕ). (w : Hand) × Deals items (set views pass w) × HasTaken v y w) (sym b.3) (takes_sign pass v items views b.0 has may (x ∷ items) h at b.1 b.2 b.4))
    (first x items h.gone h.rest (sum_by (λ (u : Hand). u.due) views) h.queue)

pub forks : (pass : ℕ) (v : Hand) → 1 < v.parts → 0 < v.due → Forks Deals pass v (left_share v) (right_share v)
forks pass v some_parts some_due items views h at =
    let l : Hand = left_share v in
    let r : Hand = right_share v in
    let next : List Hand = set views pass l in
    let is = put_is items views pass v h at (λ e. absurd (omega (arith, e, some_parts))) in
    let all = all_is items views pass v h at (λ e. absurd (omega (arith, e, some_parts))) in
    record {
      gone = h.gone;
      rest = h.rest;
      all = h.all;
      queue = h.queue ∙ ap (λ (d : ℕ). slips h.gone h.rest d) (omega (arith, sum_set (λ (u : Hand). u.due) views pass v l at, sum_by_push (λ (u : Hand). u.due) next r, some_due));
      parts = omega (arith, h.parts, sum_set (λ (u : Hand). u.parts) views pass v l at, sum_by_push (λ (u : Hand). u.parts) next r, some_parts);
      ended = λ some_end. h.ended (omega (arith, some_end, sum_set (λ (u : Hand). u.ends) views pass v l at, sum_by_push (λ (u : Hand). u.ends) next r));
      once = λ t. omega (arith, h.once t, sum_set (λ (u : Hand). places t u.taken) views pass v l at, sum_by_push (λ (u : Hand). places t u.taken) next r);
      each = each_snoc (IsHand h.all (h.gone + h.rest)) next r (has_part h.all (h.gone + h.rest) r (λ e. absurd (omega (arith, e))) all is)
          (each_set (IsHand h.all (h.gone + h.rest)) views pass l (has_part h.all (h.gone + h.rest) l (λ e. absurd (omega (arith, e, some_parts))) all is) h.each);
    }

pub merges : (pass : ℕ) (v : Hand) (other : ℕ) (u : Hand) → v.parts ≢ 0 → Merges Deals pass v other u (together v u) idle
merges pass v other u has items views h at apart there =
    let both : Hand = together v u in
    let one : List Hand = set views pass both in
    let is = put_is items views pass v h at has in
    record {
      gone = h.gone;
      rest = h.rest;
      all = h.all;
      queue = h.queue ∙ ap (λ (d : ℕ). slips h.gone h.rest d) (omega (arith, sum_set (λ (x : Hand). x.due) views pass v both at, sum_set (λ (x : Hand). x.due) one other u idle there));
      parts = omega (arith, h.parts, sum_set (λ (x : Hand). x.parts) views pass v both at, sum_set (λ (x : Hand). x.parts) one other u idle there);
      ended = λ some_end. h.ended (omega (arith, some_end, sum_set (λ (x : Hand). x.ends) views pass v both at, sum_set (λ (x : Hand). x.ends) one other u idle there));
      once = λ t. omega (arith, h.once t, sum_set (λ (x : Hand). places t x.taken) views pass v both at, sum_set (λ (x : Hand). places t x.taken) one other u idle there, places_append t v.taken u.taken);
      each = each_set (IsHand h.all (h.gone + h.rest)) one other idle (record { idle_is = λ _. refl; all_is = λ a_part. absurd (a_part refl); put_is = λ a_part. absurd (a_part refl) })
          (each_set (IsHand h.all (h.gone + h.rest)) views pass both (has_part h.all (h.gone + h.rest) both (λ e. absurd (has (omega (arith, e)))) (all_is items views pass v h at has) is) h.each);
    }
