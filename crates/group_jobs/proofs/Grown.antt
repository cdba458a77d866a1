-- Own lists that grow.
use Rattle.std.proofs.Common.{zero, suc, ◌≡◌, inl, inr, ⊎_elim, ℕ, ◌+◌, ◌<◌, ◌≤◌, Bool, true, false, cond, List, [], ◌∷◌, ◌++◌, Option, None, Some, refl, sym, ap, ◌∙◌, subst, arith}
use Rattle.std.specs.List.{All}
use Rattle.std.proofs.lemmas.List.{append_assoc, append-nil}
use Rattle.std.proofs.lemmas.List.Elements.{All-head, All-tail, filter-append}
use Rattle.object_layout.specs.declared.calls.Call.{Call}
use Rattle.object_layout.specs.declared.calls.Call.TheVariants as call
use Rattle.object_layout.specs.declared.replies.Reply.TheVariants as reply
use Rattle.yak_model.specs.declared.history.Entry.{Entry}
use Rattle.yak_model.specs.declared.history.Entry.TheVariants.{Said, Collected}
use Rattle.yak_model.specs.Graph.{Thread}
use Rattle.yak_model.specs.Private.{KnownObjects}
use Rattle.yak_model.specs.Standing.{Standing, entries_of}
use Rattle.heap_tables.specs.Adds.{AddRan, AddRanOut}
use Rattle.heap_tables.specs.Runs.{GrowsPlainly, IsPlain, IsPlainEntry, Ran, RanOut}
use Rattle.heap_tables.specs.Epochs.{GrowsBy, IsBegun, IsEnd}
use Rattle.group_jobs.specs.Epochs.{AreEpochs, AreHalted, HaltsWithin, IsEnded, IsHalted, IsOneEpoch, IsWithin, MakesEpochs, bounds_in, is_bound}

pub bounds_cat : (one two : List Entry) → bounds_in (one ++ two) ≡ bounds_in one ++ bounds_in two
bounds_cat one two = filter-append is_bound one two

-- no call
pub grows_none : (list : Option (List Entry)) → GrowsBy IsWithin list list
grows_none None = refl
grows_none (Some list) = ([], ap Some (sym (append-nil list)), refl)

-- some, and then some more
pub grows_then : (A B C : List Entry → Type 0) → ((x y : List Entry) → A x → B y → C (x ++ y)) → (a b c : Option (List Entry)) → GrowsBy A a b → GrowsBy B b c → GrowsBy C a c
grows_then A B C joined None b c first second = let h : GrowsBy B None c = subst (λ o. GrowsBy B o c) first second in h
grows_then A B C joined (Some list) b c first second =
    let next : GrowsBy B (Some (list ++ first.0)) c = subst (λ o. GrowsBy B o c) first.1 second in
    (first.0 ++ next.0, next.1 ∙ ap Some (append_assoc list first.0 next.0), joined first.0 next.0 first.2 next.2)

pub grows_as : (A B : List Entry → Type 0) → ((x : List Entry) → A x → B x) → (a b : Option (List Entry)) → GrowsBy A a b → GrowsBy B a b
grows_as A B f None b grows = grows
grows_as A B f (Some list) b grows = (grows.0, grows.1, f grows.0 grows.2)

pub within_cat : (x y : List Entry) → IsWithin x → IsWithin y → IsWithin (x ++ y)
within_cat x y a b = bounds_cat x y ∙ (λ i. a i ++ b i)

pub within_then : (a b c : Option (List Entry)) → GrowsBy IsWithin a b → GrowsBy IsWithin b c → GrowsBy IsWithin a c
within_then a b c = grows_then IsWithin IsWithin IsWithin within_cat a b c

-- ---- runs that begin and end no epoch

no_bound : (t u : ℕ) (asked : Call) → IsPlain asked → (x : Entry) → (said : _) → x ≡ Said u asked said → is_bound x ≡ false
no_bound t u call.Begin plain x said e = absurd plain
no_bound t u call.End plain x said e = absurd plain
no_bound t u call.Collect plain x said e = absurd plain
no_bound t u call.Census plain x said e = absurd plain
no_bound t u (call.Int i) plain x said e = ap is_bound e
no_bound t u call.Null plain x said e = ap is_bound e
no_bound t u (call.Dup i) plain x said e = ap is_bound e
no_bound t u call.Pop plain x said e = ap is_bound e
no_bound t u (call.New k) plain x said e = ap is_bound e
no_bound t u (call.Load i f) plain x said e = ap is_bound e
no_bound t u (call.Store i f v) plain x said e = ap is_bound e
no_bound t u (call.Get i) plain x said e = ap is_bound e
no_bound t u (call.Same i v) plain x said e = ap is_bound e

plain_bound : (t : ℕ) (x : Entry) → IsPlainEntry t x → is_bound x ≡ false
plain_bound t (Said u asked said) plain = no_bound t u asked plain.1 (Said u asked said) said refl
plain_bound t (Collected u) plain = refl

plain_bounds : (t : ℕ) (list : List Entry) → All (IsPlainEntry t) list → bounds_in list ≡ []
plain_bounds t [] all = refl
plain_bounds t (x ∷ list) all =
    ap (λ (b : Bool). cond b (x ∷ bounds_in list) (bounds_in list)) (plain_bound t x (All-head (IsPlainEntry t) x list all)) ∙ plain_bounds t list (All-tail (IsPlainEntry t) x list all)

pub plain_within : (t : ℕ) (a b : Option (List Entry)) → GrowsPlainly t a b → GrowsBy IsWithin a b
plain_within t None b grows = grows
plain_within t (Some list) b grows = (grows.0, grows.1, plain_bounds t grows.0 grows.2)

module _ {S B : Type 0} (base : S → B) (tells : S → ℕ → Thread → Type 0) (tells_known : S → ℕ → KnownObjects → Type 0) (standing : S → Standing) (a b : S) where
  pub within_ran : (w : ℕ) → Ran base tells tells_known standing a b w → GrowsBy IsWithin (standing a).list (standing b).list
  within_ran w ran = plain_within (standing a).thread (standing a).list (standing b).list ran.since.list

  pub within_out : (w k : ℕ) → RanOut base tells tells_known standing a b w k → GrowsBy IsWithin (standing a).list (standing b).list
  within_out w k ran = plain_within (standing a).thread (standing a).list (standing b).list ran.since.list

  pub within_add : (word : List ℕ) → AddRan base tells tells_known standing a b word → GrowsBy IsWithin (standing a).list (standing b).list
  within_add word ran = ⊎_elim (λ x. within_ran _ x.0) (λ x. within_ran _ x.0) ran

  pub within_add_out : (word : List ℕ) → AddRanOut base tells tells_known standing a b word → GrowsBy IsWithin (standing a).list (standing b).list
  within_add_out word ran = ⊎_elim (λ x. within_out _ _ x.0) (λ x. within_out _ _ x.0) ran

  -- the thread, and how many objects it has made, after a count was added
  pub add_thread : (word : List ℕ) → AddRan base tells tells_known standing a b word → ((standing b).thread ≡ (standing a).thread) × ((standing a).own.made ≤ (standing b).own.made)
  add_thread word ran = ⊎_elim
      (λ x. (x.0.since.thread, let m = ap (λ (o : Thread). o.made) x.1 in omega arith))
      (λ x. (x.0.since.thread, let m = ap (λ (o : Thread). o.made) x.1 in omega arith))
      ran

-- ---- epochs

-- an end alone is one after nothing else
end_ended : (t : ℕ) (x : List Entry) → IsEnd t x → IsEnded t x
end_ended t x is = subst (IsEnded t) (sym is.3) (by is.0)
  where
    by : (collected : Bool) → IsEnded t (entries_of collected t call.End (reply.Ended is.1 is.2))
    by true = (Collected t ∷ [], is.1, is.2, refl, refl)
    by false = ([], is.1, is.2, refl, refl)

pub end_list : (t : ℕ) (a b : Option (List Entry)) → GrowsBy (IsEnd t) a b → GrowsBy (IsEnded t) a b
end_list t a b grows = grows_as (IsEnd t) (IsEnded t) (end_ended t) a b grows

within_ended : (t : ℕ) (x y : List Entry) → IsWithin x → IsEnded t y → IsEnded t (x ++ y)
within_ended t x y a b =
    (x ++ b.0, b.1, b.2, within_cat x b.0 a b.3, ap (λ l. x ++ l) b.4 ∙ sym (append_assoc x b.0 (Said t call.End (reply.Ended b.1 b.2) ∷ [])))

pub begun_ended : (t u : ℕ) → u ≡ t → (a b c : Option (List Entry)) → GrowsBy (IsBegun t) a b → GrowsBy (IsEnded u) b c → GrowsBy (IsOneEpoch t) a c
begun_ended t u e a b c first last =
    grows_then (IsBegun t) (IsEnded t) (IsOneEpoch t) (λ x y x_is y_is. (y, y_is, ap (λ l. l ++ y) x_is)) a b c first (subst (λ v. GrowsBy (IsEnded v) b c) e last)

pub ended_within : (t : ℕ) (a b c : Option (List Entry)) → GrowsBy IsWithin a b → GrowsBy (IsEnded t) b c → GrowsBy (IsEnded t) a c
ended_within t a b c first last = grows_then IsWithin (IsEnded t) (IsEnded t) (within_ended t) a b c first last

pub begun_halted : (t : ℕ) (a b c : Option (List Entry)) → GrowsBy (IsBegun t) a b → GrowsBy IsWithin b c → GrowsBy (IsHalted t) a c
begun_halted t a b c first last =
    grows_then (IsBegun t) IsWithin (IsHalted t)
    (λ x y x_is y_is. inr (ap (λ l. bounds_in (l ++ y)) x_is ∙ ap (λ l. Said t call.Begin reply.Ok ∷ l) y_is)) a b c first last

pub within_halted : (t : ℕ) (a b : Option (List Entry)) → GrowsBy IsWithin a b → GrowsBy (IsHalted t) a b
within_halted t a b = grows_as IsWithin (IsHalted t) (λ x is. inl is) a b

pub halted_within : (t u : ℕ) → u ≡ t → (a b c : Option (List Entry)) → GrowsBy IsWithin a b → GrowsBy (IsHalted u) b c → GrowsBy (IsHalted t) a c
halted_within t u e a b c first last =
    grows_then IsWithin (IsHalted t) (IsHalted t)
    (λ x y x_is y_is. ⊎_elim (λ n. inl (within_cat x y x_is n)) (λ n. inr (bounds_cat x y ∙ (λ i. x_is i ++ n i))) y_is)
    a b c first (subst (λ v. GrowsBy (IsHalted v) b c) e last)

-- ---- so many epochs

-- one epoch more
more_epochs : (t n : ℕ) (bounds : List Entry) (moved : ℕ) (tight : Bool) → AreEpochs t n bounds → AreEpochs t (suc n) (bounds ++ Said t call.Begin reply.Ok ∷ Said t call.End (reply.Ended moved tight) ∷ [])
more_epochs t zero bounds moved tight e =
    (moved, tight, [], ap (λ l. l ++ Said t call.Begin reply.Ok ∷ Said t call.End (reply.Ended moved tight) ∷ []) e, refl)
more_epochs t (suc n) bounds moved tight e =
    let last : List Entry = Said t call.Begin reply.Ok ∷ Said t call.End (reply.Ended moved tight) ∷ [] in
    (e.0, e.1, e.2 ++ last, ap (λ l. l ++ last) e.3, more_epochs t n e.2 moved tight e.4)

bounds_epoch : (t : ℕ) (more : List Entry) (one : IsOneEpoch t more) → bounds_in more ≡ Said t call.Begin reply.Ok ∷ Said t call.End (reply.Ended one.1.1 one.1.2) ∷ []
bounds_epoch t more one =
    ap bounds_in one.2
    ∙ ap (λ l. Said t call.Begin reply.Ok ∷ bounds_in l) one.1.4
    ∙ ap (λ l. Said t call.Begin reply.Ok ∷ l) (bounds_cat one.1.0 (Said t call.End (reply.Ended one.1.1 one.1.2) ∷ []) ∙ ap (λ l. l ++ Said t call.End (reply.Ended one.1.1 one.1.2) ∷ []) one.1.3)

pub epochs_more : (t : ℕ) (was plain ready more now : List Entry) → ready ≡ was ++ plain → IsWithin plain → now ≡ ready ++ more → IsOneEpoch t more
    → (k : ℕ) → AreEpochs t k (bounds_in was) → AreEpochs t (k + 1) (bounds_in now)
epochs_more t was plain ready more now ready_is within now_is one k epochs =
    let ready_bounds : bounds_in ready ≡ bounds_in was = ap bounds_in ready_is ∙ bounds_cat was plain ∙ ap (λ l. bounds_in was ++ l) within ∙ append-nil (bounds_in was) in
    let now_bounds : bounds_in now ≡ bounds_in was ++ Said t call.Begin reply.Ok ∷ Said t call.End (reply.Ended one.1.1 one.1.2) ∷ [] =
    ap bounds_in now_is ∙ bounds_cat ready more ∙ (λ i. ready_bounds i ++ bounds_epoch t more one i) in
    let next : k + 1 ≡ suc k = omega arith in
    subst (λ n. AreEpochs t n (bounds_in now)) (sym next) (subst (AreEpochs t (suc k)) (sym now_bounds) (more_epochs t k (bounds_in was) one.1.1 one.1.2 epochs))

pub halted_bounds : (t : ℕ) (was more now : List Entry) → now ≡ was ++ more → IsHalted t more → (k : ℕ) → AreEpochs t k (bounds_in was) → AreHalted t k (bounds_in now)
halted_bounds t was more now is halted k epochs =
    let joined : bounds_in now ≡ bounds_in was ++ bounds_in more = ap bounds_in is ∙ bounds_cat was more in
    ⊎_elim
    (λ (none : bounds_in more ≡ []). inl (subst (AreEpochs t k) (sym (joined ∙ ap (λ l. bounds_in was ++ l) none ∙ append-nil (bounds_in was))) epochs))
    (λ (one : bounds_in more ≡ Said t call.Begin reply.Ok ∷ []). inr (bounds_in was, epochs, joined ∙ ap (λ l. bounds_in was ++ l) one))
    halted

pub none_made : (t : ℕ) (list : Option (List Entry)) → GrowsBy (MakesEpochs t 0) list list
none_made t None = refl
none_made t (Some list) = ([], ap Some (sym (append-nil list)), refl)

-- one epoch after others, which was begun after calls within none
pub made_next : (t n : ℕ) (a b mid c : Option (List Entry)) → GrowsBy (MakesEpochs t n) a b → GrowsBy IsWithin b mid → GrowsBy (IsOneEpoch t) mid c → GrowsBy (MakesEpochs t (n + 1)) a c
made_next t n a b mid c first within one =
    grows_then (MakesEpochs t n) (λ more. (plain : List Entry) × (rest : List Entry) × IsWithin plain × IsOneEpoch t rest × (more ≡ plain ++ rest)) (MakesEpochs t (n + 1))
    (λ x y x_is y_is. epochs_more t x y_is.0 (x ++ y_is.0) y_is.1 (x ++ y) refl y_is.2 (ap (λ l. x ++ l) y_is.4 ∙ sym (append_assoc x y_is.0 y_is.1)) y_is.3 n x_is) a b c first
    (grows_then IsWithin (IsOneEpoch t) (λ more. (plain : List Entry) × (rest : List Entry) × IsWithin plain × IsOneEpoch t rest × (more ≡ plain ++ rest)) (λ x y x_is y_is. (x, y, x_is, y_is, refl)) b mid c within one)

pub made_halted : (t n m : ℕ) → n < m → (a b c : Option (List Entry)) → GrowsBy (MakesEpochs t n) a b → GrowsBy (IsHalted t) b c → GrowsBy (HaltsWithin t m) a c
made_halted t n m below a b c first last =
    grows_then (MakesEpochs t n) (IsHalted t) (HaltsWithin t m) (λ x y x_is y_is. (n, below, halted_bounds t x y (x ++ y) refl y_is n x_is)) a b c first last
