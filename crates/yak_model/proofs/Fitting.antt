-- What one thread alone knows fits pages, whatever entry comes.
use Rattle.std.proofs.Common.{◌≡◌, ◌⊎◌, ℕ, ◌+◌, ◌-◌, ◌≤◌, true, false, true≢false, cond, ltb, length, replicate, set, refl, ◌∙◌, arith, ap, sym, subst, inl, inr, Option, Some, None, IsSome, MatchOption, length-set}
use Rattle.std.proofs.lemmas.Bool.{cases_lt, ltb-false}
use Rattle.std.proofs.lemmas.List.{length-replicate}
use Rattle.std.specs.FinMap.{get, insert}
use Rattle.object_layout.specs.declared.names.Name.{Name}
use Rattle.object_layout.specs.declared.TheConstants.{OBJECT_WORDS}
use Rattle.object_layout.specs.declared.calls.Call.{Call}
use Rattle.object_layout.specs.declared.calls.Call.TheVariants as call
use Rattle.object_layout.specs.declared.replies.Refusal.{Refusal}
use Rattle.object_layout.specs.declared.replies.Refusal.TheVariants as refusal
use Rattle.object_layout.specs.declared.replies.Reply.{Reply}
use Rattle.object_layout.specs.declared.replies.Reply.TheVariants as reply
use Rattle.yak_model.specs.declared.datum.Datum.{Datum}
use Rattle.yak_model.specs.declared.datum.Datum.TheVariants as datum
use Rattle.yak_model.specs.Graph.{Content, Does, Fields, Graph, Limits, answers, fields_or_none, next_name, refusal_of, size_of, slot_of}
use Rattle.yak_model.specs.History.{Said, Collected}
use Rattle.yak_model.specs.Spaces.{Walk}
use Rattle.yak_model.specs.Private.{FitPages, FittingIsKept, GivesAway, IsKnown, KnownObjects, LosesAll, OwnCall, RefersKnown, StoresKnown}
use Rattle.yak_model.proofs.Names.{get-same, get-other, same_or_other}
use Rattle.yak_model.proofs.Agreement.{same_or_other_number}

module _ (limits : Limits) (known : KnownObjects) (fits : FitPages limits known) where
  same_fits : (after : KnownObjects) → after ≡ known → FitPages limits after
  same_fits after e = subst (FitPages limits) (sym e) fits

  added_fits : (m : Name) (c : Content) → size_of c ≤ limits.page → FitPages limits (insert known m c)
  added_fits m c small n content e =
      elim (same_or_other n m) [
        | inl q ↦
            let found : get (insert known m c) n ≡ Some c = ap (get (insert known m c)) q ∙ get-same known m c in
            let one : content ≡ c = cc in
            subst (λ x. size_of x ≤ limits.page) (sym one) small
        | inr o ↦ fits n content (sym (get-other known m c n o) ∙ e)
      ]

  -- an object with another value in a field
  stored_fits : (m : Name) (f : ℕ) (v : Datum) → IsKnown known m → FitPages limits (insert known m (Fields (set (fields_or_none (get known m)) f v)))
  stored_fits m f v k = added_fits m (Fields (set (fields_or_none (get known m)) f v)) (by_content (get known m) refl k)
    where
      by_content : (o : Option Content) → get known m ≡ o → IsSome o → length (set (fields_or_none o) f v) + OBJECT_WORDS ≤ limits.page
      by_content None e held = absurd (true≢false (sym held))
      by_content (Some (Fields values)) e held =
          let small : length values + OBJECT_WORDS ≤ limits.page = fits m (Fields values) e in
          omega (arith, length-set values f v)

  lost_fits : (name : Name) (after : KnownObjects) → LosesAll known name after → FitPages limits after
  lost_fits name after loses n content e =
      elim (cases_lt limits.page (size_of content)) [
        | inl lt ↦
            let away : Walk (RefersKnown known) name n → ⊥ = λ w. (let gone : get after n ≡ None = loses.lost n w in cc) in
            let was : get known n ≡ Some content = sym (loses.kept n away) ∙ e in
            let small : size_of content ≤ limits.page = fits n content was in
            absurd (omega arith)
        | inr le ↦ le
      ]

  given_fits : (v : Datum) (after : KnownObjects) → GivesAway known v after → FitPages limits after
  given_fits datum.Null after e = same_fits after e
  given_fits (datum.Int i) after e = same_fits after e
  given_fits (datum.Object name) after loses = lost_fits name after loses

  known_or_not : (n : Name) → IsKnown known n ⊎ (IsKnown known n → ⊥)
  known_or_not n = elim (get known n) as (λ o. IsSome o ⊎ (IsSome o → ⊥)) [ Some c ↦ inl refl | None ↦ inr (λ h. true≢false (sym h)) ]

  stores_fit : (v : Datum) (f : ℕ) (value : Datum) (after : KnownObjects) → StoresKnown known v f value after → FitPages limits after
  stores_fit datum.Null f value after e = same_fits after e
  stores_fit (datum.Int i) f value after e = same_fits after e
  stores_fit (datum.Object m) f value after stores =
      elim (known_or_not m) [
        | inl k ↦ subst (FitPages limits) (sym (stores.0 k)) (stored_fits m f value k)
        | inr unknown ↦ given_fits value after (stores.1 unknown)
      ]

-- an object that isn't refused is short enough
pub short : (page k : ℕ) (more : Option Refusal) → cond (ltb (page - OBJECT_WORDS) k) (Some refusal.TooLong) more ≡ None → k ≤ page - OBJECT_WORDS
short page k more e =
    elim (ltb (page - OBJECT_WORDS) k) as (λ b. ltb (page - OBJECT_WORDS) k ≡ b → cond b (Some refusal.TooLong) more ≡ None → k ≤ page - OBJECT_WORDS) [
      | true ↦ λ q r. cc
      | false ↦ λ q r. ltb-false (page - OBJECT_WORDS) k q
    ] refl e

made_short : (g : Graph) (t k : ℕ) (h : Graph) → answers g t (call.New k) reply.Ok h → k ≤ g.limits.page - OBJECT_WORDS
made_short g t k h =
    elim (refusal_of g t (call.New k)) as (λ o. refusal_of g t (call.New k) ≡ o → MatchOption o (Does g t (call.New k) reply.Ok h) (λ why. (reply.Ok ≡ reply.Refused why) × (h ≡ g)) → k ≤ g.limits.page - OBJECT_WORDS) [
      | None ↦ λ e d. short g.limits.page k _ e
      | Some why ↦ λ e r. cc
    ] refl

own_fits : (g : Graph) (t : ℕ) (known : KnownObjects) → OBJECT_WORDS ≤ g.limits.page → FitPages g.limits known
    → (asked : Call) (said : Reply) (h : Graph) (after : KnownObjects) → answers g t asked said h → OwnCall g t known asked said after → FitPages g.limits after
own_fits g t known wide fits (call.New k) reply.Ok h after moves e =
    let few : k ≤ g.limits.page - OBJECT_WORDS = made_short g t k h moves in
    let small : length (replicate k datum.Null) + OBJECT_WORDS ≤ g.limits.page = omega (arith, length-replicate k datum.Null) in
    subst (FitPages g.limits) (sym e) (added_fits g.limits known fits (next_name g t) (Fields (replicate k datum.Null)) small)
own_fits g t known wide fits (call.New k) reply.Null h after moves e = same_fits g.limits known fits after e
own_fits g t known wide fits (call.New k) (reply.Int i) h after moves e = same_fits g.limits known fits after e
own_fits g t known wide fits (call.New k) (reply.Object n) h after moves e = same_fits g.limits known fits after e
own_fits g t known wide fits (call.New k) reply.Yes h after moves e = same_fits g.limits known fits after e
own_fits g t known wide fits (call.New k) reply.No h after moves e = same_fits g.limits known fits after e
own_fits g t known wide fits (call.New k) (reply.Ended moved tight) h after moves e = same_fits g.limits known fits after e
own_fits g t known wide fits (call.New k) (reply.Pages free region control) h after moves e = same_fits g.limits known fits after e
own_fits g t known wide fits (call.New k) reply.OutOfHeap h after moves e = same_fits g.limits known fits after e
own_fits g t known wide fits (call.New k) (reply.Refused why) h after moves e = same_fits g.limits known fits after e
own_fits g t known wide fits (call.Store s f x) reply.Ok h after moves stores = stores_fit g.limits known fits (slot_of g t s) f (slot_of g t x) after stores
own_fits g t known wide fits (call.Store s f x) reply.Null h after moves e = same_fits g.limits known fits after e
own_fits g t known wide fits (call.Store s f x) (reply.Int i) h after moves e = same_fits g.limits known fits after e
own_fits g t known wide fits (call.Store s f x) (reply.Object n) h after moves e = same_fits g.limits known fits after e
own_fits g t known wide fits (call.Store s f x) reply.Yes h after moves e = same_fits g.limits known fits after e
own_fits g t known wide fits (call.Store s f x) reply.No h after moves e = same_fits g.limits known fits after e
own_fits g t known wide fits (call.Store s f x) (reply.Ended moved tight) h after moves e = same_fits g.limits known fits after e
own_fits g t known wide fits (call.Store s f x) (reply.Pages free region control) h after moves e = same_fits g.limits known fits after e
own_fits g t known wide fits (call.Store s f x) reply.OutOfHeap h after moves e = same_fits g.limits known fits after e
own_fits g t known wide fits (call.Store s f x) (reply.Refused why) h after moves e = same_fits g.limits known fits after e
own_fits g t known wide fits (call.Int i) said h after moves e = same_fits g.limits known fits after e
own_fits g t known wide fits call.Null said h after moves e = same_fits g.limits known fits after e
own_fits g t known wide fits (call.Dup s) said h after moves e = same_fits g.limits known fits after e
own_fits g t known wide fits call.Pop said h after moves e = same_fits g.limits known fits after e
own_fits g t known wide fits (call.Load s f) said h after moves e = same_fits g.limits known fits after e
own_fits g t known wide fits (call.Get s) said h after moves e = same_fits g.limits known fits after e
own_fits g t known wide fits (call.Same s x) said h after moves e = same_fits g.limits known fits after e
own_fits g t known wide fits call.Begin said h after moves e = same_fits g.limits known fits after e
own_fits g t known wide fits call.End said h after moves e = same_fits g.limits known fits after e
own_fits g t known wide fits call.Collect said h after moves e = same_fits g.limits known fits after e
own_fits g t known wide fits call.Census said h after moves e = same_fits g.limits known fits after e

pub fitting_is_kept : FittingIsKept
fitting_is_kept g (Said u asked said) h t known after wide moves fits ka =
    elim (same_or_other_number u t) [
      | inl e ↦ own_fits g t known wide fits asked said h after (subst (λ w. answers g w asked said h) e moves.1) (ka.0 e)
      | inr o ↦ same_fits g.limits known fits after (ka.1 o)
    ]
fitting_is_kept g (Collected u) h t known after wide moves fits ka = same_fits g.limits known fits after ka
