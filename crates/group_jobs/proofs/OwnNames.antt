-- A thread knows objects of its own making alone.
use Rattle.std.proofs.Common.{◌≡◌, inl, inr, ℕ, true≢false, Option, None, Some, IsSome, is_some, refl, sym, ap, ◌∙◌, subst}
use Rattle.std.specs.FinMap.{empty, get, get-empty, insert}
use Rattle.object_layout.specs.declared.names.Name.{Name}
use Rattle.object_layout.specs.declared.calls.Call.{Call}
use Rattle.object_layout.specs.declared.calls.Call.TheVariants as call
use Rattle.object_layout.specs.declared.replies.Reply.{Reply}
use Rattle.object_layout.specs.declared.replies.Reply.TheVariants as reply
use Rattle.yak_model.specs.declared.datum.Datum.{Datum}
use Rattle.yak_model.specs.declared.datum.Datum.TheVariants as datum
use Rattle.yak_model.specs.Graph.{Content, Graph, Thread, next_name, slot_of}
use Rattle.yak_model.specs.Names.{name_cmp}
use Rattle.yak_model.specs.Private.{GivesAway, IsKnown, KnownObjects, LosesAll, OwnCall, StoresKnown}
use Rattle.yak_model.specs.Standing.{MovesKnown, Standing}
use Rattle.yak_model.proofs.Names.{get-other, same_or_other}
use Rattle.group_jobs.specs.Followed.{AreOwn}

pub none_own : (t : ℕ) → AreOwn t empty
none_own t name k = absurd (true≢false (sym k ∙ ap is_some (get-empty name_cmp name)))

module _ (t : ℕ) (known after : KnownObjects) (own : AreOwn t known) where
  same : after ≡ known → AreOwn t after
  same e = subst (AreOwn t) (sym e) own

  inserted : (name : Name) (content : Content) → name.thread ≡ t → after ≡ insert known name content → AreOwn t after
  inserted name content mine e n k = elim (same_or_other n name) [
    | inl is ↦ ap (λ (x : Name). x.thread) is ∙ mine
    | inr other ↦ own n (subst IsSome (ap (λ (m : KnownObjects). get m n) e ∙ get-other known name content n other) k)
  ]

  lost : (name : Name) → LosesAll known name after → AreOwn t after
  lost name loses n k = own n (subst IsSome (loses.kept n (λ walk. true≢false (sym k ∙ ap is_some (loses.lost n walk)))) k)

  given : (value : Datum) → GivesAway known value after → AreOwn t after
  given (datum.Object name) gives = lost name gives
  given datum.Null gives = same gives
  given (datum.Int i) gives = same gives

  stored : (to : Datum) (f : ℕ) (value : Datum) → StoresKnown known to f value after → AreOwn t after
  stored (datum.Object name) f value stores = by (get known name) refl
    where
      by : (o : Option Content) → get known name ≡ o → AreOwn t after
      by None e = given value (stores.1 (λ k. true≢false (sym k ∙ ap is_some e)))
      by (Some content) e = let k : IsKnown known name = ap is_some e in inserted name _ (own name k) (stores.0 k)
  stored datum.Null f value stores = same stores
  stored (datum.Int i) f value stores = same stores

  -- a call of the thread itself
  called : (g : Graph) (asked : Call) (said : Reply) → OwnCall g t known asked said after → AreOwn t after
  called g (call.New k) reply.Ok does = inserted (next_name g t) _ refl does
  called g (call.Store s f x) reply.Ok does = stored (slot_of g t s) f (slot_of g t x) does
  called g asked said does = same does

-- What becomes of the known objects at a call is of the thread's own making too.
pub own_moves : (s : Standing) (known : KnownObjects) (asked : Call) (said : Reply) (own_after : Thread) (knows : KnownObjects → Type 0) → AreOwn s.thread known → MovesKnown s known asked said own_after knows
    → MovesKnown s known asked said own_after (λ after. knows after × AreOwn s.thread after)
own_moves s known asked said own_after knows own moves = record {
  before = moves.before;
  later = moves.later;
  limits = moves.limits;
  own = moves.own;
  names = moves.names;
  private = moves.private;
  moves = moves.moves;
  own_later = moves.own_later;
  known_later = λ after becomes. (moves.known_later after becomes, called s.thread known after own moves.before asked said (becomes.0 refl));
}
