-- What a call for an object leaves, where only some map is known to be known.
use Rattle.std.proofs.Common.{◌≡◌, ◌≢◌, inl, inr, ℕ, ◌+◌, ◌-◌, ◌^◌, ◌<◌, ◌≤◌, min, Bool, true, false, List, [], ◌∷◌, refl, ◌∙◌, arith, ap, sym, length, Option, Some, None}
use Rattle.std.proofs.Math.Logic.{∥∥₁_elim}
use Rattle.std.proofs.Props.{props}
use Rattle.std.proofs.lemmas.List.Elements.{All-cons, All-nil}
use Rattle.std.specs.List.{All}
use Rattle.std.specs.FinMap.{empty}
use Rattle.object_layout.specs.declared.TheConstants.{MAX_FIELDS, MAX_SERIAL, OBJECT_WORDS}
use Rattle.object_layout.specs.declared.calls.Call.TheVariants as call
use Rattle.object_layout.specs.declared.replies.Reply.{Reply}
use Rattle.object_layout.specs.declared.replies.Reply.TheVariants as reply
use Rattle.heap_words.specs.declared.TheConstants.{STACK_SLOTS}
use Rattle.yak_model.specs.Graph.{Limits, Thread, standard_limits}
use Rattle.yak_model.specs.declared.history.Entry.{Entry}
use Rattle.yak_model.specs.declared.history.Entry.TheVariants.{Collected, Said}
use Rattle.yak_model.specs.Private.{KnownObjects}
use Rattle.yak_model.specs.Standing.{AddsEntries, Counted, IsLast, MovesKnown, Standing, Stays, counted_on, entries_of, words_made}
use Rattle.heap_tables.specs.Runs.{GrowsPlainly, IsPlainEntry, IsRefused, Ran, RanOut, Since, stack_in, with_made}
use Rattle.heap_tables.proofs.Effects.{new_effect}

plain_entry : (t k : ℕ) (said : Reply) → All (IsPlainEntry t) (Said t (call.New k) said ∷ [])
plain_entry t k said = All-cons (IsPlainEntry t) (Said t (call.New k) said) [] (refl, tt) (All-nil (IsPlainEntry t))

plain_entries : (t k : ℕ) (said : Reply) (collected : Bool) → All (IsPlainEntry t) (entries_of collected t (call.New k) said)
plain_entries t k said true = All-cons (IsPlainEntry t) (Collected t) (Said t (call.New k) said ∷ []) refl (plain_entry t k said)
plain_entries t k said false = plain_entry t k said

plain_list : (t k : ℕ) (said : Reply) (list after : Option (List Entry)) → AddsEntries t (call.New k) said list after → GrowsPlainly t list after
plain_list t k said None after h = h
plain_list t k said (Some list) after h = (entries_of h.0 t (call.New k) said, h.1, plain_entries t k said h.0)

counted_again : (a b w : ℕ) → b ≡ counted_on a w → counted_on b 0 ≡ counted_on a w
counted_again a b w e = capped a b w (2 ^ 64 - 1) e
  where
    capped : (a b w M : ℕ) → b ≡ min (a + w) M → min (b + 0) M ≡ min (a + w) M
    capped a b w M e = omega (arith, e)

module _ (s after : Standing) (k : ℕ) (said : Reply) (knows knows_after : KnownObjects → Type 0) (standard : s.limits ≡ standard_limits) (none : ∥ knows empty ∥₁) (moves : (known : KnownObjects) → knows known → MovesKnown s known (call.New k) said after.own knows_after)
    (counted : Counted s (call.New k) said after) (fields : k ≤ MAX_FIELDS) (room : length (stack_in s) < STACK_SLOTS) (names : s.own.made < MAX_SERIAL) where
  fits : k + OBJECT_WORDS ≤ s.limits.page
  fits = let page = ap (λ (l : Limits). l.page) standard in omega (arith, page, fields)

  pub new_same : said ≡ reply.OutOfHeap → after.own ≡ s.own
  new_same e = ∥∥₁_elim none (hlevel props) (λ k0. elim (new_effect s empty said after.own knows_after k (moves empty k0) fits room names) [
    | inl ok ↦ (let f = sym ok.0 ∙ e in cc)
    | inr full ↦ full.1
  ])

  new_said : said ≢ reply.OutOfHeap → said ≡ reply.Ok
  new_said ne = ∥∥₁_elim none (hlevel props) (λ k0. elim (new_effect s empty said after.own knows_after k (moves empty k0) fits room names) [
    | inl ok ↦ ok.0
    | inr full ↦ absurd (ne full.0)
  ])

  pub new_pushed : said ≢ reply.OutOfHeap → after.own ≡ with_made s
  new_pushed ne = ∥∥₁_elim none (hlevel props) (λ k0. elim (new_effect s empty said after.own knows_after k (moves empty k0) fits room names) [
    | inl ok ↦ ok.1
    | inr full ↦ absurd (ne full.0)
  ])

  since_new : (w : ℕ) → after.own.depth ≡ s.own.depth → words_made (call.New k) said ≡ w → Since s after w
  since_new w depth e = record {
    thread = counted.thread;
    limits = counted.limits;
    depth = depth;
    words_made = counted_again s.words after.words w (counted.words ∙ ap (counted_on s.words) e);
    list = plain_list s.thread k said s.list after.list counted.list;
  }

  refused : said ≡ reply.OutOfHeap → IsRefused s after k
  refused e =
      let full = counted.full e in
      let last : IsLast s (call.New k) after.last = full.1 in
      let same : k ≡ last.0 = let q = last.2 in cc in
      record { refusals = full.0; census = last.1; none_free = last.3; last = last.4 ∙ ap (λ n. Some (last.1, s.own.depth, n + OBJECT_WORDS)) (sym same) }

module _ {S B : Type 0} (base : S → B) (tells : S → ℕ → Thread → Type 0) (tells_known : S → ℕ → KnownObjects → Type 0) (standing : S → Standing) (x y : S) (k : ℕ) (said : Reply) (knows knows_after : KnownObjects → Type 0) (standard : (standing x).limits ≡ standard_limits) (none : ∥ knows empty ∥₁)
    (moves : (known : KnownObjects) → knows known → MovesKnown (standing x) known (call.New k) said (standing y).own knows_after) (counted : Counted (standing x) (call.New k) said (standing y)) (fields : k ≤ MAX_FIELDS) (room : length (stack_in (standing x)) < STACK_SLOTS) (names : (standing x).own.made < MAX_SERIAL)
    (stays : Stays base tells tells_known x y) where
  pub new_ran_out : said ≡ reply.OutOfHeap → RanOut base tells tells_known standing x y 0 k
  new_ran_out e = record {
    stays = stays;
    since = since_new (standing x) (standing y) k said knows knows_after standard none moves counted fields room names 0 (ap (λ (o : Thread). o.depth) (new_same (standing x) (standing y) k said knows knows_after standard none moves counted fields room names e)) (ap (words_made (call.New k)) e);
    refused = refused (standing x) (standing y) k said knows knows_after standard none moves counted fields room names e;
  }

  pub new_ran : said ≢ reply.OutOfHeap → Ran base tells tells_known standing x y (k + OBJECT_WORDS)
  new_ran ne = record {
    stays = stays;
    since = since_new (standing x) (standing y) k said knows knows_after standard none moves counted fields room names (k + OBJECT_WORDS) (ap (λ (o : Thread). o.depth) (new_pushed (standing x) (standing y) k said knows knows_after standard none moves counted fields room names ne)) (ap (words_made (call.New k)) (new_said (standing x) (standing y) k said knows knows_after standard none moves counted fields room names ne));
    quiet = let q = counted.other ne in record { refusals = q.0; last = q.1 };
  }
