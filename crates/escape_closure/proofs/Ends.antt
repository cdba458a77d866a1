-- The targets of an end, from the sources to the empty list.
use Rattle.std.proofs.Common.{◌≡◌, ◌≢◌, ℕ, ◌+◌, ◌-◌, ◌*◌, ◌≤◌, ◌<◌, List, [], ◌∷◌, Some, None, refl, sym, ap, subst, ◌∙◌, arith, inl, inr, get_or, length}
use Rattle.escape_closure.specs.declared.raising.Tally.{Tally}
use Rattle.epoch_lattice.specs.declared.TheConstants.{MAX_DEPTH}
use Rattle.heap_words.specs.declared.TheConstants.{STACK_SLOTS}
use Rattle.std.specs.List.{sum_by}
use Rattle.std.proofs.lemmas.List.Sums.{sum_by-cons}
use Rattle.std.specs.Int.{IsBitSet}
use Rattle.object_layout.specs.declared.names.Name.{Name}
use Rattle.epoch_lattice.specs.declared.Space.{Space}
use Rattle.epoch_lattice.specs.declared.Space.TheVariants.{Control}
use Rattle.epoch_lattice.specs.Lattice.{parent_of}
use Rattle.epoch_lattice.proofs.Lattice.{below-transitive}
use Rattle.yak_model.specs.Spaces.{here}
use Rattle.heap_words.specs.declared.map.Areas.{Areas}
use Rattle.heap_words.specs.Cells.{row}
use Rattle.heap_words.specs.Contents.{Contents}
use Rattle.yak_model.specs.State.{Thing}
use Rattle.yak_model.specs.Stands.{words_in, words_taken}
use Rattle.remember_sets.specs.Filed.{chain}
use Rattle.heap_walks.specs.Laid.{work_of}
use Rattle.escape_closure.specs.Words.{scans_left}
use Rattle.escape_closure.specs.Raising.{Ended, Rises, RaisesOn, IsClosedOff, Scans, IsStackDue, IsStackPaid, AreSlotsPaid, AreSourcesPaid, EndsAt, TargetsStand, potential}
use Rattle.escape_closure.proofs.Fields.{then_on}
use Rattle.escape_closure.proofs.Outside.{due_source, slot_still, stack_still, sources_paid}
use Rattle.heap_walks.specs.Reach.{IsHeldAt}
use Rattle.escape_closure.proofs.Tells.{index_fits}
use Rattle.escape_closure.proofs.Settles.{settled}

pub own_due : (e : Ended) (k : ℕ) (x : Space) → k ≡ e.thread - 1 → x ≡ parent_of e.region → IsStackDue e k x
own_due e k x q is n held here_ = due_source e n x (n, (here_, inr (inl (subst (λ j. IsHeldAt e.laid.state j n) q held, is))), here)

fresh_closed : (e : Ended) (c d : Contents) → ((n : Name) (o : Thing) → e.laid.state.objects n ≡ Some o → work_of e.laid c n ≡ 0) → Rises e c d → IsClosedOff e d
fresh_closed e c d zero_words r n x b here_ valid word edge =
    elim (r.others n here_.0 here_.1) [
      | inl w ↦ absurd (omega (arith, w, word, index_fits x valid))
      | inr q ↦ absurd (omega (arith, q, word, zero_words n here_.0 here_.1))
    ]

times_sum : {X : Type 0} (f g : X → ℕ) (k : ℕ) (xs : List X) → ((x : X) → g x ≡ k * f x) → sum_by g xs ≡ k * sum_by f xs
times_sum f g k [] each = omega arith
times_sum f g k (x ∷ xs) each =
    let rest : sum_by g xs ≡ k * sum_by f xs = times_sum f g k xs each in
    rw (sum_by-cons g x xs, sum_by-cons f x xs, each x, rest) (grind arith)

-- before the first rise each object of the region can be scanned nine times
start_term : (e : Ended) (c : Contents) → ((n : Name) (o : Thing) → e.laid.state.objects n ≡ Some o → work_of e.laid c n ≡ 0) → (n : Name) → 3 * words_in e.region (e.laid.state.objects n) * scans_left (work_of e.laid c n) ≡ 27 * words_in e.region (e.laid.state.objects n)
start_term e c zero_words n =
    elim (e.laid.state.objects n) as (λ p. e.laid.state.objects n ≡ p → 3 * words_in e.region (e.laid.state.objects n) * scans_left (work_of e.laid c n) ≡ 27 * words_in e.region (e.laid.state.objects n)) [
      | None ↦ λ none. let z : words_in e.region (e.laid.state.objects n) ≡ 0 = ap (words_in e.region) none in rw z (omega arith)
      | Some o ↦ λ some. let nine : scans_left (work_of e.laid c n) ≡ MAX_DEPTH + 1 = ap scans_left (zero_words n o some) in rw nine (omega arith)
    ] refl

start_potential : (e : Ended) (c : Contents) → ((n : Name) (o : Thing) → e.laid.state.objects n ≡ Some o → work_of e.laid c n ≡ 0) → potential e c ≡ 27 * words_taken e.laid.places.pages e.laid.state.objects e.region
start_potential e c zero_words = times_sum _ _ 27 e.laid.places.pages (λ ns. times_sum _ _ 27 ns (start_term e c zero_words))

pub targets_stand : (m : Areas) (e : Ended) (c s1 s2 s3 d : Contents) (i j k : Tally) (thread depth readers r0 r1 r2 r3 r4 found : ℕ) (x : Space) → 1 ≤ thread → EndsAt m e c thread depth
    → RaisesOn m e c s1 i → AreSlotsPaid m e s1 (length (chain m e.laid.before e.region)) → r1 ≤ r0 + (1 + 5 * length (chain m e.laid.before e.region))
    → RaisesOn m e s1 s2 j → IsStackPaid e s2 (thread - 1) x → x ≡ parent_of e.region → r2 ≤ r1 + (1 + 3 * length (get_or e.laid.state.stacks (thread - 1) []))
    → readers ≡ get_or (row s2.readers (thread - 1)) (depth - 1) 0
    → RaisesOn m e s2 s3 k → ((t : ℕ) → t < m.threads → t + 1 ≢ thread → IsBitSet readers t → IsStackPaid e s3 t Control) → r3 ≤ r2 + (1 + (1 + 3 * STACK_SLOTS) * m.threads)
    → Scans m e s3 r3 d r4 (record { waiting = 0; escaping = found }) → TargetsStand m e r0 d r4 found
targets_stand m e c s1 s2 s3 d i j k thread depth readers r0 r1 r2 r3 r4 found x some ends a entries ra b own is rb word cc_ marked rc scans =
    let up : RaisesOn m e c s3 k = then_on m e c s2 s3 j k (then_on m e c s1 s2 i j a b) cc_ in
    let same : s2.readers ≡ e.laid.before.readers = ap (λ (y : Contents). y.readers) b.raising.among.frame in
    let word' : readers ≡ get_or (row e.laid.before.readers (thread - 1)) (depth - 1) 0 = word ∙ ap (λ (rs : List (List ℕ)). get_or (row rs (thread - 1)) (depth - 1) 0) same in
    let paid : AreSourcesPaid e s3 = sources_paid m e s3 k thread depth cc_.raising ends.recorded ends.region ends.thread_is some ends.threads ends.filed
    (λ p lt. slot_still e s2 s3 _ cc_.rises (slot_still e s1 s2 _ b.rises (entries p lt)))
    (subst (λ y. IsStackPaid e s3 (e.thread - 1) y) is (subst (λ t. IsStackPaid e s3 (t - 1) x) (sym ends.thread_is) (stack_still e s2 s3 (thread - 1) x cc_.rises own)))
    (λ t low high ne reads. marked (t - 1) (omega arith) (omega (arith, ne, low)) (subst (λ w. IsBitSet w (t - 1)) (sym word') reads)) in
    let last : AreSourcesPaid e d = λ n y source.
    let raised = paid n y source in
    let next = scans.targets n raised.0 source.0 raised.1 in
    (next.0, next.1, below-transitive y raised.0 next.0 raised.2 next.2) in
    let closed : IsClosedOff e d = scans.closed (fresh_closed e c s3 ends.zero_words up.rises) in
    record {
      among = scans.raising.among;
      settled = settled m e d found scans.raising closed last;
      counted = scans.raising.counted;
      outside = λ n o present ne. elim (scans.raising.works n o present) [ inl q ↦ q | inr t ↦ absurd (ne t.0) ];
      reads =
          let stack : length (get_or e.laid.state.stacks (thread - 1) []) ≡ length (get_or e.laid.state.stacks (e.thread - 1) []) = ap (λ t. length (get_or e.laid.state.stacks (t - 1) [])) (sym ends.thread_is) in
          omega (arith, ra, rb, rc, scans.reads, up.rises.cheaper, stack, start_potential e c ends.zero_words);
    }
