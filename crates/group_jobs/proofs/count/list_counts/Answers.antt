use Rattle.std.proofs.Common.{◌≡◌, ℕ, ◌+◌, ◌≤◌, List, [], true, false, length, ap, sym, subst, ◌∙◌, arith}
use Rattle.object_layout.specs.declared.names.Name.{Name}
use Rattle.heap_words.specs.declared.TheConstants.{STACK_SLOTS}
use Rattle.yak_model.specs.Private.{KnownObjects}
use Rattle.yak_model.specs.Standing.{Standing}
use Rattle.group_jobs.specs.Alone.{IsListed}
use Rattle.group_jobs.specs.Tallies.{IsProgress}
use Rattle.yak_model.specs.Texts.{counts_of, word_cmp, word_counts}
use Rattle.heap_tables.specs.declared.TheConstants.{FREE_SLOTS}
use Rattle.heap_tables.specs.Cursors.{MayWalk}
use Rattle.heap_tables.specs.Runs.{stack_in}
use Rattle.group_jobs.specs.declared.TheConstants.{TOTAL_SLOT}
use Rattle.group_jobs.proofs.Nothing.{no_entries}
use Rattle.group_jobs.proofs.Tallying.{tally_walk}
use Rattle.group_jobs.proofs.count.list_counts.Goals as goal

listed_walk : (s : Standing) (known : KnownObjects) (done : List (List ℕ)) (has : _) → has ≡ true → IsListed has s known done → (name : Name) × MayWalk s known TOTAL_SLOT name (word_counts done)
listed_walk s known done has is l = let t = (subst (λ b. IsProgress b s known done) is l.progress).1 in (t.name, tally_walk s known done t l.few)

listed_room : (s : Standing) (known : KnownObjects) (done : List (List ℕ)) (has : _) → has ≡ true → IsListed has s known done → length (stack_in s) + FREE_SLOTS ≤ STACK_SLOTS
listed_room s known done has is l = let size = (subst (λ b. IsProgress b s known done) is l.progress).0 in omega (arith, size)

no_total : (s : Standing) (known : KnownObjects) (done : List (List ℕ)) (has : _) → has ≡ false → IsListed has s known done → done ≡ []
no_total s known done has is l = (subst (λ b. IsProgress b s known done) is l.progress).1

none_counted : [] ≡ counts_of []
none_counted = sym (no_entries word_cmp ℕ)

pub returns-then-not-has_total-clause-list : goal.returns-then-not-has_total-clause-list
returns-then-not-has_total-clause-list c known done k l =
    c.new.ensures.items ∙ none_counted ∙ ap counts_of (sym (no_total _ known done c.args.has_total c.if-not-has_total.true l))

pub read_entries-requires-clause-table : goal.read_entries-requires-clause-table
read_entries-requires-clause-table c =
    let h = c.requires.progress in
    let walk = listed_walk _ h.0 h.1 c.args.has_total c.if-not-has_total.false h.3 in
    (h.0, walk.0, word_counts h.1, h.2, walk.1)

pub read_entries-requires-clause-room : goal.read_entries-requires-clause-room
read_entries-requires-clause-room c = let h = c.requires.progress in listed_room _ h.0 h.1 c.args.has_total c.if-not-has_total.false h.3

pub returns-in_err-list-clause-kept : goal.returns-in_err-list-clause-kept
returns-in_err-list-clause-kept c known done k l =
    let walk = listed_walk _ known done c.args.has_total c.if-not-has_total.false l in
    c.read_entries.ensures.kept known walk.0 (word_counts done) k walk.1

pub returns-clause-kept : goal.returns-clause-kept
returns-clause-kept c known done k l =
    let walk = listed_walk _ known done c.args.has_total c.if-not-has_total.false l in
    c.read_entries.ensures.kept known walk.0 (word_counts done) k walk.1

pub returns-clause-list : goal.returns-clause-list
returns-clause-list c known done k l =
    let walk = listed_walk _ known done c.args.has_total c.if-not-has_total.false l in
    c.sort_counts.ensures.counts done (c.in_ok-list.ensures.entries known walk.0 (word_counts done) k walk.1)
