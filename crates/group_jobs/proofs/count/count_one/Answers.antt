use Rattle.std.proofs.Common.{rules, ◌≡◌, ◌≢◌, ℕ, ◌+◌, ◌*◌, ◌≤◌, List, [], length, get_or, replicate, refl, ◌∙◌, ap, sym, subst, arith, Bool}
use Rattle.std.specs.FinMap.{empty}
use Rattle.yak_model.specs.declared.TheConstants.{ROOT_FIELDS}
use Rattle.yak_model.specs.declared.datum.Datum.TheVariants as datum
use Rattle.yak_model.specs.Names.{root_name}
use Rattle.yak_model.proofs.Names.{get-same}
use Rattle.yak_model.specs.Graph.{Thread}
use Rattle.yak_model.specs.Standing.{Standing}
use Rattle.yak_model.specs.Texts.{words_of}
use Rattle.group_jobs.specs.Alone.{IsListed, TellsWhy, opening_known, root_object}
use Rattle.group_jobs.specs.Tallies.{AreShort, IsProgress, busy_tasks, words_in}
use Rattle.group_jobs.specs.declared.count.CountError.{CountError}
use Rattle.group_jobs.specs.declared.count.CountError.TheVariants.{Memory, OutOfHeap}
use Rattle.group_jobs.specs.Tasks.{AreTasks}
use Rattle.group_jobs.specs.declared.TheConstants.{MOST_WORDS}
use Rattle.yak_io.specs.declared.TheConstants.{INPUT_LIMIT}
use Rattle.group_jobs.specs.declared.tasks.Task.{Task}
use Rattle.group_jobs.proofs.Counting.{none_long}
use Rattle.yak_model.specs.Private.{KnownObjects}
use Rattle.group_jobs.proofs.Progress.{progress_same}
use Rattle.group_jobs.proofs.Starting.{few_words, tasks_within}
use Rattle.group_jobs.proofs.Least.{room_held, root_aside}
use Rattle.yak_model.specs.Room.{least_room, most_room}
use Rattle.heap_words.specs.declared.map.Areas.{Areas}
use Rattle.heap_words.specs.Map.{page_words}
use Rattle.group_jobs.proofs.count.count_one.Goals as goal

few_in : (bytes : List ℕ) (tasks items : List Task) → tasks ≡ items → words_in bytes items ≡ words_of bytes → length bytes ≤ INPUT_LIMIT → length (words_in bytes tasks) ≤ MOST_WORDS
few_in bytes tasks items e w short = omega (arith, ap (λ ts. length (words_in bytes ts)) e, ap length w, few_words bytes, short)

pub count_tasks-requires-clause-opened : goal.count_tasks-requires-clause-opened
count_tasks-requires-clause-opened c =
    (empty, [], c.in-Ok-open_heap.ensures.knows, (ap (λ (s : Standing). length (s.own).stack) c.in-Ok-open_heap.ensures.standing, refl), omega (arith, few_in c.args.bytes.now c.deref.result.now c.in-Ok.tasks.items c.deref.ensures.value c.in-Ok.ensures.words c.requires.short))

pub count_tasks-requires-clause-within : goal.count_tasks-requires-clause-within
count_tasks-requires-clause-within c = tasks_within c.args.bytes.now c.args.lines c.deref.result.now (subst (λ ts. AreTasks c.args.bytes.now c.args.lines ts) (sym c.deref.ensures.value) c.in-Ok.ensures.tasks)

pub count_tasks-requires-clause-short : goal.count_tasks-requires-clause-short
count_tasks-requires-clause-short c =
    subst AreShort (sym (ap (words_in c.args.bytes.now) c.deref.ensures.value ∙ c.in-Ok.ensures.words)) (none_long (words_of c.args.bytes.now) c.requires.words)

pub count_tasks-requires-clause-names : goal.count_tasks-requires-clause-names
count_tasks-requires-clause-names c =
    let made = ap (λ (s : Standing). (s.own).made) c.in-Ok-open_heap.ensures.standing in
    omega (arith, made, few_in c.args.bytes.now c.deref.result.now c.in-Ok.tasks.items c.deref.ensures.value c.in-Ok.ensures.words c.requires.short)

listed : (bytes : List ℕ) (tasks items : List Task) (has : Bool) (t : Standing) (known : KnownObjects) → tasks ≡ items → words_in bytes items ≡ words_of bytes → length bytes ≤ INPUT_LIMIT
    → IsProgress has t known (words_in bytes tasks) → IsListed has t known (words_of bytes)
listed bytes tasks items has t known e w short progress = record {
  progress = subst (IsProgress has t known) (ap (words_in bytes) e ∙ w) progress;
  few = omega (arith, few_words bytes, short);
}

pub list_counts-requires : goal.list_counts-requires
list_counts-requires c =
    let r = c.in-Ok-count_tasks.ensures.counted empty c.in-Ok-open_heap.ensures.knows in
    record { progress = (r.0, words_of c.args.bytes.now, r.1, listed c.args.bytes.now c.deref.result.now c.in-Ok.tasks.items c.in-Ok-count_tasks.has_total _ r.0 c.deref.ensures.value c.in-Ok.ensures.words c.requires.short r.2) }

pub returns-clause-list : goal.returns-clause-list
returns-clause-list c =
    let r = c.in-Ok-count_tasks.ensures.counted empty c.in-Ok-open_heap.ensures.knows in
    c.in-Ok-list_counts.ensures.list r.0 (words_of c.args.bytes.now) r.1 (listed c.args.bytes.now c.deref.result.now c.in-Ok.tasks.items c.in-Ok-count_tasks.has_total _ r.0 c.deref.ensures.value c.in-Ok.ensures.words c.requires.short r.2)

pub returns-clause-heap : goal.returns-clause-heap
returns-clause-heap c =
    let r = c.in-Ok-count_tasks.ensures.counted opening_known c.in-Ok-open_heap.ensures.root in
    let l = listed c.args.bytes.now c.deref.result.now c.in-Ok.tasks.items c.in-Ok-count_tasks.has_total _ r.0 c.deref.ensures.value c.in-Ok.ensures.words c.requires.short r.2 in
    let own = c.in-Ok-list_counts.ensures.own in
    c.close_heap-core.ensures.holds c.in-Ok-count_tasks.has_total r.0 (words_of c.args.bytes.now) (c.in-Ok-list_counts.ensures.kept r.0 (words_of c.args.bytes.now) r.1 l)
    (progress_same c.in-Ok-count_tasks.has_total _ _ r.0 (words_of c.args.bytes.now) (ap (λ (o : Thread). o.stack) own) l.progress)
    (record {
      slot = ap (λ (o : Thread). get_or o.stack 0 datum.Null) own ∙ r.3.slot ∙ ap (λ (s : Standing). get_or (s.own).stack 0 datum.Null) c.in-Ok-open_heap.ensures.standing;
      object = r.3.objects root_name (replicate ROOT_FIELDS datum.Null) (get-same empty root_name root_object) root_aside;
    })
    (ap (λ (o : Thread). o.depth) own ∙ c.in-Ok-count_tasks.ensures.depth)

pub returns-clause-room : goal.returns-clause-room
returns-clause-room c =
    let map : c.close_heap-core.result.map ≡ record { pages = c.args.pages; threads = 1 } = c.close_heap-core.ensures.map ∙ ap (λ (b : Areas × Areas × ℕ). b.0) (c.list_counts.ensures.base ∙ c.in-Ok-count_tasks.ensures.went.stays.0) ∙ c.in-Ok-open_heap.ensures.map in
    subst (λ (m : Areas). least_room (words_of c.args.bytes.now) ≤ page_words m * m.pages) map (room_held _ _ (words_of c.args.bytes.now) (returns-clause-heap c))

-- what is told of the pages where the heap had no room
abbrev TellsPages : Areas → ℕ → List ℕ → CountError (Unit {0}) → Type 0
TellsPages m lines bytes (OutOfHeap census heap) =
    (census.free ≡ 0) × ((tasks : List Task) × AreTasks bytes lines tasks × (page_words m * m.pages ≤ 2 * most_room 1 (busy_tasks bytes tasks) (words_of bytes) + 2 * page_words m))
TellsPages m lines bytes Memory = Unit {0}

with_word : (m : Areas) (lines : ℕ) (bytes : List ℕ) (error : CountError (Unit {0})) → words_of bytes ≢ [] → TellsPages m lines bytes error → TellsWhy m lines bytes error
with_word m lines bytes (OutOfHeap census heap) some told = (told.0, some, told.1)
with_word m lines bytes Memory some told = tt

pub returns-in_default-count_tasks-clause-why : goal.returns-in_default-count_tasks-clause-why
returns-in_default-count_tasks-clause-why c =
    with_word (record { pages = c.args.pages; threads = 1 }) c.args.lines c.args.bytes.now c.why_refused.result
    (λ none. c.in_default-count_tasks.ensures.busy (ap (words_in c.args.bytes.now) c.deref.ensures.value ∙ c.in-Ok.ensures.words ∙ none))
    (search rules)
