-- What one thread's way to an owned heap tells, by the heap's words.
use Rattle.std.specs.Prelude.{◌≡◌, ◌≢◌, ◌==◌, ◌/◌, ◌%◌, ◌+◌, ◌*◌, ◌≤◌, ℕ, List, [], ◌∷◌, cond, is_some, map, slice_index, sum_by, Option, None, Some, MatchOption}
use Rattle.std.specs.FinMap as finite
use Rattle.object_layout.specs.declared.calls.Call.{Call}
use Rattle.object_layout.specs.declared.calls.Call.TheVariants.{New}
use Rattle.object_layout.specs.declared.names.Name.{Name}
use Rattle.object_layout.specs.declared.replies.Census.{Census}
use Rattle.object_layout.specs.declared.replies.Reply.{Reply}
use Rattle.object_layout.specs.declared.TheConstants.{NAME_UNIT, OBJECT_WORDS}
use Rattle.heap_words.specs.declared.map.Areas.{Areas}
use Rattle.heap_words.specs.Map.{HasThread, page_words}
use Rattle.heap_words.specs.Contents.{Contents, depth_of, made_of, stack_of}
use Rattle.yak_model.specs.declared.datum.Datum.{Datum}
use Rattle.yak_model.specs.declared.datum.Datum.TheVariants as datum
use Rattle.yak_model.specs.Names.{name_cmp}
use Rattle.yak_model.specs.Graph.{Content, Graph, Thread, standard_limits}
use Rattle.yak_model.specs.Private.{AreMade, FitPages, IsPrivate, KnownObjects}
use Rattle.yak_model.specs.Spaces.{SpaceState}
use Rattle.yak_model.specs.Standing.{Standing}
use Rattle.yak_model.specs.Stands.{Stands}
use Rattle.heap_core.specs.declared.owned.Stepped.{Stepped}
use Rattle.heap_core.specs.Done.{Done}
use Rattle.heap_core.specs.Steps.{entries}
use Rattle.yak_model.specs.Continued.{TurnsTo}

-- ---- threads, as the words show them

-- the name that a word tells
abbrev pub name_told : ℕ → Name
name_told word = record { thread = word / NAME_UNIT; serial = word % NAME_UNIT }

-- the value that a word tells, where the objects lie in this heap area: an object has its name behind its header
abbrev pub datum_told : List ℕ → ℕ → Datum
datum_told heap word = cond (word % 2 == 1) (datum.Int (word / 2)) (cond (word == 0) datum.Null (datum.Object (name_told (slice_index heap (word / 2)))))

-- what a thread has
abbrev pub thread_told : Contents → ℕ → Thread
thread_told c t = record { stack = map (datum_told c.heap) (stack_of c t); depth = depth_of c t; made = made_of c t }

-- what a caller counts, and what its own thread has
abbrev pub standing_told : Contents → ℕ → ℕ → ℕ → Option (Census × ℕ × ℕ) → Standing
standing_told c t made refusals last =
    record {
      thread = t;
      limits = standard_limits;
      own = thread_told c t;
      words = made;
      list = None;
      refusals = refusals;
      last = last;
    }

-- It is what a thread of the heap has, other than the caller's own.
pub record TellsThread (m : Areas) (c : Contents) (own t : ℕ) (told : Thread) : Type 0 where
  pub thread : HasThread m t
  pub other : t ≢ own
  pub as_told : told ≡ thread_told c t

-- ---- maps of objects that one thread alone knows

-- the objects, and those of a list whose names aren't there
abbrev pub with_absent : finite.FinMap name_cmp Content → List (Name × Content) → finite.FinMap name_cmp Content
with_absent objects [] = objects
with_absent objects (e ∷ es) = cond (is_some (finite.get objects e.0)) (with_absent objects es) (finite.insert (with_absent objects es) e.0 e.1)

-- the graph, and those of the known objects that aren't there
abbrev pub graph_with : Graph → KnownObjects → Graph
graph_with g known = record g { objects = with_absent g.objects (finite.entries known) }

-- The thread alone knows the map, in the state for which the words stand with those objects of the map added that were made
-- and aren't present any more. Each object of the map fits a page.
pub record KnowsAlone (m : Areas) (c : Contents) (t : ℕ) (known : KnownObjects) : Type 0 where
  pub state : SpaceState
  pub stands : Stands m c state
  pub made : AreMade (graph_with state.graph known)
  pub private : IsPrivate (graph_with state.graph known) t known
  pub fits : FitPages standard_limits known

-- Another thread of the heap, other than the caller's own, alone knows the map.
pub record TellsKnown (m : Areas) (c : Contents) (own t : ℕ) (known : KnownObjects) : Type 0 where
  pub thread : HasThread m t
  pub other : t ≢ own
  pub alone : KnowsAlone m c t known

-- ---- words of objects

-- the words in use in all pages
abbrev pub words_used : List (List ℕ) → ℕ
words_used table = sum_by (λ (r : List ℕ). slice_index r 1) table

-- the words that a call asks for
abbrev pub words_asked : Call → ℕ
words_asked (New k) = k + OBJECT_WORDS
words_asked asked = 0

-- Where the heap has one thread, its pages have at most twice so many words, and one page more for each space that is open
-- with the thread at this depth.
abbrev pub FillsPages : Areas → ℕ → ℕ → Type 0
FillsPages m words depth = m.threads ≡ 1 → page_words m * m.pages ≤ 2 * words + page_words m * (depth + 1)

-- ---- a call as a step

-- The call is a step of the thread with this reply: each state that the words stood for turns by its entries to one that they
-- stand for now, and all else is done that a step does. Where the step tells the counts of the pages, they are kept with the
-- depth and the words asked for, and else what was kept stays.
pub record MakesStep (m : Areas) (was now : Contents) (t : ℕ) (asked : Call) (said : Reply) (kept kept_now : Option (Census × ℕ × ℕ)) : Type 0 where
  pub stepped : Stepped
  pub reply : said ≡ stepped.reply
  pub turns : (s : SpaceState) (h : Stands m was s) → TurnsTo m was now s h (entries t asked stepped)
  pub done : Done m was now t asked stepped
  pub keeps : MatchOption stepped.full (kept_now ≡ kept) (λ census. kept_now ≡ Some (census, depth_of now t, words_asked asked))
