-- The heap as a graph of objects, and what each call answers and does to it.
use Rattle.std.specs.Prelude.{◌≡◌, ◌≢◌, ℕ, ◌+◌, ◌-◌, ◌≤◌, ◌⊎◌, Bool, true, false, not, cond, ltb, leb, List, [], ◌∷◌, ◌++◌, length, replicate, take, slice_index_or, slice_set, Option, Some, None, MatchOption}
use Rattle.std.specs.FinMap as finite
use Rattle.object_layout.specs.declared.names.Name.{Name}
use Rattle.object_layout.specs.declared.calls.Call.{Call}
use Rattle.object_layout.specs.declared.calls.Call.TheVariants as call
use Rattle.object_layout.specs.declared.replies.Refusal.{Refusal}
use Rattle.object_layout.specs.declared.replies.Refusal.TheVariants as refusal
use Rattle.object_layout.specs.declared.replies.Reply.{Reply}
use Rattle.object_layout.specs.declared.replies.Reply.TheVariants as reply
use Rattle.object_layout.specs.declared.TheConstants.{MAX_DEPTH, MAX_SERIAL, OBJECT_WORDS, PAGE_WORDS}
use Rattle.yak_model.specs.declared.datum.Datum.{Datum}
use Rattle.yak_model.specs.declared.datum.Datum.TheVariants as datum
use Rattle.yak_model.specs.declared.TheConstants.{ROOT_FIELDS}
use Rattle.heap_words.specs.declared.TheConstants.{STACK_SLOTS}
use Rattle.yak_model.specs.Names.{name_cmp, root_name}

-- the page size in words, and the greatest depth of a thread's epochs
pub record Limits : Type 0 where
  pub page : ℕ
  pub depth : ℕ

-- what an object holds
pub data Content : Type 0 where
  Fields : List Datum → Content

-- the values of its fields
abbrev pub fields_of : Content → List Datum
fields_of (Fields values) = values

-- its words in the heap
abbrev pub size_of : Content → ℕ
size_of (Fields values) = length values + OBJECT_WORDS

-- what a thread has: the slots of its stack, the depth of its epochs, and the number of objects made
pub record Thread : Type 0 where
  pub stack : List Datum
  pub depth : ℕ
  pub made : ℕ

-- the limits, the finite map from names to objects, and the threads, of which the first has the number 1
pub record Graph : Type 0 where
  pub limits : Limits
  pub objects : finite.FinMap name_cmp Content
  pub threads : List Thread

-- what a thread has that made no call and holds nothing
abbrev pub idle : Thread
idle = record { stack = []; depth = 0; made = 0 }

-- the threads are numbered from 1
abbrev pub IsThread : Graph → ℕ → Type 0
IsThread g t = (1 ≤ t) × (t ≤ length g.threads)

-- what a thread has
abbrev pub thread_of : Graph → ℕ → Thread
thread_of g t = slice_index_or g.threads (t - 1) idle

-- the graph in which a thread has this instead
abbrev pub with_thread : Graph → ℕ → Thread → Graph
with_thread g t state = record g { threads = slice_set g.threads (t - 1) state }

-- the slots of a thread, the lowest first
abbrev pub stack_of : Graph → ℕ → List Datum
stack_of g t = (thread_of g t).stack

-- the value of a slot
abbrev pub slot_of : Graph → ℕ → ℕ → Datum
slot_of g t s = slice_index_or (stack_of g t) s datum.Null

-- the fields of what was looked up, none where there is nothing
abbrev pub fields_or_none : Option Content → List Datum
fields_or_none None = []
fields_or_none (Some content) = fields_of content

-- the fields of the object that a value refers to
abbrev pub fields_at : Graph → Datum → List Datum
fields_at g (datum.Object name) = fields_or_none (finite.get g.objects name)
fields_at g datum.Null = []
fields_at g (datum.Int i) = []

-- whether a value refers to an object
abbrev pub is_reference : Datum → Bool
is_reference (datum.Object name) = true
is_reference datum.Null = false
is_reference (datum.Int i) = false

-- the name of the next object of a thread
abbrev pub next_name : Graph → ℕ → Name
next_name g t = record { thread = t; serial = (thread_of g t).made + 1 }

-- ---- what a call does

-- the value on top of the stack of a thread
abbrev pub push : Graph → ℕ → Datum → Graph
push g t value = let state = thread_of g t in with_thread g t (record state { stack = state.stack ++ value ∷ [] })

-- the stack of a thread without its top slot
abbrev pub drop_top : Graph → ℕ → Graph
drop_top g t = let state = thread_of g t in with_thread g t (record state { stack = take (length state.stack - 1) state.stack })

-- another depth of a thread
abbrev pub with_depth : Graph → ℕ → ℕ → Graph
with_depth g t depth = let state = thread_of g t in with_thread g t (record state { depth = depth })

-- an object with this content, made or written over
abbrev pub with_object : Graph → Name → Content → Graph
with_object g name content = record g { objects = finite.insert g.objects name content }

-- a new object of k fields, and a reference to it on the stack
abbrev pub make : Graph → ℕ → ℕ → Graph
make g t k =
    let state = thread_of g t in
    with_thread (with_object g (next_name g t) (Fields (replicate k datum.Null))) t
    (record state { stack = state.stack ++ datum.Object (next_name g t) ∷ []; made = state.made + 1 })

-- the object that the value refers to, with a new value in a field
abbrev pub put_field : Graph → Datum → ℕ → Datum → Graph
put_field g (datum.Object name) f value =
    with_object g name (Fields (slice_set (fields_at g (datum.Object name)) f value))
put_field g datum.Null f value = g
put_field g (datum.Int i) f value = g

-- ---- refusals

-- the stack has no room for another slot
abbrev pub is_stack_full : Graph → ℕ → Bool
is_stack_full g t = leb STACK_SLOTS (length (stack_of g t))

-- the slot is at or past the length of the stack
abbrev pub is_bad_slot : Graph → ℕ → ℕ → Bool
is_bad_slot g t s = leb (length (stack_of g t)) s

-- the field is at or past the number of fields of the object of a slot
abbrev pub is_bad_field : Graph → ℕ → ℕ → ℕ → Bool
is_bad_field g t s f = leb (length (fields_at g (slot_of g t s))) f

-- the refusal of the first test that holds
abbrev pub first_refusal : List (Bool × Refusal) → Option Refusal
first_refusal [] = None
first_refusal (test ∷ rest) = cond test.0 (Some test.1) (first_refusal rest)

-- why a call is refused, other than for want of room in the heap
abbrev pub refusal_of : Graph → ℕ → Call → Option Refusal
refusal_of g t (call.Int i) = first_refusal ((is_stack_full g t, refusal.StackFull) ∷ [])
refusal_of g t call.Null = first_refusal ((is_stack_full g t, refusal.StackFull) ∷ [])
refusal_of g t (call.Dup s) =
    first_refusal ((is_bad_slot g t s, refusal.BadSlot) ∷ (is_stack_full g t, refusal.StackFull) ∷ [])
refusal_of g t call.Pop = first_refusal ((leb (length (stack_of g t)) 0, refusal.StackEmpty) ∷ [])
refusal_of g t (call.New k) =
    first_refusal (
    (ltb (g.limits.page - OBJECT_WORDS) k, refusal.TooLong)
    ∷ (is_stack_full g t, refusal.StackFull)
    ∷ (leb MAX_SERIAL (thread_of g t).made, refusal.NamesSpent)
    ∷ [])
refusal_of g t (call.Load s f) =
    first_refusal (
    (is_bad_slot g t s, refusal.BadSlot)
    ∷ (not (is_reference (slot_of g t s)), refusal.NotAReference)
    ∷ (is_bad_field g t s f, refusal.BadField)
    ∷ (is_stack_full g t, refusal.StackFull)
    ∷ [])
refusal_of g t (call.Store s f x) =
    first_refusal (
    (is_bad_slot g t s, refusal.BadSlot)
    ∷ (is_bad_slot g t x, refusal.BadSlot)
    ∷ (not (is_reference (slot_of g t s)), refusal.NotAReference)
    ∷ (is_bad_field g t s f, refusal.BadField)
    ∷ [])
refusal_of g t (call.Get s) = first_refusal ((is_bad_slot g t s, refusal.BadSlot) ∷ [])
refusal_of g t (call.Same s x) =
    first_refusal ((is_bad_slot g t s, refusal.BadSlot) ∷ (is_bad_slot g t x, refusal.BadSlot) ∷ [])
refusal_of g t call.Begin = first_refusal ((leb g.limits.depth (thread_of g t).depth, refusal.TooDeep) ∷ [])
refusal_of g t call.End = first_refusal ((leb (thread_of g t).depth 0, refusal.NoEpoch) ∷ [])
refusal_of g t call.Collect = None
refusal_of g t call.Census = None

-- ---- replies

-- what `get` shows of a value
abbrev pub shown : Graph → Datum → Reply
shown g datum.Null = reply.Null
shown g (datum.Int i) = reply.Int i
shown g (datum.Object name) = reply.Object (length (fields_at g (datum.Object name)))

-- a reply to the end of an epoch
abbrev pub IsEnded : Reply → Type 0
IsEnded said = (moved : ℕ) × (tight : Bool) × (said ≡ reply.Ended moved tight)

-- a reply to a census
abbrev pub IsPages : Reply → Type 0
IsPages said = (free : ℕ) × (region : ℕ) × (control : ℕ) × (said ≡ reply.Pages free region control)

-- A call that isn't refused may be answered so, and leads to h.
abbrev pub Does : Graph → ℕ → Call → Reply → Graph → Type 0
Does g t (call.Int i) said h = (said ≡ reply.Ok) × (h ≡ push g t (datum.Int i))
Does g t call.Null said h = (said ≡ reply.Ok) × (h ≡ push g t datum.Null)
Does g t (call.Dup s) said h = (said ≡ reply.Ok) × (h ≡ push g t (slot_of g t s))
Does g t call.Pop said h = (said ≡ reply.Ok) × (h ≡ drop_top g t)
Does g t (call.New k) said h = ((said ≡ reply.Ok) × (h ≡ make g t k)) ⊎ ((said ≡ reply.OutOfHeap) × (h ≡ g))
Does g t (call.Load s f) said h = (said ≡ reply.Ok) × (h ≡ push g t (slice_index_or (fields_at g (slot_of g t s)) f datum.Null))
Does g t (call.Store s f x) said h = (said ≡ reply.Ok) × (h ≡ put_field g (slot_of g t s) f (slot_of g t x))
Does g t (call.Get s) said h = (said ≡ shown g (slot_of g t s)) × (h ≡ g)
Does g t (call.Same s x) said h =
    (((said ≡ reply.Yes) × (slot_of g t s ≡ slot_of g t x)) ⊎ ((said ≡ reply.No) × (slot_of g t s ≢ slot_of g t x))) × (h ≡ g)
Does g t call.Begin said h = (said ≡ reply.Ok) × (h ≡ with_depth g t ((thread_of g t).depth + 1))
Does g t call.End said h = IsEnded said × (h ≡ with_depth g t ((thread_of g t).depth - 1))
Does g t call.Collect said h = (said ≡ reply.Ok) × (h ≡ g)
Does g t call.Census said h = IsPages said × (h ≡ g)

-- A call may be answered so, and leads to h.
abbrev pub answers : Graph → ℕ → Call → Reply → Graph → Type 0
answers g t asked said h =
    MatchOption (refusal_of g t asked) (Does g t asked said h) (λ why. (said ≡ reply.Refused why) × (h ≡ g))

-- The graph of a heap of so many threads as it opens: the root, and a reference to it on each stack.
abbrev pub opening : Limits → ℕ → Graph
opening limits threads = record {
  limits = limits;
  objects = finite.insert finite.empty root_name (Fields (replicate ROOT_FIELDS datum.Null));
  threads = replicate threads (record { stack = datum.Object root_name ∷ []; depth = 0; made = 0 });
}

-- the page size and the greatest depth of every heap
abbrev pub standard_limits : Limits
standard_limits = record { page = PAGE_WORDS; depth = MAX_DEPTH }
