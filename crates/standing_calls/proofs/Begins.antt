-- An epoch that begins, over states.
use Rattle.std.proofs.Common.{◌≡◌, ◌≢◌, ℕ, ◌+◌, ◌-◌, ◌≤◌, ◌<◌, true, false, leb, List, length, get_or, set, refl, sym, ap, subst, ◌∙◌, arith, inl, inr, length-set, get_or-set_same, get_or-set_other}
use Rattle.std.proofs.lemmas.Bool.{cases_eq}
use Rattle.std.proofs.Math.Logic.{⊎_elim}
use Rattle.std.proofs.Math.Seq.{map-set_same}
use Rattle.std.proofs.lemmas.List.{map-set}
use Rattle.std.proofs.lemmas.List.Elements.{All-set}
use Rattle.object_layout.specs.declared.names.Name.{Name}
use Rattle.object_layout.specs.declared.TheConstants.{MAX_DEPTH}
use Rattle.object_layout.specs.declared.calls.Call.TheVariants as call
use Rattle.object_layout.specs.declared.replies.Reply.TheVariants as reply
use Rattle.object_layout.specs.declared.replies.Refusal.TheVariants as refusal
use Rattle.heap_words.specs.declared.map.Areas.{Areas}
use Rattle.heap_words.specs.Map.{HasThread, max_depth}
use Rattle.heap_words.specs.Contents.{Contents, depth_of, with_depth}
use Rattle.epoch_lattice.specs.declared.Space.{Space}
use Rattle.epoch_lattice.specs.declared.Space.TheVariants.{Control, Region}
use Rattle.epoch_lattice.specs.Lattice.{space_index}
use Rattle.yak_model.specs.Graph.{Limits, Thread, idle, thread_of}
use Rattle.yak_model.specs.Graph as graph
use Rattle.yak_model.specs.Spaces.{SpaceState}
use Rattle.yak_model.specs.State.{IsOpen, State, view}
use Rattle.yak_model.specs.Placed.{Places, space_word}
use Rattle.yak_model.specs.Stands.{Stands, StandsAs}
use Rattle.yak_model.specs.Recorded.{RecordedAs}
use Rattle.standing_calls.specs.Turned.{Turned}
use Rattle.standing_calls.specs.Room.{SameRoom}
use Rattle.standing_calls.specs.Records.{SameRecords}
use Rattle.standing_calls.proofs.Logged.{recorded-same}
use Rattle.standing_calls.proofs.Recorded.{keeps_all, same_records}
use Rattle.standing_calls.proofs.Named.{depth-shown}
use Rattle.standing_calls.proofs.Steps.{beyond, not-idle, same_room, thread_in, within}

-- the shown state with another depth, and the state itself
abbrev pub deepened : State → ℕ → ℕ → State
deepened s t d = record s { depths = set s.depths (t - 1) d }

abbrev pub deeper : SpaceState → ℕ → ℕ → SpaceState
deeper s t d = record s { graph = graph.with_depth s.graph t d }

pub view-deeper : (s : SpaceState) (t d : ℕ) → view (deeper s t d) ≡ deepened (view s) t d
view-deeper s t d =
    let x : Thread = (let th = thread_of s.graph t in record th { depth = d }) in
    rw (
      map-set_same (λ (th : Thread). th.stack) s.graph.threads (t - 1) x idle refl,
      map-set (λ (th : Thread). th.depth) s.graph.threads (t - 1) x,
      map-set_same (λ (th : Thread). th.made) s.graph.threads (t - 1) x idle refl,
    ) refl

-- a thread's depth doesn't fall
pub no_shallower : (depths : List ℕ) (i d j : ℕ) → get_or depths i 0 ≤ d → i < length depths → get_or depths j 0 ≤ get_or (set depths i d) j 0
no_shallower depths i d j le lt = ⊎_elim
    (λ (e : j ≡ i). let a : get_or (set depths i d) j 0 ≡ d = ap (λ k. get_or (set depths i d) k 0) e ∙ get_or-set_same depths i d 0 lt in let b : get_or depths j 0 ≡ get_or depths i 0 = ap (λ k. get_or depths k 0) e in omega (arith, a, b, le))
    (λ (ne : j ≢ i). let a : get_or (set depths i d) j 0 ≡ get_or depths j 0 = get_or-set_other depths i j d 0 ne in omega (arith, a))
    (cases_eq j i)

-- a space that is open stays so
still_open : (depths : List ℕ) (i d : ℕ) (x : Space) → get_or depths i 0 ≤ d → i < length depths → IsOpen depths x → IsOpen (set depths i d) x
still_open depths i d Control le lt h = tt
still_open depths i d (Region t e) le lt h = (h.0, omega (arith, h.1, length-set depths i d), h.2, omega (arith, h.3, no_shallower depths i d (t - 1) le lt))

pub stands-deepened : (m : Areas) (c : Contents) (s : State) (l : Places) (t d : ℕ) → StandsAs m c s l → HasThread m t → d ≤ max_depth m → get_or s.depths (t - 1) 0 ≤ d → StandsAs m (with_depth c t d) (deepened s t d) l
stands-deepened m c s l t d h ht most least = record {
  heap = h.heap;
  open_spaces = λ p lt. ⊎_elim
      (λ (z : space_word c.table p ≡ 0). inl z)
      (λ (o : (x : Space) × (space_word c.table p ≡ space_index x + 1) × IsOpen s.depths x). inr (o.0, o.1, still_open s.depths (t - 1) d o.0 least (omega (arith, ht.0, ht.1, h.threads)) o.2))
      (h.open_spaces p lt);
  closed = record { stacks = h.closed.stacks; fields = h.closed.fields };
  stacks = h.stacks;
  depths = ap (λ (is : List ℕ). set is (t - 1) d) h.depths;
  made = h.made;
  serials = h.serials;
  threads = length-set s.depths (t - 1) d ∙ h.threads;
  names = h.names;
  limits = record {
    depths = All-set (λ i. i ≤ max_depth m) c.depths (t - 1) d most h.limits.depths;
    stacks = h.limits.stacks;
    buffers = h.limits.buffers;
  };
  zero = h.zero;
  pool = h.pool;
  currents = h.currents;
  sets = h.sets;
  heads_closed = λ u e r lt. h.heads_closed u e r (omega (arith, lt, no_shallower s.depths (t - 1) d (u - 1) least (omega (arith, ht.0, ht.1, h.threads))));
  dense = h.dense;
}

pub depth_words : (m : Areas) (c : Contents) (s : SpaceState) (h : Stands m c s) (t : ℕ) → depth_of c t ≡ (thread_of s.graph t).depth
depth_words m c s h t = ap (λ (is : List ℕ). get_or is (t - 1) 0) h.stands.depths ∙ depth-shown s t

pub too_deep : (m : Areas) (c : Contents) (t : ℕ) → HasThread m t → MAX_DEPTH ≤ depth_of c t → Turned m c c t call.Begin (reply.Refused refusal.TooDeep)
too_deep m c t ht deep = record {
  turns = λ s h.
      let test : leb s.graph.limits.depth (thread_of s.graph t).depth ≡ true = ap (λ (x : Limits). leb x.depth (thread_of s.graph t).depth) h.whole.limits ∙ beyond MAX_DEPTH (thread_of s.graph t).depth (omega (arith, deep, depth_words m c s h t)) in
      (s, (s, (thread_in m c s h t ht, rw test (refl, refl), refl, tt), refl), h, λ r. r);
  kept = λ s h. keeps_all (view s) h.places.at;
  room = same_room c;
  records = λ s h. same_records c;
  idle = λ i. refl;
}

depth_room_same : (c d : Contents) (t k : ℕ) → d ≡ with_depth c t k → SameRoom c d
depth_room_same c d t k e = subst (SameRoom c) (sym e) (record { claims = refl; pooled = refl; pool = refl; table = refl; currents = refl })

depth_records_same : (c d : Contents) (t k : ℕ) → d ≡ with_depth c t k → SameRecords c d
depth_records_same c d t k e = subst (SameRecords c) (sym e) (record { filed = record { firsts = refl; sets = refl }; buffers = refl; readers = refl })

-- a region that isn't open wasn't before
recorded-deepened : (m : Areas) (c : Contents) (s : State) (at : Name → ℕ) (t d : ℕ) → HasThread m t → get_or s.depths (t - 1) 0 ≤ d → length s.depths ≡ m.threads → RecordedAs m c s at → RecordedAs m c (deepened s t d) at
recorded-deepened m c s at t d ht least long r = record {
  crossing = r.crossing;
  fields = r.fields;
  read = r.read;
  closed = λ u e hu hm he lt. r.closed u e hu hm he (omega (arith, lt, no_shallower s.depths (t - 1) d (u - 1) least (omega (arith, ht.0, ht.1, long))));
}

pub begin_turns : (m : Areas) (c d : Contents) (t : ℕ) → HasThread m t → depth_of c t < MAX_DEPTH → d ≡ with_depth c t (depth_of c t + 1) → Turned m c d t call.Begin reply.Ok
begin_turns m c d t ht lt e = record {
  turns = λ s h.
      let same : depth_of c t ≡ (thread_of s.graph t).depth = depth_words m c s h t in
      let k : ℕ = (thread_of s.graph t).depth + 1 in
      let test : leb s.graph.limits.depth (thread_of s.graph t).depth ≡ false = ap (λ (x : Limits). leb x.depth (thread_of s.graph t).depth) h.whole.limits ∙ within MAX_DEPTH (thread_of s.graph t).depth (omega (arith, lt, same)) in
      let now : d ≡ with_depth c t k = e ∙ ap (λ i. with_depth c t (i + 1)) same in
      let stands : StandsAs m (with_depth c t k) (deepened (view s) t k) h.places = stands-deepened m c (view s) h.places t k h.stands ht (omega (arith, lt, same)) (omega (arith, depth-shown s t)) in
      let later : Stands m d (deeper s t k) = record {
        whole = record { limits = h.whole.limits; contents = h.whole.contents; homes = h.whole.homes };
        places = h.places;
        stands = subst (λ (x : Contents). StandsAs m x (view (deeper s t k)) h.places) (sym now) (subst (λ (w : State). StandsAs m (with_depth c t k) w h.places) (sym (view-deeper s t k)) stands);
      } in
      (deeper s t k, (deeper s t k, (thread_in m c s h t ht, rw test (refl, refl), refl, tt), refl), later, λ r. subst (λ (w : State). RecordedAs m d w h.places.at) (sym (view-deeper s t k)) (recorded-same m c d (deepened (view s) t k) h.places.at (depth_records_same c d t (depth_of c t + 1) e) (recorded-deepened m c (view s) h.places.at t k ht (omega (arith, depth-shown s t)) h.stands.threads r)));
  kept = λ s h. record { kept = λ n o e. (o, e, refl, refl, refl) };
  room = depth_room_same c d t (depth_of c t + 1) e;
  records = λ s h. depth_records_same c d t (depth_of c t + 1) e;
  idle = λ i. absurd (not-idle call.Begin reply.Ok (λ no. no) (λ why q. cc) i);
}
