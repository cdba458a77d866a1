-- What steps do that make an object, collect, or count the pages.
use Rattle.std.proofs.Common.{◌≡◌, ◌⊎◌, ℕ, zero, suc, ◌+◌, ◌*◌, ◌≤◌, ◌<◌, true, None, Some, [], ◌∷◌, length, refl, sym, subst, ◌∙◌, arith, inl, inr}
use Rattle.std.proofs.Math.Logic.{⊎_elim}
use Rattle.object_layout.specs.declared.TheConstants.{OBJECT_WORDS}
use Rattle.object_layout.specs.declared.calls.Call.TheVariants as call
use Rattle.object_layout.specs.declared.replies.Reply.{Reply}
use Rattle.object_layout.specs.declared.replies.Reply.TheVariants as reply
use Rattle.object_layout.specs.declared.replies.Refusal.{Refusal}
use Rattle.heap_words.specs.declared.map.Areas.{Areas}
use Rattle.heap_words.specs.Map.{HasThread, IsAreas}
use Rattle.heap_words.specs.Contents.{Contents, depth_of}
use Rattle.epoch_lattice.specs.Lattice.{inner_of}
use Rattle.yak_model.specs.Lawful.{open_regions, present_words}
use Rattle.yak_model.specs.Spaces.{Collects, SpaceState}
use Rattle.yak_model.specs.Stands.{Stands, free_pages}
use Rattle.yak_model.proofs.Unique.{states_unique}
use Rattle.region_pages.specs.Placement.{IsPlacedInCurrent, IsPlacedOnClaimed, depth_in, words_left_at}
use Rattle.mark_compact.specs.Collected.{StateCollected}
use Rattle.heap_core.specs.declared.owned.Stepped.{Stepped}
use Rattle.heap_core.specs.Collecting.{IsCollected, counted}
use Rattle.heap_core.specs.Done.{Done, RecordsCollected}
use Rattle.heap_core.specs.Makings.{FullAfter, IsMade, MadeAfter, MadeAtOnce}
use Rattle.yak_model.specs.Recorded.{Recorded, SomeRecorded}
use Rattle.standing_calls.specs.Room.{HasNoRoom, TakesPlace}
use Rattle.standing_calls.specs.Turned.{Turned}
use Rattle.heap_core.specs.Steps.{plain}
use Rattle.heap_core.proofs.Bounds.{census-bound, full-bound}
use Rattle.heap_core.proofs.Gathered.{full-after, packed-after}
use Rattle.standing_calls.proofs.Recorded.{same_records}
use Rattle.standing_calls.proofs.Steps.{not-idle, same_room, thread_in}

-- the state that a collection leaves is the one that the words stand for
pub only-collected : (m : Areas) (was now : Contents) (s mid : SpaceState) (h : Stands m was s) (P : SpaceState → Type 0) (x : StateCollected m was now s h) → Collects s mid → P x.after → P mid
only-collected m was now s mid h P x collects p = subst P (states_unique.collection s x.after mid x.collects collects) p

-- an object that takes a place has room
inner-depth : (t d : ℕ) → depth_in (inner_of t d) ≡ d
inner-depth t zero = refl
inner-depth t (suc d) = refl

has_room : (m : Areas) (was now : Contents) (t size : ℕ) → TakesPlace m was now t size → HasNoRoom m was t size → ⊥
has_room m was now t size place none =
    let deep : depth_in (inner_of t (depth_of was t)) ≡ depth_of was t = inner-depth t (depth_of was t) in
    ⊎_elim
    (λ (o : IsPlacedInCurrent m was t (depth_in (inner_of t (depth_of was t))) size place.address place.placed).
    let fits : size ≤ words_left_at m was t (depth_of was t) = subst (λ d. size ≤ words_left_at m was t d) deep o.fits in
    let r : ⊥ = omega (arith, fits, none.few_left) in r)
    (λ (o : (words_left_at m was t (depth_in (inner_of t (depth_of was t))) < size) × IsPlacedOnClaimed m was t (inner_of t (depth_of was t)) size place.address place.placed).
    let pages : [] ≡ o.1.page ∷ free_pages place.placed.heads place.placed.pool = sym none.none_free ∙ o.1.free in
    cc)
    place.place

-- at once
done-refused : (m : Areas) (was now : Contents) (t k : ℕ) (why : Refusal) → Turned m was now t (call.New k) (reply.Refused why) → Done m was now t (call.New k) (plain (reply.Refused why))
done-refused m was now t k why h = record {
  turns = λ s stands r. h.turns s stands;
  lawful = λ s stands r before packed. (tt, λ mid turned. tt);
  collected = λ s stands r. refl;
  full = λ e. cc;
  filled = λ s stands e. absurd (cc);
  shortage = λ s stands r moved e. cc;
  ended = tt;
  counts = tt;
  packed = λ s stands. tt;
  records = λ s stands r. h.records s stands;
  room = h.room;
  idle = h.idle;
}

done-once : (m : Areas) (was now : Contents) (t k : ℕ) → Turned m was now t (call.New k) reply.Ok → Done m was now t (call.New k) (plain reply.Ok)
done-once m was now t k h = record {
  turns = λ s stands r. h.turns s stands;
  lawful = λ s stands r before packed. (tt, λ mid turned. tt);
  collected = λ s stands r. ((λ e. let no : ⊥ = cc in absurd no), λ none. absurd (has_room m was now t (k + OBJECT_WORDS) h.room none));
  full = λ e. cc;
  filled = λ s stands e. absurd (cc);
  shortage = λ s stands r moved e. cc;
  ended = tt;
  counts = tt;
  packed = λ s stands. tt;
  records = λ s stands r. h.records s stands;
  room = h.room;
  idle = h.idle;
}

pub done-made_once : (m : Areas) (was now : Contents) (t k : ℕ) (said : Stepped) → MadeAtOnce m was now t k said → Done m was now t (call.New k) said
done-made_once m was now t k said h = subst (λ (q : Stepped). Done m was now t (call.New k) q) (sym h.says) (⊎_elim
    (λ (e : h.reply ≡ reply.Ok). subst (λ (q : Reply). Done m was now t (call.New k) (plain q)) (sym e) (done-once m was now t k (subst (λ (q : Reply). Turned m was now t (call.New k) q) e h.turned)))
    (λ (e : (why : Refusal) × (h.reply ≡ reply.Refused why)). subst (λ (q : Reply). Done m was now t (call.New k) (plain q)) (sym e.1) (done-refused m was now t k e.0 (subst (λ (q : Reply). Turned m was now t (call.New k) q) e.1 h.turned)))
    h.answer)

-- after a collection
done-after : (m : Areas) (was now : Contents) (t k : ℕ) (said : Stepped) → HasThread m t → HasNoRoom m was t (k + OBJECT_WORDS) → MadeAfter m was now t k said → Done m was now t (call.New k) (record { reply = reply.Ok; collected = true; full = None; shortage = None })
done-after m was now t k said ht short h = record {
  turns = λ s stands r.
      let x = h.collected.state s stands r in
      let y = h.turned.turns x.after x.stands in
      (y.0, (x.after, (thread_in m was s stands t ht, x.collects), y.1), y.2, λ _. y.3 x.recorded);
  lawful = λ s stands r before packed. (inl (k, reply.Ok, [], refl, inl refl), λ mid turned. (tt, λ last more. tt));
  collected = λ s stands r. (λ e. short, λ e. refl);
  full = λ e. cc;
  filled = λ s stands e. absurd (cc);
  shortage = λ s stands r moved e. cc;
  ended = tt;
  counts = tt;
  packed = λ s stands. tt;
  records = λ s stands r.
      let x = h.collected.state s stands r in
      let same = h.turned.records x.after x.stands in
      record {
        files = record { filed = rw same.buffers h.collected.room.filed; readers = same.readers ∙ h.collected.room.readers };
        between = h.between;
        after = x.after;
        collects = x.collects;
        later = x.stands;
        slots = x.slots;
        same = same;
      };
  room = record { short = short; between = h.between; collected = h.collected; then = h.turned.room };
  idle = λ i. absurd (not-idle (call.New k) reply.Ok (λ no. no) (λ why q. cc) i);
}

-- nothing more than the collection
records-collected : (m : Areas) (was now : Contents) (t : ℕ) → IsCollected m was now t → (s : SpaceState) (h : Stands m was s) → Recorded m was s h → RecordsCollected m was now s h
records-collected m was now t collected s h r =
    let x = collected.state s h r in
    record {
      files = record { filed = collected.room.filed; readers = collected.room.readers };
      between = now;
      after = x.after;
      collects = x.collects;
      later = x.stands;
      slots = x.slots;
      same = same_records now;
    }

-- no room after a collection either
done-full : (m : Areas) (was now : Contents) (t k : ℕ) (said : Stepped) → IsAreas m → HasThread m t → length now.table ≡ m.pages → SomeRecorded m was → HasNoRoom m was t (k + OBJECT_WORDS) → (h : FullAfter m was now t k said) → Done m was now t (call.New k) (record { reply = reply.OutOfHeap; collected = true; full = Some h.pages; shortage = None })
done-full m was now t k said areas ht rows some short h =
    let full = full-after m was now t k some h.collected rows h.none in
    record {
      turns = λ s stands r.
          let x = h.collected.state s stands r in
          let y = h.turned.turns x.after x.stands in
          (y.0, (x.after, (thread_in m was s stands t ht, x.collects), y.1), y.2, λ _. y.3 x.recorded);
      lawful = λ s stands r before packed. (
        inl (k, reply.OutOfHeap, [], refl, inr refl),
        λ mid turned.
            let x = h.collected.state s stands r in
            (((before, refl), only-collected m was now s mid stands (λ (z : SpaceState). z.graph.limits.page * m.pages ≤ 2 * present_words z + z.graph.limits.page * (open_regions z + 1)) x turned.1 (full-bound m now x.after x.stands t k areas (full x.after x.stands))), λ last more. tt),
      );
      collected = λ s stands r. (λ e. short, λ e. refl);
      full = (refl, h.counts);
      filled = λ s stands e. full s stands;
      shortage = λ s stands r moved e. cc;
      ended = tt;
      counts = tt;
      packed = λ s stands. tt;
      records = λ s stands r. records-collected m was now t h.collected s stands r;
      room = record { short = short; between = now; collected = h.collected; then = (h.none, same_room now) };
      idle = λ i. absurd (not-idle (call.New k) reply.OutOfHeap (λ no. no) (λ why q. cc) i);
    }

pub done-made : (m : Areas) (was now : Contents) (t k : ℕ) (said : Stepped) → IsAreas m → HasThread m t → length now.table ≡ m.pages → SomeRecorded m was → IsMade m was now t k said → Done m was now t (call.New k) said
done-made m was now t k said areas ht rows some made = ⊎_elim
    (λ (o : MadeAtOnce m was now t k said). done-made_once m was now t k said o)
    (λ (o : HasNoRoom m was t (k + OBJECT_WORDS) × (MadeAfter m was now t k said ⊎ FullAfter m was now t k said)). ⊎_elim
    (λ (a : MadeAfter m was now t k said). subst (λ (q : Stepped). Done m was now t (call.New k) q) (sym a.says) (done-after m was now t k said ht o.0 a))
    (λ (a : FullAfter m was now t k said). subst (λ (q : Stepped). Done m was now t (call.New k) q) (sym a.says) (done-full m was now t k said areas ht rows some o.0 a))
    o.1)
    made

-- a collection that a thread asks for
pub done-collected : (m : Areas) (was now : Contents) (t : ℕ) → HasThread m t → length now.table ≡ m.pages → SomeRecorded m was → IsCollected m was now t → Done m was now t call.Collect (plain reply.Ok)
done-collected m was now t ht rows some h = record {
  turns = λ s stands r. let x = h.state s stands r in (x.after, (x.after, (thread_in m was s stands t ht, x.collects), refl), x.stands, λ _. x.recorded);
  lawful = λ s stands r before packed. (tt, λ mid turned. tt);
  collected = λ s stands r. refl;
  full = λ e. cc;
  filled = λ s stands e. cc;
  shortage = λ s stands r moved e. cc;
  ended = tt;
  counts = tt;
  packed = packed-after m was now t some h rows;
  records = λ s stands r. records-collected m was now t h s stands r;
  room = h;
  idle = λ i. absurd (not-idle call.Collect reply.Ok (λ no. no) (λ why q. cc) i);
}

-- a census
pub done-counted : (m : Areas) (c : Contents) (t : ℕ) → IsAreas m → HasThread m t → length c.table ≡ m.pages → Done m c c t call.Census (plain (counted c))
done-counted m c t areas ht rows = record {
  turns = λ s stands r. (s, (s, (thread_in m c s stands t ht, ((_, _, _, refl), refl), refl, tt), refl), stands, λ q. q);
  lawful = λ s stands r before packed. (census-bound m c s stands before areas rows packed, λ mid turned. tt);
  collected = λ s stands r. refl;
  full = λ e. cc;
  filled = λ s stands e. cc;
  shortage = λ s stands r moved e. cc;
  ended = tt;
  counts = refl;
  packed = λ s stands. tt;
  records = λ s stands r. same_records c;
  room = same_room c;
  idle = λ i. refl;
}
