-- What steps do that end an epoch.
use Rattle.std.proofs.Common.{◌≡◌, ◌≢◌, ℕ, ◌+◌, ◌-◌, ◌*◌, ◌<◌, Bool, true, false, cond, Option, None, Some, List, [], ◌∷◌, leb, get_or, map, refl, sym, ap, subst, ◌∙◌, arith, inl, inr}
use Rattle.std.proofs.Props.{props}
use Rattle.std.proofs.Math.Logic.{⊎_elim, ∥∥₁_elim}
use Rattle.object_layout.specs.declared.calls.Call.TheVariants as call
use Rattle.object_layout.specs.declared.replies.Reply.{Reply}
use Rattle.object_layout.specs.declared.replies.Reply.TheVariants as reply
use Rattle.object_layout.specs.declared.replies.Refusal.{Refusal}
use Rattle.object_layout.specs.declared.replies.Refusal.TheVariants as refusal
use Rattle.object_layout.specs.declared.replies.Shortage.{Shortage}
use Rattle.heap_words.specs.declared.map.Areas.{Areas}
use Rattle.heap_words.specs.Map.{HasThread, IsAreas}
use Rattle.heap_words.specs.Cells.{row_set}
use Rattle.heap_words.specs.Contents.{Contents, depth_of, with_readers}
use Rattle.yak_model.specs.Graph.{Thread, thread_of}
use Rattle.yak_model.specs.declared.history.Entry.{Entry}
use Rattle.yak_model.specs.declared.history.Entry.TheVariants.{Said, Collected}
use Rattle.yak_model.specs.Lawful.{HasWords, open_regions, present_words}
use Rattle.yak_model.specs.Spaces.{Collects, Escapes, SpaceState, innermost}
use Rattle.yak_model.specs.State.{object_of}
use Rattle.yak_model.specs.Placed.{Places}
use Rattle.yak_model.specs.Stands.{Stands}
use Rattle.mark_compact.specs.Collected.{SlotsCollected, StateCollected}
use Rattle.yak_model.specs.Recorded.{Recorded}
use Rattle.escape_closure.specs.Ends.{RegionEnded, RegionShort}
use Rattle.heap_core.specs.declared.owned.Stepped.{Stepped}
use Rattle.heap_core.specs.Done.{CollectsForEnd, Done, RecordsEnd, TellsShortage}
use Rattle.heap_core.specs.EpochEnds.{CollectedAs, EndedAfter, EndsAs, IsEnd, TightAfter}
use Rattle.heap_core.specs.EpochEnds as ends
use Rattle.yak_model.specs.Continued.{AreLawful, TurnsTo}
use Rattle.yak_model.specs.Recorded.{SomeRecorded}
use Rattle.standing_calls.specs.Turned.{Turned}
use Rattle.heap_core.specs.Steps.{plain}
use Rattle.heap_core.proofs.Bounds.{tight-bound}
use Rattle.standing_calls.proofs.Begins.{depth_words}
use Rattle.heap_core.proofs.Gathered.{kept-threads}
use Rattle.standing_calls.proofs.Recorded.{same_records}
use Rattle.standing_calls.proofs.Steps.{beyond, not-idle, same_room, thread_in}
use Rattle.heap_core.proofs.FiledSlots.{collected-before, ended-before, innermost-region}
use Rattle.heap_core.proofs.StepsMade.{only-collected}

-- the three ways in which an end goes
after-cases : (m : Areas) (was now : Contents) (s : SpaceState) (h : Stands m was s) (t : ℕ) (P : Reply → Option Shortage → Type 0)
    → ((moved : ℕ) → EndedAfter m was now s h t moved → P (reply.Ended moved false) None)
    → ((moved : ℕ) (shortage : Shortage) → TightAfter m was now s h t moved shortage → P (reply.Ended moved true) (Some shortage))
    → (said : Reply) (shortage : Option Shortage) → CollectedAs m was now s h t said shortage → P said shortage
after-cases m was now s h t P loose tight reply.Ok shortage e = absurd e
after-cases m was now s h t P loose tight reply.Null shortage e = absurd e
after-cases m was now s h t P loose tight (reply.Int i) shortage e = absurd e
after-cases m was now s h t P loose tight (reply.Object n) shortage e = absurd e
after-cases m was now s h t P loose tight reply.Yes shortage e = absurd e
after-cases m was now s h t P loose tight reply.No shortage e = absurd e
after-cases m was now s h t P loose tight (reply.Ended moved false) None e = loose moved e
after-cases m was now s h t P loose tight (reply.Ended moved false) (Some shortage) e = absurd e
after-cases m was now s h t P loose tight (reply.Ended moved true) None e = absurd e
after-cases m was now s h t P loose tight (reply.Ended moved true) (Some shortage) e = tight moved shortage e
after-cases m was now s h t P loose tight (reply.Pages a b c) shortage e = absurd e
after-cases m was now s h t P loose tight reply.OutOfHeap shortage e = absurd e
after-cases m was now s h t P loose tight (reply.Refused why) shortage e = absurd e

once-cases : (m : Areas) (was now : Contents) (s : SpaceState) (h : Stands m was s) (t : ℕ) (P : Reply → Option Shortage → Type 0)
    → ((moved : ℕ) → RegionEnded m was now s h t moved → P (reply.Ended moved false) None)
    → (said : Reply) (shortage : Option Shortage) → ends.EndsAtOnce m was now s h t said shortage → P said shortage
once-cases m was now s h t P loose reply.Ok shortage e = absurd e
once-cases m was now s h t P loose reply.Null shortage e = absurd e
once-cases m was now s h t P loose (reply.Int i) shortage e = absurd e
once-cases m was now s h t P loose (reply.Object n) shortage e = absurd e
once-cases m was now s h t P loose reply.Yes shortage e = absurd e
once-cases m was now s h t P loose reply.No shortage e = absurd e
once-cases m was now s h t P loose (reply.Ended moved false) None e = loose moved e
once-cases m was now s h t P loose (reply.Ended moved false) (Some shortage) e = absurd e
once-cases m was now s h t P loose (reply.Ended moved true) shortage e = absurd e
once-cases m was now s h t P loose (reply.Pages a b c) shortage e = absurd e
once-cases m was now s h t P loose reply.OutOfHeap shortage e = absurd e
once-cases m was now s h t P loose (reply.Refused why) shortage e = absurd e

-- the entries of an end
abbrev pub ending : ℕ → Reply → Bool → List Entry
ending t said collected = cond collected (Collected t ∷ Said t call.End said ∷ []) (Said t call.End said ∷ [])

-- what is told of an end, over one state
pub record Ending (m : Areas) (was now : Contents) (s : SpaceState) (h : Stands m was s) (t : ℕ) (said : Reply) (collected : Bool) (shortage : Option Shortage) : Type 0 where
  pub turns : TurnsTo m was now s h (ending t said collected)
  pub lawful : (before : List Entry) → AreLawful m.pages before s (ending t said collected)
  pub makes : CollectsForEnd m was s h t said collected
  pub tells : TellsShortage m was s h t said shortage
  pub records : RecordsEnd m was now s h t said collected
  pub no_fault : said ≢ reply.OutOfHeap
  pub not_refused : (why : Refusal) → said ≢ reply.Refused why

-- the readers after an end that stands behind a collection
closed-readers : (m : Areas) (was between tried now : Contents) (s : SpaceState) (h : Stands m was s) (t : ℕ) (after : SpaceState) → Collects s after → Stands m between after → between.readers ≡ was.readers → tried.readers ≡ between.readers → depth_of tried t ≡ depth_of between t → now.readers ≡ (with_readers tried t (depth_of tried t) 0).readers → now.readers ≡ (with_readers was t (depth_of was t) 0).readers
closed-readers m was between tried now s h t after collects later first then deep last =
    let depth : depth_of between t ≡ depth_of was t = ap (λ (is : List ℕ). get_or is (t - 1) 0) (later.stands.depths ∙ ap (λ (ts : List Thread). map (λ (th : Thread). th.depth) ts) (kept-threads s after collects) ∙ sym h.stands.depths) in
    last
    ∙ ap (λ i. row_set tried.readers (t - 1) (i - 1) 0) (deep ∙ depth)
    ∙ ap (λ (rs : List (List ℕ)). row_set rs (t - 1) (depth_of was t - 1) 0) (then ∙ first)

-- the slots that a collection leaves behind an end that found the free pages too few
slots-after : (m : Areas) (was first between : Contents) (s : SpaceState) (h : Stands m was s) (t : ℕ) (found : Shortage) (short : RegionShort m was first s h t found) (x : StateCollected m first between s short.later) → SlotsCollected m was between (object_of s) (object_of x.after) h.places.at x.stands.places.at
slots-after m was first between s h t found short x = collected-before m was first between (object_of s) (object_of x.after) h.places.at short.later.places.at x.stands.places.at short.records short.filed (ap (λ (l : Places). l.at) short.places) x.slots

ended-once : (m : Areas) (was now : Contents) (s : SpaceState) (h : Stands m was s) (t moved : ℕ) → HasThread m t → RegionEnded m was now s h t moved → Ending m was now s h t (reply.Ended moved false) false None
ended-once m was now s h t moved ht e = record {
  turns = (e.state.after, (e.state.after, (thread_in m was s h t ht, e.state.ends), refl), e.state.stands, λ r. e.state.recorded);
  lawful = λ before. (tt, λ mid turned. tt);
  makes = record { count = moved; order = e.order; enough = e.enough };
  tells = λ other same. cc;
  records = (
    record { filed = e.state.filed; readers = ap (λ (x : Contents). x.readers) e.rest.frame },
    record { after = e.state.after; ends = e.state.ends; stands = e.state.stands; filed = e.rest.filed },
  );
  no_fault = λ same. cc;
  not_refused = λ why same. cc;
}

ended-after : (m : Areas) (was first now : Contents) (s : SpaceState) (h : Stands m was s) (t moved : ℕ) → HasThread m t → (found : Shortage) (short : RegionShort m was first s h t found) → EndedAfter m first now s short.later t moved → Ending m was now s h t (reply.Ended moved false) true None
ended-after m was first now s h t moved ht found short e = record {
  turns = (e.ended.state.after, (e.state.after, (thread_in m was s h t ht, e.state.collects), (e.ended.state.after, (thread_in m e.between e.state.after e.state.stands t ht, e.ended.state.ends), refl)), e.ended.state.stands, λ r. e.ended.state.recorded);
  lawful = λ before. (inr (moved, false, [], refl), λ mid turned. (tt, λ last more. tt));
  makes = (found, short.short);
  tells = λ other same. cc;
  records = (
    record { filed = e.ended.state.filed; readers = closed-readers m was e.between e.between now s h t e.state.after e.state.collects e.state.stands (e.room.readers ∙ ap (λ (x : Contents). x.readers) short.frame) refl refl (ap (λ (x : Contents). x.readers) e.ended.rest.frame) },
    record {
      between = e.between;
      after = e.state.after;
      collects = e.state.collects;
      later = e.state.stands;
      emptied = e.room.filed;
      slots = slots-after m was first e.between s h t found short e.state;
      escaped = record { after = e.ended.state.after; ends = e.ended.state.ends; stands = e.ended.state.stands; filed = e.ended.rest.filed };
    },
  );
  no_fault = λ same. cc;
  not_refused = λ why same. cc;
}

tight-after : (m : Areas) (was first now : Contents) (s : SpaceState) (h : Stands m was s) (t moved : ℕ) (shortage : Shortage) → IsAreas m → HasThread m t → (found : Shortage) (short : RegionShort m was first s h t found) → TightAfter m first now s short.later t moved shortage → Ending m was now s h t (reply.Ended moved true) true (Some shortage)
tight-after m was first now s h t moved shortage areas ht found short e = record {
  turns = (e.ended.state.after, (e.state.after, (thread_in m was s h t ht, e.state.collects), (e.ended.state.after, (thread_in m e.between e.state.after e.state.stands t ht, e.ended.state.ends), refl)), e.ended.state.stands, λ r. e.ended.state.recorded);
  lawful = λ before. (
    inr (moved, true, [], refl),
    λ mid turned. (
      ((before, refl), only-collected m first e.between s mid short.later (λ (z : SpaceState). (escaped : ℕ) × HasWords z (Escapes z t (innermost z.graph t)) escaped × (z.graph.limits.page * m.pages < (2 * present_words z + 2 * escaped) + 2 * z.graph.limits.page * (open_regions z + 1))) e.state turned.1 (tight-bound m e.between e.state.after e.state.stands t shortage areas ht e.ended.state.ends.open_epoch e.state.packed e.short.short)),
      λ last more. tt,
    ),
  );
  makes = (found, short.short);
  tells = ((moved, refl), e.short.short.more, record { first = first; found = found; tried = short; between = e.between; room = e.room; state = e.state; short = e.short.short });
  records = (
    record { filed = e.ended.state.filed; readers = closed-readers m was e.between e.tried now s h t e.state.after e.state.collects e.state.stands (e.room.readers ∙ ap (λ (x : Contents). x.readers) short.frame) (ap (λ (x : Contents). x.readers) e.short.frame) (ap (λ (x : Contents). depth_of x t) e.short.frame) (ap (λ (x : Contents). x.readers) e.ended.rest.frame) },
    record {
      between = e.between;
      after = e.state.after;
      collects = e.state.collects;
      later = e.state.stands;
      emptied = e.room.filed;
      slots = slots-after m was first e.between s h t found short e.state;
      escaped =
          let ended = e.ended.state in
          let region = innermost-region m e.between e.state.after e.state.stands t ht ended.ends.open_epoch in
          record {
            after = ended.after;
            ends = ended.ends;
            stands = ended.stands;
            filed = ended-before m e.between e.tried now e.state.after t (object_of ended.after) ended.stands.places.at region e.short.records e.short.filed (ap (λ (x : Contents). x.table) e.short.frame) e.ended.rest.filed;
          };
    },
  );
  no_fault = λ same. cc;
  not_refused = λ why same. cc;
}

ending-of : (m : Areas) (was now : Contents) (s : SpaceState) (h : Stands m was s) (t : ℕ) (said : Reply) (collected : Bool) (shortage : Option Shortage) → IsAreas m → HasThread m t → EndsAs m was now s h t said collected shortage → Ending m was now s h t said collected shortage
ending-of m was now s h t said false shortage areas ht e = once-cases m was now s h t (λ (r : Reply) (o : Option Shortage). Ending m was now s h t r false o) (λ moved x. ended-once m was now s h t moved ht x) said shortage e
ending-of m was now s h t said true shortage areas ht e = after-cases m e.first now s e.short.later t (λ (r : Reply) (o : Option Shortage). Ending m was now s h t r true o)
    (λ moved x. ended-after m was e.first now s h t moved ht e.found e.short x)
    (λ moved numbers x. tight-after m was e.first now s h t moved numbers areas ht e.found e.short x)
    said shortage e.ends

-- an end where no epoch is open
no_epoch : (m : Areas) (c : Contents) (t : ℕ) → HasThread m t → depth_of c t ≡ 0 → Turned m c c t call.End (reply.Refused refusal.NoEpoch)
no_epoch m c t ht shallow = record {
  turns = λ s h.
      let test : leb (thread_of s.graph t).depth 0 ≡ true = beyond (thread_of s.graph t).depth 0 (omega (arith, shallow, depth_words m c s h t)) in
      (s, (s, (thread_in m c s h t ht, rw test (refl, refl), refl, tt), refl), h, λ r. r);
  kept = λ s h. record { kept = λ n o e. (o, e, refl, refl, refl) };
  room = same_room c;
  records = λ s h. same_records c;
  idle = λ i. refl;
}

done-none : (m : Areas) (c : Contents) (t : ℕ) → HasThread m t → depth_of c t ≡ 0 → Done m c c t call.End (plain (reply.Refused refusal.NoEpoch))
done-none m c t ht shallow =
    let h = no_epoch m c t ht shallow in
    record {
      turns = λ s stands r. h.turns s stands;
      lawful = λ s stands r before packed. (tt, λ mid turned. tt);
      collected = λ s stands r. refl;
      full = λ e. cc;
      filled = λ s stands e. cc;
      shortage = λ s stands r moved e. cc;
      ended = inl (shallow, refl, refl);
      counts = tt;
      packed = λ s stands. tt;
      records = λ s stands r. same_records c;
      room = tt;
      idle = λ i. refl;
    }

done-some : (m : Areas) (was now : Contents) (t : ℕ) (said : Reply) (collected : Bool) (shortage : Option Shortage) → IsAreas m → HasThread m t → SomeRecorded m was → 0 < depth_of was t
    → ((s : SpaceState) (h : Stands m was s) → Recorded m was s h → EndsAs m was now s h t said collected shortage)
    → Done m was now t call.End (record { reply = said; collected = collected; full = None; shortage = shortage })
done-some m was now t said collected shortage areas ht some deep ends =
    let each : (s : SpaceState) (h : Stands m was s) → Recorded m was s h → Ending m was now s h t said collected shortage = λ s h r. ending-of m was now s h t said collected shortage areas ht (ends s h r) in
    let fault : said ≢ reply.OutOfHeap = λ e. ∥∥₁_elim some (hlevel props) (λ q. (each q.0 q.1 q.2).no_fault e) in
    record {
      turns = λ s h r. (each s h r).turns;
      lawful = λ s h r before packed. (each s h r).lawful before;
      collected = λ s h r. (each s h r).makes;
      full = fault;
      filled = λ s h. fault;
      shortage = λ s h r. (each s h r).tells;
      ended = inr (deep, refl, ends);
      counts = tt;
      packed = λ s h. tt;
      records = λ s h r. (each s h r).records;
      room = tt;
      idle = λ i. absurd (not-idle call.End said (λ no. no) (λ why e. ∥∥₁_elim some (hlevel props) (λ q. (each q.0 q.1 q.2).not_refused why e)) i);
    }

pub done-ended : (m : Areas) (was now : Contents) (t : ℕ) (said : Stepped) → IsAreas m → HasThread m t → SomeRecorded m was → IsEnd m was now t said → Done m was now t call.End said
done-ended m was now t said areas ht some h = ⊎_elim
    (λ (o : (depth_of was t ≡ 0) × (said ≡ plain (reply.Refused refusal.NoEpoch)) × (now ≡ was)).
    subst (λ (q : Stepped). Done m was now t call.End q) (sym o.1) (subst (λ (x : Contents). Done m was x t call.End (plain (reply.Refused refusal.NoEpoch))) (sym o.2) (done-none m was t ht o.0)))
    (λ (o : (0 < depth_of was t) × (said.full ≡ None) × ((s : SpaceState) (stands : Stands m was s) → Recorded m was s stands → EndsAs m was now s stands t said.reply said.collected said.shortage)).
    subst (λ f. Done m was now t call.End (record { reply = said.reply; collected = said.collected; full = f; shortage = said.shortage })) (sym o.1) (done-some m was now t said.reply said.collected said.shortage areas ht some o.0 o.2))
    h
