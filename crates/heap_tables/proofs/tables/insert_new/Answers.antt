use Rattle.heap_tables.proofs.RunOn.{ran_then, ran_words, ran_out, out_then, out_words}
use Rattle.std.proofs.Common.{inr, sym, inl}
use Rattle.yak_model.specs.Room.{entry_words, key_words}
use Rattle.heap_tables.specs.Runs.{popped}
use Rattle.heap_tables.proofs.Linked.{popped_made}
use Rattle.std.proofs.Common.{◌+◌, ◌∙◌, ◌∷◌, ap, subst, sym, refl, arith, get_or, set, Result, Ok, Err}
use Rattle.std.specs.Result.{OnErr}
use Rattle.std.specs.FinMap.{insert}
use Rattle.yak_model.specs.Graph.{Fields, Thread}
use Rattle.yak_model.specs.declared.datum.Datum.TheVariants as datum
use Rattle.yak_model.proofs.Names.{get-same}
use Rattle.heap_tables.specs.Runs.{slot_in, next_of}
use Rattle.heap_tables.proofs.Effects.{in_bounds}
use Rattle.yak_model.specs.Tables.{IsKey, bucket_of}
use Rattle.heap_tables.specs.Adds.{with_fields}
use Rattle.heap_tables.proofs.KeyGrowth.{made_at}
use Rattle.heap_tables.proofs.Linked.{after_new, made_below, insert_grows, linked_table}
use Rattle.heap_tables.proofs.Asides.{added_back, key_bare, lacks_as, lacks_insert, not_next}
use Rattle.yak_model.specs.Private.{LosesAll}
use Rattle.heap_tables.proofs.tables.insert_new.Goals as goal

on_err : {A B : Type 0} (r : Result A B) (P : Type 0) → P → OnErr r P
on_err (Ok x) P h = tt
on_err (Err e) P h = h

pub returns-in_err-make_key-clause-kept : goal.returns-in_err-make_key-clause-kept
returns-in_err-make_key-clause-kept g c = on_err c.from_residual.result _ (λ known k. (known, c.in_err-make_key.ensures.keeps known k, λ x d h. h))

pub link_new-requires-clause-table : goal.link_new-requires-clause-table
link_new-requires-clause-table g c =
    let h = c.requires.table in
    let begun = c.in_ok-make_key.ensures.made h.0 h.3 in
    let p = begun.0 in
    let key = next_of (g.C.Caller.standing c.args.caller.now) in
    let one = insert h.0 key (Fields p.values) in
    (one, h.1, h.2, p.known_now, (made_below (g.C.Caller.standing c.args.caller.now) _ c.args.table c.in_ok-make_key.ensures.pushed (in_bounds (g.C.Caller.standing c.args.caller.now).own.stack c.args.table h.1 h.4.0) ∙ h.4.0, insert_grows h.0 key (Fields p.values) begun.1 h.1 _ h.4.1), h.5)

pub pop-requires-clause-some : goal.pop-requires-clause-some
pop-requires-clause-some g c =
    let h = c.requires.table in
    let begun = c.in_ok-make_key.ensures.made h.0 h.3 in
    let p = begun.0 in
    let key = next_of (g.C.Caller.standing c.args.caller.now) in
    let one = insert h.0 key (Fields p.values) in
    (_, (c.in-Ok.ensures.linked one h.1 h.2 p.known_now (made_below (g.C.Caller.standing c.args.caller.now) _ c.args.table c.in_ok-make_key.ensures.pushed (in_bounds (g.C.Caller.standing c.args.caller.now).own.stack c.args.table h.1 h.4.0) ∙ h.4.0, insert_grows h.0 key (Fields p.values) begun.1 h.1 _ h.4.1) h.5).0)

pub pop-requires-in-Err-clause-some : goal.pop-requires-in-Err-clause-some
pop-requires-in-Err-clause-some g c =
    let h = c.requires.table in
    let begun = c.in_ok-make_key.ensures.made h.0 h.3 in
    let p = begun.0 in
    let key = next_of (g.C.Caller.standing c.args.caller.now) in
    let one = insert h.0 key (Fields p.values) in
    (one, c.in-Err.ensures.keeps one p.known_now)

pub returns-in-Ok-clause-added : goal.returns-in-Ok-clause-added
returns-in-Ok-clause-added g c known name heads buckets k slot table front home bound lacks =
    let begun = c.in_ok-make_key.ensures.made known k in
    let p = begun.0 in
    let key = next_of (g.C.Caller.standing c.args.caller.now) in
    let one = insert known key (Fields p.values) in
    let e = c.in_ok-make_key.ensures.pushed in
    let linked = c.in-Ok.ensures.linked one name heads p.known_now (made_below (g.C.Caller.standing c.args.caller.now) _ c.args.table c.in_ok-make_key.ensures.pushed (in_bounds (g.C.Caller.standing c.args.caller.now).own.stack c.args.table name slot) ∙ slot, insert_grows known key (Fields p.values) begun.1 name _ table.object) (omega (arith, bound, table.size)) in
    let entry = next_of (g.C.Caller.standing c.make_key.new.caller) in
    let is_key : IsKey one key c.args.word.now = (p.values, get-same known key (Fields p.values), record { size = p.size; first = p.first; rest = p.rest }, λ i. (c.type_inv.word i).fits) in
    let below = made_below (g.C.Caller.standing c.args.caller.now) _ c.args.front e (omega (arith, c.requires.top)) ∙ front in
    let top = (made_at (g.C.Caller.standing c.args.caller.now) _ known (c.args.front + 1) p.values e c.requires.top).0 in
    let knows = g.C.Caller.knows c.link_new.new.caller in
    let now = subst (λ v. knows (insert (with_fields one entry (get_or heads c.args.bucket datum.Null) v c.args.n) name (Fields (set heads c.args.bucket (datum.Object entry))))) top
    (subst (λ v. knows (insert (with_fields one entry v (slot_in (g.C.Caller.standing c.make_key.new.caller) (c.args.front + 1)) c.args.n) name (Fields (set heads c.args.bucket (datum.Object entry))))) below linked.0) in
    let both = linked_table known name heads buckets table c.args.word.now c.args.n c.args.bucket home bound lacks key entry (Fields p.values) begun.1 linked.1 is_key (g.C.Caller.knows c.pop.new.caller) (c.pop.ensures.keeps _ now) in
    let made = ap (λ (o : Thread). o.made) e in (
      both.0,
      after_new (g.C.Caller.standing c.args.caller.now) entry key c.args.word.now c.args.n (buckets (bucket_of c.args.word.now)) (both.0).links c.in_ok-make_key.ensures.ran.since.thread refl (omega (arith, made)) (omega arith)
          (both.1 ∙ ap (λ i. record { entry = entry; key = key; word = c.args.word.now; count = c.args.n } ∷ buckets i) (sym home)),
    )

pub returns-in-Err-clause-kept : goal.returns-in-Err-clause-kept
returns-in-Err-clause-kept g c known k =
    let begun = c.in_ok-make_key.ensures.made known k in
    let p = begun.0 in
    let key = next_of (g.C.Caller.standing c.args.caller.now) in
    let one = insert known key (Fields p.values) in
    (one, c.pop-in-Err.ensures.keeps one (c.in-Err.ensures.keeps one p.known_now), insert_grows known key (Fields p.values) begun.1)

pub returns-in-Ok-clause-ran : goal.returns-in-Ok-clause-ran
returns-in-Ok-clause-ran g c =
    let C = g.C.Caller in
    let words = key_words c.args.word.now in
    ran_words C.base C.tells C.tells_known C.standing _ _ (words + entry_words + 0) _ (omega arith) (ran_then C.base C.tells C.tells_known C.standing _ _ _ (words + entry_words) 0 (ran_then C.base C.tells C.tells_known C.standing _ _ _ words entry_words c.in_ok-make_key.ensures.ran c.in-Ok.ensures.ran) c.pop.ensures.ran)

pub returns-in-Err-clause-ran_out : goal.returns-in-Err-clause-ran_out
returns-in-Err-clause-ran_out g c =
    let C = g.C.Caller in
    let words = key_words c.args.word.now in
    let out = out_then C.base C.tells C.tells_known C.standing _ _ _ (words + 0) 3 (ran_out C.base C.tells C.tells_known C.standing _ _ _ words 0 3 c.in_ok-make_key.ensures.ran c.in-Err.ensures.ran_out) c.pop-in-Err.ensures.ran in
    inr (out_words C.base C.tells C.tells_known C.standing _ _ (words + 0) words 3 (omega arith) out, c.pop-in-Err.ensures.popped ∙ ap popped (c.in-Err.ensures.same ∙ c.in_ok-make_key.ensures.pushed) ∙ popped_made (C.standing c.args.caller.now))

pub returns-in_err-make_key-clause-left : goal.returns-in_err-make_key-clause-left
returns-in_err-make_key-clause-left g c = on_err c.from_residual.result _ (λ other k. inl (c.in_err-make_key.ensures.keeps other k))

pub returns-in-Err-clause-left : goal.returns-in-Err-clause-left
returns-in-Err-clause-left g c other k =
    let p = (c.in_ok-make_key.ensures.made other k).0 in
    let one = insert other (next_of (g.C.Caller.standing c.args.caller.now)) (Fields p.values) in
    inr (Fields p.values, c.pop-in-Err.ensures.keeps one (c.in-Err.ensures.keeps one p.known_now))

pub returns-in-Ok-clause-aside : goal.returns-in-Ok-clause-aside
returns-in-Ok-clause-aside g c other k lacks lacks_front =
    let s = g.C.Caller.standing c.args.caller.now in
    let mid = g.C.Caller.standing c.make_key.new.caller in
    let h = c.requires.table in
    let e = c.in_ok-make_key.ensures.pushed in
    let begun = c.in_ok-make_key.ensures.made other k in
    let p = begun.0 in
    let key = next_of s in
    let entry = next_of mid in
    let one = insert other key (Fields p.values) in
    let linked = c.in-Ok.ensures.aside one p.known_now in
    let table = made_below s _ c.args.table e (in_bounds s.own.stack c.args.table h.1 (h.4).0) in
    let front = made_below s _ c.args.front e (omega (arith, c.requires.top)) in
    let top = (made_at s _ other (c.args.front + 1) p.values e c.requires.top).0 in
    let lacks_one = lacks_insert other key _ _ (not_next h.0 _ h.1 key _ (h.4).0 (h.4).1 (c.in_ok-make_key.ensures.made h.0 h.3).1) lacks in
    let back = added_back other key entry p.values (slot_in s c.args.front) c.args.n begun.1 linked.0 (key_bare other key c.args.word.now _ p) lacks_front in
    let loses = subst (λ v. LosesAll (with_fields one entry v (slot_in mid (c.args.front + 1)) c.args.n) entry other) (sym front)
    (subst (λ v. LosesAll (with_fields one entry (slot_in s c.args.front) v c.args.n) entry other) (sym top) back) in
    c.pop.ensures.keeps other (linked.1 other (lacks_as one _ _ (sym table) lacks_one) loses)
