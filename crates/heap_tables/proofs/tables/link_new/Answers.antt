use Rattle.heap_tables.proofs.RunOn.{ran_more, ran_then, ran_words}
use Rattle.std.proofs.Common.{◌+◌, ◌∙◌, ap, subst, refl, arith, replicate, sym}
use Rattle.yak_model.specs.declared.datum.Datum.TheVariants as datum
use Rattle.yak_model.proofs.Names.{get-other}
use Rattle.heap_tables.specs.Runs.{slot_in, next_of, popped, with_field}
use Rattle.heap_tables.proofs.Effects.{IsAt, in_bounds}
use Rattle.heap_tables.specs.Adds.{with_fields}
use Rattle.heap_tables.proofs.Places.{insert_again}
use Rattle.heap_tables.proofs.KeyGrowth.{made_at, made_size}
use Rattle.heap_tables.proofs.Linked.{made_below, popped_made, other_name}
use Rattle.heap_tables.proofs.Asides.{lacks_as, lacks_insert, not_next}
use Rattle.yak_model.specs.Private.{GivesAway}
use Rattle.heap_tables.proofs.tables.link_new.Goals as goal

pub fill_entry-requires-clause-entry : goal.fill_entry-requires-clause-entry
fill_entry-requires-clause-entry g c =
    let h = c.requires.table in
    (_, next_of (g.C.Caller.standing c.args.caller.now), replicate 3 datum.Null, (c.in_ok-push_new.ensures.made h.0 h.3).0, made_at (g.C.Caller.standing c.args.caller.now) _ h.0 (c.args.front + 2) (replicate 3 datum.Null) c.in_ok-push_new.ensures.pushed c.requires.top, refl)

pub fill_entry-requires-clause-next : goal.fill_entry-requires-clause-next
fill_entry-requires-clause-next g c = omega (arith, c.requires.top, made_size (g.C.Caller.standing c.args.caller.now) _ c.in_ok-push_new.ensures.pushed)

pub fill_entry-requires-clause-key : goal.fill_entry-requires-clause-key
fill_entry-requires-clause-key g c = omega (arith, c.requires.top, made_size (g.C.Caller.standing c.args.caller.now) _ c.in_ok-push_new.ensures.pushed)

pub fill_entry-requires-clause-room : goal.fill_entry-requires-clause-room
fill_entry-requires-clause-room g c = omega (arith, c.requires.room, made_size (g.C.Caller.standing c.args.caller.now) _ c.in_ok-push_new.ensures.pushed)

pub fill_entry-requires-clause-top : goal.fill_entry-requires-clause-top
fill_entry-requires-clause-top g c = omega (arith, c.requires.top, made_size (g.C.Caller.standing c.args.caller.now) _ c.in_ok-push_new.ensures.pushed)

pub store-requires-clause-field : goal.store-requires-clause-field
store-requires-clause-field g c =
    let h = c.requires.table in
    let made = c.in_ok-push_new.ensures.made h.0 h.3 in
    let e = c.in_ok-push_new.ensures.pushed in
    let nulls = replicate 3 datum.Null in
    let blank = made_at (g.C.Caller.standing c.args.caller.now) _ h.0 (c.args.front + 2) nulls e c.requires.top in
    let filled = c.fill_entry.ensures.filled _ (next_of (g.C.Caller.standing c.args.caller.now)) nulls made.0 blank refl in
    let two = with_fields h.0 (next_of (g.C.Caller.standing c.args.caller.now)) (slot_in (g.C.Caller.standing c.args.caller.now) c.args.front) (slot_in (g.C.Caller.standing c.args.caller.now) (c.args.front + 1)) c.args.n in
    let there : g.C.Caller.knows c.fill_entry.new.caller two =
    subst (g.C.Caller.knows c.fill_entry.new.caller)
    (insert_again h.0 (next_of (g.C.Caller.standing c.args.caller.now)) _ _
    ∙ ap (λ v. with_fields h.0 (next_of (g.C.Caller.standing c.args.caller.now)) v (slot_in (g.C.Caller.standing c.push_new.new.caller) (c.args.front + 1)) c.args.n) (made_below (g.C.Caller.standing c.args.caller.now) _ c.args.front e (omega (arith, c.requires.top)))
    ∙ ap (λ v. with_fields h.0 (next_of (g.C.Caller.standing c.args.caller.now)) (slot_in (g.C.Caller.standing c.args.caller.now) c.args.front) v c.args.n) (made_below (g.C.Caller.standing c.args.caller.now) _ (c.args.front + 1) e (omega (arith, c.requires.top)))) filled in
    let own = c.fill_entry.ensures.own ∙ e in
    let at : IsAt (g.C.Caller.standing c.fill_entry.new.caller).own two c.args.table h.1 h.2 =
    (made_below (g.C.Caller.standing c.args.caller.now) _ c.args.table own (in_bounds (g.C.Caller.standing c.args.caller.now).own.stack c.args.table h.1 (h.4).0) ∙ (h.4).0, get-other h.0 (next_of (g.C.Caller.standing c.args.caller.now)) _ h.1 (other_name h.0 h.1 (next_of (g.C.Caller.standing c.args.caller.now)) _ made.1 (h.4).1) ∙ (h.4).1) in
    (two, h.1, h.2, there, at, h.5)

pub store-requires-clause-value : goal.store-requires-clause-value
store-requires-clause-value g c = omega (arith, c.requires.top, made_size (g.C.Caller.standing c.args.caller.now) _ (c.fill_entry.ensures.own ∙ c.in_ok-push_new.ensures.pushed))

pub pop-requires-clause-some : goal.pop-requires-clause-some
pop-requires-clause-some g c =
    let h = c.requires.table in
    let made = c.in_ok-push_new.ensures.made h.0 h.3 in
    let e = c.in_ok-push_new.ensures.pushed in
    let nulls = replicate 3 datum.Null in
    let blank = made_at (g.C.Caller.standing c.args.caller.now) _ h.0 (c.args.front + 2) nulls e c.requires.top in
    let filled = c.fill_entry.ensures.filled _ (next_of (g.C.Caller.standing c.args.caller.now)) nulls made.0 blank refl in
    let two = with_fields h.0 (next_of (g.C.Caller.standing c.args.caller.now)) (slot_in (g.C.Caller.standing c.args.caller.now) c.args.front) (slot_in (g.C.Caller.standing c.args.caller.now) (c.args.front + 1)) c.args.n in
    let there : g.C.Caller.knows c.fill_entry.new.caller two =
    subst (g.C.Caller.knows c.fill_entry.new.caller)
    (insert_again h.0 (next_of (g.C.Caller.standing c.args.caller.now)) _ _
    ∙ ap (λ v. with_fields h.0 (next_of (g.C.Caller.standing c.args.caller.now)) v (slot_in (g.C.Caller.standing c.push_new.new.caller) (c.args.front + 1)) c.args.n) (made_below (g.C.Caller.standing c.args.caller.now) _ c.args.front e (omega (arith, c.requires.top)))
    ∙ ap (λ v. with_fields h.0 (next_of (g.C.Caller.standing c.args.caller.now)) (slot_in (g.C.Caller.standing c.args.caller.now) c.args.front) v c.args.n) (made_below (g.C.Caller.standing c.args.caller.now) _ (c.args.front + 1) e (omega (arith, c.requires.top)))) filled in
    let own = c.fill_entry.ensures.own ∙ e in
    let at : IsAt (g.C.Caller.standing c.fill_entry.new.caller).own two c.args.table h.1 h.2 =
    (made_below (g.C.Caller.standing c.args.caller.now) _ c.args.table own (in_bounds (g.C.Caller.standing c.args.caller.now).own.stack c.args.table h.1 (h.4).0) ∙ (h.4).0, get-other h.0 (next_of (g.C.Caller.standing c.args.caller.now)) _ h.1 (other_name h.0 h.1 (next_of (g.C.Caller.standing c.args.caller.now)) _ made.1 (h.4).1) ∙ (h.4).1) in
    (_, c.store.ensures.stored two h.1 h.2 there at h.5)

pub pop-requires-clause-slot : goal.pop-requires-clause-slot
pop-requires-clause-slot g c = omega (arith, c.requires.top, made_size (g.C.Caller.standing c.args.caller.now) _ (c.store.ensures.own ∙ c.fill_entry.ensures.own ∙ c.in_ok-push_new.ensures.pushed))

pub returns-clause-own : goal.returns-clause-own
returns-clause-own g c = c.pop.ensures.popped ∙ ap popped (c.store.ensures.own ∙ c.fill_entry.ensures.own ∙ c.in_ok-push_new.ensures.pushed) ∙ popped_made (g.C.Caller.standing c.args.caller.now)

pub returns-clause-linked : goal.returns-clause-linked
returns-clause-linked g c known name heads k slot bound =
    let made = c.in_ok-push_new.ensures.made known k in
    let e = c.in_ok-push_new.ensures.pushed in
    let nulls = replicate 3 datum.Null in
    let blank = made_at (g.C.Caller.standing c.args.caller.now) _ known (c.args.front + 2) nulls e c.requires.top in
    let filled = c.fill_entry.ensures.filled _ (next_of (g.C.Caller.standing c.args.caller.now)) nulls made.0 blank refl in
    let two = with_fields known (next_of (g.C.Caller.standing c.args.caller.now)) (slot_in (g.C.Caller.standing c.args.caller.now) c.args.front) (slot_in (g.C.Caller.standing c.args.caller.now) (c.args.front + 1)) c.args.n in
    let there : g.C.Caller.knows c.fill_entry.new.caller two =
    subst (g.C.Caller.knows c.fill_entry.new.caller)
    (insert_again known (next_of (g.C.Caller.standing c.args.caller.now)) _ _
    ∙ ap (λ v. with_fields known (next_of (g.C.Caller.standing c.args.caller.now)) v (slot_in (g.C.Caller.standing c.push_new.new.caller) (c.args.front + 1)) c.args.n) (made_below (g.C.Caller.standing c.args.caller.now) _ c.args.front e (omega (arith, c.requires.top)))
    ∙ ap (λ v. with_fields known (next_of (g.C.Caller.standing c.args.caller.now)) (slot_in (g.C.Caller.standing c.args.caller.now) c.args.front) v c.args.n) (made_below (g.C.Caller.standing c.args.caller.now) _ (c.args.front + 1) e (omega (arith, c.requires.top)))) filled in
    let own = c.fill_entry.ensures.own ∙ e in
    let at : IsAt (g.C.Caller.standing c.fill_entry.new.caller).own two c.args.table name heads =
    (made_below (g.C.Caller.standing c.args.caller.now) _ c.args.table own (in_bounds (g.C.Caller.standing c.args.caller.now).own.stack c.args.table name (slot).0) ∙ (slot).0, get-other known (next_of (g.C.Caller.standing c.args.caller.now)) _ name (other_name known name (next_of (g.C.Caller.standing c.args.caller.now)) _ made.1 (slot).1) ∙ (slot).1) in (
      subst (λ v. g.C.Caller.knows c.pop.new.caller (with_field two name heads c.args.bucket v)) ((made_at (g.C.Caller.standing c.args.caller.now) _ known (c.args.front + 2) nulls own c.requires.top).0)
          (c.pop.ensures.keeps _ (c.store.ensures.stored two name heads there at bound)),
      made.1,
    )

pub returns-clause-ran : goal.returns-clause-ran
returns-clause-ran g c = let C = g.C.Caller in ran_words C.base C.tells C.tells_known C.standing _ _ 6 _ (omega arith) (ran_then C.base C.tells C.tells_known C.standing _ _ _ 6 0 c.in_ok-push_new.ensures.ran (ran_more C.base C.tells C.tells_known C.standing _ _ _ (ran_more C.base C.tells C.tells_known C.standing _ _ _ c.fill_entry.ensures.ran c.store.ensures.ran) c.pop.ensures.ran))

pub returns-clause-aside : goal.returns-clause-aside
returns-clause-aside g c other k =
    let s = g.C.Caller.standing c.args.caller.now in
    let h = c.requires.table in
    let e = c.in_ok-push_new.ensures.pushed in
    let made = c.in_ok-push_new.ensures.made other k in
    let table_made = c.in_ok-push_new.ensures.made h.0 h.3 in
    let nulls = replicate 3 datum.Null in
    let blank = made_at s _ other (c.args.front + 2) nulls e c.requires.top in
    let filled = c.fill_entry.ensures.filled _ (next_of s) nulls made.0 blank refl in
    let two = with_fields other (next_of s) (slot_in s c.args.front) (slot_in s (c.args.front + 1)) c.args.n in
    let there : g.C.Caller.knows c.fill_entry.new.caller two =
    subst (g.C.Caller.knows c.fill_entry.new.caller)
    (insert_again other (next_of s) _ _
    ∙ ap (λ v. with_fields other (next_of s) v (slot_in (g.C.Caller.standing c.push_new.new.caller) (c.args.front + 1)) c.args.n) (made_below s _ c.args.front e (omega (arith, c.requires.top)))
    ∙ ap (λ v. with_fields other (next_of s) (slot_in s c.args.front) v c.args.n) (made_below s _ (c.args.front + 1) e (omega (arith, c.requires.top)))) filled in
    let own = c.fill_entry.ensures.own ∙ e in
    let top = (made_at s _ other (c.args.front + 2) nulls own c.requires.top).0 in
    let table = made_below s _ c.args.table own (in_bounds s.own.stack c.args.table h.1 (h.4).0) in (
      made.1,
      λ after lacks loses.
          let lacks_two = lacks_insert other (next_of s) _ _ (not_next h.0 _ h.1 (next_of s) _ (h.4).0 (h.4).1 table_made.1) lacks in
          c.pop.ensures.keeps after (c.store.ensures.aside two after there (lacks_as two _ _ (sym table) lacks_two) (subst (λ v. GivesAway two v after) (sym top) loses)),
    )
