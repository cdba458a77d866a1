use Rattle.std.proofs.Common.{◌≡◌, ◌+◌, ◌-◌, ◌*◌, ◌^◌, ◌<◌, [], ◌∷◌, ◌++◌, map, length, ap, sym, subst, ◌∙◌, arith}
use Rattle.yak_model.specs.declared.TheConstants.{BUCKETS}
use Rattle.yak_model.specs.Graph.{Thread}
use Rattle.heap_tables.specs.Cursors.{IsNextEntry, Visited}
use Rattle.heap_tables.specs.declared.cursors.Cursor.{Cursor}
use Rattle.heap_tables.specs.Entries.{AreEntries, entry_of}
use Rattle.heap_tables.specs.Merges.{done_at}
use Rattle.heap_tables.proofs.RunOn.{ran_more}
use Rattle.heap_tables.proofs.Visits.{walk_now}
use Rattle.heap_tables.proofs.Listed.{are_entries, gets_on, listed_next, next_place, read_to_end}
use Rattle.heap_tables.proofs.listing.read_entries.Goals as goal

pub next_entry-requires-clause-table : goal.next_entry-requires-clause-table
next_entry-requires-clause-table g c =
    let C = g.C.Caller in
    let h = c.requires.table in
    let inv = c.entries.invariant in
    (h.0, h.1, h.2, inv.kept h.0 h.1 h.2 h.3 h.4, walk_now (C.standing c.args.caller.now) (C.standing c.entries.caller) h.0 c.args.table h.1 h.2 h.4 inv.own)

pub next_entry-requires-clause-room : goal.next_entry-requires-clause-room
next_entry-requires-clause-room g c = omega (arith, c.requires.room, ap (λ (o : Thread). length o.stack) c.entries.invariant.own)

pub returns-in_err-entry-clause-ran : goal.returns-in_err-entry-clause-ran
returns-in_err-entry-clause-ran g c =
    let C = g.C.Caller in
    ran_more C.base C.tells C.tells_known C.standing _ _ _ c.entries.invariant.ran c.next_entry.ensures.ran

pub returns-in_err-entry-clause-kept : goal.returns-in_err-entry-clause-kept
returns-in_err-entry-clause-kept g c known name counts k may =
    let C = g.C.Caller in
    let inv = c.entries.invariant in
    c.next_entry.ensures.kept known name counts (inv.kept known name counts k may) (walk_now (C.standing c.args.caller.now) (C.standing c.entries.caller) known c.args.table name counts may inv.own)

pub returns-in_err-entry-clause-aside : goal.returns-in_err-entry-clause-aside
returns-in_err-entry-clause-aside g c known name counts may other k ko lacks =
    let C = g.C.Caller in
    let inv = c.entries.invariant in
    c.next_entry.ensures.aside known name counts (walk_now (C.standing c.args.caller.now) (C.standing c.entries.caller) known c.args.table name counts may inv.own) other (inv.kept known name counts k may) (inv.aside known name counts may other k ko lacks) lacks

pub entries-smaller : goal.entries-smaller
entries-smaller g c =
    let C = g.C.Caller in
    let h = c.requires.table in
    let inv = c.entries.invariant in
    let may = walk_now (C.standing c.args.caller.now) (C.standing c.entries.caller) h.0 c.args.table h.1 h.2 h.4 inv.own in
    let next = c.in_ok-entry.ensures.next h.0 h.1 h.2 may (inv.kept h.0 h.1 h.2 h.3 h.4) in
    let n = subst (IsNextEntry h.2 h.4.is_table.buckets c.entries.at) c.in-Some.is next in
    let same : c.in-Some.entry.next ≡ c.entry.inside.next = sym (ap (λ (v : Visited). v.next) c.entry.view_is) in
    subst (λ (x : Cursor). (BUCKETS - x.bucket) * 2 ^ 32 + (2 ^ 32 - x.place) < (BUCKETS - c.entries.at.bucket) * 2 ^ 32 + (2 ^ 32 - c.entries.at.place)) same
    (gets_on h.4.is_table.buckets c.entries.at c.in-Some.entry.next c.in-Some.entry.word c.in-Some.entry.count n.0 h.4.few)

pub entries-preserved : goal.entries-preserved
entries-preserved g c =
    let C = g.C.Caller in
    let h = c.requires.table in
    let inv = c.entries.invariant in
    let may = walk_now (C.standing c.args.caller.now) (C.standing c.entries.caller) h.0 c.args.table h.1 h.2 h.4 inv.own in
    let next = c.in_ok-entry.ensures.next h.0 h.1 h.2 may (inv.kept h.0 h.1 h.2 h.3 h.4) in
    let n = subst (IsNextEntry h.2 h.4.is_table.buckets c.entries.at) c.in-Some.is next in
    let bounds = next_place h.4.is_table.buckets c.entries.at c.in-Some.entry.next c.in-Some.entry.word c.in-Some.entry.count n.0 h.4.few in
    let same : c.in-Some.entry.next ≡ c.entry.inside.next = sym (ap (λ (v : Visited). v.next) c.entry.view_is) in
    record {
      ran = ran_more C.base C.tells C.tells_known C.standing _ _ _ inv.ran c.next_entry.ensures.ran;
      own = c.next_entry.ensures.own ∙ inv.own;
      bucket = subst (λ (x : Cursor). x.bucket < BUCKETS) same bounds.0;
      place = subst (λ (x : Cursor). x.place < 2 ^ 32) same bounds.1;
      kept = λ known name counts k may. c.next_entry.ensures.kept known name counts (inv.kept known name counts k may) (walk_now (C.standing c.args.caller.now) (C.standing c.entries.caller) known c.args.table name counts may inv.own);
      aside = λ known name counts may other k ko lacks. c.next_entry.ensures.aside known name counts (walk_now (C.standing c.args.caller.now) (C.standing c.entries.caller) known c.args.table name counts may inv.own) other (inv.kept known name counts k may) (inv.aside known name counts may other k ko lacks) lacks;
      read = λ known name counts may k.
          let now = walk_now (C.standing c.args.caller.now) (C.standing c.entries.caller) known c.args.table name counts may inv.own in
          let one = c.in_ok-entry.ensures.next known name counts now (inv.kept known name counts k may) in
          let o = subst (IsNextEntry counts (may.is_table).buckets c.entries.at) c.in-Some.is one in
          c.in_ok-push_entry.ensures ∙ ap (λ es. es ++ (c.in-Some.entry.word, c.in-Some.entry.count) ∷ []) (inv.read known name counts may k)
          ∙ listed_next (may.is_table).buckets c.entries.at inv.bucket c.in-Some.entry.word c.in-Some.entry.count c.in-Some.entry.next o.0
          ∙ ap (λ (x : Cursor). map entry_of (done_at (may.is_table).buckets x.bucket x.place)) same;
    }

pub returns-in_err-push_entry-clause-ran : goal.returns-in_err-push_entry-clause-ran
returns-in_err-push_entry-clause-ran g c =
    let C = g.C.Caller in
    ran_more C.base C.tells C.tells_known C.standing _ _ _ c.entries.invariant.ran c.next_entry.ensures.ran

pub returns-in_err-push_entry-clause-kept : goal.returns-in_err-push_entry-clause-kept
returns-in_err-push_entry-clause-kept g c known name counts k may =
    let C = g.C.Caller in
    let inv = c.entries.invariant in
    c.next_entry.ensures.kept known name counts (inv.kept known name counts k may) (walk_now (C.standing c.args.caller.now) (C.standing c.entries.caller) known c.args.table name counts may inv.own)

pub returns-in_err-push_entry-clause-aside : goal.returns-in_err-push_entry-clause-aside
returns-in_err-push_entry-clause-aside g c known name counts may other k ko lacks =
    let C = g.C.Caller in
    let inv = c.entries.invariant in
    c.next_entry.ensures.aside known name counts (walk_now (C.standing c.args.caller.now) (C.standing c.entries.caller) known c.args.table name counts may inv.own) other (inv.kept known name counts k may) (inv.aside known name counts may other k ko lacks) lacks

pub returns-clause-ran : goal.returns-clause-ran
returns-clause-ran g c =
    let C = g.C.Caller in
    ran_more C.base C.tells C.tells_known C.standing _ _ _ c.entries.invariant.ran c.next_entry.ensures.ran

pub returns-clause-kept : goal.returns-clause-kept
returns-clause-kept g c known name counts k may =
    let C = g.C.Caller in
    let inv = c.entries.invariant in
    c.next_entry.ensures.kept known name counts (inv.kept known name counts k may) (walk_now (C.standing c.args.caller.now) (C.standing c.entries.caller) known c.args.table name counts may inv.own)

pub returns-clause-aside : goal.returns-clause-aside
returns-clause-aside g c known name counts may other k ko lacks =
    let C = g.C.Caller in
    let inv = c.entries.invariant in
    c.next_entry.ensures.aside known name counts (walk_now (C.standing c.args.caller.now) (C.standing c.entries.caller) known c.args.table name counts may inv.own) other (inv.kept known name counts k may) (inv.aside known name counts may other k ko lacks) lacks

pub returns-clause-walked : goal.returns-clause-walked
returns-clause-walked g c known name counts may k =
    let C = g.C.Caller in
    let inv = c.entries.invariant in
    let now = walk_now (C.standing c.args.caller.now) (C.standing c.entries.caller) known c.args.table name counts may inv.own in
    let one = c.in_ok-entry.ensures.next known name counts now (inv.kept known name counts k may) in
    read_to_end (may.is_table).buckets c.entries.at c.entries.list.items inv.bucket (subst (IsNextEntry counts (may.is_table).buckets c.entries.at) c.in_default.is one) (inv.read known name counts may k)

pub returns-clause-entries : goal.returns-clause-entries
returns-clause-entries g c known name counts k may =
    subst (AreEntries counts) (sym (returns-clause-walked g c known name counts may k)) (are_entries known name counts may.is_table)
