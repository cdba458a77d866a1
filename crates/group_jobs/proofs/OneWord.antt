-- A table of one word.
use Rattle.std.proofs.Common.{◌≡◌, ◌≤◌, ◌+◌, ℕ, List, Bool, true, false, cond, ap, ◌∙◌, arith, get_or, length}
use Rattle.std.specs.Cmp.Lexicographic.{nat_list_cmp_total, slice_cmp}
use Rattle.std.specs.Ordering.{nat_cmp}
use Rattle.std.specs.FinMap.{contains_key, empty, get-empty, len, len-empty, len-insert}
use Rattle.object_layout.specs.declared.TheConstants.{MAX_INT}
use Rattle.object_layout.specs.declared.names.Name.{Name}
use Rattle.yak_model.specs.declared.TheConstants.{BUCKETS}
use Rattle.yak_model.specs.declared.datum.Datum.{Datum}
use Rattle.yak_model.specs.declared.datum.Datum.TheVariants as datum
use Rattle.yak_model.specs.Graph.{Thread}
use Rattle.yak_model.specs.Private.{KnownObjects}
use Rattle.yak_model.specs.Standing.{Standing}
use Rattle.yak_model.specs.Tables.{IsCountTable, bucket_of}
use Rattle.yak_model.specs.Texts.{WordCounts}
use Rattle.heap_tables.specs.Counted.{MayCount, MayLook, count_of, or_zero, raised}
use Rattle.heap_tables.specs.Runs.{next_of, with_made, with_new}
use Rattle.heap_tables.proofs.RaisedCounts.{bucket_small, count_same}
use Rattle.heap_tables.proofs.Effects.{slot_push}
use Rattle.heap_tables.proofs.Wholes.{bucket_few}
use Rattle.group_jobs.specs.declared.TheConstants.{TOTAL_SLOT}

pub one_more : (counts : WordCounts) (word : List ℕ) (n : ℕ) → len (raised counts word n) ≤ len counts + 1
one_more counts word n = by_key (contains_key counts word) (len-insert nat_list_cmp_total counts word (count_of counts word + n))
  where
    by_key : (b : Bool) → len (raised counts word n) ≡ cond b (len counts) (len counts + 1) → len (raised counts word n) ≤ len counts + 1
    by_key true e = omega (arith, e)
    by_key false e = omega (arith, e)

pub no_words : len {X = ℕ} (empty {R = slice_cmp nat_cmp}) ≡ 0
no_words = len-empty (slice_cmp nat_cmp) ℕ

pub none_counted : (word : List ℕ) → count_of empty word ≡ 0
none_counted word = ap or_zero (get-empty (slice_cmp nat_cmp) word)

-- the count of the word after it was counted n times
pub counts_one : (word : List ℕ) (n : ℕ) → count_of (raised empty word n) word ≡ n
counts_one word n = let none = none_counted word in let e : count_of empty word + n ≡ n = omega (arith, none) in ap or_zero (count_same empty word (count_of empty word + n)) ∙ e

-- the table that was just made
abbrev pub look_first : (s now : Standing) (known : KnownObjects) (word : List ℕ) → now.own ≡ with_made s → length s.own.stack ≡ TOTAL_SLOT → IsCountTable (with_new s known BUCKETS) (next_of s) empty → MayLook now (with_new s known BUCKETS) TOTAL_SLOT word (next_of s) empty
look_first s now known word own size table = record {
  slot = ap (λ (o : Thread). get_or o.stack TOTAL_SLOT datum.Null) own ∙ slot_push s.own.stack (datum.Object (next_of s)) TOTAL_SLOT size;
  is_table = table;
  short = let few = bucket_few (with_new s known BUCKETS) (next_of s) empty table (bucket_of word) (bucket_small word) in omega (arith, few, no_words);
}

abbrev pub may_first : (s now : Standing) (known : KnownObjects) (word : List ℕ) (n : ℕ) → n ≤ MAX_INT → now.own ≡ with_made s → length s.own.stack ≡ TOTAL_SLOT → IsCountTable (with_new s known BUCKETS) (next_of s) empty → MayCount now (with_new s known BUCKETS) TOTAL_SLOT word n (next_of s) empty
may_first s now known word n small own size table =
    let look = look_first s now known word own size table in
    record { slot = look.slot; is_table = table; short = look.short; sum = let none = none_counted word in omega (arith, none, small) }

-- the table after the word was counted n times
abbrev pub look_next : (s now : Standing) (known : KnownObjects) (word : List ℕ) (n : ℕ) (name : Name) → get_or s.own.stack TOTAL_SLOT datum.Null ≡ datum.Object name → now.own.stack ≡ s.own.stack → IsCountTable known name (raised empty word n) → MayLook now known TOTAL_SLOT word name (raised empty word n)
look_next s now known word n name slot same table = record {
  slot = ap (λ (st : List Datum). get_or st TOTAL_SLOT datum.Null) same ∙ slot;
  is_table = table;
  short = let few = bucket_few known name (raised empty word n) table (bucket_of word) (bucket_small word) in let more = one_more empty word n in omega (arith, few, more, no_words);
}

abbrev pub may_next : (s now : Standing) (known : KnownObjects) (word : List ℕ) (n m : ℕ) (name : Name) → n + m ≤ MAX_INT → get_or s.own.stack TOTAL_SLOT datum.Null ≡ datum.Object name → now.own.stack ≡ s.own.stack → IsCountTable known name (raised empty word n) → MayCount now known TOTAL_SLOT word m name (raised empty word n)
may_next s now known word n m name small slot same table =
    let look = look_next s now known word n name slot same table in
    record { slot = look.slot; is_table = table; short = look.short; sum = let one = counts_one word n in omega (arith, one, small) }
