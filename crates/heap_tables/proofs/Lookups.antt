-- The chain in which a word is looked up.
use Rattle.std.proofs.Common.{◌≡◌, ℕ, ◌+◌, ◌^◌, ◌<◌, List, ◌∷◌, ◌++◌, get_or, ◌∙◌, ap, sym, subst, None, Some, length, arith}
use Rattle.std.specs.FinMap.{get}
use Rattle.object_layout.specs.declared.names.Name.{Name}
use Rattle.yak_model.specs.declared.TheConstants.{BUCKETS}
use Rattle.yak_model.specs.declared.datum.Datum.{Datum}
use Rattle.yak_model.specs.declared.datum.Datum.TheVariants as datum
use Rattle.yak_model.specs.Graph.{Thread}
use Rattle.yak_model.specs.Private.{KnownObjects}
use Rattle.yak_model.specs.Standing.{Standing}
use Rattle.yak_model.specs.Tables.{IsChain, IsEntry, IsTable, LacksWord, Link, bucket_of}
use Rattle.yak_model.specs.Texts.{WordCounts}
use Rattle.heap_tables.specs.Asides.{LacksChain, LacksTable}
use Rattle.heap_tables.specs.Counted.{MayLook}
use Rattle.heap_tables.specs.Cursors.{MayWalk}
use Rattle.heap_tables.specs.Runs.{pushed}
use Rattle.heap_tables.specs.Walks.{IsApart, IsAtChain}
use Rattle.heap_tables.proofs.RaisedCounts.{bucket_small, lacks_none}
use Rattle.heap_tables.proofs.Effects.{length_push, top_after}
use Rattle.heap_tables.proofs.Raised.{entry_at, table_apart}
use Rattle.heap_tables.proofs.Visits.{counted_at}

-- the same of a caller with the same stack
abbrev pub look_now : (s now : Standing) (known : KnownObjects) (table : ℕ) (word : List ℕ) (name : Name) (counts : WordCounts) → MayLook s known table word name counts → now.own ≡ s.own → MayLook now known table word name counts
look_now s now known table word name counts may own = record {
  slot = ap (λ (o : Thread). get_or o.stack table datum.Null) own ∙ may.slot;
  is_table = may.is_table;
  short = may.short;
}

module _ (s : Standing) (known : KnownObjects) (table : ℕ) (word : List ℕ) (name : Name) (counts : WordCounts) (may : MayLook s known table word name counts) (bucket : ℕ) (same : bucket ≡ bucket_of word) (small : bucket < BUCKETS) where
  abbrev pub heads_at : List Datum
  heads_at = (may.is_table).heads

  abbrev pub links_at : List Link
  links_at = (may.is_table).buckets (bucket_of word)

  bound : bucket_of word < BUCKETS
  bound = omega (arith, same, small)

  is_table : IsTable known name heads_at (may.is_table).buckets
  is_table = (may.is_table).table

  chain : IsChain known (get_or heads_at bucket datum.Null) links_at
  chain = subst (λ i. IsChain known (get_or heads_at i datum.Null) links_at) (sym same) (is_table.chains (bucket_of word) bound)

  pub look_at : IsAtChain s known table bucket name heads_at links_at
  look_at = ((may.slot, is_table.object), (let size = is_table.size in omega (arith, size, small)), chain)

  pub look_apart : IsApart name links_at
  look_apart = table_apart known name heads_at (may.is_table).buckets is_table links_at (get_or heads_at bucket datum.Null) chain

  pub look_short : length links_at < 2 ^ 63
  look_short = let short = may.short in omega (arith, short)

  pub look_lacks : (other : KnownObjects) → LacksTable other name (may.is_table).buckets → LacksChain other name links_at
  look_lacks other lacks = (lacks.head, lacks.links (bucket_of word) bound)

  pub look_none : LacksWord word links_at → get counts word ≡ None
  look_none lacks = lacks_none known name counts may.is_table word lacks

  -- the word's entry, which is in the top slot
  module _ (own after : Thread) (top : ℕ) (size : length own.stack ≡ top) (passed rest : List Link) (link : Link) (parts : links_at ≡ passed ++ link ∷ rest) (is : link.word ≡ word) (stack : after ≡ pushed (pushed own (get_or heads_at bucket datum.Null)) (datum.Object link.entry)) where
    pub look_entry : (next : Datum) × IsEntry known next link
    look_entry = entry_at known passed rest link (get_or heads_at bucket datum.Null) (subst (IsChain known (get_or heads_at bucket datum.Null)) parts chain)

    pub look_slot : get_or after.stack (top + 1) datum.Null ≡ datum.Object link.entry
    look_slot = top_after (pushed own (get_or heads_at bucket datum.Null)) after (datum.Object link.entry) (top + 1) stack (length_push own.stack (get_or heads_at bucket datum.Null) ∙ ap (λ n. n + 1) size)

    pub look_count : get counts word ≡ Some link.count
    look_count = sym (ap (get counts) is) ∙ counted_at known name counts may.is_table (bucket_of word) bound passed rest link parts

-- where a table may be walked, each word may be looked up in it
abbrev pub look_walk : (s : Standing) (known : KnownObjects) (table : ℕ) (word : List ℕ) (name : Name) (counts : WordCounts) → MayWalk s known table name counts → MayLook s known table word name counts
look_walk s known table word name counts may = record {
  slot = may.slot;
  is_table = may.is_table;
  short = may.few (bucket_of word) (bucket_small word);
}
