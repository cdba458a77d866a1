-- The pool of free pages after pages came back.
use Rattle.std.specs.Prelude.{◌≡◌, length, slice_set}
use Rattle.heap_words.specs.declared.map.Areas.{Areas}
use Rattle.heap_words.specs.Contents.{Contents}
use Rattle.yak_model.specs.Stands.{free_pages}
use Rattle.region_pages.specs.declared.TheConstants.{CLAIM_COUNTER, POOL_LENGTH}
use Rattle.region_pages.specs.Freeing.{free_below, pool_with}

-- The pool begins with the free pages, all of them in ascending order, and none is claimed. Of the first words only these two
-- numbers have changed.
pub record PoolAnew (m : Areas) (c d : Contents) : Type 0 where
  pub free : free_pages d.heads d.pool ≡ free_below d.table m.pages
  pub heads : d.heads ≡ slice_set (slice_set c.heads CLAIM_COUNTER 0) POOL_LENGTH (length (free_below d.table m.pages))
  pub pool : d.pool ≡ pool_with (free_below d.table m.pages) c.pool
