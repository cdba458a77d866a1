-- The pool made anew.
use Rattle.std.proofs.Common.{◌≡◌, ℕ, List, length, set, ap, ◌∙◌}
use Rattle.std.proofs.lemmas.List.{set-set}
use Rattle.heap_words.specs.declared.map.Areas.{Areas}
use Rattle.heap_words.specs.declared.TheConstants.{HEAD_WORDS}
use Rattle.heap_words.specs.Contents.{Contents}
use Rattle.yak_model.specs.Stands.{free_pages}
use Rattle.region_pages.specs.Freeing.{free_below, pool_with}
use Rattle.region_pages.specs.declared.TheConstants.{CLAIM_COUNTER, POOL_LENGTH}
use Rattle.region_pages.proofs.Freed.{rebuilt_free}
use Rattle.forwarding.specs.Pool.{PoolAnew}

-- words whose pool was made anew from heads of which only the claim counter had changed
pub pool_anew : (m : Areas) (c d : Contents) (heads pool : List ℕ) → set heads CLAIM_COUNTER 0 ≡ set c.heads CLAIM_COUNTER 0 → length heads ≡ HEAD_WORDS → pool ≡ c.pool → d.heads ≡ set (set heads CLAIM_COUNTER 0) POOL_LENGTH (length (free_below d.table m.pages)) → d.pool ≡ pool_with (free_below d.table m.pages) pool → PoolAnew m c d
pool_anew m c d heads pool claims long pools now into =
    let pages : List ℕ = free_below d.table m.pages in
    record {
      free =
          ap (λ (hs : List ℕ). free_pages hs d.pool) now
          ∙ ap (λ (ps : List ℕ). free_pages (set (set heads CLAIM_COUNTER 0) POOL_LENGTH (length pages)) ps) into
          ∙ rebuilt_free heads pages pool long;
      heads = now ∙ ap (λ (hs : List ℕ). set hs POOL_LENGTH (length pages)) claims;
      pool = into ∙ ap (λ (ps : List ℕ). pool_with pages ps) pools;
    }

-- a claim counter that is set to 0 forgets what it was
pub claims_again : (h : List ℕ) (k : ℕ) → set (set h CLAIM_COUNTER k) CLAIM_COUNTER 0 ≡ set h CLAIM_COUNTER 0
claims_again h k = set-set h CLAIM_COUNTER k 0

-- the pool over the words before the buffers were filed
pub pool_before : (m : Areas) (c filing d : Contents) → filing.heads ≡ c.heads → filing.pool ≡ c.pool → PoolAnew m filing d → PoolAnew m c d
pool_before m c filing d heads pools p =
    let pages : List ℕ = free_below d.table m.pages in
    record {
      free = p.free;
      heads = p.heads ∙ ap (λ (hs : List ℕ). set (set hs CLAIM_COUNTER 0) POOL_LENGTH (length pages)) heads;
      pool = p.pool ∙ ap (λ (ps : List ℕ). pool_with pages ps) pools;
    }
