use Rattle.region_pages.proofs.freeing.release_pages.Goals as goal

pub returns-clause-free : goal.returns-clause-free
returns-clause-free g c = rw c.used_count-used.ensures.words at c.release_used.ensures.free
