-- How a key grows.
use Rattle.std.proofs.Common.{◌≡◌, ◌≢◌, ℕ, ◌+◌, ◌<◌, List, get_or, set, replicate, ◌∙◌, ap, subst, length, arith, length-set, get_or-set_same, get_or-set_other, below_more}
use Rattle.std.proofs.lemmas.List.{length-replicate}
use Rattle.std.specs.FinMap.{insert}
use Rattle.object_layout.specs.declared.names.Name.{Name}
use Rattle.yak_model.specs.declared.datum.Datum.{Datum}
use Rattle.yak_model.specs.declared.datum.Datum.TheVariants as datum
use Rattle.yak_model.specs.Graph.{Fields, Thread}
use Rattle.yak_model.specs.Private.{KnownObjects}
use Rattle.yak_model.proofs.Names.{get-same}
use Rattle.yak_model.specs.Standing.{Standing}
use Rattle.heap_tables.specs.Runs.{next_of, with_made, with_field}
use Rattle.heap_tables.proofs.Effects.{slot_push, length_push, IsAt}
use Rattle.yak_model.specs.Tables.{group, groups}
use Rattle.heap_tables.specs.Keys.{IsKeyBegun}
use Rattle.heap_tables.proofs.Places.{insert_again}

-- the new object on top
pub made_at : (s : Standing) (own : Thread) (known : KnownObjects) (top : ℕ) (values : List Datum) → own ≡ with_made s → length s.own.stack ≡ top → IsAt own (insert known (next_of s) (Fields values)) top (next_of s) values
made_at s own known top values e h =
    (ap (λ (o : Thread). get_or o.stack top datum.Null) e ∙ slot_push s.own.stack (datum.Object (next_of s)) top h, get-same known (next_of s) (Fields values))

pub made_size : (s : Standing) (own : Thread) → own ≡ with_made s → length own.stack ≡ length s.own.stack + 1
made_size s own e = ap (λ (o : Thread). length o.stack) e ∙ length_push s.own.stack (datum.Object (next_of s))

pub key_first : (known : KnownObjects) (name : Name) (word : List ℕ) (knows : KnownObjects → Type 0) (k : ℕ) → k ≡ groups (length word) + 1
    → knows (with_field (insert known name (Fields (replicate k datum.Null))) name (replicate k datum.Null) 0 (datum.Int (length word)))
    → IsKeyBegun known name word 0 knows
key_first known name word knows k e h =
    let bound : 0 < length (replicate k datum.Null) = omega (arith, length-replicate k datum.Null, e) in record {
      values = set (replicate k datum.Null) 0 (datum.Int (length word));
      size = length-set (replicate k datum.Null) 0 (datum.Int (length word)) ∙ length-replicate k datum.Null ∙ e;
      first = get_or-set_same (replicate k datum.Null) 0 (datum.Int (length word)) datum.Null bound;
      rest = λ i lt. absurd (omega (arith, lt));
      known_now = subst knows (insert_again known name _ _) h;
    }

pub key_more : (known : KnownObjects) (name : Name) (word : List ℕ) (n : ℕ) (before after : KnownObjects → Type 0) (p : IsKeyBegun known name word n before) → n < groups (length word)
    → after (with_field (insert known name (Fields p.values)) name p.values (n + 1) (datum.Int (group word n)))
    → IsKeyBegun known name word (n + 1) after
key_more known name word n before after p lt h =
    let bound : n + 1 < length p.values = omega (arith, p.size, lt) in
    let first_apart : 0 ≢ n + 1 = omega arith in record {
      values = set p.values (n + 1) (datum.Int (group word n));
      size = length-set p.values (n + 1) (datum.Int (group word n)) ∙ p.size;
      first = get_or-set_other p.values (n + 1) 0 (datum.Int (group word n)) datum.Null first_apart ∙ p.first;
      rest = below_more (λ i. get_or (set p.values (n + 1) (datum.Int (group word n))) (i + 1) datum.Null ≡ datum.Int (group word i)) n
          (λ i less. let apart : i + 1 ≢ n + 1 = omega (arith, less) in get_or-set_other p.values (n + 1) (i + 1) (datum.Int (group word n)) datum.Null apart ∙ p.rest i less)
          (get_or-set_same p.values (n + 1) (datum.Int (group word n)) datum.Null bound);
      known_now = subst after (insert_again known name _ _) h;
    }
