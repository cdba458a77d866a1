-- A new table of a count.
use Rattle.std.proofs.Common.{◌≡◌, ℕ, ◌<◌, List, [], ◌∷◌, None, length, replicate, get_or, refl, ◌∙◌, ap, sym, subst, arith}
use Rattle.std.specs.FinMap.{get, get-empty, empty}
use Rattle.std.proofs.lemmas.List.Elements.{All-nil, All-cons}
use Rattle.object_layout.specs.declared.names.Name.{Name}
use Rattle.yak_model.specs.declared.datum.Datum.TheVariants as datum
use Rattle.yak_model.specs.declared.TheConstants.{BUCKETS}
use Rattle.yak_model.specs.Graph.{Fields, Thread}
use Rattle.yak_model.specs.Private.{KnownObjects}
use Rattle.yak_model.specs.Standing.{Standing}
use Rattle.yak_model.specs.Tables.{AreInBucket, IsCountTable, LacksWord, Link}
use Rattle.yak_model.specs.Texts.{WordCounts, word_cmp, word_counts}
use Rattle.yak_model.proofs.Names.{get-other}
use Rattle.heap_tables.specs.Adds.{AreAfter, IsNoEntry, IsNowhere}
use Rattle.heap_tables.specs.Runs.{next_of, with_made, with_new}
use Rattle.heap_tables.proofs.RaisedCounts.{grown_counts}
use Rattle.heap_tables.proofs.Effects.{in_bounds, slot_push}
use Rattle.heap_tables.proofs.Linked.{insert_grows, made_below, other_name}
use Rattle.group_jobs.specs.Tallies.{AreApart, KeepsAside, KnowsTallies, KnowsTally, Tally}
use Rattle.group_jobs.specs.declared.TheConstants.{PART_SLOT, TOTAL_SLOT}

-- A table without counts has no entries.
none_in : (known : KnownObjects) (name : Name) (table : IsCountTable known name empty) (x : Name) (b : ℕ) (links : List Link) → AreInBucket b links → ((v : List ℕ) → LacksWord v (table.buckets b) → LacksWord v links) → IsNoEntry x links
none_in known name table x b [] homes lacks = tt
none_in known name table x b (l ∷ links) homes lacks =
    absurd ((lacks l.word (subst (λ c. LacksWord l.word (table.buckets c)) homes.0 (table.absent l.word (get-empty word_cmp l.word)))).0 refl)

no_links : (known : KnownObjects) (name : Name) (table : IsCountTable known name empty) (x : Name) (b : ℕ) (links : List Link) → AreInBucket b links → ((v : List ℕ) → LacksWord v (table.buckets b) → LacksWord v links) → AreAfter x links
no_links known name table x b [] homes lacks = tt
no_links known name table x b (l ∷ links) homes lacks =
    absurd ((lacks l.word (subst (λ c. LacksWord l.word (table.buckets c)) homes.0 (table.absent l.word (get-empty word_cmp l.word)))).0 refl)

pub no_entries : (known : KnownObjects) (name : Name) (table : IsCountTable known name empty) (x : Name) → IsNowhere x table.buckets
no_entries known name table x b bound = none_in known name table x b (table.buckets b) ((table.table).homes b bound) (λ v h. h)

pub all_apart : (links : List Link) (buckets : ℕ → List Link) → ((x : Name) → IsNowhere x buckets) → AreApart links buckets
all_apart [] buckets free = All-nil (λ l. IsNowhere l.entry buckets)
all_apart (l ∷ links) buckets free = All-cons (λ k. IsNowhere k.entry buckets) l links (free l.entry) (all_apart links buckets free)

no_counts : word_counts [] ≡ empty
no_counts = refl

made_aside : (s now : Standing) (known : KnownObjects) → now.own ≡ with_made s → 0 < length (s.own).stack → get known (next_of s) ≡ None → KeepsAside s known now (with_new s known BUCKETS)
made_aside s now known own some none = record {
  slot = made_below s now.own 0 own some;
  objects = λ name values is aside. get-other known (next_of s) (Fields (replicate BUCKETS datum.Null)) name (other_name known name (next_of s) (Fields values) none is) ∙ is;
}

pub opened_part : (s now : Standing) (known : KnownObjects) (knows : KnownObjects → Type 0) (done : List (List ℕ)) → now.own ≡ with_made s → length (s.own).stack ≡ PART_SLOT → Tally s known done
    → knows (with_new s known BUCKETS) → IsCountTable (with_new s known BUCKETS) (next_of s) empty → get known (next_of s) ≡ None
    → now.thread ≡ s.thread → KnowsTallies s known now knows (next_of s) done []
opened_part s now known knows done own size t k part none thread =
    let table = grown_counts known (with_new s known BUCKETS) (insert_grows known (next_of s) _ none) t.name (word_counts done) t.table in (
      with_new s known BUCKETS,
      k,
      record {
        total = record {
          name = t.name;
          slot = made_below s now.own TOTAL_SLOT own (in_bounds (s.own).stack TOTAL_SLOT t.name t.slot) ∙ t.slot;
          table = table;
        };
        slot = ap (λ (o : Thread). get_or o.stack PART_SLOT datum.Null) own ∙ slot_push (s.own).stack (datum.Object (next_of s)) PART_SLOT size;
        table = record {
          heads = part.heads;
          buckets = part.buckets;
          table = part.table;
          counted = λ w n e. part.counted w n (ap (λ (m : WordCounts). get m w) (sym no_counts) ∙ e);
          absent = λ w e. part.absent w (ap (λ (m : WordCounts). get m w) (sym no_counts) ∙ e);
        };
        other = other_name known t.name (next_of s) _ none ((t.table).table).object;
        apart = λ b h. all_apart (table.buckets b) part.buckets (no_entries (with_new s known BUCKETS) (next_of s) part);
        thread = sym thread;
        made = let m = ap (λ (o : Thread). o.made) own in omega arith;
        after = λ b h. no_links (with_new s known BUCKETS) (next_of s) part (next_of s) b (part.buckets b) ((part.table).homes b h) (λ v l. l);
      },
      made_aside s now known own (omega (arith, size)) none,
    )

pub opened_total : (s now : Standing) (known : KnownObjects) (knows : KnownObjects → Type 0) (done : List (List ℕ)) → now.own ≡ with_made s → length (s.own).stack ≡ TOTAL_SLOT → done ≡ []
    → knows (with_new s known BUCKETS) → IsCountTable (with_new s known BUCKETS) (next_of s) empty
    → get known (next_of s) ≡ None
    → KnowsTally s known now knows done
opened_total s now known knows done own size none k table fresh =
    subst (KnowsTally s known now knows) (sym none) (
      with_new s known BUCKETS,
      k,
      record {
        name = next_of s;
        slot = ap (λ (o : Thread). get_or o.stack TOTAL_SLOT datum.Null) own ∙ slot_push (s.own).stack (datum.Object (next_of s)) TOTAL_SLOT size;
        table = record {
          heads = table.heads;
          buckets = table.buckets;
          table = table.table;
          counted = λ w n e. table.counted w n (ap (λ (m : WordCounts). get m w) (sym no_counts) ∙ e);
          absent = λ w e. table.absent w (ap (λ (m : WordCounts). get m w) (sym no_counts) ∙ e);
        };
      },
      made_aside s now known own (omega (arith, size)) fresh,
    )
