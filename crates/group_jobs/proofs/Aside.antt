-- Known objects that are no tables and no entries.
use Rattle.std.proofs.Common.{◌≡◌, ◌≢◌, ℕ, Bool, List, [], ◌∷◌, Some, length, get_or, ◌∙◌, ap, sym}
use Rattle.std.specs.FinMap.{get}
use Rattle.object_layout.specs.declared.names.Name.{Name}
use Rattle.yak_model.specs.declared.TheConstants.{BUCKETS}
use Rattle.yak_model.specs.declared.datum.Datum.{Datum}
use Rattle.yak_model.specs.declared.datum.Datum.TheVariants as datum
use Rattle.yak_model.specs.Graph.{Fields}
use Rattle.yak_model.specs.Private.{KnownObjects}
use Rattle.yak_model.specs.Standing.{Standing}
use Rattle.yak_model.specs.Tables.{IsChain, IsTable, Link, entry_fields}
use Rattle.heap_tables.specs.Adds.{IsNoEntry, IsNowhere}
use Rattle.heap_tables.proofs.Entries.{same_fields}
use Rattle.group_jobs.specs.Tallies.{IsAside, KeepsAside, KnowsPart, KnowsProgress, KnowsTallies, KnowsTally}

pub no_table : (known : KnownObjects) (other name : Name) (values heads : List Datum) → get known other ≡ Some (Fields values) → IsAside values → get known name ≡ Some (Fields heads) → length heads ≡ BUCKETS → other ≢ name
no_table known other name values heads e aside h size q = aside.0 (ap length (same_fields known other name values heads q e h) ∙ size)

pub no_entry : (known : KnownObjects) (other : Name) (values : List Datum) → get known other ≡ Some (Fields values) → IsAside values → (links : List Link) (head : Datum) → IsChain known head links → IsNoEntry other links
no_entry known other values e aside [] head chain = tt
no_entry known other values e aside (l ∷ links) head chain = (
  λ q. aside.1 (ap length (same_fields known other l.entry values (entry_fields chain.1.0 l.key l.count) (sym q) e chain.1.1.0)),
  no_entry known other values e aside links chain.1.0 chain.1.2,
)

pub nowhere : (known : KnownObjects) (other : Name) (values : List Datum) → get known other ≡ Some (Fields values) → IsAside values → (name : Name) (heads : List Datum) (buckets : ℕ → List Link) → IsTable known name heads buckets → IsNowhere other buckets
nowhere known other values e aside name heads buckets t b bound = no_entry known other values e aside (buckets b) (get_or heads b datum.Null) (t.chains b bound)

pub aside_same : (s now : Standing) (known : KnownObjects) → (now.own).stack ≡ (s.own).stack → KeepsAside s known now known
aside_same s now known e = record {
  slot = ap (λ (st : List Datum). get_or st 0 datum.Null) e;
  objects = λ name values is aside. is;
}

pub aside_then : (s mid now : Standing) (known between later : KnownObjects) → KeepsAside s known mid between → KeepsAside mid between now later → KeepsAside s known now later
aside_then s mid now known between later a b = record {
  slot = b.slot ∙ a.slot;
  objects = λ name values is aside. b.objects name values (a.objects name values is aside) aside;
}

pub tally_then : (s mid now : Standing) (known between : KnownObjects) (knows : KnownObjects → Type 0) (done : List (List ℕ)) → KeepsAside s known mid between → KnowsTally mid between now knows done → KnowsTally s known now knows done
tally_then s mid now known between knows done a r = (r.0, r.1, r.2, aside_then s mid now known between r.0 a r.3)

pub tallies_then : (s mid now : Standing) (known between : KnownObjects) (knows : KnownObjects → Type 0) (name : Name) (done doing : List (List ℕ)) → KeepsAside s known mid between → KnowsTallies mid between now knows name done doing → KnowsTallies s known now knows name done doing
tallies_then s mid now known between knows name done doing a r = (r.0, r.1, r.2, aside_then s mid now known between r.0 a r.3)

pub part_then : (s mid now : Standing) (known between : KnownObjects) (knows : KnownObjects → Type 0) (name : Name) (done words : List (List ℕ)) → KeepsAside s known mid between → KnowsPart mid between now knows name done words → KnowsPart s known now knows name done words
part_then s mid now known between knows name done words a r = (r.0, r.1, r.2, aside_then s mid now known between r.0 a r.3, r.4)

pub progress_then : (has : Bool) (s mid now : Standing) (known between : KnownObjects) (knows : KnownObjects → Type 0) (done : List (List ℕ)) → KeepsAside s known mid between → KnowsProgress has mid between now knows done → KnowsProgress has s known now knows done
progress_then has s mid now known between knows done a r = (r.0, r.1, r.2, aside_then s mid now known between r.0 a r.3)
