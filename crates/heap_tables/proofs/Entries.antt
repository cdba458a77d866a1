-- Entries and keys of one map of objects are told apart by their fields.
use Rattle.std.proofs.Common.{◌≡◌, ◌≢◌, ℕ, ◌+◌, ◌<◌, List, [], ◌∷◌, get_or, refl, ◌∙◌, ap, sym, subst, length, Some, arith}
use Rattle.std.specs.FinMap.{get}
use Rattle.object_layout.specs.declared.names.Name.{Name}
use Rattle.yak_model.specs.declared.datum.Datum.{Datum}
use Rattle.yak_model.specs.declared.datum.Datum.TheVariants as datum
use Rattle.yak_model.specs.Graph.{Fields, fields_or_none}
use Rattle.yak_model.specs.Private.{KnownObjects}
use Rattle.yak_model.specs.Tables.{group, groups}
use Rattle.yak_model.specs.Tables.{IsKey}
use Rattle.yak_model.specs.Tables.{Link, IsChain, IsEntry, LacksWord, entry_fields}
use Rattle.heap_tables.specs.Walks.{IsApart}
use Rattle.heap_tables.proofs.Groups.{equal_words}

same_int : (m n : ℕ) → datum.Int m ≡ datum.Int n → m ≡ n
same_int m n e = cc

same_object : (m n : Name) → datum.Object m ≡ datum.Object n → m ≡ n
same_object m n e = cc

not_object : (m : ℕ) (n : Name) → datum.Int m ≡ datum.Object n → ⊥
not_object m n e = cc

pub same_fields : (known : KnownObjects) (x y : Name) (xs ys : List Datum) → x ≡ y → get known x ≡ Some (Fields xs) → get known y ≡ Some (Fields ys) → xs ≡ ys
same_fields known x y xs ys e a b = ap fields_or_none (sym a ∙ ap (get known) e ∙ b)

pub same_key : (known : KnownObjects) (x y : Name) (v w : List ℕ) → x ≡ y → IsKey known x v → IsKey known y w → v ≡ w
same_key known x y v w e a b =
    let f = same_fields known x y a.0 b.0 e a.1 b.1 in
    let size = same_int (length v) (length w) (sym a.2.first ∙ ap (λ vs. get_or vs 0 datum.Null) f ∙ b.2.first) in
    equal_words v w a.3 b.3 size (λ i h.
    let bound : i < groups (length w) = subst (λ n. i < groups n) size h in
    same_int (group v i) (group w i) (sym (a.2.rest i h) ∙ ap (λ vs. get_or vs (i + 1) datum.Null) f ∙ b.2.rest i bound))

pub same_entry : (known : KnownObjects) (m n : Datum) (k l : Link) → k.entry ≡ l.entry → IsEntry known m k → IsEntry known n l → k.word ≡ l.word
same_entry known m n k l e a b =
    let f = same_fields known k.entry l.entry (entry_fields m k.key k.count) (entry_fields n l.key l.count) e a.0 b.0 in
    same_key known k.key l.key k.word l.word (same_object k.key l.key (ap (λ vs. get_or vs 1 datum.Null) f)) a.1 b.1

pub same_next : (known : KnownObjects) (m n : Datum) (l : Link) → IsEntry known m l → IsEntry known n l → m ≡ n
same_next known m n l a b = ap (λ vs. get_or vs 0 datum.Null) (same_fields known l.entry l.entry (entry_fields m l.key l.count) (entry_fields n l.key l.count) refl a.0 b.0)

pub key_no_entry : (known : KnownObjects) (k : Name) (w : List ℕ) (n : Datum) (l : Link) → IsKey known k w → IsEntry known n l → k ≢ l.entry
key_no_entry known k w n l a b e =
    let f = same_fields known k l.entry a.0 (entry_fields n l.key l.count) e a.1 b.0 in
    let size : length a.0 ≡ 3 = ap length f in
    let some : 0 < groups (length w) = omega (arith, a.2.size, size) in
    not_object (group w 0) l.key (sym (a.2.rest 0 some) ∙ ap (λ vs. get_or vs 1 datum.Null) f)

pub apart_words : (known : KnownObjects) (n : Datum) (l : Link) → IsEntry known n l → (links : List Link) (head : Datum) → IsChain known head links → LacksWord l.word links → IsApart l.entry links
apart_words known n l b [] head chain lacks = tt
apart_words known n l b (k ∷ links) head chain lacks =
    ((λ e. lacks.0 (same_entry known chain.1.0 n k l e chain.1.1 b)), key_no_entry known k.key k.word n l chain.1.1.1 b, apart_words known n l b links chain.1.0 chain.1.2 lacks.1)
