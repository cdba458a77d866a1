-- A table with the first entries of a chain laid out on a stack, where a count is raised.
use Rattle.std.proofs.Common.{zero, suc, ◌≡◌, ℕ, ◌+◌, ◌≤◌, Bool, true, false, List, [], ◌∷◌, ◌++◌, drop, get_or, refl, ◌∙◌, ap, sym, subst, length, arith, append_assoc}
use Rattle.object_layout.specs.declared.TheConstants.{MAX_INT}
use Rattle.object_layout.specs.declared.names.Name.{Name}
use Rattle.yak_model.specs.declared.datum.Datum.{Datum}
use Rattle.yak_model.specs.declared.datum.Datum.TheVariants as datum
use Rattle.yak_model.specs.Graph.{Thread}
use Rattle.yak_model.specs.Private.{KnownObjects}
use Rattle.yak_model.specs.Standing.{Standing}
use Rattle.yak_model.specs.Tables.{AreDifferent, HasCount, IsChain, IsEntry, LacksWord, Link, bucket_of}
use Rattle.heap_tables.specs.Adds.{MayAdd, with_count}
use Rattle.heap_tables.specs.Asides.{LacksTable, LacksValue}
use Rattle.heap_tables.specs.Layouts.{FoundBeyond, IsBeyond, IsLaid, RaisesPresent}
use Rattle.heap_tables.specs.Runs.{KeepsKnown, KnowsSome}
use Rattle.heap_tables.specs.Seeks.{first_of}
use Rattle.heap_tables.proofs.Asides.{lacks_as, lacks_head, lacks_rest}
use Rattle.heap_tables.proofs.RaisedCounts.{bucket_small}
use Rattle.heap_tables.proofs.Laid.{chain_first, laid_at, laid_chain}
use Rattle.heap_tables.proofs.Raised.{distinct_parts, has_count_at, lacks_at, raised_table, table_apart}
use Rattle.heap_tables.proofs.Sought.{apart_drop, chain_front}

pub drop_length : (n : ℕ) (links : List Link) → length (drop n links) ≤ length links
drop_length zero [] = omega arith
drop_length zero (l ∷ links) = omega arith
drop_length (suc n) [] = omega arith
drop_length (suc n) (l ∷ links) = let h = drop_length n links in omega (arith, h)

pub split_at : (n : ℕ) (links : List Link) → (front : List Link) × (links ≡ front ++ drop n links)
split_at zero [] = ([], refl)
split_at zero (l ∷ links) = ([], refl)
split_at (suc n) [] = ([], refl)
split_at (suc n) (l ∷ links) = let r = split_at n links in (l ∷ r.0, ap (λ ls. l ∷ ls) r.1)

-- an entry past the first n
pub parts_past : (n : ℕ) (links passed rest : List Link) (link : Link) → drop n links ≡ passed ++ link ∷ rest → (before : List Link) × (links ≡ before ++ link ∷ rest)
parts_past n links passed rest link e =
    let r = split_at n links in
    (r.0 ++ passed, r.1 ∙ ap (λ ls. r.0 ++ ls) e ∙ sym (append_assoc r.0 passed (link ∷ rest)))

-- what is known after a count was raised or none
pub raises_some : (known : KnownObjects) (word : List ℕ) (n : ℕ) (name : Name) (buckets : ℕ → List Link) (said : Bool) (knows : KnownObjects → Type 0) → RaisesPresent known word n name buckets said knows → KnowsSome knows
raises_some known word n name buckets true knows r = (r.0.after, r.0.known_now)
raises_some known word n name buckets false knows r = (known, r)

pub raises_kept : (known : KnownObjects) (word : List ℕ) (n : ℕ) (name : Name) (buckets : ℕ → List Link) (said : Bool) (knows later : KnownObjects → Type 0) → RaisesPresent known word n name buckets said knows → KeepsKnown knows later → RaisesPresent known word n name buckets said later
raises_kept known word n name buckets true knows later r keeps =
    let a = r.0 in (record { after = a.after; heads = a.heads; links = a.links; known_now = keeps a.after a.known_now; is_table = a.is_table; adds = a.adds; others = a.others; fresh = a.fresh }, r.1)
raises_kept known word n name buckets false knows later r keeps = keeps known r

pub found_past : (own : Thread) (word : List ℕ) (n : ℕ) (links : List Link) (said : Bool) (last : Thread) → FoundBeyond own word (drop n links) said last → FoundBeyond own word links said last
found_past own word n links true last f = let r = parts_past n links f.0 f.2 f.1 f.3 in (r.0, f.1, f.2, r.1, f.4, f.5)
found_past own word n links false last f = f

module _ (s : Standing) (known : KnownObjects) (table : ℕ) (word : List ℕ) (n : ℕ) (name : Name) (heads : List Datum) (buckets : ℕ → List Link) (may : MayAdd s known table word n name heads buckets) where
  pub may_chain : IsChain known (get_or heads (bucket_of word) datum.Null) (buckets (bucket_of word))
  may_chain = let t = may.is_table in t.chains (bucket_of word) (bucket_small word)

  pub may_first : IsChain known (first_of (buckets (bucket_of word))) (buckets (bucket_of word))
  may_first = chain_first known (get_or heads (bucket_of word) datum.Null) (buckets (bucket_of word)) may_chain

  -- what follows the entries that are laid out
  pub laid_beyond : (own : Thread) (at laid b : ℕ) → b ≡ bucket_of word → IsLaid own (buckets (bucket_of word)) laid s.own → length own.stack ≡ at → IsBeyond s known table b at (at + laid) name heads (drop laid (buckets (bucket_of word)))
  laid_beyond own at laid b home is size =
      let t = may.is_table in
      let links = buckets (bucket_of word) in
      let whole = t.size in
      let small = bucket_small word in
      let zero_more : at + 0 ≡ at = omega arith in
      let drop_none : drop 0 links ≡ links = none links in
      let long = drop_length laid links in
      let short = may.short in
      record {
        slot = (may.slot, t.object);
        within = omega (arith, home, whole, small);
        front = ap (λ i. get_or s.own.stack i datum.Null) (sym zero_more) ∙ laid_at own links laid at 0 s.own is.1 size (omega arith) ∙ ap first_of drop_none
            ∙ sym (ap (λ i. get_or heads i datum.Null) home ∙ chain_front known (get_or heads (bucket_of word) datum.Null) links may_chain);
        chain = laid_chain known own links may_first laid at s.own is size laid (omega arith);
        apart = apart_drop name laid links (table_apart known name heads buckets t links (get_or heads (bucket_of word) datum.Null) may_chain);
        few = omega (arith, long, short);
      }
    where
      none : (ls : List Link) → drop 0 ls ≡ ls
      none [] = refl
      none (l ∷ ls) = refl

  pub may_now : (now : Standing) → get_or now.own.stack table datum.Null ≡ datum.Object name → MayAdd now known table word n name heads buckets
  may_now now e = record { slot = e; is_table = may.is_table; short = may.short; number = may.number; sum = may.sum }

  -- the front of the chain isn't of a map that lacks the table
  pub lacks_front : (other : KnownObjects) → LacksTable other name buckets → (at start b : ℕ) (links : List Link) → b ≡ bucket_of word → IsBeyond s known table b at start name heads links → LacksValue other (get_or s.own.stack at datum.Null)
  lacks_front other lacks at start b links home y =
      lacks_as other (get_or heads (bucket_of word) datum.Null) _ (ap (λ i. get_or heads i datum.Null) (sym home) ∙ sym y.front)
      (lacks_head other known (get_or heads (bucket_of word) datum.Null) (buckets (bucket_of word)) may_chain (lacks.links (bucket_of word) (bucket_small word)))

  -- the word's entry
  module _ (passed rest : List Link) (link : Link) (parts : buckets (bucket_of word) ≡ passed ++ link ∷ rest) (same : link.word ≡ word) where
    pub sum_fits : link.count + n ≤ MAX_INT
    sum_fits =
        let t = may.is_table in
        let lacks = (distinct_parts passed rest link (subst AreDifferent parts (t.distinct (bucket_of word) (bucket_small word)))).0 in
        may.sum link.count (subst (λ ls. HasCount word ls link.count) (sym parts) (has_count_at word passed rest link (subst (λ w. LacksWord w passed) same lacks) same))

    pub raised_there : (next : Datum) → IsEntry known next link → (knows : KnownObjects → Type 0) → knows (with_count known next link (link.count + n)) → RaisesPresent known word n name buckets true knows
    raised_there next entry knows k =
        (raised_table known name heads buckets may.is_table word n (bucket_small word) passed rest link parts same next entry knows k, λ lacks. lacks_at word passed rest link (subst (LacksWord word) parts lacks) same)

    pub lacks_entry : (other : KnownObjects) → LacksTable other name buckets → LacksValue other (datum.Object link.entry)
    lacks_entry other lacks = (lacks_rest other passed (link ∷ rest) (buckets (bucket_of word)) parts (lacks.links (bucket_of word) (bucket_small word))).0
