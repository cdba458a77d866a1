-- The entries of a table, in the order of the walk.
use Rattle.std.proofs.Common.{zero, suc, ◌≡◌, inl, inr, ℕ, ◌+◌, ◌-◌, ◌*◌, ◌<◌, ◌≤◌, ◌^◌, List, [], ◌∷◌, ◌++◌, map, length, take, drop, refl, ◌∙◌, ap, sym, subst, arith}
use Rattle.std.proofs.lemmas.Bool.{cases_lt}
use Rattle.std.proofs.lemmas.List.{append_assoc, append-nil}
use Rattle.yak_model.specs.declared.TheConstants.{BUCKETS}
use Rattle.yak_model.specs.Private.{KnownObjects}
use Rattle.yak_model.specs.Tables.{IsCountTable, Link}
use Rattle.yak_model.specs.Texts.{WordCounts}
use Rattle.object_layout.specs.declared.names.Name.{Name}
use Rattle.heap_tables.specs.Cursors.{IsEnd, IsNext}
use Rattle.heap_tables.specs.declared.cursors.Cursor.{Cursor}
use Rattle.heap_tables.specs.Merges.{done_at, walk}
use Rattle.heap_tables.specs.Entries.{AreEntries, entries_of, entry_of}
use Rattle.heap_tables.proofs.Walked.{table_entries, walk_from}

-- ---- parts of lists

drop_all : {A : Type 0} (n : ℕ) (xs : List A) → length xs ≤ n → drop n xs ≡ []
drop_all zero [] h = refl
drop_all zero (x ∷ xs) h = absurd (omega (arith, h))
drop_all (suc n) [] h = refl
drop_all (suc n) (x ∷ xs) h = drop_all n xs (omega (arith, h))

take_all : {A : Type 0} (n : ℕ) (xs : List A) → length xs ≤ n → take n xs ≡ xs
take_all zero [] h = refl
take_all zero (x ∷ xs) h = absurd (omega (arith, h))
take_all (suc n) [] h = refl
take_all (suc n) (x ∷ xs) h = ap (λ ys. x ∷ ys) (take_all n xs (omega (arith, h)))

take_one : {A : Type 0} (n : ℕ) (xs rest : List A) (x : A) → drop n xs ≡ x ∷ rest → take (suc n) xs ≡ take n xs ++ x ∷ []
take_one zero [] rest x e = cc
take_one zero (y ∷ xs) rest x e = let q : y ≡ x = cc in ap (λ z. z ∷ []) q
take_one (suc n) [] rest x e = cc
take_one (suc n) (y ∷ xs) rest x e = ap (λ zs. y ∷ zs) (take_one n xs rest x e)

none_of : {A : Type 0} (xs : List A) → (0 < length xs → ⊥) → xs ≡ []
none_of [] h = refl
none_of (x ∷ xs) h = absurd (h (omega arith))

map_cat : {A B : Type 0} (f : A → B) (xs ys : List A) → map f (xs ++ ys) ≡ map f xs ++ map f ys
map_cat f [] ys = refl
map_cat f (x ∷ xs) ys = ap (λ zs. f x ∷ zs) (map_cat f xs ys)

-- ---- one step of the walk

-- the buckets between two have no entries
walk_over : (buckets : ℕ → List Link) (b n : ℕ) → ((c : ℕ) → b ≤ c → c < b + n → buckets c ≡ []) → walk buckets (b + n) ≡ walk buckets b
walk_over buckets b zero empty = ap (walk buckets) (let e : b + 0 ≡ b = omega arith in e)
walk_over buckets b (suc n) empty =
    let e : b + suc n ≡ suc (b + n) = omega arith in
    ap (walk buckets) e ∙ ap (λ ls. walk buckets (b + n) ++ ls) (empty (b + n) (omega arith) (omega arith)) ∙ append-nil (walk buckets (b + n))
    ∙ walk_over buckets b n (λ c low high. empty c low (omega (arith, high)))

done_past : (buckets : ℕ → List Link) (b p : ℕ) → length (buckets b) ≤ p → done_at buckets b p ≡ walk buckets (suc b)
done_past buckets b p h = ap (λ ls. walk buckets b ++ ls) (take_all p (buckets b) h)

done_one : (buckets : ℕ → List Link) (b p : ℕ) (link : Link) (rest : List Link) → drop p (buckets b) ≡ link ∷ rest → done_at buckets b (p + 1) ≡ done_at buckets b p ++ link ∷ []
done_one buckets b p link rest e =
    let q : p + 1 ≡ suc p = omega arith in
    ap (λ n. walk buckets b ++ take n (buckets b)) q ∙ ap (λ ls. walk buckets b ++ ls) (take_one p (buckets b) rest link e) ∙ sym (append_assoc (walk buckets b) (take p (buckets b)) (link ∷ []))

module _ (buckets : ℕ → List Link) (at : Cursor) (low : at.bucket < BUCKETS) where
  -- the entry that comes next is at the cursor, or the first of a later bucket
  done_next : (word : List ℕ) (count : ℕ) (next : Cursor) (n : IsNext buckets at word count next) → done_at buckets next.bucket n.place ≡ done_at buckets at.bucket at.place
  done_next word count next n = elim (n.past).2 [ inl later ↦ over later | inr here ↦ same here.0 here.1 ]
    where
      same : at.bucket ≡ next.bucket → at.place ≤ n.place → done_at buckets next.bucket n.place ≡ done_at buckets at.bucket at.place
      same e h =
          let within : at.place < length (buckets at.bucket) = subst (λ b. at.place < length (buckets b)) (sym e) (let g = (n.past).1 in omega (arith, g, h)) in
          let first : n.place ≤ at.place = elim (n.first at.bucket at.place (low, within, inr (refl, omega arith))) [ inl less ↦ absurd (omega (arith, less, e)) | inr is ↦ is.1 ] in
          let place : n.place ≡ at.place = omega (arith, h, first) in
          ap (λ b. done_at buckets b n.place) (sym e) ∙ ap (done_at buckets at.bucket) place

      over : at.bucket < next.bucket → done_at buckets next.bucket n.place ≡ done_at buckets at.bucket at.place
      over later =
          let top : next.bucket < BUCKETS = (n.past).0 in
          let ended : length (buckets at.bucket) ≤ at.place = elim (cases_lt at.place (length (buckets at.bucket))) [
            | inl there ↦ elim (n.first at.bucket at.place (low, there, inr (refl, omega arith))) [ inl less ↦ absurd (omega (arith, less, later)) | inr is ↦ absurd (let q = is.0 in omega (arith, q, later)) ]
            | inr past ↦ past
          ] in
          let zero_place : n.place ≡ 0 = elim (n.first next.bucket 0 (top, (let g = (n.past).1 in omega (arith, g)), inl later)) [ inl less ↦ absurd (omega (arith, less)) | inr is ↦ (let q = is.1 in omega (arith, q)) ] in
          let gap : ℕ = next.bucket - suc at.bucket in
          let sum : suc at.bucket + gap ≡ next.bucket = omega (arith, later) in
          let between = λ (c : ℕ) (lo : suc at.bucket ≤ c) (hi : c < suc at.bucket + gap).
          none_of (buckets c) (λ some. elim (n.first c 0 (omega (arith, hi, sum, top), some, inl (omega (arith, lo)))) [ inl less ↦ absurd (omega (arith, less, hi, sum)) | inr is ↦ absurd (let q = is.0 in omega (arith, q, hi, sum)) ]) in
          ap (done_at buckets next.bucket) zero_place ∙ append-nil (walk buckets next.bucket) ∙ ap (walk buckets) (sym sum) ∙ walk_over buckets (suc at.bucket) gap between ∙ sym (done_past buckets at.bucket at.place ended)

  -- the list grows by the entry
  pub listed_next : (word : List ℕ) (count : ℕ) (next : Cursor) → IsNext buckets at word count next → map entry_of (done_at buckets at.bucket at.place) ++ (word, count) ∷ [] ≡ map entry_of (done_at buckets next.bucket next.place)
  listed_next word count next n =
      let one = done_one buckets next.bucket n.place n.link n.rest n.there in
      let all : done_at buckets next.bucket next.place ≡ done_at buckets at.bucket at.place ++ n.link ∷ [] =
      ap (done_at buckets next.bucket) n.after ∙ one ∙ ap (λ ls. ls ++ n.link ∷ []) (done_next word count next n) in
      ap (λ w. map entry_of (done_at buckets at.bucket at.place) ++ (w, count) ∷ []) n.words ∙ ap (λ m. map entry_of (done_at buckets at.bucket at.place) ++ (n.link.word, m) ∷ []) n.counts
      ∙ sym (ap (map entry_of) all ∙ map_cat entry_of (done_at buckets at.bucket at.place) (n.link ∷ []))

  -- at the end all entries are done
  pub done_end : (b : ℕ) → b ≡ BUCKETS → IsEnd buckets at → done_at buckets at.bucket at.place ≡ walk buckets b
  done_end b whole end =
      let ended : length (buckets at.bucket) ≤ at.place = elim (cases_lt at.place (length (buckets at.bucket))) [
        | inl there ↦ absurd (end at.bucket at.place (low, there, inr (refl, omega arith)))
        | inr past ↦ past
      ] in
      let gap : ℕ = b - suc at.bucket in
      let sum : suc at.bucket + gap ≡ b = omega (arith, low, whole) in
      let between = λ (c : ℕ) (lo : suc at.bucket ≤ c) (hi : c < suc at.bucket + gap). none_of (buckets c) (λ some. end c 0 (omega (arith, hi, sum, whole), some, inl (omega (arith, lo)))) in
      done_past buckets at.bucket at.place ended ∙ sym (walk_over buckets (suc at.bucket) gap between) ∙ ap (walk buckets) sum

-- ---- the walk gets on

pub gets_on : (buckets : ℕ → List Link) (at next : Cursor) (word : List ℕ) (count : ℕ) → IsNext buckets at word count next → ((b : ℕ) → b < BUCKETS → length (buckets b) < 2 ^ 32)
    → (BUCKETS - next.bucket) * 2 ^ 32 + (2 ^ 32 - next.place) < (BUCKETS - at.bucket) * 2 ^ 32 + (2 ^ 32 - at.place)
gets_on buckets at next word count n few =
    let small = few next.bucket (n.past).0 in
    let within = (n.past).1 in
    let top = (n.past).0 in
    elim (n.past).2 [
      | inl later ↦ omega (arith, small, within, top, later, n.after)
      | inr here ↦ let e = here.0 in let h = here.1 in omega (arith, small, within, top, e, h, n.after)
    ]

pub next_place : (buckets : ℕ → List Link) (at next : Cursor) (word : List ℕ) (count : ℕ) → IsNext buckets at word count next → ((b : ℕ) → b < BUCKETS → length (buckets b) < 2 ^ 32) → (next.bucket < BUCKETS) × (next.place < 2 ^ 32)
next_place buckets at next word count n few =
    let small = few next.bucket (n.past).0 in
    let within = (n.past).1 in
    ((n.past).0, omega (arith, small, within, n.after))

-- ---- the list tells the counts

plus_suc : (buckets : ℕ → List Link) (b n : ℕ) → walk buckets (b + suc n) ≡ walk buckets ((b + 1) + n)
plus_suc buckets b n = ap (walk buckets) (let e : b + suc n ≡ (b + 1) + n = omega arith in e)

walk_one : (buckets : ℕ → List Link) (b : ℕ) → walk buckets (b + 1) ≡ walk buckets b ++ buckets b
walk_one buckets b = ap (walk buckets) (let e : b + 1 ≡ suc b = omega arith in e)

walk_from_is : (buckets : ℕ → List Link) (b n : ℕ) → walk buckets (b + n) ≡ walk buckets b ++ walk_from buckets b n
walk_from_is buckets b zero = ap (walk buckets) (let e : b + 0 ≡ b = omega arith in e) ∙ sym (append-nil (walk buckets b))
walk_from_is buckets b (suc n) =
    plus_suc buckets b n ∙ walk_from_is buckets (b + 1) n ∙ ap (λ ls. ls ++ walk_from buckets (b + 1) n) (walk_one buckets b) ∙ append_assoc (walk buckets b) (buckets b) (walk_from buckets (b + 1) n)

walk_all : (buckets : ℕ → List Link) (n : ℕ) → walk buckets (0 + n) ≡ walk_from buckets 0 n
walk_all buckets n = walk_from_is buckets 0 n

-- The entries of a table are those of its counts.
pub are_entries : (known : KnownObjects) (name : Name) (counts : WordCounts) (table : IsCountTable known name counts) → AreEntries counts (entries_of table.buckets)
are_entries known name counts table =
    subst (AreEntries counts) (sym (ap (map entry_of) (walk_all table.buckets BUCKETS))) (table_entries known name counts table)

-- What was read to the end of a table are its entries.
pub read_to_end : (buckets : ℕ → List Link) (at : Cursor) (items : List (List ℕ × ℕ)) → at.bucket < BUCKETS → IsEnd buckets at → items ≡ map entry_of (done_at buckets at.bucket at.place) → items ≡ entries_of buckets
read_to_end buckets at items low end are = are ∙ ap (map entry_of) (done_end buckets at low BUCKETS refl end)
