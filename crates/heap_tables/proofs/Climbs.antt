-- Looks at the entries of a chain, each on top of the one before.
use Rattle.std.proofs.Common.{◌≡◌, ◌≢◌, ℕ, ◌+◌, ◌<◌, inl, inr, List, [], ◌∷◌, ◌++◌, get_or, refl, ◌∙◌, ap, sym, subst, length, arith, append_assoc, length-append}
use Rattle.std.proofs.lemmas.List.{append-nil, get_or_append_left}
use Rattle.object_layout.specs.declared.names.Name.{Name}
use Rattle.yak_model.specs.declared.datum.Datum.{Datum}
use Rattle.yak_model.specs.declared.datum.Datum.TheVariants as datum
use Rattle.yak_model.specs.Graph.{Thread}
use Rattle.yak_model.specs.Private.{KnownObjects}
use Rattle.heap_tables.specs.Runs.{pushed}
use Rattle.yak_model.specs.Tables.{Link, IsChain}
use Rattle.heap_tables.specs.Walks.{IsApart, IsClimbed, IsPassed, Looked, with_place}
use Rattle.heap_tables.specs.declared.chains.Look.{Look}
use Rattle.heap_tables.specs.declared.chains.Look.TheVariants as look
use Rattle.heap_tables.proofs.Effects.{IsAt, in_bounds, top_after}
use Rattle.heap_tables.proofs.Places.{apart_rest, chain_agrees, insert_agrees, lacks_more, word_cases}

module _ (mid after : Thread) (known : KnownObjects) (word : List ℕ) where
  at_end : (rest : List Link) → Looked mid known word rest look.End after → (rest ≡ []) × (after ≡ mid)
  at_end [] r = (refl, r.1)
  at_end (link ∷ rest) r = elim (word_cases link.word word) [ inl same ↦ let e = (r.0 same).0 in cc | inr other ↦ let e = (r.1 other).0 in cc ]

  at_found : (rest : List Link) → Looked mid known word rest look.Found after → ((link : Link) × (more : List Link) × (rest ≡ link ∷ more) × (link.word ≡ word)) × (after ≡ mid)
  at_found [] r = let e = r.0 in cc
  at_found (link ∷ rest) r = elim (word_cases link.word word) [ inl same ↦ ((link, rest, refl, same), (r.0 same).1) | inr other ↦ let e = (r.1 other).0 in cc ]

  at_further : (rest : List Link) → Looked mid known word rest look.Further after
      → (link : Link) × (more : List Link) × (next : Datum) × (rest ≡ link ∷ more) × (link.word ≢ word) × IsChain known next more × (after ≡ pushed mid next)
  at_further [] r = let e = r.0 in cc
  at_further (link ∷ rest) r = elim (word_cases link.word word) [
    | inl same ↦ let e = (r.0 same).0 in cc
    | inr other ↦ let n = (r.1 other).1 in (link, rest, n.0, refl, other, n.2, n.3)
  ]

module _ (own : Thread) (known : KnownObjects) (word : List ℕ) (links : List Link) (at : ℕ) where
  pub climb_start : IsChain known (get_or own.stack at datum.Null) links → IsClimbed own known word links at look.Further 0 own
  climb_start chain = record {
    passed = [];
    rest = links;
    pushes = [];
    parts = refl;
    count = refl;
    lacks = tt;
    size = refl;
    stack = ap (λ (st : List Datum). record own { stack = st }) (sym (append-nil own.stack));
    chain = let e : at ≡ at + 0 = omega arith in subst (λ i. IsChain known (get_or own.stack i datum.Null) links) e chain;
    stops = tt;
  }

  pub climbed_size : (said : Look) (n : ℕ) (after : Thread) → IsClimbed own known word links at said n after → length after.stack ≡ length own.stack + n
  climbed_size said n after c = ap (λ (o : Thread). length o.stack) c.stack ∙ length-append own.stack c.pushes ∙ ap (λ k. length own.stack + k) c.size

  pub climbed_slot : (said : Look) (n : ℕ) (after : Thread) → IsClimbed own known word links at said n after → (i : ℕ) (name : Name) (values : List Datum) → IsAt own known i name values → IsAt after known i name values
  climbed_slot said n after c i name values h =
      (ap (λ (o : Thread). get_or o.stack i datum.Null) c.stack ∙ get_or_append_left own.stack c.pushes datum.Null i (in_bounds own.stack i name h.0) ∙ h.0, h.1)

  pub climb_end : (n : ℕ) (mid after : Thread) (c : IsClimbed own known word links at look.Further n mid) → Looked mid known word c.rest look.End after → IsClimbed own known word links at look.End n after
  climb_end n mid after c looked =
      let r = at_end mid after known word c.rest looked in record {
        passed = c.passed;
        rest = c.rest;
        pushes = c.pushes;
        parts = c.parts;
        count = c.count;
        lacks = c.lacks;
        size = c.size;
        stack = r.1 ∙ c.stack;
        chain = subst (λ (o : Thread). IsChain known (get_or o.stack (at + n) datum.Null) c.rest) (sym r.1) c.chain;
        stops = r.0;
      }

  pub climb_found : (n : ℕ) (mid after : Thread) (c : IsClimbed own known word links at look.Further n mid) → Looked mid known word c.rest look.Found after → IsClimbed own known word links at look.Found n after
  climb_found n mid after c looked =
      let r = at_found mid after known word c.rest looked in record {
        passed = c.passed;
        rest = c.rest;
        pushes = c.pushes;
        parts = c.parts;
        count = c.count;
        lacks = c.lacks;
        size = c.size;
        stack = r.1 ∙ c.stack;
        chain = subst (λ (o : Thread). IsChain known (get_or o.stack (at + n) datum.Null) c.rest) (sym r.1) c.chain;
        stops = r.0;
      }

  pub climb_more : (n : ℕ) (mid after : Thread) (c : IsClimbed own known word links at look.Further n mid) → length own.stack ≡ at + 1 → Looked mid known word c.rest look.Further after → IsClimbed own known word links at look.Further (n + 1) after
  climb_more n mid after c top looked =
      let r = at_further mid after known word c.rest looked in
      let size = climbed_size look.Further n mid c in
      let here : length mid.stack ≡ at + (n + 1) = omega (arith, size, top) in record {
        passed = c.passed ++ r.0 ∷ [];
        rest = r.1;
        pushes = c.pushes ++ r.2 ∷ [];
        parts = c.parts ∙ ap (λ ls. c.passed ++ ls) r.3 ∙ sym (append_assoc c.passed (r.0 ∷ []) r.1);
        count = length-append c.passed (r.0 ∷ []) ∙ ap (λ k. k + 1) c.count;
        lacks = lacks_more word c.passed r.0 c.lacks r.4;
        size = length-append c.pushes (r.2 ∷ []) ∙ ap (λ k. k + 1) c.size;
        stack = r.6 ∙ ap (λ o. pushed o r.2) c.stack ∙ ap (λ (st : List Datum). record own { stack = st }) (append_assoc own.stack c.pushes (r.2 ∷ []));
        chain = subst (λ v. IsChain known v r.1) (sym (top_after mid after r.2 (at + (n + 1)) r.6 here)) r.5;
        stops = tt;
      }

  -- the place that was come to is put into a field of the table
  pub climbed_place : (said : Look) (n : ℕ) (after : Thread) → IsClimbed own known word links at said n after
      → (name : Name) (values : List Datum) (b : ℕ) → IsApart name links → (said ≡ look.Further → 0 < n)
      → (knows : KnownObjects → Type 0) → knows (with_place known name values b (get_or after.stack (at + n) datum.Null))
      → IsPassed known name values b word links said knows
  climbed_place said n after c name values b apart few knows k = record {
    passed = c.passed;
    rest = c.rest;
    place = record {
      place = get_or after.stack (at + n) datum.Null;
      parts = c.parts;
      lacks = c.lacks;
      chain = chain_agrees known (with_place known name values b (get_or after.stack (at + n) datum.Null)) name (insert_agrees known name _) c.rest _ (apart_rest name c.passed c.rest (subst (IsApart name) c.parts apart)) c.chain;
      known_now = k;
    };
    stops = c.stops;
    some = λ further. omega (arith, few further, c.count);
  }
