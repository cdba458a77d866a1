-- A page that is claimed for a new object.
use Rattle.std.proofs.Common.{◌≡◌, ◌≢◌, ℕ, ◌+◌, ◌≤◌, ◌<◌, true, List, [], ◌∷◌, ◌++◌, length, refl, sym, ap, ◌∙◌, subst, arith, inl, inr}
use Rattle.std.specs.Prelude.{◌⊎◌}
use Rattle.std.specs.List.{Contains}
use Rattle.heap_words.specs.declared.map.Areas.{Areas}
use Rattle.heap_words.specs.Map.{pool_at}
use Rattle.region_pages.specs.declared.TheConstants.{CLAIM_COUNTER, POOL_LENGTH}
use Rattle.calls_in_flight.specs.declared.notes.Flight.{Flight}
use Rattle.calls_in_flight.specs.declared.notes.Known.{Known}
use Rattle.calls_in_flight.specs.Flight.{IsBare, at_rest}
use Rattle.calls_in_flight.specs.Actors.{Actor, HasMet, learn, met}
use Rattle.calls_in_flight.specs.FieldSteps.{MayLoadPool, entry}
use Rattle.safepoint_gate.specs.declared.rule.View.{View}
use Rattle.safepoint_gate.specs.Singles.{Claimed, IsQuiet, LoadedPool, actor, loads_of, put_of}
use Rattle.mutator.specs.Quick.{ShowsNoPage}
use Rattle.mutator.specs.Making.{ClaimsNone, ClaimsRoom, Loads}
use Rattle.mutator.proofs.Answering.{actor_moved, flying, so_again, thread_in}
use Rattle.mutator.proofs.Looking.{bare_met, behind, front, learned, met_again, none_in, quiet_bare, split, still_met}
use Rattle.mutator.proofs.Rooms.{loads_first, loads_more, map_of}

abbrev known : ℕ → ℕ → Known
known place word = record { place = place; word = word }

-- a load of the pool
pool_in : (v u : View) (place word : ℕ) → length v.own ≡ 1 → (h : LoadedPool v place word u) → actor u ≡ flying (actor v) h.flight h.lasting
pool_in v u place word single h = actor_moved v u h.flight h.lasting (loads_of v ++ known place word ∷ []) (put_of v) single h.view

abbrev four_of : Known → Known → Known → Known → Known → Type 0
four_of a b c d x = (a ≡ x) ⊎ ((b ≡ x) ⊎ ((c ≡ x) ⊎ (d ≡ x)))

four : (a b c d x : Known) → Contains (a ∷ b ∷ c ∷ d ∷ []) x → four_of a b c d x
four a b c d x h = elim (split (b ∷ c ∷ d ∷ []) a x h) [
  | inl e ↦ inl e
  | inr h1 ↦ elim (split (c ∷ d ∷ []) b x h1) [
    | inl e ↦ inr (inl e)
    | inr h2 ↦ elim (split (d ∷ []) c x h2) [
      | inl e ↦ inr (inr (inl e))
      | inr h3 ↦ elim (split [] d x h3) [
        | inl e ↦ inr (inr (inr e))
        | inr h4 ↦ absurd (none_in x h4)
      ]
    ]
  ]
]

counted_below : (size n k at page x : ℕ) → at ≢ CLAIM_COUNTER → n < size → k < size → four_of (known POOL_LENGTH size) (known CLAIM_COUNTER n) (known CLAIM_COUNTER k) (known at page) (known CLAIM_COUNTER x) → x < size
counted_below size n k at page x far some lt (inl e) = absurd (let z : POOL_LENGTH ≡ CLAIM_COUNTER = ap (λ (y : Known). y.place) e in omega (arith, z))
counted_below size n k at page x far some lt (inr (inl e)) = let z : n ≡ x = ap (λ (y : Known). y.word) e in omega (arith, z, some)
counted_below size n k at page x far some lt (inr (inr (inl e))) = let z : k ≡ x = ap (λ (y : Known). y.word) e in omega (arith, z, lt)
counted_below size n k at page x far some lt (inr (inr (inr e))) = absurd (far (ap (λ (y : Known). y.place) e))

length_there : (size n k at page x : ℕ) → at ≢ POOL_LENGTH → four_of (known POOL_LENGTH size) (known CLAIM_COUNTER n) (known CLAIM_COUNTER k) (known at page) (known POOL_LENGTH x) → x ≡ size
length_there size n k at page x far (inl e) = sym (ap (λ (y : Known). y.word) e)
length_there size n k at page x far (inr (inl e)) = absurd (let z : CLAIM_COUNTER ≡ POOL_LENGTH = ap (λ (y : Known). y.place) e in omega (arith, z))
length_there size n k at page x far (inr (inr (inl e))) = absurd (let z : CLAIM_COUNTER ≡ POOL_LENGTH = ap (λ (y : Known). y.place) e in omega (arith, z))
length_there size n k at page x far (inr (inr (inr e))) = absurd (far (ap (λ (y : Known). y.place) e))

-- the loads of a claim that found a page show one
found_page : (size n k at page : ℕ) → at ≢ CLAIM_COUNTER → at ≢ POOL_LENGTH → n < size → k < size → ShowsNoPage (known POOL_LENGTH size ∷ known CLAIM_COUNTER n ∷ known CLAIM_COUNTER k ∷ known at page ∷ []) → ⊥
found_page size n k at page far beside some lt none =
    let is_size = length_there size n k at page none.0 beside (four (known POOL_LENGTH size) (known CLAIM_COUNTER n) (known CLAIM_COUNTER k) (known at page) (known POOL_LENGTH none.0) none.2) in
    let few = counted_below size n k at page none.1 far some lt (four (known POOL_LENGTH size) (known CLAIM_COUNTER n) (known CLAIM_COUNTER k) (known at page) (known CLAIM_COUNTER none.1) none.3) in
    let le = none.4 in
    absurd (omega (arith, is_size, few, le))

module _ (v u1 u2 : View) (size n : ℕ) (single : length v.own ≡ 1) (one : length u1.own ≡ 1) (quiet : IsQuiet v) (first : LoadedPool v POOL_LENGTH size u1) (second : LoadedPool u1 CLAIM_COUNTER n u2) where
  t : ℕ
  t = (actor v).thread

  rest : (actor v).flight ≡ at_rest (actor v).thread
  rest = quiet ∙ ap at_rest (thread_in v)

  apart : POOL_LENGTH ≢ CLAIM_COUNTER
  apart e = absurd (omega (arith, e))

  learns : (first.lasting ≡ learn POOL_LENGTH size (actor v).lasting) × (first.flight ≡ (actor v).flight)
  learns = first.pool.other apart

  is1 : actor u1 ≡ flying (actor v) (at_rest (actor v).thread) (learn POOL_LENGTH size (actor v).lasting)
  is1 = pool_in v u1 POOL_LENGTH size single first ∙ (λ i. flying (actor v) ((learns.1 ∙ rest) i) (learns.0 i))

  met1 : HasMet (actor u1) POOL_LENGTH size
  met1 = subst (λ (a : Actor). HasMet a POOL_LENGTH size) (sym is1) (learned POOL_LENGTH size (actor v).lasting)

  found : (second.lasting ≡ (actor u1).lasting) × ((most : ℕ) × ((k : ℕ) → HasMet (actor u1) POOL_LENGTH k → k ≡ most) × (n < most → second.flight ≡ record (actor u1).flight { claims = 1 }) × (most ≤ n → second.flight ≡ (actor u1).flight))
  found = second.pool.counter refl

  size_is : size ≡ found.1.0
  size_is = found.1.1 size met1

  is2 : actor u2 ≡ flying (actor u1) second.flight (actor u1).lasting
  is2 = pool_in u1 u2 CLAIM_COUNTER n one second ∙ ap (flying (actor u1) second.flight) found.0

  loads1 : Loads v (known POOL_LENGTH size ∷ []) u1
  loads1 = loads_first v u1 first.flight first.lasting (known POOL_LENGTH size ∷ []) single first.view

  loads2 : Loads v (known POOL_LENGTH size ∷ known CLAIM_COUNTER n ∷ []) u2
  loads2 = loads_more v u1 u2 second.flight second.lasting (known POOL_LENGTH size ∷ []) (known CLAIM_COUNTER n ∷ []) single loads1 second.view

  flight1 : (actor u1).flight ≡ at_rest (actor v).thread
  flight1 = ap (λ (a : Actor). a.flight) is1

  pub none_found : size ≤ n → ClaimsNone v u2
  none_found few = record {
    more = known POOL_LENGTH size ∷ known CLAIM_COUNTER n ∷ [];
    view = loads2;
    flight = ap (λ (a : Actor). a.flight) is2 ∙ found.1.3 (omega (arith, size_is, few)) ∙ flight1 ∙ sym rest;
    so = second.meets.so;
    none = (size, n, front (known CLAIM_COUNTER n ∷ []) (known POOL_LENGTH size), behind (known CLAIM_COUNTER n ∷ []) (known POOL_LENGTH size) (known CLAIM_COUNTER n) (front [] (known CLAIM_COUNTER n)), few);
  }

  pub may_claim : n < size → (actor u2).flight.claims ≡ 1
  may_claim some = ap (λ (a : Actor). a.flight.claims) is2 ∙ ap (λ (f : Flight). f.claims) (found.1.2 (omega (arith, size_is, some)))

  flight2 : n < size → (actor u2).flight ≡ record (at_rest (actor v).thread) { claims = 1 }
  flight2 some = ap (λ (a : Actor). a.flight) is2 ∙ found.1.2 (omega (arith, size_is, some)) ∙ ap (λ (f : Flight). record f { claims = 1 }) flight1

  met2 : HasMet (actor u2) POOL_LENGTH size
  met2 = subst (λ (a : Actor). HasMet a POOL_LENGTH size) (sym is2) met1

  few_pages : size ≤ u1.map.pages
  few_pages = first.meets.so.sees.pool size met1

  module _ (u3 : View) (k : ℕ) (two : length u2.own ≡ 1) (some : n < size) (claim : Claimed u2 k u3) where
    most_is : size ≡ claim.claims.size
    most_is = claim.claims.met size met2

    is3 : actor u3 ≡ flying (actor u2) claim.flight claim.lasting
    is3 = actor_moved u2 u3 claim.flight claim.lasting (loads_of u2 ++ known CLAIM_COUNTER k ∷ []) (put_of u2) two claim.view

    more3 : List Known
    more3 = known POOL_LENGTH size ∷ known CLAIM_COUNTER n ∷ known CLAIM_COUNTER k ∷ []

    loads3 : Loads v (known POOL_LENGTH size ∷ known CLAIM_COUNTER n ∷ known CLAIM_COUNTER k ∷ []) u3
    loads3 = loads_more v u2 u3 claim.flight claim.lasting (known POOL_LENGTH size ∷ known CLAIM_COUNTER n ∷ []) (known CLAIM_COUNTER k ∷ []) single loads2 claim.view

    same3 : size ≤ k → actor u3 ≡ actor u1
    same3 few =
        let missed = claim.claims.misses (omega (arith, most_is, few)) in
        let flight : claim.flight ≡ at_rest (actor v).thread = missed.0 ∙ ap (λ (f : Flight). record f { claims = 0 }) (flight2 some) in
        let words : claim.lasting ≡ (actor u1).lasting = missed.1 ∙ ap (λ (a : Actor). a.lasting) is2 in
        is3 ∙ (λ i. flying (is2 i) (flight i) (words i)) ∙ ap (λ (f : Flight). flying (actor u1) f (actor u1).lasting) (sym flight1)

    pub none_claimed : size ≤ k → ClaimsNone v u3
    none_claimed few = record {
      more = known POOL_LENGTH size ∷ known CLAIM_COUNTER n ∷ known CLAIM_COUNTER k ∷ [];
      view = loads3;
      flight = ap (λ (a : Actor). a.flight) (same3 few) ∙ flight1 ∙ sym rest;
      so = so_again v u1 u3 first.flight (actor u3).flight (loads_of v ++ known POOL_LENGTH size ∷ []) (loads_of v ++ (known POOL_LENGTH size ∷ known CLAIM_COUNTER n ∷ known CLAIM_COUNTER k ∷ [])) first.lasting u3.lasting (put_of v) (put_of v) single first.view loads3 (same3 few) first.meets.so;
      none = (
        size,
        k,
        front (known CLAIM_COUNTER n ∷ known CLAIM_COUNTER k ∷ []) (known POOL_LENGTH size),
        behind (known CLAIM_COUNTER n ∷ known CLAIM_COUNTER k ∷ []) (known POOL_LENGTH size) (known CLAIM_COUNTER k) (behind (known CLAIM_COUNTER k ∷ []) (known CLAIM_COUNTER n) (known CLAIM_COUNTER k) (front [] (known CLAIM_COUNTER k))),
        few,
      );
    }

    map3 : u3.map ≡ u1.map
    map3 = map_of v u3 _ loads3 ∙ sym (map_of v u1 _ loads1)

    pub below : k < size → k < u3.map.pages
    below lt = let e : u3.map.pages ≡ u1.map.pages = ap (λ (m : Areas). m.pages) map3 in let few = few_pages in omega (arith, lt, e, few)

    pub may_look : k < size → MayLoadPool u3.map (pool_at u3.map + k)
    may_look lt = entry k (below lt) refl

    module _ (w : View) (page : ℕ) (three : length u3.own ≡ 1) (lt : k < size) (look : LoadedPool u3 (pool_at u3.map + k) page w) where
      took : (p : ℕ) × (p < u2.map.pages) × (claim.flight ≡ record (actor u2).flight { claimed = p ∷ (actor u2).flight.claimed; claims = 0 }) × (claim.lasting ≡ learn (pool_at u2.map + k) p (actor u2).lasting)
      took = claim.claims.takes (omega (arith, most_is, lt))

      map2 : u2.map ≡ u3.map
      map2 = map_of v u2 _ loads2 ∙ sym (map_of v u3 _ loads3)

      lasting3 : (actor u3).lasting ≡ learn (pool_at u3.map + k) took.0 (actor u2).lasting
      lasting3 = ap (λ (a : Actor). a.lasting) is3 ∙ took.3 ∙ ap (λ (m : Areas). learn (pool_at m + k) took.0 (actor u2).lasting) map2

      page_is : page ≡ took.0
      page_is = look.meets.again took.0 (subst (λ (l : List Known). Contains l (known (pool_at u3.map + k) took.0)) (sym lasting3) (learned (pool_at u3.map + k) took.0 (actor u2).lasting))

      far : pool_at u3.map + k ≢ CLAIM_COUNTER
      far e = absurd (omega (arith, e))

      looks : (look.lasting ≡ learn (pool_at u3.map + k) page (actor u3).lasting) × (look.flight ≡ (actor u3).flight)
      looks = look.pool.other far

      is4 : actor w ≡ flying (actor u3) look.flight look.lasting
      is4 = pool_in u3 w (pool_at u3.map + k) page three look

      flight4 : (actor w).flight ≡ record (at_rest (actor v).thread) { claimed = page ∷ [] }
      flight4 = ap (λ (a : Actor). a.flight) is4 ∙ looks.1 ∙ ap (λ (a : Actor). a.flight) is3 ∙ took.2 ∙ ap (λ (f : Flight). record f { claimed = took.0 ∷ f.claimed; claims = 0 }) (flight2 some) ∙ ap (λ (p : ℕ). record (at_rest (actor v).thread) { claimed = p ∷ [] }) (sym page_is)

      loads4 : Loads v (known POOL_LENGTH size ∷ known CLAIM_COUNTER n ∷ known CLAIM_COUNTER k ∷ known (pool_at u3.map + k) page ∷ []) w
      loads4 = loads_more v u3 w look.flight look.lasting (known POOL_LENGTH size ∷ known CLAIM_COUNTER n ∷ known CLAIM_COUNTER k ∷ []) (known (pool_at u3.map + k) page ∷ []) single loads3 look.view

      map4 : pool_at v.map ≡ pool_at u3.map
      map4 = ap pool_at (sym (map_of v u3 _ loads3))

      met4 : (q x : ℕ) → q < pool_at v.map → HasMet (actor v) q x → HasMet (actor w) q x
      met4 q x low had =
          let h1 : HasMet (actor u1) q x = subst (λ (a : Actor). HasMet a q x) (sym is1) (met_again POOL_LENGTH size (actor v).lasting first.meets.again q x had) in
          let h2 : HasMet (actor u2) q x = subst (λ (a : Actor). HasMet a q x) (sym is2) h1 in
          let ne : q ≢ pool_at u3.map + k = let e = map4 in omega (arith, e, low) in
          let h3 : HasMet (actor u3) q x = subst (λ (l : List Known). Contains l (known q x)) (sym lasting3) (still_met (pool_at u3.map + k) took.0 (actor u2).lasting q x ne h2) in
          subst (λ (l : List Known). Contains l (known q x)) (sym (ap (λ (a : Actor). a.lasting) is4 ∙ looks.0)) (still_met (pool_at u3.map + k) page (actor u3).lasting q x ne h3)

      none4 : (place : ℕ) → IsBare (actor w).flight.covers place
      none4 place = subst (λ (f : Flight). IsBare f.covers place) (sym flight4) (λ j d h. absurd (omega (arith, h)))

      found4 : ShowsNoPage (known POOL_LENGTH size ∷ known CLAIM_COUNTER n ∷ known CLAIM_COUNTER k ∷ known (pool_at u3.map + k) page ∷ []) → ⊥
      found4 none = found_page size n k (pool_at u3.map + k) page far (λ e. absurd (omega (arith, e))) some lt none

      pub few_page : page < w.map.pages
      few_page = subst (λ (m : Areas). page < m.pages) (map_of v u2 _ loads2 ∙ sym (map_of v w _ loads4)) (let e = page_is in let h = took.1 in omega (arith, e, h))

      pub claims_room : ClaimsRoom v (record { page = page; used = 0; claimed = true }) w
      claims_room = record {
        more = known POOL_LENGTH size ∷ known CLAIM_COUNTER n ∷ known CLAIM_COUNTER k ∷ known (pool_at u3.map + k) page ∷ [];
        view = loads4;
        flight = flight4;
        shows = λ q x low h. met (none4 q) (met4 q x low (bare_met (actor v) q x (quiet_bare v q quiet) h));
        there = few_page;
        front = refl;
        claimed = refl;
        found = found4;
      }
