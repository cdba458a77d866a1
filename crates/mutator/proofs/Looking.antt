-- What a thread knows of the words that it has met, as it meets and stores more of them.
use Rattle.std.proofs.Common.{◌≡◌, ◌≢◌, ℕ, zero, suc, Bool, List, [], ◌∷◌, ◌++◌, length, cond, refl, sym, ap, ◌∙◌, subst, arith, inl, inr}
use Rattle.std.specs.Prelude.{◌⊎◌, None}
use Rattle.std.specs.List.{Contains}
use Rattle.std.proofs.lemmas.Bool.{cases_eq, eq-eqb, ne_eqb}
use Rattle.std.proofs.lemmas.List.Elements.{All-contains}
use Rattle.calls_in_flight.specs.declared.notes.Cover.{Cover}
use Rattle.calls_in_flight.specs.declared.notes.Flight.{Flight}
use Rattle.calls_in_flight.specs.declared.notes.Known.{Known}
use Rattle.calls_in_flight.specs.Flight.{IsBare}
use Rattle.calls_in_flight.specs.Actors.{Actor, HasMet, Shows, forget, learn, met, under}
use Rattle.calls_in_flight.specs.Steps.{length_at, logged_at, with_covers}
use Rattle.safepoint_gate.specs.declared.rule.View.{View}
use Rattle.safepoint_gate.specs.declared.rule.Own.{Own}
use Rattle.safepoint_gate.specs.Singles.{IsQuiet, Loaded, Stored, actor, actor_in, loads_of, moved, put_of}
use Rattle.mutator.proofs.Answering.{actor_moved, flying, thread_in}

-- ---- lists

pub front : {X : Type 0} (xs : List X) (y : X) → Contains (y ∷ xs) y
front xs y = (0, omega arith, refl)

pub behind : {X : Type 0} (xs : List X) (y x : X) → Contains xs x → Contains (y ∷ xs) x
behind xs y x h = (suc h.0, omega (arith, h.1), h.2)

pub split : {X : Type 0} (xs : List X) (y x : X) → Contains (y ∷ xs) x → (y ≡ x) ⊎ Contains xs x
split xs y x (zero, lt, e) = inl e
split xs y x (suc k, lt, e) = inr (k, omega (arith, lt), e)

pub none_in : {X : Type 0} (x : X) → Contains [] x → ⊥
none_in x h = absurd (omega (arith, h.1))

-- ---- words met

forget_keeps : (place : ℕ) (known : List Known) (q x : ℕ) → q ≢ place → Contains known (record { place = q; word = x }) → Contains (forget place known) (record { place = q; word = x })
forget_keeps place [] q x ne h = absurd (none_in _ h)
forget_keeps place (k ∷ known) q x ne h = elim (cases_eq k.place place) [
  | inl same ↦ subst (λ (b : Bool). Contains (cond b (forget place known) (k ∷ forget place known)) (record { place = q; word = x })) (sym (eq-eqb k.place place same))
      (elim (split known k (record { place = q; word = x }) h) [
        | inl here ↦ absurd (ne (sym (ap (λ (y : Known). y.place) here) ∙ same))
        | inr later ↦ forget_keeps place known q x ne later
      ])
  | inr other ↦ subst (λ (b : Bool). Contains (cond b (forget place known) (k ∷ forget place known)) (record { place = q; word = x })) (sym (ne_eqb k.place place other))
      (elim (split known k (record { place = q; word = x }) h) [
        | inl here ↦ subst (λ (y : Known). Contains (k ∷ forget place known) y) here (front (forget place known) k)
        | inr later ↦ behind (forget place known) k _ (forget_keeps place known q x ne later)
      ])
]

pub learned : (place word : ℕ) (known : List Known) → Contains (learn place word known) (record { place = place; word = word })
learned place word known = front (forget place known) (record { place = place; word = word })

pub still_met : (place word : ℕ) (known : List Known) (q x : ℕ) → q ≢ place → Contains known (record { place = q; word = x }) → Contains (learn place word known) (record { place = q; word = x })
still_met place word known q x ne h = behind (forget place known) (record { place = place; word = word }) _ (forget_keeps place known q x ne h)

-- a word that was met again was what had been met
pub met_again : (place word : ℕ) (known : List Known) → ((was : ℕ) → Contains known (record { place = place; word = was }) → word ≡ was) → (q x : ℕ) → Contains known (record { place = q; word = x }) → Contains (learn place word known) (record { place = q; word = x })
met_again place word known again q x h = elim (cases_eq q place) [
  | inl same ↦
      let was : Contains known (record { place = place; word = x }) = subst (λ (p : ℕ). Contains known (record { place = p; word = x })) same h in
      subst (λ (y : ℕ × ℕ). Contains (learn place word known) (record { place = y.0; word = y.1 })) (λ i. (sym same i, again x was i)) (learned place word known)
  | inr other ↦ still_met place word known q x other h
]

-- a word that a place shows beside all covers was met
pub bare_met : (a : Actor) (place word : ℕ) → IsBare a.flight.covers place → Shows a place word → HasMet a place word
bare_met a place word bare (met free had) = had
bare_met a place word bare (under stands lies) = absurd (All-contains (λ (k : Cover). k.place ≢ place) a.flight.covers (record { place = place; stands = stands; shown = word }) bare lies refl)

-- ---- words laid

-- the thread after a word was laid at a place that showed another
abbrev pub laid : Actor → ℕ → ℕ → ℕ → Actor
laid a place word shown = flying a (with_covers a.flight (record { place = place; stands = word; shown = shown } ∷ a.flight.covers)) (learn place word a.lasting)

all_more : (k : Cover) (ks : List Cover) (q : ℕ) → k.place ≢ q → IsBare ks q → IsBare (k ∷ ks) q
all_more k ks q ne h zero d lt = ne
all_more k ks q ne h (suc j) d lt = h j d (omega (arith, lt))

-- what a place showed it still shows
pub laid_shows : (a : Actor) (place word shown : ℕ) → IsBare a.flight.covers place → ((was : ℕ) → HasMet a place was → shown ≡ was) → (q x : ℕ) → Shows a q x → Shows (laid a place word shown) q x
laid_shows a place word shown bare was q x (met free had) = elim (cases_eq q place) [
  | inl same ↦
      let here : HasMet a place x = subst (λ (p : ℕ). HasMet a p x) same had in
      subst (λ (y : ℕ × ℕ). Shows (laid a place word shown) y.0 y.1) (λ i. (sym same i, was x here i)) (under word (front a.flight.covers (record { place = place; stands = word; shown = shown })))
  | inr other ↦ met (all_more (record { place = place; stands = word; shown = shown }) a.flight.covers q (λ e. other (sym e)) free) (still_met place word a.lasting q x other had)
]
laid_shows a place word shown bare was q x (under stands lies) = under stands (behind a.flight.covers (record { place = place; stands = word; shown = shown }) _ lies)

-- A store of an own word laid it.
pub record Laid (v : View) (place word : ℕ) (w : View) : Type 0 where
  pub shown : ℕ
  pub was : (n : ℕ) → HasMet (actor v) place n → shown ≡ n
  pub actor_is : actor w ≡ laid (actor v) place word shown
  pub view : w ≡ moved v (actor w).flight w.lasting (loads_of v) (put_of v)

lasting_in : (v : View) → (actor v).lasting ≡ v.lasting
lasting_in v = of v.own v.lasting
  where
    of : (own : List Own) (lasting : List Known) → (actor_in own lasting).lasting ≡ lasting
    of [] lasting = refl
    of (o ∷ own) lasting = refl

-- what is in flight in the view after a step, and what the thread has met, by the view itself
pub moved_own : (v w : View) (f : Flight) (lasting loads : List Known) (put : ℕ) → length v.own ≡ 1 → w ≡ moved v f lasting loads put → w ≡ moved v (actor w).flight w.lasting loads put
moved_own v w f lasting loads put single is =
    let flight : f ≡ (actor w).flight = sym (ap (λ (a : Actor). a.flight) (actor_moved v w f lasting loads put single is)) in
    let words : lasting ≡ w.lasting = sym (ap (λ (x : View). x.lasting) is) in
    is ∙ (λ i. moved v (flight i) (words i) loads put)

pub stores_lay : (v w : View) (place word : ℕ) → length v.own ≡ 1 → IsBare (actor v).flight.covers place → place ≢ logged_at v.map (actor v).thread → Stored v place word None w → Laid v place word w
stores_lay v w place word single bare ne stored =
    let new = stored.flies.lays bare ne in
    let put : stored.put ≡ put_of v = stored.no_more (λ e. ne (e ∙ ap (logged_at v.map) (thread_in v))) in
    let now = actor_moved v w stored.flight (learn place word v.lasting) (loads_of v) stored.put single stored.view in
    let words : v.lasting ≡ (actor v).lasting = sym (lasting_in v) in
    record {
      shown = new.0;
      was = new.1;
      actor_is = now ∙ (λ i. flying (actor v) (new.2 i) (learn place word (words i)));
      view = moved_own v w stored.flight (learn place word v.lasting) (loads_of v) stored.put single stored.view ∙ ap (moved v (actor w).flight w.lasting (loads_of v)) put;
    }

-- what the thread knew to be shown it still knows after a load, and the word that it has loaded
module _ (v w : View) (place word : ℕ) (single : length v.own ≡ 1) (loaded : Loaded v place None word w) where
  pub loaded_is : actor w ≡ flying (actor v) (actor v).flight (learn place word (actor v).lasting)
  loaded_is =
      actor_moved v w (actor v).flight (learn place word v.lasting) (loads_of v ++ record { place = place; word = word } ∷ []) (put_of v) single loaded.0
      ∙ ap (λ (l : List Known). flying (actor v) (actor v).flight (learn place word l)) (sym (lasting_in v))

  pub loaded_met : HasMet (actor w) place word
  loaded_met = subst (λ (a : Actor). HasMet a place word) (sym loaded_is) (learned place word (actor v).lasting)

  loads_show : (q x : ℕ) → Shows (actor v) q x → Shows (flying (actor v) (actor v).flight (learn place word (actor v).lasting)) q x
  loads_show q x (met free had) = met free (met_again place word (actor v).lasting loaded.1.again q x had)
  loads_show q x (under stands lies) = under stands lies

  pub loaded_shows : (q x : ℕ) → Shows (actor v) q x → Shows (actor w) q x
  loaded_shows q x h = subst (λ (a : Actor). Shows a q x) (sym loaded_is) (loads_show q x h)

  pub loaded_same : actor w ≡ flying (actor v) (actor v).flight (actor w).lasting
  loaded_same = loaded_is ∙ ap (flying (actor v) (actor v).flight) (sym (ap (λ (a : Actor). a.lasting) loaded_is))

-- nothing is covered where no call is in flight
pub quiet_bare : (v : View) (place : ℕ) → IsQuiet v → IsBare (actor v).flight.covers place
quiet_bare v place quiet = subst (λ (f : Flight). IsBare f.covers place) (sym quiet) (λ j d lt. absurd (omega (arith, lt)))

-- a word of the thread's block that was just loaded
pub shows_loaded : (v w : View) (place word : ℕ) → length v.own ≡ 1 → IsQuiet v → Loaded v place None word w → Shows (actor w) place word
shows_loaded v w place word single quiet loaded =
    met (subst (λ (a : Actor). IsBare a.flight.covers place) (sym (loaded_is v w place word single loaded)) (quiet_bare v place quiet)) (loaded_met v w place word single loaded)

-- the length of the stack, as it was loaded
pub length_known : (v w : View) (n : ℕ) → length v.own ≡ 1 → IsQuiet v → Loaded v (length_at v.map (actor v).thread) None n w → n ≡ length (actor v).told.stack
length_known v w n single quiet loaded =
    let same = loaded_is v w (length_at v.map (actor v).thread) n single loaded in
    let map : w.map ≡ v.map = ap (λ (x : View). x.map) loaded.0 in
    let thread : (actor w).thread ≡ (actor v).thread = ap (λ (a : Actor). a.thread) same in
    loaded.1.so.sees.length_is n (subst (λ (p : ℕ). Shows (actor w) p n) (λ i. length_at (sym map i) (sym thread i)) (shows_loaded v w (length_at v.map (actor v).thread) n single quiet loaded))
    ∙ ap (λ (a : Actor). length a.told.stack) same
