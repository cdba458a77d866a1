-- A field that was loaded, and what the thread has still to do then.
use Rattle.std.proofs.Common.{◌≡◌, ◌≢◌, ℕ, ◌+◌, ◌*◌, List, [], ◌∷◌, ◌++◌, length, zero, refl, sym, ap, subst, ◌∙◌, arith, Some, None, Option, length-append}
use Rattle.object_layout.specs.declared.calls.Event.{Event}
use Rattle.object_layout.specs.declared.headers.Header.{Header}
use Rattle.object_layout.specs.Layout.{IsHeader, header_word}
use Rattle.heap_words.specs.declared.map.Areas.{Areas}
use Rattle.heap_words.specs.Map.{HasRegion}
use Rattle.epoch_lattice.specs.declared.Space.{Space}
use Rattle.epoch_lattice.specs.declared.Space.TheVariants.{Region}
use Rattle.epoch_lattice.specs.Lattice.{IsValid, space_index}
use Rattle.epoch_lattice.specs.declared.TheConstants.{MAX_DEPTH}
use Rattle.epoch_lattice.proofs.Numbers.{number-own}
use Rattle.calls_in_flight.specs.declared.notes.Cover.{Cover}
use Rattle.calls_in_flight.specs.declared.notes.Flight.{Flight}
use Rattle.calls_in_flight.specs.declared.notes.Known.{Known}
use Rattle.calls_in_flight.specs.declared.notes.Reading.{Reading}
use Rattle.calls_in_flight.specs.Actors.{Actor, HasSpace, RefersTo, under}
use Rattle.calls_in_flight.specs.Fields.{IsEntered}
use Rattle.calls_in_flight.specs.FieldSteps.{length_loaded, slot_loaded}
use Rattle.calls_in_flight.specs.Flight.{at_rest}
use Rattle.calls_in_flight.specs.Steps.{slot_at, with_covers}
use Rattle.safepoint_gate.specs.declared.rule.Own.{Own}
use Rattle.safepoint_gate.specs.declared.rule.View.{View}
use Rattle.safepoint_gate.specs.Singles.{HasRead, LoadedField, acting, actor, actor_in, loads_in, loads_of, moved, put_in, put_of, with_call}
use Rattle.safepoint_gate.specs.Steps.{first_thread}
use Rattle.barriers.specs.Barred.{FieldBarred, MeetsSpace}
use Rattle.barriers.proofs.StillKnown.{Keeps, keeps-refers, keeps-space, leads-within}
use Rattle.barriers.proofs.MetSpaces.{space-keeps}
use Rattle.barriers.proofs.MovedViews.{first-actor, loads-actor, loads-loads, loads-none, loads-put, moved-moved, says-after, told-actor, told-length, told-loads, told-put}

-- ---- headers and readers

same_number : (x y : Header) → IsHeader x → IsHeader y → header_word x ≡ header_word y → x.space ≡ y.space
same_number x y hx hy e = omega (arith, e, hx.0, hy.0)

region_there : (m : Areas) (fields more o d : ℕ) (y : Space) → IsValid MAX_DEPTH (Region o d) → IsValid MAX_DEPTH y → IsHeader (record { fields = fields; space = space_index (Region o d) }) → IsHeader (record { fields = more; space = space_index y })
    → header_word (record { fields = fields; space = space_index (Region o d) }) ≡ header_word (record { fields = more; space = space_index y }) → ((u e : ℕ) → y ≡ Region u e → HasRegion m u e) → HasRegion m o d
region_there m fields more o d y vx vy hx hy e region =
    let same : Region o d ≡ y = number-own (Region o d) y vx vy (same_number _ _ hx hy e) in
    region o d (sym same)

one_space : (x y : Space) → Some x ≡ Some y → x ≡ y
one_space x y e = cc

entered_other : (t o d : ℕ) (reading : Option Reading) → IsEntered t (Some (Region o d)) reading → o ≢ t → reading ≡ Some (record { owner = o; depth = d })
entered_other t o d None entered ne = absurd (ne (entered o d refl))
entered_other t o d (Some r) entered ne =
    let e : Some (Region o d) ≡ Some (Region r.owner r.depth) = entered.0 in
    let owner : r.owner ≡ o = cc in
    let depth : r.depth ≡ d = cc in
    λ i. Some (record { owner = owner i; depth = depth i })

entered_own : (t o d : ℕ) (reading : Option Reading) → IsEntered t (Some (Region o d)) reading → o ≡ t → reading ≡ None
entered_own t o d None entered e = refl
entered_own t o d (Some r) entered is =
    let e : Some (Region o d) ≡ Some (Region r.owner r.depth) = entered.0 in
    let owner : o ≡ r.owner = cc in
    absurd (entered.1 (sym owner ∙ is))

entered_none : (t : ℕ) (x : Space) (reading : Option Reading) → IsEntered t (Some x) reading → ((o d : ℕ) → x ≡ Region o d → ⊥) → reading ≡ None
entered_none t x None entered not = refl
entered_none t x (Some r) entered not = absurd (not r.owner r.depth (one_space x (Region r.owner r.depth) entered.0))

-- ---- the field

module _ (v u : View) (event : Event) (word : ℕ) (one : length v.own ≡ 1) (l : LoadedField v event word u) where
  abbrev a : Actor
  a = actor v

  abbrev covers : List Cover
  covers = slot_loaded v.map (actor v) l.loaded.above word ∷ length_loaded v.map (actor v) ∷ []

  abbrev b : Actor
  b = record {
    thread = (actor v).thread;
    told = record { stack = (actor v).told.stack ++ l.value ∷ []; depth = (actor v).told.depth; made = (actor v).told.made };
    flight = record (at_rest (actor v).thread) { covers = covers; reading = l.loaded.reading };
    lasting = l.lasting;
  }

  own-is : u.own ≡ l.tells.own
  own-is = ap (λ (x : View). x.own) l.tells.view

  map-is : u.map ≡ v.map
  map-is = ap (λ (x : View). x.map) l.tells.view

  actor-is : actor u ≡ b
  actor-is =
      ap actor l.tells.view ∙ ap (λ (o : List Own). actor_in o l.lasting) l.tells.says.own_is
      ∙ told-actor v _ l.tells.says.has l.tells.says.known _ l.flight (loads_of v) (put_of v) l.lasting one
      ∙ (λ i. record { thread = (actor v).thread; told = l.pushed i; flight = l.loaded.flight i; lasting = l.lasting })

  loads-is : loads_of u ≡ loads_of v
  loads-is = ap loads_in own-is ∙ ap loads_in l.tells.says.own_is ∙ told-loads v.own _ l.tells.says.has l.tells.says.known _ l.flight (loads_of v) (put_of v) one

  put-is : put_of u ≡ put_of v
  put-is = ap put_in own-is ∙ ap put_in l.tells.says.own_is ∙ told-put v.own _ l.tells.says.has l.tells.says.known _ l.flight (loads_of v) (put_of v) one

  one-u : length u.own ≡ 1
  one-u = ap (λ (o : List Own). length o) own-is ∙ ap (λ (o : List Own). length o) l.tells.says.own_is ∙ told-length v.own _ l.tells.says.has l.tells.says.known _ l.flight (loads_of v) (put_of v) ∙ one

  -- with nothing to become a reader of, the load is done
  abbrev F : Flight
  F = with_covers (at_rest (first_thread v.own)) covers

  pub barred : (z : View) (more lasting : List Known) → z ≡ moved u (with_covers (at_rest (first_thread v.own)) (slot_loaded v.map (actor v) l.loaded.above word ∷ length_loaded v.map (actor v) ∷ [])) lasting (loads_of u ++ more) (put_of u) → FieldBarred v event word z
  barred z more lasting is =
      let own : z.own ≡ with_call l.tells.own F (loads_of v ++ more) (put_of v) = ap (λ (x : View). x.own) is ∙ (λ i. with_call (own-is i) F (loads-is i ++ more) (put-is i)) in
      let says = says-after v event l.flight F (loads_of v) (loads_of v ++ more) (put_of v) (put_of v) l.tells.own z.own own l.tells.says in
      record {
        more = more;
        lasting = lasting;
        above = l.loaded.above;
        says = says.0;
        view = is ∙ ap (λ (x : View). acting x (with_call u.own F (loads_of u ++ more) (put_of u)) lasting) l.tells.view ∙ ap (λ o. acting v o lasting) (sym (ap (λ (x : View). x.own) is));
        value = l.value;
        pushed = says.2 ∙ l.pushed;
        is_word = l.loaded.is_word;
      }

  thread-is : (actor u).thread ≡ (actor v).thread
  thread-is = ap (λ (x : Actor). x.thread) actor-is

  flight-none : l.loaded.reading ≡ None → (actor u).flight ≡ F
  flight-none none = ap (λ (x : Actor). x.flight) actor-is ∙ (λ i. record { thread = sym (first-actor v) i; covers = covers; claimed = []; reading = none i; claims = 0 })

  pub barred_none : ((to : ℕ) → word ≢ 2 * (to + 1)) → FieldBarred v event word u
  barred_none not = barred u [] u.lasting (loads-none u ∙ ap (λ f. moved u f u.lasting (loads_of u ++ []) (put_of u)) (flight-none (l.loaded.leads_not not)))

  -- where the value is a reference
  module _ (to : ℕ) (e : word ≡ 2 * (to + 1)) where
    slot : RefersTo v.map b (length a.told.stack) to
    slot = record {
      slot = omega (arith, length-append a.told.stack (l.value ∷ []));
      word = under l.loaded.above (zero, omega arith, λ i. record { place = slot_at v.map (actor v).thread (length (actor v).told.stack); stands = l.loaded.above; shown = e i });
      within = leads-within v.map l.value word to l.loaded.is_word e;
    }

    slot-u : RefersTo u.map (actor u) (length a.told.stack) to
    slot-u = subst (λ (x : Areas × Actor). RefersTo x.0 x.1 (length a.told.stack) to) (λ i. (sym map-is i, sym actor-is i)) slot

    pub leads-slot : (k : ℕ) × RefersTo u.map (actor u) k to
    leads-slot = (length a.told.stack, slot-u)

    module _ (x : Space) (w : View) (meets : MeetsSpace u to x w) where
      keeps : Keeps u.map w.map (actor u) (actor w)
      keeps = space-keeps u to x w meets

      slot-w : RefersTo w.map (actor w) (length a.told.stack) to
      slot-w = keeps-refers u.map w.map (actor u) (actor w) keeps (length a.told.stack) to slot-u

      entered : IsEntered (actor v).thread (Some x) l.loaded.reading
      entered =
          let lead = l.loaded.leads to e in
          let has-b : HasSpace v.map b to lead.0 = lead.1 in
          let has-u : HasSpace u.map (actor u) to lead.0 = subst (λ (y : Areas × Actor). HasSpace y.0 y.1 to lead.0) (λ i. (sym map-is i, sym actor-is i)) has-b in
          let has-w : HasSpace w.map (actor w) to lead.0 = keeps-space u.map w.map (actor u) (actor w) keeps to lead.0 has-u in
          let sees = meets.so.sees in
          let same : lead.0 ≡ x = one_space lead.0 x (sym (sees.spaces (length a.told.stack) to lead.0 slot-w has-w) ∙ sees.spaces (length a.told.stack) to x slot-w meets.space) in
          subst (λ y. IsEntered (actor v).thread (Some y) l.loaded.reading) same lead.2

      flight-w : (actor w).flight ≡ (actor u).flight
      flight-w = ap (λ (y : Actor). y.flight) (loads-actor u w meets.more meets.lasting meets.view)

      barred_still : l.loaded.reading ≡ None → FieldBarred v event word w
      barred_still none = barred w meets.more meets.lasting (meets.view ∙ ap (λ f. moved u f meets.lasting (loads_of u ++ meets.more) (put_of u)) (flight-none none))

      pub barred_control : ((o d : ℕ) → x ≡ Region o d → ⊥) → FieldBarred v event word w
      barred_control not = barred_still (entered_none (actor v).thread x l.loaded.reading entered not)

      pub barred_own : (o d : ℕ) → x ≡ Region o d → o ≡ (actor v).thread → FieldBarred v event word w
      barred_own o d is mine = barred_still (entered_own (actor v).thread o d l.loaded.reading (subst (λ y. IsEntered (actor v).thread (Some y) l.loaded.reading) is entered) mine)

      module _ (o d : ℕ) (is : x ≡ Region o d) (other : o ≢ (actor v).thread) where
        reading : l.loaded.reading ≡ Some (record { owner = o; depth = d })
        reading = entered_other (actor v).thread o d l.loaded.reading (subst (λ y. IsEntered (actor v).thread (Some y) l.loaded.reading) is entered) other

        region : HasRegion w.map o d
        region =
            let has : HasSpace w.map (actor w) to (Region o d) = subst (HasSpace w.map (actor w) to) is meets.space in
            let h = meets.so.sees.headers (length a.told.stack) to (header_word (record { fields = has.0; space = space_index (Region o d) })) slot-w has.2.1 in
            region_there w.map has.0 h.fields o d h.space has.1 h.valid has.2.0 h.header h.is_word h.region

        pub may-read : (owner : ℕ) × (depth : ℕ) × (Region o d ≡ Region owner depth) × (HasRegion w.map owner depth × ((actor w).flight.reading ≡ Some (record { owner = owner; depth = depth })))
        may-read = (o, d, refl, (region, ap (λ (f : Flight). f.reading) flight-w ∙ ap (λ (y : Actor). y.flight.reading) actor-is ∙ reading))

        pub barred_read : (z : View) → HasRead w z → FieldBarred v event word z
        barred_read z read =
            let now : record (actor w).flight { reading = None } ≡ F = ap (λ (f : Flight). record f { reading = None }) flight-w ∙ ap (λ (y : Actor). record y.flight { reading = None }) actor-is ∙ (λ i. record { thread = sym (first-actor v) i; covers = covers; claimed = []; reading = None; claims = 0 }) in
            let loads-w : loads_of w ≡ loads_of u ++ meets.more = loads-loads u w meets.more meets.lasting meets.view one-u in
            let put-w : put_of w ≡ put_of u = loads-put u w meets.more meets.lasting meets.view one-u in
            barred z meets.more w.lasting
            (read ∙ (λ i. moved w (now i) w.lasting (loads-w i) (put-w i))
            ∙ ap (λ (y : View). moved y F w.lasting (loads_of u ++ meets.more) (put_of u)) meets.view
            ∙ moved-moved u (actor u).flight F meets.lasting w.lasting (loads_of u ++ meets.more) (loads_of u ++ meets.more) (put_of u) (put_of u))
