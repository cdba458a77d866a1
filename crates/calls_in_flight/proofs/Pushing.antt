-- A whole call of the shortest kind: an integer is laid above the stack, and the stack's length is stored.
use Rattle.std.proofs.Common.{◌≡◌, ◌≢◌, ℕ, ◌+◌, ◌*◌, ◌≤◌, ◌<◌, List, [], ◌∷◌, length, get_or, set, refl, sym, ap, subst, ◌∙◌, arith, length-set, get_or-set_same, get_or-set_other}
use Rattle.std.proofs.lemmas.List.Elements.{All-nil}
use Rattle.object_layout.specs.declared.TheConstants.{MAX_INT}
use Rattle.object_layout.specs.declared.calls.Call.TheVariants as call
use Rattle.object_layout.specs.declared.replies.Reply.TheVariants as reply
use Rattle.heap_words.specs.declared.map.Areas.{Areas}
use Rattle.heap_words.specs.declared.TheConstants.{STACK_SLOTS}
use Rattle.yak_model.specs.declared.history.Entry.TheVariants.{Said}
use Rattle.calls_in_flight.specs.Flight.{Cover, Flight, IsBare, at_rest, flight_at}
use Rattle.calls_in_flight.specs.Owning.{in_block}
use Rattle.calls_in_flight.specs.Steps.{Grows, length_at, slot_at, with_covers}
use Rattle.calls_in_flight.specs.Kinds.{IsRun, IsStep, lays, more, none, pushes_int}

-- the two steps of the call, from a thread at rest
pub int-runs : (m : Areas) (ws : List ℕ) (fs : List Flight) (i n k : ℕ) → i < length fs → flight_at fs i ≡ at_rest (flight_at fs i).thread → get_or ws (length_at m (flight_at fs i).thread) 0 ≡ n → n < STACK_SLOTS → k ≤ MAX_INT → (let t = (flight_at fs i).thread in (gs : List Flight) × IsRun m ws fs (set (set ws (slot_at m t n) (2 * k + 1)) (length_at m t) (n + 1)) gs (Said t (call.Int k) reply.Ok ∷ []))
int-runs m ws fs i n k lt rest count room fits =
    let F : Flight = flight_at fs i in
    let t : ℕ = F.thread in
    let a : ℕ = slot_at m t n in
    let w : ℕ = 2 * k + 1 in
    let slot : Cover = record { place = a; stands = w; shown = get_or ws a 0 } in
    let f : Flight = with_covers F (slot ∷ F.covers) in
    let none_covered : F.covers ≡ [] = ap (λ (x : Flight). x.covers) rest in
    let bare : IsBare F.covers a = subst (λ (ks : List Cover). IsBare ks a) (sym none_covered) (All-nil (λ (x : Cover). x.place ≢ a)) in
    let first : IsStep m ws fs i (set ws a w) (set fs i f) [] 0 = lays a w f (record { inside = lt; own = in_block (omega arith) (omega (arith, room)); bare = bare; after = refl }) in
    let gs : List Flight = set fs i f in
    let own : flight_at gs i ≡ f = get_or-set_same fs i f (at_rest 0) lt in
    let thread : (flight_at gs i).thread ≡ t = ap (λ (x : Flight). x.thread) own in
    let mid : List ℕ = set ws a w in
    let g : Flight = with_covers (flight_at gs i) [] in
    let inside : i < length gs = omega (arith, lt, length-set fs i f) in
    let counted : get_or mid (length_at m (flight_at gs i).thread) 0 ≡ n = ap (λ x. get_or mid (length_at m x) 0) thread ∙ get_or-set_other ws a (length_at m t) w 0 (λ e. omega (arith, e)) ∙ count in
    let covers : (flight_at gs i).covers ≡ slot ∷ [] = ap (λ (x : Flight). x.covers) own ∙ ap (λ (ks : List Cover). slot ∷ ks) none_covered in
    let place : slot.place ≡ slot_at m (flight_at gs i).thread n = ap (λ x. slot_at m x n) (sym thread) in
    let grows : Grows m mid gs i n w g = record { inside = inside; count = counted; room = room; cover = slot; covers = covers; place = place; word = refl; after = refl } in
    let second : IsStep m mid gs i (set mid (length_at m (flight_at gs i).thread) (n + 1)) (set gs i g) (Said (flight_at gs i).thread (call.Int k) reply.Ok ∷ []) 0 = pushes_int n k g fits grows in
    let run : IsRun m ws fs mid gs [] = more ws mid fs gs i 0 [] [] none lt first in
    let all : IsRun m ws fs (set mid (length_at m (flight_at gs i).thread) (n + 1)) (set gs i g) (Said (flight_at gs i).thread (call.Int k) reply.Ok ∷ []) = more mid (set mid (length_at m (flight_at gs i).thread) (n + 1)) gs (set gs i g) i 0 [] (Said (flight_at gs i).thread (call.Int k) reply.Ok ∷ []) run inside second in
    (set gs i g, subst (λ x. IsRun m ws fs (set mid (length_at m x) (n + 1)) (set gs i g) (Said x (call.Int k) reply.Ok ∷ [])) thread all)
