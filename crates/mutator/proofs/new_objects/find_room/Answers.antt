use Rattle.std.proofs.Common.{◌≡◌, ◌+◌, ℕ, subst}
use Rattle.object_layout.specs.declared.TheConstants.{OBJECT_WORDS}
use Rattle.std.proofs.lemmas.Result.{IfOk-weaker}
use Rattle.mutator.specs.declared.new_objects.Room.{Room}
use Rattle.mutator.specs.Making.{ClaimsNone, ClaimsRoom, FindsNone, FindsRoom, GetsNone, GetsRoom}
use Rattle.mutator.proofs.Placed.{thread_of_seat}
use Rattle.mutator.proofs.Trying.{err_weaker, gets_claimed, gets_current, gets_none}
use Rattle.mutator.proofs.new_objects.find_room.Goals as goal

pub returns-in-Some-clause-found : goal.returns-in-Some-clause-found
returns-in-Some-clause-found c =
    let v = c.args.inside.now.seat.me.0 in
    let u = c.room_in_current.new.inside.seat.me.0 in
    let size : c.from.result + c.from-2.result ≡ c.args.k + OBJECT_WORDS = (λ i. c.from.ensures i + c.from-2.ensures i) in
    gets_current v u c.args.k c.args.inside.now.single c.requires.quiet c.requires.few c.in-Some.room (subst (λ (n : ℕ). FindsRoom v n c.in-Some.room u) size c.in-Some.ensures.found)

pub returns-in-None-clause-found : goal.returns-in-None-clause-found
returns-in-None-clause-found c =
    let v = c.args.inside.now.seat.me.0 in
    let u = c.room_in_current.new.inside.seat.me.0 in
    let w = c.claim_room.new.inside.seat.me.0 in
    let size : c.from.result + c.from-2.result ≡ c.args.k + OBJECT_WORDS = (λ i. c.from.ensures i + c.from-2.ensures i) in
    let none = subst (λ (n : ℕ). FindsNone v n u) size c.in-None.ensures.found in
    IfOk-weaker c.claim_room.result (λ (room : Room). ClaimsRoom u room w) (λ (room : Room). GetsRoom v c.args.k room w)
    (λ room got. gets_claimed v u c.args.k c.args.inside.now.single c.requires.quiet c.requires.few c.room_in_current.new.inside.single (thread_of_seat c.args.inside.now) none w room got) c.claim_room.ensures.claimed

pub returns-in-None-clause-none : goal.returns-in-None-clause-none
returns-in-None-clause-none c =
    let v = c.args.inside.now.seat.me.0 in
    let u = c.room_in_current.new.inside.seat.me.0 in
    let w = c.claim_room.new.inside.seat.me.0 in
    let size : c.from.result + c.from-2.result ≡ c.args.k + OBJECT_WORDS = (λ i. c.from.ensures i + c.from-2.ensures i) in
    let none = subst (λ (n : ℕ). FindsNone v n u) size c.in-None.ensures.found in
    err_weaker c.claim_room.result (ClaimsNone u w) (GetsNone v c.args.k w)
    (λ got. gets_none v u c.args.k c.args.inside.now.single c.requires.quiet c.requires.few c.room_in_current.new.inside.single (thread_of_seat c.args.inside.now) none w got) c.claim_room.ensures.none
