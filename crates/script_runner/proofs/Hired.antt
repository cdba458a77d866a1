-- The workers of a run, before it and after it.
use Rattle.std.proofs.Common.{◌≡◌, ◌⊎◌, ⊎_elim, inl, inr, ◌+◌, ◌-◌, ◌≤◌, ◌<◌, ℕ, zero, suc, List, [], ◌∷◌, ◌++◌, length, get_or, take, refl, sym, ap, subst, ◌∙◌, arith, Option, Some, None, IsSome}
use Rattle.std.specs.List.{remove}
use mathlib.Core.Option.{some, some-ne-none, some-injective}
use lib.ListN.{get_elem?}
use Rattle.heap_words.specs.declared.map.Areas.{Areas}
use Rattle.object_layout.specs.declared.replies.Reply.{Reply}
use Rattle.object_layout.specs.declared.replies.Reply.TheVariants.{Ok}
use Rattle.yak_model.specs.History.{part}
use Rattle.safepoint_gate.specs.declared.gate.Gate.{Gate}
use Rattle.safepoint_gate.specs.declared.rule.Own.{Own}
use Rattle.safepoint_gate.specs.declared.rule.View.{View}
use Rattle.safepoint_gate.specs.declared.seats.Away.{Away}
use Rattle.safepoint_gate.specs.Made.{AllFresh}
use Rattle.safepoint_gate.specs.Seats.{IsOf}
use Rattle.safepoint_gate.specs.Steps.{first_calls, first_thread}
use Rattle.mutator.proofs.Telling.{only}
use Rattle.mutator.specs.declared.resting.Resting.{Resting}
use Rattle.mutator.specs.Resting.{seats_of}
use Rattle.mutator.specs.Finishing.{AllOf, Finishes, owns_of}
use Rattle.mutator.proofs.Rested.{seats_length, seats_more}
use Rattle.script_text.specs.declared.scripts.Line.{Line}
use Rattle.script_text.specs.ScriptContents.{Heap}
use Rattle.script_runner.specs.declared.workers.Worker.{Worker}
use Rattle.script_runner.specs.Runs.{all_said, calls_of}
use Rattle.script_runner.specs.Threaded.{HasEach, HasMade, HasRun, IsReady, IsThreaded}
use Rattle.script_runner.specs.Workers.{AllRan, AllReady, AllThere, AreGathered, AreSeats}
use Rattle.script_runner.proofs.Worked.{no_line, said_agree}

-- ---- lists

-- a list from which the first was removed
pub taken : {A : Type 0} (l left : List A) (a : A) → 1 ≤ length l → a ≡ get_or l 0 a → left ≡ remove l 0 → l ≡ a ∷ left
taken [] left a h e r = absurd (omega arith)
taken (x ∷ xs) left a h e r = λ i. sym e i ∷ sym r i

-- an element of a list and one more
in_snoc : {A : Type 0} (xs : List A) (x : A) (k : ℕ) (d : A) → k < length (xs ++ x ∷ []) → ((k < length xs) × (get_or (xs ++ x ∷ []) k d ≡ get_or xs k d)) ⊎ ((k ≡ length xs) × (get_or (xs ++ x ∷ []) k d ≡ x))
in_snoc [] x zero d lt = inr (refl, refl)
in_snoc [] x (suc k) d lt = absurd (omega arith)
in_snoc (y ∷ xs) x zero d lt = inl (omega arith, refl)
in_snoc (y ∷ xs) x (suc k) d lt =
    ⊎_elim (λ (a : (k < length xs) × (get_or (xs ++ x ∷ []) k d ≡ get_or xs k d)). inl ((let p = a.0 in omega arith), a.1)) (λ (b : (k ≡ length xs) × (get_or (xs ++ x ∷ []) k d ≡ x)). inr (ap suc b.0, b.1)) (in_snoc xs x k d (omega arith))

snoc_length : {A : Type 0} (xs : List A) (x : A) → length (xs ++ x ∷ []) ≡ length xs + 1
snoc_length [] x = refl
snoc_length (y ∷ xs) x = let r = snoc_length xs x in omega arith

-- an element, however it is looked up
element : {A : Type 0} (xs : List A) (k : ℕ) → k < length xs → (x : A) × ((d : A) → get_or xs k d ≡ x) × (get_elem? xs k ≡ some x)
element [] k lt = absurd (omega arith)
element (x ∷ xs) zero lt = (x, λ d. refl, refl)
element (x ∷ xs) (suc k) lt = element xs k (omega arith)

inside : {A : Type 0} (xs : List A) (k : ℕ) (x : A) → get_elem? xs k ≡ some x → (k < length xs) × (get_or xs k x ≡ x)
inside [] k x e = absurd (some-ne-none x (sym e))
inside (y ∷ xs) zero x e = (omega arith, some-injective y x e)
inside (y ∷ xs) (suc k) x e = let r = inside xs k x e in ((let p = r.0 in omega arith), r.1)

-- what a slice of the front of a vector leaves of it
pub front : {A : Type 0} (n : ℕ) (xs ys : List A) → n ≡ length xs → take n (xs ++ ys) ≡ xs
front n [] ys e = ap (λ z. take z ys) e
front zero (x ∷ xs) ys e = absurd (omega arith)
front (suc n) (x ∷ xs) ys e = ap (λ l. x ∷ l) (front n xs ys (omega arith))

-- ---- workers are hired

-- the mutators that are left are those from so many on
abbrev pub AreLeft : List Away → ℕ → List Resting → Type 0
AreLeft all count left = (j : ℕ) (a : Away) → get_elem? (seats_of left) j ≡ some a → get_elem? all (count + j) ≡ some a

module _ (gate : Gate) (count : ℕ) (all : List Away) (resting left : List Resting) (next : Resting) (workers after : List Worker) (w : Worker) (cut : resting ≡ next ∷ left) (put : after ≡ workers ++ w ∷ [])
    (new : AllFresh gate.table.shared.table_id gate.map all) (rest : AreLeft all (length workers) resting) where
  longer : length after ≡ length workers + 1
  longer = ap length put ∙ snoc_length workers w

  pub hired_rest : AreLeft all (length after) left
  hired_rest j a at =
      let more : length workers + suc j ≡ length after + j = let l = longer in omega arith in
      ap (get_elem? all) (sym more) ∙ rest (suc j) a (ap (λ (l : List Resting). get_elem? (seats_of l) (suc j)) cut ∙ at)

  pub hired_count : length workers + length (seats_of resting) ≡ length all → length after + length (seats_of left) ≡ length all
  hired_count e = let l = longer in let c = ap (λ (l : List Resting). length (seats_of l)) cut in omega arith

  ready : w.thread ≡ next.away.thread → w.resting ≡ Some next → length w.replies.items ≡ count → (w.thread ≡ length workers + 1) × IsReady gate (length workers + 1) count w.resting w.replies.items
  ready thread is long =
      let here : length workers + 0 ≡ length workers = omega arith in
      let fresh = new (length workers) next.away (ap (get_elem? all) (sym here) ∙ rest 0 next.away (ap (λ (l : List Resting). get_elem? (seats_of l) 0) cut)) in
      let number : next.away.thread ≡ length workers + 1 = sym next.away.numbered ∙ ap (λ (v : View). first_thread v.own) fresh.1 in
      let made : HasMade gate (length workers + 1) [] [] next.away = record {
        gate_is = (fresh.0, ap (λ (v : View). v.map) fresh.1);
        thread = number;
        told = ap (λ (v : View). calls_of (first_calls v.own)) fresh.1;
      } in
      (thread ∙ number, subst (λ (r : Option Resting). IsReady gate (length workers + 1) count r w.replies.items) (sym is) (made, long))

  pub hired_ready : w.thread ≡ next.away.thread → w.resting ≡ Some next → length w.replies.items ≡ count → AllReady gate count workers → AllReady gate count after
  hired_ready thread is long all_ready = subst (AllReady gate count) (sym put) (λ k d lt.
      ⊎_elim
      (λ (a : (k < length workers) × (get_or (workers ++ w ∷ []) k d ≡ get_or workers k d)).
      subst (λ (x : Worker). (x.thread ≡ k + 1) × IsReady gate (k + 1) count x.resting x.replies.items) (sym a.1) (all_ready k d a.0))
      (λ (b : (k ≡ length workers) × (get_or (workers ++ w ∷ []) k d ≡ w)).
      subst (λ (y : ℕ × Worker). (y.1.thread ≡ y.0 + 1) × IsReady gate (y.0 + 1) count y.1.resting y.1.replies.items) (λ i. (sym b.0 i, sym b.1 i)) (ready thread is long))
      (in_snoc workers w k d lt))

-- ---- workers are dismissed

-- the workers that are left are those from so many on
abbrev pub AreLast : List Worker → ℕ → List Worker → Type 0
AreLast all count left = (j : ℕ) (d : Worker) → j < length left → get_or left j d ≡ get_or all (count + j) d

-- the first workers' mutators are these
abbrev pub AreFirst : List Worker → List Resting → Type 0
AreFirst all back = (k : ℕ) (d : Worker) (a : Away) → k < length back → (resting : Resting) × ((get_or all k d).resting ≡ Some resting) × (get_or (seats_of back) k a ≡ resting.away)

module _ (all workers left : List Worker) (w : Worker) (back after : List Resting) (r : Resting) (cut : workers ≡ w ∷ left) (put : after ≡ back ++ r ∷ []) (last : AreLast all (length back) workers) where
  longer_back : length after ≡ length back + 1
  longer_back = ap length put ∙ snoc_length back r

  pub dismissed_last : AreLast all (length after) left
  dismissed_last j d lt =
      let more : length back + suc j ≡ length after + j = let l = longer_back in omega arith in
      let long = ap length cut in
      ap (λ (l : List Worker). get_or l (suc j) d) (sym cut) ∙ (last (suc j) d (omega arith) ∙ ap (λ z. get_or all z d) more)

  pub dismissed_count : length back + length workers ≡ length all → length after + length left ≡ length all
  dismissed_count e = let l = longer_back in let c = ap length cut in omega arith

  pub dismissed_first : w.resting ≡ Some r → AreFirst all back → AreFirst all after
  dismissed_first is first = subst (AreFirst all) (sym put) (λ k d a lt.
      ⊎_elim
      (λ (x : (k < length (seats_of back)) × (get_or (seats_of back ++ r.away ∷ []) k a ≡ get_or (seats_of back) k a)).
      let old = first k d a (subst (λ z. k < z) (seats_length back) x.0) in
      (old.0, old.1, ap (λ (l : List Away). get_or l k a) (seats_more back r) ∙ (x.1 ∙ old.2)))
      (λ (x : (k ≡ length (seats_of back)) × (get_or (seats_of back ++ r.away ∷ []) k a ≡ r.away)).
      let long = ap length cut in
      let here : length back + 0 ≡ k = let p = x.0 in let q = seats_length back in omega arith in
      let found : get_or all k d ≡ w = sym (ap (λ z. get_or all z d) here) ∙ (sym (last 0 d (omega arith)) ∙ ap (λ (l : List Worker). get_or l 0 d) cut) in
      (r, ap (λ (y : Worker). y.resting) found ∙ is, ap (λ (l : List Away). get_or l k a) (seats_more back r) ∙ x.1))
      (in_snoc (seats_of back) r.away k a (let p = snoc_length (seats_of back) r.away in let q = seats_length back in let s = snoc_length back r in omega arith)))

-- ---- after a run

in_first : (o : Own) (own : List Own) (P : ℕ → Own → Type 0) → P 0 o → ((k : ℕ) (x : Own) → get_elem? own k ≡ some x → P (suc k) x) → (k : ℕ) (x : Own) → get_elem? (o ∷ own) k ≡ some x → P k x
in_first o own P here more zero x at = subst (P 0) (some-injective o x at) here
in_first o own P here more (suc k) x at = more k x at

-- seats of one thread each, of whose threads something holds
singles : (seats : List Away) (P : ℕ → Own → Type 0) → ((k : ℕ) (a : Away) → get_elem? seats k ≡ some a → (o : Own) × (a.seat.me.0.own ≡ o ∷ []) × P k o)
    → (length (owns_of seats) ≡ length seats) × ((k : ℕ) (o : Own) → get_elem? (owns_of seats) k ≡ some o → P k o)
singles [] P each = (refl, λ k o at. absurd (some-ne-none o (sym at)))
singles (a ∷ seats) P each =
    let first = each 0 a refl in
    let more = singles seats (λ k. P (suc k)) (λ k b at. each (suc k) b at) in
    let own : owns_of (a ∷ seats) ≡ first.0 ∷ owns_of seats = ap (λ (l : List Own). l ++ owns_of seats) first.1 in
    (ap length own ∙ ap suc more.0, λ k o at. in_first first.0 (owns_of seats) P first.2 more.1 k o (ap (λ (l : List Own). get_elem? l k) (sym own) ∙ at))

room_of : (gate : Gate) (t : ℕ) (lines : List Line) (replies : List Reply) (r : Option Resting) → HasRun gate t lines r replies → length replies ≡ length lines
room_of gate t lines replies None ran = absurd ran
room_of gate t lines replies (Some resting) ran = ran.1

there_of : (gate : Gate) (t : ℕ) (lines : List Line) (replies : List Reply) (r : Option Resting) → HasRun gate t lines r replies → IsSome r
there_of gate t lines replies None ran = absurd ran
there_of gate t lines replies (Some resting) ran = search

module _ (gate : Gate) (lines : List Line) (workers : List Worker) (ran : AllRan gate lines workers) where
  pub ran_rooms : (k : ℕ) (d : Worker) → k < length workers → length (get_or workers k d).replies.items ≡ length lines
  ran_rooms k d lt = let w = get_or workers k d in room_of gate (k + 1) lines w.replies.items w.resting (ran k d lt)

  pub ran_there : AllThere workers
  ran_there k d lt = let w = get_or workers k d in there_of gate (k + 1) lines w.replies.items w.resting (ran k d lt)

  -- the seat of each worker, with what its thread has made
  made_of : (seats : List Away) → length seats ≡ length workers → AreSeats workers seats → (k : ℕ) (lt : k < length workers) (d : Worker) (a : Away)
      → (resting : Resting) × (get_or seats k a ≡ resting.away) × HasMade gate (k + 1) lines (get_or workers k d).replies.items resting.away
  made_of seats long are k lt d a =
      let seat = are k d a lt in
      let made = subst (λ (r : Option Resting). HasRun gate (k + 1) lines r (get_or workers k d).replies.items) seat.1 (ran k d lt) in
      (seat.0, seat.2, made.0)

  pub ran_seats : (seats : List Away) → length seats ≡ length workers → AreSeats workers seats → AllOf gate seats
  ran_seats seats long are k a at =
      let here = inside seats k a at in
      let lt : k < length workers = let p = here.0 in omega arith in
      let w = element workers k lt in
      let made = made_of seats long are k lt w.0 a in
      subst (λ (x : Away). IsOf gate x.seat.table_id x.seat.me.0) (sym made.1 ∙ here.1) made.2.gate_is

  -- the seats have each thread once, in order
  ran_each : (seats : List Away) → length seats ≡ length workers → AreSeats workers seats → HasEach (length workers) (owns_of seats)
  ran_each seats long are =
      let all = singles seats (λ k o. o.thread ≡ k + 1) (λ k a at.
      let here = inside seats k a at in
      let lt : k < length workers = let p = here.0 in omega arith in
      let w = element workers k lt in
      let made = made_of seats long are k lt w.0 a in
      let resting = made.0 in
      let away : a ≡ resting.away = sym here.1 ∙ made.1 in
      let one = only resting.away.seat.me.0.own resting.single in
      (one.0, ap (λ (x : Away). x.seat.me.0.own) away ∙ one.1, sym (ap first_thread one.1) ∙ (resting.away.numbered ∙ made.2.thread))) in
      record { count = all.0 ∙ long; order = all.1 }

  -- the one history has each thread's lines with their replies
  pub threaded : (size : Heap) (replies : List Reply) (seats : List Away) (v : View) → v.map ≡ gate.map → gate.map.pages ≡ size.pages → gate.map.threads ≡ size.threads → length workers ≡ gate.map.threads
      → length seats ≡ length workers → length replies ≡ length lines → AreSeats workers seats → AreGathered lines workers replies → Finishes v seats → IsThreaded size lines replies v
  threaded size replies seats v same pages threads many long each are gathered finishes = record {
    each = each;
    pages = ap (λ (m : Areas). m.pages) same ∙ pages;
    threads = ap (λ (m : Areas). m.threads) same ∙ threads;
    explains = finishes.explains;
    every = subst (λ (y : ℕ × List Own). HasEach y.0 y.1) (λ i. ((many ∙ ap (λ (m : Areas). m.threads) (sym same)) i, sym finishes.own i)) (ran_each seats long are);
    mine = finishes.mine;
    told = λ t thread.
        let k : ℕ = t - 1 in
        let number : k + 1 ≡ t = let p = thread.0 in omega arith in
        let lt : k < length workers = let p = thread.0 in let q = thread.1 in let e = ap (λ (m : Areas). m.threads) same in omega arith in
        let w = element workers k lt in
        let seat = element seats k (let l = long in omega arith) in
        let made = made_of seats long are k lt w.0 seat.0 in
        let resting = made.0 in
        let away : seat.0 ≡ resting.away = sym (seat.1 seat.0) ∙ made.1 in
        let o = (only resting.away.seat.me.0.own resting.single).0 in
        let own : resting.away.seat.me.0.own ≡ o ∷ [] = (only resting.away.seat.me.0.own resting.single).1 in
        let mine = finishes.seats_mine k seat.0 seat.2 0 o (ap (λ (a : Away). get_elem? a.seat.me.0.own 0) away ∙ ap (λ (l : List Own). get_elem? l 0) own) in
        let is : o.thread ≡ t = sym (ap first_thread own) ∙ (resting.away.numbered ∙ (made.2.thread ∙ number)) in
        let theirs = (get_or workers k w.0).replies.items in
        ap (λ z. calls_of (part v.history z)) (sym is)
        ∙ (ap calls_of mine.calls
        ∙ (ap (λ (l : List Own). calls_of (first_calls l)) (sym own)
        ∙ (made.2.told
        ∙ (ap (part (all_said lines theirs)) number
        ∙ sym (said_agree lines replies theirs t each (ran_rooms k w.0 lt) (λ i l here. gathered i no_line w.0 Ok l ∙ ap (λ z. get_or (get_or workers (z - 1) w.0).replies.items i Ok) here))))));
  }
