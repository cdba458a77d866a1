-- What becomes of each object at an end: it moves, it stays, or it is left behind.
use Rattle.std.proofs.Common.{◌≡◌, ◌≢◌, ◌⊎◌, ℕ, ◌+◌, ◌≤◌, ◌<◌, Bool, true, false, Option, Some, None, List, length, refl, sym, ap, subst, ◌∙◌, arith, inl, inr}
use Rattle.std.proofs.lemmas.Bool.{cases_Bool, eq-eqb}
use Rattle.std.proofs.lemmas.Bool.Decides.{Decides-eqb}
use Rattle.std.proofs.Math.Logic.{⊎_elim}
use Rattle.object_layout.specs.declared.names.Name.{Name}
use Rattle.heap_words.specs.declared.map.Areas.{Areas}
use Rattle.heap_words.specs.Map.{page_words}
use Rattle.epoch_lattice.specs.declared.Space.{Space}
use Rattle.epoch_lattice.specs.declared.TheConstants.{MAX_DEPTH}
use Rattle.epoch_lattice.specs.Lattice.{IsValid, space_index}
use Rattle.epoch_lattice.proofs.Numbers.{number-own}
use Rattle.yak_model.specs.Graph.{Limits}
use Rattle.yak_model.specs.Spaces.{SpaceState, home_of, innermost}
use Rattle.yak_model.specs.State.{Thing, object_of, view}
use Rattle.yak_model.specs.Placed.{HeapStands, Places, same_name, size_by, words_by}
use Rattle.yak_model.specs.Plans.{Move, by_move, forwarded, without}
use Rattle.yak_model.specs.Stands.{IsWhole}
use Rattle.yak_model.proofs.Placed.{apart, same_name-self, same_name-true}
use Rattle.heap_walks.proofs.Seen.{seen, shown}
use Rattle.relocation.proofs.Lawful.{before_moves, by_move-at, by_move-other, kept, which_move}
use Rattle.relocation.proofs.SlidLawful.{keep-case, kept-false}
use Rattle.escape_closure.specs.Targets.{IsEscaping}
use Rattle.escape_closure.specs.Ends.{DropsRest}
use Rattle.escape_closure.specs.Leaving.{EndMoves, is_home, left_behind, objects_left}
use Rattle.escape_closure.proofs.Reaches.{reached_here}

different : (x y : Name) → same_name x y ≡ false → x ≢ y
different x y no_same e = let self : same_name y y ≡ true = same_name-self y in let same : same_name x y ≡ true = ap (λ z. same_name z y) e ∙ self in absurd (let q : false ≡ true = sym no_same ∙ same in cc)

-- present objects at one address are one
abbrev pub OneEach : SpaceState → Places → Type 0
OneEach s l = (x y : Name) (o p : Thing) → object_of s x ≡ Some o → object_of s y ≡ Some p → l.at x ≡ l.at y → x ≡ y

pub one_each : (m : Areas) (table : List (List ℕ)) (heap : List ℕ) (s : SpaceState) (l : Places) (work : Name → ℕ) → HeapStands m table heap (object_of s) l work → OneEach s l
one_each m table heap s l work h x y o p ex ey e =
    let ax = h.present x o ex in
    let ay = h.present y p ey in
    let sx : size_by (object_of s) x ≡ length o.fields + 3 = ap words_by ex in
    let sy : size_by (object_of s) y ≡ length p.fields + 3 = ap words_by ey in
    ⊎_elim
    (λ (same : same_name x y ≡ true). same_name-true x y same)
    (λ (other : same_name x y ≡ false). absurd (⊎_elim
    (λ (q : l.at x + size_by (object_of s) x ≤ l.at y). omega (arith, sx))
    (λ (q : l.at y + size_by (object_of s) y ≤ l.at x). omega (arith, sy))
    (apart (page_words m) (size_by (object_of s)) l x y ax.0 ax.1 ay.0 ay.1 h.tiles ax.2 ay.2 (different x y other))))
    (cases_Bool (same_name x y))

-- an object is moved
pub record MovedAs (s : SpaceState) (l : Places) (t count : ℕ) (moves : ℕ → Move) (n : Name) (o p : Thing) : Type 0 where
  pub move : ℕ
  pub among : move < count
  pub old : l.at n ≡ (moves move).old
  pub escapes : IsEscaping s t n
  pub home : o.home ≡ innermost s.graph t
  pub is : p ≡ record o { home = (moves move).space }
  pub leads : forwarded count moves l.at n ≡ (moves move).new

-- an object stays
pub record StaysAs (s : SpaceState) (l : Places) (t count : ℕ) (moves : ℕ → Move) (n : Name) (o p : Thing) : Type 0 where
  pub home : o.home ≢ innermost s.graph t
  pub none : (k : ℕ) → k < count → l.at n ≢ (moves k).old
  pub is : p ≡ o
  pub leads : forwarded count moves l.at n ≡ l.at n

same_space : (a b : Space) → Some a ≡ Some b → a ≡ b
same_space a b e = cc

one_thing : (a b : Thing) → Some a ≡ Some b → a ≡ b
one_thing a b e = cc

is_home-own : (r : Space) (x : Option Space) → x ≡ Some r → is_home r x ≡ true
is_home-own r x e = ap (is_home r) e ∙ eq-eqb (space_index r) (space_index r) refl

is_home-true : (r : Space) (x : Option Space) → IsValid MAX_DEPTH r → ((y : Space) → x ≡ Some y → IsValid MAX_DEPTH y) → is_home r x ≡ true → x ≡ Some r
is_home-true r None hr hx e = absurd (let q : false ≡ true = e in cc)
is_home-true r (Some y) hr hx e = ap Some (number-own y r (hx y refl) hr ((Decides-eqb (space_index y) (space_index r)).0 e))

module _ (s : SpaceState) (whole : IsWhole s) (l : Places) (one : OneEach s l) (t count : ℕ) (some : 1 ≤ t) (valid : IsValid MAX_DEPTH (innermost s.graph t)) (moves : ℕ → Move) (tight : Bool) (e : EndMoves s l t count moves tight) where
  -- an escaping object is one of the region
  pub escaping_in : (n : Name) → IsEscaping s t n → (o : Thing) × (object_of s n ≡ Some o) × (o.home ≡ innermost s.graph t)
  escaping_in n esc = reached_here s whole t some (innermost s.graph t) n esc.0 esc.1

  home_valid : (n : Name) (x : Space) → home_of s n ≡ Some x → IsValid MAX_DEPTH x
  home_valid n x h = subst (λ k. IsValid k x) (ap (λ (q : Limits). q.depth) whole.limits) (whole.homes n x h)

  -- the object of a move
  mover : (n : Name) (o : Thing) (k : ℕ) → object_of s n ≡ Some o → k < count → l.at n ≡ (moves k).old → IsEscaping s t n
  mover n o k here lt at =
      let q = e.moved k lt in
      let i = escaping_in q.0 q.1 in
      subst (IsEscaping s t) (one q.0 n i.0 o i.1 here (q.2 ∙ sym at)) q.1

  -- the rest of the region is dropped
  pub drops_rest : DropsRest s t (left_behind s l t count moves)
  drops_rest = record {
    gone = λ n d. ⊎_elim
        (λ (found : (k : ℕ) × (k < count) × (l.at n ≡ (moves k).old)).
        absurd (let q : false ≡ true = sym (by_move-at count moves (λ v. false) (l.at n) (is_home (innermost s.graph t) (home_of s n)) found.0 e.ascending found.1 found.2) ∙ d in cc))
        (λ (none : (k : ℕ) → k < count → l.at n ≢ (moves k).old). (
          is_home-true (innermost s.graph t) (home_of s n) valid (home_valid n) (sym (by_move-other count moves (λ v. false) (l.at n) (is_home (innermost s.graph t) (home_of s n)) none) ∙ d),
          λ esc. let c = e.complete n esc in none c.0 c.1 c.2,
        ))
        (which_move count moves (l.at n));
    kept = λ n d home. ⊎_elim
        (λ (found : (k : ℕ) × (k < count) × (l.at n ≡ (moves k).old)).
        let o = shown s n (innermost s.graph t) whole home in mover n o.0 found.0 o.1 found.1 found.2)
        (λ (none : (k : ℕ) → k < count → l.at n ≢ (moves k).old).
        absurd (let q : false ≡ true = sym d ∙ by_move-other count moves (λ v. false) (l.at n) (is_home (innermost s.graph t) (home_of s n)) none ∙ is_home-own (innermost s.graph t) (home_of s n) home in cc))
        (which_move count moves (l.at n));
  }

  -- an object that moves
  pub moves_so : (n : Name) (o : Thing) (k : ℕ) → object_of s n ≡ Some o → k < count → l.at n ≡ (moves k).old → (objects_left s l t count moves n ≡ Some (record o { home = (moves k).space })) × MovedAs s l t count moves n o (record o { home = (moves k).space })
  moves_so n o k here lt at =
      let esc = mover n o k here lt at in
      let i = escaping_in n esc in
      let stays : left_behind s l t count moves n ≡ false = by_move-at count moves (λ v. false) (l.at n) (is_home (innermost s.graph t) (home_of s n)) k e.ascending lt at in
      let kept_so = keep-case (view s) (left_behind s l t count moves) n o false stays refl here in
      let home : by_move count moves (λ v. v.space) (l.at n) o.home ≡ (moves k).space = by_move-at count moves (λ v. v.space) (l.at n) o.home k e.ascending lt at in (
        rw (kept_so, home) refl,
        record {
          move = k;
          among = lt;
          old = at;
          escapes = esc;
          home = ap (λ (q : Thing). q.home) (one_thing o i.0 (sym here ∙ i.1)) ∙ i.2;
          is = refl;
          leads = by_move-at count moves (λ v. v.new) (l.at n) (l.at n) k e.ascending lt at;
        },
      )

  -- an object that stays
  pub stays_so : (n : Name) (o : Thing) → object_of s n ≡ Some o → o.home ≢ innermost s.graph t → (objects_left s l t count moves n ≡ Some o) × StaysAs s l t count moves n o o
  stays_so n o here far =
      let home : home_of s n ≡ Some o.home = (seen s n o here).home_is in
      let none : (k : ℕ) → k < count → l.at n ≢ (moves k).old = λ k lt at. far (moves_so n o k here lt at).1.home in
      let no_home : is_home (innermost s.graph t) (home_of s n) ≡ false = elim (is_home (innermost s.graph t) (home_of s n)) as (λ b. is_home (innermost s.graph t) (home_of s n) ≡ b → b ≡ false) [
        | true ↦ λ q. absurd (far (same_space o.home (innermost s.graph t) (sym home ∙ is_home-true (innermost s.graph t) (home_of s n) valid (home_valid n) q)))
        | false ↦ λ q. refl
      ] refl in
      let stays : left_behind s l t count moves n ≡ false = by_move-other count moves (λ v. false) (l.at n) (is_home (innermost s.graph t) (home_of s n)) none ∙ no_home in
      let kept_so = keep-case (view s) (left_behind s l t count moves) n o false stays refl here in
      let same : by_move count moves (λ v. v.space) (l.at n) o.home ≡ o.home = by_move-other count moves (λ v. v.space) (l.at n) o.home none in (
        rw (kept_so, same) refl,
        record { home = far; none = none; is = refl; leads = by_move-other count moves (λ v. v.new) (l.at n) (l.at n) none },
      )

  -- an object that is left was there before, and moves or stays
  pub left_so : (n : Name) (p : Thing) → objects_left s l t count moves n ≡ Some p → (o : Thing) × (object_of s n ≡ Some o) × (MovedAs s l t count moves n o p ⊎ StaysAs s l t count moves n o p)
  left_so n p h =
      let b = before_moves count moves (l.at n) ((without (view s) (left_behind s l t count moves)).objects n) p h in
      let here : object_of s n ≡ Some b.0 = kept (view s) (left_behind s l t count moves) n b.0 b.1 in
      let stays : left_behind s l t count moves n ≡ false = kept-false (view s) (left_behind s l t count moves) n b.0 (left_behind s l t count moves n) refl b.1 in (
        b.0,
        here,
        ⊎_elim
            (λ (found : (k : ℕ) × (k < count) × (l.at n ≡ (moves k).old)).
            let m = moves_so n b.0 found.0 here found.1 found.2 in
            inl (subst (MovedAs s l t count moves n b.0) (one_thing (record b.0 { home = (moves found.0).space }) p (sym m.0 ∙ h)) m.1))
            (λ (none : (k : ℕ) → k < count → l.at n ≢ (moves k).old).
            let far : b.0.home ≢ innermost s.graph t = λ q.
            (let z : false ≡ true = sym stays ∙ by_move-other count moves (λ v. false) (l.at n) (is_home (innermost s.graph t) (home_of s n)) none ∙ is_home-own (innermost s.graph t) (home_of s n) ((seen s n b.0 here).home_is ∙ ap Some q) in
            cc) in
            let m = stays_so n b.0 here far in
            inr (subst (StaysAs s l t count moves n b.0) (one_thing b.0 p (sym m.0 ∙ h)) m.1))
            (which_move count moves (l.at n)),
      )

  -- an object of the region that doesn't escape is gone
  pub gone_so : (n : Name) → home_of s n ≡ Some (innermost s.graph t) → (IsEscaping s t n → ⊥) → objects_left s l t count moves n ≡ None
  gone_so n home stuck = elim (objects_left s l t count moves n) as (λ x. objects_left s l t count moves n ≡ x → x ≡ None) [
    | None ↦ λ q. refl
    | Some p ↦ λ q.
        let w = left_so n p q in
        let at : w.0.home ≡ innermost s.graph t = same_space w.0.home (innermost s.graph t) (sym (seen s n w.0 w.1).home_is ∙ home) in
        elim w.2 [
          | inl m ↦ absurd (stuck m.escapes)
          | inr m ↦ absurd (m.home at)
        ]
  ] refl
