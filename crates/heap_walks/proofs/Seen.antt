-- What refers to what in a space state, and in what the words show of it.
use Rattle.std.proofs.Common.{◌≡◌, ℕ, ◌+◌, ◌-◌, ◌<◌, Option, Some, None, List, [], refl, sym, ap, subst, ◌∙◌, arith, get_or, length, map, is_some}
use Rattle.std.proofs.lemmas.List.{get_or-map, length-map}
use Rattle.std.specs.List.{Contains}
use Rattle.object_layout.specs.declared.names.Name.{Name}
use Rattle.epoch_lattice.specs.declared.Space.{Space}
use Rattle.epoch_lattice.specs.declared.Space.TheVariants.{Control}
use Rattle.yak_model.specs.declared.datum.Datum.TheVariants.{Object}
use Rattle.yak_model.specs.Graph.{Content, Thread, fields_of, fields_or_none, idle}
use Rattle.yak_model.specs.Spaces.{IsOnStack, IsPresent, RefersPresent, SpaceState, content_at, home_of}
use Rattle.yak_model.specs.State.{Thing, object_of, thing_of, view}
use Rattle.yak_model.specs.Stands.{IsWhole}
use Rattle.heap_walks.specs.Reach.{IsHeldAt, IsIn, Points}

pub record Seen (s : SpaceState) (n : Name) (o : Thing) : Type 0 where
  pub content : Content
  pub home_is : home_of s n ≡ Some o.home
  pub content_is : content_at s.graph n ≡ Some content
  pub fields_are : o.fields ≡ fields_of content

seen_by : (s : SpaceState) (n : Name) (x : Option Space) (y : Option Content) (o : Thing) → home_of s n ≡ x → content_at s.graph n ≡ y → thing_of x y ≡ Some o → Seen s n o
seen_by s n None y o hx hy e = cc
seen_by s n (Some home) None o hx hy e = cc
seen_by s n (Some home) (Some content) o hx hy e =
    let q : record { home = home; fields = fields_of content } ≡ o = cc in
    record {
      content = content;
      home_is = hx ∙ ap (λ (t : Thing). Some t.home) q;
      content_is = hy;
      fields_are = sym (ap (λ (t : Thing). t.fields) q);
    }

pub seen : (s : SpaceState) (n : Name) (o : Thing) → object_of s n ≡ Some o → Seen s n o
seen s n o e = seen_by s n (home_of s n) (content_at s.graph n) o refl refl e

shown_by : (s : SpaceState) (n : Name) (home : Space) (x : Option Space) (y : Option Content) → home_of s n ≡ x → content_at s.graph n ≡ y → x ≡ Some home → is_some y ≡ is_some x → (o : Thing) × (thing_of x y ≡ Some o) × (o.home ≡ home)
shown_by s n home None y hx hy e whole = cc
shown_by s n home (Some at) None hx hy e whole = cc
shown_by s n home (Some at) (Some content) hx hy e whole = (record { home = at; fields = fields_of content }, refl, cc)

pub shown : (s : SpaceState) (n : Name) (home : Space) → IsWhole s → home_of s n ≡ Some home → (o : Thing) × (object_of s n ≡ Some o) × (o.home ≡ home)
shown s n home whole e = shown_by s n home (home_of s n) (content_at s.graph n) refl refl e (whole.contents n)

some_home : (x : Option Space) → is_some x ≡ is_some (Some Control) → (home : Space) × (x ≡ Some home)
some_home None h = cc
some_home (Some home) h = (home, refl)

pub present_home : (s : SpaceState) (n : Name) → IsPresent s n → (home : Space) × (home_of s n ≡ Some home)
present_home s n h = some_home (home_of s n) h

pub present_of : (s : SpaceState) (n : Name) (o : Thing) → object_of s n ≡ Some o → IsPresent s n
present_of s n o e = ap is_some (seen s n o e).home_is

stack_at : (threads : List Thread) (k : ℕ) → k < length threads → get_or (map (λ (t : Thread). t.stack) threads) k [] ≡ (get_or threads k idle).stack
stack_at threads k lt = get_or-map (λ (t : Thread). t.stack) threads k idle [] lt

module _ (s : SpaceState) (whole : IsWhole s) where
  -- a field refers to an object
  pub points_of : (a b : Name) → Points (view s) a b → RefersPresent s a b
  points_of a b p =
      let w = seen s a p.0 p.1 in
      (ap is_some w.home_is, subst (λ fs. Contains fs (Object b)) (w.fields_are ∙ sym (ap fields_or_none w.content_is)) p.2)

  pub refers_of : (a b : Name) → RefersPresent s a b → Points (view s) a b
  refers_of a b r =
      let home = present_home s a r.0 in
      let o = shown s a home.0 whole home.1 in
      let w = seen s a o.0 o.1 in
      (o.0, o.1, subst (λ fs. Contains fs (Object b)) (ap fields_or_none w.content_is ∙ sym w.fields_are) r.1)

  -- a slot refers to an object
  pub on_stack : (k : ℕ) (n : Name) → IsHeldAt (view s) k n → IsOnStack s.graph (k + 1) n
  on_stack k n h =
      let lt : k < length s.graph.threads = let q = h.0 in simp length-map at q in
      let same : k + 1 - 1 ≡ k = omega arith in
      ((omega arith, omega arith), subst (λ st. Contains st (Object n)) (stack_at s.graph.threads k lt ∙ ap (λ j. (get_or s.graph.threads j idle).stack) (sym same)) h.1)

  pub held_at : (t : ℕ) (n : Name) → IsOnStack s.graph t n → IsHeldAt (view s) (t - 1) n
  held_at t n h =
      let lt : t - 1 < length s.graph.threads = omega (arith, h.0) in
      (simp length-map lt, subst (λ st. Contains st (Object n)) (sym (stack_at s.graph.threads (t - 1) lt)) h.1)

  -- the space of an object
  pub is_in : (n : Name) (space : Space) → home_of s n ≡ Some space → IsIn (view s) space n
  is_in n space e = shown s n space whole e

  pub home_of_in : (n : Name) (space : Space) → IsIn (view s) space n → home_of s n ≡ Some space
  home_of_in n space i = (seen s n i.0 i.1).home_is ∙ ap Some i.2
