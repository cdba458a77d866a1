-- What a change of a space state is in what the words show of it.
use Rattle.std.proofs.Common.{◌≡◌, ◌≢◌, ℕ, ◌+◌, ◌<◌, true, false, Option, Some, None, List, set, length, refl, sym, ap, subst, ◌∙◌, inl, inr, is_some}
use Rattle.std.proofs.Math.Path.{fun_ext}
use Rattle.object_layout.specs.declared.names.Name.{Name}
use Rattle.epoch_lattice.specs.declared.Space.{Space}
use Rattle.yak_model.specs.declared.datum.Datum.{Datum}
use Rattle.yak_model.specs.Graph.{Content, Fields, fields_of, with_object}
use Rattle.yak_model.specs.Spaces.{SpaceState, content_at, home_of}
use Rattle.yak_model.proofs.Names.{get-same, get-other, same_or_other}
use Rattle.heap_words.specs.declared.map.Areas.{Areas}
use Rattle.heap_words.specs.Contents.{Contents, with_heap}
use Rattle.yak_model.specs.State.{State, Thing, IsDatum, object_of, thing_of, view}
use Rattle.yak_model.specs.Placed.{datum_word, same_name}
use Rattle.yak_model.specs.Placed as placed
use Rattle.yak_model.specs.Stands.{Stands, StandsAs}
use Rattle.yak_model.proofs.Placed.{same_name-true, same_name-self}
use Rattle.yak_model.proofs.Stored.{stands-store}

-- the state after a store
abbrev pub stored : SpaceState → Name → List Datum → SpaceState
stored s n fields = record s { graph = with_object s.graph n (Fields fields) }

other_test : (x n : Name) → x ≢ n → same_name x n ≡ false
other_test x n ne =
    elim (same_name x n) as (λ b. same_name x n ≡ b → b ≡ false) [
      | true ↦ λ e. absurd (ne (same_name-true x n e))
      | false ↦ λ e. refl
    ] refl

home_shown : (x : Option Space) (y : Option Content) (o : Thing) → thing_of x y ≡ Some o → x ≡ Some o.home
home_shown None y o e = cc
home_shown (Some home) None o e = cc
home_shown (Some home) (Some content) o e = let q : record { home = home; fields = fields_of content } ≡ o = cc in ap (λ (t : Thing). Some t.home) q

pub view-stored : (s : SpaceState) (n : Name) (o : Thing) (fields : List Datum) → object_of s n ≡ Some o → view (stored s n fields) ≡ (let w = view s in record w { objects = placed.with_object w.objects n (record o { fields = fields }) })
view-stored s n o fields e =
    ap (λ (os : Name → Option Thing). let w = view s in record w { objects = os }) (fun_ext (λ x.
    elim (same_or_other x n) [
      | inl q ↦
          rw (q, same_name-self n) (ap (thing_of (home_of s n)) (get-same s.graph.objects n (Fields fields)) ∙ ap (λ h. thing_of h (Some (Fields fields))) (home_shown (home_of s n) (content_at s.graph n) o e))
      | inr ne ↦ rw (other_test x n ne) (ap (thing_of (home_of s x)) (get-other s.graph.objects n (Fields fields) x ne))
    ]))

-- a store of a field, on space states
pub stands_stored : (m : Areas) (c : Contents) (s : SpaceState) (st : Stands m c s) (n : Name) (o : Thing) (f : ℕ) (v : Datum) → object_of s n ≡ Some o → f < length o.fields → IsDatum (object_of s) v → st.places.at n + 3 + f < length c.heap → Stands m (with_heap c (st.places.at n + 3 + f) (datum_word st.places.at v)) (stored s n (set o.fields f v))
stands_stored m c s st n o f v e lt fits within = record {
  whole = record {
    limits = st.whole.limits;
    contents = λ x. elim (same_or_other x n) [
      | inl q ↦ rw q (ap is_some (get-same s.graph.objects n (Fields (set o.fields f v))) ∙ sym (ap is_some (home_shown (home_of s n) (content_at s.graph n) o e)))
      | inr ne ↦ ap is_some (get-other s.graph.objects n (Fields (set o.fields f v)) x ne) ∙ st.whole.contents x
    ];
    homes = st.whole.homes;
  };
  places = st.places;
  stands = subst (λ (w : State). StandsAs m (with_heap c (st.places.at n + 3 + f) (datum_word st.places.at v)) w st.places) (sym (view-stored s n o (set o.fields f v) e)) (stands-store m c (view s) st.places n o f v st.stands e lt fits within);
}
