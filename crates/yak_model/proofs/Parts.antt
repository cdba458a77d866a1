-- The plain machine of the spaces: from its graph and homes to a list of objects, and back.
use Rattle.std.proofs.Common.{◌≡◌, ℕ, zero, suc, ◌+◌, ◌-◌, ◌<◌, ◌≤◌, List, [], ◌∷◌, true, false, true≢false, length, get_or, map, replicate, refl, ◌∙◌, arith, ap, sym, subst, inl, inr, Option, Some, None, is_some}
use Rattle.std.proofs.lemmas.List.{length-replicate}
use Rattle.std.proofs.lemmas.List.{get_or-map, length-map}
use Rattle.std.specs.FinMap.{FinMap, empty, find, get, get-empty, from_entries, get-from_entries}
use Rattle.object_layout.specs.declared.names.Name.{Name}
use Rattle.object_layout.specs.declared.TheConstants.{MAX_SERIAL, OBJECT_WORDS, PAGE_WORDS}
use Rattle.epoch_lattice.specs.declared.Space.{Space}
use Rattle.epoch_lattice.specs.declared.Space.TheVariants.{Control}
use Rattle.epoch_lattice.specs.declared.TheConstants.{MAX_DEPTH, MAX_THREADS}
use Rattle.epoch_lattice.specs.Lattice.{IsValid}
use Rattle.yak_model.specs.declared.datum.Datum.TheVariants as datum
use Rattle.yak_model.specs.declared.homes.Home.{Home}
use Rattle.yak_model.specs.declared.TheConstants.{ROOT_FIELDS}
use Rattle.yak_model.specs.Names.{name_cmp, root_name}
use Rattle.yak_model.specs.Graph.{Content, Fields, Graph, Limits, Thread, idle, fields_at, fields_of, fields_or_none, opening, standard_limits, thread_of, with_depth}
use Rattle.yak_model.specs.Kept.{AreDistinct, AreHomesValid, IsRest, Kept, fields_of_place, nobody, state_of}
use Rattle.yak_model.specs.Machine.{IsSound, all_made, contents_of, home_name, home_space, homes_map, homes_of, kept_of, no_home, shown_state, size_at}
use Rattle.yak_model.specs.Private.{IsMade}
use Rattle.yak_model.specs.Spaces.{SpaceState, content_at, home_of}
use Rattle.yak_model.proofs.Collected.{content_of_place, home_absent, home_of_place}
use Rattle.yak_model.proofs.Lists.{replicate_cases}
use Rattle.yak_model.proofs.Names.{find_other, find_same, get-other, get-same, name_cmp_total, same_or_other}
use Rattle.yak_model.proofs.Settled.{find_absent, find_place, place_or_none}
use Rattle.yak_model.proofs.Sound.{depth_keeps, keeps_sound, pairs}
use Rattle.yak_model.proofs.Unique.{same_maps}

-- ---- from the machine to a list of objects

-- the names of a list of objects with their spaces
abbrev kept_pairs : List Kept → List (Name × Space)
kept_pairs objects = map (λ (k : Kept). (k.name, k.home)) objects

kept_homes : (g : Graph) (homes : List Home) → kept_pairs (kept_of g homes) ≡ pairs homes
kept_homes g [] = refl
kept_homes g (h ∷ rest) = ap (λ (l : List (Name × Space)). (h.name, h.space) ∷ l) (kept_homes g rest)

whole_content : (o : Option Content) → is_some o ≡ true → Some (Fields (fields_or_none o)) ≡ o
whole_content None e = absurd (true≢false (sym e))
whole_content (Some (Fields values)) e = refl

no_content : (o : Option Content) → is_some o ≡ false → o ≡ None
no_content None e = refl
no_content (Some c) e = absurd (true≢false e)

module _ (g : Graph) (homes : List Home) (sound : IsSound g homes) where
  abbrev pub object_of : Home → Kept
  object_of h = record { name = h.name; home = h.space; content = Fields (fields_at g (datum.Object h.name)) }

  pub at : (i : ℕ) → i < length homes → get_or (kept_of g homes) i nobody ≡ object_of (get_or homes i no_home)
  at i lt = get_or-map object_of homes i no_home nobody lt

  pub as_long : length (kept_of g homes) ≡ length homes
  as_long = length-map homes object_of

  pub kept_distinct : AreDistinct (kept_of g homes)
  kept_distinct i j lt lu e =
      let li : i < length homes = omega (arith, lt, as_long) in
      let lj : j < length homes = omega (arith, lu, as_long) in
      sound.distinct i j li lj (ap (λ (k : Kept). k.name) (sym (at i li)) ∙ e ∙ ap (λ (k : Kept). k.name) (at j lj))

  pub kept_valid : AreHomesValid (kept_of g homes)
  kept_valid i lt =
      let li : i < length homes = omega (arith, lt, as_long) in
      subst (λ (k : Kept). IsValid MAX_DEPTH k.home) (sym (at i li)) (sound.valid i li)

  abbrev listed : SpaceState
  listed = state_of g.limits g.threads (kept_of g homes)

  same_homes : listed.home ≡ homes_map homes
  same_homes = ap from_entries (kept_homes g homes)

  same_content : (name : Name) → content_at listed.graph name ≡ content_at g name
  same_content name =
      elim (place_or_none (kept_of g homes) name) [
        | inl p ↦
            let lt : p.0 < length homes = omega (arith, p.1, as_long) in
            let present : is_some (content_at g name) ≡ true =
            sound.present name ∙ ap (λ m. is_some (get m name)) (sym same_homes) ∙ ap is_some (ap (home_of listed) (sym p.2) ∙ home_of_place g.limits g.threads (kept_of g homes) kept_distinct p.0 p.1) in
            let named : home_name homes p.0 ≡ name = ap (λ (k : Kept). k.name) (sym (at p.0 lt)) ∙ p.2 in
            ap (content_at listed.graph) (sym p.2) ∙ content_of_place g.limits g.threads (kept_of g homes) kept_distinct p.0 p.1
            ∙ ap (λ (k : Kept). Some k.content) (at p.0 lt)
            ∙ ap (λ n. Some (Fields (fields_at g (datum.Object n)))) named
            ∙ whole_content (content_at g name) present
        | inr absent ↦
            let gone : is_some (content_at g name) ≡ false =
            sound.present name ∙ ap (λ m. is_some (get m name)) (sym same_homes) ∙ ap is_some (home_absent g.limits g.threads (kept_of g homes) kept_distinct name absent) in
            get-from_entries name_cmp_total _ _ ∙ find_absent (λ (k : Kept). k.content) (kept_of g homes) name absent ∙ sym (no_content _ gone)
      ]

  same_objects : listed.graph.objects ≡ g.objects
  same_objects = same_maps listed.graph.objects g.objects same_content

  -- the objects show what the machine shows
  pub same_state : listed ≡ shown_state g homes
  same_state = λ i. record { graph = record { limits = g.limits; objects = same_objects i; threads = g.threads }; home = same_homes i }

-- ---- and back

back_homes : (objects : List Kept) → pairs (homes_of objects) ≡ kept_pairs objects
back_homes [] = refl
back_homes (k ∷ rest) = ap (λ (l : List (Name × Space)). (k.name, k.home) ∷ l) (back_homes rest)

pub back_state : (limits : Limits) (threads : List Thread) (objects : List Kept)
    → state_of limits threads objects ≡ shown_state (record { limits = limits; objects = from_entries (contents_of objects); threads = threads }) (homes_of objects)
back_state limits threads objects = λ i. record {
  graph = record { limits = limits; objects = from_entries (contents_of objects); threads = threads };
  home = from_entries (sym (back_homes objects) i);
}

both_found : (objects : List Kept) (name : Name) → is_some (find name_cmp name (contents_of objects)) ≡ is_some (find name_cmp name (pairs (homes_of objects)))
both_found [] name = refl
both_found (k ∷ rest) name =
    elim (same_or_other name k.name) [
      | inl e ↦ ap is_some (find_same name k.name k.content (contents_of rest) e) ∙ sym (ap is_some (find_same name k.name k.home _ e))
      | inr n ↦ ap is_some (find_other name k.name k.content (contents_of rest) n) ∙ both_found rest name ∙ sym (ap is_some (find_other name k.name k.home _ n))
    ]

-- what is left of the objects is sound
pub rest_sound : (g : Graph) (homes : List Home) → IsSound g homes → (threads : List Thread) → length threads ≡ length g.threads
    → ((t : ℕ) → (thread_of (record g { threads = threads }) t).depth ≤ MAX_DEPTH) → ((t : ℕ) → (thread_of g t).made ≤ (thread_of (record g { threads = threads }) t).made)
    → ((t : ℕ) → (thread_of (record g { threads = threads }) t).made ≤ MAX_SERIAL) → all_made g ≤ all_made (record g { threads = threads })
    → (objects : List Kept) → IsRest (kept_of g homes) objects
    → IsSound (record { limits = g.limits; objects = from_entries (contents_of objects); threads = threads }) (homes_of objects)
rest_sound g homes sound threads count depths made serials all objects rest = record {
  limits = sound.limits;
  threads = omega (arith, count, sound.threads);
  depths = depths;
  distinct = λ i j lt lu e.
      let li : i < length objects = omega (arith, lt, long) in
      let lj : j < length objects = omega (arith, lu, long) in
      rest.distinct i j li lj (ap (λ (h : Home). h.name) (sym (back_at i li)) ∙ e ∙ ap (λ (h : Home). h.name) (back_at j lj));
  valid = λ i lt.
      let li : i < length objects = omega (arith, lt, long) in
      subst (λ (h : Home). IsValid MAX_DEPTH h.space) (sym (back_at i li)) (rest.valid i li);
  present = λ name. ap is_some (get-from_entries name_cmp_total (contents_of objects) name) ∙ both_found objects name ∙ sym (ap is_some (get-from_entries name_cmp_total _ name));
  made = λ i lt.
      let li : i < length objects = omega (arith, lt, long) in
      let from = rest.names i li in
      let lj : from.0 < length homes = omega (arith, from.1, as_long g homes sound) in
      let same : home_name homes from.0 ≡ home_name (homes_of objects) i =
      ap (λ (k : Kept). k.name) (sym (at g homes sound from.0 lj)) ∙ from.2 ∙ ap (λ (h : Home). h.name) (sym (back_at i li)) in
      let before : IsMade g (home_name (homes_of objects) i) = subst (IsMade g) same (sound.made from.0 lj) in
      omega (arith, before, made (home_name (homes_of objects) i).thread);
  fits = fits;
  serials = serials;
  few = omega (arith, sound.few, rest.few, long, as_long g homes sound, all);
}
  where
    long : length (homes_of objects) ≡ length objects
    long = length-map objects (λ (k : Kept). record { name = k.name; space = k.home })

    fits : (name : Name) → size_at (record { limits = g.limits; objects = from_entries (contents_of objects); threads = threads }) name ≤ PAGE_WORDS
    fits name =
        elim (place_or_none objects name) [
          | inl p ↦
              let found : get (from_entries (contents_of objects)) name ≡ Some (get_or objects p.0 nobody).content =
              ap (get (from_entries (contents_of objects))) (sym p.2) ∙ get-from_entries name_cmp_total _ _ ∙ find_place (λ (k : Kept). k.content) objects rest.distinct p.0 p.1 in
              let from = rest.fields p.0 p.1 in
              let lj : from.0 < length homes = omega (arith, from.1, as_long g homes sound) in
              let was : fields_of_place (kept_of g homes) from.0 ≡ fields_at g (datum.Object (home_name homes from.0)) = ap (λ (k : Kept). fields_of k.content) (at g homes sound from.0 lj) in
              let same : fields_or_none (get (from_entries (contents_of objects)) name) ≡ fields_at g (datum.Object (home_name homes from.0)) = ap fields_or_none found ∙ sym from.2 ∙ was in
              omega (arith, ap length same, sound.fits (home_name homes from.0))
          | inr absent ↦
              let none : get (from_entries (contents_of objects)) name ≡ None = get-from_entries name_cmp_total _ _ ∙ find_absent (λ (k : Kept). k.content) objects name absent in
              omega (arith, ap (λ (o : Option Content). length (fields_or_none o)) none)
        ]

    back_at : (i : ℕ) → i < length objects → get_or (homes_of objects) i no_home ≡ record { name = (get_or objects i nobody).name; space = (get_or objects i nobody).home }
    back_at i lt = get_or-map (λ (k : Kept). record { name = k.name; space = k.home }) objects i nobody no_home lt

-- the same after the end of an epoch of a thread
pub ended_sound : (g : Graph) (homes : List Home) → IsSound g homes → (t : ℕ) (objects : List Kept) → IsRest (kept_of g homes) objects
    → IsSound (with_depth (record g { objects = from_entries (contents_of objects) }) t ((thread_of g t).depth - 1)) (homes_of objects)
ended_sound g homes sound t objects rest =
    let before : Graph = record g { objects = from_entries (contents_of objects) } in
    keeps_sound before (with_depth before t ((thread_of g t).depth - 1)) (homes_of objects)
    (rest_sound g homes sound g.threads refl sound.depths (λ u. omega arith) sound.serials (omega arith) objects rest)
    (depth_keeps before t ((thread_of g t).depth - 1) (λ deep. omega (arith, deep t)))

-- ---- as the heap opens

abbrev first_home : List Home
first_home = (record { name = root_name; space = Control }) ∷ []

pub opening_sound : (threads : ℕ) → threads ≤ MAX_THREADS → IsSound (opening standard_limits threads) first_home
opening_sound threads most = record {
  limits = refl;
  threads = omega (arith, length-replicate threads first);
  depths = λ t. elim (replicate_cases threads (t - 1) first idle) [
    | inl e ↦ omega (arith, ap (λ (x : Thread). x.depth) e)
    | inr e ↦ omega (arith, ap (λ (x : Thread). x.depth) e)
  ];
  distinct = λ i j lt lu e. omega arith;
  valid = valid;
  present = λ n. elim (same_or_other n root_name) [
    | inl q ↦ ap (λ m. is_some (get root_object m)) q ∙ ap is_some (get-same empty root_name root_content) ∙ sym (ap (λ m. is_some (get root_space m)) q ∙ ap is_some (get-same empty root_name Control))
    | inr o ↦ ap is_some (get-other empty root_name root_content n o ∙ get-empty name_cmp n) ∙ sym (ap is_some (get-other empty root_name Control n o ∙ get-empty name_cmp n))
  ];
  made = made;
  fits = λ n. elim (same_or_other n root_name) [
    | inl q ↦
        let size : size_at (opening standard_limits threads) n ≡ ROOT_FIELDS + OBJECT_WORDS =
        ap (λ m. length (fields_or_none (get root_object m)) + OBJECT_WORDS) q
        ∙ ap (λ (o : Option Content). length (fields_or_none o) + OBJECT_WORDS) (get-same empty root_name root_content)
        ∙ ap (λ m. m + OBJECT_WORDS) (length-replicate ROOT_FIELDS datum.Null) in
        omega (arith, size)
    | inr o ↦
        let size : size_at (opening standard_limits threads) n ≡ OBJECT_WORDS =
        ap (λ (c : Option Content). length (fields_or_none c) + OBJECT_WORDS) (get-other empty root_name root_content n o ∙ get-empty name_cmp n) in
        omega (arith, size)
  ];
  serials = λ t. elim (replicate_cases threads (t - 1) first idle) [
    | inl e ↦ omega (arith, ap (λ (x : Thread). x.made) e)
    | inr e ↦ omega (arith, ap (λ (x : Thread). x.made) e)
  ];
  few = omega arith;
}
  where
    first : Thread
    first = record { stack = datum.Object root_name ∷ []; depth = 0; made = 0 }

    root_content : Content
    root_content = Fields (replicate ROOT_FIELDS datum.Null)

    root_object : FinMap name_cmp Content
    root_object = (opening standard_limits threads).objects

    root_space : FinMap name_cmp Space
    root_space = homes_map first_home

    valid : (i : ℕ) → i < length first_home → IsValid MAX_DEPTH (home_space first_home i)
    valid zero lt = tt
    valid (suc i) lt = absurd (omega arith)

    made : (i : ℕ) → i < length first_home → IsMade (opening standard_limits threads) (home_name first_home i)
    made zero lt = omega arith
    made (suc i) lt = absurd (omega arith)
