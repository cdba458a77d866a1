-- A field that is loaded, over states.
use Rattle.std.proofs.Common.{◌≡◌, ◌≢◌, ◌⊎◌, ℕ, ◌<◌, true, cond, not, Option, Some, None, List, [], ◌∷◌, ◌++◌, length, get_or, refl, sym, ap, subst, ◌∙◌, arith, inl, inr}
use Rattle.std.specs.Prelude.{MatchOption}
use Rattle.std.proofs.lemmas.List.Elements.{All-get_or}
use Rattle.std.proofs.Math.Logic.{⊎_elim}
use Rattle.object_layout.specs.declared.names.Name.{Name}
use Rattle.object_layout.specs.declared.calls.Call.TheVariants as call
use Rattle.object_layout.specs.declared.replies.Reply.{Reply}
use Rattle.object_layout.specs.declared.replies.Reply.TheVariants as reply
use Rattle.object_layout.specs.declared.replies.Refusal.{Refusal}
use Rattle.object_layout.specs.declared.replies.Refusal.TheVariants as refusal
use Rattle.heap_words.specs.declared.map.Areas.{Areas}
use Rattle.heap_words.specs.declared.TheConstants.{STACK_SLOTS}
use Rattle.heap_words.specs.Map.{HasRegion, HasThread, IsAreas}
use Rattle.heap_words.specs.Contents.{Contents, stack_of, with_stack}
use Rattle.epoch_lattice.specs.declared.Space.{Space}
use Rattle.epoch_lattice.specs.declared.Space.TheVariants.{Region}
use Rattle.yak_model.specs.declared.datum.Datum.{Datum}
use Rattle.yak_model.specs.declared.datum.Datum.TheVariants as datum
use Rattle.yak_model.specs.Graph.{fields_at, is_bad_field, is_bad_slot, is_reference, is_stack_full, push, slot_of}
use Rattle.yak_model.specs.Graph as graph
use Rattle.yak_model.specs.Packed.{IsSpaceOf}
use Rattle.yak_model.specs.Spaces.{SpaceState}
use Rattle.yak_model.specs.State.{IsDatum, IsOpen, Thing, object_of, view}
use Rattle.yak_model.specs.Placed.{datum_word}
use Rattle.yak_model.specs.Stands.{Stands}
use Rattle.yak_model.specs.Recorded.{IsReader, RecordedAs}
use Rattle.yak_model.proofs.Data.{object_fields, some-of}
use Rattle.yak_model.proofs.Stacks.{stack_length}
use Rattle.standing_calls.specs.Turned.{Turned}
use Rattle.standing_calls.specs.Fields.{IsFieldOf}
use Rattle.standing_calls.specs.Records.{AreAlikeOthers, IsLoaded, IsOther, IsWordOf, MarksReader, SetsBit, home_at}
use Rattle.standing_calls.specs.Room.{SameRoom}
use Rattle.standing_calls.proofs.Homes.{home-open, home-shown}
use Rattle.standing_calls.proofs.Marks.{ReadersFit, marked, now_reader, recorded-marked, stands-reread}
use Rattle.standing_calls.proofs.Reached.{no_more}
use Rattle.standing_calls.proofs.Recorded.{IsRead, keeps_all, same_records}
use Rattle.standing_calls.proofs.Steps.{Pushes, beyond, not-idle, pushes, same_room, thread_in}

-- a heap word that is a field is the word of its value
abbrev pub field_word : (m : Areas) (c : Contents) (s : SpaceState) (h : Stands m c s) (t k f a w : ℕ) → IsFieldOf s h.places.at t k f a → w ≡ get_or c.heap a 0 → IsWordOf s h.places.at w
field_word m c s h t k f a w p is =
    let values : fields_at s.graph (slot_of s.graph t k) ≡ p.thing.fields = ap (fields_at s.graph) p.refers ∙ object_fields s p.name p.thing p.present in
    let same : get_or (fields_at s.graph (slot_of s.graph t k)) f datum.Null ≡ get_or p.thing.fields f datum.Null = ap (λ (vs : List Datum). get_or vs f datum.Null) values in
    record {
      value = get_or (fields_at s.graph (slot_of s.graph t k)) f datum.Null;
      fits = subst (IsDatum (object_of s)) (sym same) (All-get_or (IsDatum (object_of s)) p.thing.fields f datum.Null p.within (h.stands.closed.fields p.name p.thing p.present).0);
      laid = is ∙ ap (λ x. get_or c.heap x 0) p.place ∙ (h.stands.heap.held p.name p.thing p.present).fields f p.within ∙ ap (datum_word h.places.at) (sym same);
    }

-- the object of a value that has a space
one_space : (x y : Space) → Some x ≡ Some y → x ≡ y
one_space x y e = cc

no_space : (x : Space) → None ≡ Some x → ⊥
no_space x e = cc

pub value_thing : (s : SpaceState) (v : Datum) (x : Space) → IsDatum (object_of s) v → home_at s v ≡ Some x → (n : Name) × (o : Thing) × (object_of s n ≡ Some o) × (o.home ≡ x)
value_thing s datum.Null x fits e = absurd (no_space x e)
value_thing s (datum.Int i) x fits e = absurd (no_space x e)
value_thing s (datum.Object n) x fits e =
    let p = some-of (object_of s n) fits in
    (n, p.0, p.1, one_space p.0.home x (sym (home-shown s n p.0 p.1) ∙ e))

same_region : (u d x e : ℕ) → Some (Region u d) ≡ Some (Region x e) → (u ≡ x) × (d ≡ e)
same_region u d x e h = (cc, cc)

-- the words with other readers
abbrev reading : Contents → List (List ℕ) → Contents
reading c rs = record c { readers = rs }

-- a value is read that makes the thread a reader
marks-read : (m : Areas) (c : Contents) (rs : List (List ℕ)) (s : SpaceState) (h : Stands m c s) (t : ℕ) (v : Datum) (sp : Option Space) → IsAreas m → ReadersFit m c.readers → sp ≡ home_at s v
    → ((u : ℕ) × (d : ℕ) × (sp ≡ Some (Region u d)) × (u ≢ t) × (rs ≡ marked c.readers t u d)) ⊎ ((IsOther t sp → ⊥) × (rs ≡ c.readers)) → IsRead (reading c rs) (view s) t v
marks-read m c rs s h t v sp areas fit told marks = λ u d x p ev ex home ne.
    let region : sp ≡ Some (Region u d) = told ∙ ap (home_at s) ev ∙ home-shown s x p ex ∙ ap (λ (y : Space). Some y) home in
    let own : HasRegion m u d = subst (IsSpaceOf m) home (home-open m c s h x p areas ex).1 in
    ⊎_elim
    (λ (y : (u' : ℕ) × (d' : ℕ) × (sp ≡ Some (Region u' d')) × (u' ≢ t) × (rs ≡ marked c.readers t u' d')).
    let same = same_region y.0 y.1 u d (sym y.2 ∙ region) in
    let is : rs ≡ marked c.readers t u d = y.4 ∙ ap (λ i. marked c.readers t i y.1) same.0 ∙ ap (λ i. marked c.readers t u i) same.1 in
    subst (λ r. IsReader r t u d) (sym is) (now_reader m c.readers t u d fit own))
    (λ (y : (IsOther t sp → ⊥) × (rs ≡ c.readers)). absurd (y.0 (u, d, region, ne)))
    marks

-- what was recorded still is
marks-recorded : (m : Areas) (c : Contents) (rs : List (List ℕ)) (s : SpaceState) (h : Stands m c s) (t : ℕ) (v : Datum) (sp : Option Space) → IsAreas m → ReadersFit m c.readers → IsDatum (object_of s) v → sp ≡ home_at s v
    → ((u : ℕ) × (d : ℕ) × (sp ≡ Some (Region u d)) × (u ≢ t) × (rs ≡ marked c.readers t u d)) ⊎ ((IsOther t sp → ⊥) × (rs ≡ c.readers)) → RecordedAs m c (view s) h.places.at → RecordedAs m (reading c rs) (view s) h.places.at
marks-recorded m c rs s h t v sp areas fit fits told marks r = ⊎_elim
    (λ (y : (u' : ℕ) × (d' : ℕ) × (sp ≡ Some (Region u' d')) × (u' ≢ t) × (rs ≡ marked c.readers t u' d')).
    let x = value_thing s v (Region y.0 y.1) fits (sym told ∙ y.2) in
    let own = home-open m c s h x.0 x.1 areas x.2 in
    let open_it : IsOpen (view s).depths (Region y.0 y.1) = subst (IsOpen (view s).depths) x.3 own.0 in
    let here : HasRegion m y.0 y.1 = subst (IsSpaceOf m) x.3 own.1 in
    subst (λ (q : List (List ℕ)). RecordedAs m (reading c q) (view s) h.places.at) (sym y.4) (recorded-marked m c (view s) h.places.at t y.0 y.1 fit here open_it.3 r))
    (λ (y : (IsOther t sp → ⊥) × (rs ≡ c.readers)). subst (λ (q : List (List ℕ)). RecordedAs m (reading c q) (view s) h.places.at) (sym y.1) r)
    marks

-- what a load pushes, over a state
load_pushes : (m : Areas) (c d : Contents) (t k f a w : ℕ) (sp : Option Space) → HasThread m t → IsAreas m → ReadersFit m c.readers → length (stack_of c t) < STACK_SLOTS → w ≡ get_or c.heap a 0 → d ≡ record (with_stack c t (stack_of c t ++ w ∷ [])) { readers = d.readers } → MarksReader c d t sp → (s : SpaceState) (h : Stands m c s) (p : IsFieldOf s h.places.at t k f a) → (let v = get_or (fields_at s.graph (slot_of s.graph t k)) f datum.Null in sp ≡ home_at s v → (let x : Contents = reading c d.readers in let h' : Stands m x s = record { whole = h.whole; places = h.places; stands = stands-reread m c (view s) h.places d.readers h.stands } in Pushes m x d s h' t v reply.Ok))
load_pushes m c d t k f a w sp ht areas fit room is changed marks s h p told =
    let v : Datum = get_or (fields_at s.graph (slot_of s.graph t k)) f datum.Null in
    let word : IsWordOf s h.places.at w = field_word m c s h t k f a w p is in
    let h' : Stands m (reading c d.readers) s = record { whole = h.whole; places = h.places; stands = stands-reread m c (view s) h.places d.readers h.stands } in
    pushes m (reading c d.readers) d s h' t w v reply.Ok ht word.fits word.laid (λ r. marks-read m c d.readers s h t v sp areas fit told marks) (inl (room, refl, changed))

-- the word is pushed, and the thread becomes a reader where it must
load_room : (m : Areas) (c d : Contents) (t k f a w : ℕ) → HasThread m t → IsAreas m → ReadersFit m c.readers → length (stack_of c t) < STACK_SLOTS → ((s : SpaceState) (h : Stands m c s) → IsFieldOf s h.places.at t k f a) → w ≡ get_or c.heap a 0
    → d ≡ record (with_stack c t (stack_of c t ++ w ∷ [])) { readers = d.readers } → ((s : SpaceState) (h : Stands m c s) (v : IsWordOf s h.places.at w) → MarksReader c d t (home_at s v.value)) → Turned m c d t (call.Load k f) reply.Ok
load_room m c d t k f a w ht areas fit room field is changed reader = record {
  turns = λ s h.
      let p = field s h in
      let v : Datum = get_or (fields_at s.graph (slot_of s.graph t k)) f datum.Null in
      let word : IsWordOf s h.places.at w = field_word m c s h t k f a w p is in
      let q = load_pushes m c d t k f a w (home_at s v) ht areas fit room is changed (reader s h word) s h p refl in
      let e = no_more (is_bad_slot s.graph t k) (not (is_reference (slot_of s.graph t k))) (is_bad_field s.graph t k f) refusal.BadSlot refusal.NotAReference refusal.BadField (cond (is_stack_full s.graph t) (Some refusal.StackFull) None) p.reached in
      (q.0, (q.0, (thread_in m c s h t ht, subst (λ (o : Option Refusal). MatchOption o ((reply.Ok ≡ reply.Ok) × (q.0.graph ≡ push s.graph t v)) (λ why. (reply.Ok ≡ reply.Refused why) × (q.0.graph ≡ s.graph))) (sym e) q.1, q.2, tt), refl), q.3.0, λ r. q.3.1 (marks-recorded m c d.readers s h t v (home_at s v) areas fit word.fits refl (reader s h word) r));
  kept = λ s h.
      let v : Datum = get_or (fields_at s.graph (slot_of s.graph t k)) f datum.Null in
      let word : IsWordOf s h.places.at w = field_word m c s h t k f a w (field s h) is in
      (load_pushes m c d t k f a w (home_at s v) ht areas fit room is changed (reader s h word) s h (field s h) refl).3.2;
  room = subst (SameRoom c) (sym changed) (record { claims = refl; pooled = refl; pool = refl; table = refl; currents = refl });
  records = λ s h.
      record {
        filed = record { firsts = ap (λ (x : Contents). x.firsts) changed; sets = ap (λ (x : Contents). x.sets) changed };
        buffers = ap (λ (x : Contents). x.buffers) changed;
        reader = reader s h (field_word m c s h t k f a w (field s h) is);
      };
  idle = λ i. absurd (not-idle (call.Load k f) reply.Ok (λ no. no) (λ why q. cc) i);
}

-- the stack is full
load_full : (m : Areas) (c : Contents) (t k f a : ℕ) → HasThread m t → length (stack_of c t) ≡ STACK_SLOTS → ((s : SpaceState) (h : Stands m c s) → IsFieldOf s h.places.at t k f a) → Turned m c c t (call.Load k f) (reply.Refused refusal.StackFull)
load_full m c t k f a ht full field = record {
  turns = λ s h.
      let test : is_stack_full s.graph t ≡ true = beyond STACK_SLOTS (length (graph.stack_of s.graph t)) (omega (arith, full, stack_length m c s h t)) in
      let e = no_more (is_bad_slot s.graph t k) (not (is_reference (slot_of s.graph t k))) (is_bad_field s.graph t k f) refusal.BadSlot refusal.NotAReference refusal.BadField (cond (is_stack_full s.graph t) (Some refusal.StackFull) None) (field s h).reached in
      let refused : cond (is_stack_full s.graph t) (Some refusal.StackFull) None ≡ Some refusal.StackFull = rw test refl in
      (s, (s, (thread_in m c s h t ht, rw (e ∙ refused) (refl, refl), refl, tt), refl), h, λ r. r);
  kept = λ s h. keeps_all (view s) h.places.at;
  room = same_room c;
  records = λ s h. same_records c;
  idle = λ i. refl;
}

-- what is no region of another thread is marked alike
marks_alike : (c d : Contents) (t : ℕ) (told space : Option Space) → AreAlikeOthers t told space → MarksReader c d t told → MarksReader c d t space
marks_alike c d t told space alike marks = ⊎_elim
    (λ (e : told ≡ space). subst (MarksReader c d t) e marks)
    (λ (no : (IsOther t told → ⊥) × (IsOther t space → ⊥)). ⊎_elim
    (λ (y : (u : ℕ) × (e : ℕ) × (told ≡ Some (Region u e)) × (u ≢ t) × SetsBit c d t u e). absurd (no.0 (y.0, y.1, y.2, y.3)))
    (λ (z : (IsOther t told → ⊥) × (d.readers ≡ c.readers)). inr (no.1, z.1))
    marks)
    alike

-- where one thread is alone, no home is a region of another one
pub alone : (m : Areas) (c : Contents) (s : SpaceState) (h : Stands m c s) (t : ℕ) (v : Datum) → HasThread m t → IsAreas m → m.threads ≡ 1 → IsDatum (object_of s) v → IsOther t (home_at s v) → ⊥
alone m c s h t v ht areas one fits other =
    let x = value_thing s v (Region other.0 other.1) fits other.2 in
    let own = home-open m c s h x.0 x.1 areas x.2 in
    let here : HasRegion m other.0 other.1 = subst (IsSpaceOf m) x.3 own.1 in
    other.3 (omega (arith, here.0, here.1, ht.0, ht.1, one))

pub load_turns : (m : Areas) (c d : Contents) (t k f a w : ℕ) (sp : Option Space) (r : Reply) → HasThread m t → IsAreas m → ReadersFit m c.readers → ((s : SpaceState) (h : Stands m c s) → IsFieldOf s h.places.at t k f a) → w ≡ get_or c.heap a 0
    → ((s : SpaceState) (h : Stands m c s) (v : IsWordOf s h.places.at w) → AreAlikeOthers t sp (home_at s v.value)) → IsLoaded c d t w sp r → Turned m c d t (call.Load k f) r
load_turns m c d t k f a w sp r ht areas fit field is spaces loaded = ⊎_elim
    (λ (p : (length (stack_of c t) < STACK_SLOTS) × (r ≡ reply.Ok) × (d ≡ record (with_stack c t (stack_of c t ++ w ∷ [])) { readers = d.readers }) × MarksReader c d t sp).
    subst (λ (q : Reply). Turned m c d t (call.Load k f) q) (sym p.1) (load_room m c d t k f a w ht areas fit p.0 field is p.2 (λ s h v. marks_alike c d t sp (home_at s v.value) (spaces s h v) p.3)))
    (λ (p : (length (stack_of c t) ≡ STACK_SLOTS) × (r ≡ reply.Refused refusal.StackFull) × (d ≡ c)).
    subst (λ (q : Reply). Turned m c d t (call.Load k f) q) (sym p.1) (subst (λ (x : Contents). Turned m c x t (call.Load k f) (reply.Refused refusal.StackFull)) (sym p.2) (load_full m c t k f a ht p.0 field)))
    loaded
