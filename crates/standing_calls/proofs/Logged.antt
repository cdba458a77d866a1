-- Slots that are recorded, over what is shown of states.
use Rattle.std.proofs.Common.{◌≡◌, ◌⊎◌, inl, inr, ℕ, zero, suc, ◌+◌, ◌-◌, ◌<◌, Result, Ok, Err, true, List, [], ◌∷◌, ◌++◌, length, get_or, set, replicate, refl, sym, ap, subst, ◌∙◌, arith}
use Rattle.std.specs.Prelude.{MatchResult}
use Rattle.std.specs.List.{Contains}
use Rattle.std.proofs.Math.Logic.{⊎_elim}
use Rattle.std.proofs.lemmas.List.{get_or-replicate, length-replicate}
use Rattle.std.proofs.lemmas.List.Elements.{Contains-append_left, Contains-append_right, Contains-append_cases}
use Rattle.object_layout.specs.declared.names.Name.{Name}
use Rattle.object_layout.specs.declared.TheConstants.{OBJECT_WORDS}
use Rattle.heap_words.specs.declared.map.Areas.{Areas}
use Rattle.heap_words.specs.declared.TheConstants.{BUFFER_ENTRIES}
use Rattle.heap_words.specs.Map.{HasThread, IsAreas}
use Rattle.heap_words.specs.Contents.{Contents, buffer_of, with_buffer}
use Rattle.epoch_lattice.specs.declared.Space.{Space}
use Rattle.yak_model.specs.Spaces.{SpaceState}
use Rattle.yak_model.specs.State.{State, object_of, view}
use Rattle.yak_model.specs.Placed.{Places}
use Rattle.yak_model.specs.Stands.{HeadsClosed, Stands, StandsAs}
use Rattle.yak_model.specs.Chains.{IsRegionOf, chain_of}
use Rattle.yak_model.specs.Recorded.{IsField, IsReader, IsRecorded, IsRecordedFor, RecordedAs, SomeRecorded}
use Rattle.yak_model.proofs.Chains.{contains-or}
use Rattle.remember_sets.specs.Filed.{BuffersHold, ChainsBecome, SetsHold, all_filed, chain, enters, logged, with_no_logs, with_sets}
use Rattle.remember_sets.proofs.Entering.{Enter, enters-since}
use Rattle.remember_sets.proofs.Folded.{all_filed-has}
use Rattle.region_pages.proofs.Claims.{Contains-cases, Contains-front}
use Rattle.standing_calls.proofs.Closed.{filed-closed}
use Rattle.standing_calls.proofs.FieldSlots.{crossing-enters}
use Rattle.standing_calls.proofs.Homes.{home-region, home-valid}
use Rattle.standing_calls.proofs.Logs.{buffers-told, entries_of, no_entry, pages-told, sets-told}
use Rattle.standing_calls.specs.Records.{FilesBefore, Logs, LogsHold, LogsInto, SameFiled, SameRecords}

-- ---- entries of buffers

abbrev nil : List ℕ
nil = []

one_of : (a x : ℕ) → Contains (a ∷ []) x → x ≡ a
one_of a x h = ⊎_elim (λ (e : a ≡ x). sym e) (λ (i : Contains [] x). let lt : i.0 < 0 = i.1 in absurd (omega (arith, lt))) (Contains-cases [] a x h)

-- one entry more in one of the buffers
more_forth : (bs : List (List ℕ)) (i a x : ℕ) → i < length bs → Contains (entries_of (set bs i (get_or bs i [] ++ a ∷ []))) x → Contains (entries_of bs) x ⊎ (x ≡ a)
more_forth [] i a x lt h = absurd (omega arith)
more_forth (b ∷ bs) zero a x lt h = ⊎_elim
    (λ (f : Contains (b ++ a ∷ []) x). ⊎_elim (λ (l : Contains b x). inl (Contains-append_left b (entries_of bs) x l)) (λ (r : Contains (a ∷ []) x). inr (one_of a x r)) (Contains-append_cases b (a ∷ []) x f))
    (λ (f : Contains (entries_of bs) x). inl (Contains-append_right b (entries_of bs) x f))
    (Contains-append_cases (b ++ a ∷ []) (entries_of bs) x h)
more_forth (b ∷ bs) (suc i) a x lt h = ⊎_elim
    (λ (f : Contains b x). inl (Contains-append_left b (entries_of bs) x f))
    (λ (f : Contains (entries_of (set bs i (get_or bs i [] ++ a ∷ []))) x). ⊎_elim (λ (l : Contains (entries_of bs) x). inl (Contains-append_right b (entries_of bs) x l)) (λ (r : x ≡ a). inr r) (more_forth bs i a x (omega (arith, lt)) f))
    (Contains-append_cases b (entries_of (set bs i (get_or bs i [] ++ a ∷ []))) x h)

more_back : (bs : List (List ℕ)) (i a x : ℕ) → i < length bs → Contains (entries_of bs) x ⊎ (x ≡ a) → Contains (entries_of (set bs i (get_or bs i [] ++ a ∷ []))) x
more_back [] i a x lt h = absurd (omega arith)
more_back (b ∷ bs) zero a x lt h = ⊎_elim
    (λ (f : Contains (entries_of (b ∷ bs)) x). ⊎_elim
    (λ (l : Contains b x). Contains-append_left (b ++ a ∷ []) (entries_of bs) x (Contains-append_left b (a ∷ []) x l))
    (λ (r : Contains (entries_of bs) x). Contains-append_right (b ++ a ∷ []) (entries_of bs) x r)
    (Contains-append_cases b (entries_of bs) x f))
    (λ (e : x ≡ a). Contains-append_left (b ++ a ∷ []) (entries_of bs) x (Contains-append_right b (a ∷ []) x (subst (Contains (a ∷ [])) (sym e) (Contains-front [] a))))
    h
more_back (b ∷ bs) (suc i) a x lt h = ⊎_elim
    (λ (f : Contains (entries_of (b ∷ bs)) x). ⊎_elim
    (λ (l : Contains b x). Contains-append_left b (entries_of (set bs i (get_or bs i [] ++ a ∷ []))) x l)
    (λ (r : Contains (entries_of bs) x). Contains-append_right b (entries_of (set bs i (get_or bs i [] ++ a ∷ []))) x (more_back bs i a x (omega (arith, lt)) (inl r)))
    (Contains-append_cases b (entries_of bs) x f))
    (λ (e : x ≡ a). Contains-append_right b (entries_of (set bs i (get_or bs i [] ++ a ∷ []))) x (more_back bs i a x (omega (arith, lt)) (inr e)))
    h

-- ---- what is recorded afterwards

abbrev recorded_in : Areas → Contents → ℕ → Type 0
recorded_in m c a = IsRecorded m c.firsts c.sets c.buffers a

abbrev recorded_for : Areas → Contents → Space → ℕ → Type 0
recorded_for m c x a = IsRecordedFor m c.firsts c.sets c.buffers x a

-- the chains as they were
chain-same : (m : Areas) (c d : Contents) (x : Space) → SameFiled c d → chain m d x ≡ chain m c x
chain-same m c d x same = ap (λ (fs : List (List ℕ)). chain_of m fs d.sets x) same.firsts ∙ ap (λ (ss : List ℕ). chain_of m c.firsts ss x) same.sets

-- a slot is put into a buffer
into-forth : (m : Areas) (c d : Contents) (t a b : ℕ) → t - 1 < length c.buffers → LogsInto c d t a → recorded_in m d b → recorded_in m c b ⊎ (b ≡ a)
into-forth m c d t a b lt l h = ⊎_elim
    (λ (f : (x : Space) × IsRegionOf m x × Contains (chain m d x) b). inl (inl (f.0, f.1, subst (λ (k : List ℕ). Contains k b) (chain-same m c d f.0 l.filed) f.2)))
    (λ (f : Contains (entries_of d.buffers) b). ⊎_elim (λ (g : Contains (entries_of c.buffers) b). inl (inr g)) (λ (e : b ≡ a). inr e) (more_forth c.buffers (t - 1) a b lt (subst (λ (bs : List (List ℕ)). Contains (entries_of bs) b) l.buffers f)))
    h

into-back : (m : Areas) (c d : Contents) (t a b : ℕ) (x : Space) → t - 1 < length c.buffers → LogsInto c d t a → recorded_for m c x b → recorded_for m d x b
into-back m c d t a b x lt l h = ⊎_elim
    (λ (f : Contains (chain m c x) b). inl (subst (λ (k : List ℕ). Contains k b) (sym (chain-same m c d x l.filed)) f))
    (λ (f : Contains (entries_of c.buffers) b). inr (subst (λ (bs : List (List ℕ)). Contains (entries_of bs) b) (sym l.buffers) (more_back c.buffers (t - 1) a b lt (inl f))))
    h

-- the buffers, of which all were emptied and one has got an entry
files_buffers : (m : Areas) (c d : Contents) (t a : ℕ) → HasThread m t → FilesBefore m c d t a → entries_of d.buffers ≡ entries_of (set (replicate m.threads nil) (t - 1) (get_or (replicate m.threads nil) (t - 1) [] ++ a ∷ []))
files_buffers m c d t a ht l =
    let empty : get_or (replicate m.threads nil) (t - 1) [] ≡ [] = get_or-replicate m.threads (t - 1) nil [] (omega (arith, ht.0, ht.1)) in
    ap entries_of (l.buffers ∙ ap (λ (es : List ℕ). set (replicate m.threads nil) (t - 1) (es ++ a ∷ [])) (sym empty))

among : (m : Areas) (t : ℕ) → HasThread m t → t - 1 < length (replicate m.threads nil)
among m t ht = omega (arith, ht.0, ht.1, length-replicate m.threads nil)

-- a slot is put into a buffer after all were filed
files-forth : (m : Areas) (c d : Contents) (t a b : ℕ) → HasThread m t → FilesBefore m c d t a → recorded_in m d b → recorded_in m c b ⊎ (b ≡ a)
files-forth m c d t a b ht l h = ⊎_elim
    (λ (f : (x : Space) × IsRegionOf m x × Contains (chain m d x) b).
    let was : Contains (all_filed m c f.0 (logged c) (chain m c f.0)) b = subst (λ (k : List ℕ). Contains k b) (l.filed f.0 f.1) f.2 in
    ⊎_elim (λ (p : Contains (logged c) b × (enters m c f.0 b ≡ true)). inl (inr p.0)) (λ (p : (Contains (logged c) b → ⊥) × Contains (chain m c f.0) b). inl (inl (f.0, f.1, p.1))) ((all_filed-has m c f.0 (logged c) (chain m c f.0) b).0 was))
    (λ (f : Contains (entries_of d.buffers) b). ⊎_elim (λ (g : Contains (entries_of (replicate m.threads nil)) b). absurd (no_entry m.threads b g)) (λ (e : b ≡ a). inr e) (more_forth (replicate m.threads nil) (t - 1) a b (among m t ht) (subst (λ (k : List ℕ). Contains k b) (files_buffers m c d t a ht l) f)))
    h

files-back : (m : Areas) (c d : Contents) (t a b : ℕ) (x : Space) → IsRegionOf m x → FilesBefore m c d t a → Enter m c x b → recorded_for m c x b → recorded_for m d x b
files-back m c d t a b x r l enter h =
    let now : Contains (all_filed m c x (logged c) (chain m c x)) b = (all_filed-has m c x (logged c) (chain m c x) b).1 (⊎_elim
    (λ (f : Contains (logged c) b). inl (f, enters-since m c x b enter))
    (λ (no : Contains (logged c) b → ⊥). inr (no, ⊎_elim (λ (f : Contains (chain m c x) b). f) (λ (f : Contains (logged c) b). absurd (no f)) h))
    (contains-or b (logged c))) in
    inl (subst (λ (k : List ℕ). Contains k b) (sym (l.filed x r)) now)

-- the new slot is recorded
pub slot_recorded : (m : Areas) (c d : Contents) (t a : ℕ) (x : Space) → HasThread m t → length c.buffers ≡ m.threads → Logs m c d t a → IsRecordedFor m d.firsts d.sets d.buffers x a
slot_recorded m c d t a x ht long logs = ⊎_elim
    (λ (l : LogsInto c d t a). inr (subst (λ (bs : List (List ℕ)). Contains (entries_of bs) a) (sym l.buffers) (more_back c.buffers (t - 1) a a (omega (arith, long, ht.0, ht.1)) (inr refl))))
    (λ (l : FilesBefore m c d t a). inr (subst (λ (k : List ℕ). Contains k a) (sym (files_buffers m c d t a ht l)) (more_back (replicate m.threads nil) (t - 1) a a (among m t ht) (inr refl))))
    logs

-- the readers are as they were
reads-same : (c d : Contents) (t u e : ℕ) → d.readers ≡ c.readers → IsReader c.readers t u e → IsReader d.readers t u e
reads-same c d t u e same r = subst (λ rs. IsReader rs t u e) (sym same) r

closed-same : (c d : Contents) (u e : ℕ) → d.readers ≡ c.readers → get_or (get_or c.readers (u - 1) []) (e - 1) 0 ≡ 0 → get_or (get_or d.readers (u - 1) []) (e - 1) 0 ≡ 0
closed-same c d u e same r = ap (λ (rs : List (List ℕ)). get_or (get_or rs (u - 1) []) (e - 1) 0) same ∙ r

-- a field's slot is put into a buffer, and what was recorded still is
pub recorded-into : (m : Areas) (c d : Contents) (s : State) (at : Name → ℕ) (t a : ℕ) → HasThread m t → length c.buffers ≡ m.threads → LogsInto c d t a → d.readers ≡ c.readers → IsField at s a → RecordedAs m c s at → RecordedAs m d s at
recorded-into m c d s at t a ht long l same field r =
    let lt : t - 1 < length c.buffers = omega (arith, long, ht.0, ht.1) in
    record {
      crossing = λ n x o p f en lf e ex enters. into-back m c d t a (at n + OBJECT_WORDS + f) p.home lt l (r.crossing n x o p f en lf e ex enters);
      fields = λ b h. ⊎_elim (λ (g : recorded_in m c b). r.fields b g) (λ (e : b ≡ a). subst (IsField at s) (sym e) field) (into-forth m c d t a b lt l h);
      read = λ v u e k x p hv hm hk q ex home ne. reads-same c d v u e same (r.read v u e k x p hv hm hk q ex home ne);
      closed = λ u e hu hm he lc. closed-same c d u e same (r.closed u e hu hm he lc);
    }

-- the same where all buffers were filed before
pub recorded-filed : (m : Areas) (c d : Contents) (s : SpaceState) (h : Stands m c s) (t a : ℕ) → IsAreas m → HasThread m t → FilesBefore m c d t a → d.readers ≡ c.readers → IsField h.places.at (view s) a → RecordedAs m c (view s) h.places.at → RecordedAs m d (view s) h.places.at
recorded-filed m c d s h t a areas ht l same field r = record {
  crossing = λ n x o p f en lf e ex enters.
      files-back m c d t a (h.places.at n + OBJECT_WORDS + f) p.home (home-region m c s h x p areas ex enters.0) l (crossing-enters m c (object_of s) h.places (λ _. 0) n x o p f h.stands.heap (home-valid m c s h) en lf e ex enters) (r.crossing n x o p f en lf e ex enters);
  fields = λ b g. ⊎_elim (λ (k : recorded_in m c b). r.fields b k) (λ (e : b ≡ a). subst (IsField h.places.at (view s)) (sym e) field) (files-forth m c d t a b ht l g);
  read = λ v u e k x p hv hm hk q ex home ne. reads-same c d v u e same (r.read v u e k x p hv hm hk q ex home ne);
  closed = λ u e hu hm he lc. closed-same c d u e same (r.closed u e hu hm he lc);
}

-- a field's slot is recorded, and what was recorded still is
pub recorded-logged : (m : Areas) (c d : Contents) (s : SpaceState) (h : Stands m c s) (t a : ℕ) → IsAreas m → HasThread m t → length c.buffers ≡ m.threads → Logs m c d t a → d.readers ≡ c.readers → IsField h.places.at (view s) a → RecordedAs m c (view s) h.places.at → RecordedAs m d (view s) h.places.at
recorded-logged m c d s h t a areas ht long logs same field r = ⊎_elim
    (λ (l : LogsInto c d t a). recorded-into m c d (view s) h.places.at t a ht long l same field r)
    (λ (l : FilesBefore m c d t a). recorded-filed m c d s h t a areas ht l same field r)
    logs

-- nothing is recorded anew
pub recorded-same : (m : Areas) (c d : Contents) (s : State) (at : Name → ℕ) → SameRecords c d → RecordedAs m c s at → RecordedAs m d s at
recorded-same m c d s at same r = record {
  crossing = λ n x o p f en lt e ex enters. ⊎_elim
      (λ (k : Contains (chain m c p.home) (at n + OBJECT_WORDS + f)). inl (subst (λ (l : List ℕ). Contains l (at n + OBJECT_WORDS + f)) (sym (chain-same m c d p.home same.filed)) k))
      (λ (k : Contains (entries_of c.buffers) (at n + OBJECT_WORDS + f)). inr (subst (λ (bs : List (List ℕ)). Contains (entries_of bs) (at n + OBJECT_WORDS + f)) (sym same.buffers) k))
      (r.crossing n x o p f en lt e ex enters);
  fields = λ b h. r.fields b (⊎_elim
      (λ (k : (x : Space) × IsRegionOf m x × Contains (chain m d x) b). inl (k.0, k.1, subst (λ (l : List ℕ). Contains l b) (chain-same m c d k.0 same.filed) k.2))
      (λ (k : Contains (entries_of d.buffers) b). inr (subst (λ (bs : List (List ℕ)). Contains (entries_of bs) b) same.buffers k))
      h);
  read = λ v u e k x p hv hm hk q ex home ne. reads-same c d v u e same.readers (r.read v u e k x p hv hm hk q ex home ne);
  closed = λ u e hu hm he lt. closed-same c d u e same.readers (r.closed u e hu hm he lt);
}

-- regions that aren't open have no recorded slots where a slot was recorded
pub closed-logged : (m : Areas) (c d : Contents) (s : State) (l : Places) (t a : ℕ) → StandsAs m c s l → BuffersHold m c → SetsHold m d → Logs m c d t a → HeadsClosed m d.firsts s.depths
closed-logged m c d s l t a h buffers sets logs = ⊎_elim
    (λ (k : LogsInto c d t a). subst (λ (fs : List (List ℕ)). HeadsClosed m fs s.depths) (sym k.filed.firsts) h.heads_closed)
    (λ (k : FilesBefore m c d t a). filed-closed m c d s l h buffers sets k.filed)
    logs

-- ---- a slot is put into a buffer after all were filed

pub after_filing : {F : Type 0} (m : Areas) (c e d : Contents) (t a : ℕ) (r : Result (Unit {0}) F) (same : Type 0) → HasThread m t → length (buffer_of c t) ≡ BUFFER_ENTRIES → ChainsBecome m c e (λ x slots. all_filed m c x (logged c) slots) → e ≡ with_no_logs m (with_sets c e)
    → MatchResult r (λ _. (length (buffer_of e t) < BUFFER_ENTRIES) × (d ≡ with_buffer e t (buffer_of e t ++ a ∷ []))) (λ _. (length (buffer_of e t) ≡ BUFFER_ENTRIES) × same) → FilesBefore m c d t a
after_filing m c e d t a (Ok x) same ht full filed others done =
    let buffers : e.buffers ≡ replicate m.threads [] = ap (λ (y : Contents). y.buffers) others in
    let empty : buffer_of e t ≡ [] = ap (λ (bs : List (List ℕ)). get_or bs (t - 1) []) buffers ∙ get_or-replicate m.threads (t - 1) nil [] (omega (arith, ht.0, ht.1)) in
    let same_filed : SameFiled e d = record { firsts = ap (λ (y : Contents). y.firsts) done.1; sets = ap (λ (y : Contents). y.sets) done.1 } in
    record {
      full = full;
      filed = λ y r. chain-same m e d y same_filed ∙ filed y r;
      buffers = ap (λ (y : Contents). y.buffers) done.1 ∙ ap (λ (es : List ℕ). set e.buffers (t - 1) (es ++ a ∷ [])) empty ∙ ap (λ (bs : List (List ℕ)). set bs (t - 1) (a ∷ [])) buffers;
    }
after_filing m c e d t a (Err x) same ht full filed others done =
    let buffers : e.buffers ≡ replicate m.threads [] = ap (λ (y : Contents). y.buffers) others in
    let empty : buffer_of e t ≡ [] = ap (λ (bs : List (List ℕ)). get_or bs (t - 1) []) buffers ∙ get_or-replicate m.threads (t - 1) nil [] (omega (arith, ht.0, ht.1)) in
    absurd (omega (arith, done.0, ap (λ (es : List ℕ). length es) empty))

-- ---- what words that stand for some state show of the slots

pub hold-told : (m : Areas) (c : Contents) → IsAreas m → SomeRecorded m c → LogsHold m c
hold-told m c areas some = (sets-told m c areas some, buffers-told m c some, pages-told m c some)
