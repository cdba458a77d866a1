-- The field of a slot's object, as a call finds it.
use Rattle.std.proofs.Common.{◌≡◌, ℕ, ◌+◌, ◌*◌, ◌≤◌, ◌<◌, List, [], ◌∷◌, ◌++◌, length, refl, sym, ap, subst, ◌∙◌, arith, None, true, append_assoc}
use Rattle.std.proofs.lemmas.List.Elements.{Contains-append_right}
use Rattle.object_layout.specs.declared.TheConstants.{HEADER_BASE, MAX_ADDRESS, MAX_FIELDS, MAX_SPACE, OBJECT_WORDS, SPACE_UNIT}
use Rattle.object_layout.specs.declared.calls.Call.{Call}
use Rattle.object_layout.specs.declared.calls.Call.TheVariants.{Load, Store}
use Rattle.object_layout.specs.declared.headers.Header.{Header}
use Rattle.object_layout.specs.declared.replies.Refusal.{Refusal}
use Rattle.object_layout.specs.declared.replies.Refusal.TheVariants.{BadField, NotAReference, StackFull}
use Rattle.object_layout.specs.declared.replies.Reply.{Reply}
use Rattle.object_layout.specs.declared.replies.Reply.TheVariants.{Ok, Refused}
use Rattle.heap_words.specs.declared.map.Areas.{Areas}
use Rattle.heap_words.specs.declared.TheConstants.{BUFFER_ENTRIES, STACK_SLOTS}
use Rattle.heap_words.specs.Map.{heap_at, heap_length}
use Rattle.epoch_lattice.specs.declared.Space.{Space}
use Rattle.epoch_lattice.specs.Lattice.{space_index}
use Rattle.calls_in_flight.specs.declared.notes.Known.{Known}
use Rattle.calls_in_flight.specs.Actors.{HasHeader, HasMet, MayTell, RefersTo, Shows, learn}
use Rattle.calls_in_flight.specs.Seeing.{IsHeaderIn, slot_told}
use Rattle.calls_in_flight.specs.FieldSteps.{LoadsFrom, StoresInto}
use Rattle.calls_in_flight.specs.Steps.{logged_at, slot_at}
use Rattle.yak_model.specs.Graph.{Thread, is_reference, refusal_of}
use Rattle.yak_model.specs.Spaces.{SpaceState}
use Rattle.calls_in_flight.specs.Flight.{at_rest}
use Rattle.calls_in_flight.specs.OwnStores.{done_by}
use Rattle.safepoint_gate.specs.declared.rule.View.{View}
use Rattle.safepoint_gate.specs.Singles.{IsQuiet, Loaded, acting, actor, loads_of, put_of}
use Rattle.safepoint_gate.specs.Steps.{first_thread}
use Rattle.barriers.specs.Barred.{IsLogFull, LoadsCross, OnlyLoads, StoreBarred}
use Rattle.barriers.specs.Shown.{LoadedSpace, MustRecord, PutsEntry, WasLoaded}
use Rattle.barriers.proofs.StillKnown.{Keeps, keeps-header, keeps-refers, met-shows, refers-to}
use Rattle.barriers.proofs.MovedViews.{loaded-keeps, loaded-met, loaded-word, loads-first, loads-keep, loads-loads, loads-map, loads-put, loads-quiet, loads-then, says-from}
use Rattle.barriers.proofs.Logging.{quiet-none, quiet-rest}
use Rattle.mutator.specs.FieldCalls.{FindsField, ReachesField}
use Rattle.mutator.specs.Quick.{Answered, Answers, AnswersStore, told_by}
use Rattle.mutator.proofs.Answering.{answers_since}
use Rattle.mutator.proofs.FieldTests.{load-full, load-let, no-reference, no-such_field, reaches-call, reaches-quick, slot-nowhere, slot-object, store-let, tells-refusal}

-- a word of the thread's block that was loaded
pub shows-loaded : (v w : View) (place : Areas → ℕ → ℕ) (word : ℕ) → IsQuiet v → Loaded v (place v.map (actor v).thread) None word w → Shows (actor w) (place w.map (actor w).thread) word
shows-loaded v w place word quiet loaded =
    let keeps = loaded-keeps v w (place v.map (actor v).thread) word loaded in
    met-shows (actor w) (place w.map (actor w).thread) word (quiet-none w (loads-quiet v w _ _ loaded.0 quiet))
    (subst (λ p. HasMet (actor w) p word) (λ i. place (sym keeps.map i) (sym keeps.thread i)) (loaded-word v w (place v.map (actor v).thread) word loaded))

pub length-kept : (v w : View) (k : ℕ) → Keeps v.map w.map (actor v) (actor w) → k < length (actor v).told.stack → k < length (actor w).told.stack
length-kept v w k keeps lt = subst (λ (t : Thread). k < length t.stack) (sym keeps.told) lt

-- a call's entry was told by a word that was loaded again
pub told-answered : (u w : View) (asked : Call) (said r : Reply) (place : ℕ) → r ≡ said → (word : ℕ) × Answers u asked said (record { place = place; word = word } ∷ []) w → Answered u asked r w
told-answered u w asked said r place e h = (record { place = place; word = h.0 } ∷ [], subst (λ x. Answers u asked x (record { place = place; word = h.0 } ∷ []) w) (sym e) h.1)

-- after loads
pub answered-since : (v u w : View) (asked : Call) (said : Reply) (more lasting : List Known) → length v.own ≡ 1 → OnlyLoads v more lasting u → Answered u asked said w → Answered v asked said w
answered-since v u w asked said more lasting one is h = (more ++ h.0, answers_since v u w asked said (actor v).flight lasting more h.0 one is h.1)

-- the slot's word was loaded
module _ (v u : View) (s f word : ℕ) (asked : Call) (quiet : IsQuiet v) (lt : s < length (actor v).told.stack) (reaches : ReachesField (length (actor v).told.stack) s f asked) (slot : Loaded v (slot_at v.map (actor v).thread s) None word u) where
  keeps-u : Keeps v.map u.map (actor v) (actor u)
  keeps-u = loaded-keeps v u (slot_at v.map (actor v).thread s) word slot

  quiet-u : IsQuiet u
  quiet-u = loads-quiet v u _ _ slot.0 quiet

  shows-u : Shows (actor u) (slot_at u.map (actor u).thread s) word
  shows-u = shows-loaded v u (λ m t. slot_at m t s) word quiet slot

  lt-u : s < length (actor u).told.stack
  lt-u = length-kept v u s keeps-u lt

  reaches-u : ReachesField (length (actor u).told.stack) s f asked
  reaches-u = subst (λ (t : Thread). ReachesField (length t.stack) s f asked) (sym keeps-u.told) reaches

  pub tells-no_reference : heap_length u.map ≤ MAX_ADDRESS + 1 → ((at : ℕ) → at ≤ MAX_ADDRESS → word ≡ 2 * (at + 1) → ⊥) → MayTell u.map (actor u) (told_by asked (Refused NotAReference))
  tells-no_reference most not =
      let nowhere = slot-nowhere u.map (actor u) slot.1.so.state slot.1.so.sees s word most lt-u shows-u not in
      tells-refusal u.map (actor u) asked NotAReference (reaches-call _ s f asked reaches) (reaches-quick _ s f asked reaches) (quiet-rest u quiet-u)
      (λ g ag. no-reference u.map (actor u) g ag s f asked reaches-u lt-u nowhere)

  module _ (at : ℕ) (e : word ≡ 2 * (at + 1)) where
    pub refers-u : RefersTo u.map (actor u) s at
    refers-u = refers-to u.map (actor u) slot.1.so.state slot.1.so.sees s at word lt-u shows-u e

    -- and the header of its object
    module _ (w : View) (header : ℕ) (loaded : Loaded u (heap_at u.map + at) None header w) where
      keeps-w : Keeps u.map w.map (actor u) (actor w)
      keeps-w = loaded-keeps u w (heap_at u.map + at) header loaded

      pub refers-w : RefersTo w.map (actor w) s at
      refers-w = keeps-refers u.map w.map (actor u) (actor w) keeps-w s at refers-u

      pub met-header : HasMet (actor w) (heap_at w.map + at) header
      met-header = subst (λ (m : Areas). HasMet (actor w) (heap_at m + at) header) (sym keeps-w.map) (loaded-word u w (heap_at u.map + at) header loaded)

      abbrev told : IsHeaderIn w.map header
      told = loaded.1.so.sees.headers s at header refers-w met-header

      abbrev pub the_header : Header
      the_header = record { fields = told.fields; space = space_index told.space }

      has : HasHeader w.map (actor w) at the_header
      has = (told.header, subst (λ x. HasMet (actor w) (heap_at w.map + at) x) told.is_word met-header)

      pub counts : (n : ℕ) → ((fields space : ℕ) → fields ≤ MAX_FIELDS → space ≤ MAX_SPACE → header ≡ HEADER_BASE + SPACE_UNIT * space + fields → n ≡ fields) → n ≡ the_header.fields
      counts n fields = fields told.fields (space_index told.space) told.header.0 told.header.1 told.is_word

      pub tells-no_field : the_header.fields ≤ f → MayTell w.map (actor w) (told_by asked (Refused BadField))
      tells-no_field le =
          let reaches-w : ReachesField (length (actor w).told.stack) s f asked = subst (λ (t : Thread). ReachesField (length t.stack) s f asked) (sym keeps-w.told) reaches-u in
          tells-refusal w.map (actor w) asked BadField (reaches-call _ s f asked reaches) (reaches-quick _ s f asked reaches) (quiet-rest w (loads-quiet u w _ _ loaded.0 quiet-u))
          (λ g ag. no-such_field w.map (actor w) g ag s f at the_header asked reaches-w refers-w (slot-object w.map (actor w) loaded.1.so.state loaded.1.so.sees s at refers-w) has le)

      pub loads-both : OnlyLoads v ((record { place = slot_at v.map (actor v).thread s; word = word } ∷ []) ++ record { place = heap_at u.map + at; word = header } ∷ []) (learn (heap_at u.map + at) header u.lasting) w
      loads-both = loads-then v u w _ _ _ _ slot.0 loaded.0

      pub finds : f < the_header.fields → FindsField v s f at w
      finds below = record {
        more = (record { place = slot_at v.map (actor v).thread s; word = word } ∷ []) ++ record { place = heap_at u.map + at; word = header } ∷ [];
        lasting = learn (heap_at u.map + at) header u.lasting;
        view = loads-both;
        so = loaded.1.so;
        kept = λ p x h. loaded-met u w (heap_at u.map + at) header loaded p x (loaded-met v u (slot_at v.map (actor v).thread s) word slot p x h);
        refers = refers-w;
        header = the_header;
        has = has;
        below = below;
      }

-- ---- a field that was found

module _ (v w : View) (s f at : ℕ) (quiet : IsQuiet v) (found : FindsField v s f at w) where
  pub found-keeps : Keeps v.map w.map (actor v) (actor w)
  found-keeps = loads-keep v w found.more found.lasting found.view found.kept

  pub found-quiet : IsQuiet w
  found-quiet = loads-quiet v w found.more found.lasting found.view quiet

  object : is_reference (slot_told (actor w) s) ≡ true
  object = slot-object w.map (actor w) found.so.state found.so.sees s at found.refers

  within : at + OBJECT_WORDS + f < heap_length w.map
  within =
      let ends : at + OBJECT_WORDS + found.header.fields ≤ heap_length w.map = found.so.sees.ends s at found.header found.refers found.has in
      omega (arith, ends, found.below)

  pub tells-full : STACK_SLOTS ≤ length (actor w).told.stack → MayTell w.map (actor w) (told_by (Load s f) (Refused StackFull))
  tells-full le = tells-refusal w.map (actor w) (Load s f) StackFull tt tt (quiet-rest w found-quiet)
      (λ g ag. load-full w.map (actor w) g ag s f at found.header found.refers object found.has found.below le)

  pub found-loads : length (actor w).told.stack < STACK_SLOTS → LoadsFrom w.map (actor w) (Load s f) at f
  found-loads lt = record {
    slot = s;
    call = refl;
    refers = found.refers;
    within = within;
    let_ = λ g ag. load-let w.map (actor w) g ag s f at found.header found.refers object found.has found.below lt;
    rests = quiet-rest w found-quiet;
  }

  module _ (u : View) (x word : ℕ) (lt : x < length (actor w).told.stack) (loaded : Loaded w (slot_at w.map (actor w).thread x) None word u) where
    keeps-value : Keeps w.map u.map (actor w) (actor u)
    keeps-value = loaded-keeps w u (slot_at w.map (actor w).thread x) word loaded

    refers-value : RefersTo u.map (actor u) s at
    refers-value = keeps-refers w.map u.map (actor w) (actor u) keeps-value s at found.refers

    has-value : HasHeader u.map (actor u) at found.header
    has-value = keeps-header w.map u.map (actor w) (actor u) keeps-value at found.header found.has

    pub found-stores : StoresInto u.map (actor u) (Store s f x) at f word
    found-stores = record {
      slot = s;
      «from» = x;
      call = refl;
      refers = refers-value;
      within = subst (λ (m : Areas). at + OBJECT_WORDS + f < heap_length m) (sym keeps-value.map) within;
      there = length-kept w u x keeps-value lt;
      value = shows-loaded w u (λ m t. slot_at m t x) word found-quiet loaded;
      let_ = λ g ag. store-let u.map (actor u) g ag s f x at found.header refers-value (slot-object u.map (actor u) loaded.1.so.state loaded.1.so.sees s at refers-value) has-value found.below (length-kept w u x keeps-value lt);
    }

-- ---- what a store of a field tells, over loads before it

-- a refusal is no answer that records a slot
pub refused-store : (v w : View) (asked : Call) (said : Reply) → Answered v asked said w → (why : Refusal) × (said ≡ Refused why) → AnswersStore v asked said w
refused-store v w asked said h why = record {
  more = h.0;
  answers = h.1;
  room = λ must ok. absurd (refused_not_ok why.0 (sym why.1 ∙ ok));
}
  where
    refused_not_ok : (x : Refusal) → Refused x ≡ Ok → ⊥
    refused_not_ok x e = cc

module _ (v u : View) (asked : Call) (more lasting : List Known) (one : length v.own ≡ 1) (is : OnlyLoads v more lasting u) where
  logged-is : logged_at u.map (first_thread u.own) ≡ logged_at v.map (first_thread v.own)
  logged-is = λ i. logged_at (loads-map v u more lasting is i) (loads-first v u more lasting is i)

  loaded-since : (loads : List Known) (word : ℕ) → WasLoaded loads (logged_at u.map (first_thread u.own)) word → WasLoaded (more ++ loads) (logged_at v.map (first_thread v.own)) word
  loaded-since loads word was = Contains-append_right more loads _ (subst (λ p. WasLoaded loads p word) logged-is was)

  pub stored-since : (w : View) → StoreBarred u asked w → AnswersStore v asked Ok w
  stored-since w b =
      let told = says-from v u (done_by asked) (actor v).flight lasting (loads_of v ++ more) (put_of v) is (at_rest (first_thread v.own)) (at_rest (first_thread u.own)) (loads_of v ++ (more ++ b.more)) (loads_of u ++ b.more) b.put b.put w.own w.own
      (ap at_rest (loads-first v u more lasting is))
      (ap (λ l. l ++ b.more) (loads-loads v u more lasting is one) ∙ append_assoc (loads_of v) more b.more) refl refl b.says in
      record {
        more = more ++ b.more;
        answers = record {
          put = b.put;
          says = told.0;
          puts = subst (λ (x : SpaceState × ℕ × ℕ). PutsEntry x.0 x.1 asked Ok x.2 b.put) (λ i. (sym told.1 i, loads-first v u more lasting is i, loads-put v u more lasting is one i)) b.puts;
          view = b.view ∙ ap (λ (x : View). acting x w.own []) is ∙ ap (acting v w.own) (sym (ap (λ (x : View). x.lasting) b.view));
        };
        room = λ must ok.
            let shown = b.shown (subst (λ (x : SpaceState × ℕ). MustRecord x.0 x.1 asked) (λ i. (told.1 i, sym (loads-first v u more lasting is) i)) must) in
            (shown.0, loaded-since b.more shown.0 shown.1, shown.2);
      }

  spaces-since : (loads : List Known) (at : ℕ) (x : Space) → LoadedSpace u.map loads at x → LoadedSpace v.map (more ++ loads) at x
  spaces-since loads at x h =
      let here : LoadedSpace v.map loads at x = subst (λ (m : Areas). LoadedSpace m loads at x) (loads-map v u more lasting is) h in
      (here.0, here.1, here.2, Contains-append_right more loads _ here.3)

  pub full-since : (w : View) → IsLogFull u asked w → IsLogFull v asked w
  full-since w l =
      let first = loads-first v u more lasting is in
      let c : LoadsCross u l.more w asked = l.crossing in
      record {
        more = more ++ l.more;
        lasting = l.lasting;
        view = loads-then v u w more l.more lasting l.lasting is l.view;
        so = l.so;
        let_ = subst (λ t. refusal_of l.so.state.graph t asked ≡ None) first l.let_;
        must = subst (λ t. MustRecord l.so.state t asked) first l.must;
        full = loaded-since l.more BUFFER_ENTRIES l.full;
        many = subst (λ n. BUFFER_ENTRIES ≤ n) (loads-put v u more lasting is one) l.many;
        crossing = record {
          slot = c.slot;
          field = c.field;
          «from» = c.from;
          call = c.call;
          at = c.at;
          to = c.to;
          refers = c.refers;
          leads = c.leads;
          x = c.x;
          y = c.y;
          header = spaces-since l.more c.at c.x c.header;
          other = spaces-since l.more c.to c.y c.other;
          crosses = c.crosses;
        };
      }
