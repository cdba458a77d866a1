-- The spaces of objects by headers that a thread has loaded.
use Rattle.std.proofs.Common.{◌≡◌, ◌≢◌, ℕ, ◌+◌, ◌*◌, List, [], ◌++◌, subst, Bool, true, false}
use Rattle.std.proofs.lemmas.Bool.{false≢true}
use Rattle.std.proofs.lemmas.List.Elements.{Contains-append_left, Contains-append_right}
use Rattle.object_layout.specs.declared.calls.Call.{Call}
use Rattle.heap_words.specs.declared.map.Areas.{Areas}
use Rattle.epoch_lattice.specs.declared.Space.{Space}
use Rattle.yak_model.specs.Recorded.{Enters}
use Rattle.calls_in_flight.specs.declared.notes.Known.{Known}
use Rattle.calls_in_flight.specs.Actors.{RefersTo}
use Rattle.calls_in_flight.specs.FieldSteps.{StoresInto, crosses_not, no_reference}
use Rattle.safepoint_gate.specs.declared.rule.View.{View}
use Rattle.safepoint_gate.specs.Singles.{actor}
use Rattle.barriers.specs.Barred.{Crossed, MeetsSpace}
use Rattle.barriers.specs.Shown.{LoadedSpace}
use Rattle.barriers.proofs.StillKnown.{Keeps, keeps-space, keeps-stores, refers-to}
use Rattle.barriers.proofs.MovedViews.{loads-keep, loads-map, loads-none, loads-then}

pub space-keeps : (v : View) (at : ℕ) (x : Space) (w : View) → MeetsSpace v at x w → Keeps v.map w.map (actor v) (actor w)
space-keeps v at x w meets = loads-keep v w meets.more meets.lasting meets.view meets.kept

pub loaded-left : (m : Areas) (more further : List Known) (at : ℕ) (x : Space) → LoadedSpace m more at x → LoadedSpace m (more ++ further) at x
loaded-left m more further at x l = (l.0, l.1, l.2, Contains-append_left more further _ l.3)

loaded-right : (m : Areas) (more further : List Known) (at : ℕ) (x : Space) → LoadedSpace m further at x → LoadedSpace m (more ++ further) at x
loaded-right m more further at x l = (l.0, l.1, l.2, Contains-append_right more further _ l.3)

pub none-crosses : (v : View) (asked : Call) (at field word : ℕ) → StoresInto v.map (actor v) asked at field word → ((to : ℕ) → word ≢ 2 * (to + 1)) → Crossed v asked at field word false v
none-crosses v asked at field word st not = record {
  more = [];
  lasting = v.lasting;
  view = loads-none v;
  stores = st;
  crossing = λ e. absurd (false≢true e);
  none = λ e. no_reference not;
}

module _ (v u w : View) (asked : Call) (at field word to : ℕ) (x y : Space) (st : StoresInto v.map (actor v) asked at field word) (e : word ≡ 2 * (to + 1)) (one : MeetsSpace v at x u) where
  into : StoresInto u.map (actor u) asked at field word
  into = keeps-stores v.map u.map (actor v) (actor u) (space-keeps v at x u one) asked at field word st

  pub leads-to : (k : ℕ) × RefersTo u.map (actor u) k to
  leads-to = (into.from, refers-to u.map (actor u) one.so.state one.so.sees into.from to word into.there into.value e)

  module _ (two : MeetsSpace u to y w) where
    more : List Known
    more = one.more ++ two.more

    keeps : Keeps u.map w.map (actor u) (actor w)
    keeps = space-keeps u to y w two

    stores : StoresInto w.map (actor w) asked at field word
    stores = keeps-stores u.map w.map (actor u) (actor w) keeps asked at field word into

    pub crossed : (told : Bool) → (told ≡ true → Enters x y) → (told ≡ false → Enters x y → ⊥) → Crossed v asked at field word told w
    crossed told enters never = record {
      more = one.more ++ two.more;
      lasting = two.lasting;
      view = loads-then v u w one.more two.more one.lasting two.lasting one.view two.view;
      stores = stores;
      crossing = λ t. (
        record {
          to = to;
          leads = e;
          x = x;
          y = y;
          «from» = keeps-space u.map w.map (actor u) (actor w) keeps at x one.space;
          into = two.space;
          crosses = enters t;
        },
        record {
          slot = stores.slot;
          field = field;
          «from» = stores.from;
          call = stores.call;
          at = at;
          to = to;
          refers = stores.refers;
          leads = refers-to w.map (actor w) two.so.state two.so.sees stores.from to word stores.there stores.value e;
          x = x;
          y = y;
          header = loaded-left v.map one.more two.more at x one.shown;
          other = loaded-right v.map one.more two.more to y (subst (λ (m : Areas). LoadedSpace m two.more to y) (loads-map v u one.more one.lasting one.view) two.shown);
          crosses = enters t;
        },
      );
      none = λ t. crosses_not to x y e (keeps-space u.map w.map (actor u) (actor w) keeps at x one.space) two.space (never t);
    }
