-- No reference crosses in the opening state, and nothing is recorded.
use Rattle.std.proofs.Common.{◌≡◌, ℕ, zero, suc, ◌-◌, List, [], length, get_or, replicate, refl, sym, ap, subst, ◌∙◌}
use Rattle.std.specs.List.{Contains}
use Rattle.std.proofs.Math.Logic.{⊎_elim}
use Rattle.object_layout.specs.declared.names.Name.{Name}
use Rattle.heap_words.specs.declared.map.Areas.{Areas}
use Rattle.heap_words.specs.Map.{IsAreas, max_depth}
use Rattle.epoch_lattice.specs.declared.Space.{Space}
use Rattle.epoch_lattice.specs.declared.Space.TheVariants.{Control, Region}
use Rattle.yak_model.specs.declared.datum.Datum.TheVariants.{Null, Object}
use Rattle.yak_model.specs.Graph.{standard_limits}
use Rattle.yak_model.specs.Spaces.{opening_spaces}
use Rattle.yak_model.specs.State.{State, Thing}
use Rattle.yak_model.specs.Chains.{IsRegionOf}
use Rattle.yak_model.specs.Recorded.{RecordedAs}
use Rattle.yak_model.proofs.Chains.{contains-none}
use Rattle.remember_sets.specs.Filed.{chain}
use Rattle.yak_model.specs.declared.TheConstants.{ROOT_FIELDS}
use Rattle.heap_core.specs.Opening.{Counts, opened}
use Rattle.yak_model.specs.Recorded.{StandsRecorded}
use Rattle.standing_calls.proofs.Logs.{entries_of, no_entry}
use Rattle.heap_core.proofs.Opening.{empty_chain, nulls, only_root, opening, opening_stands, view-opening, zeros}

no_readers : (k n q d : ℕ) → get_or (get_or (replicate k (replicate n (let z : ℕ = 0 in z))) q []) d 0 ≡ 0
no_readers zero n q d = refl
no_readers (suc k) n zero d = zeros n d
no_readers (suc k) n (suc q) d = no_readers k n q d

null_refers : (x : Name) → Null ≡ Object x → ⊥
null_refers x e = cc

control_region : (u d : ℕ) → Control ≡ Region u d → ⊥
control_region u d e = cc

recorded-opening : (m : Areas) (pool : List ℕ) (at : Name → ℕ) → RecordedAs m (opened m pool) (opening m) at
recorded-opening m pool at = record {
  crossing = λ n x o p f en lt e ex enters. absurd (null_refers x (sym (nulls ROOT_FIELDS f) ∙ ap (λ (t : Thing). get_or t.fields f Null) (only_root n o en).1 ∙ e));
  fields = λ a h. absurd (⊎_elim
      (λ (f : (x : Space) × IsRegionOf m x × Contains (chain m (opened m pool) x) a). contains-none a (subst (λ (slots : List ℕ). Contains slots a) (empty_chain m f.0 f.1) f.2))
      (λ (f : Contains (entries_of (replicate m.threads [])) a). no_entry m.threads a f)
      h);
  read = λ t u d k x p ht hm hk e ex home ne. absurd (control_region u d (ap (λ (y : Thing). y.home) (only_root x p ex).1 ∙ home));
  closed = λ u d hu hm hd lt. no_readers m.threads (max_depth m) (u - 1) (d - 1);
}

pub opening_recorded : (m : Areas) (pool : List ℕ) → IsAreas m → length pool ≡ m.pages → Counts (m.pages - 1) pool → StandsRecorded m (opened m pool) (opening_spaces standard_limits m.threads)
opening_recorded m pool areas long counts =
    let h = opening_stands m pool areas long counts in
    (h, subst (λ (w : State). RecordedAs m (opened m pool) w h.places.at) (sym (view-opening m)) (recorded-opening m pool h.places.at))
