use Rattle.std.proofs.Common.{◌≡◌, ℕ, ◌+◌, ◌∙◌, sym, ap, subst, [], ◌∷◌}
use Rattle.object_layout.specs.declared.headers.Header.{Header}
use Rattle.object_layout.specs.Layout.{IsHeader, header_word}
use Rattle.heap_words.specs.declared.map.Areas.{Areas}
use Rattle.heap_words.specs.Map.{heap_at}
use Rattle.calls_in_flight.specs.Actors.{HasMet, learn}
use Rattle.safepoint_gate.specs.Singles.{actor}
use Rattle.barriers.proofs.StillKnown.{Has, keeps-refers, learns-word}
use Rattle.barriers.proofs.MovedViews.{loaded-keeps, loaded-met, loaded-word}
use Rattle.barriers.proofs.fields.space_of.Goals as goal

pub unreachable-requires : goal.unreachable-requires
unreachable-requires c =
    let v = c.args.inside.now.seat.me.0 in
    let w = c.load_header-word.new.self.seat.me.0 in
    let word = c.load_header-word.result in
    let p = heap_at v.map + c.args.object.0 in
    let loaded = c.load_header-word.ensures.loaded in
    let keeps = loaded-keeps v w p word loaded in
    let refers = keeps-refers v.map w.map (actor v) (actor w) keeps c.requires.refers.0 c.args.object.0 c.requires.refers.1 in
    let header = loaded.1.so.sees.headers c.requires.refers.0 c.args.object.0 word refers
    (subst (λ (m : Areas). HasMet (actor w) (heap_at m + c.args.object.0) word) (sym keeps.map) (loaded-word v w p word loaded)) in
    (rw c.in_default.is at c.decode_header.ensures.some) (record { fields = header.fields; space = _ }) header.header (sym header.is_word)

pub returns-clause-space : goal.returns-clause-space
returns-clause-space c =
    let v = c.args.inside.now.seat.me.0 in
    let w = c.load_header-word.new.self.seat.me.0 in
    let word = c.load_header-word.result in
    let p = heap_at v.map + c.args.object.0 in
    let loaded = c.load_header-word.ensures.loaded in
    let keeps = loaded-keeps v w p word loaded in
    let h : Header = c.in-Some.header in
    let index = c.in-Some-space_at.ensures.exact.1 in
    let same : h ≡ record { fields = h.fields; space = _ } = ap (λ (n : ℕ). record { fields = h.fields; space = n }) (sym index) in
    let is : word ≡ header_word (record { fields = h.fields; space = _ }) = sym c.in-Some.ensures.some.1 ∙ ap header_word same in
    let valid = c.in-Some-space_at.ensures.exact.0 in
    record {
      more = record { place = p; word = word } ∷ [];
      lasting = learn p word v.lasting;
      view = loaded.0;
      so = loaded.1.so;
      space = (
        h.fields,
        valid,
        (
          subst IsHeader same c.in-Some.ensures.some.0,
          subst (λ (x : ℕ × ℕ). HasMet (actor w) x.0 x.1) (λ i. (ap (λ (m : Areas). heap_at m + c.args.object.0) (sym keeps.map) i, is i)) (loaded-word v w p word loaded),
        ),
      );
      shown = (h.fields, valid, subst IsHeader same c.in-Some.ensures.some.0, subst (λ n. Has (record { place = p; word = word } ∷ []) p n) is (learns-word p word []));
      kept = loaded-met v w p word loaded;
    }
