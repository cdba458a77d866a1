use Rattle.std.proofs.Common.{refl}
use Rattle.escape_closure.specs.Rolls.{OnlyScratch}
use Rattle.std.proofs.Math.Logic.{∥∥₁_map}
use Rattle.std.proofs.Common.{◌≡◌, ◌≢◌, ◌+◌, ◌*◌, ◌==◌, ℕ, cond, List, arith, sym, ap, ◌∙◌, subst}
use Rattle.epoch_lattice.specs.Lattice.{space_index}
use Rattle.heap_words.specs.Map.{page_words}
use Rattle.heap_words.specs.Cells.{row}
use Rattle.heap_words.specs.Contents.{Contents, contents}
use Rattle.escape_closure.specs.Rolls.{Rolled, IsOnRoll, Grows}
use Rattle.yak_model.specs.Placed.{space_word, used_mark}
use Rattle.region_pages.specs.Counts.{used_by}
use Rattle.heap_walks.specs.Walked.{IsPagePassed}
use Rattle.escape_closure.proofs.Rolls.{grows_first, grows_wider, other_page, same_is, table_is}
use Rattle.escape_closure.proofs.rolling.roll_where_in.Goals as goal

pub roll_page-requires-clause-some : goal.roll_page-requires-clause-some
roll_page-requires-clause-some g c =
    rw c.get_page-space.ensures.words (∥∥₁_map c.requires.some (λ z. (z.0, z.2, z.3)))

pub returns-then-space-own-clause-rolled : goal.returns-then-space-own-clause-rolled
returns-then-space-own-clause-rolled g c q index ready r =
    let m = c.args.map in
    let page = c.args.page in
    let old = contents m (g.W.Words.words c.args.words.now) in
    let new = contents m (g.W.Words.words c.roll_page.new.words) in
    let same : contents m (g.W.Words.words c.get_page-space.new.words) ≡ old = ap (contents m) c.get_page-space.ensures.words in
    let more : ℕ = c.roll_page.result in
    let next : (x : Rolled q old (page_words m * page) c.args.count) → (s : Grows q new (page_words m * (page + 1)) more x.name c.args.count) × IsPagePassed q.laid (IsOnRoll q s.roll.name more) page =
    subst (λ y. (x : Rolled q y (page_words m * page) c.args.count) → (s : Grows q new (page_words m * (page + 1)) more x.name c.args.count) × IsPagePassed q.laid (IsOnRoll q s.roll.name more) page) same (c.roll_page.ensures.rolled q ready) in
    let used : used_by q.region (row old.table page) ≡ used_mark old.table page = same_is (space_word old.table page) (space_index q.region + 1) (used_mark old.table page) 0 (sym c.get_page-space.ensures.value ∙ c.if-space-own.true ∙ ap (λ k. k + 1) (sym index)) in
    let one : cond {A = ℕ} (space_word old.table page == space_index q.region + 1) 1 0 ≡ 1 = same_is (space_word old.table page) (space_index q.region + 1) 1 0 (sym c.get_page-space.ensures.value ∙ c.if-space-own.true ∙ ap (λ k. k + 1) (sym index)) in
    let mark : used_mark (contents m (g.W.Words.words c.get_page-space.new.words)).table page ≡ used_mark old.table page = ap (λ (x : Contents). used_mark x.table page) same in
    let done = next r in
    (done.0, done.1, omega (arith, c.roll_page.ensures.reads, c.get_page-space.ensures.reads, used, one, mark))

pub returns-clause-rolled : goal.returns-clause-rolled
returns-clause-rolled g c q index ready r =
    let m = c.args.map in
    let page = c.args.page in
    let old = contents m (g.W.Words.words c.args.words.now) in
    let other : c.get_page-space.result ≢ space_index q.region + 1 = λ e. c.if-space-own.false (e ∙ ap (λ k. k + 1) index) in
    let word : c.get_page-space.result ≡ space_word q.words.table page = c.get_page-space.ensures.value ∙ ap (λ (t : List (List ℕ)). space_word t page) (table_is m q old (page_words m * page) c.args.count ready r) in
    rw c.get_page-space.ensures.words (
      grows_wider m q old (page_words m * page) c.args.count (page_words m * (page + 1)) c.args.count r.name ready (grows_first q old (page_words m * page) c.args.count r) (omega arith),
      other_page m q r.name c.args.count page c.get_page-space.result ready word other,
      omega (arith, c.get_page-space.ensures.reads),
    )

pub returns-then-space-own-clause-frame : goal.returns-then-space-own-clause-frame
returns-then-space-own-clause-frame g c = subst (λ (x : List ℕ). OnlyScratch (contents c.args.map x) (contents c.args.map (g.W.Words.words c.roll_page.new.words))) c.get_page-space.ensures.words c.roll_page.ensures.frame

pub returns-clause-frame : goal.returns-clause-frame
returns-clause-frame g c = rw c.get_page-space.ensures.words refl
