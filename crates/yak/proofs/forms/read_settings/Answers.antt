use Rattle.std.specs.Prelude.{map, string_bytes}
use Rattle.yak.proofs.Settings.{all_words, no_words_of, none_left, same_done, same_next, same_none, some_left}
use Rattle.yak.proofs.forms.read_settings.Goals as goal

pub returns-in_err-after : goal.returns-in_err-after
returns-in_err-after c =
    rw c.from_residual.ensures (same_none (map string_bytes c.args.words.now) c.settings.settings (map string_bytes c.settings.left.now) c.settings.invariant c.in_err-after.ensures
    (all_words c.settings.left.now (some_left c.settings.left.now c.is_empty.result c.is_empty.ensures c.settings-test.true)))

pub settings-preserved : goal.settings-preserved
settings-preserved c =
    same_next (map string_bytes c.args.words.now) c.settings.settings c.in_ok-after.after (map string_bytes c.settings.left.now) (map string_bytes c.in_ok-after.rest.now) c.settings.invariant
    c.in_ok-after.ensures

pub returns : goal.returns
returns c = same_done (map string_bytes c.args.words.now) c.settings.settings (map string_bytes c.settings.left.now) c.settings.invariant (no_words_of c.settings.left.now (none_left c.settings.left.now c.is_empty.result c.is_empty.ensures c.settings-test.false))
