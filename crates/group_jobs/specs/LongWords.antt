-- The first word of a text that is too long to be counted.
use Rattle.std.specs.Prelude.{ℕ, ◌+◌, Bool, Option, List, length, nat_lt}
use Rattle.std.specs.List.{slice_split, position, list_any}
use Rattle.std.specs.Option.{option_map}
use Rattle.object_layout.specs.declared.TheConstants.{WORD_LIMIT}
use Rattle.yak_model.specs.Texts.{words_of}
use Rattle.group_jobs.specs.Tasks.{is_feed}

-- a word of more bytes than are counted
abbrev pub is_long : List ℕ → Bool
is_long word = nat_lt WORD_LIMIT (length word)

-- a text with a long word
abbrev pub has_long_word : List ℕ → Bool
has_long_word bytes = list_any is_long (words_of bytes)

-- the number, from 1, of the first line that has a long word. Lines stand before, between and after the line feeds
abbrev pub long_word_line : List ℕ → Option ℕ
long_word_line bytes = option_map (λ before. before + 1) (position has_long_word (slice_split is_feed bytes))
