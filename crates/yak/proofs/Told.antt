-- Texts of replies.
use Rattle.std.proofs.Common.{◌≡◌, ◌≤◌, ◌+◌, ◌-◌, ℕ, List, [], ◌∷◌, ◌++◌, codes, length, take, drop, refl, sym, ◌∙◌, append_assoc, arith}
use Rattle.std.specs.List.{sum_by}
use Rattle.std.proofs.lemmas.List.{append-nil, take_all}
use Rattle.std.proofs.lemmas.List.Sums.{sum_by_push}
use Rattle.std.proofs.lemmas.Fmt.{decimal_digit}
use Rattle.object_layout.specs.declared.replies.Reply.{Reply}
use Rattle.script_text.specs.declared.scripts.Line.{Line}
use Rattle.script_text.specs.Replies.{reply_line, reply_text}
use Rattle.yak.specs.Texts.{moved_in, replies_text}

line_zero : (reply : Reply) → reply_line 0 reply ≡ 48 ∷ 32 ∷ (reply_text reply ++ codes "\n")
line_zero reply = rw (decimal_digit 0 (omega arith)) refl

-- what stands behind the number 0 and the space
pub behind_zero : (line : List ℕ) (reply : Reply) → line ≡ reply_line 0 reply → take (length line - 2) (drop 2 line) ≡ reply_text reply ++ codes "\n"
behind_zero line reply is =
    let whole : line ≡ 48 ∷ 32 ∷ (reply_text reply ++ codes "\n") = is ∙ line_zero reply in
    let few : length (reply_text reply ++ codes "\n") ≤ length (48 ∷ 32 ∷ (reply_text reply ++ codes "\n")) - 2 = omega arith in
    rw whole (take_all _ (reply_text reply ++ codes "\n") few)

pub lines_text_more : (lines : List Line) (replies : List Reply) (line : Line) (reply : Reply) → length replies ≡ length lines
    → replies_text (lines ++ line ∷ []) (replies ++ reply ∷ []) ≡ replies_text lines replies ++ reply_line line.number reply
lines_text_more [] [] line reply each = append-nil (reply_line line.number reply)
lines_text_more [] (r ∷ replies) line reply each = absurd (omega (arith, each))
lines_text_more (l ∷ lines) [] line reply each = absurd (omega (arith, each))
lines_text_more (l ∷ lines) (r ∷ replies) line reply each =
    rw (lines_text_more lines replies line reply (omega (arith, each))) (sym (append_assoc (reply_line l.number r) (replies_text lines replies) (reply_line line.number reply)))

pub moved_more : (replies : List Reply) (reply : Reply) → sum_by moved_in (replies ++ reply ∷ []) ≡ sum_by moved_in replies + moved_in reply
moved_more replies reply = sum_by_push moved_in replies reply
