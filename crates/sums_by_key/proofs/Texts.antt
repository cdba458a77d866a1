-- The texts of lines.
use Rattle.std.proofs.Common.{◌≡◌, ◌≤◌, ℕ, List, [], ◌∷◌, ◌++◌, length, map, refl, ◌∙◌, ap, sym, subst, arith}
use Rattle.std.proofs.lemmas.List.{append_assoc}
use Rattle.std.proofs.lemmas.List.Elements.{All-nil}
use Rattle.sums_by_key.specs.declared.lines.Line.{Line}
use Rattle.object_layout.specs.declared.TheConstants.{WORD_LIMIT}
use Rattle.sums_by_key.specs.Held.{AreSummable}
use Rattle.sums_by_key.specs.Sums.{line_text, total_of}

map_push : (lines : List Line) (line : Line) → map line_text (lines ++ line ∷ []) ≡ map line_text lines ++ line_text line ∷ []
map_push [] line = refl
map_push (first ∷ lines) line = ap (λ ts. line_text first ∷ ts) (map_push lines line)

-- One line more is read.
pub text_next : (all texts rest : List (List ℕ)) (text : List ℕ) (lines : List Line) (line : Line) → all ≡ map line_text lines ++ texts → texts ≡ text ∷ rest → text ≡ line_text line → all ≡ map line_text (lines ++ line ∷ []) ++ rest
text_next all texts rest text lines line is first same =
    is ∙ ap (λ ts. map line_text lines ++ ts) (first ∙ ap (λ t. t ∷ rest) same)
    ∙ sym (append_assoc (map line_text lines) (line_text line ∷ []) rest)
    ∙ ap (λ ts. ts ++ rest) (sym (map_push lines line))

-- No line is read.
pub nothing_read : (lines : List Line) (texts : List (List ℕ)) → lines ≡ [] → AreSummable lines × (0 ≡ total_of lines) × (texts ≡ map line_text lines ++ texts)
nothing_read lines texts e = subst (λ ls. AreSummable ls × (0 ≡ total_of ls) × (texts ≡ map line_text ls ++ texts)) (sym e) (
  record { few = omega arith; short = All-nil (λ line. length line.key.now ≤ WORD_LIMIT); small = omega arith },
  refl,
  refl,
)
