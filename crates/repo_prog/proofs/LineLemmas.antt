use Rattle.std.proofs.Common.{◌≡◌, ◌≢◌, ◌++◌, ◌∷◌, [], ℕ, List, Ok, refl, sym, ap, inl, inr, ◌∙◌, append_assoc}
use Rattle.std.proofs.lemmas.List.{append-nil}
use Rattle.hex.specs.Hex.{decode_of}
use Rattle.repo_prog.specs.HexLines.{line_feed, IsHexLine, AreLines, Spell}

not_empty : (lines : List (List ℕ)) (line : List ℕ) → lines ++ line ∷ [] ≡ [] → ⊥
not_empty [] line h = absurd (cc)
not_empty (l ∷ lines) line h = absurd (cc)

-- all lines but the last are the first lines too
pub lines_before : (input : List ℕ) (lines : List (List ℕ)) (line rest : List ℕ) → AreLines input (lines ++ line ∷ []) rest → (before : List ℕ) × AreLines input lines before
lines_before input [] line rest h = (input, refl)
lines_before input (l ∷ lines) line rest (is, inl more) =
    let b = lines_before more.0 lines line rest more.2 in
    (b.0, (is, inl (more.0, more.1, b.1)))
lines_before input (l ∷ lines) line rest (is, inr last) = absurd (not_empty lines line last.2)

cons_not_empty : (line : List ℕ) (b : ℕ) (after : List ℕ) → line ++ b ∷ after ≡ [] → ⊥
cons_not_empty [] b after h = absurd (cc)
cons_not_empty (x ∷ line) b after h = absurd (cc)

-- one more line that ends at a line feed
pub line_ended : (input : List ℕ) (lines : List (List ℕ)) (line after : List ℕ) → IsHexLine line → AreLines input lines (line ++ line_feed ∷ after) → AreLines input (lines ++ line ∷ []) after
line_ended input [] line after is h = (is, inl (after, sym h, refl))
line_ended input (l ∷ lines) line after is (was, inl more) = (was, inl (more.0, more.1, line_ended more.0 lines line after is more.2))
line_ended input (l ∷ lines) line after is (was, inr last) = absurd (cons_not_empty line line_feed after last.3)

-- the last line, which ends at the input's end
pub last_line : (input : List ℕ) (lines : List (List ℕ)) (line : List ℕ) → IsHexLine line → line ≢ [] → AreLines input lines line → AreLines input (lines ++ line ∷ []) []
last_line input [] line is some h = (is, inr (some, sym h, refl, refl))
last_line input (l ∷ lines) line is some (was, inl more) = (was, inl (more.0, more.1, last_line more.0 lines line is some more.2))
last_line input (l ∷ lines) line is some (was, inr last) = absurd (some last.3)

-- the bytes of one more line
pub spell_more : (lines : List (List ℕ)) (bytes line more : List ℕ) → Spell lines bytes → decode_of line ≡ Ok more → Spell (lines ++ line ∷ []) (bytes ++ more)
spell_more [] bytes line more h d = (more, [], d, refl, ap (λ x. x ++ more) h ∙ sym (append-nil more))
spell_more (l ∷ lines) bytes line more h d = (h.0, h.1 ++ more, h.2, spell_more lines h.1 line more h.3 d, ap (λ x. x ++ more) h.4 ∙ append_assoc h.0 h.1 more)

-- one more byte of a line
pub line_more : (line : List ℕ) (b : ℕ) → IsHexLine line → b ≢ line_feed → IsHexLine (line ++ b ∷ [])
line_more [] b h other = (other, tt)
line_more (x ∷ line) b h other = (h.0, line_more line b h.1 other)
