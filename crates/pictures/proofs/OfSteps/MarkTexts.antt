-- Cells that are read, one behind the other, and what is there of lists that aren't empty.
use Rattle.std.proofs.Common.{◌≡◌, ◌∙◌, ◌<◌, ◌+◌, ◌++◌, ◌∷◌, [], List, ℕ, ap, arith, codes, drop, get_or, length, refl, sym}
use Rattle.std.proofs.lemmas.List.{drop_more}
use Rattle.pram_model.specs.Layout.{SharedEntry}
use Rattle.svg_texts.specs.Shapes.{shape_text, words_text}
use Rattle.pictures.specs.Steps.ProgramLines.{code_row, more_code}
use Rattle.pictures.specs.Steps.Marks.{cell_behind, cells_words, reads_words}

pub cells_at : (layout : List SharedEntry) (cs : List ℕ) (i c : ℕ) → i < length cs → c ≡ get_or cs i c →
    words_text (cells_words layout (drop i cs)) ≡ words_text (cell_behind layout c) ++ words_text (cells_words layout (drop (i + 1) cs))
cells_at layout cs i c below is =
    ap (λ cs. words_text (cells_words layout cs)) (drop_more cs i c below)
    ∙ ap (λ c. words_text (cell_behind layout c) ++ words_text (cells_words layout (drop (i + 1) cs))) (sym is)

-- where some cell was read
pub some_read : (layout : List SharedEntry) (cs : List ℕ) → 0 < length cs →
    words_text (reads_words layout cs) ≡ codes " reads" ++ words_text (cells_words layout cs)
some_read layout [] h = absurd (omega (arith, h))
some_read layout (c ∷ cs) h = refl

-- where a second row has letters
pub some_code : (x y : ℕ) (bytes : List ℕ) → 0 < length bytes → shape_text (more_code x y bytes) ≡ shape_text (code_row x y bytes)
some_code x y [] h = absurd (omega (arith, h))
some_code x y (b ∷ bytes) h = refl
