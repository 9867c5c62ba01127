-- A text is cut into its pieces one by one.
use Rattle.std.proofs.Common.{◌≡◌, ℕ, zero, suc, ◌+◌, ◌-◌, ◌<◌, Bool, true, false, List, [], ◌∷◌, ◌++◌, drop, take, length, get_or}
use Rattle.std.proofs.Common.{refl, sym, ap, ◌∙◌, arith, append_assoc}
use Rattle.std.specs.Prelude.{if◌then◌else◌, map}
use Rattle.std.proofs.lemmas.List.{drop-drop, drop_more}
use Rattle.pram_tokens.specs.Lexemes.{is_blank}
use Rattle.laid_out_texts.specs.declared.piece.Piece.{Piece as Slice}
use Rattle.laid_out_texts.specs.declared.piece.Place.{Place}
use Rattle.laid_out_texts.specs.declared.piece.Place.TheVariants.{Beside}
use Rattle.laid_out_texts.specs.Pieces.{Piece, behind_blank, front, piece_length, piece_of, pieces, seen, trimmed}

pieces-skip : (p : Place) (n : ℕ) (text : List ℕ) → pieces p n text ≡ pieces p 0 (drop n text)
pieces-skip p zero text = refl
pieces-skip p (suc n) [] = refl
pieces-skip p (suc n) (b ∷ rest) = pieces-skip p n rest

module _ (text : List ℕ) (p : Place) (at b : ℕ) (more : at < length text) (here : b ≡ get_or text at 0) where
  tail : List ℕ
  tail = drop (at + 1) text

  cut : drop at text ≡ b ∷ tail
  unfolding tail
  cut = drop_more text at 0 more ∙ ap (λ x. x ∷ drop (at + 1) text) (sym here)

  by_kind : Bool → List Piece
  by_kind blank =
      if blank then pieces (behind_blank p b) 0 tail else front p (b ∷ tail) ∷ pieces Beside (piece_length (b ∷ tail) - 1) tail

  known : (blank : Bool) → blank ≡ is_blank b → pieces p 0 (drop at text) ≡ by_kind blank
  unfolding by_kind
  known blank is = ap (pieces p 0) cut ∙ ap by_kind (sym is)

  pub turn_blank : true ≡ is_blank b → pieces p 0 (drop at text) ≡ pieces (behind_blank p b) 0 (drop (at + 1) text)
  unfolding by_kind tail
  turn_blank is = known true is

  turn_piece : (rest : List ℕ) (n : ℕ) → false ≡ is_blank b → rest ≡ drop at text → n ≡ piece_length rest → 0 < n →
      pieces p 0 (drop at text) ≡ front p rest ∷ pieces Beside 0 (drop (at + n) text)
  unfolding by_kind tail
  turn_piece rest n dark is_rest is_n some =
      let whole : b ∷ tail ≡ rest = sym (is_rest ∙ cut) in
      let there : at + 1 + (n - 1) ≡ at + n = omega arith in
      known false dark ∙ ap (λ t. front p t ∷ pieces Beside (piece_length t - 1) tail) whole
      ∙ ap (λ k. front p rest ∷ pieces Beside (k - 1) tail) (sym is_n)
      ∙ ap (λ t. front p rest ∷ t) (pieces-skip Beside (n - 1) tail ∙ ap (pieces Beside 0) (drop-drop (n - 1) (at + 1) text
      ∙ ap (λ k. drop k text) there))

grown : (found : List Slice) (s : Slice) (more : List Piece) → seen (found ++ s ∷ []) ++ more ≡ seen found ++ (piece_of s ∷ more)
grown [] s more = refl
grown (f ∷ found) s more = ap (λ x. piece_of f ∷ x) (grown found s more)

by_parts : (p : Place) (bytes other : List ℕ) → bytes ≡ other →
    (let x : Piece = record { place = p; bytes = bytes } in x) ≡ record { place = p; bytes = other }
by_parts p bytes other is = ap (λ (b : List ℕ). (let x : Piece = record { place = p; bytes = b } in x)) is

-- a piece more is found
pub pushed : (text : List ℕ) (at b : ℕ) (found now : List Slice) (s : Slice) (rest : List ℕ) (n : ℕ) (whole : List Piece) →
    at < length text → b ≡ get_or text at 0 → now ≡ found ++ s ∷ [] → s.bytes.now ≡ trimmed (take n rest) → false ≡ is_blank b →
    rest ≡ drop at text → n ≡ piece_length rest → 0 < n → seen found ++ pieces s.place 0 (drop at text) ≡ whole →
    seen now ++ pieces Beside 0 (drop (at + n) text) ≡ whole
pushed text at b found now s rest n whole more here is_now is_bytes dark is_rest is_n some so =
    let tail : List Piece = pieces Beside 0 (drop (at + n) text) in
    let same : piece_of s ≡ front s.place rest = by_parts s.place _ _ (is_bytes ∙ ap (λ k. trimmed (take k rest)) is_n) in
    ap (λ x. seen x ++ tail) is_now ∙ grown found s tail ∙ ap (λ x. seen found ++ (x ∷ tail)) same
    ∙ ap (λ x. seen found ++ x) (sym (turn_piece text s.place at b more here rest n dark is_rest is_n some)) ∙ so
