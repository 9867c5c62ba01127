-- Expanding a text from a place on, piece by piece.
use Rattle.std.proofs.Common.{◌≡◌, ℕ, zero, suc, ◌+◌, ◌-◌, ◌<◌, ◌≤◌, Bool, true, false, List, [], ◌∷◌, ◌++◌, drop, length, map, get_or}
use Rattle.std.proofs.Common.{Result, Ok, Err, refl, sym, ap, ◌∙◌, arith, append_assoc, length-drop}
use Rattle.std.specs.Prelude.{decimal, if◌then◌else◌}
use Rattle.std.proofs.lemmas.List.{drop-drop, drop_more}
use Rattle.sized_texts.specs.declared.size.Size.{Size}
use Rattle.sized_texts.specs.declared.stop.Wrong.{Wrong}
use Rattle.sized_texts.specs.Expressions.{braced}
use Rattle.sized_texts.specs.Pieces.{Expansion, from_there, in_comment, opens, pieces}
use Rattle.sized_texts.specs.Reading.{◌>>=◌}

-- the same behind what was expanded before
abbrev pub behind : Expansion → Result Expansion Wrong → Result Expansion Wrong
behind d (Ok e) = Ok (record { text = d.text ++ e.text; places = d.places ++ e.places })
behind d (Err w) = Err w

pieces-skip : (sizes : List Size) (n at : ℕ) (comment : Bool) (text : List ℕ) →
    pieces sizes n comment at text ≡ pieces sizes 0 comment (at + n) (drop n text)
pieces-skip sizes zero at comment text = let e : at ≡ at + 0 = omega arith in ap (λ i. pieces sizes 0 comment i text) e
pieces-skip sizes (suc n) at comment [] = refl
pieces-skip sizes (suc n) at comment (b ∷ rest) =
    pieces-skip sizes n (at + 1) comment rest
    ∙ (let e : at + 1 + n ≡ at + suc n = omega arith in ap (λ i. pieces sizes 0 comment i (drop n rest)) e)

behind-from_there : (d : Expansion) (bytes : List ℕ) (at : ℕ) (r : Result Expansion Wrong) →
    behind d (from_there bytes at r)
    ≡ behind (record { text = d.text ++ bytes; places = d.places ++ map (λ _. at) bytes }) r
behind-from_there d bytes at (Ok e) =
    let x = append_assoc d.text bytes e.text in
    let y = append_assoc d.places (map (λ _. at) bytes) e.places in
    ap (λ t. Ok (record { text = t; places = d.places ++ (map (λ _. at) bytes ++ e.places) })) (sym x)
    ∙ ap (λ p. Ok (record { text = (d.text ++ bytes) ++ e.text; places = p })) (sym y)
behind-from_there d bytes at (Err w) = refl

-- what holds before each turn of the loop
pub record IsExpandedTo (sizes : List Size) (text : List ℕ) (d : Expansion) (comment : Bool) (at : ℕ) : Type 0 where
  pub so : pieces sizes 0 false 0 text ≡ behind d (pieces sizes 0 comment at (drop at text))
  pub fits : at ≤ length text

-- one turn of the loop, by the byte there and the text behind it
module _ (sizes : List Size) (text : List ℕ) (d : Expansion) (comment : Bool) (at b : ℕ) (rest : List ℕ)
    (before : IsExpandedTo sizes text d comment at) (more : at < length text) (here : b ≡ get_or text at 0)
    (is_rest : rest ≡ drop (at + 1) text) where
  cut : drop at text ≡ b ∷ rest
  cut = drop_more text at 0 more ∙ ap (λ x. x ∷ drop (at + 1) text) (sym here) ∙ ap (λ r. b ∷ r) (sym is_rest)

  at_front : pieces sizes 0 false 0 text ≡ behind d (pieces sizes 0 comment at (b ∷ rest))
  at_front = before.so ∙ ap (λ t. behind d (pieces sizes 0 comment at t)) cut

  -- what the piece gives, and what follows it
  apart : Bool → Result Expansion Wrong
  apart o =
      if o
      then (braced sizes rest >>= λ e. from_there (decimal e.0) at (pieces sizes (length rest - length e.1) false (at + 1) rest))
      else from_there (b ∷ []) at (pieces sizes 0 (in_comment comment b) (at + 1) rest)

  known : (o : Bool) → o ≡ opens comment b → pieces sizes 0 false 0 text ≡ behind d (apart o)
  unfolding apart
  known o is = at_front ∙ ap (λ x. behind d (apart x)) (sym is)

  joined : (e : Expansion) (bytes : List ℕ) (r : Result Expansion Wrong) → e.text ≡ d.text ++ bytes →
      e.places ≡ d.places ++ map (λ _. at) bytes → behind d (from_there bytes at r) ≡ behind e r
  joined e bytes r texts places =
      behind-from_there d bytes at r
      ∙ ap (λ t. behind (record { text = t; places = d.places ++ map (λ _. at) bytes }) r) (sym texts)
      ∙ ap (λ p. behind (record { text = e.text; places = p }) r) (sym places)

  pub turn_byte : (e : Expansion) (after : Bool) → false ≡ opens comment b → after ≡ in_comment comment b →
      e.text ≡ d.text ++ b ∷ [] → e.places ≡ d.places ++ at ∷ [] → IsExpandedTo sizes text e after (at + 1)
  unfolding apart
  turn_byte e after closed now texts places = record {
    so = known false closed
        ∙ joined e (b ∷ []) (pieces sizes 0 (in_comment comment b) (at + 1) rest) texts places
        ∙ ap (λ c. behind e (pieces sizes 0 c (at + 1) rest)) (sym now)
        ∙ ap (λ r. behind e (pieces sizes 0 after (at + 1) r)) is_rest;
    fits = omega arith;
  }

  pub turn_brace : (e : Expansion) (v : ℕ) (left : List ℕ) → true ≡ opens comment b → braced sizes rest ≡ Ok (v, left) →
      length left ≤ length rest → e.text ≡ d.text ++ decimal v → e.places ≡ d.places ++ map (λ _. at) (decimal v) →
      IsExpandedTo sizes text e comment (at + (1 + (length rest - length left)))
  unfolding apart
  turn_brace e v left opened read less texts places =
      let n = length rest - length left in
      let there : at + 1 + n ≡ at + (1 + n) = omega arith in
      record {
        so = known true opened
            ∙ ap (λ r. behind d (r >>= λ x. from_there (decimal x.0) at (pieces sizes (length rest - length x.1) false (at + 1) rest))) read
            ∙ joined e (decimal v) (pieces sizes n false (at + 1) rest) texts places
            ∙ ap (λ c. behind e (pieces sizes n c (at + 1) rest)) (outside comment opened)
            ∙ ap (behind e) (pieces-skip sizes n (at + 1) comment rest)
            ∙ ap (λ r. behind e (pieces sizes 0 comment (at + 1 + n) (drop n r))) is_rest
            ∙ ap (λ r. behind e (pieces sizes 0 comment (at + 1 + n) r)) (drop-drop n (at + 1) text)
            ∙ ap (λ i. behind e (pieces sizes 0 comment i (drop i text))) there;
        fits = omega (arith, ap length is_rest, length-drop (at + 1) text);
      }
    where
      outside : (c : Bool) → true ≡ opens c b → false ≡ c
      outside true is = absurd (cc)
      outside false is = refl

  pub turn_wrong : (w : Wrong) → true ≡ opens comment b → braced sizes rest ≡ Err w → pieces sizes 0 false 0 text ≡ Err w
  unfolding apart
  turn_wrong w opened read =
      known true opened
      ∙ ap (λ r. behind d (r >>= λ x. from_there (decimal x.0) at (pieces sizes (length rest - length x.1) false (at + 1) rest))) read
