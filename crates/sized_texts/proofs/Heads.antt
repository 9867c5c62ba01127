-- The sizes that a text declares, comment by comment.
use Rattle.std.proofs.Common.{◌≡◌, ℕ, zero, suc, ◌+◌, ◌-◌, ◌<◌, ◌==◌, Bool, true, false, List, [], ◌∷◌, drop, take, length, get_or}
use Rattle.std.proofs.Common.{Result, Ok, Err, refl, sym, ap, ◌∙◌, arith, length-drop}
use Rattle.std.specs.Prelude.{if◌then◌else◌}
use Rattle.std.proofs.lemmas.Bool.Decides.{nat_tests}
use Rattle.std.proofs.lemmas.List.{drop-drop, drop_more}
use Rattle.pram_tokens.specs.Lexemes.{is_blank}
use Rattle.sized_texts.specs.declared.size.Size.{Size}
use Rattle.sized_texts.specs.declared.stop.Wrong.{Wrong}
use Rattle.sized_texts.specs.Reading.{◌>>=◌}
use Rattle.sized_texts.specs.SizeLines.{comment_length, declare, head, line_of}

head-skip : (given sizes : List Size) (n : ℕ) (text : List ℕ) → head given sizes n text ≡ head given sizes 0 (drop n text)
head-skip given sizes zero text = refl
head-skip given sizes (suc n) [] = refl
head-skip given sizes (suc n) (b ∷ rest) = head-skip given sizes n rest

-- one turn of the loop, by the byte there and the text behind it
module _ (given sizes : List Size) (text : List ℕ) (whole : Result (List Size) Wrong) (at b : ℕ) (rest : List ℕ)
    (so : whole ≡ head given sizes 0 (drop at text)) (more : at < length text) (here : b ≡ get_or text at 0)
    (is_rest : rest ≡ drop (at + 1) text) where
  cut : drop at text ≡ b ∷ rest
  cut = drop_more text at 0 more ∙ ap (λ x. x ∷ drop (at + 1) text) (sym here) ∙ ap (λ r. b ∷ r) (sym is_rest)

  pub left_there : length text - at ≡ length (b ∷ rest)
  left_there = sym (length-drop at text) ∙ ap length cut

  commented : Result (List Size) Wrong
  commented =
      declare given sizes (length (b ∷ rest)) (line_of (take (comment_length rest) rest)) >>= λ found.
      head given found (comment_length rest) rest

  by_kind : (blank hash : Bool) → Result (List Size) Wrong
  by_kind blank hash = if blank then head given sizes 0 rest else (if hash then commented else Ok sizes)

  known : (blank hash : Bool) → blank ≡ is_blank b → hash ≡ (b == 35) → whole ≡ by_kind blank hash
  unfolding by_kind commented
  known blank hash is same =
      so ∙ ap (head given sizes 0) cut ∙ ap (λ x. by_kind x (b == 35)) (sym is) ∙ ap (by_kind blank) (sym same)

  pub turn_blank : true ≡ is_blank b → whole ≡ head given sizes 0 (drop (at + 1) text)
  unfolding by_kind commented
  turn_blank is = known true (b == 35) is refl ∙ ap (head given sizes 0) is_rest

  hash_is : b ≡ 35 → true ≡ (b == 35)
  hash_is is = grind (arith, nat_tests)

  pub turn_comment : (n left : ℕ) (comment : List ℕ) (found : List Size) → false ≡ is_blank b → b ≡ 35 → n ≡ comment_length rest →
      comment ≡ take n rest → left ≡ length text - at → declare given sizes left (line_of comment) ≡ Ok found →
      whole ≡ head given found 0 (drop (at + (1 + n)) text)
  unfolding by_kind commented
  turn_comment n left comment found dark hash is_n is_comment is_left declared =
      let there : at + 1 + n ≡ at + (1 + n) = omega arith in
      known false true dark (hash_is hash)
      ∙ ap (λ r. r >>= λ x. head given x (comment_length rest) rest)
      (ap (λ k. declare given sizes k (line_of (take (comment_length rest) rest)))
      (sym (is_left ∙ left_there))
      ∙ ap (λ c. declare given sizes left (line_of c)) (sym (is_comment ∙ ap (λ k. take k rest) is_n)) ∙ declared)
      ∙ ap (λ k. head given found k rest) (sym is_n) ∙ head-skip given found n rest
      ∙ ap (λ r. head given found 0 (drop n r)) is_rest ∙ ap (head given found 0) (drop-drop n (at + 1) text)
      ∙ ap (λ i. head given found 0 (drop i text)) there

  pub turn_wrong : (n left : ℕ) (comment : List ℕ) (w : Wrong) → false ≡ is_blank b → b ≡ 35 → n ≡ comment_length rest →
      comment ≡ take n rest → left ≡ length text - at → declare given sizes left (line_of comment) ≡ Err w → whole ≡ Err w
  unfolding by_kind commented
  turn_wrong n left comment w dark hash is_n is_comment is_left declared =
      known false true dark (hash_is hash)
      ∙ ap (λ r. r >>= λ x. head given x (comment_length rest) rest)
      (ap (λ k. declare given sizes k (line_of (take (comment_length rest) rest)))
      (sym (is_left ∙ left_there))
      ∙ ap (λ c. declare given sizes left (line_of c)) (sym (is_comment ∙ ap (λ k. take k rest) is_n)) ∙ declared)

  pub turn_token : false ≡ is_blank b → (b ≡ 35 → ⊥) → whole ≡ Ok sizes
  unfolding by_kind commented
  turn_token dark none = known false false dark (let h : b ≡ 35 → ⊥ = none in grind (arith, nat_tests))
