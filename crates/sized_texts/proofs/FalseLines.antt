-- Looking through the comments at the beginning of a text, one by one.
use Rattle.std.proofs.Common.{◌≡◌, ℕ, zero, suc, ◌+◌, ◌<◌, ◌==◌, Bool, true, false, List, [], ◌∷◌, drop, take, length, get_or, Option, Some, None}
use Rattle.std.proofs.Common.{refl, sym, ap, ◌∙◌, arith}
use Rattle.std.specs.Prelude.{if◌then◌else◌}
use Rattle.std.proofs.lemmas.Bool.Decides.{nat_tests}
use Rattle.std.proofs.lemmas.List.{drop-drop, drop_more}
use Rattle.pram_tokens.specs.Lexemes.{is_blank}
use Rattle.sized_texts.specs.FalseLines.{false_from, is_false, stray_at}
use Rattle.sized_texts.specs.SizeLines.{comment_length}

false-skip : (at n : ℕ) (text : List ℕ) → false_from at n text ≡ false_from (at + n) 0 (drop n text)
false-skip at zero text = let e : at ≡ at + 0 = omega arith in ap (λ i. false_from i 0 text) e
false-skip at (suc n) [] = refl
false-skip at (suc n) (b ∷ rest) =
    false-skip (at + 1) n rest
    ∙ (let e : at + 1 + n ≡ at + suc n = omega arith in ap (λ i. false_from i 0 (drop n rest)) e)

-- one turn of the loop, by the byte there and the text behind it
module _ (text : List ℕ) (whole : Option ℕ) (at b : ℕ) (rest : List ℕ) (so : whole ≡ false_from at 0 (drop at text))
    (more : at < length text) (here : b ≡ get_or text at 0) (is_rest : rest ≡ drop (at + 1) text) where
  cut : drop at text ≡ b ∷ rest
  cut = drop_more text at 0 more ∙ ap (λ x. x ∷ drop (at + 1) text) (sym here) ∙ ap (λ r. b ∷ r) (sym is_rest)

  commented : Bool → List ℕ → Option ℕ
  commented wrong comment = if wrong then Some (stray_at at comment) else false_from (at + 1) (comment_length rest) rest

  by_kind : (blank hash : Bool) → Option ℕ
  by_kind blank hash =
      if blank then false_from (at + 1) 0 rest
      else (if hash then commented (is_false (take (comment_length rest) rest)) (take (comment_length rest) rest) else None)

  known : (blank hash : Bool) → blank ≡ is_blank b → hash ≡ (b == 35) → whole ≡ by_kind blank hash
  unfolding by_kind commented
  known blank hash is same =
      so ∙ ap (false_from at 0) cut ∙ ap (λ x. by_kind x (b == 35)) (sym is) ∙ ap (by_kind blank) (sym same)

  pub turn_blank : true ≡ is_blank b → whole ≡ false_from (at + 1) 0 (drop (at + 1) text)
  unfolding by_kind
  turn_blank is = known true (b == 35) is refl ∙ ap (false_from (at + 1) 0) is_rest

  hash_is : b ≡ 35 → true ≡ (b == 35)
  hash_is is = grind (arith, nat_tests)

  no_hash : (b ≡ 35 → ⊥) → false ≡ (b == 35)
  no_hash differ = grind (arith, nat_tests)

  pub turn_token : false ≡ is_blank b → (b ≡ 35 → ⊥) → whole ≡ None
  unfolding by_kind
  turn_token dark differ = known false false dark (no_hash differ)

  of_comment : (n : ℕ) (comment : List ℕ) (wrong : Bool) → false ≡ is_blank b → b ≡ 35 → n ≡ comment_length rest → comment ≡ take n rest →
      wrong ≡ is_false comment → whole ≡ commented wrong comment
  unfolding by_kind
  of_comment n comment wrong dark hash is_n is_comment is_wrong =
      let same : take (comment_length rest) rest ≡ comment = sym (is_comment ∙ ap (λ k. take k rest) is_n) in
      known false true dark (hash_is hash) ∙ ap (λ c. commented (is_false c) c) same ∙ ap (λ w. commented w comment) (sym is_wrong)

  pub turn_wrong : (n : ℕ) (comment : List ℕ) → false ≡ is_blank b → b ≡ 35 → n ≡ comment_length rest → comment ≡ take n rest →
      true ≡ is_false comment → whole ≡ Some (stray_at at comment)
  unfolding commented
  turn_wrong n comment dark hash is_n is_comment wrong = of_comment n comment true dark hash is_n is_comment wrong

  pub turn_comment : (n : ℕ) (comment : List ℕ) → false ≡ is_blank b → b ≡ 35 → n ≡ comment_length rest → comment ≡ take n rest →
      false ≡ is_false comment → whole ≡ false_from (at + (1 + n)) 0 (drop (at + (1 + n)) text)
  unfolding commented
  turn_comment n comment dark hash is_n is_comment right =
      let there : at + 1 + n ≡ at + (1 + n) = omega arith in
      of_comment n comment false dark hash is_n is_comment right
      ∙ ap (λ k. false_from (at + 1) k rest) (sym is_n) ∙ false-skip (at + 1) n rest
      ∙ ap (λ r. false_from (at + 1 + n) 0 (drop n r)) is_rest ∙ ap (false_from (at + 1 + n) 0) (drop-drop n (at + 1) text)
      ∙ ap (λ k. false_from k 0 (drop k text)) there
