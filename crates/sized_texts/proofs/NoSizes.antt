-- The head of a text without size lines declares no size.
use Rattle.std.proofs.Common.{◌≡◌, ℕ, zero, suc, ◌==◌, Bool, true, false, List, [], ◌∷◌, take, length}
use Rattle.std.proofs.Common.{Ok, refl, ap, ◌∙◌, arith}
use Rattle.std.specs.Prelude.{if◌then◌else◌}
use Rattle.std.proofs.lemmas.Bool.Decides.{nat_tests}
use Rattle.pram_tokens.specs.Lexemes.{is_blank}
use Rattle.sized_texts.specs.declared.size.Size.{Size}
use Rattle.sized_texts.specs.Expansion.{HasNoSizeLine, expanded_by, expansion, itself, undeclared}
use Rattle.sized_texts.specs.Faults.{in_text}
use Rattle.sized_texts.specs.Reading.{◌>>=◌}
use Rattle.sized_texts.specs.SizeLines.{comment_length, declare, head, line_of}

head-none : (given sizes : List Size) (skip : ℕ) (text : List ℕ) → HasNoSizeLine text → head given sizes skip text ≡ Ok sizes
head-none given sizes skip [] none = refl
head-none given sizes (suc n) (b ∷ rest) none = head-none given sizes n rest (λ k. none (suc k))
head-none given sizes zero (b ∷ rest) none =
    by (is_blank b) (b == 35) refl (head-none given sizes 0 rest (λ k. none (suc k)))
    (head-none given sizes (comment_length rest) rest (λ k. none (suc k)))
  where
    by : (blank hash : Bool) → hash ≡ (b == 35) → head given sizes 0 rest ≡ Ok sizes →
        head given sizes (comment_length rest) rest ≡ Ok sizes →
        (if blank then head given sizes 0 rest
        else (if hash
        then (declare given sizes (length (b ∷ rest)) (line_of (take (comment_length rest) rest)) >>= λ more.
        head given more (comment_length rest) rest)
        else Ok sizes)) ≡ Ok sizes
    by true hash same on past = on
    by false false same on past = refl
    by false true same on past =
        let is : b ≡ 35 = grind (arith, nat_tests) in
        ap (λ l. declare given sizes (length (b ∷ rest)) l >>= λ more. head given more (comment_length rest) rest) (none 0 is) ∙ past

pub itself_is : (text : List ℕ) → HasNoSizeLine text → expansion [] text ≡ Ok (itself text)
itself_is text none =
    ap (λ r. in_text (length text) r >>= λ sizes. expanded_by sizes text (undeclared sizes [])) (head-none [] [] 0 text none)
