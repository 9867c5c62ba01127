-- What is printed in decimal is read again.
use Rattle.std.proofs.Common.{◌≡◌, ℕ, ◌<◌, ◌≤◌, ◌^◌, List, [], ◌∷◌, ◌++◌, true, Bool, ◌&&◌, Some, None, if◌then◌else◌, length}
use Rattle.std.proofs.Common.{codes, refl, ap, ◌∙◌, arith, nat_le}
use Rattle.std.specs.Prelude.{decimal}
use Rattle.std.proofs.lemmas.Bool.{le-leb}
use Rattle.std.proofs.lemmas.Str.Parse.{IsNumeralModel, numerals_by_fold}
use Rattle.std.proofs.lemmas.Fmt.{digits_decimal, digits_value-decimal, decimal_nonempty}
use Rattle.pram_model.specs.Names.{is_digit}
use Rattle.pram_model.proofs.Truths.{both}
use Rattle.pram_tokens.specs.Lexemes.{value_after}
use Rattle.pram_tokens.proofs.Digits.{digit_range, range_digit}
use Rattle.pram_tokens.specs.Input.{are_digits}
use Rattle.run_options.specs.declared.map_choice.MapChoice.TheVariants.{Affine}
use Rattle.run_options.specs.Numbers.{most_number, number_of}
use Rattle.run_options.specs.Maps.{Names}

abbrev AreDigits : List ℕ → Type 0
AreDigits word = are_digits word ≡ true

digits_model : IsNumeralModel AreDigits (value_after 0)
digits_model =
    numerals_by_fold AreDigits (record {
      empty = refl;
      parts = λ c cs h. (let p = both (is_digit c) (are_digits cs) h in (digit_range c p.0, p.1));
      more = λ c cs r h. ap (λ (b : Bool). b && are_digits cs) (range_digit c r) ∙ h;
    }) value_after
    (record { empty = λ n. refl; more = λ n c cs r. refl })

number_is : (word : List ℕ) (n : ℕ) → 0 < length word → are_digits word ≡ true → value_after 0 word ≡ n → n ≤ most_number →
    number_of word ≡ Some n
number_is [] n some digits value small = absurd (omega (arith, some))
number_is (b ∷ word) n some digits value small =
    let fits : nat_le (value_after 0 (b ∷ word)) most_number ≡ true =
    ap (λ v. nat_le v most_number) value ∙ le-leb n most_number small in
    λ i. if digits i && fits i then Some (value i) else None

pub read_back : (n : ℕ) → n < 2 ^ 32 → number_of (decimal n) ≡ Some n
read_back n l =
    number_is (decimal n) n (decimal_nonempty n (omega (arith, l))) (digits_decimal digits_model n (omega (arith, l)))
    (digits_value-decimal digits_model n (omega (arith, l))) (omega (arith, l))

pub named_back : (a b : ℕ) → a < 2 ^ 32 → b < 2 ^ 32 →
    Names (codes "affine:" ++ (decimal a ++ (codes "," ++ decimal b))) (Affine a b)
named_back a b below low = record {
  numbers = decimal a ++ (codes "," ++ decimal b);
  spelled = refl;
  pair = record {
    first = decimal a;
    second = decimal b;
    spelled = refl;
    first_is = read_back a below;
    second_is = read_back b low;
  };
}
