-- Words that name a map.
use Rattle.std.specs.Prelude.{◌≡◌, ℕ, List, ◌++◌, Some, codes}
use Rattle.run_options.specs.declared.map_choice.MapChoice.{MapChoice}
use Rattle.run_options.specs.declared.map_choice.MapChoice.TheVariants.{Identity, Affine}
use Rattle.run_options.specs.Numbers.{number_of}

-- `A,B`, where A and B are those numbers
pub record IsPair (word : List ℕ) (a b : ℕ) : Type 0 where
  pub first : List ℕ
  pub second : List ℕ
  pub spelled : word ≡ first ++ (codes "," ++ second)
  pub first_is : number_of first ≡ Some a
  pub second_is : number_of second ≡ Some b

-- `affine:A,B`
pub record IsAffine (word : List ℕ) (factor shift : ℕ) : Type 0 where
  pub numbers : List ℕ
  pub spelled : word ≡ codes "affine:" ++ numbers
  pub pair : IsPair numbers factor shift

abbrev pub Names : List ℕ → MapChoice → Type 0
Names word Identity = word ≡ codes "identity"
Names word (Affine factor shift) = IsAffine word factor shift
