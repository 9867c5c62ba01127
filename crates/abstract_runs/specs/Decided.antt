-- How tests come out.
use Rattle.std.specs.Prelude.{◌≡◌, ℤ, Bool, true, false}
use Rattle.pram_values.specs.Truth.{is_nonzero}
use Rattle.abstract_runs.specs.declared.decided.Decided.{Decided}
use Rattle.abstract_runs.specs.declared.decided.Decided.TheVariants.{Yes, No, Open}

-- a number comes out so
abbrev pub ComesOut : Decided → ℤ → Type 0
ComesOut Yes z = is_nonzero z ≡ true
ComesOut No z = is_nonzero z ≡ false
ComesOut Open z = Unit {0}

-- a test that comes out so goes that way
abbrev pub GoesWith : Decided → Bool → Type 0
GoesWith Yes b = b ≡ true
GoesWith No b = b ≡ false
GoesWith Open b = Unit {0}
