-- Printing that stops at the first failure of its writer.
use Rattle.std.specs.Prelude.{◌≡◌, ℕ, Bool, true, false, List}
use Rattle.text_out.specs.Out.{OutState, StopsIn, with_bytes}

-- a writer, and whether it has failed since the printing began
pub record Printing : Type 0 where
  pub out : OutState
  pub failed : Bool

abbrev pub printing : OutState → Bool → Printing
printing s failed = record { out = s; failed = failed }

-- a writer that has failed is left alone, and else takes the text, or fails within it
abbrev pub PrintsBy : OutState → Bool → OutState → Bool → List ℕ → Type 0
PrintsBy old true new failed text = (new ≡ old) × (failed ≡ true)
PrintsBy old false new true text = StopsIn old new text
PrintsBy old false new false text = new ≡ with_bytes old text

-- from old to new the text is printed, as far as the writer takes it
pub record Prints (old new : Printing) (text : List ℕ) : Type 0 where
  pub by : PrintsBy old.out old.failed new.out new.failed text
