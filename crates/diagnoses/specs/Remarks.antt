-- What there is to say of a name that is wrong: which name was meant, or as what and where it is declared; and of a token, what could stand
-- in its place.
use Rattle.std.specs.Prelude.{◌≡◌, ℕ, ◌<◌, Bool, List, Option, Some, None, Err, length, take}
use Rattle.pram_names.specs.declared.fault.Cause.{Cause}
use Rattle.pram_names.specs.declared.fault.Cause.TheVariants as cause
use Rattle.pram_names.specs.declared.fault.Spot.{Spot}
use Rattle.pram_names.specs.declared.fault.Spot.TheVariants as spot
use Rattle.pram_names.specs.declared.fault.Breach.{Breach}
use Rattle.pram_tokens.specs.Scanning.{cut_of, longest}
use Rattle.pram_trees.specs.Program.{ProgramTree}
use Rattle.pram_trees.specs.Text.{IsTextOf}
use Rattle.help.specs.Bound.{bound_in}
use Rattle.help.specs.InScope.{Known, names_at}
use Rattle.help.specs.Nearness.{named, nearest}
use Rattle.help.specs.declared.known.Sort.{Sort}
use Rattle.help.specs.declared.choice.Choice.{Choice}
use Rattle.help.specs.Choices.{AreChoicesBehind}
use Rattle.help.specs.Hints.{IsHint}
use Rattle.help.specs.declared.hint.Hint.{Hint}
use Rattle.diagnoses.specs.declared.remark as rust
use Rattle.diagnoses.specs.declared.remark.Remark.TheVariants as variant
use Rattle.diagnoses.specs.Fitting.{fitting, is_inside, role_at}
use Rattle.diagnoses.specs.declared.fitting.Role.{Role}
use Rattle.diagnoses.specs.Places.{token_at}

pub data Remark : Type 0 where
  Nothing : Remark
  Nearest : List ℕ → Remark
  Declared : Sort → ℕ → Remark
  Misplaced : Sort → ℕ → Role → Remark
  Elsewhere : Sort → ℕ → Remark
  Undeclared : Role → (inside : Bool) → Remark
  Expected : List Choice → Hint → Remark

abbrev pub remark_is : rust.Remark.Remark → Remark
remark_is variant.Nothing = Nothing
remark_is (variant.Nearest name) = Nearest name.items
remark_is (variant.Declared s line) = Declared s line
remark_is (variant.Misplaced s line role) = Misplaced s line role
remark_is (variant.Elsewhere s line) = Elsewhere s line
remark_is (variant.Undeclared role inside) = Undeclared role inside
remark_is (variant.Expected found hint) = Expected found.items hint

-- the name that was meant, and else the role of the one that is not declared, and whether it stands inside pardo
abbrev pub meant : Role → (inside : Bool) → Option Known → Remark
meant role inside None = Undeclared role inside
meant role inside (Some k) = Nearest k.name

-- as what and where the name is declared
abbrev pub declared : Option Known → Remark
declared None = Nothing
declared (Some k) = Declared k.sort k.line

-- that, and the role in which it stands there
abbrev pub misplaced : Role → Option Known → Remark
misplaced role None = Nothing
misplaced role (Some k) = Misplaced k.sort k.line role

-- of a name that isn't in scope the pardo in whose body it holds, and else the name that was meant
abbrev pub unknown : Role → (inside : Bool) → (bound near : Option Known) → Remark
unknown role inside (Some k) near = Elsewhere k.sort k.line
unknown role inside None near = meant role inside near

-- of an unknown name that, by the names that may stand there, and of any other as what and where it is declared; of a limit nothing
abbrev pub remark_on : (bound : Option Known) → (names fit : List Known) → Role → List ℕ → Cause → Remark
remark_on bound names fit role word cause.UnknownName = unknown role (is_inside names) bound (nearest fit word)
remark_on bound names fit role word cause.DoubleName = declared (named names word)
remark_on bound names fit role word cause.WrongKind = misplaced role (named names word)
remark_on bound names fit role word cause.AssignedLoopVariable = declared (named names word)
remark_on bound names fit role word (cause.Limit l) = Nothing

-- what there is to say of the first thing that is wrong with a program
abbrev pub remark_at : (text : List ℕ) → ProgramTree → Spot → Cause → Remark
remark_at text tree spot.TextEnd c = Nothing
remark_at text tree (spot.Offset at) c =
    let names = names_at tree at in
    remark_on (bound_in tree (token_at text at)) names (fitting (cut_of text) at names) (role_at (cut_of text) at) (token_at text at) c

abbrev pub remark_of : (text : List ℕ) → ProgramTree → Breach → Remark
remark_of text tree b = remark_at text tree b.spot b.cause

-- what there is to say of it, by the one tree of the text; of a text that has none nothing
pub data IsRemark (text : List ℕ) (b : Breach) : Remark → Type 0 where
  OfTree : (tree : ProgramTree) → IsTextOf text tree → IsRemark text b (remark_of text tree b)
  OfNone : ((tree : ProgramTree) → ¬ (IsTextOf text tree)) → IsRemark text b Nothing

-- The kinds of tokens that could stand at a place, behind what stands before it, and what else there is to say of it. Nothing is said of a
-- text that is too long, nor where something before the place is no token.
pub data IsExpectation (text : List ℕ) (at : ℕ) : Remark → Type 0 where
  Expects : (found : List Choice) (hint : Hint) → AreChoicesBehind (take at text) found → IsHint text at found hint
      → IsExpectation text at (Expected found hint)
  TooLong : longest < length text → IsExpectation text at Nothing
  NoToken : (bad : ℕ) → cut_of (take at text) ≡ Err bad → IsExpectation text at Nothing
