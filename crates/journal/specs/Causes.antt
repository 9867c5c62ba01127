-- Why a statement faults.
use Rattle.std.specs.Prelude.{ℕ, List, ℤ, Option, Some, None}
use Rattle.pram_tokens.specs.declared.token.Binary.{Binary}
use Rattle.pram_trees.specs.declared.tree.Prefix.{Prefix}
use Rattle.write_rules.specs.declared.write.Write.{Write}
use Rattle.journal.specs.declared.cause as rust
use Rattle.journal.specs.declared.cause.Cause.TheVariants as variant

-- An operation on two values, or on one. A subscript that is none of a declaration's, by its number among the shared ones. The bounds of a
-- pardo with more indices than there may be processors. Processors that read one cell at the same moment, or the writes that go to one
-- cell.
pub data Cause : Type 0 where
  Between : (left : ℤ) → Binary → (right : ℤ) → Cause
  Before : Prefix → (operand : ℤ) → Cause
  Beyond : (entry : ℕ) → (subscript : ℤ) → Cause
  Wide : (low high : ℤ) → (procs : ℕ) → Cause
  Meeting : Cause
  Writing : List Write → Cause

abbrev pub cause_is : rust.Cause.Cause → Cause
cause_is (variant.Between left operator right) = Between left operator right
cause_is (variant.Before operator operand) = Before operator operand
cause_is (variant.Beyond entry subscript) = Beyond entry subscript
cause_is (variant.Wide low high procs) = Wide low high procs
cause_is variant.Meeting = Meeting
cause_is (variant.Writing writes) = Writing writes.items

-- the same of a cause that may not be known
abbrev pub known_cause : Option rust.Cause.Cause → Option Cause
known_cause None = None
known_cause (Some c) = Some (cause_is c)
