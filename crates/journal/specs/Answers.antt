-- What the calls answer, and what that stands for.
use Rattle.std.specs.Prelude.{◌≡◌, Result, Ok, Err, ℤ}
use Rattle.journal.specs.declared.cause as rust
use Rattle.journal.specs.Causes.{Cause, cause_is}

-- how an answer tells of a value or of a cause
abbrev pub IsFound : Result ℤ rust.Cause.Cause → Result ℤ Cause → Type 0
IsFound (Ok v) r = r ≡ Ok v
IsFound (Err c) r = r ≡ Err (cause_is c)
