-- What a program's body and its formulas have in common.
use Rattle.std.specs.Prelude.{◌≡◌}
use Rattle.pram_names.specs.declared.body.Expression.{Expression}
use Rattle.pram_check.specs.Bounded as bounded
use Rattle.plain_form.specs.Formulas.{formula_of, reads}

-- a formula has the shared reads of its expression
abbrev pub ReadsAreKept : Type 0
ReadsAreKept = (e : Expression) → reads (formula_of e) ≡ bounded.reads e
