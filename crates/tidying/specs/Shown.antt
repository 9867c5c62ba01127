-- How certificates are written down.
use Rattle.std.specs.Prelude.{ℕ, ◌-◌, List, Bool, true, false, Option, Some, None, ℤ, nat_lt, if◌then◌else◌, slice_get}
use Rattle.superstep_instructions.specs.declared.instr.Side.{Side}
use Rattle.superstep_instructions.specs.declared.instr.Side.TheVariants.{Uniform, Private}
use Rattle.tidying.specs.declared.certificate.Known.{Known}
use Rattle.tidying.specs.declared.certificate.Constants.{Constants}
use Rattle.tidying.specs.declared.certificate.Certificate as written
use Rattle.tidying.specs.declared.rows.Part.{Part}
use Rattle.tidying.specs.declared.rows.Part.TheVariants as part
use Rattle.superstep_instructions.specs.declared.instr.Instr.{Instr}
use Rattle.tidying.specs.Rows.{Row}
use Rattle.tidying.specs.Certificates.{Rows, Certificate, rows_then, rows_without, all_after}

-- what is at a place of a list, and else nothing
abbrev pub or_none : {A : Type 0} → Option (Option A) → Option A
or_none None = None
or_none (Some o) = o

abbrev pub row_of : List (Option ℕ) → Row
row_of cells s = or_none (slice_get cells s)

abbrev pub or_zero : Option ℕ → ℕ
or_zero None = 0
or_zero (Some n) = n

abbrev pub item_of : List ℕ → ℕ → ℕ
item_of items k = or_zero (slice_get items k)

abbrev pub number_from : ℕ → List ℤ → ℕ → Option ℤ
number_from first numbers r = if nat_lt r first then None else slice_get numbers (r - first)

abbrev pub number_of : Constants → Side → ℕ → Option ℤ
number_of c Uniform r = number_from c.first_uniform c.uniform.items r
number_of c Private r = number_from c.first_private c.private.items r

abbrev pub rows_of : Known → Rows
rows_of x = record { uniform = row_of x.uniform.items; active = row_of x.active.items; idle = row_of x.idle.items; all = x.all }

-- nothing is known behind the end
abbrev pub rows_there : Option Known → Rows
rows_there None = record { uniform = λ s. None; active = λ s. None; idle = λ s. None; all = false }
rows_there (Some x) = rows_of x

abbrev pub shown : written.Certificate → Certificate
shown c = record {
  at = λ k. rows_there (slice_get c.known.items k);
  number = number_of c.constants;
  into = item_of c.into.items;
  moved = item_of c.moved.items;
}

-- ---- one of the rows

abbrev pub part_of : Part → Rows → Row
part_of part.Uniform rows = rows.uniform
part_of part.Active rows = rows.active
part_of part.Idle rows = rows.idle

abbrev pub rows_behind : Bool → (Side → ℕ → Option ℤ) → ℕ → Rows → Instr → Rows
rows_behind true number e rows i = rows_without number e rows i
rows_behind false number e rows i = rows_then number e rows i

abbrev pub all_behind : Bool → Bool → Instr → Bool
all_behind true all i = all
all_behind false all i = all_after all i
