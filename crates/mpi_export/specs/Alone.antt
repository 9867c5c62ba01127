-- The C text of code for one memory: each instruction is a call of its word, and those that each processor does stand in loops.
use Rattle.std.specs.Prelude.{ℕ, ◌+◌, List, [], ◌∷◌, ◌++◌, Bool, true, false, ◌&&◌, not, codes, decimal, if◌then◌else◌}
use Rattle.std.specs.List.{flat_map, range_with_len}
use Rattle.std.proofs.Common.{eqb}
use Rattle.superstep_instructions.specs.declared.instr.Instr.{Instr}
use Rattle.superstep_instructions.specs.Code.{SuperstepCode}
use Rattle.superstep_listing.specs.Listing.{side_of, stem_of}
use Rattle.mpi_export.specs.declared.parts.Part.{Part}
use Rattle.mpi_export.specs.declared.parts.Part.TheVariants.{Number, OfAll, OfEach, Into}
use Rattle.mpi_export.specs.declared.row.Row.{Row}
use Rattle.mpi_export.specs.declared.alone_text.TheConstants.{ALONE_HEAD, ALONE_STATE, ALONE_VALUES, ALONE_PUTS, ALONE_OPTIONS}
use Rattle.mpi_export.specs.declared.alone_text.TheConstants.{ALONE_OPENING, ALONE_OUTCOME, ALONE_WORDS, ALONE_START}
use Rattle.mpi_export.specs.declared.opening_text.TheConstants.{INPUT, MEMORY}
use Rattle.mpi_export.specs.Program.{c_number, declarations}
use Rattle.mpi_export.specs.Parts.{parts_of}
use Rattle.mpi_export.specs.Loops.{has_column, has_index, rows_of}

abbrev pub when : Bool → List ℕ → List ℕ
when true text = text
when false text = []

-- a register of each processor: its index, an element of a column, or a variable of the loop
abbrev pub of_each : SuperstepCode → ℕ → List ℕ
of_each code r =
    if has_index code && eqb r 1 then codes "me" else if has_column code r then codes "c" ++ (decimal r ++ codes "[i]")
    else codes "r" ++ decimal r

abbrev pub is_variable : SuperstepCode → ℕ → Bool
is_variable code r = not (has_index code && eqb r 1) && not (has_column code r)

-- a variable of the loop is declared where it is set first
abbrev pub into_text : SuperstepCode → Bool → ℕ → List ℕ
into_text code fresh r = when (fresh && is_variable code r) (codes "int64_t ") ++ of_each code r

abbrev pub part_text : SuperstepCode → Bool → Part → List ℕ
part_text code fresh (Number z) = c_number z
part_text code fresh (OfAll r) = codes "u" ++ decimal r
part_text code fresh (OfEach r) = of_each code r
part_text code fresh (Into r) = into_text code fresh r

abbrev pub more_part : SuperstepCode → Bool → Part → List ℕ
more_part code fresh part = codes ", " ++ part_text code fresh part

abbrev pub parts_text : SuperstepCode → Bool → List Part → List ℕ
parts_text code fresh [] = []
parts_text code fresh (part ∷ parts) = part_text code fresh part ++ flat_map (more_part code fresh) parts

-- `    padd(int64_t r5, c2[i], me, 6)`
abbrev pub call_text : SuperstepCode → Bool → Instr → List ℕ
call_text code fresh i = codes "    " ++ (side_of i ++ (stem_of i ++ (codes "(" ++ (parts_text code fresh (parts_of i) ++ codes ")\n"))))

-- `L48:;` before an instruction that others jump to
abbrev pub label : Bool → ℕ → List ℕ
label target k = when target (codes "L" ++ (decimal k ++ codes ":;\n"))

abbrev pub row_text : SuperstepCode → ℕ → Row → List ℕ
row_text code k row = when row.ends (codes "    END\n") ++ (label row.target k ++ (when row.begins (codes "    EACH\n")
    ++ call_text code row.fresh row.instr))

abbrev pub rows_text : SuperstepCode → ℕ → List Row → List ℕ
rows_text code k [] = []
rows_text code k (row ∷ rows) = row_text code k row ++ rows_text code (k + 1) rows

-- ---- registers

-- `    REGISTER(u3)`
abbrev pub register_row : ℕ → List ℕ
register_row r = codes "    REGISTER(u" ++ (decimal r ++ codes ")\n")

-- `    2,` in the table of columns, and `    COLUMN(c2, 2)`
abbrev pub number_row : SuperstepCode → ℕ → List ℕ
number_row code r = when (has_column code r) (codes "    " ++ (decimal r ++ codes ",\n"))

abbrev pub column_row : SuperstepCode → ℕ → List ℕ
column_row code r = when (has_column code r) (codes "    COLUMN(c" ++ (decimal r ++ (codes ", " ++ (decimal r ++ codes ")\n"))))

abbrev pub plan_rows : SuperstepCode → List ℕ
plan_rows code =
    codes "\n/* ---- The plan */\nstatic enum status run(void) {\n"
    ++ (flat_map register_row (range_with_len 0 code.uniform_registers)
    ++ (flat_map (column_row code) (range_with_len 0 code.private_registers)
    ++ (rows_text code 0 (rows_of code)
    ++ codes "}\n")))

abbrev pub column_table : SuperstepCode → List ℕ
column_table code =
    codes "static const size_t taken_over[] = {\n"
    ++ (flat_map (number_row code) (range_with_len 0 code.private_registers) ++ codes "    no_column\n};\n")

abbrev pub alone_runtime : List ℕ
alone_runtime = ALONE_STATE ++ (ALONE_VALUES ++ (ALONE_PUTS ++ (ALONE_OPTIONS ++ (INPUT ++ (MEMORY ++ (ALONE_OPENING ++ (ALONE_OUTCOME
    ++ ALONE_WORDS)))))))

abbrev pub alone_text : SuperstepCode → List ℕ
alone_text code =
    ALONE_HEAD ++ (declarations code ++ (column_table code ++ (alone_runtime ++ (plan_rows code ++ ALONE_START))))
