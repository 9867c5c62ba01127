-- The C text of code: the runtime, which is the same for all, and in it the declarations and the instructions as tables.
use Rattle.std.specs.Prelude.{ℕ, List, [], ◌∷◌, ◌++◌, ℤ, pos, negsuc, Option, Some, None, codes, decimal}
use Rattle.std.specs.List.{flat_map}
use Rattle.pram_model.specs.declared.rule.Rule.{Rule}
use Rattle.pram_model.specs.Layout.{SharedEntry}
use Rattle.pram_model.specs.Rules.{rule_word}
use Rattle.superstep_instructions.specs.declared.instr.Instr.{Instr}
use Rattle.superstep_instructions.specs.Code.{SuperstepCode}
use Rattle.superstep_listing.specs.Listing.{side_of, stem_of, numbers_of}
use Rattle.mpi_export.specs.declared.state_text.TheConstants.{HEAD, STATE, FAULTS, VALUES}
use Rattle.mpi_export.specs.declared.exchange_text.TheConstants.{EXCHANGE, JOINS, HELD, SENDING, MODULE}
use Rattle.mpi_export.specs.declared.opening_text.TheConstants.{OPTIONS, INPUT, MEMORY, OPENING}
use Rattle.mpi_export.specs.declared.run_text.TheConstants.{OUTCOME, RUN, START}

-- A number in C. A negative one is a complement, ~4 for -5, since C has no literal for the least of 64 bits.
abbrev pub c_number : ℤ → List ℕ
c_number (pos n) = decimal n
c_number (negsuc n) = 126 ∷ decimal n

-- `#define PROCS 8`
abbrev pub definition : (name : List ℕ) → ℕ → List ℕ
definition name n = codes "#define " ++ (name ++ (32 ∷ [] ++ (decimal n ++ 10 ∷ [])))

-- `#define RULE rule_crew`
abbrev pub rule_definition : Rule → List ℕ
rule_definition rule = codes "\n#define RULE rule_" ++ (rule_word rule ++ 10 ∷ [])

-- `{entry_cell, "s", 0, 0},` and `{entry_array, "a", 1, 8},`
abbrev pub declared : (name : List ℕ) → Option (ℤ × ℤ) → List ℕ
declared name None = codes "    {entry_cell, \"" ++ (name ++ codes "\", 0, 0},\n")
declared name (Some (low, high)) = codes "    {entry_array, \"" ++ (name ++ (codes "\", " ++ (c_number low ++ (codes ", " ++ (c_number high
    ++ codes "},\n")))))

abbrev pub entry_row : SharedEntry → List ℕ
entry_row entry = declared entry.name entry.bounds

abbrev pub operand : ℤ → List ℕ
operand z = codes ", " ++ c_number z

-- `{op_padd, 5, 2, 3, 6},`: an instruction by its word and its operands, in the order of the listing
abbrev pub instr_row : Instr → List ℕ
instr_row instr = codes "    {op_" ++ (side_of instr ++ (stem_of instr ++ (flat_map operand (numbers_of instr) ++ codes "},\n")))

-- the rule, the processors and the declarations
abbrev pub declarations : SuperstepCode → List ℕ
declarations code =
    rule_definition code.rule
    ++ (definition (codes "PROCS") code.procs
    ++ (codes "\nstatic const struct entry entries[] = {\n"
    ++ (flat_map entry_row code.layout
    ++ codes "    {entry_end, \"\", 0, 0}\n};\n\n")))

-- the numbers of registers, and the instructions
abbrev pub instructions : SuperstepCode → List ℕ
instructions code =
    definition (codes "UNIFORM") code.uniform_registers
    ++ (definition (codes "PRIVATE") code.private_registers
    ++ (codes "\nstatic const int64_t plan[][5] = {\n"
    ++ (flat_map instr_row code.instructions
    ++ codes "};\n")))

-- what stands behind the plan
abbrev pub runtime : List ℕ
runtime = STATE ++ (FAULTS ++ (VALUES ++ (EXCHANGE ++ (JOINS ++ (HELD ++ (SENDING ++ (MODULE ++ (OPTIONS ++ (INPUT ++ (MEMORY ++ (OPENING
    ++ (OUTCOME ++ (RUN ++ START)))))))))))))

abbrev pub c_text : SuperstepCode → List ℕ
c_text code = HEAD ++ (declarations code ++ (instructions code ++ runtime))
