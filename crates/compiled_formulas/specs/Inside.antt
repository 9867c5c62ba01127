-- Inside pardo the machine shows what each processor sees, and the code of a formula computes it for all active processors.
use Rattle.std.specs.Prelude.{◌≡◌, ℕ, ◌<◌, ◌≤◌, List, map, length, None, true}
use Rattle.std.specs.List.{filter}
use Rattle.pram_model.specs.Layout.{total_size}
use Rattle.superstep_instructions.specs.declared.instr.Side.TheVariants.{Uniform, Private}
use Rattle.superstep_instructions.specs.Code.{SuperstepCode}
use Rattle.superstep_machine.specs.Steps.{index_of, is_active}
use Rattle.pram_check.specs.Checked.{Checked}
use Rattle.pram_check.specs.Bounded.{names_of, with_locals}
use Rattle.pram_meaning.specs.Store.{State, member_of, seen, seen_by}
use Rattle.flat_machine.specs.Flat.{Flat, range}
use Rattle.flat_stretches.specs.Applied.{IsBare, AsksNone}
use Rattle.flat_stretches.specs.Folds.{acts_at_once}
use Rattle.flat_stretches.specs.Leaving.{IsLeft}
use Rattle.flat_stretches.specs.Notes.{notes}
use Rattle.statement_evaluation.specs.Whole.{value}
use Rattle.statement_evaluation.specs.Rows.{Row}
use Rattle.statement_evaluation.specs.Noted.{noted_in}
use Rattle.plain_form.specs.Registers.{behind_locals}
use Rattle.plain_form.specs.Formulas.{Formula, Pair, positions}
use Rattle.plain_form.specs.Groups.{evaluated, value_at, first_at, second_at}
use Rattle.compiled_formulas.specs.Terms.{term, steps_in}
use Rattle.compiled_formulas.specs.Environments.{IsNamed, Shows}
use Rattle.compiled_formulas.specs.Headings.{heading_of}

-- The range is the team; the uniform registers and the memory show what the program sees, with the registers of each processor what
-- that one sees, and no write and no read is held.
pub record ShowsInside (p : Checked) (locals : ℕ) (m : State) (f : Flat) : Type 0 where
  pub width : f.uniform.width ≡ length m.team
  pub members : (v : ℕ) → v < f.uniform.width → index_of f.uniform v ≡ (member_of m.team v).index
  pub outside : Shows Uniform (names_of p) (seen p m) f.uniform.registers f.uniform.registers f.memory
  pub shows : (v : ℕ) → v < f.uniform.width →
      Shows Private (with_locals locals (names_of p)) (seen_by p m v) f.uniform.registers (f.own v).registers f.memory
  pub bare : IsBare f
  pub rests : AsksNone f

-- the processors of the range that are active
abbrev pub active_ones : Flat → List ℕ
active_ones f = filter (λ v. is_active (f.own v)) (range f)

-- a processor with what happens in a formula, as evaluation has it
abbrev pub row_in : Checked → State → Formula → ℕ → Row
row_in p m e v = record {
  processor = (member_of m.team v).index;
  whole = record { steps = steps_in (seen_by p m v) e; value = record { value = value (seen_by p m v) (term e); cell = None } };
}

-- The code of a formula leaves what was shown, the masks, all registers of processors below `base` and all uniform registers, and notes
-- what evaluation says of the active processors: their own faults, and the conflicts of their reads.
pub record IsEvaluatedInside (code : SuperstepCode) (p : Checked) (locals : ℕ) (m : State) (base : ℕ) (e : Formula) (f : Flat) : Type 0
  where
    pub gives : (v : ℕ) → v < f.uniform.width → is_active (f.own v) ≡ true →
        ((acts_at_once code (evaluated Private base e) f).own v).registers (value_at Private base e) ≡ value (seen_by p m v) (term e)
    pub shows : ShowsInside p locals m (acts_at_once code (evaluated Private base e) f)
    pub left : (any : ℕ) → IsLeft any f (acts_at_once code (evaluated Private base e) f)
    pub masks : (v : ℕ) → ((acts_at_once code (evaluated Private base e) f).own v).masks ≡ (f.own v).masks
    pub registers : (v r : ℕ) → r < base →
        ((acts_at_once code (evaluated Private base e) f).own v).registers r ≡ (f.own v).registers r
    pub tells : notes code (evaluated Private base e) f
        ≡ noted_in (heading_of f) p.rule (total_size p.layout) (positions e) (map (row_in p m e) (active_ones f))

-- what a formula's code may be run from: its names can be named, and the registers of processors from `base` on are free
abbrev pub MayEvaluateInside : SuperstepCode → Checked → ℕ → State → ℕ → Formula → Flat → Type 0
MayEvaluateInside code p locals m base e f =
    (code.layout ≡ p.layout) × (code.rule ≡ p.rule) × IsNamed (with_locals locals (names_of p)) e × (behind_locals locals ≤ base)
    × ShowsInside p locals m f

abbrev pub FormulasAreEvaluatedInside : Type 0
FormulasAreEvaluatedInside = (code : SuperstepCode) (p : Checked) (locals : ℕ) (m : State) (base : ℕ) (e : Formula) (f : Flat) →
    MayEvaluateInside code p locals m base e f → IsEvaluatedInside code p locals m base e f

-- and both registers of a pair have their values
abbrev pub PairsAreEvaluatedInside : Type 0
PairsAreEvaluatedInside = (code : SuperstepCode) (p : Checked) (locals : ℕ) (m : State) (base : ℕ) (d e : Formula) (f : Flat) →
    MayEvaluateInside code p locals m base (Pair d e) f → (v : ℕ) → v < f.uniform.width → is_active (f.own v) ≡ true →
    let g = acts_at_once code (evaluated Private base (Pair d e)) f in
    ((g.own v).registers (first_at Private base d e) ≡ value (seen_by p m v) (term d))
    × ((g.own v).registers (second_at Private base d e) ≡ value (seen_by p m v) (term e))
