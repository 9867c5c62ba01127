-- Instructions behind a state of the program that set free registers alone, and sends of nothing: it is still that state.
use Rattle.std.proofs.Common.{◌≡◌, ◌≢◌, ℕ, ◌+◌, ◌<◌, ◌≤◌, List, ◌++◌, Bool, None, ℤ, refl, ap, ◌∙◌, arith}
use Rattle.superstep_instructions.specs.declared.instr.Arithmetic.{Arithmetic}
use Rattle.superstep_instructions.specs.declared.instr.Side.TheVariants.{Uniform}
use Rattle.superstep_instructions.specs.declared.instr.Truth.{Truth}
use Rattle.superstep_instructions.specs.declared.instr.Instr.{Instr}
use Rattle.superstep_instructions.specs.declared.instr.Instr.TheVariants.{Copy, Decide, Calculate}
use Rattle.superstep_instructions.specs.Code.{SuperstepCode}
use Rattle.superstep_machine.specs.Keys.{least}
use Rattle.superstep_machine.specs.Run.{items}
use Rattle.superstep_machine.specs.Parts.{Registers, set_register}
use Rattle.superstep_machine.specs.Results.{calculated, tested, kind_of, or_zero}
use Rattle.superstep_machine.specs.Steps.{is_active, fault_at}
use Rattle.pram_values.specs.declared.place.Place.TheVariants.{All}
use Rattle.pram_values.specs.Truth.{truth}
use Rattle.pram_check.specs.Checked.{Checked}
use Rattle.pram_meaning.specs.Store.{State}
use Rattle.flat_machine.specs.Flat.{Flat, after_instr}
use Rattle.flat_stretches.specs.Folds.{acts_at_once}
use Rattle.flat_stretches.specs.Notes.{note, notes}
use Rattle.flat_stretches.proofs.Joins.{acts_at_once_join}
use Rattle.flat_stretches.proofs.Notes.{notes_join}
use Rattle.plain_form.specs.Registers.{behind_variables}
use Rattle.plain_form.specs.Shapes.{flush}
use Rattle.compiled_formulas.proofs.Operations.{set_here, set_there}
use Rattle.compiled_formulas.specs.Outside.{ShowsOutside}
use Rattle.compiled_meaning.proofs.EachStatement.Marked.{send_stays, send_notes}
use Rattle.compiled_meaning.proofs.Outside.Evaluated.{Leaves}
use Rattle.flat_stretches.proofs.Statements.{mark_stays}
use Rattle.compiled_meaning.proofs.Outside.UniformWork.{nothing_either, rests_behind, noted_alone}

-- ---- a send at which nothing is held

module _ (code : SuperstepCode) (p : Checked) (m : State) (h : Flat) (s : ShowsOutside p m h) (some : Bool) (is : List Instr) where
  pub sent_acts : acts_at_once code (flush some ++ is) h ≡ acts_at_once code is h
  sent_acts = acts_at_once_join code (flush some) is h ∙ ap (acts_at_once code is) (send_stays code h s.bare s.rests some)

  pub sent_notes : notes code (flush some ++ is) h ≡ notes code is h
  sent_notes =
      notes_join code (flush some) is h
      ∙ (λ i. least (send_notes code h s.bare s.rests some i) (notes code is (send_stays code h s.bare s.rests some i)))

-- ---- instructions that set a uniform register

-- one of them sets register d, and does nothing else
pub record SetsOne (d : ℕ) (z : ℤ) (h g : Flat) : Type 0 where
  pub registers : g.uniform.registers ≡ set_register d z h.uniform.registers
  pub count : g.uniform.count ≡ h.uniform.count
  pub output : g.uniform.output ≡ h.uniform.output
  pub put : g.uniform.put ≡ h.uniform.put
  pub asks : g.uniform.asks ≡ h.uniform.asks
  pub awaited : g.uniform.awaited ≡ h.uniform.awaited
  pub own : (v : ℕ) → g.own v ≡ h.own v
  pub memory : (c : ℕ) → g.memory c ≡ h.memory c
  pub held : (c : ℕ) → g.held c ≡ h.held c

module _ (code : SuperstepCode) (h : Flat) where
  pub copy_sets : (d r : ℕ) → SetsOne d (h.uniform.registers r) h (after_instr code (Copy Uniform d r) h)
  copy_sets d r = record {
    registers = refl;
    count = refl;
    output = refl;
    put = refl;
    asks = refl;
    awaited = refl;
    own = λ v. mark_stays (is_active (h.own v)) (h.own v);
    memory = λ c. refl;
    held = λ c. refl;
  }

  pub decide_sets : (o : Truth) (d a b : ℕ) →
      SetsOne d (truth (tested o (h.uniform.registers a) (h.uniform.registers b))) h (after_instr code (Decide Uniform o d a b) h)
  decide_sets o d a b = record {
    registers = refl;
    count = refl;
    output = refl;
    put = refl;
    asks = refl;
    awaited = refl;
    own = λ v. mark_stays (is_active (h.own v)) (h.own v);
    memory = λ c. refl;
    held = λ c. refl;
  }

  pub calculate_sets : (o : Arithmetic) (d a b q : ℕ) →
      SetsOne d (or_zero (calculated o (h.uniform.registers a) (h.uniform.registers b))) h
      (after_instr code (Calculate Uniform o d a b q) h)
  calculate_sets o d a b q = record {
    registers = refl;
    count = refl;
    output = refl;
    put = refl;
    asks = refl;
    awaited = refl;
    own = λ v. mark_stays (is_active (h.own v)) (h.own v);
    memory = λ c. refl;
    held = λ c. refl;
  }

  -- what they note
  pub copy_notes : (d r : ℕ) → note code (Copy Uniform d r) h ≡ None
  copy_notes d r = noted_alone code (Copy Uniform d r) h (λ v. nothing_either (is_active (h.own v)))

  pub decide_notes : (o : Truth) (d a b : ℕ) → note code (Decide Uniform o d a b) h ≡ None
  decide_notes o d a b = noted_alone code (Decide Uniform o d a b) h (λ v. nothing_either (is_active (h.own v)))

  pub calculate_notes : (o : Arithmetic) (d a b q : ℕ) → kind_of (calculated o (h.uniform.registers a) (h.uniform.registers b)) ≡ None →
      note code (Calculate Uniform o d a b q) h ≡ None
  calculate_notes o d a b q e =
      noted_alone code (Calculate Uniform o d a b q) h (λ v. nothing_either (is_active (h.own v)))
      ∙ ap (fault_at h.uniform q All) e

-- that register, and the others
pub set_one : (d : ℕ) (z : ℤ) (h g : Flat) → SetsOne d z h g → g.uniform.registers d ≡ z
set_one d z h g s = ap (λ (r : Registers). r d) s.registers ∙ set_here d z h.uniform.registers

pub set_others : (d : ℕ) (z : ℤ) (h g : Flat) → SetsOne d z h g → (r : ℕ) → d ≢ r → g.uniform.registers r ≡ h.uniform.registers r
set_others d z h g s r n = ap (λ (x : Registers). x r) s.registers ∙ set_there d z h.uniform.registers r n

-- a free register isn't the program's
pub free_set_leaves : (p : Checked) (free : ℕ) (m : State) (f h : Flat) → Leaves p free m f h → behind_variables p.uniforms ≤ free →
    (d : ℕ) (z : ℤ) (g : Flat) → free ≤ d → SetsOne d z h g → Leaves p free m f g
free_set_leaves p free m f h l free_ones d z g is_free o =
    let s = l.shows in
    let w = s.shows in
    let b = s.bare in
    let same : (x : ℕ) → x < free → g.uniform.registers x ≡ h.uniform.registers x =
    λ x k. set_others d z h g o x (λ e. omega (arith, e, k, is_free)) in
    record {
      shows = record {
        shows = record {
          nothing = same 0 (omega (arith, free_ones)) ∙ w.nothing;
          variables = λ x k. same (1 + x) (omega (arith, free_ones, k)) ∙ w.variables x k;
          indices = λ i. absurd i;
          locals = λ x i. absurd i;
          cells = λ c. o.memory c ∙ w.cells c;
        };
        bare = record { put = o.put ∙ b.put; held = λ c. o.held c ∙ b.held c };
        rests = rests_behind h g o.asks o.awaited o.own s.rests;
      };
      count = o.count ∙ l.count;
      output = ap items o.output ∙ l.output;
      registers = λ x low up. same x up ∙ l.registers x low up;
    }
