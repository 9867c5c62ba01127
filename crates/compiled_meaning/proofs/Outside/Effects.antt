-- What the last instructions of an assignment to a variable and of a print leave, and that they note nothing.
use Rattle.std.proofs.Common.{◌≡◌, ◌≢◌, ℕ, ◌<◌, ◌≤◌, [], ◌∷◌, ◌++◌, Bool, true, false, None, ℤ, pos, refl, sym, ap, ◌∙◌}
use Rattle.std.proofs.Common.{arith, eqb, get_or}
use Rattle.std.specs.Prelude.{slice_index_or, slice_set}
use Rattle.std.proofs.lemmas.List.{get_or-set_same, get_or-set_other, map-append}
use Rattle.superstep_instructions.specs.declared.instr.Side.TheVariants.{Uniform}
use Rattle.superstep_instructions.specs.declared.instr.Instr.TheVariants.{Copy, Print}
use Rattle.superstep_instructions.specs.Code.{SuperstepCode}
use Rattle.superstep_machine.specs.Parts.{set_register}
use Rattle.superstep_machine.specs.Steps.{is_active}
use Rattle.superstep_machine.proofs.Numbers.{same_number, with_itself}
use Rattle.pram_check.specs.Checked.{Checked}
use Rattle.pram_meaning.specs.Store.{State, with_uniform, printed}
use Rattle.flat_machine.specs.Flat.{Flat, after_instr}
use Rattle.superstep_machine.proofs.KeyOrder.{none_least}
use Rattle.flat_stretches.specs.Notes.{note, notes}
use Rattle.plain_form.specs.Registers.{variable, behind_variables}
use Rattle.compiled_formulas.proofs.Operations.{set_here, set_there}
use Rattle.compiled_meaning.specs.Between.{HasSizes}
use Rattle.compiled_meaning.proofs.Outside.Evaluated.{Leaves}
use Rattle.flat_stretches.proofs.Statements.{mark_stays}
use Rattle.compiled_meaning.proofs.Outside.UniformWork.{nothing_either, rests_behind, noted_alone}

-- ---- a value for a variable

module _ (code : SuperstepCode) (p : Checked) (free : ℕ) (m : State) (f h : Flat) (l : Leaves p free m f h)
    (free_ones : behind_variables p.uniforms ≤ free) where
  module _ (x r : ℕ) (named : x < p.uniforms) (sizes : HasSizes p m) where
    abbrev got : Flat
    got = after_instr code (Copy Uniform (variable x) r) h

    got_variables : (y : ℕ) → y < p.uniforms →
        set_register (variable x) (h.uniform.registers r) h.uniform.registers (variable y)
        ≡ slice_index_or (slice_set m.uniforms x (h.uniform.registers r)) y (pos 0)
    got_variables y k = by (eqb x y) refl
      where
        by : (b : Bool) → eqb x y ≡ b →
            set_register (variable x) (h.uniform.registers r) h.uniform.registers (variable y)
            ≡ slice_index_or (slice_set m.uniforms x (h.uniform.registers r)) y (pos 0)
        by true e =
            let same : x ≡ y = same_number x y e in
            let long = sizes.uniforms in
            ap (λ k. set_register (variable x) (h.uniform.registers r) h.uniform.registers (variable k)) (sym same)
            ∙ set_here (variable x) (h.uniform.registers r) h.uniform.registers
            ∙ sym (ap (λ k. get_or (slice_set m.uniforms x (h.uniform.registers r)) k (pos 0)) (sym same)
            ∙ get_or-set_same m.uniforms x (h.uniform.registers r) (pos 0) (omega (arith, long, named)))
        by false e =
            let apart : x ≢ y = λ s. absurd (cc (e, with_itself y, ap (λ k. eqb k y) s)) in
            let s = l.shows in
            let w = s.shows in
            set_there (variable x) (h.uniform.registers r) h.uniform.registers (variable y)
            (λ s. apart (omega (arith, s)))
            ∙ w.variables y k
            ∙ sym (get_or-set_other m.uniforms x y (h.uniform.registers r) (pos 0) (λ s. apart (sym s)))

    pub got_leaves : Leaves p free (with_uniform x (h.uniform.registers r) m) f got
    got_leaves =
        let s = l.shows in
        let w = s.shows in
        let b = s.bare in record {
          shows = record {
            shows = record {
              nothing = set_there (variable x) (h.uniform.registers r) h.uniform.registers 0 (λ e. omega (arith, e)) ∙ w.nothing;
              variables = got_variables;
              indices = λ i. absurd i;
              locals = λ y i. absurd i;
              cells = w.cells;
            };
            bare = record { put = b.put; held = b.held };
            rests = rests_behind h got refl refl (λ v. mark_stays (is_active (h.own v)) (h.own v)) s.rests;
          };
          count = l.count;
          output = l.output;
          registers = λ y low up.
              set_there (variable x) (h.uniform.registers r) h.uniform.registers y (λ e. omega (arith, e, low, named))
              ∙ l.registers y low up;
        }

  pub got_notes : (d r : ℕ) → notes code (Copy Uniform d r ∷ []) h ≡ None
  got_notes d r =
      none_least (note code (Copy Uniform d r) h)
      ∙ noted_alone code (Copy Uniform d r) h (λ v. nothing_either (is_active (h.own v)))

  -- ---- a print

  module _ (r : ℕ) where
    abbrev said : Flat
    said = after_instr code (Print r) h

    pub printed_leaves : Leaves p free (printed (h.uniform.registers r) m) f said
    printed_leaves =
        let s = l.shows in
        let w = s.shows in
        let b = s.bare in record {
          shows = record {
            shows = record {
              nothing = w.nothing;
              variables = w.variables;
              indices = w.indices;
              locals = w.locals;
              cells = w.cells;
            };
            bare = record { put = b.put; held = b.held };
            rests = rests_behind h said refl refl (λ v. mark_stays (is_active (h.own v)) (h.own v)) s.rests;
          };
          count = l.count;
          output = map-append (λ (x : ℕ × ℤ). x.1) h.uniform.output ((h.uniform.count, h.uniform.registers r) ∷ [])
              ∙ ap (λ xs. xs ++ h.uniform.registers r ∷ []) l.output;
          registers = l.registers;
        }

    pub printed_notes : notes code (Print r ∷ []) h ≡ None
    printed_notes =
        none_least (note code (Print r) h) ∙ noted_alone code (Print r) h (λ v. nothing_either (is_active (h.own v)))
