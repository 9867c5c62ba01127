-- The code of a program is one stretch, so it is well formed.
use Rattle.std.proofs.Common.{◌≡◌, ℕ, ◌+◌, ◌-◌, List, [], ◌∷◌, ◌++◌, length, Bool, false, Some, refl, ap, ◌∙◌, sym, subst, arith}
use Rattle.std.proofs.Common.{length-append}
use Rattle.std.specs.Prelude.{slice_get}
use Rattle.pram_model.proofs.Truths.{unsome}
use Rattle.superstep_instructions.specs.declared.instr.Side.TheVariants.{Uniform}
use Rattle.superstep_instructions.specs.declared.instr.Instr.{Instr}
use Rattle.superstep_instructions.specs.declared.instr.Instr.TheVariants.{Halt}
use Rattle.superstep_instructions.specs.Code.{SuperstepCode}
use Rattle.pram_check.specs.Checked.{Checked}
use Rattle.pram_check.specs.Bounded.{IsBounded}
use Rattle.bsp_verify.specs.Control.{goes_on}
use Rattle.bsp_verify.specs.States.{opening}
use Rattle.bsp_verify.specs.WellFormed.{IsWellFormed}
use Rattle.bsp_verify.specs.Stretches.{scan_of, IsPlaced, IsStretch, IsClosed}
use Rattle.bsp_verify.proofs.StretchLemmas.{parts_stand, stretches_compose, a_stretch_is_code}
use Rattle.plain_form.specs.Registers.{behind_variables}
use Rattle.plain_form.specs.Outside.{statements_code, statements_left}
use Rattle.plain_form.specs.PlainForm.{form_of}
use Rattle.verified_form.specs.FormedCode.{FormsAreWellFormed}
use Rattle.verified_form.proofs.Fitting.{resting, HasRegisters}
use Rattle.verified_form.proofs.RegistersStand.{registers_stand}
use Rattle.verified_form.proofs.StatementsFormed.{statements_judged}

-- the last of some instructions with one behind them
last_of : (is : List Instr) (i : Instr) → slice_get (is ++ i ∷ []) (length is) ≡ Some i
last_of [] i = refl
last_of (x ∷ is) i = last_of is i

halt_closes : (is : List Instr) → IsClosed (is ++ Halt ∷ [])
halt_closes is i h =
    let n = length-append is (Halt ∷ []) in
    let e : length (is ++ Halt ∷ []) - 1 ≡ length is = omega (arith, n) in
    let l = sym (last_of is Halt) ∙ ap (slice_get (is ++ Halt ∷ [])) (sym e) ∙ h in
    subst (λ (j : Instr). goes_on j ≡ false) (unsome Halt i l) refl

-- nothing stands behind the halt
halt_placed : (code : SuperstepCode) (at : ℕ) (held : Bool) → length code.instructions ≡ at + 1 →
    IsPlaced code at Halt (resting Uniform 0 held)
halt_placed code at held n = record {
  registers = refl;
  entry = refl;
  target = refl;
  mode = refl;
  masks = refl;
  exchange = refl;
  joins = λ t j. absurd j;
  followed = λ e l. absurd (omega (arith, n, l));
}

module _ (keep : Bool) (p : Checked) (bounded : IsBounded p) where
  abbrev program_code : SuperstepCode
  program_code = form_of keep p

  abbrev body : List Instr
  body = statements_code keep (behind_variables p.uniforms) 0 false p.body

  abbrev final : Bool
  final = statements_left false p.body

  long : length program_code.instructions ≡ length body + 1
  long = length-append body (Halt ∷ [])

  whole : IsStretch program_code 0 opening program_code.instructions (resting Uniform 0 final)
  whole =
      let all : HasRegisters program_code = registers_stand program_code refl refl in
      let stands = (parts_stand program_code).0 in
      let n = long in
      let deep = bounded.depth in
      let first = statements_judged program_code all p.uniforms keep (behind_variables p.uniforms) 0 false p.body bounded.body
      (omega (arith, deep)) ((parts_stand program_code).1 0 opening body (Halt ∷ []) stands).0 (omega (arith, n)) in
      stretches_compose program_code 0 opening (resting Uniform 0 final) (resting Uniform 0 final) body (Halt ∷ []) first
      (halt_placed program_code (0 + length body) final (omega (arith, n)), refl)

  formed : IsWellFormed program_code
  formed =
      let n = long in (
        omega (arith, n),
        (
          scan_of program_code,
          a_stretch_is_code program_code (resting Uniform 0 final) (omega (arith, n)) (halt_closes body) whole,
        ),
      )

pub forms_are_well_formed : FormsAreWellFormed
forms_are_well_formed keep p bounded = formed keep p bounded
