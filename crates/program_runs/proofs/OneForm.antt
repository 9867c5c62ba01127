-- The code of a program depends on its tree alone.
use Rattle.std.proofs.Common.{◌≡◌, ℕ, List, ◌∷◌, [], ◌++◌, Bool, false, pos, ap, sym, ◌∙◌, subst}
use Rattle.superstep_instructions.specs.declared.instr.Instr.{Instr}
use Rattle.superstep_instructions.specs.declared.instr.Instr.TheVariants.{Halt}
use Rattle.superstep_instructions.specs.declared.instr.Side.TheVariants.{Uniform, Private}
use Rattle.pram_trees.specs.Program.{ProgramTree}
use Rattle.pram_check.specs.Checked.{Checked, IsResolved}
use Rattle.pram_names.specs.Resolved.{SayStatements}
use Rattle.pram_names.specs.Scope.{globals, shared_entries, uniform_count}
use Rattle.plain_form.specs.PlainForm.{form_of, instructions_of}
use Rattle.plain_form.specs.Registers.{behind_variables, registers}
use Rattle.program_runs.proofs.SaidCode.{Outer, outer_list, outer_block, statements_said}

module _ (keep : Bool) (p q : Checked) (rp : IsResolved p) (rq : IsResolved q) (same : p.tree ≡ q.tree) where
  procs_same : p.procs ≡ q.procs
  procs_same = let e : pos p.procs ≡ pos q.procs = rp.procs ∙ ap (λ (t : ProgramTree). t.procs.value) same ∙ sym rq.procs in cc e

  uniforms_same : p.uniforms ≡ q.uniforms
  uniforms_same = rp.uniforms ∙ ap (λ (t : ProgramTree). uniform_count t.declarations) same ∙ sym rq.uniforms

  said : SayStatements (globals p.tree.declarations) p.tree.body q.body
  said = subst (λ (t : ProgramTree). SayStatements (globals t.declarations) t.body q.body) (sym same) rq.body

  bodies_same : outer_list p.body ≡ outer_list q.body
  bodies_same =
      let scope = globals p.tree.declarations in
      statements_said scope p.tree.body p.body rp.body ∙ sym (statements_said scope p.tree.body q.body said)

  instructions_same : instructions_of keep p ≡ instructions_of keep q
  instructions_same =
      ap (λ (o : Outer). o.code keep (behind_variables p.uniforms) 0 false ++ Halt ∷ []) bodies_same
      ∙ ap (λ n. (outer_list q.body).code keep (behind_variables n) 0 false ++ Halt ∷ []) uniforms_same

  pub form_same : form_of keep p ≡ form_of keep q
  form_same = λ j. record {
    rule = (rp.rule ∙ ap (λ (t : ProgramTree). t.rule) same ∙ sym rq.rule) j;
    procs = procs_same j;
    layout = (rp.layout ∙ ap (λ (t : ProgramTree). shared_entries t.declarations) same ∙ sym rq.layout) j;
    uniform_registers = ap (registers Uniform) instructions_same j;
    private_registers = ap (registers Private) instructions_same j;
    instructions = instructions_same j;
  }
