use Rattle.std.proofs.Common.{sym, subst, ◌∙◌, rules, FitsSigned}
use Rattle.std.proofs.lemmas.Int.{to_z-of_z}
use Rattle.std.specs.Int.{w64}
use Rattle.pram_meaning.specs.Store.{member_of, seen_by}
use Rattle.all_inputs.specs.Overall.{Cover}
use Rattle.abstract_runs.proofs.narrowing_members.narrowed_member.Goals as goal

pub returns : goal.returns
returns c = λ m v known here come.
    let fits : FitsSigned w64 c.args.one.now.index = search rules in
    let same = here.index ∙ sym (to_z-of_z w64 c.args.one.now.index fits) in
    record {
      index = same;
      locals = c.in_ok-narrow_locals.ensures (seen_by c.args.program.now m v)
          (record {
            layout = sym c.layout.ensures;
            uniforms = known.uniforms;
            cells = known.cells;
            index = same;
            locals = here.locals;
          })
          (subst (λ is. Cover is (member_of m.team v).locals) (sym (c.in_ok-locals.ensures.items ∙ c.deref.ensures.value)) here.locals)
          come;
    }
