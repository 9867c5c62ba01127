use Rattle.std.proofs.Common.{arith, tests, rules, sym, subst, ap, ◌∙◌, [], FitsSigned}
use Rattle.std.proofs.lemmas.Int.{to_z-of_z}
use Rattle.std.specs.Int.{w64}
use Rattle.pram_meaning.specs.Store.{member_of, Member}
use Rattle.all_inputs.specs.Overall.{Cover}
use Rattle.abstract_runs.proofs.Members.{is_known_there, is_known_past}
use Rattle.abstract_runs.proofs.rows.outlook_by.Goals as goal

pub returns-in-Some : goal.returns-in-Some
returns-in-Some c = λ m k h.
    let found = c.in-Some.ensures.lookup in
    let g = is_known_there (member_of m.team c.args.member) c.args.team.now c.args.member c.in-Some.one.now (grind (arith, tests, found.0)) found.1 h in
    let fits : FitsSigned w64 c.in-Some.one.now.index = search rules in
    record {
      layout = sym c.layout.ensures;
      uniforms = k.uniforms;
      cells = k.cells;
      index = g.index ∙ sym (to_z-of_z w64 c.in-Some.one.now.index fits);
      locals = g.locals;
    }

pub returns-in-None : goal.returns-in-None
returns-in-None c = λ m k h.
    let found = c.in-None.ensures.lookup in
    let g = is_known_past (member_of m.team c.args.member) c.args.team.now c.args.member (grind (arith, tests, found.0)) h in
    record {
      layout = sym c.layout-in-None.ensures;
      uniforms = k.uniforms;
      cells = k.cells;
      index = ap (λ (k : Member). k.index) g;
      locals = subst (λ l. Cover l (member_of m.team c.args.member).locals) (sym c.requires)
          (subst (λ l. Cover [] l) (sym (ap (λ (k : Member). k.locals) g)) tt);
    }
