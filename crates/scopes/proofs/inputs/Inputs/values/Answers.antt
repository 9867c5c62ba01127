use Rattle.scopes.proofs.Begun.{here_left}
use Rattle.scopes.proofs.inputs.Inputs.values.Goals as goal

pub returns-clause-first : goal.returns-clause-first
returns-clause-first c =
    let s = c.args.self.now in
    here_left s.scope s.over s.input.items c.as_slice.result.now c.requires.here s.apart c.as_slice.ensures.value
