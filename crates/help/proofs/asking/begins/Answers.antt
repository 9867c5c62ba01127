use Rattle.std.proofs.Common.{◌∙◌, Err, IfOk, ap, subst, sym}
use Rattle.pram_trees.specs.Faults.{IsRefusedRightly}
use Rattle.pram_trees.specs.Program.{Begins, ProgramTree, limit}
use Rattle.help.specs.Choices.{Decides}
use Rattle.help.proofs.Beginnings.{begins_whole, decides_by_place, never_within}
use Rattle.help.proofs.asking.begins.Goals as goal
use Rattle.help.proofs.asking.begins.Goals.{in-Ok, in-Err-Syntax, in-Err-TooDeep, in-Err-OutOfMemory}

pub returns : goal.returns
returns c =
    let ts = c.args.tokens.now in
    elim c.match-parse_tokens.branch [
      | in-Ok w ↦ subst (λ r. IfOk r (λ b. Decides b (Begins limit limit ts))) (sym w.result-is)
          (begins_whole ts w.in-Ok.field-0 w.in-Ok.ensures.stands w.in-Ok.ensures.found)
      | in-Err-Syntax w ↦ subst (λ r. IfOk r (λ b. Decides b (Begins limit limit ts))) (sym w.result-is)
          (decides_by_place ts w.in-Err-Syntax.left (subst (IsRefusedRightly {X = ProgramTree} ts) (w.in-Err-Syntax.is
          ∙ ap Err w.in-Err-Syntax.field-0-is) c.parse_tokens.ensures.refused))
      | in-Err-TooDeep w ↦ subst (λ r. IfOk r (λ b. Decides b (Begins limit limit ts))) (sym w.result-is)
          (never_within ts w.in-Err-TooDeep.field-0-0 (subst (IsRefusedRightly {X = ProgramTree} ts) (w.in-Err-TooDeep.is
          ∙ ap Err w.in-Err-TooDeep.field-0-is) c.parse_tokens.ensures.refused))
      | in-Err-OutOfMemory w ↦ subst (λ r. IfOk r (λ b. Decides b (Begins limit limit ts))) (sym w.result-is) tt
    ]
