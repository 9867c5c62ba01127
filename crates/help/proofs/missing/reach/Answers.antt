use Rattle.std.proofs.Common.{◌∙◌, Err, IfOk, ap, subst, sym}
use Rattle.pram_trees.specs.Faults.{IsRefusedRightly}
use Rattle.pram_trees.specs.Program.{ProgramTree}
use Rattle.help.specs.Missing.{Reaches}
use Rattle.help.proofs.Reaching.{reaches_depth, reaches_syntax, reaches_whole}
use Rattle.help.proofs.missing.reach.Goals as goal
use Rattle.help.proofs.missing.reach.Goals.{in-Ok, in-Err-Syntax, in-Err-TooDeep, in-Err-OutOfMemory}

pub returns : goal.returns
returns c =
    let ts = c.args.tokens.now in
    elim c.match-parse_tokens.branch [
      | in-Ok w ↦ subst (λ r. IfOk r (Reaches ts)) (sym w.result-is)
          (reaches_whole ts w.in-Ok.field-0 w.in-Ok.ensures.stands w.in-Ok.ensures.found)
      | in-Err-Syntax w ↦ subst (λ r. IfOk r (Reaches ts)) (sym w.result-is)
          (reaches_syntax ts w.in-Err-Syntax.left (subst (IsRefusedRightly {X = ProgramTree} ts) (w.in-Err-Syntax.is
          ∙ ap Err w.in-Err-Syntax.field-0-is) c.parse_tokens.ensures.refused))
      | in-Err-TooDeep w ↦ subst (λ r. IfOk r (Reaches ts)) (sym w.result-is)
          (reaches_depth ts w.in-Err-TooDeep.left (subst (IsRefusedRightly {X = ProgramTree} ts) (w.in-Err-TooDeep.is
          ∙ ap Err w.in-Err-TooDeep.field-0-is) c.parse_tokens.ensures.refused))
      | in-Err-OutOfMemory w ↦ subst (λ r. IfOk r (Reaches ts)) (sym w.result-is) tt
    ]
