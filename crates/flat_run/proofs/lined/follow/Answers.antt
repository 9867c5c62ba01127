use Rattle.std.proofs.Common.{◌≡◌, ◌-◌, ◌∙◌, ◌++◌, [], sym, ap, arith, append-nil}
use Rattle.exchange_lines.specs.Lines.{lines_within}
use Rattle.flat_run.specs.RunViews.{state_of}
use Rattle.flat_run.proofs.AlikeLemmas.{going_is_on}
use Rattle.flat_run.proofs.LineLemmas.{one_more, none_over}
use Rattle.flat_run.proofs.lined.follow.Goals as goal
use Rattle.flat_run.proofs.lined.follow.Goals.{then-instructions-test+else-is_on, else-instructions-test}

pub instructions-preserved : goal.instructions-preserved
instructions-preserved c =
    let old = state_of c.instructions.run in
    let on = going_is_on old.way (sym c.is_on.ensures ∙ c.if-is_on.true) in
    record {
      run = c.in_ok-step.ensures.run;
      noted = one_more c.args.code.now c.args.bound c.instructions.left (c.instructions.left - 1) old (state_of c.step.new.run)
          (c.instructions.all.items) (c.add_here.new.all.items)
          (omega (arith, c.instructions-test.true)) on c.in_ok-step.ensures.state c.in_ok-add_here.ensures
          ∙ c.instructions.invariant.noted;
    }

-- nothing is to come
pub returns : goal.returns
returns c =
    let noted = c.instructions.all.items in
    let none : lines_within c.args.code.now c.args.bound c.instructions.left (state_of c.instructions.run) ≡ [] =
    elim c.instructions-test.branch [
      | then-instructions-test+else-is_on w ↦ none_over c.args.code.now c.args.bound c.instructions.left (state_of c.instructions.run)
          (sym w.is_on.ensures ∙ w.if-is_on.false)
      | else-instructions-test w ↦
          let over : c.instructions.left ≡ 0 = omega (arith, w.instructions-test.false) in
          ap (λ n. lines_within c.args.code.now c.args.bound n (state_of c.instructions.run)) over
    ] in
    sym (append-nil noted) ∙ ap (λ xs. noted ++ xs) (sym none) ∙ c.instructions.invariant.noted
