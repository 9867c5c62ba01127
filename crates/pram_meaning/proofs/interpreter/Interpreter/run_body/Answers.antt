use Rattle.std.proofs.Common.{◌<◌, ◌∙◌, List, ap, get_or, length, subst}
use Rattle.std.proofs.lemmas.Result.{err_from_is_err_and}
use Rattle.pram_names.specs.declared.body.Statement.{Statement}
use Rattle.pram_meaning.specs.Runs.{state_of}
use Rattle.pram_meaning.proofs.HeardBlocks.{heard_goes, heard_halts}
use Rattle.pram_meaning.proofs.Loops.{block_goes}
use Rattle.pram_meaning.proofs.interpreter.Interpreter.run_body.Goals as goal

pub returns-in_err-run_statement-clause-heard : goal.returns-in_err-run_statement-clause-heard
returns-in_err-run_statement-clause-heard g c =
    let r = c.from_residual in
    let p = err_from_is_err_and r.result r.ensures.1 in
    let w = c.args.self.now.program.now in
    let i = c.loop-s.s-index in
    let e = c.body-s-items.ensures in
    rw (p.1, p.2)
    (heard_halts g.H.Listener.hears g.H.Listener.gives_up w c.args.self.now.bound w.body i c.s-item.result (state_of c.args.run.now)
    (state_of c.loop-s.run) (state_of c.run_statement.new.run) c.args.listener.now c.loop-s.listener c.run_statement.new.listener _
    c.loop-s.invariant.1 (subst (λ (xs : List Statement). i < length xs) e c.loop-s-test.true)
    (c.s-item.is ∙ ap (λ (xs : List Statement). get_or xs i c.s-item.result) e) c.in_err-run_statement.ensures.value
    c.in_err-run_statement.ensures.heard)

pub loop-s-preserved : goal.loop-s-preserved
loop-s-preserved g c =
    let w = c.args.self.now.program.now in
    let n = c.args.self.now.bound in
    let i = c.loop-s.s-index in
    let s = c.s-item.result in
    let e = c.body-s-items.ensures in
    let test = subst (λ (xs : List Statement). i < length xs) e c.loop-s-test.true in
    let is = c.s-item.is ∙ ap (λ (xs : List Statement). get_or xs i s) e in (
      block_goes w n w.body i s (state_of c.args.run.now) (state_of c.loop-s.run) (state_of c.run_statement.new.run) c.loop-s.invariant.0
          test is c.in_ok-run_statement.ensures.value c.in_ok-run_statement.ensures.grows,
      heard_goes g.H.Listener.hears g.H.Listener.gives_up g.met.H.Listener.hears_on w n w.body i s (state_of c.args.run.now)
          (state_of c.loop-s.run) (state_of c.run_statement.new.run) c.args.listener.now c.loop-s.listener c.run_statement.new.listener
          c.loop-s.invariant.1 test is c.in_ok-run_statement.ensures.value c.in_ok-run_statement.ensures.heard,
    )
