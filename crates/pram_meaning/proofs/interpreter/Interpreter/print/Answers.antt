use Rattle.pram_meaning.specs.Moments.{print_moment}
use Rattle.pram_meaning.specs.Runs.{state_of}
use Rattle.pram_meaning.proofs.Telling.{part_all}
use Rattle.pram_meaning.proofs.interpreter.Interpreter.print.Goals as goal

pub returns-then-is_err-clause-heard : goal.returns-then-is_err-clause-heard
returns-then-is_err-clause-heard g c =
    part_all g.H.Listener.hears g.H.Listener.gives_up c.args.listener.now c.run_value.new.listener
    (print_moment c.args.self.now.program.now c.args.self.now.bound c.args.location c.args.value.now (state_of c.args.run.now))
    c.in_ok-item.ensures.heard
