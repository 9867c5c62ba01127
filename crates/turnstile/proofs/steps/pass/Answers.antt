use Rattle.std.proofs.Common.{◌+◌, refl}
use Rattle.turnstile.specs.declared.work.Work.{Work}
use Rattle.turnstile.proofs.Rounds.{passes}
use Rattle.turnstile.proofs.steps.pass.Goals as goal

pub returns-clause-rested : goal.returns-clause-rested
returns-clause-rested g c = let a = c.lay_all.new.work in let l : Work =
    record { chair = c.finish.new.chair; row = a.row; column = a.column; worker = a.worker; workers = a.workers; round = a.round + 1 } in
    let e = c.lay_all.ensures in let s = c.see_all.ensures in
    (passes c.args.work.now a l c.see_all.new.work c.requires.few c.requires.rested e.same.0 e.laid.2 e.laid.0 e.laid.1 e.same.1 e.same.2
    c.finish.ensures.finished c.finish.ensures.seat.0 refl refl refl refl refl s.same.0 s.same.1 s.same.2 s.same.3 s.seeing).0

pub returns-clause-sent : goal.returns-clause-sent
returns-clause-sent g c = let a = c.lay_all.new.work in let l : Work = record {
  chair = c.finish.new.chair;
  row = a.row;
  column = a.column;
  worker = a.worker;
  workers = a.workers;
  round = a.round + 1;
} in let e = c.lay_all.ensures in let s = c.see_all.ensures in
    (passes c.args.work.now a l c.see_all.new.work c.requires.few c.requires.rested e.same.0 e.laid.2 e.laid.0 e.laid.1 e.same.1 e.same.2
    c.finish.ensures.finished c.finish.ensures.seat.0 refl refl refl refl refl s.same.0 s.same.1 s.same.2 s.same.3 s.seeing).1

pub returns-clause-received : goal.returns-clause-received
returns-clause-received g c = let a = c.lay_all.new.work in let l : Work =
    record { chair = c.finish.new.chair; row = a.row; column = a.column; worker = a.worker; workers = a.workers; round = a.round + 1 } in
    let e = c.lay_all.ensures in let s = c.see_all.ensures in
    (passes c.args.work.now a l c.see_all.new.work c.requires.few c.requires.rested e.same.0 e.laid.2 e.laid.0 e.laid.1 e.same.1 e.same.2
    c.finish.ensures.finished c.finish.ensures.seat.0 refl refl refl refl refl s.same.0 s.same.1 s.same.2 s.same.3 s.seeing).2

pub returns-clause-blocks : goal.returns-clause-blocks
returns-clause-blocks g c = let a = c.lay_all.new.work in let l : Work =
    record { chair = c.finish.new.chair; row = a.row; column = a.column; worker = a.worker; workers = a.workers; round = a.round + 1 } in
    let e = c.lay_all.ensures in let s = c.see_all.ensures in
    (passes c.args.work.now a l c.see_all.new.work c.requires.few c.requires.rested e.same.0 e.laid.2 e.laid.0 e.laid.1 e.same.1 e.same.2
    c.finish.ensures.finished c.finish.ensures.seat.0 refl refl refl refl refl s.same.0 s.same.1 s.same.2 s.same.3 s.seeing).3
