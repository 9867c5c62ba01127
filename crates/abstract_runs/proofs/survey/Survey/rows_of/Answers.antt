use Rattle.std.proofs.Common.{[], refl, sym, subst}
use Rattle.abstract_runs.proofs.RowLists.{AreRowsFor, rows_go, rows_end, rows_parts}
use Rattle.abstract_runs.proofs.survey.Survey.rows_of.Goals as goal

pub loop-k-init : goal.loop-k-init
loop-k-init c = (
  let p = c.in_ok-rows.ensures in subst
      (AreRowsFor c.args.self.now.program.now c.args.known.now c.args.team.now.items c.args.target.now c.args.e.now c.args.faults.now [])
      (sym p.items) tt,
  λ kind at may. may,
)

pub returns-in_err-row-clause-kept : goal.returns-in_err-row-clause-kept
returns-in_err-row-clause-kept c = λ kind at may. c.row_of.ensures.kept kind at (c.loop-k.invariant.1 kind at may)

pub returns-in_err-push-clause-kept : goal.returns-in_err-push-clause-kept
returns-in_err-push-clause-kept c = λ kind at may. c.row_of.ensures.kept kind at (c.loop-k.invariant.1 kind at may)

pub loop-k-preserved : goal.loop-k-preserved
loop-k-preserved c = (
  rows_go c.args.self.now.program.now c.args.known.now c.args.team.now.items c.args.target.now c.args.e.now c.loop-k.faults
      c.row_of.new.faults c.args.active.now c.loop-k.k c.loop-k.rows.items _ _ _ c.in_ok-row.row
      c.loop-k.invariant.0 c.row_of.ensures.kept c.loop-k-test.true refl
      (record { member = c.in_ok-row.ensures.member; sure = c.in_ok-row.ensures.sure; part = c.in_ok-row.ensures.part })
      c.in_ok-push.ensures.items,
  λ kind at may. c.row_of.ensures.kept kind at (c.loop-k.invariant.1 kind at may),
)

pub returns-clause-parts : goal.returns-clause-parts
returns-clause-parts c = λ m vs h active.
    rows_parts c.args.self.now.program.now c.args.known.now c.args.team.now.items c.args.target.now c.args.e.now c.loop-k.faults _
    c.loop-k.rows.items vs m
    (rows_end c.args.self.now.program.now c.args.known.now c.args.team.now.items c.args.target.now c.args.e.now c.loop-k.faults
    c.args.active.now c.loop-k.k _ c.loop-k.invariant.0 c.loop-k-test.false) active h

pub returns-clause-kept : goal.returns-clause-kept
returns-clause-kept c = c.loop-k.invariant.1
