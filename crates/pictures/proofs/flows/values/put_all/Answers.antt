use Rattle.std.proofs.Common.{◌∙◌, FitsSigned, ap, get_or, nat_eq, pos, refl, rules, w64}
use Rattle.std.proofs.lemmas.Int.{to_z-of_z}
use Rattle.std.proofs.lemmas.List.{get_or_default}
use Rattle.std.specs.Prelude.{if◌then◌else◌}
use Rattle.journal.specs.declared.change.Change.{Change}
use Rattle.pictures.specs.Flows.Values.{value_at}
use Rattle.pictures.proofs.OfFlows.CellValues.{changes_end, changes_go}
use Rattle.pictures.proofs.flows.values.put_all.Goals as goal

pub loop-change-init : goal.loop-change-init
loop-change-init c = λ k. record { same = refl }

pub loop-change-preserved : goal.loop-change-preserved
loop-change-preserved c = λ k.
    let ds = c.args.changes.now in
    let i = c.loop-change.change-index in
    let none : Change = record { cell = 0; before = pos 0; after = pos 0 } in
    let d = get_or ds i none in
    let fits : FitsSigned w64 d.after = search rules in
    changes_go k _ ds i d _ _ (c.loop-change.invariant k) c.loop-change-test.true
    (get_or_default ds i none d c.loop-change-test.true) (c.in_ok-put_value.ensures k
    ∙ ap (λ v. if nat_eq d.cell k then v else value_at c.loop-change.values.items k) (to_z-of_z w64 d.after fits))

pub returns : goal.returns
returns c = λ k. changes_end k _ c.args.changes.now c.loop-change.change-index _ (c.loop-change.invariant k) c.loop-change-test.false
