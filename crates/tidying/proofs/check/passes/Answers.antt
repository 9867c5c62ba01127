use Rattle.std.proofs.Common.{ap, sym, subst, ◌∙◌, Option}
use Rattle.std.specs.Prelude.{slice_get}
use Rattle.tidying.specs.declared.certificate.Known.{Known}
use Rattle.tidying.specs.Certificates.{AreRefined}
use Rattle.tidying.specs.Shown.{rows_of, rows_there, rows_behind, number_of, item_of}
use Rattle.tidying.proofs.Checked.{found}
use Rattle.tidying.proofs.check.passes.Goals as goal

pub returns-in-Some-Some : goal.returns-in-Some-Some
returns-in-Some-Some c e =
    let without = c.args.without in
    let number = number_of c.args.c.now.constants in
    let instr = c.args.instr in
    let known = c.args.c.now.known.items in
    let there = c.in-Some-Some.there.now in
    let here = c.in-Some-Some.known.now in
    let into = item_of c.args.c.now.into.items c.args.at in
    let same = c.item-into.ensures ∙ ap (λ xs. item_of xs c.args.at) c.deref-in-Some-Some.ensures.value in
    let x = found c.deref.result.now known c.args.target there c.deref.ensures.value c.in-Some-Some.ensures.lookup.3 in
    let y = found c.deref-2.result.now known c.args.at here c.deref-2.ensures.value c.in-Some-Some.ensures'.lookup.3 in
    let one = subst (λ n. AreRefined (rows_of there) (rows_behind without number n (rows_of here) instr)) same (c.are_refined.ensures e) in
    let two = subst (λ (o : Option Known). AreRefined (rows_of there) (rows_behind without number into (rows_there o) instr)) (sym y) one in
    subst (λ (o : Option Known). AreRefined (rows_there o) (rows_behind without number into (rows_there (slice_get known c.args.at)) instr))
    (sym x) two
