use Rattle.std.proofs.Common.{◌∙◌, ◌+◌, ◌++◌, ◌∷◌, [], ap, sym, subst, length, length-append}
use Rattle.std.specs.List.{AllByRecursion}
use Rattle.superstep_instructions.specs.Limits.{IsInstr}
use Rattle.superstep_listing.specs.Listing.{ended, instr_lines}
use Rattle.superstep_listing.proofs.Stuck.{all_fit_more, read_more, stuck_instr}
use Rattle.superstep_listing.proofs.instrs_read.instrs_of.Goals as goal

pub returns-in_default-clause-wrong : goal.returns-in_default-clause-wrong
returns-in_default-clause-wrong c =
    let i = c.loop-place.invariant in
    stuck_instr c.args.count c.loop-place.place c.loop-place.found.items c.args.text.now c.loop-place.rest.now i.counted
    c.loop-place-test.true i.fit i.whole c.in_default.ensures.value

pub loop-place-preserved : goal.loop-place-preserved
loop-place-preserved c =
    let i = c.loop-place.invariant in
    let new = c.in_ok-push.ensures.items in
    let one = length-append c.loop-place.found.items (c.in-Some.instr ∷ []) in
    record {
      counted = ap length new ∙ one ∙ ap (λ n. n + 1) i.counted;
      fit = subst (AllByRecursion IsInstr) (sym new) (all_fit_more c.loop-place.found.items c.in-Some.instr i.fit c.operands_fit.ensures);
      whole = read_more c.args.text.now c.loop-place.rest.now c.in-Some.behind.now c.loop-place.found.items c.loop-place.place
          c.in-Some.instr i.counted i.whole c.in-Some.ensures.value
          ∙ ap (λ is. ended (instr_lines 0 is) ++ c.in-Some.behind.now) (sym new);
    }
