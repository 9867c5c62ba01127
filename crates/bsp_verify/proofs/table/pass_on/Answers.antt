use Rattle.std.proofs.Common.{◌+◌, ◌<◌, refl, sym, subst, inl, inr}
use Rattle.superstep_instructions.specs.declared.instr.Instr.{Instr}
use Rattle.bsp_verify.specs.Control.{Leads}
use Rattle.bsp_verify.specs.Table.{Adds}
use Rattle.bsp_verify.proofs.Ways.{leads_next, adds_both}
use Rattle.bsp_verify.proofs.table.pass_on.Goals as goal

pub give-requires-in_default : goal.give-requires-in_default
give-requires-in_default c = c.requires.next (c.args.at + 1)
    (leads_next c.args.instr c.args.at c.in_default.not-Jump c.in_default.not-JumpIfZero c.in_default.not-Halt)

pub give-requires : goal.give-requires
give-requires c = c.requires.next c.in-Jump.target (subst (λ (i : Instr). Leads i c.args.at c.in-Jump.target) (sym c.in-Jump.is) refl)

pub give-requires-in-JumpIfZero : goal.give-requires-in-JumpIfZero
give-requires-in-JumpIfZero c =
    c.requires.next c.in-JumpIfZero.target (subst (λ (i : Instr). Leads i c.args.at c.in-JumpIfZero.target) (sym c.in-JumpIfZero.is)
    (inl refl))

pub give-requires-then-give : goal.give-requires-then-give
give-requires-then-give c =
    let h = c.requires.next (c.args.at + 1) (subst (λ (i : Instr). Leads i c.args.at (c.args.at + 1)) (sym c.in-JumpIfZero.is)
    (inr refl)) in
    subst (λ n. c.args.at + 1 < n) (sym (c.if-give.ensures.given refl).long) h

-- first the target, then the next place
pub returns-then-give-clause-given : goal.returns-then-give-clause-given
returns-then-give-clause-given c h =
    subst (λ (i : Instr). Adds c.args.table.now c.give-then-give.new.table (λ t. Leads i c.args.at t) c.args.state) (sym c.in-JumpIfZero.is)
    (adds_both _ _ _ _ _ c.args.state (c.if-give.ensures.given refl) (c.give-then-give.ensures.given h))
