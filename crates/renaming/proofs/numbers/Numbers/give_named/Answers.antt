use Rattle.std.proofs.Common.{◌+◌, ℕ, Option, None, Some, List, get_or, sym, ap, ◌∙◌, subst}
use Rattle.std.proofs.lemmas.Option.{get_or_from_slice_get}
use Rattle.renaming.specs.declared.numbers.Numbers.{Numbers}
use Rattle.renaming.specs.Named.{named}
use Rattle.renaming.specs.Numbers.{HaveNumbers}
use Rattle.renaming.proofs.Numbered.{IsAmongBelow, among_more, among_none, some_there}
use Rattle.renaming.proofs.numbers.Numbers.give_named.Goals as goal
use Rattle.renaming.proofs.numbers.Numbers.give_named.Goals.{in-Some, in_default}

pub loop-k-preserved : goal.loop-k-preserved
loop-k-preserved c =
    let read = ap (λ (ns : List (Option ℕ)). get_or ns c.loop-k.k None) (sym c.named-names.ensures) in
    elim c.match-names-k.branch [
      | in-Some w ↦
          subst (λ (y : Numbers). HaveNumbers (λ r. IsAmongBelow (c.loop-k.k + 1) r (named c.args.side c.args.instr)) c.args.self.now y)
          (sym w.self-is)
          (among_more (named c.args.side c.args.instr) c.loop-k.k w.in-Some.register
          (some_there (named c.args.side c.args.instr) c.loop-k.k w.in-Some.register (read ∙ w.in-Some.is)) c.loop-k.invariant
          w.give.ensures)
      | in_default w ↦
          subst (λ (y : Numbers). HaveNumbers (λ r. IsAmongBelow (c.loop-k.k + 1) r (named c.args.side c.args.instr)) c.args.self.now y)
          (sym w.self-is)
          (among_none (named c.args.side c.args.instr) c.loop-k.k (λ r there. w.in_default.not-Some r (sym read
          ∙ get_or_from_slice_get (named c.args.side c.args.instr) c.loop-k.k (Some r) None there)) c.loop-k.invariant)
    ]
