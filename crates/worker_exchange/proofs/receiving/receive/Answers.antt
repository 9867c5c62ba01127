use Rattle.std.proofs.Common.{sym, ap, subst, ◌∙◌}
use Rattle.superstep_machine.specs.Run.{is_over}
use Rattle.worker_exchange.specs.declared.local.Local.{Local}
use Rattle.worker_exchange.specs.Shown.{way_is}
use Rattle.worker_exchange.specs.Equipped.{MayGoOn}
use Rattle.worker_exchange.proofs.StandLemmas.{never, stopped_over}
use Rattle.worker_exchange.proofs.receiving.receive.Goals.{then-not-is_stopped+in-Clear, then-not-is_stopped+in_default}
use Rattle.worker_exchange.proofs.receiving.receive.Goals.{else-not-is_stopped}
use Rattle.worker_exchange.proofs.receiving.receive.Goals as goal

pub returns-else-is_over-clause-going : goal.returns-else-is_over-clause-going
returns-else-is_over-clause-going g c = λ going.
    let m = g.M.AddressMap.shape c.args.map.now in
    elim c.if-not-is_stopped.branch [
      | then-not-is_stopped+in-Clear w ↦ (λ n s enough here.
          subst (λ (z : Local). MayGoOn c.args.code.now m c.args.bound z) (sym w.local-is)
          (w.exchange.ensures.going (sym (ap (λ (z : Local). is_over (way_is z.way)) w.local-is) ∙ going) n s enough here))
      | then-not-is_stopped+in_default w ↦ (λ n s enough here.
          absurd (never (sym (ap (λ (z : Local). is_over (way_is z.way)) w.local-is) ∙ going)))
      | else-not-is_stopped w ↦ (λ n s enough here.
          absurd (never
          (sym (stopped_over c.args.local.now.way (sym c.is_stopped.ensures ∙ w.if-not-is_stopped.false))
          ∙ ap (λ (z : Local). is_over (way_is z.way)) (sym w.local-is) ∙ going)))
    ]
