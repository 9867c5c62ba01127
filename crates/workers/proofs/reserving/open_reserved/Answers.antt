use Rattle.workers.proofs.reserving.open_reserved.Goals as goal

pub returns-in-Ok-clause-opened : goal.returns-in-Ok-clause-opened
returns-in-Ok-clause-opened g c =
    c.in-Ok.ensures.fresh c.args.code.now (g.M.AddressMap.shape c.args.map.now) c.args.input.now c.in_ok-opened.ensures.opened

pub returns-in-Ok-clause-kept : goal.returns-in-Ok-clause-kept
returns-in-Ok-clause-kept g c = c.in-Ok.ensures.kept c.args.kept c.in_ok-opened.ensures.kept
