use Rattle.worker_exchange.proofs.local.Local.new.Goals as goal

pub returns-in-Ok-clause-going : goal.returns-in-Ok-clause-going
returns-in-Ok-clause-going g c = λ bound.
    c.in-Ok.ensures.going bound
    (record {
      formed = c.requires.formed;
      map = record { lawful = g.met.M.AddressMap.lawful c.args.map.now; room = c.in_ok-judge.ensures.accepted.map.places };
    })
