use Rattle.program_runs.proofs.on_map.lawful.Goals as goal

pub returns : goal.returns
returns g c = g.met.M.AddressMap.lawful c.args.map.now
