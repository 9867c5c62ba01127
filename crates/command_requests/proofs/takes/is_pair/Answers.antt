use Rattle.command_requests.proofs.takes.is_pair.Goals as goal

pub returns-in-None : goal.returns-in-None
returns-in-None c = λ pair.
    let found = c.in-None.ensures.found pair.0 pair.1 pair.2 in
    absurd (cc found)
