use Rattle.command_requests.proofs.takes.is_interval.Goals as goal

pub returns-in-None : goal.returns-in-None
returns-in-None c = λ ends.
    let found = c.in-None.ensures.found ends.0 ends.1 ends.2 in
    absurd (cc found)
