use Rattle.pram_meaning.specs.Store.{seen}
use Rattle.abstract_runs.proofs.narrowing_sides.value_known.Goals as goal

pub returns : goal.returns
returns c = λ m z stands h.
    c.in_ok-value.ensures (seen c.args.program.now m) z (c.outlook_of-seen.ensures m stands.known_as) h
