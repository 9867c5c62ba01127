use Rattle.command_facts.proofs.Programs.{program_of}
use Rattle.command_pairs.proofs.pairing.load_with_text.Goals as goal

pub returns-clause-loaded : goal.returns-clause-loaded
returns-clause-loaded g c =
    program_of (g.S.Sources.holds c.args.sources.now) c.args.file.now c.in_ok-loaded.loaded c.in_ok-loaded.ensures.loaded
