use Rattle.pram_tokens.specs.Scanning.{longest}
use Rattle.command_requests.proofs.Sizes.{hands_on}
use Rattle.command_facts.specs.Held.{IsOfInput}
use Rattle.command_facts.proofs.Files.{unread_file}
use Rattle.command_facts.proofs.opening.load_input.Goals as goal

-- the file wasn't read
pub returns-in_err-bytes-clause-of_file : goal.returns-in_err-bytes-clause-of_file
returns-in_err-bytes-clause-of_file g c =
    let h = c.in_err-bytes.field-0.0 in
    hands_on _ h _ c.from_residual.ensures.1
    (unread_file (g.S.Sources.holds c.args.sources.now c.args.name.now) c.args.name.now longest IsOfInput h.stop h.about
    c.in_err-bytes.ensures.unread)
