use Rattle.std.proofs.Common.{List, ℕ, subst}
use Rattle.command_requests.proofs.Sizes.{hands_on}
use Rattle.superstep_listing.specs.Text.{longest}
use Rattle.command_facts.specs.Held.{IsOfCodeIn}
use Rattle.command_facts.specs.Listings.{IsOfListing}
use Rattle.command_facts.proofs.Files.{code_stops, unread_file}
use Rattle.command_facts.proofs.loading.load_listing.Goals as goal

-- the file wasn't read
pub returns-in_err-bytes-clause-of_file : goal.returns-in_err-bytes-clause-of_file
returns-in_err-bytes-clause-of_file g c =
    let h = c.in_err-bytes.field-0.0 in
    hands_on _ h _ c.from_residual.ensures.1
    (unread_file (g.S.Sources.holds c.args.sources.now c.args.name.now) c.args.name.now longest IsOfListing h.stop h.about
    c.in_err-bytes.ensures.unread)

pub returns-clause-of_file : goal.returns-clause-of_file
returns-clause-of_file g c =
    let h = c.halted_listing.result in
    code_stops (g.S.Sources.holds c.args.sources.now c.args.name.now) c.args.name.now longest c.in_ok-bytes.bytes.items h.stop h.about
    c.in_ok-bytes.ensures.bytes
    (subst (λ (text : List ℕ). IsOfCodeIn text h.stop h.about) c.source_of-source.ensures.bytes c.halted_listing.ensures.of_text)
