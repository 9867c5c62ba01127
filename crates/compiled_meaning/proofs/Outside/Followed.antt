-- The code of statements outside pardo follows their meaning.
use Rattle.std.proofs.Common.{◌+◌, length}
use Rattle.pram_meaning.specs.Bounded.{perform_list}
use Rattle.plain_form.specs.Outside.{statements_code, statements_left}
use Rattle.exchange_bound.specs.Events.{list_events}
use Rattle.compiled_meaning.specs.Paid as paid
use Rattle.compiled_meaning.specs.Statements.{GoesWithout, StatementsAreFollowed}
use Rattle.compiled_meaning.proofs.Outside.Leads.{leads_follow, leads_hold}
use Rattle.compiled_meaning.proofs.Outside.Passed.{Passes}
use Rattle.compiled_meaning.proofs.Outside.Statements.{list_leads}

pub statements_are_followed : StatementsAreFollowed
statements_are_followed p t keep free held ss m place spent f may =
    let left = statements_left held ss in
    let to = place + length (statements_code keep free place held ss) in
    let es = list_events p t.bound ss m in
    let d = perform_list p t.bound ss m in
    let led = list_leads p t may.of keep ss free may.free_ones may.named held place m spent f may.without may.stand may.calm in
    let first = Passes p t free left to m f in
    record {
      follows = leads_follow t spent held left es first (GoesWithout p t free left to (spent + paid.spent t es held) f) d led
          (λ u m2 x. let y = x.1 in record { behind = x.0; without = y.without; registers = y.registers });
      left = leads_hold t spent held left es first d led;
    }
