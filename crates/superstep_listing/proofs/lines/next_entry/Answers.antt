use Rattle.superstep_listing.specs.Listing.{entry_line}
use Rattle.superstep_listing.proofs.Cuts.{cut_as, not_cut}
use Rattle.superstep_listing.proofs.Plain.{plain_entry}
use Rattle.superstep_listing.proofs.lines.next_entry.Goals as goal

pub returns-in_default : goal.returns-in_default
returns-in_default c = record { value = λ x more is e. not_cut 10 _ (entry_line x) more c.in_default.ensures.parts e }

pub returns-in_default-entry_of : goal.returns-in_default-entry_of
returns-in_default-entry_of c =
    record {
      value = λ x more is e.
          c.in_default-entry_of.ensures.value x is (cut_as (entry_line x) more c.in-Some.ensures.parts (plain_entry x is) e).0;
    }
