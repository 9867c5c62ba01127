use Rattle.superstep_listing.proofs.Declared.{no_kind}
use Rattle.superstep_listing.proofs.entry_line.entry_of.Goals as goal

pub returns-in_default-kind_of : goal.returns-in_default-kind_of
returns-in_default-kind_of c = record { value = no_kind _ _ _ c.in-Some.ensures.parts c.in_default-kind_of.ensures.value }
