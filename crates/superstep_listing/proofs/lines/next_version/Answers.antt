use Rattle.std.specs.Prelude.{codes}
use Rattle.superstep_listing.proofs.Cuts.{cut_as, not_cut}
use Rattle.superstep_listing.proofs.Plain.{plain_version}
use Rattle.superstep_listing.proofs.lines.next_version.Goals as goal

pub returns-in_default : goal.returns-in_default
returns-in_default c = record { value = λ more e. not_cut 10 _ (codes "bsp 1") more c.in_default.ensures.parts e }

pub returns-then-not-is_version : goal.returns-then-not-is_version
returns-then-not-is_version c =
    record { value = λ more e. c.if-not-is_version.ensures.value (cut_as (codes "bsp 1") more c.in-Some.ensures.parts plain_version e).0 }
