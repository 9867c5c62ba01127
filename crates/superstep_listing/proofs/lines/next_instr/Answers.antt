use Rattle.std.proofs.Common.{arith}
use Rattle.superstep_listing.specs.Listing.{instr_words, line}
use Rattle.superstep_listing.proofs.Cuts.{cut_as, not_cut}
use Rattle.superstep_listing.proofs.Plain.{plain_instr}
use Rattle.superstep_listing.proofs.lines.next_instr.Goals as goal

pub returns-in_default : goal.returns-in_default
returns-in_default c = record { value = λ i more is e. not_cut 10 _ (line (instr_words c.args.place i)) more c.in_default.ensures.parts e }

pub returns-in_default-instr_of : goal.returns-in_default-instr_of
returns-in_default-instr_of c = record {
  value = λ i more is e. c.in_default-instr_of.ensures.value i is (cut_as (line (instr_words c.args.place i)) more c.in-Some.ensures.parts
      (plain_instr c.args.place i (omega arith) is) e).0;
}
