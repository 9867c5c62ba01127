use Rattle.std.proofs.Common.{arith}
use Rattle.superstep_listing.specs.Listing.{field_words, line}
use Rattle.superstep_listing.proofs.Cuts.{cut_as, not_cut}
use Rattle.superstep_listing.proofs.Plain.{plain_field}
use Rattle.superstep_listing.proofs.lines.next_field.Goals as goal

pub returns-in_default : goal.returns-in_default
returns-in_default c = record {
  value =
      λ n more low high e. not_cut 10 _ (line (field_words c.args.name.now n)) more c.in_default.ensures.parts e;
}

pub returns-in_default-field : goal.returns-in_default-field
returns-in_default-field c = record {
  value = λ n more low high e.
      c.in_default-field.ensures.value n low high (cut_as (line (field_words c.args.name.now n)) more c.in-Some.ensures.parts
      (plain_field c.args.name.now n c.requires.one_line (omega arith)) e).0;
}
