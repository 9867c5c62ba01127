use Rattle.std.proofs.Common.{◌∙◌, sym, lit<}
use Rattle.std.specs.Fmt.{signed_decimal}
use Rattle.superstep_listing.proofs.Cuts.{cut_as, not_cut}
use Rattle.superstep_listing.proofs.Declared.{high_below, high_fits, low_below, low_fits}
use Rattle.superstep_listing.proofs.Numerals.{one_number}
use Rattle.superstep_listing.proofs.Spaces.{lacks_number}
use Rattle.superstep_listing.proofs.entry_line.bounds_of.Goals as goal
use Rattle.superstep_listing.proofs.entry_line.bounds_of.Goals.{then-low-lt-LEAST-via-then-low-lt-LEAST}
use Rattle.superstep_listing.proofs.entry_line.bounds_of.Goals.{then-low-lt-LEAST-via-else-low-lt-LEAST+then-high-low}

pub returns-in_default : goal.returns-in_default
returns-in_default c = record { value = λ low high h e. not_cut 32 _ (signed_decimal low) _ c.in_default.ensures.parts e }

pub returns-in_default-number : goal.returns-in_default-number
returns-in_default-number c = record {
  value = λ low high h e.
      let is = cut_as (signed_decimal low) _ c.in-Some.ensures.parts (lacks_number 32 low (lit< tt) (low_fits low high h)) e in
      c.in_default-number.ensures.value low (low_fits low high h) is.0;
}

pub returns-in_default-number-2 : goal.returns-in_default-number-2
returns-in_default-number-2 c = record {
  value = λ low high h e.
      let is = cut_as (signed_decimal low) _ c.in-Some.ensures.parts (lacks_number 32 low (lit< tt) (low_fits low high h)) e in
      c.in_default-number-2.ensures.value high (high_fits low high h) is.1;
}

pub returns-then-low-lt-LEAST : goal.returns-then-low-lt-LEAST
returns-then-low-lt-LEAST c = record {
  value = λ low high h e.
      let is = cut_as (signed_decimal low) _ c.in-Some.ensures.parts (lacks_number 32 low (lit< tt) (low_fits low high h)) e in
      let v = c.in-Some-number.ensures.value in
      let w = c.in-Some-number-2.ensures.value in
      let same_low = one_number c.in-Some-number.low low v.0 (low_fits low high h) (sym v.1 ∙ is.0) in
      let same_high = one_number c.in-Some-number-2.high high w.0 (high_fits low high h) (sym w.1 ∙ is.1) in
      elim c.then-low-lt-LEAST.branch [
        | then-low-lt-LEAST-via-then-low-lt-LEAST b ↦ low_below _ low high same_low h b.if-low-lt-LEAST.true
        | then-low-lt-LEAST-via-else-low-lt-LEAST+then-high-low b ↦ high_below _ _ low high same_low same_high h b.if-high-low.true
      ];
}
