use Rattle.std.proofs.Common.{◌≡◌, ◌∙◌, sym, ap, arith, lit<}
use Rattle.std.specs.Fmt.{decimal}
use Rattle.std.specs.Prelude.{pos}
use Rattle.superstep_listing.proofs.Cuts.{cut_as, not_cut}
use Rattle.superstep_listing.proofs.Numerals.{fits_long, one_number}
use Rattle.superstep_listing.proofs.Printed.{line-instr}
use Rattle.superstep_listing.proofs.Spaces.{lacks_decimal}
use Rattle.superstep_listing.proofs.instr_line.instr_of.Goals as goal
use mir.Syntax.{w64}
use mir.Val.{of_z}

pub returns-in_default : goal.returns-in_default
returns-in_default c = record {
  value = λ i fits e. not_cut 32 _ (decimal c.args.place) _ c.in_default.ensures.parts (e
      ∙ line-instr c.args.place i);
}

pub returns-in_default-number : goal.returns-in_default-number
returns-in_default-number c = record {
  value = λ i fits e.
      let is = cut_as (decimal c.args.place) _ c.in-Some.ensures.parts (lacks_decimal 32 c.args.place (lit< tt) (omega arith)) (e
      ∙ line-instr c.args.place i) in
      c.in_default-number.ensures.value (pos c.args.place) (fits_long c.args.place (omega arith)) is.0;
}

pub returns-then-found-place : goal.returns-then-found-place
returns-then-found-place c = record {
  value = λ i fits e.
      let is = cut_as (decimal c.args.place) _ c.in-Some.ensures.parts (lacks_decimal 32 c.args.place (lit< tt) (omega arith)) (e
      ∙ line-instr c.args.place i) in
      let v = c.in-Some-number.ensures.value in
      let same : c.in-Some-number.found ≡ pos c.args.place =
      one_number _ (pos c.args.place) v.0 (fits_long c.args.place (omega arith)) (sym v.1 ∙ is.0) in
      c.if-found-place.true (ap (of_z w64) same);
}

pub returns-in-None : goal.returns-in-None
returns-in-None c = record {
  value = λ i fits e.
      let is = cut_as (decimal c.args.place) _ c.in-Some.ensures.parts (lacks_decimal 32 c.args.place (lit< tt) (omega arith)) (e
      ∙ line-instr c.args.place i) in
      c.in-None.ensures.value i fits is.1;
}
