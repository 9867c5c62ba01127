use Rattle.std.proofs.Common.{◌≡◌, ◌∙◌, sym, arith}
use Rattle.std.specs.Prelude.{pos}
use Rattle.std.specs.Fmt.{decimal}
use Rattle.superstep_listing.proofs.Cuts.{cut_as, not_cut}
use Rattle.superstep_listing.proofs.Numerals.{above_most, below_least, fits_long, one_number, unequal}
use Rattle.superstep_listing.proofs.numeral.field.Goals as goal
use Rattle.superstep_listing.proofs.numeral.field.Goals.{then-value-least-via-then-value-least}
use Rattle.superstep_listing.proofs.numeral.field.Goals.{then-value-least-via-else-value-least+then-most-value}

pub returns-in_default : goal.returns-in_default
returns-in_default c = record { value = λ n low high e. not_cut 32 _ c.args.name.now (decimal n) c.in_default.ensures.parts e }

pub returns-then-ne : goal.returns-then-ne
returns-then-ne c = record {
  value = λ n low high e.
      let is = cut_as c.args.name.now (decimal n) c.in-Some.ensures.parts c.requires.one_word e in
      unequal c.ne.result c.in-Some.word.now c.args.name.now c.ne.ensures c.if-ne.true is.0;
}

pub returns-in_default-number : goal.returns-in_default-number
returns-in_default-number c = record {
  value = λ n low high e.
      let is = cut_as c.args.name.now (decimal n) c.in-Some.ensures.parts c.requires.one_word e in
      c.in_default-number.ensures.value (pos n) (fits_long n (omega arith)) is.1;
}

pub returns-then-value-least : goal.returns-then-value-least
returns-then-value-least c = record {
  value = λ n low high e.
      let is = cut_as c.args.name.now (decimal n) c.in-Some.ensures.parts c.requires.one_word e in
      let v = c.in-Some-number.ensures.value in
      let same : c.in-Some-number.value ≡ pos n = one_number _ (pos n) v.0 (fits_long n (omega arith)) (sym v.1 ∙ is.1) in
      elim c.then-value-least.branch [
        | then-value-least-via-then-value-least w ↦ below_least _ n c.args.least same (omega arith) (omega arith) low w.if-value-least.true
        | then-value-least-via-else-value-least+then-most-value w ↦ above_most _ n c.args.most same (omega arith) (omega arith) high
            w.if-most-value.true
      ];
}
