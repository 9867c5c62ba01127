use Rattle.std.proofs.Common.{subst, arith}
use Rattle.superstep_listing.specs.declared.error.ReadError.{ReadError}
use Rattle.superstep_listing.specs.Reading.{AreCode, IsReadError}
use Rattle.superstep_listing.proofs.Listed.{first_bad, listing_once, none_listed}
use Rattle.superstep_listing.proofs.listing_read.read_listing.Goals as goal

pub returns-in-Ok-clause-only : goal.returns-in-Ok-clause-only
returns-in-Ok-clause-only c = λ code l. listing_once c.args.text.now c.in-Ok.code code (record {
  fits = l.fits;
  stands =
      c.in-Ok.ensures.stands;
  spelled = c.in-Ok.ensures.spelled;
}) l

pub returns-in-Bad-clause-only : goal.returns-in-Bad-clause-only
returns-in-Bad-clause-only c =
    λ code l. none_listed c.args.text.now c.in-Bad.left (subst (λ (e : ReadError). IsReadError AreCode c.args.text.now e) c.in-Bad.is
    c.in-Err.ensures.wrong) code l

pub returns-in-Bad-clause-refused : goal.returns-in-Bad-clause-refused
returns-in-Bad-clause-refused c =
    first_bad c.args.text.now c.in-Bad.left (omega arith) (subst (λ (e : ReadError). IsReadError AreCode c.args.text.now e) c.in-Bad.is
    c.in-Err.ensures.wrong)
