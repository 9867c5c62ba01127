use Rattle.command_sweeps.proofs.SweptRows.{comes_by, itself_by}
use Rattle.command_sweeps.proofs.sweeping.out_at.Goals as goal

pub returns-in-Zeros : goal.returns-in-Zeros
returns-in-Zeros g c = record {
  out = comes_by (g.S.Sources.holds c.args.sources.now) c.args.at.now c.args.words c.args.words.opening c.run_by.result
      (itself_by c.args.at.now.sizes.items c.args.words.opening c.in-Zeros.is) c.run_by.ensures.out;
  same = c.run_by.ensures.same;
}
