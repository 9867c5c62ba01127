use Rattle.std.proofs.Common.{refl}
use Rattle.journal.specs.Entries.{entry_is}
use Rattle.pictures.proofs.OfFlows.Taken.{has_passed}
use Rattle.pictures.proofs.flows.flow.Flow.pass.Goals as goal

pub returns : goal.returns
returns c = record {
  taken = λ asides opening from to es h.
      let f = c.args.self.now in
      has_passed asides opening from to es (entry_is c.args.entry.now) f h c.args.number (record {
        from = f.from;
        to = f.to;
        count = c.args.number;
        touching = f.touching;
        cells = c.put_changes.new.values;
        before = f.before;
        ran = f.ran;
        faulted = f.faulted;
      }) c.requires.next c.requires.untouched refl refl refl refl c.in_ok-put_changes.ensures refl refl refl;
}
