use Rattle.std.proofs.Common.{◌∙◌, ap, if◌then◌else◌, map, nat_eq, refl}
use Rattle.journal.specs.Entries.{entry_is}
use Rattle.pictures.specs.Acts.{acts_in}
use Rattle.pictures.specs.Flows.Drawing.{column_is, written_by}
use Rattle.pictures.specs.Flows.Taken.{with_faulted, with_ran}
use Rattle.pictures.specs.Flows.Values.{value_at}
use Rattle.pictures.proofs.OfFlows.Taken.{has_touched}
use Rattle.pictures.proofs.flows.flow.Flow.touch.Goals as goal

pub returns : goal.returns
returns c = record {
  taken = λ asides opening from to es told h.
      let f = c.args.self.now in
      let e = entry_is c.args.entry in
      let now = c.deref-2.ensures.value in
      has_touched asides opening from to es e f h c.args.number c.requires.next c.requires.touching c.args.aside.items told (record {
        from = f.from;
        to = f.to;
        count = c.args.number;
        touching = c.in-Some.touching;
        cells = c.put_changes.new.values;
        before = c.keep_before.new.before;
        ran = c.keep_column.new.ran;
        faulted = c.keep_column.new.faulted;
      }) c.in_ok-put_changes.ensures refl refl refl c.in-Some.ensures.1
      (c.in_ok-keep_before.ensures ∙ ap (λ v. if nat_eq f.touching 0 then v else f.before.items) c.deref.ensures.value)
      (c.in_ok-keep_column.ensures.ran ∙ ap (λ v. with_ran (map column_is f.ran.items) (record {
        number = c.args.number;
        entry = e;
        aside = c.args.aside.items;
        written = written_by (value_at v) (acts_in e);
      })) now)
      (c.in_ok-keep_column.ensures.faulted ∙ ap (λ v. with_faulted (map column_is f.faulted.items) (record {
        number = c.args.number;
        entry = e;
        aside = c.args.aside.items;
        written = written_by (value_at v) (acts_in e);
      })) now);
}
