use Rattle.std.proofs.Common.{ℕ, ℤ, Option, map, sym, ap, ◌∙◌, refl}
use Rattle.write_rules.specs.declared.entry.Entry.{Entry}
use Rattle.superstep_machine.specs.Sending.{join, verdict_on, settled}
use Rattle.superstep_machine.proofs.Collected.{entries_are_monoid}
use Rattle.superstep_machine.specs.WordReading.{entry_read}
use Rattle.combining.specs.Gathering.{value_at}
use Rattle.combining.specs.Merged.{refusal}
use Rattle.combining.proofs.Gathered.{held, nothing_left, none_noted, least_noted, is_empty}
use Rattle.combining.proofs.merge.apply.Goals as goal

pub returns-clause-merged : goal.returns-clause-merged
returns-clause-merged g c =
    let m = g.M.AddressMap.shape c.args.map.now in
    let lawful = g.met.M.AddressMap.lawful c.args.map.now in
    let rule = g.R.WriteRule.rule c.args.rule.now in
    let j = c.args.part in
    let all : ℕ → Option Entry = entry_read rule m j (map (λ x. x.now) c.args.columns.now) in
    let judge = λ (x : Option Entry). refusal (verdict_on rule x) in
    let size = c.settle_all.ensures.entries ∙ c.gather.ensures.length ∙ c.requires.entries in
    let old = c.args.values.now in
    let due : ℕ → ℤ = λ d. settled (verdict_on rule (all d)) (value_at old (m.offset d)) in
    let slots0 = c.args.entries.now in
    let slots1 = c.gather.new.entries in
    let slots2 = c.settle_all.new.entries in
    let collected = held (join rule) (entries_are_monoid rule) m lawful j c.requires.part judge refl all slots0 slots1 slots2 size
    c.requires.empty c.gather.ensures.gathered c.settle_all.result (c.settle_all.ensures.noted all) in
    let left = nothing_left (join rule) (entries_are_monoid rule) m lawful j c.requires.part judge refl all slots0 slots1 slots2 size
    c.requires.empty c.gather.ensures.gathered c.settle_all.result (c.settle_all.ensures.noted all) in
    let owed = c.settle_all.ensures.owed due (λ d p. ap (λ (x : Option Entry). settled (verdict_on rule x) (value_at old (m.offset d)))
    (collected d p)) in
    record {
      long = c.settle_all.ensures.values;
      each = λ d p. sym (ap (λ (x : Option Entry). settled (verdict_on rule x) (value_at c.settle_all.new.values (m.offset d))) (left d p))
          ∙ owed d p;
      none = none_noted (join rule) (entries_are_monoid rule) m lawful j c.requires.part judge refl all slots0 slots1 slots2 size
          c.requires.empty c.gather.ensures.gathered c.settle_all.result (c.settle_all.ensures.noted all);
      least = least_noted (join rule) (entries_are_monoid rule) m lawful j c.requires.part judge refl all slots0 slots1 slots2 size
          c.requires.empty c.gather.ensures.gathered c.settle_all.result (c.settle_all.ensures.noted all);
    }

pub returns-clause-empty : goal.returns-clause-empty
returns-clause-empty g c =
    let m = g.M.AddressMap.shape c.args.map.now in
    let lawful = g.met.M.AddressMap.lawful c.args.map.now in
    let rule = g.R.WriteRule.rule c.args.rule.now in
    let all : ℕ → Option Entry = entry_read rule m c.args.part (map (λ x. x.now) c.args.columns.now) in
    let size = c.settle_all.ensures.entries ∙ c.gather.ensures.length ∙ c.requires.entries in
    is_empty (join rule) (entries_are_monoid rule) m lawful c.args.part c.requires.part (λ x. refusal (verdict_on rule x)) refl all
    c.args.entries.now c.gather.new.entries c.settle_all.new.entries size c.requires.empty
    c.gather.ensures.gathered c.settle_all.result (c.settle_all.ensures.noted all)
