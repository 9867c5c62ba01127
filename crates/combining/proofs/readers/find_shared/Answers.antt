use Rattle.std.proofs.Common.{ℕ, Option, Bool, List, map, ◌∙◌, refl}
use Rattle.superstep_machine.specs.Sending.{several}
use Rattle.superstep_machine.proofs.Collected.{askers_are_monoid}
use Rattle.superstep_machine.specs.WordReading.{askers_read}
use Rattle.combining.specs.Merged.{shared}
use Rattle.combining.proofs.Gathered.{none_noted, least_noted, is_empty}
use Rattle.combining.proofs.Askers.{least_shared}
use Rattle.combining.proofs.readers.find_shared.Goals as goal

pub returns-clause-least : goal.returns-clause-least
returns-clause-least g c =
    let m = g.M.AddressMap.shape c.args.map.now in
    let lawful = g.met.M.AddressMap.lawful c.args.map.now in
    let j = c.args.part in
    let columns : List (List ℕ) = map (λ x. x.now) c.args.columns.now in
    let all : ℕ → Option Bool = askers_read m j columns c.args.k in
    let size = c.note_all.ensures.length ∙ c.count_all.ensures.length ∙ c.requires.size in
    let slots1 = c.count_all.new.askers in
    let slots2 = c.note_all.new.askers in
    rw c.cell_of.ensures
    (least_shared m j columns c.args.k c.note_all.result
    (none_noted several askers_are_monoid m lawful j c.requires.part shared refl all c.args.askers.now slots1 slots2 size c.requires.empty
    c.count_all.ensures.gathered c.note_all.result (c.note_all.ensures.noted all))
    (least_noted several askers_are_monoid m lawful j c.requires.part shared refl all c.args.askers.now slots1 slots2 size c.requires.empty
    c.count_all.ensures.gathered c.note_all.result (c.note_all.ensures.noted all)))

pub returns-clause-empty : goal.returns-clause-empty
returns-clause-empty g c =
    let m = g.M.AddressMap.shape c.args.map.now in
    let lawful = g.met.M.AddressMap.lawful c.args.map.now in
    let j = c.args.part in
    let all : ℕ → Option Bool = askers_read m j (map (λ x. x.now) c.args.columns.now) c.args.k in
    let size = c.note_all.ensures.length ∙ c.count_all.ensures.length ∙ c.requires.size in
    is_empty several askers_are_monoid m lawful j c.requires.part shared refl all c.args.askers.now c.count_all.new.askers
    c.note_all.new.askers size c.requires.empty c.count_all.ensures.gathered c.note_all.result (c.note_all.ensures.noted all)
