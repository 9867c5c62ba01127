use Rattle.std.proofs.Common.{ap, map, refl}
use Rattle.journal.specs.Entries.{entry_is}
use Rattle.journal.proofs.KeptBetween.{all_between}
use Rattle.journal.proofs.Told.{given_ok}
use Rattle.journal.proofs.excerpt.steps_between.Goals as goal

pub returns-in-Ok-clause-entries : goal.returns-in-Ok-clause-entries
returns-in-Ok-clause-entries g c =
    let told = given_ok c.tell_run-window.result.1 _ c.in-Ok.outcome c.in-Ok.is c.tell_run-window.ensures.told in
    all_between _ _ _ _ _ _ _ told.2 refl (ap (map entry_is) c.new.ensures.items)
