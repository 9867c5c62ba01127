use Rattle.std.proofs.Common.{◌≡◌, drop, map}
use Rattle.journal.specs.Entries.{act_is}
use Rattle.diagnoses.specs.WrongElements.{reads_by}
use Rattle.diagnoses.proofs.wrong_element.reads_by.Given as goal

-- of the acts from here on
abbrev pub invariant-loop-act : goal.invariant-loop-act
invariant-loop-act l = reads_by (map act_is (drop l.act-index l.acts)) l.index ≡ reads_by (map act_is l.acts) l.index
