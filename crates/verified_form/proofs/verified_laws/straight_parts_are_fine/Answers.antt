use Rattle.verified_form.proofs.Straight.{marks_come_first, evaluations_stay}
use Rattle.verified_form.proofs.Fine as fine
use Rattle.verified_form.proofs.verified_laws.straight_parts_are_fine.Goals as goal

pub returns : goal.returns
returns c = record { marks = marks_come_first; fine = fine.straight_parts_are_fine; stay = evaluations_stay }
