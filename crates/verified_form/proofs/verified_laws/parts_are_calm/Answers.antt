use Rattle.verified_form.proofs.Calm.{statements_begin_calm, parts_end_calm, branches_are_calm, loops_are_calm, turns_are_calm}
use Rattle.verified_form.proofs.Calm.{ranges_are_calm}
use Rattle.verified_form.proofs.Calm.{masks_are_calm, exits_are_calm}
use Rattle.verified_form.proofs.verified_laws.parts_are_calm.Goals as goal

pub returns : goal.returns
returns c = record {
  begin = statements_begin_calm;
  end = parts_end_calm;
  branches = branches_are_calm;
  loops = loops_are_calm;
  turns = turns_are_calm;
  ranges = ranges_are_calm;
  masks = masks_are_calm;
  exits = exits_are_calm;
}
