use Rattle.flat_stretches.proofs.Notes.{folds_tell_notes, notes_join, notes_forget_keys, folds_forget_keys}
use Rattle.flat_stretches.proofs.stretch_laws.notes_are_collected.Goals as goal

pub returns : goal.returns
returns c = record { told = folds_tell_notes; join = notes_join; notes = notes_forget_keys; folds = folds_forget_keys }
