use Rattle.pram_values.proofs.Totals.{total_parts}
use Rattle.pram_values.proofs.total.classes_add_up.Goals as goal

pub returns : goal.returns
returns g c = record { parts = λ unit op m f class p xs h. total_parts unit op m f class p xs h }
