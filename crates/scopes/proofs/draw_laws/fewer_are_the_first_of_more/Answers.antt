use Rattle.scopes.proofs.Turns.{fewer_drawn}
use Rattle.scopes.proofs.draw_laws.fewer_are_the_first_of_more.Goals as goal

pub returns : goal.returns
returns c = λ low high seed few more le. fewer_drawn low high seed few more le
