use Rattle.text_places.proofs.Escaping.{no_control, plain_stays}
use Rattle.text_places.proofs.escaped.names_stay_on_their_line.Goals as goal

pub returns : goal.returns
returns c = record { plain = no_control; same = plain_stays }
