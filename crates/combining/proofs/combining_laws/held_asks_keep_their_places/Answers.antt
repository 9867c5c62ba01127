use Rattle.combining.proofs.AskPlaces.{value_stands, asks_move_nothing, replies_move_nothing}
use Rattle.combining.proofs.combining_laws.held_asks_keep_their_places.Goals as goal

pub returns : goal.returns
returns c = record { value = value_stands; asks = asks_move_nothing; replies = replies_move_nothing }
