-- What a listener has heard beside whom a watch was told.
use Rattle.std.proofs.Common.{List}
use Rattle.pram_meaning.specs.Listening.{HasHeardPart, HeardFirst, GaveUp}
use Rattle.pram_meaning.specs.Moments.{Moment}

pub part_by : {W L : Type 0} (f : W → L) (Hears : L → List Moment → L → Type 0) (GivesUp : L → Moment → L → Type 0) (a b : W)
    (ms : List Moment) → HasHeardPart (λ a ms b. Hears (f a) ms (f b)) (λ a m b. GivesUp (f a) m (f b)) a ms b →
    HasHeardPart Hears GivesUp (f a) ms (f b)
part_by f Hears GivesUp a b ms (HeardFirst first rest is h) = HeardFirst first rest is h
part_by f Hears GivesUp a b ms (GaveUp first next rest between is h g) = GaveUp first next rest (f between) is h g
