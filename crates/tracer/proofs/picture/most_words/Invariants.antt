use Rattle.std.proofs.Common.{◌≡◌, drop, max}
use Rattle.tracer.specs.Picture.{drawn, most_words}
use Rattle.tracer.proofs.picture.most_words.Given as goal

abbrev pub invariant-exchanges : goal.invariant-exchanges
invariant-exchanges l = record { all : max l.most (most_words (drop l.i (drawn l.counts))) ≡ most_words (drawn l.counts) }
