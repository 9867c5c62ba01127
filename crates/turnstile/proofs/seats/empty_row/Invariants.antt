use Rattle.std.proofs.Common.{◌≡◌, ℕ, ◌<◌, map, get_or}
use Rattle.turnstile.specs.Turns.{message, blank}
use Rattle.turnstile.specs.Works.{Rested, SameButRow}
use Rattle.turnstile.proofs.seats.empty_row.Given as goal

abbrev pub invariant-loop-j : goal.invariant-loop-j
invariant-loop-j l = record {
  rested : Rested l.work;
  same : SameButRow l.initial.work l.work;
  empty : (i : ℕ) → i < l.j → get_or (map message l.work.row.items) i blank ≡ blank;
}
