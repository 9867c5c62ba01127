-- All words that the workers send in the exchanges of a run.
use Rattle.std.specs.Prelude.{ℕ, ◌+◌, List}
use Rattle.pram_values.specs.Total.{total}
use Rattle.superstep_machine.specs.Trace.{Exchange}

-- by all workers together, in one exchange
abbrev pub sent_in : Exchange → ℕ
sent_in e = total 0 (λ a b. a + b) (λ n. n) e.sent

-- and in all
abbrev pub words_sent : List Exchange → ℕ
words_sent es = total 0 (λ a b. a + b) sent_in es
