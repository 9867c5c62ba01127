-- The exchanges of a run, and the words of each.
use Rattle.std.specs.Prelude.{◌≡◌, ℕ, zero, suc, ◌+◌, List, [], ◌∷◌, map, length, Some, ℤ, nat_le, if◌then◌else◌}
use Rattle.std.specs.List.{range_with_len}
use Rattle.pram_values.specs.Total.{total}
use Rattle.address_map.specs.Lawful.{Shape}
use Rattle.write_rules.specs.Verdict.{Verdict}
use Rattle.superstep_instructions.specs.Code.{SuperstepCode}
use Rattle.superstep_machine.specs.Setting.{Setting, workers}
use Rattle.superstep_machine.specs.Words.{words}
use Rattle.superstep_machine.specs.Machine.{phase}
use Rattle.superstep_machine.specs.Run.{Purpose, State, ready, message_of, is_over, bsp, opening, outcome_by, setting}

-- an exchange: what it was for, and how many words each worker sent and received; headers aren't counted, words to itself are
pub record Exchange : Type 0 where
  pub purpose : Purpose
  pub sent : List ℕ
  pub received : List ℕ

-- how many words worker i sends to worker j
abbrev pub words_between : Setting → (ℕ → State) → ℕ → ℕ → ℕ
words_between t ws i j = length (words t.code.rule (message_of t i (ws i) j))

abbrev pub sum_over : Setting → (ℕ → ℕ) → ℕ
sum_over t f = total 0 (λ a b. a + b) f (range_with_len 0 (workers t))

-- the next exchange of workers in these states
abbrev pub exchange_of : Setting → (ℕ → State) → Exchange
exchange_of t ws = record {
  purpose = (ready t 0 (ws 0)).purpose;
  sent = map (λ i. sum_over t (λ j. words_between t ws i j)) (range_with_len 0 (workers t));
  received = map (λ j. sum_over t (λ i. words_between t ws i j)) (range_with_len 0 (workers t));
}

-- the exchanges up to the state in which the run is over, the one that decided included; at most n
abbrev pub exchanges_from : Setting → ℕ → (ℕ → State) → List Exchange
exchanges_from t zero ws = []
exchanges_from t (suc n) ws = if is_over (ws 0).way then [] else exchange_of t ws ∷ exchanges_from t n (phase (bsp t) (workers t) ws)

abbrev pub exchanges_by : Setting → ℕ → List ℤ → List Exchange
exchanges_by t n input = exchanges_from t n (opening t input)

abbrev pub greatest : List ℕ → ℕ
greatest [] = 0
greatest (x ∷ xs) = if nat_le x (greatest xs) then greatest xs else x

-- The exchange is an h-relation: no worker sends or receives more than h words (Valiant, A bridging model for parallel computation).
abbrev pub relation_of : Exchange → ℕ
relation_of e = if nat_le (greatest e.sent) (greatest e.received) then greatest e.received else greatest e.sent

-- the exchanges of the run that ends by the verdict
pub record AreBspExchanges (code : SuperstepCode) (map : Shape) (input : List ℤ) (bound : ℕ) (verdict : Verdict)
    (exchanges : List Exchange) : Type 0 where
  pub enough : ℕ
  pub most : ℕ
  pub ends : outcome_by (setting code map bound enough) most input ≡ Some (Some verdict)
  pub told : exchanges_by (setting code map bound enough) most input ≡ exchanges
