-- What the exchanges of a run cost: an h-relation takes g for each word and l to begin with (Valiant, A bridging model
-- for parallel computation).
use Rattle.std.specs.Prelude.{ℕ, ◌+◌, ◌*◌, ◌^◌, nat_lt, if◌then◌else◌, List, [], ◌∷◌, ◌++◌, Option, Some, None, codes, decimal}
use Rattle.superstep_machine.specs.Trace.{Exchange, relation_of}

abbrev pub exchange_cost : (g l : ℕ) → Exchange → ℕ
exchange_cost g l e = g * relation_of e + l

-- the sum over the exchanges
abbrev pub bsp_cost : (g l : ℕ) → List Exchange → ℕ
bsp_cost g l [] = 0
bsp_cost g l (e ∷ es) = exchange_cost g l e + bsp_cost g l es

-- a number of 128 bits
abbrev pub in_128_bits : ℕ → Option ℕ
in_128_bits n = if nat_lt n (2 ^ 128) then Some n else None

-- `cost 340`
abbrev pub number_line : Option ℕ → List ℕ
number_line None = codes "cost 2^128 or more\n"
number_line (Some n) = codes "cost " ++ (decimal n ++ codes "\n")

abbrev pub cost_text : (g l : ℕ) → List Exchange → List ℕ
cost_text g l es = number_line (in_128_bits (bsp_cost g l es))
