-- What the operations of expressions come to: numbers from 0 to 9223372036854775807, or the reason why there is none.
use Rattle.std.specs.Prelude.{ℕ, zero, suc, ◌+◌, ◌-◌, ◌*◌, ◌/◌, ◌%◌, ◌^◌, ◌==◌, Bool, nat_le, nat_lt, if◌then◌else◌, Option, Some, None}
use Rattle.std.specs.Prelude.{Result, Ok, Err}
use Rattle.pram_tokens.specs.Lexemes.{largest}
use Rattle.sized_texts.specs.declared.operation.Function.{Function}
use Rattle.sized_texts.specs.declared.operation.Function.TheVariants as function
use Rattle.sized_texts.specs.declared.operation.Operator.{Operator}
use Rattle.sized_texts.specs.declared.operation.Operator.TheVariants as operator
use Rattle.sized_texts.specs.declared.reason.Reason.{Reason}
use Rattle.sized_texts.specs.declared.reason.Reason.TheVariants as reason

-- a number, if it is at most the greatest one of a text
abbrev pub checked : ℕ → Result ℕ Reason
checked n = if nat_le n largest then Ok n else Err reason.OutOfRange

-- the same of a number that may be too large to be had
abbrev pub if_small : Option ℕ → Result ℕ Reason
if_small (Some n) = checked n
if_small None = Err reason.OutOfRange

-- a number by one that must not be 0
abbrev pub divided : (by number : ℕ) → Result ℕ Reason
divided by number = if by == 0 then Err reason.ZeroDivisor else Ok number

-- what an operation on two numbers comes to; division rounds down
abbrev pub applied : Operator → ℕ → ℕ → Result ℕ Reason
applied operator.Add a b = checked (a + b)
applied operator.Subtract a b = if nat_lt a b then Err reason.OutOfRange else Ok (a - b)
applied operator.Multiply a b = checked (a * b)
applied operator.Divide a b = divided b (a / b)
applied operator.Remainder a b = divided b (a % b)
applied operator.Power a b = checked (a ^ b)

-- the greatest number from 0 to n that passes a test, or 0
abbrev pub greatest : (ℕ → Bool) → ℕ → ℕ
greatest p zero = zero
greatest p (suc n) = if p (suc n) then suc n else greatest p n

-- the greatest k with 2 ^ k ≤ n
unfoldable pub log_of : ℕ → ℕ
log_of n = greatest (λ k. nat_le (2 ^ k) n) n

-- the greatest r with r * r ≤ n
unfoldable pub root_of : ℕ → ℕ
root_of n = greatest (λ r. nat_le (r * r) n) n

-- what a function of a number comes to; 0 has no logarithm
abbrev pub called : Function → ℕ → Result ℕ Reason
called function.Same n = Ok n
called function.Log n = if n == 0 then Err reason.LogOfZero else Ok (log_of n)
called function.Root n = Ok (root_of n)
