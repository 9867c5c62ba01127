-- What stands before the values of a line: `NAME =`, or `NAME[LOW..HIGH] =`, with white space between the parts. Where something else
-- stands, the answer is how many bytes of the line are left from there on.
use Rattle.std.specs.Prelude.{ℕ, ◌==◌, ℤ, if◌then◌else◌, List, [], ◌∷◌, length, Option, Some, None, Result, Ok, Err}
use Rattle.memory_texts.specs.declared.front.Run.TheVariants as run
use Rattle.memory_texts.specs.declared.heading.Heading.{Heading}
use Rattle.memory_texts.specs.declared.heading.Interval.{Interval}
use Rattle.sized_texts.specs.Reading.{◌>>=◌}
use Rattle.memory_texts.specs.Front.{behind, expect, expect_front, front, number_front, number_next, past_blanks}

-- a name and the interval behind it, and how many bytes are left from the name on
pub record Headed : Type 0 where
  pub name : List ℕ
  pub left : ℕ
  pub interval : Option Interval

abbrev pub headed : Heading → Headed
headed h = record { name = h.name.now; left = h.left; interval = h.interval }

-- `..HIGH]` behind LOW
abbrev pub interval_from : (low : ℤ) → (left : ℕ) → List ℕ → Result (Interval × List ℕ) ℕ
interval_from low left text =
    expect 46 text >>= λ dot. expect_front 46 dot >>= λ to. number_next to >>= λ high. expect 93 high.1
    >>= λ rest. Ok (record { low = low; high = high.0; left = left }, rest)

-- `LOW..HIGH]`
abbrev pub interval_front : List ℕ → Result (Interval × List ℕ) ℕ
interval_front text = number_front (past_blanks text) >>= λ low. interval_from low.0 (length (past_blanks text)) low.1

-- the interval in brackets at the front, if there is one
abbrev pub bracketed : List ℕ → Result (Option Interval × List ℕ) ℕ
bracketed [] = Ok (None, [])
bracketed (b ∷ rest) = if b == 91 then (interval_front rest >>= λ f. Ok (Some f.0, f.1)) else Ok (None, b ∷ rest)

-- letters, digits and `_`, one at least
abbrev pub named : (name rest : List ℕ) → (left : ℕ) → Result (List ℕ × List ℕ) ℕ
named [] rest left = Err left
named (b ∷ name) rest left = Ok (b ∷ name, rest)

-- the name at the front
abbrev pub name_front : List ℕ → Result (List ℕ × List ℕ) ℕ
name_front text = named (front run.Word text) (behind run.Word text) (length text)

-- the heading at the front, and what is behind its `=`
abbrev pub heading_front : List ℕ → Result (Headed × List ℕ) ℕ
heading_front text =
    name_front text >>= λ n. bracketed (past_blanks n.1) >>= λ i. expect 61 i.1
    >>= λ rest. Ok (record { name = n.0; left = length text; interval = i.0 }, rest)
