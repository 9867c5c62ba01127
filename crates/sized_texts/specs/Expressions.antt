-- What an expression comes to. It is read from left to right:
--   sum     := product { ("+" | "-") product }
--   product := operand { ("*" | "div" | "mod") operand }
--   operand := NUMBER | SIZE | "(" sum ")" | ("log" | "root") "(" sum ")" | "pow" "(" sum "," sum ")"
use Rattle.std.specs.Prelude.{ℕ, zero, suc, ◌==◌, if◌then◌else◌, List, [], ◌∷◌, codes, length, Option, Some, None, Result, Ok, Err}
use Rattle.pram_model.specs.Names.{is_digit, is_keyword, is_letter, same_text}
use Rattle.sized_texts.specs.declared.atom.Atom.{Atom}
use Rattle.sized_texts.specs.declared.atom.Atom.TheVariants as atom
use Rattle.sized_texts.specs.declared.line.Line.{Line}
use Rattle.sized_texts.specs.declared.line.Line.TheVariants as line
use Rattle.sized_texts.specs.declared.operation.Function.{Function}
use Rattle.sized_texts.specs.declared.operation.Function.TheVariants as function
use Rattle.sized_texts.specs.declared.operation.Operator.{Operator}
use Rattle.sized_texts.specs.declared.operation.Operator.TheVariants as operator
use Rattle.sized_texts.specs.declared.reason.Reason.{Reason}
use Rattle.sized_texts.specs.declared.reason.Reason.TheVariants as reason
use Rattle.sized_texts.specs.declared.size.Size.{Size}
use Rattle.sized_texts.specs.declared.stop.Wrong.{Wrong}
use Rattle.sized_texts.specs.Front.{behind, front, number_of, past_spaces}
use Rattle.sized_texts.specs.Reading.{◌>>=◌, expect, placed, wrong_at}
use Rattle.sized_texts.specs.Sizes.{value_in}
use Rattle.sized_texts.specs.Values.{applied, called, checked}

-- the operator of a line that a token is
abbrev pub operator_of : Line → List ℕ → Option Operator
operator_of line.Sum token =
    if same_text (codes "+") token then Some operator.Add
    else (if same_text (codes "-") token then Some operator.Subtract else None)
operator_of line.Product token =
    if same_text (codes "*") token then Some operator.Multiply
    else (if same_text (codes "div") token then Some operator.Divide
    else (if same_text (codes "mod") token then Some operator.Remainder else None))

-- a number as an operand, or why it is none
abbrev pub value_atom : Result ℕ Reason → Atom
value_atom (Ok v) = atom.Value v
value_atom (Err r) = atom.Bad r

-- a word that is no function as an operand: a size; a keyword can't stand there
abbrev pub size_atom : List ℕ → Option ℕ → Atom
size_atom word (Some v) = value_atom (checked v)
size_atom word None = if is_keyword word then atom.Bad reason.Unexpected else atom.Bad reason.UnknownName

-- a word that is a function
abbrev pub function_atom : List ℕ → Option Atom
function_atom word =
    if same_text (codes "log") word then Some (atom.Call function.Log)
    else (if same_text (codes "root") word then Some (atom.Call function.Root)
    else (if same_text (codes "pow") word then Some atom.Power else None))

-- a word as an operand, by what function it is
abbrev pub word_by : List Size → List ℕ → Option Atom → Atom
word_by sizes word (Some a) = a
word_by sizes word None = size_atom word (value_in sizes word)

abbrev pub word_atom : List Size → List ℕ → Atom
word_atom sizes word = word_by sizes word (function_atom word)

-- what a token is as the beginning of an operand; the line's end is a token too, and closes no brace
abbrev pub atom_of : List Size → List ℕ → Atom
atom_of sizes [] = atom.Bad reason.NotClosed
atom_of sizes (b ∷ rest) =
    if is_digit b then value_atom (number_of (b ∷ rest))
    else (if is_letter b then word_atom sizes (b ∷ rest)
    else (if b == 40 then atom.Paren
    else (if b == 10 then atom.Bad reason.NotClosed else atom.Bad reason.Unexpected)))

-- How a line is read: a text has a value in front of another text, or is wrong.
abbrev pub Reader : Type 0
Reader = List ℕ → Result (ℕ × List ℕ) Wrong

-- What is between parentheses is read by Inner, which is given how many bytes were left at the opening token too.
module _ (sizes : List Size) (Inner : ℕ → Reader) where
  -- a sum and the byte that closes it
  abbrev pub nested : (close left : ℕ) → Reader
  nested close left text = Inner left text >>= λ inner. expect close inner.1 >>= λ rest. Ok (inner.0, rest)

  -- a sum in parentheses, and what the function makes of it
  abbrev pub group : Function → ℕ → Reader
  group f left text = nested 41 left text >>= λ inner. placed left (called f inner.0) >>= λ v. Ok (v, inner.1)

  abbrev pub call : Function → ℕ → Reader
  call f left text = expect 40 text >>= group f left

  abbrev pub power : ℕ → Reader
  power left text =
      expect 40 text >>= λ inside. nested 44 left inside >>= λ a. nested 41 left a.1 >>= λ b.
      placed left (applied operator.Power a.0 b.0) >>= λ v. Ok (v, b.1)

  -- an operand by its first token, with that many bytes left there, and the text behind the token
  abbrev pub operand_by : Atom → ℕ → Reader
  operand_by (atom.Value v) left rest = Ok (v, rest)
  operand_by atom.Paren left rest = group function.Same left rest
  operand_by (atom.Call f) left rest = call f left rest
  operand_by atom.Power left rest = power left rest
  operand_by (atom.Bad r) left rest = Err (wrong_at r left)

  abbrev pub operand_front : Reader
  operand_front text = operand_by (atom_of sizes (front text)) (length text) (behind text)

  unfoldable pub operand : Reader
  operand text = operand_front (past_spaces text)

-- Operands with operators of a line between them, from left to right.
module _ (l : Line) (Operand : Reader) where
  -- what an operator and an operand make of a value, and how that goes on
  abbrev pub step : Option Operator → ℕ → List ℕ → (ℕ → Reader) → Result (ℕ × List ℕ) Wrong
  step None v text on = Ok (v, text)
  step (Some o) v text on =
      Operand (behind text) >>= λ w. placed (length text) (applied o v w.0) >>= λ u. on u (past_spaces w.1)

  -- behind a value there are at most n more operands
  abbrev pub more : ℕ → ℕ → Reader
  more zero v text = Ok (v, text)
  more (suc n) v text = step (operator_of l (front text)) v text (more n)

  -- a text of n bytes has at most n more
  abbrev pub goes_on : ℕ → Reader
  goes_on v text = more (length text) v text

  unfoldable pub chain : Reader
  chain text = Operand text >>= λ first. goes_on first.0 (past_spaces first.1)

-- what a line stands on
abbrev pub tight : List Size → (ℕ → Reader) → Line → Reader
tight sizes Inner line.Product = operand sizes Inner
tight sizes Inner line.Sum = chain line.Product (operand sizes Inner)

abbrev pub at_line : List Size → (ℕ → Reader) → Line → Reader
at_line sizes Inner l = chain l (tight sizes Inner l)

-- a sum that may open d more levels, of which one is opened by the token that had so many bytes left
unfoldable pub further : List Size → ℕ → ℕ → Reader
further sizes zero left text = Err (wrong_at reason.TooDeep left)
further sizes (suc d) left text = at_line sizes (further sizes d) line.Sum text

-- the number of an expression behind its opening brace, and the text behind the closing one; it is nested at most 64 deep
unfoldable pub braced : List Size → Reader
braced sizes text = at_line sizes (further sizes 64) line.Sum text >>= λ e. expect 125 e.1 >>= λ rest. Ok (e.0, rest)

-- a number behind which nothing is left
abbrev pub all_read : ℕ → List ℕ → Result ℕ Wrong
all_read v [] = Ok v
all_read v (b ∷ rest) = Err (wrong_at reason.Unexpected (length (b ∷ rest)))

-- the number of an expression that is all of a text; it is nested at most 64 deep
unfoldable pub whole : List Size → List ℕ → Result ℕ Wrong
whole sizes text = at_line sizes (further sizes 64) line.Sum text >>= λ e. all_read e.0 e.1
