-- What expressions come to by the grammar, whatever reads them: a line of it gives a number in front of a text.
--   sum     := product | sum ("+" | "-") product
--   product := operand | product ("*" | "div" | "mod") operand
--   operand := NUMBER | SIZE | "(" sum ")" | ("log" | "root") "(" sum ")" | "pow" "(" sum "," sum ")"
use Rattle.std.specs.Prelude.{◌≡◌, ℕ, zero, suc, List, ◌∷◌, Ok, Some}
use Rattle.sized_texts.specs.declared.atom.Atom.{Atom}
use Rattle.sized_texts.specs.declared.atom.Atom.TheVariants as atom
use Rattle.sized_texts.specs.declared.line.Line.{Line}
use Rattle.sized_texts.specs.declared.line.Line.TheVariants as line
use Rattle.sized_texts.specs.declared.operation.Function.{Function}
use Rattle.sized_texts.specs.declared.operation.Operator.{Operator}
use Rattle.sized_texts.specs.declared.operation.Operator.TheVariants as operator
use Rattle.sized_texts.specs.declared.size.Size.{Size}
use Rattle.sized_texts.specs.Expressions.{atom_of, operator_of}
use Rattle.sized_texts.specs.Front.{behind, front, past_spaces}
use Rattle.sized_texts.specs.Values.{applied, called}

-- the number of the front of a text, and the text behind it
abbrev pub Rel : Type 1
Rel = List ℕ → ℕ → List ℕ → Type 0

-- what the first token is as the beginning of an operand
abbrev pub first_atom : List Size → List ℕ → Atom
first_atom sizes text = atom_of sizes (front (past_spaces text))

-- the text behind the first token
abbrev pub after : List ℕ → List ℕ
after text = behind (past_spaces text)

-- that byte is the first one behind white space, and what is behind it
abbrev pub Then : ℕ → (text rest : List ℕ) → Type 0
Then byte text rest = past_spaces text ≡ byte ∷ rest

-- Inner is the same of a sum one level further in.
pub data IsOperand (sizes : List Size) (Inner : Rel) : List ℕ → ℕ → List ℕ → Type 0 where
  number : (text : List ℕ) (v : ℕ) → first_atom sizes text ≡ atom.Value v → IsOperand sizes Inner text v (after text)
  group : (text mid rest : List ℕ) (v : ℕ) → first_atom sizes text ≡ atom.Paren → Inner (after text) v mid → Then 41 mid rest →
      IsOperand sizes Inner text v rest
  call : (f : Function) (text inside mid rest : List ℕ) (v u : ℕ) → first_atom sizes text ≡ atom.Call f → Then 40 (after text) inside →
      Inner inside v mid → Then 41 mid rest → called f v ≡ Ok u → IsOperand sizes Inner text u rest
  power : (text inside mid second late rest : List ℕ) (a b u : ℕ) → first_atom sizes text ≡ atom.Power → Then 40 (after text) inside →
      Inner inside a mid → Then 44 mid second → Inner second b late → Then 41 late rest → applied operator.Power a b ≡ Ok u →
      IsOperand sizes Inner text u rest

-- operand | line operator operand
pub data IsChain (l : Line) (Operand : Rel) : List ℕ → ℕ → List ℕ → Type 0 where
  one : (text rest : List ℕ) (v : ℕ) → Operand text v rest → IsChain l Operand text v (past_spaces rest)
  more : (o : Operator) (text mid rest : List ℕ) (v w u : ℕ) → IsChain l Operand text v mid → Some o ≡ operator_of l (front mid) →
      Operand (behind mid) w rest → applied o v w ≡ Ok u → IsChain l Operand text u (past_spaces rest)

-- a sum by what is one level further in
abbrev pub SumOf : List Size → Rel → Rel
SumOf sizes Inner = IsChain line.Sum (IsChain line.Product (IsOperand sizes Inner))

-- a sum within d levels of nesting, of which one is opened already
unfoldable pub Further : List Size → ℕ → Rel
Further sizes zero text v rest = ⊥
Further sizes (suc d) text v rest = SumOf sizes (Further sizes d) text v rest

-- a sum within d levels of nesting
abbrev pub IsSum : List Size → ℕ → Rel
IsSum sizes d = SumOf sizes (Further sizes d)

-- an expression behind its opening brace: a sum nested at most 64 deep, and the closing brace
pub record IsExpression (sizes : List Size) (text : List ℕ) (v : ℕ) (rest : List ℕ) : Type 0 where
  pub mid : List ℕ
  pub sum : IsSum sizes 64 text v mid
  pub closed : Then 125 mid rest
