-- What is wrong with a list of tokens that is no program, said by the grammar alone.
use Rattle.std.specs.Prelude.{◌≡◌, ℕ, List, [], ◌∷◌, ◌++◌, length, Result, Ok, Err}
use Rattle.pram_trees.specs.declared.parse_error.ParseError.{ParseError}
use Rattle.pram_trees.specs.declared.parse_error.ParseError.TheVariants.{OutOfMemory, Syntax, TooDeep}
use Rattle.pram_tokens.specs.declared.token.Token.{Token}
use Rattle.pram_trees.specs.Program.{ProgramTree, IsProgram, Begins, limit}

-- No program, whatever its nesting, begins with the tokens up to and with the first of these, or is those before them where there is none.
abbrev pub Ends : List Token → List Token → Type 0
Ends front [] = (b d : ℕ) → IsProgram b d front → ⊥
Ends front (t ∷ back) = (b d : ℕ) → Begins b d (front ++ t ∷ []) → ⊥

-- The first token with which no program begins is the one that has `left` tokens from it on. At 0 the tokens run out.
pub record IsSyntaxFault (ts : List Token) (left : ℕ) : Type 0 where
  pub front : List Token
  pub back : List Token
  pub whole : ts ≡ front ++ back
  pub is_left : length back ≡ left
  -- the tokens before it begin a program within the limits
  pub begins : Begins limit limit front
  pub ends : Ends front back

-- The token that has `left` tokens from it on opens a level too many.
pub record IsDepthFault (ts : List Token) (left : ℕ) : Type 0 where
  pub front : List Token
  pub opener : Token
  pub back : List Token
  pub whole : ts ≡ front ++ opener ∷ back
  pub is_left : length (opener ∷ back) ≡ left
  pub begins : Begins limit limit front
  -- with it they begin none within the limits, but one of deeper nesting
  pub within : Begins limit limit (front ++ opener ∷ []) → ⊥
  pub deeper : (b : ℕ) × (d : ℕ) × Begins b d (front ++ opener ∷ [])

-- each refusal stands where it should
abbrev pub IsRefusedRightly : {X : Type 0} → List Token → Result X ParseError → Type 0
IsRefusedRightly ts (Ok x) = Unit {0}
IsRefusedRightly ts (Err OutOfMemory) = Unit {0}
IsRefusedRightly ts (Err (Syntax n)) = IsSyntaxFault ts n
IsRefusedRightly ts (Err (TooDeep n)) = IsDepthFault ts n

-- the answer is that tree, unless memory was refused
abbrev pub Answers : ProgramTree → Result ProgramTree ParseError → Type 0
Answers p (Ok q) = q ≡ p
Answers p (Err OutOfMemory) = Unit {0}
Answers p (Err _) = ⊥
