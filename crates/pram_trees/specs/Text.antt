-- Which text is that of a tree, and what is wrong with a text that is that of none.
use Rattle.std.specs.Prelude.{◌≡◌, ℕ, ◌<◌, List, length, Result, Ok, Err}
use Rattle.pram_tokens.specs.declared.error.LexError.{LexError}
use Rattle.pram_tokens.specs.declared.error.LexError.TheVariants as lex
use Rattle.pram_trees.specs.declared.parse_error.ParseError.{ParseError}
use Rattle.pram_trees.specs.declared.parse_error.ParseError.TheVariants as parse
use Rattle.pram_tokens.specs.declared.error.TextFault.{TextFault}
use Rattle.pram_tokens.specs.declared.error.TextFault.TheVariants.{NotAscii, TextTooLong, BadToken, Syntax, TooDeep, OutOfMemory}
use Rattle.pram_tokens.specs.declared.token.Token.{Token}
use Rattle.pram_trees.specs.Faults.{IsDepthFault, IsSyntaxFault}
use Rattle.pram_trees.specs.Program.{ProgramTree, IsTree, limit, program_tokens}
use Rattle.pram_tokens.specs.InOrder.{offset_of}
use Rattle.pram_tokens.specs.Plain.{IsFirstBad, IsFirstOther, IsPlain}
use Rattle.pram_tokens.specs.Scanning.{cut, cut_of, longest}

-- A text of a tree: one that is cut into the tree's tokens. The tree stands in the grammar, with blocks and expressions nested at most 64
-- deep.
pub record IsTextOf (text : List ℕ) (tree : ProgramTree) : Type 0 where
  pub plain : IsPlain text
  pub offsets : List ℕ
  pub tokens : cut_of text ≡ Ok (cut (program_tokens tree) offsets)
  pub stands : IsTree limit limit tree

-- No text is that of two trees.
abbrev pub HasOneTreeAtMost : Type 0
HasOneTreeAtMost = (text : List ℕ) (tree other : ProgramTree) → IsTextOf text tree → IsTextOf text other → tree ≡ other

-- the answer is that tree, unless memory was refused
abbrev pub IsAnswer : ProgramTree → Result ProgramTree TextFault → Type 0
IsAnswer p (Ok q) = q ≡ p
IsAnswer p (Err OutOfMemory) = Unit {0}
IsAnswer p (Err _) = ⊥

-- Such a fault of the text's tokens stands at that offset. `IsFault ts left` says that it stands at the token that has `left` tokens from
-- it on.
pub record IsFaultAt (IsFault : List Token → ℕ → Type 0) (text : List ℕ) (at : ℕ) : Type 0 where
  pub plain : IsPlain text
  pub tokens : List Token
  pub offsets : List ℕ
  pub cuts : cut_of text ≡ Ok (cut tokens offsets)
  pub left : ℕ
  pub fault : IsFault tokens left
  pub place : at ≡ offset_of offsets left (length text)

-- Each refusal says what is wrong with the text, in this order: its length, its bytes, its tokens, its syntax or nesting. Memory is asked
-- for
-- behind the first two.
abbrev pub IsFaultOf : {X : Type 0} → List ℕ → Result X TextFault → Type 0
IsFaultOf text (Ok x) = Unit {0}
IsFaultOf text (Err TextTooLong) = longest < length text
IsFaultOf text (Err (NotAscii at)) = IsFirstOther text at
IsFaultOf text (Err (BadToken at)) = IsFirstBad text at
IsFaultOf text (Err (Syntax at)) = IsFaultAt IsSyntaxFault text at
IsFaultOf text (Err (TooDeep at)) = IsFaultAt IsDepthFault text at
IsFaultOf text (Err OutOfMemory) = IsPlain text

-- a refusal of the tokenizer, as one of the text
abbrev pub lex_fault : LexError → TextFault
lex_fault lex.OutOfMemory = OutOfMemory
lex_fault (lex.BadToken at) = BadToken at

-- a refusal of the tokens, as one of the text, by the tokens' offsets and the text's length
abbrev pub parse_fault : (offsets : List ℕ) (end : ℕ) → ParseError → TextFault
parse_fault offsets end parse.OutOfMemory = OutOfMemory
parse_fault offsets end (parse.Syntax left) = Syntax (offset_of offsets left end)
parse_fault offsets end (parse.TooDeep left) = TooDeep (offset_of offsets left end)
