-- The canonical spelling of a list of tokens.
use Rattle.std.specs.Prelude.{ℕ, List, [], ◌∷◌, ◌++◌, codes}
use Rattle.std.specs.Fmt.{signed_decimal}
use Rattle.pram_tokens.specs.declared.token.Binary.{Binary}
use Rattle.pram_tokens.specs.declared.token.Binary.TheVariants as op
use Rattle.pram_tokens.specs.declared.token.Mark.{Mark}
use Rattle.pram_tokens.specs.declared.token.Mark.TheVariants as mark
use Rattle.pram_tokens.specs.declared.token.Opening.{Opening}
use Rattle.pram_tokens.specs.declared.token.Opening.TheVariants as opening
use Rattle.pram_tokens.specs.declared.token.Token.{Token}
use Rattle.pram_tokens.specs.declared.token.Token.TheVariants as token
use Rattle.pram_trees.specs.declared.tree.Prefix.{Prefix}
use Rattle.pram_trees.specs.declared.tree.Prefix.TheVariants.{Negate, Not}

abbrev pub binary_text : Binary → List ℕ
binary_text op.Or = codes "or"
binary_text op.And = codes "and"
binary_text op.Equal = codes "="
binary_text op.Unequal = codes "<>"
binary_text op.Less = codes "<"
binary_text op.AtMost = codes "<="
binary_text op.Greater = codes ">"
binary_text op.AtLeast = codes ">="
binary_text op.Add = codes "+"
binary_text op.Subtract = codes "-"
binary_text op.Multiply = codes "*"
binary_text op.Divide = codes "div"
binary_text op.Remainder = codes "mod"

abbrev pub prefix_text : Prefix → List ℕ
prefix_text Negate = codes "-"
prefix_text Not = codes "not"

abbrev pub opening_text : Opening → List ℕ
opening_text opening.Print = codes "print"
opening_text opening.While = codes "while"
opening_text opening.If = codes "if"
opening_text opening.For = codes "for"

abbrev pub mark_text : Mark → List ℕ
mark_text mark.OpenParen = codes "("
mark_text mark.CloseParen = codes ")"
mark_text mark.OpenBracket = codes "["
mark_text mark.CloseBracket = codes "]"
mark_text mark.Becomes = codes ":="
mark_text mark.Semicolon = codes ";"
mark_text mark.Range = codes ".."
mark_text mark.Rule = codes "rule"
mark_text mark.Procs = codes "procs"
mark_text mark.Shared = codes "shared"
mark_text mark.Var = codes "var"
mark_text mark.Begin = codes "begin"
mark_text mark.Do = codes "do"
mark_text mark.End = codes "end"
mark_text mark.Then = codes "then"
mark_text mark.Else = codes "else"
mark_text mark.To = codes "to"
mark_text mark.Pardo = codes "pardo"
mark_text mark.Local = codes "local"

-- the bytes of a token: a number in decimal without leading zeros
abbrev pub token_text : Token → List ℕ
token_text (token.Name x) = x.text
token_text (token.Number n) = signed_decimal n.value
token_text (token.Binary o) = binary_text o
token_text token.Not = codes "not"
token_text (token.Opening o at) = opening_text o
token_text (token.Mark m) = mark_text m

-- what follows a token: the end of a line behind these, and a space behind the others
abbrev pub mark_end : Mark → ℕ
mark_end mark.Semicolon = 10
mark_end mark.Begin = 10
mark_end mark.Do = 10
mark_end mark.Then = 10
mark_end mark.Else = 10
mark_end mark.Pardo = 10
mark_end mark.End = 10
mark_end _ = 32

abbrev pub token_end : Token → ℕ
token_end (token.Mark m) = mark_end m
token_end _ = 32

-- a token with the byte that follows it
abbrev pub spelled : Token → List ℕ
spelled t = token_text t ++ token_end t ∷ []

-- the spelling of tokens, one after the other
abbrev pub spelling : List Token → List ℕ
spelling [] = []
spelling (t ∷ ts) = spelled t ++ spelling ts
