-- The kinds of tokens: names, the rules' words, numbers, and each keyword and symbol of the language.
use Rattle.std.specs.Prelude.{◌≡◌, true, false, ℕ, List, ◌∷◌, ◌++◌, codes, map, pos}
use Rattle.pram_model.specs.Names.{is_one_of}
use Rattle.pram_model.specs.Rules.{rule_words}
use Rattle.pram_tokens.specs.declared.token.Location.{Location}
use Rattle.pram_tokens.specs.declared.token.Token.{Token}
use Rattle.pram_tokens.specs.declared.token.Token.TheVariants as token
use Rattle.pram_tokens.specs.declared.words.Fixed.{Fixed}
use Rattle.pram_tokens.specs.Lexemes.{program_words, statement_words, operator_words, wide_symbols, narrow_symbols, token_of}
use Rattle.help.specs.declared.choice.Choice.{Choice}
use Rattle.help.specs.declared.choice.Choice.TheVariants as choice

-- each keyword and each symbol
abbrev pub all_fixed : List Fixed
all_fixed = map (λ entry. entry.1) (program_words ++ (statement_words ++ (operator_words ++ (wide_symbols ++ narrow_symbols))))

-- all kinds, in the order in which they are told
abbrev pub all_choices : List Choice
all_choices = choice.Name ∷ choice.Rule ∷ choice.Number ∷ map choice.Fixed all_fixed

abbrev pub start : Location
start = record { offset = 0; line = 1 }

abbrev pub name_token : List ℕ → Token
name_token text = token.Name (record { text = text; location = start })

abbrev pub fixed_token : Fixed → Token
fixed_token f = token_of f start

-- the tokens of a kind
abbrev pub IsOf : Choice → Token → Type 0
IsOf choice.Name (token.Name x) = is_one_of rule_words x.text ≡ false
IsOf choice.Rule (token.Name x) = is_one_of rule_words x.text ≡ true
IsOf choice.Number (token.Number n) = Unit {0}
IsOf (choice.Fixed f) t = (place : Location) × (t ≡ token_of f place)
IsOf _ _ = ⊥

-- one of each kind
abbrev pub sample : Choice → Token
sample choice.Name = name_token (codes "x")
sample choice.Rule = name_token (codes "crew")
sample choice.Number = token.Number (record { value = pos 1; location = start })
sample (choice.Fixed f) = fixed_token f
