-- No text is that of two trees.
use Rattle.std.proofs.Common.{◌∙◌, List, [], Result, Ok, Err, ℕ, ap, sym}
use Rattle.pram_tokens.specs.declared.token.Token.{Token}
use Rattle.pram_trees.specs.Program.{limit}
use Rattle.pram_tokens.specs.Scanning.{Cut}
use Rattle.pram_trees.specs.Text.{HasOneTreeAtMost}
use Rattle.pram_parser.proofs.Programs.{same_tree}

abbrev tokens_in : Result Cut ℕ → List Token
tokens_in (Ok found) = found.tokens
tokens_in (Err at) = []

pub one_tree_at_most : HasOneTreeAtMost
one_tree_at_most text tree other is also =
    same_tree limit limit limit limit tree other is.stands.is_block also.stands.is_block (ap tokens_in (sym is.tokens ∙ also.tokens))
