-- What the kinds of tokens that could stand at a place tell of it.
use Rattle.std.specs.Prelude.{Bool, true, false, List}
use Rattle.std.specs.List.{list_any}
use Rattle.pram_tokens.specs.declared.token.Binary.TheVariants as binary
use Rattle.pram_tokens.specs.declared.token.Mark.TheVariants as mark
use Rattle.pram_tokens.specs.declared.token.Opening.TheVariants as opening
use Rattle.pram_tokens.specs.declared.words.Fixed.TheVariants as fixed
use Rattle.help.specs.declared.choice.Choice.{Choice}
use Rattle.help.specs.declared.choice.Choice.TheVariants as choice
use Rattle.help.specs.declared.sign.Sign.{Sign}
use Rattle.help.specs.declared.sign.Sign.TheVariants as sign

abbrev pub is_becomes : Choice → Bool
is_becomes (choice.Fixed (fixed.Mark mark.Becomes)) = true
is_becomes _ = false

abbrev pub is_do : Choice → Bool
is_do (choice.Fixed (fixed.Mark mark.Do)) = true
is_do _ = false

abbrev pub is_then : Choice → Bool
is_then (choice.Fixed (fixed.Mark mark.Then)) = true
is_then _ = false

abbrev pub is_pardo : Choice → Bool
is_pardo (choice.Fixed (fixed.Mark mark.Pardo)) = true
is_pardo _ = false

abbrev pub is_end : Choice → Bool
is_end (choice.Fixed (fixed.Mark mark.End)) = true
is_end _ = false

abbrev pub is_and : Choice → Bool
is_and (choice.Fixed (fixed.Binary binary.And)) = true
is_and _ = false

abbrev pub is_statement : Choice → Bool
is_statement (choice.Fixed (fixed.Opening opening.While)) = true
is_statement _ = false

abbrev pub shows : Sign → Choice → Bool
shows sign.Becomes c = is_becomes c
shows sign.Do c = is_do c
shows sign.Then c = is_then c
shows sign.Pardo c = is_pardo c
shows sign.End c = is_end c
shows sign.And c = is_and c
shows sign.Statement c = is_statement c

-- whether a token of that kind could stand there
abbrev pub could : Sign → List Choice → Bool
could s found = list_any (shows s) found
