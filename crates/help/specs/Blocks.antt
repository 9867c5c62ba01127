-- The blocks that are open behind some tokens.
use Rattle.std.specs.Prelude.{◌-◌, List, [], ◌∷◌, ◌++◌, length, take}
use Rattle.pram_tokens.specs.declared.token.Location.{Location}
use Rattle.pram_tokens.specs.declared.token.Mark.{Mark}
use Rattle.pram_tokens.specs.declared.token.Mark.TheVariants as mark
use Rattle.pram_tokens.specs.declared.token.Opening.{Opening}
use Rattle.pram_tokens.specs.declared.token.Opening.TheVariants as opening
use Rattle.pram_tokens.specs.declared.token.Token.{Token}
use Rattle.pram_tokens.specs.declared.token.Token.TheVariants as token
use Rattle.help.specs.declared.blocks.Block.{Block}

-- without the last
abbrev pub closed : List Block → List Block
closed blocks = take (length blocks - 1) blocks

abbrev pub opened_by : List Block → Opening → Location → List Block
opened_by blocks opening.Print place = blocks
opened_by blocks o place = blocks ++ record { opening = o; at = place.offset } ∷ []

abbrev pub marked_by : List Block → Mark → List Block
marked_by blocks mark.End = closed blocks
marked_by blocks _ = blocks

-- the open blocks, the outermost first, behind one token more: `while`, `if` and `for` open one, `end` closes the innermost
abbrev pub behind : List Block → Token → List Block
behind blocks (token.Opening o place) = opened_by blocks o place
behind blocks (token.Mark m) = marked_by blocks m
behind blocks _ = blocks

-- and behind all of them
abbrev pub behind_all : List Block → List Token → List Block
behind_all blocks [] = blocks
behind_all blocks (t ∷ ts) = behind_all (behind blocks t) ts

-- the blocks that are open behind these tokens
abbrev pub open_blocks : List Token → List Block
open_blocks ts = behind_all [] ts
