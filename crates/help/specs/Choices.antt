-- Which kinds of tokens could stand at a place, said by the grammar alone.
use Rattle.std.specs.Prelude.{◌≡◌, ◌↔◌, ℕ, Bool, true, false, List, [], ◌∷◌, ◌++◌, Result, Ok, Err}
use Rattle.pram_tokens.specs.declared.error.LexError.{LexError}
use Rattle.pram_tokens.specs.declared.error.LexError.TheVariants.{OutOfMemory, BadToken}
use Rattle.pram_tokens.specs.declared.token.Token.{Token}
use Rattle.pram_tokens.specs.Tokens.{IsReal}
use Rattle.pram_tokens.specs.Scanning.{Cut, cut_of}
use Rattle.pram_trees.specs.Program.{Begins, limit}
use Rattle.help.specs.declared.choice.Choice.{Choice}
use Rattle.help.specs.declared.choice.Choice.TheVariants as choice
use Rattle.help.specs.Kinds.{IsOf, all_choices, sample}

-- the answer to whether something is so
abbrev pub Decides : Bool → Type 0 → Type 0
Decides true P = P
Decides false P = P → ⊥

-- some program within the limits of nesting begins with these tokens and that one behind them
abbrev pub CouldStand : List Token → Token → Type 0
CouldStand front t = Begins limit limit (front ++ t ∷ [])

-- a rule's word could stand there, and no other name
abbrev pub OnlyRules : List Token → Type 0
OnlyRules front = CouldStand front (sample choice.Rule) × (CouldStand front (sample choice.Name) → ⊥)

-- One token of a kind speaks for each of them: where it could stand, so could they.
abbrev pub SamplesSpeak : Type 0
SamplesSpeak = (front : List Token) (k : Choice) (t : Token) → IsReal t → IsOf k t → CouldStand front t ↔ CouldStand front (sample k)

-- A token of the kind could stand there. Rules' words are names, and told as such where any name could.
abbrev pub IsTold : List Token → Choice → Type 0
IsTold front choice.Rule = OnlyRules front
IsTold front k = CouldStand front (sample k)

-- of some kinds, those that are told, in their order
pub data Told (front : List Token) : (all found : List Choice) → Type 0 where
  over : Told front [] []
  told : (k : Choice) (all found : List Choice) → IsTold front k → Told front all found → Told front (k ∷ all) (k ∷ found)
  left_out : (k : Choice) (all found : List Choice) → (IsTold front k → ⊥) → Told front all found → Told front (k ∷ all) found

-- the kinds that could stand behind these tokens are those that were found
abbrev pub AreChoices : List Token → List Choice → Type 0
AreChoices front found = Told front all_choices found

-- and behind the tokens of a text
abbrev pub AreChoicesBehind : List ℕ → List Choice → Type 0
AreChoicesBehind text found = (c : Cut) × (cut_of text ≡ Ok c) × AreChoices c.tokens found

-- nothing is found where memory was refused, or where that is the place of something that is no token
abbrev pub IsRefusedFor : {X : Type 0} → List ℕ → Result X LexError → Type 0
IsRefusedFor text (Ok x) = Unit {0}
IsRefusedFor text (Err OutOfMemory) = Unit {0}
IsRefusedFor text (Err (BadToken at)) = cut_of text ≡ Err at
