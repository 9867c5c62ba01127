-- The first input on which something goes wrong.
use Rattle.std.specs.Prelude.{ℤ, List, [], ◌∷◌, Option, Some, None}
use Rattle.std.specs.Option.{option_or}
use Rattle.scopes.specs.Firsts.{Met}
use Rattle.scopes.specs.Found.{Found, found_is}
use Rattle.command_facts.specs.declared.found.Found.{Found as Answer}
use Rattle.command_facts.specs.declared.found.Found.TheVariants as answer
use Rattle.command_facts.specs.declared.found.Settled.{Settled}
use Rattle.command_facts.specs.declared.found.Settled.TheVariants as settled

-- the input of the first of these faults, if there is one
abbrev pub first_met : List Met → Option (List ℤ)
first_met [] = None
first_met (m ∷ ms) = Some m.input

-- The first input that is told with what goes wrong: that of the first fault, else that on which the run goes on, else that on which it fails.
abbrev pub first_wrong : Found → Option (List ℤ)
first_wrong f = option_or (first_met f.faults) (option_or f.goes_on_at f.fails_at)

-- that of an exploration; of what else is found there is none
abbrev pub wrong_of : Settled → Option (List ℤ)
wrong_of (settled.Explored f) = first_wrong (found_is f.findings)
wrong_of _ = None

abbrev pub wrong_in : Answer → Option (List ℤ)
wrong_in (answer.Settled s) = wrong_of s
wrong_in (answer.Stepped s) = None
