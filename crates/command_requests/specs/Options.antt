-- The options of a command line that take a word: their names, and which words they take.
use Rattle.std.specs.Prelude.{◌≡◌, ◌⊎◌, ℕ, ◌<◌, ◌≤◌, ℤ, Bool, ◌&&◌, List, Option, Some, codes, if◌then◌else◌}
use Rattle.std.specs.List.{find}
use Rattle.pram_model.specs.Names.{same_text}
use Rattle.pram_model.specs.Rules.{rule_word}
use Rattle.pram_model.specs.declared.rule.Rule.{Rule}
use Rattle.drawn_kinds.specs.Names as kinds
use Rattle.drawn_kinds.specs.declared.kind.DrawnKind.{DrawnKind}
use Rattle.run_options.specs.Maps.{IsPair, Names}
use Rattle.run_options.specs.Numbers.{number_of}
use Rattle.run_options.specs.declared.map_choice.MapChoice.{MapChoice}
use Rattle.scopes.specs.Intervals.{IsInterval}
use Rattle.command_requests.specs.declared.given.Given.{Given}
use Rattle.command_requests.specs.declared.given.TheConstants.{NAMED}
use Rattle.command_requests.specs.declared.given.Given.TheVariants as given
use Rattle.command_requests.specs.Names.{name}

-- the first of some options that has that name, if there is one
abbrev pub named_among : List Given → List ℕ → Option Given
named_among options word = find (λ given. same_text word (name given)) options

-- the option of that name, if there is one
abbrev pub named : List ℕ → Option Given
named = named_among NAMED

-- in a call of `cost` the name of the workers is that of those that it tells of
abbrev pub named_in : (costs : Bool) → List ℕ → Option Given
named_in costs word = if costs && same_text word (codes "--workers") then Some given.ToldWorkers else named word

abbrev pub IsNumber : List ℕ → Type 0
IsNumber word = (n : ℕ) × (number_of word ≡ Some n)

-- a number of processors, of seconds, or of workers that are told of
abbrev pub IsCount : List ℕ → Type 0
IsCount word = (n : ℕ) × (number_of word ≡ Some n) × (0 < n)

-- a number of cells, as a program may have them
abbrev pub IsCells : List ℕ → Type 0
IsCells word = (n : ℕ) × (number_of word ≡ Some n) × (n ≤ 1048576)

-- how many values all orders are of
abbrev pub AreOrdered : List ℕ → Type 0
AreOrdered word = (n : ℕ) × (number_of word ≡ Some n) × ((0 < n) × (n ≤ 10))

-- how many inputs are drawn
abbrev pub AreDrawn : List ℕ → Type 0
AreDrawn word = (n : ℕ) × (number_of word ≡ Some n) × ((0 < n) × (n ≤ 1000000))

abbrev pub IsRule : List ℕ → Type 0
IsRule word = (rule : Rule) × (word ≡ rule_word rule)

-- An option takes a word, whatever else is asked for and whatever stands in files. Of a size, a sweep, names and `csv` that is known of no
-- word, and of values neither: there may be too many inputs.
abbrev pub Takes : Given → List ℕ → Type 0
Takes given.Bound word = IsNumber word
Takes given.Seconds word = IsCount word
Takes given.Workers word = IsNumber word
Takes given.ToldWorkers word = IsCount word
Takes given.Map word = (map : MapChoice) × Names word map
Takes given.Reserve word = (items : ℕ) × (exchanges : ℕ) × IsPair word items exchanges
Takes given.Schedule word = IsCount word
Takes given.From word = IsNumber word
Takes given.To word = IsNumber word
Takes given.Random word = (low : ℤ) × (high : ℤ) × IsInterval word low high
Takes given.Draw word = (kind : DrawnKind) × kinds.Names word kind
Takes given.Seed word = IsNumber word
Takes given.Cells word = IsCells word
Takes given.Values word = ⊥
Takes given.Permutations word = AreOrdered word
Takes given.Under word = IsRule word
Takes given.Count word = AreDrawn word
Takes given.TimeAtMost word = IsNumber word
Takes given.WorkAtMost word = IsNumber word
Takes given.ProcsAtMost word = IsNumber word
Takes given.Size word = ⊥
Takes given.Sweep word = ⊥
Takes given.Format word = (word ≡ codes "text") ⊎ (word ≡ codes "json")
Takes given.Show word = ⊥
Takes given.Only word = ⊥
Takes given.Bsp word = (g : ℕ) × (l : ℕ) × IsPair word g l
Takes given.Subject word = ⊥
