-- What a write rule gives for the writers of one cell.
-- Exclusive, common and priority writes: JáJá, An Introduction to Parallel Algorithms, chapter 1 (EREW and CREW, common CRCW,
-- priority CRCW). The sum is this project's own profile, and so are the faults.
use Rattle.std.specs.Prelude.{Ok, Err, List, [], ◌∷◌, Bool, true, false, if◌then◌else◌, ℤ, pos, ◌+ℤ◌, int_le}
use Rattle.pram_model.specs.declared.rule.Rule.{Rule}
use Rattle.pram_model.specs.declared.rule.Rule.TheVariants.{Erew, Crew, Common, Priority, Sum}
use Rattle.pram_values.specs.declared.kind.Kind.TheVariants.{WriteConflict}
use Rattle.pram_values.specs.Value.{Value, checked}
use Rattle.pram_values.specs.Truth.{is_equal}
use Rattle.write_rules.specs.declared.write.Write.{Write}

-- the value of the only writer
abbrev pub only_value : Write → List Write → Value
only_value w [] = Ok w.value
only_value w (v ∷ vs) = Err WriteConflict

-- the value x, if all the writers write it
abbrev pub common_value : ℤ → List Write → Value
common_value x [] = Ok x
common_value x (w ∷ ws) = if is_equal x w.value then common_value x ws else Err WriteConflict

-- the writer of least index
abbrev pub least_writer : Write → List Write → Write
least_writer w [] = w
least_writer w (v ∷ vs) = if int_le w.processor v.processor then least_writer w vs else least_writer v vs

-- the sum of all values
abbrev pub sum_of : List Write → ℤ
sum_of [] = pos 0
sum_of (w ∷ ws) = w.value +ℤ sum_of ws

-- what the writers w and ws leave in a cell, or why they may not
abbrev pub rule_value : Rule → Write → List Write → Value
rule_value Erew w ws = only_value w ws
rule_value Crew w ws = only_value w ws
rule_value Common w ws = common_value w.value ws
rule_value Priority w ws = Ok (least_writer w ws).value
rule_value Sum w ws = checked (sum_of (w ∷ ws))

-- what is in a cell after these writes, whose value before them is `old`
abbrev pub written : Rule → ℤ → List Write → Value
written rule old [] = Ok old
written rule old (w ∷ ws) = rule_value rule w ws

-- whether processors may read one cell at the same time
abbrev pub shares_reads : Rule → Bool
shares_reads Erew = false
shares_reads Crew = true
shares_reads Common = true
shares_reads Priority = true
shares_reads Sum = true

-- whether the values of the writers are added up
abbrev pub is_sum : Rule → Bool
is_sum Sum = true
is_sum rule = false
