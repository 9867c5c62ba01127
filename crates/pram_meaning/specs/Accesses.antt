-- What processors do to cells in a statement, as a list, and what a write rule says to it.
use Rattle.std.specs.Prelude.{◌+◌, max, Ok, Err, Bool, false, slice_index_or, ℕ, ℤ, List, [], ◌∷◌, map, length, pos, nat_eq, if◌then◌else◌}
use Rattle.std.specs.Prelude.{Option, Some, None}
use Rattle.std.specs.List.{flat_map}
use Rattle.pram_model.specs.declared.rule.Rule.{Rule}
use Rattle.pram_values.specs.declared.kind.Kind.TheVariants.{ReadConflict}
use Rattle.pram_values.specs.declared.place.Place.TheVariants.{Cell}
use Rattle.pram_values.specs.Truth.{is_equal}
use Rattle.pram_values.specs.Value.{Value}
use Rattle.write_rules.specs.declared.write.Write.{Write}
use Rattle.write_rules.specs.Rule.{written}
use Rattle.pram_meaning.specs.declared.access.Access.{Access}
use Rattle.pram_meaning.specs.declared.access.Judged.{Judged}
use Rattle.pram_meaning.specs.declared.key.Key.{Key}
use Rattle.pram_meaning.specs.Attempt.{Attempt, Gives, Fails, Trail, Effect}
use Rattle.pram_meaning.specs.Conflict.{Part, trail_of, value_key}

-- ---- what a rule says

abbrev pub write_for : ℕ → Access → List Write
write_for c a = if nat_eq c a.cell then a.write ∷ [] else []

-- the writes to a cell
abbrev pub writes_for : ℕ → List Access → List Write
writes_for c = flat_map (write_for c)

-- what the rule says to all that go to the cell of this one
abbrev pub judged_in : Rule → List Access → Access → Judged
judged_in rule all a = record { access = a; verdict = written rule (pos 0) (writes_for a.cell all) }

abbrev pub judged : Rule → List Access → List Judged
judged rule all = map (judged_in rule all) all

-- ---- the writes of a statement

-- an access to a cell, if there is one
abbrev pub access_to : ℕ → Option ℕ → Write → List Access
access_to at None w = []
access_to at (Some c) w = record { at = at; cell = c; write = w } ∷ []

-- a write stands at the last position of its attempt
abbrev pub made_by : ℤ → Attempt Effect → List Access
made_by i (Gives t x) = access_to (length t) x.cell (record { processor = i; value = x.value })
made_by i (Fails t k) = []

abbrev pub writes_made : List Part → List Access
writes_made = flat_map (λ x. made_by x.processor x.attempt)

-- what is said against a write
abbrev pub key_of : Judged → List Key
key_of j = value_key j.access.at j.access.cell j.verdict

-- ---- the reads of a statement at one position, the one after `at`

-- a read stands as a write of the reader's own index
abbrev pub read_at : ℕ → ℤ → Trail → List Access
read_at at i t = access_to (at + 1) (slice_index_or t at None) (record { processor = i; value = i })

abbrev pub reads_at : ℕ → List Part → List Access
reads_at at = flat_map (λ x. read_at at x.processor (trail_of x.attempt))

-- the last position that a processor has come to
abbrev pub last_position : List Part → ℕ
last_position [] = 0
last_position (x ∷ xs) = max (length (trail_of x.attempt)) (last_position xs)

-- whether this one is all that read the cell, by the index that they have in common
abbrev pub is_only_reader : ℤ → Value → Bool
is_only_reader i (Ok v) = is_equal v i
is_only_reader i (Err k) = false

-- what is said against a read
abbrev pub shared_key : Judged → List Key
shared_key j =
    if is_only_reader j.access.write.processor j.verdict then [] else record {
      at = j.access.at;
      place = Cell j.access.cell;
      kind = ReadConflict;
    } ∷ []
