-- The faults of a statement on a set of processors: their own faults, and conflicts between them.
-- Exclusive reads: JáJá, An Introduction to Parallel Algorithms, chapter 1 (the EREW PRAM). Positions and the order of faults are
-- this project's own profile.
use Rattle.std.specs.Prelude.{◌≡◌, Ok, Err, ℕ, ◌+◌, List, [], ◌∷◌, ◌++◌, Bool, false, not, ◌&&◌, ◌||◌, if◌then◌else◌, ℤ, pos, Option, Some}
use Rattle.std.specs.Prelude.{None, nat_eq, nat_lt, length}
use Rattle.std.specs.List.{fold, flat_map, list_any, All, Contains}
use Rattle.pram_model.specs.declared.rule.Rule.{Rule}
use Rattle.pram_values.specs.declared.kind.Kind.TheVariants.{ReadConflict}
use Rattle.pram_values.specs.declared.place.Place.TheVariants.{Processor, Cell}
use Rattle.pram_values.specs.Place.{is_place_before}
use Rattle.pram_values.specs.Truth.{is_equal}
use Rattle.pram_values.specs.Value.{Value}
use Rattle.write_rules.specs.declared.write.Write.{Write}
use Rattle.write_rules.specs.Rule.{written, shares_reads}
use Rattle.pram_meaning.specs.declared.key.Key.{Key}
use Rattle.pram_meaning.specs.declared.read.Read.{Read}
use Rattle.pram_meaning.specs.Attempt.{Attempt, Gives, Fails, Trail, Effect}

-- a processor's part in a statement: its number among the members, its index, and its attempt
pub record Part : Type 0 where
  pub member : ℕ
  pub processor : ℤ
  pub attempt : Attempt Effect

-- ---- the processors' own faults

abbrev pub fault_of : ℤ → Attempt Effect → List Key
fault_of i (Gives t x) = []
fault_of i (Fails t k) = record { at = length t; place = Processor i; kind = k } ∷ []

-- ---- read conflicts: reads before a processor's fault count

abbrev pub trail_of : {A : Type 0} → Attempt A → Trail
trail_of (Gives t a) = t
trail_of (Fails t k) = t

-- the reads of a trail, whose first position is the one after `at`
abbrev pub reads_on : ℤ → ℕ → Trail → List Read
reads_on i at [] = []
reads_on i at (None ∷ t) = reads_on i (at + 1) t
reads_on i at (Some c ∷ t) = record { processor = i; at = at + 1; cell = c } ∷ reads_on i (at + 1) t

abbrev pub reads_of : List Part → List Read
reads_of = flat_map (λ x. reads_on x.processor 0 (trail_of x.attempt))

-- two processors read one cell at one position, which only some rules allow
abbrev pub is_conflict : Read → Read → Bool
is_conflict r q = not (is_equal r.processor q.processor) && nat_eq r.at q.at && nat_eq r.cell q.cell

abbrev pub read_key : Read → Key
read_key r = record { at = r.at; place = Cell r.cell; kind = ReadConflict }

abbrev pub conflict_of : List Read → Read → List Key
conflict_of rs r = if list_any (is_conflict r) rs then read_key r ∷ [] else []

abbrev pub read_conflicts : Rule → List Read → List Key
read_conflicts rule rs = if shares_reads rule then [] else flat_map (conflict_of rs) rs

-- ---- write conflicts

abbrev pub write_to : ℕ → ℤ → Option ℕ → ℤ → List Write
write_to c i None v = []
write_to c i (Some d) v = if nat_eq c d then record { processor = i; value = v } ∷ [] else []

abbrev pub writes_by : ℕ → ℤ → Attempt Effect → List Write
writes_by c i (Gives t x) = write_to c i x.cell x.value
writes_by c i (Fails t k) = []

-- the writes to a cell
abbrev pub writes_to : ℕ → List Part → List Write
writes_to c = flat_map (λ x. writes_by c x.processor x.attempt)

abbrev pub value_key : ℕ → ℕ → Value → List Key
value_key at c (Ok v) = []
value_key at c (Err k) = record { at = at; place = Cell c; kind = k } ∷ []

-- what the write rule says against the writers of a cell, told at the position of a write to it
abbrev pub cell_conflict : Rule → List Part → ℕ → Option ℕ → List Key
cell_conflict rule xs at None = []
cell_conflict rule xs at (Some c) = value_key at c (written rule (pos 0) (writes_to c xs))

abbrev pub write_conflict : Rule → List Part → Attempt Effect → List Key
write_conflict rule xs (Gives t x) = cell_conflict rule xs (length t) x.cell
write_conflict rule xs (Fails t k) = []

-- ---- all of them

-- all faults of a statement
abbrev pub keys : Rule → List Part → List Key
keys rule xs =
    flat_map (λ x. fault_of x.processor x.attempt) xs ++ read_conflicts rule (reads_of xs)
    ++ flat_map (λ x. write_conflict rule xs x.attempt) xs

-- the order of faults: the least position; there a processor's own fault before a conflict, since processors come before cells,
-- the least processor, the least cell
abbrev pub is_key_before : Key → Key → Bool
is_key_before k j = nat_lt k.at j.at || (nat_eq k.at j.at && is_place_before k.place j.place)

-- the first of two, where the one after it comes before it
abbrev pub lesser : Option Key → Key → Option Key
lesser None j = Some j
lesser (Some k) j = if is_key_before j k then Some j else Some k

-- the least of some faults, the one that is told
abbrev pub least : List Key → Option Key
least = fold lesser None

-- it is one of them, and none comes before it
abbrev pub IsLeast : List Key → Option Key → Type 0
IsLeast ks None = ks ≡ []
IsLeast ks (Some k) = Contains ks k × All (λ j. is_key_before j k ≡ false) ks
