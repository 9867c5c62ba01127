-- A statement on a set of processors: all attempts are made from one store, so all reads come before all writes
-- (JáJá, An Introduction to Parallel Algorithms, chapter 1: the processors of a PRAM work synchronously).
use Rattle.std.specs.Prelude.{Result, Ok, Err, ℕ, ◌+◌, List, [], ◌∷◌, Bool, true, false, if◌then◌else◌, map, ℤ, pos, Option, Some, None}
use Rattle.std.specs.List.{fold, flat_map}
use Rattle.pram_model.specs.declared.rule.Rule.{Rule}
use Rattle.pram_check.specs.Checked.{Checked}
use Rattle.pram_names.specs.declared.body.Target.{Target}
use Rattle.pram_names.specs.declared.body.Target.TheVariants as target
use Rattle.pram_names.specs.declared.body.StepTarget.{StepTarget}
use Rattle.pram_names.specs.declared.body.StepTarget.TheVariants as step
use Rattle.pram_values.specs.declared.place.Place.TheVariants.{All}
use Rattle.pram_values.specs.Truth.{is_nonzero}
use Rattle.pram_values.specs.Value.{Value}
use Rattle.write_rules.specs.declared.fault.Fault.{Fault}
use Rattle.write_rules.specs.Rule.{written}
use Rattle.pram_meaning.specs.declared.key.Key.{Key}
use Rattle.pram_meaning.specs.Store.{State, Member, View, member_of, seen_by, with_uniform, with_cell, with_local}
use Rattle.pram_meaning.specs.Attempt.{Attempt, Gives, Fails, Effect}
use Rattle.pram_meaning.specs.Conflict.{Part, keys, least, writes_to}

-- ---- one processor, outside pardo

-- its value, or its fault
abbrev pub alone : {A : Type 0} → ℕ → Attempt A → Result A Fault
alone line (Gives t a) = Ok a
alone line (Fails t k) = Err (record { kind = k; line = line; place = All })

-- the store after its write
abbrev pub after_write : Option ℕ → ℤ → State → State
after_write None v m = m
after_write (Some c) v m = with_cell c v m

-- the store after its assignment
abbrev pub assigned : Target → Effect → State → State
assigned (target.Uniform x) g m = with_uniform x g.value m
assigned (target.Cell a) g m = after_write g.cell g.value m
assigned (target.Element a e) g m = after_write g.cell g.value m

-- ---- a set of processors, inside pardo

abbrev pub part_of : Checked → State → (View → Attempt Effect) → ℕ → Part
part_of p m a v = record { member = v; processor = (member_of m.team v).index; attempt = a (seen_by p m v) }

-- the parts of these members
abbrev pub parts : Checked → State → (View → Attempt Effect) → List ℕ → List Part
parts p m a = map (part_of p m a)

abbrev pub on_key : {A : Type 0} → ℕ → Option Key → A → Result A Fault
on_key line (Some k) a = Err (record { kind = k.kind; line = line; place = k.place })
on_key line None a = Ok a

-- the statement's least fault, or its parts
abbrev pub together : Checked → ℕ → List Part → Result (List Part) Fault
together p line xs = on_key line (least (keys p.rule xs)) xs

-- the value of a part that doesn't fault
abbrev pub value_in : Attempt Effect → ℤ
value_in (Gives t x) = x.value
value_in (Fails t k) = pos 0

-- the local x of each processor of the set gets its value
abbrev pub with_locals : ℕ → List Part → List Member → List Member
with_locals x xs team = fold (λ team y. with_local x y.member (value_in y.attempt) team) team xs

-- the rule's value, where there is one
abbrev pub settled : ℤ → Value → ℤ
settled old (Ok v) = v
settled old (Err k) = old

-- the cells, numbered from c on, after the statement
abbrev pub overwritten : Rule → List Part → ℕ → List ℤ → List ℤ
overwritten rule xs c [] = []
overwritten rule xs c (old ∷ cells) = settled old (written rule old (writes_to c xs)) ∷ overwritten rule xs (c + 1) cells

-- the store after an assignment
abbrev pub assigned_by : Checked → StepTarget → List Part → State → State
assigned_by p (step.Local x) xs m = record m { team = with_locals x xs m.team }
assigned_by p (step.Cell a) xs m = record m { cells = overwritten p.rule xs 0 m.cells }
assigned_by p (step.Element a e) xs m = record m { cells = overwritten p.rule xs 0 m.cells }

abbrev pub those_of : Bool → Part → List ℕ
those_of true x = if is_nonzero (value_in x.attempt) then x.member ∷ [] else []
those_of false x = if is_nonzero (value_in x.attempt) then [] else x.member ∷ []

-- the members whose test comes out so
abbrev pub those : Bool → List Part → List ℕ
those b = flat_map (those_of b)
