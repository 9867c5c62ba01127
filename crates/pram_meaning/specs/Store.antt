-- The store of a run: shared memory, uniform variables, and each processor's private memory.
-- Shared and private memory: JáJá, An Introduction to Parallel Algorithms, chapter 1 (the PRAM). Uniform variables are this
-- project's own profile.
use Rattle.std.specs.Prelude.{ℕ, zero, suc, ◌+◌, List, [], ◌∷◌, ◌++◌, ℤ, pos, ◌+ℤ◌, replicate, slice_index_or, slice_set}
use Rattle.pram_model.specs.Layout.{SharedEntry}
use Rattle.pram_check.specs.Checked.{Checked}

-- a processor of a pardo: its index and its locals
pub record Member : Type 0 where
  pub index : ℤ
  pub locals : List ℤ

-- a run between two statements: how many have run, the output, the uniform variables, the cells, and the processors inside a pardo
pub record State : Type 0 where
  pub count : ℕ
  pub output : List ℤ
  pub uniforms : List ℤ
  pub cells : List ℤ
  pub team : List Member

-- outside a pardo
abbrev pub no_team : List Member
no_team = []

-- what one processor sees before a statement
pub record View : Type 0 where
  pub layout : List SharedEntry
  pub uniforms : List ℤ
  pub cells : List ℤ
  pub index : ℤ
  pub locals : List ℤ

-- what the one processor outside pardo sees
abbrev pub seen : Checked → State → View
seen p m = record { layout = p.layout; uniforms = m.uniforms; cells = m.cells; index = pos 0; locals = [] }

-- the member of this number
abbrev pub member_of : List Member → ℕ → Member
member_of team v = slice_index_or team v (record { index = pos 0; locals = [] })

-- what the member of this number sees
abbrev pub seen_by : Checked → State → ℕ → View
seen_by p m v = record {
  layout = p.layout;
  uniforms = m.uniforms;
  cells = m.cells;
  index = (member_of m.team v).index;
  locals = (member_of m.team v).locals;
}

-- ---- changes

abbrev pub with_uniform : ℕ → ℤ → State → State
with_uniform x v m = record m { uniforms = slice_set m.uniforms x v }

abbrev pub with_cell : ℕ → ℤ → State → State
with_cell c v m = record m { cells = slice_set m.cells c v }

-- one more item of the output
abbrev pub printed : ℤ → State → State
printed v m = record m { output = m.output ++ v ∷ [] }

-- the local x of one member gets the value z
abbrev pub with_local : ℕ → ℕ → ℤ → List Member → List Member
with_local x v z team =
    let g : Member = member_of team v in slice_set team v (record { index = g.index; locals = slice_set g.locals x z })

-- k numbers from a on
abbrev pub numbers : ℕ → ℕ → List ℕ
numbers a zero = []
numbers a (suc k) = a ∷ numbers (a + 1) k

-- k processors from index a on, whose locals are 0
abbrev pub members : ℤ → ℕ → ℕ → List Member
members a zero locals = []
members a (suc k) locals = record { index = a; locals = replicate locals (pos 0) } ∷ members (a +ℤ pos 1) k locals

-- a pardo begins: its processors are new ones
abbrev pub with_team : ℤ → ℕ → ℕ → State → State
with_team a k locals m = record m { team = members a k locals }

-- a pardo ends
abbrev pub without_team : State → State
without_team m = record m { team = no_team }
