-- A processor's attempt at a statement, from the store before it (this project's own profile).
use Rattle.std.specs.Prelude.{Ok, Err, ℕ, List, [], ◌∷◌, ◌++◌, Option, Some, None, ℤ, pos, nat_lt, if◌then◌else◌, slice_index_or}
use Rattle.pram_model.specs.Layout.{cell_of, width}
use Rattle.pram_values.specs.declared.kind.Kind.{Kind}
use Rattle.pram_values.specs.declared.kind.Kind.TheVariants.{OutOfRange, TooWide}
use Rattle.pram_values.specs.Value.{Value}
use Rattle.pram_names.specs.declared.body.Expression.{Expression, Number, Uniform, Index, Local, Cell, Element', Prefix', Chain'}
use Rattle.pram_names.specs.declared.body.Expression.{Row_of-Link, end_of-Link, more_of-Link}
use Rattle.pram_names.specs.declared.body.Target.{Target}
use Rattle.pram_names.specs.declared.body.Target.TheVariants as target
use Rattle.pram_names.specs.declared.body.StepTarget.{StepTarget}
use Rattle.pram_names.specs.declared.body.StepTarget.TheVariants as step
use Rattle.pram_meaning.specs.Operation.{operate, operate_before}
use Rattle.pram_meaning.specs.Store.{View}

-- the positions gone through, the first one first: at each the cell that is read there, None where nothing is read
abbrev pub Trail : Type 0
Trail = List (Option ℕ)

-- an attempt gives a value, or it fails at the trail's last position
pub data Attempt (A : Type 0) : Type 0 where
  Gives : Trail → A → Attempt A
  Fails : Trail → Kind → Attempt A

-- one position on, where nothing is read
abbrev pub next : Trail → Trail
next t = t ++ None ∷ []

-- one position on, where a cell is read
abbrev pub reading : ℕ → Trail → Trail
reading c t = t ++ Some c ∷ []

-- the first attempt, then with its trail and its value the second
abbrev pub and_then : {A B : Type 0} → Attempt A → (Trail → A → Attempt B) → Attempt B
and_then (Gives t a) f = f t a
and_then (Fails t k) f = Fails t k

-- an operation, at the next position
abbrev pub operation : Value → Trail → Attempt ℤ
operation (Ok v) t = Gives (next t) v
operation (Err k) t = Fails (next t) k

-- a read, at the next position
abbrev pub read : View → Option ℕ → Trail → Attempt ℤ
read s (Some c) t = Gives (reading c t) (slice_index_or s.cells c (pos 0))
read s None t = Fails (next t) OutOfRange

-- from left to right, operands before their operation, a subscript before its read
abbrev mutual
  -- the value of an expression
  pub attempt : View → Expression → Trail → Attempt ℤ
  attempt s (Number n) t = Gives t n
  attempt s (Uniform x) t = Gives t (slice_index_or s.uniforms x (pos 0))
  attempt s Index t = Gives t s.index
  attempt s (Local x) t = Gives t (slice_index_or s.locals x (pos 0))
  attempt s (Cell a) t = read s (cell_of s.layout a (pos 0)) t
  attempt s (Element' a b e) t = and_then (attempt s e t) (λ t z. read s (cell_of s.layout a z) t)
  attempt s (Prefix' o b e) t = and_then (attempt s e t) (λ t v. operation (operate_before o v) t)
  attempt s (Chain' b e q links) t = and_then (attempt s e t) (attempt_links s links)

  -- a value, and the operands behind it: each with its operation before the next one
  pub attempt_links : View → {n : _} → Row_of-Link n → Trail → ℤ → Attempt ℤ
  attempt_links s end_of-Link t v = Gives t v
  attempt_links s (more_of-Link o e links) t v =
      and_then (attempt s e t) (λ t w. and_then (operation (operate o v w) t) (attempt_links s links))

-- what an attempt at a statement gives: a value, and the cell that it goes to, if any
pub record Effect : Type 0 where
  pub value : ℤ
  pub cell : Option ℕ

-- a value that goes to no cell
abbrev pub unwritten : Trail → ℤ → Attempt Effect
unwritten t v = Gives t (record { value = v; cell = None })

-- a write, at the next position; there a subscript is tested
abbrev pub write : Option ℕ → Trail → ℤ → Attempt Effect
write (Some c) t v = Gives (next t) (record { value = v; cell = Some c })
write None t v = Fails (next t) OutOfRange

-- a print, a test, a value for a variable
abbrev pub attempt_value : View → Expression → Attempt Effect
attempt_value s e = and_then (attempt s e []) unwritten

-- an assignment outside pardo: the subscript, the value, the write
abbrev pub attempt_assign : View → Target → Expression → Attempt Effect
attempt_assign s (target.Uniform x) e = attempt_value s e
attempt_assign s (target.Cell a) e = and_then (attempt s e []) (write (cell_of s.layout a (pos 0)))
attempt_assign s (target.Element a f) e =
    and_then (attempt s f []) (λ t z. and_then (attempt s e t) (write (cell_of s.layout a z)))

-- the same inside pardo
abbrev pub attempt_step : View → StepTarget → Expression → Attempt Effect
attempt_step s (step.Local x) e = attempt_value s e
attempt_step s (step.Cell a) e = and_then (attempt s e []) (write (cell_of s.layout a (pos 0)))
attempt_step s (step.Element a f) e =
    and_then (attempt s f []) (λ t z. and_then (attempt s e t) (write (cell_of s.layout a z)))

-- the two bounds of a `for`, the low one first
abbrev pub attempt_bounds : View → Expression → Expression → Attempt (ℤ × ℤ)
attempt_bounds s e f = and_then (attempt s e []) (λ t a. and_then (attempt s f t) (λ t b. Gives t (a, b)))

-- the first index of a pardo and how many there are, which is tested last
abbrev pub ranged : ℕ → ℤ → ℕ → Trail → Attempt (ℤ × ℕ)
ranged procs a k t = if nat_lt procs k then Fails (next t) TooWide else Gives (next t) (a, k)

-- the bounds of a pardo, the low one first, and then its width
abbrev pub attempt_range : ℕ → View → Expression → Expression → Attempt (ℤ × ℕ)
attempt_range procs s e f = and_then (attempt s e []) (λ t a. and_then (attempt s f t) (λ t b. ranged procs a (width a b) t))
