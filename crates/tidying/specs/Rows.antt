-- Which registers of one code hold what those of another hold, and how that goes on.
use Rattle.std.specs.Prelude.{◌≡◌, ℕ, ◌<◌, Bool, true, false, Option, Some, None, ℤ, if◌then◌else◌}
use Rattle.std.proofs.Common.{eqb}
use Rattle.superstep_machine.specs.Parts.{Registers}

-- for each register of the one code a register of the other that holds the same, where one is known
abbrev pub Row : Type 0
Row = ℕ → Option ℕ

-- it is that number, where there is one
abbrev pub Has : Option ℤ → ℤ → Type 0
Has None x = Unit {0}
Has (Some n) x = x ≡ n

-- Each register of the row holds what its register holds; and some registers are known to hold one number whenever they are in the row.
abbrev pub Holds : (ℕ → Option ℤ) → Row → Registers → Registers → Type 0
Holds number row r other = (s t : ℕ) → row s ≡ Some t → (other t ≡ r s) × Has (number s) (other t)

-- what the one says the other says too
abbrev pub Refines : Row → Row → Type 0
Refines there here = (s t : ℕ) → there s ≡ Some t → here s ≡ Some t

-- ---- behind a step

abbrev pub is_none : {A : Type 0} → Option A → Bool
is_none None = true
is_none (Some x) = false

-- a place, unless it's d
abbrev pub unless : ℕ → Option ℕ → Option ℕ
unless d None = None
unless d (Some t) = if eqb d t then None else Some t

-- register d got what the other code put into e; nothing is known of it where it isn't the number of d
abbrev pub put_into : Bool → ℕ → ℕ → Row → Row
put_into fits d e row s = if eqb d s then (if fits then Some e else None) else unless e (row s)

-- both may have put something into d, which was in its place
abbrev pub asked_into : ℕ → Row → Row
asked_into d row s = if eqb d s then row s else unless d (row s)

-- the one code has put into d what lies at a place of the other
abbrev pub left_at : Bool → ℕ → Option ℕ → Row → Row
left_at fits d place row s = if eqb d s then (if fits then place else None) else row s

-- those alone that lie in their own register
abbrev pub own_place : ℕ → Option ℕ → Option ℕ
own_place s None = None
own_place s (Some t) = if eqb s t then Some t else None

abbrev pub in_place : Row → Row
in_place row s = own_place s (row s)

-- those alone that lie at one place in both rows
abbrev pub one_place : Option ℕ → Option ℕ → Option ℕ
one_place (Some s) (Some t) = if eqb s t then Some t else None
one_place a b = None

abbrev pub in_both : Row → Row → Row
in_both a b s = one_place (a s) (b s)

-- where all registers are 0
abbrev pub all_zero : (ℕ → Option ℤ) → Row
all_zero number s = if is_none (number s) then Some s else None

-- as far as it is said of registers below n
abbrev pub RefinesBelow : ℕ → Row → Row → Type 0
RefinesBelow n there here = (s t : ℕ) → s < n → there s ≡ Some t → here s ≡ Some t
