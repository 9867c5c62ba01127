-- The code of a statement from the code of its parts. A write is held up to the next send: `held` says whether one is. With `keep` a
-- send that sends nothing stands behind each mark where no write is held.
use Rattle.std.specs.Prelude.{ℕ, zero, suc, ◌+◌, Bool, true, false, not, ◌&&◌, List, [], ◌∷◌, ◌++◌, length, pos}
use Rattle.superstep_instructions.specs.declared.instr.Side.{Side}
use Rattle.superstep_instructions.specs.declared.instr.Side.TheVariants.{Uniform, Private}
use Rattle.superstep_instructions.specs.declared.instr.Arithmetic.TheVariants as arithmetic
use Rattle.superstep_instructions.specs.declared.instr.Truth.TheVariants as truth
use Rattle.superstep_instructions.specs.declared.instr.Instr.{Instr}
use Rattle.superstep_instructions.specs.declared.instr.Instr.TheVariants.{Mark, Set, Copy, Calculate, Decide, Index, Enter, Leave, Mask}
use Rattle.superstep_instructions.specs.declared.instr.Instr.TheVariants.{Flip, Unmask, Put, Send, Vote, Print, Jump, JumpIfZero}
use Rattle.plain_form.specs.Registers.{variable, turn, high, more, behind_turns, index}
use Rattle.plain_form.specs.Formulas.{Formula, Pair, nesting, positions}
use Rattle.plain_form.specs.Groups.{only, evaluated, value_at, first_at, second_at}

-- ---- held writes

-- a held write is sent by a send of its own
abbrev pub flush : Bool → List Instr
flush held = only held (Send ∷ [])

-- whether there is a level of reads
abbrev pub any_level : ℕ → Bool
any_level zero = false
any_level (suc n) = true

abbrev pub has_reads : Formula → Bool
has_reads f = any_level (nesting f)

-- whether a write is held behind the reads of a formula, whose first send sends it
abbrev pub still : Bool → Formula → Bool
still held f = held && not (has_reads f)

-- the other way round: whether a write that must go before the next one can wait for the reads of a formula
abbrev pub waits : Bool → Formula → Bool
waits held f = held && has_reads f

-- ---- the beginning of a statement

-- its mark
abbrev pub begun : (keep held : Bool) → ℕ → List Instr
begun keep held line = Mark line ∷ only (keep && not held) (Send ∷ [])

-- its mark, and the code of its formula, whose registers begin at base
abbrev pub counted : (keep held : Bool) → ℕ → Side → ℕ → Formula → List Instr
counted keep held line s base f = begun keep held line ++ evaluated s base f

-- ---- statements without parts

-- a value for a variable or a local
abbrev pub gets : (keep held : Bool) → ℕ → Side → ℕ → Formula → ℕ → List Instr
gets keep held line s base f destination = counted keep held line s base f ++ Copy s destination (value_at s base f) ∷ []

-- A write, at the last position: of the value of g to the cell of the entry at the subscript f. A write that is held before it goes
-- with its reads, and where there are none by itself.
abbrev pub writes : (keep held : Bool) → ℕ → Side → ℕ → ℕ → Formula → Formula → List Instr
writes keep held line s base entry f g =
    flush (still held (Pair f g)) ++ counted keep (waits held (Pair f g)) line s base (Pair f g)
    ++ Put s entry (first_at s base f g) (second_at s base f g) (positions f + positions g + 1) ∷ []

abbrev pub prints : (keep held : Bool) → ℕ → ℕ → Formula → List Instr
prints keep held line base f = counted keep held line Uniform base f ++ Print (value_at Uniform base f) ∷ []

-- ---- outside pardo. The code of a part is given by where it begins; no write is held before it.

-- a part, and the send of what it holds
abbrev pub sent : List Instr → Bool → List Instr
sent part left = part ++ flush left

-- the parts of an `if`, the second of which may be missing: from the jump over the first on
abbrev pub chosen : ℕ → ℕ → List Instr → Bool → (ℕ → List Instr) → List Instr
chosen start test then_part false else_part = JumpIfZero test (start + 1 + length then_part) ∷ then_part
chosen start test then_part true else_part =
    let other = start + 1 + length then_part + 1 in
    JumpIfZero test other ∷ then_part ++ Jump (other + length (else_part other)) ∷ else_part other

-- `if`: what is held behind the test is sent
abbrev pub if_code : (keep held : Bool) → ℕ → ℕ → ℕ → Formula → (ℕ → List Instr) → Bool → (ℕ → List Instr) → List Instr
if_code keep held start line free f then_part has_else else_part =
    let test = counted keep held line Uniform free f ++ flush (still held f) in
    let behind = start + length test in
    test ++ chosen behind (value_at Uniform free f) (then_part (behind + 1)) has_else else_part

-- a loop from its head on: its test, where it ends if that is 0, and its body
abbrev pub looped : ℕ → List Instr → ℕ → (ℕ → List Instr) → List Instr
looped head test register body =
    let start = head + length test + 1 in
    let end = start + length (body start) + 1 in
    test ++ (JumpIfZero register end ∷ []) ++ body start ++ (Jump head ∷ [])

-- `while`
abbrev pub while_code : (keep held : Bool) → ℕ → ℕ → ℕ → Formula → (ℕ → List Instr) → List Instr
while_code keep held start line free f body =
    flush held ++ looped (start + length (flush held)) (counted keep false line Uniform free f) (value_at Uniform free f) body

-- the bounds of a `for`, and whether there is a first turn
abbrev pub bounds : (keep held : Bool) → ℕ → ℕ → Formula → Formula → List Instr
bounds keep held line free f g =
    let base = behind_turns free in
    counted keep held line Uniform base (Pair f g)
    ++ (Copy Uniform (turn free) (first_at Uniform base f g) ∷ Copy Uniform (high free) (second_at Uniform base f g) ∷ [])
    ++ flush (still held (Pair f g))
    ++ (Decide Uniform truth.AtMost (more free) (turn free) (high free) ∷ [])

-- a setting of its variable, which counts as a statement: the turn is stepped there, unless it is the last
abbrev pub setting : Bool → ℕ → ℕ → ℕ → List Instr
setting keep line free x =
    begun keep false line ++ Copy Uniform (variable x) (turn free) ∷ Decide Uniform truth.Less (more free) (turn free) (high free)
    ∷ Calculate Uniform arithmetic.Add (turn free) (turn free) (more free) 0 ∷ []

-- the turns of a `for`, from the jump over them on
abbrev pub turned : ℕ → ℕ → List Instr → (ℕ → List Instr) → List Instr
turned start more set body =
    let head = start + 1 in
    let turns = set ++ body (head + length set) in
    let end = head + length turns + 2 in
    JumpIfZero more end ∷ turns ++ (JumpIfZero more end ∷ Jump head ∷ [])

-- `for`
abbrev pub for_code : (keep held : Bool) → ℕ → ℕ → ℕ → ℕ → Formula → Formula → (ℕ → List Instr) → List Instr
for_code keep held start line free x f g body =
    let first = bounds keep held line free f g in
    first ++ turned (start + length first) (more free) (setting keep line free x) body

-- pardo: the width is tested at the last position
abbrev pub entered : (keep held : Bool) → ℕ → ℕ → Formula → Formula → List Instr
entered keep held line base f g =
    counted keep held line Uniform base (Pair f g)
    ++ Enter (first_at Uniform base f g) (second_at Uniform base f g) (positions f + positions g + 1) ∷ Index index ∷ []

abbrev pub pardo_code : (keep held : Bool) → ℕ → ℕ → ℕ → Formula → Formula → (ℕ → List Instr) → List Instr
pardo_code keep held start line base f g body =
    let before = entered keep held line base f g in
    before ++ body (start + length before) ++ (Leave ∷ [])

-- ---- inside pardo

-- an else part, if there is one
abbrev pub flipped : Bool → ℕ → (ℕ → List Instr) → List Instr
flipped false start part = []
flipped true start part = Flip ∷ part (start + 1)

-- `if`: a mask, and no jump
abbrev pub inner_if_code : (keep held : Bool) → ℕ → ℕ → ℕ → Formula → (ℕ → List Instr) → Bool → (ℕ → List Instr) → List Instr
inner_if_code keep held start line base f then_part has_else else_part =
    let test = counted keep held line Private base f ++ Mask (value_at Private base f) ∷ [] in
    let before = test ++ then_part (start + length test) in
    before ++ flipped has_else (start + length before) else_part ++ (Unmask ∷ [])

-- a `while`, the flag of whose processors is set, up to its head
abbrev pub flagged : Bool → ℕ → List Instr
flagged held flag = flush held ++ Set Private flag (pos 1) ∷ Mask flag ∷ []

-- its test: the flag gets the value, and of the set below the processors with the flag are those that go on
abbrev pub flags : Bool → ℕ → (vote flag base : ℕ) → Formula → List Instr
flags keep line vote flag base f =
    counted keep false line Private base f
    ++ Copy Private flag (value_at Private base f) ∷ Unmask ∷ Mask flag ∷ Vote vote ∷ []

-- `while`: it ends where no processor of any worker goes on
abbrev pub inner_while_code : (keep held : Bool) → ℕ → ℕ → (vote flag base : ℕ) → Formula → (ℕ → List Instr) → List Instr
inner_while_code keep held start line vote flag base f body =
    let before = flagged held flag in
    before ++ looped (start + length before) (flags keep line vote flag base f) vote body ++ (Unmask ∷ [])
