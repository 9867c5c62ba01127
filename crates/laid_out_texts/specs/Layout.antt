-- The layout of pieces: line ends, two spaces a level, and single spaces.
use Rattle.std.specs.Prelude.{ℕ, zero, suc, ◌+◌, ◌-◌, ◌==◌, nat_le, nat_lt, min, Bool, true, false, not, ◌||◌, ◌&&◌, if◌then◌else◌}
use Rattle.std.specs.Prelude.{List, [], ◌∷◌, ◌++◌}
use Rattle.laid_out_texts.specs.declared.piece.Place.{Place}
use Rattle.laid_out_texts.specs.declared.piece.Place.TheVariants as place
use Rattle.laid_out_texts.specs.declared.role.Role.{Role}
use Rattle.laid_out_texts.specs.declared.role.Role.TheVariants as role
use Rattle.laid_out_texts.specs.declared.state.Before.{Before}
use Rattle.laid_out_texts.specs.declared.state.Before.TheVariants as before
use Rattle.laid_out_texts.specs.declared.state.State.{State}
use Rattle.laid_out_texts.specs.Pieces.{Piece, pieces_of}
use Rattle.laid_out_texts.specs.Roles.{dedents, role_of}

abbrev pub is_beside : Place → Bool
is_beside place.Beside = true
is_beside _ = false

-- how many blocks are open behind a piece, where so many were before it
abbrev pub depth_behind : ℕ → Role → ℕ
depth_behind depth role.Opens = depth + 1
depth_behind depth role.Closes = depth - 1
depth_behind depth _ = depth

-- whether a block of which that many are open ends with a piece
abbrev pub ends_with : ℕ → Role → Bool
ends_with depth role.Closes = nat_le depth 1
ends_with depth _ = false

-- Whether a block goes over several lines: one of the pieces up to its `end` stands on a line of its own. So many blocks are open in it.
abbrev pub is_spread : (depth : ℕ) → List Piece → Bool
is_spread depth [] = false
is_spread depth (p ∷ ps) =
    if not (is_beside p.place) then true
    else (if ends_with depth (role_of p.bytes) then false else is_spread (depth_behind depth (role_of p.bytes)) ps)

-- what is before the first piece
abbrev pub start : State
start = record { level = 0; wide = 0; inside = false; due = false; before = before.Start }

-- whether the innermost block goes over several lines
abbrev pub is_wide : State → Bool
is_wide s = s.wide == s.level

-- one level more, up to 100
abbrev pub deeper : ℕ → ℕ
deeper level = if nat_lt level 100 then level + 1 else level

-- what is before the piece behind that one, in its line
abbrev pub before_next : Before → Role → Before
before_next b role.Comment = before.Other
before_next b role.OpensParen = before.Tight
before_next b role.Joins = before.Tight
before_next b role.ClosesParen = before.Operand
before_next b role.Operand = before.Operand
before_next before.Operand role.Minus = before.Other
before_next _ role.Minus = before.Tight
before_next b _ = before.Other

-- Behind a piece. In a line begins what follows a comment, and the first piece of a block that goes over several lines.
abbrev pub opened : State → Bool → State
opened s spread =
    record { level = deeper s.level; wide = if spread then deeper s.level else s.wide; inside = false; due = spread; before = before.Other }

abbrev pub closed : State → State
closed s = record { level = s.level - 1; wide = min s.wide (s.level - 1); inside = false; due = false; before = before.Other }

-- behind a piece that opens no block
abbrev pub behind : State → Role → State
behind s role.Comment = record s { due = true; before = before.Other }
behind s role.Turns = record s { inside = false; due = is_wide s; before = before.Other }
behind s role.Closes = closed s
behind s role.Ends = record s { inside = false; due = false; before = before.Other }
behind s r = record s { inside = true; due = false; before = before_next s.before r }

-- behind a piece, before those
abbrev pub next : State → Role → List Piece → State
next s role.Opens ps = opened s (is_spread 1 ps)
next s r ps = behind s r

-- Whether a piece begins a line. A comment does where it stood in a line of its own; another piece where it has to, and between statements
-- where it did.
abbrev pub breaks : State → Place → Role → Bool
breaks s p role.Comment = not (is_beside p)
breaks s p r = s.due || ((dedents r && is_wide s) || (not s.inside && not (is_beside p)))

-- whether no space is between two pieces of a line
abbrev pub is_tight : Before → Role → Bool
is_tight b role.Comment = false
is_tight b role.Ends = true
is_tight b role.Joins = true
is_tight b role.ClosesParen = true
is_tight before.Tight r = true
is_tight _ r = false

-- one line's end, or an empty line more
abbrev pub line_ends : Place → List ℕ
line_ends place.Apart = 10 ∷ 10 ∷ []
line_ends _ = 10 ∷ []

-- two spaces a level
abbrev pub indent : ℕ → List ℕ
indent zero = []
indent (suc n) = 32 ∷ 32 ∷ indent n

-- one level more within a statement
abbrev pub hang : Bool → List ℕ
hang true = 32 ∷ 32 ∷ []
hang false = []

abbrev pub level_at : State → Role → ℕ
level_at s r = if dedents r then s.level - 1 else s.level

-- what stands before a piece that isn't the first one
abbrev pub gap_by : (breaks tight : Bool) → State → Place → Role → List ℕ
gap_by true tight s p r = line_ends p ++ indent (level_at s r) ++ hang s.inside
gap_by false true s p r = []
gap_by false false s p r = 32 ∷ []

abbrev pub gap_of : State → Place → Role → List ℕ
gap_of s p r = gap_by (breaks s p r) (is_tight s.before r) s p r

-- what stands before a piece
abbrev pub gap : Before → State → Place → Role → List ℕ
gap before.Start s p r = []
gap _ s p r = gap_of s p r

-- what stands behind the last piece
abbrev pub ending : Before → List ℕ
ending before.Start = []
ending _ = 10 ∷ []

-- pieces laid out, in that state before the first of them
abbrev pub laid : State → List Piece → List ℕ
laid s [] = ending s.before
laid s (p ∷ ps) = gap s.before s p.place (role_of p.bytes) ++ p.bytes ++ laid (next s (role_of p.bytes) ps) ps

-- a text laid out
abbrev pub laid_out : List ℕ → List ℕ
laid_out text = laid start (pieces_of text)
