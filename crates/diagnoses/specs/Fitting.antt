-- Which of the names in scope may stand where an unknown one does: by the tokens around it, and by where it stands.
use Rattle.std.specs.Prelude.{ℕ, ◌+◌, ◌-◌, Bool, true, false, ◌&&◌, not, if◌then◌else◌, List, map, take}
use Rattle.std.specs.Prelude.{Option, Some, None, Result, Ok, Err, filter}
use Rattle.std.specs.List.{list_any, slice_get}
use Rattle.pram_model.specs.Names.{same_text}
use Rattle.pram_tokens.specs.Scanning.{Cut}
use Rattle.pram_tokens.specs.declared.token.Mark.TheVariants as mark
use Rattle.pram_tokens.specs.declared.token.Opening.TheVariants as opening
use Rattle.pram_tokens.specs.declared.token.Token.{Token}
use Rattle.pram_tokens.specs.declared.token.Token.TheVariants as token
use Rattle.help.specs.InScope.{Known}
use Rattle.help.specs.declared.known.Sort.{Sort}
use Rattle.help.specs.declared.known.Sort.TheVariants as sort
use Rattle.help.specs.Blocks.{open_blocks}
use Rattle.help.specs.Hints.{before}
use Rattle.diagnoses.specs.declared.fitting.Role.{Role}
use Rattle.diagnoses.specs.declared.fitting.Role.TheVariants as role

-- ---- what may stand there

-- what may be assigned, inside pardo or outside, where it is or isn't the variable of a `for` around
abbrev pub may_be_assigned : (inside counts : Bool) → Sort → Bool
may_be_assigned inside counts sort.Cell = true
may_be_assigned inside counts sort.Array = false
may_be_assigned inside counts sort.Variable = not inside && not counts
may_be_assigned inside counts sort.Index = false
may_be_assigned inside counts sort.Local = inside

abbrev pub is_array : Sort → Bool
is_array sort.Array = true
is_array _ = false

abbrev pub is_variable : Sort → Bool
is_variable sort.Variable = true
is_variable _ = false

-- as what a name has to be declared that may have this role
abbrev pub may_stand : Role → (inside counts : Bool) → Sort → Bool
may_stand role.Element inside counts s = is_array s
may_stand role.Target inside counts s = may_be_assigned inside counts s
may_stand role.Counter inside counts s = is_variable s && not counts
may_stand role.Value inside counts s = not (is_array s)

-- ---- the role of a name

abbrev pub passes : (Token → Bool) → Option Token → Bool
passes test None = false
passes test (Some t) = test t

abbrev pub is_bracket : Token → Bool
is_bracket (token.Mark mark.OpenBracket) = true
is_bracket _ = false

abbrev pub is_becomes : Token → Bool
is_becomes (token.Mark mark.Becomes) = true
is_becomes _ = false

abbrev pub is_for : Token → Bool
is_for (token.Opening opening.For place) = true
is_for _ = false

-- what is assigned, by the token before it
abbrev pub assigned_role : Bool → Role
assigned_role behind_for = if behind_for then role.Counter else role.Target

-- of the token of that number, counted from 0: it is an element's with "[" behind it, is assigned with ":=" behind it, and else read
abbrev pub role_of : List Token → ℕ → Role
role_of ts n =
    if passes is_bracket (slice_get ts (n + 1)) then role.Element
    else (if passes is_becomes (slice_get ts (n + 1)) then assigned_role (passes is_for (slice_get ts (n - 1))) else role.Value)

-- of the name at a place of a text; of one that has no tokens it is no matter
abbrev pub role_at : Result Cut ℕ → (at : ℕ) → Role
role_at (Ok c) at = role_of c.tokens (before at c.offsets)
role_at (Err bad) at = role.Value

-- ---- where it stands

abbrev pub is_index : Sort → Bool
is_index sort.Index = true
is_index _ = false

-- Inside pardo its index is in scope.
abbrev pub is_inside : List Known → Bool
is_inside names = list_any (λ k. is_index k.sort) names

abbrev pub is_name : List ℕ → Token → Bool
is_name name (token.Name x) = same_text x.text name
is_name name _ = false

-- that name with ":=" behind it
abbrev pub is_assigned : List Token → List ℕ → ℕ → Bool
is_assigned ts name i = passes (is_name name) (slice_get ts i) && passes is_becomes (slice_get ts (i + 1))

-- the numbers of the tokens behind those that opened the blocks which are open before a token
abbrev pub fronts : Cut → ℕ → List ℕ
fronts c n = map (λ b. before b.at c.offsets + 1) (open_blocks (take n c.tokens))

-- Of the blocks a `for` alone goes on with a name and ":=": that name counts its turns.
abbrev pub counts_in : List Token → List ℕ → List ℕ → Bool
counts_in ts blocks name = list_any (is_assigned ts name) blocks

-- ---- names

-- a name that may have that role
abbrev pub fits_by : Role → (inside : Bool) → List Token → (blocks : List ℕ) → Known → Bool
fits_by r inside ts blocks k = may_stand r inside (counts_in ts blocks k.name) k.sort

-- a name that may stand at that place, inside pardo or outside
abbrev pub fits : Result Cut ℕ → (at : ℕ) → (inside : Bool) → Known → Bool
fits (Ok c) at inside k =
    let n = before at c.offsets in fits_by (role_of c.tokens n) inside c.tokens (fronts c n) k
fits (Err bad) at inside k = false

-- of the names that are in scope at a place, those that may stand there
abbrev pub fitting : Result Cut ℕ → (at : ℕ) → List Known → List Known
fitting cuts at names = filter (fits cuts at (is_inside names)) names
