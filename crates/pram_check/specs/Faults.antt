-- All that is wrong with a tree, each thing whatever else is wrong, and which of it is the least: by place, then by
-- number.
use Rattle.std.specs.Prelude.{◌≡◌, ℕ, ◌+◌, ◌<◌, ◌⊎◌, Bool, true, false, ◌&&◌, ◌||◌, not, if◌then◌else◌, nat_eq, nat_lt}
use Rattle.std.specs.Prelude.{nat_le, int_lt, List, [], ◌∷◌, ◌++◌, map, Option, Some, None, ℤ, pos, length}
use Rattle.std.specs.List.{list_any, All, Contains}
use Rattle.pram_tokens.specs.declared.token.Location.{Location}
use Rattle.pram_tokens.specs.declared.token.Name.{Name}
use Rattle.pram_trees.specs.declared.tree.Declaration.{Declaration}
use Rattle.pram_trees.specs.declared.tree.Declaration.TheVariants as declare
use Rattle.pram_trees.specs.declared.tree.Stmt.{Stmt}
use Rattle.pram_trees.specs.declared.tree.Stmt.TheOpen.{Stmt-F}
use Rattle.pram_trees.specs.declared.tree.Stmt.TheFolds.{fold-Stmt}
use Rattle.pram_model.specs.Layout.{size, most_cells}
use Rattle.pram_trees.specs.Program.{ProgramTree, program_tokens}
use Rattle.pram_names.specs.declared.scope.Meaning.{Meaning}
use Rattle.pram_names.specs.declared.scope.Meaning.TheVariants.{Uniform, Cell, Array, Index, Local}
use Rattle.pram_names.specs.declared.fault.Cause.{Cause}
use Rattle.pram_names.specs.declared.fault.Cause.TheVariants.{UnknownName, DoubleName, WrongKind, AssignedLoopVariable}
use Rattle.pram_names.specs.declared.fault.Cause.TheVariants.{Limit}
use Rattle.pram_names.specs.declared.fault.Limit.TheVariants as limit
use Rattle.pram_names.specs.declared.fault.Spot.{Spot}
use Rattle.pram_names.specs.declared.fault.Spot.TheVariants.{Offset, TextEnd}
use Rattle.pram_names.specs.declared.fault.Breach.{Breach}
use Rattle.pram_names.specs.Scope.{Scope, meaning_of, inner_scope, locals_from}
use Rattle.pram_names.specs.Breaches.{Context, Judged, Use, uses, is_read, most_reads, read_count, judged_all}
use Rattle.pram_names.specs.Breaches.{judged_else, for_context, most_procs, token_breaches, body_context}

-- ---- what a name stands for

abbrev pub is_unknown : Option Meaning → Bool
is_unknown None = true
is_unknown (Some m) = false

abbrev pub is_array : Option Meaning → Bool
is_array (Some (Array k)) = true
is_array _ = false

abbrev pub is_uniform : Option Meaning → Bool
is_uniform (Some (Uniform k)) = true
is_uniform _ = false

abbrev pub is_local : Option Meaning → Bool
is_local (Some (Local k)) = true
is_local _ = false

-- an index of a pardo, or the variable of a `for` around it
abbrev pub is_loop_variable : List ℕ → Option Meaning → Bool
is_loop_variable loops (Some Index) = true
is_loop_variable loops (Some (Uniform k)) = list_any (nat_eq k) loops
is_loop_variable loops _ = false

-- ---- what is wrong at a place

-- that, where the test holds
abbrev pub when : Bool → Cause → List Cause
when true c = c ∷ []
when false c = []

abbrev pub all_at : Location → List Cause → List Breach
all_at l = map (λ c. record { spot = Offset l.offset; cause = c })

-- a name in an expression, with n shared reads of its statement before it
abbrev pub use_causes : Option Meaning → Bool → ℕ → List Cause
use_causes m subscripted n =
    when (is_unknown m) UnknownName
    ++ (when (not (is_unknown m) && ((is_array m && not subscripted) || (subscripted && not (is_array m)))) WrongKind
    ++ when (is_read m subscripted && nat_eq n most_reads) (Limit limit.Reads))

-- a name that is assigned without subscript, inside pardo or outside
abbrev pub target_causes : Bool → List ℕ → Option Meaning → List Cause
target_causes inside loops m =
    when (is_unknown m) UnknownName
    ++ (when (is_array m || ((inside && is_uniform m) || (not inside && is_local m))) WrongKind
    ++ when (is_loop_variable loops m) AssignedLoopVariable)

-- a name that is assigned at a subscript
abbrev pub element_causes : List ℕ → Option Meaning → List Cause
element_causes loops m =
    when (is_unknown m) UnknownName
    ++ (when (not (is_unknown m) && not (is_array m)) WrongKind
    ++ when (is_loop_variable loops m) AssignedLoopVariable)

-- the variable of a `for`
abbrev pub variable_causes : List ℕ → Option Meaning → List Cause
variable_causes loops m =
    when (is_unknown m) UnknownName
    ++ (when (not (is_unknown m) && not (is_uniform m)) WrongKind
    ++ when (is_loop_variable loops m) AssignedLoopVariable)

-- a new name
abbrev pub new_causes : Scope → List ℕ → List Cause
new_causes scope text = when (not (is_unknown (meaning_of scope text))) DoubleName

-- an array whose low bound is above its high one
abbrev pub is_reversed : Option (ℤ × ℤ) → Bool
is_reversed None = false
is_reversed (Some (low, high)) = int_lt high low

-- a shared name, with so many cells before its own: it passes the limit where they don't
abbrev pub shared_causes : Scope → ℕ → List ℕ → Option (ℤ × ℤ) → List Cause
shared_causes scope cells text bounds =
    new_causes scope text
    ++ (when (is_reversed bounds) (Limit limit.Bounds)
    ++ when (nat_le cells most_cells && nat_lt most_cells (cells + size bounds)) (Limit limit.Cells))

-- the number of processors
abbrev pub procs_causes : ℤ → List Cause
procs_causes n = when (int_lt n (pos 1) || int_lt (pos most_procs) n) (Limit limit.Procs)

-- ---- what is wrong with the parts of a tree

abbrev pub use_faults : Scope → ℕ → List Use → List Breach
use_faults scope n [] = []
use_faults scope n (u ∷ us) =
    let m = meaning_of scope u.name.text in
    all_at u.name.location (use_causes m u.subscripted n)
    ++ use_faults scope (n + (if is_read m u.subscripted then 1 else 0)) us

abbrev pub local_faults : Scope → ℕ → List Name → List Breach
local_faults scope k [] = []
local_faults scope k (x ∷ xs) =
    all_at x.location (new_causes scope x.text) ++ local_faults (scope ++ locals_from k (x ∷ [])) (k + 1) xs

-- print, `for` and pardo have no place inside pardo
abbrev pub keyword_faults : Bool → Location → List Breach
keyword_faults inside l = all_at l (when inside WrongKind)

-- the body of a pardo, in the loops that stand around it
abbrev pub body_of_pardo : Context → Name → List Name → Context
body_of_pardo c index locals = record { scope = inner_scope c.scope index locals; loops = c.loops; inside = true }

abbrev pub node_faults : Stmt-F Judged → Judged
node_faults (Stmt-F.Assign x v) c =
    all_at x.location (target_causes c.inside c.loops (meaning_of c.scope x.text)) ++ use_faults c.scope 0 (uses v)
node_faults (Stmt-F.AssignElement x i v) c =
    all_at x.location (element_causes c.loops (meaning_of c.scope x.text)) ++ use_faults c.scope 0 (uses i ++ uses v)
node_faults (Stmt-F.Print l v) c = keyword_faults c.inside l ++ use_faults c.scope 0 (uses v)
node_faults (Stmt-F.While l e body) c = use_faults c.scope 0 (uses e) ++ judged_all body c
node_faults (Stmt-F.If l e body other) c = use_faults c.scope 0 (uses e) ++ (judged_all body c ++ judged_else other c)
node_faults (Stmt-F.For l x low high body) c =
    keyword_faults c.inside l ++ (all_at x.location (variable_causes c.loops (meaning_of c.scope x.text))
    ++ (use_faults c.scope 0 (uses low ++ uses high) ++ judged_all body (for_context c x)))
node_faults (Stmt-F.Pardo l low x high locals body) c =
    keyword_faults c.inside l ++ (use_faults c.scope 0 (uses low) ++ (all_at x.location (new_causes c.scope x.text)
    ++ (use_faults c.scope (read_count c.scope (uses low)) (uses high)
    ++ (local_faults (inner_scope c.scope x []) 0 locals ++ judged_all body (body_of_pardo c x locals)))))

-- all that is wrong with a statement
unfoldable pub statement_faults : Stmt → Judged
statement_faults = fold-Stmt Judged node_faults

abbrev pub block_faults : List Stmt → Judged
block_faults [] c = []
block_faults (s ∷ rest) c = statement_faults s c ++ block_faults rest c

-- all that is wrong with declarations, by the names, the shared declarations, the uniform variables and the cells
-- before them
abbrev pub declaration_faults : Scope → (entries uniforms cells : ℕ) → List Declaration → List Breach
declaration_faults scope entries uniforms cells [] = []
declaration_faults scope entries uniforms cells (declare.Cell x ∷ ds) =
    all_at x.location (shared_causes scope cells x.text None)
    ++ declaration_faults (scope ++ (x.text, Cell entries) ∷ []) (entries + 1) uniforms (cells + 1) ds
declaration_faults scope entries uniforms cells (declare.Array x low high ∷ ds) =
    all_at x.location (shared_causes scope cells x.text (Some (low.value, high.value)))
    ++ declaration_faults (scope ++ (x.text, Array entries) ∷ []) (entries + 1) uniforms
    (cells + size (Some (low.value, high.value))) ds
declaration_faults scope entries uniforms cells (declare.Uniform x ∷ ds) =
    all_at x.location (new_causes scope x.text)
    ++ declaration_faults (scope ++ (x.text, Uniform uniforms) ∷ []) entries (uniforms + 1) cells ds

-- all that is wrong with a tree
abbrev pub faults : ProgramTree → List Breach
faults t =
    all_at t.procs.location (procs_causes t.procs.value)
    ++ (declaration_faults [] 0 0 0 t.declarations
    ++ (block_faults t.body (body_context t.declarations) ++ token_breaches (length (program_tokens t))))

-- a tree in which nothing is wrong
abbrev pub IsAccepted : ProgramTree → Type 0
IsAccepted t = faults t ≡ []

-- ---- their order

-- the offset of a place, in a text of that length
abbrev pub offset_in : ℕ → Spot → ℕ
offset_in end (Offset at) = at
offset_in end TextEnd = end

-- the offsets of such a list
abbrev pub offsets_in : ℕ → List Breach → List ℕ
offsets_in end = map (λ b. offset_in end b.spot)

-- the number that is told
abbrev pub number : Cause → ℕ
number UnknownName = 6
number DoubleName = 7
number WrongKind = 8
number AssignedLoopVariable = 9
number (Limit l) = 10

-- a stands before b, or they stand at one place and a has the lower number
abbrev pub IsBefore : ℕ → Breach → Breach → Type 0
IsBefore end a b =
    (offset_in end a.spot < offset_in end b.spot)
    ⊎ ((offset_in end a.spot ≡ offset_in end b.spot) × (number a.cause < number b.cause))

-- one of them, which comes before all others
pub record IsLeast (end : ℕ) (all : List Breach) (b : Breach) : Type 0 where
  pub one : Contains all b
  pub least : All (λ f. (f ≡ b) ⊎ IsBefore end b f) all
