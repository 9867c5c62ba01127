-- What is wrong with a tree, in the order of the text, one thing at a place. An accepted program is a tree with
-- nothing wrong.
use Rattle.std.specs.Prelude.{◌≡◌, ℕ, ◌+◌, Bool, true, false, ◌&&◌, ◌||◌, if◌then◌else◌, nat_eq, nat_le, nat_lt, int_lt}
use Rattle.std.specs.Prelude.{List, [], ◌∷◌, ◌++◌, Option, Some, None, ℤ, pos, length}
use Rattle.std.specs.List.{list_any}
use Rattle.pram_tokens.specs.declared.token.Location.{Location}
use Rattle.pram_tokens.specs.declared.token.Name.{Name}
use Rattle.pram_tokens.specs.declared.token.Numeral.{Numeral}
use Rattle.pram_tokens.specs.declared.token.Binary.{Binary}
use Rattle.pram_trees.specs.declared.tree.Declaration.{Declaration}
use Rattle.pram_trees.specs.declared.tree.Declaration.TheVariants as declare
use Rattle.pram_trees.specs.declared.tree.Expr.{Expr}
use Rattle.pram_trees.specs.declared.tree.Expr.TheOpen.{Expr-F}
use Rattle.pram_trees.specs.declared.tree.Expr.TheFolds.{fold-Expr}
use Rattle.pram_trees.specs.declared.tree.Stmt.{Stmt}
use Rattle.pram_trees.specs.declared.tree.Stmt.TheOpen.{Stmt-F}
use Rattle.pram_trees.specs.declared.tree.Stmt.TheFolds.{fold-Stmt}
use Rattle.pram_model.specs.Layout.{size, most_cells}
use Rattle.pram_trees.specs.Program.{ProgramTree, program_tokens}
use Rattle.pram_names.specs.declared.scope.Meaning.{Meaning}
use Rattle.pram_names.specs.declared.scope.Meaning.TheVariants.{Uniform, Cell, Array, Index, Local}
use Rattle.pram_names.specs.declared.fault.Cause.{Cause}
use Rattle.pram_names.specs.declared.fault.Cause.TheVariants as cause
use Rattle.pram_names.specs.declared.fault.Limit.TheVariants as limit
use Rattle.pram_names.specs.declared.fault.Spot.TheVariants.{Offset, TextEnd}
use Rattle.pram_names.specs.declared.fault.Breach.{Breach}
use Rattle.pram_names.specs.declared.fault.CheckFault.{CheckFault}
use Rattle.pram_names.specs.declared.fault.CheckFault.TheVariants.{Refused, OutOfMemory}
use Rattle.pram_names.specs.Scope.{Scope, meaning_of, inner_scope, locals_from, globals}

-- where an expression or a statement stands: the names in scope, the uniform variables of the `for` loops around it,
-- and whether it is inside pardo
pub record Context : Type 0 where
  pub scope : Scope
  pub loops : List ℕ
  pub inside : Bool

abbrev pub at : Location → Option Cause → List Breach
at l None = []
at l (Some c) = record { spot = Offset l.offset; cause = c } ∷ []

-- ---- expressions

-- a name in an expression, with a subscript or without
pub record Use : Type 0 where
  pub name : Name
  pub subscripted : Bool

abbrev pub plain : Name → Use
plain x = record { name = x; subscripted = false }

abbrev pub subscripted : Name → Use
subscripted x = record { name = x; subscripted = true }

abbrev pub joined_uses : List (Binary × List Use) → List Use
joined_uses [] = []
joined_uses (s ∷ rest) = s.1 ++ joined_uses rest

abbrev pub node_uses : Expr-F (List Use) → List Use
node_uses (Expr-F.Number n) = []
node_uses (Expr-F.Name x) = plain x ∷ []
node_uses (Expr-F.Element x inner) = subscripted x ∷ inner
node_uses (Expr-F.Paren inner) = inner
node_uses (Expr-F.Prefix p operand) = operand
node_uses (Expr-F.Chain first rest) = first ++ joined_uses rest

-- the names of an expression, in the order of the text
unfoldable pub uses : Expr → List Use
uses = fold-Expr (List Use) node_uses

abbrev pub step_uses : List (Binary × Expr) → List Use
step_uses [] = []
step_uses (s ∷ rest) = uses s.1 ++ step_uses rest

-- a single cell without subscript and an array with one are shared reads
abbrev pub is_read : Option Meaning → Bool → Bool
is_read (Some (Cell k)) false = true
is_read (Some (Array k)) true = true
is_read _ _ = false

-- a name that is unknown; an array without subscript, or a subscript on anything else
abbrev pub use_cause : Option Meaning → Bool → Option Cause
use_cause None s = Some cause.UnknownName
use_cause (Some (Array k)) false = Some cause.WrongKind
use_cause (Some (Array k)) true = None
use_cause (Some m) true = Some cause.WrongKind
use_cause (Some m) false = None

abbrev pub read_count : Scope → List Use → ℕ
read_count scope [] = 0
read_count scope (u ∷ us) =
    (if is_read (meaning_of scope u.name.text) u.subscripted then 1 else 0) + read_count scope us

abbrev pub most_reads : ℕ
most_reads = 8

-- the ninth shared read of a statement, where there are so many before it
abbrev pub ninth : ℕ → Bool → Option Cause
ninth n read = if read && nat_eq n most_reads then Some (cause.Limit limit.Reads) else None

-- the first of the two
abbrev pub or_else : {A : Type 0} → Option A → Option A → Option A
or_else (Some a) b = Some a
or_else None b = b

-- what is wrong with the names of a statement, of which n shared reads stand before these
abbrev pub use_breaches : Scope → ℕ → List Use → List Breach
use_breaches scope n [] = []
use_breaches scope n (u ∷ us) =
    let m = meaning_of scope u.name.text in
    at u.name.location (or_else (use_cause m u.subscripted) (ninth n (is_read m u.subscripted)))
    ++ use_breaches scope (n + (if is_read m u.subscripted then 1 else 0)) us

-- ---- statements

-- a name that is assigned, without subscript
abbrev pub target_cause : Bool → List ℕ → Option Meaning → Option Cause
target_cause inside loops None = Some cause.UnknownName
target_cause inside loops (Some (Array k)) = Some cause.WrongKind
target_cause inside loops (Some (Cell k)) = None
target_cause inside loops (Some Index) = Some cause.AssignedLoopVariable
target_cause true loops (Some (Local k)) = None
target_cause false loops (Some (Local k)) = Some cause.WrongKind
target_cause true loops (Some (Uniform k)) = Some cause.WrongKind
target_cause false loops (Some (Uniform k)) =
    if list_any (nat_eq k) loops then Some cause.AssignedLoopVariable else None

-- a name that is assigned at a subscript
abbrev pub element_cause : Option Meaning → Option Cause
element_cause None = Some cause.UnknownName
element_cause (Some (Array k)) = None
element_cause (Some m) = Some cause.WrongKind

-- the variable of a `for`: a uniform variable, and of no `for` around this one
abbrev pub variable_cause : List ℕ → Option Meaning → Option Cause
variable_cause loops None = Some cause.UnknownName
variable_cause loops (Some (Uniform k)) = if list_any (nat_eq k) loops then Some cause.AssignedLoopVariable else None
variable_cause loops (Some m) = Some cause.WrongKind

-- the loops around the body of a `for` of that variable
abbrev pub with_loop : List ℕ → Option Meaning → List ℕ
with_loop loops (Some (Uniform k)) = loops ++ k ∷ []
with_loop loops m = loops

-- a new name differs from all names in scope
abbrev pub new_cause : Scope → List ℕ → Option Cause
new_cause scope text = elim (meaning_of scope text) [ None ↦ None | Some m ↦ Some cause.DoubleName ]

abbrev pub local_breaches : Scope → ℕ → List Name → List Breach
local_breaches scope k [] = []
local_breaches scope k (x ∷ xs) =
    at x.location (new_cause scope x.text) ++ local_breaches (scope ++ locals_from k (x ∷ [])) (k + 1) xs

-- print, `for` and pardo have no place inside pardo, whatever they contain
abbrev pub outside_only : Bool → Location → List Breach → List Breach
outside_only true l bs = at l (Some cause.WrongKind)
outside_only false l bs = bs

-- what is wrong with a statement, by what is wrong with the statements in it
abbrev pub Judged : Type 0
Judged = Context → List Breach

abbrev pub judged_all : List Judged → Judged
judged_all [] c = []
judged_all (f ∷ fs) c = f c ++ judged_all fs c

abbrev pub judged_else : Option (List Judged) → Judged
judged_else None c = []
judged_else (Some fs) c = judged_all fs c

-- outside pardo, in these loops
abbrev pub outside_of : Scope → List ℕ → Context
outside_of scope loops = record { scope = scope; loops = loops; inside = false }

-- inside pardo, where no uniform variable can be assigned, whatever the loops around it
abbrev pub inside_of : Scope → Context
inside_of scope = record { scope = scope; loops = []; inside = true }

abbrev pub for_context : Context → Name → Context
for_context c x = record c { loops = with_loop c.loops (meaning_of c.scope x.text) }

abbrev pub pardo_context : Context → Name → List Name → Context
pardo_context c index locals = inside_of (inner_scope c.scope index locals)

abbrev pub node_breaches : Stmt-F Judged → Judged
node_breaches (Stmt-F.Assign x v) c =
    at x.location (target_cause c.inside c.loops (meaning_of c.scope x.text)) ++ use_breaches c.scope 0 (uses v)
node_breaches (Stmt-F.AssignElement x i v) c =
    at x.location (element_cause (meaning_of c.scope x.text)) ++ use_breaches c.scope 0 (uses i ++ uses v)
node_breaches (Stmt-F.Print l v) c = outside_only c.inside l (use_breaches c.scope 0 (uses v))
node_breaches (Stmt-F.While l e body) c = use_breaches c.scope 0 (uses e) ++ judged_all body c
node_breaches (Stmt-F.If l e body other) c =
    use_breaches c.scope 0 (uses e) ++ (judged_all body c ++ judged_else other c)
node_breaches (Stmt-F.For l x low high body) c = outside_only c.inside l
    (at x.location (variable_cause c.loops (meaning_of c.scope x.text))
    ++ (use_breaches c.scope 0 (uses low ++ uses high) ++ judged_all body (for_context c x)))
node_breaches (Stmt-F.Pardo l low x high locals body) c = outside_only c.inside l
    (use_breaches c.scope 0 (uses low)
    ++ (at x.location (new_cause c.scope x.text)
    ++ (use_breaches c.scope (read_count c.scope (uses low)) (uses high)
    ++ (local_breaches (inner_scope c.scope x []) 0 locals ++ judged_all body (pardo_context c x locals)))))

-- what is wrong with a statement
unfoldable pub statement_breaches : Stmt → Judged
statement_breaches = fold-Stmt Judged node_breaches

abbrev pub block_breaches : List Stmt → Judged
block_breaches [] c = []
block_breaches (s ∷ rest) c = statement_breaches s c ++ block_breaches rest c

abbrev pub else_breaches : Option (List Stmt) → Judged
else_breaches None c = []
else_breaches (Some body) c = block_breaches body c

-- ---- programs

-- a declared name: new, with its bounds in order, and with room for its cells behind those before it
abbrev pub bounds_cause : Option (ℤ × ℤ) → Option Cause
bounds_cause None = None
bounds_cause (Some (low, high)) = if int_lt high low then Some (cause.Limit limit.Bounds) else None

abbrev pub cells_cause : (before now : ℕ) → Option Cause
cells_cause before now =
    if nat_le before most_cells && nat_lt most_cells (before + now) then Some (cause.Limit limit.Cells) else None

abbrev pub shared_cause : Scope → ℕ → List ℕ → Option (ℤ × ℤ) → Option Cause
shared_cause scope cells text bounds =
    or_else (new_cause scope text) (or_else (bounds_cause bounds) (cells_cause cells (size bounds)))

-- what is wrong with declarations, by the names, the shared declarations, the uniform variables and the cells before
-- them
abbrev pub declaration_breaches : Scope → (entries uniforms cells : ℕ) → List Declaration → List Breach
declaration_breaches scope entries uniforms cells [] = []
declaration_breaches scope entries uniforms cells (declare.Cell x ∷ ds) =
    at x.location (shared_cause scope cells x.text None)
    ++ declaration_breaches (scope ++ (x.text, Cell entries) ∷ []) (entries + 1) uniforms (cells + 1) ds
declaration_breaches scope entries uniforms cells (declare.Array x low high ∷ ds) =
    at x.location (shared_cause scope cells x.text (Some (low.value, high.value)))
    ++ declaration_breaches (scope ++ (x.text, Array entries) ∷ []) (entries + 1) uniforms
    (cells + size (Some (low.value, high.value))) ds
declaration_breaches scope entries uniforms cells (declare.Uniform x ∷ ds) =
    at x.location (new_cause scope x.text)
    ++ declaration_breaches (scope ++ (x.text, Uniform uniforms) ∷ []) entries (uniforms + 1) cells ds

abbrev pub most_procs : ℕ
most_procs = 16384

abbrev pub procs_cause : ℤ → Option Cause
procs_cause n = if int_lt n (pos 1) || int_lt (pos most_procs) n then Some (cause.Limit limit.Procs) else None

abbrev pub most_tokens : ℕ
most_tokens = 16384

-- too many tokens: told at the end
abbrev pub token_breaches : ℕ → List Breach
token_breaches count =
    if nat_lt most_tokens count then record { spot = TextEnd; cause = cause.Limit limit.Tokens } ∷ [] else []

-- where the body stands
abbrev pub body_context : List Declaration → Context
body_context ds = outside_of (globals ds) []

-- what is wrong with a program of that many tokens
abbrev pub breaches_of : Numeral → List Declaration → List Stmt → ℕ → List Breach
breaches_of procs ds body count =
    at procs.location (procs_cause procs.value)
    ++ (declaration_breaches [] 0 0 0 ds ++ (block_breaches body (body_context ds) ++ token_breaches count))

-- what is wrong with a tree
abbrev pub breaches : ProgramTree → List Breach
breaches t = breaches_of t.procs t.declarations t.body (length (program_tokens t))

-- the first of some breaches
abbrev pub first : List Breach → Option Breach
first [] = None
first (b ∷ bs) = Some b

-- a refusal is the first breach, or memory was refused
abbrev pub Tells : List Breach → CheckFault → Type 0
Tells bs (Refused b) = first bs ≡ Some b
Tells bs OutOfMemory = Unit {0}
