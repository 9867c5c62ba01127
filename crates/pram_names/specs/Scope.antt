-- What the names of a program stand for, and where they do.
use Rattle.std.specs.Prelude.{ℕ, ◌+◌, if◌then◌else◌, List, [], ◌∷◌, ◌++◌, Option, Some, None}
use Rattle.pram_tokens.specs.declared.token.Name.{Name}
use Rattle.pram_trees.specs.declared.tree.Declaration.{Declaration}
use Rattle.pram_trees.specs.declared.tree.Declaration.TheVariants as declare
use Rattle.pram_model.specs.Layout.{SharedEntry}
use Rattle.pram_model.specs.Names.{same_text}
use Rattle.pram_names.specs.declared.scope.Meaning.{Meaning}
use Rattle.pram_names.specs.declared.scope.Meaning.TheVariants.{Uniform, Cell, Array, Index, Local}

-- names with what they stand for, in the order in which they were declared
abbrev pub Scope : Type 0
Scope = List (List ℕ × Meaning)

-- what a name stands for in a scope, None for a name that is not in it
abbrev pub meaning_of : Scope → List ℕ → Option Meaning
meaning_of [] text = None
meaning_of (b ∷ scope) text = if same_text b.0 text then Some b.1 else meaning_of scope text

-- what is declared before the body: each shared declaration and each uniform variable has the next number of its kind
abbrev pub declared_from : (entries uniforms : ℕ) → List Declaration → Scope
declared_from entries uniforms [] = []
declared_from entries uniforms (declare.Cell x ∷ ds) = (x.text, Cell entries) ∷ declared_from (entries + 1) uniforms ds
declared_from entries uniforms (declare.Array x low high ∷ ds) =
    (x.text, Array entries) ∷ declared_from (entries + 1) uniforms ds
declared_from entries uniforms (declare.Uniform x ∷ ds) =
    (x.text, Uniform uniforms) ∷ declared_from entries (uniforms + 1) ds

-- the names that hold everywhere
abbrev pub globals : List Declaration → Scope
globals = declared_from 0 0

-- the locals of a pardo, numbered on
abbrev pub locals_from : ℕ → List Name → Scope
locals_from k [] = []
locals_from k (x ∷ xs) = (x.text, Local k) ∷ locals_from (k + 1) xs

-- the scope of a pardo's body: the names around it, its index and its locals
abbrev pub inner_scope : Scope → Name → List Name → Scope
inner_scope scope index locals = scope ++ (index.text, Index) ∷ locals_from 0 locals

-- the shared declarations, in order
abbrev pub shared_entries : List Declaration → List SharedEntry
shared_entries [] = []
shared_entries (declare.Cell x ∷ ds) = record { name = x.text; bounds = None } ∷ shared_entries ds
shared_entries (declare.Array x low high ∷ ds) =
    record { name = x.text; bounds = Some (low.value, high.value) } ∷ shared_entries ds
shared_entries (declare.Uniform x ∷ ds) = shared_entries ds

abbrev pub uniform_count : List Declaration → ℕ
uniform_count [] = 0
uniform_count (declare.Cell x ∷ ds) = uniform_count ds
uniform_count (declare.Array x low high ∷ ds) = uniform_count ds
uniform_count (declare.Uniform x ∷ ds) = 1 + uniform_count ds
