-- What is known of a run before its first statement, as facts.
use Rattle.std.specs.Prelude.{ℕ, ℤ, List, [], ◌∷◌, ◌++◌, codes, map}
use Rattle.std.specs.List.{flat_map}
use Rattle.serde_json.specs.Data.{Data}
use Rattle.json_texts.specs.Facts.{Field, count, letters, list, object_of, told, value, values, word}
use Rattle.pram_model.specs.Rules.{rule_word}
use Rattle.pram_model.specs.declared.rule.Rule.{Rule}
use Rattle.pram_trees.specs.declared.tree.Declaration.{Declaration}
use Rattle.pram_trees.specs.declared.tree.Declaration.TheVariants as declare
use Rattle.pram_trees.specs.Program.{ProgramTree}
use Rattle.pram_tokens.specs.declared.token.Name.{Name}
use Rattle.pram_tokens.specs.declared.token.Numeral.{Numeral}
use Rattle.pages.specs.Pardos.{pardo_facts, pardos_of}

-- a single cell, and an array with its bounds
abbrev pub single_facts : Name → Data
single_facts x = object_of ((codes "name", letters x.text) ∷ [])

abbrev pub array_facts : Name → (low high : Numeral) → Data
array_facts x low high =
    object_of ((codes "name", letters x.text) ∷ (codes "low", value low.value) ∷ (codes "high", value high.value) ∷ [])

-- what a declaration says of shared memory, if it is of that
abbrev pub cells_of : Declaration → List Data
cells_of (declare.Cell x) = single_facts x ∷ []
cells_of (declare.Array x low high) = array_facts x low high ∷ []
cells_of (declare.Uniform x) = []

-- the name of a uniform variable, if it is of one
abbrev pub variables_of : Declaration → List Data
variables_of (declare.Cell x) = []
variables_of (declare.Array x low high) = []
variables_of (declare.Uniform x) = letters x.text ∷ []

-- what the file is called, the program's text and its rule, the input, which are the values of the first cells, and how many statements
-- there are
abbrev pub source_fields : (file text : List ℕ) → Rule → (input : List ℤ) → (statements : ℕ) → List Field
source_fields file text rule input statements =
    (codes "file", told file) ∷ (codes "program", letters text) ∷ (codes "rule", word (rule_word rule)) ∷ (codes "input", values input)
    ∷ (codes "statements", count statements) ∷ []

-- its shared declarations, the names of its uniform variables, and its pardos, in order
abbrev pub names_fields : ProgramTree → List Field
names_fields tree =
    (codes "cells", list (flat_map cells_of tree.declarations)) ∷ (codes "variables", list (flat_map variables_of tree.declarations))
    ∷ (codes "pardos", list (map pardo_facts (pardos_of tree.body))) ∷ []

abbrev pub opening_fields : (file text : List ℕ) → ProgramTree → (input : List ℤ) → (statements : ℕ) → List Field
opening_fields file text tree input statements = source_fields file text tree.rule input statements ++ names_fields tree

abbrev pub opening_facts : (file text : List ℕ) → ProgramTree → (input : List ℤ) → (statements : ℕ) → Data
opening_facts file text tree input statements = object_of (opening_fields file text tree input statements)
