-- The inputs of a scope.
use Rattle.std.specs.Prelude.{Bool, List, [], ℤ, if◌then◌else◌}
use Rattle.std.specs.List.{filter}
use Rattle.scopes.specs.declared.scope.Scope.{Scope}
use Rattle.scopes.specs.Lists.{are_apart, lists_from, lists_of, values}

-- of some lists those that a scope has
abbrev pub those_of : Scope → List (List ℤ) → List (List ℤ)
those_of s xss = if s.apart then filter are_apart xss else xss

-- in lexicographic order
abbrev pub inputs_of : Scope → List (List ℤ)
inputs_of s = those_of s (lists_of (values s.low s.high) s.count)

-- those from a list on
abbrev pub inputs_from : Scope → List ℤ → List (List ℤ)
inputs_from s xs = those_of s (lists_from s.low s.high xs)

-- where one isn't past the last, those that are left are those from here on
abbrev pub inputs_left : Scope → (over : Bool) → List ℤ → List (List ℤ)
inputs_left s over xs = if over then [] else inputs_from s xs
