-- A name by its word, and the name that is nearest to a word.
use Rattle.std.specs.Prelude.{ℕ, Bool, ◌/◌, max, nat_eq, nat_le, nat_lt, ◌&&◌, if◌then◌else◌, List, length, Option, Some, None}
use Rattle.std.specs.List.{find, fold}
use Rattle.strsim.specs.Edits.{levenshtein_row}
use Rattle.pram_model.specs.Names.{same_text}
use Rattle.help.specs.InScope.{Known}

-- the first of some names that is spelled so
abbrev pub named : List Known → List ℕ → Option Known
named names word = find (λ k. same_text k.name word) names

-- how many edits lead from one word to the other: the Levenshtein distance
abbrev pub edits : List ℕ → List ℕ → ℕ
edits a b = levenshtein_row nat_eq a b (length b)

-- a third of the longer one's length, and at least one
abbrev pub most_edits : List ℕ → List ℕ → ℕ
most_edits a b = max (max (length a) (length b) / 3) 1

-- the length of the longer one
abbrev pub longer : List ℕ → List ℕ → ℕ
longer a b = max (length a) (length b)

-- Names above this length are not compared, since that takes a step for each two of their letters.
abbrev pub most_letters : ℕ
most_letters = 64

-- few enough edits, and fewer than letters: a name of which no letter stays is no guess
abbrev pub is_near : List ℕ → Known → Bool
is_near word k =
    nat_le (longer word k.name) most_letters && nat_le (edits word k.name) (most_edits word k.name)
    && nat_lt (edits word k.name) (longer word k.name)

-- the nearer of the two: the one so far, unless the other is near enough and nearer
abbrev pub nearer : List ℕ → Option Known → Known → Option Known
nearer word None k = if is_near word k then Some k else None
nearer word (Some best) k = if is_near word k && nat_lt (edits word k.name) (edits word best.name) then Some k else Some best

-- the nearest of all that are near enough, and of equally near ones the first
abbrev pub nearest : List Known → List ℕ → Option Known
nearest names word = fold (nearer word) None names
