-- What is found of two programs on inputs.
use Rattle.std.specs.Prelude.{ℕ, ◌+◌, ◌/◌, max, min, nat_lt, Bool, false, ℤ, if◌then◌else◌, List, [], ◌∷◌, ◌++◌, Option, Some, None}
use Rattle.std.specs.Prelude.{is_none, Vec}
use Rattle.std.specs.Prelude.{◌≡◌, ◌<◌, length, map, slice_index_or, take}
use Rattle.std.specs.Global.{Global}
use Rattle.std.specs.List.{filter, filter_map, fold, range_with_len}
use Rattle.std.specs.Option.{option_map}
use Rattle.drawn_kinds.specs.Kinds.{IsDrawn}
use Rattle.drawn_kinds.specs.declared.kind.DrawnKind.{DrawnKind}
use Rattle.scopes.specs.Drawn.{drawn}
use Rattle.pram_model.specs.Layout.{total_size}
use Rattle.pram_check.specs.Checked.{Checked}
use Rattle.scopes.specs.Runs.{verdict_on}
use Rattle.scopes.specs.Specified.{counting, counts}
use Rattle.comparing.specs.declared.comparison.Comparison.{Comparison}
use Rattle.comparing.specs.declared.comparison.FoundDifference.{FoundDifference}
use Rattle.comparing.specs.declared.compared.Compared.{Compared}
use Rattle.comparing.specs.declared.difference.Difference.{Difference}
use Rattle.comparing.specs.declared.refusal.Side.{Side}
use Rattle.comparing.specs.declared.refusal.Side.TheVariants as side
use Rattle.comparing.specs.declared.score.Score.{Score}
use Rattle.comparing.specs.declared.trial.Trial.{Trial}
use Rattle.comparing.specs.Differences.{Run, first_difference, run_on, second_bound}
use Rattle.comparing.specs.Scores.{score_of, scored, trial_of}

-- ---- one input

-- the second program's run on it, within so many statements, or those of its limit of time
abbrev pub second_run : Checked → Compared → ℕ → List ℤ → Run
second_run q c n input = run_on q (second_bound c.limits n) input

-- what differs first between the runs of two programs on it
abbrev pub difference_on : (p q : Checked) → Compared → ℕ → List ℤ → Option Difference
difference_on p q c n input = first_difference c (verdict_on p n input) (second_run q c n input)

-- all that is found on it
abbrev pub trial_on : (p q : Checked) → Compared → ℕ → List ℤ → Trial
trial_on p q c n input = trial_of (difference_on p q c n input) (second_run q c n input)

-- an input, and what differs on it
pub record Differing : Type 0 where
  pub input : List ℤ
  pub difference : Difference

abbrev pub differing_on : (p q : Checked) → Compared → ℕ → List ℤ → Option Differing
differing_on p q c n input = option_map (λ d. record { input = input; difference = d }) (difference_on p q c n input)

-- ---- some inputs

-- those on which they differ, in order
abbrev pub differing : (p q : Checked) → Compared → ℕ → List (List ℤ) → List Differing
differing p q c n inputs = filter_map (differing_on p q c n) inputs

-- those on which they come to the same
abbrev pub same : (p q : Checked) → Compared → ℕ → List (List ℤ) → List (List ℤ)
same p q c n inputs = filter (λ input. is_none (difference_on p q c n input)) inputs

pub record Found : Type 0 where
  pub inputs : ℕ
  pub counting : ℕ
  pub same : ℕ
  pub score : Score
  pub told : List Differing

-- of these inputs, all of so many that count: on how many they come to the same, how the second does, and the first on which they differ,
-- at most so many
abbrev pub found_of_counting : (p q : Checked) → Compared → (n most many : ℕ) → List (List ℤ) → Found
found_of_counting p q c n most many inputs = record {
  inputs = many;
  counting = length inputs;
  same = length (same p q c n inputs);
  score = score_of (map (trial_on p q c n) inputs);
  told = take most (differing p q c n inputs);
}

-- of those of these inputs that count by a precondition
abbrev pub found : Option Checked → (p q : Checked) → Compared → (n most : ℕ) → List (List ℤ) → Found
found w p q c n most inputs = found_of_counting p q c n most (length inputs) (counting w n inputs)

-- the same, where there are so many inputs
abbrev pub of_so_many : ℕ → Found → Found
of_so_many many f = record f { inputs = many }

-- how many of the first on which they differ are told, of so many values each: at most 1,000, and no more than have a million values
-- together, but one in any case
abbrev pub most_told : (values : ℕ) → ℕ
most_told values = max (min (1000000 / max values 1) 1000) 1

-- ---- what the code has found

abbrev pub differing_is : FoundDifference → Differing
differing_is f = record { input = f.input.items; difference = f.difference }

abbrev pub found_is : Comparison → Found
found_is f = record { inputs = f.inputs; counting = f.counting; same = f.same; score = f.score; told = map differing_is f.told.items }

-- ---- one input more

-- nothing yet
abbrev pub nothing : Found
nothing = record { inputs = 0; counting = 0; same = 0; score = score_of []; told = [] }

-- one more behind others, where there are fewer than so many
abbrev pub with_more : (most : ℕ) → List Differing → Differing → List Differing
with_more most ds d = if nat_lt (length ds) most then ds ++ d ∷ [] else ds

-- one that doesn't count
abbrev pub skipped : Found → Found
skipped f = record f { inputs = f.inputs + 1 }

-- one that counts, by what differs on it
abbrev pub noted : (most : ℕ) → Option Difference → List ℤ → Found → Found
noted most None input f = record f { inputs = f.inputs + 1; counting = f.counting + 1; same = f.same + 1 }
noted most (Some d) input f =
    record f {
      inputs = f.inputs + 1;
      counting = f.counting + 1;
      told = with_more most f.told (record { input = input; difference = d });
    }

-- by all that is found on it
abbrev pub added : (most : ℕ) → Trial → List ℤ → Found → Found
added most t input f = record (noted most t.difference input f) { score = scored t f.score }

-- one input more
abbrev pub with_input : Option Checked → (p q : Checked) → Compared → (n most : ℕ) → List ℤ → Found → Found
with_input w p q c n most input f = if counts w n input then added most (trial_on p q c n input) input f else skipped f

-- ---- inputs that are too long

-- a precondition has fewer cells than so many values
abbrev pub has_fewer : Option Checked → ℕ → Bool
has_fewer None count = false
has_fewer (Some w) count = nat_lt (total_size w.layout) count

-- what has fewer cells than so many values: the first program, or else the second, or else the precondition
abbrev pub too_long : Option Checked → (p q : Checked) → ℕ → Option Side
too_long w p q count =
    if nat_lt (total_size p.layout) count then Some side.First
    else if nat_lt (total_size q.layout) count then Some side.Second
    else if has_fewer w count then Some side.Precondition
    else None

-- the values of an input
abbrev pub values_of : Vec ℤ Global → List ℤ
values_of input = input.items

-- the most values of any of the inputs
abbrev pub longest : List (List ℤ) → ℕ
longest inputs = fold max 0 (map (λ input. length input) inputs)

-- ---- inputs that are drawn

-- so many values each: what a seed draws, what the next one draws, and so on
abbrev pub drawn_by : (low high : ℤ) → (cells seed : ℕ) → List ℤ
drawn_by low high cells seed = drawn low high seed cells

abbrev pub drawn_inputs : (low high : ℤ) → (seed cells count : ℕ) → List (List ℤ)
drawn_inputs low high seed cells count = map (drawn_by low high cells) (range_with_len seed count)

-- so many inputs of a kind, of so many values each: what a seed draws, what the next one draws, and so on
pub record AreOfKind (kind : DrawnKind) (seed cells count : ℕ) (inputs : List (List ℤ)) : Type 0 where
  pub counted : length inputs ≡ count
  pub drawn : (k : ℕ) → k < count → IsDrawn kind (seed + k) cells (slice_index_or inputs k [])
