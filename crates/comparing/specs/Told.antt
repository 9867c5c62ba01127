-- What a comparison says of two runs.
use Rattle.std.specs.Prelude.{◌≡◌, ◌≢◌, ◌≤◌, ◌<◌, ℕ, ◌+◌, ℤ, true, false, List, [], ◌∷◌, ◌++◌, Option, Some, None, length, slice_get}
use Rattle.std.specs.List.{All}
use Rattle.pram_check.specs.Checked.{Checked}
use Rattle.write_rules.specs.Verdict.{Verdict, Ended, Faulted, GoesOn}
use Rattle.scopes.specs.Runs.{is_end}
use Rattle.comparing.specs.declared.compared.CommonRange.{CommonRange}
use Rattle.comparing.specs.declared.compared.Compared.{Compared}
use Rattle.comparing.specs.declared.compared.Limits.{Limits}
use Rattle.comparing.specs.declared.difference.Difference.{Difference}
use Rattle.comparing.specs.declared.difference.Difference.TheVariants as differ
use Rattle.comparing.specs.Differences.{Run, ending_of, same_ending}
use Rattle.comparing.specs.Found.{Differing, difference_on, differing}

-- ---- two runs that come to the same

-- the cells of these ranges have the same values
abbrev pub AgreeOn : List CommonRange → List ℤ → List ℤ → Type 0
AgreeOn rs m q = All (λ r. (k : ℕ) → k < r.length → slice_get m (r.first_start + k) ≡ slice_get q (r.second_start + k)) rs

-- both end, and what is compared is the same; both fault with a fault of one kind; or both go on
abbrev pub ComeToTheSame : Compared → Verdict → Verdict → Type 0
ComeToTheSame c (Ended o m) (Ended p q) = (c.output ≡ true → o ≡ p) × AgreeOn c.ranges.items m q
ComeToTheSame c (Faulted f o) (Faulted g p) = f.kind ≡ g.kind
ComeToTheSame c (GoesOn o) (GoesOn p) = Unit {0}
ComeToTheSame c _ _ = ⊥

abbrev pub IsAtMost : ℕ → Option ℕ → Type 0
IsAtMost taken None = Unit {0}
IsAtMost taken (Some limit) = taken ≤ limit

-- a run that ends takes at most that time and work
abbrev pub KeepsTo : Limits → Run → Type 0
KeepsTo limits b = is_end b.verdict ≡ true → IsAtMost b.time limits.time × IsAtMost b.work limits.work

-- ---- what is told is so

abbrev pub output_of : Verdict → List ℤ
output_of (Ended output memory) = output
output_of (Faulted fault output) = output
output_of (GoesOn output) = output

abbrev pub memory_of : Verdict → List ℤ
memory_of (Ended output memory) = memory
memory_of (Faulted fault output) = []
memory_of (GoesOn output) = []

abbrev pub BothEnd : Verdict → Verdict → Type 0
BothEnd v w = (is_end v ≡ true) × (is_end w ≡ true)

-- the item of that number is x in the first output, and y in the second; and on all items before it they agree
pub record IsFirstItem (o p : List ℤ) (item : ℕ) (x y : Option ℤ) : Type 0 where
  pub place : ℕ
  pub number : item ≡ place + 1
  pub first : slice_get o place ≡ x
  pub second : slice_get p place ≡ y
  pub agree : (k : ℕ) → k < place → slice_get o k ≡ slice_get p k

-- The cell of that number in the first program is x, and y is the one beside it in one of the ranges. In the ranges before that one, and
-- before it in that range, the memories agree.
pub record IsFirstCell (rs : List CommonRange) (m q : List ℤ) (cell : ℕ) (x y : Option ℤ) : Type 0 where
  pub before : List CommonRange
  pub range : CommonRange
  pub behind : List CommonRange
  pub compared : rs ≡ before ++ range ∷ behind
  pub place : ℕ
  pub within : place < range.length
  pub number : cell ≡ range.first_start + place
  pub first : slice_get m (range.first_start + place) ≡ x
  pub second : slice_get q (range.second_start + place) ≡ y
  pub agree : AgreeOn before m q
  pub here : (k : ℕ) → k < place → slice_get m (range.first_start + k) ≡ slice_get q (range.second_start + k)

-- Two different values, and all that is told before them agrees; or more than is allowed, of runs that come to the same, and of the work
-- where the time is kept.
abbrev pub IsSo : Compared → Verdict → Run → Difference → Type 0
IsSo c v b (differ.Endings e f) = (ending_of v ≡ e) × (ending_of b.verdict ≡ f) × (same_ending e f ≡ false)
IsSo c v b (differ.Output item x y) =
    (c.output ≡ true) × BothEnd v b.verdict × IsFirstItem (output_of v) (output_of b.verdict) item x y × (x ≢ y)
IsSo c v b (differ.Cell cell x y) =
    BothEnd v b.verdict × (c.output ≡ true → output_of v ≡ output_of b.verdict)
    × IsFirstCell c.ranges.items (memory_of v) (memory_of b.verdict) cell x y × (x ≢ y)
IsSo c v b (differ.Time taken limit) =
    ComeToTheSame c v b.verdict × (is_end b.verdict ≡ true) × (b.time ≡ taken) × (c.limits.time ≡ Some limit) × (limit < taken)
IsSo c v b (differ.Work taken limit) =
    ComeToTheSame c v b.verdict × IsAtMost b.time c.limits.time × (is_end b.verdict ≡ true) × (b.work ≡ taken)
    × (c.limits.work ≡ Some limit) × (limit < taken)

-- ---- the inputs on which they differ

-- the first: on those before it they come to the same, and on it that differs first
pub record IsFirst (p q : Checked) (c : Compared) (n : ℕ) (inputs : List (List ℤ)) (d : Differing) : Type 0 where
  pub before : List (List ℤ)
  pub behind : List (List ℤ)
  pub all : inputs ≡ before ++ d.input ∷ behind
  pub same : All (λ input. difference_on p q c n input ≡ None) before
  pub differs : difference_on p q c n d.input ≡ Some d.difference

-- that of a number, from 0: on so many of those before it they differ, and on it that differs first
pub record IsDiffering (p q : Checked) (c : Compared) (n : ℕ) (inputs : List (List ℤ)) (number : ℕ) (d : Differing) : Type 0 where
  pub before : List (List ℤ)
  pub behind : List (List ℤ)
  pub all : inputs ≡ before ++ d.input ∷ behind
  pub many : length (differing p q c n before) ≡ number
  pub differs : difference_on p q c n d.input ≡ Some d.difference
