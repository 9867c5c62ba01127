-- What is left of a loop behind its test.
use Rattle.std.specs.Prelude.{◌≡◌, ℕ, List, Bool, true, map, if◌then◌else◌}
use Rattle.pram_check.specs.Checked.{Checked}
use Rattle.pram_names.specs.declared.body.Expression.{Expression}
use Rattle.pram_names.specs.declared.body.Statement.{Statement}
use Rattle.pram_names.specs.declared.body.Step.{Step}
use Rattle.pram_meaning.specs.Bounded.{Done, Goes, then_do, perform_list, tested, turns}
use Rattle.pram_meaning.specs.Bounded.{perform_list_on, tested_on, turns_on, unless_none}
use Rattle.pram_meaning.specs.Conflict.{Part}
use Rattle.pram_meaning.specs.Store.{State}
use Rattle.pram_meaning.specs.Together.{those}
use Rattle.abstract_runs.specs.declared.active.Active.{Active}
use Rattle.abstract_runs.specs.Rows.{AreActive}

-- by how the test came out: the body and then less than k turns, or the end
abbrev pub after_test : Checked → (n line : ℕ) → Expression → List Statement → ℕ → Bool → State → Done
after_test p n line e body k b m =
    if b then then_do (perform_list p n body m) (λ u. turns k (tested p n line e) (perform_list p n body)) else Goes tt m

-- inside pardo: by whose test came out true
abbrev pub after_test_on : Checked → (n line : ℕ) → Expression → List Step → ℕ → List ℕ → State → Done
after_test_on p n line e body k vs m =
    unless_none vs (Goes tt m)
    (then_do (perform_list_on p n body vs m) (λ u. turns_on k (tested_on p n line e) (perform_list_on p n body) vs))

-- behind each test, those for whom it is true are of this kind again
abbrev pub StayActive : List Active → Type 0
StayActive known = (vs : List ℕ) (xs : List Part) → AreActive known vs → map (λ (x : Part). x.member) xs ≡ vs →
    AreActive known (those true xs)
