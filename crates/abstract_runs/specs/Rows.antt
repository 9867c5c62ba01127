-- What is known of the processors that take part in a statement.
use Rattle.std.specs.Prelude.{◌≡◌, ℕ, List, [], ◌∷◌, false}
use Rattle.pram_meaning.specs.Conflict.{Part}
use Rattle.abstract_runs.specs.declared.active.Active.{Active}
use Rattle.abstract_runs.specs.declared.findings.Findings.{Findings}
use Rattle.abstract_runs.specs.declared.row.Row.{Row}
use Rattle.abstract_runs.specs.Effects.{IsGivenBy}
use Rattle.abstract_runs.specs.Tried.{IsTried}

-- the members of a set: each that is surely active, and of the others some
pub data AreActive : List Active → List ℕ → Type 0 where
  none : AreActive [] []
  takes : {a : Active} {known : List Active} {vs : List ℕ} → AreActive known vs → AreActive (a ∷ known) (a.member ∷ vs)
  passes : {a : Active} {known : List Active} {vs : List ℕ} → a.is_sure ≡ false → AreActive known vs → AreActive (a ∷ known) vs

-- a processor's part, of which this is known; it fails only by faults that may come
pub record IsPartBy (faults : Findings) (row : Row) (x : Part) : Type 0 where
  pub member : x.member ≡ row.member
  pub processor : x.processor ≡ row.processor
  pub tried : IsTried (IsGivenBy row.effect) row.trail.items faults x.attempt

-- the parts of a set: of each that surely takes part, and of the others some
pub data ArePartsBy (faults : Findings) : List Row → List Part → Type 0 where
  none : ArePartsBy faults [] []
  takes : {row : Row} {rows : List Row} {x : Part} {xs : List Part} → IsPartBy faults row x → ArePartsBy faults rows xs →
      ArePartsBy faults (row ∷ rows) (x ∷ xs)
  passes : {row : Row} {rows : List Row} {xs : List Part} → row.is_sure ≡ false → ArePartsBy faults rows xs →
      ArePartsBy faults (row ∷ rows) xs
