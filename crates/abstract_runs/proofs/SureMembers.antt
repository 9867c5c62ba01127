-- Sets that surely have a member.
use Rattle.std.proofs.Common.{◌≡◌, ◌≢◌, ℕ, zero, suc, List, [], ◌∷◌, true, nat_eq, get_or, length, ◌<◌, arith, refl, sym, ◌∙◌}
use Rattle.std.proofs.lemmas.Bool.{eqb-true}
use Rattle.abstract_runs.specs.declared.active.Active.{Active}
use Rattle.abstract_runs.specs.Rows.{AreActive}
use Rattle.abstract_runs.specs.Rows as rows

pub sure_one : (known : List Active) (k : ℕ) (d : Active) (vs : List ℕ) → k < length known → (get_or known k d).is_sure ≡ true →
    AreActive known vs → vs ≢ []
sure_one [] k d vs below sure active e = absurd (omega (arith, below))
sure_one (a ∷ known) k d (v ∷ vs) below sure (rows.takes active) e = absurd (cc (e))
sure_one (a ∷ known) zero d vs below sure (rows.passes unsure active) e = absurd (cc (sym unsure ∙ sure))
sure_one (a ∷ known) (suc k) d vs below sure (rows.passes unsure active) e = sure_one known k d vs (omega (arith, below)) sure active e

pub none_active : (vs : List ℕ) → AreActive [] vs → vs ≡ []
none_active vs rows.none = refl

pub empty_is : (known : List Active) (n : ℕ) → n ≡ length known → true ≡ nat_eq n 0 → known ≡ []
empty_is [] n e is = refl
empty_is (a ∷ known) n e is = let z = eqb-true n 0 (sym is) in absurd (omega (arith, z, e))
