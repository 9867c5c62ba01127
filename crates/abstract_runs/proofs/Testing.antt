-- Tests that came out one way.
use Rattle.std.proofs.Common.{◌≡◌, ℕ, ℤ, Bool, Option, Some, None, IsSomeAnd, IfSome, refl, subst}
use Rattle.pram_values.specs.Truth.{is_nonzero}
use Rattle.pram_check.specs.Checked.{Checked}
use Rattle.pram_names.specs.declared.body.Expression.{Expression}
use Rattle.pram_meaning.specs.Bounded.{Goes, found, tested}
use Rattle.pram_meaning.specs.Store.{State, seen}
use Rattle.intervals.specs.declared.interval.Interval.{Interval}
use Rattle.intervals.specs.Intervals.{IsIn}
use Rattle.all_inputs.specs.declared.told.Told.{Told}
use Rattle.abstract_runs.specs.declared.decided.Decided.{Decided}
use Rattle.abstract_runs.specs.declared.decided.Decided.TheVariants.{Yes, No, Open}
use Rattle.abstract_runs.specs.declared.standing.Standing.{Standing}
use Rattle.abstract_runs.specs.Covers.{IsAmong}
use Rattle.abstract_runs.specs.Decided.{ComesOut, GoesWith}
use Rattle.abstract_runs.specs.Leads.{Leads}
use Rattle.abstract_runs.specs.Standing.{StandsFor}
use Rattle.abstract_runs.specs.Tests.{IsTested, IsValueOf}
use Rattle.abstract_runs.proofs.Leading.{leads_then, kept_same}

abbrev pub Out : Checked → Expression → Option Decided → Bool → State → Type 0
Out p e found b s = IsTested found (seen p s) e b

pub out_none : (p : Checked) (e : Expression) (found : Option Decided) (b : Bool) (s : State) → found ≡ None → Out p e found b s → ⊥
out_none p e found b s is h = subst (λ f. IsSomeAnd f (λ d. GoesWith d b)) is h.goes

pub out_as : (p : Checked) (e : Expression) (found : Option Decided) (d : Decided) (b : Bool) (s : State) → found ≡ Some d → Out p e found b s →
    GoesWith d b
out_as p e found d b s is h = subst (λ f. IsSomeAnd f (λ d. GoesWith d b)) is h.goes

pub more_of : (found : Option Decided) (d : Decided) (P : Type 0) → found ≡ Some d → IfSome found (λ d. P) → P
more_of found d P is h = subst (λ f. IfSome f (λ d. P)) is h

-- ---- a test, from the value of its expression

goes_out : (d : Decided) (z : ℤ) → ComesOut d z → GoesWith d (is_nonzero z)
goes_out Yes z h = h
goes_out No z h = h
goes_out Open z h = tt

module _ (p : Checked) (n line : ℕ) (e : Expression) (value : Option Interval) (known : Standing) (told : Told) (m : State)
    (leads : Leads (λ v s. (IsAmong value v × IsValueOf (seen p s) e v) × StandsFor known s) told (found p n line e m)) where
  pub tested_leads : (i : Interval) (d : Decided) → value ≡ Some i → ((z : ℤ) → IsIn z i → ComesOut d z) →
      Leads (λ b s. Out p e (Some d) b s × StandsFor known s) told (tested p n line e m)
  tested_leads i d some out =
      leads_then (λ v s. (IsAmong value v × IsValueOf (seen p s) e v) × StandsFor known s) (λ b s. Out p e (Some d) b s × StandsFor known s)
      told told (found p n line e m) (λ v m. Goes (is_nonzero v) m) leads (kept_same told)
      (λ v s g. (
        record {
          goes = goes_out d v (out v (subst (λ f. IsAmong f v) some g.0.0));
          comes = record { value = v; is = g.0.1; goes = refl };
        },
        g.1,
      ))

  pub untested_leads : (Q : Bool → State → Type 0) → value ≡ None → Leads Q told (tested p n line e m)
  untested_leads Q none =
      leads_then (λ v s. (IsAmong value v × IsValueOf (seen p s) e v) × StandsFor known s) Q told told (found p n line e m)
      (λ v m. Goes (is_nonzero v) m) leads (kept_same told) (λ v s g. absurd (subst (λ f. IsAmong f v) none g.0.0))
