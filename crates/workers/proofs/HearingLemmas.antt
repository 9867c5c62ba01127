-- What was heard.
use Rattle.std.proofs.Common.{◌≡◌, subst, Option, Some, None}
use Rattle.std.specs.Prelude.{MatchOption}
use Rattle.turnstile.specs.Runners.{RunnerState}
use Rattle.turnstile.specs.declared.start.told.Told.TheVariants.{Stop, Go}

module _ {T : Type 0} (r : RunnerState T) where
  pub heard_stop : (o : Option T) → MatchOption o (r.heard ≡ Stop) (λ x. r.heard ≡ Go x) → o ≡ None → r.heard ≡ Stop
  heard_stop o h e = subst (λ q. MatchOption q (r.heard ≡ Stop) (λ x. r.heard ≡ Go x)) e h

  pub heard_go : (o : Option T) (x : T) → MatchOption o (r.heard ≡ Stop) (λ y. r.heard ≡ Go y) → o ≡ Some x → r.heard ≡ Go x
  heard_go o x h e = subst (λ q. MatchOption q (r.heard ≡ Stop) (λ y. r.heard ≡ Go y)) e h
