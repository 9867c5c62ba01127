-- What the common rule has against writers.
use Rattle.std.proofs.Common.{◌≡◌, ℤ, Bool, true, false, List, [], ◌∷◌, Err, if◌then◌else◌}
use Rattle.pram_values.specs.declared.kind.Kind.{Kind}
use Rattle.pram_values.specs.declared.kind.Kind.TheVariants.{WriteConflict}
use Rattle.pram_values.specs.Truth.{is_equal}
use Rattle.write_rules.specs.declared.write.Write.{Write}
use Rattle.write_rules.specs.Rule.{common_value}

-- nothing but that they write different values
pub common_kind : (x : ℤ) (ws : List Write) (k : Kind) → common_value x ws ≡ Err k → k ≡ WriteConflict
common_kind x [] k e = absurd (cc e)
common_kind x (w ∷ ws) k e = by (is_equal x w.value) e (λ d. common_kind x ws k d)
  where
    by : (b : Bool) → (if b then common_value x ws else Err WriteConflict) ≡ Err k → (common_value x ws ≡ Err k → k ≡ WriteConflict) →
        k ≡ WriteConflict
    by true d rest = rest d
    by false d rest = cc d
