-- There is one hint for a place.
use Rattle.std.proofs.Common.{◌≡◌, ◌∙◌, List, ℕ, zero, suc, drop, refl, sym, take}
use Rattle.std.specs.Prelude.{Option, Some, None, Result, Ok, Err}
use Rattle.std.specs.List.{slice_get}
use Rattle.pram_tokens.specs.Scanning.{Cut, cut_of}
use Rattle.pram_tokens.specs.declared.token.Token.{Token}
use Rattle.help.specs.declared.choice.Choice.{Choice}
use Rattle.help.specs.declared.hint.Hint.{Hint}
use Rattle.help.specs.declared.hint.Hint.TheVariants.{Nothing, Missing}
use Rattle.help.specs.Hints.{IsAt, IsBy, IsHint, IsHintOf, IsKnownOr, IsMissingHint, before, known}
use Rattle.help.proofs.Farthest.{one_missing}

module _ (c : Cut) (found : List Choice) where
  -- of what is missing
  both_missing : (n : ℕ) (a b : Hint) → IsMissingHint c n found a → IsMissingHint c n found b → a ≡ b
  both_missing n Nothing Nothing h g = refl
  both_missing n Nothing (Missing k i) h g = absurd (h k g.0)
  both_missing n Nothing b h g = absurd g
  both_missing n (Missing k i) Nothing h g = absurd (g k h.0)
  both_missing n (Missing k i) (Missing l j) h g =
      let same = one_missing (take n c.tokens) (take 8 (drop n c.tokens)) found k l h.0 g.0 in
      let there = h.1 ∙ sym g.1 in cc (same, there)
  both_missing n (Missing k i) b h g = absurd g
  both_missing n a b h g = absurd h

  both_known : (n : ℕ) (a b : Hint) (h : Option Hint) → IsKnownOr c n found a h → IsKnownOr c n found b h → a ≡ b
  both_known n a b None p q = both_missing n a b p q
  both_known n a b (Some h) p q = p ∙ sym q

  both_at : (n : ℕ) (a b : Hint) (x y : Option Token) → IsAt c n found x y a → IsAt c n found x y b → a ≡ b
  both_at n a b None y p q = p ∙ sym q
  both_at n a b (Some x) None p q = p ∙ sym q
  both_at n a b (Some x) (Some y) p q = both_known n a b (known x y found _ _) p q

  both_by : (n : ℕ) (a b : Hint) → IsBy c found n a → IsBy c found n b → a ≡ b
  both_by zero a b p q = p ∙ sym q
  both_by (suc n) a b p q = both_at (suc n) a b (slice_get c.tokens n) (slice_get c.tokens (suc n)) p q

both_of : (r : Result Cut ℕ) (at : ℕ) (found : List Choice) (a b : Hint) → IsHintOf r at found a → IsHintOf r at found b → a ≡ b
both_of (Ok c) at found a b p q = both_by c found (before at c.offsets) a b p q
both_of (Err bad) at found a b p q = p ∙ sym q

pub one_hint : (text : List ℕ) (at : ℕ) (found : List Choice) (a b : Hint) → IsHint text at found a → IsHint text at found b → a ≡ b
one_hint text at found a b p q = both_of (cut_of text) at found a b p q
