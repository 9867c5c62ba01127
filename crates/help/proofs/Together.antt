-- Hints, put together.
use Rattle.std.proofs.Common.{◌≡◌, ◌∙◌, ◌∷◌, [], ◌+◌, ◌-◌, ◌<◌, List, ℕ, ap, arith, drop, refl, subst, sym, take, zero, suc}
use Rattle.std.proofs.lemmas.List.{drop-take, take-take}
use Rattle.std.specs.Prelude.{Option, Some, None, Result, Ok, Err, IfOk, length}
use Rattle.std.specs.List.{slice_get}
use Rattle.pram_tokens.specs.Scanning.{Cut}
use Rattle.pram_tokens.specs.Tokens.{AreReal}
use Rattle.pram_tokens.specs.declared.token.Token.{Token}
use Rattle.pram_tokens.proofs.Real.{front_real}
use Rattle.std.proofs.lemmas.List.{take-append-drop}
use Rattle.help.specs.declared.choice.Choice.{Choice}
use Rattle.help.specs.declared.hint.Hint.{Hint}
use Rattle.help.specs.Hints.{IsAmong, IsAt, IsBy}
use Rattle.help.specs.Missing.{IsWhatIsMissing}

pub real_front : (ts : List Token) (n : ℕ) → AreReal ts → AreReal (take n ts)
real_front ts n real = front_real (take n ts) (drop n ts) (subst AreReal (sym (take-append-drop n ts)) real)

-- the tokens before a place, of those that are kept
pub kept_before : (ts kept : List Token) (n : ℕ) → kept ≡ take (n + 8) ts → take n kept ≡ take n ts
kept_before ts kept n is = ap (take n) is ∙ take-take n (n + 8) ts (omega (arith))

-- and those behind it
pub kept_behind : (ts kept : List Token) (n : ℕ) → kept ≡ take (n + 8) ts → drop n kept ≡ take 8 (drop n ts)
kept_behind ts kept n is = ap (drop n) is ∙ drop-take n 8 ts

pub as_kept : (ts kept : List Token) (n : ℕ) (found : List Choice) (k : Option Choice) → kept ≡ take (n + 8) ts →
    IsWhatIsMissing (take n kept) (drop n kept) found k → IsWhatIsMissing (take n ts) (take 8 (drop n ts)) found k
as_kept ts kept n found k is missing =
    subst (λ (front : List Token). IsWhatIsMissing front (take 8 (drop n ts)) found k) (kept_before ts kept n is)
    (subst (λ (rest : List Token). IsWhatIsMissing (take n kept) rest found k) (kept_behind ts kept n is) missing)

nothing_there : (ts : List Token) (i : ℕ) → i < length ts → slice_get ts i ≡ None → ⊥
nothing_there (t ∷ ts) zero below is = cc
nothing_there (t ∷ ts) (suc i) below is = nothing_there ts i (omega (arith, below)) is
nothing_there [] i below is = omega (arith, below)

-- what is said at a token
pub by_tokens : {E : Type 0} (c : Cut) (n : ℕ) (found : List Choice) (r : Result Hint E) → 0 < n → n < length c.tokens →
    IfOk r (λ hint. (b t : Token) → slice_get c.tokens (n - 1) ≡ Some b → slice_get c.tokens n ≡ Some t → IsAmong c n b t found hint) →
    IfOk r (IsBy c found n)
by_tokens c n found (Err e) some inside h = tt
by_tokens c zero found (Ok hint) some inside h = absurd (omega (arith, some))
by_tokens c (suc n) found (Ok hint) some inside h = at (slice_get c.tokens n) (slice_get c.tokens (suc n)) refl refl
  where
    at : (b t : Option Token) → slice_get c.tokens n ≡ b → slice_get c.tokens (suc n) ≡ t → IsAt c (suc n) found b t hint
    at (Some b) (Some t) is_b is_t = h b t (subst (λ (m : ℕ). slice_get c.tokens m ≡ Some b) (omega (arith)) is_b) is_t
    at None t is_b is_t = absurd (nothing_there c.tokens n (omega (arith, inside)) is_b)
    at (Some b) None is_b is_t = absurd (nothing_there c.tokens (suc n) inside is_t)
