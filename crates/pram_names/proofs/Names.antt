-- What a name without subscript says, by what it stands for.
use Rattle.std.proofs.Common.{◌≡◌, ◌+◌, ℕ, List, [], ◌∷◌, Some, None, true, false, refl, sym, ap, ◌∙◌, arith}
use Rattle.std.proofs.lemmas.List.{append-nil}
use Rattle.pram_tokens.specs.declared.token.Name.{Name}
use Rattle.pram_trees.specs.declared.tree.Expr.TheVariants as e
use Rattle.pram_names.specs.declared.body.Expression.{Expression}
use Rattle.pram_names.specs.declared.body.Expression as value
use Rattle.pram_names.specs.declared.scope.Meaning.{Meaning}
use Rattle.pram_names.specs.declared.scope.Meaning.TheVariants as meaning
use Rattle.pram_names.specs.Scope.{Scope, meaning_of}
use Rattle.pram_names.specs.Breaches.{plain, at, use_breaches, use_cause, is_read, ninth, read_count, first}
use Rattle.pram_names.specs.Resolved.{Says}
use Rattle.pram_names.specs.Resolved as says

-- what a name's answer has to be
abbrev pub SaysName : Scope → ℕ → Name → Expression → ℕ → Type 0
SaysName scope n x y m = (first (use_breaches scope n (plain x ∷ [])) ≡ None)
    × (Says scope (e.Name x) y × (m ≡ n + read_count scope (plain x ∷ [])))

module _ (scope : Scope) (n : ℕ) (x : Name) (t : List ℕ) (same : t ≡ x.text) where
  pub stands : {m o : Meaning} → Some o ≡ meaning_of scope t → o ≡ m → meaning_of scope x.text ≡ Some m
  stands h is = sym (h ∙ ap (meaning_of scope) same) ∙ ap Some is

  -- a name that is no shared read
  apart : (m : Meaning) → meaning_of scope x.text ≡ Some m → use_cause (Some m) false ≡ None → is_read (Some m) false ≡ false →
      (first (use_breaches scope n (plain x ∷ [])) ≡ None) × (n ≡ n + read_count scope (plain x ∷ []))
  apart m h fine other = rw h (rw fine (rw other (refl, omega arith)))

  pub says_uniform : (k : ℕ) (o : Meaning) → Some o ≡ meaning_of scope t → o ≡ meaning.Uniform k → SaysName scope n x (value.Uniform k) n
  says_uniform k o h is = let p = apart (meaning.Uniform k) (stands h is) refl refl in (p.0, (says.uniform x k (stands h is), p.1))

  pub says_index : (o : Meaning) → Some o ≡ meaning_of scope t → o ≡ meaning.Index → SaysName scope n x value.Index n
  says_index o h is = let p = apart meaning.Index (stands h is) refl refl in (p.0, (says.index x (stands h is), p.1))

  pub says_local : (k : ℕ) (o : Meaning) → Some o ≡ meaning_of scope t → o ≡ meaning.Local k → SaysName scope n x (value.Local k) n
  says_local k o h is = let p = apart (meaning.Local k) (stands h is) refl refl in (p.0, (says.local x k (stands h is), p.1))

  pub says_cell : (k m : ℕ) (o : Meaning) → Some o ≡ meaning_of scope t → o ≡ meaning.Cell k → first (at x.location (ninth n true)) ≡ None →
      m ≡ n + 1 →
      SaysName scope n x (value.Cell k) m
  says_cell k m o h is room more =
      let found = stands {m = meaning.Cell k} h is in
      (rw found (ap first (append-nil (at x.location (ninth n true))) ∙ room), (says.cell x k found, rw found more))
