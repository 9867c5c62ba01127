-- Formulas of a program within bounds: their reads are of its declarations, and at most eight.
use Rattle.std.proofs.Common.{◌≡◌, ℕ, zero, suc, ◌+◌, ◌<◌, ◌≤◌, List, [], ◌∷◌, length, arith}
use Rattle.std.specs.Prelude.{Option, slice_get, MatchOption}
use Rattle.superstep_instructions.specs.Code.{SuperstepCode}
use Rattle.pram_names.specs.declared.body.Expression as body
use Rattle.pram_names.specs.declared.body.Expression.{Expression, Element', Prefix', Chain', Row_of-Link, end_of-Link, more_of-Link}
use Rattle.pram_check.specs.Bounded.{Names, IsSingleCell, IsArray, IsNamed, AreNamed, IsSole, ArePair}
use Rattle.plain_form.specs.Formulas.{Formula, Zero, Between, Pair, formula_of, chained, reads}
use Rattle.plain_form.proofs.KeptReads.{reads_of}
use Rattle.verified_form.proofs.FormulaFits.{IsWithin}
use Rattle.verified_form.proofs.ShapeFits.{IsReady}

-- what can be named, by the declarations of the code
abbrev pub scope : SuperstepCode → (uniforms : ℕ) → (locals : Option ℕ) → Names
scope code uniforms locals = record { layout = code.layout; uniforms = uniforms; locals = locals }

-- what is declared is in the layout
got_below : {A : Type 0} (xs : List A) (k : ℕ) (P : A → Type 0) → MatchOption (slice_get xs k) ⊥ P → k < length xs
got_below [] k P h = absurd h
got_below (x ∷ xs) zero P h = omega arith
got_below (x ∷ xs) (suc k) P h = let l : k < length xs = got_below xs k P h in omega (arith, l)

pub single_below : (s : Names) (a : ℕ) → IsSingleCell s a → a < length s.layout
single_below s a h = got_below s.layout a (λ e. e.bounds ≡ _) h

pub array_below : (s : Names) (a : ℕ) → IsArray s a → a < length s.layout
array_below s a h = got_below s.layout a (λ e. (b : _) × (e.bounds ≡ _)) h

mutual
  pub within : (s : Names) (e : Expression) → IsNamed s e → IsWithin (length s.layout) (formula_of e)
  within s (body.Number n) h = tt
  within s (body.Uniform x) h = tt
  within s body.Index h = tt
  within s (body.Local x) h = tt
  within s (body.Cell a) h = (single_below s a h, tt)
  within s (Element' a b e) h = (array_below s a h.0, within s e h.1)
  within s (Prefix' o b e) h = within s e h
  within s (Chain' b e q links) h = within_chain s (formula_of e) links (within s e h.0) h.1

  within_chain : (s : Names) (f : Formula) {n : _} (links : Row_of-Link n) → IsWithin (length s.layout) f → AreNamed s links →
      IsWithin (length s.layout) (chained f links)
  within_chain s f end_of-Link h k = h
  within_chain s f (more_of-Link o e links) h k = within_chain s (Between o f (formula_of e)) links (h, within s e k.0) k.1

pub sole_ready : (s : Names) (e : Expression) → IsSole s e → IsReady (length s.layout) (formula_of e)
sole_ready s e h = record {
  within = within s e h.0;
  few = (let r = reads_of e in let m = h.1 in let k : reads (formula_of e) ≤ 8 = omega (arith, r, m) in k);
}

-- behind the subscript of a single cell
pub cell_ready : (s : Names) (e : Expression) → IsSole s e → IsReady (length s.layout) (Pair Zero (formula_of e))
cell_ready s e h = record {
  within = (tt, within s e h.0);
  few = (let r = reads_of e in let m = h.1 in let k : 0 + reads (formula_of e) ≤ 8 = omega (arith, r, m) in k);
}

pub pair_ready : (s : Names) (e f : Expression) → ArePair s e f → IsReady (length s.layout) (Pair (formula_of e) (formula_of f))
pair_ready s e f h = record {
  within = (within s e h.0, within s f h.1);
  few = (let a = reads_of e in let b = reads_of f in let m = h.2 in
      let k : reads (formula_of e) + reads (formula_of f) ≤ 8 = omega (arith, a, b, m) in k);
}
