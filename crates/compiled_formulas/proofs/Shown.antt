-- What a processor's registers show stays where the registers below `base` do.
use Rattle.std.proofs.Common.{◌≡◌, ℕ, ◌+◌, ◌<◌, ◌≤◌, Option, ℤ, ◌∙◌, subst, arith}
use Rattle.std.specs.Prelude.{MatchOption}
use Rattle.superstep_instructions.specs.declared.instr.Side.{Side}
use Rattle.superstep_instructions.specs.declared.instr.Side.TheVariants.{Uniform, Private}
use Rattle.superstep_machine.specs.Parts.{Registers}
use Rattle.pram_check.specs.Bounded.{Names, IsInside, IsLocal}
use Rattle.pram_meaning.specs.Store.{View}
use Rattle.plain_form.specs.Registers.{zero_register, variable, index, local}
use Rattle.plain_form.specs.Formulas.{Formula, Zero, Number, Variable, Index, Local, Read, Before, Between, Pair, reads}
use Rattle.plain_form.specs.Regions.{place}
use Rattle.compiled_formulas.specs.Environments.{IsNamed, IsFree, Shows}

module _ (n : Names) (base : ℕ) where
  zero_below : (side : Side) → IsFree side n base → 0 < base
  zero_below Uniform h = let l = h.1 in omega (arith, l)
  zero_below Private h = let l = h.2 in omega (arith, l)

  variable_below : IsFree Uniform n base → (x : ℕ) → x < n.uniforms → variable x < base
  variable_below h x k = let l = h.1 in omega (arith, l, k)

  index_below : (side : Side) → IsFree side n base → IsInside n → index < base
  index_below Uniform h i = absurd (subst (λ (o : Option ℕ). MatchOption o ⊥ (λ n. Unit {0})) h.0 i)
  index_below Private h i = let l = h.2 in omega (arith, l)

  local_below : (side : Side) → IsFree side n base → (x : ℕ) → IsLocal n x → local x < base
  local_below Uniform h x i = absurd (subst (λ (o : Option ℕ). MatchOption o ⊥ (λ n. x < n)) h.0 i)
  local_below Private h x i =
      let l = h.2 in
      let k : x < h.0 = subst (λ (o : Option ℕ). MatchOption o ⊥ (λ n. x < n)) h.1 i in omega (arith, l, k)

  pub still_shows : (side : Side) → IsFree side n base → (s : View) (uniforms r t : Registers) (memory : ℕ → ℤ) →
      ((x : ℕ) → x < base → t x ≡ r x) → Shows side n s uniforms r memory → Shows side n s uniforms t memory
  still_shows Uniform free s uniforms r t memory same h = record {
    nothing = same zero_register (zero_below Uniform free) ∙ h.nothing;
    variables = λ x k. same (variable x) (variable_below free x k) ∙ h.variables x k;
    indices = λ i. same index (index_below Uniform free i) ∙ h.indices i;
    locals = λ x i. same (local x) (local_below Uniform free x i) ∙ h.locals x i;
    cells = h.cells;
  }
  still_shows Private free s uniforms r t memory same h = record {
    nothing = same zero_register (zero_below Private free) ∙ h.nothing;
    variables = h.variables;
    indices = λ i. same index (index_below Private free i) ∙ h.indices i;
    locals = λ x i. same (local x) (local_below Private free x i) ∙ h.locals x i;
    cells = h.cells;
  }

  -- the register with a formula's value is no further than the stack's first
  pub place_low : (side : Side) → IsFree side n base → (f : Formula) (t b : ℕ) → IsNamed n f → base ≤ t → t + reads f ≤ b →
      place side f t b ≤ b
  place_low side free Zero t b k l m = omega arith
  place_low side free (Number z) t b k l m = omega arith
  place_low Uniform free (Variable x) t b k l m = let v = variable_below free x k in omega (arith, v, l, m)
  place_low Private free (Variable x) t b k l m = omega arith
  place_low side free Index t b k l m = let v = index_below side free k in omega (arith, v, l, m)
  place_low side free (Local x) t b k l m = let v = local_below side free x k in omega (arith, v, l, m)
  place_low side free (Read a f) t b k l m = omega (arith, m)
  place_low side free (Before o f) t b k l m = omega arith
  place_low side free (Between o f g) t b k l m = omega arith
  place_low side free (Pair f g) t b k l m = place_low side free f t b k.0 l (omega (arith, m))
