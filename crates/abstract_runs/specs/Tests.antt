-- What expressions and tests come to before a statement.
use Rattle.std.specs.Prelude.{◌≡◌, ℤ, List, pos, Bool, Ok, Option, IsSomeAnd, slice_index_or}
use Rattle.pram_tokens.specs.declared.token.Binary.{Binary}
use Rattle.pram_values.specs.Truth.{is_nonzero}
use Rattle.pram_names.specs.declared.body.Expression.{Expression}
use Rattle.pram_meaning.specs.Attempt.{Trail, Gives, attempt}
use Rattle.pram_meaning.specs.Operation.{operate}
use Rattle.pram_meaning.specs.Store.{View}
use Rattle.abstract_runs.specs.declared.decided.Decided.{Decided}
use Rattle.abstract_runs.specs.declared.slot.Slot.{Slot}
use Rattle.abstract_runs.specs.declared.slot.Slot.TheVariants.{Uniform, Cell}
use Rattle.abstract_runs.specs.Decided.{GoesWith}

-- the expression gives this number, behind some trail
pub record IsValueOf (s : View) (e : Expression) (z : ℤ) : Type 0 where
  pub from : Trail
  pub behind : Trail
  pub gives : attempt s e from ≡ Gives behind z

-- it gives a number that is true, or one that is false
pub record ComesTo (s : View) (e : Expression) (way : Bool) : Type 0 where
  pub value : ℤ
  pub is : IsValueOf s e value
  pub goes : is_nonzero value ≡ way

-- a test that was decided so goes that way
pub record IsTested (found : Option Decided) (s : View) (e : Expression) (way : Bool) : Type 0 where
  pub goes : IsSomeAnd found (λ d. GoesWith d way)
  pub comes : ComesTo s e way

-- where the operator's result goes that way, so do both operands
abbrev pub Splits : Binary → Bool → Type 0
Splits operator way =
    (x y z : ℤ) → operate operator x y ≡ Ok z → is_nonzero z ≡ way → (is_nonzero x ≡ way) × (is_nonzero y ≡ way)

-- the value in a slot, by the uniform variables and the cells
abbrev pub value_at : Slot → (uniforms cells : List ℤ) → ℤ
value_at (Uniform x) uniforms cells = slice_index_or uniforms x (pos 0)
value_at (Cell c) uniforms cells = slice_index_or cells c (pos 0)
