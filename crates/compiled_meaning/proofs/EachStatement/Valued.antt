-- Values of whole evaluations have 64 bits, where what the processor sees has.
use Rattle.std.proofs.Common.{ℕ, Ok, Err, Option, Some, None, ℤ, pos, rules}
use Rattle.std.specs.Prelude.{FitsSigned}
use Rattle.std.specs.Int.{w64}
use Rattle.pram_model.specs.Layout.{cell_of}
use Rattle.pram_check.specs.Bounded.{Names, IsNamed, AreNamed}
use Rattle.pram_names.specs.declared.body.Expression.{Expression, Number, Uniform, Index, Local, Cell, Element', Prefix', Chain'}
use Rattle.pram_names.specs.declared.body.Expression.{Row_of-Link, end_of-Link, more_of-Link}
use Rattle.pram_values.specs.Value.{Value}
use Rattle.superstep_machine.specs.Results.{or_zero}
use Rattle.pram_meaning.specs.Operation.{operate, operate_before}
use Rattle.pram_meaning.specs.Store.{View}
use Rattle.pram_meaning.specs.Values.{IsValue}
use Rattle.pram_meaning.proofs.SoundValues.{IsSound, zero_is, number_is, value_at, operate_sound, before_sound}
use Rattle.pram_meaning.proofs.ValuesOfAttempts.{SeesValues}
use Rattle.statement_evaluation.specs.Terms.{Term, Between, term_of, chained}
use Rattle.statement_evaluation.specs.Whole.{value, fetched}

-- a value of 64 bits, as std says it
pub value_fits : (z : ℤ) → IsValue z → FitsSigned w64 z
value_fits z h = let l = h.least in let m = h.most in search rules

sound_or_zero : (v : Value) → IsSound v → IsValue (or_zero v)
sound_or_zero (Ok x) h = h
sound_or_zero (Err k) h = zero_is

module _ (names : Names) (s : View) (sees : SeesValues s) where
  fetched_is : (c : Option ℕ) → IsValue (fetched s c)
  fetched_is None = zero_is
  fetched_is (Some c) = value_at s.cells c sees.cells

  mutual
    pub value_is : (e : Expression) → IsNamed names e → IsValue (value s (term_of e))
    value_is (Number n) h = number_is n h
    value_is (Uniform x) h = value_at s.uniforms x sees.uniforms
    value_is Index h = sees.index
    value_is (Local x) h = value_at s.locals x sees.locals
    value_is (Cell a) h = fetched_is (cell_of s.layout a (pos 0))
    value_is (Element' a b e) h = fetched_is (cell_of s.layout a (value s (term_of e)))
    value_is (Prefix' o b e) h =
        sound_or_zero (operate_before o (value s (term_of e))) (before_sound o (value s (term_of e)))
    value_is (Chain' b e q links) h = chain_is (term_of e) links (value_is e h.0) h.1

    chain_is : (t : Term) {n : _} (links : Row_of-Link n) → IsValue (value s t) → AreNamed names links → IsValue (value s (chained t links))
    chain_is t end_of-Link v h = v
    chain_is t (more_of-Link o e links) v h =
        let w = value_is e h.0 in
        chain_is (Between o t (term_of e)) links
        (sound_or_zero (operate o (value s t) (value s (term_of e))) (operate_sound o (value s t) (value s (term_of e)) w)) h.1
