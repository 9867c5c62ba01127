-- Instructions on the uniform part alone: processors stay as they were, and note nothing.
use Rattle.std.proofs.Common.{◌≡◌, ℕ, Bool, true, false, Option, None, refl, ap, ◌∙◌}
use Rattle.std.specs.Prelude.{if◌then◌else◌}
use Rattle.pram_values.proofs.Totals.{total_none}
use Rattle.superstep_instructions.specs.declared.instr.Instr.{Instr}
use Rattle.superstep_instructions.specs.Code.{SuperstepCode}
use Rattle.superstep_machine.specs.declared.key.Key.{Key}
use Rattle.superstep_machine.specs.Keys.{least}
use Rattle.superstep_machine.specs.Parts.{PrivatePart}
use Rattle.superstep_machine.specs.Steps.{uniform_key, own_key}
use Rattle.superstep_machine.proofs.KeyOrder.{keys_are_monoid, none_least}
use Rattle.flat_machine.specs.Flat.{Flat, range, noted}
use Rattle.flat_stretches.specs.Applied.{AsksNone}

pub nothing_either : (b : Bool) → (let none : Option Key = None in if b then none else None) ≡ None
nothing_either true = refl
nothing_either false = refl

-- a state whose reads and processors are those of a state at rest
pub rests_behind : (f g : Flat) → g.uniform.asks ≡ f.uniform.asks → g.uniform.awaited ≡ f.uniform.awaited →
    ((v : ℕ) → g.own v ≡ f.own v) → AsksNone f → AsksNone g
rests_behind f g a w o n = record {
  asks = a ∙ n.asks;
  awaited = w ∙ n.awaited;
  own_asks = λ v. ap (λ (x : PrivatePart). x.asks) (o v) ∙ n.own_asks v;
  own_awaited = λ v. ap (λ (x : PrivatePart). x.awaited) (o v) ∙ n.own_awaited v;
}

-- what is noted is what the uniform part notes
pub noted_alone : (code : SuperstepCode) (i : Instr) (f : Flat) → ((v : ℕ) → own_key code i f.uniform v (f.own v) ≡ None) →
    noted code i f ≡ uniform_key code i f.uniform
noted_alone code i f none =
    ap (least (uniform_key code i f.uniform))
    (total_none None least keys_are_monoid (λ v. own_key code i f.uniform v (f.own v)) none (range f))
    ∙ none_least (uniform_key code i f.uniform)
