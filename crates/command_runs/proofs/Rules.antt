-- A program under another rule has the same declarations.
use Rattle.std.proofs.Common.{◌≡◌, Option, Some, None, refl}
use Rattle.pram_model.specs.declared.rule.Rule.{Rule}
use Rattle.pram_check.specs.Checked.{Checked}
use Rattle.scopes.specs.Specified.{most_values}
use Rattle.command_requests.specs.declared.scope_words.ExploredInputs.{ExploredInputs}
use Rattle.command_requests.specs.declared.scope_words.ExploredInputs.TheVariants as inputs
use Rattle.command_runs.specs.Scopes.{under_rule, values_each}

pub same_layout : (rule : Option Rule) (p : Checked) → (under_rule rule p).layout ≡ p.layout
same_layout None p = refl
same_layout (Some rule) p = refl

-- and as many cells for the values of an input
pub same_values : (rule : Option Rule) (pre : Option Checked) (p : Checked) → most_values pre (under_rule rule p) ≡ most_values pre p
same_values None pre p = refl
same_values (Some rule) None p = refl
same_values (Some rule) (Some q) p = refl

-- and as many that are drawn
pub same_each : (rule : Option Rule) (is : ExploredInputs) (p : Checked) → values_each is (under_rule rule p) ≡ values_each is p
same_each None is p = refl
same_each (Some rule) (inputs.Scope few shrink) p = refl
same_each (Some rule) (inputs.Drawn d) p = refl
same_each (Some rule) (inputs.OfKind w) p = refl
