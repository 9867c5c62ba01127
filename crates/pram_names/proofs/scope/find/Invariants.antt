use Rattle.std.proofs.Common.{◌≡◌, drop}
use Rattle.pram_names.specs.Scope.{meaning_of}
use Rattle.pram_names.specs.ScopeFields.{bound}
use Rattle.pram_names.proofs.scope.find.Given as goal

-- what is left of the chain says what the whole chain says
abbrev pub invariant-loop-binding : goal.invariant-loop-binding
invariant-loop-binding l = meaning_of (bound l.chain) l.name ≡ meaning_of (bound (drop l.binding-index l.chain)) l.name
