use Rattle.std.proofs.Common.{◌≡◌, drop, map}
use Rattle.pram_model.specs.Names.{is_one_of}
use Rattle.help.specs.InScope.{declared_name}
use Rattle.step_text.proofs.names.is_of_one.Given as goal

abbrev pub invariant-loop-d : goal.invariant-loop-d
invariant-loop-d l =
    is_one_of (map (λ d. (declared_name d).text) (drop l.d-index l.declarations)) l.name
    ≡ is_one_of (map (λ d. (declared_name d).text) l.declarations) l.name
