use Rattle.std.proofs.Common.{MatchOption, ◌≡◌, [], ◌∷◌, take}
use Rattle.std.specs.Prelude.{is_some}
use Rattle.std.specs.List.{filter}
use Rattle.all_inputs.specs.Faulting.{all_kinds, reason_for}
use Rattle.all_inputs.proofs.faults.Faults.only_kind.Given as goal

abbrev pub invariant-loop-kind : goal.invariant-loop-kind
invariant-loop-kind l =
    let before = filter (λ kind. is_some (reason_for kind l.self)) (take l.kind-index all_kinds) in
    MatchOption l.only (before ≡ []) (λ kind. before ≡ kind ∷ [])
