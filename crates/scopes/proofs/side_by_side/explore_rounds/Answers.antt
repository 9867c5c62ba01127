use Rattle.std.proofs.Common.{◌∙◌, ◌+◌, ◌*◌, ap, sym, refl, take, drop}
use Rattle.scopes.specs.Scopes.{inputs_of}
use Rattle.scopes.specs.Found.{found, found_is}
use Rattle.scopes.proofs.Blocks.{one_more}
use Rattle.scopes.proofs.side_by_side.explore_rounds.Goals as goal

pub rounds-preserved : goal.rounds-preserved
rounds-preserved g c =
    let done = c.rounds.round * (c.from.result * c.args.size) in
    let told = c.in_ok-found.ensures.found
    ∙ ap (λ n. found c.args.specification.now c.args.program.now c.args.bound (take n (drop done (inputs_of c.args.scope))))
    (sym c.rounds.invariant.step) in
    record {
      so_far = one_more c.args.specification.now c.args.program.now c.args.bound (inputs_of c.args.scope) c.rounds.round
          (c.rounds.round + 1)
          (c.from.result * c.args.size)
          (found_is c.rounds.all) (found_is c.in_ok-found.found) (found_is c.append.new.self) c.rounds.invariant.so_far told
          c.in_ok-append.ensures refl;
      step = c.rounds.invariant.step;
    }
