use Rattle.std.proofs.Common.{rules, ◌≡◌, ◌∙◌, ap, arith, inl, inr, replicate, sym, tests, to_z, of_z, w64}
use Rattle.std.proofs.lemmas.Int.{ints}
use Rattle.command_runs.proofs.Singles.{the_one}
use Rattle.command_runs.proofs.surveying.one_input.Goals as goal
use Rattle.command_runs.proofs.surveying.one_input.Goals.{else-scope-gt0-via-then-scope-gt0+else-least-greatest, else-scope-gt0-via-else-scope-gt0}

pub returns-clause-single : goal.returns-clause-single
returns-clause-single c = λ other is.
    let round : to_z w64 (of_z w64 c.least-2.result) ≡ c.least-2.result = search rules in
    the_one c.args.scope other (elim c.else-scope-gt0.branch [
      | else-scope-gt0-via-then-scope-gt0+else-least-greatest w ↦ (
          let least = w.least.ensures in
          let greatest = w.greatest.ensures in
          let test = w.if-least-greatest.false in
          inr (omega (arith, ints, tests, least, greatest, test))
          )
      | else-scope-gt0-via-else-scope-gt0 w ↦ (let test = w.if-scope-gt0.false in inl (omega (arith, tests, test)))
    ]) is
    ∙ sym (c.in_ok-input.ensures.items_if_clones_equal (λ y same. same) ∙ ap (replicate c.args.scope.values) (round ∙ c.least-2.ensures))
