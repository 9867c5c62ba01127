use Rattle.std.proofs.Common.{◌≡◌, ◌≤◌, ◌+◌, ◌++◌, length, take, drop}
use Rattle.combining.specs.Answers.{answers}
use Rattle.combining.proofs.answers.answer_words.Given as goal

abbrev pub invariant-loop-ask : goal.invariant-loop-ask
invariant-loop-ask g l =
    let m = g.M.AddressMap.shape l.map in
    record {
      few : l.n + length l.rest ≤ length l.words;
      long : length l.out ≡ length l.fn.out;
      written : take l.n l.out ++ answers m l.part l.values l.rest ≡ answers m l.part l.values l.words;
      rest : drop l.n l.out ≡ drop l.n l.fn.out;
    }

abbrev pub decreases-loop-ask : goal.decreases-loop-ask
decreases-loop-ask g l = length l.rest
