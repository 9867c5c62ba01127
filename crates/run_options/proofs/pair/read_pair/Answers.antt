use Rattle.std.proofs.Common.{◌≡◌, Some, None, ap, ◌∙◌}
use Rattle.run_options.specs.Numbers.{number_of}
use Rattle.run_options.proofs.Digits.{split_of}
use Rattle.run_options.proofs.pair.read_pair.Goals as goal

pub returns-in_err-first-clause-found : goal.returns-in_err-first-clause-found
returns-in_err-first-clause-found c = λ a b p. absurd (split_of c.args.word.now a b None c.in_err-first.ensures.cases p)

pub returns-in_err-a-clause-found : goal.returns-in_err-a-clause-found
returns-in_err-a-clause-found c = λ a b p.
    let cut = split_of c.args.word.now a b (Some (c.in_ok-first.first, c.in_ok-first.second)) c.in_ok-first.ensures.cases p in
    let e : None ≡ Some a = c.in_err-a.ensures ∙ ap number_of cut.0 ∙ p.first_is in
    absurd (cc e)

pub returns-in_err-b-clause-found : goal.returns-in_err-b-clause-found
returns-in_err-b-clause-found c = λ a b p.
    let cut = split_of c.args.word.now a b (Some (c.in_ok-first.first, c.in_ok-first.second)) c.in_ok-first.ensures.cases p in
    let e : None ≡ Some b = c.in_err-b.ensures ∙ ap number_of cut.1 ∙ p.second_is in
    absurd (cc e)

pub returns-clause-found : goal.returns-clause-found
returns-clause-found c = λ a b p.
    let cut = split_of c.args.word.now a b (Some (c.in_ok-first.first, c.in_ok-first.second)) c.in_ok-first.ensures.cases p in
    let x : Some c.in_ok-a.a ≡ Some a = c.in_ok-a.ensures ∙ ap number_of cut.0 ∙ p.first_is in
    let y : Some c.in_ok-b.b ≡ Some b = c.in_ok-b.ensures ∙ ap number_of cut.1 ∙ p.second_is in
    cc (x, y)
