use Rattle.std.proofs.Common.{◌≡◌, subst, ◌++◌, refl}
use Rattle.text_out.specs.Out.{StopsIn, with_bytes}
use Rattle.text_out.proofs.Progress.{breaks_off, closes, goes_on, starts}
use Rattle.command_text.specs.Grades.{costs_text, counts_text, excess_text, procs_text, rule_text, verdict_text}
use Rattle.command_text.proofs.grading.write_numbers.Goals as goal

pub returns-in_err-write_verdict : goal.returns-in_err-write_verdict
returns-in_err-write_verdict g c =
    let one = verdict_text c.args.pair.now in
    let two = counts_text c.args.pair.now.comparison.score in
    let three = costs_text c.args.pair.now.comparison.score in
    let four = procs_text c.args.pair.now.second.procs in
    let five = excess_text c.args.pair.now in
    let six = rule_text c.args.pair.now in
    record {
      written = breaks_off _ _ _ _ _ one (two ++ (three ++ (four ++ (five ++ six))))
          c.from_residual.result _ c.from_residual.ensures.1 (starts _ _) refl c.in_err-write_verdict.ensures.written;
    }

pub returns-in_err-write_counts : goal.returns-in_err-write_counts
returns-in_err-write_counts g c =
    let one = verdict_text c.args.pair.now in
    let two = counts_text c.args.pair.now.comparison.score in
    let three = costs_text c.args.pair.now.comparison.score in
    let four = procs_text c.args.pair.now.second.procs in
    let five = excess_text c.args.pair.now in
    let six = rule_text c.args.pair.now in
    let after_1 = goes_on _ _ _ _ _ one (two ++ (three ++ (four ++ (five ++ six)))) (starts _ _) refl
    c.in_ok-write_verdict.ensures.written in
    record {
      written = breaks_off _ _ _ _ _ two (three ++ (four ++ (five ++ six)))
          c.from_residual-in_err-write_counts.result _ c.from_residual-in_err-write_counts.ensures.1 after_1 refl c.in_err-write_counts.ensures.written;
    }

pub returns-in_err-write_costs : goal.returns-in_err-write_costs
returns-in_err-write_costs g c =
    let one = verdict_text c.args.pair.now in
    let two = counts_text c.args.pair.now.comparison.score in
    let three = costs_text c.args.pair.now.comparison.score in
    let four = procs_text c.args.pair.now.second.procs in
    let five = excess_text c.args.pair.now in
    let six = rule_text c.args.pair.now in
    let after_1 = goes_on _ _ _ _ _ one (two ++ (three ++ (four ++ (five ++ six)))) (starts _ _) refl
    c.in_ok-write_verdict.ensures.written in
    let after_2 = goes_on _ _ _ _ _ two (three ++ (four ++ (five ++ six))) after_1 refl c.in_ok-write_counts.ensures.written in
    record {
      written = breaks_off _ _ _ _ _ three (four ++ (five ++ six))
          c.from_residual-in_err-write_costs.result _ c.from_residual-in_err-write_costs.ensures.1 after_2 refl c.in_err-write_costs.ensures.written;
    }

pub returns-in_err-write_procs : goal.returns-in_err-write_procs
returns-in_err-write_procs g c =
    let one = verdict_text c.args.pair.now in
    let two = counts_text c.args.pair.now.comparison.score in
    let three = costs_text c.args.pair.now.comparison.score in
    let four = procs_text c.args.pair.now.second.procs in
    let five = excess_text c.args.pair.now in
    let six = rule_text c.args.pair.now in
    let after_1 = goes_on _ _ _ _ _ one (two ++ (three ++ (four ++ (five ++ six)))) (starts _ _) refl
    c.in_ok-write_verdict.ensures.written in
    let after_2 = goes_on _ _ _ _ _ two (three ++ (four ++ (five ++ six))) after_1 refl c.in_ok-write_counts.ensures.written in
    let after_3 = goes_on _ _ _ _ _ three (four ++ (five ++ six)) after_2 refl c.in_ok-write_costs.ensures.written in
    record {
      written = breaks_off _ _ _ _ _ four (five ++ six)
          c.from_residual-in_err-write_procs.result _ c.from_residual-in_err-write_procs.ensures.1 after_3 refl (subst (λ x. StopsIn (g.W.Out.state c.write_costs.new.out) (g.W.Out.state c.write_procs.new.out) (procs_text x)) c.procs.ensures c.in_err-write_procs.ensures.written);
    }

pub returns-in_err-write_excess : goal.returns-in_err-write_excess
returns-in_err-write_excess g c =
    let one = verdict_text c.args.pair.now in
    let two = counts_text c.args.pair.now.comparison.score in
    let three = costs_text c.args.pair.now.comparison.score in
    let four = procs_text c.args.pair.now.second.procs in
    let five = excess_text c.args.pair.now in
    let six = rule_text c.args.pair.now in
    let after_1 = goes_on _ _ _ _ _ one (two ++ (three ++ (four ++ (five ++ six)))) (starts _ _) refl
    c.in_ok-write_verdict.ensures.written in
    let after_2 = goes_on _ _ _ _ _ two (three ++ (four ++ (five ++ six))) after_1 refl c.in_ok-write_counts.ensures.written in
    let after_3 = goes_on _ _ _ _ _ three (four ++ (five ++ six)) after_2 refl c.in_ok-write_costs.ensures.written in
    let after_4 = goes_on _ _ _ _ _ four (five ++ six) after_3 refl (subst (λ x. (g.W.Out.state c.write_procs.new.out) ≡ with_bytes (g.W.Out.state c.write_costs.new.out) (procs_text x)) c.procs.ensures c.in_ok-write_procs.ensures.written) in
    record {
      written = breaks_off _ _ _ _ _ five six
          c.from_residual-in_err-write_excess.result _ c.from_residual-in_err-write_excess.ensures.1 after_4 refl c.in_err-write_excess.ensures.written;
    }

pub returns : goal.returns
returns g c =
    let one = verdict_text c.args.pair.now in
    let two = counts_text c.args.pair.now.comparison.score in
    let three = costs_text c.args.pair.now.comparison.score in
    let four = procs_text c.args.pair.now.second.procs in
    let five = excess_text c.args.pair.now in
    let six = rule_text c.args.pair.now in
    let after_1 = goes_on _ _ _ _ _ one (two ++ (three ++ (four ++ (five ++ six)))) (starts _ _) refl
    c.in_ok-write_verdict.ensures.written in
    let after_2 = goes_on _ _ _ _ _ two (three ++ (four ++ (five ++ six))) after_1 refl c.in_ok-write_counts.ensures.written in
    let after_3 = goes_on _ _ _ _ _ three (four ++ (five ++ six)) after_2 refl c.in_ok-write_costs.ensures.written in
    let after_4 = goes_on _ _ _ _ _ four (five ++ six) after_3 refl (subst (λ x. (g.W.Out.state c.write_procs.new.out) ≡ with_bytes (g.W.Out.state c.write_costs.new.out) (procs_text x)) c.procs.ensures c.in_ok-write_procs.ensures.written) in
    let after_5 = goes_on _ _ _ _ _ five six after_4 refl c.in_ok-write_excess.ensures.written in
    record { written = closes _ _ _ _ _ c.write_rule.result after_5 c.write_rule.ensures.written }
