use Rattle.std.proofs.Common.{◌++◌, ◌∙◌, List, ℕ, ap, codes, refl, subst}
use Rattle.text_out.specs.Out.{StopsIn, with_bytes}
use Rattle.text_out.proofs.Progress.{breaks_off, closes, goes_on, starts}
use Rattle.command_requests.specs.Sentences.{advice}
use Rattle.text_places.specs.Escaped.{escaped}
use Rattle.command_requests.proofs.sentence.write_value_sentence.Goals as goal

pub returns-in_err-write_all : goal.returns-in_err-write_all
returns-in_err-write_all g c =
    let part1 = codes "invalid `" in
    let part2 = escaped c.args.word.now in
    let part3 = advice c.args.given c.args.word.now in
    record {
      written = breaks_off _ _ _ _ _ part1 (part2 ++ part3) c.from_residual.result _ c.from_residual.ensures.1 (starts _ _) refl
          c.in_err-write_all.ensures.written;
    }

pub returns-in_err-write_escaped : goal.returns-in_err-write_escaped
returns-in_err-write_escaped g c =
    let part1 = codes "invalid `" in
    let part2 = escaped c.args.word.now in
    let part3 = advice c.args.given c.args.word.now in
    let after1 = goes_on _ _ _ _ _ part1 (part2 ++ part3) (starts _ _) refl c.in_ok-write_all.ensures.written in
    let told = subst (λ (b : List ℕ). StopsIn (g.W.Out.state c.write_all.new.self) (g.W.Out.state c.write_escaped.new.out) (escaped b))
    c.as_bytes.ensures.value c.in_err-write_escaped.ensures.written in
    record {
      written = breaks_off _ _ _ _ _ part2 part3 c.from_residual-in_err-write_escaped.result _
          c.from_residual-in_err-write_escaped.ensures.1 after1 refl told;
    }

pub returns : goal.returns
returns g c =
    let part1 = codes "invalid `" in
    let part2 = escaped c.args.word.now in
    let part3 = advice c.args.given c.args.word.now in
    let after1 = goes_on _ _ _ _ _ part1 (part2 ++ part3) (starts _ _) refl c.in_ok-write_all.ensures.written in
    let told = c.in_ok-write_escaped.ensures.written
    ∙ ap (λ b. with_bytes (g.W.Out.state c.write_all.new.self) (escaped b)) c.as_bytes.ensures.value in
    let after2 = goes_on _ _ _ _ _ part2 part3 after1 refl told in
    record {
      written = closes _ _ _ _ _ c.write_advice.result after2 c.write_advice.ensures.written;
    }
