use Rattle.std.proofs.Common.{◌≡◌, subst, ◌++◌, codes, refl}
use Rattle.text_out.specs.Out.{StopsIn, with_bytes}
use Rattle.text_out.proofs.Progress.{breaks_off, closes, goes_on, starts}
use Rattle.program_texts.specs.Shown.{spaced}
use Rattle.comparing.specs.WhoseText.{whose_text}
use Rattle.command_text.proofs.grading.write_differing.Goals as goal

pub returns-in_err-write_all : goal.returns-in_err-write_all
returns-in_err-write_all g c =
    let one = codes " input" in
    let two = spaced c.args.found.now.input.items in
    let three = codes ": " in
    let four = whose_text c.args.first_name.now c.args.second_name.now c.args.first.now c.args.second.now c.args.found.now.difference in
    record {
      written = breaks_off _ _ _ _ _ one (two ++ (three ++ four))
          c.from_residual.result _ c.from_residual.ensures.1 (starts _ _) refl c.in_err-write_all.ensures.written;
    }

pub returns-in_err-write_values : goal.returns-in_err-write_values
returns-in_err-write_values g c =
    let one = codes " input" in
    let two = spaced c.args.found.now.input.items in
    let three = codes ": " in
    let four = whose_text c.args.first_name.now c.args.second_name.now c.args.first.now c.args.second.now c.args.found.now.difference in
    let after_1 = goes_on _ _ _ _ _ one (two ++ (three ++ four)) (starts _ _) refl c.in_ok-write_all.ensures.written in
    record {
      written = breaks_off _ _ _ _ _ two (three ++ four)
          c.from_residual-in_err-write_values.result _ c.from_residual-in_err-write_values.ensures.1 after_1 refl (subst (λ x. StopsIn (g.W.Out.state c.write_all.new.self) (g.W.Out.state c.write_values.new.out) (spaced x)) c.as_slice.ensures.value c.in_err-write_values.ensures.written);
    }

pub returns-in_err-write_all-2 : goal.returns-in_err-write_all-2
returns-in_err-write_all-2 g c =
    let one = codes " input" in
    let two = spaced c.args.found.now.input.items in
    let three = codes ": " in
    let four = whose_text c.args.first_name.now c.args.second_name.now c.args.first.now c.args.second.now c.args.found.now.difference in
    let after_1 = goes_on _ _ _ _ _ one (two ++ (three ++ four)) (starts _ _) refl c.in_ok-write_all.ensures.written in
    let after_2 = goes_on _ _ _ _ _ two (three ++ four) after_1 refl (subst (λ x. (g.W.Out.state c.write_values.new.out) ≡ with_bytes (g.W.Out.state c.write_all.new.self) (spaced x)) c.as_slice.ensures.value c.in_ok-write_values.ensures.written) in
    record {
      written = breaks_off _ _ _ _ _ three four
          c.from_residual-in_err-write_all-2.result _ c.from_residual-in_err-write_all-2.ensures.1 after_2 refl c.in_err-write_all-2.ensures.written;
    }

pub returns : goal.returns
returns g c =
    let one = codes " input" in
    let two = spaced c.args.found.now.input.items in
    let three = codes ": " in
    let four = whose_text c.args.first_name.now c.args.second_name.now c.args.first.now c.args.second.now c.args.found.now.difference in
    let after_1 = goes_on _ _ _ _ _ one (two ++ (three ++ four)) (starts _ _) refl c.in_ok-write_all.ensures.written in
    let after_2 = goes_on _ _ _ _ _ two (three ++ four) after_1 refl (subst (λ x. (g.W.Out.state c.write_values.new.out) ≡ with_bytes (g.W.Out.state c.write_all.new.self) (spaced x)) c.as_slice.ensures.value c.in_ok-write_values.ensures.written) in
    let after_3 = goes_on _ _ _ _ _ three four after_2 refl c.in_ok-write_all-2.ensures.written in
    record { written = closes _ _ _ _ _ c.write_whose.result after_3 c.write_whose.ensures.written }
