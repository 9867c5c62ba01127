use Rattle.std.proofs.Common.{◌≡◌, ◌∙◌, ℕ, List, ap, subst, ◌++◌, codes, refl}
use Rattle.text_out.specs.Out.{StopsIn, with_bytes}
use Rattle.pram_model.specs.Layout.{SharedEntry}
use Rattle.text_out.proofs.Progress.{breaks_off, closes, goes_on, starts}
use Rattle.std.proofs.Common.{map}
use Rattle.comparing.specs.Found.{differing_is}
use Rattle.comparing.specs.declared.comparison.FoundDifference.{FoundDifference}
use Rattle.command_text.specs.Grades.{first_text, numbers_text}
use Rattle.command_text.proofs.grading.write_graded.Goals as goal

-- the text of the layouts and differences as they are handed on
handed : (f s : List ℕ) (a b x y : List SharedEntry) (ds es : List FoundDifference) → a ≡ x → b ≡ y → ds ≡ es →
    first_text f s a b (map differing_is ds) ≡ first_text f s x y (map differing_is es)
handed f s a b x y ds es p q r =
    ap (λ l. first_text f s l b (map differing_is ds)) p ∙ ap (λ l. first_text f s x l (map differing_is ds)) q
    ∙ ap (λ l. first_text f s x y (map differing_is l)) r

pub returns-in_err-write_numbers : goal.returns-in_err-write_numbers
returns-in_err-write_numbers g c =
    let one = numbers_text c.args.pair.now in
    let two = first_text c.args.first_name.now c.args.second_name.now c.args.pair.now.first.layout c.args.pair.now.second.layout
    (map differing_is c.args.pair.now.comparison.told.items) in
    let three = codes "\n" in
    record {
      written = breaks_off _ _ _ _ _ one (two ++ three)
          c.from_residual.result _ c.from_residual.ensures.1 (starts _ _) refl c.in_err-write_numbers.ensures.written;
    }

pub returns-in_err-write_first : goal.returns-in_err-write_first
returns-in_err-write_first g c =
    let one = numbers_text c.args.pair.now in
    let two = first_text c.args.first_name.now c.args.second_name.now c.args.pair.now.first.layout c.args.pair.now.second.layout
    (map differing_is c.args.pair.now.comparison.told.items) in
    let three = codes "\n" in
    let after_1 = goes_on _ _ _ _ _ one (two ++ three) (starts _ _) refl c.in_ok-write_numbers.ensures.written in
    record {
      written = breaks_off _ _ _ _ _ two three
          c.from_residual-in_err-write_first.result _ c.from_residual-in_err-write_first.ensures.1 after_1 refl (subst (StopsIn (g.W.Out.state c.write_numbers.new.out) (g.W.Out.state c.write_first.new.out)) (handed c.args.first_name.now c.args.second_name.now _ _ _ _ _ _ c.layout-first.ensures c.layout-second.ensures c.deref.ensures.value) c.in_err-write_first.ensures.written);
    }

pub returns : goal.returns
returns g c =
    let one = numbers_text c.args.pair.now in
    let two = first_text c.args.first_name.now c.args.second_name.now c.args.pair.now.first.layout c.args.pair.now.second.layout
    (map differing_is c.args.pair.now.comparison.told.items) in
    let three = codes "\n" in
    let after_1 = goes_on _ _ _ _ _ one (two ++ three) (starts _ _) refl c.in_ok-write_numbers.ensures.written in
    let after_2 = goes_on _ _ _ _ _ two three after_1 refl (subst (λ x. (g.W.Out.state c.write_first.new.out) ≡ with_bytes (g.W.Out.state c.write_numbers.new.out) x) (handed c.args.first_name.now c.args.second_name.now _ _ _ _ _ _ c.layout-first.ensures c.layout-second.ensures c.deref.ensures.value) c.in_ok-write_first.ensures.written) in
    record { written = closes _ _ _ _ _ c.write_all.result after_2 c.write_all.ensures.written }
