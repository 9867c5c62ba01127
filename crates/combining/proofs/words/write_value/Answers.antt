use Rattle.std.proofs.Common.{rules, ◌≡◌, ap, ◌∙◌, w64, to_z, of_z, FitsSigned}
use Rattle.std.specs.Int.{w128}
use Rattle.std.proofs.lemmas.Int.{to_z-of_z}
use Rattle.combining.proofs.Packing.{take_three}
use Rattle.combining.proofs.words.write_value.Goals as goal

pub returns-clause-done : goal.returns-clause-done
returns-clause-done c =
    let e = c.args.entry in
    let f : FitsSigned w64 e.owner = search rules in
    let k : FitsSigned w128 e.value = search rules in
    let o : c.cast_unsigned.result ≡ of_z w64 e.owner = c.cast_unsigned.ensures ∙ ap (of_z w64) (to_z-of_z w64 e.owner f) in
    let v : c.cast_unsigned-2.result ≡ of_z w64 e.value = c.cast_unsigned-2.ensures
    ∙ ap (λ z. of_z w64 (to_z w64 (of_z w64 z))) (to_z-of_z w128 e.value k) ∙ ap (of_z w64) (to_z-of_z w64 e.value c.requires.fits) in
    rw (c.first_word.ensures, o, v) (take_three c.args.out.now c.args.n _ _ _ c.requires.room)
