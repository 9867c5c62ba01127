-- The set of a frame has as many members as there are active processors.
use Rattle.std.proofs.Common.{◌+◌, List, Bool, sym, ap, ◌∙◌}
use Rattle.std.specs.List.{range_with_len}
use Rattle.pram_values.proofs.Totals.{total_same}
use Rattle.superstep_machine.specs.Steps.{under, is_active}
use Rattle.superstep_machine.specs.Words.{bit}
use Rattle.exchange_words.proofs.Sums.{added, passed}
use Rattle.flat_stretches.specs.Frames.{PresentAreActive}

pub present_are_active : PresentAreActive
present_are_active first base fr f s =
    passed (λ v. is_active (f.own v)) (range_with_len 0 f.uniform.width)
    ∙ ap (λ n. added (λ v. bit (is_active (f.own v))) (range_with_len 0 n)) s.width
    ∙ total_same 0 (λ a b. a + b) (λ v. bit (is_active (f.own v))) (λ v. bit (under (fr.masks v)))
    (λ v. ap (λ (ms : List Bool). bit (under ms)) (s.masks v)) (range_with_len 0 fr.width)
    ∙ sym (passed (λ v. under (fr.masks v)) (range_with_len 0 fr.width))
