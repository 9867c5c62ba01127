use Rattle.std.proofs.Common.{◌≡◌, drop, length, map}
use Rattle.std.specs.Prelude.{Some}
use Rattle.sized_texts.specs.SizeWords.{digits_value}
use Rattle.sized_texts.specs.Sweeps.{AreListed, parts}
use Rattle.sized_texts.proofs.Sweeps.{IsReadTo}
use Rattle.sized_texts.proofs.size_list.listed.Given as goal

abbrev pub invariant-loop-part : goal.invariant-loop-part
invariant-loop-part l = IsReadTo (AreListed l.text)
    (λ rest. map digits_value (drop (length l.yielded) (parts l.text)) ≡ map Some rest) l.sizes.items
