use Rattle.std.proofs.Common.{ℕ, List, ◌<◌, ◌+◌, ◌*◌, ◌-◌, ◌∙◌, ap, get_or, length, arith}
use Rattle.run_options.specs.Numbers.{most_number}
use Rattle.run_options.proofs.Digits.{exceeds}
use Rattle.run_options.proofs.number.read_number.Goals as goal

pub returns-then-value-from : goal.returns-then-value-from
returns-then-value-from c =
    let within : c.digits.byte-index < length c.args.word.now =
    (let t = c.digits-test.true in let n = ap length c.as_bytes-byte-items.ensures.value in omega (arith, t, n)) in
    let over : most_number < c.digits.value * 10 + (get_or c.args.word.now c.digits.byte-index 0 - 48) =
    (let most = c.from-in-digits.ensures in
    let digit = c.from.ensures ∙ c.saturating_sub.ensures in
    let same = ap (λ (bytes : List ℕ). get_or bytes c.digits.byte-index 0) c.as_bytes-byte-items.ensures.value in
    let more = c.if-value-from.true in
    omega (arith, most, digit, same, more)) in
    exceeds c.args.word.now c.digits.value c.digits.byte-index within c.digits.invariant.value over
