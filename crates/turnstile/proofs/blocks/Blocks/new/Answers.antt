use Rattle.std.proofs.Common.{ℕ, ◌≡◌, ◌+◌, ◌*◌, ◌≤◌, ◌∙◌, [], map, Some, List, Option, ap, sym, length, append-nil, arith, deque_capacity}
use Rattle.exchange_arena.specs.Block.{pieces_of}
use Rattle.turnstile.proofs.Halves.{twice_fits, pieces_count}
use Rattle.turnstile.proofs.blocks.Blocks.new.Goals as goal

pub new-requires-2-clause-fits : goal.new-requires-2-clause-fits
new-requires-2-clause-fits c =
    let s : ℕ = c.args.side in let b = c.in_ok-odd.odd in let made = c.in_ok-odd.ensures in
    let items = made.slots ∙ (λ q. Rattle.std.proofs.Common.◌++◌ (map Some (pieces_of b)) (c.in_ok-slots.ensures.items q))
    ∙ append-nil (map Some (pieces_of b)) in
    let count : length c.new.new.slots.items ≡ s * s = ap length items ∙ pieces_count b ∙ ap (λ (n : ℕ). n * n) made.shape.0 in
    let all = twice_fits s in let a = c.in_ok-slots.ensures.capacity in let d : ℕ = 2 * s * s in let m : ℕ = s * s in let all' : m + m ≡ d =
    all in
    let n : ℕ = length c.new.new.slots.items in let count' : n ≡ m = count in let cap : ℕ = deque_capacity c.new.new.slots in
    let a' : d ≤ cap = (let e = made.capacity in omega arith) in omega arith
