-- More digits make no smaller number.
use Rattle.std.proofs.Common.{◌≡◌, ℕ, suc, ◌+◌, ◌-◌, ◌*◌, ◌/◌, ◌<◌, ◌≤◌, List, [], ◌∷◌, drop, length, get_or, arith, drop-cons}
use Rattle.pram_tokens.specs.Lexemes.{value_after}

pub value_grows : (n : ℕ) (bs : List ℕ) → n ≤ value_after n bs
value_grows n [] = omega arith
value_grows n (b ∷ bs) = omega (arith, value_grows (n * 10 + (b - 48)) bs)

pub exceeds : (n i most : ℕ) (ds : List ℕ) → i < length ds → (most - (get_or ds i 0 - 48)) / 10 < n → most < value_after n (drop i ds)
exceeds n i most ds within over =
    let cons : drop i ds ≡ get_or ds i 0 ∷ drop (suc i) ds = drop-cons ds i 0 within in
    rw cons (let b = get_or ds i 0 in let grows = value_grows (n * 10 + (b - 48)) (drop (suc i) ds) in omega arith)
