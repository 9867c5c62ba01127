-- A declaration's cells are cells of the layout.
use Rattle.std.proofs.Common.{◌≡◌, ℕ, zero, suc, ◌+◌, ◌<◌, List, [], ◌∷◌, Bool, true, false, Option, Some, None, ℤ, pos, ◌-ℤ◌, nat_abs}
use Rattle.std.proofs.Common.{int_le, refl, arith}
use Rattle.std.specs.Prelude.{if◌then◌else◌, ◌&&◌}
use Rattle.std.proofs.lemmas.Int.{ints}
use Rattle.pram_model.proofs.Truths.{unsome}
use Rattle.pram_model.specs.Layout.{SharedEntry, width, size, total_size, cell_at, cell_in, cell_from, cell_of}

between : (low high z : ℤ) → int_le low z ≡ true → int_le z high ≡ true → nat_abs (z -ℤ low) < width low high
between low high z above below =
    let ordered : int_le low high ≡ true = grind (arith, ints, above, below) in
    rw ordered (grind (arith, ints, above, below))

found_below : (first : ℕ) (low high z : ℤ) (c : ℕ) → cell_at first low high z ≡ Some c → c < first + width low high
found_below first low high z c h = go (int_le low z) (int_le z high) refl refl h
  where
    go : (a b : Bool) → int_le low z ≡ a → int_le z high ≡ b → (if a && b then Some (first + nat_abs (z -ℤ low)) else None) ≡ Some c →
        c < first + width low high
    go true true above below e =
        let room = between low high z above below in
        let is = unsome (first + nat_abs (z -ℤ low)) c e in
        omega (arith, room, is)
    go true false above below e = absurd (cc)
    go false b above below e = absurd (cc)

found_in : (first : ℕ) (bounds : Option (ℤ × ℤ)) (z : ℤ) (c : ℕ) → cell_in first bounds z ≡ Some c → c < first + size bounds
found_in first None z c h = found_below first (pos 0) (pos 0) z c h
found_in first (Some (low, high)) z c h = found_below first low high z c h

found_from : (first : ℕ) (es : List SharedEntry) (entry : ℕ) (z : ℤ) (c : ℕ) → cell_from first es entry z ≡ Some c →
    c < first + total_size es
found_from first [] entry z c h = absurd (cc)
found_from first (e ∷ es) zero z c h = let below = found_in first e.bounds z c h in omega (arith, below)
found_from first (e ∷ es) (suc entry) z c h = let below = found_from (first + size e.bounds) es entry z c h in omega (arith, below)

pub cell_below : (es : List SharedEntry) (entry : ℕ) (z : ℤ) (c : ℕ) → cell_of es entry z ≡ Some c → c < total_size es
cell_below es entry z c h = let below = found_from 0 es entry z c h in omega (arith, below)
