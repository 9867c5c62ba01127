use Rattle.std.proofs.Common.{◌≡◌, ◌*◌, ◌%◌, ◌+◌, arith}
use Rattle.std.proofs.lemmas.Nat.{mod_below}
use Rattle.address_map.specs.SpreadLaws.{cells_positive}
use Rattle.address_map.proofs.Inverse.{first_square, first_short, next_square, next_short, last_inverse}
use Rattle.address_map.proofs.affine.inverse_of.Invariants.{Squares}
use Rattle.address_map.proofs.affine.inverse_of.Goals as goal

pub squares-init : goal.squares-init
squares-init c =
    let a = c.args.multiplier in
    let k = c.args.cells in
    let pos = cells_positive k c.args.bits c.requires.power in
    let start : Squares a k 0 (a % k) (1 % k) = record {
      power_of = first_square a k;
      short = first_short a k;
      square_below = mod_below a k pos;
      inverse_below = mod_below 1 k pos;
    } in
    rw (c.from.ensures, c.from-modulus.ensures) start

pub squares-preserved : goal.squares-preserved
squares-preserved c =
    let a = c.args.multiplier in
    let k = c.args.cells in
    let s = c.squares.square in
    let u = c.squares.inverse in
    let pos = cells_positive k c.args.bits c.requires.power in
    let before = c.squares.invariant in
    let after : Squares a k (c.squares.power + 1) ((s * s) % k) ((u * s) % k) = record {
      power_of = next_square a k c.squares.power s before.power_of;
      short = next_short a k s u before.short;
      square_below = mod_below (s * s) k pos;
      inverse_below = mod_below (u * s) k pos;
    } in
    rw (c.from-modulus.ensures) after

pub returns : goal.returns
returns c =
    let last = c.squares.invariant in
    let is : c.squares.power ≡ c.args.bits = (let end = c.squares.auto.power-end in let done = c.squares-test.false in omega arith) in
    last_inverse c.args.multiplier c.args.cells c.args.bits c.squares.square c.squares.inverse c.requires.odd c.requires.power
    (rw (← is) last.power_of) last.short
