use Rattle.std.proofs.Common.{◌≡◌, ◌∙◌, ◌+◌, ◌<◌, ◌≤◌, Bool, None, Option, Some, ap, arith, drop, false, length, subst, suc, sym, true, ℕ}
use Rattle.std.specs.List.{find}
use Rattle.std.specs.Option.{option_map}
use Rattle.std.specs.Prelude.{IfSome}
use Rattle.pram_model.specs.Layout.{SharedEntry, size}
use Rattle.comparing.specs.Common.{both, range_of, same_entry}
use Rattle.scopes.specs.Handed.{Placed, placed}
use Rattle.scopes.proofs.Lists.{drop_over, find_behind, find_here, there}
use Rattle.scopes.proofs.Places.{placed_entry, placed_length}
use Rattle.comparing.proofs.common.range_with.Goals as goal

pub returns-then-is_same_entry : goal.returns-then-is_same_entry
returns-then-is_same_entry c = λ p at.
    let l = c.args.first.now in
    let m = c.args.second.now in
    let j = c.loop-j.j in
    let within : j < length m = omega arith in
    let f = (there m j within).0 in
    let f_at = (there m j within).1 in
    let e_at = placed_entry 0 l c.args.i p at in
    let q : Placed = record { entry = f; start = c.start_of-then-is_same_entry.result } in
    let test : Placed → Bool = λ x. same_entry p.entry x.entry in
    let same : test q ≡ true = sym (c.is_same_entry.ensures p.entry f e_at f_at) ∙ c.if-is_same_entry.true in
    let found : find test (placed 0 m) ≡ Some q =
    sym (c.loop-j.invariant p at) ∙ find_here test (placed 0 m) j q (c.start_of-then-is_same_entry.ensures f f_at) same in
    let p_is : (record { entry = p.entry; start = c.start_of.result }) ≡ p =
    let is = sym (c.start_of.ensures p.entry e_at) ∙ at in cc is in
    let start : c.start_of.result ≡ p.start = ap (λ (x : Placed). x.start) p_is in
    let sized : c.size.result ≡ size p.entry.bounds =
    subst (λ (o : Option SharedEntry). IfSome o (λ (x : SharedEntry). c.size.result ≡ size x.bounds)) e_at c.size.ensures in
    (λ i. Some (record { first_start = start i; second_start = c.start_of-then-is_same_entry.result; length = sized i }))
    ∙ ap (λ (o : Option Placed). option_map range_of (option_map (both p) o)) (sym found)

pub loop-j-preserved : goal.loop-j-preserved
loop-j-preserved c = λ p at.
    let m = c.args.second.now in
    let j = c.loop-j.j in
    let within : j < length (placed 0 m) = omega (arith, placed_length 0 m) in
    let q = (there (placed 0 m) j within).0 in
    let q_at = (there (placed 0 m) j within).1 in
    let test : Placed → Bool = λ x. same_entry p.entry x.entry in
    let other : test q ≡ false =
    sym (c.is_same_entry.ensures p.entry q.entry (placed_entry 0 c.args.first.now c.args.i p at) (placed_entry 0 m j q q_at))
    ∙ c.if-is_same_entry.false in
    let up : j + 1 ≡ suc j = omega arith in
    ap (λ (k : ℕ). find test (drop k (placed 0 m))) up ∙ sym (find_behind test (placed 0 m) j q q_at other) ∙ c.loop-j.invariant p at

pub returns : goal.returns
returns c = λ p at.
    let m = c.args.second.now in
    let test : Placed → Bool = λ x. same_entry p.entry x.entry in
    let over : length (placed 0 m) ≤ c.loop-j.j = omega (arith, placed_length 0 m) in
    let none : find test (placed 0 m) ≡ None = sym (c.loop-j.invariant p at) ∙ ap (find test) (drop_over (placed 0 m) c.loop-j.j over) in
    ap (λ (o : Option Placed). option_map range_of (option_map (both p) o)) (sym none)
