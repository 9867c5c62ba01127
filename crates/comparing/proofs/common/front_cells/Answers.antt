use Rattle.std.proofs.Common.{◌≡◌, ◌<◌, ◌+◌, ◌∙◌, ℕ, false, true, ap, arith, drop, inl, inr, length, sym, take}
use Rattle.std.proofs.lemmas.Bool.{cases_lt}
use Rattle.pram_model.specs.Layout.{total_size}
use Rattle.comparing.specs.Common.{front_cells, same_entry}
use Rattle.comparing.proofs.Fronts.{front_ends, front_grows, front_over_first, front_over_second}
use Rattle.scopes.proofs.Lists.{there}
use Rattle.comparing.proofs.common.front_cells.Goals as goal

pub returns-then-not-is_same_entry : goal.returns-then-not-is_same_entry
returns-then-not-is_same_entry c =
    let l = c.args.first.now in
    let m = c.args.second.now in
    let i = c.loop-i.i in
    let first : i < length l = omega arith in
    let second : i < length m = omega arith in
    let e = there l i first in
    let f = there m i second in
    let other : same_entry e.0 f.0 ≡ false =
    sym (c.is_same_entry.ensures e.0 f.0 e.1 f.1) ∙ c.if-not-is_same_entry.true in
    c.first_cells.ensures ∙ sym (front_ends l m i e.0 f.0 e.1 f.1 other) ∙ sym c.loop-i.invariant

pub loop-i-preserved : goal.loop-i-preserved
loop-i-preserved c =
    let l = c.args.first.now in
    let m = c.args.second.now in
    let i = c.loop-i.i in
    let first : i < length l = omega arith in
    let second : i < length m = omega arith in
    let e = there l i first in
    let f = there m i second in
    let same : same_entry e.0 f.0 ≡ true =
    sym (c.is_same_entry.ensures e.0 f.0 e.1 f.1) ∙ c.if-not-is_same_entry.false in
    c.loop-i.invariant ∙ front_grows l m i e.0 f.0 e.1 f.1 same

pub returns : goal.returns
returns c =
    let l = c.args.first.now in
    let m = c.args.second.now in
    let i = c.loop-i.i in
    let at : c.min-most.result ≡ i = omega arith in
    let whole : total_size (take i l) + front_cells (drop i l) (drop i m) ≡ total_size (take i l) =
    elim (cases_lt (length l) (length m)) [
      | inl lt ↦ front_over_first l m i (omega arith)
      | inr le ↦ front_over_second l m i (omega arith)
    ] in
    c.first_cells-2.ensures ∙ ap (λ (k : ℕ). total_size (take k l)) at ∙ sym whole ∙ sym c.loop-i.invariant
