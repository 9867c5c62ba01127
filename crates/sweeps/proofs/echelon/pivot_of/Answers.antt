use Rattle.std.proofs.Common.{◌≡◌, ◌⊎◌, inl, inr, ℕ, ◌<◌, ◌+◌, arith, get_or, subst, sym, List, length}
use Rattle.std.proofs.lemmas.Bool.{cases_eq}
use Rattle.std.proofs.lemmas.List.{get_or_default}
use Rattle.sweeps.specs.Echelons.{MaySolve}
use Rattle.sweeps.specs.declared.row.Row.{Row}
use Rattle.sweeps.proofs.Eliminations.{is_true, not_true, row_begins, row_passed, zero_entry}
use Rattle.sweeps.proofs.echelon.pivot_of.Goals as goal

pub returns-then-not-is_zero : goal.returns-then-not-is_zero
returns-then-not-is_zero c =
    let left = c.reduced-left.result in
    let tested = zero_entry left c.args.column c.at.result c.is_zero.result c.at.ensures c.is_zero.ensures in
    let row = get_or c.args.table.now c.loop-row.row-index (record { size = 0; number = 0 }) in (
      record {
        bounded = c.reduced-left.ensures.bounded;
        some = λ zero. not_true c.is_zero.result c.if-not-is_zero.true (tested.1 zero);
        zeros = c.reduced-left.ensures.zeros;
      },
      λ z first all.
          row_begins c.of_row.result left row c.args.column c.args.pivots.now c.of_row.ensures.sum c.reduced-left.ensures.same z first
          (all c.loop-row.row-index (record { size = 0; number = 0 }) c.loop-row-test.true),
    )

-- the rows so far and one more
more : (P : Row → Type 0) (xs : List Row) (i k : ℕ) (d e : Row) → i < length xs → k < i + 1 →
    ((k : ℕ) (d : Row) → k < i → P (get_or xs k d)) → P (get_or xs i e) → P (get_or xs k d)
more P xs i k d e within less before now = by (cases_eq k i)
  where
    by : (k ≡ i) ⊎ (k ≡ i → ⊥) → P (get_or xs k d)
    by (inl same) = subst (λ n. P (get_or xs n d)) (sym same) (subst P (get_or_default xs i e d within) now)
    by (inr differ) = before k d (omega (arith, less, differ))

pub loop-row-preserved : goal.loop-row-preserved
loop-row-preserved c z first behind k d less =
    let left = c.reduced-left.result in
    let tested = zero_entry left c.args.column c.at.result c.is_zero.result c.at.ensures c.is_zero.ensures in
    let nothing : Row = record { size = 0; number = 0 } in
    let row = get_or c.args.table.now c.loop-row.row-index nothing in
    more (MaySolve z) c.args.table.now c.loop-row.row-index k d nothing c.loop-row-test.true less (c.loop-row.invariant z first behind)
    (row_passed c.of_row.result left row c.args.column c.args.pivots.now c.of_row.ensures.sum c.reduced-left.ensures.same
    c.reduced-left.ensures.zeros (tested.0 (is_true c.is_zero.result c.if-not-is_zero.false)) z first behind)
