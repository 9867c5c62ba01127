use Rattle.std.proofs.Common.{◌⊎◌, inl, inr, ◌≡◌, ◌<◌, ◌≤◌, List, [], ℕ, arith, drop, length}
use Rattle.std.proofs.lemmas.Bool.{cases_lt}
use Rattle.text_out.proofs.Progress.{breaks_off, ends, goes_on}
use Rattle.intervals.specs.declared.interval.Interval.{Interval}
use Rattle.pram_model.specs.Layout.{SharedEntry}
use Rattle.all_inputs.specs.OverallText.{declared_lines}
use Rattle.all_inputs.proofs.TextLines.{declared_at, declared_over, known_over}
use Rattle.all_inputs.proofs.end_text.write_declared_lines.Goals as goal

pub returns-in_err-write_declared_line : goal.returns-in_err-write_declared_line
returns-in_err-write_declared_line g c =
    let declared = c.args.end.now.declared in
    let at = declared_at c.args.layout.now declared.items c.loop-i.i c.index.result.now (omega (arith, declared.ok.0))
    (omega (arith, declared.ok.0)) c.index.ensures in
    record {
      written = breaks_off _ _ _ _ _ _ _ c.from_residual.result _ c.from_residual.ensures.1 c.loop-i.invariant at
          c.in_err-write_declared_line.ensures.written;
    }

pub loop-i-preserved : goal.loop-i-preserved
loop-i-preserved g c =
    let declared = c.args.end.now.declared in
    let at = declared_at c.args.layout.now declared.items c.loop-i.i c.index.result.now (omega (arith, declared.ok.0))
    (omega (arith, declared.ok.0)) c.index.ensures in
    goes_on _ _ _ _ _ _ _ c.loop-i.invariant at c.in_ok-write_declared_line.ensures.written

-- one of the two lists is at its end
over : (layout : List SharedEntry) (is : List Interval) (i : ℕ) → (length layout ≤ i) ⊎ (length is ≤ i) →
    declared_lines (drop i layout) (drop i is) ≡ []
over layout is i (inl end) = declared_over layout is i end
over layout is i (inr end) = known_over layout is i end

which : (a b i : ℕ) → (i < a) ⊎ (a ≤ i) → (i < a → b ≤ i) → (a ≤ i) ⊎ (b ≤ i)
which a b i (inl less) h = inr (h less)
which a b i (inr le) h = inl le

pub returns : goal.returns
returns g c =
    let layout = c.args.layout.now in
    let declared = c.args.end.now.declared in
    let i = c.loop-i.i in
    let end = which (length layout) (length declared.items) i (cases_lt i (length layout)) (λ lt. omega (arith, declared.ok.0)) in
    record { written = ends _ _ _ _ c.loop-i.invariant (over layout declared.items i end) }
