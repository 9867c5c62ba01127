-- What the events of statements spend and hold, beside what their code does.
use Rattle.std.proofs.Common.{◌≡◌, ℕ, zero, suc, ◌+◌, ◌≤◌, [], ◌∷◌, Bool, true, false, not, ◌&&◌, None, refl, ap, arith}
use Rattle.flat_stretches.specs.Along.{Run}
use Rattle.plain_form.specs.Formulas.{Formula, nesting, reads}
use Rattle.plain_form.specs.Shapes as shapes
use Rattle.plain_form.specs.Shapes.{has_reads, still, waits}
use Rattle.exchange_bound.specs.Events.{Runs, Cut}
use Rattle.exchange_bound.specs.Bound.{one_if}
use Rattle.exchange_bound.specs.Spent.{any_level, held_behind}
use Rattle.compiled_meaning.specs.Paid.{spent, evaluating, write_weighs}

-- whether there is a level, as the code has it
same_levels : (n : ℕ) → any_level n ≡ shapes.any_level n
same_levels zero = refl
same_levels (suc n) = refl

-- a statement that writes nothing
pub run_holds : (held : Bool) (f : Formula) → held_behind (Runs (nesting f) false None (reads f) ∷ []) held ≡ still held f
run_holds held f = ap (λ b. held && not b) (same_levels (nesting f))

pub run_spends : (t : Run) (held : Bool) (f : Formula) → evaluating t f ≤ spent t (Runs (nesting f) false None (reads f) ∷ []) held
run_spends t held f = omega arith

-- the same with a cut behind it
pub cut_spends : (t : Run) (held : Bool) (f : Formula) →
    evaluating t f + one_if (still held f) ≤ spent t (Runs (nesting f) false None (reads f) ∷ Cut ∷ []) held
cut_spends t held f = let e : one_if (held_behind (Runs (nesting f) false None (reads f) ∷ []) held) ≡ one_if (still held f) =
    ap one_if (run_holds held f) in
    omega (arith, e)

-- the test of a loop
pub test_spends : (t : Run) (held : Bool) (f : Formula) →
    one_if held + evaluating t f ≤ spent t (Cut ∷ Runs (nesting f) false None (reads f) ∷ Cut ∷ []) held
test_spends t held f = omega arith

-- a write, before whose mark what must go is sent
pub write_spends : (t : Run) (held : Bool) (f : Formula) →
    one_if (still held f) + (evaluating t f + write_weighs t) ≤ spent t (Runs (nesting f) true None (reads f) ∷ []) held
write_spends t true f = let e : one_if (not (any_level (nesting f))) ≡ one_if (not (shapes.any_level (nesting f))) =
    ap (λ b. one_if (not b)) (same_levels (nesting f)) in omega (arith, e)
write_spends t false f = omega arith

-- what is held before a write is sent before its mark, or it waits for its reads
pub sent_or_waits : (held : Bool) (f : Formula) → one_if (still held f) + one_if (waits held f) ≡ one_if held
sent_or_waits true f = by (has_reads f)
  where
    by : (b : Bool) → one_if (not b) + one_if b ≡ 1
    by true = refl
    by false = refl
sent_or_waits false f = refl
