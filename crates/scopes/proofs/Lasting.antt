-- A run leaves as many cells as there were.
use Rattle.std.proofs.Common.{◌≡◌, ℕ, ◌≤◌, Option, Some, None, ℤ, List, [], ◌∷◌, length, ap, sym, ◌∙◌}
use Rattle.moment_laws.specs.Following.{Has, IsLeftAlone, IsLeftBySet, Lead}
use Rattle.moment_laws.proofs.Whole.{moments_lead_to_the_outcome}
use Rattle.pram_check.specs.Checked.{Checked}
use Rattle.pram_meaning.specs.Attempt.{Attempt, Gives, Fails}
use Rattle.pram_meaning.specs.Moments.{Moment, Alone, Together, Closed, run_moments}
use Rattle.pram_meaning.specs.Outcome.{IsOutcome, opening}
use Rattle.pram_meaning.specs.Store.{State}
use Rattle.pram_meaning.specs.declared.key.Key.{Key}
use Rattle.pram_model.specs.Layout.{total_size}
use Rattle.write_rules.specs.Verdict.{Ended}
use Rattle.scopes.proofs.Lent.{opening_length}

alone_cells : (before behind : State) (tried : Attempt (Option ℕ)) → IsLeftAlone tried before behind →
    length behind.cells ≡ length before.cells
alone_cells before behind (Gives trail cell) h = h.cells
alone_cells before behind (Fails trail kind) h = ap (λ (s : State). length s.cells) h

set_cells : (before behind : State) (key : Option Key) → IsLeftBySet key before behind → length behind.cells ≡ length before.cells
set_cells before behind None h = h.cells
set_cells before behind (Some key) h = ap (λ (s : State). length s.cells) h

lead_cells : (ms : List Moment) (m k : State) → Lead ms m k → length k.cells ≡ length m.cells
lead_cells [] m k h = ap (λ (zs : List ℤ). length zs) h.0.cells
lead_cells (Alone here act before tried behind ∷ ms) m k h =
    lead_cells ms behind k h.2 ∙ alone_cells before behind tried h.1 ∙ ap (λ (zs : List ℤ). length zs) h.0.0.cells
lead_cells (Together here act before xs key behind ∷ ms) m k h =
    lead_cells ms behind k h.2 ∙ set_cells before behind key h.1 ∙ ap (λ (zs : List ℤ). length zs) h.0.0.cells
lead_cells (Closed ∷ ms) m k h = lead_cells ms m k h

has_cells : (n : ℕ) (last : State) (output left : List ℤ) → Has n last (Ended output left) → last.cells ≡ left
has_cells n last output left h = h.1

pub as_many : (p : Checked) (input : List ℤ) (n : ℕ) (output left : List ℤ) → IsOutcome p input n (Ended output left) →
    length input ≤ total_size p.layout → length left ≡ total_size p.layout
as_many p input n output left ends le =
    let t = moments_lead_to_the_outcome p input n (Ended output left) ends in
    sym (ap (λ (zs : List ℤ). length zs) (has_cells n t.0 output left t.2))
    ∙ lead_cells (run_moments p input n) (opening p input) t.0 t.1
    ∙ opening_length p input le
