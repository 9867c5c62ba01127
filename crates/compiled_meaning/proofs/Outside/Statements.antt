-- Statements outside pardo, and rows and lists of them: the run is led along them.
use Rattle.std.proofs.Common.{ℕ, ◌+◌, ◌≤◌, List, [], ◌∷◌, ◌++◌, length, Bool, false, arith}
use Rattle.std.specs.Prelude.{if◌then◌else◌}
use Rattle.pram_names.specs.declared.body.Expression.{Expression}
use Rattle.pram_names.specs.declared.body.Statement.{Statement, Assign, Print, While', If', For', Pardo, Row_of-Statement, end_of-Statement}
use Rattle.pram_names.specs.declared.body.Statement.{more_of-Statement}
use Rattle.pram_check.specs.Checked.{Checked}
use Rattle.pram_check.specs.Bounded.{IsNamed, IsStatement, ArePartStatements, AreStatements, names_of}
use Rattle.pram_meaning.specs.Bounded.{then_do, tested, perform, perform_row, perform_list}
use Rattle.flat_stretches.specs.Along.{Run}
use Rattle.plain_form.specs.Formulas.{formula_of, nesting}
use Rattle.plain_form.specs.Outside.{code, part_code, has_part, left, part_left, statements_code, statements_left}
use Rattle.plain_form.specs.Registers.{behind_variables, behind_turns}
use Rattle.plain_form.specs.Shapes as shapes
use Rattle.plain_form.specs.Shapes.{flush, sent, still, waits, chosen, looped, turned}
use Rattle.verified_form.proofs.Calm.{statements_begin_calm}
use Rattle.plain_form.specs.Formulas as formulas
use Rattle.std.specs.Prelude.{None}
use Rattle.exchange_bound.specs.Events as events
use Rattle.exchange_bound.specs.Events.{Event, Runs, Cut, behind, row_events, list_events, turns_events, for_events}
use Rattle.compiled_meaning.specs.Between.{IsRunOf}
use Rattle.compiled_meaning.proofs.Outside.Assigns.{print_follows}
use Rattle.compiled_meaning.proofs.Outside.Ranges.{pardo_follows}
use Rattle.compiled_meaning.proofs.Outside.Led.{IsLed, both_lead, none_leads}
use Rattle.compiled_meaning.proofs.Outside.Assigned.{assign_leads}
use Rattle.compiled_meaning.proofs.Outside.Loops.{loop_leads, turns_leads}
use Rattle.compiled_meaning.proofs.Outside.Branches.{alone_leads, pair_leads}

module _ (p : Checked) (t : Run) (of : IsRunOf p t) (keep : Bool) where
  -- an `if` with or without a second part
  if_leads : (free line : ℕ) → behind_variables p.uniforms ≤ free → (e : Expression) → IsNamed (names_of p) e → (held : Bool) (place : ℕ)
      {k j : _} (then_part : Row_of-Statement k) (else_part : Row_of-Statement j) →
      ((n : ℕ) → IsLed p t free false (part_left false then_part) n (part_code keep free n false then_part)
      (perform_row p t.bound then_part)
      (row_events p t.bound then_part)) →
      ((n : ℕ) → IsLed p t free false (part_left false else_part) n (part_code keep free n false else_part)
      (perform_row p t.bound else_part)
      (row_events p t.bound else_part)) →
      IsLed p t free held false place
      (shapes.if_code keep held place line free (formula_of e)
      (λ n. sent (part_code keep free n false then_part) (part_left false then_part)) (has_part else_part)
      (λ n. sent (part_code keep free n false else_part) (part_left false else_part)))
      (λ m. then_do (tested p t.bound line e m) (λ b m. if b then perform_row p t.bound then_part m else perform_row p t.bound else_part m))
      (λ m. events.begun t.bound m (Runs (nesting (formula_of e)) false None (formulas.reads (formula_of e)) ∷ Cut ∷ [])
      ++ behind (tested p t.bound line e m) (λ b m.
      (if b then row_events p t.bound then_part m else row_events p t.bound else_part m) ++ Cut ∷ []))
  if_leads free line free_ones e named held place then_part end_of-Statement first second =
      alone_leads p t of keep free line free_ones e named held (λ n. part_code keep free n false then_part) (part_left false then_part)
      (perform_row p t.bound then_part) (row_events p t.bound then_part)
      (λ n. statements_begin_calm.part t keep free n false then_part) first
      place
  if_leads free line free_ones e named held place then_part (more_of-Statement s ss) first second =
      let else_part = more_of-Statement s ss in
      pair_leads p t of keep free line free_ones e named held (λ n. part_code keep free n false then_part) (part_left false then_part)
      (perform_row p t.bound then_part) (row_events p t.bound then_part)
      (λ n. statements_begin_calm.part t keep free n false then_part) first
      place (λ n. part_code keep free n false else_part) (part_left false else_part) (perform_row p t.bound else_part)
      (row_events p t.bound else_part) (λ n. statements_begin_calm.part t keep free n false else_part) second

  mutual
    statement_leads : (s : Statement) (free : ℕ) → behind_variables p.uniforms ≤ free → IsStatement (names_of p) s →
        (held : Bool) (place : ℕ) →
        IsLed p t free held (left held s) place (code keep free place held s) (perform p t.bound s) (events.events p t.bound s)
    statement_leads (Assign here x e) free free_ones h held place = assign_leads p t of keep free free_ones here x e h held place
    statement_leads (Print here e) free free_ones h held place =
        λ m spent f w stand calm. print_follows p t of keep free here.line free_ones held m place spent f w e h.0 stand calm
    statement_leads (While' here e q body) free free_ones h held place =
        loop_leads p t of keep free here.line free_ones e h.0.0 held (λ n. part_code keep free n false body) (part_left false body)
        (perform_row p t.bound body)
        (row_events p t.bound body) (λ n. statements_begin_calm.part t keep free n false body)
        (λ n. row_leads body free free_ones h.1 false n) place
    statement_leads (If' here e q then_part l else_part) free free_ones h held place =
        if_leads free here.line free_ones e h.0.0 held place then_part else_part (λ n. row_leads then_part free free_ones h.1 false n)
        (λ n. row_leads else_part free free_ones h.2 false n)
    statement_leads (For' here x d e q body) free free_ones h held place =
        turns_leads p t of keep free here.line free_ones x h.0 d e h.1.0 h.1.1 held (λ n. part_code keep (behind_turns free) n false body)
        (part_left false body)
        (perform_row p t.bound body) (row_events p t.bound body) (λ n. statements_begin_calm.part t keep (behind_turns free) n false body)
        (λ n. row_leads body (behind_turns free) (omega (arith, free_ones)) h.2 false n) place
    statement_leads (Pardo here d e locals body) free free_ones h held place =
        λ m spent f w stand calm. pardo_follows p t of keep free here.line free_ones held m place spent f w d e h.0.0 h.0.1 locals
        body.items
        h.1 stand
        calm

    row_leads : {k : _} (ss : Row_of-Statement k) (free : ℕ) → behind_variables p.uniforms ≤ free → ArePartStatements (names_of p) ss →
        (held : Bool) (place : ℕ) →
        IsLed p t free held (part_left held ss) place (part_code keep free place held ss) (perform_row p t.bound ss)
        (row_events p t.bound ss)
    row_leads end_of-Statement free free_ones h held place = none_leads p t free held place
    row_leads (more_of-Statement s ss) free free_ones h held place =
        let first = code keep free place held s in
        both_lead p t free held (left held s) (part_left (left held s) ss) place first
        (part_code keep free (place + length first) (left held s) ss) (perform p t.bound s) (perform_row p t.bound ss)
        (events.events p t.bound s) (row_events p t.bound ss) (statement_leads s free free_ones h.0 held place)
        (row_leads ss free free_ones h.1 (left held s) (place + length first))
        (statements_begin_calm.part t keep free (place + length first) (left held s) ss)

  pub list_leads : (ss : List Statement) (free : ℕ) → behind_variables p.uniforms ≤ free → AreStatements (names_of p) ss → (held : Bool)
      (place : ℕ) →
      IsLed p t free held (statements_left held ss) place (statements_code keep free place held ss) (perform_list p t.bound ss)
      (list_events p t.bound ss)
  list_leads [] free free_ones h held place = none_leads p t free held place
  list_leads (s ∷ ss) free free_ones h held place =
      let first = code keep free place held s in
      both_lead p t free held (left held s) (statements_left (left held s) ss) place first
      (statements_code keep free (place + length first) (left held s) ss) (perform p t.bound s) (perform_list p t.bound ss)
      (events.events p t.bound s) (list_events p t.bound ss) (statement_leads s free free_ones h.0 held place)
      (list_leads ss free free_ones h.1 (left held s) (place + length first))
      (statements_begin_calm.statements t keep free (place + length first) (left held s) ss)
