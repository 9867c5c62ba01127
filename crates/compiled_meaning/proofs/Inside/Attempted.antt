-- A statement of a set of processors on the machine: it begins, and the run follows its attempts.
use Rattle.std.proofs.Common.{◌≡◌, ℕ, ◌+◌, ◌<◌, ◌≤◌, List, [], ◌∷◌, ◌++◌, length, Bool, true, false, Option, Some, None, Result, Ok, refl}
use Rattle.std.proofs.Common.{sym, ap, ◌∙◌, subst, arith}
use Rattle.std.specs.Prelude.{nat_lt, if◌then◌else◌}
use Rattle.write_rules.specs.declared.fault.Fault.{Fault}
use Rattle.write_rules.specs.Verdict.{GoesOn}
use Rattle.superstep_instructions.specs.declared.instr.Instr.{Instr}
use Rattle.superstep_instructions.specs.declared.instr.Instr.TheVariants.{Mark}
use Rattle.superstep_machine.specs.declared.key.Key.{Key}
use Rattle.pram_check.specs.Checked.{Checked}
use Rattle.pram_meaning.specs.Attempt.{Attempt, Effect}
use Rattle.pram_meaning.specs.Bounded.{Behaviour, Done, Goes, Reaches, then_do, valued, attempted_on}
use Rattle.pram_meaning.specs.Conflict.{Part}
use Rattle.pram_meaning.specs.Store.{State, View}
use Rattle.pram_meaning.specs.Together.{parts, together}
use Rattle.bsp_verify.specs.WellFormed.{IsWellFormed}
use Rattle.flat_machine.specs.Flat.{Flat}
use Rattle.flat_stretches.specs.Applied.{applied, AsksNone}
use Rattle.flat_stretches.specs.Along.{Run}
use Rattle.flat_stretches.specs.Folds.{Stand, IsFine}
use Rattle.flat_stretches.specs.Tells.{IsCalm}
use Rattle.flat_stretches.specs.Notes.{notes}
use Rattle.statement_evaluation.specs.Terms.{Task}
use Rattle.statement_evaluation.specs.Rows.{Row, rows, cut_parts, AreApart}
use Rattle.statement_evaluation.specs.Noted as evaluation
use Rattle.statement_evaluation.specs.Noted.{Heading, noted}
use Rattle.statement_evaluation.specs.Effects.{AreFine}
use Rattle.statement_evaluation.specs.LeastFaults.{unless_told}
use Rattle.statement_evaluation.proofs.Columns.{together_is_noted}
use Rattle.statement_evaluation.proofs.Effects.{both_none}
use Rattle.compiled_formulas.specs.Headings.{heading_of}
use Rattle.exchange_bound.specs.Events as events
use Rattle.exchange_bound.specs.Events.{Event, behind}
use Rattle.exchange_bound.specs.Bound.{one_if}
use Rattle.compiled_meaning.specs.Between.{IsBetween}
use Rattle.compiled_meaning.specs.Begins.{begun, done, HasPassed, PassesOrFaults, BeginsOrEnds}
use Rattle.compiled_meaning.specs.Follows.{Follows}
use Rattle.compiled_meaning.proofs.EachStatement.Begins.{statements_go_on}
use Rattle.compiled_meaning.proofs.EachStatement.Joined.{comes_out_sooner}
use Rattle.std.proofs.lemmas.Bool.{ltb-true}

-- one statement more
abbrev pub one_more : State → State
one_more m = record m { count = m.count + 1 }

-- what is noted of a task, and that the notes of its processors are among that
fine_where_none : (h : Heading) (p : Checked) (task : Task) (rs : List Row) → noted h p.rule p.layout task rs ≡ None → AreFine h rs
fine_where_none h p task rs e = (both_none (evaluation.notes h rs) _ e).0

module _ (p : Checked) (t : Run) (line : ℕ) (is : List Instr) (held left : Bool) (m : State) (place spent : ℕ) (f : Flat)
    (b : IsBetween t held m place spent f) (task : Task) (vs : List ℕ) where
  abbrev heading : Heading
  heading = heading_of (begun t.code line f)

  -- the parts of its processors, in the meaning
  abbrev those_parts : List Part
  those_parts = cut_parts p m task vs

  module _ (virtual : Bool) (before : ℕ) (es : List Event) (goes : List Event → State → Type 0)
      (k : List Part → State → Done) (rest : List Part → State → List Event) where
    -- where it passes, the run goes on as is said
    abbrev GoesOnBehind : Type 0
    GoesOnBehind = m.count < t.bound → (g : Flat) → HasPassed t line is left place spent f g → AreFine heading (rows p m task vs) →
        together p line those_parts ≡ Ok those_parts →
        Follows t before virtual (es ++ rest those_parts (one_more m)) (goes (es ++ rest those_parts (one_more m)))
        (k those_parts (one_more m))

    -- what is behind an attempt with that result
    abbrev FollowsFrom : Behaviour (List Part) → Type 0
    FollowsFrom a = Follows t before virtual (es ++ behind a rest) (goes (es ++ behind a rest)) (then_do a k)

    by_key : (o : Option Key) → (o ≡ None → AreFine heading (rows p m task vs)) → together p line those_parts ≡ unless_told o those_parts →
        m.count < t.bound → GoesOnBehind → PassesOrFaults t line is left place spent m f o →
        FollowsFrom (valued (unless_told o those_parts) (one_more m))
    by_key None fine okay l on h = on l h.0 h.1 (fine refl) okay
    by_key (Some key) fine okay l on h = h

    module _ (a : View → Attempt Effect) (same : parts p m a vs ≡ those_parts) where
      -- by whether the bound lets it begin
      abbrev Attempted : Bool → Behaviour (List Part)
      Attempted x =
          then_do (let d : Done = if x then Goes tt (one_more m) else Reaches m.output in d)
          (λ u now. valued (together p line (parts p now a vs)) now)

      by_bound : (x : Bool) → nat_lt m.count t.bound ≡ x → AreApart (rows p m task vs) →
          notes t.code is (begun t.code line f) ≡ noted heading p.rule p.layout task (rows p m task vs) →
          spent + one_if held ≤ before + one_if virtual → GoesOnBehind → BeginsOrEnds t line is held left place spent m f x →
          Follows t before virtual ((if x then es else []) ++ behind (Attempted x) rest)
          (goes ((if x then es else []) ++ behind (Attempted x) rest))
          (then_do (Attempted x) k)
      by_bound true e apart tells few on h =
          subst (λ (r : Result (List Part) Fault). FollowsFrom (valued r (one_more m)))
          (sym (ap (together p line) same ∙ together_is_noted heading p m task vs apart))
          (by_key (noted heading p.rule p.layout task (rows p m task vs))
          (fine_where_none heading p task (rows p m task vs)) (together_is_noted heading p m task vs apart) (ltb-true m.count t.bound e) on
          (subst (PassesOrFaults t line is left place spent m f) tells h))
      by_bound false e apart tells few on h =
          comes_out_sooner t (GoesOn m.output) (spent + one_if held + 1) (before + (0 + one_if virtual) + 1) (omega (arith, few)) h

      -- what such a statement is run from
      pub record MayAttempt : Type 0 where
        pub formed : IsWellFormed t.code
        pub rests : AsksNone (applied t.code f)
        pub stand : Stand t place (Mark line ∷ is)
        pub fine : IsFine held is left
        pub none : (done t.code line is f).uniform.asks ≡ []
        pub calm : IsCalm t.code (place + 1 + length is)
        pub apart : AreApart (rows p m task vs)
        pub tells : notes t.code is (begun t.code line f) ≡ noted heading p.rule p.layout task (rows p m task vs)
        pub few : spent + one_if held ≤ before + one_if virtual

      pub attempted : MayAttempt → GoesOnBehind →
          Follows t before virtual (events.begun t.bound m es ++ behind (attempted_on p t.bound line a vs m) rest)
          (goes (events.begun t.bound m es ++ behind (attempted_on p t.bound line a vs m) rest))
          (then_do (attempted_on p t.bound line a vs m) k)
      attempted h on =
          by_bound (nat_lt m.count t.bound) refl h.apart h.tells h.few on
          (statements_go_on t h.formed line is held left m place spent f b h.rests h.stand h.fine h.none h.calm)
