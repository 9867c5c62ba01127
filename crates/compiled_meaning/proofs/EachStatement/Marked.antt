-- The state behind a mark, and what a statement evaluates there: an empty send does nothing and notes nothing.
use Rattle.std.proofs.Common.{◌≡◌, ℕ, ◌+◌, List, [], ◌∷◌, ◌++◌, Bool, true, false, not, ◌&&◌, None, refl, sym, ap, ◌∙◌, subst}
use Rattle.superstep_instructions.specs.declared.instr.Side.{Side}
use Rattle.superstep_instructions.specs.declared.instr.Instr.{Instr}
use Rattle.superstep_instructions.specs.declared.instr.Instr.TheVariants.{Send}
use Rattle.superstep_instructions.specs.Code.{SuperstepCode}
use Rattle.superstep_machine.specs.Keys.{least}
use Rattle.superstep_machine.specs.Run.{is_held}
use Rattle.superstep_machine.specs.Steps.{is_active}
use Rattle.flat_machine.specs.Flat.{Flat, conflicts}
use Rattle.flat_machine.proofs.Late.{none_owed, read_keys, no_read_keys}
use Rattle.superstep_machine.proofs.KeyOrder.{none_least}
use Rattle.flat_stretches.specs.Applied.{applied, IsBare, AsksNone}
use Rattle.flat_stretches.specs.Folds.{acts_at_once}
use Rattle.flat_stretches.specs.Notes.{notes}
use Rattle.flat_stretches.proofs.Applied.{empty_sends_are_nothing}
use Rattle.flat_stretches.proofs.Joins.{acts_at_once_join}
use Rattle.flat_stretches.proofs.Notes.{notes_join}
use Rattle.plain_form.specs.Formulas.{Formula}
use Rattle.plain_form.specs.Groups.{only, evaluated}
use Rattle.verified_form.specs.Straight.{evaluation}
use Rattle.compiled_meaning.specs.Begins.{begun}
use Rattle.flat_stretches.proofs.Statements.{mark_stays}

-- a mark counts and names its line, and does nothing else
abbrev pub counted_at : SuperstepCode → ℕ → Flat → Flat
counted_at code line f = record (applied code f) {
  uniform = record (applied code f).uniform { count = f.uniform.count + 1; line = line };
  key = (begun code line f).key;
}

pub begun_is : (code : SuperstepCode) (line : ℕ) (f : Flat) → begun code line f ≡ counted_at code line f
begun_is code line f = λ i. record (counted_at code line f) { own = λ v. mark_stays (is_active (f.own v)) (f.own v) i }

pub begun_bare : (code : SuperstepCode) (line : ℕ) (f : Flat) → IsBare (begun code line f)
begun_bare code line f = record { put = refl; held = λ c. refl }

-- no read is held or awaited there if none was
pub begun_rests : (code : SuperstepCode) (line : ℕ) (f : Flat) → AsksNone (applied code f) → AsksNone (begun code line f)
begun_rests code line f n =
    subst AsksNone (sym (begun_is code line f))
    (record { asks = n.asks; awaited = n.awaited; own_asks = n.own_asks; own_awaited = n.own_awaited })

-- ---- where no write and no read is held

module _ (code : SuperstepCode) (f : Flat) (b : IsBare f) (n : AsksNone f) where
  no_conflicts : conflicts code f ≡ None
  no_conflicts = ap (λ k. least k (read_keys code f)) (none_owed code f (ap is_held b.put)) ∙ no_read_keys code f n.asks

  pub send_stays : (some : Bool) → acts_at_once code (only some (Send ∷ [])) f ≡ f
  send_stays true = empty_sends_are_nothing code f b n
  send_stays false = refl

  pub send_notes : (some : Bool) → notes code (only some (Send ∷ [])) f ≡ None
  send_notes true = none_least (conflicts code f) ∙ no_conflicts
  send_notes false = refl

  module _ (keep held : Bool) (s : Side) (base : ℕ) (e : Formula) where
    pub evaluation_acts : acts_at_once code (evaluation keep held s base e) f ≡ acts_at_once code (evaluated s base e) f
    evaluation_acts =
        acts_at_once_join code (only (keep && not held) (Send ∷ [])) (evaluated s base e) f
        ∙ ap (acts_at_once code (evaluated s base e)) (send_stays (keep && not held))

    pub evaluation_notes : notes code (evaluation keep held s base e) f ≡ notes code (evaluated s base e) f
    evaluation_notes =
        notes_join code (only (keep && not held) (Send ∷ [])) (evaluated s base e) f
        ∙ (λ i. least (send_notes (keep && not held) i) (notes code (evaluated s base e) (send_stays (keep && not held) i)))

    -- and what stands behind it
    pub evaluation_acts_with : (is : List Instr) →
        acts_at_once code (evaluation keep held s base e ++ is) f ≡ acts_at_once code is (acts_at_once code (evaluated s base e) f)
    evaluation_acts_with is =
        acts_at_once_join code (evaluation keep held s base e) is f ∙ ap (acts_at_once code is) evaluation_acts

    pub evaluation_notes_with : (is : List Instr) →
        notes code (evaluation keep held s base e ++ is) f
        ≡ least (notes code (evaluated s base e) f) (notes code is (acts_at_once code (evaluated s base e) f))
    evaluation_notes_with is =
        notes_join code (evaluation keep held s base e) is f ∙ (λ i. least (evaluation_notes i) (notes code is (evaluation_acts i)))
