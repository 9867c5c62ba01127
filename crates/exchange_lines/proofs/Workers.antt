-- The lines of the workers' exchanges, and of the flat machine's exchange by exchange.
use Rattle.std.proofs.Common.{◌≡◌, ℕ, zero, suc, List, [], ◌∷◌, length, Bool, true, false, ℤ, refl, ap, ◌∙◌}
use Rattle.std.specs.Prelude.{if◌then◌else◌}
use Rattle.superstep_machine.specs.Setting.{Setting, workers}
use Rattle.superstep_machine.specs.Parts.{UniformPart}
use Rattle.superstep_machine.specs.Machine.{phase}
use Rattle.superstep_machine.specs.Run.{State, Way, is_over, bsp, opening}
use Rattle.superstep_machine.specs.Trace.{exchange_of, exchanges_from}
use Rattle.flat_machine.specs.ByExchanges as flat
use Rattle.flat_machine.specs.Flatness.{IsMapFor, plan}
use Rattle.flat_machine.proofs.Lockstep.{Agree, readies}
use Rattle.flat_machine.proofs.Runs.{first, opening_agrees, phase_agrees}
use Rattle.exchange_lines.specs.Laws.{EachHasOne}
use Rattle.exchange_lines.specs.Lines.{flat_lines_by, flat_lines_from, line_of, lines_by, lines_from}

module _ (t : Setting) (room : IsMapFor t.code t.map) where
  line_same : (s : flat.State) (ws : ℕ → State) → Agree t room s ws → line_of t ws ≡ (flat.ready (plan t) s).state.flat.uniform.line
  line_same s ws a = ap (λ (u : UniformPart). u.line) ((readies t room s ws a).states.splits.uniform 0 (first t room))

  lines_same : (n : ℕ) (s : flat.State) (ws : ℕ → State) → Agree t room s ws → lines_from t n ws ≡ flat_lines_from (plan t) n s
  lines_same zero s ws a = refl
  lines_same (suc n) s ws a =
      ap (λ (way : Way). if is_over way then [] else line_of t ws ∷ lines_from t n (phase (bsp t) (workers t) ws)) (a.way 0 (first t room))
      ∙ go (is_over s.way) (lines_same n (flat.next (plan t) s) (phase (bsp t) (workers t) ws) (phase_agrees t room s ws a))
    where
      go : (b : Bool) → lines_from t n (phase (bsp t) (workers t) ws) ≡ flat_lines_from (plan t) n (flat.next (plan t) s) →
          (if b then [] else line_of t ws ∷ lines_from t n (phase (bsp t) (workers t) ws))
          ≡ (if b then [] else (flat.ready (plan t) s).state.flat.uniform.line ∷ flat_lines_from (plan t) n (flat.next (plan t) s))
      go true rest = refl
      go false rest = (λ i. line_same s ws a i ∷ rest i)

  -- the workers' lines are those of the flat machine
  pub lines_by_same : (n : ℕ) (input : List ℤ) → lines_by t n input ≡ flat_lines_by (plan t) n input
  lines_by_same n input = lines_same n (flat.opening input) (opening t input) (opening_agrees t room input)

-- each exchange has a line
as_many : (t : Setting) (n : ℕ) (ws : ℕ → State) → length (lines_from t n ws) ≡ length (exchanges_from t n ws)
as_many t zero ws = refl
as_many t (suc n) ws = go (is_over (ws 0).way) (as_many t n (phase (bsp t) (workers t) ws))
  where
    go : (b : Bool) → length (lines_from t n (phase (bsp t) (workers t) ws)) ≡ length (exchanges_from t n (phase (bsp t) (workers t) ws)) →
        length (if b then [] else line_of t ws ∷ lines_from t n (phase (bsp t) (workers t) ws))
        ≡ length (if b then [] else exchange_of t ws ∷ exchanges_from t n (phase (bsp t) (workers t) ws))
    go true rest = refl
    go false rest = ap suc rest

pub each_has_one : EachHasOne
each_has_one t n input = as_many t n (opening t input)
