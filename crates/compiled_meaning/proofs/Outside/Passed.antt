-- A run behind a part of a program outside pardo, and ways on from there.
use Rattle.std.proofs.Common.{◌≡◌, ℕ, ◌+◌, ◌<◌, ◌≤◌, length, Bool, false, refl, sym, ap, ◌∙◌, subst, arith}
use Rattle.std.specs.Prelude.{if◌then◌else◌}
use Rattle.pram_values.specs.Truth.{is_nonzero}
use Rattle.superstep_instructions.specs.declared.instr.Instr.TheVariants.{Jump, JumpIfZero}
use Rattle.pram_check.specs.Checked.{Checked}
use Rattle.pram_meaning.specs.Store.{State}
use Rattle.flat_machine.specs.Flat.{Flat}
use Rattle.flat_stretches.specs.Along.{Run, IsAt}
use Rattle.flat_stretches.specs.Folds.{Stand}
use Rattle.plain_form.specs.Registers.{behind_variables}
use Rattle.plain_form.specs.Shapes.{flush}
use Rattle.compiled_formulas.specs.Outside.{ShowsOutside}
use Rattle.exchange_bound.specs.Bound.{one_if}
use Rattle.compiled_meaning.specs.Between.{IsBetween}
use Rattle.compiled_meaning.proofs.EachStatement.Places.{between_at, jump_between, fork_between, flushed}
use Rattle.compiled_meaning.specs.Without.{IsWithout}

module _ (p : Checked) (t : Run) where
  -- the same state of the program, come to otherwise
  pub otherwise : (held : Bool) (m : State) (place to spent most : ℕ) (f : Flat) → IsWithout p t held m place spent f →
      IsBetween t held m to most f → IsWithout p t held m to most f
  otherwise held m place to spent most f w b = record { between = b; shows = w.shows; sizes = w.sizes; values = w.values }

  -- the same place written in another way, by as many exchanges or more
  pub there : (held : Bool) (m : State) (place to spent most : ℕ) (f : Flat) → place ≡ to → spent ≤ most →
      IsWithout p t held m place spent f →
      IsWithout p t held m to most f
  there held m place to spent most f e l w =
      otherwise held m place to spent most f w (between_at t held m f place to spent most e l w.between)

-- ---- behind a part

-- the run comes from one state of the program, seen in f, to another one, seen in g, with the same free registers
pub record IsPassed (p : Checked) (t : Run) (free : ℕ) (left : Bool) (place : ℕ) (start : State) (f : Flat) (spent : ℕ) (m : State)
    (g : Flat) : Type 0 where
  pub without : IsWithout p t left m place spent g
  pub registers : (r : ℕ) → behind_variables p.uniforms ≤ r → r < free → g.uniform.registers r ≡ f.uniform.registers r
  pub later : start.count ≤ m.count

abbrev pub Passes : Checked → Run → (free : ℕ) → (left : Bool) → (place : ℕ) → State → Flat → ℕ → Unit {0} → State → Type 0
Passes p t free left place start f spent u m = (g : Flat) × IsPassed p t free left place start f spent m g

module _ (p : Checked) (t : Run) (free : ℕ) where
  -- one part behind another, whose free registers may begin further on
  pub passed_both : (before behind : Bool) (place to : ℕ) (start next : State) (f g : Flat) (spent most further : ℕ) (m : State)
      (h : Flat) →
      free ≤ further → IsPassed p t free before place start f spent next g → IsPassed p t further behind to next g most m h →
      IsPassed p t free behind to start f most m h
  passed_both before behind place to start next f g spent most further m h l a b = record {
    without = b.without;
    registers = λ r low up. b.registers r low (omega (arith, up, l)) ∙ a.registers r low up;
    later = (let x = a.later in let y = b.later in omega (arith, x, y));
  }

  pub passed_there : (left : Bool) (place to : ℕ) (start : State) (f : Flat) (spent most : ℕ) (m : State) (g : Flat) → place ≡ to →
      spent ≤ most →
      IsPassed p t free left place start f spent m g → IsPassed p t free left to start f most m g
  passed_there left place to start f spent most m g e l a =
      record { without = there p t left m place to spent most g e l a.without; registers = a.registers; later = a.later }

  -- with the send of what is held
  pub passed_flush : (left : Bool) (place : ℕ) (start : State) (f : Flat) (spent : ℕ) (m : State) (g : Flat) →
      Stand t place (flush left) → IsPassed p t free left place start f spent m g →
      Passes p t free false (place + length (flush left)) start f (spent + one_if left) tt m
  passed_flush left place start f spent m g stand a =
      let w = a.without in
      let s = w.shows in
      let k = flushed t left m place spent g w.between s.rests stand in (
        k.behind,
        record {
          without = record {
            between = k.between;
            shows = subst (ShowsOutside p m) (sym k.seen) s;
            sizes = w.sizes;
            values = w.values;
          };
          registers = λ r low up. ap (λ (x : Flat). x.uniform.registers r) k.seen ∙ a.registers r low up;
          later = a.later;
        },
      )

  -- a jump
  pub passed_jump : (left : Bool) (place target : ℕ) (start : State) (f : Flat) (spent : ℕ) (m : State) (g : Flat) →
      IsAt t place (Jump target) → IsPassed p t free left place start f spent m g → IsPassed p t free left target start f spent m g
  passed_jump left place target start f spent m g at a =
      let w = a.without in record {
        without = otherwise p t left m place target spent spent g w (jump_between t left m place spent g w.between target at);
        registers = a.registers;
        later = a.later;
      }

  -- a state of the program is behind itself
  pub passed_here : (left : Bool) (place : ℕ) (spent : ℕ) (m : State) (f : Flat) → IsWithout p t left m place spent f →
      IsPassed p t free left place m f spent m f
  passed_here left place spent m f w = record { without = w; registers = λ r low up. refl; later = omega arith }

-- a fork, by what the register holds
pub forks_without : (p : Checked) (t : Run) (held : Bool) (m : State) (place spent : ℕ) (f : Flat) → IsWithout p t held m place spent f →
    (r target : ℕ) → IsAt t place (JumpIfZero r target) → (b : Bool) → is_nonzero (f.uniform.registers r) ≡ b →
    IsWithout p t held m (if b then place + 1 else target) spent f
forks_without p t held m place spent f w r target at b e =
    otherwise p t held m place (if b then place + 1 else target) spent spent f w
    (subst (λ (x : Bool). IsBetween t held m (if x then place + 1 else target) spent f) e
    (fork_between t held m place spent f w.between r target at))
