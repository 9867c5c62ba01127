-- Outside pardo the code of a formula computes its value and notes what is wrong.
use Rattle.std.proofs.Common.{◌≡◌, ℕ, ◌+◌, List, ℤ, refl, sym, ap, ◌∙◌, subst, arith}
use Rattle.pram_values.specs.declared.place.Place.TheVariants.{All}
use Rattle.superstep_instructions.specs.declared.instr.Side.TheVariants.{Uniform}
use Rattle.superstep_instructions.specs.declared.instr.Instr.{Instr}
use Rattle.superstep_instructions.specs.Code.{SuperstepCode}
use Rattle.superstep_machine.specs.Keys.{least}
use Rattle.superstep_machine.specs.Parts.{Registers, zeros}
use Rattle.pram_check.specs.Bounded.{Names, names_of}
use Rattle.pram_meaning.specs.Store.{View, seen}
use Rattle.flat_machine.specs.Flat.{Flat}
use Rattle.flat_stretches.specs.Applied.{IsBare, AsksNone}
use Rattle.flat_stretches.specs.Folds.{acts_at_once}
use Rattle.flat_stretches.specs.Leaving.{IsLeft}
use Rattle.flat_stretches.specs.Notes.{notes}
use Rattle.flat_stretches.proofs.Folds.{folds_stay_bare}
use Rattle.flat_stretches.proofs.Joins.{acts_at_once_join}
use Rattle.flat_stretches.proofs.Notes.{notes_join}
use Rattle.statement_evaluation.specs.Whole.{value}
use Rattle.statement_evaluation.specs.Noted.{note_key, notes_behind}
use Rattle.plain_form.specs.Formulas.{Formula, Zero, Number, Variable, Index, Local, Read, Before, Between, Pair, reads, nesting}
use Rattle.plain_form.specs.Regions.{region}
use Rattle.plain_form.specs.Groups.{groups, stack, evaluated, value_at, second_at}
use Rattle.compiled_formulas.specs.Terms.{term, steps_in}
use Rattle.compiled_formulas.specs.Environments.{IsNamed, IsFree, Shows}
use Rattle.compiled_formulas.specs.Headings.{heading_of}
use Rattle.compiled_formulas.specs.Outside.{FormulasAreEvaluatedOutside, PairsAreEvaluatedOutside}
use Rattle.compiled_formulas.proofs.Lone.{moves, wrongs}
use Rattle.compiled_formulas.proofs.Levels.{levels, levels_are_all}
use Rattle.compiled_formulas.proofs.Shown.{still_shows}
use Rattle.compiled_formulas.proofs.RegionValues.{own_key_at, AreRead, IsReady, IsRegion, region_is, region_gives_second}
use Rattle.compiled_formulas.proofs.Asks.{region_asks}
use Rattle.compiled_formulas.proofs.Parts.{region_parts, of_all}
use Rattle.compiled_formulas.proofs.Kept.{uniform_evaluates, left_by}
use Rattle.compiled_formulas.proofs.UniformSteps.{uniform_registers, uniform_notes}
use Rattle.compiled_formulas.proofs.StepNotes.{all_notes}
use Rattle.compiled_formulas.proofs.AtRest.{stays_at_rest}
use Rattle.compiled_formulas.proofs.OutsideLevels.{IsBehind, more_levels}

-- of no level reads are known
pub none_read : (s : View) (f : Formula) (t : ℕ) (r : Registers) → AreRead s 0 f t r
none_read s Zero t r = tt
none_read s (Number z) t r = tt
none_read s (Variable x) t r = tt
none_read s Index t r = tt
none_read s (Local x) t r = tt
none_read s (Read a f) t r = (none_read s f t r, λ h. absurd (omega (arith, h)))
none_read s (Before o f) t r = none_read s f t r
none_read s (Between o f g) t r = (none_read s f t r, none_read s g (t + reads f) r)
none_read s (Pair f g) t r = (none_read s f t r, none_read s g (t + reads f) r)

module _ (code : SuperstepCode) (n : Names) (base : ℕ) (free : IsFree Uniform n base) (s : View) (same : code.layout ≡ s.layout) where
  module _ (e : Formula) (named : IsNamed n e) (f : Flat) (shows : Shows Uniform n s zeros f.uniform.registers f.memory)
      (bare : IsBare f) (rests : AsksNone f) where
    abbrev b : ℕ
    b = stack base e

    abbrev before : List Instr
    before = groups Uniform (nesting e) 0 e base b

    abbrev last : List Instr
    last = region Uniform e base b 0

    abbrev between : Flat
    between = acts_at_once code before f

    abbrev end : Flat
    end = acts_at_once code (evaluated Uniform base e) f

    groups_done : IsBehind code n base free s same e base b named (omega arith) (omega arith) (0 + nesting e) before
        (levels (own_key_at (heading_of f) All s) (nesting e) 0 e 0) f
    groups_done = more_levels code n base free s same e base b named (omega arith) (omega arith) (nesting e) 0 f (record {
      shows = shows;
      known = none_read s e base f.uniform.registers;
      bare = bare;
      rests = rests;
    })

    ready : IsReady Uniform n base free s zeros (0 + nesting e) between.memory e base b between.uniform.registers
    ready =
        let k = groups_done in
        let g = k.stage in record {
          shows = g.shows;
          known = g.known;
          deep = omega arith;
          named = named;
          above = omega arith;
          apart = omega arith;
        }

    end_is : end ≡ acts_at_once code last between
    end_is = acts_at_once_join code before last f

    registers : end.uniform.registers ≡ moves s.layout zeros last between.uniform.registers
    registers =
        ap (λ (g : Flat). g.uniform.registers) end_is
        ∙ uniform_registers code base zeros last between (region_parts base Uniform e base b 0 (omega arith))
        ∙ (λ i. moves (same i) zeros last between.uniform.registers)

    region_done : IsRegion Uniform n base free s zeros (heading_of f) All e base b 0 between.uniform.registers
    region_done = region_is Uniform n base free s zeros (heading_of f) All (0 + nesting e) between.memory e base b 0
        between.uniform.registers ready

    pub gives_value : end.uniform.registers (value_at Uniform base e) ≡ value s (term e)
    gives_value = let k = region_done in (λ i. registers i (value_at Uniform base e)) ∙ k.gives

    pub is_left : IsLeft base f end
    is_left = left_by code base (evaluated Uniform base e) f bare rests (of_all base Uniform _ (uniform_evaluates base) refl refl e)

    pub end_rests : AsksNone end
    end_rests =
        let k = groups_done in
        let g = k.stage in
        subst AsksNone (sym end_is)
        (stays_at_rest code base s.layout zeros Uniform last between.uniform.registers between
        (region_parts base Uniform e base b 0 (omega arith)) (region_asks Uniform s zeros e base b 0 between.uniform.registers) g.rests)

    pub tells_notes : notes code (evaluated Uniform base e) f ≡ notes_behind (heading_of f) 0 All (steps_in s e)
    tells_notes =
        let k = groups_done in
        let j = region_done in
        let parts = region_parts base Uniform e base b 0 (omega arith) in
        notes_join code before last f
        ∙ (λ i. least (k.notes i)
        ((uniform_notes code base zeros last between parts
        ∙ (λ i. wrongs (same i) zeros (λ q x. note_key (k.heading i) q All x) last between.uniform.registers) ∙ j.notes) i))
        ∙ levels_are_all (own_key_at (heading_of f) All s) e (nesting e) 0 (omega arith)
        ∙ all_notes (heading_of f) All s e 0

  pub gives_second : (d e : Formula) (named : IsNamed n (Pair d e)) (f : Flat) → Shows Uniform n s zeros f.uniform.registers f.memory →
      IsBare f → AsksNone f →
      (acts_at_once code (evaluated Uniform base (Pair d e)) f).uniform.registers (second_at Uniform base d e) ≡ value s (term e)
  gives_second d e named f shows bare rests =
      (λ i. registers (Pair d e) named f shows bare rests i (second_at Uniform base d e))
      ∙ region_gives_second Uniform n base free s zeros (heading_of f) All (0 + nesting (Pair d e))
      (between (Pair d e) named f shows bare rests).memory d e base (stack base (Pair d e)) 0
      (between (Pair d e) named f shows bare rests).uniform.registers (ready (Pair d e) named f shows bare rests)

-- the uniform registers stand for themselves
alone : (n : Names) (s : View) (u w r : Registers) (m : ℕ → ℤ) → Shows Uniform n s u r m → Shows Uniform n s w r m
alone n s u w r m h =
    record { nothing = h.nothing; variables = h.variables; indices = h.indices; locals = h.locals; cells = h.cells }

pub formulas_are_evaluated_outside : FormulasAreEvaluatedOutside
formulas_are_evaluated_outside code p m base e f h =
    let free : IsFree Uniform (names_of p) base = (refl, h.2) in
    let start = h.3 in
    let s = seen p m in
    let end = acts_at_once code (evaluated Uniform base e) f in
    let shows = alone (names_of p) s f.uniform.registers zeros f.uniform.registers f.memory start.shows in
    let left = is_left code (names_of p) base free s h.0 e h.1 f shows start.bare start.rests in
    let memory : f.memory ≡ end.memory = sym (λ i c. left.memory c i) in
    record {
      gives = gives_value code (names_of p) base free s h.0 e h.1 f shows start.bare start.rests;
      shows = record {
        shows = subst (λ (m : ℕ → ℤ). Shows Uniform (names_of p) s end.uniform.registers end.uniform.registers m) memory
            (still_shows (names_of p) base Uniform free s end.uniform.registers f.uniform.registers end.uniform.registers f.memory
            left.registers (alone (names_of p) s zeros end.uniform.registers f.uniform.registers f.memory shows));
        bare = folds_stay_bare code (evaluated Uniform base e) f start.bare;
        rests = end_rests code (names_of p) base free s h.0 e h.1 f shows start.bare start.rests;
      };
      left = left;
      tells = tells_notes code (names_of p) base free s h.0 e h.1 f shows start.bare start.rests;
    }

pub pairs_are_evaluated_outside : PairsAreEvaluatedOutside
pairs_are_evaluated_outside code p m base d e f h =
    let free : IsFree Uniform (names_of p) base = (refl, h.2) in
    let start = h.3 in
    let shows = alone (names_of p) (seen p m) f.uniform.registers zeros f.uniform.registers f.memory start.shows in (
      gives_value code (names_of p) base free (seen p m) h.0 (Pair d e) h.1 f shows start.bare start.rests,
      gives_second code (names_of p) base free (seen p m) h.0 d e h.1 f shows start.bare start.rests,
    )
