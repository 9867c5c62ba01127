-- Inside pardo the code of a formula computes its value for all active processors and notes what is wrong.
use Rattle.std.proofs.Common.{◌≡◌, ℕ, ◌+◌, ◌<◌, List, map, Bool, true, false, if◌then◌else◌, Option, None, ℤ}
use Rattle.std.proofs.Common.{refl, sym, ap, ◌∙◌, subst, arith}
use Rattle.std.specs.List.{filter, range_with_len}
use Rattle.pram_model.specs.Layout.{total_size}
use Rattle.pram_values.specs.declared.place.Place.TheVariants.{Processor}
use Rattle.pram_values.specs.Total.{total}
use Rattle.pram_values.proofs.Totals.{total_same, total_within}
use Rattle.write_rules.specs.Rule.{shares_reads}
use Rattle.superstep_instructions.specs.declared.instr.Side.TheVariants.{Uniform, Private}
use Rattle.superstep_instructions.specs.declared.instr.Instr.{Instr}
use Rattle.superstep_instructions.specs.Code.{SuperstepCode}
use Rattle.superstep_machine.specs.declared.key.Key.{Key}
use Rattle.superstep_machine.specs.Keys.{least}
use Rattle.superstep_machine.specs.Parts.{Registers, UniformPart, PrivatePart}
use Rattle.superstep_machine.specs.Steps.{index_of, is_active}
use Rattle.pram_check.specs.Bounded.{Names, names_of, with_locals}
use Rattle.pram_meaning.specs.Store.{View, seen, seen_by}
use Rattle.flat_machine.specs.Flat.{Flat}
use Rattle.flat_machine.proofs.Late.{least_last}
use Rattle.superstep_machine.proofs.KeyOrder.{none_least}
use Rattle.flat_stretches.specs.Applied.{IsBare, AsksNone}
use Rattle.flat_stretches.specs.Folds.{acts_at_once}
use Rattle.flat_stretches.specs.Leaving.{IsLeft}
use Rattle.flat_stretches.specs.Notes.{notes}
use Rattle.flat_stretches.proofs.Folds.{folds_stay_bare}
use Rattle.flat_stretches.proofs.Joins.{acts_at_once_join}
use Rattle.flat_stretches.proofs.Notes.{notes_join}
use Rattle.statement_evaluation.specs.Whole.{value}
use Rattle.statement_evaluation.specs.Noted.{note_key, notes_behind, noted_in}
use Rattle.plain_form.specs.Formulas.{Formula, Pair, positions, nesting}
use Rattle.plain_form.specs.Regions.{region}
use Rattle.plain_form.specs.Groups.{groups, stack, evaluated, value_at, second_at}
use Rattle.compiled_formulas.specs.Terms.{term, steps_in}
use Rattle.compiled_formulas.specs.Environments.{IsNamed, IsFree, Shows}
use Rattle.compiled_formulas.specs.Headings.{heading_of}
use Rattle.compiled_formulas.specs.Inside.{active_ones, row_in, FormulasAreEvaluatedInside, PairsAreEvaluatedInside}
use Rattle.compiled_formulas.proofs.Lone.{moves, wrongs}
use Rattle.compiled_formulas.proofs.Levels.{around, levels, levels_are_all}
use Rattle.compiled_formulas.proofs.Shown.{still_shows}
use Rattle.compiled_formulas.proofs.RegionValues.{IsReady, IsRegion, region_is, region_gives_second}
use Rattle.compiled_formulas.proofs.Asks.{region_asks}
use Rattle.compiled_formulas.proofs.Parts.{AreParts, region_parts, of_all}
use Rattle.compiled_formulas.proofs.Kept.{private_evaluates, private_above, left_by, stands_by}
use Rattle.compiled_formulas.proofs.StepNotes.{all_notes}
use Rattle.compiled_formulas.proofs.AtRest.{stays_at_rest}
use Rattle.compiled_formulas.proofs.PrivateSteps.{keys_by, private_own, private_notes}
use Rattle.compiled_formulas.proofs.ReadColumns.{column_key, conflicts_of_all, no_conflicts_around}
use Rattle.compiled_formulas.proofs.Outside.{none_read}
use Rattle.compiled_formulas.proofs.InsideLevels.{Stage, own_keys, column, conflict_keys, levels_key, IsBehind}
use Rattle.compiled_formulas.proofs.InsideLevels.{more_levels}
use Rattle.compiled_formulas.proofs.InsideNotes.{all_noted}
use Rattle.compiled_formulas.proofs.Sums.{sum_of, sums_join}

module _ (code : SuperstepCode) (n : Names) (base : ℕ) (free : IsFree Private n base) (s : ℕ → View)
    (same : (v : ℕ) → code.layout ≡ (s v).layout) where
  module _ (e : Formula) (named : IsNamed n e) (f : Flat)
      (shows : (v : ℕ) → v < f.uniform.width → Shows Private n (s v) f.uniform.registers (f.own v).registers f.memory) (bare : IsBare f)
      (rests : AsksNone f) where
    abbrev b : ℕ
    b = stack base e

    abbrev u : UniformPart
    u = f.uniform

    abbrev active : ℕ → Bool
    active v = is_active (f.own v)

    abbrev before : List Instr
    before = groups Private (nesting e) 0 e base b

    abbrev last : List Instr
    last = region Private e base b 0

    abbrev between : Flat
    between = acts_at_once code before f

    abbrev end : Flat
    end = acts_at_once code (evaluated Private base e) f

    groups_done : IsBehind code n base free s same e base b named (omega arith) (omega arith) u f.memory active rests.asks rests.awaited
        (0 + nesting e) before
        (levels_key code n base free s same e base b named (omega arith) (omega arith) u f.memory active rests.asks rests.awaited
        (nesting e)
        0) f
    groups_done =
        more_levels code n base free s same e base b named (omega arith) (omega arith) u f.memory active rests.asks rests.awaited
        (nesting e) 0 f (record {
          uniform = refl;
          cells = refl;
          present = λ v. refl;
          shows = shows;
          known = λ v w a. none_read (s v) e base (f.own v).registers;
          bare = bare;
          rests = rests;
        })

    stage : Stage code n base free s same e base b named (omega arith) (omega arith) u f.memory active rests.asks rests.awaited
        (0 + nesting e) between
    stage = let k = groups_done in k.stage

    parts : AreParts base Private last
    parts = region_parts base Private e base b 0 (omega arith)

    ready : (v : ℕ) → v < u.width → active v ≡ true →
        IsReady Private n base free (s v) u.registers (0 + nesting e) f.memory e base b (between.own v).registers
    ready v w a =
        let g = stage in
        record { shows = g.shows v w; known = g.known v w a; deep = omega arith; named = named; above = omega arith; apart = omega arith }

    region_done : (v : ℕ) → v < u.width → active v ≡ true →
        IsRegion Private n base free (s v) u.registers (heading_of f) (Processor (index_of u v)) e base b 0 (between.own v).registers
    region_done v w a =
        region_is Private n base free (s v) u.registers (heading_of f) (Processor (index_of u v)) (0 + nesting e) f.memory e base b 0
        (between.own v).registers (ready v w a)

    end_is : end ≡ acts_at_once code last between
    end_is = acts_at_once_join code before last f

    registers : (v : ℕ) → active v ≡ true → (end.own v).registers ≡ moves (s v).layout u.registers last (between.own v).registers
    registers v a =
        let g = stage in
        ap (λ (x : Flat). (x.own v).registers) end_is
        ∙ ap (λ (x : PrivatePart). x.registers) (private_own code base last between v parts (g.present v ∙ a))
        ∙ (λ i. let w : UniformPart = g.uniform i in moves (same v i) w.registers last (between.own v).registers)

    pub gives_value : (v : ℕ) → v < u.width → active v ≡ true → (end.own v).registers (value_at Private base e) ≡ value (s v) (term e)
    gives_value v w a = let k = region_done v w a in (λ i. registers v a i (value_at Private base e)) ∙ k.gives

    pub is_left : (any : ℕ) → IsLeft any f end
    is_left any = left_by code any (evaluated Private base e) f bare rests (of_all base Private _ (private_evaluates base any) refl refl e)

    pub end_rests : AsksNone end
    end_rests =
        let g = stage in
        subst AsksNone (sym end_is)
        (stays_at_rest code base (s 0).layout u.registers Private last (between.own 0).registers between parts
        (region_asks Private (s 0) u.registers e base b 0 (between.own 0).registers) g.rests)

    -- ---- notes

    abbrev keys_of : ℕ → ℕ → Formula → Option Key
    keys_of = own_keys code n base free s same e base b named (omega arith) (omega arith) u f.memory active rests.asks rests.awaited

    abbrev conflicts_by : ℕ → Formula → Option Key
    conflicts_by =
        conflict_keys code n base free s same e base b named (omega arith) (omega arith) u f.memory active rests.asks rests.awaited

    abbrev columns : ℕ → ℕ → Option ℕ
    columns = column code n base free s same e base b named (omega arith) (omega arith) u f.memory active rests.asks rests.awaited

    abbrev all_columns : Option Key
    all_columns =
        total None least (column_key (heading_of f) (total_size code.layout) (filter active (range_with_len 0 u.width)) columns)
        (range_with_len 0 (positions e))

    region_notes : notes code last between ≡ sum_of u.width active (λ v. around (keys_of v) e 0)
    region_notes =
        let g = stage in
        private_notes code base last between parts
        ∙ (λ i. let w : UniformPart = g.uniform i in
        total None least (λ v. if g.present v i then keys_by code base last between v else None) (range_with_len 0 w.width))
        ∙ total_within None least (λ v. if active v then keys_by code base last between v else None)
        (λ v. if active v then around (keys_of v) e 0 else None) u.width 0 (λ v w. go v (omega (arith, w)) (active v) refl)
      where
        go : (v : ℕ) → v < u.width → (c : Bool) → active v ≡ c →
            (if c then keys_by code base last between v else None) ≡ (if c then around (keys_of v) e 0 else None)
        go v w true a =
            let k = region_done v w a in
            let g = stage in
            (λ i. let x : UniformPart = g.uniform i in
            wrongs (same v i) x.registers (λ q k. note_key (record { count = x.count; line = x.line }) q (Processor (index_of x v)) k) last
            (between.own v).registers)
            ∙ k.notes
        go v w false a = refl

    own_sums : sum_of u.width active (λ v. least (levels (keys_of v) (nesting e) 0 e 0) (around (keys_of v) e 0))
        ≡ sum_of u.width active (λ v. notes_behind (heading_of f) 0 (Processor (index_of u v)) (steps_in (s v) e))
    own_sums =
        total_same None least (λ v. if active v then least (levels (keys_of v) (nesting e) 0 e 0) (around (keys_of v) e 0) else None)
        (λ v. if active v then notes_behind (heading_of f) 0 (Processor (index_of u v)) (steps_in (s v) e) else None)
        (λ v. ap (λ k. if active v then k else None)
        (levels_are_all (keys_of v) e (nesting e) 0 (omega arith) ∙ all_notes (heading_of f) (Processor (index_of u v)) (s v) e 0))
        (range_with_len 0 u.width)

    conflict_sums : levels conflicts_by (nesting e) 0 e 0 ≡ all_columns
    conflict_sums =
        let vs = filter active (range_with_len 0 u.width) in
        let size = total_size code.layout in
        sym (none_least (levels conflicts_by (nesting e) 0 e 0))
        ∙ ap (least (levels conflicts_by (nesting e) 0 e 0)) (sym (no_conflicts_around (heading_of f) size vs columns e 0))
        ∙ levels_are_all conflicts_by e (nesting e) 0 (omega arith)
        ∙ conflicts_of_all (heading_of f) size vs columns s e 0
        (λ v i k. ap (λ d. columns d v) (let j : 0 + i ≡ i = omega arith in j))

    pub tells_notes : notes code (evaluated Private base e) f
        ≡ least (sum_of u.width active (λ v. notes_behind (heading_of f) 0 (Processor (index_of u v)) (steps_in (s v) e)))
        (if shares_reads code.rule then None else all_columns)
    tells_notes =
        let k = groups_done in
        let x = sum_of u.width active (λ v. levels (keys_of v) (nesting e) 0 e 0) in
        let c = if shares_reads code.rule then None else levels conflicts_by (nesting e) 0 e 0 in
        let y = sum_of u.width active (λ v. around (keys_of v) e 0) in
        notes_join code before last f
        ∙ (λ i. least (k.notes i) (region_notes i))
        ∙ sym (least_last x c y)
        ∙ (λ i. least ((sums_join u.width active (λ v. levels (keys_of v) (nesting e) 0 e 0) (λ v. around (keys_of v) e 0) ∙ own_sums) i)
        (if shares_reads code.rule then None else conflict_sums i))

  pub gives_second : (d e : Formula) (named : IsNamed n (Pair d e)) (f : Flat) →
      ((v : ℕ) → v < f.uniform.width → Shows Private n (s v) f.uniform.registers (f.own v).registers f.memory) → IsBare f → AsksNone f →
      (v : ℕ) → v < f.uniform.width → is_active (f.own v) ≡ true →
      ((acts_at_once code (evaluated Private base (Pair d e)) f).own v).registers (second_at Private base d e) ≡ value (s v) (term e)
  gives_second d e named f shows bare rests v w a =
      (λ i. registers (Pair d e) named f shows bare rests v a i (second_at Private base d e))
      ∙ region_gives_second Private n base free (s v) f.uniform.registers (heading_of f) (Processor (index_of f.uniform v))
      (0 + nesting (Pair d e)) f.memory d e base (stack base (Pair d e)) 0
      ((between (Pair d e) named f shows bare rests).own v).registers (ready (Pair d e) named f shows bare rests v w a)

pub formulas_are_evaluated_inside : FormulasAreEvaluatedInside
formulas_are_evaluated_inside code p locals m base e f h =
    let names = with_locals locals (names_of p) in
    let free : IsFree Private names base = (locals, refl, h.3) in
    let start = h.4 in
    let same = λ (v : ℕ). h.0 in
    let s = λ (v : ℕ). seen_by p m v in
    let end = acts_at_once code (evaluated Private base e) f in
    let left = is_left code names base free s same e h.2 f start.shows start.bare start.rests in
    let none = left 0 in
    let memory : f.memory ≡ end.memory = sym (λ i c. none.memory c i) in
    let uniforms : f.uniform.registers ≡ end.uniform.registers = sym (λ i r. (let k = left (r + 1) in k.registers r (omega arith)) i) in
    let stands = stands_by code base (evaluated Private base e) f start.bare start.rests
    (of_all base Private _ (private_above base) refl refl e) in
    record {
      gives = gives_value code names base free s same e h.2 f start.shows start.bare start.rests;
      shows = record {
        width = none.width ∙ start.width;
        members = λ v w. (λ i. index_of (let x : UniformPart = record f.uniform { low = none.low i } in x) v)
            ∙ start.members v (subst (λ (k : ℕ). v < k) none.width w);
        outside = subst (λ (r : Registers). Shows Uniform (names_of p) (seen p m) r r end.memory) uniforms
            (subst (λ (k : ℕ → ℤ). Shows Uniform (names_of p) (seen p m) f.uniform.registers f.uniform.registers k) memory start.outside);
        shows = λ v w. subst (λ (r : Registers). Shows Private names (s v) r (end.own v).registers end.memory) uniforms
            (subst (λ (k : ℕ → ℤ). Shows Private names (s v) f.uniform.registers (end.own v).registers k) memory
            (still_shows names base Private free (s v) f.uniform.registers (f.own v).registers (end.own v).registers f.memory
            (λ r k. stands.flags v r (omega arith) k) (start.shows v (subst (λ (k : ℕ). v < k) none.width w))));
        bare = folds_stay_bare code (evaluated Private base e) f start.bare;
        rests = end_rests code names base free s same e h.2 f start.shows start.bare start.rests;
      };
      left = left;
      masks = stands.masks;
      registers = λ v r k. stands.flags v r (omega arith) k;
      tells = tells_notes code names base free s same e h.2 f start.shows start.bare start.rests
          ∙ all_noted (heading_of f) p m e f.uniform.width (λ v. is_active (f.own v)) (index_of f.uniform) start.members code.rule
          (total_size code.layout) (positions e)
          ∙ (λ i. noted_in (heading_of f) (h.1 i) (total_size (h.0 i)) (positions e) (map (row_in p m e) (active_ones f)));
    }

pub pairs_are_evaluated_inside : PairsAreEvaluatedInside
pairs_are_evaluated_inside code p locals m base d e f h v w a =
    let names = with_locals locals (names_of p) in
    let free : IsFree Private names base = (locals, refl, h.3) in
    let start = h.4 in
    let same = λ (v : ℕ). h.0 in
    let s = λ (v : ℕ). seen_by p m v in (
      gives_value code names base free s same (Pair d e) h.2 f start.shows start.bare start.rests v w a,
      gives_second code names base free s same d e h.2 f start.shows start.bare start.rests v w a,
    )
