-- Outside pardo: the levels of reads of a formula, one behind the other.
use Rattle.std.proofs.Common.{◌≡◌, ℕ, zero, suc, ◌+◌, ◌≤◌, List, [], ◌∷◌, ◌++◌, map, Bool, true, false, if◌then◌else◌}
use Rattle.std.proofs.Common.{Option, None, ℤ, refl, sym, ap, ◌∙◌, subst, arith}
use Rattle.pram_values.specs.declared.place.Place.TheVariants.{All}
use Rattle.write_rules.specs.Rule.{shares_reads}
use Rattle.superstep_instructions.specs.declared.instr.Side.TheVariants.{Uniform}
use Rattle.superstep_instructions.specs.declared.instr.Instr.{Instr}
use Rattle.superstep_instructions.specs.declared.instr.Instr.TheVariants.{Send, Reply}
use Rattle.superstep_instructions.specs.Code.{SuperstepCode}
use Rattle.superstep_machine.specs.declared.key.Key.{Key}
use Rattle.superstep_machine.specs.Keys.{least}
use Rattle.superstep_machine.specs.Parts.{zeros, Read}
use Rattle.superstep_machine.specs.Run.{is_held}
use Rattle.pram_check.specs.Bounded.{Names}
use Rattle.pram_meaning.specs.Store.{View}
use Rattle.flat_machine.specs.Flat.{Flat, conflicts, read_conflicts}
use Rattle.flat_machine.proofs.Late.{none_owed}
use Rattle.superstep_machine.proofs.KeyOrder.{none_least}
use Rattle.flat_stretches.specs.Applied.{IsBare, AsksNone}
use Rattle.flat_stretches.specs.Folds.{acts_at_once}
use Rattle.flat_stretches.specs.Leaving.{IsLeft}
use Rattle.flat_stretches.specs.Notes.{notes}
use Rattle.flat_stretches.specs.Reads.{answered}
use Rattle.flat_stretches.proofs.Folds.{folds_stay_bare}
use Rattle.flat_stretches.proofs.Joins.{acts_at_once_join}
use Rattle.flat_stretches.proofs.Notes.{notes_join}
use Rattle.flat_stretches.proofs.ReadLemmas.{reads_are_answered}
use Rattle.statement_evaluation.specs.Noted.{Heading, note_key}
use Rattle.plain_form.specs.Formulas.{Formula, reads}
use Rattle.plain_form.specs.Groups.{asks, groups}
use Rattle.compiled_formulas.specs.Environments.{IsNamed, IsFree, Shows}
use Rattle.compiled_formulas.specs.Headings.{heading_of}
use Rattle.compiled_formulas.proofs.Lone.{moves, asks_in, wrongs}
use Rattle.compiled_formulas.proofs.Levels.{at_level, levels}
use Rattle.compiled_formulas.proofs.Shown.{still_shows}
use Rattle.compiled_formulas.proofs.RegionValues.{own_key_at, AreRead, still_read}
use Rattle.compiled_formulas.proofs.LevelReads.{level_reads, delivered, answers_are}
use Rattle.compiled_formulas.proofs.AskedLevels.{asked_level}
use Rattle.compiled_formulas.proofs.Parts.{asks_parts, of_parts, of_group}
use Rattle.compiled_formulas.proofs.Kept.{uniform_evaluates, left_by}
use Rattle.compiled_formulas.proofs.UniformSteps.{held_in, uniform_registers, uniform_asks, uniform_notes, held_reads, no_conflicts}

-- nothing is left of the reads that were answered
pub answered_rests : (code : SuperstepCode) (f g : Flat) → g ≡ answered code f → AsksNone g
answered_rests code f g e = subst AsksNone (sym e)
    (record { asks = refl; awaited = refl; own_asks = λ v. refl; own_awaited = λ v. refl })

module _ (code : SuperstepCode) (n : Names) (base : ℕ) (free : IsFree Uniform n base) (s : View) (same : code.layout ≡ s.layout) where
  module _ (e : Formula) (t b : ℕ) (named : IsNamed n e) (above : base ≤ t) (apart : t + reads e ≤ b) where
    -- what is so before the reads of a level
    pub record Stage (l : ℕ) (f : Flat) : Type 0 where
      pub shows : Shows Uniform n s zeros f.uniform.registers f.memory
      pub known : AreRead s l e t f.uniform.registers
      pub bare : IsBare f
      pub rests : AsksNone f

    -- a send where no read has a conflict notes nothing
    no_conflict : (g : Flat) → IsBare g → read_conflicts code g 0 g.uniform.asks ≡ None → conflicts code g ≡ None
    no_conflict g bare none =
        (λ i. least (none_owed code g (ap is_held bare.put) i) (if shares_reads code.rule then None else none i))
        ∙ go (shares_reads code.rule)
      where
        go : (c : Bool) → (if c then (let x : Option Key = None in x) else None) ≡ None
        go true = refl
        go false = refl

    abbrev level_code : ℕ → List Instr
    level_code l = asks Uniform l e t b 0 ++ Send ∷ Reply ∷ []

    pub record IsBehind (l : ℕ) (is : List Instr) (key : Option Key) (f : Flat) : Type 0 where
      pub stage : Stage l (acts_at_once code is f)
      pub heading : heading_of (acts_at_once code is f) ≡ heading_of f
      pub notes : notes code is f ≡ key

    level_left : (l : ℕ) (f : Flat) → Stage l f → IsLeft t f (acts_at_once code (asks Uniform l e t b 0) f)
    level_left l f h =
        left_by code t (asks Uniform l e t b 0) f h.bare h.rests
        (of_parts t Uniform _ (uniform_evaluates t) refl refl (asks Uniform l e t b 0)
        (asks_parts t Uniform l e t b 0 (omega arith) (omega (arith, apart))))

    pub one_level : (l : ℕ) (f : Flat) → Stage l f →
        IsBehind (l + 1) (level_code l) (at_level (own_key_at (heading_of f) All s) l e 0) f
    one_level l f h =
        let is = asks Uniform l e t b 0 in
        let parts = asks_parts base Uniform l e t b 0 above (omega (arith, above, apart)) in
        let u = f.uniform.registers in
        let g = acts_at_once code is f in
        let g_bare = folds_stay_bare code is f h.bare in
        let left = level_left l f h in
        let end = acts_at_once code (level_code l) f in
        let end_is : end ≡ answered code g = ap (λ (k : Flat). k) (acts_at_once_join code is (Send ∷ Reply ∷ []) f)
        ∙ reads_are_answered code g g_bare in
        let done = asked_level Uniform n base free s zeros f.memory (heading_of f) All l e t b 0 u (record {
          shows = h.shows;
          known = h.known;
          named = named;
          above = above;
          apart = apart;
        }) in
        let w = moves s.layout zeros is u in
        let registers : g.uniform.registers ≡ w = uniform_registers code base zeros is f parts
        ∙ (λ i. moves (same i) zeros is u) in
        let asks_are : g.uniform.asks ≡ held_in code base zeros (heading_of f) is u =
        uniform_asks code base zeros is f parts ∙ (λ i. h.rests.asks i ++ held_in code base zeros (heading_of f) is u) in
        let pairs_are : map (λ (x : Read). (x.destination, x.cell)) g.uniform.asks ≡ level_reads s l e t =
        ap (map (λ (x : Read). (x.destination, x.cell))) asks_are
        ∙ held_reads code base zeros (heading_of f) is u parts ∙ (λ i. asks_in (same i) zeros is u) ∙ done.cells in
        let memory : g.memory ≡ f.memory = λ i c. left.memory c i in
        let here : (d : ℕ) → end.uniform.registers d ≡ delivered f.memory d (level_reads s l e t) (w d) =
        λ d. ap (λ (k : Flat). k.uniform.registers d) end_is
        ∙ answers_are g.memory d 0 (map (λ (x : Read). (x.destination, x.cell)) g.uniform.asks) g.uniform.registers
        ∙ (λ i. delivered (memory i) d (pairs_are i) (registers i d)) in
        let end_memory : end.memory ≡ f.memory = ap (λ (k : Flat). k.memory) end_is ∙ memory in
        let whole_left : IsLeft t f end = left_by code t (level_code l) f h.bare h.rests
        (of_group t Uniform _ (uniform_evaluates t) refl refl l e t b (omega arith) (omega (arith, apart))) in
        let no_reads : read_conflicts code g 0 g.uniform.asks ≡ None =
        ap (read_conflicts code g 0) asks_are ∙ no_conflicts code base zeros g (heading_of f) is u parts 0 in
        record {
          stage = record {
            shows = subst (λ (m : ℕ → ℤ). Shows Uniform n s zeros end.uniform.registers m)
                (sym (let k : end.memory ≡ f.memory = λ i c. whole_left.memory c i in k))
                (still_shows n base Uniform free s zeros u end.uniform.registers f.memory
                (λ x k. whole_left.registers x (omega (arith, k, above))) h.shows);
            known = still_read s (l + 1) e t (λ d. delivered f.memory d (level_reads s l e t) (w d)) end.uniform.registers
                (λ x low high. here x) done.read;
            bare = folds_stay_bare code (level_code l) f h.bare;
            rests = answered_rests code g end end_is;
          };
          heading = λ i. record { count = whole_left.count i; line = whole_left.line i };
          notes = notes_join code is (Send ∷ Reply ∷ []) f
              ∙ (λ i. least ((uniform_notes code base zeros is f parts
              ∙ (λ i. wrongs (same i) zeros (λ q k. note_key (heading_of f) q All k) is u) ∙ done.notes) i)
              (none_least (no_conflict g g_bare no_reads i) i))
              ∙ none_least (at_level (own_key_at (heading_of f) All s) l e 0);
        }

    -- ---- n levels

    pub more_levels : (k l : ℕ) (f : Flat) → Stage l f →
        IsBehind (l + k) (groups Uniform k l e t b) (levels (own_key_at (heading_of f) All s) k l e 0) f
    more_levels zero l f h = record {
      stage = subst (λ (m : ℕ). Stage m f) (let a : l ≡ l + 0 = omega arith in a) h;
      heading = refl;
      notes = refl;
    }
    more_levels (suc k) l f h =
        let first = one_level l f h in
        let g = acts_at_once code (level_code l) f in
        let rest = more_levels k (l + 1) g first.stage in
        let join : acts_at_once code (groups Uniform (suc k) l e t b) f ≡ acts_at_once code (groups Uniform k (l + 1) e t b) g =
        acts_at_once_join code (level_code l) (groups Uniform k (l + 1) e t b) f in
        record {
          stage = subst (λ (x : Flat). Stage (l + suc k) x) (sym join)
              (subst (λ (m : ℕ). Stage m (acts_at_once code (groups Uniform k (l + 1) e t b) g))
              (let a : l + 1 + k ≡ l + suc k = omega arith in a) rest.stage);
          heading = ap heading_of join ∙ rest.heading ∙ first.heading;
          notes = notes_join code (level_code l) (groups Uniform k (l + 1) e t b) f
              ∙ (λ i. least (first.notes i) ((rest.notes
              ∙ ap (λ (x : Heading). levels (own_key_at x All s) k (l + 1) e 0) first.heading) i));
        }
