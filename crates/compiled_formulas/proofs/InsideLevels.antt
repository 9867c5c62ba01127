-- Inside pardo: the levels of reads of a formula, for all active processors at once.
use Rattle.std.proofs.Common.{◌≡◌, ℕ, zero, suc, ◌+◌, ◌<◌, ◌≤◌, List, [], ◌∷◌, ◌++◌, map, get_or, Bool, true, false, if◌then◌else◌}
use Rattle.std.proofs.Common.{Option, None, ℤ, refl, sym, ap, ◌∙◌, subst, arith}
use Rattle.std.specs.List.{AllByRecursion, filter, range_with_len, zip}
use Rattle.pram_model.specs.Layout.{total_size}
use Rattle.pram_values.specs.declared.place.Place.TheVariants.{Processor}
use Rattle.pram_values.specs.Total.{total}
use Rattle.pram_values.proofs.Totals.{total_within, middle}
use Rattle.write_rules.specs.Rule.{shares_reads}
use Rattle.superstep_instructions.specs.declared.instr.Side.TheVariants.{Private}
use Rattle.superstep_instructions.specs.declared.instr.Instr.{Instr}
use Rattle.superstep_instructions.specs.declared.instr.Instr.TheVariants.{Send, Reply}
use Rattle.superstep_instructions.specs.Code.{SuperstepCode}
use Rattle.superstep_machine.specs.declared.key.Key.{Key}
use Rattle.superstep_machine.specs.Keys.{least}
use Rattle.superstep_machine.specs.Parts.{Read, UniformPart, PrivatePart}
use Rattle.superstep_machine.specs.Run.{is_held}
use Rattle.superstep_machine.specs.Sending.{cell_at}
use Rattle.superstep_machine.specs.Steps.{index_of, is_active, under}
use Rattle.superstep_machine.specs.Answering.{answers, destinations}
use Rattle.superstep_machine.proofs.KeyOrder.{keys_are_monoid, none_least}
use Rattle.pram_check.specs.Bounded.{Names}
use Rattle.pram_meaning.specs.Store.{View}
use Rattle.flat_machine.specs.Flat.{Flat, conflicts, read_conflicts}
use Rattle.flat_machine.proofs.Late.{none_owed}
use Rattle.flat_stretches.specs.Applied.{IsBare, AsksNone}
use Rattle.flat_stretches.specs.Folds.{acts_at_once}
use Rattle.flat_stretches.specs.Notes.{notes}
use Rattle.flat_stretches.specs.Reads.{answered}
use Rattle.flat_stretches.proofs.Folds.{folds_stay_bare}
use Rattle.flat_stretches.proofs.Idle.{idle_stay}
use Rattle.flat_stretches.proofs.Joins.{acts_at_once_join}
use Rattle.flat_stretches.proofs.Notes.{notes_join}
use Rattle.flat_stretches.proofs.ReadLemmas.{reads_are_answered}
use Rattle.statement_evaluation.specs.Rows.{trail}
use Rattle.statement_evaluation.specs.Noted.{Heading, note_key}
use Rattle.plain_form.specs.Formulas.{Formula, reads, positions}
use Rattle.plain_form.specs.Groups.{asks, groups}
use Rattle.compiled_formulas.specs.Terms.{steps_in}
use Rattle.compiled_formulas.specs.Environments.{IsNamed, IsFree, Shows}
use Rattle.compiled_formulas.proofs.Lone.{moves, asks_in, wrongs}
use Rattle.compiled_formulas.proofs.Levels.{at_level, levels}
use Rattle.compiled_formulas.proofs.Sums.{sum_of, if_none, unless_both, sums_join, sum_none}
use Rattle.compiled_formulas.proofs.Shown.{still_shows}
use Rattle.compiled_formulas.proofs.RegionValues.{own_key_at, AreRead, still_read}
use Rattle.compiled_formulas.proofs.LevelReads.{level_reads, delivered, answers_are}
use Rattle.compiled_formulas.proofs.Asks.{IsAsked}
use Rattle.compiled_formulas.proofs.AskedLevels.{asked_level}
use Rattle.compiled_formulas.proofs.Parts.{AreParts, asks_parts, of_parts, of_group}
use Rattle.compiled_formulas.proofs.Kept.{private_evaluates, private_above, part_keeps_masks, left_by, stands_by}
use Rattle.compiled_formulas.proofs.OutsideLevels.{answered_rests}
use Rattle.compiled_formulas.proofs.PrivateSteps.{cells_of, slots_in, with_reads, does_all, keys_by, private_uniform, private_masks}
use Rattle.compiled_formulas.proofs.PrivateSteps.{private_own}
use Rattle.compiled_formulas.proofs.PrivateSteps.{private_notes, no_cells, zipped}
use Rattle.compiled_formulas.proofs.Slots.{level_slots, level_count, asks_slots}
use Rattle.compiled_formulas.proofs.ReadColumns.{conflict_at_read, Agrees}
use Rattle.compiled_formulas.proofs.LevelConflicts.{conflicts_of_level, Asks}

-- the registers and cells of reads
abbrev pairs_of : List Read → List (ℕ × Option ℕ)
pairs_of = map (λ (x : Read). (x.destination, x.cell))

abbrev heading : UniformPart → Heading
heading u = record { count = u.count; line = u.line }

module _ (code : SuperstepCode) (n : Names) (base : ℕ) (free : IsFree Private n base) (s : ℕ → View)
    (same : (v : ℕ) → code.layout ≡ (s v).layout) where
  module _ (e : Formula) (t b : ℕ) (named : IsNamed n e) (above : base ≤ t) (apart : t + reads e ≤ b) (u : UniformPart)
      (memory : ℕ → ℤ) (active : ℕ → Bool) (no_asks : u.asks ≡ []) (none_awaited : u.awaited ≡ []) where
    -- what is so before the reads of a level
    pub record Stage (l : ℕ) (f : Flat) : Type 0 where
      pub uniform : f.uniform ≡ u
      pub cells : f.memory ≡ memory
      pub present : (v : ℕ) → is_active (f.own v) ≡ active v
      pub shows : (v : ℕ) → v < u.width → Shows Private n (s v) u.registers (f.own v).registers memory
      pub known : (v : ℕ) → v < u.width → active v ≡ true → AreRead (s v) l e t (f.own v).registers
      pub bare : IsBare f
      pub rests : AsksNone f

    abbrev level_code : ℕ → List Instr
    level_code l = asks Private l e t b 0 ++ Send ∷ Reply ∷ []

    abbrev pub own_keys : ℕ → ℕ → Formula → Option Key
    own_keys v = own_key_at (heading u) (Processor (index_of u v)) (s v)

    abbrev pub column : ℕ → ℕ → Option ℕ
    column d v = get_or (trail (steps_in (s v) e)) d None

    abbrev pub conflict_keys : ℕ → Formula → Option Key
    conflict_keys = conflict_at_read (heading u) (total_size code.layout) (filter active (range_with_len 0 u.width)) column

    -- a key where the rule doesn't share reads
    abbrev pub unless_shared : Option Key → Option Key
    unless_shared k = if shares_reads code.rule then None else k

    abbrev pub level_key : ℕ → Option Key
    level_key l = least (sum_of u.width active (λ v. at_level (own_keys v) l e 0)) (unless_shared (at_level conflict_keys l e 0))

    abbrev pub levels_key : (k l : ℕ) → Option Key
    levels_key k l = least (sum_of u.width active (λ v. levels (own_keys v) k l e 0)) (unless_shared (levels conflict_keys k l e 0))

    pub record IsBehind (l : ℕ) (is : List Instr) (key : Option Key) (f : Flat) : Type 0 where
      pub stage : Stage l (acts_at_once code is f)
      pub notes : notes code is f ≡ key

    module _ (l : ℕ) (f : Flat) (h : Stage l f) where
      abbrev is : List Instr
      is = asks Private l e t b 0

      abbrev g : Flat
      g = acts_at_once code is f

      parts : AreParts base Private is
      parts = asks_parts base Private l e t b 0 above (omega (arith, above, apart))

      g_uniform : g.uniform ≡ with_reads (slots_in (heading u) is) u
      g_uniform = private_uniform code base is f parts ∙ ap (λ (w : UniformPart). with_reads (slots_in (heading w) is) w) h.uniform

      done : (v : ℕ) → v < u.width → active v ≡ true →
          IsAsked Private n base free (s v) u.registers memory (heading u) (Processor (index_of u v)) l e t b (f.own v).registers is
          (level_reads (s v) l e t) (at_level (own_keys v) l e 0)
      done v w a = asked_level Private n base free (s v) u.registers memory (heading u) (Processor (index_of u v)) l e t b 0
          (f.own v).registers (record { shows = h.shows v w; known = h.known v w a; named = named; above = above; apart = apart })

      g_own : (v : ℕ) → active v ≡ true → g.own v ≡ does_all code base u.registers is (f.own v)
      g_own v a = private_own code base is f v parts (h.present v ∙ a)
          ∙ ap (λ (w : UniformPart). does_all code base w.registers is (f.own v)) h.uniform

      g_memory : g.memory ≡ memory
      g_memory =
          let left = left_by code 0 is f h.bare h.rests (of_parts base Private _ (private_evaluates base 0) refl refl is parts) in
          (λ i c. left.memory c i) ∙ h.cells

      g_bare : IsBare g
      g_bare = folds_stay_bare code is f h.bare

      g_asks : g.uniform.asks ≡ level_slots (heading u) l e t 0
      g_asks = ap (λ (w : UniformPart). w.asks) g_uniform ∙ (λ i. no_asks i ++ asks_slots (heading u) l e t b 0 i)

      own_asks : (v : ℕ) → v < u.width → active v ≡ true → (g.own v).asks ≡ cells_of (level_reads (s v) l e t)
      own_asks v w a =
          let k = done v w a in
          ap (λ (x : PrivatePart). x.asks) (g_own v a)
          ∙ (λ i. h.rests.own_asks v i ++ cells_of (((λ i. asks_in (same v i) u.registers is (f.own v).registers) ∙ k.cells) i))

      idle : (v : ℕ) → active v ≡ false → AllByRecursion (λ (c : Option ℕ). c ≡ None) (g.own v).asks
      idle v a =
          let stays = idle_stay code is f v (of_parts base Private _ (part_keeps_masks base Private) refl refl is parts) (record {
            inactive = h.present v ∙ a;
            asks = subst (λ (xs : List (Option ℕ)). AllByRecursion (λ (c : Option ℕ). c ≡ None) xs) (sym (h.rests.own_asks v)) tt;
            awaited = subst (λ (xs : List (Option ℕ)). AllByRecursion (λ (c : Option ℕ). c ≡ None) xs) (sym (h.rests.own_awaited v)) tt;
          }) in
          let k = stays.idle in k.asks

      g_width : g.uniform.width ≡ u.width
      g_width = ap (λ (w : UniformPart). w.width) g_uniform

      agrees : Agrees (heading u) (total_size code.layout) (filter active (range_with_len 0 g.uniform.width)) column 0 (positions e)
          (λ v. steps_in (s v) e)
      agrees v i k = ap (λ d. column d v) (let j : 0 + i ≡ i = omega arith in j)

      asks_cells : Asks code g (heading u) active s column idle 0 (level_count l e) (λ v. cells_of (level_reads (s v) l e t))
      asks_cells v w a i k =
          ap (λ d. cell_at d (g.own v).asks) (let j : 0 + i ≡ i = omega arith in j)
          ∙ ap (cell_at i) (own_asks v (subst (λ (x : ℕ). v < x) g_width w) a)

      g_conflicts : conflicts code g ≡ unless_shared (at_level conflict_keys l e 0)
      g_conflicts =
          (λ i. least (none_owed code g (ap is_held g_bare.put) i) (if shares_reads code.rule then None else
          (ap (read_conflicts code g 0) g_asks
          ∙ conflicts_of_level code g (heading u) active s column idle l e t 0 0 agrees asks_cells
          ∙ ap (λ (w : ℕ). at_level
          (conflict_at_read (heading u) (total_size code.layout) (filter active (range_with_len 0 w)) column) l e 0)
          g_width) i))

      g_notes : notes code is f ≡ sum_of u.width active (λ v. at_level (own_keys v) l e 0)
      g_notes =
          private_notes code base is f parts
          ∙ (λ i. total None least (λ v. if h.present v i then keys_by code base is f v else None) (range_with_len 0 (h.uniform i).width))
          ∙ total_within None least (λ v. if active v then keys_by code base is f v else None)
          (λ v. if active v then at_level (own_keys v) l e 0 else None) u.width 0 (λ v w. go v (omega (arith, w)) (active v) refl)
        where
          go : (v : ℕ) → v < u.width → (c : Bool) → active v ≡ c →
              (if c then keys_by code base is f v else None) ≡ (if c then at_level (own_keys v) l e 0 else None)
          go v w true a =
              let k = done v w a in
              (λ i. let x : UniformPart = h.uniform i in
              wrongs (same v i) x.registers (λ q k. note_key (heading x) q (Processor (index_of x v)) k) is (f.own v).registers)
              ∙ k.notes
          go v w false a = refl

      abbrev end : Flat
      end = acts_at_once code (level_code l) f

      end_is : end ≡ answered code g
      end_is = acts_at_once_join code is (Send ∷ Reply ∷ []) f ∙ reads_are_answered code g g_bare

      abbrev answer_all : UniformPart → UniformPart
      answer_all w = record w {
        registers = answers (λ k c. g.memory c) 0 (pairs_of w.asks) w.registers;
        asks = [];
        awaited = [];
      }

      end_uniform : end.uniform ≡ u
      end_uniform =
          let none : answers (λ k c. g.memory c) 0 (pairs_of (u.asks ++ slots_in (heading u) is)) u.registers ≡ u.registers =
          (λ i. answers (λ k c. g.memory c) 0 (pairs_of (no_asks i ++ slots_in (heading u) is)) u.registers)
          ∙ no_cells code base is (heading u) parts (λ k c. g.memory c) u.registers 0 in
          ap (λ (x : Flat). x.uniform) end_is ∙ ap answer_all g_uniform
          ∙ (λ i. record u { registers = none i; asks = sym no_asks i; awaited = sym none_awaited i })

      end_registers : (v : ℕ) → v < u.width → active v ≡ true → (d : ℕ) →
          (end.own v).registers d
          ≡ delivered memory d (level_reads (s v) l e t) (moves (s v).layout u.registers is (f.own v).registers d)
      end_registers v w a d =
          let k = done v w a in
          let own = g_own v a in
          let reads_are : zip (destinations g.uniform.asks) (g.own v).asks ≡ level_reads (s v) l e t =
          (λ i. zip (destinations (g_uniform i).asks) (own i).asks)
          ∙ (λ i. zip (destinations (no_asks i ++ slots_in (heading u) is))
          (h.rests.own_asks v i ++ cells_of (asks_in code.layout u.registers is (f.own v).registers)))
          ∙ zipped code base is (heading u) u.registers (f.own v).registers parts
          ∙ (λ i. asks_in (same v i) u.registers is (f.own v).registers) ∙ k.cells in
          let registers : (g.own v).registers ≡ moves (s v).layout u.registers is (f.own v).registers =
          ap (λ (x : PrivatePart). x.registers) own ∙ (λ i. moves (same v i) u.registers is (f.own v).registers) in
          ap (λ (x : Flat). (x.own v).registers d) end_is
          ∙ answers_are g.memory d 0 (zip (destinations g.uniform.asks) (g.own v).asks) (g.own v).registers
          ∙ (λ i. delivered (g_memory i) d (reads_are i) (registers i d))

      end_below : (v r : ℕ) → r < base → (end.own v).registers r ≡ (f.own v).registers r
      end_below v r k =
          let stands = stands_by code base (level_code l) f h.bare h.rests
          (of_group base Private _ (private_above base) refl refl l e t b above (omega (arith, above, apart))) in
          stands.flags v r (omega arith) k

      pub one_level : IsBehind (l + 1) (level_code l) (level_key l) f
      one_level = record {
        stage = record {
          uniform = end_uniform;
          cells = ap (λ (x : Flat). x.memory) end_is ∙ g_memory;
          present = λ v. ap (λ (x : Flat). is_active (x.own v)) end_is ∙ ap under (private_masks code base is f v parts) ∙ h.present v;
          shows = λ v w. still_shows n base Private free (s v) u.registers (f.own v).registers (end.own v).registers memory
              (λ r k. end_below v r k) (h.shows v w);
          known = λ v w a. let k = done v w a in
              still_read (s v) (l + 1) e t
              (λ d. delivered memory d (level_reads (s v) l e t) (moves (s v).layout u.registers is (f.own v).registers d))
              (end.own v).registers (λ d low high. end_registers v w a d) k.read;
          bare = folds_stay_bare code (level_code l) f h.bare;
          rests = answered_rests code g end end_is;
        };
        notes = notes_join code is (Send ∷ Reply ∷ []) f
            ∙ (λ i. least (g_notes i) ((none_least (conflicts code g) ∙ g_conflicts) i));
      }

    -- ---- n levels

    pub more_levels : (k l : ℕ) (f : Flat) → Stage l f → IsBehind (l + k) (groups Private k l e t b) (levels_key k l) f
    more_levels zero l f h = record {
      stage = subst (λ (m : ℕ). Stage m f) (let a : l ≡ l + 0 = omega arith in a) h;
      notes = λ i. least (sym (sum_none u.width active) i) (sym (if_none (shares_reads code.rule)) i);
    }
    more_levels (suc k) l f h =
        let first = one_level l f h in
        let g = acts_at_once code (level_code l) f in
        let rest = more_levels k (l + 1) g first.stage in
        let join : acts_at_once code (groups Private (suc k) l e t b) f ≡ acts_at_once code (groups Private k (l + 1) e t b) g =
        acts_at_once_join code (level_code l) (groups Private k (l + 1) e t b) f in
        let x = λ (v : ℕ). at_level (own_keys v) l e 0 in
        let y = λ (v : ℕ). levels (own_keys v) k (l + 1) e 0 in
        let c = at_level conflict_keys l e 0 in
        let d = levels conflict_keys k (l + 1) e 0 in
        record {
          stage = subst (λ (x : Flat). Stage (l + suc k) x) (sym join)
              (subst (λ (m : ℕ). Stage m (acts_at_once code (groups Private k (l + 1) e t b) g))
              (let a : l + 1 + k ≡ l + suc k = omega arith in a) rest.stage);
          notes = notes_join code (level_code l) (groups Private k (l + 1) e t b) f
              ∙ (λ i. least (first.notes i) (rest.notes i))
              ∙ middle None least keys_are_monoid (sum_of u.width active x) (unless_shared c) (sum_of u.width active y) (unless_shared d)
              ∙ (λ i. least (sums_join u.width active x y i) (unless_both (shares_reads code.rule) c d i));
        }
