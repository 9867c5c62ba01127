-- What a write outside pardo leaves and notes: there is one writer, whose value the cell gets under every rule.
use Rattle.std.proofs.Common.{◌≡◌, ◌≢◌, ℕ, ◌<◌, [], ◌∷◌, Bool, true, false, Option, Some, None, Ok, ℤ, pos, refl, sym, ap}
use Rattle.std.proofs.Common.{◌∙◌, arith, eqb, get_or, zero, suc, rules}
use Rattle.std.specs.Prelude.{slice_index_or, slice_set, if◌then◌else◌, FitsSigned}
use Rattle.std.specs.Int.{w64}
use Rattle.std.proofs.lemmas.List.{get_or-set_same, get_or-set_other}
use Rattle.pram_model.specs.declared.rule.Rule.{Rule}
use Rattle.pram_model.specs.Layout.{cell_of, total_size}
use Rattle.pram_values.specs.declared.place.Place.TheVariants.{All}
use Rattle.pram_values.specs.Value.{Value}
use Rattle.pram_values.proofs.Totals.{total_none, neutral_right}
use Rattle.write_rules.specs.declared.write.Write.{Write}
use Rattle.write_rules.specs.Combining.{AreWriters}
use Rattle.superstep_instructions.specs.declared.instr.Side.TheVariants.{Uniform}
use Rattle.superstep_instructions.specs.declared.instr.Instr.{Instr}
use Rattle.superstep_instructions.specs.declared.instr.Instr.TheVariants.{Put}
use Rattle.superstep_instructions.specs.Code.{SuperstepCode}
use Rattle.superstep_machine.specs.Keys.{least}
use Rattle.superstep_machine.specs.Results.{missing}
use Rattle.superstep_machine.specs.Sending.{join, verdict_on, settled, put_conflict}
use Rattle.superstep_machine.specs.Setting.{combining}
use Rattle.superstep_machine.specs.Steps.{index_of, own_write, write_to, is_active, moment_of}
use Rattle.superstep_machine.proofs.Collected.{entries_are_monoid}
use Rattle.superstep_machine.proofs.KeyOrder.{keys_are_monoid, none_least}
use Rattle.superstep_machine.proofs.Numbers.{same_number, with_itself}
use Rattle.pram_check.specs.Checked.{Checked}
use Rattle.pram_meaning.specs.Store.{State}
use Rattle.pram_meaning.specs.Together.{after_write}
use Rattle.flat_machine.specs.Flat.{Flat, range, cells, noted, single_to, written}
use Rattle.flat_stretches.specs.Applied.{wrote, write_conflict}
use Rattle.flat_stretches.specs.Notes.{note, notes}
use Rattle.statement_evaluation.specs.Noted.{note_key}
use Rattle.statement_evaluation.specs.Rows.{Row}
use Rattle.statement_evaluation.proofs.Effects.{entries_are_the_rule, one_writer}
use Rattle.statement_evaluation.proofs.Sums.{IsBelow}
use Rattle.compiled_formulas.specs.Headings.{heading_of}
use Rattle.compiled_formulas.proofs.UniformSteps.{fault_is}
use Rattle.compiled_meaning.specs.Between.{HasSizes}
use Rattle.compiled_meaning.proofs.Outside.Evaluated.{Leaves}
use Rattle.pram_meaning.proofs.AgreeAll.{write_count}
use Rattle.compiled_meaning.proofs.Outside.UniformWork.{nothing_either, noted_alone}

-- ---- one writer

-- the program as the only writer of a cell
abbrev writer : ℤ → Row
writer v = record { processor = pos 0; whole = record { steps = []; value = record { value = v; cell = Some 0 } } }

lone_writer : (v : ℤ) → FitsSigned w64 v → AreWriters (record { processor = pos 0; value = v } ∷ [])
lone_writer v fits = record { apart = λ i j x l k. absurd (omega (arith, l, k)); fit = one }
  where
    zero_fits : FitsSigned w64 (pos 0)
    zero_fits = search rules

    one : (k : ℕ) (x : Write) → k < 1 →
        FitsSigned w64 (slice_index_or (record { processor = pos 0; value = v } ∷ []) k x).processor
        × FitsSigned w64 (slice_index_or (record { processor = pos 0; value = v } ∷ []) k x).value
    one zero x l = (zero_fits, fits)
    one (suc k) x l = absurd (omega (arith, l))

-- what it writes is what the cell gets
lone_verdict : (rule : Rule) (v : ℤ) → FitsSigned w64 v → verdict_on rule (Some ((combining rule).single (pos 0) v)) ≡ Some (Ok v)
lone_verdict rule v fits = entries_are_the_rule rule 0 (writer v ∷ []) (lone_writer v fits) ∙ one_writer rule (pos 0) v fits

-- the verdict on a write to that cell, if there is one
abbrev verdict_at : Option ℕ → ℤ → ℕ → Option Value
verdict_at None v c = None
verdict_at (Some d) v c = if eqb d c then Some (Ok v) else None

module _ (code : SuperstepCode) (h : Flat) (entry a b q : ℕ) where
  abbrev pub put : Instr
  put = Put Uniform entry a b q

  put_written : (c : ℕ) → written code put h c
      ≡ single_to code.rule c (pos 0) (write_to (cell_of code.layout entry (h.uniform.registers a)) (h.uniform.registers b))
  put_written c =
      let mine = single_to code.rule c (pos 0) (write_to (cell_of code.layout entry (h.uniform.registers a)) (h.uniform.registers b)) in
      ap (join code.rule mine)
      (total_none None (join code.rule) (entries_are_monoid code.rule)
      (λ v. single_to code.rule c (index_of h.uniform v) (own_write code put (h.own v))) (λ v. refl) (range h))
      ∙ neutral_right None (join code.rule) (entries_are_monoid code.rule) mine

  module _ (fits : FitsSigned w64 (h.uniform.registers b)) (cell : Option ℕ)
      (there : cell_of code.layout entry (h.uniform.registers a) ≡ cell) where
    put_verdict : (c : ℕ) → verdict_on code.rule (written code put h c) ≡ verdict_at cell (h.uniform.registers b) c
    put_verdict c =
        ap (verdict_on code.rule)
        (put_written c ∙ ap (λ k. single_to code.rule c (pos 0) (write_to k (h.uniform.registers b))) there)
        ∙ by_cell cell
      where
        by_test : (t : Bool) →
            verdict_on code.rule (if t then Some ((combining code.rule).single (pos 0) (h.uniform.registers b)) else None)
            ≡ (if t then Some (Ok (h.uniform.registers b)) else None)
        by_test true = lone_verdict code.rule (h.uniform.registers b) fits
        by_test false = refl

        by_cell : (k : Option ℕ) → verdict_on code.rule (single_to code.rule c (pos 0) (write_to k (h.uniform.registers b)))
            ≡ verdict_at k (h.uniform.registers b) c
        by_cell None = refl
        by_cell (Some d) = by_test (eqb d c)

    -- it is in no conflict
    put_fits : write_conflict code put h ≡ None
    put_fits =
        total_none None least keys_are_monoid
        (λ c. put_conflict (Some (moment_of h.uniform q)) c (verdict_on code.rule (written code put h c)))
        (λ c. ap (put_conflict (Some (moment_of h.uniform q)) c) (put_verdict c) ∙ by_cell c cell) (cells code)
      where
        by_test : (c : ℕ) (t : Bool) →
            put_conflict (Some (moment_of h.uniform q)) c (if t then Some (Ok (h.uniform.registers b)) else None) ≡ None
        by_test c true = refl
        by_test c false = refl

        by_cell : (c : ℕ) (k : Option ℕ) →
            put_conflict (Some (moment_of h.uniform q)) c (verdict_at k (h.uniform.registers b) c) ≡ None
        by_cell c None = refl
        by_cell c (Some d) = by_test c (eqb d c)

    -- a cell that isn't there is noted
    pub put_notes : notes code (put ∷ []) h ≡ note_key (heading_of h) q All (missing cell)
    put_notes =
        none_least (note code put h)
        ∙ ap (least (noted code put h)) put_fits
        ∙ none_least (noted code put h)
        ∙ noted_alone code put h (λ v. nothing_either (is_active (h.own v)))
        ∙ fault_is h.uniform q All _
        ∙ ap (λ k. note_key (heading_of h) q All (missing k)) there

    module _ (p : Checked) (free : ℕ) (m : State) (f : Flat) (l : Leaves p free m f h) (sizes : HasSizes p m)
        (below : IsBelow (total_size p.layout) cell) where
      -- the cell has the value, and the others are as they were
      cells_show : (k : Option ℕ) → IsBelow (total_size p.layout) k → (c : ℕ) →
          settled (verdict_at k (h.uniform.registers b) c) (h.memory c)
          ≡ slice_index_or (after_write k (h.uniform.registers b) m).cells c (pos 0)
      cells_show None less c = let s = l.shows in let w = s.shows in w.cells c
      cells_show (Some d) less c = by (eqb d c) refl
        where
          v : ℤ
          v = h.uniform.registers b

          by : (t : Bool) → eqb d c ≡ t →
              settled (if t then Some (Ok (h.uniform.registers b)) else None) (h.memory c)
              ≡ slice_index_or (slice_set m.cells d (h.uniform.registers b)) c (pos 0)
          by true e =
              let long = sizes.cells in
              sym (ap (λ k. get_or (slice_set m.cells d (h.uniform.registers b)) k (pos 0)) (sym (same_number d c e))
              ∙ get_or-set_same m.cells d (h.uniform.registers b) (pos 0) (omega (arith, long, less)))
          by false e =
              let s = l.shows in
              let w = s.shows in
              let apart : d ≢ c = λ s. absurd (cc (e, with_itself c, ap (λ k. eqb k c) s)) in
              w.cells c ∙ sym (get_or-set_other m.cells d c (h.uniform.registers b) (pos 0) (λ s. apart (sym s)))

      -- no variable changes
      same_uniforms : (k : Option ℕ) → (after_write k (h.uniform.registers b) m).uniforms ≡ m.uniforms
      same_uniforms None = refl
      same_uniforms (Some d) = refl

      same_output : (k : Option ℕ) → (after_write k (h.uniform.registers b) m).output ≡ m.output
      same_output None = refl
      same_output (Some d) = refl

      pub wrote_leaves : Leaves p free (after_write cell (h.uniform.registers b) m) f (wrote code put h)
      wrote_leaves =
          let s = l.shows in
          let w = s.shows in
          let n = s.bare in
          let r = s.rests in record {
            shows = record {
              shows = record {
                nothing = w.nothing;
                variables = λ x k. w.variables x k ∙ ap (λ xs. get_or xs x (pos 0)) (sym (same_uniforms cell));
                indices = λ i. absurd i;
                locals = λ x i. absurd i;
                cells = λ c. ap (λ k. settled k (h.memory c)) (put_verdict c) ∙ cells_show cell below c;
              };
              bare = record { put = n.put; held = n.held };
              rests = record { asks = r.asks; awaited = r.awaited; own_asks = r.own_asks; own_awaited = r.own_awaited };
            };
            count = l.count ∙ sym (write_count cell (h.uniform.registers b) m);
            output = l.output ∙ sym (same_output cell);
            registers = l.registers;
          }
