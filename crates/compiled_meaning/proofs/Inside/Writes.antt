-- A write of a set: each cell gets what the rule gives for its writers, in memory and in the meaning.
use Rattle.std.proofs.Common.{◌≡◌, ℕ, ◌+◌, ◌<◌, ◌≤◌, List, [], ◌∷◌, ◌++◌, length, Bool, true, false, Option, Some, None, pos, refl, sym}
use Rattle.std.proofs.Common.{ap, ◌∙◌, subst, arith, slice_index_or}
use Rattle.std.specs.Prelude.{if◌then◌else◌, nat_eq, nat_lt}
use Rattle.std.proofs.lemmas.Bool.Decides.{nat_tests}
use Rattle.std.proofs.lemmas.List.{get_or_past}
use Rattle.pram_model.specs.Layout.{cell_of, total_size}
use Rattle.pram_model.proofs.Cells.{cell_below}
use Rattle.write_rules.specs.Combining.{AreWriters}
use Rattle.superstep_instructions.specs.declared.instr.Side.TheVariants.{Private}
use Rattle.superstep_instructions.specs.declared.instr.Instr.{Instr}
use Rattle.superstep_instructions.specs.declared.instr.Instr.TheVariants.{Put}
use Rattle.superstep_machine.specs.Sending.{settled}
use Rattle.pram_check.specs.Checked.{Checked}
use Rattle.pram_check.specs.Bounded.{names_of, with_locals}
use Rattle.pram_meaning.specs.Conflict.{Part, write_to}
use Rattle.pram_meaning.specs.Store.{State, member_of, seen_by}
use Rattle.pram_meaning.specs.Together.{overwritten}
use Rattle.pram_meaning.specs.Values.{HasValues, IsValue}
use Rattle.flat_machine.specs.Flat.{Flat}
use Rattle.flat_stretches.specs.Applied.{IsBare}
use Rattle.flat_stretches.specs.Along.{Run}
use Rattle.flat_stretches.specs.Folds.{acts_at_once}
use Rattle.flat_stretches.specs.Frames.{Frame, StandsIn, present}
use Rattle.flat_stretches.specs.Notes.{notes}
use Rattle.flat_stretches.proofs.Folds.{bare_at_once}
use Rattle.flat_stretches.proofs.Joins.{acts_at_once_join}
use Rattle.flat_stretches.proofs.Notes.{notes_join}
use Rattle.statement_evaluation.specs.Terms.{Task, Writes}
use Rattle.statement_evaluation.specs.Whole.{value}
use Rattle.statement_evaluation.specs.Rows.{rows, cut_parts}
use Rattle.statement_evaluation.specs.Noted.{noted, verdict, writes_at}
use Rattle.statement_evaluation.specs.Effects.{AreFine}
use Rattle.statement_evaluation.proofs.Effects.{cells_are_settled, no_cell_is_lost}
use Rattle.plain_form.specs.Formulas.{Formula, Pair, positions}
use Rattle.plain_form.specs.Groups.{evaluated, first_at, second_at}
use Rattle.plain_form.specs.Registers.{behind_locals}
use Rattle.verified_form.specs.Straight.{writing}
use Rattle.compiled_formulas.specs.Environments.{IsNamed}
use Rattle.compiled_formulas.specs.Headings.{heading_of}
use Rattle.compiled_formulas.specs.Inside.{ShowsInside}
use Rattle.compiled_formulas.specs.Tasks.{IsSingle}
use Rattle.compiled_formulas.specs.Terms.{term}
use Rattle.compiled_formulas.specs.Writes.{write_code, write_rows, IsWrittenInside}
use Rattle.compiled_formulas.proofs.WritesInside.{writes_are_tasks}
use Rattle.compiled_meaning.specs.Begins.{done}
use Rattle.compiled_meaning.specs.Between.{IsRunOf}
use Rattle.compiled_meaning.proofs.EachStatement.Valued.{value_fits}
use Rattle.compiled_meaning.specs.Within.{IsWithin}
use Rattle.compiled_meaning.proofs.Inside.Apart.{rows_fit, rows_are_writers}
use Rattle.compiled_meaning.proofs.Inside.Attempted.{one_more}
use Rattle.compiled_meaning.proofs.Inside.Evaluated.{marked, all_present, apart, end, may, end_shows, end_left, end_stands, done_is}
use Rattle.compiled_meaning.proofs.Inside.Evaluated.{notes_are}
use Rattle.compiled_meaning.proofs.Inside.Passed.{Leaves, IsNext}
use Rattle.compiled_meaning.proofs.Inside.Seen.{member_is}

not_there : (c d n : ℕ) → n ≤ c → d < n → nat_eq c d ≡ false
not_there c d n l h = grind (arith, nat_tests)

-- nobody writes to a cell behind the last one
none_beyond : (p : Checked) (m : State) (entry : ℕ) (d e : Formula) (c : ℕ) → total_size p.layout ≤ c → (vs : List ℕ) →
    writes_at c (rows p m (Writes entry (term d) (term e)) vs) ≡ []
none_beyond p m entry d e c l [] = refl
none_beyond p m entry d e c l (v ∷ vs) =
    go (cell_of p.layout entry (value (seen_by p m v) (term d))) refl ∙ none_beyond p m entry d e c l vs
  where
    go : (o : Option ℕ) → cell_of p.layout entry (value (seen_by p m v) (term d)) ≡ o →
        write_to c (member_of m.team v).index o (value (seen_by p m v) (term e))
        ++ writes_at c (rows p m (Writes entry (term d) (term e)) vs)
        ≡ writes_at c (rows p m (Writes entry (term d) (term e)) vs)
    go None h = refl
    go (Some k) h =
        let below = cell_below p.layout entry (value (seen_by p m v) (term d)) k h in
        ap (λ b. (if b then record { processor = (member_of m.team v).index; value = value (seen_by p m v) (term e) } ∷ [] else [])
        ++ writes_at c (rows p m (Writes entry (term d) (term e)) vs)) (not_there c k (total_size p.layout) l below)

module _ (p : Checked) (t : Run) (of : IsRunOf p t) (locals base : ℕ) (free : behind_locals locals ≤ base) (fr : Frame) (held : Bool)
    (m : State) (place spent : ℕ) (f : Flat) (w : IsWithin p t locals base fr held m place spent f) (line : ℕ) (entry : ℕ) (d e : Formula)
    (named : IsNamed (with_locals locals (names_of p)) (Pair d e)) (sd : IsSingle d) (se : IsSingle e)
    (values : (v : ℕ) → IsValue (value (seen_by p m v) (term e))) (keep : Bool) where
  abbrev stretch : List Instr
  stretch = writing keep held Private base entry d e

  abbrev begins : Flat
  begins = marked p t of locals base free fr held m place spent f w line

  abbrev last : Flat
  last = end p t of locals base free fr held m place spent f w line (Pair d e) named

  abbrev put : Instr
  put = Put Private entry (first_at Private base d e) (second_at Private base d e) (positions d + positions e + 1)

  abbrev pub task : Task
  task = Writes entry (term d) (term e)

  -- ---- on the machine

  all_rows : write_rows p m entry d e begins ≡ rows p m task (present fr)
  all_rows = ap (rows p m task) (all_present p t of locals base free fr held m place spent f w line)

  are_writers : (c : ℕ) → AreWriters (writes_at c (rows p m task (present fr)))
  are_writers c =
      let h = w.values in
      rows_are_writers c (rows p m task (present fr)) (apart p t of locals base free fr held m place spent f w line task)
      (rows_fit p m task (λ v. let g = member_is m.team v h.team in (
        value_fits (member_of m.team v).index g.index,
        value_fits (value (seen_by p m v) (term e)) (values v),
      )) (present fr))

  is_written : IsWrittenInside t.code p m base entry d e begins
  is_written =
      writes_are_tasks t.code p locals m base entry d e begins
      (may p t of locals base free fr held m place spent f w line (Pair d e) named) sd se
      (λ c. subst (λ rs. AreWriters (writes_at c rs)) (sym all_rows) (are_writers c))

  same_end : acts_at_once t.code (put ∷ []) last ≡ acts_at_once t.code (write_code Private base entry d e) begins
  same_end = sym (acts_at_once_join t.code (evaluated Private base (Pair d e)) (put ∷ []) begins)

  done_written : done t.code line stretch f ≡ acts_at_once t.code (write_code Private base entry d e) begins
  done_written =
      done_is p t of locals base free fr held m place spent f w line (Pair d e) named keep held (put ∷ []) ∙ same_end

  pub tells_written : notes t.code stretch begins ≡ noted (heading_of begins) p.rule p.layout task (rows p m task (present fr))
  tells_written =
      let k = is_written in
      notes_are p t of locals base free fr held m place spent f w line (Pair d e) named keep held (put ∷ [])
      ∙ sym (notes_join t.code (evaluated Private base (Pair d e)) (put ∷ []) begins)
      ∙ k.tells ∙ ap (noted (heading_of begins) p.rule p.layout task) all_rows

  pub rests_written : (done t.code line stretch f).uniform.asks ≡ []
  rests_written =
      let k = is_written in
      let s = end_shows p t of locals base free fr held m place spent f w line (Pair d e) named in
      let n = s.rests in
      ap (λ (g : Flat). g.uniform.asks) done_written ∙ ap (λ u. u.asks) k.uniform ∙ n.asks

  -- ---- and in the meaning

  abbrev pub write_results : List Part
  write_results = cut_parts p m task (present fr)

  abbrev pub with_cells : State
  with_cells = record (one_more m) { cells = overwritten p.rule write_results 0 m.cells }

  pub same_length : length with_cells.cells ≡ length m.cells
  same_length = no_cell_is_lost p.rule write_results m.cells

  module _ (fine : AreFine (heading_of begins) (rows p m task (present fr))) where
    cells_now : (c : ℕ) → (acts_at_once t.code (write_code Private base entry d e) begins).memory c ≡ slice_index_or with_cells.cells c
        (pos 0)
    cells_now c =
        let k = is_written in
        k.cells c
        ∙ ap (λ rs. settled (verdict p.rule (writes_at c rs)) (slice_index_or m.cells c (pos 0))) all_rows
        ∙ by (nat_lt c (length m.cells)) refl
      where
        below : (n : ℕ) → nat_lt c n ≡ true → c < n
        below n h = grind (arith, nat_tests)

        above : (n : ℕ) → nat_lt c n ≡ false → n ≤ c
        above n h = grind (arith, nat_tests)

        beyond : length m.cells ≤ c →
            settled (verdict p.rule (writes_at c (rows p m task (present fr)))) (slice_index_or m.cells c (pos 0))
            ≡ slice_index_or with_cells.cells c (pos 0)
        beyond l =
            let s = w.sizes in
            let n = s.cells in
            let q = same_length in
            ap (λ ws. settled (verdict p.rule ws) (slice_index_or m.cells c (pos 0)))
            (none_beyond p m entry d e c (omega (arith, n, l)) (present fr))
            ∙ get_or_past m.cells c (pos 0) l ∙ sym (get_or_past with_cells.cells c (pos 0) (omega (arith, q, l)))

        by : (b : Bool) → nat_lt c (length m.cells) ≡ b →
            settled (verdict p.rule (writes_at c (rows p m task (present fr)))) (slice_index_or m.cells c (pos 0))
            ≡ slice_index_or with_cells.cells c (pos 0)
        by true h = sym (cells_are_settled (heading_of begins) p m task (present fr) fine p.rule m.cells c (below (length m.cells) h))
        by false h = beyond (above (length m.cells) h)

    written_shows : ShowsInside p locals with_cells (acts_at_once t.code (write_code Private base entry d e) begins)
    written_shows =
        let k = is_written in
        let s = end_shows p t of locals base free fr held m place spent f w line (Pair d e) named in
        let g = acts_at_once t.code (write_code Private base entry d e) begins in
        let o = s.outside in
        let n = s.rests in
        let b = bare_at_once t.code put last s.bare in
        let seen : Flat = record { uniform = last.uniform; own = last.own; memory = g.memory; held = g.held; key = g.key } in
        let same : seen ≡ g = λ i. record { uniform = sym k.uniform i; own = sym k.own i; memory = g.memory; held = g.held; key = g.key } in
        let bare : IsBare g = subst IsBare same_end b in
        subst (ShowsInside p locals with_cells) same
        (record {
          width = s.width;
          members = s.members;
          outside = record {
            nothing = o.nothing;
            variables = o.variables;
            indices = o.indices;
            locals = o.locals;
            cells = cells_now;
          };
          shows = λ v l. let q = s.shows v l in record {
            nothing = q.nothing;
            variables = q.variables;
            indices = q.indices;
            locals = q.locals;
            cells = cells_now;
          };
          bare = record { put = s.bare.put; held = bare.held };
          rests = record { asks = n.asks; awaited = n.awaited; own_asks = n.own_asks; own_awaited = n.own_awaited };
        })

    written_stands : StandsIn (behind_locals locals) base fr (acts_at_once t.code (write_code Private base entry d e) begins)
    written_stands =
        let k = is_written in
        let s = end_stands p t of locals base free fr held m place spent f w line (Pair d e) named in
        record {
          width = ap (λ u. u.width) k.uniform ∙ s.width;
          masks = λ v. ap (λ o. (o v).masks) k.own ∙ s.masks v;
          flags = λ v q a b. ap (λ o. (o v).registers q) k.own ∙ s.flags v q a b;
        }

    pub leaves_written : (vote : ℕ) → Leaves p t locals base vote fr line stretch f with_cells
    leaves_written vote =
        let k = is_written in
        let l = end_left p t of locals base free fr held m place spent f w line (Pair d e) named in
        let none = l 0 in
        record {
          count = ap (λ (g : Flat). g.uniform.count) done_written ∙ ap (λ u. u.count) k.uniform ∙ none.count;
          output = ap (λ (g : Flat). g.uniform.output) done_written ∙ ap (λ u. u.output) k.uniform ∙ none.output;
          registers = λ q b. ap (λ (g : Flat). g.uniform.registers q) done_written ∙ ap (λ u. u.registers q) k.uniform
              ∙ (let a = l (q + 1) in a.registers q (omega arith));
          shows = subst (ShowsInside p locals with_cells) (sym done_written) written_shows;
          stands = subst (StandsIn (behind_locals locals) base fr) (sym done_written) written_stands;
        }

  pub next_written : HasValues with_cells → IsNext p locals m with_cells
  next_written h =
      let s = w.sizes in record {
        count = refl;
        output = refl;
        sizes = record { uniforms = s.uniforms; cells = same_length ∙ s.cells };
        locals_of = w.locals_of;
        values = h;
      }
