-- The test of a `while` inside pardo: the flags get the values, those stay whose value is true, and the vote says whether anybody does.
use Rattle.std.proofs.Common.{◌≡◌, ℕ, ◌+◌, ◌<◌, ◌≤◌, List, [], ◌∷◌, ◌++◌, length, Bool, true, false, None, refl, sym, ap, ◌∙◌, subst}
use Rattle.std.proofs.Common.{arith}
use Rattle.std.specs.List.{filter}
use Rattle.pram_values.specs.Truth.{truth, is_nonzero}
use Rattle.superstep_instructions.specs.declared.instr.Side.TheVariants.{Private}
use Rattle.superstep_instructions.specs.declared.instr.Instr.{Instr}
use Rattle.superstep_instructions.specs.declared.instr.Instr.TheVariants.{Mark, Copy, Unmask, Mask, Vote}
use Rattle.superstep_machine.specs.Keys.{least}
use Rattle.superstep_machine.specs.Parts.{Registers}
use Rattle.superstep_machine.specs.Steps.{is_active}
use Rattle.pram_names.specs.declared.body.Expression.{Expression}
use Rattle.pram_check.specs.Checked.{Checked}
use Rattle.pram_check.specs.Bounded as bounded
use Rattle.pram_check.specs.Bounded.{names_of, with_locals}
use Rattle.pram_meaning.specs.Attempt.{attempt_value}
use Rattle.pram_meaning.specs.Bounded.{Done, then_do, tested_on}
use Rattle.pram_meaning.specs.Conflict.{Part}
use Rattle.pram_meaning.specs.Store.{State}
use Rattle.pram_meaning.specs.Together.{those}
use Rattle.flat_machine.specs.Flat.{Flat, after_instr, after_vote, any_active}
use Rattle.flat_stretches.specs.Along.{Run}
use Rattle.flat_stretches.specs.Folds.{Stand}
use Rattle.flat_stretches.specs.Frames.{Frame, StandsIn, present, is_true, is_some, held_in, Keeps, looping, turned, HasTurned}
use Rattle.flat_stretches.specs.Notes.{notes}
use Rattle.flat_stretches.specs.Tells.{IsCalm}
use Rattle.flat_stretches.proofs.Below.{set_below}
use Rattle.flat_stretches.proofs.Frames.{votes_say}
use Rattle.flat_stretches.proofs.Loops.{loops_turn}
use Rattle.flat_stretches.proofs.Tells.{notes_nothing}
use Rattle.statement_evaluation.specs.Terms.{Gets, term_of}
use Rattle.statement_evaluation.specs.Rows.{rows, cut_parts}
use Rattle.statement_evaluation.specs.Effects.{AreFine}
use Rattle.statement_evaluation.proofs.Attempts.{test_parts}
use Rattle.statement_evaluation.proofs.Effects.{tests_are_values}
use Rattle.plain_form.specs.Formulas.{Formula, formula_of}
use Rattle.plain_form.specs.Registers.{behind_variables, behind_locals}
use Rattle.verified_form.specs.Straight.{flagging}
use Rattle.verified_form.proofs.Fine.{straight_parts_are_fine}
use Rattle.compiled_formulas.specs.Headings.{heading_of}
use Rattle.compiled_formulas.specs.Inside.{ShowsInside}
use Rattle.exchange_bound.specs.Bound.{one_if}
use Rattle.exchange_bound.specs.Events.{Event, behind, begun}
use Rattle.compiled_meaning.specs.Paid.{testing_costs}
use Rattle.compiled_meaning.specs.Begins.{done}
use Rattle.compiled_meaning.specs.Between.{IsRunOf}
use Rattle.compiled_meaning.specs.Follows.{Follows}
use Rattle.compiled_meaning.proofs.EachStatement.Costs.{straight_parts_cost}
use Rattle.compiled_meaning.specs.Within.{IsWithin}
use Rattle.compiled_meaning.proofs.Inside.Attempted.{one_more, attempted}
use Rattle.compiled_meaning.proofs.Inside.Evaluated.{marked, end, end_shows, end_left, end_stands, done_is, names, register, tests_are}
use Rattle.compiled_meaning.proofs.Inside.Evaluated.{tells, apart}
use Rattle.compiled_meaning.proofs.Inside.Locals.{SameButRegisters, either_same, either_other}
use Rattle.compiled_meaning.proofs.Inside.Passed.{Leaves, passed_within, passed_registers}
use Rattle.compiled_meaning.proofs.Inside.Shown.{counted_shows, still_inside}
use Rattle.compiled_meaning.proofs.Inside.Tests.{next_is}

module _ (p : Checked) (t : Run) (of : IsRunOf p t) (locals base vote : ℕ) (free : behind_locals locals ≤ base)
    (further : behind_locals locals ≤ base + 1) (above : behind_variables p.uniforms ≤ vote) (fr : Frame) (registers : ℕ → Registers)
    (m : State) (place spent : ℕ) (f : Flat) (w : IsWithin p t locals (base + 1) (looping base registers fr) false m place spent f)
    (keeps : Keeps (behind_locals locals) base fr registers) (line : ℕ) (e : Expression)
    (named : bounded.IsNamed (with_locals locals (names_of p)) e) (keep : Bool) where
  abbrev around : Frame
  around = looping base registers fr

  abbrev formula : Formula
  formula = formula_of e

  abbrev stretch : List Instr
  stretch = flagging keep vote base (base + 1) formula

  abbrev last : Flat
  last = end p t of locals (base + 1) further around false m place spent f w line formula
      (names p t of locals (base + 1) further around false m place spent f w line e named)

  abbrev r : ℕ
  r = register p t of locals (base + 1) further around false m place spent f w line e named

  abbrev voted : Flat
  voted = after_vote vote (turned t.code base r last)

  done_voted : done t.code line stretch f ≡ voted
  done_voted = done_is p t of locals (base + 1) further around false m place spent f w line formula
      (names p t of locals (base + 1) further around false m place spent f w line e named) keep false
      (Copy Private base r ∷ Unmask ∷ Mask base ∷ Vote vote ∷ [])

  shown : ShowsInside p locals m last
  shown = end_shows p t of locals (base + 1) further around false m place spent f w line formula
      (names p t of locals (base + 1) further around false m place spent f w line e named)

  has_turned : HasTurned (behind_locals locals) base fr (present around) (is_true r last) (turned t.code base r last)
  has_turned =
      loops_turn t.code (behind_locals locals) base r free fr registers last
      (record {
        stands = end_stands p t of locals (base + 1) further around false m place spent f w line formula
            (names p t of locals (base + 1) further around false m place spent f w line e named);
        keeps = keeps;
      })

  own_is : (v : ℕ) → SameButRegisters (last.own v) ((after_instr t.code (Copy Private base r) last).own v)
  own_is v = either_same (is_active (last.own v)) base ((last.own v).registers r) (last.own v)

  voted_shows : ShowsInside p locals m voted
  voted_shows =
      let s = shown in
      let b = s.bare in
      let n = s.rests in
      still_inside p locals m base last voted free
      (record {
        width = refl;
        low = refl;
        uniforms = λ q l. set_below vote vote (truth (any_active (turned t.code base r last))) last.uniform.registers q (omega arith)
            (omega (arith, l, above));
        own = λ v q l. either_other (is_active (last.own v)) base ((last.own v).registers r) (last.own v) q (λ i. omega (arith, l, i));
        memory = λ c. refl;
        bare = record { put = b.put; held = b.held };
        rests = record {
          asks = n.asks;
          awaited = n.awaited;
          own_asks = λ v. (own_is v).asks ∙ n.own_asks v;
          own_awaited = λ v. (own_is v).awaited ∙ n.own_awaited v;
        };
      }) s

  -- ---- the loop's frame behind it

  -- what the registers of processors hold there
  abbrev pub flags_now : ℕ → Registers
  flags_now = held_in (done t.code line stretch f)

  pub keeps_now : Keeps (behind_locals locals) base fr flags_now
  keeps_now =
      let h = has_turned in
      let l = h.loops in
      subst (λ (g : Flat). Keeps (behind_locals locals) base fr (held_in g)) (sym done_voted) l.keeps

  stands_now : StandsIn (behind_locals locals) (base + 1) (looping base flags_now fr) (done t.code line stretch f)
  stands_now =
      let h = has_turned in
      let l = h.loops in
      let s = l.stands in
      subst (λ (g : Flat). StandsIn (behind_locals locals) (base + 1) (looping base (held_in g) fr) g) (sym done_voted)
      (record { width = s.width; masks = s.masks; flags = s.flags })

  vote_says : is_nonzero ((done t.code line stretch f).uniform.registers vote) ≡ is_some (present (looping base flags_now fr))
  vote_says =
      let h = has_turned in
      let l = h.loops in
      subst (λ (g : Flat). is_nonzero (g.uniform.registers vote) ≡ is_some (present (looping base (held_in g) fr))) (sym done_voted)
      (votes_say (behind_locals locals) (base + 1) vote (looping base (held_in (turned t.code base r last)) fr)
      (turned t.code base r last) l.stands)

  leaves_voted : Leaves p t locals (base + 1) vote (looping base flags_now fr) line stretch f (one_more m)
  leaves_voted =
      let k = end_left p t of locals (base + 1) further around false m place spent f w line formula
      (names p t of locals (base + 1) further around false m place spent f w line e named) in
      let none = k 0 in
      record {
        count = ap (λ (g : Flat). g.uniform.count) done_voted ∙ none.count;
        output = ap (λ (g : Flat). g.uniform.output) done_voted ∙ none.output;
        registers = λ q l. ap (λ (g : Flat). g.uniform.registers q) done_voted
            ∙ set_below vote vote (truth (any_active (turned t.code base r last))) last.uniform.registers q (omega arith) l
            ∙ (let a = k (q + 1) in a.registers q (omega arith));
        shows = subst (ShowsInside p locals (one_more m)) (sym done_voted) (counted_shows p locals m (m.count + 1) voted voted_shows);
        stands = stands_now;
      }

  -- ---- those that stay

  abbrev pub test_results : List Part
  test_results = cut_parts p m (Gets (term_of e)) (present around)

  set_is : AreFine (heading_of (marked p t of locals (base + 1) further around false m place spent f w line))
      (rows p m (Gets (term_of e)) (present around)) → those true test_results ≡ present (looping base flags_now fr)
  set_is fine =
      let h = has_turned in
      tests_are_values (heading_of (marked p t of locals (base + 1) further around false m place spent f w line)) p m (term_of e)
      (present around) fine true
      ∙ sym (tests_are p t of locals (base + 1) further around false m place spent f w line e named)
      ∙ subst (λ (g : Flat). filter (is_true r last) (present around) ≡ present (looping base (held_in g) fr)) (sym done_voted)
      (sym h.those)

  nothing_noted : notes t.code (Copy Private base r ∷ Unmask ∷ Mask base ∷ Vote vote ∷ []) last ≡ None
  nothing_noted =
      let a = after_instr t.code (Copy Private base r) last in
      let b = after_instr t.code Unmask a in
      λ i. least (notes_nothing t.code (Copy Private base r) refl last i)
      (least (notes_nothing t.code Unmask refl a i) (least (notes_nothing t.code (Mask base) refl b i) None))

  module _ (before : ℕ) (virtual : Bool) (es : List Event) (goes : List Event → State → Type 0) (k : List Part → State → Done)
      (rest : List Part → State → List Event) where
    -- what is run behind the test, by the vote
    abbrev GoesOnFlagged : Type 0
    GoesOnFlagged =
        (g : Flat) → IsWithin p t locals (base + 1) (looping base flags_now fr) false (one_more m) (place + 1 + length stretch)
        (spent + (testing_costs t (present around) e + 1)) g → ((q : ℕ) → q < vote → g.uniform.registers q ≡ f.uniform.registers q) →
        those true test_results ≡ present (looping base flags_now fr) →
        is_nonzero (g.uniform.registers vote) ≡ is_some (present (looping base flags_now fr)) →
        Follows t before virtual (es ++ rest test_results (one_more m)) (goes (es ++ rest test_results (one_more m)))
        (k test_results (one_more m))

    pub flags_follow : spent ≤ before + one_if virtual → Stand t place (Mark line ∷ stretch) → IsCalm t.code (place + 1 + length stretch) →
        GoesOnFlagged →
        Follows t before virtual (begun t.bound m es ++ behind (tested_on p t.bound line e (present around) m) rest)
        (goes (begun t.bound m es ++ behind (tested_on p t.bound line e (present around) m) rest))
        (then_do (tested_on p t.bound line e (present around) m) k)
    flags_follow few stand calm on =
        let fine = straight_parts_are_fine in
        let cost = straight_parts_cost in
        let shown_first = w.shows in
        let none = leaves_voted.shows in
        let empty = none.rests in
        attempted p t line stretch false false m place spent f w.between (Gets (term_of e)) (present around) virtual before
        es goes k rest (λ s. attempt_value s e) (test_parts p m e (present around))
        (record {
          formed = of.formed;
          rests = shown_first.rests;
          stand = stand;
          fine = fine.turned keep vote base (base + 1) formula;
          none = empty.asks;
          calm = calm;
          apart = apart p t of locals (base + 1) further around false m place spent f w line (Gets (term_of e));
          tells = tells p t of locals (base + 1) further around false m place spent f w line e named keep false
              (Copy Private base r ∷ Unmask ∷ Mask base ∷ Vote vote ∷ []) nothing_noted;
          few = omega (arith, few);
        })
        (λ l g h ok okay.
        let next = next_is p t locals (base + 1) around false m place spent f w in
        let costs = cost.turned t (length (present around)) keep vote base (base + 1) formula in
        on g
        (passed_within p t locals (base + 1) (base + 1) vote around (looping base flags_now fr) false false m place spent f w line stretch
        (one_more m) (testing_costs t (present around) e + 1) (spent + (testing_costs t (present around) e + 1)) costs (omega arith) l g
        h leaves_voted next)
        (passed_registers p t locals (base + 1) (base + 1) vote around (looping base flags_now fr) false false m place spent f w line
        stretch
        (one_more m) (testing_costs t (present around) e + 1) (spent + (testing_costs t (present around) e + 1)) costs (omega arith) l g
        h leaves_voted next)
        (set_is ok) (ap (λ (y : Flat). is_nonzero (y.uniform.registers vote)) h.seen ∙ vote_says))
