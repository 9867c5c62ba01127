-- The lines of the exchanges of runs that are alike.
use Rattle.std.proofs.Common.{◌≡◌, ℕ, zero, suc, ◌+◌, Bool, true, false, cond, eqb, Option, Some, None, List, [], ◌++◌, refl, sym, ap}
use Rattle.std.proofs.Common.{subst, ◌∙◌, arith, append_assoc}
use Rattle.std.specs.Prelude.{slice_get}
use Rattle.pram_values.specs.Truth.{is_nonzero}
use Rattle.superstep_instructions.specs.declared.instr.Instr.{Instr}
use Rattle.superstep_instructions.specs.declared.instr.Instr.TheVariants.{Mark, Send, Reply, Vote, Jump, JumpIfZero, Halt}
use Rattle.superstep_instructions.specs.Code.{SuperstepCode}
use Rattle.superstep_machine.specs.Parts.{UniformPart}
use Rattle.superstep_machine.specs.Run.{Way, On, Ending, Past, Refused, Lost}
use Rattle.superstep_machine.specs.Stretch.{ToSend, ToReply, ToVote, ToClose, advance}
use Rattle.flat_machine.specs.Flat.{Flat, after_instr}
use Rattle.flat_machine.specs.ByExchanges.{State}
use Rattle.flat_machine.specs.ByInstructions.{instructed, step_by, step, everywhere}
use Rattle.exchange_lines.specs.Lines.{lines_at, lines_here, lines_within}
use Rattle.flat_run.specs.RunViews.{AreSameStates, is_going}
use Rattle.flat_run.specs.Lined.{lines_in, lines_for}
use Rattle.flat_run.proofs.AlikeLemmas.{alike_step, nothing_either_way, steps_over}

module _ (code : SuperstepCode) (bound : ℕ) where
  -- the lines of the instruction at a place
  abbrev lines_at_place : Option Instr → ℕ → Flat → List ℕ
  lines_at_place found place f =
      advance bound (λ (g : Flat). g.uniform) (after_instr code) [] (λ stop k g. lines_at stop g.uniform) (λ k g. []) found place f

  -- it goes by the uniform part alone
  by_uniform : (found : Option Instr) (place : ℕ) (f g : Flat) → f.uniform ≡ g.uniform →
      lines_at_place found place f ≡ lines_at_place found place g
  by_uniform None place f g e = refl
  by_uniform (Some (Mark line)) place f g e =
      ap (λ (u : UniformPart). cond (eqb u.count bound) (lines_at (ToClose false) u) []) e
  by_uniform (Some Send) place f g e = ap (lines_at ToSend) e
  by_uniform (Some Reply) place f g e = ap (lines_at ToReply) e
  by_uniform (Some (Vote d)) place f g e = ap (lines_at (ToVote d)) e
  by_uniform (Some (Jump target)) place f g e = refl
  by_uniform (Some (JumpIfZero r target)) place f g e =
      nothing_either_way (is_nonzero (f.uniform.registers r)) ∙ sym (nothing_either_way (is_nonzero (g.uniform.registers r)))
  by_uniform (Some Halt) place f g e = ap (lines_at (ToClose true)) e
  by_uniform (Some i) place f g e = refl

  in_any : (i : Instr) (place : ℕ) (f : Flat) → lines_at_place (Some i) place f ≡ lines_for bound i f.uniform
  in_any (Mark line) place f = refl
  in_any Send place f = refl
  in_any Reply place f = refl
  in_any (Vote d) place f = refl
  in_any (Jump target) place f = refl
  in_any (JumpIfZero r target) place f = nothing_either_way (is_nonzero (f.uniform.registers r))
  in_any Halt place f = refl
  in_any i place f = refl

  -- the lines of a run that goes on at an instruction, or at none
  pub here_for : (s : State) (i : Instr) → s.way ≡ On → slice_get code.instructions s.place ≡ Some i →
      lines_in code bound s ≡ lines_for bound i s.flat.uniform
  here_for s i on at =
      ap (lines_here code bound s) on ∙ ap (λ found. lines_at_place found s.place s.flat) at ∙ in_any i s.place s.flat

  pub here_none : (s : State) → s.way ≡ On → slice_get code.instructions s.place ≡ None → lines_in code bound s ≡ []
  here_none s on at = ap (lines_here code bound s) on ∙ ap (λ found. lines_at_place found s.place s.flat) at

  by_way : (s t : State) → AreSameStates s t → (way : Way) → lines_here code bound s way ≡ lines_here code bound t way
  by_way s t h On =
      by_uniform (slice_get code.instructions s.place) s.place s.flat t.flat h.flat.uniform
      ∙ ap (λ k. lines_at_place (slice_get code.instructions k) k t.flat) h.place
  by_way s t h (Ending ended) = refl
  by_way s t h (Past key ended) = refl
  by_way s t h (Refused mark) = refl
  by_way s t h Lost = refl

  same_here : (s t : State) → AreSameStates s t → lines_in code bound s ≡ lines_in code bound t
  same_here s t h = ap (lines_here code bound s) h.way ∙ by_way s t h t.way

  -- runs from states that are alike have the same lines
  pub same_lines : (n : ℕ) (s t : State) → AreSameStates s t →
      lines_within code bound n s ≡ lines_within code bound n t
  same_lines zero s t h = refl
  same_lines (suc n) s t h =
      ap (λ xs. xs ++ lines_within code bound n (step code bound everywhere s)) (same_here s t h)
      ∙ ap (λ xs. lines_in code bound t ++ xs)
      (same_lines n (step code bound everywhere s) (step code bound everywhere t) (alike_step code bound s t h))

  none_by : (s : State) (way : Way) → is_going way ≡ false → lines_here code bound s way ≡ []
  none_by s On h = absurd (cc h)
  none_by s (Ending ended) h = refl
  none_by s (Past key ended) h = refl
  none_by s (Refused mark) h = refl
  none_by s Lost h = refl

  -- a run that is over has none any more
  pub none_over : (n : ℕ) (s : State) → is_going s.way ≡ false → lines_within code bound n s ≡ []
  none_over zero s h = refl
  none_over (suc n) s h =
      ap (λ xs. xs ++ lines_within code bound n (step code bound everywhere s)) (none_by s s.way h)
      ∙ ap (lines_within code bound n) (steps_over code bound 1 s h) ∙ none_over n s h

  -- those of one instruction, and those of the rest
  pub one_more : (left rest : ℕ) (old new : State) (before behind : List ℕ) → rest + 1 ≡ left → old.way ≡ On →
      AreSameStates new (instructed code bound everywhere old.place old.flat) → behind ≡ before ++ lines_in code bound old →
      behind ++ lines_within code bound rest new ≡ before ++ lines_within code bound left old
  one_more left rest old new before behind e on h noted =
      let stepped : step code bound everywhere old ≡ instructed code bound everywhere old.place old.flat =
      ap (step_by code bound everywhere old) on in
      let next : suc rest ≡ left = omega (arith, e) in
      let later : lines_within code bound rest new
      ≡ lines_within code bound rest (step code bound everywhere old) =
      same_lines rest new (step code bound everywhere old) (subst (AreSameStates new) (sym stepped) h) in
      ap (λ xs. xs ++ lines_within code bound rest new) noted
      ∙ append_assoc before (lines_in code bound old) (lines_within code bound rest new)
      ∙ ap (λ xs. before ++ (lines_in code bound old ++ xs)) later
      ∙ ap (λ n. before ++ lines_within code bound n old) next
