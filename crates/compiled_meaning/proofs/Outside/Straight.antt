-- A straight part of a statement outside pardo: what it may be begun from, and the run behind it.
use Rattle.std.proofs.Common.{◌≡◌, ℕ, ◌+◌, ◌<◌, ◌≤◌, List, ◌∷◌, length, Bool, sym, ap, ◌∙◌, subst, arith}
use Rattle.superstep_instructions.specs.declared.instr.Instr.{Instr}
use Rattle.superstep_instructions.specs.declared.instr.Instr.TheVariants.{Mark}
use Rattle.superstep_machine.specs.Run.{items}
use Rattle.pram_check.specs.Checked.{Checked}
use Rattle.pram_meaning.specs.Store.{State}
use Rattle.pram_meaning.specs.Values.{HasValues}
use Rattle.flat_machine.specs.Flat.{Flat, after_instr}
use Rattle.flat_stretches.specs.Along.{Run}
use Rattle.flat_stretches.specs.Folds.{Stand, costs, IsFine}
use Rattle.flat_stretches.specs.Tells.{IsCalm}
use Rattle.flat_stretches.proofs.Statements.{marks_hold}
use Rattle.compiled_formulas.specs.Outside.{ShowsOutside}
use Rattle.compiled_meaning.specs.Between.{IsBetween, IsRunOf, HasSizes}
use Rattle.compiled_meaning.specs.Begins.{done, HasPassed}
use Rattle.compiled_meaning.specs.Costs.{Costs}
use Rattle.compiled_meaning.proofs.EachStatement.Places.{between_at}
use Rattle.compiled_meaning.specs.Without.{IsWithout}
use Rattle.compiled_meaning.proofs.Inside.Attempted.{one_more}
use Rattle.compiled_meaning.proofs.Outside.OneStatement.{MayBegin}
use Rattle.compiled_meaning.proofs.Outside.Evaluated.{Leaves}
use Rattle.compiled_meaning.proofs.Outside.Passed.{IsPassed}

-- behind the part the program is in this state, with one statement more begun
pub record IsStraight (p : Checked) (t : Run) (free line : ℕ) (is : List Instr) (before behind : Bool) (m : State) (f : Flat) (cost : ℕ)
    (after : State) : Type 0 where
  pub fine : IsFine before is behind
  pub few : Costs t before is cost
  pub leaves : Leaves p free after f (done t.code line is f)
  pub count : after.count ≡ m.count + 1
  pub sizes : HasSizes p after
  pub values : HasValues after

module _ (p : Checked) (t : Run) (of : IsRunOf p t) (free line : ℕ) (is : List Instr) (before behind : Bool) (m : State) (place spent : ℕ)
    (f : Flat) (w : IsWithout p t before m place spent f) (cost : ℕ) (after : State)
    (s : IsStraight p t free line is before behind m f cost after) where
  pub may_begin : Stand t place (Mark line ∷ is) → IsCalm t.code (place + length (Mark line ∷ is)) →
      MayBegin t line is before behind m place spent f
  may_begin stand calm =
      let x = w.shows in
      let l = s.leaves in
      let y = l.shows in
      let r = y.rests in
      record {
        formed = of.formed;
        between = w.between;
        rests = x.rests;
        stand = stand;
        fine = s.fine;
        asks = r.asks;
        calm = subst (IsCalm t.code) (let e : place + length (Mark line ∷ is) ≡ place + 1 + length is = omega arith in e) calm;
      }

  pub part_costs : costs t is (after_instr t.code (Mark line) f) ≤ cost
  part_costs =
      let x = w.shows in
      let r = x.rests in
      let b = w.between in
      s.few (after_instr t.code (Mark line) f) r.asks (marks_hold t.code line before f b.holds)

  module _ (below : m.count < t.bound) (g : Flat) (h : HasPassed t line is behind place spent f g) where
    pub seen_register : (r : ℕ) → g.uniform.registers r ≡ (done t.code line is f).uniform.registers r
    seen_register r = ap (λ (x : Flat). x.uniform.registers r) h.seen

    pub part_passed : (most : ℕ) → spent + cost ≤ most →
        IsPassed p t free behind (place + length (Mark line ∷ is)) (one_more m) f most after g
    part_passed most few =
        let l = s.leaves in
        let c = s.count in
        let k = part_costs in
        let here : IsBetween t behind after (place + 1 + length is) (spent + costs t is (after_instr t.code (Mark line) f)) g =
        record {
          comes = h.comes;
          told = h.told;
          holds = h.holds;
          count = ap (λ (x : Flat). x.uniform.count) h.seen ∙ l.count;
          within = omega (arith, c, below);
          output = ap (λ (x : Flat). items x.uniform.output) h.seen ∙ l.output;
        } in
        record {
          without = record {
            between = between_at t behind after g (place + 1 + length is) (place + length (Mark line ∷ is))
                (spent + costs t is (after_instr t.code (Mark line) f)) most (omega arith) (omega (arith, k, few)) here;
            shows = subst (ShowsOutside p after) (sym h.seen) l.shows;
            sizes = s.sizes;
            values = s.values;
          };
          registers = λ r low up. seen_register r ∙ l.registers r low up;
          later = omega (arith, c);
        }

-- a state is behind a part also if it is seen with one statement less
pub passed_since : (p : Checked) (t : Run) (free : ℕ) (left : Bool) (place : ℕ) (start : State) (f : Flat) (spent : ℕ) (m : State)
    (g : Flat) →
    IsPassed p t free left place (one_more start) f spent m g → IsPassed p t free left place start f spent m g
passed_since p t free left place start f spent m g a = record {
  without = a.without;
  registers = a.registers;
  later = (let l = a.later in omega (arith, l));
}
