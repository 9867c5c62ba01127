-- Behind a statement that has passed: the run is within the frame that its stretch leaves.
use Rattle.std.proofs.Common.{◌≡◌, ℕ, ◌+◌, ◌<◌, ◌≤◌, List, length, Bool, refl, sym, ap, ◌∙◌, subst, arith}
use Rattle.std.specs.List.{AllByRecursion}
use Rattle.superstep_instructions.specs.declared.instr.Instr.{Instr}
use Rattle.superstep_instructions.specs.declared.instr.Instr.TheVariants.{Mark}
use Rattle.superstep_machine.specs.Run.{items}
use Rattle.pram_check.specs.Checked.{Checked}
use Rattle.pram_meaning.specs.Store.{State, Member}
use Rattle.pram_meaning.specs.Values.{HasValues}
use Rattle.flat_machine.specs.Flat.{Flat, after_instr}
use Rattle.flat_machine.specs.ByInstructions.{going}
use Rattle.flat_stretches.specs.Along.{Run, Comes}
use Rattle.flat_stretches.specs.Folds.{costs}
use Rattle.flat_stretches.specs.Frames.{Frame, StandsIn, present}
use Rattle.flat_stretches.specs.Applied.{applied}
use Rattle.flat_stretches.proofs.Active.{present_are_active}
use Rattle.flat_stretches.proofs.Folds.{after_steady}
use Rattle.exchange_words.specs.Accesses.{active}
use Rattle.flat_stretches.proofs.Along.{more_may_be_spent}
use Rattle.flat_stretches.proofs.Statements.{marks_hold}
use Rattle.plain_form.specs.Registers.{behind_locals}
use Rattle.compiled_formulas.specs.Inside.{ShowsInside}
use Rattle.compiled_meaning.specs.Begins.{done, HasPassed}
use Rattle.compiled_meaning.specs.Between.{HasSizes}
use Rattle.compiled_meaning.specs.Costs.{CostsOn}
use Rattle.compiled_meaning.specs.Steps.{GoesWithin}
use Rattle.compiled_meaning.specs.Within.{IsWithin}

-- what the stretch of a statement leaves: a state of the program, in a frame
pub record Leaves (p : Checked) (t : Run) (locals base vote : ℕ) (fr : Frame) (line : ℕ) (is : List Instr) (f : Flat) (now : State) : Type 0
  where
    pub count : (done t.code line is f).uniform.count ≡ f.uniform.count + 1
    pub output : (done t.code line is f).uniform.output ≡ f.uniform.output
    pub registers : (r : ℕ) → r < vote → (done t.code line is f).uniform.registers r ≡ f.uniform.registers r
    pub shows : ShowsInside p locals now (done t.code line is f)
    pub stands : StandsIn (behind_locals locals) base fr (done t.code line is f)

-- a state of the program behind a statement
pub record IsNext (p : Checked) (locals : ℕ) (m now : State) : Type 0 where
  pub count : now.count ≡ m.count + 1
  pub output : now.output ≡ m.output
  pub sizes : HasSizes p now
  pub locals_of : AllByRecursion (λ (g : Member). length g.locals ≡ locals) now.team
  pub values : HasValues now

module _ (p : Checked) (t : Run) (locals base other vote : ℕ) (fr frame : Frame) (held left : Bool) (m : State) (place spent : ℕ) (f : Flat)
    (w : IsWithin p t locals base fr held m place spent f) (line : ℕ) (is : List Instr) (now : State) where
  -- no more processors are active behind the mark than the frame's set has
  few_active : active (after_instr t.code (Mark line) f) ≤ length (present fr)
  few_active =
      let a : active f ≡ length (present fr) = present_are_active (behind_locals locals) base fr (applied t.code f) w.stands in
      let b : active (after_instr t.code (Mark line) f) ≤ active f = after_steady t.code (Mark line) f refl in
      omega (arith, a, b)

  stretch_costs : (n : ℕ) → CostsOn t (length (present fr)) held is n → costs t is (after_instr t.code (Mark line) f) ≤ n
  stretch_costs n c =
      let s = w.shows in
      let n = s.rests in
      let b = w.between in
      c (after_instr t.code (Mark line) f) n.asks (marks_hold t.code line held f b.holds) few_active

  module _ (n more : ℕ) (c : CostsOn t (length (present fr)) held is n) (few : spent + n ≤ more) (l : m.count < t.bound) (g : Flat)
      (h : HasPassed t line is left place spent f g) (d : Leaves p t locals other vote frame line is f now) (x : IsNext p locals m now)
    where
      pub passed_within : IsWithin p t locals other frame left now (place + 1 + length is) more g
      passed_within =
          let b = w.between in
          let cost = stretch_costs n c in
          record {
            between = record {
              comes = more_may_be_spent t (going (place + 1 + length is) g)
                  (spent + costs t is (after_instr t.code (Mark line) f)) more
                  h.comes (omega (arith, cost, few));
              told = h.told;
              holds = h.holds;
              count = ap (λ (y : Flat). y.uniform.count) h.seen ∙ d.count ∙ ap (λ k. k + 1) b.count ∙ sym x.count;
              within = (let e = x.count in omega (arith, l, e));
              output = ap (λ (y : Flat). items y.uniform.output) h.seen ∙ ap items d.output ∙ b.output ∙ sym x.output;
            };
            shows = subst (ShowsInside p locals now) (sym h.seen) d.shows;
            stands = subst (StandsIn (behind_locals locals) other frame) (sym h.seen) d.stands;
            sizes = x.sizes;
            locals_of = x.locals_of;
            values = x.values;
          }

      pub passed_registers : (r : ℕ) → r < vote → g.uniform.registers r ≡ f.uniform.registers r
      passed_registers r k = ap (λ (y : Flat). y.uniform.registers r) h.seen ∙ d.registers r k

      pub passed : GoesWithin p t locals other vote frame left (place + 1 + length is) more f now
      passed = record { behind = g; within = passed_within; registers = passed_registers }

-- ---- places and exchanges written otherwise

-- behind a part that goes on from behind another
pub goes_from : (p : Checked) (t : Run) (locals base vote : ℕ) (fr : Frame) (left : Bool) (place other spent more : ℕ) (f g : Flat)
    (m : State) → place ≡ other → spent ≤ more → ((r : ℕ) → r < vote → g.uniform.registers r ≡ f.uniform.registers r) →
    GoesWithin p t locals base vote fr left place spent g m → GoesWithin p t locals base vote fr left other more f m
goes_from p t locals base vote fr left place other spent more f g m e l same h =
    let w = h.within in
    let b = w.between in
    record {
      behind = h.behind;
      within = record {
        between = record {
          comes = more_may_be_spent t (going other h.behind) spent more (subst (λ n. Comes t (going n h.behind) spent) e b.comes) l;
          told = b.told;
          holds = b.holds;
          count = b.count;
          within = b.within;
          output = b.output;
        };
        shows = w.shows;
        stands = w.stands;
        sizes = w.sizes;
        locals_of = w.locals_of;
        values = w.values;
      };
      registers = λ r k. h.registers r k ∙ same r k;
    }
