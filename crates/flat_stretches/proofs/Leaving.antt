-- A stretch that evaluates leaves all that the program has but for registers from a number on.
use Rattle.std.proofs.Common.{◌≡◌, ℕ, ◌+◌, ◌<◌, List, [], ◌∷◌, map, true, Option, Some, None, ℤ, pos, refl, ap, ◌∙◌}
use Rattle.std.proofs.Common.{sym, subst}
use Rattle.std.specs.Prelude.{nat_le}
use Rattle.std.specs.List.{AllByRecursion}
use Rattle.pram_model.specs.Layout.{cell_of}
use Rattle.pram_values.specs.Truth.{truth}
use Rattle.write_rules.specs.declared.entry.Entry.{Entry}
use Rattle.superstep_instructions.specs.declared.instr.Side.TheVariants.{Uniform, Private}
use Rattle.superstep_instructions.specs.declared.instr.Instr.{Instr}
use Rattle.superstep_instructions.specs.declared.instr.Instr.TheVariants.{Mark, Set, Copy, Negate, Calculate, Decide, Not, Enter, Leave}
use Rattle.superstep_instructions.specs.declared.instr.Instr.TheVariants.{Ask, Put}
use Rattle.superstep_instructions.specs.declared.instr.Instr.TheVariants.{Print, Send, Reply, Vote}
use Rattle.superstep_instructions.specs.Code.{SuperstepCode}
use Rattle.superstep_machine.specs.Parts.{Registers, Read, set_register}
use Rattle.superstep_machine.specs.Sending.{verdict_on, settled}
use Rattle.superstep_machine.specs.Steps.{zero_without}
use Rattle.superstep_machine.specs.Answering.{answer, answers}
use Rattle.bsp_verify.proofs.WorkerLemmas.{all_add}
use Rattle.flat_machine.specs.Flat.{Flat, after_instr, after_vote, any_active}
use Rattle.flat_stretches.specs.Applied.{IsBare}
use Rattle.flat_stretches.specs.Folds.{act_at_once, acts_at_once}
use Rattle.flat_stretches.specs.Leaving.{IsLeft, evaluates, IsReadAbove, ReadsAbove, FoldsLeave}
use Rattle.flat_stretches.proofs.Below.{set_below}
use Rattle.flat_stretches.proofs.Folds.{bare_at_once}
use Rattle.std.proofs.lemmas.Bool.{leb-true}

-- ---- registers below `base`

module _ (base : ℕ) where
  set_if_above : (d : ℕ) (z : ℤ) (registers : Registers) → nat_le base d ≡ true → (r : ℕ) → r < base →
      set_register d z registers r ≡ registers r
  set_if_above d z registers h r l = set_below base d z registers r (leb-true base d h) l

  asked_below : (cell : Option ℕ) (d : ℕ) (registers : Registers) → nat_le base d ≡ true → (r : ℕ) → r < base →
      zero_without cell d registers r ≡ registers r
  asked_below None d registers h r l = set_if_above d (pos 0) registers h r l
  asked_below (Some c) d registers h r l = refl

  answer_below : (value : ℕ → ℤ) (d : ℕ) (cell : Option ℕ) (registers : Registers) → IsReadAbove base d cell → (r : ℕ) → r < base →
      answer value d cell registers r ≡ registers r
  answer_below value d None registers h r l = refl
  answer_below value d (Some c) registers h r l = set_below base d (value c) registers r h l

  answers_below : (value : ℕ → ℕ → ℤ) (k : ℕ) (reads : List Read) (registers : Registers) →
      AllByRecursion (λ (x : Read). IsReadAbove base x.destination x.cell) reads → (r : ℕ) → r < base →
      answers value k (map (λ (x : Read). (x.destination, x.cell)) reads) registers r ≡ registers r
  answers_below value k [] registers h r l = refl
  answers_below value k (x ∷ reads) registers h r l =
      answers_below value (k + 1) reads (answer (value k) x.destination x.cell registers) h.1 r l
      ∙ answer_below (value k) x.destination x.cell registers h.0 r l

  read_above : (d : ℕ) (cell : Option ℕ) → nat_le base d ≡ true → IsReadAbove base d cell
  read_above d None h = tt
  read_above d (Some c) h = leb-true base d h

-- ---- one instruction

-- what it leaves, and the reads behind it
record IsNext (base : ℕ) (f g : Flat) : Type 0 where
  left : IsLeft base f g
  above : ReadsAbove base g

module _ (code : SuperstepCode) (base : ℕ) (f : Flat) (b : IsBare f) (a : ReadsAbove base f) where
  -- an instruction on uniform registers alone
  sets : (g : Flat) → g.uniform ≡ record f.uniform { registers = g.uniform.registers } → g.memory ≡ f.memory →
      ((r : ℕ) → r < base → g.uniform.registers r ≡ f.uniform.registers r) → IsNext base f g
  sets g u m h = record {
    left = record {
      count = ap (λ x. x.count) u;
      line = ap (λ x. x.line) u;
      low = ap (λ x. x.low) u;
      width = ap (λ x. x.width) u;
      output = ap (λ x. x.output) u;
      registers = h;
      memory = λ c. ap (λ (x : ℕ → ℤ). x c) m;
    };
    above = record {
      asks = subst (λ (xs : List Read). AllByRecursion (λ (x : Read). IsReadAbove base x.destination x.cell) xs)
          (ap (λ x. x.asks) (sym u)) a.asks;
      awaited = subst (λ (xs : List Read). AllByRecursion (λ (x : Read). IsReadAbove base x.destination x.cell) xs)
          (ap (λ x. x.awaited) (sym u)) a.awaited;
    };
  }

  next : (i : Instr) → evaluates base i ≡ true → IsNext base f (act_at_once code i f)
  next (Mark line) h = cc
  next (Enter x y q) h = cc
  next Leave h = cc
  next (Put side c s v q) h = cc
  next (Print s) h = cc
  next (Set Uniform d x) h = sets (after_instr code (Set Uniform d x) f) refl refl (set_if_above base d _ f.uniform.registers h)
  next (Copy Uniform d s) h = sets (after_instr code (Copy Uniform d s) f) refl refl (set_if_above base d _ f.uniform.registers h)
  next (Negate Uniform d s q) h = sets (after_instr code (Negate Uniform d s q) f) refl refl (set_if_above base d _ f.uniform.registers h)
  next (Calculate Uniform o d x y q) h =
      sets (after_instr code (Calculate Uniform o d x y q) f) refl refl (set_if_above base d _ f.uniform.registers h)
  next (Decide Uniform o d x y) h =
      sets (after_instr code (Decide Uniform o d x y) f) refl refl (set_if_above base d _ f.uniform.registers h)
  next (Not Uniform d s) h = sets (after_instr code (Not Uniform d s) f) refl refl (set_if_above base d _ f.uniform.registers h)
  next (Ask Uniform d c s q) h = record {
    left = record {
      count = refl;
      line = refl;
      low = refl;
      width = refl;
      output = refl;
      registers = asked_below base (cell_of code.layout c (f.uniform.registers s)) d f.uniform.registers h;
      memory = λ k. refl;
    };
    above = record {
      asks = all_add (λ (x : Read). IsReadAbove base x.destination x.cell) f.uniform.asks _ a.asks
          (read_above base d (cell_of code.layout c (f.uniform.registers s)) h);
      awaited = a.awaited;
    };
  }
  next (Ask Private d c s q) h = record {
    left = record {
      count = refl;
      line = refl;
      low = refl;
      width = refl;
      output = refl;
      registers = λ r l. refl;
      memory = λ k. refl;
    };
    above = record {
      asks = all_add (λ (x : Read). IsReadAbove base x.destination x.cell) f.uniform.asks _ a.asks tt;
      awaited = a.awaited;
    };
  }
  next Send h = record {
    left = record {
      count = refl;
      line = refl;
      low = refl;
      width = refl;
      output = refl;
      registers = λ r l. refl;
      memory = λ c. ap (λ (e : Option Entry). settled (verdict_on code.rule e) (f.memory c)) (b.held c);
    };
    above = record { asks = tt; awaited = a.asks };
  }
  next Reply h = record {
    left = record {
      count = refl;
      line = refl;
      low = refl;
      width = refl;
      output = refl;
      registers = answers_below base (λ k c. f.memory c) 0 f.uniform.awaited f.uniform.registers a.awaited;
      memory = λ c. refl;
    };
    above = record { asks = a.asks; awaited = tt };
  }
  next (Vote d) h = sets (after_vote d f) refl refl (set_if_above base d (truth (any_active f)) f.uniform.registers h)
  next i h = sets (after_instr code i f) refl refl (λ r l. refl)

-- ---- a stretch

joined : (base : ℕ) (f g h : Flat) → IsLeft base f g → IsLeft base g h → IsLeft base f h
joined base f g h x y = record {
  count = y.count ∙ x.count;
  line = y.line ∙ x.line;
  low = y.low ∙ x.low;
  width = y.width ∙ x.width;
  output = y.output ∙ x.output;
  registers = λ r l. y.registers r l ∙ x.registers r l;
  memory = λ c. y.memory c ∙ x.memory c;
}

pub folds_leave : FoldsLeave
folds_leave code base [] f e b a = record {
  count = refl;
  line = refl;
  low = refl;
  width = refl;
  output = refl;
  registers = λ r l. refl;
  memory = λ c. refl;
}
folds_leave code base (i ∷ is) f e b a =
    let n = next code base f b a i e.0 in
    joined base f (act_at_once code i f) (acts_at_once code (i ∷ is) f) n.left
    (folds_leave code base is (act_at_once code i f) e.1 (bare_at_once code i f b) n.above)
