-- A processor that isn't active keeps its registers through a stretch that changes no mask.
use Rattle.std.proofs.Common.{◌≡◌, ℕ, ◌+◌, List, [], ◌∷◌, ◌++◌, Bool, true, Option, Some, None, ℤ, refl, sym, ◌∙◌, subst}
use Rattle.std.specs.Prelude.{if◌then◌else◌}
use Rattle.std.specs.List.{AllByRecursion, zip}
use Rattle.superstep_instructions.specs.declared.instr.Side.TheVariants.{Uniform, Private}
use Rattle.superstep_instructions.specs.declared.instr.Instr.{Instr}
use Rattle.superstep_instructions.specs.declared.instr.Instr.TheVariants.{Enter, Leave, Mask, Flip, Unmask, Ask, Put, Send, Reply, Vote}
use Rattle.superstep_instructions.specs.Code.{SuperstepCode}
use Rattle.superstep_machine.specs.Parts.{Registers, PrivatePart}
use Rattle.superstep_machine.specs.Steps.{on_active, is_active}
use Rattle.superstep_machine.specs.Answering.{answers, destinations}
use Rattle.bsp_verify.proofs.WorkerLemmas.{all_add}
use Rattle.flat_machine.specs.Flat.{Flat}
use Rattle.flat_stretches.specs.Folds.{act_at_once}
use Rattle.flat_stretches.specs.Frames.{IsIdle, keeps_masks, StaysIdle, IdleStay}

-- no answers come where no cell was asked for
none_answered : (value : ℕ → ℕ → ℤ) (k : ℕ) (ds : List ℕ) (cells : List (Option ℕ)) (registers : Registers) →
    AllByRecursion (λ (c : Option ℕ). c ≡ None) cells → answers value k (zip ds cells) registers ≡ registers
none_answered value k [] cells registers n = refl
none_answered value k (d ∷ ds) [] registers n = refl
none_answered value k (d ∷ ds) (None ∷ cells) registers n = none_answered value (k + 1) ds cells registers n.1
none_answered value k (d ∷ ds) (Some c ∷ cells) registers n = cc

module _ (x : PrivatePart) (h : IsIdle x) where
  same : StaysIdle x x
  same = record { idle = h; registers = refl }

  -- the other way is the one that is taken
  not_taken : (y z : PrivatePart) → StaysIdle x z → StaysIdle x (if is_active x then y else z)
  not_taken y z s = subst (λ (b : Bool). StaysIdle x (if b then y else z)) (sym h.inactive) s

  asks_none : StaysIdle x (record x { asks = x.asks ++ None ∷ [] })
  asks_none = record {
    idle = record {
      inactive = h.inactive;
      asks = all_add (λ (c : Option ℕ). c ≡ None) x.asks None h.asks refl;
      awaited = h.awaited;
    };
    registers = refl;
  }

module _ (code : SuperstepCode) (f : Flat) (v : ℕ) (h : IsIdle (f.own v)) where
  next : (i : Instr) → keeps_masks i ≡ true → StaysIdle (f.own v) ((act_at_once code i f).own v)
  next (Enter a b q) k = cc
  next Leave k = cc
  next (Mask r) k = cc
  next Flip k = cc
  next Unmask k = cc
  next (Put side c s w q) k = same (f.own v) h
  next (Ask Uniform d c s q) k = asks_none (f.own v) h
  next (Ask Private d c s q) k = not_taken (f.own v) h _ _ (asks_none (f.own v) h)
  next Send k = record { idle = record { inactive = h.inactive; asks = tt; awaited = h.asks }; registers = refl }
  next Reply k = record {
    idle = record { inactive = h.inactive; asks = h.asks; awaited = tt };
    registers = none_answered (λ k c. f.memory c) 0 (destinations f.uniform.awaited) (f.own v).awaited (f.own v).registers h.awaited;
  }
  next (Vote d) k = same (f.own v) h
  next i k = not_taken (f.own v) h (on_active code i f.uniform v (f.own v)) (f.own v) (same (f.own v) h)

pub idle_stay : IdleStay
idle_stay code [] f v k h = same (f.own v) h
idle_stay code (i ∷ is) f v k h =
    let n = next code f v h i k.0 in
    let r = idle_stay code is (act_at_once code i f) v k.1 n.idle in
    record { idle = r.idle; registers = r.registers ∙ n.registers }
