-- How a run without a fault ends: by its halt, or by its bound.
use Rattle.std.specs.Prelude.{◌≡◌, ℕ, ◌+◌, ◌*◌, ◌≤◌, map, length, None, if◌then◌else◌}
use Rattle.write_rules.specs.Verdict.{Verdict, Ended, GoesOn}
use Rattle.superstep_instructions.specs.declared.instr.Instr.TheVariants.{Mark, Halt}
use Rattle.superstep_machine.specs.Run.{is_held, items}
use Rattle.bsp_verify.specs.WellFormed.{IsWellFormed}
use Rattle.flat_machine.specs.Flat.{Flat, cells}
use Rattle.flat_machine.specs.ByInstructions.{going, IsFlatOutcome}
use Rattle.flat_machine.specs.Exchanges.{exchanges_of, but_empty}
use Rattle.flat_machine.specs.Verdicts.{told}
use Rattle.exchange_words.specs.Accesses.{words_of}
use Rattle.flat_stretches.specs.Applied.{applied}
use Rattle.flat_stretches.specs.Along.{Run, Comes, IsAt}

-- what a close counts: a write that is held is sent first
abbrev pub close_cost : Flat → ℕ
close_cost f = if is_held f.uniform.put then 2 else 1

-- the run has an outcome, and spends at most so much: exchanges, without each send at which nothing is held, and the words of accesses
pub record ComesOut (t : Run) (verdict : Verdict) (spent : ℕ) : Type 0 where
  pub outcome : IsFlatOutcome t.code t.input t.bound verdict
  pub few : length (but_empty (exchanges_of t.code t.bound t.input)) + t.weight * words_of t.code t.bound t.workers t.input ≤ spent

-- at a halt, with the memory in which the held write is applied
abbrev pub HaltsEnd : Type 0
HaltsEnd = (t : Run) → IsWellFormed t.code → (place : ℕ) (f : Flat) (spent : ℕ) → Comes t (going place f) spent → IsAt t place Halt →
    told t.code f ≡ None →
    ComesOut t (Ended (items f.uniform.output) (map (applied t.code f).memory (cells t.code))) (spent + close_cost f)

-- at a mark where as many statements have begun as may
abbrev pub BoundsEnd : Type 0
BoundsEnd = (t : Run) → IsWellFormed t.code → (place : ℕ) (f : Flat) (spent : ℕ) → Comes t (going place f) spent → (line : ℕ) →
    IsAt t place (Mark line) → f.uniform.count ≡ t.bound → told t.code f ≡ None →
    ComesOut t (GoesOn (items f.uniform.output)) (spent + close_cost f)
