-- Reads that are held, sent and answered: which register gets which cell.
use Rattle.std.specs.Prelude.{◌≡◌, ◌≢◌, ℕ, List, [], ◌∷◌, ◌++◌, map, Option, Some, None}
use Rattle.std.specs.List.{AllByRecursion, zip}
use Rattle.superstep_instructions.specs.Code.{SuperstepCode}
use Rattle.superstep_machine.specs.Keys.{least}
use Rattle.superstep_machine.specs.Parts.{Registers, Read}
use Rattle.superstep_machine.specs.Answering.{answers, destinations}
use Rattle.flat_machine.specs.Flat.{Flat, conflicts, after_send, after_reply}
use Rattle.flat_stretches.specs.Applied.{IsBare}

-- the registers with the values of the cells in memory that they ask for
abbrev pub read_from : Flat → List (ℕ × Option ℕ) → Registers → Registers
read_from f reads registers = answers (λ k c. f.memory c) 0 reads registers

-- all reads that are held are answered, on both sides, and their conflicts noted
abbrev pub answered : SuperstepCode → Flat → Flat
answered code f = record f {
  uniform = record f.uniform {
    registers = read_from f (map (λ (x : Read). (x.destination, x.cell)) f.uniform.asks) f.uniform.registers;
    asks = [];
    awaited = [];
  };
  own = λ v. record (f.own v) {
    registers = read_from f (zip (destinations f.uniform.asks) (f.own v).asks) (f.own v).registers;
    asks = [];
    awaited = [];
  };
  key = least f.key (conflicts code f);
}

-- where no write is held a send and a reply do just that
abbrev pub ReadsAreAnswered : Type 0
ReadsAreAnswered = (code : SuperstepCode) (f : Flat) → IsBare f → after_reply (after_send code f) ≡ answered code f

-- ---- which register gets which cell

abbrev pub AreOthers : ℕ → List (ℕ × Option ℕ) → Type 0
AreOthers d reads = AllByRecursion (λ (x : ℕ × Option ℕ). x.0 ≢ d) reads

-- a register that no read is for stays
abbrev pub OthersStay : Type 0
OthersStay = (f : Flat) (reads : List (ℕ × Option ℕ)) (registers : Registers) (d : ℕ) → AreOthers d reads →
    read_from f reads registers d ≡ registers d

-- the register of a read gets its cell, if no later read is for it
abbrev pub ReadsArrive : Type 0
ReadsArrive = (f : Flat) (before behind : List (ℕ × Option ℕ)) (registers : Registers) (d c : ℕ) → AreOthers d behind →
    read_from f (before ++ (d, Some c) ∷ behind) registers d ≡ f.memory c

-- and stays, if the processor asks for none by it, and no other read is for it
abbrev pub NoReadsStay : Type 0
NoReadsStay = (f : Flat) (before behind : List (ℕ × Option ℕ)) (registers : Registers) (d : ℕ) → AreOthers d before → AreOthers d behind →
    read_from f (before ++ (d, None) ∷ behind) registers d ≡ registers d
