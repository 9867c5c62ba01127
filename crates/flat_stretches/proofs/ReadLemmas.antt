-- A send of reads and its reply give each register its cell.
use Rattle.std.proofs.Common.{◌≡◌, ◌≢◌, ℕ, ◌+◌, List, [], ◌∷◌, ◌++◌, map, cond, Option, Some, None, ℤ, refl, sym}
use Rattle.std.proofs.Common.{ap, ◌∙◌}
use Rattle.std.specs.List.{zip}
use Rattle.std.proofs.lemmas.Bool.{ne_eqb}
use Rattle.superstep_machine.specs.Keys.{least}
use Rattle.superstep_machine.specs.Parts.{Registers, Read, set_register}
use Rattle.superstep_machine.specs.Sending.{verdict_on, settled}
use Rattle.superstep_machine.specs.Answering.{answer, answers, destinations}
use Rattle.superstep_machine.proofs.Numbers.{with_itself}
use Rattle.flat_machine.specs.Flat.{conflicts}
use Rattle.flat_stretches.specs.Reads.{ReadsAreAnswered, AreOthers, OthersStay, ReadsArrive, NoReadsStay}

pub reads_are_answered : ReadsAreAnswered
reads_are_answered code f b =
    λ z. record {
      uniform = record f.uniform {
        put = sym b.put z;
        registers = answers (λ k c. settled (verdict_on code.rule (b.held c z)) (f.memory c)) 0
            (map (λ (x : Read). (x.destination, x.cell)) f.uniform.asks) f.uniform.registers;
        asks = [];
        awaited = [];
      };
      own = λ v. record (f.own v) {
        registers = answers (λ k c. settled (verdict_on code.rule (b.held c z)) (f.memory c)) 0
            (zip (destinations f.uniform.asks) (f.own v).asks) (f.own v).registers;
        asks = [];
        awaited = [];
      };
      memory = λ c. settled (verdict_on code.rule (b.held c z)) (f.memory c);
      held = λ c. sym (b.held c) z;
      key = least f.key (conflicts code f);
    }

-- ---- registers

module _ (value : ℕ → ℕ → ℤ) (d : ℕ) where
  other_stays : (k e : ℕ) (cell : Option ℕ) (registers : Registers) → e ≢ d → answer (value k) e cell registers d ≡ registers d
  other_stays k e None registers n = refl
  other_stays k e (Some c) registers n = ap (λ b. cond b (value k c) (registers d)) (ne_eqb e d n)

  others_stay_there : (k : ℕ) (reads : List (ℕ × Option ℕ)) (registers : Registers) → AreOthers d reads →
      answers value k reads registers d ≡ registers d
  others_stay_there k [] registers n = refl
  others_stay_there k ((e, cell) ∷ rest) registers n =
      others_stay_there (k + 1) rest (answer (value k) e cell registers) n.1 ∙ other_stays k e cell registers n.0

  no_read_stays : (k : ℕ) (before behind : List (ℕ × Option ℕ)) (registers : Registers) → AreOthers d before → AreOthers d behind →
      answers value k (before ++ (d, None) ∷ behind) registers d ≡ registers d
  no_read_stays k [] behind registers n m = others_stay_there (k + 1) behind registers m
  no_read_stays k ((e, cell) ∷ before) behind registers n m =
      no_read_stays (k + 1) before behind (answer (value k) e cell registers) n.1 m ∙ other_stays k e cell registers n.0

-- by whatever is read from one memory
read_arrives : (memory : ℕ → ℤ) (d c k : ℕ) (before behind : List (ℕ × Option ℕ)) (registers : Registers) → AreOthers d behind →
    answers (λ k c. memory c) k (before ++ (d, Some c) ∷ behind) registers d ≡ memory c
read_arrives memory d c k [] behind registers m =
    others_stay_there (λ k c. memory c) d (k + 1) behind (set_register d (memory c) registers) m
    ∙ ap (λ b. cond b (memory c) (registers d)) (with_itself d)
read_arrives memory d c k ((e, cell) ∷ before) behind registers m =
    read_arrives memory d c (k + 1) before behind (answer memory e cell registers) m

pub others_stay : OthersStay
others_stay f reads registers d n = others_stay_there (λ k c. f.memory c) d 0 reads registers n

pub reads_arrive : ReadsArrive
reads_arrive f before behind registers d c m = read_arrives f.memory d c 0 before behind registers m

pub no_reads_stay : NoReadsStay
no_reads_stay f before behind registers d n m = no_read_stays (λ k c. f.memory c) d 0 before behind registers n m
