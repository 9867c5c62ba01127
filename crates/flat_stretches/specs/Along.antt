-- Where a run comes to, instruction by instruction, and how many exchanges and accesses that took.
use Rattle.std.specs.Prelude.{◌≡◌, ℕ, ◌+◌, ◌*◌, ◌<◌, ◌≤◌, List, length, Bool, true, false, Option, Some, None, ℤ, if◌then◌else◌, slice_get}
use Rattle.std.specs.List.{AllByRecursion}
use Rattle.pram_values.specs.Truth.{is_nonzero}
use Rattle.superstep_instructions.specs.declared.instr.Instr.{Instr}
use Rattle.superstep_instructions.specs.declared.instr.Instr.TheVariants.{Mark, Send, Reply, Vote, Jump, JumpIfZero, Halt}
use Rattle.superstep_instructions.specs.Code.{SuperstepCode}
use Rattle.superstep_machine.specs.declared.key.Key.{Key}
use Rattle.superstep_machine.specs.Parts.{Read}
use Rattle.superstep_machine.specs.Run.{Purpose, Sends, Replies, Votes, On, decided}
use Rattle.flat_machine.specs.Flat.{Flat, after_instr, after_send, after_reply, after_vote}
use Rattle.flat_machine.specs.ByExchanges.{State, opening}
use Rattle.flat_machine.specs.ByInstructions.{going, steps, everywhere}
use Rattle.flat_machine.specs.Exchanges.{is_holding, exchanges_from, but_empty}
use Rattle.flat_machine.specs.Verdicts.{told}
use Rattle.exchange_words.specs.Accesses.{words_by, words_within}

-- A code, its input, and how many statements may begin. What is spent is counted for so many workers, where a word weighs so much beside
-- an exchange: with the weight 0 it is exchanges alone, and a bound for every weight is one for the words.
pub record Run : Type 0 where
  pub code : SuperstepCode
  pub input : List ℤ
  pub bound : ℕ
  pub workers : ℕ
  pub weight : ℕ

-- what n instructions spend: exchanges, without each send at which nothing is held, and the words of accesses by their weight
abbrev pub spends : Run → ℕ → ℕ
spends t n =
    length (but_empty (exchanges_from t.code t.bound everywhere n (opening t.input)))
    + t.weight * words_within t.code t.bound t.workers n (opening t.input)

-- the run comes to a state, by any number of instructions, which spend at most so much
pub record Comes (t : Run) (s : State) (spent : ℕ) : Type 0 where
  pub instructions : ℕ
  pub here : steps t.code t.bound everywhere instructions (opening t.input) ≡ s
  pub few : spends t instructions ≤ spent

-- the instruction at a place
abbrev pub IsAt : Run → ℕ → Instr → Type 0
IsAt t place i = slice_get t.code.instructions place ≡ Some i

-- it is about registers, the range, or what is held: no mark, exchange or jump
abbrev pub works : Instr → Bool
works (Mark line) = false
works Send = false
works Reply = false
works (Vote d) = false
works (Jump target) = false
works (JumpIfZero r target) = false
works Halt = false
works i = true

-- what an instruction's accesses cost
abbrev pub access_cost : Run → Instr → Flat → ℕ
access_cost t i f = t.weight * words_by t.code.rule t.workers i f

-- what a send counts
abbrev pub send_cost : Flat → ℕ
send_cost f = if is_holding f.uniform then 1 else 0

-- an exchange for this purpose doesn't end the run
abbrev pub IsUndecided : Purpose → Flat → Type 0
IsUndecided purpose f = decided purpose f.uniform f.key On ≡ On

-- ---- when nothing decides

-- a key, if there is one, is of that statement
abbrev pub IsOf : ℕ → Option Key → Type 0
IsOf count None = Unit {0}
IsOf count (Some key) = key.count ≡ count

-- what is told is of the running statement, and so are the reads that are held
pub record IsRunning (code : SuperstepCode) (f : Flat) : Type 0 where
  pub told : IsOf f.uniform.count (told code f)
  pub asks : AllByRecursion (λ (x : Read). x.moment.count ≡ f.uniform.count) f.uniform.asks

-- While what is told is of the running statement no exchange ends the run; so none does without a fault.
abbrev pub NothingDecides : Type 0
NothingDecides = (code : SuperstepCode) (f : Flat) → IsOf f.uniform.count (told code f) → (purpose : Purpose) → IsUndecided purpose f

-- ---- from one instruction to the next, for every code

-- what was spent is at most what may be
abbrev pub MoreMayBeSpent : Type 0
MoreMayBeSpent = (t : Run) (s : State) (spent more : ℕ) → Comes t s spent → spent ≤ more → Comes t s more

-- a run begins without an exchange
abbrev pub RunsBegin : Type 0
RunsBegin = (t : Run) → Comes t (opening t.input) 0

abbrev pub WorkGoesOn : Type 0
WorkGoesOn = (t : Run) (place : ℕ) (f : Flat) (spent : ℕ) → Comes t (going place f) spent → (i : Instr) → IsAt t place i →
    works i ≡ true → Comes t (going (place + 1) (after_instr t.code i f)) (spent + access_cost t i f)

-- a mark below the bound is passed
abbrev pub MarksGoOn : Type 0
MarksGoOn = (t : Run) (place : ℕ) (f : Flat) (spent : ℕ) → Comes t (going place f) spent → (line : ℕ) → IsAt t place (Mark line) →
    f.uniform.count < t.bound → Comes t (going (place + 1) (after_instr t.code (Mark line) f)) spent

abbrev pub SendsGoOn : Type 0
SendsGoOn = (t : Run) (place : ℕ) (f : Flat) (spent : ℕ) → Comes t (going place f) spent → IsAt t place Send → IsUndecided Sends f →
    Comes t (going (place + 1) (after_send t.code f)) (spent + send_cost f)

abbrev pub RepliesGoOn : Type 0
RepliesGoOn = (t : Run) (place : ℕ) (f : Flat) (spent : ℕ) → Comes t (going place f) spent → IsAt t place Reply → IsUndecided Replies f →
    Comes t (going (place + 1) (after_reply f)) (spent + 1)

abbrev pub VotesGoOn : Type 0
VotesGoOn = (t : Run) (place : ℕ) (f : Flat) (spent : ℕ) → Comes t (going place f) spent → (d : ℕ) → IsAt t place (Vote d) →
    IsUndecided (Votes d) f → Comes t (going (place + 1) (after_vote d f)) (spent + 1)

abbrev pub JumpsGoOn : Type 0
JumpsGoOn = (t : Run) (place : ℕ) (f : Flat) (spent : ℕ) → Comes t (going place f) spent → (target : ℕ) → IsAt t place (Jump target) →
    Comes t (going target f) spent

-- a jump where the register is zero, by whether it isn't
abbrev pub ForksGoOn : Type 0
ForksGoOn = (t : Run) (place : ℕ) (f : Flat) (spent : ℕ) → Comes t (going place f) spent → (r target : ℕ) →
    IsAt t place (JumpIfZero r target) →
    Comes t (if is_nonzero (f.uniform.registers r) then going (place + 1) f else going target f) spent
