-- A stretch of code without marks and jumps is run as a fold over its instructions, also with each write applied at once.
use Rattle.std.specs.Prelude.{◌≡◌, ℕ, ◌+◌, ◌*◌, ◌≤◌, List, [], ◌∷◌, length, Bool, true, false, not, if◌then◌else◌}
use Rattle.superstep_instructions.specs.declared.instr.Instr.{Instr}
use Rattle.superstep_instructions.specs.declared.instr.Instr.TheVariants.{Mark, Ask, Put, Send, Reply, Vote, Jump, JumpIfZero, Halt}
use Rattle.superstep_instructions.specs.declared.instr.Instr.TheVariants.{Enter, Leave, Flip, Unmask}
use Rattle.superstep_instructions.specs.declared.instr.Side.TheVariants.{Uniform, Private}
use Rattle.std.specs.List.{AllByRecursion}
use Rattle.superstep_instructions.specs.Code.{SuperstepCode}
use Rattle.superstep_machine.specs.Steps.{is_put}
use Rattle.flat_machine.specs.Flat.{Flat, after_instr, after_send, after_reply, after_vote}
use Rattle.flat_machine.specs.ByInstructions.{going}
use Rattle.flat_stretches.specs.Applied.{applied, IsBare, wrote}
use Rattle.flat_stretches.specs.Along.{Run, Comes, IsAt, access_cost, send_cost, IsRunning}
use Rattle.exchange_words.specs.Accesses.{of_write, active}

-- these stand from a place on
abbrev pub Stand : Run → ℕ → List Instr → Type 0
Stand t place [] = Unit {0}
Stand t place (i ∷ is) = IsAt t place i × Stand t (place + 1) is

-- what an instruction, or an exchange that decides nothing, leaves
abbrev pub act : SuperstepCode → Instr → Flat → Flat
act code Send f = after_send code f
act code Reply f = after_reply f
act code (Vote d) f = after_vote d f
act code i f = after_instr code i f

-- and a whole stretch
abbrev pub acts : SuperstepCode → List Instr → Flat → Flat
acts code [] f = f
acts code (i ∷ is) f = acts code is (act code i f)

-- the same where each write is applied at once
abbrev pub act_at_once : SuperstepCode → Instr → Flat → Flat
act_at_once code i f = if is_put i then wrote code i f else act code i f

abbrev pub acts_at_once : SuperstepCode → List Instr → Flat → Flat
acts_at_once code [] f = f
acts_at_once code (i ∷ is) f = acts_at_once code is (act_at_once code i f)

-- ---- what it spends

abbrev pub cost : Run → Instr → Flat → ℕ
cost t Send f = send_cost f
cost t Reply f = 1
cost t (Vote d) f = 1
cost t i f = access_cost t i f

abbrev pub costs : Run → List Instr → Flat → ℕ
costs t [] f = 0
costs t (i ∷ is) f = cost t i f + costs t is (act t.code i f)

-- the exchanges that the stretch has
abbrev pub exchange_count : List Instr → ℕ
exchange_count [] = 0
exchange_count (Send ∷ is) = 1 + exchange_count is
exchange_count (Reply ∷ is) = 1 + exchange_count is
exchange_count (Vote d ∷ is) = 1 + exchange_count is
exchange_count (i ∷ is) = exchange_count is

-- and the words of its accesses, where so many processors are active at each
abbrev pub word_count : Run → ℕ → List Instr → ℕ
word_count t k [] = 0
word_count t k (Ask Uniform d c s q ∷ is) = 2 * t.workers + word_count t k is
word_count t k (Ask Private d c s q ∷ is) = 2 * k + word_count t k is
word_count t k (Put Uniform c s v q ∷ is) = of_write t.code.rule + word_count t k is
word_count t k (Put Private c s v q ∷ is) = of_write t.code.rule * k + word_count t k is
word_count t k (i ∷ is) = word_count t k is

abbrev pub accesses : Instr → Bool
accesses (Ask side d c s q) = true
accesses (Put side c s v q) = true
accesses i = false

-- behind the instruction no processor is active that wasn't before it
abbrev pub is_steady : Instr → Bool
is_steady (Enter a b q) = false
is_steady Leave = false
is_steady Flip = false
is_steady Unmask = false
is_steady i = true

-- ---- which stretches

-- whether a write may be held behind an instruction, by whether one may be held before
abbrev pub held_after : Instr → Bool → Bool
held_after (Put side c s v q) held = true
held_after Send held = false
held_after i held = held

-- no mark, jump or halt; and a write or a reply only where no write is held
abbrev pub may_follow : Bool → Instr → Bool
may_follow held (Mark line) = false
may_follow held (Jump target) = false
may_follow held (JumpIfZero r target) = false
may_follow held Halt = false
may_follow held (Put side c s v q) = not held
may_follow held Reply = not held
may_follow held i = true

-- so it is all along; before the stretch a write may be held or not, and behind it
abbrev pub IsFine : Bool → List Instr → Bool → Type 0
IsFine before [] behind = before ≡ behind
IsFine before (i ∷ is) behind = (may_follow before i ≡ true) × IsFine (held_after i before) is behind

-- no write is held, unless one may be
abbrev pub MayHold : Bool → Flat → Type 0
MayHold held f = held ≡ false → IsBare f

-- ---- what is so for every code

-- the run behind a stretch
pub record IsBehind (t : Run) (is : List Instr) (behind : Bool) (place spent : ℕ) (f : Flat) : Type 0 where
  pub comes : Comes t (going (place + length is) (acts t.code is f)) (spent + costs t is f)
  pub applied : applied t.code (acts t.code is f) ≡ acts_at_once t.code is (applied t.code f)
  pub holds : MayHold behind (acts t.code is f)
  pub running : IsRunning t.code (acts t.code is f)

abbrev pub StretchesAreFolds : Type 0
StretchesAreFolds = (t : Run) (is : List Instr) (before behind : Bool) (place spent : ℕ) (f : Flat) → Stand t place is →
    IsFine before is behind → MayHold before f → IsRunning t.code f → Comes t (going place f) spent →
    IsBehind t is behind place spent f

-- A stretch in which at most k processors are active spends at most its exchanges and the words of its accesses; one without accesses
-- its exchanges alone.
abbrev pub CostsAreCounted : Type 0
CostsAreCounted = (t : Run) (k : ℕ) (is : List Instr) (f : Flat) → AllByRecursion (λ (i : Instr). is_steady i ≡ true) is → active f ≤ k →
    costs t is f ≤ exchange_count is + t.weight * word_count t k is

abbrev pub AccessesAlone : Type 0
AccessesAlone = (t : Run) (is : List Instr) (f : Flat) → AllByRecursion (λ (i : Instr). accesses i ≡ false) is →
    costs t is f ≤ exchange_count is

-- a fold with each write applied at once holds none
abbrev pub FoldsStayBare : Type 0
FoldsStayBare = (code : SuperstepCode) (is : List Instr) (f : Flat) → IsBare f → IsBare (acts_at_once code is f)

-- a send at which nothing is held costs nothing
abbrev pub NothingCostsNothing : Type 0
NothingCostsNothing = (f : Flat) → IsBare f → f.uniform.asks ≡ [] → send_cost f ≡ 0
