-- The flat machine seen with the write that it holds applied: its values in memory, and its conflicts noted.
use Rattle.std.specs.Prelude.{◌≡◌, ℕ, [], true, false, Option, Some, None}
use Rattle.pram_values.specs.Total.{total}
use Rattle.superstep_instructions.specs.declared.instr.Instr.{Instr}
use Rattle.superstep_instructions.specs.Code.{SuperstepCode}
use Rattle.superstep_machine.specs.declared.key.Key.{Key}
use Rattle.superstep_machine.specs.Keys.{least}
use Rattle.superstep_machine.specs.Results.{position_of}
use Rattle.superstep_machine.specs.Sending.{verdict_on, settled, put_conflict}
use Rattle.superstep_machine.specs.Steps.{moment_of, is_put}
use Rattle.flat_machine.specs.Flat.{Flat, cells, noted, written, after_instr, after_send, after_reply, after_vote}
use Rattle.flat_machine.specs.Verdicts.{told}

-- each cell has what its held writers leave, no write is held, and the key is the least among those noted and those that the write owed
abbrev pub applied : SuperstepCode → Flat → Flat
applied code f = record {
  uniform = record f.uniform { put = None };
  own = f.own;
  memory = λ c. settled (verdict_on code.rule (f.held c)) (f.memory c);
  held = λ c. None;
  key = told code f;
}

-- no write is held
pub record IsBare (f : Flat) : Type 0 where
  pub put : f.uniform.put ≡ None
  pub held : (c : ℕ) → f.held c ≡ None

-- no read is held, and none is awaited
pub record AsksNone (f : Flat) : Type 0 where
  pub asks : f.uniform.asks ≡ []
  pub awaited : f.uniform.awaited ≡ []
  pub own_asks : (v : ℕ) → (f.own v).asks ≡ []
  pub own_awaited : (v : ℕ) → (f.own v).awaited ≡ []

-- ---- a write at once

-- the least conflict among the writers of an instruction
abbrev pub write_conflict : SuperstepCode → Instr → Flat → Option Key
write_conflict code i f =
    total None least (λ c. put_conflict (Some (moment_of f.uniform (position_of i))) c (verdict_on code.rule (written code i f c)))
    (cells code)

-- each cell gets what the rule gives for its writers, and nothing is held
abbrev pub wrote : SuperstepCode → Instr → Flat → Flat
wrote code i f = record f {
  memory = λ c. settled (verdict_on code.rule (written code i f c)) (f.memory c);
  key = least (least f.key (noted code i f)) (write_conflict code i f);
}

-- ---- what is so for every code and every state

-- an instruction that is no write does the same before and after
abbrev pub InstructionsApply : Type 0
InstructionsApply = (code : SuperstepCode) (i : Instr) (f : Flat) → is_put i ≡ false →
    applied code (after_instr code i f) ≡ after_instr code i (applied code f)

-- a write where none is held is a write at once
abbrev pub WritesApply : Type 0
WritesApply = (code : SuperstepCode) (i : Instr) (f : Flat) → is_put i ≡ true → IsBare f →
    applied code (after_instr code i f) ≡ wrote code i (applied code f)

-- a send is the same send
abbrev pub SendsAreSame : Type 0
SendsAreSame = (code : SuperstepCode) (f : Flat) → after_send code (applied code f) ≡ after_send code f

-- so replies behind it answer from this memory
abbrev pub SendsLeaveMemory : Type 0
SendsLeaveMemory = (code : SuperstepCode) (f : Flat) → (after_send code f).memory ≡ (applied code f).memory

-- and where no read is asked nothing else happens
abbrev pub SendsOfWritesApply : Type 0
SendsOfWritesApply = (code : SuperstepCode) (f : Flat) → AsksNone f → after_send code f ≡ applied code f

-- a reply where no write is held, and a vote, do the same before and after
abbrev pub RepliesApply : Type 0
RepliesApply = (code : SuperstepCode) (f : Flat) → IsBare f → applied code (after_reply f) ≡ after_reply (applied code f)

abbrev pub VotesApply : Type 0
VotesApply = (code : SuperstepCode) (d : ℕ) (f : Flat) → applied code (after_vote d f) ≡ after_vote d (applied code f)

-- with no write held the state is as it is seen
abbrev pub BareIsApplied : Type 0
BareIsApplied = (code : SuperstepCode) (f : Flat) → IsBare f → applied code f ≡ f

-- so a send at which nothing is held does nothing
abbrev pub EmptySendsAreNothing : Type 0
EmptySendsAreNothing = (code : SuperstepCode) (f : Flat) → IsBare f → AsksNone f → after_send code f ≡ f
