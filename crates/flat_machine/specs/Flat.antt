-- One memory: the machine without workers, messages and a map. All processors of the range, one copy of the uniform part, and what
-- is held for each cell.
use Rattle.std.specs.Prelude.{ℕ, ◌+◌, List, [], ◌∷◌, Bool, ◌&&◌, Option, Some, None, ℤ, pos, if◌then◌else◌, slice_index_or}
use Rattle.std.specs.List.{range_with_len, list_any}
use Rattle.std.proofs.Common.{eqb}
use Rattle.pram_model.specs.Layout.{total_size}
use Rattle.pram_model.specs.declared.rule.Rule.{Rule}
use Rattle.pram_values.specs.declared.kind.Kind.TheVariants.{ReadConflict}
use Rattle.pram_values.specs.Total.{total}
use Rattle.pram_values.specs.Truth.{truth}
use Rattle.write_rules.specs.declared.entry.Entry.{Entry}
use Rattle.write_rules.specs.Rule.{shares_reads}
use Rattle.superstep_instructions.specs.declared.instr.Instr.{Instr}
use Rattle.superstep_machine.specs.declared.key.Key.{Key}
use Rattle.superstep_instructions.specs.Code.{SuperstepCode}
use Rattle.superstep_machine.specs.Keys.{least}
use Rattle.superstep_machine.specs.Setting.{combining}
use Rattle.superstep_machine.specs.Parts.{set_register, Read, UniformPart, PrivatePart, opening_part, fresh}
use Rattle.superstep_machine.specs.Steps.{on_uniform, uniform_key, uniform_write, index_of, is_active, on_own, own_key, own_write, is_put}
use Rattle.superstep_machine.specs.Steps.{renews}
use Rattle.superstep_machine.specs.Sending.{join, cell_at, several, asks_for, is_several, verdict_on, settled, conflict_at, put_conflict}
use Rattle.superstep_machine.specs.Sending.{is_private, uniform_sent, own_sent}
use Rattle.superstep_machine.specs.Answering.{uniform_answered, own_answered}

-- The flat state: the uniform part, the part of the v-th processor of the range, the value of each cell, what the writers that are
-- held for a cell come to, and the least key that was noted.
pub record Flat : Type 0 where
  pub uniform : UniformPart
  pub own : ℕ → PrivatePart
  pub memory : ℕ → ℤ
  pub held : ℕ → Option Entry
  pub key : Option Key

-- the numbers of the processors of the range
abbrev pub range : Flat → List ℕ
range f = range_with_len 0 f.uniform.width

-- the cells of the layout
abbrev pub cells : SuperstepCode → List ℕ
cells code = range_with_len 0 (total_size code.layout)

-- ---- an instruction on registers

-- the least key that is noted in it
abbrev pub noted : SuperstepCode → Instr → Flat → Option Key
noted code i f = least (uniform_key code i f.uniform) (total None least (λ v. own_key code i f.uniform v (f.own v)) (range f))

-- a write by the processor with that index, as far as it is to cell c
abbrev pub single_to : Rule → ℕ → ℤ → Option (ℕ × ℤ) → Option Entry
single_to rule c processor None = None
single_to rule c processor (Some (cell, value)) = if eqb cell c then Some ((combining rule).single processor value) else None

-- what the writers of cell c come to: the program by a uniform write, as processor 0, and the processors
abbrev pub written : SuperstepCode → Instr → Flat → ℕ → Option Entry
written code i f c =
    join code.rule
    (single_to code.rule c (pos 0) (uniform_write code i f.uniform))
    (total None (join code.rule) (λ v. single_to code.rule c (index_of f.uniform v) (own_write code i (f.own v))) (range f))

abbrev pub after_instr : SuperstepCode → Instr → Flat → Flat
after_instr code i f = record {
  uniform = on_uniform code i f.uniform;
  own = λ v. if renews i then fresh else on_own code i f.uniform v (f.own v);
  memory = f.memory;
  held = λ c. if is_put i then written code i f c else f.held c;
  key = least f.key (noted code i f);
}

-- ---- a send

-- the least conflict of the held writes
abbrev pub owed : SuperstepCode → Flat → Option Key
owed code f = total None least (λ c. put_conflict f.uniform.put c (verdict_on code.rule (f.held c))) (cells code)

-- how many processors ask for a cell by read k: none, one, or two and more
abbrev pub askers : Flat → ℕ → ℕ → Option Bool
askers f k c = total None several (λ v. asks_for c (cell_at k (f.own v).asks)) (range f)

-- the conflicts of one private read
abbrev pub read_conflict : SuperstepCode → Flat → ℕ → Read → Option Key
read_conflict code f k read =
    total None least (λ c. if is_private read.side && is_several (askers f k c) then Some (conflict_at read.moment c ReadConflict) else
    None) (cells code)

-- read by read from number k on
abbrev pub read_conflicts : SuperstepCode → Flat → ℕ → List Read → Option Key
read_conflicts code f k [] = None
read_conflicts code f k (read ∷ rest) = least (read_conflict code f k read) (read_conflicts code f (k + 1) rest)

-- the least key that is noted in a send
abbrev pub conflicts : SuperstepCode → Flat → Option Key
conflicts code f = least (owed code f) (if shares_reads code.rule then None else read_conflicts code f 0 f.uniform.asks)

abbrev pub after_send : SuperstepCode → Flat → Flat
after_send code f = record {
  uniform = uniform_sent f.uniform;
  own = λ v. own_sent (f.own v);
  memory = λ c. settled (verdict_on code.rule (f.held c)) (f.memory c);
  held = λ c. None;
  key = least f.key (conflicts code f);
}

-- ---- a reply, and a vote

-- each read gets the value of its cell
abbrev pub after_reply : Flat → Flat
after_reply f = record f {
  uniform = uniform_answered (λ k c. f.memory c) f.uniform;
  own = λ v. own_answered (λ k c. f.memory c) f.uniform.awaited (f.own v);
}

-- whether a processor of the range is active
abbrev pub any_active : Flat → Bool
any_active f = list_any (λ v. is_active (f.own v)) (range f)

abbrev pub after_vote : ℕ → Flat → Flat
after_vote d f = record f { uniform = record f.uniform { registers = set_register d (truth (any_active f)) f.uniform.registers } }

-- ---- the beginning

abbrev pub opening : List ℤ → Flat
opening input = record {
  uniform = opening_part;
  own = λ v. fresh;
  memory = λ c. slice_index_or input c (pos 0);
  held = λ c. None;
  key = None;
}
