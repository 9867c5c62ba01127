-- The messages of a reply, of a vote and of a close, and what a worker does with a column of them.
use Rattle.std.specs.Prelude.{ℕ, ◌+◌, List, [], ◌∷◌, map, ◌&&◌, Option, Some, None, ℤ, pos, if◌then◌else◌, slice_index_or}
use Rattle.std.specs.List.{filter, list_any, zip}
use Rattle.std.proofs.Common.{eqb}
use Rattle.pram_values.specs.Truth.{truth}
use Rattle.superstep_machine.specs.Setting.{Setting}
use Rattle.superstep_machine.specs.Parts.{Registers, set_register, Read, UniformPart, PrivatePart}
use Rattle.superstep_machine.specs.Steps.{is_active}
use Rattle.superstep_machine.specs.Words.{CellAsk, Message, blank}
use Rattle.superstep_machine.specs.Worker.{Worker}

-- ---- a close

-- the key alone
abbrev pub closing : Worker → Message
closing s = record blank { key = s.key }

-- ---- a reply

-- a value for each cell that worker j asked this module for, in the order of the asks
abbrev pub replied : Setting → Worker → ℕ → Message
replied t s j = record blank {
  key = s.key;
  values = map (λ c. slice_index_or s.cells (t.map.offset c) (pos 0)) (slice_index_or s.taken j []);
}

-- what stands beside read k of cell c, or 0 where nothing does
abbrev pub look_up : ℕ → ℕ → List (CellAsk × ℤ) → ℤ
look_up k c [] = pos 0
look_up k c ((x, value) ∷ rest) = if eqb x.read k && eqb x.cell c then value else look_up k c rest

-- the value that came for read k of cell c: its module answered the asks that it got, in their order
abbrev pub value_came : Setting → Worker → List Message → ℕ → ℕ → ℤ
value_came t s column k c =
    let j = t.map.part c in
    look_up k c (zip (filter (λ (x : CellAsk). eqb (t.map.part x.cell) j) s.wanted) (slice_index_or column j blank).values)

-- a register after its value came; without a cell it keeps what it holds
abbrev pub answer : (ℕ → ℤ) → ℕ → Option ℕ → Registers → Registers
answer value d None r = r
answer value d (Some c) r = set_register d (value c) r

-- read by read from number k on: the registers, and the cells that were asked for
abbrev pub answers : (ℕ → ℕ → ℤ) → ℕ → List (ℕ × Option ℕ) → Registers → Registers
answers value k [] r = r
answers value k ((d, cell) ∷ rest) r = answers value (k + 1) rest (answer (value k) d cell r)

abbrev pub destinations : List Read → List ℕ
destinations = map (λ read. read.destination)

abbrev pub uniform_answered : (ℕ → ℕ → ℤ) → UniformPart → UniformPart
uniform_answered value u = record u {
  registers = answers value 0 (map (λ (x : Read). (x.destination, x.cell)) u.awaited) u.registers;
  awaited = [];
}

abbrev pub own_answered : (ℕ → ℕ → ℤ) → List Read → PrivatePart → PrivatePart
own_answered value awaited x = record x { registers = answers value 0 (zip (destinations awaited) x.awaited) x.registers; awaited = [] }

abbrev pub after_reply : Setting → Worker → List Message → Worker
after_reply t s column = record s {
  uniform = uniform_answered (value_came t s column) s.uniform;
  own = map (own_answered (value_came t s column) s.uniform.awaited) s.own;
  wanted = [];
  taken = [];
}

-- ---- a vote

-- whether it has an active processor
abbrev pub voted : Worker → Message
voted s = record blank { key = s.key; active = list_any is_active s.own }

-- the register gets 1 if any worker has one, else 0
abbrev pub after_vote : ℕ → Worker → List Message → Worker
after_vote d s column = record s {
  uniform = record s.uniform { registers = set_register d (truth (list_any (λ (m : Message). m.active) column)) s.uniform.registers };
}
