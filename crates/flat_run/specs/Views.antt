-- What the values of the plain program stand for.
use Rattle.std.specs.Prelude.{◌≡◌, ℕ, ◌<◌, ◌≤◌, ◌^◌, List, map, length, reverse, Option, None, slice_index_or}
use Rattle.pram_model.specs.Layout.{total_size}
use Rattle.write_rules.specs.declared.entry.Entry.{Entry}
use Rattle.superstep_instructions.specs.Code.{SuperstepCode}
use Rattle.superstep_machine.specs.Parts.{PrivatePart, fresh}
use Rattle.flat_run.specs.declared.processor.ProcessorState.{ProcessorState}
use Rattle.flat_run.specs.declared.machine.Machine.{Machine}
use Rattle.instruction_steps.specs.Views.{registers_of, uniform_of}
use Rattle.flat_machine.specs.Flat.{Flat}

-- the last mask is kept at the end
abbrev pub part_of : ProcessorState → PrivatePart
part_of x = record {
  registers = registers_of x.registers.items;
  masks = reverse x.masks.items;
  asks = x.asks.items;
  awaited =
      x.awaited.items;
}

-- the part of the v-th processor
abbrev pub own_of : List ProcessorState → ℕ → PrivatePart
own_of processors v = slice_index_or (map part_of processors) v fresh

-- what is held for a cell
abbrev pub held_of : List (Option Entry) → ℕ → Option Entry
held_of held c = slice_index_or held c None

abbrev pub flat_of : Machine → Flat
flat_of m = record {
  uniform = uniform_of m.uniform;
  own = own_of m.processors.items;
  memory = registers_of m.memory.items;
  held = held_of m.held.items;
  key = m.key;
}

-- a machine has the processors of its range, room for all cells, and a place for each uniform register that there can be
pub record IsSized (code : SuperstepCode) (m : Machine) : Type 0 where
  pub processors : length m.processors.items ≡ m.uniform.width
  pub registers : 2 ^ 16 ≤ length m.uniform.registers.items
  pub memory : total_size code.layout ≤ length m.memory.items
  pub held : length m.held.items ≡ total_size code.layout

-- Two flat states don't differ but in processors outside the range.
pub record AreSame (f g : Flat) : Type 0 where
  pub uniform : f.uniform ≡ g.uniform
  pub own : (v : ℕ) → v < g.uniform.width → f.own v ≡ g.own v
  pub memory : f.memory ≡ g.memory
  pub held : f.held ≡ g.held
  pub key : f.key ≡ g.key
