-- The message of a send, and what a module does with a column of them.
use Rattle.std.specs.Prelude.{ℕ, zero, suc, ◌+◌, List, [], ◌∷◌, ◌++◌, map, Bool, true, false, not, ◌&&◌, Option, Some, None, Ok, Err, ℤ}
use Rattle.std.specs.Prelude.{if◌then◌else◌}
use Rattle.std.specs.List.{filter, filter_map, zip, range_with_len}
use Rattle.std.proofs.Common.{eqb}
use Rattle.pram_values.specs.declared.kind.Kind.{Kind}
use Rattle.pram_values.specs.declared.kind.Kind.TheVariants.{ReadConflict}
use Rattle.pram_values.specs.declared.place.Place.TheVariants.{Cell}
use Rattle.pram_values.specs.Value.{Value}
use Rattle.pram_values.specs.Total.{total}
use Rattle.pram_model.specs.declared.rule.Rule.{Rule}
use Rattle.write_rules.specs.declared.entry.Entry.{Entry}
use Rattle.write_rules.specs.Rule.{shares_reads}
use Rattle.superstep_instructions.specs.declared.instr.Side.{Side}
use Rattle.superstep_instructions.specs.declared.instr.Side.TheVariants.{Uniform, Private}
use Rattle.superstep_machine.specs.declared.key.Key.{Key}
use Rattle.superstep_machine.specs.declared.mark.HeaderMark.TheVariants.{Clear}
use Rattle.superstep_machine.specs.Keys.{together, least}
use Rattle.superstep_machine.specs.Setting.{Setting, module_cells, combining}
use Rattle.superstep_machine.specs.Parts.{Moment, Read, UniformPart, PrivatePart}
use Rattle.superstep_machine.specs.Words.{CellPut, CellAsk, Message}
use Rattle.superstep_machine.specs.Worker.{HeldWrite, Worker}

-- each once, in the order of the first places
abbrev pub firsts : List ℕ → List ℕ
firsts [] = []
firsts (x ∷ xs) = x ∷ filter (λ y. not (eqb x y)) (firsts xs)

-- ---- what is put

-- what some writers of one cell and some others come to
abbrev pub join : Rule → Option Entry → Option Entry → Option Entry
join rule = together (combining rule).join

-- a held write, as far as it is to that cell
abbrev pub entry_to : Rule → ℕ → HeldWrite → Option Entry
entry_to rule c x = if eqb x.cell c then Some ((combining rule).single x.processor x.value) else None

-- what the worker's writers of a cell come to
abbrev pub entry_held : Rule → Worker → ℕ → Option Entry
entry_held rule s c = total None (join rule) (entry_to rule c) s.held

abbrev pub put_of : ℕ → Option Entry → Option CellPut
put_of c None = None
put_of c (Some e) = Some (record { cell = c; entry = e })

-- by cell what the worker holds, in the order first held
abbrev pub puts_held : Rule → Worker → List CellPut
puts_held rule s = filter_map (λ c. put_of c (entry_held rule s c)) (firsts (map (λ (x : HeldWrite). x.cell) s.held))

-- ---- what is asked

-- the cell of read k, if it asks for one
abbrev pub cell_at : ℕ → List (Option ℕ) → Option ℕ
cell_at k [] = None
cell_at zero (c ∷ cs) = c
cell_at (suc k) (c ∷ cs) = cell_at k cs

abbrev pub present : List (Option ℕ) → List ℕ
present = filter_map (λ c. c)

-- the cells that read k of the worker asks for: for the uniform part, and for each of its processors
abbrev pub cells_asked : Worker → Read → ℕ → List ℕ
cells_asked s read k = firsts (present (read.cell ∷ map (λ (x : PrivatePart). cell_at k x.asks) s.own))

-- one, or two and more: `Some true` is the latter
abbrev pub several : Option Bool → Option Bool → Option Bool
several = together (λ a b. true)

abbrev pub asks_for : ℕ → Option ℕ → Option Bool
asks_for c None = None
asks_for c (Some d) = if eqb d c then Some false else None

abbrev pub is_several : Option Bool → Bool
is_several None = false
is_several (Some b) = b

-- whether two or more processors of the worker ask for a cell by read k
abbrev pub asked_twice : Worker → ℕ → ℕ → Bool
asked_twice s k c = is_several (total None several (λ (x : PrivatePart). asks_for c (cell_at k x.asks)) s.own)

-- read by read from number k on, what the worker asks for
abbrev pub asks_from : Worker → ℕ → List Read → List CellAsk
asks_from s k [] = []
asks_from s k (read ∷ rest) = map (λ c. record { read = k; cell = c; twice = asked_twice s k c }) (cells_asked s read k)
    ++ asks_from s (k + 1) rest

abbrev pub asks_held : Worker → List CellAsk
asks_held s = asks_from s 0 s.uniform.asks

-- ---- the message to module j

abbrev pub sent : Setting → Worker → ℕ → Message
sent t s j = record {
  key = s.key;
  mark = Clear;
  active = false;
  puts = filter (λ (x : CellPut). eqb (t.map.part x.cell) j) (puts_held t.code.rule s);
  asks = filter (λ (x : CellAsk). eqb (t.map.part x.cell) j) (asks_held s);
  values = [];
}

-- ---- what module w does with the messages of all workers

abbrev pub entry_in : ℕ → CellPut → Option Entry
entry_in c x = if eqb x.cell c then Some x.entry else None

-- what the writers of a cell, of all workers, come to
abbrev pub entry_came : Rule → List Message → ℕ → Option Entry
entry_came rule column c = total None (join rule) (λ (m : Message). total None (join rule) (entry_in c) m.puts) column

-- what they leave, or why they may not
abbrev pub verdict_on : Rule → Option Entry → Option Value
verdict_on rule None = None
verdict_on rule (Some e) = Some ((combining rule).verdict e)

-- a cell that nobody writes keeps its value, and so does one in conflict
abbrev pub settled : Option Value → ℤ → ℤ
settled None old = old
settled (Some (Ok x)) old = x
settled (Some (Err kind)) old = old

-- a fault of several processors at a cell
abbrev pub conflict_at : Moment → ℕ → Kind → Key
conflict_at at c kind = record { count = at.count; position = at.position; conflict = true; place = Cell c; kind = kind; line = at.line }

-- the conflict of a put at a cell, at the put's moment
abbrev pub put_conflict : Option Moment → ℕ → Option Value → Option Key
put_conflict (Some at) c (Some (Err kind)) = Some (conflict_at at c kind)
put_conflict put c verdict = None

abbrev pub asked_in : ℕ → ℕ → CellAsk → Option Bool
asked_in k c x = if eqb x.read k && eqb x.cell c then Some x.twice else None

-- how many processors of all workers ask for a cell by read k: none, one, or two and more
abbrev pub askers_came : List Message → ℕ → ℕ → Option Bool
askers_came column k c = total None several (λ (m : Message). total None several (asked_in k c) m.asks) column

abbrev pub is_private : Side → Bool
is_private Private = true
is_private Uniform = false

-- the conflicts of one private read; all workers ask by a uniform one, and that is none
abbrev pub read_conflict : List Message → List ℕ → ℕ → Read → Option Key
read_conflict column cells k read =
    total None least (λ c. if is_private read.side
    && is_several (askers_came column k c) then Some (conflict_at read.moment c ReadConflict) else None) cells

-- read by read from number k on
abbrev pub read_conflicts : List Message → List ℕ → ℕ → List Read → Option Key
read_conflicts column cells k [] = None
read_conflicts column cells k (read ∷ rest) = least (read_conflict column cells k read) (read_conflicts column cells (k + 1) rest)

-- the least key that module w notes
abbrev pub conflicts : Setting → ℕ → UniformPart → List Message → Option Key
conflicts t w u column =
    let cells = module_cells t w in
    least
    (total None least (λ c. put_conflict u.put c (verdict_on t.code.rule (entry_came t.code.rule column c))) cells)
    (if shares_reads t.code.rule then None else read_conflicts column cells 0 u.asks)

-- what was held is on its way
abbrev pub uniform_sent : UniformPart → UniformPart
uniform_sent u = record u { put = None; awaited = u.asks; asks = [] }

abbrev pub own_sent : PrivatePart → PrivatePart
own_sent x = record x { awaited = x.asks; asks = [] }

-- worker w after a send: first the puts, then it takes the asks
abbrev pub after_send : Setting → ℕ → Worker → List Message → Worker
after_send t w s column = record {
  uniform = uniform_sent s.uniform;
  own = map own_sent s.own;
  cells = map (λ x. settled (verdict_on t.code.rule (entry_came t.code.rule column (t.map.cell w x.0))) x.1)
      (zip (range_with_len 0 (t.map.width w)) s.cells);
  held = [];
  key = least s.key (conflicts t w s.uniform column);
  wanted = asks_held s;
  taken = map (λ (m : Message). map (λ (x : CellAsk). x.cell) m.asks) column;
}
