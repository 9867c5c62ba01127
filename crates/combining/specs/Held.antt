-- What is held for the next exchange: puts by cell, in the order first held.
use Rattle.std.specs.Prelude.{ℕ, List, [], ◌∷◌, Bool, if◌then◌else◌, ◌<◌}
use Rattle.std.specs.List.{filter, flat_map}
use Rattle.std.proofs.Common.{eqb}
use Rattle.pram_model.specs.declared.rule.Rule.{Rule}
use Rattle.write_rules.specs.declared.entry.Entry.{Entry}
use Rattle.superstep_machine.specs.Setting.{combining}
use Rattle.superstep_machine.specs.Words.{CellPut, put_words}
use Rattle.superstep_machine.specs.Worker.{HeldWrite}

-- the puts that are held, and for how many there is room
pub record HeldPuts : Type 0 where
  pub held : List CellPut
  pub room : ℕ

-- the first item that is meant is changed, or where none is a new one stands last
abbrev pub hold : {X : Type 0} → (X → Bool) → (X → X) → X → List X → List X
hold is change new [] = new ∷ []
hold is change new (x ∷ xs) = if is x then change x ∷ xs else x ∷ hold is change new xs

abbrev pub put_at : ℕ → Entry → CellPut
put_at c e = record { cell = c; entry = e }

-- the entry of one write
abbrev pub entry_of_write : Rule → HeldWrite → Entry
entry_of_write rule w = (combining rule).single w.processor w.value

-- one more write, joined to what is held for its cell
abbrev pub put : Rule → HeldWrite → List CellPut → List CellPut
put rule w = hold (λ (x : CellPut). eqb x.cell w.cell) (λ (x : CellPut).
    put_at x.cell ((combining rule).join x.entry (entry_of_write rule w))) (put_at w.cell (entry_of_write rule w))

-- what is held after some writes, one by one
abbrev pub held_after : Rule → List HeldWrite → List CellPut → List CellPut
held_after rule [] held = held
held_after rule (w ∷ ws) held = held_after rule ws (put rule w held)

-- the puts for module j
abbrev pub puts_for : (ℕ → ℕ) → ℕ → List CellPut → List CellPut
puts_for part j = filter (λ (x : CellPut). eqb (part x.cell) j)

-- and their words
abbrev pub packed_puts : Rule → (ℕ → ℕ) → ℕ → List CellPut → List ℕ
packed_puts rule part j held = flat_map (put_words rule) (puts_for part j held)

abbrev pub IsPutBelow : ℕ → CellPut → Type 0
IsPutBelow n x = x.cell < n

-- items by their keys
abbrev pub paired : {X Y : Type 0} → (ℕ → X → Y) → List ℕ → List X → List Y
paired make (k ∷ ks) (x ∷ xs) = make k x ∷ paired make ks xs
paired make _ _ = []
