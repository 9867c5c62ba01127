-- The trees of texts that are spelled alike.
use Rattle.std.specs.Prelude.{◌≡◌, ◌≤◌, ℕ, List, [], length, Ok}
use Rattle.pram_tokens.specs.Scanning.{longest}
use Rattle.pram_trees.specs.Program.{ProgramTree, program_tokens}
use Rattle.pram_trees.specs.Text.{IsTextOf}
use Rattle.pram_printer.specs.Places.{without_locations}
use Rattle.pram_printer.specs.Spelling.{spelling}
use Rattle.sized_texts.specs.Pieces.{Expansion}
use Rattle.sized_texts.specs.Expansion.{expansion}
use Rattle.laid_out_texts.specs.Spelled.{spelled}

-- a text with its sizes put in is that of a tree
abbrev pub IsTreeOf : List ℕ → ProgramTree → Type 0
IsTreeOf text tree = (e : Expansion) × (expansion [] text ≡ Ok e) × IsTextOf e.text tree

-- Trees of texts with one spelling, which is not too long, differ in their locations alone.
abbrev pub SpellingsTellTrees : Type 0
SpellingsTellTrees = (old new : List ℕ) (p q : ProgramTree) → spelled new ≡ spelled old → IsTreeOf old p → IsTreeOf new q →
    length (spelling (program_tokens p)) ≤ longest → without_locations q ≡ without_locations p
