-- The tokens of a text with its sizes put in, as they are spelled.
use Rattle.std.specs.Prelude.{ℕ, nat_lt, if◌then◌else◌, List, [], length, Option, Some, None, Result, Ok, Err}
use Rattle.pram_tokens.specs.Scanning.{Cut, cut_of, longest}
use Rattle.pram_printer.specs.Spelling.{spelling}
use Rattle.sized_texts.specs.declared.fault.SizeFault.{SizeFault}
use Rattle.sized_texts.specs.Pieces.{Expansion}
use Rattle.sized_texts.specs.Expansion.{expansion}

abbrev pub spelled_cut : Result Cut ℕ → Option (List ℕ)
spelled_cut (Ok c) = Some (spelling c.tokens)
spelled_cut (Err at) = None

abbrev pub spelled_expansion : Result Expansion SizeFault → Option (List ℕ)
spelled_expansion (Ok e) = if nat_lt longest (length e.text) then None else spelled_cut (cut_of e.text)
spelled_expansion (Err fault) = None

-- the canonical spelling of the tokens of a text with its sizes put in, if it is cut into tokens
abbrev pub spelled : List ℕ → Option (List ℕ)
spelled text = spelled_expansion (expansion [] text)
