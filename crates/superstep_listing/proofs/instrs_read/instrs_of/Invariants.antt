use Rattle.std.proofs.Common.{◌≡◌, ◌++◌, length}
use Rattle.std.specs.List.{AllByRecursion}
use Rattle.superstep_instructions.specs.Limits.{IsInstr}
use Rattle.superstep_listing.specs.Listing.{ended, instr_lines}
use Rattle.superstep_listing.proofs.instrs_read.instrs_of.Given as goal

abbrev pub invariant-loop-place : goal.invariant-loop-place
invariant-loop-place l = record {
  counted : length l.found.items ≡ l.place;
  fit : AllByRecursion IsInstr l.found.items;
  whole : l.fn.text ≡ ended (instr_lines 0 l.found.items) ++ l.rest;
}
