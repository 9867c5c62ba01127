-- The first end of the runs so far.
use Rattle.std.specs.Prelude.{ℤ, List, Option, Some, None}
use Rattle.write_rules.specs.Verdict.{Verdict, Ended, Faulted, GoesOn}
use Rattle.comparing.specs.declared.first_end.End.{End}

-- output and memory of what is kept
abbrev pub end_of : Option End → Option (List ℤ × List ℤ)
end_of None = None
end_of (Some e) = Some (e.output.items, e.memory.items)

-- the first end with one run more
abbrev pub or_end : Option (List ℤ × List ℤ) → Verdict → Option (List ℤ × List ℤ)
or_end (Some first) v = Some first
or_end None (Ended output memory) = Some (output, memory)
or_end None (Faulted fault output) = None
or_end None (GoesOn output) = None
