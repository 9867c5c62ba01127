-- The marks of headers: what befell the sender before the exchange.
use Rattle.std.specs.Prelude.{List}
use Rattle.pram_values.specs.Total.{total}
use Rattle.superstep_machine.specs.declared.mark.HeaderMark.{HeaderMark}
use Rattle.superstep_machine.specs.declared.mark.HeaderMark.TheVariants.{Clear, OutOfMemory, OutOfReserve}

-- two marks together: refused memory goes first
abbrev pub worse : HeaderMark → HeaderMark → HeaderMark
worse Clear other = other
worse OutOfMemory other = OutOfMemory
worse OutOfReserve Clear = OutOfReserve
worse OutOfReserve OutOfMemory = OutOfMemory
worse OutOfReserve OutOfReserve = OutOfReserve

-- the mark of some together
abbrev pub mark_among : {A : Type 0} → (A → HeaderMark) → List A → HeaderMark
mark_among mark = total Clear worse mark
