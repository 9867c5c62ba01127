-- A `&` to a run is a `&` to its words. Assumes `Logic`.
use mir.Syntax.{w64}
use lib.ListN.{length}
use base.Fraction.{full_share}
use denote.Builtin.{u64}
use denote.Array.{Array, Array-row_laws}
use denote.Copied.{uint_Copied}
use denote.Plain.{uint_row_laws}
use denote.RawPtr.{lies_at, room_for, ◌+ₚ◌}
use denote.Shares.{Shares-Array}
use denote.Param.Shared.{copy_shared}
use denote.Struct.Field.{RawPtr-field}
use denote.Struct.Laws.{RawPtr-copy}
use denote.Struct.Lending.{lent_at, lent_at_shr_laws, Lends-lies, Lends-first, of_Lends}
use Prim.Native.Nat.{◌-◌, ◌*◌}
use Rattle.exchange_arena.specs.Ownership.{words}
use Rattle.exchange_arena.specs.contracts.run.Run as C
use Rattle.exchange_arena.proofs.run.Run.TheLaw.Statement.{statement}

pub shares : statement
shares = of_Lends C.struct C.the_codes C.the_heap C.the_lent
    (λ d p. lent_at_shr_laws (Array u64 (length d.items)) (Array-row_laws u64 (uint_row_laws w64) (length d.items)) d.ptr d.items)
    (copy_shared RawPtr-field RawPtr-copy, tt)
    (λ M 𝓤 𝓛 d p.
    let n = length d.items in let l = (C.the_row).lives in
    Lends-first 𝓛 (lies_at (Array u64 n) full_share d.ptr d.items) (room_for (words (d.room - n)) (d.ptr +ₚ (n * 8)))
    (lent_at (Array u64 n) d.ptr d.items) l
    (Lends-lies 𝓛 (Array u64 n) l d.ptr d.items (Shares-Array 𝓛 u64 tt n l ((uint_Copied 𝓛 w64).shares full_share l) d.items)))
