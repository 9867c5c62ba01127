-- Whether a write is held: behind reads, behind none, and where it waits for them.
use Rattle.std.proofs.Common.{◌≡◌, Bool, true, false, not, ◌&&◌, refl}

pub still_held : (held : Bool) → held ≡ held && not false
still_held true = refl
still_held false = refl

pub is_sent : (held : Bool) → false ≡ held && not true
is_sent true = refl
is_sent false = refl

-- a write that waits is sent by the reads
pub waited : (held some : Bool) → (held && some) && not some ≡ false
waited true true = refl
waited true false = refl
waited false true = refl
waited false false = refl
