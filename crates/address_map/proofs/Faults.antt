-- A fault stays one where more is asked for.
use Rattle.address_map.specs.Outcome.{IsFault}
use Rattle.address_map.specs.declared.fault.MapFault.{MapFault}
use Rattle.address_map.specs.declared.fault.MapFault.TheVariants.{BadWorkers, BadMap}
use Rattle.std.proofs.Common.{ℕ}

pub fault_more : (A B : Type 0) (p : ℕ) (e : MapFault) → IsFault A p e → IsFault (A × B) p e
unfolding IsFault
fault_more A B p BadWorkers h = h
fault_more A B p BadMap h = (h.0, λ both. h.1 both.0)
