-- Where the uniform part holds and awaits no read, no processor does.
use Rattle.std.proofs.Common.{◌≡◌, ℕ, [], refl, subst}
use Rattle.flat_machine.specs.Flat.{Flat}
use Rattle.flat_machine.specs.ByExchanges.{opening}
use Rattle.flat_machine.specs.ByInstructions.{going, everywhere}
use Rattle.flat_machine.proofs.Clean.{IsClean, StaysClean, steps_clean}
use Rattle.flat_stretches.specs.Applied.{AsksNone}
use Rattle.flat_stretches.specs.Along.{Run, Comes}

clean_there : (t : Run) (place : ℕ) (f : Flat) (spent : ℕ) → Comes t (going place f) spent → IsClean f
clean_there t place f spent c =
    subst StaysClean c.here
    (steps_clean t.code t.bound everywhere c.instructions (opening t.input)
    (λ e. record { asks = λ h v. refl; awaited = λ h v. refl })) refl

pub rests_there : (t : Run) (place : ℕ) (f : Flat) (spent : ℕ) → Comes t (going place f) spent → f.uniform.asks ≡ [] →
    f.uniform.awaited ≡ [] → AsksNone f
rests_there t place f spent c a w =
    let k = clean_there t place f spent c in record { asks = a; awaited = w; own_asks = k.asks a; own_awaited = k.awaited w }
