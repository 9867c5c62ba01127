-- An entry is given back by what lies in memory.
use Rattle.std.proofs.Common.{◌≡◌, ℕ, Bool, true, false, refl, ap, eqb}
use Rattle.std.specs.Prelude.{if◌then◌else◌}
use Rattle.write_rules.specs.declared.entry.Entry.{Entry}
use Rattle.combining.specs.Held.{put_at}
use Rattle.combining.specs.Compact.{entry_of, compact_of, held_at}

clash_back : (b : Bool) → eqb (if b then 2 else 1) 2 ≡ b
clash_back true = refl
clash_back false = refl

pub entry_back : (e : Entry) → entry_of (compact_of e) ≡ e
entry_back e = ap (λ b. record { owner = e.owner; value = e.value; clash = b }) (clash_back e.clash)

pub held_back : (cell : ℕ) (e : Entry) → held_at cell (compact_of e) ≡ put_at cell e
held_back cell e = ap (put_at cell) (entry_back e)
