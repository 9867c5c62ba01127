-- What a processor sees has 64 bits in a state whose values have.
use Rattle.std.proofs.Common.{ℕ, zero, suc, List, [], ◌∷◌}
use Rattle.std.specs.List.{AllByRecursion}
use Rattle.pram_check.specs.Checked.{Checked}
use Rattle.pram_meaning.specs.Store.{State, Member, member_of, seen_by}
use Rattle.pram_meaning.specs.Values.{HasValues, IsMember}
use Rattle.pram_meaning.proofs.SoundValues.{zero_is}
use Rattle.pram_meaning.proofs.ValuesOfAttempts.{SeesValues}

pub member_is : (team : List Member) (v : ℕ) → AllByRecursion IsMember team → IsMember (member_of team v)
member_is [] v h = record { index = zero_is; locals = tt }
member_is (g ∷ team) zero h = h.0
member_is (g ∷ team) (suc v) h = member_is team v h.1

pub sees_values : (p : Checked) (m : State) (v : ℕ) → HasValues m → SeesValues (seen_by p m v)
sees_values p m v h =
    let g = member_is m.team v h.team in record { uniforms = h.uniforms; cells = h.cells; index = g.index; locals = g.locals }
