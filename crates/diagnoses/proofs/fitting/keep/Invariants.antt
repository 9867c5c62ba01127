use Rattle.std.proofs.Common.{◌≡◌, ◌++◌, drop, map}
use Rattle.std.specs.List.{filter}
use Rattle.help.specs.InScope.{known_is}
use Rattle.diagnoses.specs.Fitting.{fits_by}
use Rattle.diagnoses.proofs.fitting.keep.Given as goal

-- the rest of the names is still to come
abbrev pub invariant-loop-k : goal.invariant-loop-k
invariant-loop-k l =
    let test = fits_by l.place.role l.place.inside l.place.tokens.now l.place.blocks.now in
    map known_is l.kept.items ++ filter test (map known_is (drop l.k-index l.names)) ≡ filter test (map known_is l.names)
