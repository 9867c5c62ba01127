-- The locals that are told of a fault at a cell are those of the processors that met there.
use Rattle.std.proofs.Common.{◌≡◌, ◌∙◌, ℕ, ℤ, List, [], ◌∷◌, ◌++◌, Bool, true, false, if◌then◌else◌, map, refl, ap, sym, subst}
use Rattle.std.specs.List.{flat_map}
use Rattle.pram_values.specs.declared.kind.Kind.{Kind}
use Rattle.pram_values.specs.declared.kind.Kind.TheVariants.{DivideByZero, OutOfRange, Overflow, ReadConflict, TooWide, WriteConflict}
use Rattle.pram_values.specs.declared.place.Place.{Place}
use Rattle.pram_values.specs.declared.place.Place.TheVariants.{Cell}
use Rattle.pram_meaning.specs.Conflict.{Part, trail_of}
use Rattle.pram_meaning.specs.Store.{Member}
use Rattle.journal.specs.Entries.{OwnLocals}
use Rattle.journal.specs.Accesses.{LocalsAreOfThose}
use Rattle.journal.specs.FaultLocals.{concerns_at, own_locals}
use Rattle.journal.specs.Meeting.{has_read, has_written, met_at, met_in}

-- whose they are
abbrev whose : List OwnLocals → List ℤ
whose = map (λ l. l.processor)

one : (b : Bool) (team : List Member) (x : Part) (rest : List OwnLocals) →
    whose ((if b then own_locals team x ∷ [] else []) ++ rest) ≡ (if b then x.processor ∷ [] else []) ++ whose rest
one true team x rest = refl
one false team x rest = refl

each : (b : Part → Bool) (team : List Member) (xs : List Part) →
    whose (flat_map (λ x. if b x then own_locals team x ∷ [] else []) xs) ≡ flat_map (λ x. if b x then x.processor ∷ [] else []) xs
each b team [] = refl
each b team (x ∷ xs) =
    one (b x) team x (flat_map (λ x. if b x then own_locals team x ∷ [] else []) xs)
    ∙ ap (λ r. (if b x then x.processor ∷ [] else []) ++ r) (each b team xs)

at_cell : (kind : Kind) (at c : ℕ) (team : List Member) (xs : List Part) →
    whose (flat_map (λ x. if concerns_at (Cell c) kind at x then own_locals team x ∷ [] else []) xs) ≡ met_at kind at c xs
at_cell ReadConflict at c team xs = each (λ x. has_read at c (trail_of x.attempt)) team xs
at_cell WriteConflict at c team xs = each (λ x. has_written c x.attempt) team xs
at_cell Overflow at c team xs = each (λ x. has_written c x.attempt) team xs
at_cell DivideByZero at c team xs = each (λ x. has_written c x.attempt) team xs
at_cell OutOfRange at c team xs = each (λ x. has_written c x.attempt) team xs
at_cell TooWide at c team xs = each (λ x. has_written c x.attempt) team xs

pub locals_are_of_those : LocalsAreOfThose
locals_are_of_those xs k c team is =
    subst (λ (place : Place). whose (flat_map (λ x. if concerns_at place k.kind k.at x then own_locals team x ∷ [] else []) xs)
    ≡ met_in place k.kind k.at xs)
    (sym is) (at_cell k.kind k.at c team xs)
