-- What who keeps the last fault has heard of moments, and its law: it hears moments behind moments.
use Rattle.std.proofs.Common.{◌≡◌, ◌∙◌, List, [], ◌∷◌, ◌++◌, Option, Some, None, refl, ap, sym}
use Rattle.std.proofs.lemmas.Grind.{flat_map-append}
use Rattle.std.specs.List.{flat_map}
use Rattle.pram_check.specs.Checked.{Checked}
use Rattle.pram_meaning.specs.Moments.{Moment}
use Rattle.journal.specs.Entries.{Entry, Faulting, Ran}
use Rattle.journal.specs.RunEntries.{entries_of}
use Rattle.journal.specs.LastFault.{fault_behind}

-- it is the same program, and the fault is that behind their entries
abbrev pub FaultHeard : (now then : Checked) → (old new : Option Entry) → List Moment → Type 0
FaultHeard now then old new ms = (then ≡ now) × (new ≡ fault_behind old (flat_map (entries_of now) ms))

behind_both : (before : Option Entry) (xs ys : List Entry) → fault_behind before (xs ++ ys) ≡ fault_behind (fault_behind before xs) ys
behind_both before [] ys = refl
behind_both before (Ran here acts changed variables locals items ∷ xs) ys = behind_both None xs ys
behind_both before (Faulting here fault cause acts met locals ∷ xs) ys = behind_both
    (Some (Faulting here fault cause acts met locals)) xs ys

pub last_on : (p q r : Checked) (a b c : Option Entry) (ms ns : List Moment) → FaultHeard p q a b ms → FaultHeard q r b c ns →
    FaultHeard p r a c (ms ++ ns)
last_on p q r a b c ms ns h g = (
  g.0 ∙ h.0,
  g.1 ∙ ap (λ p. fault_behind b (flat_map (entries_of p) ns)) h.0
      ∙ ap (λ o. fault_behind o (flat_map (entries_of p) ns)) h.1
      ∙ sym (behind_both a (flat_map (entries_of p) ms) (flat_map (entries_of p) ns))
      ∙ ap (fault_behind a) (sym (flat_map-append (entries_of p) ms ns)),
)
