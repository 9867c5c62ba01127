-- What is heard of moments by who hands their entries on, and its laws: it hears nothing, and moments behind moments.
use Rattle.std.proofs.Common.{◌≡◌, ◌∙◌, List, [], ◌∷◌, ◌++◌, refl, subst, sym}
use Rattle.std.proofs.lemmas.Grind.{flat_map-append}
use Rattle.std.specs.List.{flat_map}
use Rattle.pram_check.specs.Checked.{Checked}
use Rattle.pram_meaning.specs.Moments.{Moment}
use Rattle.journal.specs.Entries.{Entry}
use Rattle.journal.specs.RunEntries.{entries_of}

-- it is the same program, and who is told was told the entries of these moments
abbrev pub Heard : {T : Type 0} → (T → List Entry → T → Type 0) → (now then : Checked) → (old new : T) → List Moment → Type 0
Heard Tells now then old new ms = (then ≡ now) × Tells old (flat_map (entries_of now) ms) new

-- a moment at which the telling ended: nothing was told of it, or it broke off at its entry
pub data Left {T : Type 0} (Tells : T → List Entry → T → Type 0) (BreaksOff : T → Entry → T → Type 0) (p : Checked) (old : T)
    (m : Moment) (new : T) : Type 0 where
  Unmade : Tells old [] new → Left Tells BreaksOff p old m new
  Broken : (e : Entry) (between : T) → entries_of p m ≡ e ∷ [] → Tells old [] between → BreaksOff between e new →
      Left Tells BreaksOff p old m new

pub heard_nothing : {T : Type 0} (Tells : T → List Entry → T → Type 0) → ((t : T) → Tells t [] t) → (p : Checked) (t : T) →
    Heard Tells p p t t []
heard_nothing Tells nothing p t = (refl, nothing t)

pub heard_on : {T : Type 0} (Tells : T → List Entry → T → Type 0) →
    ((a b c : T) (xs ys : List Entry) → Tells a xs b → Tells b ys c → Tells a (xs ++ ys) c) → (p q r : Checked) (a b c : T)
    (ms ns : List Moment) → Heard Tells p q a b ms → Heard Tells q r b c ns → Heard Tells p r a c (ms ++ ns)
heard_on Tells on p q r a b c ms ns h g =
    let late = subst (λ (p : Checked). Tells b (flat_map (entries_of p) ns) c) h.0 g.1 in (
      g.0 ∙ h.0,
      subst (λ es. Tells a es c) (sym (flat_map-append (entries_of p) ms ns))
          (on a b c (flat_map (entries_of p) ms) (flat_map (entries_of p) ns) h.1 late),
    )
