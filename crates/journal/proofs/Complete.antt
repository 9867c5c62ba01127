-- What was told of moments of which a beginning was heard.
use Rattle.std.proofs.Common.{◌≡◌, ◌∙◌, ◌++◌, ◌∷◌, List, [], ap, refl, subst, sym}
use Rattle.std.proofs.lemmas.Grind.{flat_map-append}
use Rattle.std.proofs.lemmas.List.{append-nil}
use Rattle.std.specs.List.{flat_map}
use Rattle.pram_check.specs.Checked.{Checked}
use Rattle.pram_meaning.specs.Listening.{GaveUp, HasHeardPart, HeardFirst}
use Rattle.pram_meaning.specs.Moments.{Moment}
use Rattle.journal.specs.Entries.{Entry}
use Rattle.journal.specs.RunEntries.{entries_of}
use Rattle.journal.specs.HeardLaws.{Broken, Heard, Left, Unmade}
use Rattle.journal.specs.Telling.{BrokeOff, HasToldPart, ToldFirst}
use Rattle.journal.proofs.Told.{TellsOn}

-- ---- a beginning

one_left : (p q : Checked) (m : Moment) (e : Entry) (ms first rest : List Moment) → q ≡ p → ms ≡ first ++ m ∷ rest →
    entries_of q m ≡ e ∷ [] → flat_map (entries_of p) ms ≡ flat_map (entries_of p) first ++ e ∷ flat_map (entries_of p) rest
one_left p q m e ms first rest same is one =
    ap (flat_map (entries_of p)) is
    ∙ flat_map-append (entries_of p) first (m ∷ rest)
    ∙ ap (λ es. flat_map (entries_of p) first ++ (es ++ flat_map (entries_of p) rest)) (ap (λ p. entries_of p m) (sym same) ∙ one)

module _ {J T : Type 0} (Tells : T → List Entry → T → Type 0) (BreaksOff : T → Entry → T → Type 0) (on : TellsOn Tells)
    (program : J → Checked) (teller : J → T) where
  first_told : (old between : J) (new : T) (first : List Moment) →
      Heard Tells (program old) (program between) (teller old) (teller between) first → Tells (teller between) [] new →
      Tells (teller old) (flat_map (entries_of (program old)) first) new
  first_told old between new first h w =
      let F = flat_map (entries_of (program old)) in
      subst (λ es. Tells (teller old) es new) (append-nil (F first)) (on (teller old) (teller between) new (F first) [] h.1 w)

  left_told : (old between new : J) (ms first rest : List Moment) (next : Moment) → ms ≡ first ++ next ∷ rest →
      Heard Tells (program old) (program between) (teller old) (teller between) first →
      Left Tells BreaksOff (program between) (teller between) next (teller new) →
      HasToldPart Tells BreaksOff (teller old) (flat_map (entries_of (program old)) ms) (teller new)
  left_told old between new ms first rest next is h (Unmade w) =
      let F = flat_map (entries_of (program old)) in
      ToldFirst (F first) (F (next ∷ rest)) (ap F is ∙ flat_map-append (entries_of (program old)) first (next ∷ rest))
      (first_told old between (teller new) first h w)
  left_told old between new ms first rest next is h (Broken e mid one w b) =
      let F = flat_map (entries_of (program old)) in
      BrokeOff (F first) e (F rest) mid (one_left (program old) (program between) next e ms first rest h.0 is one)
      (first_told old between mid first h w) b

  pub part_heard : (old new : J) (ms : List Moment) →
      HasHeardPart (λ a ms b. Heard Tells (program a) (program b) (teller a) (teller b) ms)
      (λ a m b. Left Tells BreaksOff (program a) (teller a) m (teller b)) old ms new →
      HasToldPart Tells BreaksOff (teller old) (flat_map (entries_of (program old)) ms) (teller new)
  part_heard old new ms (HeardFirst first rest is h) =
      let F = flat_map (entries_of (program old)) in
      ToldFirst (F first) (F rest) (ap F is ∙ flat_map-append (entries_of (program old)) first rest) h.1
  part_heard old new ms (GaveUp first next rest between is h g) = left_told old between new ms first rest next is h g

-- nothing was told
pub none_told : {T : Type 0} (Tells : T → List Entry → T → Type 0) (BreaksOff : T → Entry → T → Type 0) → ((t : T) → Tells t [] t) →
    (t : T) (es : List Entry) → HasToldPart Tells BreaksOff t es t
none_told Tells BreaksOff nothing t es = ToldFirst [] es refl (nothing t)
