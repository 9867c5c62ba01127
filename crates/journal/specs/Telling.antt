-- A run that is told to somebody, who breaks off.
use Rattle.std.specs.Prelude.{◌≡◌, List, ◌∷◌, ◌++◌}
use Rattle.journal.specs.Entries.{Entry}

-- a beginning of these entries: the first ones were told, or the first ones and the telling broke off at the next one
pub data HasToldPart {T : Type 0} (Tells : T → List Entry → T → Type 0) (BreaksOff : T → Entry → T → Type 0) (before : T)
    (all : List Entry) (behind : T) : Type 0 where
  ToldFirst : (first rest : List Entry) → all ≡ first ++ rest → Tells before first behind →
      HasToldPart Tells BreaksOff before all behind
  BrokeOff : (first : List Entry) (next : Entry) (rest : List Entry) (between : T) → all ≡ first ++ next ∷ rest →
      Tells before first between → BreaksOff between next behind → HasToldPart Tells BreaksOff before all behind
