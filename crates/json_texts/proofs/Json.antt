-- Lines of facts, one behind the other.
use Rattle.std.proofs.Common.{◌≡◌, ◌∙◌, ◌++◌, ◌∷◌, [], List, ℕ, ap, append_assoc, arith, refl, sym, subst, zero, suc}
use Rattle.std.specs.Prelude.{All}
use Rattle.std.proofs.lemmas.List.{append-nil}
use Rattle.serde_json.specs.Data.{Data}
pub use Rattle.json_texts.specs.LineLaws.{adds_nothing, adds_then, json_lines-append}
use Rattle.json_texts.specs.Lines.{Adds, IsJson, ReadsBack, json_line}

alone : (d : Data) → ReadsBack d → All ReadsBack (d ∷ [])
alone d back zero e h = back
alone d back (suc k) e h = absurd (omega arith)

pub adds_one : (d : Data) (a b : List ℕ) → b ≡ a ++ json_line d → ReadsBack d → Adds (d ∷ []) a b
adds_one d a b is back = record { whole = is ∙ ap (λ l. a ++ l) (sym (append-nil (json_line d))); read_back = alone d back }

-- facts on their way: those that stand in the text, and those that are left
pub record SoFar (all left : List Data) (text : List ℕ) : Type 0 where
  pub done : List Data
  pub parted : all ≡ done ++ left
  pub json : IsJson done text

pub starts : (all : List Data) → SoFar all all []
starts all = record { done = []; parted = refl; json = adds_nothing [] }

pub goes_on : (all left piece rest : List Data) (text more : List ℕ) → SoFar all left text → left ≡ piece ++ rest → Adds piece text more →
    SoFar all rest more
goes_on all left piece rest text more s next adds = record {
  done = s.done ++ piece;
  parted = s.parted ∙ ap (λ l. s.done ++ l) next ∙ sym (append_assoc s.done piece rest);
  json = adds_then s.done piece [] text more s.json adds;
}

pub ends : (all left : List Data) (text : List ℕ) → SoFar all left text → left ≡ [] → IsJson all text
ends all left text s over =
    subst (λ ds. IsJson ds text) (sym (s.parted ∙ ap (λ l. s.done ++ l) over ∙ append-nil s.done)) s.json
