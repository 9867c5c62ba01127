-- Short texts that are no documents.
use Rattle.std.proofs.Common.{◌≡◌, List, ◌∷◌, ℕ}
use Rattle.svg_texts.specs.WellFormed.{IsDocument}
use Rattle.svg_texts.proofs.Complete.{read}
use Rattle.svg_texts.proofs.Reader.{failed, inside, run, start}

pub refused : {text : List ℕ} → run start text ≡ failed → IsDocument text → ⊥
refused e d = let r = read d in absurd (cc)

pub left_open : {text tag : List ℕ} {outer : List (List ℕ)} → run start text ≡ inside (tag ∷ outer) → IsDocument text → ⊥
left_open e d = let r = read d in absurd (cc)
