-- What a call has written.
use Rattle.std.specs.Prelude.{◌≡◌, ◌⊎◌, ℕ, List, Result, Ok, Err}
use Rattle.text_out.specs.Out.{OutState, StopsIn, with_bytes}
use Rattle.program_texts.specs.declared.from_text.Refusal.TheVariants as refusal
use Rattle.program_texts.specs.declared.status.Status.{Status}
use Rattle.program_texts.specs.declared.stop.Stop.{Stop}
use Rattle.program_texts.specs.declared.stop.Stop.TheVariants as stop

-- a text was written whole, and the call ends with that status; or a beginning of it, and the writer failed
abbrev pub Wrote : Status → List ℕ → OutState → OutState → Result Status Stop → Type 0
Wrote ends text old new (Ok s) = (s ≡ ends) × (new ≡ with_bytes old text)
Wrote ends text old new (Err why) = (why ≡ stop.WriteFailed) × StopsIn old new text

-- so was a text of that kind; or memory for it was refused, where it needs some, and nothing is written
abbrev pub WroteSome : Status → (Needs : Type 0) → (List ℕ → Type 0) → OutState → OutState → Result Status Stop → Type 0
WroteSome ends Needs Is old new (Ok s) = (s ≡ ends) × ((text : List ℕ) × Is text × (new ≡ with_bytes old text))
WroteSome ends Needs Is old new (Err why) =
    ((why ≡ stop.WriteFailed) × ((text : List ℕ) × Is text × StopsIn old new text))
    ⊎ ((why ≡ stop.Refused refusal.OutOfMemory) × Needs × (new ≡ old))

-- a text was written whole, or the writer failed in it or behind it
abbrev pub IsReported : OutState → OutState → List ℕ → Type 0
IsReported old new text = (new ≡ with_bytes old text) ⊎ StopsIn old new text
