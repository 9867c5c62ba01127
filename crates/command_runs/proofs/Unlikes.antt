-- The first declaration of a postcondition that has other bounds.
use Rattle.std.proofs.Common.{◌≡◌, ◌<◌, ℕ, List, length, slice_get, take, true, false}
use Rattle.std.specs.Prelude.{IfSome, Some}
use Rattle.std.specs.List.{All}
use Rattle.pram_model.specs.Layout.{SharedEntry}
use Rattle.program_texts.proofs.ShownLemmas.{entry_at, known_at}
use Rattle.scopes.specs.Handed.{is_unlike}
use Rattle.command_runs.specs.Specified.{IsFirstUnlike}

pub first_of : (layout post : List SharedEntry) (i : ℕ) → i < length post → IfSome (slice_get post i) (λ e. is_unlike layout e ≡ true) →
    All (λ d. is_unlike layout d ≡ false) (take i post) →
    (e : SharedEntry) × (slice_get post i ≡ Some e) × IsFirstUnlike layout post e
first_of layout post i below unlike before =
    let (e, there, split) = entry_at post i below in (
      e,
      there,
      record { number = i; there = there; unlike = known_at post i e (λ e. is_unlike layout e ≡ true) there unlike; first = before },
    )
