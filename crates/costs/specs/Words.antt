-- What the words of a run come to, by its reads, those of them outside pardo, and its writes.
use Rattle.std.specs.Prelude.{◌≡◌, ℕ, ◌+◌, ◌*◌, Option, Some, None}
use Rattle.pram_model.specs.declared.rule.Rule.{Rule}
use Rattle.costs.specs.Communication.{write_words}

-- with so many workers
abbrev pub AreWordsOf : Rule → (workers reads outer writes words : ℕ) → Type 0
AreWordsOf rule workers reads outer writes words =
    (inner : ℕ) → inner + outer ≡ reads → words ≡ 2 * inner + 2 * workers * outer + write_words rule * writes

-- where a number of workers is given
abbrev pub AreWordsAsked : Rule → (workers : Option ℕ) → (reads outer writes : ℕ) → (words : Option ℕ) → Type 0
AreWordsAsked rule None reads outer writes words = words ≡ None
AreWordsAsked rule (Some workers) reads outer writes (Some words) = AreWordsOf rule workers reads outer writes words
AreWordsAsked rule (Some workers) reads outer writes None = ⊥
