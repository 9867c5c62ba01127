-- How CSV is read, by RFC 4180, where a line ends with one byte.
use Rattle.std.specs.Prelude.{ℕ, ◌==◌, if◌then◌else◌, List, [], ◌∷◌, ◌++◌}

-- where a reader stands: before a field, in one, between quotes, or behind a quote that stood between quotes
pub data Place : Type 0 where
  Before : Place
  Within : Place
  Quoted : Place
  Behind : Place

-- the records of a text from there on, where these fields of the record at hand were read, and this much of the field at hand
unfoldable pub records_from : Place → (fields : List (List ℕ)) → (field : List ℕ) → List ℕ → List (List (List ℕ))
records_from place fields field [] = []
records_from Before fields field (b ∷ text) =
    if b == 34 then records_from Quoted fields field text
    else if b == 44 then records_from Before (fields ++ field ∷ []) [] text
    else if b == 10 then (fields ++ field ∷ []) ∷ records_from Before [] [] text
    else records_from Within fields (field ++ b ∷ []) text
records_from Within fields field (b ∷ text) =
    if b == 44 then records_from Before (fields ++ field ∷ []) [] text
    else if b == 10 then (fields ++ field ∷ []) ∷ records_from Before [] [] text
    else records_from Within fields (field ++ b ∷ []) text
records_from Quoted fields field (b ∷ text) =
    if b == 34 then records_from Behind fields field text else records_from Quoted fields (field ++ b ∷ []) text
records_from Behind fields field (b ∷ text) =
    if b == 34 then records_from Quoted fields (field ++ b ∷ []) text
    else if b == 44 then records_from Before (fields ++ field ∷ []) [] text
    else if b == 10 then (fields ++ field ∷ []) ∷ records_from Before [] [] text
    else records_from Within fields (field ++ b ∷ []) text

-- the records of a text, each with its fields
abbrev pub records_of : List ℕ → List (List (List ℕ))
records_of text = records_from Before [] [] text
