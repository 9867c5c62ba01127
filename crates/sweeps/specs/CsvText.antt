-- A sweep as CSV: its table of texts, and how a table is written by RFC 4180.
use Rattle.std.specs.Prelude.{ℕ, Bool, ◌||◌, ◌==◌, if◌then◌else◌, List, [], ◌∷◌, ◌++◌, Option, Some, None, codes, decimal, map}
use Rattle.std.specs.List.{list_any}
use Rattle.sweeps.specs.declared.size_row.Counts.{Counts}
use Rattle.sweeps.specs.declared.size_row.Ending.{Ending}
use Rattle.sweeps.specs.declared.size_row.Ending.TheVariants.{Ended, GoesOn, Faulted, Refused}
use Rattle.sweeps.specs.declared.size_row.SizeRow.{SizeRow}

-- ---- the table

-- seven counts, of which the last two may be missing, and the outcome
abbrev pub run_fields : Counts → (exchanges words outcome : List ℕ) → List (List ℕ)
run_fields c exchanges words outcome =
    decimal c.time ∷ decimal c.work ∷ decimal c.width ∷ decimal c.reads ∷ decimal c.writes ∷ exchanges ∷ words ∷ outcome ∷ []

-- a number that may be missing
abbrev pub words_field : Option ℕ → List ℕ
words_field None = []
words_field (Some words) = decimal words

-- those of a run without a fault
abbrev pub whole_fields : Counts → (outcome : List ℕ) → List (List ℕ)
whole_fields c outcome = run_fields c (decimal c.most_exchanges) (words_field c.most_words) outcome

abbrev pub refusal_fields : List ℕ → List (List ℕ)
refusal_fields refusal = [] ∷ [] ∷ [] ∷ [] ∷ [] ∷ [] ∷ [] ∷ refusal ∷ []

-- the exchanges and words of a fault are not told, and of a refusal nothing but its text
abbrev pub ending_fields : Ending → List (List ℕ)
ending_fields (Ended c) = whole_fields c (codes "ended")
ending_fields (GoesOn c) = whole_fields c (codes "goes on")
ending_fields (Faulted c fault) = run_fields c [] [] fault.items
ending_fields (Refused refusal) = refusal_fields refusal.items

abbrev pub row_fields : SizeRow → List (List ℕ)
row_fields row = decimal row.size ∷ ending_fields row.ending

-- what the columns are, behind the size
abbrev pub column_names : List (List ℕ)
column_names =
    codes "time" ∷ codes "work" ∷ codes "width" ∷ codes "reads" ∷ codes "writes" ∷ codes "exchanges" ∷ codes "words"
    ∷ codes "outcome" ∷ []

-- a record of names, and one for each size
abbrev pub sweep_table : List ℕ → List SizeRow → List (List (List ℕ))
sweep_table name rows = (name ∷ column_names) ∷ map row_fields rows

-- ---- how a table is written

-- a comma, a quote, and what ends a line
abbrev pub is_mark : ℕ → Bool
is_mark b = (b == 44) || (b == 34) || (b == 13) || (b == 10)

-- quotes within quotes are doubled
abbrev pub doubled : ℕ → List ℕ
doubled b = if b == 34 then codes "\"\"" else b ∷ []

abbrev pub escaped : List ℕ → List ℕ
escaped [] = []
escaped (b ∷ bytes) = doubled b ++ escaped bytes

abbrev pub quoted : List ℕ → List ℕ
quoted field = codes "\"" ++ (escaped field ++ codes "\"")

-- a field with a mark in it stands in quotes
abbrev pub field_text : List ℕ → List ℕ
field_text field = if list_any is_mark field then quoted field else field

abbrev pub next_field : List ℕ → List ℕ
next_field field = codes "," ++ field_text field

-- each behind a comma, and the end of the line
abbrev pub next_fields : List (List ℕ) → List ℕ
next_fields [] = codes "\n"
next_fields (field ∷ fields) = next_field field ++ next_fields fields

abbrev pub record_text : List (List ℕ) → List ℕ
record_text [] = codes "\n"
record_text (field ∷ fields) = field_text field ++ next_fields fields

abbrev pub records_text : List (List (List ℕ)) → List ℕ
records_text [] = []
records_text (fields ∷ records) = record_text fields ++ records_text records

-- a sweep as CSV
abbrev pub csv_text : List ℕ → List SizeRow → List ℕ
csv_text name rows = records_text (sweep_table name rows)
