-- What is written as CSV is read back.
use Rattle.std.proofs.Common.{◌≡◌, ◌∙◌, ◌==◌, ◌++◌, ◌∷◌, [], ℕ, List, Bool, true, false, ap, append_assoc, inl, inr, map, refl, subst, sym}
use Rattle.std.specs.Prelude.{◌||◌}
use Rattle.std.specs.List.{list_any}
use Rattle.std.proofs.lemmas.List.{append-nil}
use Rattle.std.proofs.lemmas.Bool.{cases_Bool, eqb-true}
use Rattle.sweeps.specs.declared.size_row.SizeRow.{SizeRow}
use Rattle.sweeps.specs.CsvReading.{records_from, records_of, Before, Within, Quoted, Behind}
use Rattle.sweeps.specs.CsvText.{column_names, csv_text, doubled, escaped, field_text, is_mark, next_fields, quoted}
use Rattle.sweeps.specs.CsvText.{records_text, row_fields, sweep_table, ending_fields}

or_left : (a b : Bool) → (a || b) ≡ false → a ≡ false
or_left false b e = refl
or_left true b e = cc e

or_right : (a b : Bool) → (a || b) ≡ false → b ≡ false
or_right false b e = e
or_right true b e = cc e

not_true : (x : Bool) → (x ≡ true → ⊥) → x ≡ false
not_true true n = absurd (n refl)
not_true false n = refl

-- a byte that is no mark
record IsPlain (b : ℕ) : Type 0 where
  pub comma : (b == 44) ≡ false
  pub quote : (b == 34) ≡ false
  pub end : (b == 10) ≡ false

plain_byte : (b : ℕ) → is_mark b ≡ false → IsPlain b
plain_byte b e =
    let a = not_true (b == 44) (λ t. cc (rw t at e)) in
    let q = not_true (b == 34) (λ t. cc (rw (a, t) at e)) in
    let r = not_true (b == 13) (λ t. cc (rw (a, q, t) at e)) in
    let n = not_true (b == 10) (λ t. cc (rw (a, q, r, t) at e)) in
    record { comma = a; quote = q; end = n }

plain_step : (fields : List (List ℕ)) (field : List ℕ) (b : ℕ) (text : List ℕ) → IsPlain b →
    records_from Within fields field (b ∷ text) ≡ records_from Within fields (field ++ b ∷ []) text
unfolding records_from
plain_step fields field b text p = let c = p.comma in let e = p.end in rw (c, e) refl

plain_start : (fields : List (List ℕ)) (field : List ℕ) (b : ℕ) (text : List ℕ) → IsPlain b →
    records_from Before fields field (b ∷ text) ≡ records_from Within fields (field ++ b ∷ []) text
unfolding records_from
plain_start fields field b text p = let q = p.quote in let c = p.comma in let e = p.end in rw (q, c, e) refl

-- bytes with no mark among them
plain_run : (fields : List (List ℕ)) (field x text : List ℕ) → list_any is_mark x ≡ false →
    records_from Within fields field (x ++ text) ≡ records_from Within fields (field ++ x) text
plain_run fields field [] text e = ap (λ f. records_from Within fields f text) (sym (append-nil field))
plain_run fields field (b ∷ x) text e =
    plain_step fields field b (x ++ text) (plain_byte b (or_left _ _ e))
    ∙ plain_run fields (field ++ b ∷ []) x text (or_right _ _ e)
    ∙ ap (λ f. records_from Within fields f text) (append_assoc field (b ∷ []) x)

quoted_step : (fields : List (List ℕ)) (field : List ℕ) (b : ℕ) (text : List ℕ) → (b == 34) ≡ false →
    records_from Quoted fields field (b ∷ text) ≡ records_from Quoted fields (field ++ b ∷ []) text
unfolding records_from
quoted_step fields field b text n = rw n refl

two_quotes : (fields : List (List ℕ)) (field text : List ℕ) →
    records_from Quoted fields field (34 ∷ 34 ∷ text) ≡ records_from Quoted fields (field ++ 34 ∷ []) text
unfolding records_from
two_quotes fields field text = refl

last_quote : (fields : List (List ℕ)) (field text : List ℕ) → records_from Quoted fields field (34 ∷ text) ≡ records_from Behind fields
    field text
unfolding records_from
last_quote fields field text = refl

first_quote : (fields : List (List ℕ)) (field text : List ℕ) → records_from Before fields field (34 ∷ text) ≡ records_from Quoted fields
    field text
unfolding records_from
first_quote fields field text = refl

-- bytes between quotes, up to the quote that ends them
quoted_run : (fields : List (List ℕ)) (field x text : List ℕ) →
    records_from Quoted fields field (escaped x ++ 34 ∷ text) ≡ records_from Behind fields (field ++ x) text
quoted_run fields field [] text =
    last_quote fields field text ∙ ap (λ f. records_from Behind fields f text) (sym (append-nil field))
quoted_run fields field (b ∷ x) text = elim (cases_Bool (b == 34)) [
  | inl same ↦
      subst (λ (z : ℕ). records_from Quoted fields field (escaped (z ∷ x) ++ 34 ∷ text) ≡ records_from Behind fields (field ++ z ∷ x) text)
      (sym (eqb-true b 34 same))
      (two_quotes fields field (escaped x ++ 34 ∷ text) ∙ quoted_run fields (field ++ 34 ∷ []) x text
      ∙ ap (λ f. records_from Behind fields f text) (append_assoc field (34 ∷ []) x))
  | inr other ↦
      let one : doubled b ≡ b ∷ [] = rw other refl in
      ap (λ d. records_from Quoted fields field ((d ++ escaped x) ++ 34 ∷ text)) one
      ∙ quoted_step fields field b (escaped x ++ 34 ∷ text) other ∙ quoted_run fields (field ++ b ∷ []) x text
      ∙ ap (λ f. records_from Behind fields f text) (append_assoc field (b ∷ []) x)
]

-- a field of which nothing stands in quotes
plain_field : (fields : List (List ℕ)) (x text : List ℕ) (out : List (List (List ℕ))) → list_any is_mark x ≡ false →
    records_from Within fields x text ≡ out → records_from Before fields x text ≡ out → records_from Before fields [] (x ++ text) ≡ out
plain_field fields [] text out e within before = before
plain_field fields (b ∷ x) text out e within before =
    plain_start fields [] b (x ++ text) (plain_byte b (or_left _ _ e)) ∙ plain_run fields (b ∷ []) x text (or_right _ _ e) ∙ within

-- a field, where what comes behind it ends it wherever the reader stands
field_read : (fields : List (List ℕ)) (x text : List ℕ) (out : List (List (List ℕ))) → records_from Before fields x text ≡ out →
    records_from Within fields x text ≡ out → records_from Behind fields x text ≡ out → records_from Before fields [] (field_text x ++
    text) ≡ out
field_read fields x text out before within behind = elim (cases_Bool (list_any is_mark x)) [
  | inl marked ↦
      let written : field_text x ≡ quoted x = rw marked refl in
      ap (λ t. records_from Before fields [] (t ++ text)) written
      ∙ ap (λ t. records_from Before fields [] (34 ∷ t)) (append_assoc (escaped x) (34 ∷ []) text)
      ∙ first_quote fields [] (escaped x ++ 34 ∷ text) ∙ quoted_run fields [] x text ∙ behind
  | inr plain ↦
      let written : field_text x ≡ x = rw plain refl in
      ap (λ t. records_from Before fields [] (t ++ text)) written ∙ plain_field fields x text out plain within before
]

comma_read : (fields : List (List ℕ)) (x text : List ℕ) →
    records_from Before fields [] (field_text x ++ 44 ∷ text) ≡ records_from Before (fields ++ x ∷ []) [] text
unfolding records_from
comma_read fields x text = field_read fields x (44 ∷ text) (records_from Before (fields ++ x ∷ []) [] text) refl refl refl

end_read : (fields : List (List ℕ)) (x text : List ℕ) →
    records_from Before fields [] (field_text x ++ 10 ∷ text) ≡ (fields ++ x ∷ []) ∷ records_from Before [] [] text
unfolding records_from
end_read fields x text = field_read fields x (10 ∷ text) ((fields ++ x ∷ []) ∷ records_from Before [] [] text) refl refl refl

-- a record from a field on
record_read : (done : List (List ℕ)) (x : List ℕ) (more : List (List ℕ)) (text : List ℕ) →
    records_from Before done [] ((field_text x ++ next_fields more) ++ text) ≡ (done ++ x ∷ more) ∷ records_from Before [] [] text
record_read done x [] text =
    ap (records_from Before done []) (append_assoc (field_text x) (10 ∷ []) text) ∙ end_read done x text
record_read done x (y ∷ more) text =
    ap (records_from Before done []) (append_assoc (field_text x) (next_fields (y ∷ more)) text)
    ∙ comma_read done x ((field_text y ++ next_fields more) ++ text)
    ∙ record_read (done ++ x ∷ []) y more text
    ∙ ap (λ fields. fields ∷ records_from Before [] [] text) (append_assoc done (x ∷ []) (y ∷ more))

nothing_read : records_of [] ≡ []
unfolding records_from
nothing_read = refl

rows_read : (rows : List SizeRow) → records_of (records_text (map row_fields rows)) ≡ map row_fields rows
rows_read [] = nothing_read
rows_read (row ∷ rows) =
    record_read [] _ (ending_fields row.ending) (records_text (map row_fields rows)) ∙ ap (λ records. row_fields row ∷ records) (rows_read
    rows)

pub read_back : (name : List ℕ) (rows : List SizeRow) → records_of (csv_text name rows) ≡ sweep_table name rows
read_back name rows =
    record_read [] name column_names (records_text (map row_fields rows)) ∙ ap (λ records. (name ∷ column_names) ∷ records) (rows_read rows)
