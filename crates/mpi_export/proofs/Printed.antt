-- Rows that are printed one by one.
use Rattle.std.proofs.Common.{◌≡◌, ℕ, zero, suc, ◌+◌, ◌<◌, ◌≤◌, List, [], ◌∷◌, ◌++◌, refl, sym, ap, ◌∙◌, append_assoc, length, drop, drop-cons, get_or, add-one}
use Rattle.std.proofs.Common.{subst, arith, Bool, true, false, ◌&&◌, eqb, codes, decimal, if◌then◌else◌}
use Rattle.std.specs.List.{flat_map}
use Rattle.std.proofs.Common.{take, ◌-◌}
use Rattle.std.proofs.lemmas.List.{get_or_default, take_all}
use Rattle.mpi_export.specs.declared.parts.Part.{Part}
use Rattle.std.specs.List.{range_with_len}
use Rattle.std.proofs.lemmas.List.FromFn.{get_or-range_with_len, length-range_with_len}
use Rattle.std.proofs.lemmas.List.{append-nil, drop_all}
use Rattle.text_out.specs.Printing.{Printing, Prints}
use Rattle.text_out.proofs.Printed.{printed_as, prints_nothing, prints_then}
use Rattle.superstep_instructions.specs.Code.{SuperstepCode}
use Rattle.mpi_export.specs.declared.row.Row.{Row}
use Rattle.mpi_export.specs.Alone.{more_part, of_each, part_text, parts_text, row_text, rows_text, when}
use Rattle.mpi_export.specs.Loops.{has_column, has_index, rows_of}

-- the rows before that place are printed
pub record RowsPrinted (code : SuperstepCode) (start now : Printing) (k : ℕ) : Type 0 where
  pub front : List ℕ
  pub prints : Prints start now front
  pub whole : front ++ rows_text code k (drop k (rows_of code)) ≡ rows_text code 0 (rows_of code)

pub no_row : (code : SuperstepCode) (s : Printing) → RowsPrinted code s s 0
no_row code s = record { front = []; prints = prints_nothing s; whole = refl }

pub row_more : (code : SuperstepCode) (start now next : Printing) (k : ℕ) (row : Row) → RowsPrinted code start now k →
    k < length (rows_of code) → row ≡ get_or (rows_of code) k row → Prints now next (row_text code k row) → RowsPrinted code start next (k + 1)
row_more code start now next k row before within is prints =
    let rows = rows_of code in
    let rest = drop (suc k) rows in
    let after : drop (k + 1) rows ≡ rest = ap (λ n. drop n rows) (add-one k) in
    let cons : drop k rows ≡ row ∷ rest = drop-cons rows k row within ∙ ap (λ z. z ∷ rest) (sym is) in
    record {
      front = before.front ++ row_text code k row;
      prints = prints_then before.prints prints;
      whole = append_assoc before.front (row_text code k row) (rows_text code (k + 1) (drop (k + 1) rows))
          ∙ ap (λ l. before.front ++ (row_text code k row ++ rows_text code (k + 1) l)) after
          ∙ ap (λ l. before.front ++ rows_text code k l) (sym cons) ∙ before.whole;
    }

pub rows_printed : (code : SuperstepCode) (start now : Printing) (k : ℕ) → length (rows_of code) ≤ k → RowsPrinted code start now k →
    Prints start now (rows_text code 0 (rows_of code))
rows_printed code start now k past before =
    printed_as (sym before.whole ∙ ap (λ l. before.front ++ rows_text code k l) (drop_all k (rows_of code) past) ∙ append-nil before.front)
    before.prints

pub within_range : (n k : ℕ) → k < n → k < length (range_with_len 0 n)
within_range n k within = subst (λ m. k < m) (sym (length-range_with_len 0 n)) within

pub row_more_by : (code : SuperstepCode) (start now next : Printing) (k : ℕ) (rows : List Row) (d : Row) → rows ≡ rows_of code →
    RowsPrinted code start now k → k < length rows → Prints now next (row_text code k (get_or rows k d)) → RowsPrinted code start next (k + 1)
row_more_by code start now next k rows d e before within prints =
    row_more code start now next k (get_or rows k d) before (subst (λ (rs : List Row). k < length rs) e within)
    (get_or_default rows k d (get_or rows k d) within ∙ ap (λ rs. get_or rs k (get_or rows k d)) e) prints

-- ---- texts that depend on what holds

pub when_true : (b : Bool) (text : List ℕ) → b ≡ true → when b text ≡ text
when_true true text is = refl
when_true false text is = absurd (cc is)

pub column_text : (code : SuperstepCode) (r : ℕ) → (has_index code && eqb r 1) ≡ false → has_column code r ≡ true →
    of_each code r ≡ codes "c" ++ (decimal r ++ codes "[i]")
column_text code r index column =
    let text : Bool → List ℕ = λ b. if b then codes "c" ++ (decimal r ++ codes "[i]") else (codes "r" ++ decimal r) in
    ap (λ b. if b then codes "me" else text (has_column code r)) index ∙ ap text column

pub column_regrouped : (r : ℕ) → codes "    COLUMN(c" ++ (decimal r ++ (codes ", " ++ (decimal r ++ codes ")\n")))
    ≡ (codes "    COLUMN(c" ++ decimal r) ++ ((codes ", " ++ decimal r) ++ codes ")\n")
column_regrouped r = simp append_assoc

pub parts_cut : (code : SuperstepCode) (fresh : Bool) (parts : List Part) (d : Part) → 1 ≤ length parts →
    parts_text code fresh parts ≡ part_text code fresh (get_or parts 0 d)
    ++ flat_map (more_part code fresh) (take (length parts - 1) (drop 1 parts))
parts_cut code fresh [] d some = absurd (grind (arith, some))
parts_cut code fresh (part ∷ parts) d some =
    let all : take (length (part ∷ parts) - 1) (drop 1 (part ∷ parts)) ≡ parts = take_all _ parts (grind arith) in
    ap (λ l. part_text code fresh part ++ flat_map (more_part code fresh) l) (sym all)

pub range_read : (n k : ℕ) → k < n → k ≡ get_or (range_with_len 0 n) k k
range_read n k within = let e : k ≡ 0 + k = grind arith in e ∙ sym (get_or-range_with_len 0 n k k within)

pub past_range : (n k : ℕ) → n ≤ k → length (range_with_len 0 n) ≤ k
past_range n k past = subst (λ m. m ≤ k) (sym (length-range_with_len 0 n)) past
