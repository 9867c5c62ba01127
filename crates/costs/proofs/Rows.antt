-- Rows of lines: how they grow, and what is entered in them.
use Rattle.std.proofs.Common.{◌≡◌, ℕ, zero, suc, ◌<◌, ◌≤◌, List, [], ◌∷◌, ◌++◌, length, get_or, set, take, replicate, refl, ap, sym, ◌∙◌}
use Rattle.std.proofs.Common.{if◌then◌else◌, Bool, true, false, nat_eq, arith}
use Rattle.std.proofs.lemmas.Bool.{eqb-true, eqb-false}
use Rattle.std.proofs.lemmas.List.{take_all}
use Rattle.costs.specs.declared.ledger.Ledger.{Ledger}
use Rattle.costs.specs.declared.tally.Tally.{Tally}
use Rattle.costs.specs.declared.time_step.TimeStep.{TimeStep}
use Rattle.costs.specs.Accounts.{Accounts, entered, entered_at}
use Rattle.costs.specs.Ledgers.{ledger_is, row_at, spending_is, tally_is}
use Rattle.costs.specs.Spending.{Spending}
use Rattle.costs.specs.Totals.{Totals, added, nothing}

-- rows that count nothing change nothing behind the last
none_more : (k l : ℕ) (z : Tally) → tally_is z ≡ nothing → row_at (replicate k z) l ≡ nothing
none_more zero l z e = refl
none_more (suc k) zero z e = e
none_more (suc k) (suc l) z e = none_more k l z e

more_rows : (rows : List Tally) (k l : ℕ) (z : Tally) → tally_is z ≡ nothing → row_at (rows ++ replicate k z) l ≡ row_at rows l
more_rows [] k l z e = none_more k l z e
more_rows (r ∷ rows) k zero z e = refl
more_rows (r ∷ rows) k (suc l) z e = more_rows rows k l z e

pub rows_grown : (rows grown : List Tally) (n k : ℕ) (z : Tally) → tally_is z ≡ nothing → length rows ≤ n →
    grown ≡ take n rows ++ replicate k z → row_at grown ≡ row_at rows
rows_grown rows grown n k z e h is = λ j l. (ap (λ x. row_at x l) is ∙ ap (λ x. row_at (x ++ replicate k z) l) (take_all n rows h)
    ∙ more_rows rows k l z e) j

-- a row that is set
row_same : (q : ℕ) (s : TimeStep) (rows : List Tally) (r : Tally) (i : ℕ) → i < length rows →
    tally_is r ≡ added q s (row_at rows i) → row_at (set rows i r) i ≡ added q s (row_at rows i)
row_same q s [] r i h e = absurd (omega (arith, h))
row_same q s (x ∷ rows) r zero h e = e
row_same q s (x ∷ rows) r (suc i) h e = row_same q s rows r i (omega (arith, h)) e

row_other : (rows : List Tally) (r : Tally) (i l : ℕ) → (i ≡ l → ⊥) → row_at (set rows i r) l ≡ row_at rows l
row_other [] r i l h = refl
row_other (x ∷ rows) r zero zero h = absurd (h refl)
row_other (x ∷ rows) r zero (suc l) h = refl
row_other (x ∷ rows) r (suc i) zero h = refl
row_other (x ∷ rows) r (suc i) (suc l) h = row_other rows r i l (λ e. h (ap suc e))

row_set : (q : ℕ) (s : TimeStep) (rows : List Tally) (r : Tally) (i l : ℕ) (b : Bool) → i < length rows →
    tally_is r ≡ added q s (row_at rows i) → nat_eq i l ≡ b →
    row_at (set rows i r) l ≡ (if b then added q s (row_at rows l) else row_at rows l)
row_set q s rows r i l true h e is =
    let same : i ≡ l = eqb-true i l is in
    ap (row_at (set rows i r)) (sym same) ∙ row_same q s rows r i h e ∙ ap (λ k. added q s (row_at rows k)) same
row_set q s rows r i l false h e is = row_other rows r i l (eqb-false i l is)

pub row_entered : (q : ℕ) (s : TimeStep) (rows new : List Tally) (r : Tally) → s.line < length rows →
    tally_is r ≡ added q s (row_at rows s.line) → new ≡ set rows s.line r → row_at new ≡ (λ l. entered_at q s (row_at rows l) l)
row_entered q s rows new r h e is = λ j l. (ap (λ x. row_at x l) is ∙ row_set q s rows r s.line l (nat_eq s.line l) h e refl) j

-- the row that is read
pub row_read : (rows : List Tally) (i : ℕ) (x : Tally) → i < length rows → x ≡ get_or rows i x → tally_is x ≡ row_at rows i
row_read [] i x h e = absurd (omega (arith, h))
row_read (r ∷ rows) zero x h e = ap tally_is e
row_read (r ∷ rows) (suc i) x h e = row_read rows i x (omega (arith, h)) e

abbrev pub accounts : Totals → (ℕ → Totals) → Spending → Accounts
accounts all lines spending = record { all = all; lines = lines; exchanges = spending }

pub ledger_entered : (q : ℕ) (s : TimeStep) (old mid : Ledger) (all read row : Tally) (new : List Tally) → ledger_is mid ≡ ledger_is old →
    s.line < length mid.lines.items → read ≡ get_or mid.lines.items s.line read → tally_is row ≡ added q s (tally_is read) →
    tally_is all ≡ added q s (tally_is mid.all) → new ≡ set mid.lines.items s.line row →
    accounts (tally_is all) (row_at new) (spending_is mid.exchanges) ≡ entered q s (ledger_is old)
ledger_entered q s old mid all read row new same h r e a is =
    ap (λ t. accounts t (row_at new) (spending_is mid.exchanges)) a
    ∙ ap (λ l. accounts (added q s (tally_is mid.all)) l (spending_is mid.exchanges)) (row_entered q s mid.lines.items new row h
    (e ∙ ap (added q s) (row_read mid.lines.items s.line read h r)) is)
    ∙ ap (entered q s) same
