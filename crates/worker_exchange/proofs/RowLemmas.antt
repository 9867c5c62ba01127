-- A row is filled message by message.
use Rattle.std.proofs.Common.{Bool, true, false, ◌≡◌, ℕ, ◌+◌, ◌<◌, List, [], ◌∷◌, length, take}
use Rattle.std.proofs.Common.{sym, ap, ◌∙◌, arith, ⊎_elim, slice_set, length-set}
use Rattle.std.proofs.lemmas.List.{get_or-set_same, get_or-set_other, take_more_set}
use Rattle.std.proofs.lemmas.List.Sums.{sum_by-append}
use Rattle.std.proofs.Math.Seq.{take-length}
use Rattle.std.proofs.lemmas.Bool.{cases_eq}
use Rattle.std.specs.Prelude.{IsTrue}
use Rattle.std.specs.Bool.{OnTrue}
use Rattle.worker_exchange.specs.Rows.{WrittenMessage, message_at, unwritten, words_in}

-- the first j messages are these
abbrev pub AreFilled : (ℕ → WrittenMessage) → ℕ → List WrittenMessage → Type 0
AreFilled message j row = (i : ℕ) → i < j → message_at row i ≡ message i

pub one_filled : (message : ℕ → WrittenMessage) (row after : List WrittenMessage) (j : ℕ) (x : WrittenMessage) → j < length row →
    after ≡ slice_set row j x → x ≡ message j → AreFilled message j row → AreFilled message (j + 1) after
one_filled message row after j x l e is h i k =
    ap (λ r. message_at r i) e
    ∙ ⊎_elim
    (λ (same : i ≡ j). ap (message_at (slice_set row j x)) same ∙ get_or-set_same row j x unwritten l ∙ is ∙ ap message (sym same))
    (λ (apart : i ≡ j → ⊥). get_or-set_other row j i x unwritten apart ∙ h i (omega (arith, k, apart))) (cases_eq i j)

pub still_long : (row after : List WrittenMessage) (j p : ℕ) (x : WrittenMessage) → after ≡ slice_set row j x → length row ≡ p →
    length after ≡ p
still_long row after j p x e l = ap length e ∙ length-set row j x ∙ l

-- a message that has room is filled in
pub is_filled : (done : Bool) (P : Type 0) → IsTrue done → OnTrue done P → P
is_filled true P t p = p
is_filled false P t p = absurd (cc t)

-- with the message to worker j the words so far are more by its own
pub words_filled : (row after : List WrittenMessage) (j : ℕ) (x : WrittenMessage) → j < length row → after ≡ slice_set row j x →
    words_in (take (j + 1) after) ≡ words_in (take j row) + length x.words
words_filled row after j x l e =
    let more =
    ap (λ r. words_in (take (j + 1) r)) e
    ∙ ap words_in (take_more_set row j x l)
    ∙ sum_by-append (λ (m : WrittenMessage). length m.words) (take j row) (x ∷ []) in
    omega (arith, more)

-- the words of a whole row are those of its first messages
pub words_all : (row : List WrittenMessage) (p : ℕ) → length row ≡ p → words_in (take p row) ≡ words_in row
words_all row p e = ap (λ n. words_in (take n row)) (sym e) ∙ ap words_in (take-length row)
