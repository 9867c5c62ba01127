-- The histories of seats, as histories of words.
use Rattle.std.proofs.Common.{◌≡◌, ℕ, zero, suc, ◌<◌, List, [], ◌∷◌, length, Option, Some, None, refl, sym, ap, ◌∙◌, subst, arith}
use Rattle.std.specs.Prelude.{map, slice_get}
use Rattle.std.specs.List.{AllByRecursion}
use Rattle.std.proofs.lemmas.List.{length-map}
use Rattle.std.proofs.lemmas.List.Elements.{recursion_from_All}
use Rattle.turnstile.proofs.Rows.{elem}
use mathlib.Core.Option.{none, some}
use mathlib.Core.Option as maybe
use lib.ListN.{get_elem?}
use Rattle.worker_exchange.specs.Rows.{WrittenMessage}
use Rattle.turnstile.specs.declared.views.Message.{Message}
use Rattle.turnstile.specs.Turns as turns
use Rattle.worker_histories.specs.Histories.{entry}
use Rattle.workers.specs.Seating.{letter_of, letters}
use Rattle.workers.specs.Exchanged.{rows_at, columns_at, SeatsHaveExchanged}

-- a message that is there, or not
abbrev read : maybe.Option Message → Option WrittenMessage
read none = None
read (some m) = Some (letter_of m)

read_at : (ms : List Message) (i : ℕ) → slice_get (letters ms) i ≡ read (get_elem? ms i)
read_at [] i = refl
read_at (m ∷ ms) zero = refl
read_at (m ∷ ms) (suc i) = read_at ms i

entry_is : (rows : List (List Message)) (k i : ℕ) → entry (map letters rows) k i ≡ read (turns.entry rows k i)
entry_is [] k i = refl
entry_is (ms ∷ rows) zero i = read_at ms i
entry_is (ms ∷ rows) (suc k) i = entry_is rows k i

wide_are : (p : ℕ) (columns : List (List Message)) → AllByRecursion (λ (c : List Message). length c ≡ p) columns →
    AllByRecursion (λ (c : List WrittenMessage). length c ≡ p) (map letters columns)
wide_are p [] h = tt
wide_are p (c ∷ columns) h = (length-map c letter_of ∙ h.0, wide_are p columns h.1)

pub seats_have_exchanged : SeatsHaveExchanged
seats_have_exchanged seats workers phases exchanged whole = record {
  many = λ w h.
      let x = elem seats w h in
      let y = elem seats 0 (omega (arith, h)) in
      let r = whole w x.0 x.1 in
      ap (λ o. length (columns_at o)) x.1 ∙ length-map x.0.received letters ∙ r.phases ∙ phases w 0 x.0 y.0 x.1 y.1
      ∙ sym (length-map y.0.sent letters) ∙ sym (ap (λ o. length (rows_at o)) y.1);
  wide = λ w h.
      let x = elem seats w h in
      subst (λ o. AllByRecursion (λ (c : List WrittenMessage). length c ≡ length seats) (columns_at o)) (sym x.1)
      (wide_are (length seats) x.0.received
      (subst (λ p. AllByRecursion (λ (c : List Message). length c ≡ p) x.0.received) (workers w x.0 x.1)
      (recursion_from_All (λ (c : List Message). length c ≡ x.0.workers) x.0.received (whole w x.0 x.1).columns)));
  same = λ i j k hi hj.
      let a = elem seats i hi in
      let b = elem seats j hj in
      ap (λ o. entry (columns_at o) k i) b.1 ∙ entry_is b.0.received k i ∙ ap read (exchanged i j a.0 b.0 a.1 b.1 k)
      ∙ sym (entry_is a.0.sent k j) ∙ sym (ap (λ o. entry (rows_at o) k j) a.1);
}
