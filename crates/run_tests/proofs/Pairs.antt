-- Two seats and two workers, as lists of all.
use Rattle.std.proofs.Common.{◌≡◌, ℕ, zero, suc, List, [], ◌∷◌, ◌++◌, length, Some, sym, ap, ◌∙◌, subst, arith, ℤ}
use Rattle.std.specs.Prelude.{slice_get}
use Rattle.pram_model.proofs.Truths.{unsome}
use Rattle.std.proofs.lemmas.List.{length-append}
use Rattle.address_map.specs.Lawful.{Shape}
use Rattle.superstep_code.specs.Code.{SuperstepCode}
use Rattle.turnstile.specs.Seats.{TurnstileShape, RowState, AreSeatsOf, AreFresh}
use Rattle.bsp_machine.specs.declared.counted.CountedWorker.{CountedWorker}
use Rattle.workers.specs.Gathered.{HasEnded, HaveEnded}
use Rattle.run_tests.specs.Callers.{IsNewSeat}

-- what holds at both places
at_both : {A B : Type 0} (P : ℕ → A → B → Type 0) (a b : A) (x y : B) → P 0 a x → P 1 b y → (w : ℕ) (r : A) (z : B) →
    slice_get (a ∷ b ∷ []) w ≡ Some r → slice_get (x ∷ y ∷ []) w ≡ Some z → P w r z
at_both P a b x y p q zero r z e f = subst (P 0 r) (unsome x z f) (subst (λ v. P 0 v x) (unsome a r e) p)
at_both P a b x y p q (suc zero) r z e f = subst (P 1 r) (unsome y z f) (subst (λ v. P 1 v y) (unsome b r e) q)
at_both P a b x y p q (suc (suc w)) r z e f = absurd (cc)

pub both_ended : (code : SuperstepCode) (m : Shape) (bound : ℕ) (input : List ℤ) (a b : RowState) (x y : CountedWorker)
    (seats : List RowState) (workers : List CountedWorker) → m.parts ≡ 2 → seats ≡ a ∷ b ∷ [] → workers ≡ x ∷ y ∷ [] →
    HasEnded code m bound input 0 a x → HasEnded code m bound input 1 b y → HaveEnded code m bound input seats workers
both_ended code m bound input a b x y seats workers two es ex first second =
    subst (λ l. HaveEnded code m bound input l workers) (sym es)
    (subst (λ l. HaveEnded code m bound input (a ∷ b ∷ []) l) (sym ex) (record {
      seats_are = sym two;
      workers_are = sym two;
      each = at_both (HasEnded code m bound input) a b x y first second;
    }))

both_new : (t : TurnstileShape) (all : List RowState) (a b : RowState) → all ≡ a ∷ b ∷ [] → AreSeatsOf t all → AreFresh t all →
    IsNewSeat t 0 a × IsNewSeat t 1 b
both_new t all a b is seats fresh =
    let first : slice_get all 0 ≡ Some a = ap (λ (l : List RowState). slice_get l 0) is in
    let second : slice_get all 1 ≡ Some b = ap (λ (l : List RowState). slice_get l 1) is in (
      record { own = seats.tables 0 a first; order = seats.order 0 a first; fresh = fresh 0 a first },
      record { own = seats.tables 1 b second; order = seats.order 1 b second; fresh = fresh 1 b second },
    )

-- the seats of a new turnstile, taken from the end of their list
pub new_seats : (t : TurnstileShape) (all one none : List RowState) (a b : RowState) → t.workers ≡ 2 → all ≡ one ++ b ∷ [] →
    one ≡ none ++ a ∷ [] → AreSeatsOf t all → AreFresh t all → IsNewSeat t 0 a × IsNewSeat t 1 b
new_seats t all one [] a b two e f seats fresh = both_new t all a b (e ∙ ap (λ l. l ++ b ∷ []) f) seats fresh
new_seats t all one (x ∷ none) a b two e f seats fresh =
    let long = ap length e in
    let less = ap length f in
    let n = seats.count in
    absurd (omega (arith, two, long, less, n, length-append one (b ∷ []), length-append none (a ∷ [])))
