-- The seats of the tests.
use Rattle.std.proofs.Common.{◌≡◌, ℕ, zero, suc, List, [], ◌∷◌, ◌++◌, map, length, get_or, Option, Some, slice_get, sym, refl, ap, ◌∙◌}
use Rattle.std.proofs.Common.{subst, length-append, arith}
use lib.ListN.{length-map}
use Rattle.std.specs.Prelude.{All}
use Rattle.std.proofs.lemmas.Option.{slice_get-get_or, slice_get_within, get_or_from_slice_get}
use Rattle.atomic_table.specs.Seated.{TableId}
use Rattle.turnstile.specs.Seats.{TurnstileShape, RowState, AreSeatsOf}
use Rattle.turnstile.specs.Runners.{RunnerState, AreNewRunners, HaveAllWaited}
use Rattle.thread_tests.specs.Tested.{whose, SameOwners, MayWait, which, SameRunners, HasHeard}

pub only_one : {A : Type 0} (l : List A) (x : A) (xs : List A) → xs ≡ l ++ x ∷ [] → length xs ≡ 1 → (l ≡ []) × (slice_get xs 0 ≡ Some x)
only_one [] x xs e n = (refl, ap (λ l. slice_get l 0) e)
only_one (y ∷ ys) x xs e n = absurd (let a = ap length e ∙ length-append (y ∷ ys) (x ∷ []) in omega (arith, a, n))

pub one_seat : (t : TurnstileShape) (xs : List RowState) (r : RowState) → xs ≡ r ∷ [] → t.workers ≡ 1 → r.table ≡ t.table → r.worker ≡ 0 →
    AreSeatsOf t xs
one_seat t xs r e n table worker =
    record {
      count = ap length e ∙ sym n;
      tables = λ k q h. tables_at k q (ap (λ l. slice_get l k) (sym e) ∙ h);
      order =
          λ k q h. order_at k q (ap (λ l. slice_get l k) (sym e) ∙ h);
    }
  where
    tables_at : (k : ℕ) (q : RowState) → slice_get (r ∷ []) k ≡ Some q → q.table ≡ t.table
    tables_at zero q h = let s : r ≡ q = (let g : Option.Some r ≡ Some q = h in cc) in ap (λ (z : RowState). z.table) (sym s) ∙ table
    tables_at (suc k) q h = absurd (cc)

    order_at : (k : ℕ) (q : RowState) → slice_get (r ∷ []) k ≡ Some q → q.worker ≡ k
    order_at zero q h = let s : r ≡ q = (let g : Option.Some r ≡ Some q = h in cc) in ap (λ (z : RowState). z.worker) (sym s) ∙ worker
    order_at (suc k) q h = absurd (cc)

-- the seat at k of the one list has the owner of that at k of the other
owner_at : (rs ss : List RowState) (k : ℕ) (s : RowState) → SameOwners rs ss → slice_get ss k ≡ Some s →
    (r : RowState) × (slice_get rs k ≡ Some r) × (whose s ≡ whose r)
owner_at rs [] k s same e = absurd (cc)
owner_at [] (y ∷ ys) k s same e = absurd (cc)
owner_at (x ∷ xs) (y ∷ ys) zero s same e = let q : y ≡ s = (let g : Option.Some y ≡ Some s = e in cc) in let h : whose y ≡ whose x = cc in
    (x, refl, ap whose (sym q) ∙ h)
owner_at (x ∷ xs) (y ∷ ys) (suc k) s same e = owner_at xs ys k s (let h : map whose ys ≡ map whose xs = cc in h) e

pub still_seats : (t : TurnstileShape) (rs ss : List RowState) → AreSeatsOf t rs → SameOwners rs ss → AreSeatsOf t ss
still_seats t rs ss h same = record {
  count = sym (length-map ss whose) ∙ ap length same ∙ length-map rs whose ∙ h.count;
  tables = λ k s e. let r = owner_at rs ss k s same e in ap (λ z. z.0) r.2 ∙ h.tables k r.0 r.1;
  order = λ k s e. let r = owner_at rs ss k s same e in ap (λ z. z.1) r.2 ∙ h.order k r.0 r.1;
}

pub at_of_all : {A : Type 0} (P : A → Type 0) (xs : List A) (k : ℕ) (x : A) → All P xs → slice_get xs k ≡ Some x → P x
at_of_all P xs k x all e = subst P (get_or_from_slice_get xs k x x e) (all k x (slice_get_within xs k x e))

pub all_of_at : {A : Type 0} (P : A → Type 0) (xs : List A) → ((k : ℕ) (x : A) → slice_get xs k ≡ Some x → P x) → All P xs
all_of_at P xs h k d lt = h k (get_or xs k d) (slice_get-get_or xs k d lt)

module _ {T : Type 0} where
  -- the runner at k of the one list is that at k of the other
  runner_at : (rs ss : List (RunnerState T)) (k : ℕ) (s : RunnerState T) → SameRunners rs ss → slice_get ss k ≡ Some s →
      (r : RunnerState T) × (slice_get rs k ≡ Some r) × (which s ≡ which r)
  runner_at rs [] k s same e = absurd (cc)
  runner_at [] (y ∷ ys) k s same e = absurd (cc)
  runner_at (x ∷ xs) (y ∷ ys) zero s same e = let q : y ≡ s = (let g : Option.Some y ≡ Some s = e in cc) in let h : which y ≡ which x =
      cc in (x, refl, ap which (sym q) ∙ h)
  runner_at (x ∷ xs) (y ∷ ys) (suc k) s same e = runner_at xs ys k s (let h : map which ys ≡ map which xs = cc in h) e

  pub still_at : (id : TableId) (rs ss : List (RunnerState T)) → ((k : ℕ) (r : RunnerState T) → slice_get rs k ≡ Some r → r.table ≡ id) →
      SameRunners rs ss → (k : ℕ) (s : RunnerState T) → slice_get ss k ≡ Some s → s.table ≡ id
  still_at id rs ss h same k s e = let r = runner_at rs ss k s same e in ap (λ z. z.0) r.2 ∙ h k r.0 r.1

  pub all_waited : (id : TableId) (n : ℕ) (rs ss : List (RunnerState T)) → AreNewRunners id n rs → SameRunners rs ss → All HasHeard ss →
      HaveAllWaited n ss
  all_waited id n rs ss new same heard = record {
    count = sym (length-map ss which) ∙ ap length same ∙ length-map rs which ∙ new.count;
    order = λ k s e. let r = runner_at rs ss k s same e in ap (λ z. z.1) r.2 ∙ new.order k r.0 r.1;
    waited = λ k s e. at_of_all HasHeard ss k s heard e;
  }

  pub new_may_wait : (id : TableId) (n : ℕ) (rs : List (RunnerState T)) → AreNewRunners id n rs → All (MayWait id) rs
  new_may_wait id n rs new = all_of_at (MayWait id) rs (λ k r e. record { table = new.tables k r e; silent = new.silence k r e })
