-- What is told as the cause of a set's fault has it.
use Rattle.std.proofs.Common.{◌≡◌, ◌⊎◌, inl, inr, ℕ, zero, suc, ◌<◌, ℤ, List, [], ◌∷◌, Bool, true, false, ◌&&◌, if◌then◌else◌}
use Rattle.std.proofs.Common.{Option, Some, Contains, get_or, nat_eq, length, refl, ap, sym, ◌∙◌, subst, arith}
use Rattle.std.proofs.lemmas.Int.{ints}
use Rattle.pram_model.proofs.Truths.{either}
use Rattle.pram_values.specs.declared.kind.Kind.{Kind}
use Rattle.pram_values.specs.declared.kind.Kind.TheVariants.{DivideByZero, OutOfRange, Overflow, ReadConflict, TooWide, WriteConflict}
use Rattle.pram_values.specs.declared.place.Place.TheVariants.{Cell, Processor}
use Rattle.pram_values.specs.Truth.{is_equal}
use Rattle.pram_check.specs.Checked.{Checked}
use Rattle.pram_meaning.specs.declared.key.Key.{Key}
use Rattle.pram_meaning.specs.Attempt.{Attempt, Effect, Fails, Gives}
use Rattle.pram_meaning.specs.Conflict.{Part, fault_of, keys, least, reads_of, writes_to}
use Rattle.pram_meaning.specs.Moments.{StepAction}
use Rattle.pram_meaning.specs.Store.{State, View, seen_by}
use Rattle.pram_meaning.specs.Together.{part_of, parts}
use Rattle.journal.specs.Causes.{Cause, Writing}
use Rattle.journal.specs.FoundCauses.{cause_at, cause_at_cell, cause_in, cause_on, has_failed, is_at, is_own, kind_number, own_cause}
use Rattle.journal.specs.Faults.{Explains, HasFault, IsExplained, SetExplained, attempted_on}
use Rattle.journal.proofs.CellFaults.{IsOwn, IsReadConflict, IsWriteConflict, in_one, nothing_in, whose, written_kind}
use Rattle.journal.proofs.Explained.{member_told}

-- ---- whose fault it is

abbrev kind_of : ℕ → Kind
kind_of zero = Overflow
kind_of (suc zero) = DivideByZero
kind_of (suc (suc zero)) = OutOfRange
kind_of (suc (suc (suc zero))) = TooWide
kind_of (suc (suc (suc (suc zero)))) = ReadConflict
kind_of (suc (suc (suc (suc (suc n))))) = WriteConflict

kind_back : (k : Kind) → kind_of (kind_number k) ≡ k
kind_back Overflow = refl
kind_back DivideByZero = refl
kind_back OutOfRange = refl
kind_back TooWide = refl
kind_back ReadConflict = refl
kind_back WriteConflict = refl

last_of : (a b : Bool) → (a && b) ≡ true → b ≡ true
last_of true b h = h
last_of false b h = absurd (cc h)

same_kind : (d k : Kind) → nat_eq (kind_number d) (kind_number k) ≡ true → d ≡ k
same_kind d k h =
    let e : kind_number d ≡ kind_number k = grind (arith, h) in sym (kind_back d) ∙ ap kind_of e ∙ kind_back k

-- an attempt that fails as the fault says is explained as it is
failed_told : (p : Checked) (k : Key) (a : Attempt Effect) (o : Option Cause) → has_failed k a ≡ true → Explains p a o →
    IsExplained p k.kind o
failed_told p k (Gives t g) o h told = absurd (cc h)
failed_told p k (Fails t d) o h told =
    subst (λ d. IsExplained p d o)
    (same_kind d k.kind (last_of (nat_eq (length t) k.at) (nat_eq (kind_number d) (kind_number k.kind)) h)) told

-- the part that has the fault
itself : (i : ℤ) (a : Attempt Effect) (k : Key) → Contains (fault_of i a) k →
    (k.place ≡ Processor i) × ((is_at k.place i && has_failed k a) ≡ true)
itself i (Gives t g) k h = absurd (nothing_in k h)
itself i (Fails t d) k h =
    let same = in_one _ k h in
    let i_same : is_equal i i ≡ true = grind (arith, ints) in
    let length_same : nat_eq (length t) (length t) ≡ true = grind arith in
    let kind_same : nat_eq (kind_number d) (kind_number d) ≡ true = grind arith in (
      ap (λ (k : Key). k.place) same,
      ap (λ (k : Key). is_at k.place i && has_failed k (Fails t d)) same
          ∙ ap (λ b. b && (nat_eq (length t) (length t) && nat_eq (kind_number d) (kind_number d))) i_same
          ∙ ap (λ b. b && nat_eq (kind_number d) (kind_number d)) length_same
          ∙ kind_same,
    )

module _ (p : Checked) (m : State) (a : View → Attempt Effect) (f : ℕ → Option Cause)
    (told : (v : ℕ) → Explains p (a (seen_by p m v)) (f v))
    (k : Key) where
  -- it is one of those behind the first
  abbrev Later : List ℕ → Part → Type 0
  Later vs x =
      (n : ℕ) → n < length (parts p m a vs) → get_or (parts p m a vs) n x ≡ x → IsExplained p k.kind (own_cause f k (parts p m a vs))

  own_told : (vs : List ℕ) (x : Part) (n : ℕ) → n < length (parts p m a vs) → get_or (parts p m a vs) n x ≡ x → is_own k x ≡ true →
      IsExplained p k.kind (own_cause f k (parts p m a vs))
  own_told [] x n h e is = absurd (omega (arith, h))
  own_told (v ∷ vs) x n h e is = by (λ n h e. own_told vs x n h e is) (either (is_own k (part_of p m a v))) where
    rest : Later vs x → is_own k (part_of p m a v) ≡ false → (n : ℕ) → n < length (parts p m a (v ∷ vs)) →
        get_or (parts p m a (v ∷ vs)) n x ≡ x → IsExplained p k.kind (own_cause f k (parts p m a vs))
    rest later other zero h e = absurd (let y = ap (is_own k) e in cc (y, other, is))
    rest later other (suc n) h e = later n (omega (arith, h)) e

    by : Later vs x → (is_own k (part_of p m a v) ≡ true) ⊎ (is_own k (part_of p m a v) ≡ false) →
        IsExplained p k.kind (own_cause f k (parts p m a (v ∷ vs)))
    by later (inl same) =
        subst (λ b. IsExplained p k.kind (if b then f v else own_cause f k (parts p m a vs))) (sym same)
        (failed_told p k (a (seen_by p m v)) (f v)
        (last_of (is_at k.place (part_of p m a v).processor) (has_failed k (a (seen_by p m v))) same) (told v))
    by later (inr other) =
        subst (λ b. IsExplained p k.kind (if b then f v else own_cause f k (parts p m a vs))) (sym other) (rest later other n h e)

-- ---- all faults of a set

pub set_told : (p : Checked) (m : State) (act : StepAction) (a : View → Attempt Effect) →
    ((s : View) → s.layout ≡ p.layout → Explains p (a s) (cause_in s act)) → (vs : List ℕ) (k : Key) →
    least (keys p.rule (parts p m a vs)) ≡ Some k → IsExplained p k.kind (cause_on p m act k (parts p m a vs))
set_told p m act a told vs k least_is = by (whose p.rule xs k least_is) where
  xs : List Part
  xs = parts p m a vs

  why : ℕ → Option Cause
  why v = cause_in (seen_by p m v) act

  owns : IsOwn xs k → IsExplained p k.kind (cause_on p m act k xs)
  owns (x, (n, h, e), is) =
      let r = itself x.processor x.attempt k is in
      subst (λ place. IsExplained p k.kind (cause_at p m act place k xs)) (sym r.0)
      (own_told p m a why (λ v. told (seen_by p m v) refl) k vs x n h e r.1)

  reads : IsReadConflict p.rule (reads_of xs) k → IsExplained p k.kind (cause_on p m act k xs)
  reads r =
      let kind : k.kind ≡ ReadConflict = ap (λ (k : Key). k.kind) r.told in
      let place : k.place ≡ Cell r.read.cell = ap (λ (k : Key). k.place) r.told in
      subst (λ place. IsExplained p k.kind (cause_at p m act place k xs)) (sym place)
      (subst (λ d. HasFault p k.kind (cause_at_cell d r.read.cell xs)) (sym kind) (kind, r.exclusive))

  written_by : (c : ℕ) (w : (k.kind ≡ WriteConflict) ⊎ (k.kind ≡ Overflow)) → HasFault p k.kind (Writing (writes_to c xs)) →
      HasFault p k.kind (cause_at_cell k.kind c xs)
  written_by c (inl d) h = subst (λ d. HasFault p k.kind (cause_at_cell d c xs)) (sym d) h
  written_by c (inr d) h = subst (λ d. HasFault p k.kind (cause_at_cell d c xs)) (sym d) h

  writes : IsWriteConflict p.rule xs k → IsExplained p k.kind (cause_on p m act k xs)
  writes w =
      subst (λ place. IsExplained p k.kind (cause_at p m act place k xs)) (sym w.place)
      (written_by w.cell (written_kind p.rule (writes_to w.cell xs) k.kind w.against) w.against)

  by : IsOwn xs k ⊎ (IsReadConflict p.rule (reads_of xs) k ⊎ IsWriteConflict p.rule xs k) →
      IsExplained p k.kind (cause_on p m act k xs)
  by (inl o) = owns o
  by (inr (inl r)) = reads r
  by (inr (inr w)) = writes w

pub set_explained : SetExplained
set_explained p m act vs k e = set_told p m act (attempted_on act) (λ s same. member_told p s same act) vs k e
