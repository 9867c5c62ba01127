-- What operations give on members of intervals.
use Rattle.std.proofs.Common.{◌≡◌, ℤ, length, ◌++◌, ◌∷◌, [], ◌⊎◌, Bool, true, false, None, Ok, Err, refl, inl, inr, ap, subst, sym, ◌∙◌}
use Rattle.std.proofs.Common.{◌+ℤ◌, ◌-ℤ◌, ◌*ℤ◌, neg_ℤ, if◌then◌else◌}
use Rattle.pram_values.specs.declared.kind.Kind.{Kind}
use Rattle.pram_values.specs.declared.kind.Kind.TheVariants.{Overflow, DivideByZero}
use Rattle.pram_values.specs.Value.{Value, checked, fits}
use Rattle.pram_values.specs.Division.{quotient, remainder_of, floor_quotient, floor_remainder}
use Rattle.pram_values.specs.Truth.{is_nonzero}
use Rattle.pram_tokens.specs.declared.token.Binary.{Binary}
use Rattle.pram_tokens.specs.declared.token.Binary.TheVariants.{Or, And, Equal, Unequal, Less, AtMost, Greater, AtLeast, Add, Subtract}
use Rattle.pram_tokens.specs.declared.token.Binary.TheVariants.{Multiply, Divide, Remainder}
use Rattle.pram_trees.specs.declared.tree.Prefix.{Prefix}
use Rattle.pram_trees.specs.declared.tree.Prefix.TheVariants.{Negate, Not}
use Rattle.pram_meaning.specs.Attempt.{Trail, operation}
use Rattle.pram_meaning.specs.Operation.{operate, operate_before}
use Rattle.intervals.specs.declared.interval.Interval.{Interval}
use Rattle.intervals.specs.declared.found.Found.{Found}
use Rattle.intervals.specs.Intervals.{IsIn}
use Rattle.intervals.specs.Results.{Tells, Gives}
use Rattle.abstract_runs.specs.declared.findings.Findings.{Findings}
use Rattle.abstract_runs.specs.Covers.{IsAmong}
use Rattle.abstract_runs.specs.Finding.{MayBy}
use Rattle.abstract_runs.specs.Tried.{GoesThrough, IsTried}
use Rattle.abstract_runs.proofs.Trails.{Reaches, ends_last, may_last, through_next}

-- no operation has another fault
abbrev pub HasFewFaults : Value → Type 0
HasFewFaults v = (kind : Kind) → v ≡ Err kind → (kind ≡ Overflow) ⊎ (kind ≡ DivideByZero)

kind_is : (v : Value) (kind other : Kind) → v ≡ Err other → v ≡ Err kind → kind ≡ other
kind_is v kind other e f = cc (e, f)

few_ok : (v : Value) (z : ℤ) → v ≡ Ok z → HasFewFaults v
few_ok v z e kind f = absurd (cc (e, f))

few_checked : (z : ℤ) → HasFewFaults (checked z)
few_checked z = by (fits z)
  where
    by : (b : Bool) → HasFewFaults (if b then Ok z else Err Overflow)
    by true = few_ok (Ok z) z refl
    by false = λ kind f. inl (cc f)

few_quotient : (x d : ℤ) → HasFewFaults (quotient x d)
few_quotient x d = by (is_nonzero d)
  where
    by : (b : Bool) → HasFewFaults (if b then checked (floor_quotient x d) else Err DivideByZero)
    by true = few_checked (floor_quotient x d)
    by false = λ kind f. inr (cc f)

few_remainder : (x d : ℤ) → HasFewFaults (remainder_of x d)
few_remainder x d = by (is_nonzero d)
  where
    by : (b : Bool) → HasFewFaults (if b then Ok (floor_remainder x d) else Err DivideByZero)
    by true = few_ok (Ok (floor_remainder x d)) (floor_remainder x d) refl
    by false = λ kind f. inr (cc f)

pub few_operate : (o : Binary) (x y : ℤ) → HasFewFaults (operate o x y)
few_operate Or x y = few_ok _ _ refl
few_operate And x y = few_ok _ _ refl
few_operate Equal x y = few_ok _ _ refl
few_operate Unequal x y = few_ok _ _ refl
few_operate Less x y = few_ok _ _ refl
few_operate AtMost x y = few_ok _ _ refl
few_operate Greater x y = few_ok _ _ refl
few_operate AtLeast x y = few_ok _ _ refl
few_operate Add x y = few_checked (x +ℤ y)
few_operate Subtract x y = few_checked (x -ℤ y)
few_operate Multiply x y = few_checked (x *ℤ y)
few_operate Divide x y = few_quotient x y
few_operate Remainder x y = few_remainder x y

pub few_before : (o : Prefix) (x : ℤ) → HasFewFaults (operate_before o x)
few_before Negate x = few_checked (neg_ℤ x)
few_before Not x = few_ok _ _ refl

pub settled : (f : ℤ → ℤ → Value) (a b : Interval) (found : Found) (rs more : Reaches) (faults : Findings) (x y : ℤ) (t : Trail) →
    Tells f a b found → HasFewFaults (f x y) → (found.may_overflow ≡ true → MayBy Overflow (length more) faults) →
    (found.may_divide_by_zero ≡ true → MayBy DivideByZero (length more) faults) → more ≡ rs ++ None ∷ [] → IsIn x a → IsIn y b →
    GoesThrough rs t →
    IsTried (IsAmong found.value) more faults (operation (f x y) t)
settled f a b found rs more faults x y t tells few over zero m p q h = by (f x y) refl
  where
    by : (v : Value) → f x y ≡ v → IsTried (IsAmong found.value) more faults (operation v t)
    by (Ok v) e = (tells.sound x y v p q e, through_next rs more t None None h tt tt m)
    by (Err kind) e = (ends_last rs more t None None h tt m, may_last kind faults rs more t None None h m (either kind e (few kind e)))
      where
        given : (kind other : Kind) → f x y ≡ Err kind → kind ≡ other → Gives f a b (Err other)
        given kind other e o = record { left = x; right = y; left_in = p; right_in = q; gives = e ∙ ap Err o }

        either : (kind : Kind) → f x y ≡ Err kind → (kind ≡ Overflow) ⊎ (kind ≡ DivideByZero) → MayBy kind (length more) faults
        either kind e (inl o) = subst (λ k. MayBy k (length more) faults) (sym o) (over (tells.overflow.1 (given kind Overflow e o)))
        either kind e (inr o) = subst (λ k. MayBy k (length more) faults) (sym o) (zero (tells.zero.1 (given kind DivideByZero e o)))
