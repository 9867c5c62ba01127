-- How the first breach of a whole follows from the first ones of its parts.
use Rattle.std.proofs.Common.{◌≡◌, ◌+◌, ℕ, List, [], ◌∷◌, ◌++◌, Some, None, Result, Ok, Err, refl, sym, ap, ◌∙◌, subst, arith, append_assoc}
use Rattle.std.proofs.lemmas.Result.{err_from_is_err_and}
use Rattle.std.specs.Prelude.{IsErrAnd, if◌then◌else◌}
use Rattle.pram_tokens.specs.declared.token.Location.{Location}
use Rattle.pram_names.specs.declared.fault.Breach.{Breach}
use Rattle.pram_names.specs.declared.fault.Cause.{Cause}
use Rattle.pram_names.specs.declared.fault.Spot.TheVariants.{Offset}
use Rattle.pram_names.specs.declared.fault.CheckFault.{CheckFault}
use Rattle.pram_names.specs.declared.fault.CheckFault.TheVariants.{Refused, OutOfMemory}
use Rattle.pram_names.specs.Scope.{Scope, meaning_of}
use Rattle.pram_names.specs.Breaches.{Use, use_breaches, use_cause, ninth, is_read, or_else, at, read_count, first, Tells}
use Rattle.pram_names.specs.Walk.{Judges}

-- ---- lists of breaches

pub first_front : (xs ys : List Breach) (b : Breach) → first xs ≡ Some b → first (xs ++ ys) ≡ Some b
first_front [] ys b h = absurd (cc h)
first_front (x ∷ xs) ys b h = h

pub first_behind : (xs ys : List Breach) → first xs ≡ None → first (xs ++ ys) ≡ first ys
first_behind [] ys h = refl
first_behind (x ∷ xs) ys h = absurd (cc h)

-- the first breach of the one is the first of the other
abbrev pub Leads : (inner whole : List Breach) → Type 0
Leads inner whole = (b : Breach) → first inner ≡ Some b → first whole ≡ Some b

fault_along : (inner whole : List Breach) (x : CheckFault) → Tells inner x → Leads inner whole → Tells whole x
fault_along inner whole (Refused b) h leads = leads b h
fault_along inner whole OutOfMemory h leads = tt

-- the exit of a `?`
pub exit : {B : Type 0} (IsB : B → Type 0) (inner whole : List Breach) (r : Result B CheckFault) (x : CheckFault) →
    IsErrAnd r (λ y. y ≡ x) → Tells inner x → Leads inner whole → Judges IsB whole r
exit IsB inner whole r x is h leads =
    let p = err_from_is_err_and r is in
    subst (Judges IsB whole) (sym (p.1 ∙ ap Err p.2)) (fault_along inner whole x h leads)

-- an answer that is given on
pub along : {A : Type 0} (IsA IsB : A → Type 0) (inner whole : List Breach) (r : Result A CheckFault) →
    Judges IsA inner r → first inner ≡ first whole → ((a : A) → IsA a → IsB a) → Judges IsB whole r
along IsA IsB inner whole (Ok a) h same is = (sym same ∙ h.0, is a h.1)
along IsA IsB inner whole (Err x) h same is = fault_along inner whole x h (λ b e. sym same ∙ e)

-- ---- names in expressions

module _ (scope : Scope) where
  pub count_append : (us vs : List Use) → read_count scope (us ++ vs) ≡ read_count scope us + read_count scope vs
  count_append [] vs = omega arith
  count_append (u ∷ us) vs = let r = count_append us vs in omega (arith, r)

  pub breaches_append : (n : ℕ) (us vs : List Use) →
      use_breaches scope n (us ++ vs) ≡ use_breaches scope n us ++ use_breaches scope (n + read_count scope us) vs
  breaches_append n [] vs = ap (λ k. use_breaches scope k vs) (omega arith)
  breaches_append n (u ∷ us) vs =
      let one = if is_read (meaning_of scope u.name.text) u.subscripted then 1 else 0 in
      let here = at u.name.location (or_else (use_cause (meaning_of scope u.name.text) u.subscripted)
      (ninth n (is_read (meaning_of scope u.name.text) u.subscripted))) in
      let sum : (n + one) + read_count scope us ≡ n + (one + read_count scope us) = omega arith in
      ap (λ l. here ++ l) (breaches_append (n + one) us vs ∙ ap (λ k. use_breaches scope (n + one) us ++ use_breaches scope k vs) sum)
      ∙ sym (append_assoc here (use_breaches scope (n + one) us) (use_breaches scope (n + (one + read_count scope us)) vs))

  -- nothing is wrong with these names, which end with m shared reads
  abbrev pub Fine : ℕ → List Use → ℕ → Type 0
  Fine n us m = (first (use_breaches scope n us) ≡ None) × (m ≡ n + read_count scope us)

  pub fine_none : (n : ℕ) → Fine n [] n
  fine_none n = (refl, omega arith)

  pub fine_append : (n m k : ℕ) (us vs : List Use) → Fine n us m → Fine m vs k → Fine n (us ++ vs) k
  fine_append n m k us vs a b =
      let c = count_append us vs in
      let joined = ap first (breaches_append n us vs) in
      let moved : first (use_breaches scope (n + read_count scope us) vs) ≡ None =
      subst (λ j. first (use_breaches scope j vs) ≡ None) a.1 b.0 in (
        joined ∙ (first_behind (use_breaches scope n us) (use_breaches scope (n + read_count scope us) vs) a.0 ∙ moved),
        omega (arith, a.1, b.1, c),
      )

  pub leads_front : (n : ℕ) (us vs : List Use) → Leads (use_breaches scope n us) (use_breaches scope n (us ++ vs))
  leads_front n us vs b h = ap first (breaches_append n us vs)
      ∙ first_front (use_breaches scope n us) (use_breaches scope (n + read_count scope us) vs) b h

  pub leads_behind : (n m : ℕ) (us vs : List Use) → Fine n us m → Leads (use_breaches scope m vs) (use_breaches scope n (us ++ vs))
  leads_behind n m us vs a b h =
      ap first (breaches_append n us vs)
      ∙ (first_behind (use_breaches scope n us) (use_breaches scope (n + read_count scope us) vs) a.0
      ∙ subst (λ j. first (use_breaches scope j vs) ≡ Some b) a.1 h)

  -- the same for a whole whose names are those
  pub leads_as : (n m : ℕ) (inner us vs : List Use) → us ≡ vs → Leads (use_breaches scope m inner) (use_breaches scope n us) →
      Leads (use_breaches scope m inner) (use_breaches scope n vs)
  leads_as n m inner us vs is leads b h = ap (λ l. first (use_breaches scope n l)) (sym is) ∙ leads b h

  pub fine_as : (n m : ℕ) (us vs : List Use) → us ≡ vs → Fine n us m → Fine n vs m
  fine_as n m us vs is h = subst (λ l. Fine n l m) is h

-- the one breach of a token
pub refused : (bs : List Breach) (l : Location) (k : Cause) (r : CheckFault) → bs ≡ at l (Some k) →
    r ≡ Refused (record { spot = Offset l.offset; cause = k }) → Tells bs r
refused bs l k r is same = subst (Tells bs) (sym same) (ap first is)

-- a whole of two parts
module _ (whole xs ys : List Breach) (is : whole ≡ xs ++ ys) where
  pub to_front : Leads xs whole
  to_front b h = ap first is ∙ first_front xs ys b h

  pub to_back : first xs ≡ None → Leads ys whole
  to_back none b h = ap first is ∙ (first_behind xs ys none ∙ h)

  pub none_in : first xs ≡ None → first ys ≡ None → first whole ≡ None
  none_in a b = ap first is ∙ (first_behind xs ys a ∙ b)
