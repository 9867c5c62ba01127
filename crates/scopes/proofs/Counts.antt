-- How many inputs there are, place by place.
use Rattle.std.proofs.Common.{◌≡◌, ℕ, zero, suc, ◌+◌, ◌-◌, ◌*◌, ◌^◌, ◌≤◌, ◌<◌, Bool, true, false, if◌then◌else◌, pos, ◌+ℤ◌, length, refl}
use Rattle.std.proofs.Common.{ap, sym, subst, inl, inr, ◌∙◌, arith}
use Rattle.std.proofs.lemmas.Bool.{cases_lt}
use Rattle.std.proofs.Math.Nat.{pow-suc}
use Rattle.scopes.specs.Lists.{falling}
use Rattle.scopes.specs.Scopes.{inputs_of}
use Rattle.scopes.specs.declared.scope.Scope.{Scope}
use Rattle.scopes.proofs.Orders.{counted_apart}
use Rattle.scopes.proofs.Those.{counted_inputs}

-- of n values in k places
abbrev pub many : Bool → (n k : ℕ) → ℕ
many apart n k = if apart then falling n k else n ^ k

abbrev pub choices : Bool → (n k : ℕ) → ℕ
choices apart n k = if apart then n - k else n

pub many_next : (apart : Bool) (n k : ℕ) → many apart n (k + 1) ≡ many apart n k * choices apart n k
many_next true n k = ap (falling n) (let more : k + 1 ≡ suc k = omega arith in more)
many_next false n k = ap (λ (j : ℕ). n ^ j) (let more : k + 1 ≡ suc k = omega arith in more) ∙ pow-suc n k

-- with one place more there are no fewer
no_fewer : (a c : ℕ) → 1 ≤ c → a ≤ a * c
no_fewer a zero le = absurd (omega arith)
no_fewer a (suc c) le = grind arith

choice_left : (apart : Bool) (n m : ℕ) → 1 ≤ n → (apart ≡ true → m + 1 ≤ n) → 1 ≤ choices apart n m
choice_left true n m one room = let r = room refl in omega arith
choice_left false n m one room = one

pub no_fewer_behind : (apart : Bool) (n k j : ℕ) → 1 ≤ n → (apart ≡ true → k + j ≤ n) → many apart n k ≤ many apart n (k + j)
no_fewer_behind apart n k zero one room = subst (λ (m : ℕ). many apart n k ≤ many apart n m) (let same : k ≡ k + 0 = omega arith in same)
    (omega arith)
no_fewer_behind apart n k (suc j) one room =
    let before = no_fewer_behind apart n k j one (λ e. let r = room e in omega arith) in
    let left = choice_left apart n (k + j) one (λ e. let r = room e in omega arith) in
    let more = no_fewer (many apart n (k + j)) (choices apart n (k + j)) left in
    let next = many_next apart n (k + j) in
    let same : k + suc j ≡ k + j + 1 = omega arith in
    subst (λ (m : ℕ). many apart n k ≤ many apart n m) (sym same) (omega (arith, before, more, next))

pub inputs_are : (s : Scope) (n : ℕ) → s.high +ℤ pos 1 ≡ s.low +ℤ pos n → length (inputs_of s) ≡ many s.apart n s.count
inputs_are s n wide = by_apart s.apart refl where
  by_apart : (b : Bool) → s.apart ≡ b → length (inputs_of s) ≡ many s.apart n s.count
  by_apart true e = counted_apart s n e wide ∙ sym (ap (λ (b : Bool). many b n s.count) e)
  by_apart false e = counted_inputs s n e wide ∙ sym (ap (λ (b : Bool). many b n s.count) e)

-- where there are fewer values than places
pub too_few : (n k : ℕ) → n < k → falling n k ≡ 0
too_few n zero lt = absurd (omega arith)
too_few n (suc k) lt =
    elim (cases_lt n k) [
      | inl fewer ↦ ap (λ (m : ℕ). m * (n - k)) (too_few n k fewer) ∙ (let z : 0 * (n - k) ≡ 0 = omega arith in z)
      | inr rest ↦
          let none : n - k ≡ 0 = omega arith in
          ap (λ (m : ℕ). falling n k * m) none ∙ (let z : falling n k * 0 ≡ 0 = omega arith in z)
    ]

pub none_are : (s : Scope) (n : ℕ) → s.apart ≡ true → s.high +ℤ pos 1 ≡ s.low +ℤ pos n → n < s.count → length (inputs_of s) ≡ 0
none_are s n e wide lt = counted_apart s n e wide ∙ too_few n s.count lt

-- there are at least as many as were counted
pub at_least : (s : Scope) (n k m : ℕ) → s.high +ℤ pos 1 ≡ s.low +ℤ pos n → 1 ≤ n → k < s.count → (s.apart ≡ true → s.count ≤ n) →
    m ≤ many s.apart n k * choices s.apart n k → m ≤ length (inputs_of s)
at_least s n k m wide one lt room le =
    let all = inputs_are s n wide in
    let next = many_next s.apart n k in
    let j = s.count - (k + 1) in
    let same : k + 1 + j ≡ s.count = omega arith in
    let more = subst (λ (i : ℕ). many s.apart n (k + 1) ≤ many s.apart n i) same
    (no_fewer_behind s.apart n (k + 1) j one (λ e. let r = room e in omega arith)) in
    omega (arith, all, next, more, le)
