-- A loop that comes back to the state that it had never ends.
use Rattle.std.proofs.Common.{◌≡◌, ◌⊎◌, ◌≤◌, ℕ, zero, suc, ◌+◌, List, Bool, true, ℤ, ap, arith, inl, inr, subst}
use Rattle.write_rules.specs.declared.fault.Fault.{Fault}
use Rattle.pram_meaning.specs.Bounded.{Behaviour, Goes}
use Rattle.pram_meaning.specs.Bounded as bounded
use Rattle.pram_meaning.specs.Meaning as relation
use Rattle.pram_meaning.specs.Meaning.{Does, Either, Ends, Fate, Fates, IsEnd, Then, Turns, at_fault, at_start, on}
use Rattle.pram_meaning.specs.Store.{State}
use Rattle.pram_meaning.proofs.Agree.{Agree, Loop}
use Rattle.endless_runs.specs.Endless.{IsEndless, IsReaching}
use Rattle.endless_runs.proofs.Alike.{IsBlind, Like, blind_turns, moved}

-- ---- what ends does nothing else

-- what is told of a state beside an end is that some statements have run
abbrev pub IsSure : {A : Type 0} → (State → Fates A) → Type 0
IsSure {A} M = (m k : State) (a : A) (f : Fate A) → M m (Ends a k) → M m f → (f ≡ Ends a k) ⊎ IsReaching f

same_end : {A : Type 0} (a b : A) (k l : State) (x : Behaviour A) → x ≡ Goes a k → x ≡ Goes b l → Ends b l ≡ Ends a k
same_end a b k l x e g = cc

no_stop : {A : Type 0} (a : A) (k : State) (fault : Fault) (out : List ℤ) (x : Behaviour A) → x ≡ Goes a k → x ≡ bounded.Stops fault out → ⊥
no_stop a k fault out x e g = cc

-- so it is of a relation with a bounded function that agrees with it
pub sure : {A : Type 0} (M : State → Fates A) (b : ℕ → State → Behaviour A) → ((n : ℕ) → Agree A n M (b n)) → IsSure M
sure M b agrees m k a (Ends c l) p q =
    let n = k.count + l.count in
    let low : m.count ≤ k.count = (agrees n).grows m (Ends a k) p in
    let e = (agrees n).comes m (omega (arith, low)) (Ends a k) p (omega arith) in
    let g = (agrees n).comes m (omega (arith, low)) (Ends c l) q (omega arith) in inl (same_end a c k l (b n m) e g)
sure M b agrees m k a (relation.Stops fault c out) p q =
    let n = k.count + c in
    let low : m.count ≤ k.count = (agrees n).grows m (Ends a k) p in
    let e = (agrees n).comes m (omega (arith, low)) (Ends a k) p (omega arith) in
    let g = (agrees n).comes m (omega (arith, low)) (relation.Stops fault c out) q (omega arith) in
    absurd (no_stop a k fault out (b n m) e g)
sure M b agrees m k a (relation.Reaches c out) p q = inr tt

-- ---- one thing behind the other

-- what never ends at its beginning
pub endless_first : {A B : Type 0} (M : Fates A) (N : A → State → Fates B) → IsEndless M → IsEndless (Then A B M N)
endless_first M N never f (on {a} {m} p q) = absurd (never (Ends a m) p)
endless_first M N never f (at_fault {k} {c} {out} p) = absurd (never (relation.Stops k c out) p)
endless_first M N never f (at_start p) = tt

ends_same : {A : Type 0} (a b : A) (k l : State) (P : A → State → Type 0) → Ends b l ≡ Ends a k → P b l → P a k
ends_same {A} a b k l P e p = subst (λ x. x) (same_at e) p
  where
    at : Fate A → Type 0
    at (Ends c m) = P c m
    at (relation.Stops fault c out) = ⊥
    at (relation.Reaches c out) = ⊥

    same_at : Ends b l ≡ Ends a k → P b l ≡ P a k
    same_at e = ap at e

not_end : {A : Type 0} (a : A) (k : State) (fault : Fault) (c : ℕ) (out : List ℤ) → relation.Stops fault c out ≡ Ends a k → ⊥
not_end a k fault c out e = cc

no_fault : {A : Type 0} (M : State → Fates A) → IsSure M → (m k : State) (a : A) (fault : Fault) (c : ℕ) (out : List ℤ) → M m (Ends a k) →
    M m (relation.Stops fault c out) → ⊥
no_fault M is m k a fault c out p q = stop (is m k a (relation.Stops fault c out) p q)
  where
    stop : (relation.Stops fault c out ≡ Ends a k) ⊎ ⊥ → ⊥
    stop (inl e) = not_end a k fault c out e
    stop (inr never_so) = never_so

-- and what never ends behind what does
pub endless_then : {A B : Type 0} (M : State → Fates A) (N : A → State → Fates B) → IsSure M → (m k : State) (a : A) → M m (Ends a k) →
    IsEndless (N a k) → IsEndless (Then A B (M m) N)
endless_then M N is m k a ends never f (on {a = b} {m = l} p q) = behind (is m k a (Ends b l) ends p)
  where
    behind : (Ends b l ≡ Ends a k) ⊎ ⊥ → IsReaching f
    behind (inl e) = never f (ends_same a b k l (λ c x. N c x f) e q)
    behind (inr never_so) = absurd never_so
endless_then M N is m k a ends never f (at_fault {k = fault} {c} {out} p) = absurd (no_fault M is m k a fault c out ends p)
endless_then M N is m k a ends never f (at_start p) = tt

-- ---- turns

-- a turn of a loop: its test is true, and its body ends
pub record Turned (T : State → Fates Bool) (B : State → Does) (from to : State) : Type 0 where
  pub tested : State
  pub is_true : T from (Ends true tested)
  pub ends : B tested (Ends tt to)

-- some turns, one at least
pub data Turning (T : State → Fates Bool) (B : State → Does) (from : State) : State → Type 0 where
  Once : {to : State} → Turned T B from to → Turning T B from to
  More : {now to : State} → Turning T B from now → Turned T B now to → Turning T B from to

abbrev Rest : (T : State → Fates Bool) (B : State → Does) → ℕ → Bool → State → Does
Rest T B k z m = Either z (Then (Unit {0}) (Unit {0}) (B m) (λ u. Turns k T B)) (IsEnd tt m)

module _ (T : State → Fates Bool) (B : State → Does) (st : IsSure T) (sb : IsSure B) where
  -- a loop that ends or faults does so behind each turn, and makes fewer turns then
  after_body : (now to : State) (k : ℕ) (f : Fate (Unit {0})) → B now (Ends tt to) → Then (Unit {0}) (Unit {0}) (B now)
      (λ u. Turns k T B) f →
      Turns k T B to f ⊎ IsReaching f
  after_body now to k f ends (on {a = u} {m = l} p q) = behind (sb now to tt (Ends u l) ends p)
    where
      behind : (Ends u l ≡ Ends tt to) ⊎ ⊥ → Turns k T B to f ⊎ IsReaching f
      behind (inl e) = inl (ends_same tt u to l (λ c x. Turns k T B x f) e q)
      behind (inr never_so) = absurd never_so
  after_body now to k f ends (at_fault {k = fault} {c} {out} p) = absurd (no_fault B sb now to tt fault c out ends p)
  after_body now to k f ends (at_start p) = inr tt

  after_test : (from now to : State) (k : ℕ) (f : Fate (Unit {0})) → T from (Ends true now) → B now (Ends tt to) →
      Then Bool (Unit {0}) (T from) (Rest T B k) f → Turns k T B to f ⊎ IsReaching f
  after_test from now to k f is ends (on {a = z} {m = l} p q) = behind (st from now true (Ends z l) is p)
    where
      behind : (Ends z l ≡ Ends true now) ⊎ ⊥ → Turns k T B to f ⊎ IsReaching f
      behind (inl e) = after_body now to k f ends (ends_same true z now l (λ c x. Rest T B k c x f) e q)
      behind (inr never_so) = absurd never_so
  after_test from now to k f is ends (at_fault {k = fault} {c} {out} p) = absurd (no_fault T st from now true fault c out is p)
  after_test from now to k f is ends (at_start p) = inr tt

  -- fewer turns, or some statements have run
  abbrev Fewer : ℕ → State → Fate (Unit {0}) → Type 0
  Fewer k to f = ((j : ℕ) × (suc j ≤ k) × Turns j T B to f) ⊎ IsReaching f

  after_turn : (from to : State) → Turned T B from to → (k : ℕ) (f : Fate (Unit {0})) → Turns k T B from f → Fewer k to f
  after_turn from to t zero f r = absurd r
  after_turn from to t (suc k) f r = fewer (after_test from t.tested to k f t.is_true t.ends r)
    where
      fewer : Turns k T B to f ⊎ IsReaching f → Fewer (suc k) to f
      fewer (inl q) = inl (k, omega arith, q)
      fewer (inr is) = inr is

  after_turns : (from to : State) → Turning T B from to → (k : ℕ) (f : Fate (Unit {0})) → Turns k T B from f → Fewer k to f
  after_turns from to (Once t) k f r = after_turn from to t k f r
  after_turns from to (More {now} ts t) k f r = on_way (after_turns from now ts k f r)
    where
      last : (j : ℕ) → suc j ≤ k → Fewer j to f → Fewer k to f
      last j few (inl q) = inl (q.0, (let a = q.1 in omega (arith, a, few)), q.2)
      last j few (inr is) = inr is

      on_way : Fewer k now f → Fewer k to f
      on_way (inl q) = last q.0 q.1 (after_turn now to t q.0 f q.2)
      on_way (inr is) = inr is

  -- ---- a state comes back

  like_reaching : (f g : Fate (Unit {0})) → Like f g → IsReaching g → IsReaching f
  like_reaching (Ends a m) g like is = subst IsReaching like.2 is
  like_reaching (relation.Stops fault c out) g like is = subst IsReaching like.2 is
  like_reaching (relation.Reaches c out) g like is = tt

  no_turns : IsBlind T → IsBlind B → (from to : State) → Turning T B from to → moved from.count from.output to ≡ from → (j k : ℕ) → k ≤ j →
      (f : Fate (Unit {0})) → Turns k T B from f → IsReaching f
  no_turns bt bb from to ts back j zero few f r = absurd r
  no_turns bt bb from to ts back zero (suc k) few f r = absurd (omega (arith, few))
  no_turns bt bb from to ts back (suc j) (suc k) few f r =
      again (λ i low g q. no_turns bt bb from to ts back j i low g q) (after_turns from to ts (suc k) f r)
    where
      again : ((i : ℕ) → i ≤ j → (g : Fate (Unit {0})) → Turns i T B from g → IsReaching g) → Fewer (suc k) to f → IsReaching f
      again less (inr is) = is
      again less (inl q) =
          let i = q.0 in
          let low = q.1 in
          let x = blind_turns T B bt bb i to from.count from.output f q.2 in
          like_reaching f x.0 x.2 (less i (omega (arith, low, few)) x.0 (subst (λ m. Turns i T B m x.0) back x.1))

  -- a loop that comes back, by some turns, to the state that it had, but for the count and the output
  pub endless_cycle : IsBlind T → IsBlind B → (from to : State) → Turning T B from to → moved from.count from.output to ≡ from →
      IsEndless (Loop T B from)
  endless_cycle bt bb from to ts back f r = no_turns bt bb from to ts back r.0 r.0 (omega arith) f r.1

  -- one that never ends behind some turns
  pub endless_behind : (from to : State) → Turning T B from to → IsEndless (Loop T B to) → IsEndless (Loop T B from)
  endless_behind from to ts never f r = behind (after_turns from to ts r.0 f r.1)
    where
      behind : Fewer r.0 to f → IsReaching f
      behind (inl q) = never f (q.0, q.2)
      behind (inr is) = is

  -- one of which a turn never ends
  pub endless_turn : (from now : State) → T from (Ends true now) → IsEndless (B now) → IsEndless (Loop T B from)
  endless_turn from now is never f (zero, r) = absurd r
  endless_turn from now is never f (suc k, r) =
      endless_then T (Rest T B k) st from now true is (endless_first (B now) (λ u. Turns k T B) never) f r
