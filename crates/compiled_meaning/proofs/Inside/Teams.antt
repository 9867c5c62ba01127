-- Values for a local of each processor of a set, member by member.
use Rattle.std.proofs.Common.{◌≡◌, ◌≢◌, ℕ, zero, suc, ◌+◌, ◌<◌, ◌≤◌, List, [], ◌∷◌, length, Bool, true, false, cond, fold, ℤ, refl, sym}
use Rattle.std.proofs.Common.{ap, ◌∙◌, arith, slice_set}
use Rattle.std.proofs.Common.{⊎_elim}
use Rattle.std.specs.List.{AllByRecursion, filter, range_with_len}
use Rattle.std.proofs.lemmas.Bool.Decides.{eqb_tells}
use Rattle.std.proofs.lemmas.List.{get_or-set_other, get_or-set_same, length-set}
use Rattle.pram_meaning.specs.Store.{Member, member_of, with_local}

-- the local x of these members gets the values z
abbrev pub set_in : ℕ → (ℕ → ℤ) → List Member → List ℕ → List Member
set_in x z team vs = fold (λ team v. with_local x v (z v) team) team vs

-- a member whose local x got a value
abbrev pub changed : ℕ → ℤ → Member → Member
changed x z g = record { index = g.index; locals = slice_set g.locals x z }

-- those behind the first of a range
abbrev beyond : (ℕ → Bool) → ℕ → ℕ → List ℕ
beyond test k n = filter test (range_with_len (k + 1) n)

module _ (x : ℕ) (z : ℕ → ℤ) where
  pub length_set_in : (vs : List ℕ) (team : List Member) → length (set_in x z team vs) ≡ length team
  length_set_in [] team = refl
  length_set_in (v ∷ vs) team = length_set_in vs (with_local x v (z v) team) ∙ length-set team v _

  here : (v : ℕ) (team : List Member) → v < length team → member_of (with_local x v (z v) team) v ≡ changed x (z v) (member_of team v)
  here v team l = get_or-set_same team v _ _ l

  elsewhere : (u v : ℕ) (team : List Member) → v ≢ u → member_of (with_local x u (z u) team) v ≡ member_of team v
  elsewhere u v team h = get_or-set_other team u v _ _ h

  -- those that a test excludes stay
  pub excluded : (test : ℕ → Bool) (us : List ℕ) (v : ℕ) (team : List Member) → test v ≡ false →
      member_of (set_in x z team (filter test us)) v ≡ member_of team v
  excluded test [] v team h = refl
  excluded test (u ∷ us) v team h = go (λ g. excluded test us v g h) (test u) refl
    where
      go : ((g : List Member) → member_of (set_in x z g (filter test us)) v ≡ member_of g v) → (b : Bool) → test u ≡ b →
          member_of (set_in x z team (cond b (u ∷ filter test us) (filter test us))) v ≡ member_of team v
      go rest true e =
          rest (with_local x u (z u) team)
          ∙ elsewhere u v team (λ q. let d : true ≡ false = sym e ∙ ap test (sym q) ∙ h in cc d)
      go rest false e = rest team

  -- and so do those before a range
  before : (test : ℕ → Bool) (n k v : ℕ) (team : List Member) → v < k →
      member_of (set_in x z team (filter test (range_with_len k n))) v ≡ member_of team v
  before test zero k v team l = refl
  before test (suc n) k v team l = go (λ g. before test n (k + 1) v g (omega (arith, l))) (test k)
    where
      go : ((g : List Member) → member_of (set_in x z g (beyond test k n)) v ≡ member_of g v) → (b : Bool) →
          member_of (set_in x z team (cond b (k ∷ beyond test k n) (beyond test k n))) v ≡ member_of team v
      go rest true = rest (with_local x k (z k) team) ∙ elsewhere k v team (λ q. omega (arith, l, q))
      go rest false = rest team

  -- the others get their values
  pub included : (test : ℕ → Bool) (n k v : ℕ) (team : List Member) → test v ≡ true → k ≤ v → v < k + n → v < length team →
      member_of (set_in x z team (filter test (range_with_len k n))) v ≡ changed x (z v) (member_of team v)
  included test zero k v team h low high l = absurd (omega (arith, low, high))
  included test (suc n) k v team h low high l =
      ⊎_elim (λ e. at e.1)
      (λ e. behind e.1
      (λ g below. included test n (k + 1) v g h (let d = e.1 in omega (arith, low, d)) (omega (arith, high)) below) (test k))
      (eqb_tells k v)
    where
      at : k ≡ v →
          member_of (set_in x z team (cond (test k) (k ∷ beyond test k n) (beyond test k n))) v ≡ changed x (z v) (member_of team v)
      at e =
          ap (λ b. member_of (set_in x z team (cond b (k ∷ beyond test k n) (beyond test k n))) v) (ap test e ∙ h)
          ∙ before test n (k + 1) v (with_local x k (z k) team) (omega (arith, e))
          ∙ ap (λ u. member_of (with_local x u (z u) team) v) e ∙ here v team l

      behind : (k ≡ v → ⊥) →
          ((g : List Member) → v < length g → member_of (set_in x z g (beyond test k n)) v ≡ changed x (z v) (member_of g v)) → (b : Bool) →
          member_of (set_in x z team (cond b (k ∷ beyond test k n) (beyond test k n))) v ≡ changed x (z v) (member_of team v)
      behind d rest true =
          rest (with_local x k (z k) team)
          (let n = length-set team k (changed x (z k) (member_of team k)) in omega (arith, n, l))
          ∙ ap (changed x (z v)) (elsewhere k v team (λ q. d (sym q)))
      behind d rest false = rest team l

-- ---- all members have as many locals

module _ (locals x : ℕ) where
  abbrev Has : Member → Type 0
  Has g = length g.locals ≡ locals

  local_kept : (v : ℕ) (z : ℤ) (team : List Member) → AllByRecursion Has team → AllByRecursion Has (with_local x v z team)
  local_kept v z [] h = tt
  local_kept zero z (g ∷ team) h = (length-set g.locals x z ∙ h.0, h.1)
  local_kept (suc v) z (g ∷ team) h = (h.0, local_kept v z team h.1)

  pub locals_kept : (z : ℕ → ℤ) (vs : List ℕ) (team : List Member) → AllByRecursion Has team → AllByRecursion Has (set_in x z team vs)
  locals_kept z [] team h = h
  locals_kept z (v ∷ vs) team h = locals_kept z vs (with_local x v (z v) team) (local_kept v (z v) team h)

-- so each member of the team has
pub locals_of_member : (locals : ℕ) (team : List Member) (v : ℕ) → AllByRecursion (λ (g : Member). length g.locals ≡ locals) team →
    v < length team → length (member_of team v).locals ≡ locals
locals_of_member locals [] v h l = absurd (omega (arith, l))
locals_of_member locals (g ∷ team) zero h l = h.0
locals_of_member locals (g ∷ team) (suc v) h l = locals_of_member locals team v h.1 (omega (arith, l))
