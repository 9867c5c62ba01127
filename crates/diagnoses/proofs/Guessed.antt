-- The name that is said to be meant is one of those in scope that may stand there.
use Rattle.std.proofs.Common.{◌≡◌, ◌∷◌, [], true, false, Bool, List, ℕ, Option, Some, None, ap, cond, inl, inr, refl, subst, sym, ⊎_elim}
use Rattle.std.specs.Prelude.{◌⊎◌, ◌++◌, ◌&&◌, filter, nat_lt}
use Rattle.std.proofs.lemmas.List.Elements.{All-from_recursion}
use Rattle.std.specs.List.{AllByRecursion, fold}
use Rattle.pram_model.proofs.Truths.{both}
use Rattle.pram_names.specs.declared.fault.Breach.{Breach}
use Rattle.pram_names.specs.declared.fault.Cause.{Cause}
use Rattle.pram_names.specs.declared.fault.Cause.TheVariants as cause
use Rattle.pram_names.specs.declared.fault.Spot.{Spot}
use Rattle.pram_names.specs.declared.fault.Spot.TheVariants as spot
use Rattle.pram_tokens.specs.Scanning.{cut_of}
use Rattle.pram_trees.specs.Program.{ProgramTree}
use Rattle.help.specs.Bound.{bound_in}
use Rattle.help.specs.InScope.{Known, names_at}
use Rattle.help.specs.Nearness.{edits, is_near, named, nearer, nearest}
use Rattle.diagnoses.specs.Fitting.{fits, is_inside, role_at}
use Rattle.diagnoses.specs.declared.fitting.Role.{Role}
use Rattle.diagnoses.specs.Guesses.{HasNoGuessAt, IsGuess, IsGuessAt, IsSilent}
use Rattle.diagnoses.specs.Places.{token_at}
use Rattle.diagnoses.specs.Remarks.{Nearest, Remark, declared, meant, misplaced, remark_at, remark_of, remark_on, unknown}
use Rattle.diagnoses.proofs.Nearest.{IsAsFar, IsFar, all_as_far, all_far}

-- one of some names, near to the word, that passes a test
record IsPicked (word : List ℕ) (test : Known → Bool) (names : List Known) (name : List ℕ) : Type 0 where
  front : List Known
  known : Known
  rest : List Known
  among : names ≡ front ++ known ∷ rest
  named : known.name ≡ name
  near : is_near word known ≡ true
  stands : test known ≡ true

-- and none that passes is nearer
record IsBest (word : List ℕ) (test : Known → Bool) (names : List Known) (name : List ℕ) : Type 0 where
  picked : IsPicked word test names name
  nearest : AllByRecursion (IsAsFar word test (edits word name)) names

-- one name more: it is taken only if it is near
taken_if : (c : Bool) (k x : Known) (acc : Option Known) → cond c (Some x) acc ≡ Some k → (acc ≡ Some k) ⊎ ((x ≡ k) × (c ≡ true))
taken_if true k x acc e = inr (cc e, refl)
taken_if false k x acc e = inl e

taken : (word : List ℕ) (acc : Option Known) (x k : Known) → nearer word acc x ≡ Some k →
    (acc ≡ Some k) ⊎ ((x ≡ k) × (is_near word x ≡ true))
taken word None x k e = taken_if (is_near word x) k x None e
taken word (Some best) x k e =
    let closer = nat_lt (edits word x.name) (edits word best.name) in
    ⊎_elim (λ old. inl old) (λ new. inr (new.0, (both (is_near word x) closer new.1).0))
    (taken_if (is_near word x && closer) k x (Some best) e)

module _ (word : List ℕ) (test : Known → Bool) where
  from_first : (acc : Option Known) (x k : Known) (names : List Known) → test x ≡ true →
      (acc ≡ Some k) ⊎ ((x ≡ k) × (is_near word x ≡ true)) → (acc ≡ Some k) ⊎ IsPicked word test (x ∷ names) k.name
  from_first acc x k names is (inl old) = inl old
  from_first acc x k names is (inr new) = inr (record {
    front = [];
    known = x;
    rest = names;
    among = refl;
    named = ap (λ z. z.name) new.0;
    near = new.1;
    stands = is;
  })

  behind_first : (name : List ℕ) (x : Known) (names : List Known) → IsPicked word test names name → IsPicked word test (x ∷ names) name
  behind_first name x names g = record {
    front = x ∷ g.front;
    known = g.known;
    rest = g.rest;
    among = ap (λ l. x ∷ l) g.among;
    named = g.named;
    near = g.near;
    stands = g.stands;
  }

  by_test : (names : List Known) (acc : Option Known) (x k : Known)
      → ((a : Option Known) → fold (nearer word) a (filter test names) ≡ Some k → (a ≡ Some k) ⊎ IsPicked word test names k.name)
      → (b : Bool) → test x ≡ b → fold (nearer word) acc (cond b (x ∷ filter test names) (filter test names)) ≡ Some k
      → (acc ≡ Some k) ⊎ IsPicked word test (x ∷ names) k.name
  by_test names acc x k rest true is e =
      ⊎_elim (λ old. from_first acc x k names is (taken word acc x k old)) (λ g. inr (behind_first k.name x names g))
      (rest (nearer word acc x) e)
  by_test names acc x k rest false is e =
      ⊎_elim (λ old. inl old) (λ g. inr (behind_first k.name x names g)) (rest acc e)

  picked : (names : List Known) (acc : Option Known) (k : Known) → fold (nearer word) acc (filter test names) ≡ Some k →
      (acc ≡ Some k) ⊎ IsPicked word test names k.name
  picked [] acc k e = inl e
  picked (x ∷ names) acc k e = by_test names acc x k (λ a. picked names a k) (test x) refl e

  nearest_is : (names : List Known) (found : Option Known) (name : List ℕ) → nearest (filter test names) word ≡ found →
      (role : Role) (inside : Bool) → meant role inside found ≡ Nearest name → IsBest word test names name
  nearest_is names None name is role inside e = absurd (cc e)
  nearest_is names (Some k) name is role inside e =
      let same : k.name ≡ name = cc e in
      let one : IsPicked word test names k.name = ⊎_elim (λ old. absurd (cc old)) (λ g. g) (picked names None k is) in
      subst (IsBest word test names) same (record { picked = one; nearest = (all_as_far word test names k None is).1 })

  unknown_is : (names : List Known) (bound : Option Known) (name : List ℕ) (role : Role) (inside : Bool) →
      unknown role inside bound (nearest (filter test names) word) ≡ Nearest name → IsBest word test names name
  unknown_is names None name role inside e = nearest_is names (nearest (filter test names) word) name refl role inside e
  unknown_is names (Some k) name role inside e = absurd (cc e)

  not_declared : (found : Option Known) (name : List ℕ) → declared found ≡ Nearest name → ⊥
  not_declared None name e = cc e
  not_declared (Some k) name e = cc e

  not_misplaced : (role : Role) (found : Option Known) (name : List ℕ) → misplaced role found ≡ Nearest name → ⊥
  not_misplaced role None name e = cc e
  not_misplaced role (Some k) name e = cc e

  remarked : (bound : Option Known) (names : List Known) (role : Role) (c : Cause) (name : List ℕ) →
      remark_on bound names (filter test names) role word c ≡ Nearest name → IsBest word test names name
  remarked bound names role cause.UnknownName name e = unknown_is names bound name role (is_inside names) e
  remarked bound names role cause.DoubleName name e = absurd (not_declared (named names word) name e)
  remarked bound names role cause.WrongKind name e = absurd (not_misplaced role (named names word) name e)
  remarked bound names role cause.AssignedLoopVariable name e = absurd (not_declared (named names word) name e)
  remarked bound names role (cause.Limit l) name e = absurd (cc e)

is_guess : (text : List ℕ) (at : ℕ) (names : List Known) (name : List ℕ) →
    IsBest (token_at text at) (fits (cut_of text) at (is_inside names)) names name → IsGuess text at names name
is_guess text at names name best =
    let p = best.picked in
    record {
      front = p.front;
      known = p.known;
      rest = p.rest;
      among = p.among;
      named = p.named;
      near = p.near;
      stands = p.stands;
      nearest = All-from_recursion
          (IsAsFar (token_at text at) (fits (cut_of text) at (is_inside names)) (edits (token_at text at) name)) names best.nearest;
    }

at_spot : (text name : List ℕ) (tree : ProgramTree) (s : Spot) (c : Cause) → remark_at text tree s c ≡ Nearest name →
    IsGuessAt text tree s name
at_spot text name tree spot.TextEnd c e = cc e
at_spot text name tree (spot.Offset at) c e =
    let names = names_at tree at in
    is_guess text at names name
    (remarked (token_at text at) (fits (cut_of text) at (is_inside names)) (bound_in tree (token_at text at)) names
    (role_at (cut_of text) at) c name e)

pub guessed : (text name : List ℕ) (tree : ProgramTree) (b : Breach) → remark_of text tree b ≡ Nearest name →
    IsGuessAt text tree b.spot name
guessed text name tree b e = at_spot text name tree b.spot b.cause e

-- ---- where nothing is said

module _ (word : List ℕ) (test : Known → Bool) (names : List Known) (r : Remark) (silent : IsSilent r) where
  none_meant : (found : Option Known) (role : Role) (inside : Bool) → nearest (filter test names) word ≡ found →
      meant role inside found ≡ r → AllByRecursion (IsFar word test) names
  none_meant None role inside is e = (all_far word test names None is).1
  none_meant (Some k) role inside is e = absurd (subst IsSilent (sym e) silent)

  none_known : (bound : Option Known) (role : Role) (inside : Bool) → unknown role inside bound (nearest (filter test names) word) ≡ r →
      AllByRecursion (IsFar word test) names
  none_known None role inside e = none_meant (nearest (filter test names) word) role inside refl e
  none_known (Some k) role inside e = absurd (subst IsSilent (sym e) silent)

  none_of : (bound : Option Known) (role : Role) (c : Cause) → c ≡ cause.UnknownName →
      remark_on bound names (filter test names) role word c ≡ r → AllByRecursion (IsFar word test) names
  none_of bound role c is e =
      none_known bound role (is_inside names) (subst (λ k. remark_on bound names (filter test names) role word k ≡ r) is e)

none_at : (text : List ℕ) (tree : ProgramTree) (s : Spot) (c : Cause) (r : Remark) → IsSilent r → c ≡ cause.UnknownName →
    remark_at text tree s c ≡ r → HasNoGuessAt text tree s
none_at text tree spot.TextEnd c r silent is e = tt
none_at text tree (spot.Offset at) c r silent is e =
    let names = names_at tree at in
    let word = token_at text at in
    let test = fits (cut_of text) at (is_inside names) in
    All-from_recursion (IsFar word test) names (none_of word test names r silent (bound_in tree word) (role_at (cut_of text) at) c is e)

pub unguessed : (text : List ℕ) (tree : ProgramTree) (b : Breach) → b.cause ≡ cause.UnknownName → IsSilent (remark_of text tree b) →
    HasNoGuessAt text tree b.spot
unguessed text tree b is silent = none_at text tree b.spot b.cause (remark_of text tree b) silent is refl
