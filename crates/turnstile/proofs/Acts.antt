-- What a seat carries after a step tells what is at home then, so the steps of the table are those of the law.
use Rattle.std.proofs.Common.{◌≡◌, ℕ, zero, suc, ◌+◌, ◌<◌, ◌≤◌, Bool, true, false, Option, Some, [], ◌∷◌, map, get_or, set, length, nat_le}
use Rattle.std.proofs.Common.{sym, refl, ap, ◌∙◌, subst, length-set, eq-eqb, ne_eqb, leb-true, leb-false, arith}
use mathlib.Core.Logic.{dite}
use mathlib.Core.Option.{none, some}
use native.Mathlib.Decide.{ℕ_discrete}
use lib.ListN.{get_elem?}
use mathlib.Core.Option as maybe
use Rattle.std.proofs.lemmas.List.{set-set}
use lib.Seq.{set-get_or}
use Rattle.atomic_table.specs.Table.{State, Act, keeps, takes, gives, chain, step, stepped, Valid, homes_after, carried_after}
use Rattle.atomic_table.proofs.Lists.{set_here, set_else, set_again}
use Rattle.exchange_arena.specs.Piece.{PieceState}
use Rattle.turnstile.specs.declared.views.Worker.{Worker}
use Rattle.turnstile.specs.declared.views.View.{View}
use Rattle.turnstile.specs.Blocks.{TwoBlocks}
use Rattle.turnstile.specs.Turns.{message, slot, saw, phase, Homes, Carried, seated, looked, finished, looks_at}
use Rattle.turnstile.specs.Loads.{loaded, homes_with}
use Rattle.turnstile.specs.Interleavings.{Core, changed, piece_in, seen_by, if_new, IsElsewhere, AreOut, core_of, FinishesAreTheTables}
use Rattle.turnstile.specs.Interleavings.{LooksAreTheTables}
use Rattle.turnstile.proofs.Gives.{letters_of}

abbrev A : Type 0
A = Act (Option PieceState)

-- a slot that a seat carries is one of the table
out_below : (hs : Homes) (k : ℕ) → get_elem? hs k ≡ some none → k < length hs
out_below [] k e = absurd (let g : ◌≡◌ none (some none) = e in cc)
out_below (x ∷ xs) zero e = omega arith
out_below (x ∷ xs) (suc k) e = let h = out_below xs k e in omega (arith, h)

-- what isn't touched stays out
still_out : (hs : Homes) (k : ℕ) (x : maybe.Option (Option PieceState)) (c : Carried) → IsElsewhere k c → AreOut hs c →
    AreOut (set hs k x) c
still_out hs k x [] apart out = tt
still_out hs k x (y ∷ ys) apart out = (set_else hs k y.0 x (λ e. apart.0 (sym e)) ∙ out.0, out.1, still_out hs k x ys apart.1 out.2)

-- a slot at home isn't carried
home_is_elsewhere : (hs : Homes) (k : ℕ) (y : Option PieceState) (c : Carried) → get_elem? hs k ≡ some (some y) → AreOut hs c →
    IsElsewhere k c
home_is_elsewhere hs k y [] e out = tt
home_is_elsewhere hs k y (x ∷ xs) e out =
    ((λ same. let f = sym e ∙ ap (get_elem? hs) same ∙ out.0 in cc), home_is_elsewhere hs k y xs e out.2)

acts_leave_out : (hs : Homes) (c : Carried) (a : A) → AreOut hs c → Valid hs c a → AreOut (homes_after hs c a) (carried_after c a)
acts_leave_out hs c keeps out valid = out
acts_leave_out hs c (takes k y) out valid =
    let apart = home_is_elsewhere hs k y c valid out in
    (set_here hs k none (home_below hs k y valid), apart, still_out hs k none c apart out)
  where
    home_below : (hs : Homes) (k : ℕ) (y : Option PieceState) → get_elem? hs k ≡ some (some y) → k < length hs
    home_below [] k y e = absurd (let g : ◌≡◌ {A = maybe.Option (maybe.Option (Option PieceState))} none (some (some y)) = e in cc)
    home_below (x ∷ xs) zero y e = omega arith
    home_below (x ∷ xs) (suc k) y e = let h = home_below xs k y e in omega (arith, h)
acts_leave_out hs [] gives out valid = tt
acts_leave_out hs (x ∷ xs) gives out valid = still_out hs x.0 (some x.1) xs out.1 out.2
acts_leave_out hs c (chain a b) out valid =
    acts_leave_out (homes_after hs c a) (carried_after c a) b (acts_leave_out hs c a out valid.0) valid.1

-- with all that is carried put back, the table is the same before and after an act
all_back : (hs : Homes) (c : Carried) (a : A) → Valid hs c a → homes_with (homes_after hs c a) (carried_after c a) ≡ homes_with hs c
all_back hs c keeps valid = refl
all_back hs c (takes k y) valid = ap (λ (z : Homes). homes_with z c) (set-set hs k none (some y) ∙ set_again hs k (some y) valid)
all_back hs [] gives valid = refl
all_back hs (x ∷ xs) gives valid = refl
all_back hs c (chain a b) valid = all_back (homes_after hs c a) (carried_after c a) b valid.1 ∙ all_back hs c a valid.0

-- the table without what is carried
abbrev without : Homes → Carried → Homes
without hs [] = hs
without hs (x ∷ xs) = set (without hs xs) x.0 none

taken_out : (hs : Homes) (c : Carried) → AreOut hs c → without (homes_with hs c) c ≡ hs
taken_out hs [] out = refl
taken_out hs (x ∷ xs) out =
    ap (λ (z : Homes). set z x.0 none) (taken_out (set hs x.0 (some x.1)) xs (still_out hs x.0 (some x.1) xs out.1 out.2))
    ∙ set-set hs x.0 (some x.1) none ∙ set_again hs x.0 none out.0

-- so what is at home after an act is told by what is carried then
homes_are : (hs : Homes) (c : Carried) (a : A) → AreOut hs c → Valid hs c a → homes_after hs c a ≡ without (homes_with hs c)
    (carried_after c a)
homes_are hs c a out valid =
    sym (taken_out (homes_after hs c a) (carried_after c a) (acts_leave_out hs c a out valid))
    ∙ ap (λ (z : Homes). without z (carried_after c a)) (all_back hs c a valid)

-- a slot that isn't carried has what it had
back_elsewhere : (hs : Homes) (k : ℕ) (c : Carried) → IsElsewhere k c → get_elem? (homes_with hs c) k ≡ get_elem? hs k
back_elsewhere hs k [] apart = refl
back_elsewhere hs k (x ∷ xs) apart = back_elsewhere (set hs x.0 (some x.1)) k xs apart.1 ∙ set_else hs x.0 k (some x.1) apart.0

-- what an act took first was at home
was_home : (hs : Homes) (c : Carried) (a : A) (k k' : ℕ) (y y' : Option PieceState) → AreOut hs c → Valid hs c a →
    carried_after c a ≡ (k', y') ∷ (k, y) ∷ c →
    get_elem? hs k ≡ some (some y)
was_home hs c a k k' y y' out valid e =
    let now : Homes = homes_after hs c a in
    let gone : AreOut now ((k', y') ∷ (k, y) ∷ c) = subst (AreOut now) e (acts_leave_out hs c a out valid) in
    let whole : homes_with now ((k', y') ∷ (k, y) ∷ c) ≡ homes_with hs c = ap (homes_with now) (sym e) ∙ all_back hs c a valid in
    let here : Homes = set now k' (some y') in
    let below : k < length here = rw (length-set now k' (some y')) (out_below now k gone.2.0) in
    sym (back_elsewhere hs k c gone.2.1) ∙ ap (λ (z : Homes). get_elem? z k) (sym whole)
    ∙ back_elsewhere (set here k (some y)) k c gone.2.1 ∙ set_here here k (some y) below

-- ---- the table's steps

same_worker : (team : ℕ → Worker) (w : ℕ) (x : Worker) → x ≡ team w → changed team w x ≡ team
same_worker team w x e = λ q j. at j q
  where
    at : (j : ℕ) → changed team w x j ≡ team j
    at j = dite (ℕ_discrete j w)
        (λ same. let b = eq-eqb j w same in (rw b (e ∙ ap team (sym same))))
        (λ other. let b = ne_eqb j w other in (rw b refl))

pub finishes_are_the_tables : FinishesAreTheTables
finishes_are_the_tables b s team slots w id row back v a long out valid leaves =
    let carried : Carried = loaded b.side w (phase (team w) + 1) 0 row back in
    let x : Worker = finished (team w) (map message row) in
    let seen : v ≡ seated x = ap (λ m. m.0) leaves
    ∙ ap (λ ms. seated (finished (team w) ms)) (letters_of b.side w (phase (team w) + 1) 0 row back long) in
    let home : homes_after s.homes carried a ≡ homes_with s.homes carried = homes_are s.homes carried a out valid
    ∙ ap (without (homes_with s.homes carried)) (ap (λ m. m.1) leaves) in
    λ q. record {
      words = set s.words w (get_or s.words w 0 + 1);
      homes = home q;
      team = changed team w (seen q).mine;
    }

module _ (b : TwoBlocks) (s : State (Option PieceState) View) (team : ℕ → Worker) (slots w i id : ℕ) (carried : Carried) (v : View) (a : A)
    (at : (team w).at ≡ w) (of : (team w).workers ≡ b.side) (new : saw (team w) i ≡ false) (out : AreOut s.homes carried)
    (valid : Valid s.homes carried a)
    (looks : looks_at (step slots i 0 0 none) (seated (team w), carried) (get_or s.words i 0) (v, carried_after carried a)) where
  abbrev x : Worker
  x = team w

  abbrev c : Core
  c = core_of s team

  abbrev later : Core
  later = core_of (stepped s i (get_or s.words i 0) id carried v a) (changed team w v.mine)

  -- it found nothing
  found_none : get_or s.words i 0 < phase x → later ≡ c
  found_none early =
      let same = looks.0 early in
      let home : homes_after s.homes carried a ≡ s.homes = homes_are s.homes carried a out valid
      ∙ ap (without (homes_with s.homes carried)) (ap (λ m. m.1) same) ∙ taken_out s.homes carried out in
      let members : changed team w v.mine ≡ team = same_worker team w v.mine (ap (λ m. m.0.mine) same) in
      λ q. record { words = set-get_or s.words i 0 q; homes = home q; team = members q }

  -- it found a parcel
  found_one : phase x ≤ get_or s.words i 0 → later ≡ seen_by b c w i
  found_one ready =
      let got = looks.1 ready in
      let first : slot x.workers (phase x) i x.at ≡ slot b.side (phase x) i w = λ q. slot (of q) (phase x) i (at q) in
      let second : slot x.workers (phase x + 1) x.at i ≡ slot b.side (phase x + 1) w i = λ q. slot (of q) (phase x + 1) (at q) i in
      let left : carried_after carried a ≡ (slot b.side (phase x + 1) w i, Some got.1) ∷ (slot b.side (phase x) i w, Some got.0) ∷ carried =
      ap (λ m. m.1) got.2 ∙ (λ q. (second q, Some got.1) ∷ (first q, Some got.0) ∷ carried) in
      let was = was_home s.homes carried a (slot b.side (phase x) i w) (slot b.side (phase x + 1) w i) (Some got.0) (Some got.1) out valid
      left in
      let home : homes_after s.homes carried a ≡ set (set s.homes (slot b.side (phase x) i w) none) (slot b.side (phase x + 1) w i) none =
      homes_are s.homes carried a out valid ∙ ap (without (homes_with s.homes carried)) left
      ∙ ap (λ (z : Homes). set (set z (slot b.side (phase x) i w) none) (slot b.side (phase x + 1) w i) none)
      (taken_out s.homes carried out) in
      let member : v.mine ≡ looked x i (piece_in (get_elem? s.homes (slot b.side (phase x) i w))) =
      ap (λ m. m.0.mine) got.2 ∙ ap (looked x i) (ap piece_in (sym was)) in
      λ q. record { words = set-get_or s.words i 0 q; homes = home q; team = changed team w (member q) }

  by_word : (r : Bool) → nat_le (phase x) (get_or s.words i 0) ≡ r → later ≡ if_new b r (saw x i) (seen_by b c w i) c
  by_word true e = subst (λ (z : Bool). later ≡ if_new b true z (seen_by b c w i) c) (sym new)
      (found_one (leb-true (phase x) (get_or s.words i 0) e))
  by_word false e = found_none (leb-false (phase x) (get_or s.words i 0) e)

pub looks_are_the_tables : LooksAreTheTables
looks_are_the_tables b s team slots w i id carried v a at of new out valid looks =
    by_word b s team slots w i id carried v a at of new out valid looks (nat_le (phase (team w)) (get_or s.words i 0)) refl
