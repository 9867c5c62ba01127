-- The text of the locals at a fault, one by one.
use Rattle.std.proofs.Common.{◌≡◌, ◌∙◌, ◌<◌, ◌≤◌, ◌+◌, ◌-◌, ◌++◌, ◌∷◌, ◌&&◌, [], Bool, true, false, List, ℕ, zero, suc, ℤ}
use Rattle.std.proofs.Common.{ap, append_assoc, arith, drop, get_or, if◌then◌else◌, length, map, nat_lt, refl, subst, sym, take}
use Rattle.std.proofs.lemmas.Bool.{ltb-false, ltb-true}
use Rattle.std.proofs.lemmas.List.{drop_all, drop_more}
use Rattle.std.specs.List.{filter}
use Rattle.pram_trees.specs.Program.{ProgramTree}
use Rattle.text_out.specs.Out.{OutState, with_bytes}
use Rattle.text_out.proofs.Progress.{Progress, goes_on}
use Rattle.journal.specs.Entries.{OwnLocals, own_is}
use Rattle.journal.specs.declared.own_locals as rust
use Rattle.step_text.specs.BesideCells.{more_text, most_locals}
use Rattle.step_text.specs.OwnLocals.{is_owner, local_text, owner_text, owners_text, values_text}

-- ---- the locals of a processor

-- the local at i, and those behind it
pub values_at : (tree : ProgramTree) (at : ℕ) (vs : List ℤ) (i number : ℕ) (v : ℤ) → i < length vs → v ≡ get_or vs i v →
    values_text tree at number (drop i vs) ≡ local_text tree at number v ++ values_text tree at (number + 1) (drop (i + 1) vs)
values_at tree at vs i number v below is =
    ap (values_text tree at number) (drop_more vs i v below)
    ∙ ap (λ v. local_text tree at number v ++ values_text tree at (number + 1) (drop (i + 1) vs)) (sym is)

-- locals on their way: what was written, and the number of the next
pub record InValues (old new : OutState) (all : List ℕ) (tree : ProgramTree) (at : ℕ) (vs : List ℤ) (i number : ℕ) : Type 0 where
  pub progress : Progress old new all (values_text tree at number (drop i vs))
  pub counted : number ≡ i

pub value_written : (old now new : OutState) (all : List ℕ) (tree : ProgramTree) (at : ℕ) (vs : List ℤ) (i number : ℕ) (v : ℤ) →
    InValues old now all tree at vs i number → i < length vs → v ≡ get_or vs i v → new ≡ with_bytes now (local_text tree at number v) →
    InValues old new all tree at vs (i + 1) (number + 1)
value_written old now new all tree at vs i number v l below is w = record {
  progress = goes_on _ _ _ _ _ _ _ l.progress (values_at tree at vs i number v below is) w;
  counted = let c : number ≡ i = l.counted in omega (arith, c);
}

-- ---- processors

-- the text of a processor behind so many others that have locals
abbrev pub if_first : ProgramTree → (at count : ℕ) → OwnLocals → List ℕ
if_first tree at count l = if nat_lt count most_locals && is_owner l then owner_text tree at l else []

-- how many have locals, with this one
abbrev pub with_owner : (count : ℕ) → OwnLocals → ℕ
with_owner count l = if is_owner l then count + 1 else count

-- what is told of some behind so many others that have locals
abbrev pub left_text : ProgramTree → (at count : ℕ) → List OwnLocals → List ℕ
left_text tree at count ls =
    owners_text tree at (take (most_locals - count) (filter is_owner ls)) ++ more_text (count + length (filter is_owner ls))

pub one_left : (tree : ProgramTree) (at count : ℕ) (l : OwnLocals) (ls : List OwnLocals) →
    left_text tree at count (l ∷ ls) ≡ if_first tree at count l ++ left_text tree at (with_owner count l) ls
one_left tree at count l ls = by (is_owner l) (nat_lt count most_locals) refl (filter is_owner ls)
  where
    by : (own first : Bool) → nat_lt count most_locals ≡ first → (rest : List OwnLocals) →
        owners_text tree at (take (most_locals - count) (if own then l ∷ rest else rest))
        ++ more_text (count + length (if own then l ∷ rest else rest))
        ≡ (if first && own then owner_text tree at l else [])
        ++ (owners_text tree at (take (most_locals - (if own then count + 1 else count)) rest)
        ++ more_text ((if own then count + 1 else count) + length rest))
    by false false h rest = refl
    by false true h rest = refl
    by true true h rest =
        let below : count < 8 = ltb-true count 8 h in
        let more : 8 - count ≡ suc (8 - (count + 1)) = omega (arith, below) in
        let all : count + suc (length rest) ≡ (count + 1) + length rest = omega arith in
        ap (λ n. owners_text tree at (take n (l ∷ rest)) ++ more_text (count + suc (length rest))) more
        ∙ ap (λ n. owners_text tree at (l ∷ take (8 - (count + 1)) rest) ++ more_text n) all
        ∙ append_assoc (owner_text tree at l) (owners_text tree at (take (8 - (count + 1)) rest)) (more_text ((count + 1) + length rest))
    by true false h rest =
        let above : 8 ≤ count = ltb-false count 8 h in
        let none : 8 - count ≡ 0 = omega (arith, above) in
        let none_then : 0 ≡ 8 - (count + 1) = omega (arith, above) in
        let all : count + suc (length rest) ≡ (count + 1) + length rest = omega arith in
        ap (λ n. owners_text tree at (take n (l ∷ rest)) ++ more_text (count + suc (length rest))) none
        ∙ ap (λ n. more_text n) all
        ∙ ap (λ n. owners_text tree at (take n rest) ++ more_text ((count + 1) + length rest)) none_then

-- behind all of them it is how many more there are
pub none_left : (tree : ProgramTree) (at count : ℕ) → left_text tree at count [] ≡ more_text count
none_left tree at count = by (8 - count) ∙ ap more_text (omega arith)
  where
    by : (n : ℕ) → owners_text tree at (take n []) ++ more_text (count + 0) ≡ more_text (count + 0)
    by zero = refl
    by (suc n) = refl

-- the processor at i, and those behind it
pub owners_at : (tree : ProgramTree) (at : ℕ) (ls : List rust.OwnLocals.OwnLocals) (i count : ℕ) (l : rust.OwnLocals.OwnLocals) →
    i < length ls → l ≡ get_or ls i l → left_text tree at count (map own_is (drop i ls))
    ≡ if_first tree at count (own_is l) ++ left_text tree at (with_owner count (own_is l)) (map own_is (drop (i + 1) ls))
owners_at tree at ls i count l below is =
    ap (λ ls. left_text tree at count (map own_is ls)) (drop_more ls i l below)
    ∙ ap (λ l. left_text tree at count (own_is l ∷ map own_is (drop (i + 1) ls))) (sym is)
    ∙ one_left tree at count (own_is l) (map own_is (drop (i + 1) ls))

-- processors on their way: what was written, and how many have locals
pub record InOwners (old new : OutState) (all : List ℕ) (tree : ProgramTree) (at : ℕ) (ls : List rust.OwnLocals.OwnLocals)
    (i count : ℕ) :
    Type 0 where
  pub progress : Progress old new all (left_text tree at count (map own_is (drop i ls)))
  pub counted : count ≤ i

-- behind the last
pub owners_end : (old new : OutState) (all : List ℕ) (tree : ProgramTree) (at : ℕ) (ls : List rust.OwnLocals.OwnLocals) (i count : ℕ) →
    InOwners old new all tree at ls i count → length ls ≤ i → Progress old new all (more_text count)
owners_end old new all tree at ls i count o over =
    let none : left_text tree at count (map own_is (drop i ls)) ≡ more_text count =
    ap (λ ls. left_text tree at count (map own_is ls)) (drop_all i ls over) ∙ none_left tree at count in
    subst (Progress old new all) none o.progress

pub owner_written : (old now new : OutState) (all : List ℕ) (tree : ProgramTree) (at : ℕ) (ls : List rust.OwnLocals.OwnLocals)
    (i count after : ℕ) (l : rust.OwnLocals.OwnLocals) → InOwners old now all tree at ls i count → i < length ls → l ≡ get_or ls i l →
    new ≡ with_bytes now (if_first tree at count (own_is l)) → after ≡ with_owner count (own_is l) →
    InOwners old new all tree at ls (i + 1) after
owner_written old now new all tree at ls i count after l o below is w with_it =
    subst (InOwners old new all tree at ls (i + 1)) (sym with_it) (record {
      progress = goes_on _ _ _ _ _ _ _ o.progress (owners_at tree at ls i count l below is) w;
      counted = at_most (is_owner (own_is l)) o.counted;
    })
  where
    at_most : (own : Bool) → count ≤ i → (if own then count + 1 else count) ≤ i + 1
    at_most true h = omega (arith, h)
    at_most false h = omega (arith, h)
