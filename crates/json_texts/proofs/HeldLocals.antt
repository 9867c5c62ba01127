-- What locals hold, one by one.
use Rattle.std.proofs.Common.{◌≡◌, ◌∙◌, ℕ, ℤ, ◌+◌, ◌<◌, ◌≤◌, List, [], ◌∷◌, ◌++◌, map, drop, length, get_or, append_assoc, append-nil, refl}
use Rattle.std.proofs.Common.{ap, sym}
use Rattle.std.proofs.lemmas.List.{drop_more, drop_all}
use Rattle.std.specs.List.{flat_map}
use Rattle.serde_json.specs.Data.{Data}
use Rattle.pram_trees.specs.Program.{ProgramTree}
use Rattle.help.specs.Locals.{local_name}
use Rattle.journal.specs.declared.own_locals as rust
use Rattle.journal.specs.Entries.{own_is}
use Rattle.json_texts.specs.StepFacts.{held_facts, held_from, own_facts}

-- ---- those of one processor

pub record InHeld (tree : ProgramTree) (at : ℕ) (i : ℤ) (values : List ℤ) (k number : ℕ) (old now : List Data) : Type 0 where
  pub counted : number ≡ k
  pub same : old ++ held_from tree at i 0 values ≡ now ++ held_from tree at i number (drop k values)

pub held_start : (tree : ProgramTree) (at : ℕ) (i : ℤ) (values : List ℤ) (old : List Data) → InHeld tree at i values 0 0 old old
held_start tree at i values old = record { counted = refl; same = refl }

map_push : {X : Type 0} (f : X → Data) (xs : List X) (x : X) → map f (xs ++ x ∷ []) ≡ map f xs ++ f x ∷ []
map_push f [] x = refl
map_push f (y ∷ xs) x = ap (λ r. f y ∷ r) (map_push f xs x)

pub held_go : {X : Type 0} (f : X → Data) (tree : ProgramTree) (at : ℕ) (i : ℤ) (values : List ℤ) (k number : ℕ) (v : ℤ) (x : X)
    (name : List ℕ) (old : List Data) (now new : List X) → InHeld tree at i values k number old (map f now) → k < length values →
    v ≡ get_or values k v → name ≡ local_name tree at number → f x ≡ held_facts i name v → new ≡ now ++ x ∷ [] →
    InHeld tree at i values (k + 1) (number + 1) old (map f new)
held_go f tree at i values k number v x name old now new b h is named fact e =
    let rest : List Data = held_from tree at i (number + 1) (drop (k + 1) values) in record {
      counted = ap (λ n. n + 1) b.counted;
      same = b.same
          ∙ ap (λ vs. map f now ++ held_from tree at i number vs) (drop_more values k v h ∙ ap (λ y. y ∷ drop (k + 1) values) (sym is))
          ∙ ap (λ n. map f now ++ (held_facts i n v ∷ rest)) (sym named)
          ∙ ap (λ d. map f now ++ (d ∷ rest)) (sym fact)
          ∙ sym (append_assoc (map f now) (f x ∷ []) rest)
          ∙ ap (λ l. l ++ rest) (sym (map_push f now x) ∙ ap (map f) (sym e));
    }

pub held_end : (tree : ProgramTree) (at : ℕ) (l : rust.OwnLocals.OwnLocals) (k number : ℕ) (old now : List Data) →
    InHeld tree at l.processor l.values.items k number old now → length l.values.items ≤ k →
    now ≡ old ++ own_facts tree at (own_is l)
held_end tree at l k number old now b h =
    sym (b.same ∙ ap (λ vs. now ++ held_from tree at l.processor number vs) (drop_all k l.values.items h) ∙ append-nil now)

-- ---- those of all

pub record InOwn (tree : ProgramTree) (at : ℕ) (ls : List rust.OwnLocals.OwnLocals) (k : ℕ) (now : List Data) : Type 0 where
  pub same : flat_map (own_facts tree at) (map own_is ls) ≡ now ++ flat_map (own_facts tree at) (map own_is (drop k ls))

pub own_start : (tree : ProgramTree) (at : ℕ) (ls : List rust.OwnLocals.OwnLocals) (now : List Data) → now ≡ [] → InOwn tree at ls 0 now
own_start tree at ls now e = record { same = rw e refl }

pub own_go : (tree : ProgramTree) (at : ℕ) (ls : List rust.OwnLocals.OwnLocals) (k : ℕ) (l : rust.OwnLocals.OwnLocals)
    (now new : List Data) →
    InOwn tree at ls k now → k < length ls → l ≡ get_or ls k l → new ≡ now ++ own_facts tree at (own_is l) → InOwn tree at ls (k + 1) new
own_go tree at ls k l now new b h is e =
    let rest : List Data = flat_map (own_facts tree at) (map own_is (drop (k + 1) ls)) in record {
      same = b.same
          ∙ ap (λ ls. now ++ flat_map (own_facts tree at) (map own_is ls)) (drop_more ls k l h ∙ ap (λ y. y ∷ drop (k + 1) ls) (sym is))
          ∙ sym (append_assoc now (own_facts tree at (own_is l)) rest)
          ∙ ap (λ l. l ++ rest) (sym e);
    }

pub own_end : (tree : ProgramTree) (at : ℕ) (ls : List rust.OwnLocals.OwnLocals) (k : ℕ) (now : List Data) → InOwn tree at ls k now →
    length ls ≤ k → now ≡ flat_map (own_facts tree at) (map own_is ls)
own_end tree at ls k now b h =
    sym (b.same ∙ ap (λ ls. now ++ flat_map (own_facts tree at) (map own_is ls)) (drop_all k ls h) ∙ append-nil now)
