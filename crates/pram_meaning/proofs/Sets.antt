-- A set's attempts, on their way, and what they come to.
use Rattle.std.proofs.Common.{◌≡◌, ℕ, ◌+◌, ◌<◌, ◌≤◌, List, [], ◌∷◌, ◌++◌, map, drop, length, get_or, append_assoc, append-nil, refl, ap}
use Rattle.std.proofs.Common.{sym, ◌∙◌, Err, arith, ℤ, pos, zero, suc, set}
use Rattle.std.proofs.lemmas.List.{drop_more, drop_all}
use Rattle.pram_meaning.specs.declared.run.Halt.TheVariants as halt
use Rattle.pram_meaning.specs.declared.part as part
use Rattle.pram_meaning.specs.declared.team as team_member
use Rattle.pram_check.specs.Checked.{Checked}
use Rattle.pram_meaning.specs.Attempt.{Attempt, Effect}
use Rattle.pram_meaning.specs.Bounded.{attempted_on, counted, then_do, valued}
use Rattle.pram_meaning.specs.Judging.{part_is}
use Rattle.pram_meaning.specs.Runs.{IsBehaviour}
use Rattle.pram_meaning.specs.Sets.{IsParts, member_is}
use Rattle.pram_meaning.specs.Store.{Member, State, View, with_local}
use Rattle.pram_meaning.specs.Together.{part_of, parts, together, value_in, with_locals}
use Rattle.pram_meaning.specs.declared.run.Halt.{Halt}

pub record InParts (w : Checked) (m : State) (a : View → Attempt Effect) (vs : List ℕ) (i : ℕ) (now : List part.Part.Part) : Type 0 where
  pub same : parts w m a vs ≡ map part_is now ++ parts w m a (drop i vs)

pub parts_start : (w : Checked) (m : State) (a : View → Attempt Effect) (vs : List ℕ) (now : List part.Part.Part) → now ≡ [] →
    InParts w m a vs 0 now
parts_start w m a vs now e = record { same = rw e refl }

map_push : (now : List part.Part.Part) (x : part.Part.Part) → map part_is (now ++ x ∷ []) ≡ map part_is now ++ part_is x ∷ []
map_push [] x = refl
map_push (y ∷ now) x = ap (λ r. part_is y ∷ r) (map_push now x)

pub parts_go : (w : Checked) (m : State) (a : View → Attempt Effect) (vs : List ℕ) (i v : ℕ) (now new : List part.Part.Part)
    (x : part.Part.Part) → InParts w m a vs i now → i < length vs → v ≡ get_or vs i v → part_is x ≡ part_of w m a v → new ≡ now ++ x ∷ [] →
    InParts w m a vs (i + 1) new
parts_go w m a vs i v now new x b h is t e = record {
  same = b.same
      ∙ ap (λ us. map part_is now ++ parts w m a us) (drop_more vs i v h ∙ ap (λ y. y ∷ drop (i + 1) vs) (sym is))
      ∙ ap (λ y. map part_is now ++ (y ∷ parts w m a (drop (i + 1) vs))) (sym t)
      ∙ sym (append_assoc (map part_is now) (part_is x ∷ []) (parts w m a (drop (i + 1) vs)))
      ∙ ap (λ k. k ++ parts w m a (drop (i + 1) vs)) (sym (map_push now x))
      ∙ ap (λ k. map part_is k ++ parts w m a (drop (i + 1) vs)) (sym e);
}

pub parts_end : (w : Checked) (m : State) (a : View → Attempt Effect) (vs : List ℕ) (i : ℕ) (now : List part.Part.Part) →
    InParts w m a vs i now → length vs ≤ i → map part_is now ≡ parts w m a vs
parts_end w m a vs i now b h = sym (b.same ∙ ap (λ us. map part_is now ++ parts w m a us) (drop_all i vs h) ∙ append-nil (map part_is now))

-- ---- a statement of a set

pub set_halts : (w : Checked) (n line : ℕ) (a : View → Attempt Effect) (vs : List ℕ) (m new : State) (h : Halt) → IsBehaviour {A = Unit {0}}
    (Err h) new (counted n m) → IsParts (Err h) new (attempted_on w n line a vs m)
set_halts w n line a vs m new (halt.Fault k) e = ap (λ x. then_do x (λ u m. valued (together w line (parts w m a vs)) m)) e
set_halts w n line a vs m new halt.Bound e = ap (λ x. then_do x (λ u m. valued (together w line (parts w m a vs)) m)) e
set_halts w n line a vs m new halt.OutOfMemory e = tt

-- ---- what a statement leaves

map_set : (team : List team_member.Member.Member) (v : ℕ) (g : team_member.Member.Member) →
    map member_is (set team v g) ≡ set (map member_is team) v (member_is g)
map_set [] v g = refl
map_set (h ∷ team) zero g = refl
map_set (h ∷ team) (suc v) g = ap (λ r. member_is h ∷ r) (map_set team v g)

nobody : Member
nobody = record { index = pos 0; locals = [] }

map_at : (team : List team_member.Member.Member) (v : ℕ) (g : team_member.Member.Member) → v < length team → g ≡ get_or team v g →
    get_or (map member_is team) v (record { index = pos 0; locals = [] }) ≡ member_is g
map_at [] v g h e = absurd (omega arith)
map_at (x ∷ team) zero g h e = ap member_is (sym e)
map_at (x ∷ team) (suc v) g h e = map_at team v g (omega arith) e

set_past : {X : Type 0} (xs : List X) (v : ℕ) (x : X) → length xs ≤ v → set xs v x ≡ xs
set_past [] v x h = refl
set_past (y ∷ xs) zero x h = absurd (omega arith)
set_past (y ∷ xs) (suc v) x h = ap (λ r. y ∷ r) (set_past xs v x (omega arith))

map_length : (team : List team_member.Member.Member) → length (map member_is team) ≡ length team
map_length [] = refl
map_length (g ∷ team) = ap suc (map_length team)

pub local_is : (x v : ℕ) (z : ℤ) (team new : List team_member.Member.Member) (g h : team_member.Member.Member) → v < length team →
    g ≡ get_or team v g → new ≡ set team v h → h.index ≡ g.index → h.locals.items ≡ set g.locals.items x z →
    map member_is new ≡ with_local x v z (map member_is team)
local_is x v z team new g h lt is e i l =
    ap (map member_is) e ∙ map_set team v h
    ∙ ap (set (map member_is team) v) (λ j. record { index = i j; locals = l j })
    ∙ ap (λ (m : Member). set (map member_is team) v (record { index = m.index; locals = set m.locals x z })) (sym (map_at team v g lt is))

pub local_none : (x v : ℕ) (z : ℤ) (team : List team_member.Member.Member) → length team ≤ v →
    map member_is team ≡ with_local x v z (map member_is team)
local_none x v z team h =
    sym (set_past (map member_is team) v _ (let e = map_length team in omega arith))

pub record InLocals (x : ℕ) (xs : List part.Part.Part) (i : ℕ) (start now : List Member) : Type 0 where
  pub same : with_locals x (map part_is xs) start ≡ with_locals x (map part_is (drop i xs)) now

pub locals_start : (x : ℕ) (xs : List part.Part.Part) (start : List Member) → InLocals x xs 0 start start
locals_start x xs start = record { same = refl }

pub locals_go : (x : ℕ) (xs : List part.Part.Part) (i : ℕ) (y : part.Part.Part) (start now new : List Member) → InLocals x xs i start now →
    i < length xs → y ≡ get_or xs i y → new ≡ with_local x (part_is y).member (value_in (part_is y).attempt) now →
    InLocals x xs (i + 1) start new
locals_go x xs i y start now new b h is e = record {
  same = b.same
      ∙ ap (λ xs. with_locals x (map part_is xs) now) (drop_more xs i y h ∙ ap (λ y. y ∷ drop (i + 1) xs) (sym is))
      ∙ ap (with_locals x (map part_is (drop (i + 1) xs))) (sym e);
}

pub locals_end : (x : ℕ) (xs : List part.Part.Part) (i : ℕ) (start now : List Member) → InLocals x xs i start now → length xs ≤ i →
    now ≡ with_locals x (map part_is xs) start
locals_end x xs i start now b h = sym (b.same ∙ ap (λ xs. with_locals x (map part_is xs) now) (drop_all i xs h))
