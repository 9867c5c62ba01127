-- All accesses, cell by cell.
use Rattle.std.proofs.Common.{◌≡◌, ℕ, ℤ, pos, zero, suc, ◌+◌, ◌<◌, ◌≤◌, List, [], ◌∷◌, ◌++◌, map, drop, length, get_or, append_assoc}
use Rattle.std.proofs.Common.{append-nil, nat_eq, if◌then◌else◌, refl, ap, sym, ◌∙◌, Ok, Result, arith}
use Rattle.std.proofs.lemmas.List.{drop_more, drop_all}
use Rattle.pram_meaning.specs.declared.access.Access.{Access}
use Rattle.pram_meaning.specs.declared.access.Judged.{Judged}
use Rattle.pram_meaning.specs.declared.slate as rust
use Rattle.pram_model.specs.declared.rule.Rule.{Rule}
use Rattle.pram_values.specs.declared.kind.Kind.{Kind}
use Rattle.write_rules.specs.Rule.{written}
use Rattle.pram_meaning.specs.Accesses.{judged, judged_in, write_for, writes_for}
use Rattle.pram_meaning.specs.Slates.{Group, group_is, groups_of, kept, kept_in, no_writes, writes_in, IsGathered, IsMore, IsPlace}
use Rattle.pram_meaning.proofs.Groups.{map_length, past, same_number}

-- ---- the writes

pub record InGather (all : List Access) (i : ℕ) (s : rust.Slate.Slate) : Type 0 where
  pub each : (c : ℕ) → writes_for c all ≡ kept s c ++ writes_for c (drop i all)

nothing : (places : List ℕ) (c : ℕ) → kept_in places [] c ≡ []
nothing places c = ap (λ b. if b then [] else []) (same_number c)

pub new_slate : (s : rust.Slate.Slate) → s.groups.items ≡ [] → IsGathered [] s
new_slate s e = record { each = λ c. ap (λ gs. kept_in s.places.items (map group_is gs) c) e ∙ nothing s.places.items c }

pub gather_starts : (all : List Access) (s : rust.Slate.Slate) → s.groups.items ≡ [] → InGather all 0 s
gather_starts all s e = record {
  each =
      λ c. ap (λ ws. ws ++ writes_for c all) (sym (ap (λ gs. kept_in s.places.items (map group_is gs) c) e ∙ nothing s.places.items c));
}

pub gather_goes : (all : List Access) (i : ℕ) (a : Access) (s t : rust.Slate.Slate) → InGather all i s → i < length all →
    a ≡ get_or all i a → IsMore a.cell a.write s t → InGather all (i + 1) t
gather_goes all i a s t b h is m = record {
  each = λ c.
      b.each c
      ∙ ap (λ bs. kept s c ++ writes_for c bs) (drop_more all i a h ∙ ap (λ y. y ∷ drop (i + 1) all) (sym is))
      ∙ sym (append_assoc (kept s c) (write_for c a) (writes_for c (drop (i + 1) all)))
      ∙ ap (λ k. k ++ writes_for c (drop (i + 1) all)) (sym (m.more c));
}

pub gather_ends : (all : List Access) (i : ℕ) (s : rust.Slate.Slate) → InGather all i s → length all ≤ i → IsGathered all s
gather_ends all i s b h = record {
  each = λ c. sym (b.each c ∙ ap (λ bs. kept s c ++ writes_for c bs) (drop_all i all h)
      ∙ append-nil (kept s c));
}

-- ---- what the rule says to each group

abbrev said_to : Rule → Group → Result ℤ Kind
said_to rule g = written rule (pos 0) g.writes

pub record InSettle (rule : Rule) (groups : List rust.Group.Group) (i : ℕ) (now : List (Result ℤ Kind)) : Type 0 where
  pub same : map (said_to rule) (map group_is groups) ≡ now ++ map (said_to rule) (map group_is (drop i groups))

pub settle_starts : (rule : Rule) (groups : List rust.Group.Group) (now : List (Result ℤ Kind)) → now ≡ [] → InSettle rule groups 0 now
settle_starts rule groups now e = record { same = rw e refl }

pub settle_goes : (rule : Rule) (groups : List rust.Group.Group) (i : ℕ) (g : rust.Group.Group) (now new : List (Result ℤ Kind))
    (v : Result ℤ Kind) → InSettle rule groups i now → i < length groups → g ≡ get_or groups i g → v ≡ written rule (pos 0) g.writes.items →
    new ≡ now ++ v ∷ [] → InSettle rule groups (i + 1) new
settle_goes rule groups i g now new v b h is said e = record {
  same = b.same
      ∙ ap (λ gs. now ++ map (said_to rule) (map group_is gs)) (drop_more groups i g h ∙ ap (λ y. y ∷ drop (i + 1) groups) (sym is))
      ∙ ap (λ v. now ++ (v ∷ map (said_to rule) (map group_is (drop (i + 1) groups)))) (sym said)
      ∙ sym (append_assoc now (v ∷ []) (map (said_to rule) (map group_is (drop (i + 1) groups))))
      ∙ ap (λ k. k ++ map (said_to rule) (map group_is (drop (i + 1) groups))) (sym e);
}

pub settle_ends : (rule : Rule) (groups : List rust.Group.Group) (i : ℕ) (now : List (Result ℤ Kind)) → InSettle rule groups i now →
    length groups ≤ i → now ≡ map (said_to rule) (map group_is groups)
settle_ends rule groups i now b h = sym (b.same ∙ ap (λ gs. now ++ map (said_to rule) (map group_is gs)) (drop_all i groups h)
    ∙ append-nil now)

-- ---- what it says to a cell

said_at : (rule : Rule) (groups : List Group) (p : ℕ) (d : Group) (v : Result ℤ Kind) → p < length groups →
    get_or (map (said_to rule) groups) p v ≡ said_to rule (get_or groups p d)
said_at rule [] p d v h = absurd (omega arith)
said_at rule (g ∷ groups) zero d v h = refl
said_at rule (g ∷ groups) (suc p) d v h = said_at rule groups p d v (omega arith)

kept_at : (s : rust.Slate.Slate) (c place : ℕ) → IsPlace s c place → kept s c ≡ (get_or (groups_of s) place (no_writes c)).writes
kept_at s c place is =
    let g : Group = get_or (groups_of s) place (no_writes c) in
    ap (λ p. writes_in c (get_or (groups_of s) p (no_writes c))) (ap (get_or s.places.items c) (map_length s.groups.items) ∙ is.named)
    ∙ ap (λ n. if nat_eq c n then g.writes else []) is.own
    ∙ ap (λ b. if b then g.writes else []) (same_number c)

pub verdict_there : (s : rust.Slate.Slate) (c place : ℕ) (verdicts : List (Result ℤ Kind)) (v : Result ℤ Kind) → IsPlace s c place →
    v ≡ get_or verdicts place v → (rule : Rule) → verdicts ≡ map (λ (g : Group). written rule (pos 0) g.writes) (groups_of s) →
    v ≡ written rule (pos 0) (kept s c)
verdict_there s c place verdicts v is at rule all =
    let long = map_length s.groups.items in let inside = is.inside in
    at ∙ ap (λ vs. get_or vs place v) all ∙ said_at rule (groups_of s) place (no_writes c) v (omega (arith, long, inside))
    ∙ ap (written rule (pos 0)) (sym (kept_at s c place is))

map_long : {X Y : Type 0} (f : X → Y) (xs : List X) → length (map f xs) ≡ length xs
map_long f [] = refl
map_long f (x ∷ xs) = ap suc (map_long f xs)

pub verdict_past : (s : rust.Slate.Slate) (c place : ℕ) (verdicts : List (Result ℤ Kind)) → IsPlace s c place → length verdicts ≤ place →
    (rule : Rule) → verdicts ≡ map (λ (g : Group). written rule (pos 0) g.writes) (groups_of s) → ◌≡◌ {A = Result ℤ Kind} (Ok (pos 0))
    (written rule (pos 0) (kept s c))
verdict_past s c place verdicts is past rule all =
    let inside = is.inside in
    let long : length verdicts ≡ length s.groups.items = ap length all
    ∙ map_long (λ (g : Group). written rule (pos 0) g.writes) (groups_of s) ∙ map_length s.groups.items in
    absurd (omega (arith, long, inside, past))

pub verdict_none : (s : rust.Slate.Slate) (c : ℕ) (verdicts : List (Result ℤ Kind)) → kept s c ≡ [] → (rule : Rule) →
    verdicts ≡ map (λ (g : Group). written rule (pos 0) g.writes) (groups_of s) → ◌≡◌ {A = Result ℤ Kind} (Ok (pos 0))
    (written rule (pos 0) (kept s c))
verdict_none s c verdicts none rule all = sym (ap (written rule (pos 0)) none)

-- ---- what it says to each access

pub record InJudge (rule : Rule) (all : List Access) (i : ℕ) (now : List Judged) : Type 0 where
  pub same : judged rule all ≡ now ++ map (judged_in rule all) (drop i all)

pub judge_starts : (rule : Rule) (all : List Access) (now : List Judged) → now ≡ [] → InJudge rule all 0 now
judge_starts rule all now e = record { same = rw e refl }

pub judge_goes : (rule : Rule) (all : List Access) (s : rust.Slate.Slate) (verdicts : List (Result ℤ Kind)) (i : ℕ) (a : Access)
    (now new : List Judged) (v : Result ℤ Kind) → InJudge rule all i now → IsGathered all s →
    verdicts ≡ map (λ (g : Group). written rule (pos 0) g.writes) (groups_of s) → i < length all → a ≡ get_or all i a →
    ((rule : Rule) → verdicts ≡ map (λ (g : Group). written rule (pos 0) g.writes) (groups_of s) → v ≡ written rule (pos 0)
    (kept s a.cell)) → new ≡ now ++ record { access = a; verdict = v } ∷ [] → InJudge rule all (i + 1) new
judge_goes rule all s verdicts i a now new v b gathered settled h is tells e =
    let said : v ≡ written rule (pos 0) (writes_for a.cell all) = tells rule settled ∙ ap (written rule (pos 0)) (gathered.each a.cell) in
    record {
      same = b.same
          ∙ ap (λ bs. now ++ map (judged_in rule all) bs) (drop_more all i a h ∙ ap (λ y. y ∷ drop (i + 1) all) (sym is))
          ∙ ap (λ v. now ++ (record { access = a; verdict = v } ∷ map (judged_in rule all) (drop (i + 1) all))) (sym said)
          ∙ sym (append_assoc now (record { access = a; verdict = v } ∷ []) (map (judged_in rule all) (drop (i + 1) all)))
          ∙ ap (λ k. k ++ map (judged_in rule all) (drop (i + 1) all)) (sym e);
    }

pub judge_ends : (rule : Rule) (all : List Access) (i : ℕ) (now : List Judged) → InJudge rule all i now → length all ≤ i →
    now ≡ judged rule all
judge_ends rule all i now b h = sym (b.same ∙ ap (λ bs. now ++ map (judged_in rule all) bs) (drop_all i all h) ∙ append-nil now)
