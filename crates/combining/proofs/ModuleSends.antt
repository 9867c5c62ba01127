-- A merge and a search for shared reads are what the machine's module does.
use Rattle.std.proofs.Common.{◌≡◌, ℕ, ℤ, pos, zero, suc, ◌+◌, ◌<◌, ◌≤◌, List, [], ◌∷◌, length, map, get_or, Bool, true, false, Option, Some}
use Rattle.std.proofs.Common.{None, Ok, Err, refl, sym, ap, ◌∙◌, arith, ⊎_elim}
use Rattle.std.specs.Prelude.{if◌then◌else◌, ◌&&◌}
use Rattle.std.specs.List.{range_with_len, zip}
use Rattle.std.proofs.Math.Nat.{eq-or-lt_of_le}
use Rattle.std.proofs.lemmas.Bool.{cases_order, lt-ltb}
use Rattle.pram_values.specs.declared.kind.Kind.{Kind}
use Rattle.pram_values.specs.declared.kind.Kind.TheVariants.{ReadConflict}
use Rattle.pram_values.specs.Total.{total}
use Rattle.pram_values.specs.Value.{Value}
use Rattle.pram_values.proofs.Totals.{total_same}
use Rattle.address_map.specs.Lawful.{Shape, IsOf, IsLawful}
use Rattle.superstep_machine.specs.declared.key.Key.{Key}
use Rattle.superstep_machine.specs.Keys.{least}
use Rattle.superstep_machine.specs.Setting.{module_cells}
use Rattle.superstep_machine.specs.Parts.{Moment}
use Rattle.superstep_machine.specs.Sending.{entry_came, askers_came, verdict_on, settled, conflict_at, put_conflict, is_private, is_several}
use Rattle.superstep_machine.specs.WordReading.{entry_read, askers_read}
use Rattle.superstep_machine.specs.WordLaws.{messages_read}
use Rattle.superstep_machine.proofs.KeyOrder.{by_earlier_place, keys_are_monoid, least_again}
use Rattle.superstep_machine.proofs.ReadBack.{entries_of_words, askers_of_words}
use Rattle.combining.specs.Gathering.{value_at}
use Rattle.combining.specs.Merged.{refusal, shared}
use Rattle.combining.specs.ModuleLaws.{put_parts, ask_parts, key_of_conflict, key_of_shared, MergedCells, MergedConflict, SharedConflict}

-- ---- the values

-- values that are given offset by offset
values_are : (f : ℕ → ℤ → ℤ) (n k : ℕ) (old new : List ℤ) → length old ≡ n → length new ≡ n →
    ((o : ℕ) → o < n → get_or new o (pos 0) ≡ f (k + o) (get_or old o (pos 0)))
    → map (λ (x : ℕ × ℤ). f x.0 x.1) (zip (range_with_len k n) old) ≡ new
values_are f zero k [] [] e g h = refl
values_are f zero k (x ∷ old) new e g h = absurd (omega (arith, e))
values_are f zero k [] (y ∷ new) e g h = absurd (omega (arith, g))
values_are f (suc n) k [] new e g h = absurd (omega (arith, e))
values_are f (suc n) k (x ∷ old) [] e g h = absurd (omega (arith, g))
values_are f (suc n) k (x ∷ old) (y ∷ new) e g h =
    let here : f k x ≡ y = (let z : k + 0 ≡ k = omega arith in ap (λ o. f o x) (sym z) ∙ sym (h 0 (omega arith))) in
    let on = values_are f n (k + 1) old new (omega (arith, e)) (omega (arith, g)) (λ o l. let z : k + suc o ≡ k + 1 + o = omega arith in
    h (suc o) (omega (arith, l)) ∙ ap (λ p. f p (get_or old o (pos 0))) z) in
    λ i. here i ∷ on i

pub merged_cells : MergedCells
merged_cells t w s received new result lawful below long merged =
    let m = t.map in
    let rule = t.code.rule in
    let each = merged.each in
    values_are (λ o old. settled (verdict_on rule (entry_came rule (messages_read rule m w received) (m.cell w o))) old) (m.width w) 0
    s.cells new long (merged.long ∙ long)
    (λ o l.
    let here = lawful.again w o below l in
    let z : 0 + o ≡ o = omega arith in
    ap (λ p. value_at new p) (sym here)
    ∙ each (m.cell w o) (lawful.forth w o below l)
    ∙ ap (λ e. settled (verdict_on rule e) (value_at s.cells (m.offset (m.cell w o))))
    (sym (entries_of_words rule m w received (m.cell w o)))
    ∙ ap (λ p. settled (verdict_on rule (entry_came rule (messages_read rule m w received) (m.cell w o))) (value_at s.cells p)) here
    ∙ ap (λ p. settled (verdict_on rule (entry_came rule (messages_read rule m w received) (m.cell w p))) (value_at s.cells o)) (sym z))

-- ---- the least conflict

-- the key of a conflict at a cell, where there is one
abbrev noted : Moment → ℕ → Option Kind → Option Key
noted at c None = None
noted at c (Some kind) = Some (conflict_at at c kind)

-- a lesser cell goes first
lesser_first : (at : Moment) (c d : ℕ) (one other : Kind) → c < d → least (Some (conflict_at at c one))
    (Some (conflict_at at d other)) ≡ Some (conflict_at at c one)
lesser_first at c d one other l =
    ap (λ b. Some (if b then conflict_at at c one else conflict_at at d other))
    (by_earlier_place (conflict_at at c one) (conflict_at at d other) refl refl refl (lt-ltb c d l))

module _ (at : Moment) (m : Shape) (lawful : IsLawful m) (w : ℕ) (below : w < m.parts) (found : ℕ → Option Kind) where
  abbrev cells : ℕ → ℕ → List ℕ
  cells k n = map (m.cell w) (range_with_len k n)

  abbrev sum : ℕ → ℕ → Option Key
  sum k n = total None least (λ c. noted at c (found c)) (cells k n)

  nothing : (n k : ℕ) → k + n ≤ m.width w → ((c : ℕ) → IsOf m w c → found c ≡ None) → sum k n ≡ None
  nothing zero k l none = refl
  nothing (suc n) k l none =
      ap (λ o. least (noted at (m.cell w k) o) (sum (k + 1) n)) (none (m.cell w k) (lawful.forth w k below (omega (arith, l))))
      ∙ nothing n (k + 1) (omega (arith, l)) none

  module _ (c : ℕ) (kind : Kind) (is : found c ≡ Some kind) (before : (d : ℕ) → IsOf m w d → d < c → found d ≡ None) where
    abbrev key : Option Key
    key = Some (conflict_at at c kind)

    -- the other cells say nothing less
    other : (d : ℕ) → IsOf m w d → (o : Option Kind) → found d ≡ o → least key (noted at d o) ≡ key
    other d of None e = refl
    other d of (Some k) e =
        ⊎_elim
        (λ same. let k_is : Some kind ≡ Some k = sym is ∙ ap found same ∙ e in ap (λ o. least key (noted at d o)) (sym k_is)
        ∙ ap (λ x. least key (Some (conflict_at at x kind))) (sym same) ∙ least_again key)
        (λ r. ⊎_elim (λ up. lesser_first at c d kind k up) (λ down. absurd (cc (sym e ∙ before d of down))) r)
        (cases_order c d)

    absorbs : (n k : ℕ) → k + n ≤ m.width w → least key (sum k n) ≡ key
    absorbs zero k l = refl
    absorbs (suc n) k l =
        let x = noted at (m.cell w k) (found (m.cell w k)) in
        sym (keys_are_monoid.associative key x (sum (k + 1) n))
        ∙ ap (λ a. least a (sum (k + 1) n)) (other (m.cell w k) (lawful.forth w k below (omega (arith, l))) (found (m.cell w k)) refl)
        ∙ absorbs n (k + 1) (omega (arith, l))

    -- it is one of them
    within : (n k o : ℕ) → k ≤ o → o < k + n → m.cell w o ≡ c → least key (sum k n) ≡ sum k n
    within zero k o low high here = absurd (omega (arith, low, high))
    within (suc n) k o low high here =
        let x = noted at (m.cell w k) (found (m.cell w k)) in
        let rest = sum (k + 1) n in
        ⊎_elim
        (λ same.
        let at_c : m.cell w k ≡ c = ap (m.cell w) same ∙ here in
        let x_is : x ≡ key = ap (λ d. noted at d (found d)) at_c ∙ ap (noted at c) is in
        ap (λ a. least key (least a rest)) x_is ∙ sym (keys_are_monoid.associative key key rest) ∙ ap (λ a. least a rest) (least_again key)
        ∙ ap (λ a. least a rest) (sym x_is))
        (λ on.
        sym (keys_are_monoid.associative key x rest) ∙ ap (λ a. least a rest) (keys_are_monoid.commutative key x)
        ∙ keys_are_monoid.associative x key rest
        ∙ ap (least x) (within n (k + 1) o (omega (arith, on)) (omega (arith, high)) here))
        (eq-or-lt_of_le low)

    told : IsOf m w c → sum 0 (m.width w) ≡ key
    told of =
        let inside = subst_part (lawful.offset_below c of.below) in
        sym (within (m.width w) 0 (m.offset c) (omega arith) (omega (arith, inside)) (ap (λ j. m.cell j (m.offset c)) (sym of.here)
        ∙ lawful.back c of.below)) ∙ absorbs (m.width w) 0 (omega arith)
      where
        subst_part : m.offset c < m.width (m.part c) → m.offset c < m.width w
        subst_part l = let e : m.width (m.part c) ≡ m.width w = ap m.width of.here in omega (arith, e, l)

-- ---- of puts, and of reads

put_noted : (at : Moment) (c : ℕ) (v : Option Value) → put_conflict (Some at) c v ≡ noted at c (refusal v)
put_noted at c None = refl
put_noted at c (Some (Ok x)) = refl
put_noted at c (Some (Err kind)) = refl

pub merged_conflict : MergedConflict
merged_conflict t w received old new result at lawful below merged = same ∙ go result refl
  where
    same : total None least (λ c. put_conflict (Some at) c
        (verdict_on t.code.rule (entry_came t.code.rule (messages_read t.code.rule t.map w received) c))) (module_cells t w)
        ≡ total None least (λ c. noted at c
        (refusal (verdict_on t.code.rule (entry_read t.code.rule t.map w (put_parts t.code.rule received) c)))) (module_cells t w)
    same =
        total_same None least _ _
        (λ c. put_noted at c (verdict_on t.code.rule (entry_came t.code.rule (messages_read t.code.rule t.map w received) c))
        ∙ ap (λ e. noted at c (refusal (verdict_on t.code.rule e))) (entries_of_words t.code.rule t.map w received c))
        (module_cells t w)

    go : (r : Option (ℕ × Kind)) → result ≡ r
        → total None least (λ c. noted at c
        (refusal (verdict_on t.code.rule (entry_read t.code.rule t.map w (put_parts t.code.rule received) c))))
        (module_cells t w) ≡ key_of_conflict at r
    go None e = nothing at t.map lawful w below
        (λ c. refusal (verdict_on t.code.rule (entry_read t.code.rule t.map w (put_parts t.code.rule received) c))) (t.map.width w) 0
        (omega arith) (merged.none e)
    go (Some q) e = let l = merged.least q.0 q.1 e in
        told at t.map lawful w below (λ c.
        refusal (verdict_on t.code.rule (entry_read t.code.rule t.map w (put_parts t.code.rule received) c))) q.0 q.1 l.1 l.2 l.0

read_noted : (at : Moment) (c : ℕ) (o : Option Bool) →
    (if is_several o then Some (conflict_at at c ReadConflict) else None) ≡ noted at c (shared o)
read_noted at c None = refl
read_noted at c (Some true) = refl
read_noted at c (Some false) = refl

shared_none : (o : Option Bool) → is_several o ≡ false → shared o ≡ None
shared_none o e = ap (λ b. if b then Some ReadConflict else None) e

shared_some : (o : Option Bool) → is_several o ≡ true → shared o ≡ Some ReadConflict
shared_some o e = ap (λ b. if b then Some ReadConflict else None) e

pub shared_conflict : SharedConflict
shared_conflict t w received k read result lawful below least_shared = by_side (is_private read.side)
  where
    same : total None least (λ c. if is_several (askers_came (messages_read t.code.rule t.map w received) k c) then
        Some (conflict_at read.moment c ReadConflict) else None) (module_cells t w)
        ≡ total None least (λ c. noted read.moment c (shared (askers_read t.map w (ask_parts t.code.rule received) k c))) (module_cells t w)
    same =
        total_same None least _ _
        (λ c. read_noted read.moment c (askers_came (messages_read t.code.rule t.map w received) k c)
        ∙ ap (λ o. noted read.moment c (shared o)) (askers_of_words t.code.rule t.map w received k c))
        (module_cells t w)

    go : (r : Option ℕ) → result ≡ r →
        total None least (λ c. noted read.moment c (shared (askers_read t.map w (ask_parts t.code.rule received) k c)))
        (module_cells t w) ≡ key_of_shared read.moment r
    go None e = nothing read.moment t.map lawful w below (λ c. shared (askers_read t.map w (ask_parts t.code.rule received) k c))
        (t.map.width w) 0 (omega arith) (λ c of. shared_none (askers_read t.map w (ask_parts t.code.rule received) k c)
        (least_shared.none e c of))
    go (Some c) e =
        let l = least_shared.least c e in
        told read.moment t.map lawful w below (λ c. shared (askers_read t.map w (ask_parts t.code.rule received) k c)) c ReadConflict
        (shared_some (askers_read t.map w (ask_parts t.code.rule received) k c) l.1) (λ d of less.
        shared_none (askers_read t.map w (ask_parts t.code.rule received) k d) (l.2 d of less)) l.0

    none_at_all : (xs : List ℕ) → total None least (λ c. if false
        && is_several (askers_came (messages_read t.code.rule t.map w received) k c) then Some (conflict_at read.moment c ReadConflict) else
        None) xs ≡ None
    none_at_all [] = refl
    none_at_all (x ∷ xs) = none_at_all xs

    by_side : (b : Bool)
        → total None least (λ c. if b && is_several (askers_came (messages_read t.code.rule t.map w received) k c) then
        Some (conflict_at read.moment c ReadConflict) else None) (module_cells t w)
        ≡ (if b then key_of_shared read.moment result else None)
    by_side true = same ∙ go result refl
    by_side false = none_at_all (module_cells t w)
