-- What the rule makes of several writers of a cell.
use Rattle.std.proofs.Common.{◌≡◌, ◌⊎◌, inl, inr, ℕ, zero, suc, ◌<◌, List, [], ◌∷◌, ◌++◌, ℤ, pos, Bool, true, false, Some, Ok}
use Rattle.std.proofs.Common.{Err, refl, sym, subst, ap, ◌∙◌, arith, tests, nat_eq, length, get_or, int_le, if◌then◌else◌, append-nil}
use Rattle.std.specs.Prelude.{slice_set}
use Rattle.std.specs.List.{Contains}
use Rattle.std.proofs.lemmas.List.{get_or-set_same, length-set}
use Rattle.std.proofs.lemmas.List.Elements.{Contains-append_cases}
use Rattle.pram_model.specs.declared.rule.Rule.{Rule}
use Rattle.pram_model.specs.declared.rule.Rule.TheVariants.{Erew, Crew, Common, Priority, Sum}
use Rattle.pram_values.specs.declared.kind.Kind.TheVariants.{Overflow, WriteConflict}
use Rattle.pram_values.specs.Truth.{is_equal}
use Rattle.pram_values.specs.Value.{Value, fits}
use Rattle.write_rules.specs.declared.write.Write.{Write}
use Rattle.write_rules.specs.Rule.{common_value, least_writer, only_value, sum_of, written}
use Rattle.intervals.specs.declared.interval.Interval.{Interval}
use Rattle.intervals.specs.Intervals.{IsIn}
use Rattle.pram_meaning.specs.Conflict.{Part, write_to, writes_by, writes_to}
use Rattle.pram_meaning.specs.Together.{overwritten, settled}
use Rattle.all_inputs.specs.Overall.{Cover}
use Rattle.abstract_runs.specs.Writing.{MayLeave}
use Rattle.pram_meaning.proofs.Overwrites.{length_over}
use Rattle.abstract_runs.proofs.Among.{deeper, first}
use Rattle.abstract_runs.proofs.CellValues.{at_cell}
use Rattle.abstract_runs.proofs.CellWrites.{writes_last}

-- it stays, or one of the writers may leave it so
abbrev pub IsLeft : Rule → Interval → ℤ → List Write → ℤ → Type 0
IsLeft rule sums o ws v = (v ≡ o) ⊎ ((w : Write) × Contains ws w × MayLeave rule sums w.value v)

only_left : (o : ℤ) (w : Write) (ws : List Write) → (settled o (only_value w ws) ≡ o) ⊎ (settled o (only_value w ws) ≡ w.value)
only_left o w [] = inr refl
only_left o w (v ∷ ws) = inl refl

common_by : (o x : ℤ) (v : Value) (b : Bool) → (settled o v ≡ o) ⊎ (settled o v ≡ x) →
    (settled o (if b then v else Err WriteConflict) ≡ o) ⊎ (settled o (if b then v else Err WriteConflict) ≡ x)
common_by o x v true h = h
common_by o x v false h = inl refl

common_left : (o x : ℤ) (ws : List Write) → (settled o (common_value x ws) ≡ o) ⊎ (settled o (common_value x ws) ≡ x)
common_left o x [] = inr refl
common_left o x (w ∷ ws) = common_by o x (common_value x ws) (is_equal x w.value) (common_left o x ws)

least_by : (w v x y : Write) (vs : List Write) (b : Bool) → (x ≡ w) ⊎ Contains vs x → (y ≡ v) ⊎ Contains vs y →
    ((if b then x else y) ≡ w) ⊎ Contains (v ∷ vs) (if b then x else y)
least_by w v x y vs true (inl e) h = inl e
least_by w v x y vs true (inr c) h = inr (deeper v vs x c)
least_by w v x y vs false h (inl e) = inr (subst (Contains (v ∷ vs)) (sym e) (first v vs))
least_by w v x y vs false h (inr c) = inr (deeper v vs y c)

least_among : (w : Write) (ws : List Write) → (least_writer w ws ≡ w) ⊎ Contains ws (least_writer w ws)
least_among w [] = inl refl
least_among w (v ∷ vs) =
    least_by w v (least_writer w vs) (least_writer v vs) vs (int_le w.processor v.processor) (least_among w vs) (least_among v vs)

sum_left : (P : ℤ → Type 0) (o s : ℤ) (b : Bool) → fits s ≡ b → (fits s ≡ true → P s) →
    (settled o (if b then Ok s else Err Overflow) ≡ o) ⊎ P (settled o (if b then Ok s else Err Overflow))
sum_left P o s true e h = inr (h e)
sum_left P o s false e h = inl refl

by_first : (o v : ℤ) (w : Write) (ws : List Write) → (v ≡ o) ⊎ (v ≡ w.value) →
    (v ≡ o) ⊎ ((x : Write) × Contains (w ∷ ws) x × (v ≡ x.value))
by_first o v w ws (inl e) = inl e
by_first o v w ws (inr e) = inr (w, first w ws, e)

pub left : (rule : Rule) (sums : Interval) (o : ℤ) (ws : List Write) → (fits (sum_of ws) ≡ true → IsIn (sum_of ws) sums) →
    IsLeft rule sums o ws (settled o (written rule o ws))
left rule sums o [] h = inl refl
left Erew sums o (w ∷ ws) h = by_first o _ w ws (only_left o w ws)
left Crew sums o (w ∷ ws) h = by_first o _ w ws (only_left o w ws)
left Common sums o (w ∷ ws) h = by_first o _ w ws (common_left o w.value ws)
left Priority sums o (w ∷ ws) h = elim (least_among w ws) [
  | inl e ↦ inr (w, first w ws, ap (λ (x : Write). x.value) e)
  | inr c ↦ inr (least_writer w ws, deeper w ws (least_writer w ws) c, refl)
]
left Sum sums o (w ∷ ws) h = elim (sum_left (λ z. IsIn z sums) o (sum_of (w ∷ ws)) (fits (sum_of (w ∷ ws))) refl h) [
  | inl e ↦ inl e
  | inr i ↦ inr (w, first w ws, i)
]

-- ---- all cells

cover_length : (is : List Interval) (zs : List ℤ) → Cover is zs → length is ≡ length zs
cover_length [] [] h = refl
cover_length [] (z ∷ zs) h = absurd h
cover_length (i ∷ is) [] h = absurd h
cover_length (i ∷ is) (z ∷ zs) h = ap suc (cover_length is zs h.1)

cover_at : (is : List Interval) (zs : List ℤ) (c : ℕ) (d : Interval) → c < length zs → Cover is zs →
    IsIn (get_or zs c (pos 0)) (get_or is c d)
cover_at is [] c d below h = absurd (omega (arith, below))
cover_at [] (z ∷ zs) c d below h = absurd h
cover_at (i ∷ is) (z ∷ zs) zero d below h = h.0
cover_at (i ∷ is) (z ∷ zs) (suc c) d below h = cover_at is zs c d (omega (arith, below)) h.1

cover_each_cell : (is : List Interval) (zs : List ℤ) → length is ≡ length zs →
    ((c : ℕ) (d : Interval) → c < length zs → IsIn (get_or zs c (pos 0)) (get_or is c d)) → Cover is zs
cover_each_cell [] [] same h = tt
cover_each_cell [] (z ∷ zs) same h = absurd (omega (arith, same))
cover_each_cell (i ∷ is) [] same h = absurd (omega (arith, same))
cover_each_cell (i ∷ is) (z ∷ zs) same h = (
  h 0 i (omega arith),
  cover_each_cell is zs (omega (arith, same)) (λ c d below. h (suc c) d (omega (arith, below))),
)

-- each cell stays, or comes to what one of its writers may leave
pub cover_left : (rule : Rule) (sums : Interval) (xs : List Part) (is : List Interval) (zs : List ℤ) →
    ((c : ℕ) → fits (sum_of (writes_to c xs)) ≡ true → IsIn (sum_of (writes_to c xs)) sums) → Cover is zs →
    ((c : ℕ) (w : Write) (v : ℤ) → Contains (writes_to c xs) w → MayLeave rule sums w.value v → Cover is (slice_set zs c v)) →
    Cover is (overwritten rule xs 0 zs)
cover_left rule sums xs is zs hold h set =
    cover_each_cell is (overwritten rule xs 0 zs) (cover_length is zs h ∙ sym (length_over rule xs 0 zs))
    (λ c d l. let long : length (overwritten rule xs 0 zs) ≡ length zs = length_over rule xs 0 zs in at c d (omega (arith, l, long)))
  where
    at : (c : ℕ) (d : Interval) → c < length zs → IsIn (get_or (overwritten rule xs 0 zs) c (pos 0)) (get_or is c d)
    at c d below =
        let o : ℤ = get_or zs c (pos 0) in
        let v : ℤ = settled o (written rule o (writes_to c xs)) in
        let long : length (slice_set zs c v) ≡ length zs = length-set zs c v in
        subst (λ z. IsIn z (get_or is c d)) (sym (at_cell rule xs zs c below))
        (elim (left rule sums o (writes_to c xs) (hold c)) [
          | inl e ↦ subst (λ z. IsIn z (get_or is c d)) (sym e) (cover_at is zs c d below h)
          | inr w ↦ subst (λ z. IsIn z (get_or is c d)) (get_or-set_same zs c v (pos 0) below)
              (cover_at is (slice_set zs c v) c d (omega (arith, below, long)) (set c w.0 v w.1 w.2))
        ])

-- ---- one part more

-- a write to the cell is that one
pub write_is : (c d : ℕ) (i v : ℤ) (w : Write) → Contains (write_to c i (Some d) v) w → (d ≡ c) × (v ≡ w.value)
write_is c d i v w h = by (nat_eq c d) refl h
  where
    by : (b : Bool) → nat_eq c d ≡ b → Contains (if b then record { processor = i; value = v } ∷ [] else []) w → (d ≡ c) × (v ≡ w.value)
    by true e (zero, l, is) = (grind (arith, tests, e), ap (λ (w : Write). w.value) is)
    by true e (suc k, l, is) = absurd (omega (arith, l))
    by false e (k, l, is) = absurd (omega (arith, l))

pub write_before_or_of : (c : ℕ) (xs : List Part) (x : Part) (w : Write) → Contains (writes_to c (xs ++ x ∷ [])) w →
    Contains (writes_to c xs) w ⊎ Contains (writes_by c x.processor x.attempt) w
write_before_or_of c xs x w h =
    Contains-append_cases (writes_to c xs) (writes_by c x.processor x.attempt) w (subst (λ ws. Contains ws w) (writes_last c xs x) h)

pub write_before : (c : ℕ) (xs : List Part) (x : Part) (w : Write) → writes_by c x.processor x.attempt ≡ [] →
    Contains (writes_to c (xs ++ x ∷ [])) w → Contains (writes_to c xs) w
write_before c xs x w none h =
    subst (λ ws. Contains ws w) (writes_last c xs x ∙ ap (λ ws. writes_to c xs ++ ws) none ∙ append-nil (writes_to c xs)) h
