-- What is held after some writes, one by one, is what the machine's definition holds; and it fits in words.
use Rattle.std.proofs.Common.{◌≡◌, ℕ, zero, suc, ◌≤◌, List, [], ◌∷◌, length, map, Bool, true, false, not, Option, Some, None, refl, sym, ap}
use Rattle.std.proofs.Common.{◌∙◌, arith, ⊎_elim, cond, eqb}
use Rattle.std.specs.Prelude.{if◌then◌else◌}
use Rattle.std.specs.List.{filter, filter_map, cons_option}
use Rattle.std.proofs.lemmas.Bool.{eq-eqb, ne_eqb}
use Rattle.std.proofs.lemmas.Bool.Decides.{eqb_tells}
use Rattle.pram_values.specs.Total.{total}
use Rattle.pram_model.specs.declared.rule.Rule.{Rule}
use Rattle.write_rules.specs.declared.entry.Entry.{Entry}
use Rattle.superstep_machine.specs.Setting.{combining}
use Rattle.superstep_machine.specs.Words.{CellPut}
use Rattle.superstep_machine.specs.Worker.{HeldWrite}
use Rattle.superstep_machine.specs.Sending.{firsts, join, entry_to, put_of}
use Rattle.superstep_machine.proofs.Collected.{entries_are_monoid}
use Rattle.combining.specs.Held.{put, put_at, entry_of_write, held_after}

-- ---- each once

filter_both : {A : Type 0} (p q : A → Bool) (xs : List A) → filter p (filter q xs) ≡ filter q (filter p xs)
filter_both p q [] = refl
filter_both p q (x ∷ xs) = go (p x) (q x) refl refl (filter_both p q xs)
  where
    go : (a b : Bool) → p x ≡ a → q x ≡ b → filter p (filter q xs) ≡ filter q (filter p xs)
        → filter p (cond b (x ∷ filter q xs) (filter q xs)) ≡ filter q (cond a (x ∷ filter p xs) (filter p xs))
    go true true e f rest =
        ap (λ t. cond t (x ∷ filter p (filter q xs)) (filter p (filter q xs))) e ∙ ap (λ ys. x ∷ ys) rest
        ∙ sym (ap (λ t. cond t (x ∷ filter q (filter p xs)) (filter q (filter p xs))) f)
    go true false e f rest = rest ∙ sym (ap (λ t. cond t (x ∷ filter q (filter p xs)) (filter q (filter p xs))) f)
    go false true e f rest = ap (λ t. cond t (x ∷ filter p (filter q xs)) (filter p (filter q xs))) e ∙ rest
    go false false e f rest = rest

-- what another test leaves out anyway
filter_less : (p : ℕ → Bool) (x : ℕ) → p x ≡ false → (ys : List ℕ) → filter p (filter (λ y. not (eqb x y)) ys) ≡ filter p ys
filter_less p x out [] = refl
filter_less p x out (y ∷ ys) =
    let less = filter (λ z. not (eqb x z)) ys in
    ⊎_elim
    (λ same.
    ap (λ t. filter p (cond (not t) (y ∷ less) less)) same.0
    ∙ filter_less p x out ys
    ∙ sym (ap (λ t. cond t (y ∷ filter p ys) (filter p ys)) (ap p (sym same.1) ∙ out)))
    (λ other.
    ap (λ t. filter p (cond (not t) (y ∷ less) less)) other.0
    ∙ ap (λ zs. cond (p y) (y ∷ zs) zs) (filter_less p x out ys))
    (eqb_tells x y)

pub firsts_filter : (p : ℕ → Bool) (xs : List ℕ) → firsts (filter p xs) ≡ filter p (firsts xs)
firsts_filter p [] = refl
firsts_filter p (x ∷ xs) = go (p x) refl (firsts_filter p xs)
  where
    go : (b : Bool) → p x ≡ b → firsts (filter p xs) ≡ filter p (firsts xs)
        → firsts (cond b (x ∷ filter p xs) (filter p xs)) ≡ cond b (x ∷ filter p (filter (λ y. not (eqb x y)) (firsts xs)))
        (filter p (filter (λ y. not (eqb x y)) (firsts xs)))
    go true e rest = ap (λ ys. x ∷ filter (λ y. not (eqb x y)) ys) rest ∙ ap (λ ys. x ∷ ys) (filter_both (λ y. not (eqb x y)) p (firsts xs))
    go false e rest = rest ∙ sym (filter_less p x e (firsts xs))

-- ---- what is held

abbrev cell_of : HeldWrite → ℕ
cell_of w = w.cell

-- the writes to other cells
abbrev but : ℕ → List HeldWrite → List HeldWrite
but c = filter (λ w. not (eqb c (cell_of w)))

abbrev sum_to : Rule → ℕ → List HeldWrite → Option Entry
sum_to rule c ws = total None (join rule) (entry_to rule c) ws

entry_to_own : (rule : Rule) (w : HeldWrite) (c : ℕ) → c ≡ w.cell → entry_to rule c w ≡ Some (entry_of_write rule w)
entry_to_own rule w c e = ap (λ t. if t then Some (entry_of_write rule w) else None) (eq-eqb w.cell c (sym e))

entry_to_other : (rule : Rule) (w : HeldWrite) (c : ℕ) → (c ≡ w.cell → ⊥) → entry_to rule c w ≡ None
entry_to_other rule w c h = ap (λ t. if t then Some (entry_of_write rule w) else None) (ne_eqb w.cell c (λ e. h (sym e)))

-- what is held first gets the writes to its cell, and the others go behind it
held_first : (rule : Rule) (ws : List HeldWrite) (x : CellPut) (held : List CellPut)
    → held_after rule ws (x ∷ held) ≡ cons_option (put_of x.cell (join rule (Some x.entry) (sum_to rule x.cell ws)))
    (held_after rule (but x.cell ws) held)
held_first rule [] x held = refl
held_first rule (w ∷ ws) x held =
    let others = but x.cell ws in
    let s = entry_of_write rule w in
    let joined = put_at x.cell ((combining rule).join x.entry s) in
    ⊎_elim
    (λ same.
    ap (λ t. held_after rule ws (if t then joined ∷ held else x ∷ put rule w held)) same.0
    ∙ held_first rule ws joined held
    ∙ ap (λ y. cons_option (put_of x.cell y) (held_after rule others held))
    ((entries_are_monoid rule).associative (Some x.entry) (Some s) (sum_to rule x.cell ws)
    ∙ sym (ap (λ y. join rule (Some x.entry) (join rule y (sum_to rule x.cell ws))) (entry_to_own rule w x.cell same.1)))
    ∙ sym (ap (λ t. cons_option (put_of x.cell (join rule (Some x.entry) (sum_to rule x.cell (w ∷ ws))))
    (held_after rule (cond (not t) (w ∷ others) others) held)) same.0))
    (λ other.
    ap (λ t. held_after rule ws (if t then joined ∷ held else x ∷ put rule w held)) other.0
    ∙ held_first rule ws x (put rule w held)
    ∙ ap (λ y. cons_option (put_of x.cell (join rule (Some x.entry) y)) (held_after rule (w ∷ others) held))
    (sym (ap (λ y. join rule y (sum_to rule x.cell ws)) (entry_to_other rule w x.cell other.1)))
    ∙ sym (ap (λ t. cons_option (put_of x.cell (join rule (Some x.entry) (sum_to rule x.cell (w ∷ ws))))
    (held_after rule (cond (not t) (w ∷ others) others) held)) other.0))
    (eqb_tells x.cell w.cell)

-- the sum to another cell doesn't need them
sum_but : (rule : Rule) (c d : ℕ) → (c ≡ d → ⊥) → (ws : List HeldWrite) → sum_to rule d (but c ws) ≡ sum_to rule d ws
sum_but rule c d apart [] = refl
sum_but rule c d apart (w ∷ ws) =
    ⊎_elim
    (λ same.
    ap (λ t. sum_to rule d (cond (not t) (w ∷ but c ws) (but c ws))) same.0
    ∙ sum_but rule c d apart ws
    ∙ sym (ap (λ y. join rule y (sum_to rule d ws)) (entry_to_other rule w d (λ e. apart (same.1 ∙ sym e)))))
    (λ other.
    ap (λ t. sum_to rule d (cond (not t) (w ∷ but c ws) (but c ws))) other.0
    ∙ ap (join rule (entry_to rule d w)) (sum_but rule c d apart ws))
    (eqb_tells c w.cell)

map_but : (c : ℕ) (ws : List HeldWrite) → map cell_of (but c ws) ≡ filter (λ y. not (eqb c y)) (map cell_of ws)
map_but c [] = refl
map_but c (w ∷ ws) = go (not (eqb c (cell_of w))) (map_but c ws)
  where
    go : (b : Bool) → map cell_of (but c ws) ≡ filter (λ y. not (eqb c y)) (map cell_of ws)
        → map cell_of (cond b (w ∷ but c ws) (but c ws)) ≡ cond b (cell_of w ∷ filter (λ y. not (eqb c y)) (map cell_of ws))
        (filter (λ y. not (eqb c y)) (map cell_of ws))
    go true h = ap (λ ys. cell_of w ∷ ys) h
    go false h = h

-- functions that are equal but at c
same_but : {B : Type 0} (f g : ℕ → Option B) (c : ℕ) → ((d : ℕ) → (c ≡ d → ⊥) → f d ≡ g d) → (xs : List ℕ) →
    filter_map f (filter (λ y. not (eqb c y)) xs) ≡ filter_map g (filter (λ y. not (eqb c y)) xs)
same_but f g c h [] = refl
same_but f g c h (x ∷ xs) =
    let rest = filter (λ y. not (eqb c y)) xs in
    ⊎_elim
    (λ same.
    ap (λ t. filter_map f (cond (not t) (x ∷ rest) rest)) same.0 ∙ same_but f g c h xs
    ∙ sym (ap (λ t. filter_map g (cond (not t) (x ∷ rest) rest)) same.0))
    (λ other.
    ap (λ t. filter_map f (cond (not t) (x ∷ rest) rest)) other.0
    ∙ (λ i. cons_option (h x other.1 i) (same_but f g c h xs i))
    ∙ sym (ap (λ t. filter_map g (cond (not t) (x ∷ rest) rest)) other.0))
    (eqb_tells c x)

pub length_filter : {A : Type 0} (p : A → Bool) (xs : List A) → length (filter p xs) ≤ length xs
length_filter p [] = omega arith
length_filter p (x ∷ xs) = go (p x) (length_filter p xs)
  where
    go : (b : Bool) → length (filter p xs) ≤ length xs → length (cond b (x ∷ filter p xs) (filter p xs)) ≤ suc (length xs)
    go true h = omega arith
    go false h = omega arith

abbrev machine : Rule → List HeldWrite → List CellPut
machine rule ws = filter_map (λ c. put_of c (sum_to rule c ws)) (firsts (map cell_of ws))

held_within : (rule : Rule) (n : ℕ) (ws : List HeldWrite) → length ws ≤ n → held_after rule ws [] ≡ machine rule ws
held_within rule n [] h = refl
held_within rule zero (w ∷ ws) h = absurd (omega arith)
held_within rule (suc n) (w ∷ ws) h =
    let c = w.cell in
    let others = but c ws in
    let s = entry_of_write rule w in
    let f : ℕ → Option CellPut = λ d. put_of d (sum_to rule d others) in
    let g : ℕ → Option CellPut = λ d. put_of d (sum_to rule d (w ∷ ws)) in
    let short : length others ≤ n = (let l = length_filter (λ v. not (eqb c (cell_of v))) ws in omega arith) in
    held_first rule ws (put_at c s) []
    ∙ (λ i. cons_option (put_of c (join rule (sym (entry_to_own rule w c refl) i) (sum_to rule c ws))) (held_within rule n others short i))
    ∙ ap (λ ds. cons_option (g c) (filter_map f ds)) (ap firsts (map_but c ws) ∙ firsts_filter (λ y. not (eqb c y)) (map cell_of ws))
    ∙ ap (cons_option (g c))
    (same_but f g c (λ d apart. ap (put_of d) (sum_but rule c d apart ws
    ∙ sym (ap (λ y. join rule y (sum_to rule d ws)) (entry_to_other rule w d (λ e. apart (sym e)))))) (firsts (map cell_of ws)))

pub held_is_machines : (rule : Rule) (ws : List HeldWrite) →
    held_after rule ws [] ≡ filter_map (λ c. put_of c (total None (join rule) (entry_to rule c) ws))
    (firsts (map (λ (w : HeldWrite). w.cell) ws))
held_is_machines rule ws = held_within rule (length ws) ws (omega arith)
