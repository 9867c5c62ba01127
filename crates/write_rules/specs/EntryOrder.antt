-- Entries are in a linear order, and the first of some doesn't depend on how they are paired.
use Rattle.std.proofs.Common.{◌≡◌, ◌⊎◌, inl, inr, Bool, true, false, if◌then◌else◌, refl, ap, sym, ◌∙◌, arith}
use Rattle.std.proofs.lemmas.Int.{ints}
use Rattle.pram_model.proofs.Truths.{either}
use Rattle.write_rules.specs.declared.entry.Entry.{Entry}
use Rattle.write_rules.specs.Combining.{marked, is_first, first_of}

pub first_total : (a b : Entry) → is_first a b ≡ false → is_first b a ≡ true
first_total a b h = grind (arith, ints)

pub first_passed : (a b e : Entry) → is_first a b ≡ true → is_first b e ≡ true → is_first a e ≡ true
first_passed a b e h k = grind (arith, ints)

pub last_passed : (a b e : Entry) → is_first a b ≡ false → is_first b e ≡ false → is_first a e ≡ false
last_passed a b e h k = grind (arith, ints)

pub same_owner : (a b : Entry) → is_first a b ≡ true → is_first b a ≡ true → a.owner ≡ b.owner
same_owner a b h k = grind (arith, ints)

pub same_value : (a b : Entry) → is_first a b ≡ true → is_first b a ≡ true → a.value ≡ b.value
same_value a b h k = grind (arith, ints)

pub pick_first : (k : Bool) (a b : Entry) → is_first a b ≡ true → first_of k a b ≡ marked k a
pick_first k a b h = ap (λ c. if c then marked k a else marked k b) h

pub pick_last : (k : Bool) (a b : Entry) → is_first a b ≡ false → first_of k a b ≡ marked k b
pick_last k a b h = ap (λ c. if c then marked k a else marked k b) h

associates : (k y z : Bool) (a b e : Entry) → (is_first a b ≡ true) ⊎ (is_first a b ≡ false) →
    (is_first b e ≡ true) ⊎ (is_first b e ≡ false) → first_of k (first_of y a b) e ≡ first_of k a (first_of z b e)
associates k y z a b e (inl h) (inl g) =
    ap (λ x. first_of k x e) (pick_first y a b h) ∙ pick_first k (marked y a) e (first_passed a b e h g)
    ∙ sym (ap (first_of k a) (pick_first z b e g) ∙ pick_first k a (marked z b) h)
associates k y z a b e (inl h) (inr g) = ap (λ x. first_of k x e) (pick_first y a b h) ∙ sym (ap (first_of k a) (pick_last z b e g))
associates k y z a b e (inr h) (inl g) =
    ap (λ x. first_of k x e) (pick_last y a b h) ∙ pick_first k (marked y b) e g
    ∙ sym (ap (first_of k a) (pick_first z b e g) ∙ pick_last k a (marked z b) h)
associates k y z a b e (inr h) (inr g) =
    ap (λ x. first_of k x e) (pick_last y a b h) ∙ pick_last k (marked y b) e g
    ∙ sym (ap (first_of k a) (pick_last z b e g) ∙ pick_last k a (marked z e) (last_passed a b e h g))

-- the marks of what is joined first don't matter
pub first_associates : (k y z : Bool) (a b e : Entry) → first_of k (first_of y a b) e ≡ first_of k a (first_of z b e)
first_associates k y z a b e = associates k y z a b e (either (is_first a b)) (either (is_first b e))

commutes : (k : Bool) (a b : Entry) → (is_first a b ≡ true) ⊎ (is_first a b ≡ false) → (is_first b a ≡ true) ⊎ (is_first b a ≡ false) →
    first_of k a b ≡ first_of k b a
commutes k a b (inl h) (inl g) = pick_first k a b h
    ∙ (λ j. record { owner = same_owner a b h g j; value = same_value a b h g j; clash = k }) ∙ sym (pick_first k b a g)
commutes k a b (inl h) (inr g) = pick_first k a b h ∙ sym (pick_last k b a g)
commutes k a b (inr h) (inl g) = pick_last k a b h ∙ sym (pick_first k b a g)
commutes k a b (inr h) (inr g) = let t : is_first b a ≡ true = first_total a b h in absurd (cc (t, g))

pub first_commutes : (k : Bool) (a b : Entry) → first_of k a b ≡ first_of k b a
first_commutes k a b = commutes k a b (either (is_first a b)) (either (is_first b a))

clash_by : (k : Bool) (a b : Entry) → (is_first a b ≡ true) ⊎ (is_first a b ≡ false) → (first_of k a b).clash ≡ k
clash_by k a b (inl h) = ap (λ (e : Entry). e.clash) (pick_first k a b h)
clash_by k a b (inr h) = ap (λ (e : Entry). e.clash) (pick_last k a b h)

pub first_clash : (k : Bool) (a b : Entry) → (first_of k a b).clash ≡ k
first_clash k a b = clash_by k a b (either (is_first a b))

value_by : (k : Bool) (a b : Entry) → (is_first a b ≡ true) ⊎ (is_first a b ≡ false) → ((first_of k a b).value ≡ a.value)
    ⊎ ((first_of k a b).value ≡ b.value)
value_by k a b (inl h) = inl (ap (λ (e : Entry). e.value) (pick_first k a b h))
value_by k a b (inr h) = inr (ap (λ (e : Entry). e.value) (pick_last k a b h))

pub first_value : (k : Bool) (a b : Entry) → ((first_of k a b).value ≡ a.value) ⊎ ((first_of k a b).value ≡ b.value)
first_value k a b = value_by k a b (either (is_first a b))
