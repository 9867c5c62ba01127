-- The writes of a statement as a list of accesses.
use Rattle.std.proofs.Common.{◌≡◌, ℕ, ℤ, pos, ◌≤◌, List, [], ◌∷◌, ◌++◌, map, length, append-nil, nat_eq, Option, Some, None, if◌then◌else◌}
use Rattle.std.proofs.Common.{refl, ap, ◌∙◌}
use Rattle.std.proofs.lemmas.List.{map-append}
use Rattle.std.proofs.lemmas.Grind.{flat_map-append}
use Rattle.std.specs.List.{fold, flat_map}
use Rattle.pram_meaning.specs.declared.access.Judged.{Judged}
use Rattle.pram_meaning.specs.declared.key.Key.{Key}
use Rattle.pram_meaning.specs.Accesses.{access_to, judged, judged_in, key_of, made_by, write_for, writes_for, writes_made}
use Rattle.pram_meaning.specs.Attempt.{Attempt, Effect, Fails, Gives}
use Rattle.pram_meaning.specs.Conflict.{Part, cell_conflict, lesser, value_key, write_conflict, write_to, writes_by, writes_to}
use Rattle.pram_meaning.proofs.Folds.{InEach, each_ends}
use Rattle.pram_model.specs.declared.rule.Rule.{Rule}
use Rattle.write_rules.specs.Rule.{written}
use Rattle.write_rules.specs.declared.write.Write.{Write}

writes_to_one : (c at : ℕ) (i v : ℤ) (d : Option ℕ) → writes_for c (access_to at d (record { processor = i; value = v })) ≡ write_to c i d v
writes_to_one c at i v None = refl
writes_to_one c at i v (Some d) = append-nil (if nat_eq c d then record { processor = i; value = v } ∷ [] else [])

writes_one : (c : ℕ) (i : ℤ) (a : Attempt Effect) → writes_for c (made_by i a) ≡ writes_by c i a
writes_one c i (Gives t x) = writes_to_one c (length t) i x.value x.cell
writes_one c i (Fails t k) = refl

pub same_writes : (c : ℕ) (xs : List Part) → writes_for c (writes_made xs) ≡ writes_to c xs
same_writes c [] = refl
same_writes c (x ∷ xs) =
    flat_map-append (write_for c) (made_by x.processor x.attempt) (writes_made xs)
    ∙ ap (λ ws. ws ++ writes_for c (writes_made xs)) (writes_one c x.processor x.attempt)
    ∙ ap (λ ws. writes_by c x.processor x.attempt ++ ws) (same_writes c xs)

-- ---- what the rule says against them

cell_verdict : (rule : Rule) (xs : List Part) (at : ℕ) (w : Write) (c : Option ℕ) →
    flat_map key_of (map (judged_in rule (writes_made xs)) (access_to at c w)) ≡ cell_conflict rule xs at c
cell_verdict rule xs at w None = refl
cell_verdict rule xs at w (Some c) =
    append-nil (value_key at c (written rule (pos 0) (writes_for c (writes_made xs))))
    ∙ ap (λ ws. value_key at c (written rule (pos 0) ws)) (same_writes c xs)

one_verdict : (rule : Rule) (xs : List Part) (i : ℤ) (a : Attempt Effect) →
    flat_map key_of (map (judged_in rule (writes_made xs)) (made_by i a)) ≡ write_conflict rule xs a
one_verdict rule xs i (Gives t x) = cell_verdict rule xs (length t) (record { processor = i; value = x.value }) x.cell
one_verdict rule xs i (Fails t k) = refl

pub verdicts_are : (rule : Rule) (xs ys : List Part) →
    flat_map key_of (map (judged_in rule (writes_made xs)) (writes_made ys)) ≡ flat_map (λ x. write_conflict rule xs x.attempt) ys
verdicts_are rule xs [] = refl
verdicts_are rule xs (y ∷ ys) =
    ap (flat_map key_of) (map-append (judged_in rule (writes_made xs)) (made_by y.processor y.attempt) (writes_made ys))
    ∙ flat_map-append key_of (map (judged_in rule (writes_made xs)) (made_by y.processor y.attempt))
    (map (judged_in rule (writes_made xs)) (writes_made ys))
    ∙ ap (λ ks. ks ++ flat_map key_of (map (judged_in rule (writes_made xs)) (writes_made ys))) (one_verdict rule xs y.processor y.attempt)
    ∙ ap (λ ks. write_conflict rule xs y.attempt ++ ks) (verdicts_are rule xs ys)

pub verdicts_end : (rule : Rule) (xs : List Part) (items : List Judged) (i : ℕ) (start now : Option Key) → InEach key_of items i start now →
    items ≡ judged rule (writes_made xs) → length items ≤ i → now ≡ fold lesser start (flat_map (λ x. write_conflict rule xs x.attempt) xs)
verdicts_end rule xs items i start now b is h =
    each_ends key_of items i start now b h
    ∙ ap (λ js. fold lesser start (flat_map key_of js)) is
    ∙ ap (fold lesser start) (verdicts_are rule xs xs)
