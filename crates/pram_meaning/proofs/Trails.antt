-- The reads along a trail, and the least of all keys.
use Rattle.std.proofs.Common.{◌≡◌, List, [], ◌++◌, refl, ap, sym, ◌∙◌, Option, None, true, false, Result, Ok, Err, if◌then◌else◌}
use Rattle.std.proofs.lemmas.List.Sums.{fold-append}
use Rattle.std.specs.List.{fold, flat_map}
use Rattle.pram_meaning.specs.declared.part as part
use Rattle.pram_meaning.specs.declared.attempt as rust
use Rattle.pram_meaning.specs.Attempt.{Trail}
use Rattle.pram_meaning.specs.Conflict.{Part, conflict_of, fault_of, keys, least, lesser, read_conflicts, reads_of, trail_of}
use Rattle.pram_meaning.specs.Conflict.{write_conflict}
use Rattle.write_rules.specs.Rule.{shares_reads}
use Rattle.pram_meaning.specs.Judging.{attempt_is, part_is}
use Rattle.pram_meaning.specs.declared.key.Key.{Key}
use Rattle.pram_model.specs.declared.rule.Rule.{Rule}
use Rattle.pram_values.specs.declared.kind.Kind.{Kind}

trail_at : (t : Trail) (r : Result rust.Effect.Effect Kind) → trail_of (attempt_is t r) ≡ t
trail_at t (Ok g) = refl
trail_at t (Err k) = refl

pub trail_is : (x : part.Part.Part) → trail_of (part_is x).attempt ≡ x.trail.items
trail_is x = trail_at x.trail.items x.outcome

abbrev faults : List Part → List Key
faults = flat_map (λ x. fault_of x.processor x.attempt)

abbrev writes : Rule → List Part → List Key
writes rule xs = flat_map (λ x. write_conflict rule xs x.attempt) xs

keys_split : (rule : Rule) (xs : List Part) →
    least (keys rule xs) ≡ fold lesser (fold lesser (fold lesser None (faults xs)) (read_conflicts rule (reads_of xs))) (writes rule xs)
keys_split rule xs =
    fold-append lesser None (faults xs ++ read_conflicts rule (reads_of xs)) (writes rule xs)
    ∙ ap (λ k. fold lesser k (writes rule xs)) (fold-append lesser None (faults xs) (read_conflicts rule (reads_of xs)))

pub keys_are : (rule : Rule) (xs : List Part) (a b c : Option Key) → shares_reads rule ≡ false → a ≡ fold lesser None (faults xs) →
    b ≡ fold lesser a (flat_map (conflict_of (reads_of xs)) (reads_of xs)) → c ≡ fold lesser b (writes rule xs) → c ≡ least (keys rule xs)
keys_are rule xs a b c sh ea eb ec =
    let r : read_conflicts rule (reads_of xs) ≡ flat_map (conflict_of (reads_of xs)) (reads_of xs) =
    ap (λ z. if z then [] else flat_map (conflict_of (reads_of xs)) (reads_of xs)) sh in
    ec
    ∙ ap (λ k. fold lesser k (writes rule xs)) (eb ∙ ap (λ k. fold lesser k (flat_map (conflict_of (reads_of xs)) (reads_of xs))) ea
    ∙ ap (fold lesser (fold lesser None (faults xs))) (sym r))
    ∙ sym (keys_split rule xs)

pub keys_are_shared : (rule : Rule) (xs : List Part) (a c : Option Key) → shares_reads rule ≡ true → a ≡ fold lesser None (faults xs) →
    c ≡ fold lesser a (writes rule xs) → c ≡ least (keys rule xs)
keys_are_shared rule xs a c sh ea ec =
    let r : read_conflicts rule (reads_of xs) ≡ [] = ap (λ z. if z then [] else flat_map (conflict_of (reads_of xs)) (reads_of xs)) sh in
    ec
    ∙ ap (λ k. fold lesser k (writes rule xs)) (ea ∙ ap (fold lesser (fold lesser None (faults xs))) (sym r))
    ∙ sym (keys_split rule xs)
