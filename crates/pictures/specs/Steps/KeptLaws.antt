-- The laws of what is kept of entries as they come: it is the same behind none, and entries come behind entries.
use Rattle.std.proofs.Common.{◌≡◌, ℕ, List, [], ◌++◌, append_assoc, append-nil, arith, length, subst, sym}
use Rattle.std.proofs.lemmas.List.{length-append}
use Rattle.journal.specs.Between.{between}
use Rattle.journal.specs.Entries.{Entry}
use Rattle.pictures.specs.Steps.Kept.{Keeps, KeepsAsked}
use Rattle.pictures.specs.declared.steps.excerpt.Excerpt.{Excerpt}

pub keeps_nothing : (first last count : ℕ) (x : Excerpt) → KeepsAsked first last count count x x []
keeps_nothing first last count x = record {
  counted = omega arith;
  kept = λ before l h. subst (λ es. Keeps x (between first last es)) (sym (append-nil before)) h;
}

both_kept : (first last count mid late : ℕ) (a b c : Excerpt) (xs ys : List Entry) → KeepsAsked first last count mid a b xs →
    KeepsAsked first last mid late b c ys → KeepsAsked first last count late a c (xs ++ ys)
both_kept first last count mid late a b c xs ys h g = record {
  counted = let u = h.counted in let v = g.counted in let w = length-append xs ys in omega (arith, u, v, w);
  kept = λ before l is.
      let u = h.counted in
      let w = length-append before xs in
      let long : length (before ++ xs) ≡ mid = omega (arith, u, w, l) in
      subst (λ es. Keeps c (between first last es)) (append_assoc before xs ys) (g.kept (before ++ xs) long (h.kept before l is));
}

pub keeps_on : (first last from to count mid late : ℕ) (a b c : Excerpt) (xs ys : List Entry) → from ≡ first → to ≡ last →
    KeepsAsked first last count mid a b xs → KeepsAsked from to mid late b c ys → KeepsAsked first last count late a c (xs ++ ys)
keeps_on first last from to count mid late a b c xs ys f l h g =
    both_kept first last count mid late a b c xs ys h
    (subst (λ from. KeepsAsked from last mid late b c ys) f (subst (λ to. KeepsAsked from to mid late b c ys) l g))
