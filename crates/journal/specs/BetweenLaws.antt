-- The laws of entries that are kept from one number to another: they are the same behind none, and entries come behind entries.
use Rattle.std.proofs.Common.{◌≡◌, ◌∙◌, ℕ, List, [], ◌++◌, append_assoc, append-nil, ap, arith, length, subst, sym}
use Rattle.std.proofs.lemmas.List.{length-append}
use Rattle.journal.specs.Entries.{Entry}
use Rattle.journal.specs.Between.{KeepsBetween, between}

pub between_nothing : (first last count : ℕ) (es : List Entry) → KeepsBetween first last count count es es []
between_nothing first last count es = record {
  counted = omega arith;
  kept = λ before l is. is ∙ ap (between first last) (sym (append-nil before));
}

both_kept : (first last count mid late : ℕ) (a b c xs ys : List Entry) → KeepsBetween first last count mid a b xs →
    KeepsBetween first last mid late b c ys → KeepsBetween first last count late a c (xs ++ ys)
both_kept first last count mid late a b c xs ys h g = record {
  counted = let u = h.counted in let v = g.counted in let w = length-append xs ys in omega (arith, u, v, w);
  kept = λ before l is.
      let u = h.counted in
      let w = length-append before xs in
      let long : length (before ++ xs) ≡ mid = omega (arith, u, w, l) in
      g.kept (before ++ xs) long (h.kept before l is) ∙ ap (between first last) (append_assoc before xs ys);
}

pub between_on : (first last from to count mid late : ℕ) (a b c xs ys : List Entry) → from ≡ first → to ≡ last →
    KeepsBetween first last count mid a b xs → KeepsBetween from to mid late b c ys → KeepsBetween first last count late a c (xs ++ ys)
between_on first last from to count mid late a b c xs ys f l h g =
    both_kept first last count mid late a b c xs ys h
    (subst (λ from. KeepsBetween from last mid late b c ys) f (subst (λ to. KeepsBetween from to mid late b c ys) l g))
