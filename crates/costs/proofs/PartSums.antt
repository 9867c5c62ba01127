-- Accesses of parts, summed part by part.
use Rattle.std.proofs.Common.{◌≡◌, ℕ, ◌+◌, ◌*◌, ◌^◌, ◌<◌, ◌≤◌, List, ◌∷◌, map, drop, length, get_or, ap, sym, ◌∙◌, arith}
use Rattle.std.proofs.lemmas.List.{drop_more, drop_all}
use Rattle.std.proofs.lemmas.List.Sums.{sum_by-cons}
use Rattle.std.specs.List.{sum_by}
use Rattle.pram_meaning.specs.declared.part as part
use Rattle.pram_meaning.specs.Judging.{part_is}
use Rattle.costs.specs.Steps.{part_reads, part_writes}

abbrev parts_reads : List part.Part.Part → ℕ
parts_reads xs = sum_by part_reads (map part_is xs)

abbrev parts_writes : List part.Part.Part → ℕ
parts_writes xs = sum_by part_writes (map part_is xs)

pub record InReads (xs : List part.Part.Part) (i now : ℕ) : Type 0 where
  pub same : sum_by part_reads (map part_is xs) ≡ now + sum_by part_reads (map part_is (drop i xs))
  pub most : now ≤ i * 2 ^ 64

pub reads_start : (xs : List part.Part.Part) → InReads xs 0 0
reads_start xs = record { same = omega arith; most = omega arith }

pub reads_go : (xs : List part.Part.Part) (i : ℕ) (x : part.Part.Part) (now one new : ℕ) → InReads xs i now → i < length xs →
    x ≡ get_or xs i x → one ≡ part_reads (part_is x) → one < 2 ^ 64 → new ≡ now + one → InReads xs (i + 1) new
reads_go xs i x now one new b h is e f g =
    let a : parts_reads xs ≡ now + parts_reads (drop i xs) = b.same in
    let d : parts_reads (drop i xs) ≡ part_reads (part_is x) + parts_reads (drop (i + 1) xs) =
    ap parts_reads (drop_more xs i x h ∙ ap (λ y. y ∷ drop (i + 1) xs) (sym is))
    ∙ sum_by-cons part_reads (part_is x) (map part_is (drop (i + 1) xs)) in
    let m : now ≤ i * 2 ^ 64 = b.most in
    record { same = omega (arith, a, d, e, g); most = omega (arith, m, f, g) }

pub reads_end : (xs : List part.Part.Part) (i now : ℕ) → InReads xs i now → length xs ≤ i → now ≡ sum_by part_reads (map part_is xs)
reads_end xs i now b h =
    let a : parts_reads xs ≡ now + parts_reads (drop i xs) = b.same in
    let d : parts_reads (drop i xs) ≡ 0 = ap parts_reads (drop_all i xs h) in
    omega (arith, a, d)

pub record InWrites (xs : List part.Part.Part) (i now : ℕ) : Type 0 where
  pub same : sum_by part_writes (map part_is xs) ≡ now + sum_by part_writes (map part_is (drop i xs))
  pub most : now ≤ i

pub writes_start : (xs : List part.Part.Part) → InWrites xs 0 0
writes_start xs = record { same = omega arith; most = omega arith }

pub writes_go : (xs : List part.Part.Part) (i : ℕ) (x : part.Part.Part) (now one new : ℕ) → InWrites xs i now → i < length xs →
    x ≡ get_or xs i x → one ≡ part_writes (part_is x) → one ≤ 1 → new ≡ now + one → InWrites xs (i + 1) new
writes_go xs i x now one new b h is e f g =
    let a : parts_writes xs ≡ now + parts_writes (drop i xs) = b.same in
    let d : parts_writes (drop i xs) ≡ part_writes (part_is x) + parts_writes (drop (i + 1) xs) =
    ap parts_writes (drop_more xs i x h ∙ ap (λ y. y ∷ drop (i + 1) xs) (sym is))
    ∙ sum_by-cons part_writes (part_is x) (map part_is (drop (i + 1) xs)) in
    let m : now ≤ i = b.most in
    record { same = omega (arith, a, d, e, g); most = omega (arith, m, f, g) }

pub writes_end : (xs : List part.Part.Part) (i now : ℕ) → InWrites xs i now → length xs ≤ i → now ≡ sum_by part_writes (map part_is xs)
writes_end xs i now b h =
    let a : parts_writes xs ≡ now + parts_writes (drop i xs) = b.same in
    let d : parts_writes (drop i xs) ≡ 0 = ap parts_writes (drop_all i xs h) in
    omega (arith, a, d)
