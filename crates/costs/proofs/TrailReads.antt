-- The reads of a trail, counted one by one.
use Rattle.std.proofs.Common.{◌≡◌, ℕ, ◌+◌, ◌<◌, ◌≤◌, ◌∷◌, Option, Some, None, drop, length, get_or, refl, ap, sym, ◌∙◌, arith}
use Rattle.std.proofs.lemmas.List.{drop_more, drop_all}
use Rattle.pram_meaning.specs.Attempt.{Trail}
use Rattle.costs.specs.Steps.{reads_on, writes_to}

pub record InTrail (t : Trail) (i : ℕ) (now : ℕ) : Type 0 where
  pub same : reads_on t ≡ now + reads_on (drop i t)
  pub few : now ≤ i

pub reads_start : (t : Trail) → InTrail t 0 0
reads_start t = record { same = omega arith; few = omega arith }

one_more : (c : Option ℕ) (t : Trail) → reads_on (c ∷ t) ≡ writes_to c + reads_on t
one_more None t = omega arith
one_more (Some c) t = refl

at_most_one : (c : Option ℕ) → writes_to c ≤ 1
at_most_one None = omega arith
at_most_one (Some c) = omega arith

pub reads_go : (t : Trail) (i : ℕ) (c : Option ℕ) (now new : ℕ) → InTrail t i now → i < length t → c ≡ get_or t i c →
    new ≡ now + writes_to c → InTrail t (i + 1) new
reads_go t i c now new b h is e =
    let a : reads_on t ≡ now + reads_on (drop i t) = b.same in
    let d : reads_on (drop i t) ≡ reads_on (c ∷ drop (i + 1) t) = ap reads_on (drop_more t i c h ∙ ap (λ x. x ∷ drop (i + 1) t) (sym is)) in
    let o : reads_on (c ∷ drop (i + 1) t) ≡ writes_to c + reads_on (drop (i + 1) t) = one_more c (drop (i + 1) t) in
    let w = at_most_one c in
    let f : now ≤ i = b.few in
    record { same = omega (arith, a, d, o, e); few = omega (arith, w, f, e) }

pub reads_end : (t : Trail) (i : ℕ) (now : ℕ) → InTrail t i now → length t ≤ i → now ≡ reads_on t
reads_end t i now b h =
    let a : reads_on t ≡ now + reads_on (drop i t) = b.same in
    let d : reads_on (drop i t) ≡ 0 = ap reads_on (drop_all i t h) in
    omega (arith, a, d)
