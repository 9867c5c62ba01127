-- What processors do in a statement, listed one by one.
use Rattle.std.proofs.Common.{◌≡◌, ℕ, ℤ, ◌+◌, ◌<◌, ◌≤◌, List, [], ◌∷◌, ◌++◌, Option, map, drop, length, get_or, append_assoc, append-nil}
use Rattle.std.proofs.Common.{refl}
use Rattle.std.proofs.Common.{ap}
use Rattle.std.proofs.Common.{sym, ◌∙◌}
use Rattle.std.proofs.lemmas.List.{drop_more, drop_all}
use Rattle.pram_meaning.specs.declared.part as part
use Rattle.pram_meaning.specs.Attempt.{Trail}
use Rattle.pram_meaning.specs.Conflict.{Part}
use Rattle.pram_meaning.specs.Judging.{part_is}
use Rattle.journal.specs.declared.act as rust
use Rattle.journal.specs.Entries.{Act, act_is}
use Rattle.journal.specs.declared.reading.Reading.{Reading}
use Rattle.journal.specs.Acts.{reading_at, readings_from, reads_at, reads_in}

-- ---- reads

pub record InReadList (t : Trail) (i : ℕ) (now : List ℕ) : Type 0 where
  pub same : reads_in t ≡ now ++ reads_in (drop i t)

pub reads_start : (t : Trail) (now : List ℕ) → now ≡ [] → InReadList t 0 now
reads_start t now e = record { same = rw e refl }

pub reads_go : (t : Trail) (i : ℕ) (x : Option ℕ) (now new : List ℕ) → InReadList t i now → i < length t → x ≡ get_or t i x →
    new ≡ now ++ reads_at x → InReadList t (i + 1) new
reads_go t i x now new b h is e = record {
  same = b.same
      ∙ ap (λ xs. now ++ reads_in xs) (drop_more t i x h ∙ ap (λ y. y ∷ drop (i + 1) t) (sym is))
      ∙ sym (append_assoc now (reads_at x) (reads_in (drop (i + 1) t)))
      ∙ ap (λ k. k ++ reads_in (drop (i + 1) t)) (sym e);
}

pub reads_end : (t : Trail) (i : ℕ) (now : List ℕ) → InReadList t i now → length t ≤ i → now ≡ reads_in t
reads_end t i now b h = sym (b.same ∙ ap (λ xs. now ++ reads_in xs) (drop_all i t h) ∙ append-nil now)

-- ---- reads with their positions and values

pub record InReadings (cells : List ℤ) (t : Trail) (i position : ℕ) (now : List Reading) : Type 0 where
  pub counted : position ≡ i
  pub same : readings_from cells 1 t ≡ now ++ readings_from cells (position + 1) (drop i t)

pub readings_start : (cells : List ℤ) (t : Trail) (now : List Reading) → now ≡ [] → InReadings cells t 0 0 now
readings_start cells t now e = record { counted = refl; same = rw e refl }

pub readings_go : (cells : List ℤ) (t : Trail) (i position : ℕ) (x : Option ℕ) (now new : List Reading) →
    InReadings cells t i position now → i < length t → x ≡ get_or t i x → new ≡ now ++ reading_at cells (position + 1) x →
    InReadings cells t (i + 1) (position + 1) new
readings_go cells t i position x now new b h is e =
    let rest : List Reading = readings_from cells ((position + 1) + 1) (drop (i + 1) t) in record {
      counted = ap (λ n. n + 1) b.counted;
      same = b.same
          ∙ ap (λ xs. now ++ readings_from cells (position + 1) xs) (drop_more t i x h ∙ ap (λ y. y ∷ drop (i + 1) t) (sym is))
          ∙ sym (append_assoc now (reading_at cells (position + 1) x) rest)
          ∙ ap (λ k. k ++ rest) (sym e);
    }

pub readings_end : (cells : List ℤ) (t : Trail) (i position : ℕ) (now : List Reading) → InReadings cells t i position now →
    length t ≤ i → now ≡ readings_from cells 1 t
readings_end cells t i position now b h =
    sym (b.same ∙ ap (λ xs. now ++ readings_from cells (position + 1) xs) (drop_all i t h) ∙ append-nil now)

-- ---- acts, each by what F says of a part

pub record InActs (F : Part → Act) (xs : List part.Part.Part) (i : ℕ) (now : List rust.Act.Act) : Type 0 where
  pub same : map F (map part_is xs) ≡ map act_is now ++ map F (map part_is (drop i xs))

pub acts_start : (F : Part → Act) (xs : List part.Part.Part) (now : List rust.Act.Act) → now ≡ [] → InActs F xs 0 now
acts_start F xs now e = record { same = rw e refl }

map_push : (now : List rust.Act.Act) (x : rust.Act.Act) → map act_is (now ++ x ∷ []) ≡ map act_is now ++ act_is x ∷ []
map_push [] x = refl
map_push (y ∷ now) x = ap (λ r. act_is y ∷ r) (map_push now x)

pub acts_go : (F : Part → Act) (xs : List part.Part.Part) (i : ℕ) (x : part.Part.Part) (a : rust.Act.Act) (now new : List rust.Act.Act) →
    InActs F xs i now → i < length xs → x ≡ get_or xs i x → act_is a ≡ F (part_is x) → new ≡ now ++ a ∷ [] → InActs F xs (i + 1) new
acts_go F xs i x a now new b h is t e = record {
  same = b.same
      ∙ ap (λ ys. map act_is now ++ map F (map part_is ys)) (drop_more xs i x h ∙ ap (λ y. y ∷ drop (i + 1) xs) (sym is))
      ∙ ap (λ y. map act_is now ++ (y ∷ map F (map part_is (drop (i + 1) xs)))) (sym t)
      ∙ sym (append_assoc (map act_is now) (act_is a ∷ []) (map F (map part_is (drop (i + 1) xs))))
      ∙ ap (λ k. k ++ map F (map part_is (drop (i + 1) xs))) (sym (map_push now a))
      ∙ ap (λ k. map act_is k ++ map F (map part_is (drop (i + 1) xs))) (sym e);
}

pub acts_end : (F : Part → Act) (xs : List part.Part.Part) (i : ℕ) (now : List rust.Act.Act) → InActs F xs i now → length xs ≤ i →
    map act_is now ≡ map F (map part_is xs)
acts_end F xs i now b h =
    sym (b.same ∙ ap (λ ys. map act_is now ++ map F (map part_is ys)) (drop_all i xs h) ∙ append-nil (map act_is now))
