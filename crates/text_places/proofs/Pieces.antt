-- A text that is written in pieces: two, or byte by byte.
use Rattle.std.proofs.Common.{◌≡◌, ◌∙◌, ◌<◌, ◌+◌, ◌++◌, ◌∷◌, [], List, ℕ, ap, drop, get_or, length, map, subst, sym}
use Rattle.std.proofs.lemmas.List.{drop_more}
use Rattle.std.specs.Prelude.{Result, Ok, Err, IsErrAnd}
use Rattle.text_out.specs.Out.{OutState, StopsIn, Writes, with_bytes}
use Rattle.text_out.proofs.Writing.{stops_before, stops_behind, writes_stopped, writes_then}

-- the writer stopped in the first of the two pieces of a text, by an error that is handed on
pub stops_in_first : {E : Type 0} (old new : OutState) (all a b : List ℕ) (r : Result Unit E) (P : E → Type 0) → all ≡ a ++ b →
    IsErrAnd r P →
    StopsIn old new a → Writes old new all r
stops_in_first old new all a b r P whole is stops =
    writes_stopped old new all r P is (subst (StopsIn old new) (sym whole) (stops_before b stops))

joins : {E : Type 0} (old mid new : OutState) (a b : List ℕ) (r : Result Unit E) → mid ≡ with_bytes old a → Writes mid new b r →
    Writes old new (a ++ b) r
joins old mid new a b (Ok u) first second = writes_then old mid new a b first second
joins old mid new a b (Err e) first second = stops_behind old mid new a b first second

-- the first of the two pieces of a text was written whole, and then the second, whatever came of it
pub both : {E : Type 0} (old mid new : OutState) (all a b : List ℕ) (r : Result Unit E) → all ≡ a ++ b → mid ≡ with_bytes old a →
    Writes mid new b r → Writes old new all r
both old mid new all a b r whole first second =
    subst (λ t. Writes old new t r) (sym whole) (joins old mid new a b r first second)

-- the byte at i as it is shown, and those behind it
pub mapped_at : (f : ℕ → ℕ) (xs : List ℕ) (i c : ℕ) → i < length xs → c ≡ f (get_or xs i 0) →
    map f (drop i xs) ≡ (c ∷ []) ++ map f (drop (i + 1) xs)
mapped_at f xs i c below is =
    ap (map f) (drop_more xs i 0 below) ∙ ap (λ d. d ∷ map f (drop (i + 1) xs)) (sym is)
