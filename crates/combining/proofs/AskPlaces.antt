-- Where asks stand, and their values.
use Rattle.std.proofs.Common.{◌≡◌, ℕ, zero, suc, ◌<◌, List, [], ◌∷◌, length, map, pos, get_or, Bool, true, false, refl, sym, ap, ◌∙◌, arith}
use Rattle.std.proofs.Common.{eqb}
use Rattle.std.specs.Prelude.{if◌then◌else◌}
use Rattle.combining.specs.Asked.{Asked}
use Rattle.combining.specs.Places.{place_of}
use Rattle.combining.specs.Held.{paired}
use Rattle.combining.specs.Asked.{HeldAsk, value_there, ask_at, ask_key, key_of, marked_twice, ask, answered, replied, value_for}
use Rattle.combining.specs.Asked.{place_held, value_held}
use Rattle.combining.specs.Asked.{ValueStandsAtItsPlace, RepliesMoveNothing, AsksMoveNothing}
use Rattle.combining.proofs.Asking.{meant_at}

pub place_paired : (read cell : ℕ) (ks : List ℕ) (xs : List Asked) → length xs ≡ length ks →
    place_held read cell (paired ask_at ks xs) ≡ place_of (ask_key read cell) ks
place_paired read cell [] xs n = refl
place_paired read cell (k ∷ ks) [] n = absurd (omega (arith, n))
place_paired read cell (k ∷ ks) (x ∷ xs) n =
    ap (λ b. if b then 0 else suc (place_held read cell (paired ask_at ks xs))) (meant_at read cell k x)
    ∙ ap (λ i. if eqb k (ask_key read cell) then 0 else suc i) (place_paired read cell ks xs (omega (arith, n)))

pub value_paired : (ks : List ℕ) (xs : List Asked) (i : ℕ) (x : Asked) → length xs ≡ length ks → i < length xs → x ≡ get_or xs i x →
    x.value ≡ value_held (paired ask_at ks xs) i
value_paired [] xs i x n l is = absurd (omega (arith, n, l))
value_paired (k ∷ ks) [] i x n l is = absurd (omega (arith, l))
value_paired (k ∷ ks) (y ∷ xs) zero x n l is = ap (λ (w : Asked). w.value) is
value_paired (k ∷ ks) (y ∷ xs) (suc i) x n l is = value_paired ks xs i x (omega (arith, n)) (omega (arith, l)) is

pub value_stands : ValueStandsAtItsPlace
value_stands read cell [] = refl
value_stands read cell (x ∷ rest) = go (eqb (key_of x.ask) (ask_key read cell)) (value_stands read cell rest)
  where
    go : (b : Bool) → value_for read cell rest ≡ value_held rest (place_held read cell rest)
        → (if b then x.value else value_for read cell rest) ≡ value_held (x ∷ rest) (if b then 0 else suc (place_held read cell rest))
    go true e = refl
    go false e = e

pub values_paired : (ks : List ℕ) (xs : List Asked) → length xs ≡ length ks →
    map (λ (x : HeldAsk). x.value) (paired ask_at ks xs) ≡ map (λ (x : Asked). x.value) xs
values_paired [] [] n = refl
values_paired [] (x ∷ xs) n = absurd (omega (arith, n))
values_paired (k ∷ ks) [] n = absurd (omega (arith, n))
values_paired (k ∷ ks) (x ∷ xs) n = ap (λ vs. x.value ∷ vs) (values_paired ks xs (omega (arith, n)))

pub value_is_there : (read cell : ℕ) (ks : List ℕ) (xs : List Asked) → length xs ≡ length ks →
    value_there xs (place_of (ask_key read cell) ks) ≡ value_for read cell (paired ask_at ks xs)
value_is_there read cell ks xs n =
    sym (value_stands read cell (paired ask_at ks xs) ∙ ap (value_held (paired ask_at ks xs)) (place_paired read cell ks xs n)
    ∙ ap (λ vs. get_or vs (place_of (ask_key read cell) ks) (pos 0)) (values_paired ks xs n))

pub replies_move_nothing : RepliesMoveNothing
replies_move_nothing part j ws read cell [] = refl
replies_move_nothing part j [] read cell (x ∷ rest) = refl
replies_move_nothing part j (w ∷ ws) read cell (x ∷ rest) =
    go (eqb (part x.ask.cell) j) (replies_move_nothing part j ws read cell rest) (replies_move_nothing part j (w ∷ ws) read cell rest)
  where
    go : (b : Bool) → place_held read cell (replied part j ws rest) ≡ place_held read cell rest →
        place_held read cell (replied part j (w ∷ ws) rest) ≡ place_held read cell rest
        → place_held read cell (if b then answered x w ∷ replied part j ws rest else x ∷ replied part j (w ∷ ws) rest) ≡ place_held read
        cell (x ∷ rest)
    go true e f = ap (λ i. if eqb (key_of x.ask) (ask_key read cell) then 0 else suc i) e
    go false e f = ap (λ i. if eqb (key_of x.ask) (ask_key read cell) then 0 else suc i) f

pub asks_move_nothing : AsksMoveNothing
asks_move_nothing read cell r c [] l = absurd (omega (arith, l))
asks_move_nothing read cell r c (x ∷ rest) l =
    go (eqb (key_of x.ask) (ask_key r c)) (eqb (key_of x.ask) (ask_key read cell)) refl (asks_move_nothing read cell r c rest)
  where
    go : (a b : Bool) → eqb (key_of x.ask) (ask_key read cell) ≡ b →
        (place_held read cell rest < length rest → place_held read cell (ask r c rest) ≡ place_held read cell rest)
        → place_held read cell (if a then marked_twice x ∷ rest else x ∷ ask r c rest) ≡ place_held read cell (x ∷ rest)
    go true b s e = refl
    go false true s e =
        ap (λ t. if t then 0 else suc (place_held read cell (ask r c rest))) s
        ∙ sym (ap (λ t. if t then 0 else suc (place_held read cell rest)) s)
    go false false s e =
        let i = ap (λ t. if t then 0 else suc (place_held read cell rest)) s in
        let inner : place_held read cell rest < length rest = omega (arith, l, i) in
        ap (λ n. if eqb (key_of x.ask) (ask_key read cell) then 0 else suc n) (e inner)
