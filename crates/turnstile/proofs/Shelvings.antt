-- How the pieces of a block come back, one after the other.
use Rattle.std.proofs.Common.{◌≡◌, ℕ, zero, suc, ◌+◌, ◌*◌, ◌<◌, ◌≢◌, ◌⊎◌, Bool, false, List, [], ◌∷◌, ◌++◌, map, length, get_or, set}
use Rattle.std.proofs.Common.{Option, Some, None, slice_get, sym, refl, ap, ◌∙◌, subst, inl, inr, ⊎_elim, length-append, get_or-set_other}
use Rattle.std.proofs.Common.{arith}
use mathlib.Core.Logic.{dite}
use mathlib.Core.Option.{some, some-injective}
use native.Mathlib.Decide.{ℕ_discrete}
use lib.ListN.{get_elem?}
use Rattle.std.specs.Option.{IsSome}
use Rattle.exchange_arena.specs.Piece.{PieceState, emptied_piece}
use Rattle.exchange_arena.specs.Block.{BlockShape, piece_at, pieces_of, Covers}
use Rattle.exchange_arena.proofs.PieceLists.{still_empty, in_order_cover}
use Rattle.turnstile.specs.Shelves.{Offers, EmptyBelow, FullBetween}

-- these are the pieces of the first n places, in order, whatever they hold
abbrev pub StandFirst : BlockShape → ℕ → List PieceState → Type 0
StandFirst b n xs = (length xs ≡ n) × ((k : ℕ) (x : PieceState) → slice_get xs k ≡ Some x → emptied_piece x ≡ piece_at b k)

module _ {A : Type 0} where
  pub get_end : (l : List A) (a b : A) (j : ℕ) → slice_get (l ++ a ∷ []) j ≡ Some b → (slice_get l j ≡ Some b) ⊎ ((j ≡ length l) × (a ≡ b))
  get_end [] a b zero e = inr (refl, (let h : Option.Some a ≡ Some b = e in cc))
  get_end [] a b (suc j) e = inl e
  get_end (x ∷ xs) a b zero e = inl e
  get_end (x ∷ xs) a b (suc j) e = ⊎_elim inl (λ t. inr (ap suc t.0, t.1)) (get_end xs a b j e)

  -- what is left in front, where fewer were moved than there were
  pub some_left : (xs ps : List A) (zs ys : List (Option A)) → map Some xs ++ zs ≡ map Some ps ++ ys → length xs < length ps →
      (p : A) × (t : List (Option A)) × (zs ≡ Some p ∷ t)
  some_left xs [] zs ys e lt = absurd (omega arith)
  some_left [] (p ∷ ps) zs ys e lt = (p, map Some ps ++ ys, e)
  some_left (x ∷ xs) (p ∷ ps) zs ys e lt = some_left xs ps zs ys (let h : map Some xs ++ zs ≡ map Some ps ++ ys = cc in h) (omega arith)

  pub all_moved : (xs ps : List A) (zs ys : List (Option A)) → map Some xs ++ zs ≡ map Some ps ++ ys → length xs ≡ length ps →
      (xs ≡ ps) × (zs ≡ ys)
  all_moved [] [] zs ys e len = (refl, e)
  all_moved [] (p ∷ ps) zs ys e len = absurd (omega arith)
  all_moved (x ∷ xs) [] zs ys e len = absurd (omega arith)
  all_moved (x ∷ xs) (p ∷ ps) zs ys e len =
      let h = all_moved xs ps zs ys (let r : map Some xs ++ zs ≡ map Some ps ++ ys = cc in r) (omega arith) in
      let a : x ≡ p = cc in ((λ q. a q ∷ h.0 q), h.1)

pub is_some_of : {A : Type 0} (o : Option A) (x : A) → o ≡ Some x → IsSome o
is_some_of (Some y) x e = refl
is_some_of None x e = absurd (cc)

pub cover_themselves : (b : BlockShape) (xs : List PieceState) → xs ≡ pieces_of b → Covers b xs
cover_themselves b xs e = ap (map emptied_piece) e ∙ still_empty b (b.side * b.side)

pub one_more_stands : (b : BlockShape) (n : ℕ) (xs : List PieceState) (x : PieceState) → StandFirst b n xs →
    emptied_piece x ≡ piece_at b n → StandFirst b (n + 1) (xs ++ x ∷ [])
one_more_stands b n xs x h e = (
  length-append xs (x ∷ []) ∙ ap (λ (z : ℕ). z + 1) h.0,
  λ k y got. ⊎_elim (λ old. h.1 k y old) (λ t. ap emptied_piece (sym t.1) ∙ e ∙ ap (piece_at b) (sym (t.0 ∙ h.0))) (get_end xs x y k got),
)

pub all_stand : (b : BlockShape) (n : ℕ) (xs : List PieceState) → n ≡ b.side * b.side → StandFirst b n xs → Covers b xs
all_stand b n xs all h = in_order_cover b xs (record { count = h.0 ∙ all; places = h.1 })

-- what was taken out of the slot is the piece that belongs there
pub offered : (b : BlockShape) (first k : ℕ) (xs : List (Option PieceState)) (o : Option PieceState) → Offers b first xs →
    k < b.side * b.side → get_elem? xs (first + k) ≡ some o → (x : PieceState) × (o ≡ Some x) × (emptied_piece x ≡ piece_at b k)
offered b first k xs o h lk e = let q = h k lk in (q.0, some-injective o (Some q.0) (sym e ∙ q.1), q.2)

pub still_full : (fs fs' : List Bool) (k n : ℕ) → fs' ≡ set fs k false → FullBetween k n fs → FullBetween (k + 1) n fs'
still_full fs fs' k n e h j lo hi = ap (λ (l : List Bool). get_or l j false) e ∙ get_or-set_other fs k j false false (λ q. omega arith)
    ∙ h j (omega arith) hi

pub one_more_empty : (fs fs' : List Bool) (k : ℕ) → fs' ≡ set fs k false → EmptyBelow k fs → EmptyBelow (k + 1) fs'
one_more_empty fs fs' k e h j lt = ap (λ (l : List Bool). get_or l j false) e ∙ dite (ℕ_discrete j k)
    (λ (s : j ≡ k). subst (λ (z : ℕ). get_or (set fs k false) z false ≡ false) (sym s) (here fs k))
    (λ n. get_or-set_other fs k j false false n ∙ h j (let m : j ≢ k = n in omega arith))
  where
    here : (l : List Bool) (i : ℕ) → get_or (set l i false) i false ≡ false
    here [] i = refl
    here (b ∷ bs) zero = refl
    here (b ∷ bs) (suc i) = here bs i
