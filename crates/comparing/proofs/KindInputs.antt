-- One input of a kind more.
use Rattle.std.proofs.Common.{◌≡◌, ◌⊎◌, ◌+◌, ◌++◌, ◌∷◌, [], ◌<◌, ◌≤◌, ℕ, ℤ}
use Rattle.std.proofs.Common.{List, length-append, Option, get_or, ap, arith, inl, inr, refl, subst, sym}
use Rattle.std.proofs.lemmas.Bool.{cases_lt}
use Rattle.std.proofs.lemmas.List.{get_or_append_left, get_or_push}
use Rattle.drawn_kinds.specs.Kinds.{IsDrawn}
use Rattle.drawn_kinds.specs.declared.kind.DrawnKind.{DrawnKind}
use Rattle.pram_check.specs.Checked.{Checked}
use Rattle.scopes.proofs.Lists.{take_over}
use Rattle.comparing.specs.declared.compared.Compared.{Compared}
use Rattle.comparing.specs.Found.{AreOfKind, Differing, found, nothing}

pub kind_none : (kind : DrawnKind) (seed cells : ℕ) → AreOfKind kind seed cells 0 []
kind_none kind seed cells = record { counted = refl; drawn = λ k l. absurd (omega (arith, l)) }

pub kind_more : (kind : DrawnKind) (seed cells turn : ℕ) (inputs : List (List ℤ)) (input : List ℤ) →
    AreOfKind kind seed cells turn inputs → IsDrawn kind (seed + turn) cells input → AreOfKind kind seed cells (turn + 1) (inputs ++ input ∷ [])
kind_more kind seed cells turn inputs input before is = record {
  counted = omega (arith, length-append inputs (input ∷ []), before.counted);
  drawn = λ k l. by k (cases_lt k turn) l;
}
  where
    by : (k : ℕ) → (k < turn) ⊎ (turn ≤ k) → k < turn + 1 → IsDrawn kind (seed + k) cells (get_or (inputs ++ input ∷ []) k [])
    by k (inl less) l =
        subst (IsDrawn kind (seed + k) cells) (sym (get_or_append_left inputs (input ∷ []) [] k (omega (arith, before.counted, less))))
        (before.drawn k less)
    by k (inr more) l =
        let at : k ≡ turn = omega (arith, more, l) in
        subst (IsDrawn kind (seed + k) cells) (sym (get_or_push inputs input [] k (omega (arith, before.counted, at))))
        (subst (λ n. IsDrawn kind (seed + n) cells input) (sym at) is)

-- of no inputs nothing is found
pub none_found : (w : Option Checked) (p q : Checked) (c : Compared) (n most : ℕ) → found w p q c n most [] ≡ nothing
none_found w p q c n most =
    ap (λ (ds : List Differing). record nothing { told = ds }) (take_over {X = Differing} [] most (omega arith))
