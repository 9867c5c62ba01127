-- An expansion, piece by piece.
use Rattle.std.proofs.Common.{◌≡◌, ℕ, zero, suc, ◌+◌, ◌-◌, Bool, true, false, List, [], ◌∷◌, ◌++◌, length, map}
use Rattle.std.proofs.Common.{Option, Some, None, Result, Ok, Err, refl, ap, nat_lt, subst}
use Rattle.std.specs.Prelude.{decimal, if◌then◌else◌}
use Rattle.pram_tokens.specs.Scanning.{longest}
use Rattle.sized_texts.specs.declared.fault.SizeFault.TheVariants.{TooLong}
use Rattle.sized_texts.specs.declared.size.Size.{Size}
use Rattle.sized_texts.specs.declared.stop.Wrong.{Wrong}
use Rattle.sized_texts.specs.Expansion.{expanded_by, expansion, itself, short, undeclared}
use Rattle.sized_texts.specs.Expressions.{braced}
use Rattle.sized_texts.specs.Faults.{in_text}
use Rattle.sized_texts.specs.Pieces.{Expansion, from_there, in_comment, opens, pieces, pieces_of}
use Rattle.sized_texts.specs.Reading.{◌>>=◌}
use Rattle.sized_texts.specs.SizeLines.{sizes_of}
use Rattle.sized_texts.proofs.Bound.{bind_ok}
use Rattle.sized_texts.proofs.Exits.{found_in}

-- the bytes and the places that a text from an offset on is expanded to
pub data IsPieces (sizes : List Size) : ℕ → Bool → ℕ → List ℕ → List ℕ → List ℕ → Type 0 where
  none : (skip at : ℕ) (comment : Bool) → IsPieces sizes skip comment at [] [] []
  skipped : (n at b : ℕ) (comment : Bool) (rest to places : List ℕ) → IsPieces sizes n comment (at + 1) rest to places →
      IsPieces sizes (suc n) comment at (b ∷ rest) to places
  number : (at b v : ℕ) (comment : Bool) (rest behind to places : List ℕ) → true ≡ opens comment b → braced sizes rest ≡ Ok (v, behind) →
      IsPieces sizes (length rest - length behind) false (at + 1) rest to places →
      IsPieces sizes 0 comment at (b ∷ rest) (decimal v ++ to) (map (λ _. at) (decimal v) ++ places)
  byte : (at b : ℕ) (comment : Bool) (rest to places : List ℕ) → false ≡ opens comment b →
      IsPieces sizes 0 (in_comment comment b) (at + 1) rest to places →
      IsPieces sizes 0 comment at (b ∷ rest) (b ∷ to) (at ∷ places)

from_there_ok : (bytes : List ℕ) (at : ℕ) (r : Result Expansion Wrong) (e : Expansion) → from_there bytes at r ≡ Ok e →
    (d : Expansion) × (r ≡ Ok d) × (bytes ++ d.text ≡ e.text) × (map (λ _. at) bytes ++ d.places ≡ e.places)
from_there_ok bytes at (Ok d) e is =
    let same : record { text = bytes ++ d.text; places = map (λ _. at) bytes ++ d.places } ≡ e = cc in
    (d, refl, ap (λ x. x.text) same, ap (λ x. x.places) same)
from_there_ok bytes at (Err w) e is = absurd (cc)

pub pieces_ok : (sizes : List Size) (skip : ℕ) (comment : Bool) (at : ℕ) (text : List ℕ) (e : Expansion) →
    pieces sizes skip comment at text ≡ Ok e → IsPieces sizes skip comment at text e.text e.places
pieces_ok sizes zero comment at [] e is =
    let same : record { text = []; places = [] } ≡ e = cc in
    subst (λ (x : Expansion). IsPieces sizes 0 comment at [] x.text x.places) same (none 0 at comment)
pieces_ok sizes (suc n) comment at [] e is =
    let same : record { text = []; places = [] } ≡ e = cc in
    subst (λ (x : Expansion). IsPieces sizes (suc n) comment at [] x.text x.places) same (none (suc n) at comment)
pieces_ok sizes (suc n) comment at (b ∷ rest) e is =
    skipped n at b comment rest e.text e.places (pieces_ok sizes n comment (at + 1) rest e is)
pieces_ok sizes zero comment at (b ∷ rest) e is =
    by (opens comment b) refl (λ n c d h. pieces_ok sizes n c (at + 1) rest d h) is
  where
    by : (o : Bool) → o ≡ opens comment b →
        ((n : ℕ) (c : Bool) (d : Expansion) → pieces sizes n c (at + 1) rest ≡ Ok d → IsPieces sizes n c (at + 1) rest d.text d.places) →
        (if o
        then (braced sizes rest >>= λ e. from_there (decimal e.0) at (pieces sizes (length rest - length e.1) false (at + 1) rest))
        else from_there (b ∷ []) at (pieces sizes 0 (in_comment comment b) (at + 1) rest)) ≡ Ok e →
        IsPieces sizes 0 comment at (b ∷ rest) e.text e.places
    by true opened on h =
        let x = bind_ok (braced sizes rest)
        (λ e. from_there (decimal e.0) at (pieces sizes (length rest - length e.1) false (at + 1) rest)) e h in
        let d = from_there_ok (decimal x.0.0) at (pieces sizes (length rest - length x.0.1) false (at + 1) rest) e x.2 in
        subst (λ t. IsPieces sizes 0 comment at (b ∷ rest) t e.places) d.2
        (subst (λ p. IsPieces sizes 0 comment at (b ∷ rest) (decimal x.0.0 ++ d.0.text) p) d.3
        (number at b x.0.0 comment rest x.0.1 d.0.text d.0.places opened x.1
        (on (length rest - length x.0.1) false d.0 d.1)))
    by false opened on h =
        let d = from_there_ok (b ∷ []) at (pieces sizes 0 (in_comment comment b) (at + 1) rest) e h in
        subst (λ t. IsPieces sizes 0 comment at (b ∷ rest) t e.places) d.2
        (subst (λ p. IsPieces sizes 0 comment at (b ∷ rest) (b ∷ d.0.text) p) d.3
        (byte at b comment rest d.0.text d.0.places opened (on 0 (in_comment comment b) d.0 d.1)))

-- how a text has an expansion: it has no sizes, or it is expanded by them
pub data IsExpandedBy (text : List ℕ) (e : Expansion) : List Size → Type 0 where
  plain : itself text ≡ e → IsExpandedBy text e []
  sized : (s : Size) (sizes : List Size) → IsPieces (s ∷ sizes) 0 false 0 text e.text e.places → IsExpandedBy text e (s ∷ sizes)

pub short_ok : (d e : Expansion) → short d ≡ Ok e → d ≡ e
short_ok d e is = by (nat_lt longest (length d.text)) is
  where
    by : (t : Bool) → (if t then Err TooLong else Ok d) ≡ Ok e → d ≡ e
    by true h = absurd (cc)
    by false h = cc

pub expanded_ok : (sizes : List Size) (text : List ℕ) (u : Option ℕ) (e : Expansion) → expanded_by sizes text u ≡ Ok e →
    IsExpandedBy text e sizes
expanded_ok sizes text (Some n) e is = absurd (cc)
expanded_ok [] text None e is = plain (cc)
expanded_ok (s ∷ sizes) text None e is =
    let d = bind_ok (in_text (length text) (pieces_of (s ∷ sizes) text)) short e is in
    let p = pieces_ok (s ∷ sizes) 0 false 0 text d.0 (found_in (length text) (pieces_of (s ∷ sizes) text) d.0 d.1) in
    sized s sizes (subst (λ (x : Expansion). IsPieces (s ∷ sizes) 0 false 0 text x.text x.places) (short_ok d.0 e d.2) p)

pub expansion_ok : (given : List Size) (text : List ℕ) (e : Expansion) → expansion given text ≡ Ok e →
    (sizes : List Size) × (sizes_of given text ≡ Ok sizes) × IsExpandedBy text e sizes
expansion_ok given text e is =
    let x = bind_ok (in_text (length text) (sizes_of given text)) (λ sizes. expanded_by sizes text (undeclared sizes given)) e is in
    (x.0, found_in (length text) (sizes_of given text) x.0 x.1, expanded_ok x.0 text (undeclared x.0 given) e x.2)
