-- What is handed on where a function answered an error, or something.
use Rattle.std.proofs.Common.{◌≡◌, ℕ, Result, Ok, Err, refl, sym, ap, ◌∙◌, subst}
use Rattle.std.specs.Prelude.{IsErrAnd}
use Rattle.sized_texts.specs.declared.fault.SizeFault.{SizeFault}
use Rattle.sized_texts.specs.declared.fault.SizeFault.TheVariants.{BadSize, TooLong, NotDeclared, OutOfMemory}
use Rattle.sized_texts.specs.declared.stop.Wrong.{Wrong}
use Rattle.sized_texts.specs.Faults.{Answers, fault_in, in_text}

-- what is found in a text is found
pub found_in : {A : Type 0} (total : ℕ) (r : Result A Wrong) (x : A) → in_text total r ≡ Ok x → r ≡ Ok x
found_in total (Ok y) x is = let e : y ≡ x = cc in ap Ok e
found_in total (Err w) x is = absurd (cc)

-- a fault of a part is one of the whole
of_whole : {A B : Type 0} (total : ℕ) (part : Result A Wrong) (whole : Result B Wrong) (f : SizeFault) →
    ((w : Wrong) → part ≡ Err w → whole ≡ Err w) → in_text total part ≡ Err f → in_text total whole ≡ Err f
of_whole total (Ok x) whole f goes is = absurd (cc)
of_whole total (Err w) whole f goes is = ap (in_text total) (goes w refl) ∙ (let e : fault_in total w ≡ f = cc in ap Err e)

-- the error of a part of the work is answered for all of it
pub leaves : {X Y A B : Type 0} (view : X → B) (look : Y → A) (r : Result X SizeFault) (e : SizeFault) → IsErrAnd r (λ f. f ≡ e) →
    (total : ℕ) (part : Result A Wrong) (whole : Result B Wrong) → Answers look (Err e) (in_text total part) →
    ((w : Wrong) → part ≡ Err w → whole ≡ Err w) → Answers view r (in_text total whole)
leaves view look (Ok x) e is total part whole fault goes = absurd is
leaves {Y = Y} {A = A} view look (Err f) e is total part whole fault goes =
    by f (subst (λ g. Answers look (Err g) (in_text total part)) (sym is) fault)
  where
    by : (f : SizeFault) → Answers {X = Y} {Y = A} look (Err f) (in_text total part) → Answers view (Err f) (in_text total whole)
    by OutOfMemory h = tt
    by (BadSize at r) h = of_whole total part whole (BadSize at r) goes h
    by TooLong h = of_whole total part whole TooLong goes h
    by (NotDeclared i) h = of_whole total part whole (NotDeclared i) goes h
