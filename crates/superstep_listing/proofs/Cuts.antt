-- A text is cut at a byte in one way.
use Rattle.std.proofs.Common.{◌≡◌, ℕ, zero, suc, List, [], ◌∷◌, ◌++◌, refl, sym, ap, ◌∙◌, ◌+◌, ◌<◌, length, get_or, take, drop, arith}
use Rattle.std.proofs.Common.{subst, ◌-◌, drop-cons, add-one, length-drop}
use Rattle.std.proofs.lemmas.List.{take-append-drop, take_all}
use Rattle.superstep_listing.specs.Cutting.{Lacks, IsCut}

pub lacks_below : (byte : ℕ) (text : List ℕ) (i : ℕ) → ((k : ℕ) → k < i → get_or text k 0 ≡ byte → ⊥) → Lacks byte (take i text)
lacks_below byte text zero h = tt
lacks_below byte [] (suc i) h = tt
lacks_below byte (b ∷ rest) (suc i) h = (h 0 (omega arith), lacks_below byte rest i (λ k below. h (suc k) (omega arith)))

pub lacks_all : (byte : ℕ) (text : List ℕ) → ((k : ℕ) → k < length text → get_or text k 0 ≡ byte → ⊥) → Lacks byte text
lacks_all byte [] h = tt
lacks_all byte (b ∷ rest) h = (h 0 (omega arith), lacks_all byte rest (λ k below. h (suc k) (omega arith)))

pub lacks-append : (byte : ℕ) (a b : List ℕ) → Lacks byte a → Lacks byte b → Lacks byte (a ++ b)
lacks-append byte [] b la lb = lb
lacks-append byte (x ∷ a) b la lb = (la.0, lacks-append byte a b la.1 lb)

-- nothing, or a text that begins with that byte
abbrev pub Follows : ℕ → List ℕ → Type 0
Follows byte [] = Unit {0}
Follows byte (b ∷ rest) = b ≡ byte

pub one_cut : (byte : ℕ) (a b x y : List ℕ) → Lacks byte a → Lacks byte b → Follows byte x → Follows byte y → a ++ x ≡ b ++ y →
    (a ≡ b) × (x ≡ y)
one_cut byte [] [] x y la lb fx fy e = (refl, e)
one_cut byte [] (c ∷ b) [] y la lb fx fy e = absurd (cc)
one_cut byte [] (c ∷ b) (d ∷ x) y la lb fx fy e = absurd (lb.0 (let same : d ≡ c = cc in sym same ∙ fx))
one_cut byte (c ∷ a) [] x [] la lb fx fy e = absurd (cc)
one_cut byte (c ∷ a) [] x (d ∷ y) la lb fx fy e = absurd (la.0 (let same : c ≡ d = cc in same ∙ fy))
one_cut byte (c ∷ a) (d ∷ b) x y la lb fx fy e =
    let head : c ≡ d = cc in
    let tail : a ++ x ≡ b ++ y = cc in
    let rest = one_cut byte a b x y la.1 lb.1 fx fy tail in
    (let front : a ≡ b = rest.0 in cc, rest.1)

pub has_none : (byte : ℕ) (front back : List ℕ) → Lacks byte (front ++ byte ∷ back) → ⊥
has_none byte [] back l = l.0 refl
has_none byte (b ∷ front) back l = has_none byte front back l.1

-- a text without the byte is no text with it
pub not_cut : (byte : ℕ) (text front back : List ℕ) → Lacks byte text → text ≡ front ++ byte ∷ back → ⊥
not_cut byte text front back l e = has_none byte front back (subst (Lacks byte) e l)

-- whatever text without the byte stands before it, that is the front
pub cut_as : {byte : ℕ} {text front back : List ℕ} (f b : List ℕ) → IsCut byte text front back → Lacks byte f → text ≡ f ++ byte ∷ b →
    (front ≡ f) × (back ≡ b)
cut_as {byte} {text} {front} {back} f b c l e =
    let both = one_cut byte front f (byte ∷ back) (byte ∷ b) c.lacks l refl refl (sym c.whole ∙ e) in
    (both.0, let rest : byte ∷ back ≡ byte ∷ b = both.1 in cc)

-- what stands behind the byte at i
rest_at : (text : List ℕ) (i : ℕ) → take (length text - (i + 1)) (drop (i + 1) text) ≡ drop (suc i) text
rest_at text i = take_all (length text - (i + 1)) (drop (i + 1) text) (simp length-drop (omega arith)) ∙ ap (λ n. drop n text) (add-one i)

-- the cut at the first such byte
pub cut_at : (byte : ℕ) (text : List ℕ) (i : ℕ) → ((k : ℕ) → k < i → get_or text k 0 ≡ byte → ⊥) → i < length text → get_or text i 0 ≡ byte
    → IsCut byte text (take i text) (take (length text - (i + 1)) (drop (i + 1) text))
cut_at byte text i before within here = record {
  whole = sym (take-append-drop i text) ∙ ap (λ l. take i text ++ l) (drop-cons text i 0 within ∙ ap (λ b. b ∷ drop (suc i) text) here
      ∙ ap (λ l. byte ∷ l) (sym (rest_at text i)));
  lacks = lacks_below byte text i before;
}
