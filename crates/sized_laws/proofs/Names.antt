-- Sizes of the same names with other numbers.
use Rattle.std.proofs.Common.{◌≡◌, ℕ, zero, suc, ◌+◌, ◌==◌, Bool, true, false, not, ◌||◌, List, [], ◌∷◌, ◌++◌, length, take}
use Rattle.std.proofs.Common.{Option, Some, None, Result, Ok, Err, refl, sym, ap, ◌∙◌, cond, nat_lt}
use Rattle.std.specs.Prelude.{if◌then◌else◌}
use Rattle.std.specs.List.{find, prefix_len}
use Rattle.std.specs.Option.{option_map}
use Rattle.pram_model.specs.Names.{is_keyword, same_text}
use Rattle.pram_tokens.specs.Lexemes.{is_blank}
use Rattle.sized_texts.specs.declared.reason.Reason.{Reason}
use Rattle.sized_texts.specs.declared.reason.Reason.TheVariants as reason
use Rattle.sized_texts.specs.declared.size.Size.{Size}
use Rattle.sized_texts.specs.declared.stop.Wrong.{Wrong}
use Rattle.sized_texts.specs.Expansion.{undeclared}
use Rattle.sized_texts.specs.Expressions.{function_atom}
use Rattle.sized_texts.specs.Reading.{◌>>=◌, placed}
use Rattle.sized_texts.specs.SizeLines.{begins_name, comment_length, declaration, declare, head, is_none, line_of, number_in, size_of}
use Rattle.sized_texts.specs.Sizes.{value_in}
use Rattle.sized_laws.proofs.Heads.{turn}
use Rattle.sized_texts.proofs.Bound.{bind_ok}

abbrev pub names : List Size → List (List ℕ)
names [] = []
names (s ∷ sizes) = s.name ∷ names sizes

-- sizes that were found, which have the names of these
abbrev pub HasNames : List Size → Result (List Size) Wrong → Type 0
HasNames sizes found = (more : List Size) × (found ≡ Ok more) × (names sizes ≡ names more)

names_more : (a b : List Size) (s u : Size) → names a ≡ names b → s.name ≡ u.name → names (a ++ s ∷ []) ≡ names (b ++ u ∷ [])
names_more [] [] s u same last = ap (λ n. n ∷ []) last
names_more [] (y ∷ b) s u same last = absurd (cc)
names_more (x ∷ a) [] s u same last = absurd (cc)
names_more (x ∷ a) (y ∷ b) s u same last =
    let first : x.name ≡ y.name = cc in
    let rest : names a ≡ names b = cc in
    let on = names_more a b s u rest last in cc

unknown_same : (a b : List Size) (name : List ℕ) → names a ≡ names b → is_none (value_in a name) ≡ is_none (value_in b name)
unknown_same [] [] name same = refl
unknown_same [] (y ∷ b) name same = absurd (cc)
unknown_same (x ∷ a) [] name same = absurd (cc)
unknown_same (x ∷ a) (y ∷ b) name same =
    let first : x.name ≡ y.name = cc in
    let rest : names a ≡ names b = cc in
    by (same_text x.name name) (unknown_same a b name rest)
    ∙ ap (λ n. is_none (option_map (λ s. s.value) (cond (same_text n name) (Some y) (find (λ s. same_text s.name name) b)))) first
  where
    by : (t : Bool) → is_none (value_in a name) ≡ is_none (value_in b name) →
        is_none (option_map (λ s. s.value) (cond t (Some x) (find (λ s. same_text s.name name) a)))
        ≡ is_none (option_map (λ s. s.value) (cond t (Some y) (find (λ s. same_text s.name name) b)))
    by true on = refl
    by false on = on

prefix_same : {X : Type 0} (p q : X → Bool) → ((x : X) → p x ≡ q x) → (xs : List X) → prefix_len p xs ≡ prefix_len q xs
prefix_same p q same [] = refl
prefix_same p q same (x ∷ xs) =
    ap (λ t. cond t (1 + prefix_len p xs) 0) (same x) ∙ ap (λ n. cond (q x) (1 + n) 0) (prefix_same p q same xs)

pub undeclared_same : (a b given : List Size) → names a ≡ names b → undeclared a given ≡ undeclared b given
undeclared_same a b given same =
    ap (λ n. cond (nat_lt n (length given)) (Some n) None)
    (prefix_same (λ (g : Size). not (is_none (value_in a g.name))) (λ (g : Size). not (is_none (value_in b g.name)))
    (λ (g : Size). ap not (unknown_same a b g.name same)) given)

-- a declaration by whether its name is new
abbrev declaration_by : (fresh : Bool) → (word text : List ℕ) → Result ℕ Reason
declaration_by fresh word text =
    if not (begins_name word) then Err reason.BadLine
    else (if is_keyword word || not (is_none (function_atom word)) then Err reason.Keyword
    else (if not fresh then Err reason.Repeated else number_in text))

placed_alike : (left : ℕ) (r q : Result ℕ Reason) (v : ℕ) → q ≡ r → placed left r ≡ Ok v → placed left q ≡ Ok v
placed_alike left r q v same is = ap (placed left) same ∙ is

-- what a line declares is by the line and the names before it, but for its number
declare_other : (given other found also : List Size) (left : ℕ) (line : Option (List ℕ × List ℕ)) (more : List Size) →
    names found ≡ names also → declare given found left line ≡ Ok more → HasNames more (declare other also left line)
declare_other given other found also left None more same is =
    let k : found ≡ more = cc in (also, refl, ap names (sym k) ∙ same)
declare_other given other found also left (Some line) more same is =
    let r = declaration found line.0 line.1 in
    let q = declaration also line.0 line.1 in
    let f : ℕ → Result (List Size) Wrong = λ n. Ok (found ++ size_of given line.0 n ∷ []) in
    let g : ℕ → Result (List Size) Wrong = λ n. Ok (also ++ size_of other line.0 n ∷ []) in
    let x = bind_ok (placed left r) f more is in
    let alike : q ≡ r = ap (λ t. declaration_by t line.0 line.1) (sym (unknown_same found also line.0 same)) in
    let whole : found ++ size_of given line.0 x.0 ∷ [] ≡ more = let k = x.2 in cc in (
      also ++ size_of other line.0 x.0 ∷ [],
      ap (λ y. y >>= g) (placed_alike left r q x.0 alike x.1),
      ap names (sym whole) ∙ names_more found also (size_of given line.0 x.0) (size_of other line.0 x.0) same refl,
    )

-- what the head of a text declares where other numbers are given
pub head_other : (given other found also : List Size) (skip : ℕ) (text : List ℕ) (sizes : List Size) → names found ≡ names also →
    head given found skip text ≡ Ok sizes → HasNames sizes (head other also skip text)
head_other given other found also skip [] sizes same is = let k : found ≡ sizes = cc in (also, refl, ap names (sym k) ∙ same)
head_other given other found also (suc n) (b ∷ rest) sizes same is = head_other given other found also n rest sizes same is
head_other given other found also zero (b ∷ rest) sizes same is =
    by (is_blank b) (b == 35) (head_other given other found also 0 rest sizes same)
    (λ f a alike h. head_other given other f a (comment_length rest) rest sizes alike h) is
  where
    by : (blank hash : Bool) → (head given found 0 rest ≡ Ok sizes → HasNames sizes (head other also 0 rest)) →
        ((f a : List Size) → names f ≡ names a → head given f (comment_length rest) rest ≡ Ok sizes →
        HasNames sizes (head other a (comment_length rest) rest)) →
        turn given found b rest blank hash ≡ Ok sizes → HasNames sizes (turn other also b rest blank hash)
    by true hash on past h = on h
    by false true on past h =
        let left = length (b ∷ rest) in
        let line = line_of (take (comment_length rest) rest) in
        let x = bind_ok (declare given found left line) (λ more. head given more (comment_length rest) rest) sizes h in
        let d = declare_other given other found also left line x.0 same x.1 in
        let go = past x.0 d.0 d.2 x.2 in
        (go.0, ap (λ r. r >>= λ more. head other more (comment_length rest) rest) d.1 ∙ go.1, go.2)
    by false false on past h = let k : found ≡ sizes = cc in (also, refl, ap names (sym k) ∙ same)
