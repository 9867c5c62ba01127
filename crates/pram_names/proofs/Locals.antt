-- The locals of a pardo, taken in one after the other.
use Rattle.std.proofs.Common.{◌≡◌, ◌+◌, ◌<◌, ℕ, List, [], ◌∷◌, ◌++◌, Some, None, sym, ap, ◌∙◌, arith, append_assoc, length, get_or, take}
use Rattle.std.proofs.Common.{drop}
use Rattle.std.proofs.lemmas.List.{append-nil, take-append-drop, take_more, length-take-le}
use Rattle.pram_tokens.specs.declared.token.Name.{Name}
use Rattle.pram_names.specs.declared.scope.Meaning.TheVariants.{Local}
use Rattle.pram_names.specs.Scope.{Scope, locals_from}
use Rattle.pram_names.specs.Breaches.{at, new_cause, local_breaches, first}
use Rattle.pram_names.proofs.Judging.{Leads, first_front, first_behind}

locals_append : (k : ℕ) (xs ys : List Name) → locals_from k (xs ++ ys) ≡ locals_from k xs ++ locals_from (k + length xs) ys
locals_append k [] ys = ap (λ j. locals_from j ys) (omega arith)
locals_append k (x ∷ xs) ys =
    let sum : (k + 1) + length xs ≡ k + length (x ∷ xs) = omega arith in
    ap (λ l. (x.text, Local k) ∷ l) (locals_append (k + 1) xs ys ∙ ap (λ j. locals_from (k + 1) xs ++ locals_from j ys) sum)

breaches_append : (s : Scope) (k : ℕ) (xs ys : List Name) →
    local_breaches s k (xs ++ ys) ≡ local_breaches s k xs ++ local_breaches (s ++ locals_from k xs) (k + length xs) ys
breaches_append s k [] ys = ap (λ j. local_breaches s j ys) (omega arith) ∙ ap (λ t. local_breaches t (k + 0) ys) (sym (append-nil s))
breaches_append s k (x ∷ xs) ys =
    let one = locals_from k (x ∷ []) in
    let here = at x.location (new_cause s x.text) in
    let sum : (k + 1) + length xs ≡ k + length (x ∷ xs) = omega arith in
    ap (λ l. here ++ l)
    (breaches_append (s ++ one) (k + 1) xs ys
    ∙ ap (λ t. local_breaches (s ++ one) (k + 1) xs ++ local_breaches t ((k + 1) + length xs) ys)
    (append_assoc s one (locals_from (k + 1) xs))
    ∙ ap (λ j. local_breaches (s ++ one) (k + 1) xs ++ local_breaches (s ++ locals_from k (x ∷ xs)) j ys) sum)
    ∙ sym (append_assoc here (local_breaches (s ++ one) (k + 1) xs) (local_breaches (s ++ locals_from k (x ∷ xs)) (k + length (x ∷ xs)) ys))

module _ (s scope : Scope) (xs : List Name) (i k : ℕ) (d : Name) (below : i < length xs) (is : d ≡ get_or xs i d) (count : k ≡ i)
    (now : scope ≡ s ++ locals_from 0 (take i xs)) where
  grown : take (i + 1) xs ≡ take i xs ++ d ∷ []
  grown = take_more xs i d below ∙ ap (λ y. take i xs ++ y ∷ []) (sym is)

  place : 0 + length (take i xs) ≡ k
  place = let h = length-take-le i xs (omega (arith, below)) in omega (arith, h, count)

  pub locals_more : s ++ locals_from 0 (take (i + 1) xs) ≡ scope ++ (d.text, Local k) ∷ []
  locals_more =
      ap (λ l. s ++ locals_from 0 l) grown
      ∙ (ap (λ l. s ++ l) (locals_append 0 (take i xs) (d ∷ []) ∙ ap (λ j. locals_from 0 (take i xs) ++ locals_from j (d ∷ [])) place)
      ∙ (sym (append_assoc s (locals_from 0 (take i xs)) ((d.text, Local k) ∷ [])) ∙ ap (λ t. t ++ (d.text, Local k) ∷ []) (sym now)))

  pub breaches_more : local_breaches s 0 (take (i + 1) xs) ≡ local_breaches s 0 (take i xs) ++ at d.location (new_cause scope d.text)
  breaches_more =
      ap (local_breaches s 0) grown
      ∙ (breaches_append s 0 (take i xs) (d ∷ [])
      ∙ (ap (λ t. local_breaches s 0 (take i xs) ++ local_breaches t (0 + length (take i xs)) (d ∷ [])) (sym now)
      ∙ ap (λ l. local_breaches s 0 (take i xs) ++ l) (append-nil (at d.location (new_cause scope d.text)))))

  -- the breach of the next local is one of all
  pub leads_local : first (local_breaches s 0 (take i xs)) ≡ None → Leads (at d.location (new_cause scope d.text)) (local_breaches s 0 xs)
  leads_local none b h =
      let here : first (local_breaches s 0 (take (i + 1) xs)) ≡ Some b = ap first breaches_more
      ∙ (first_behind (local_breaches s 0 (take i xs)) (at d.location (new_cause scope d.text)) none ∙ h) in
      let split = breaches_append s 0 (take (i + 1) xs) (drop (i + 1) xs) in
      ap (λ l. first (local_breaches s 0 l)) (sym (take-append-drop (i + 1) xs))
      ∙ (ap first split ∙ first_front (local_breaches s 0 (take (i + 1) xs)) _ b here)
