-- What each form of expression says, from its parts.
use Rattle.std.proofs.Common.{◌≡◌, ◌+◌, ◌<◌, ℕ, List, [], ◌∷◌, ◌++◌, Some, None, refl, sym, ap, ◌∙◌, subst, append_assoc, length, get_or}
use Rattle.std.proofs.Common.{take, drop}
use Rattle.std.proofs.lemmas.List.{append-nil, take-append-drop, take_more}
use Rattle.std.specs.declared.boxed.Box.{Box}
use Rattle.std.specs.declared.vec.Vec.{Vec}
use Rattle.std.specs.declared.alloc.Global.{Global}
use Rattle.pram_tokens.specs.declared.token.Name.{Name}
use Rattle.pram_tokens.specs.declared.token.Numeral.{Numeral}
use Rattle.pram_tokens.specs.declared.token.Binary.{Binary}
use Rattle.pram_trees.specs.declared.tree.Prefix.{Prefix}
use Rattle.pram_trees.specs.declared.tree.Expr.{Expr}
use Rattle.pram_trees.specs.declared.tree.Expr.TheVariants as e
use Rattle.pram_names.specs.declared.body.Expression.{Expression}
use Rattle.pram_names.specs.declared.body.Expression as value
use Rattle.pram_names.specs.declared.body.Link.{Link}
use Rattle.pram_names.specs.declared.scope.Meaning.TheVariants as meaning
use Rattle.pram_names.specs.Scope.{Scope, meaning_of}
use Rattle.pram_names.specs.Breaches.{Use, plain, subscripted, uses, step_uses, use_breaches, read_count, first}
use Rattle.pram_names.specs.Resolved.{Says, SayLinks}
use Rattle.pram_names.specs.Resolved as says
use Rattle.pram_names.proofs.Judging.{fine_none, fine_append, fine_as}
use Rattle.pram_names.proofs.Uses.{uses-Number, uses-Name, uses-Element, uses-Paren, uses-Prefix, uses-Chain}

-- an answer without fault: nothing is wrong, it is as it must be, and m shared reads stand behind it
abbrev pub Good : {A : Type 0} → (A → Type 0) → Scope → ℕ → List Use → A → ℕ → Type 0
Good Is scope n us a m = (first (use_breaches scope n us) ≡ None) × (Is a × (m ≡ n + read_count scope us))

module _ (scope : Scope) where
  pub good_number : (n : ℕ) (x : Expr) (v : Numeral) (z : _) → x ≡ e.Number v → z ≡ v.value → Good (Says scope x) scope n (uses x)
      (value.Number z) n
  good_number n x v z is same =
      let names : [] ≡ uses x = sym (ap uses is ∙ uses-Number v) in
      let fine = fine_as scope n n [] (uses x) names (fine_none scope n) in (
        fine.0,
        (
          subst (λ y. Says scope y (value.Number z)) (sym is) (subst (λ w. Says scope (e.Number v) (value.Number w)) (sym same)
              (says.number v)),
          fine.1,
        ),
      )

  pub names_name : (x : Expr) (v : Name) → x ≡ e.Name v → plain v ∷ [] ≡ uses x
  names_name x v is = sym (ap uses is ∙ uses-Name v)

  pub names_element : (x : Expr) (v : Name) (i : Expr) (j : Expr) → x ≡ e.Element v i → j ≡ i → (subscripted v ∷ []) ++ uses j ≡ uses x
  names_element x v i j is same = ap (λ k. subscripted v ∷ uses k) same ∙ sym (ap uses is ∙ uses-Element v i)

  pub names_paren : (x i j : Expr) → x ≡ e.Paren i → j ≡ i → uses j ≡ uses x
  names_paren x i j is same = ap uses same ∙ sym (ap uses is ∙ uses-Paren i)

  pub names_prefix : (x : Expr) (p : Prefix) (i j : Expr) → x ≡ e.Prefix p i → j ≡ i → uses j ≡ uses x
  names_prefix x p i j is same = ap uses same ∙ sym (ap uses is ∙ uses-Prefix p i)

  pub names_chain : (x f g : Expr) (rest more : List (Binary × Expr)) → x ≡ e.Chain f rest → g ≡ f → more ≡ rest →
      uses g ++ step_uses more ≡ uses x
  names_chain x f g rest more is same others = ap (λ y. uses y ++ step_uses more) same ∙ ap (λ l. uses f ++ step_uses l) others
      ∙ sym (ap uses is ∙ uses-Chain f rest)

  pub good_element : (n m k : ℕ) (x : Expr) (v : Name) (i j : Expr) (a : ℕ) (y : Expression) (b : Box Expression Global) →
      x ≡ e.Element v i → j ≡ i → b.value ≡ y →
      Good (λ a. meaning_of scope v.text ≡ Some (meaning.Array a)) scope n (subscripted v ∷ []) a m →
      Good (Says scope j) scope m (uses j) y k →
      Good (Says scope x) scope n (uses x) (value.Element a b) k
  good_element n m k x v i j a y b is same boxed array inner =
      let fine = fine_as scope n k ((subscripted v ∷ []) ++ uses j) (uses x) (names_element x v i j is same)
      (fine_append scope n m k (subscripted v ∷ []) (uses j) (array.0, array.1.1) (inner.0, inner.1.1)) in
      let said : Says scope i b.value = subst (λ t. Says scope t b.value) same (subst (λ t. Says scope j t) (sym boxed) inner.1.0) in
      (fine.0, (subst (λ t. Says scope t (value.Element a b)) (sym is) (says.element v a i b array.1.0 said), fine.1))

  pub said_paren : (x i j : Expr) (y : Expression) → x ≡ e.Paren i → j ≡ i → Says scope j y → Says scope x y
  said_paren x i j y is same h = subst (λ t. Says scope t y) (sym is) (says.paren i y (subst (λ t. Says scope t y) same h))

  pub good_prefix : (n k : ℕ) (x : Expr) (p : Prefix) (i j : Expr) (y : Expression) (b : Box Expression Global) → x ≡ e.Prefix p i → j ≡ i →
      b.value ≡ y →
      Good (Says scope j) scope n (uses j) y k → Good (Says scope x) scope n (uses x) (value.Prefix p b) k
  good_prefix n k x p i j y b is same boxed inner =
      let fine = fine_as scope n k (uses j) (uses x) (names_prefix x p i j is same) (inner.0, inner.1.1) in
      let said : Says scope i b.value = subst (λ t. Says scope t b.value) same (subst (λ t. Says scope j t) (sym boxed) inner.1.0) in
      (fine.0, (subst (λ t. Says scope t (value.Prefix p b)) (sym is) (says.prefix p i b said), fine.1))

  pub good_chain : (n m k : ℕ) (x f g : Expr) (rest more : List (Binary × Expr)) (y : Expression) (b : Box Expression Global)
      (links : Vec Link Global) →
      x ≡ e.Chain f rest → g ≡ f → more ≡ rest → b.value ≡ y → Good (Says scope g) scope n (uses g) y m →
      Good (λ v. SayLinks scope more v.items) scope m (step_uses more) links k →
      Good (Says scope x) scope n (uses x) (value.Chain b links) k
  good_chain n m k x f g rest more y b links is same others boxed first_one last =
      let fine = fine_as scope n k (uses g ++ step_uses more) (uses x) (names_chain x f g rest more is same others)
      (fine_append scope n m k (uses g) (step_uses more) (first_one.0, first_one.1.1) (last.0, last.1.1)) in
      let said : Says scope f b.value = subst (λ t. Says scope t b.value) same (subst (λ t. Says scope g t) (sym boxed) first_one.1.0) in
      let linked : SayLinks scope rest links.items = subst (λ l. SayLinks scope l links.items) others last.1.0 in
      (fine.0, (subst (λ t. Says scope t (value.Chain b links)) (sym is) (says.chain f rest b links said linked), fine.1))

  -- one link more
  pub links_more : (xs : List (Binary × Expr)) (links : List Link) (s : Binary × Expr) (l : Link) → SayLinks scope xs links →
      l.operator ≡ s.0 → Says scope s.1 l.operand →
      SayLinks scope (xs ++ s ∷ []) (links ++ l ∷ [])
  links_more _ _ s l says.none same h =
      subst (λ o. SayLinks scope ((o, s.1) ∷ []) (l ∷ [])) same (says.more l.operator s.1 [] l.operand [] h says.none)
  links_more _ _ s l (says.more o i rest x links here behind) same h =
      says.more o i (rest ++ s ∷ []) x (links ++ l ∷ []) here (links_more rest links s l behind same h)

step_uses_append : (xs ys : List (Binary × Expr)) → step_uses (xs ++ ys) ≡ step_uses xs ++ step_uses ys
step_uses_append [] ys = refl
step_uses_append (s ∷ xs) ys = ap (λ l. uses s.1 ++ l) (step_uses_append xs ys)
    ∙ sym (append_assoc (uses s.1) (step_uses xs) (step_uses ys))

-- the operands so far and the next one
pub step_uses_more : (xs : List (Binary × Expr)) (i : ℕ) (d : Binary × Expr) → i < length xs → d ≡ get_or xs i d →
    step_uses (take i xs) ++ uses d.1 ≡ step_uses (take (i + 1) xs)
step_uses_more xs i d below is =
    let one : uses d.1 ≡ step_uses (d ∷ []) = sym (append-nil (uses d.1)) in
    let grown : take (i + 1) xs ≡ take i xs ++ d ∷ [] = take_more xs i d below ∙ ap (λ y. take i xs ++ y ∷ []) (sym is) in
    ap (λ l. step_uses (take i xs) ++ l) one ∙ (sym (step_uses_append (take i xs) (d ∷ [])) ∙ ap step_uses (sym grown))

-- the operands up to one of them, that one, and those behind it
pub step_uses_at : (xs : List (Binary × Expr)) (i : ℕ) (d : Binary × Expr) → i < length xs → d ≡ get_or xs i d →
    step_uses (take i xs) ++ (uses d.1 ++ step_uses (drop (i + 1) xs)) ≡ step_uses xs
step_uses_at xs i d below is =
    sym (append_assoc (step_uses (take i xs)) (uses d.1) (step_uses (drop (i + 1) xs)))
    ∙ (ap (λ l. l ++ step_uses (drop (i + 1) xs)) (step_uses_more xs i d below is)
    ∙ (sym (step_uses_append (take (i + 1) xs) (drop (i + 1) xs)) ∙ ap step_uses (take-append-drop (i + 1) xs)))
