-- What a tree says in a scope is named, read and as large as the tree.
use Rattle.std.proofs.Common.{◌≡◌, ◌+◌, ◌≤◌, ◌<◌, ℕ, Bool, true, false, nat_eq, List, [], ◌∷◌, ◌++◌, Option, Some, None, length}
use Rattle.std.proofs.Common.{length-append, refl, sym, ap, ◌∙◌, subst, arith, eqb-true, eq-eqb}
use Rattle.std.specs.Prelude.{if◌then◌else◌}
use Rattle.std.specs.declared.boxed.Box.{Box}
use Rattle.std.specs.declared.vec.Vec.{Vec}
use Rattle.std.specs.declared.alloc.Global.{Global}
use Rattle.pram_tokens.specs.declared.token.Location.{Location}
use Rattle.pram_tokens.specs.declared.token.Name.{Name}
use Rattle.pram_tokens.specs.declared.token.Binary.{Binary}
use Rattle.pram_tokens.specs.declared.token.Mark.TheVariants as mark
use Rattle.pram_tokens.specs.declared.token.Token.{Token}
use Rattle.pram_tokens.specs.declared.token.Token.TheVariants as token
use Rattle.pram_trees.specs.declared.tree.Expr.{Expr}
use Rattle.pram_trees.specs.declared.tree.Expr.TheVariants as e
use Rattle.pram_trees.specs.Grammar.{tokens, step_tokens}
use Rattle.pram_model.specs.Names.{same_text}
use Rattle.pram_tokens.specs.Tokens.{AreReal}
use Rattle.pram_trees.proofs.ExprTokens.{tokens-Number, tokens-Name, tokens-Element, tokens-Paren, tokens-Prefix, tokens-Chain}
use Rattle.pram_tokens.proofs.Real.{front_real}
use Rattle.pram_names.specs.declared.body.Expression.{Expression, Row_of-Link, end_of-Link, items-the_row-Link, items_hidden-the_row-Link-0}
use Rattle.pram_names.specs.declared.body.Expression.{more_of-Link}
use Rattle.pram_names.specs.declared.body.Expression as value
use Rattle.pram_names.specs.declared.body.Expression.TheBlock.{hidden-the_row-Link-0}
use Rattle.pram_names.specs.declared.body.Link.{Link}
use Rattle.pram_names.specs.declared.fault.Cause.{Cause}
use Rattle.pram_names.specs.declared.scope.Meaning.{Meaning}
use Rattle.pram_names.specs.declared.scope.Meaning.TheVariants as meaning
use Rattle.pram_check.specs.Bounded.{Names, IsNamed, AreNamed, IsSingleCell, IsArray, IsInside, IsLocal, reads, link_reads, nodes}
use Rattle.pram_check.specs.Bounded.{link_nodes}
use Rattle.pram_names.specs.Breaches.{Use, uses, step_uses, use_breaches, use_cause, read_count, is_read, ninth, or_else, at, most_reads}
use Rattle.pram_names.specs.Resolved.{Says, SayLinks}
use Rattle.pram_names.specs.Resolved as says
use Rattle.pram_names.specs.Scope.{Scope, meaning_of}
use Rattle.pram_names.proofs.Judging.{count_append}
use Rattle.pram_names.proofs.Uses.{uses-Number, uses-Name, uses-Element, uses-Paren, uses-Prefix, uses-Chain}

pub back_real : (a b : List Token) → AreReal (a ++ b) → AreReal b
back_real [] b h = h
back_real (t ∷ a) b h = back_real a b h.1

-- ---- scopes

-- what a name stands for is there
abbrev pub IsThere : Names → Meaning → Type 0
IsThere s (meaning.Uniform k) = k < s.uniforms
IsThere s (meaning.Cell k) = IsSingleCell s k
IsThere s (meaning.Array k) = IsArray s k
IsThere s meaning.Index = IsInside s
IsThere s (meaning.Local k) = IsLocal s k

abbrev pub AreThere : Names → Scope → Type 0
AreThere s [] = Unit {0}
AreThere s (b ∷ scope) = IsThere s b.1 × AreThere s scope

pub found_there : (s : Names) (scope : Scope) (text : List ℕ) (m : Meaning) → AreThere s scope → meaning_of scope text ≡ Some m →
    IsThere s m
found_there s [] text m h is = absurd (cc is)
found_there s (b ∷ scope) text m h is = by (same_text b.0 text) refl (found_there s scope text m h.1)
  where
    by : (same : Bool) → same_text b.0 text ≡ same → (meaning_of scope text ≡ Some m → IsThere s m) → IsThere s m
    by true e further = let q : b.1 ≡ m = cc (is, ap (λ z. if z then Some b.1 else meaning_of scope text) e) in subst (IsThere s) q h.0
    by false e further = further (sym (ap (λ z. if z then Some b.1 else meaning_of scope text) e) ∙ is)

pub append_there : (s : Names) (front back : Scope) → AreThere s front → AreThere s back → AreThere s (front ++ back)
append_there s [] back h g = g
append_there s (b ∷ front) back h g = (h.0, append_there s front back h.1 g)

-- ---- links, as a list

abbrev named_all : Names → List Link → Type 0
named_all s [] = Unit {0}
named_all s (l ∷ ls) = IsNamed s l.operand × named_all s ls

abbrev reads_all : List Link → ℕ
reads_all [] = 0
reads_all (l ∷ ls) = reads l.operand + reads_all ls

abbrev nodes_all : List Link → ℕ
nodes_all [] = 0
nodes_all (l ∷ ls) = 1 + nodes l.operand + nodes_all ls

named_row : (s : Names) {n : _} (k : Row_of-Link n) → named_all s (items-the_row-Link n k) → AreNamed s k
named_row s end_of-Link h = tt
named_row s (more_of-Link o e k) h = (h.0, named_row s k h.1)

reads_row : {n : _} (k : Row_of-Link n) → link_reads k ≡ reads_all (items-the_row-Link n k)
reads_row end_of-Link = refl
reads_row (more_of-Link o e k) = ap (λ n. reads e + n) (reads_row k)

nodes_row : {n : _} (k : Row_of-Link n) → link_nodes k ≡ nodes_all (items-the_row-Link n k)
nodes_row end_of-Link = refl
nodes_row (more_of-Link o e k) = ap (λ n. 1 + nodes e + n) (nodes_row k)

-- ---- expressions

pub record Within (s : Names) (scope : Scope) (x : Expr) (y : Expression) : Type 0 where
  pub named : IsNamed s y
  pub read : reads y ≡ read_count scope (uses x)
  pub few : nodes y ≤ length (tokens x)

record AreWithin (s : Names) (scope : Scope) (rest : List (Binary × Expr)) (links : List Link) : Type 0 where
  named : named_all s links
  read : reads_all links ≡ read_count scope (step_uses rest)
  few : nodes_all links ≤ length (step_tokens rest)

-- how many shared reads a name is
one_read : (scope : Scope) (x : Name) (m : Meaning) → meaning_of scope x.text ≡ Some m →
    read_count scope (uses (e.Name x)) ≡ (if is_read (Some m) false then 1 else 0) + 0
one_read scope x m is = ap (read_count scope) (uses-Name x) ∙ ap (λ o. (if is_read o false then 1 else 0) + 0) is

module _ (s : Names) (scope : Scope) (there : AreThere s scope) where
  a_name : (x : Name) (y : Expression) (m : Meaning) → meaning_of scope x.text ≡ Some m → IsNamed s y →
      reads y ≡ (if is_read (Some m) false then 1 else 0) + 0 → nodes y ≡ 1 →
      Within s scope (e.Name x) y
  a_name x y m is named read one = record {
    named = named;
    read = read ∙ sym (one_read scope x m is);
    few = (let t = ap length (tokens-Name x) in omega (arith, t, one));
  }

  an_element : (x : Name) (k : ℕ) (i : Expr) (j : Box Expression Global) → meaning_of scope x.text ≡ Some (meaning.Array k) →
      Within s scope i j.value →
      Within s scope (e.Element x i) (value.Element k j)
  an_element x k i j is w = record {
    named = (found_there s scope x.text (meaning.Array k) there is, w.named);
    read = ap (λ n. 1 + n) w.read
        ∙ sym (ap (read_count scope) (uses-Element x i) ∙ ap (λ o. (if is_read o true then 1 else 0) + read_count scope (uses i)) is);
    few = (let t = ap length (tokens-Element x i) in let a = length-append (tokens i) (token.Mark mark.CloseBracket ∷ []) in let f =
        w.few in omega (arith, t, a, f));
  }

  a_chain : (first : Expr) (rest : List (Binary × Expr)) (x : Box Expression Global) (links : Vec Link Global) →
      Within s scope first x.value → AreWithin s scope rest links.items →
      Within s scope (e.Chain first rest) (value.Chain x links)
  a_chain first rest x links w v =
      let row = hidden-the_row-Link-0 links in
      let items = items_hidden-the_row-Link-0 links in
      let r : link_reads row ≡ read_count scope (step_uses rest) = reads_row row ∙ ap reads_all items ∙ v.read in
      let n : link_nodes row ≡ nodes_all links.items = nodes_row row ∙ ap nodes_all items in
      let c = count_append scope (uses first) (step_uses rest) in
      let u = ap (read_count scope) (uses-Chain first rest) in
      let t = ap length (tokens-Chain first rest) in
      let a = length-append (tokens first) (step_tokens rest) in
      let f = w.few in
      let g = v.few in
      record {
        named = (w.named, named_row s row (subst (named_all s) (sym items) v.named));
        read = (let q = w.read in omega (arith, q, r, c, u));
        few = omega (arith, n, t, a, f, g);
      }

  mutual
    pub within : (x : Expr) (y : Expression) → Says scope x y → AreReal (tokens x) → Within s scope x y
    within _ _ (says.number n) real = record {
      named = (subst AreReal (tokens-Number n) real).0;
      read = sym (ap (read_count scope) (uses-Number n));
      few = (let t = ap length (tokens-Number n) in omega (arith, t));
    }
    within _ _ (says.uniform x k is) real = a_name x (value.Uniform k) (meaning.Uniform k) is
        (found_there s scope x.text (meaning.Uniform k) there is) refl refl
    within _ _ (says.index x is) real = a_name x value.Index meaning.Index is (found_there s scope x.text meaning.Index there is) refl refl
    within _ _ (says.local x k is) real = a_name x (value.Local k) (meaning.Local k) is
        (found_there s scope x.text (meaning.Local k) there is) refl refl
    within _ _ (says.cell x k is) real = a_name x (value.Cell k) (meaning.Cell k) is
        (found_there s scope x.text (meaning.Cell k) there is) refl refl
    within _ _ (says.element x k i j is said) real =
        an_element x k i j is (within i j.value said (front_real (tokens i) (token.Mark mark.CloseBracket ∷ [])
        (subst AreReal (tokens-Element x i) real).1.1))
    within _ _ (says.paren i x said) real =
        let close = token.Mark mark.CloseParen ∷ [] in
        let w = within i x said (front_real (tokens i) close (subst AreReal (tokens-Paren i) real).1) in
        record {
          named = w.named;
          read = w.read ∙ sym (ap (read_count scope) (uses-Paren i));
          few = (let t = ap length (tokens-Paren i) in let a = length-append (tokens i) close in let f = w.few in omega (arith, t, a, f));
        }
    within _ _ (says.prefix p i j said) real =
        let w = within i j.value said (subst AreReal (tokens-Prefix p i) real).1 in
        record {
          named = w.named;
          read = w.read ∙ sym (ap (read_count scope) (uses-Prefix p i));
          few = (let t = ap length (tokens-Prefix p i) in let f = w.few in omega (arith, t, f));
        }
    within _ _ (says.chain first rest x links said linked) real =
        let parts = subst AreReal (tokens-Chain first rest) real in
        a_chain first rest x links (within first x.value said (front_real (tokens first) (step_tokens rest) parts))
        (within_links rest links.items linked (back_real (tokens first) (step_tokens rest) parts))

    within_links : (rest : List (Binary × Expr)) (links : List Link) → SayLinks scope rest links → AreReal (step_tokens rest) →
        AreWithin s scope rest links
    within_links _ _ says.none real = record { named = tt; read = refl; few = omega arith }
    within_links _ _ (says.more o i rest x links here behind) real =
        let w = within i x here (front_real (tokens i) (step_tokens rest) real.1) in
        let v = within_links rest links behind (back_real (tokens i) (step_tokens rest) real.1) in
        let c = count_append scope (uses i) (step_uses rest) in
        let a = length-append (tokens i) (step_tokens rest) in
        let q = w.read in
        let r = v.read in
        let f = w.few in
        let g = v.few in
        record { named = (w.named, v.named); read = omega (arith, c, q, r); few = omega (arith, a, f, g) }

-- ---- where nothing is wrong

pub front_none : {A : Type 0} (xs ys : List A) → xs ++ ys ≡ [] → xs ≡ []
front_none [] ys h = refl
front_none (x ∷ xs) ys h = absurd (cc h)

pub back_none : {A : Type 0} (xs ys : List A) → xs ++ ys ≡ [] → ys ≡ []
back_none [] ys h = h
back_none (x ∷ xs) ys h = absurd (cc h)

one_more : (n : ℕ) (l : Location) (c : Option Cause) (read : Bool) → n ≤ most_reads → at l (or_else c (ninth n read)) ≡ [] →
    n + (if read then 1 else 0) ≤ most_reads
one_more n l (Some c) read h none = absurd (cc none)
one_more n l None false h none = omega arith
one_more n l None true h none = by (nat_eq n most_reads) refl
  where
    by : (b : Bool) → nat_eq n most_reads ≡ b → n + 1 ≤ most_reads
    by true e =
        let full : ninth n true ≡ ninth most_reads true = ap (λ k. ninth k true) (eqb-true n most_reads e) in
        absurd (cc none)
    by false e = grind (arith, eq-eqb)

-- a statement whose reads are nowhere the ninth has at most eight
pub few_reads : (scope : Scope) (n : ℕ) (us : List Use) → n ≤ most_reads → use_breaches scope n us ≡ [] →
    n + read_count scope us ≤ most_reads
few_reads scope n [] h none = omega arith
few_reads scope n (u ∷ us) h none =
    let m = meaning_of scope u.name.text in
    let one = if is_read m u.subscripted then 1 else 0 in
    let here = at u.name.location (or_else (use_cause m u.subscripted) (ninth n (is_read m u.subscripted))) in
    let first = one_more n u.name.location (use_cause m u.subscripted) (is_read m u.subscripted) h
    (front_none here (use_breaches scope (n + one) us) none) in
    let rest = few_reads scope (n + one) us first (back_none here (use_breaches scope (n + one) us) none) in
    omega (arith, rest)
