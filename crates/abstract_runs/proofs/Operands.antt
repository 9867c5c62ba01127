-- What the operands of a test come to, where the test comes out one way.
use Rattle.std.proofs.Common.{◌≡◌, ℕ, ℤ, List, [], ◌∷◌, Bool, Ok, Err, refl, ap, sym, subst, ◌∙◌, Global, Box, Vec, length, get_or, ◌<◌, ◌+◌}
use Rattle.std.proofs.Common.{zero, suc, take, arith}
use Rattle.std.specs.List.{AllByRecursion}
use Rattle.pram_values.specs.Value.{Value}
use Rattle.pram_values.specs.Truth.{is_nonzero}
use Rattle.pram_trees.specs.declared.tree.Prefix.{Prefix}
use Rattle.pram_names.specs.declared.body.Expression.{Chain, Expression}
use Rattle.pram_names.specs.declared.body.Expression as expression
use Rattle.pram_names.specs.declared.body.Link.{Link}
use Rattle.pram_meaning.specs.Attempt.{Attempt, Gives, Fails, Trail, and_then, attempt, operation}
use Rattle.pram_meaning.specs.Operation.{operate, operate_before}
use Rattle.pram_meaning.specs.Store.{View}
use Rattle.pram_meaning.proofs.Links.{attempt_items, attempt_chain}
use Rattle.abstract_runs.specs.Tests.{IsValueOf, ComesTo, Splits}

pub then_gives : {A : Type 0} (a : Attempt A) (f : Trail → A → Attempt ℤ) (t : Trail) (z : ℤ) → and_then a f ≡ Gives t z →
    (u : Trail) × (x : A) × (a ≡ Gives u x) × (f u x ≡ Gives t z)
then_gives (Gives u x) f t z e = (u, x, refl, e)
then_gives (Fails u k) f t z e = absurd (cc e)

operation_gives : (v : Value) (t u : Trail) (z : ℤ) → operation v t ≡ Gives u z → v ≡ Ok z
operation_gives (Ok w) t u z e = let same : w ≡ z = cc e in ap Ok same
operation_gives (Err k) t u z e = absurd (cc e)

-- ---- an operator before an operand

pub before_comes : (s : View) (e x : Expression) (operator : Prefix) (operand : Box Expression Global) (way inner : Bool) →
    e ≡ expression.Prefix operator operand → x ≡ operand.value →
    ((v z : ℤ) → operate_before operator v ≡ Ok z → is_nonzero z ≡ way → is_nonzero v ≡ inner) → ComesTo s e way → ComesTo s x inner
before_comes s e x operator operand way inner is from goes h =
    let whole : and_then (attempt s x h.is.from) (λ t v. operation (operate_before operator v) t) ≡ Gives h.is.behind h.value =
    ap (λ x. and_then (attempt s x h.is.from) (λ t v. operation (operate_before operator v) t)) from
    ∙ ap (λ e. attempt s e h.is.from) (sym is) ∙ h.is.gives in
    let g = then_gives (attempt s x h.is.from) (λ t v. operation (operate_before operator v) t) h.is.behind h.value whole in record {
      value = g.1;
      is = record { from = h.is.from; behind = g.0; gives = g.2 };
      goes = goes g.1 h.value (operation_gives (operate_before operator g.1) g.0 h.is.behind h.value g.3) h.goes;
    }

-- ---- a chain

-- its first operand gives a value, from which the links go on
pub record IsChained (s : View) (x : Expression) (links : List Link) (z : ℤ) : Type 0 where
  pub value : ℤ
  pub is : IsValueOf s x value
  pub behind : Trail
  pub rest : attempt_items s links is.behind value ≡ Gives behind z

chained : (s : View) (e x : Expression) (first : Box Expression Global) (links : Vec Link Global) (xs : List Link) (z : ℤ) →
    e ≡ Chain first links → x ≡ first.value → xs ≡ links.items → IsValueOf s e z → IsChained s x xs z
chained s e x first links xs z is from same h =
    let whole : and_then (attempt s x h.from) (attempt_items s xs) ≡ Gives h.behind z =
    (λ j. and_then (attempt s (from j) h.from) (attempt_items s (same j))) ∙ sym (attempt_chain s first links h.from)
    ∙ ap (λ e. attempt s e h.from) (sym is) ∙ h.gives in
    let g = then_gives (attempt s x h.from) (attempt_items s xs) h.behind z whole in
    record { value = g.1; is = record { from = h.from; behind = g.0; gives = g.2 }; behind = h.behind; rest = g.3 }

items_split : (s : View) (xs : List Link) (way : Bool) (t u : Trail) (v z : ℤ) → AllByRecursion (λ l. Splits l.operator way) xs →
    attempt_items s xs t v ≡ Gives u z → is_nonzero z ≡ way → (is_nonzero v ≡ way) × AllByRecursion (λ l. ComesTo s l.operand way) xs
items_split s [] way t u v z h e g = let same : v ≡ z = cc e in (ap is_nonzero same ∙ g, tt)
items_split s (l ∷ ls) way t u v z h e g =
    let a = then_gives (attempt s l.operand t) (λ t w. and_then (operation (operate l.operator v w) t) (attempt_items s ls)) u z e in
    let b = then_gives (operation (operate l.operator v a.1) a.0) (attempt_items s ls) u z a.3 in
    let rest = items_split s ls way b.0 u b.1 z h.1 b.3 g in
    let both = h.0 v a.1 b.1 (operation_gives (operate l.operator v a.1) a.0 b.0 b.1 b.2) rest.0 in
    (both.0, (record { value = a.1; is = record { from = t; behind = a.0; gives = a.2 }; goes = both.1 }, rest.1))

-- where each link splits, all operands come out as the chain does
module _ (s : View) (e x : Expression) (first : Box Expression Global) (links : Vec Link Global) (xs : List Link) (way : Bool)
    (is : e ≡ Chain first links) (from : x ≡ first.value) (same : xs ≡ links.items) (comes : ComesTo s e way) where
  split : AllByRecursion (λ l. Splits l.operator way) xs → ComesTo s x way × AllByRecursion (λ l. ComesTo s l.operand way) xs
  split h =
      let c = chained s e x first links xs comes.value is from same comes.is in
      let both = items_split s xs way c.is.behind c.behind c.value comes.value h c.rest comes.goes in
      (record { value = c.value; is = c.is; goes = both.0 }, both.1)

  pub first_comes : AllByRecursion (λ l. Splits l.operator way) xs → ComesTo s x way
  first_comes h = (split h).0

  pub links_come : AllByRecursion (λ l. Splits l.operator way) xs → AllByRecursion (λ l. ComesTo s l.operand way) xs
  links_come h = (split h).1

-- the values of the two operands of a chain of one link, and what its operator gives
pub record AreCompared (s : View) (x : Expression) (l : Link) (z : ℤ) : Type 0 where
  pub left : ℤ
  pub right : ℤ
  pub left_is : IsValueOf s x left
  pub right_is : IsValueOf s l.operand right
  pub gives : operate l.operator left right ≡ Ok z

one_link : (s : View) (x : Expression) (xs : List Link) (l : Link) (z : ℤ) → length xs ≡ 1 → l ≡ get_or xs 0 l →
    IsChained s x xs z → AreCompared s x l z
one_link s x [] l z one is c = absurd (omega (arith, one))
one_link s x (k ∷ m ∷ ms) l z one is c = absurd (omega (arith, one))
one_link s x (k ∷ []) l z one is c =
    let a = then_gives (attempt s k.operand c.is.behind) (λ t w. and_then (operation (operate k.operator c.value w) t) (attempt_items s []))
    c.behind z c.rest in
    let b = then_gives (operation (operate k.operator c.value a.1) a.0) (attempt_items s []) c.behind z a.3 in
    let last : b.1 ≡ z = cc b.3 in
    subst (λ l. AreCompared s x l z) (sym is) (record {
      left = c.value;
      right = a.1;
      left_is = c.is;
      right_is = record { from = c.is.behind; behind = a.0; gives = a.2 };
      gives = operation_gives (operate k.operator c.value a.1) a.0 b.0 b.1 b.2 ∙ ap Ok last;
    })

pub compared : (s : View) (e x : Expression) (first : Box Expression Global) (links : Vec Link Global) (xs : List Link) (l : Link) (z : ℤ) →
    e ≡ Chain first links → x ≡ first.value → xs ≡ links.items → length xs ≡ 1 → l ≡ get_or xs 0 l → IsValueOf s e z → AreCompared s x l z
compared s e x first links xs l z is from same one at h = one_link s x xs l z one at (chained s e x first links xs z is from same h)

-- ---- lists

pub each_at : {A : Type 0} (P : A → Type 0) (xs : List A) (k : ℕ) (x : A) → AllByRecursion P xs → k < length xs → x ≡ get_or xs k x → P x
each_at P [] k x h below is = absurd (omega (arith, below))
each_at P (y ∷ ys) zero x h below is = subst P (sym is) h.0
each_at P (y ∷ ys) (suc k) x h below is = each_at P ys k x h.1 (omega (arith, below)) is

all_suc : {A : Type 0} (P : A → Type 0) (xs : List A) (k : ℕ) (x : A) → AllByRecursion P (take k xs) → k < length xs →
    x ≡ get_or xs k x → P x → AllByRecursion P (take (suc k) xs)
all_suc P [] k x h below is p = absurd (omega (arith, below))
all_suc P (y ∷ ys) zero x h below is p = (subst P is p, tt)
all_suc P (y ∷ ys) (suc k) x h below is p = (h.0, all_suc P ys k x h.1 (omega (arith, below)) is p)

-- one more
pub all_next : {A : Type 0} (P : A → Type 0) (xs : List A) (k : ℕ) (x : A) → AllByRecursion P (take k xs) → k < length xs →
    x ≡ get_or xs k x → P x → AllByRecursion P (take (k + 1) xs)
all_next P xs k x h below is p =
    let next : suc k ≡ k + 1 = omega arith in subst (λ k. AllByRecursion P (take k xs)) next (all_suc P xs k x h below is p)
