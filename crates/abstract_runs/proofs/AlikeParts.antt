-- Expressions that name neither the index nor a local, and what all processors give by them.
use Rattle.std.proofs.Common.{◌≡◌, ℕ, ℤ, pos, List, [], ◌∷◌, ◌++◌, Option, Some, None, Bool, true, false, Ok, refl, ap, sym, subst}
use Rattle.std.proofs.Common.{◌∙◌, Global, Box, Vec, nat_eq, if◌then◌else◌}
use Rattle.std.specs.Prelude.{slice_index_or}
use Rattle.std.specs.List.{AllByRecursion}
use Rattle.pram_model.specs.Layout.{cell_of}
use Rattle.pram_model.specs.declared.rule.Rule.TheVariants.{Common}
use Rattle.pram_trees.specs.declared.tree.Prefix.{Prefix}
use Rattle.pram_names.specs.declared.body.Expression.{Chain, Element, Expression}
use Rattle.pram_names.specs.declared.body.Expression as expression
use Rattle.pram_names.specs.declared.body.Link.{Link}
use Rattle.pram_names.specs.declared.body.StepTarget.{StepTarget}
use Rattle.pram_names.specs.declared.body.StepTarget.TheVariants as step
use Rattle.write_rules.specs.declared.write.Write.{Write}
use Rattle.write_rules.specs.Rule.{common_value}
use Rattle.pram_check.specs.Checked.{Checked}
use Rattle.pram_meaning.specs.Attempt.{Attempt, Gives, Fails, Trail, Effect, and_then, attempt, attempt_step, operation, read, reading}
use Rattle.pram_meaning.specs.Attempt.{unwritten, write}
use Rattle.pram_meaning.specs.Conflict.{Part, write_to, writes_by, writes_to}
use Rattle.pram_meaning.specs.Operation.{operate, operate_before}
use Rattle.pram_meaning.specs.Store.{State, View, seen, seen_by}
use Rattle.pram_meaning.specs.Together.{parts}
use Rattle.pram_meaning.proofs.Links.{attempt_items, attempt_chain}
use Rattle.abstract_runs.specs.Alike.{AreAlike, GivesOnly, IsAlike, SeeAlike}
use Rattle.abstract_runs.specs.Columns.{NeverClash}
use Rattle.abstract_runs.specs.declared.row.Row.{Row}
use Rattle.abstract_runs.proofs.AnyTrail.{IsLike, attempt_like}
use Rattle.abstract_runs.proofs.SharedWrites.{common_first, common_more}

-- ---- an expression by its parts

pub number_alike : (e : Expression) (n : ℤ) → e ≡ expression.Number n → IsAlike e
number_alike e n is = λ s r t h. subst (λ e. attempt s e t ≡ attempt r e t) (sym is) refl

pub uniform_alike : (e : Expression) (x : ℕ) → e ≡ expression.Uniform x → IsAlike e
uniform_alike e x is = λ s r t h.
    subst (λ e. attempt s e t ≡ attempt r e t) (sym is) (ap (λ us. Gives t (slice_index_or us x (pos 0))) h.uniforms)

read_alike : (s r : View) (a : ℕ) (z : ℤ) (t : Trail) → SeeAlike s r → read s (cell_of s.layout a z) t ≡ read r (cell_of r.layout a z) t
read_alike s r a z t h = ap (λ l. read s (cell_of l a z) t) h.layout ∙ by (cell_of r.layout a z)
  where
    by : (c : Option ℕ) → read s c t ≡ read r c t
    by None = refl
    by (Some c) = ap (λ cells. Gives (reading c t) (slice_index_or cells c (pos 0))) h.cells

pub cell_alike : (e : Expression) (a : ℕ) → e ≡ expression.Cell a → IsAlike e
cell_alike e a is = λ s r t h. subst (λ e. attempt s e t ≡ attempt r e t) (sym is) (read_alike s r a (pos 0) t h)

pub element_alike : (e x : Expression) (a : ℕ) (operand : Box Expression Global) → e ≡ Element a operand → x ≡ operand.value → IsAlike x →
    IsAlike e
element_alike e x a operand is from alike = λ s r t h.
    let inner : attempt s operand.value t ≡ attempt r operand.value t = subst (λ x. attempt s x t ≡ attempt r x t) from (alike s r t h) in
    let whole : attempt s (Element a operand) t ≡ attempt r (Element a operand) t =
    (λ j. and_then (inner j) (λ t z. read_alike s r a z t h j)) in
    subst (λ e. attempt s e t ≡ attempt r e t) (sym is) whole

pub prefix_alike : (e x : Expression) (operator : Prefix) (operand : Box Expression Global) → e ≡ expression.Prefix operator operand →
    x ≡ operand.value → IsAlike x → IsAlike e
prefix_alike e x operator operand is from alike = λ s r t h.
    let inner : attempt s operand.value t ≡ attempt r operand.value t = subst (λ x. attempt s x t ≡ attempt r x t) from (alike s r t h) in
    let whole : attempt s (expression.Prefix operator operand) t ≡ attempt r (expression.Prefix operator operand) t =
    (λ j. and_then (inner j) (λ t v. operation (operate_before operator v) t)) in
    subst (λ e. attempt s e t ≡ attempt r e t) (sym is) whole

items_alike : (s r : View) (links : List Link) (t : Trail) (v : ℤ) → SeeAlike s r → AllByRecursion (λ (l : Link). IsAlike l.operand) links →
    attempt_items s links t v ≡ attempt_items r links t v
items_alike s r [] t v h alike = refl
items_alike s r (l ∷ links) t v h alike =
    (λ j. and_then (alike.0 s r t h j)
    (λ t w. and_then (operation (operate l.operator v w) t) (λ t u. items_alike s r links t u h alike.1 j)))

pub chain_alike : (e x : Expression) (first : Box Expression Global) (links : Vec Link Global) (xs : List Link) → e ≡ Chain first links →
    x ≡ first.value → xs ≡ links.items → IsAlike x → AllByRecursion (λ (l : Link). IsAlike l.operand) xs → IsAlike e
chain_alike e x first links xs is from same alike all = λ s r t h.
    let inner : attempt s first.value t ≡ attempt r first.value t = subst (λ x. attempt s x t ≡ attempt r x t) from (alike s r t h) in
    let each = subst (AllByRecursion (λ (l : Link). IsAlike l.operand)) same all in
    let whole : attempt s (Chain first links) t ≡ attempt r (Chain first links) t =
    attempt_chain s first links t ∙ (λ j. and_then (inner j) (λ t v. items_alike s r links.items t v h each j))
    ∙ sym (attempt_chain r first links t) in
    subst (λ e. attempt s e t ≡ attempt r e t) (sym is) whole

-- ---- the parts of a set

-- what an attempt gives, or 0
abbrev value_or : Attempt ℤ → ℤ
value_or (Gives t v) = v
value_or (Fails t kind) = pos 0

-- what goes on from a value gives that value only
abbrev HandsOn : (Trail → ℤ → Attempt Effect) → Type 0
HandsOn f = (t : Trail) (v : ℤ) → GivesOnly v (f t v)

like_only : (a b : Attempt ℤ) (f : Trail → ℤ → Attempt Effect) → IsLike a b → HandsOn f → GivesOnly (value_or a) (and_then b f)
like_only (Gives t v) (Gives u w) f like on = subst (λ v. GivesOnly v (f u w)) (sym like) (on u w)
like_only (Gives t v) (Fails u kind) f like on = tt
like_only (Fails t kind) (Gives u w) f like on = absurd like
like_only (Fails t kind) (Fails u other) f like on = tt

write_hands : (cell : Option ℕ) → HandsOn (write cell)
write_hands None = λ t v. tt
write_hands (Some c) = λ t v. refl

then_only : (x : ℤ) (a : Attempt ℤ) (f : Trail → ℤ → Attempt Effect) → ((t : Trail) (z : ℤ) → GivesOnly x (f t z)) →
    GivesOnly x (and_then a f)
then_only x (Gives t z) f h = h t z
then_only x (Fails t kind) f h = tt

step_only : (s : View) (x : ℤ) (target : StepTarget) (e : Expression) →
    ((t : Trail) (f : Trail → ℤ → Attempt Effect) → HandsOn f → GivesOnly x (and_then (attempt s e t) f)) →
    GivesOnly x (attempt_step s target e)
step_only s x (step.Local y) e h = h [] unwritten (λ t v. refl)
step_only s x (step.Cell a) e h = h [] (write (cell_of s.layout a (pos 0))) (write_hands (cell_of s.layout a (pos 0)))
step_only s x (step.Element a f) e h =
    then_only x (attempt s f []) (λ t z. and_then (attempt s e t) (write (cell_of s.layout a z)))
    (λ t z. h t (write (cell_of s.layout a z)) (write_hands (cell_of s.layout a z)))

-- they give what one without an index and locals would give
pub parts_alike : (p : Checked) (m : State) (target : StepTarget) (e : Expression) (vs : List ℕ) → IsAlike e →
    AreAlike (parts p m (λ s. attempt_step s target e) vs)
parts_alike p m target e vs alike = record { value = value_or (attempt (seen p m) e []); given = each vs }
  where
    one : (v : ℕ) → GivesOnly (value_or (attempt (seen p m) e [])) (attempt_step (seen_by p m v) target e)
    one v = step_only (seen_by p m v) (value_or (attempt (seen p m) e [])) target e
        (λ t f on. like_only (attempt (seen p m) e []) (attempt (seen_by p m v) e t) f
        (subst (IsLike (attempt (seen p m) e []))
        (alike (seen p m) (seen_by p m v) t (record { layout = refl; uniforms = refl; cells = refl }))
        (attempt_like (seen p m) e [] t)) on)

    each : (vs : List ℕ) → AllByRecursion (λ (x : Part). GivesOnly (value_or (attempt (seen p m) e [])) x.attempt)
        (parts p m (λ s. attempt_step s target e) vs)
    each [] = tt
    each (v ∷ vs) = (one v, each vs)

-- ---- what they write to a cell

common_by : (x i : ℤ) (c : ℕ) (ws : List Write) (a : Attempt Effect) → GivesOnly x a → common_value x ws ≡ Ok x →
    common_value x (writes_by c i a ++ ws) ≡ Ok x
common_by x i c ws (Fails t kind) only rest = rest
common_by x i c ws (Gives t g) only rest = by_cell g.cell
  where
    at_cell : (b : Bool) → common_value x ((if b then record { processor = i; value = g.value } ∷ [] else []) ++ ws) ≡ Ok x
    at_cell true = common_more x (record { processor = i; value = g.value }) ws (sym only) rest
    at_cell false = rest

    by_cell : (cell : Option ℕ) → common_value x (write_to c i cell g.value ++ ws) ≡ Ok x
    by_cell None = rest
    by_cell (Some d) = at_cell (nat_eq c d)

common_alike : (x : ℤ) (c : ℕ) (xs : List Part) → AllByRecursion (λ (y : Part). GivesOnly x y.attempt) xs →
    common_value x (writes_to c xs) ≡ Ok x
common_alike x c [] only = refl
common_alike x c (y ∷ xs) only = common_by x y.processor c (writes_to c xs) y.attempt only.0 (common_alike x c xs only.1)

pub alike_never : (alike : Bool) (rows : List Row) → alike ≡ true → NeverClash Common alike rows
alike_never alike rows is = λ before xs c kind by same e.
    let one = same is in common_first one.value (writes_to c xs) kind (common_alike one.value c xs one.given) e
