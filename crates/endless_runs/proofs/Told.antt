-- What a part of a run tells, the whole of it tells.
use Rattle.std.proofs.Common.{◌≡◌, ◌≤◌, ◌<◌, ◌∙◌, ℕ, ◌+◌, List, [], ◌∷◌, ◌++◌, Bool, ap, arith, refl, subst, sym}
use Rattle.std.proofs.Common.{Global, Vec, if◌then◌else◌}
use Rattle.std.proofs.lemmas.Bool.{lt-ltb}
use Rattle.std.proofs.lemmas.List.Elements.{Contains-append_left, Contains-append_right, Contains-push}
use Rattle.std.specs.List.{Contains}
use Rattle.pram_check.specs.Checked.{Checked}
use Rattle.pram_tokens.specs.declared.token.Location.{Location}
use Rattle.pram_names.specs.declared.body.Expression.{Expression}
use Rattle.pram_names.specs.declared.body.Statement.{If, Statement}
use Rattle.pram_names.specs.declared.body.Statement.TheBlock.{hidden-the_row-Statement-0}
use Rattle.pram_meaning.specs.Attempt.{attempt}
use Rattle.pram_meaning.specs.Bounded as bounded
use Rattle.pram_meaning.specs.Bounded.{Behaviour, Done, Goes, Reaches, perform, perform_list, perform_row, tested, then_do}
use Rattle.pram_meaning.specs.Meaning as relation
use Rattle.pram_meaning.specs.Meaning.{Ends, Fate, Means, MeansList, Tested, at_fault, at_start, on}
use Rattle.pram_meaning.specs.Moments.{Alone, Chooses, Moment, Turns, behind, closing, left_by, list_moments, moments, nowhere, row_moments}
use Rattle.pram_meaning.specs.Moments.{test_moment, unchanged, writing}
use Rattle.pram_meaning.specs.Store.{State, seen}
use Rattle.pram_meaning.proofs.Agree.{agree_tested}
use Rattle.pram_meaning.proofs.AgreeAll.{agree_list}
use Rattle.pram_meaning.proofs.HeardBlocks.{told_is}
use Rattle.endless_runs.specs.Endless.{ComesBack, IsTestedIn}
use Rattle.endless_runs.specs.Search.{HasShown}
use Rattle.endless_runs.specs.declared.cycle.Cycle.{Cycle}

-- ---- moments within moments

abbrev pub IsWithin : List Moment → List Moment → Type 0
IsWithin xs ys = (x : Moment) → Contains xs x → Contains ys x

pub tested_within : (xs ys : List Moment) (here : Location) (e : Expression) (m : State) → IsWithin xs ys → IsTestedIn xs here e m →
    IsTestedIn ys here e m
tested_within xs ys here e m within is = (is.0, is.1, within (Alone here (Turns e) m is.0 is.1) is.2)

back_within : (xs ys : List Moment) (c : Cycle) → IsWithin xs ys → ComesBack xs c → ComesBack ys c
back_within xs ys c within is = record {
  here = is.here;
  test = is.test;
  first = is.first;
  later = is.later;
  is_here = is.is_here;
  was = tested_within xs ys is.here is.test is.first within is.was;
  is_again = tested_within xs ys is.here is.test is.later within is.is_again;
  alike = is.alike;
  apart = is.apart;
  some = is.some;
}

-- from some bound on the moments that are left are moments of the whole
abbrev pub Holds : (all left : ℕ → List Moment) → Type 0
Holds all left = (least : ℕ) × ((n : ℕ) → least ≤ n → IsWithin (left n) (all n))

pub holds_same : (all : ℕ → List Moment) → Holds all all
holds_same all = (0, λ n low x has. has)

pub holds_on : (all part left : ℕ → List Moment) → Holds all part → Holds part left → Holds all left
holds_on all part left p q =
    (p.0 + q.0, λ n low x has. p.1 n (omega (arith, low)) x (q.1 n (omega (arith, low)) x has))

pub shown_in : (all left : ℕ → List Moment) (c : Cycle) → Holds all left → HasShown left c → HasShown all c
shown_in all left c holds is =
    (holds.0 + is.0, λ n low. back_within (left n) (all n) c (holds.1 n (omega (arith, low))) (is.1 n (omega (arith, low))))

-- those behind what goes on
pub behind_goes : {A : Type 0} (first : List Moment) (b : Behaviour A) (f : A → State → List Moment) (a : A) (m : State) → b ≡ Goes a m →
    IsWithin (f a m) (first ++ behind b f)
behind_goes first b f a m is x has =
    Contains-append_right first (behind b f) x (subst (λ b. Contains (behind b f) x) (sym is) has)

pub first_within : (xs ys : List Moment) → IsWithin xs (xs ++ ys)
first_within xs ys x has = Contains-append_left xs ys x has

-- ---- what the bounded run comes to

pub list_of_means : (w : Checked) (s : Statement) (m : State) (f : Fate (Unit {0})) → Means w s m f → MeansList w (s ∷ []) m f
list_of_means w s m (Ends u k) p = on p refl
list_of_means w s m (relation.Stops fault c out) p = at_fault p
list_of_means w s m (relation.Reaches c out) p = at_start p

abbrev done : Unit {0}
done = tt

pub list_goes : (w : Checked) (n : ℕ) (ss : List Statement) (m new : State) → MeansList w ss m (Ends tt new) → new.count ≤ n →
    perform_list w n ss m ≡ Goes done new
list_goes w n ss m new p low =
    let grows : m.count ≤ new.count = (agree_list w n ss).grows m (Ends tt new) p in
    (agree_list w n ss).comes m (omega (arith, low, grows)) (Ends tt new) p low

alone_goes : (b : Done) (new : State) → then_do b (λ u m. Goes done m) ≡ Goes done new → b ≡ Goes done new
alone_goes (Goes u m) new e = e
alone_goes (bounded.Stops fault out) new e = e
alone_goes (Reaches out) new e = e

pub statement_goes : (w : Checked) (n : ℕ) (s : Statement) (m new : State) → Means w s m (Ends tt new) → new.count ≤ n →
    perform w n s m ≡ Goes done new
statement_goes w n s m new p low =
    alone_goes (perform w n s m) new (list_goes w n (s ∷ []) m new (list_of_means w s m (Ends tt new) p) low)

pub test_goes : (w : Checked) (n line : ℕ) (e : Expression) (m new : State) (z : Bool) → Tested w line e m (Ends z new) → new.count ≤ n →
    tested w n line e m ≡ Goes z new
test_goes w n line e m new z p low =
    let grows : m.count ≤ new.count = (agree_tested w n line e).grows m (Ends z new) p in
    (agree_tested w n line e).comes m (omega (arith, low, grows)) (Ends z new) p low

-- ---- statements in order

pub first_holds : (w : Checked) (s : Statement) (ss : List Statement) (m : State) →
    Holds (λ n. list_moments w n (s ∷ ss) m) (λ n. moments w n s m)
first_holds w s ss m = (0, λ n low. first_within (moments w n s m) (behind (perform w n s m) (λ u. list_moments w n ss)))

pub rest_holds : (w : Checked) (s : Statement) (ss : List Statement) (m new : State) → Means w s m (Ends tt new) →
    Holds (λ n. list_moments w n (s ∷ ss) m) (λ n. list_moments w n ss new)
rest_holds w s ss m new p = (
  new.count,
  λ n low. behind_goes (moments w n s m) (perform w n s m) (λ u. list_moments w n ss) tt new
      (statement_goes w n s m new p low),
)

-- ---- a statement of each kind

abbrev Branch : Checked → ℕ → (a b : List Statement) → Bool → State → List Moment
Branch w n a b z m = if z then list_moments w n a m else list_moments w n b m

if_told : (w : Checked) (n : ℕ) (here : Location) (s : Statement) (e : Expression) (a b : Vec Statement Global) (m : State) → s ≡ If
    here e a b →
    moments w n s m ≡ test_moment w n here (Chooses e) e m ++ behind (tested w n here.line e m)
    (λ z m. closing (Branch w n a.items b.items z m))
if_told w n here s e a b m is =
    ap (λ s. moments w n s m) is
    ∙ ap (λ f. test_moment w n here (Chooses e) e m ++ behind (tested w n here.line e m)
    (λ z m. closing (if z then f m else row_moments w n (hidden-the_row-Statement-0 b) m))) (told_is w n a)
    ∙ ap (λ f. test_moment w n here (Chooses e) e m ++ behind (tested w n here.line e m)
    (λ z m. closing (if z then list_moments w n a.items m else f m))) (told_is w n b)

pub branch_holds : (w : Checked) (here : Location) (s : Statement) (e : Expression) (a b : Vec Statement Global) (m k : State) (z : Bool) →
    s ≡ If here e a b → Tested w here.line e m (Ends z k) →
    Holds (λ n. moments w n s m) (λ n. if z then list_moments w n a.items k else list_moments w n b.items k)
branch_holds w here s e a b m k z is p = (
  k.count,
  λ n low x has. subst (λ ms. Contains ms x) (sym (if_told w n here s e a b m is))
      (behind_goes (test_moment w n here (Chooses e) e m) (tested w n here.line e m) (λ z m. closing (Branch w n a.items b.items z m)) z k
      (test_goes w n here.line e m k z p low) x (Contains-append_left (Branch w n a.items b.items z k) _ x has)),
)

-- ---- the test of a loop

abbrev pub counting : State → State
counting m = record m { count = m.count + 1 }

pub test_is_told : (w : Checked) (n : ℕ) (here : Location) (e : Expression) (m : State) → m.count < n →
    IsTestedIn (test_moment w n here (Turns e) e m) here e (counting m)
test_is_told w n here e m low =
    let k : State = counting m in (
      writing nowhere (attempt (seen w k) e []),
      left_by unchanged (attempt (seen w k) e []) k,
      rw (lt-ltb m.count n low) (Contains-push [] (Alone here (Turns e) (counting m) (writing nowhere (attempt (seen w (counting m)) e []))
          (left_by unchanged (attempt (seen w (counting m)) e []) (counting m)))),
    )
