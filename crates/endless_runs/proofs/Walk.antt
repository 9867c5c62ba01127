-- What is known of a part of a program, from what is known of its parts.
use Rattle.std.proofs.Common.{◌≡◌, ◌≤◌, ◌<◌, ◌∙◌, ℕ, ◌+◌, List, [], ◌∷◌, Bool, true, false, Global, Result, Ok, Err, Vec, ℤ}
use Rattle.std.proofs.Common.{ap, drop, get_or, if◌then◌else◌, length, refl, subst, sym}
use Rattle.std.proofs.lemmas.List.{drop_all, drop_more}
use Rattle.pram_check.specs.Checked.{Checked}
use Rattle.pram_tokens.specs.declared.token.Location.{Location}
use Rattle.pram_names.specs.declared.body.Expression.{Expression}
use Rattle.pram_names.specs.declared.body.Statement.{If, Row_of-Statement, Statement, While, end_of-Statement, items-the_row-Statement}
use Rattle.pram_names.specs.declared.body.Statement.{items_hidden-the_row-Statement-0, more_of-Statement}
use Rattle.pram_names.specs.declared.body.Statement.TheBlock.{hidden-the_row-Statement-0}
use Rattle.pram_meaning.specs.Bounded.{Goes, found, perform, perform_list, tested, then_do}
use Rattle.pram_values.specs.Truth.{is_nonzero}
use Rattle.pram_meaning.specs.Meaning.{Does, Either, Ends, Fate, Means, MeansList, MeansRow, Tested, Then, Turns, at_fault, at_start, on}
use Rattle.pram_meaning.specs.Moments.{list_moments}
use Rattle.pram_meaning.specs.Store.{State}
use Rattle.pram_meaning.proofs.Agree.{Loop, Shows, agree_tested}
use Rattle.pram_meaning.proofs.AgreeAll.{agree_list}
use Rattle.endless_runs.specs.Endless.{IsEndless}
use Rattle.endless_runs.specs.Search.{IsKnown, RunPart, of_list, of_loop, of_statement}
use Rattle.endless_runs.specs.declared.stop.Stop.{Stop}
use Rattle.endless_runs.specs.declared.stop.Stop.TheVariants as stop
use Rattle.endless_runs.proofs.Cycles.{IsSure, endless_first, endless_then, sure}
use Rattle.endless_runs.proofs.Told.{Holds, branch_holds, first_holds, holds_on, holds_same, list_of_means, rest_holds, shown_in}
use Rattle.pram_meaning.proofs.HeardBlocks.{while_told}

-- ---- statements and lists of them

means_of_list : (w : Checked) (s : Statement) (m : State) (f : Fate (Unit {0})) → MeansList w (s ∷ []) m f → Means w s m f
means_of_list w s m f (on {a} {m = k} p q) = subst (Means w s m) (sym q) p
means_of_list w s m f (at_fault p) = p
means_of_list w s m f (at_start p) = p

-- what the bounded run of a statement comes to, it means
pub ran : (w : Checked) (n : ℕ) (s : Statement) (m new : State) → m.count ≤ n → perform w n s m ≡ Goes tt new →
    Means w s m (Ends tt new) × (new.count ≤ n)
ran w n s m new low e =
    let l : perform_list w n (s ∷ []) m ≡ Goes tt new = ap (λ x. then_do x (λ u m. Goes tt m)) e in
    let shown = subst (Shows n (MeansList w (s ∷ []) m)) l ((agree_list w n (s ∷ [])).shows m low) in
    (means_of_list w s m (Ends tt new) shown.0, shown.1)

pub ran_test : (w : Checked) (n line : ℕ) (e : Expression) (m new : State) (z : Bool) → m.count ≤ n → tested w n line e m ≡ Goes z new →
    Tested w line e m (Ends z new) × (new.count ≤ n)
ran_test w n line e m new z low is = subst (Shows n (Tested w line e m)) is ((agree_tested w n line e).shows m low)

-- so it is by the value that the test was found to have
pub ran_found : (w : Checked) (n line : ℕ) (e : Expression) (m new : State) (v : ℤ) (z : Bool) → m.count ≤ n →
    found w n line e m ≡ Goes v new → z ≡ is_nonzero v → Tested w line e m (Ends z new)
ran_found w n line e m new v z low is same =
    (ran_test w n line e m new z low (ap (λ x. then_do x (λ v m. Goes (is_nonzero v) m)) is ∙ ap (λ z. Goes z new) (sym same))).0

pub sure_list : (w : Checked) (ss : List Statement) → IsSure (MeansList w ss)
sure_list w ss = sure (MeansList w ss) (λ n. perform_list w n ss) (λ n. agree_list w n ss)

pub sure_tested : (w : Checked) (line : ℕ) (e : Expression) → IsSure (Tested w line e)
sure_tested w line e = sure (Tested w line e) (λ n. tested w n line e) (λ n. agree_tested w n line e)

sure_means : (w : Checked) (s : Statement) → IsSure (Means w s)
sure_means w s m k u f p q = sure_list w (s ∷ []) m k u f (list_of_means w s m (Ends u k) p) (list_of_means w s m f q)

-- ---- blocks, as lists

items_mean : (w : Checked) {k : _} (ss : Row_of-Statement k) (m : State) → MeansList w (items-the_row-Statement k ss) m ≡ MeansRow w ss m
items_mean w end_of-Statement m = refl
items_mean w (more_of-Statement s ss) m = ap (Then (Unit {0}) (Unit {0}) (Means w s m)) (λ j u m. items_mean w ss m j)

pub block_means : (w : Checked) (body : Vec Statement Global) → MeansRow w (hidden-the_row-Statement-0 body) ≡ MeansList w body.items
block_means w body = λ j m. (sym (items_mean w (hidden-the_row-Statement-0 body) m)
    ∙ ap (λ ss. MeansList w ss m) (items_hidden-the_row-Statement-0 body)) j

-- ---- a statement of each kind

pub while_known : (w : Checked) (here : Location) (s : Statement) (e : Expression) (body : Vec Statement Global) (m new : State)
    (r : Result (Unit {0}) Stop) → s ≡ While here e body → IsKnown (of_loop w here e body.items m) new r → IsKnown
    (of_statement w s m) new r
while_known w here s e body m new r is known = subst (λ p. IsKnown p new r) (sym same) known
  where
    means : Means w s m ≡ Loop (Tested w here.line e) (MeansList w body.items) m
    means = ap (λ s. Means w s m) is ∙ ap (λ B. λ f. (k : ℕ) × Turns k (Tested w here.line e) B m f) (block_means w body)

    same : of_statement w s m ≡ of_loop w here e body.items m
    same = λ j. record { means = means j; told = λ n. while_told w n here s e body m is j }

if_means : (w : Checked) (here : Location) (s : Statement) (e : Expression) (a b : Vec Statement Global) (m : State) → s ≡ If here e a b →
    Means w s m ≡ Then Bool (Unit {0}) (Tested w here.line e m) (λ z m. Either z (MeansList w a.items m) (MeansList w b.items m))
if_means w here s e a b m is =
    ap (λ s. Means w s m) is
    ∙ ap (λ A. Then Bool (Unit {0}) (Tested w here.line e m) (λ z m. Either z (A m) (MeansRow w (hidden-the_row-Statement-0 b) m)))
    (block_means w a)
    ∙ ap (λ B. Then Bool (Unit {0}) (Tested w here.line e m) (λ z m. Either z (MeansList w a.items m) (B m))) (block_means w b)

-- the branch that a test takes
abbrev of_branch : Checked → (a b : List Statement) → Bool → State → RunPart
of_branch w a b z m = record {
  means = Either z (MeansList w a m) (MeansList w b m);
  told = λ n. if z then list_moments w n a m else list_moments w n b m;
}

branch_known : (w : Checked) (here : Location) (s : Statement) (e : Expression) (a b : Vec Statement Global) (m k new : State) (z : Bool)
    (r : Result (Unit {0}) Stop) → s ≡ If here e a b → Tested w here.line e m (Ends z k) →
    IsKnown (of_branch w a.items b.items z k) new r → IsKnown (of_statement w s m) new r
branch_known w here s e a b m k new z (Ok u) is p known =
    subst (λ M. M (Ends tt new)) (sym (if_means w here s e a b m is)) (on p known)
branch_known w here s e a b m k new z (Err (stop.Cycle c)) is p known = (
  subst (λ (M : Does). IsEndless M) (sym (if_means w here s e a b m is)) (endless_then (Tested w here.line e)
      (λ z m. Either z (MeansList w a.items m) (MeansList w b.items m)) (sure_tested w here.line e) m k z p known.0),
  shown_in (of_statement w s m).told (of_branch w a.items b.items z k).told c (branch_holds w here s e a b m k z is p) known.1,
)
branch_known w here s e a b m k new z (Err stop.Unknown) is p known = tt

pub then_known : (w : Checked) (here : Location) (s : Statement) (e : Expression) (a b : Vec Statement Global) (m k new : State) (z : Bool)
    (r : Result (Unit {0}) Stop) → s ≡ If here e a b → Tested w here.line e m (Ends z k) → z ≡ true → IsKnown (of_list w a.items k) new r →
    IsKnown (of_statement w s m) new r
then_known w here s e a b m k new z r is p so_it_is known =
    branch_known w here s e a b m k new z r is p (subst (λ z. IsKnown (of_branch w a.items b.items z k) new r) (sym so_it_is) known)

pub else_known : (w : Checked) (here : Location) (s : Statement) (e : Expression) (a b : Vec Statement Global) (m k new : State) (z : Bool)
    (r : Result (Unit {0}) Stop) → s ≡ If here e a b → Tested w here.line e m (Ends z k) → z ≡ false → IsKnown (of_list w b.items k) new r →
    IsKnown (of_statement w s m) new r
else_known w here s e a b m k new z r is p no_so known =
    branch_known w here s e a b m k new z r is p (subst (λ z. IsKnown (of_branch w a.items b.items z k) new r) (sym no_so) known)

-- ---- one thing behind the other

-- what is known of the one is known of the other, which begins with what has run already
pub record Leads (from to : RunPart) : Type 0 where
  pub ends : (k : State) → to.means (Ends tt k) → from.means (Ends tt k)
  pub endless : IsEndless to.means → IsEndless from.means
  pub told : Holds from.told to.told

pub leads_here : (part : RunPart) → Leads part part
leads_here part = record { ends = λ k p. p; endless = λ p. p; told = holds_same part.told }

pub leads_known : (from to : RunPart) (new : State) (r : Result (Unit {0}) Stop) → Leads from to → IsKnown to new r → IsKnown from new r
leads_known from to new (Ok u) leads known = leads.ends new known
leads_known from to new (Err (stop.Cycle c)) leads known = (leads.endless known.0, shown_in from.told to.told c leads.told known.1)
leads_known from to new (Err stop.Unknown) leads known = tt

-- a block of which the first i statements have run
abbrev pub InBlock : Checked → List Statement → ℕ → (start now : State) → Type 0
InBlock w items i start now = Leads (of_list w items start) (of_list w (drop i items) now)

pub block_starts : (w : Checked) (items : List Statement) (m : State) → InBlock w items 0 m m
block_starts w items m = leads_here (of_list w items m)

one_more : (w : Checked) (items : List Statement) (i : ℕ) (s : Statement) (start now : State) → InBlock w items i start now → i <
    length items →
    s ≡ get_or items i s → Leads (of_list w items start) (of_list w (s ∷ drop (i + 1) items) now)
one_more w items i s start now in_block low is =
    subst (λ ss. Leads (of_list w items start) (of_list w ss now)) (drop_more items i s low ∙ ap (λ x. x ∷ drop (i + 1) items) (sym is))
    in_block

pub block_goes : (w : Checked) (items : List Statement) (i : ℕ) (s : Statement) (start now new : State) → InBlock w items i start now →
    i < length items → s ≡ get_or items i s → Means w s now (Ends tt new) → InBlock w items (i + 1) start new
block_goes w items i s start now new in_block low is p =
    let ss = drop (i + 1) items in
    let leads = one_more w items i s start now in_block low is in
    record {
      ends = λ k q. leads.ends k (on p q);
      endless = λ never. leads.endless (endless_then (Means w s) (λ u. MeansList w ss) (sure_means w s) now new tt p never);
      told = holds_on (of_list w items start).told (of_list w (s ∷ ss) now).told (of_list w ss new).told leads.told
          (rest_holds w s ss now new p);
    }

pub block_stops : (w : Checked) (items : List Statement) (i : ℕ) (s : Statement) (start now new : State) (why : Stop) →
    InBlock w items i start now → i < length items → s ≡ get_or items i s → IsKnown (of_statement w s now) new (Err why) →
    IsKnown (of_list w items start) new (Err why)
block_stops w items i s start now new (stop.Cycle c) in_block low is known =
    let ss = drop (i + 1) items in
    leads_known (of_list w items start) (of_list w (s ∷ ss) now) new (Err (stop.Cycle c)) (one_more w items i s start now in_block low is) (
      endless_first (Means w s now) (λ u. MeansList w ss) known.0,
      shown_in (of_list w (s ∷ ss) now).told (of_statement w s now).told c (first_holds w s ss now) known.1,
    )
block_stops w items i s start now new stop.Unknown in_block low is known = tt

pub block_ends : (w : Checked) (items : List Statement) (i : ℕ) (start now : State) → InBlock w items i start now → length items ≤ i →
    MeansList w items start (Ends tt now)
block_ends w items i start now in_block all =
    in_block.ends now (subst (λ ss. MeansList w ss now (Ends tt now)) (sym (drop_all i items all)) refl)
