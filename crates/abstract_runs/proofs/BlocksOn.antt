-- The statements of a block inside pardo, in order, and choices.
use Rattle.std.proofs.Common.{◌≡◌, inr, ℕ, ◌+◌, ◌<◌, ◌≤◌, List, ◌∷◌, Bool, true, false, refl, ap, sym, subst, ◌∙◌, length, drop, get_or, Global, Vec}
use Rattle.std.proofs.lemmas.List.{drop_more, drop_all}
use Rattle.pram_check.specs.Checked.{Checked}
use Rattle.pram_tokens.specs.declared.token.Location.{Location}
use Rattle.pram_names.specs.declared.body.Expression.{Expression}
use Rattle.pram_names.specs.declared.body.Step as step
use Rattle.pram_names.specs.declared.body.Step.{Step}
use Rattle.pram_names.specs.declared.body.Step.TheBlock.{hidden-the_row-Step-0}
use Rattle.pram_meaning.specs.Bounded.{Done, then_do, perform_on, perform_list_on, perform_row_on, tested_on, turns_on}
use Rattle.pram_meaning.specs.Store.{State}
use Rattle.pram_meaning.specs.Together.{those}
use Rattle.pram_meaning.proofs.SetBlocks.{block_is}
use Rattle.abstract_runs.specs.declared.active.Active.{Active}
use Rattle.abstract_runs.specs.declared.standing.Member.{Member}
use Rattle.abstract_runs.specs.declared.standing.Standing.{Standing}
use Rattle.all_inputs.specs.declared.told.Told.{Told}
use Rattle.abstract_runs.specs.Leads.{Leads}
use Rattle.abstract_runs.specs.Rows.{AreActive}
use Rattle.abstract_runs.specs.Standing.{StandsWith}
use Rattle.abstract_runs.specs.Onward.{Onward}
use Rattle.all_inputs.specs.Told.{IsKept}
use Rattle.abstract_runs.proofs.Coming.{Comes, comes_leads, comes_on, then_comes}
use Rattle.abstract_runs.proofs.Leading.{leads_then, kept_same}
use Rattle.abstract_runs.proofs.Onward.{leads_onward}

-- what is known of a set, beside what is known of all
abbrev pub Inner : Type 1
Inner = List ℕ → State → Type 0

module _ (p : Checked) (n : ℕ) (items : List Step) (active : List Active) (before : Standing) (first : List Member) (Begin : Inner) where
  abbrev pub Stands : Standing → List Member → Inner → List ℕ → State → Type 0
  Stands known team Here vs m = StandsWith known team m × Here vs m

  abbrev pub InBlockOn : ℕ → Standing → List Member → Inner → Told → Type 0
  InBlockOn i known team Here told =
      (m : State) (vs : List ℕ) → StandsWith before first m → Begin vs m → AreActive active vs →
      Comes (Stands known team Here vs) told (perform_list_on p n (drop i items) vs) (perform_list_on p n items vs m)

  opened : (i : ℕ) (s : Step) (vs : List ℕ) (m : State) → i < length items → s ≡ get_or items i s →
      perform_list_on p n (drop i items) vs m ≡ then_do (perform_on p n s vs m) (λ u. perform_list_on p n (drop (i + 1) items) vs)
  opened i s vs m h is = ap (λ xs. perform_list_on p n xs vs m) (drop_more items i s h ∙ ap (λ x. x ∷ drop (i + 1) items) (sym is))

  module _ (i : ℕ) (s : Step) (known new : Standing) (team later : List Member) (Here There : Inner) (told more : Told) (on : Bool)
      (b : InBlockOn i known team Here told) (h : i < length items) (is : s ≡ get_or items i s) (k : IsKept told more)
      (leads : (m : State) (vs : List ℕ) → StandsWith known team m → Here vs m → AreActive active vs →
      Leads (λ u n. (on ≡ true) × StandsWith new later n) more (perform_on p n s vs m)) where
    pub block_goes : (Behind : List ℕ → State → State → Type 0) → ((vs : List ℕ) (m : State) → Onward (λ u z. Behind vs m z) (perform_on p n s vs m)) →
        ((vs : List ℕ) (m z : State) → Here vs m → Behind vs m z → There vs z) → InBlockOn (i + 1) new later There more
    block_goes Behind onward there = λ m vs stands begin act.
        comes_on (Stands known team Here vs) (Stands new later There vs) told more (perform_list_on p n (drop i items) vs)
        (perform_list_on p n (drop (i + 1) items) vs) (perform_list_on p n items vs m) (b m vs stands begin act) k
        (λ m here. subst (Comes (Stands new later There vs) more (perform_list_on p n (drop (i + 1) items) vs)) (sym (opened i s vs m h is))
        (then_comes (λ u z. ((on ≡ true) × StandsWith new later z) × Behind vs m z) (Stands new later There vs) more more
        (perform_list_on p n (drop (i + 1) items) vs) (perform_on p n s vs m) _
        (leads_onward (λ u z. (on ≡ true) × StandsWith new later z) (λ u z. Behind vs m z) more (perform_on p n s vs m)
        (leads m vs here.0 here.1 act) (onward vs m)) (kept_same more)
        (λ u z g. inr (record { state = z; same = refl; stands = (g.0.1, there vs m z here.1 g.1) }))))

    pub block_stops : (Q : Unit {0} → State → Type 0) → on ≡ false → (m : State) (vs : List ℕ) → StandsWith before first m → Begin vs m →
        AreActive active vs → Leads Q more (perform_list_on p n items vs m)
    block_stops Q none = λ m vs stands begin act.
        comes_leads (Stands known team Here vs) Q told more (perform_list_on p n (drop i items) vs) (perform_list_on p n items vs m)
        (b m vs stands begin act) k
        (λ m here. subst (Leads Q more) (sym (opened i s vs m h is))
        (leads_then (λ u n. (on ≡ true) × StandsWith new later n) Q more more (perform_on p n s vs m) _ (leads m vs here.0 here.1 act)
        (kept_same more) (λ u m g. absurd (cc (sym none ∙ g.0)))))

  pub block_ends : (i : ℕ) (known : Standing) (team : List Member) (Here : Inner) (told : Told) → InBlockOn i known team Here told →
      length items ≤ i → (m : State) (vs : List ℕ) → StandsWith before first m → Begin vs m → AreActive active vs →
      Leads (λ u n. (true ≡ true) × StandsWith known team n) told (perform_list_on p n items vs m)
  block_ends i known team Here told b past = λ m vs stands begin act.
      comes_leads (Stands known team Here vs) (λ u n. (true ≡ true) × StandsWith known team n) told told (perform_list_on p n (drop i items) vs)
      (perform_list_on p n items vs m) (b m vs stands begin act) (kept_same told)
      (λ m here. subst (λ xs. Leads (λ u n. (true ≡ true) × StandsWith known team n) told (perform_list_on p n xs vs m))
      (sym (drop_all i items past)) (refl, here.0))

  pub at_items : (Q : Unit {0} → State → Type 0) (told : Told) (ys : List Step) → items ≡ ys →
      ((m : State) (vs : List ℕ) → StandsWith before first m → Begin vs m → AreActive active vs → Leads Q told (perform_list_on p n items vs m)) →
      (m : State) (vs : List ℕ) → StandsWith before first m → Begin vs m → AreActive active vs → Leads Q told (perform_list_on p n ys vs m)
  at_items Q told ys same h =
      subst (λ xs. (m : State) (vs : List ℕ) → StandsWith before first m → Begin vs m → AreActive active vs →
      Leads Q told (perform_list_on p n xs vs m)) same h

-- ---- a choice and a loop, by their lists

pub if_is : (p : Checked) (n : ℕ) (here : Location) (e : Expression) (a b : Vec Step Global) (vs : List ℕ) (m : State) →
    perform_on p n (step.If here e a b) vs m ≡ then_do (tested_on p n here.line e vs m)
    (λ xs m. then_do (perform_list_on p n a.items (those true xs) m) (λ u. perform_list_on p n b.items (those false xs)))
if_is p n here e a b vs m =
    ap (λ f. then_do (tested_on p n here.line e vs m) (λ xs m. then_do (f (those true xs) m) (λ u. perform_row_on p n (hidden-the_row-Step-0 b) (those false xs))))
    (block_is p n a)
    ∙ ap (λ f. then_do (tested_on p n here.line e vs m) (λ xs m. then_do (perform_list_on p n a.items (those true xs) m) (λ u. f (those false xs))))
    (block_is p n b)

pub while_is : (p : Checked) (n : ℕ) (here : Location) (e : Expression) (body : Vec Step Global) (vs : List ℕ) (m : State) →
    perform_on p n (step.While here e body) vs m ≡ turns_on (n + 1) (tested_on p n here.line e) (perform_list_on p n body.items) vs m
while_is p n here e body vs m = ap (λ f. turns_on (n + 1) (tested_on p n here.line e) f vs m) (block_is p n body)

-- nothing comes behind what no run goes on from
pub stops_then : (Q : Unit {0} → State → Type 0) (known : Standing) (team : List Member) (told : Told) (b : Done) (f : Unit {0} → State → Done)
    (on : Bool) → Leads (λ u n. (on ≡ true) × StandsWith known team n) told b → on ≡ false → Leads Q told (then_do b f)
stops_then Q known team told b f on h none =
    leads_then (λ u n. (on ≡ true) × StandsWith known team n) Q told told b f h (kept_same told) (λ u m g. absurd (cc (sym none ∙ g.0)))
