-- Parts of a program behind one another, also such as come to a value: where the run comes to along their events.
use Rattle.std.proofs.Common.{◌≡◌, ℕ, ◌+◌, List, [], ◌∷◌, ◌++◌, Bool, false, refl, sym, ap, ◌∙◌, subst, append-nil, arith}
use Rattle.write_rules.specs.Verdict.{Faulted, GoesOn}
use Rattle.pram_meaning.specs.Store.{State}
use Rattle.pram_meaning.specs.Bounded.{Behaviour, Goes, Stops, Reaches, Done, then_do}
use Rattle.flat_machine.specs.ByInstructions.{IsFlatOutcome}
use Rattle.flat_stretches.specs.Along.{Run}
use Rattle.flat_stretches.specs.Closes.{ComesOut}
use Rattle.exchange_bound.specs.Events.{Event, Cut, behind}
use Rattle.exchange_bound.specs.Bound.{one_if}
use Rattle.exchange_bound.specs.Spent.{held_behind}
use Rattle.compiled_meaning.specs.Paid.{spent}
use Rattle.exchange_bound.proofs.Shared.{held_joins}
use Rattle.compiled_meaning.specs.Follows.{in_all, Follows, HoldsBehind}
use Rattle.compiled_meaning.proofs.EachStatement.Joined.{in_all_joins, spent_behind}

-- `Follows` and `HoldsBehind` for parts that come to a value: `goes` says of that, of what was spent, and of the state what the run comes
-- to there.
abbrev pub Leads : Run → {A : Type 0} → (before : ℕ) → (held left : Bool) → List Event → (ℕ → A → State → Type 0) → Behaviour A → Type 0
Leads t before held left es goes (Goes a m) = (held_behind es held ≡ left) × goes (before + spent t es held) a m
Leads t before held left es goes (Stops fault out) = IsFlatOutcome t.code t.input t.bound (Faulted fault out)
Leads t before held left es goes (Reaches out) = ComesOut t (GoesOn out) (before + in_all t es held + 1)

module _ (t : Run) where
  -- a part behind some events
  pub leads_behind : {A : Type 0} (before : ℕ) (held mid left : Bool) (es fs : List Event) (goes : ℕ → A → State → Type 0)
      (b : Behaviour A) → held_behind es held ≡ mid → Leads t (before + spent t es held) mid left fs goes b →
      Leads t before held left (es ++ fs) goes b
  leads_behind before held mid left es fs goes (Goes a m) e h =
      let n = spent_behind t es fs held mid e in (
        held_joins es fs held ∙ ap (held_behind fs) e ∙ h.0,
        subst (λ n. goes n a m) (let k : before + spent t es held + spent t fs mid ≡ before + spent t (es ++ fs) held = omega (arith, n)
            in k)
            h.1,
      )
  leads_behind before held mid left es fs goes (Stops fault out) e h = h
  leads_behind before held mid left es fs goes (Reaches out) e h =
      let n = in_all_joins t es fs held mid e in
      subst (λ n. ComesOut t (GoesOn out) n)
      (let k : before + spent t es held + in_all t fs mid + 1 ≡ before + in_all t (es ++ fs) held + 1 = omega (arith, n) in k) h

  -- a part, and from where it goes on the next
  pub leads_then : {A B : Type 0} (before : ℕ) (held mid left : Bool) (es : List Event) (first : ℕ → A → State → Type 0)
      (goes : ℕ → B → State → Type 0) (b : Behaviour A) (k : A → State → Behaviour B) (events : A → State → List Event) →
      Leads t before held mid es first b →
      ((n : ℕ) (a : A) (m : State) → first n a m → Leads t n mid left (events a m) goes (k a m)) →
      Leads t before held left (es ++ behind b events) goes (then_do b k)
  leads_then before held mid left es first goes (Goes a m) k events h go =
      leads_behind before held mid left es (events a m) goes (k a m) h.0 (go (before + spent t es held) a m h.1)
  leads_then before held mid left es first goes (Stops fault out) k events h go = h
  leads_then before held mid left es first goes (Reaches out) k events h go =
      subst (λ (xs : List Event). ComesOut t (GoesOn out) (before + in_all t xs held + 1)) (sym (append-nil es)) h

  -- the same without more events
  pub leads_after : {A B : Type 0} (before : ℕ) (held left : Bool) (es : List Event) (first : ℕ → A → State → Type 0)
      (goes : ℕ → B → State → Type 0) (b : Behaviour A) (give : A → State → B) (change : A → State → State) →
      Leads t before held left es first b → ((n : ℕ) (a : A) (m : State) → first n a m → goes n (give a m) (change a m)) →
      Leads t before held left es goes (then_do b (λ a m. Goes (give a m) (change a m)))
  leads_after before held left es first goes (Goes a m) give change h go = (h.0, go (before + spent t es held) a m h.1)
  leads_after before held left es first goes (Stops fault out) give change h go = h
  leads_after before held left es first goes (Reaches out) give change h go = h

  -- what a part says may be said otherwise
  pub leads_as : {A : Type 0} (before : ℕ) (held left : Bool) (es : List Event) (first goes : ℕ → A → State → Type 0) (b : Behaviour A) →
      Leads t before held left es first b → ((n : ℕ) (a : A) (m : State) → first n a m → goes n a m) →
      Leads t before held left es goes b
  leads_as before held left es first goes (Goes a m) h go = (h.0, go (before + spent t es held) a m h.1)
  leads_as before held left es first goes (Stops fault out) h go = h
  leads_as before held left es first goes (Reaches out) h go = h

  -- a cut behind a part, where what is held is sent
  pub leads_cut : {A : Type 0} (before : ℕ) (held left : Bool) (es : List Event) (first goes : ℕ → A → State → Type 0) (b : Behaviour A) →
      Leads t before held left es first b → ((n : ℕ) (a : A) (m : State) → first n a m → goes (n + one_if left) a m) →
      Leads t before held false (es ++ Cut ∷ []) goes b
  leads_cut before held left es first goes (Goes a m) h go =
      let n = spent_behind t es (Cut ∷ []) held left h.0 in (
        held_joins es (Cut ∷ []) held,
        subst (λ n. goes n a m)
            (let k : before + spent t es held + one_if left ≡ before + spent t (es ++ Cut ∷ []) held = omega (arith, n) in k)
            (go (before + spent t es held) a m h.1),
      )
  leads_cut before held left es first goes (Stops fault out) h go = h
  leads_cut before held left es first goes (Reaches out) h go =
      let n = in_all_joins t es (Cut ∷ []) held (held_behind es held) refl in
      subst (λ n. ComesOut t (GoesOn out) n)
      (let k : before + in_all t es held + 1 ≡ before + in_all t (es ++ Cut ∷ []) held + 1 = omega (arith, n) in k) h

  -- a part that comes to no value follows, and holds what it is said to
  pub leads_follow : (before : ℕ) (held left : Bool) (es : List Event) (first : ℕ → Unit {0} → State → Type 0) (goes : State → Type 0)
      (d : Done) → Leads t before held left es first d → ((u : Unit {0}) (m : State) → first (before + spent t es held) u m → goes m) →
      Follows t before held es goes d
  leads_follow before held left es first goes (Goes u m) h go = go u m h.1
  leads_follow before held left es first goes (Stops fault out) h go = h
  leads_follow before held left es first goes (Reaches out) h go = h

  pub leads_hold : (before : ℕ) (held left : Bool) (es : List Event) (first : ℕ → Unit {0} → State → Type 0) (d : Done) →
      Leads t before held left es first d → HoldsBehind held es left d
  leads_hold before held left es first (Goes u m) h = h.0
  leads_hold before held left es first (Stops fault out) h = tt
  leads_hold before held left es first (Reaches out) h = tt

  -- and the other way round
  pub leads_by : (before : ℕ) (held left : Bool) (es : List Event) (first : ℕ → Unit {0} → State → Type 0) (goes : State → Type 0)
      (d : Done) → Follows t before held es goes d → HoldsBehind held es left d →
      ((u : Unit {0}) (m : State) → goes m → first (before + spent t es held) u m) → Leads t before held left es first d
  leads_by before held left es first goes (Goes u m) h e go = (e, go u m h)
  leads_by before held left es first goes (Stops fault out) h e go = h
  leads_by before held left es first goes (Reaches out) h e go = h
