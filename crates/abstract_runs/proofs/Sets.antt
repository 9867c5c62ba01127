-- Statements of a set of processors, from what is known.
use Rattle.std.proofs.Common.{◌≡◌, ℕ, List, [], ◌∷◌, map, Option, Some, None, IfSome, IsSomeAnd, Vec, Global, IfErr, refl, ap, sym, subst}
use Rattle.std.proofs.Common.{true, Bool}
use Rattle.pram_check.specs.Checked.{Checked}
use Rattle.pram_values.specs.declared.kind.Kind.{Kind}
use Rattle.pram_meaning.specs.declared.key.Key.{Key}
use Rattle.pram_meaning.specs.Attempt.{Attempt, Effect}
use Rattle.pram_meaning.specs.Bounded.{Behaviour, Goes, Reaches, Stops, attempted_on, counted, then_do, valued}
use Rattle.pram_meaning.specs.Conflict.{Part, keys, least}
use Rattle.pram_meaning.specs.Store as store
use Rattle.std.specs.Prelude.{slice_get}
use Rattle.std.specs.List.{AllByRecursion}
use Rattle.pram_meaning.specs.Store.{View, member_of}
use Rattle.pram_meaning.specs.Together.{on_key, parts, those, together}
use Rattle.all_inputs.specs.declared.faults.Faults.{Faults}
use Rattle.abstract_runs.specs.declared.findings.Findings.{Findings}
use Rattle.abstract_runs.specs.declared.row.Row.{Row}
use Rattle.abstract_runs.specs.declared.standing.Member.{Member}
use Rattle.abstract_runs.specs.declared.standing.Standing.{Standing}
use Rattle.all_inputs.specs.declared.told.Told.{Told}
use Rattle.all_inputs.specs.Faulting.{May}
use Rattle.abstract_runs.specs.Inside.{IsAttempted}
use Rattle.abstract_runs.specs.Leads.{Leads}
use Rattle.abstract_runs.specs.declared.active.Active.{Active}
use Rattle.abstract_runs.specs.Given.{AreGiven}
use Rattle.abstract_runs.specs.Rows.{AreActive, ArePartsBy}
use Rattle.abstract_runs.specs.Inner.{IsKnownAt, IsStill, StandsOn}
use Rattle.abstract_runs.specs.Standing.{IsKnownAs}
use Rattle.all_inputs.specs.Told.{MayAt, IsKept}
use Rattle.abstract_runs.proofs.Faultless.{all_given}
use Rattle.abstract_runs.proofs.Leading.{leads_then}

parts_members : (p : Checked) (m : store.State) (a : View → Attempt Effect) (vs : List ℕ) →
    map (λ (x : Part). x.member) (parts p m a vs) ≡ vs
parts_members p m a [] = refl
parts_members p m a (v ∷ vs) = ap (λ vs. v ∷ vs) (parts_members p m a vs)

pub leads_attempted : (p : Checked) (n line : ℕ) (a : View → Attempt Effect) (vs : List ℕ) (team : List Member) (known begun : Standing)
    (mid told : Told) (faults : Findings) (all : Faults) (rows : List Row) (m : store.State) → StandsOn known team vs m →
    Leads (λ u s. (true ≡ true) × IsKnownAs begun s × (s.team ≡ m.team)) mid (counted n m) → IsKept mid told →
    ((s : store.State) → StandsOn begun team vs s → ArePartsBy faults rows (parts p s a vs)) →
    ((s : store.State) → ArePartsBy faults rows (parts p s a vs) →
    IfErr (together p line (parts p s a vs)) (λ fault. May fault.kind all × (fault.line ≡ line))) →
    ((kind : Kind) → May kind all → MayAt kind line told) →
    Leads (λ xs s. IsAttempted p rows vs xs × IsStill begun m s) told (attempted_on p n line a vs m)
leads_attempted p n line a vs team known begun mid told faults all rows m stands begins kept parts_by judged noted =
    leads_then _ (λ xs s. IsAttempted p rows vs xs × IsStill begun m s) mid told (counted n m) _ begins kept
    (λ u s g. by s (here s g.1 g.2) g.2 (least (keys p.rule (parts p s a vs))) refl (judged s (parts_by s (here s g.1 g.2))))
  where
    here : (s : store.State) → IsKnownAs begun s → s.team ≡ m.team → StandsOn begun team vs s
    here s k e = record {
      known_as = k;
      members = subst (λ gs. AllByRecursion (λ v. IsKnownAt (slice_get team v) (member_of gs v)) vs) (sym e) stands.members;
    }

    by : (s : store.State) → StandsOn begun team vs s → s.team ≡ m.team → (o : Option Key) → least (keys p.rule (parts p s a vs)) ≡ o →
        IfErr (on_key line o (parts p s a vs)) (λ fault. May fault.kind all × (fault.line ≡ line)) →
        Leads (λ xs s. IsAttempted p rows vs xs × IsStill begun m s) told (valued (on_key line o (parts p s a vs)) s)
    by s k same None e judged = (
      record { faults = faults; parts = parts_by s k; members = parts_members p s a vs; faultless = e },
      record { known_as = k.known_as; team = same },
    )
    by s k same (Some key) e judged = noted key.kind judged.0

-- parts that are known, and that there are any
abbrev pub IsFound : Checked → Option (Vec Row Global) → List ℕ → List Part → Type 0
IsFound p found vs xs = IsSomeAnd found (λ rows. IsAttempted p rows.items vs xs)

-- parts of this kind, where there are any
pub leads_found : (p : Checked) (rows : List Row) (found : Option (Vec Row Global)) (vs : List ℕ) (R : store.State → Type 0)
    (told : Told) (b : Behaviour (List Part)) → Leads (λ xs s. IsAttempted p rows vs xs × R s) told b →
    ((xs : List Part) → IsAttempted p rows vs xs → IsFound p found vs xs) →
    Leads (λ xs s. IsFound p found vs xs × R s) told b
leads_found p rows found vs R told (Goes xs s) h g = (g xs h.0, h.1)
leads_found p rows found vs R told (Stops fault output) h g = h
leads_found p rows found vs R told (Reaches output) h g = h

pub attempted_as : (p : Checked) (found : Option (Vec Row Global)) (rows : Vec Row Global) (vs : List ℕ) (xs : List Part) →
    found ≡ Some rows →
    IsFound p found vs xs → IsAttempted p rows.items vs xs
attempted_as p found rows vs xs is h = subst (λ f. IsFound p f vs xs) is h

pub not_attempted : (p : Checked) (found : Option (Vec Row Global)) (vs : List ℕ) (xs : List Part) → found ≡ None → IsFound p found vs xs →
    ⊥
not_attempted p found vs xs is h = subst (λ f. IsFound p f vs xs) is h

-- a statement's attempts, and what is made of the parts
pub found_then : (p : Checked) (found : Option (Vec Row Global)) (vs : List ℕ) (R : List Part → store.State → Type 0) (told more : Told)
    {A : Type 0} (Q : A → store.State → Type 0) (b : Behaviour (List Part)) (f : List Part → store.State → Behaviour A) →
    Leads (λ xs s. IsFound p found vs xs × R xs s) told b → IsKept told more →
    ((xs : List Part) (s : store.State) → IsFound p found vs xs → R xs s → Leads Q more (f xs s)) →
    Leads Q more (then_do b f)
found_then p found vs R told more Q b f h k g =
    leads_then (λ xs s. IsFound p found vs xs × R xs s) Q told more b f h k (λ xs s x. g xs s x.0 x.1)

-- those whose test comes out so are in the set that is chosen
pub goes_way : (p : Checked) (wanted : Bool) (found : Option (Vec Row Global)) (rows : Vec Row Global) (tried : List Row)
    (chosen active : List Active) (vs : List ℕ) (xs : List Part) → found ≡ Some rows → tried ≡ rows.items → active ≡ chosen →
    ((faults : Findings) (xs : List Part) → ArePartsBy faults tried xs → AreGiven xs → AreActive chosen (those wanted xs)) →
    IsFound p found vs xs → AreActive active (those wanted xs)
goes_way p wanted found rows tried chosen active vs xs is same named choose h =
    let a = attempted_as p found rows vs xs is h in
    subst (λ k. AreActive k (those wanted xs)) (sym named)
    (choose a.faults xs (subst (λ l. ArePartsBy a.faults l xs) (sym same) a.parts) (all_given p.rule xs a.faultless))

-- the same set under another name
pub active_as : {vs : List ℕ} (one two : List Active) → one ≡ two → AreActive two vs → AreActive one vs
active_as {vs} one two same act = subst (λ k. AreActive k vs) (sym same) act

pub more_of : {A : Type 0} (found : Option (Vec Row Global)) (rows : Vec Row Global) → found ≡ Some rows → IfSome found (λ r. A) → A
more_of {A} found rows is h = subst (λ o. IfSome o (λ r. A)) is h
