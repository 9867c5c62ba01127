-- The rows of a set of processors, one by one.
use Rattle.std.proofs.Common.{◌≡◌, ℕ, List, [], ◌∷◌, ◌++◌, sym, subst, ap, ◌∙◌, ◌<◌, ◌≤◌, ◌+◌, length, take, get_or}
use Rattle.std.proofs.lemmas.List.{take_more, take_all}
use Rattle.pram_check.specs.Checked.{Checked}
use Rattle.pram_names.specs.declared.body.Expression.{Expression}
use Rattle.pram_names.specs.declared.body.StepTarget.{StepTarget}
use Rattle.pram_meaning.specs.Attempt.{Attempt, Gives, Fails, attempt_step}
use Rattle.std.specs.Prelude.{slice_get}
use Rattle.pram_meaning.specs.Store as store
use Rattle.pram_meaning.specs.Store.{member_of}
use Rattle.pram_meaning.specs.Together.{part_of, parts}
use Rattle.abstract_runs.specs.declared.active.Active.{Active}
use Rattle.abstract_runs.specs.declared.findings.Findings.{Findings}
use Rattle.abstract_runs.specs.declared.row.Row.{Row}
use Rattle.abstract_runs.specs.declared.standing.Member.{Member}
use Rattle.abstract_runs.specs.declared.standing.Standing.{Standing}
use Rattle.abstract_runs.specs.Finding.{AreKept}
use Rattle.abstract_runs.specs.Rows.{AreActive, ArePartsBy, IsPartBy}
use Rattle.abstract_runs.specs.Rows as rows
use Rattle.abstract_runs.specs.Inner.{IsKnownAt, StandsOn}
use Rattle.abstract_runs.specs.Standing.{IsKnownAs}
use Rattle.abstract_runs.specs.Tried.{IsTried}
use Rattle.abstract_runs.proofs.Trails.{Reaches}

tried_kept : {A : Type 0} (P : A → Type 0) (rs : Reaches) (f g : Findings) (a : Attempt A) → AreKept f g → IsTried P rs f a →
    IsTried P rs g a
tried_kept P rs f g (Gives t x) k h = h
tried_kept P rs f g (Fails t kind) k h = (h.0, k kind (length t) h.1)

module _ (p : Checked) (known : Standing) (team : List Member) (target : StepTarget) (e : Expression) where
  -- a row is that of an active processor
  pub record IsRowFor (faults : Findings) (a : Active) (row : Row) : Type 0 where
    pub member : row.member ≡ a.member
    pub sure : row.is_sure ≡ a.is_sure
    pub part : (m : store.State) → IsKnownAs known m → IsKnownAt (slice_get team a.member) (member_of m.team a.member) →
        IsPartBy faults row (part_of p m (λ s. attempt_step s target e) a.member)

  abbrev pub AreRowsFor : Findings → List Active → List Row → Type 0
  AreRowsFor faults [] [] = Unit {0}
  AreRowsFor faults (a ∷ some) (row ∷ rs) = IsRowFor faults a row × AreRowsFor faults some rs
  AreRowsFor faults some rs = ⊥

  row_kept : (f g : Findings) (a : Active) (row : Row) → AreKept f g → IsRowFor f a row → IsRowFor g a row
  row_kept f g a row more h = record {
    member = h.member;
    sure = h.sure;
    part = λ m k is. let x = h.part m k is in record {
      member = x.member;
      processor = x.processor;
      tried = tried_kept _ row.trail.items f g _ more x.tried;
    };
  }

  pub rows_kept : (f g : Findings) (some : List Active) (rs : List Row) → AreKept f g → AreRowsFor f some rs → AreRowsFor g some rs
  rows_kept f g [] [] k h = tt
  rows_kept f g (a ∷ some) [] k h = absurd h
  rows_kept f g [] (row ∷ rs) k h = absurd h
  rows_kept f g (a ∷ some) (row ∷ rs) k h = (row_kept f g a row k h.0, rows_kept f g some rs k h.1)

  rows_push : (f : Findings) (some : List Active) (rs : List Row) (a : Active) (row : Row) → AreRowsFor f some rs → IsRowFor f a row →
      AreRowsFor f (some ++ a ∷ []) (rs ++ row ∷ [])
  rows_push f [] [] a row h g = (g, tt)
  rows_push f (b ∷ some) [] a row h g = absurd h
  rows_push f [] (other ∷ rs) a row h g = absurd h
  rows_push f (b ∷ some) (other ∷ rs) a row h g = (h.0, rows_push f some rs a row h.1 g)

  pub rows_go : (f g : Findings) (all : List Active) (i : ℕ) (rs more : List Row) (a d : Active) (row : Row) →
      AreRowsFor f (take i all) rs →
      AreKept f g → i < length all → a ≡ get_or all i d → IsRowFor g a row → more ≡ rs ++ row ∷ [] → AreRowsFor g (take (i + 1) all) more
  rows_go f g all i rs more a d row h k below is one e =
      subst (λ some. AreRowsFor g some more) (sym (take_more all i d below ∙ ap (λ x. take i all ++ x ∷ []) (sym is)))
      (subst (AreRowsFor g (take i all ++ a ∷ [])) (sym e) (rows_push g (take i all) rs a row (rows_kept f g (take i all) rs k h) one))

  pub rows_end : (f : Findings) (all : List Active) (i : ℕ) (rs : List Row) → AreRowsFor f (take i all) rs → length all ≤ i →
      AreRowsFor f all rs
  rows_end f all i rs h past = subst (λ some. AreRowsFor f some rs) (take_all i all past) h

  -- the parts of any of the sets
  pub rows_parts : (f : Findings) (some : List Active) (rs : List Row) (vs : List ℕ) (m : store.State) → AreRowsFor f some rs →
      AreActive some vs →
      StandsOn known team vs m → ArePartsBy f rs (parts p m (λ s. attempt_step s target e) vs)
  rows_parts f [] [] vs m h (rows.none) stands = rows.none
  rows_parts f (a ∷ some) [] vs m h active stands = absurd h
  rows_parts f [] (row ∷ rs) vs m h active stands = absurd h
  rows_parts f (a ∷ some) (row ∷ rs) vs m h (rows.takes active) stands =
      rows.takes (h.0.part m stands.known_as stands.members.0)
      (rows_parts f some rs _ m h.1 active (record { known_as = stands.known_as; members = stands.members.1 }))
  rows_parts f (a ∷ some) (row ∷ rs) vs m h (rows.passes unsure active) stands =
      rows.passes (h.0.sure ∙ unsure) (rows_parts f some rs vs m h.1 active stands)
