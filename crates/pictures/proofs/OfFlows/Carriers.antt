-- What a box and a line of a column say of processors.
use Rattle.std.proofs.Common.{◌≡◌, ◌∙◌, ℕ, ℤ, Bool, true, not, ◌&&◌, List, Option, None, Some, ap, arith, get_or, nat_eq, refl}
use Rattle.std.proofs.Common.{subst}
use Rattle.std.proofs.lemmas.Bool.Decides.{nat_tests}
use Rattle.std.proofs.lemmas.List.Folds.{Any-from_list_any, list_any_at}
use Rattle.std.specs.List.{Contains, filter}
use Rattle.pram_model.proofs.Truths.{both}
use Rattle.pram_meaning.proofs.Groups.{same_number}
use Rattle.journal.specs.Entries.{Act}
use Rattle.pictures.specs.Flows.Marks.{Arrow, arrow_by, arrows, arrows_to, carries, carries_one, has_read, is_written, node}
use Rattle.pictures.specs.Flows.Marks.{nodes, values, writes}
use Rattle.pictures.proofs.OfFlows.Members.{kept, mapped, of_mapped, of_spread, passes_test, spread}

pub written_is : (write : Option ℕ) (c : ℕ) → is_written write (Some c) ≡ true → write ≡ Some c
written_is None c is = grind (arith, is)
written_is (Some d) c is = ap Some (grind (arith, nat_tests, is))

one_writes : (a : Act) (c : ℕ) → a.write ≡ Some c → is_written a.write (Some c) ≡ true
one_writes a c is = ap (λ w. is_written w (Some c)) is ∙ same_number c

has_read_is : (reads : List ℕ) (c : ℕ) → Contains reads c → has_read reads c ≡ true
has_read_is reads c one =
    list_any_at (λ r. nat_eq r c) reads one.0 c one.1 (ap (λ r. nat_eq r c) one.2 ∙ same_number c)

-- ---- a box

pub writes_is : (acts : List Act) (a : Act) (c : ℕ) → Contains acts a → a.write ≡ Some c → writes acts c ≡ true
writes_is acts a c one is =
    list_any_at (λ a. is_written a.write (Some c)) acts one.0 a one.1
    (ap (λ b. is_written b.write (Some c)) one.2 ∙ one_writes a c is)

pub node_is : (rows : List ℕ) (column : ℕ) (value : ℕ → ℤ) (acts : List Act) (a : Act) (c : ℕ) → Contains acts a → a.write ≡ Some c →
    Contains rows c → Contains (nodes rows column value acts) (node column value c)
node_is rows column value acts a c one is row =
    mapped (node column value) (filter (writes acts) rows) c (kept (writes acts) rows c row (writes_is acts a c one is))

-- ---- a line

pub carries_is : (acts : List Act) (a : Act) (from to : ℕ) → Contains acts a → Contains a.reads from → a.write ≡ Some to →
    carries acts from (Some to) ≡ true
carries_is acts a from to one read is =
    list_any_at (λ a. carries_one a from (Some to)) acts one.0 a one.1
    (ap (λ b. carries_one b from (Some to)) one.2
    ∙ ap (λ w. w && has_read a.reads from) (one_writes a to is) ∙ has_read_is a.reads from read)

pub arrow_is : (rows : List ℕ) (column : ℕ) (aside : List Bool) (acts : List Act) (a : Act) (from to : ℕ) → Contains acts a → Contains
    a.reads from →
    a.write ≡ Some to → Contains rows from → Contains rows to → Contains (arrows rows column aside acts)
    (arrow_by column aside acts to from)
arrow_is rows column aside acts a from to one read is row_from row_to =
    spread (arrows_to rows column aside acts) (filter (writes acts) rows) to (arrow_by column aside acts to from)
    (kept (writes acts) rows to row_to (writes_is acts a to one is))
    (mapped (arrow_by column aside acts to) (filter (λ from. carries acts from (Some to)) rows) from
    (kept (λ from. carries acts from (Some to)) rows from row_from (carries_is acts a from to one read is)))

-- the processor of a line
pub record IsOf (aside : List Bool) (acts : List Act) (column : ℕ) (l : Arrow) : Type 0 where
  pub act : Act
  pub acting : Contains acts act
  pub reads : Contains act.reads l.from
  pub writes : act.write ≡ Some l.to
  pub same : l.column ≡ column
  pub dashed : l.dashed ≡ not (values aside acts l.from (Some l.to))

pub read_is : (reads : List ℕ) (c : ℕ) → has_read reads c ≡ true → Contains reads c
read_is reads c h =
    let some = Any-from_list_any (λ r. nat_eq r c) reads h in
    let same : some.1 ≡ c = grind (arith, nat_tests, some.4) in
    (some.0, some.2, subst (λ r. get_or reads some.0 r ≡ r) same some.3)

carried : (aside : List Bool) (acts : List Act) (column from to : ℕ) → carries acts from (Some to) ≡ true →
    IsOf aside acts column (arrow_by column aside acts to from)
carried aside acts column from to h =
    let some = Any-from_list_any (λ a. carries_one a from (Some to)) acts h in
    let a = some.1 in
    let parts = both (is_written a.write (Some to)) (has_read a.reads from) some.4 in
    record {
      act = a;
      acting = (some.0, some.2, some.3);
      reads = read_is a.reads from parts.1;
      writes = written_is a.write to parts.0;
      same = refl;
      dashed = refl;
    }

pub line_is_of : (rows : List ℕ) (column : ℕ) (aside : List Bool) (acts : List Act) (l : Arrow) → Contains
    (arrows rows column aside acts) l →
    IsOf aside acts column l
line_is_of rows column aside acts l one =
    let to = of_spread (arrows_to rows column aside acts) (filter (writes acts) rows) l one in
    let from = of_mapped (arrow_by column aside acts to.from) (filter (λ from. carries acts from (Some to.from)) rows) l to.holds in
    subst (IsOf aside acts column) from.holds
    (carried aside acts column from.from to.from (passes_test (λ from. carries acts from (Some to.from)) rows from.from from.item))
