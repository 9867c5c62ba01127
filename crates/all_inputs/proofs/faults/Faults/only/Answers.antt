use Rattle.std.proofs.Common.{◌≡◌, ◌∙◌, List, [], ◌∷◌, Some, ap, refl, subst, sym}
use Rattle.pram_values.specs.declared.kind.Kind.{Kind}
use Rattle.pram_values.specs.declared.kind.Kind.TheVariants as variant
use Rattle.all_inputs.specs.declared.faults.Faults.{Faults}
use Rattle.all_inputs.specs.Faulting.{kinds_of}
use Rattle.all_inputs.proofs.faults.Faults.only.Goals as goal

abbrev one : Kind → List Kind
one kind = kind ∷ []

pub returns-in-Overflow-clause-kind : goal.returns-in-Overflow-clause-kind
returns-in-Overflow-clause-kind c =
    subst (λ (none : Faults). kinds_of (record none { overflow = Some c.args.reason }) ≡ one variant.Overflow) (sym c.none-none.ensures) refl
    ∙ ap one (sym c.in-Overflow.is)

pub returns-in-DivideByZero-clause-kind : goal.returns-in-DivideByZero-clause-kind
returns-in-DivideByZero-clause-kind c =
    subst (λ (none : Faults). kinds_of (record none { divide_by_zero = Some c.args.reason }) ≡ one variant.DivideByZero) (sym c.none-none.ensures) refl
    ∙ ap one (sym c.in-DivideByZero.is)

pub returns-in-OutOfRange-clause-kind : goal.returns-in-OutOfRange-clause-kind
returns-in-OutOfRange-clause-kind c =
    subst (λ (none : Faults). kinds_of (record none { out_of_range = Some c.args.reason }) ≡ one variant.OutOfRange) (sym c.none-none.ensures) refl
    ∙ ap one (sym c.in-OutOfRange.is)

pub returns-in-TooWide-clause-kind : goal.returns-in-TooWide-clause-kind
returns-in-TooWide-clause-kind c =
    subst (λ (none : Faults). kinds_of (record none { too_wide = Some c.args.reason }) ≡ one variant.TooWide) (sym c.none-none.ensures) refl
    ∙ ap one (sym c.in-TooWide.is)

pub returns-in-ReadConflict-clause-kind : goal.returns-in-ReadConflict-clause-kind
returns-in-ReadConflict-clause-kind c =
    subst (λ (none : Faults). kinds_of (record none { read_conflict = Some c.args.reason }) ≡ one variant.ReadConflict) (sym c.none-none.ensures) refl
    ∙ ap one (sym c.in-ReadConflict.is)

pub returns-in-WriteConflict-clause-kind : goal.returns-in-WriteConflict-clause-kind
returns-in-WriteConflict-clause-kind c =
    subst (λ (none : Faults). kinds_of (record none { write_conflict = Some c.args.reason }) ≡ one variant.WriteConflict) (sym c.none-none.ensures) refl
    ∙ ap one (sym c.in-WriteConflict.is)
