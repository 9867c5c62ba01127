use Rattle.std.proofs.Common.{◌≡◌, ◌∙◌, ◌++◌, ◌∷◌, [], refl, sym, ap, subst, Bool}
use Rattle.std.specs.Prelude.{MatchBool}
use Rattle.pram_model.specs.Layout.{SharedEntry}
use Rattle.superstep_instructions.specs.Limits.{IsLayout}
use Rattle.superstep_listing.specs.Listing.{entry_line}
use Rattle.superstep_listing.proofs.Cuts.{one_cut}
use Rattle.superstep_listing.proofs.Entries.{layout_entry}
use Rattle.superstep_listing.proofs.Once.{entry_once}
use Rattle.superstep_listing.proofs.Plain.{plain_entry}
use Rattle.superstep_listing.proofs.layout_read.layout_of.Goals as goal

pub returns-then-not-branch-clause-most : goal.returns-then-not-branch-clause-most
returns-then-not-branch-clause-most c =
    let d : SharedEntry = record { name = c.in-Some.entry.name.now; bounds = c.in-Some.entry.bounds } in
    let was = c.in-Some.ensures.value in
    let old = c.loop-entry.layout in
    let new = c.add.new.layout in
    let family : Bool → Type 0 = λ b. MatchBool b (IsLayout new × (new ≡ old ++ d ∷ [])) ((new ≡ old) × (IsLayout (old ++ d ∷ []) → ⊥)) in
    let told = subst family c.if-not-branch.true c.in_ok-add.ensures.ok in
    λ e more l r.
    let is = layout_entry new e l in
    let lines = one_cut 10 (entry_line d) (entry_line e) (10 ∷ c.in-Some.behind.now) (10 ∷ more) (plain_entry d was.0) (plain_entry e is)
    refl refl (sym was.1 ∙ r) in
    let same = entry_once e d is was.0 (sym lines.0) in
    told.1 (subst IsLayout (ap (λ es. es ++ e ∷ []) told.0 ∙ ap (λ x. old ++ x ∷ []) same) l)

pub returns-clause-most : goal.returns-clause-most
returns-clause-most c = λ e more l r. c.in_default.ensures.value e more (layout_entry _ e l) r
