use Rattle.std.proofs.Common.{refl, sym, ◌∙◌}
use Rattle.superstep_listing.proofs.Declared.{is_name_no, is_name_yes}
use Rattle.superstep_listing.proofs.entry_line.cell_of.Goals as goal

pub returns-then-not-is_name : goal.returns-then-not-is_name
returns-then-not-is_name c = record { value = is_name_no c.args.name.now c.is_name.result c.is_name.ensures.value c.if-not-is_name.true }

pub returns : goal.returns
returns c = record { value = (is_name_yes c.args.name.now (sym c.is_name.ensures.value ∙ c.if-not-is_name.false), refl, refl) }
