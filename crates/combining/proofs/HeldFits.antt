-- Writes that fit in words leave puts that fit.
use Rattle.std.proofs.Common.{List, [], ◌∷◌, Bool, true, false, eqb}
use Rattle.std.specs.Prelude.{if◌then◌else◌}
use Rattle.std.specs.List.{AllByRecursion}
use Rattle.pram_model.specs.declared.rule.Rule.{Rule}
use Rattle.superstep_machine.specs.Setting.{combining}
use Rattle.superstep_machine.specs.Words.{CellPut}
use Rattle.superstep_machine.specs.Fitting.{FitsPut, FitsWrite}
use Rattle.superstep_machine.specs.Worker.{HeldWrite}
use Rattle.superstep_machine.proofs.MachineWords.{join_fits, single_fits}
use Rattle.combining.specs.Held.{put, put_at, entry_of_write, held_after}

put_fits : (rule : Rule) (w : HeldWrite) → FitsWrite w → (held : List CellPut) → AllByRecursion (FitsPut rule) held →
    AllByRecursion (FitsPut rule) (put rule w held)
put_fits rule w f [] h = let s = single_fits rule w f in (record { cell = f.cell; owner = s.owner; value = s.value }, tt)
put_fits rule w f (x ∷ held) h = step (eqb x.cell w.cell) (put_fits rule w f held h.1)
  where
    here : FitsPut rule (put_at x.cell ((combining rule).join x.entry (entry_of_write rule w)))
    here = let j = join_fits rule x.entry (entry_of_write rule w) (record { owner = h.0.owner; value = h.0.value })
        (single_fits rule w f) in record { cell = h.0.cell; owner = j.owner; value = j.value }

    step : (b : Bool) → AllByRecursion (FitsPut rule) (put rule w held)
        → AllByRecursion (FitsPut rule) (if b then put_at x.cell ((combining rule).join x.entry (entry_of_write rule w)) ∷ held else x
        ∷ put rule w held)
    step true rest = (here, h.1)
    step false rest = (h.0, rest)

pub held_fits : (rule : Rule) (ws : List HeldWrite) (held : List CellPut) → AllByRecursion FitsWrite ws →
    AllByRecursion (FitsPut rule) held → AllByRecursion (FitsPut rule) (held_after rule ws held)
held_fits rule [] held f h = h
held_fits rule (w ∷ ws) held f h = held_fits rule ws (put rule w held) f.1 (put_fits rule w f.0 held h)
