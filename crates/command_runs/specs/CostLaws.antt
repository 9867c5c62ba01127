-- What the costs of a program tell of its runs by workers.
use Rattle.std.specs.Prelude.{◌≡◌, ◌≤◌, ℕ, ℤ, List, Option, Some}
use Rattle.write_rules.specs.Verdict.{Verdict}
use Rattle.superstep_machine.specs.Trace.{Exchange}
use Rattle.fusing.specs.Fusing.{IsFaultless}
use Rattle.exchange_words.specs.Sent.{words_sent}
use Rattle.pram_check.specs.Checked.{Checked}
use Rattle.program_texts.specs.Report.{IsMeaningOf}
use Rattle.program_runs.specs.Reserved.{IsProgramRunWith}
use Rattle.run_options.specs.declared.options.Options.{Options}
use Rattle.run_options.specs.declared.reserve.Reserve.{Reserve}
use Rattle.costs.specs.declared.cost.Cost.{Cost}
use Rattle.command_runs.specs.Runs.{IsCostOf}

-- A run by workers that doesn't fault sends at most as many words in all its exchanges as the costs tell for so many workers, on the same
-- input and within the same bound.
abbrev pub CostsBoundWords : Type 0
CostsBoundWords = (program : Checked) (input : List ℤ) (options : Options) (reserve : Option Reserve) (verdict : Verdict)
    (exchanges : List Exchange) → IsProgramRunWith program input options reserve verdict exchanges →
    IsMeaningOf program input options.bound verdict → IsFaultless verdict → (schedule : Option ℕ) (c : Cost) →
    IsCostOf program input options.bound schedule (Some options.workers) c → (told : ℕ) → c.most_words ≡ Some told →
    words_sent exchanges ≤ told
