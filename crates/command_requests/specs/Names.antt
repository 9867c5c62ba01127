-- How an option that takes a word stands on a command line. Made of the table of options by `gate/editors.py --write`.
use Rattle.std.specs.Prelude.{ℕ, List, codes}
use Rattle.command_requests.specs.declared.given.Given.{Given}
use Rattle.command_requests.specs.declared.given.Given.TheVariants as given

abbrev pub name : Given → List ℕ
name given.Bound = codes "--bound"
name given.Seconds = codes "--seconds"
name given.Random = codes "--random"
name given.Draw = codes "--draw"
name given.Seed = codes "--seed"
name given.Show = codes "--show"
name given.Schedule = codes "--schedule"
name given.Workers = codes "--workers"
name given.Sweep = codes "--sweep"
name given.From = codes "--from"
name given.To = codes "--to"
name given.Only = codes "--only"
name given.Map = codes "--map"
name given.Reserve = codes "--reserve"
name given.Bsp = codes "--bsp"
name given.Cells = codes "--cells"
name given.Values = codes "--values"
name given.Permutations = codes "--permutations"
name given.Count = codes "--count"
name given.Under = codes "--under"
name given.TimeAtMost = codes "--time-at-most"
name given.WorkAtMost = codes "--work-at-most"
name given.ProcsAtMost = codes "--procs-at-most"
name given.Size = codes "--size"
name given.Format = codes "--format"
name given.ToldWorkers = codes "--workers"
name given.Subject = codes "explain"
