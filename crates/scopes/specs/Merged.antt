-- What is found of inputs and of others behind them, by what is found of these and of those.
use Rattle.std.specs.Prelude.{◌+◌, min, max, Option, Some, None}
use Rattle.std.specs.List.{fold}
use Rattle.std.specs.Option.{option_or}
use Rattle.scopes.specs.declared.findings.Span.{Span}
use Rattle.scopes.specs.Firsts.{noted}
use Rattle.scopes.specs.Found.{Found}

-- the least and the greatest of both
abbrev pub both_spans : Option Span → Option Span → Option Span
both_spans None t = t
both_spans (Some s) None = Some s
both_spans (Some s) (Some t) = Some (record { least = min s.least t.least; greatest = max s.greatest t.greatest })

-- counts add up; of each kind of fault at each line the first one is that of the inputs before, where these have one, and so are the
-- first input on which the run goes on and the first on which it fails
abbrev pub merged : Found → Found → Found
merged f g = record {
  inputs = f.inputs + g.inputs;
  counting = f.counting + g.counting;
  ended = f.ended + g.ended;
  faulted = f.faulted + g.faulted;
  go_on = f.go_on + g.go_on;
  failed = f.failed + g.failed;
  faults = fold noted f.faults g.faults;
  goes_on_at = option_or f.goes_on_at g.goes_on_at;
  fails_at = option_or f.fails_at g.fails_at;
  time = both_spans f.time g.time;
  work = both_spans f.work g.work;
}
