-- What a listener that counts has counted behind moments that it heard.
use Rattle.std.specs.Prelude.{◌≡◌, ℕ, ◌+◌, List}
use Rattle.std.specs.List.{flat_map}
use Rattle.pram_meaning.specs.Moments.{Moment}
use Rattle.costs.specs.declared.meter.Meter.{Meter}
use Rattle.costs.specs.Accounts.{Accounts, entered_all, met_all}
use Rattle.costs.specs.Communication.{steps_outside}
use Rattle.costs.specs.Cost.{reads}
use Rattle.costs.specs.Ledgers.{ledger_is}
use Rattle.costs.specs.MomentEvents.{events_at}
use Rattle.costs.specs.Steps.{steps_of}

-- with the time steps and the events of these moments
abbrev pub with_moments : ℕ → List Moment → Accounts → Accounts
with_moments q ms a = entered_all q (flat_map steps_of ms) (met_all (flat_map events_at ms) a)

-- those are counted on top, and the reads of those of their time steps that are outside pardo
pub record HasCounted (a : Meter) (ms : List Moment) (b : Meter) : Type 0 where
  pub schedule : b.schedule ≡ a.schedule
  pub ledger : ledger_is b.ledger ≡ with_moments a.schedule ms (ledger_is a.ledger)
  pub outer_reads : b.outer_reads ≡ a.outer_reads + reads (flat_map steps_outside ms)
