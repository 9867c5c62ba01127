use Rattle.std.proofs.Common.{◌+◌, drop, string_bytes}
use Rattle.json_texts.proofs.Json.{SoFar}
use Rattle.json_texts.specs.TraceFacts.{exchanges_from}
use Rattle.json_texts.proofs.trace.exchanges_text.Given as goal

abbrev pub invariant-exchanges : goal.invariant-exchanges
invariant-exchanges l = record {
  so_far : SoFar (exchanges_from l.lines 1 l.counts) (exchanges_from l.lines (l.i + 1) (drop l.i l.counts)) (string_bytes l.text);
}
