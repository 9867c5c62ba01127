-- The exchanges of a run, in words or drawn.
use Rattle.std.specs.Prelude.{ℕ, List, [], ◌++◌, Bool, true, false, Option, Some, None}
use Rattle.superstep_machine.specs.Trace.{Exchange}
use Rattle.svg_texts.specs.Shapes.{picture_text}
use Rattle.tracer.specs.Cost.{cost_text}
use Rattle.tracer.specs.Picture.{picture}
use Rattle.tracer.specs.Traced.{trace_text}
use Rattle.write_rules.specs.Verdict.{verdict_of}
use Rattle.program_texts.specs.Shown.{shown}
use Rattle.command_requests.specs.declared.trace_words.TraceWords.{TraceWords}
use Rattle.command_facts.specs.declared.found.FoundRun.{FoundRun}
use Rattle.command_facts.specs.declared.found.FoundTrace.{FoundTrace}
use Rattle.command_text.specs.Costs.{if_asked}

-- the outcome of a run, with all of its memory
abbrev pub outcome_text : FoundRun → List ℕ
outcome_text r = shown r.loaded.program.layout (verdict_of r.outcome)

-- what exchanges cost, where that is asked for
abbrev pub rated_text : Option (ℕ × ℕ) → List Exchange → List ℕ
rated_text None es = []
rated_text (Some rates) es = cost_text rates.0 rates.1 es

-- what stands behind the exchanges: what they cost, and the run's outcome
abbrev pub behind : TraceWords → (told : List ℕ) → List Exchange → List ℕ
behind w told es = rated_text w.rates es ++ if_asked w.outcome told

-- the exchanges of a run in words
abbrev pub exchanges_text : TraceWords → (told : List ℕ) → FoundTrace → List ℕ
exchanges_text w told t = trace_text t.lines.items t.counts ++ behind w told t.counts

-- or drawn
abbrev pub counts_text : (drawn : Bool) → TraceWords → (told : List ℕ) → FoundTrace → List ℕ
counts_text true w told t = picture_text (picture t.lines.items t.ends.items t.counts)
counts_text false w told t = exchanges_text w told t
