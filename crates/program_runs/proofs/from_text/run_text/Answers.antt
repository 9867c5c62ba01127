use Rattle.std.proofs.Common.{Ok, Err}
use Rattle.std.specs.Prelude.{IfOk, Result}
use Rattle.program_runs.proofs.from_text.run_text.Goals as goal

if_ok : {A E : Type 0} (P Q : A → Type 0) → ((a : A) → P a → Q a) → (r : Result A E) → IfOk r P → IfOk r Q
if_ok P Q f (Ok a) h = f a h
if_ok P Q f (Err e) h = h

pub returns-clause-exchanges : goal.returns-clause-exchanges
returns-clause-exchanges g c = if_ok _ _ (λ r h. h.by_workers) c.run_text_with.result c.run_text_with.ensures.exchanges
