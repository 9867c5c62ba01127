use Rattle.comparing.proofs.Runs.{come, none_told}
use Rattle.comparing.proofs.So.{told_is_so}
use Rattle.comparing.proofs.comparison_laws.what_is_told_is_so.Goals as goal

pub returns-clause-none : goal.returns-clause-none
returns-clause-none c = λ k v b.
    (λ h. come k v b.verdict b.time b.work h, λ h. none_told k v b.verdict b.time b.work h.0 h.1)

pub returns-clause-so : goal.returns-clause-so
returns-clause-so c = λ k v b d h. told_is_so k v b d h
