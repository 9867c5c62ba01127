use Rattle.std.proofs.lemmas.List.Elements.{filter-append}
use Rattle.scopes.specs.Specified.{affirms, counts}
use Rattle.scopes.proofs.Lists.{filter_all, from_filter, in_filter}
use Rattle.scopes.proofs.specification_laws.just_what_is_affirmed_counts.Goals as goal

pub returns-clause-affirmed : goal.returns-clause-affirmed
returns-clause-affirmed c = λ q n inputs input.
    (λ h. from_filter (affirms q n) inputs input h, λ h. in_filter (affirms q n) inputs input h.0 h.1)

pub returns-clause-all : goal.returns-clause-all
returns-clause-all c = λ n inputs. filter_all inputs

pub returns-clause-order : goal.returns-clause-order
returns-clause-order c = λ q n before behind. filter-append (counts q n) before behind
