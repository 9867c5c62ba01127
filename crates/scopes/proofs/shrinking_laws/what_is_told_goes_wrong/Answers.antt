use Rattle.scopes.specs.Found.{found}
use Rattle.scopes.specs.Scopes.{inputs_of}
use Rattle.scopes.specs.Wrong.{goes_wrong}
use Rattle.scopes.specs.declared.wrong.Wrong.TheVariants.{GoesOn, Fails}
use Rattle.scopes.proofs.InScope.{wrong_there}
use Rattle.scopes.proofs.ToldSmaller.{all_wrong, fails_wrong, faults_told, goes_on_wrong, input_told, still_alike}
use Rattle.scopes.proofs.shrinking_laws.what_is_told_goes_wrong.Goals as goal

pub returns-clause-faults : goal.returns-clause-faults
returns-clause-faults c = λ s t p n g h. faults_told s t p n (found t p n (inputs_of s)).faults g.faults h.faults (all_wrong s t p n)

pub returns-clause-alike : goal.returns-clause-alike
returns-clause-alike c = λ s t p n m q h shrunk. still_alike s t p n m q h shrunk

pub returns-clause-goes_on : goal.returns-clause-goes_on
returns-clause-goes_on c = λ s t p n g input h is.
    wrong_there s t p n GoesOn input
    (input_told (goes_wrong s t p n GoesOn) (found t p n (inputs_of s)).goes_on_at g.goes_on_at input h.goes_on
    (λ xs at. goes_on_wrong s t p n xs at) is)

pub returns-clause-fails : goal.returns-clause-fails
returns-clause-fails c = λ s t p n g input h is.
    wrong_there s t p n Fails input
    (input_told (goes_wrong s t p n Fails) (found t p n (inputs_of s)).fails_at g.fails_at input h.fails
    (λ xs at. fails_wrong s t p n xs at) is)
