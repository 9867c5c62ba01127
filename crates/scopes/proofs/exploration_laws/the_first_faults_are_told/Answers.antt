use Rattle.scopes.proofs.Told.{all_told, first_told, occur, told_once}
use Rattle.scopes.proofs.exploration_laws.the_first_faults_are_told.Goals as goal

pub returns-clause-occur : goal.returns-clause-occur
returns-clause-occur c = λ s p n inputs. occur s p n inputs

pub returns-clause-all : goal.returns-clause-all
returns-clause-all c = λ s p n inputs input f in' h. all_told s p n inputs input f in' h

pub returns-clause-once : goal.returns-clause-once
returns-clause-once c = λ s p n inputs. told_once s p n inputs

pub returns-clause-first : goal.returns-clause-first
returns-clause-first c = λ s p n before behind input f here h none. first_told s p n before behind input f here h none
