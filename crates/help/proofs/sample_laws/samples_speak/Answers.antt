use Rattle.help.proofs.Samples.{samples_speak}
use Rattle.help.proofs.sample_laws.samples_speak.Goals as goal

pub returns : goal.returns
returns c = samples_speak
