use Rattle.std.proofs.Common.{◌∙◌, ℕ, List, ap, map, refl, subst, sym}
use Rattle.std.specs.Prelude.{Option}
use Rattle.std.specs.Option.{option_map}
use Rattle.std.specs.String.{string_bytes}
use Rattle.command_files.specs.WitnessLeft as left
use Rattle.command_files.specs.Witness.{wrong_of}
use Rattle.command_files.proofs.witness.say_witness.Goals as goal

pub returns-in-Some : goal.returns-in-Some
returns-in-Some g c =
    subst (λ (asked : Option (List ℕ)). left.LeavesWitness (g.T.Voice.refuses c.args.voice.now (map string_bytes c.args.call.now))
    (g.T.Voice.wrote c.args.voice.now) (g.S.Sources.holds c.say_wrong.new.sources) asked (wrong_of c.args.found.now) c.args.status
    (g.E.Out.state c.args.err.now) (g.E.Out.state c.say_wrong.new.err) c.say_wrong.result)
    (ap (option_map (λ name. name.now)) (sym c.in-Some.is)) c.say_wrong.ensures

pub returns-in-None : goal.returns-in-None
returns-in-None g c = left.NotAsked (ap (option_map (λ name. name.now)) c.in-None.is) refl
