use Rattle.std.proofs.Common.{◌∙◌, ℤ, List, Some, ap, map, refl, subst, sym}
use Rattle.std.specs.Prelude.{Option}
use Rattle.std.specs.Option.{option_map}
use Rattle.std.specs.String.{string_bytes}
use Rattle.command_files.specs.WitnessLeft as left
use Rattle.command_files.proofs.witness.say_wrong.Goals as goal

pub returns-in-Some : goal.returns-in-Some
returns-in-Some g c =
    subst (λ (wrong : Option (List ℤ)). left.LeavesWitness (g.T.Voice.refuses c.args.voice.now (map string_bytes c.args.call.now))
    (g.T.Voice.wrote c.args.voice.now) (g.S.Sources.holds c.say_input.new.sources) (Some c.args.name.now) wrong c.args.status
    (g.E.Out.state c.args.err.now) (g.E.Out.state c.say_input.new.err) c.say_input.result)
    (ap (option_map (λ input. input.now)) (sym c.in-Some.is) ∙ c.wrong_of.ensures) c.say_input.ensures

pub returns-in-None : goal.returns-in-None
returns-in-None g c = left.NothingWrong (sym c.wrong_of.ensures ∙ ap (option_map (λ input. input.now)) c.in-None.is) refl
