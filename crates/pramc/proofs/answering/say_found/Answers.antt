use Rattle.std.proofs.Common.{map, subst, sym}
use Rattle.std.specs.Option.{option_map}
use Rattle.std.specs.String.{string_bytes}
use Rattle.command_facts.specs.declared.found.Found.{Found}
use Rattle.pramc.specs.Left.{LeavesTold}
use Rattle.pramc.proofs.Told.{stepped_told}
use Rattle.pramc.proofs.answering.say_found.Goals as goal

pub returns-in-Settled : goal.returns-in-Settled
returns-in-Settled g c =
    let voice = c.args.voice.now in
    record {
      left = subst (λ (f : Found). LeavesTold (g.T.Voice.leaves voice) (g.T.Voice.refuses voice) (g.T.Voice.wrote voice)
          (g.S.Sources.holds c.say_whole.new.sources) (map string_bytes c.args.words.now) (option_map (λ name. name.now) c.args.witness) f
          (g.O.Out.state c.args.out.now) (g.O.Out.state c.say_whole.new.out) (g.E.Out.state c.args.err.now)
          (g.E.Out.state c.say_whole.new.err) c.say_whole.result) (sym c.in-Settled.is) c.say_whole.ensures.left;
    }

pub returns-in-Stepped : goal.returns-in-Stepped
returns-in-Stepped g c =
    let voice = c.args.voice.now in
    record {
      left = stepped_told (g.T.Voice.leaves voice) (g.T.Voice.refuses voice) (g.T.Voice.wrote voice)
          (g.S.Sources.holds c.args.sources.now) (map string_bytes c.args.words.now) (option_map (λ name. name.now) c.args.witness)
          c.in-Stepped.steps c.args.found c.in-Stepped.is (g.O.Out.state c.args.out.now) (g.O.Out.state c.say_steps.new.out)
          (g.E.Out.state c.args.err.now) (g.E.Out.state c.say_steps.new.err) c.say_steps.result c.say_steps.ensures.left;
    }
