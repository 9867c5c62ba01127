use Rattle.std.proofs.Common.{◌≡◌, List, map, refl, subst, ℕ}
use Rattle.std.specs.Prelude.{Option}
use Rattle.std.specs.String.{string_bytes}
use Rattle.pramc.specs.Left.{Answered, LeavesTold, Stopped}
use Rattle.pramc.proofs.answering.answer_found.Goals as goal

pub returns-in-Ok : goal.returns-in-Ok
returns-in-Ok g c =
    let voice = c.args.voice.now in
    let told = subst (λ (witness : Option (List ℕ)). LeavesTold (g.T.Voice.leaves voice) (g.T.Voice.refuses voice) (g.T.Voice.wrote voice)
    (g.S.Sources.holds c.say_found.new.sources) (map string_bytes c.args.words.now) witness c.in-Ok.found (g.O.Out.state c.args.out.now)
    (g.O.Out.state c.say_found.new.out) (g.E.Out.state c.args.err.now) (g.E.Out.state c.say_found.new.err) c.say_found.result)
    c.witness_of-witness.ensures c.say_found.ensures.left in
    record { left = Answered c.args.request c.in-Ok.found c.say_found.result refl c.in-Ok.ensures.found told }

pub returns-in-Err : goal.returns-in-Err
returns-in-Err g c = record { left = Stopped c.in-Err.halted c.in-Err.ensures.refused refl c.refuse.ensures.said }
