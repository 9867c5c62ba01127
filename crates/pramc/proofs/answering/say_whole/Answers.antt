use Rattle.pramc.proofs.answering.say_whole.Goals as goal

pub returns : goal.returns
returns g c = record {
  left = record {
    between = g.E.Out.state c.say_settled-told.new.err;
    told = c.say_settled-told.result;
    tells = c.say_settled-told.ensures.left;
    writes = c.say_witness.ensures;
  };
}
