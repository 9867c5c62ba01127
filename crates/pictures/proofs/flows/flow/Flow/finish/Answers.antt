use Rattle.std.proofs.Common.{◌++◌, ◌-◌, ◌∙◌, ap, refl}
use Rattle.pictures.proofs.OfFlows.Finished.{columns_are, picture_is}
use Rattle.pictures.proofs.flows.flow.Flow.finish.Goals as goal

pub returns : goal.returns
returns c = record {
  drawn = λ asides opening from to es h.
      let f = c.args.self in
      let left = c.saturating_sub.ensures ∙ ap (λ n. 64 - n) (c.len.ensures ∙ f.faulted.ok.0) in
      let columns = c.in_ok-append.ensures.items ∙ ap (λ cs. cs ++ f.faulted.items) c.truncate.ensures.items in
      picture_is asides opening from to es f h _ refl refl refl refl (columns_are asides opening from to es f h _ _ left columns)
      (λ k. refl);
}
