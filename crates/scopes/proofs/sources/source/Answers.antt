use Rattle.std.proofs.Common.{◌∙◌, map, sym}
use Rattle.std.specs.List.{find}
use Rattle.std.specs.Option.{option_map}
use Rattle.pram_model.specs.Layout.{total_size}
use Rattle.scopes.specs.Handed.{is_named, opened, origin_of, placed}
use Rattle.scopes.proofs.Offered.{own_first, own_none, source_is}
use Rattle.scopes.proofs.sources.source.Goals as goal

pub returns-in-Some : goal.returns-in-Some
returns-in-Some c =
    let l = c.args.layout.now in
    let name = c.args.name.now in
    let own = option_map origin_of (find (is_named name) (placed 0 l)) in
    let behind = option_map origin_of (find (is_named name) (placed (total_size l) (map opened l))) in
    sym (source_is l name ∙ own_first own behind c.in-Some.source (sym c.own_source.ensures ∙ c.in-Some.is))

pub returns-in-None : goal.returns-in-None
returns-in-None c =
    let l = c.args.layout.now in
    let name = c.args.name.now in
    let own = option_map origin_of (find (is_named name) (placed 0 l)) in
    let behind = option_map origin_of (find (is_named name) (placed (total_size l) (map opened l))) in
    sym (source_is l name ∙ own_none own behind (sym c.own_source.ensures ∙ c.in-None.is) ∙ sym c.opening_source.ensures)
