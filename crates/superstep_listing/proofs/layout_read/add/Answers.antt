use Rattle.std.proofs.Common.{refl, sym, subst}
use Rattle.std.specs.HashSet.{contains_by}
use Rattle.std.specs.Str.{bytes_eq}
use Rattle.pram_model.specs.Layout.{SharedEntry}
use Rattle.superstep_instructions.specs.Limits.{IsLayout}
use Rattle.superstep_listing.proofs.Entries.{layout_more, layout_new, layout_room}
use Rattle.superstep_listing.proofs.Known.{known_more, known_new, known_taken}
use Rattle.superstep_listing.proofs.layout_read.add.Goals as goal
use Rattle.superstep_listing.proofs.layout_read.add.Goals.{then-not-is_new-via-then-not-is_new}
use Rattle.superstep_listing.proofs.layout_read.add.Goals.{then-not-is_new-via-else-not-is_new+then-not-has_room}

pub returns-then-not-is_new-clause-ok : goal.returns-then-not-is_new-clause-ok
returns-then-not-is_new-clause-ok c = (
  refl,
  λ l.
      elim c.then-not-is_new.branch [
        | then-not-is_new-via-then-not-is_new w ↦ known_taken (λ q. contains_by (λ k. bytes_eq q k.now) c.args.names.now) c.args.layout.now
            c.args.entry.name.now c.is_new.result c.requires.known c.is_new.ensures.value
            w.if-not-is_new.true (layout_new c.args.layout.now _ l)
        | then-not-is_new-via-else-not-is_new+then-not-has_room w ↦ w.if-not-has_room.ensures.value (layout_room c.args.layout.now _ l)
      ],
)

pub returns-clause-ok : goal.returns-clause-ok
returns-clause-ok c =
    let e : SharedEntry = record { name = c.args.entry.name.now; bounds = c.args.entry.bounds } in
    let new = c.in_ok-push.ensures.ok in
    let is_new = known_new (λ q. contains_by (λ k. bytes_eq q k.now) c.args.names.now) c.args.layout.now c.args.entry.name.now
    c.is_new.result c.requires.known c.is_new.ensures.value c.if-not-is_new.false in
    let stands = layout_more c.args.layout.now e c.requires.layout c.requires.entry is_new c.if-not-has_room.ensures.value in
    (subst IsLayout (sym new) stands, new)

pub returns-clause-known : goal.returns-clause-known
returns-clause-known c =
    let e : SharedEntry = record { name = c.args.entry.name.now; bounds = c.args.entry.bounds } in
    known_more (λ q. contains_by (λ k. bytes_eq q k.now) c.args.names.now) (λ q. contains_by (λ k. bytes_eq q k.now) c.take_name.new.names)
    c.args.layout.now _ e c.requires.known c.in_ok-push.ensures.ok c.in_ok-take_name.ensures.ok
