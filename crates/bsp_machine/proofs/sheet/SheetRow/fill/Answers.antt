use Rattle.std.proofs.Common.{ℕ, ap, ◌∙◌, arith, slice_set, vec_capacity, Bool, true, false}
use Rattle.std.specs.Bool.{OnTrue, OnFalse}
use Rattle.std.proofs.lemmas.List.{map-set, length-map}
use Rattle.std.proofs.Math.Seq.{map-set_same}
use Rattle.combining.proofs.AllColumns.{item_of}
use Rattle.bsp_machine.specs.declared.letter.Letter.{Letter}
use Rattle.bsp_machine.specs.Sheets.{message_in, messages_in, rooms_in, least_room}
use Rattle.bsp_machine.proofs.SheetLemmas.{room_enough}
use Rattle.bsp_machine.proofs.sheet.SheetRow.fill.Goals as goal

abbrev room_of : Letter → ℕ
room_of x = vec_capacity x.words

on_true : (b : Bool) (P Q : Type 0) → (P → Q) → OnTrue b P → OnTrue b Q
on_true true P Q f h = f h
on_true false P Q f h = h

on_false : (b : Bool) (P Q : Type 0) → (P → Q) → OnFalse b P → OnFalse b Q
on_false true P Q f h = h
on_false false P Q f h = f h

pub returns-clause-filled : goal.returns-clause-filled
returns-clause-filled c =
    on_true c.write.result _ _
    (λ wrote. map-set message_in c.args.self.now.letters.items c.args.to c.write.new.self
    ∙ ap (slice_set (messages_in c.args.self.now) c.args.to) wrote)
    c.write.ensures.written

pub returns-clause-kept : goal.returns-clause-kept
returns-clause-kept c =
    map-set_same room_of c.args.self.now.letters.items c.args.to c.write.new.self c.index_mut.result.now
    (c.write.ensures.room ∙ ap room_of c.index_mut.ensures.value)

pub returns-clause-room : goal.returns-clause-room
returns-clause-room c = ap least_room
    (map-set_same room_of c.args.self.now.letters.items c.args.to c.write.new.self c.index_mut.result.now
    (c.write.ensures.room ∙ ap room_of c.index_mut.ensures.value))

pub returns-clause-refused : goal.returns-clause-refused
returns-clause-refused c =
    on_false c.write.result _ _
    (λ same. map-set_same message_in c.args.self.now.letters.items c.args.to c.write.new.self c.index_mut.result.now
    (same ∙ ap message_in c.index_mut.ensures.value))
    c.write.ensures.refused

pub returns-clause-fits : goal.returns-clause-fits
returns-clause-fits c = λ short.
    let letters = c.args.self.now.letters.items in
    let within = c.requires in
    let as_many = length-map letters message_in in
    let as_many_rooms = length-map letters room_of in
    let is = item_of room_of letters c.args.to c.index_mut.result.now 0 (omega (arith, within, as_many)) c.index_mut.ensures.value in
    let enough = room_enough (rooms_in c.args.self.now) c.args.to (omega (arith, within, as_many, as_many_rooms)) in
    c.write.ensures.fits (omega (arith, short, is, enough))
