use Rattle.std.proofs.Common.{refl, ◌++◌}
use Rattle.std.specs.Prelude.{decimal}
use Rattle.std.specs.Prelude.{codes}
use Rattle.svg_texts.specs.Letters.{letters}
use Rattle.program_texts.specs.Shown.{kind_text, place_text}
use Rattle.pictures.proofs.Spelled.{fault_spelled}
use Rattle.text_out.proofs.Progress.{breaks_off, closes, goes_on, starts}
use Rattle.pictures.proofs.names.write_fault_letters.Goals as goal

pub returns-in_err-write_kind : goal.returns-in_err-write_kind
returns-in_err-write_kind g c =
    let part1 = codes "fault " ++ (kind_text c.args.fault.now.kind ++ codes " ") in
    let part2 = letters (place_text c.args.layout.now c.args.fault.now.place) in
    let part3 = codes " line " ++ decimal c.args.fault.now.line in
    record {
      written = breaks_off _ _ _ _ _ part1 (part2 ++ part3) c.from_residual.result _ c.from_residual.ensures.1 (starts _ _) (fault_spelled
          c.args.fault.now.kind (place_text c.args.layout.now c.args.fault.now.place) c.args.fault.now.line)
          c.in_err-write_kind.ensures.written;
    }

pub returns-in_err-write_place : goal.returns-in_err-write_place
returns-in_err-write_place g c =
    let part1 = codes "fault " ++ (kind_text c.args.fault.now.kind ++ codes " ") in
    let part2 = letters (place_text c.args.layout.now c.args.fault.now.place) in
    let part3 = codes " line " ++ decimal c.args.fault.now.line in
    let after1 = goes_on _ _ _ _ _ part1 (part2 ++ part3) (starts _ _) (fault_spelled c.args.fault.now.kind (place_text c.args.layout.now
    c.args.fault.now.place) c.args.fault.now.line) c.in_ok-write_kind.ensures.written in
    record {
      written = breaks_off _ _ _ _ _ part2 part3 c.from_residual-in_err-write_place.result _ c.from_residual-in_err-write_place.ensures.1
          after1 refl c.in_err-write_place.ensures.written;
    }

pub returns : goal.returns
returns g c =
    let part1 = codes "fault " ++ (kind_text c.args.fault.now.kind ++ codes " ") in
    let part2 = letters (place_text c.args.layout.now c.args.fault.now.place) in
    let part3 = codes " line " ++ decimal c.args.fault.now.line in
    let after1 = goes_on _ _ _ _ _ part1 (part2 ++ part3) (starts _ _) (fault_spelled c.args.fault.now.kind (place_text c.args.layout.now
    c.args.fault.now.place) c.args.fault.now.line) c.in_ok-write_kind.ensures.written in
    let after2 = goes_on _ _ _ _ _ part2 part3 after1 refl c.in_ok-write_place.ensures.written in
    record {
      written = closes _ _ _ _ _ c.write_line.result after2 c.write_line.ensures.written;
    }
