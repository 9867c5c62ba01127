use Rattle.std.proofs.Common.{refl, ◌++◌, sym}
use Rattle.std.specs.Prelude.{codes}
use Rattle.svg_texts.specs.Shapes.{anchor_text, face_text, ink_text, place_text}
use Rattle.text_out.proofs.Progress.{breaks_off, closes, goes_on, starts}
use Rattle.svg_texts.proofs.texts.open_text.Goals as goal

pub returns-in_err-write_place : goal.returns-in_err-write_place
returns-in_err-write_place g c =
    let part1 = place_text c.args.lettering.now.upwards c.args.x c.args.y in
    let part2 = anchor_text c.args.lettering.now.anchor in
    let part3 = face_text c.args.lettering.now.face in
    let part4 = ink_text c.args.lettering.now.ink in
    let part5 = codes ">" in
    record {
      written = breaks_off _ _ _ _ _ part1 (part2 ++ (part3 ++ (part4 ++ part5))) c.from_residual.result _ c.from_residual.ensures.1
          (starts _ _) refl c.in_err-write_place.ensures.written;
    }

pub returns-in_err-write_all : goal.returns-in_err-write_all
returns-in_err-write_all g c =
    let part1 = place_text c.args.lettering.now.upwards c.args.x c.args.y in
    let part2 = anchor_text c.args.lettering.now.anchor in
    let part3 = face_text c.args.lettering.now.face in
    let part4 = ink_text c.args.lettering.now.ink in
    let part5 = codes ">" in
    let after1 = goes_on _ _ _ _ _ part1 (part2 ++ (part3 ++ (part4 ++ part5))) (starts _ _) refl c.in_ok-write_place.ensures.written in
    record {
      written = breaks_off _ _ _ _ _ (c.anchor_text.result.now) (part3 ++ (part4 ++ part5)) c.from_residual-in_err-write_all.result _
          c.from_residual-in_err-write_all.ensures.1 after1 (λ i. sym c.anchor_text.ensures i ++ (part3 ++ (part4 ++ part5)))
          c.in_err-write_all.ensures.written;
    }

pub returns-in_err-write_all-2 : goal.returns-in_err-write_all-2
returns-in_err-write_all-2 g c =
    let part1 = place_text c.args.lettering.now.upwards c.args.x c.args.y in
    let part2 = anchor_text c.args.lettering.now.anchor in
    let part3 = face_text c.args.lettering.now.face in
    let part4 = ink_text c.args.lettering.now.ink in
    let part5 = codes ">" in
    let after1 = goes_on _ _ _ _ _ part1 (part2 ++ (part3 ++ (part4 ++ part5))) (starts _ _) refl c.in_ok-write_place.ensures.written in
    let after2 = goes_on _ _ _ _ _ (c.anchor_text.result.now) (part3 ++ (part4 ++ part5)) after1 (λ i. sym c.anchor_text.ensures i ++
    (part3 ++ (part4 ++ part5))) c.in_ok-write_all.ensures.written in
    record {
      written = breaks_off _ _ _ _ _ (c.face_text.result.now) (part4 ++ part5) c.from_residual-in_err-write_all-2.result _
          c.from_residual-in_err-write_all-2.ensures.1 after2 (λ i. sym c.face_text.ensures i ++ (part4 ++ part5))
          c.in_err-write_all-2.ensures.written;
    }

pub returns-in_err-write_ink : goal.returns-in_err-write_ink
returns-in_err-write_ink g c =
    let part1 = place_text c.args.lettering.now.upwards c.args.x c.args.y in
    let part2 = anchor_text c.args.lettering.now.anchor in
    let part3 = face_text c.args.lettering.now.face in
    let part4 = ink_text c.args.lettering.now.ink in
    let part5 = codes ">" in
    let after1 = goes_on _ _ _ _ _ part1 (part2 ++ (part3 ++ (part4 ++ part5))) (starts _ _) refl c.in_ok-write_place.ensures.written in
    let after2 = goes_on _ _ _ _ _ (c.anchor_text.result.now) (part3 ++ (part4 ++ part5)) after1 (λ i. sym c.anchor_text.ensures i ++
    (part3 ++ (part4 ++ part5))) c.in_ok-write_all.ensures.written in
    let after3 = goes_on _ _ _ _ _ (c.face_text.result.now) (part4 ++ part5) after2 (λ i. sym c.face_text.ensures i ++ (part4 ++ part5))
    c.in_ok-write_all-2.ensures.written in
    record {
      written = breaks_off _ _ _ _ _ part4 part5 c.from_residual-in_err-write_ink.result _ c.from_residual-in_err-write_ink.ensures.1
          after3 refl c.in_err-write_ink.ensures.written;
    }

pub returns : goal.returns
returns g c =
    let part1 = place_text c.args.lettering.now.upwards c.args.x c.args.y in
    let part2 = anchor_text c.args.lettering.now.anchor in
    let part3 = face_text c.args.lettering.now.face in
    let part4 = ink_text c.args.lettering.now.ink in
    let part5 = codes ">" in
    let after1 = goes_on _ _ _ _ _ part1 (part2 ++ (part3 ++ (part4 ++ part5))) (starts _ _) refl c.in_ok-write_place.ensures.written in
    let after2 = goes_on _ _ _ _ _ (c.anchor_text.result.now) (part3 ++ (part4 ++ part5)) after1 (λ i. sym c.anchor_text.ensures i ++
    (part3 ++ (part4 ++ part5))) c.in_ok-write_all.ensures.written in
    let after3 = goes_on _ _ _ _ _ (c.face_text.result.now) (part4 ++ part5) after2 (λ i. sym c.face_text.ensures i ++ (part4 ++ part5))
    c.in_ok-write_all-2.ensures.written in
    let after4 = goes_on _ _ _ _ _ part4 part5 after3 refl c.in_ok-write_ink.ensures.written in
    record {
      written = closes _ _ _ _ _ c.write_all-3.result after4 c.write_all-3.ensures.written;
    }
