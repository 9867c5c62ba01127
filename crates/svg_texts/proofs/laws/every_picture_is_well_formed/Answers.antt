use Rattle.svg_texts.proofs.Documents.{picture_is_document}
use Rattle.svg_texts.proofs.laws.every_picture_is_well_formed.Goals as goal

pub returns : goal.returns
returns c = picture_is_document
