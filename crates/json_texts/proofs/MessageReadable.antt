-- What is told of a refusal's message can be read.
use Rattle.std.proofs.Common.{ℕ, suc, List, [], ◌∷◌, ◌++◌, Option, Some, None, map}
use Rattle.std.specs.Prelude.{codes}
use Rattle.serde_json.specs.Data.{Data}
use Rattle.json_texts.specs.Facts.{letters, told}
use Rattle.text_places.specs.Escaped.{escaped}
use Rattle.json_texts.specs.Small.{IsReadable, IsSmall}
use Rattle.json_texts.proofs.Small.{AreSmall, HasSmall, has_all, small_count, small_letters, small_list, small_map, small_object}
use Rattle.program_texts.specs.declared.stop.Stop.{Stop}
use Rattle.help.specs.declared.message.Other.{Other}
use Rattle.help.specs.declared.message.Point.{Point}
use Rattle.help.specs.declared.message.Point.TheVariants.{Byte, Line}
use Rattle.help.specs.GnuLines.{other_note, other_place}
use Rattle.help.specs.Messages.{Message}
use Rattle.json_texts.specs.MessageFacts.{known_fields, line_field, list_field, meant_field, message_fields, more_notes, note_facts, notes}
use Rattle.json_texts.specs.MessageFacts.{other_notes}
use Rattle.json_texts.specs.MessageFacts.{place_field, point_fields, refusal_facts, refusal_fields, said_fields, text_field}
use Rattle.json_texts.specs.RefusalFacts.{stop_fields}
use Rattle.json_texts.proofs.Readable.{readable, small_stop}

small_point : (n : ℕ) (source : List ℕ) (p : Point) → HasSmall n (point_fields source p)
small_point n source (Byte at) = (small_count n _, (small_count n _, (small_count n at, tt)))
small_point n source (Line line) = (small_count n line, tt)

small_place : (n : ℕ) (name source : List ℕ) (p : Option Point) → HasSmall (suc n) (place_field name source p)
small_place n name source None = tt
small_place n name source (Some p) =
    (small_object n ((codes "file", told name) ∷ point_fields source p) (small_letters n (escaped name), small_point n source p), tt)

small_line : (n : ℕ) (p : Option Point) → HasSmall n (line_field p)
small_line n None = tt
small_line n (Some (Byte at)) = tt
small_line n (Some (Line line)) = (small_count n line, tt)

small_text : (n : ℕ) (name text : List ℕ) → HasSmall n (text_field name text)
small_text n name [] = tt
small_text n name (b ∷ rest) = (small_letters n _, tt)

listed : (n : ℕ) (name : List ℕ) (ds : List Data) → AreSmall n ds → HasSmall (suc n) (list_field name ds)
listed n name [] h = tt
listed n name (d ∷ ds) h = (small_list n (d ∷ ds) h, tt)

small_meant : (n : ℕ) (meant : Option (List ℕ)) → HasSmall n (meant_field meant)
small_meant n None = tt
small_meant n (Some name) = (small_letters n (escaped name), tt)

small_note : (name source sentence : List ℕ) (p : Option Point) → IsSmall 2 (note_facts name source sentence p)
small_note name source sentence p =
    small_object 1 ((codes "message", letters sentence) ∷ place_field name source p) (small_letters 1 sentence, small_place 0 name source p)

all_small : (n : ℕ) (a b : List Data) → AreSmall n a → AreSmall n b → AreSmall n (a ++ b)
all_small n [] b h g = g
all_small n (x ∷ a) b h g = (h.0, all_small n a b h.1 g)

small_more : (name source more : List ℕ) (p : Option Point) → AreSmall 2 (more_notes name source more p)
small_more name source [] p = tt
small_more name source (b ∷ rest) p = (small_note name source (b ∷ rest) p, tt)

small_other : (name source : List ℕ) (other : Option Other) → AreSmall 2 (other_notes name source other)
small_other name source None = tt
small_other name source (Some other) = (small_note name source (other_note other) (Some (other_place other)), tt)

small_notes : (name source : List ℕ) (m : Message) → AreSmall 2 (notes name source m)
small_notes name source m =
    all_small 2 (more_notes name source m.more m.place) (other_notes name source m.other) (small_more name source m.more m.place)
    (small_other name source m.other)

small_said : (name source : List ℕ) (m : Message) → HasSmall 3 (said_fields name source m)
small_said name source m =
    has_all 3 (line_field m.place) (text_field (codes "message") m.sentence ++ place_field name source m.place) (small_line 3 m.place)
    (has_all 3 (text_field (codes "message") m.sentence) (place_field name source m.place) (small_text 3 (codes "message") m.sentence)
    (small_place 2 name source m.place))

small_known : (name source : List ℕ) (m : Message) → HasSmall 3 (known_fields name source m)
small_known name source m =
    let expected = map letters m.expected in
    let noted = notes name source m in
    has_all 3 (list_field (codes "expected") expected) (meant_field m.meant ++ list_field (codes "notes") noted)
    (listed 2 (codes "expected") expected (small_map 2 letters (small_letters 2) m.expected)) (
    has_all 3 (meant_field m.meant) (list_field (codes "notes") noted) (small_meant 3 m.meant)
    (listed 2 (codes "notes") noted (small_notes name source m))
    )

small_message : (name source : List ℕ) (m : Message) → HasSmall 3 (message_fields name source m)
small_message name source m =
    has_all 3 (said_fields name source m) (known_fields name source m) (small_said name source m) (small_known name source m)

pub readable_refusal : (name source : List ℕ) (why : Stop) (m : Message) → IsReadable (refusal_facts name source why m)
readable_refusal name source why m =
    readable (refusal_fields name source why m)
    (has_all 3 (stop_fields source why) (message_fields name source m) (small_stop source why) (small_message name source m))
