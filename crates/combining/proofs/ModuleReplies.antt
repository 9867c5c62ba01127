-- What a module answers to ask words is the machine's reply.
use Rattle.std.proofs.Common.{◌≡◌, ℕ, zero, suc, List, [], ◌∷◌, map, Some, ap, ◌∙◌}
use Rattle.std.specs.Prelude.{slice_get, slice_index_or}
use Rattle.std.proofs.lemmas.Simd.{map-map}
use Rattle.superstep_machine.specs.declared.header.MessageHeader.{MessageHeader}
use Rattle.superstep_machine.specs.Words.{CellAsk, Message, values_words}
use Rattle.superstep_machine.specs.Sending.{after_send}
use Rattle.superstep_machine.specs.Run.{Sends}
use Rattle.superstep_machine.specs.WordReading.{asks_in, ask_part, read_message}
use Rattle.superstep_machine.specs.WordLaws.{messages_read}
use Rattle.combining.specs.Gathering.{value_at}
use Rattle.combining.specs.Answers.{AnswersAreTheReply}

-- what stands at a place, changed twice
twice_at : {A B C : Type 0} (f : A → B) (g : B → C) (xs : List A) (j : ℕ) (x : A) (d : C) → slice_get xs j ≡ Some x →
    slice_index_or (map g (map f xs)) j d ≡ g (f x)
twice_at f g [] j x d e = absurd (cc e)
twice_at f g (y ∷ xs) zero x d e = ap (λ z. g (f z)) (cc e)
twice_at f g (y ∷ xs) (suc j) x d e = twice_at f g xs j x d e

pub answers_are_the_reply : AnswersAreTheReply
answers_are_the_reply t w s received j came e =
    let rule = t.code.rule in
    let m = t.map in
    let after = after_send t w s (messages_read rule m w received) in
    let asked = asks_in m w (ask_part rule came.0 came.1) in
    let taken : slice_index_or after.taken j [] ≡ map (λ (x : CellAsk). x.cell) asked =
    twice_at (λ (r : MessageHeader × List ℕ). read_message rule m w Sends r.0 r.1) (λ (x : Message). map (λ (y : CellAsk). y.cell) x.asks)
    received j came [] e in
    ap (λ cs. values_words (map (λ c. value_at after.cells (m.offset c)) cs)) taken
    ∙ ap values_words (map-map (λ c. value_at after.cells (m.offset c)) (λ (x : CellAsk). x.cell) asked)
