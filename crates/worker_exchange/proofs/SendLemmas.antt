-- Lists of words, one for each worker, and the puts that are counted in them.
use Rattle.std.proofs.Common.{◌≡◌, ℕ, ◌+◌, ◌/◌, ◌^◌, ◌<◌, ◌≤◌, List, [], ◌++◌, length, map, get_or, set, sym, ap, ◌∙◌, arith}
use Rattle.std.proofs.Common.{⊎_elim, Vec, vec_capacity, length-append}
use Rattle.std.specs.Global.{Global}
use Rattle.std.proofs.lemmas.List.{length-map}
use Rattle.std.proofs.lemmas.Bool.{cases_eq}
use Rattle.std.proofs.Math.Nat.{mul-div_cancel}
use Rattle.pram_model.specs.declared.rule.Rule.{Rule}
use Rattle.pram_model.specs.declared.rule.Rule.TheVariants.{Sum}
use Rattle.address_map.specs.Lawful.{Shape}
use Rattle.superstep_machine.specs.Words.{CellPut, ask_words}
use Rattle.superstep_machine.specs.WordReading.{put_length}
use Rattle.superstep_machine.proofs.ReadBack.{puts_long}
use Rattle.combining.specs.AllModules.{column, room_at, HasGot}
use Rattle.combining.specs.Held.{puts_for, packed_puts}
use Rattle.combining.specs.Asked.{HeldAsk, asks_for}
use Rattle.combining.proofs.AllColumns.{changed_here, changed_elsewhere, item_of}
use Rattle.worker_exchange.specs.Sends.{words_of, count_at, send_words, CanBeWritten, AreWritten}

abbrev Words : Type 0
Words = Vec ℕ Global

abbrev items : Words → List ℕ
items v = v.items

-- one list more is emptied
pub one_cleared : (columns : List Words) (j : ℕ) (w : Words) → j < length columns → w.items ≡ [] →
    ((i : ℕ) → i < j → column (words_of columns) i ≡ []) → (i : ℕ) → i < j + 1 → column (words_of (set columns j w)) i ≡ []
one_cleared columns j w l none h i k =
    ⊎_elim
    (λ (same : j ≡ i). ap (column (words_of (set columns j w))) (sym same) ∙ changed_here items columns j w [] l ∙ none)
    (λ (apart : j ≡ i → ⊥). changed_elsewhere items columns j i w [] apart ∙ h i (omega (arith, k, apart))) (cases_eq j i)

-- the words of a list are those of its place
pub words_at : (columns : List Words) (j : ℕ) (v : Words) → j < length columns → v ≡ get_or columns j v → column (words_of columns)
    j ≡ v.items
words_at columns j v l is = item_of items columns j v [] l is

some_words : (rule : Rule) → 0 < put_length rule
some_words Sum = omega arith
some_words rule = omega arith

module _ (rule : Rule) (m : Shape) (puts : List CellPut) (asks : List HeldAsk) (rooms : List ℕ)
    (can : CanBeWritten rule m rooms puts asks) where
  abbrev puts_to : ℕ → List ℕ
  puts_to j = packed_puts rule m.part j puts

  abbrev asks_to : ℕ → List ℕ
  asks_to j = ask_words (asks_for m.part j asks)

  pub as_many : (columns : List Words) → map vec_capacity columns ≡ rooms → length columns ≡ m.parts
  as_many columns e = sym (length-map columns vec_capacity) ∙ ap length e ∙ can.count

  both_long : (j : ℕ) → length (send_words rule m puts asks j) ≡ length (puts_to j) + length (asks_to j)
  both_long j = length-append (puts_to j) (asks_to j)

  module _ (cleared packed : List Words) (empty : (j : ℕ) → j < m.parts → column (words_of cleared) j ≡ [])
      (got : HasGot m.parts puts_to (words_of cleared) (words_of packed)) where
    -- behind the puts
    pub packed_is : (j : ℕ) → j < m.parts → column (words_of packed) j ≡ puts_to j
    packed_is j l = got j l ∙ ap (λ ws. ws ++ puts_to j) (empty j l)

    -- there is room for the asks
    pub room_for_asks : (same : map vec_capacity packed ≡ rooms) (j : ℕ) → j < m.parts →
        length (column (words_of packed) j) + length (asks_to j) ≤ room_at (map vec_capacity packed) j
    room_for_asks same j l =
        let a = ap length (packed_is j l) in
        let b = both_long j in
        let c = can.short j l in
        let d = ap (λ rs. room_at rs j) same in
        omega (arith, a, b, c, d)

    pub few_words : (j : ℕ) → j < m.parts → length (column (words_of packed) j) < 2 ^ 32
    few_words j l =
        let a = ap length (packed_is j l) in
        let b = both_long j in
        let c = can.short j l in
        let d = can.few j l in
        omega (arith, a, b, c, d)

    pub all_written : (done : List Words) (counts : List ℕ) → HasGot m.parts asks_to (words_of packed) (words_of done) →
        ((j : ℕ) → j < m.parts → count_at counts j ≡ length (column (words_of packed) j) / put_length rule) →
        AreWritten rule m puts asks (words_of done) counts
    all_written done counts more counted = record {
      words = λ j l. more j l ∙ ap (λ ws. ws ++ asks_to j) (packed_is j l);
      numbers = λ j l. counted j l
          ∙ ap (λ ws. length ws / put_length rule) (packed_is j l)
          ∙ ap (λ n. n / put_length rule) (puts_long rule (puts_for m.part j puts))
          ∙ mul-div_cancel (length (puts_for m.part j puts)) (some_words rule);
    }
