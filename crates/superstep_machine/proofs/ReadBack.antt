-- The words of a message give it back.
use Rattle.std.proofs.Common.{◌≡◌, ℕ, ◌+◌, ◌*◌, ◌^◌, ◌/◌, ◌%◌, ◌<◌, List, [], ◌∷◌, ◌++◌, map, length, take, drop, Bool, true, false, Some}
use Rattle.std.proofs.Common.{None, ℤ, refl, sym, ap, ◌∙◌, arith, FitsSigned, eqb}
use Rattle.std.specs.Prelude.{if◌then◌else◌, nat_lt, ◌&&◌}
use Rattle.std.specs.List.{AllByRecursion, filter_map, cons_option, flat_map}
use Rattle.std.specs.Int.{w64, w128, cast_signed, cast_unsigned}
use Rattle.std.proofs.lemmas.Bool.{eq-eqb, lt-ltb}
use Rattle.std.proofs.lemmas.Int.{to_z-of_z}
use Rattle.std.proofs.lemmas.List.{append-nil, length-append}
use Rattle.std.proofs.Math.Nat.{zero-mul}
use Rattle.std.proofs.Math.Seq.{take-append_seam, drop-append_seam}
use Rattle.pram_values.specs.Total.{total}
use Rattle.pram_values.proofs.Totals.{total_map}
use Rattle.pram_model.specs.declared.rule.Rule.{Rule}
use Rattle.pram_model.specs.declared.rule.Rule.TheVariants.{Erew, Crew, Common, Priority, Sum}
use Rattle.address_map.specs.Lawful.{Shape}
use Rattle.superstep_machine.specs.declared.header.MessageHeader.{MessageHeader}
use Rattle.superstep_machine.specs.Words.{CellPut, CellAsk, Message, bit, word_of, low_word, high_word, value_words, put_words, ask_word}
use Rattle.superstep_machine.specs.Words.{ask_words, values_words, words}
use Rattle.superstep_machine.specs.Sending.{join, entry_in, several, asked_in}
use Rattle.superstep_machine.specs.Run.{Purpose, Sends, Replies, Votes, Closes}
use Rattle.superstep_machine.specs.WordReading.{header_of, word, is_set, read_value, put_length, read_put, read_ask, groups, put_in}
use Rattle.superstep_machine.specs.WordReading.{puts_in, ask_in, asks_in, put_part, ask_part, read_message, entry_of_column}
use Rattle.superstep_machine.specs.WordReading.{askers_of_column}
use Rattle.superstep_machine.specs.Fitting.{FitsValue, FitsPut, FitsAsk, IsPutFor, IsAskFor, CanBeSent}
use Rattle.superstep_machine.specs.WordLaws.{EntriesOfWords, AskersOfWords}

set_bit : (b : Bool) → is_set (bit b) ≡ b
set_bit true = refl
set_bit false = refl

bit_small : (b : Bool) → bit b < 2
bit_small true = omega arith
bit_small false = omega arith

-- ---- puts

sum_back : (z : ℤ) → FitsSigned w128 z → cast_signed w128 (low_word z + 2 ^ 64 * high_word z) ≡ z
sum_back z f = let n = cast_unsigned w128 z in let e : n % 2 ^ 64 + 2 ^ 64 * (n / 2 ^ 64) ≡ n = omega arith in ap (cast_signed w128) e
    ∙ to_z-of_z w128 z f

value_back : (rule : Rule) (a b : ℕ) (z : ℤ) (rest : List ℕ) → FitsValue rule z → read_value rule (a ∷ b ∷ value_words rule z ++ rest) ≡ z
value_back Erew a b z rest f = to_z-of_z w64 z f
value_back Crew a b z rest f = to_z-of_z w64 z f
value_back Common a b z rest f = to_z-of_z w64 z f
value_back Priority a b z rest f = to_z-of_z w64 z f
value_back Sum a b z rest f = sum_back z f

cell_back : (c b : ℕ) → c < 2 ^ 20 → (c + 2 ^ 20 * b) % 2 ^ 20 ≡ c
cell_back c b h = omega arith

mark_back : (c b : ℕ) → c < 2 ^ 20 → (c + 2 ^ 20 * b) / 2 ^ 20 ≡ b
mark_back c b h = omega arith

put_back : (rule : Rule) (x : CellPut) (rest : List ℕ) → FitsPut rule x → read_put rule (put_words rule x ++ rest) ≡ x
put_back rule x rest f i = record {
  cell = cell_back x.cell (bit x.entry.clash) f.cell i;
  entry = record {
    owner = to_z-of_z w64 x.entry.owner f.owner i;
    value = value_back rule (x.cell + 2 ^ 20 * bit x.entry.clash) (word_of x.entry.owner) x.entry.value rest f.value i;
    clash = (ap is_set (mark_back x.cell (bit x.entry.clash) f.cell) ∙ set_bit x.entry.clash) i;
  };
}

put_alone : (rule : Rule) (x : CellPut) → FitsPut rule x → read_put rule (put_words rule x) ≡ x
put_alone rule x f = same rule x ∙ put_back rule x [] f
  where
    same : (rule : Rule) (x : CellPut) → read_put rule (put_words rule x) ≡ read_put rule (put_words rule x ++ [])
    same Erew x = refl
    same Crew x = refl
    same Common x = refl
    same Priority x = refl
    same Sum x = refl

group_back : (rule : Rule) (x : CellPut) (rest : List ℕ) → groups rule (put_words rule x ++ rest) ≡ put_words rule x ∷ groups rule rest
group_back Erew x rest = refl
group_back Crew x rest = refl
group_back Common x rest = refl
group_back Priority x rest = refl
group_back Sum x rest = refl

first_word : (rule : Rule) (x : CellPut) → word (put_words rule x) 0 ≡ x.cell + 2 ^ 20 * bit x.entry.clash
first_word Erew x = refl
first_word Crew x = refl
first_word Common x = refl
first_word Priority x = refl
first_word Sum x = refl

put_in_back : (rule : Rule) (m : Shape) (j : ℕ) (x : CellPut) → IsPutFor rule m j x → put_in rule m j (put_words rule x) ≡ Some x
put_in_back rule m j x is =
    let back = put_alone rule x is.fits in
    let small : word (put_words rule x) 0 < 2 ^ 21 = (let f = first_word rule x in let b = bit_small x.entry.clash in let l =
    is.fits.cell in omega arith) in
    ap (λ (y : CellPut). if nat_lt (word (put_words rule x) 0) (2 ^ 21) && nat_lt y.cell m.count
    && eqb (m.part y.cell) j then Some y else None) back
    ∙ ap (λ (b : Bool). if b && nat_lt x.cell m.count && eqb (m.part x.cell) j then Some x else None) (lt-ltb _ _ small)
    ∙ ap (λ (b : Bool). if b && eqb (m.part x.cell) j then Some x else None) (lt-ltb _ _ is.of.below)
    ∙ ap (λ (b : Bool). if b then Some x else None) (eq-eqb _ _ is.of.here)

pub puts_back : (rule : Rule) (m : Shape) (j : ℕ) (xs : List CellPut) → AllByRecursion (IsPutFor rule m j) xs →
    puts_in rule m j (flat_map (put_words rule) xs) ≡ xs
puts_back rule m j [] is = none rule
  where
    none : (rule : Rule) → puts_in rule m j [] ≡ []
    none Sum = refl
    none rule = refl
puts_back rule m j (x ∷ xs) is =
    ap (filter_map (put_in rule m j)) (group_back rule x (flat_map (put_words rule) xs))
    ∙ (λ i. cons_option (put_in_back rule m j x is.0 i) (puts_back rule m j xs is.1 i))

pub put_long : (rule : Rule) (x : CellPut) → length (put_words rule x) ≡ put_length rule
put_long Erew x = refl
put_long Crew x = refl
put_long Common x = refl
put_long Priority x = refl
put_long Sum x = refl

-- puts are counted by their words
pub puts_long : (rule : Rule) (xs : List CellPut) → length (flat_map (put_words rule) xs) ≡ length xs * put_length rule
puts_long rule [] = sym (zero-mul (put_length rule))
puts_long rule (x ∷ xs) =
    length-append (put_words rule x) (flat_map (put_words rule) xs)
    ∙ (λ i. put_long rule x i + puts_long rule xs i)
    ∙ grind (arith)

-- ---- asks and values

ask_back : (x : CellAsk) → FitsAsk x → read_ask (ask_word x) ≡ x
ask_back x f =
    let small = bit_small x.twice in
    let b = bit x.twice in
    let l = f.cell in
    let m = f.read in
    let r : (x.cell + 2 ^ 20 * x.read + 2 ^ 23 * b) / 2 ^ 20 % 2 ^ 3 ≡ x.read = omega arith in
    let c : (x.cell + 2 ^ 20 * x.read + 2 ^ 23 * b) % 2 ^ 20 ≡ x.cell = omega arith in
    let t : (x.cell + 2 ^ 20 * x.read + 2 ^ 23 * b) / 2 ^ 23 ≡ b = omega arith in
    λ i. record { read = r i; cell = c i; twice = (ap is_set t ∙ set_bit x.twice) i }

ask_in_back : (m : Shape) (j : ℕ) (x : CellAsk) → IsAskFor m j x → ask_in m j (ask_word x) ≡ Some x
ask_in_back m j x is =
    let back = ask_back x is.fits in
    let small : ask_word x < 2 ^ 24 = (let b = bit_small x.twice in let l = is.fits.cell in let r = is.fits.read in omega arith) in
    ap (λ (y : CellAsk). if nat_lt (ask_word x) (2 ^ 24) && nat_lt y.cell m.count && eqb (m.part y.cell) j then Some y else None) back
    ∙ ap (λ (b : Bool). if b && nat_lt x.cell m.count && eqb (m.part x.cell) j then Some x else None) (lt-ltb _ _ small)
    ∙ ap (λ (b : Bool). if b && eqb (m.part x.cell) j then Some x else None) (lt-ltb _ _ is.of.below)
    ∙ ap (λ (b : Bool). if b then Some x else None) (eq-eqb _ _ is.of.here)

pub asks_back : (m : Shape) (j : ℕ) (xs : List CellAsk) → AllByRecursion (IsAskFor m j) xs → asks_in m j (ask_words xs) ≡ xs
asks_back m j [] is = refl
asks_back m j (x ∷ xs) is = λ i. cons_option (ask_in_back m j x is.0 i) (asks_back m j xs is.1 i)

values_back : (zs : List ℤ) → AllByRecursion (FitsSigned w64) zs → map (cast_signed w64) (values_words zs) ≡ zs
values_back [] f = refl
values_back (z ∷ zs) f = λ i. to_z-of_z w64 z f.0 i ∷ values_back zs f.1 i

-- ---- messages

module _ (rule : Rule) (m : Shape) (j : ℕ) where
  abbrev Back : Purpose → Message → Type 0
  Back purpose x = read_message rule m j purpose (header_of x) (words rule x) ≡ x

  empty_back : (x : Message) → (x.puts ≡ []) × (x.asks ≡ []) × (x.values ≡ []) →
      record { key = x.key; mark = x.mark; active = x.active; puts = []; asks = []; values = [] } ≡ x
  empty_back x e = λ i. record { key = x.key; mark = x.mark; active = x.active; puts = sym e.0 i; asks = sym e.1 i; values = sym e.2 i }

  -- the words of the puts end where the header says
  put_part_is : (x : Message) (rest : List ℕ) → put_part rule (header_of x)
      (flat_map (put_words rule) x.puts ++ rest) ≡ flat_map (put_words rule) x.puts
  put_part_is x rest = ap (λ n. take n (flat_map (put_words rule) x.puts ++ rest)) (sym (puts_long rule x.puts))
      ∙ take-append_seam (flat_map (put_words rule) x.puts) rest

  ask_part_is : (x : Message) (rest : List ℕ) → ask_part rule (header_of x) (flat_map (put_words rule) x.puts ++ rest) ≡ rest
  ask_part_is x rest = ap (λ n. drop n (flat_map (put_words rule) x.puts ++ rest)) (sym (puts_long rule x.puts))
      ∙ drop-append_seam (flat_map (put_words rule) x.puts) rest

  pub message_back : (purpose : Purpose) (x : Message) → CanBeSent rule m j purpose x → Back purpose x
  message_back Sends x h =
      let rest : List ℕ = ask_words x.asks ++ [] in
      let e : words rule x ≡ flat_map (put_words rule) x.puts ++ rest =
      ap (λ zs. flat_map (put_words rule) x.puts ++ (ask_words x.asks ++ values_words zs)) h.2 in
      ap (read_message rule m j Sends (header_of x)) e
      ∙ (λ i. record {
        key = x.key;
        mark = x.mark;
        active = x.active;
        puts = (ap (puts_in rule m j) (put_part_is x rest) ∙ puts_back rule m j x.puts h.0) i;
        asks = (ap (asks_in m j) (ask_part_is x rest ∙ append-nil (ask_words x.asks)) ∙ asks_back m j x.asks h.1) i;
        values = sym h.2 i;
      })
  message_back Replies x h =
      let e : words rule x ≡ values_words x.values =
      (λ i. flat_map (put_words rule) (h.0 i) ++ (ask_words (h.1 i) ++ values_words x.values)) in
      ap (read_message rule m j Replies (header_of x)) e
      ∙ (λ i. record {
        key = x.key;
        mark = x.mark;
        active = x.active;
        puts = sym h.0 i;
        asks = sym h.1 i;
        values =
            values_back x.values h.2 i;
      })
  message_back (Votes d) x h = empty_back x h
  message_back Closes x h = empty_back x h

-- what came from all workers comes to what the words say
pub entries_of_words : EntriesOfWords
entries_of_words rule m j received c =
    total_map None (join rule) (λ (x : Message). total None (join rule) (entry_in c) x.puts) (λ (r : MessageHeader × List ℕ).
    read_message rule m j Sends r.0 r.1) received
    ∙ sym (total_map None (join rule) (entry_of_column rule m j c) (λ (r : MessageHeader × List ℕ). put_part rule r.0 r.1) received)

pub askers_of_words : AskersOfWords
askers_of_words rule m j received k c =
    total_map None several (λ (x : Message). total None several (asked_in k c) x.asks) (λ (r : MessageHeader × List ℕ).
    read_message rule m j Sends r.0 r.1) received
    ∙ sym (total_map None several (askers_of_column m j k c) (λ (r : MessageHeader × List ℕ). ask_part rule r.0 r.1) received)
