-- A header is given back by its four words.
use Rattle.std.proofs.Common.{◌≡◌, ℕ, ◌+◌, ◌*◌, ◌/◌, ◌%◌, ◌^◌, ◌<◌, ◌≤◌, Bool, true, false, Option, Some, None, List, refl, ap, ◌∙◌, arith}
use Rattle.std.specs.Prelude.{◌==◌, if◌then◌else◌}
use Rattle.std.specs.Int.{w64}
use Rattle.std.proofs.lemmas.Int.{to_z-of_z}
use Rattle.pram_values.specs.declared.kind.Kind.{Kind}
use Rattle.pram_values.specs.declared.kind.Kind.TheVariants.{Overflow, DivideByZero, OutOfRange, TooWide, ReadConflict, WriteConflict}
use Rattle.pram_values.specs.declared.place.Place.{Place}
use Rattle.pram_values.specs.declared.place.Place.TheVariants.{All, Processor, Cell}
use Rattle.superstep_machine.specs.declared.header.MessageHeader.{MessageHeader}
use Rattle.superstep_machine.specs.declared.key.Key.{Key}
use Rattle.superstep_machine.specs.declared.mark.HeaderMark.{HeaderMark}
use Rattle.superstep_machine.specs.declared.mark.HeaderMark.TheVariants.{Clear, OutOfMemory, OutOfReserve}
use Rattle.superstep_machine.specs.Keys.{rank}
use Rattle.superstep_machine.specs.Words.{bit}
use Rattle.superstep_machine.specs.HeaderWords.{kind_numbered, place_class, place_number, place_numbered, mark_number, mark_numbered}
use Rattle.superstep_machine.specs.HeaderWords.{header_words, is_odd, read_key, read_header, FitsPlace, FitsKey, HeadersAreGivenBack}

-- ---- numbers

odd_bit : (n : ℕ) (b : Bool) → n % 2 ≡ bit b → is_odd n ≡ b
odd_bit n true e = ap (λ x. x == 1) e
odd_bit n false e = ap (λ x. x == 1) e

bit_small : (b : Bool) → bit b ≤ 1
bit_small true = omega arith
bit_small false = omega arith

kind_small : (k : Kind) → rank k ≤ 5
kind_small Overflow = omega arith
kind_small DivideByZero = omega arith
kind_small OutOfRange = omega arith
kind_small TooWide = omega arith
kind_small ReadConflict = omega arith
kind_small WriteConflict = omega arith

kind_back : (k : Kind) → kind_numbered (rank k) ≡ k
kind_back Overflow = refl
kind_back DivideByZero = refl
kind_back OutOfRange = refl
kind_back TooWide = refl
kind_back ReadConflict = refl
kind_back WriteConflict = refl

class_small : (p : Place) → place_class p ≤ 2
class_small All = omega arith
class_small (Processor i) = omega arith
class_small (Cell c) = omega arith

place_back : (p : Place) → FitsPlace p → place_numbered (place_class p) (place_number p) ≡ p
place_back All f = refl
place_back (Processor i) f = ap (λ z. Processor z) (to_z-of_z w64 i f)
place_back (Cell c) f = let e : c % 2 ^ 32 ≡ c = omega (arith, f) in ap (λ d. Cell d) e

mark_small : (m : HeaderMark) → mark_number m ≤ 2
mark_small Clear = omega arith
mark_small OutOfMemory = omega arith
mark_small OutOfReserve = omega arith

mark_back : (m : HeaderMark) → mark_numbered (mark_number m) ≡ m
mark_back Clear = refl
mark_back OutOfMemory = refl
mark_back OutOfReserve = refl

-- ---- the bits of a word

module _ (key mark active : ℕ) (below : key < 128) (low : mark ≤ 2) (one : active ≤ 1) where
  abbrev bits : ℕ
  bits = key + 128 * mark + 512 * active

  key_part : bits % 128 ≡ key
  key_part = omega (arith, below)

  mark_part : bits / 128 % 4 ≡ mark
  mark_part = omega (arith, below, low)

  active_part : bits / 512 % 2 ≡ active
  active_part = omega (arith, below, low, one)

module _ (conflict kind class rest : ℕ) (one : conflict ≤ 1) (kinds : kind ≤ 5) (classes : class ≤ 2) where
  abbrev key_bits_of : ℕ
  key_bits_of = 1 + 2 * conflict + 4 * kind + 32 * class

  key_below : key_bits_of < 128
  key_below = omega (arith, one, kinds, classes)

  there_part : (key_bits_of + 128 * rest) % 2 ≡ 1
  there_part = omega arith

  conflict_part : (key_bits_of + 128 * rest) / 2 % 2 ≡ conflict
  conflict_part = omega (arith, one)

  kind_part : (key_bits_of + 128 * rest) / 4 % 8 ≡ kind
  kind_part = omega (arith, one, kinds)

  class_part : (key_bits_of + 128 * rest) / 32 % 4 ≡ class
  class_part = omega (arith, one, kinds, classes)

-- ---- headers

module _ (h : MessageHeader) where
  abbrev m : ℕ
  m = mark_number h.mark

  abbrev a : ℕ
  a = bit h.active

  without_key : read_header (header_words (record h { key = None })) ≡ record h { key = None }
  without_key =
      let even : (0 + 128 * m + 512 * a) % 2 ≡ 0 = omega arith in
      let puts : (0 + 2 ^ 32 * h.puts) / 2 ^ 32 ≡ h.puts = omega arith in
      λ i. record {
        key = ap (λ b. if b then Some (read_key (header_words (record h { key = None }))) else None)
            (odd_bit (0 + 128 * m + 512 * a) false even) i;
        mark = (ap mark_numbered (mark_part 0 m a (omega arith) (mark_small h.mark) (bit_small h.active)) ∙ mark_back h.mark) i;
        active = odd_bit ((0 + 128 * m + 512 * a) / 512) h.active (active_part 0 m a (omega arith) (mark_small h.mark) (bit_small h.active))
            i;
        puts = puts i;
      }

  module _ (k : Key) (f : FitsKey k) where
    abbrev c : ℕ
    c = bit k.conflict

    abbrev n : ℕ
    n = rank k.kind

    abbrev p : ℕ
    p = place_class k.place

    abbrev own : ℕ
    own = 1 + 2 * c + 4 * n + 32 * p

    abbrev all : ℕ
    all = own + 128 * m + 512 * a

    -- the bits behind those of the key
    rest_is : all ≡ own + 128 * (m + 4 * a)
    rest_is = omega arith

    below : own < 128
    below = key_below c n p 0 (bit_small k.conflict) (kind_small k.kind) (class_small k.place)

    there : all % 2 ≡ 1
    there = ap (λ x. x % 2) rest_is ∙ there_part c n p (m + 4 * a) (bit_small k.conflict) (kind_small k.kind) (class_small k.place)

    conflict_is : all / 2 % 2 ≡ c
    conflict_is = ap (λ x. x / 2 % 2) rest_is
        ∙ conflict_part c n p (m + 4 * a) (bit_small k.conflict) (kind_small k.kind) (class_small k.place)

    kind_is : all / 4 % 8 ≡ n
    kind_is = ap (λ x. x / 4 % 8) rest_is ∙ kind_part c n p (m + 4 * a) (bit_small k.conflict) (kind_small k.kind) (class_small k.place)

    class_is : all / 32 % 4 ≡ p
    class_is = ap (λ x. x / 32 % 4) rest_is ∙ class_part c n p (m + 4 * a) (bit_small k.conflict) (kind_small k.kind) (class_small k.place)

    abbrev words : List ℕ
    words = header_words (record h { key = Some k })

    key_is : read_key words ≡ k
    key_is =
        let l = f.count in
        let count : (k.count + 2 ^ 32 * k.position) % 2 ^ 32 ≡ k.count = omega (arith, l) in
        let position : (k.count + 2 ^ 32 * k.position) / 2 ^ 32 ≡ k.position = omega (arith, l) in
        let g = f.line in
        let line : (k.line + 2 ^ 32 * h.puts) % 2 ^ 32 ≡ k.line = omega (arith, g) in
        λ i. record {
          count = count i;
          position = position i;
          conflict = odd_bit (all / 2) k.conflict conflict_is i;
          place = (ap (λ x. place_numbered x (place_number k.place)) class_is ∙ place_back k.place f.place) i;
          kind = (ap kind_numbered kind_is ∙ kind_back k.kind) i;
          line = line i;
        }

    with_key : read_header words ≡ record h { key = Some k }
    with_key =
        let g = f.line in
        let puts : (k.line + 2 ^ 32 * h.puts) / 2 ^ 32 ≡ h.puts = omega (arith, g) in
        λ i. record {
          key = (ap (λ b. if b then Some (read_key words) else None) (odd_bit all true there) ∙ ap (λ x. Some x) key_is) i;
          mark = (ap mark_numbered (mark_part own m a below (mark_small h.mark) (bit_small h.active)) ∙ mark_back h.mark) i;
          active = odd_bit (all / 512) h.active (active_part own m a below (mark_small h.mark) (bit_small h.active)) i;
          puts = puts i;
        }

pub given_back : HeadersAreGivenBack
given_back h fits = go h.key fits
  where
    go : (o : Option Key) → ((key : Key) → o ≡ Some key → FitsKey key) →
        read_header (header_words (record h { key = o })) ≡ record h { key = o }
    go None f = without_key h
    go (Some k) f = with_key h k (f k refl)
