-- Room for words, and the words that came.
use Rattle.std.proofs.Common.{◌≡◌, ℕ, zero, suc, ◌<◌, ◌≤◌, List, [], ◌∷◌, length, map, replicate, Bool}
use Rattle.std.proofs.Common.{true, false, refl, sym, ap, ◌∙◌, arith, Some}
use Rattle.std.proofs.Common.{vec_capacity, get_or}
use Rattle.std.specs.Prelude.{if◌then◌else◌, nat_le, slice_index_or, slice_get}
use Rattle.std.proofs.lemmas.Bool.Decides.{nat_tests}
use Rattle.bsp_machine.specs.declared.letter.Letter.{Letter}
use Rattle.bsp_machine.specs.declared.sheet.Sheet.{Sheet}
use Rattle.bsp_machine.specs.Sheets.{message_in, no_words, messages_in, rooms_in, least_room, picked, longest, IsSheet}
use Rattle.std.proofs.lemmas.List.{length-map, length-replicate}

-- each message has at least the least room
pub room_enough : (rooms : List ℕ) (i : ℕ) → i < length rooms → least_room rooms ≤ get_or rooms i 0
room_enough [] i h = absurd (omega (arith, h))
room_enough (n ∷ []) zero h = omega arith
room_enough (n ∷ []) (suc i) h = absurd (omega (arith, h))
room_enough (n ∷ m ∷ rooms) zero h = grind (arith, nat_tests)
room_enough (n ∷ m ∷ rooms) (suc i) h =
    let r = room_enough (m ∷ rooms) i (omega (arith, h)) in
    grind (arith, nat_tests, r)

-- ---- a row

module _ (p most : ℕ) (s : Sheet) (is : IsSheet p most s) where
  pub sheet_long : length (messages_in s) ≡ p
  sheet_long =
      length-map s.letters.items message_in ∙ sym (length-map s.letters.items (λ (x : Letter). vec_capacity x.words)) ∙ ap length is
      ∙ length-replicate p most

  pub sheet_room : 0 < p → least_room (rooms_in s) ≡ most
  sheet_room some = ap least_room is ∙ go p some
    where
      go : (n : ℕ) → 0 < n → least_room (replicate n most) ≡ most
      go zero h = absurd (omega (arith, h))
      go (suc zero) h = refl
      go (suc (suc n)) h = ap (λ r. if nat_le most r then most else r) (go (suc n) (omega arith)) ∙ either (nat_le most most)
        where
          either : (b : Bool) → (if b then most else most) ≡ most
          either true = refl
          either false = refl

  -- no message has more words than there is room for
  pub sheet_short : (w : ℕ) → length (slice_index_or (messages_in s) w no_words).words ≤ most
  sheet_short w = go p s.letters.items w is
    where
      go : (n : ℕ) (letters : List Letter) (w : ℕ) → map (λ (x : Letter). vec_capacity x.words) letters ≡ replicate n most →
          length (slice_index_or (map message_in letters) w no_words).words ≤ most
      go n [] w e = omega arith
      go zero (x ∷ letters) w e = cc
      go (suc n) (x ∷ letters) zero e =
          let room : vec_capacity x.words ≡ most = cc in
          let long = x.words.ok.0 in
          let within = x.words.ok.1 in omega (arith, room, long, within)
      go (suc n) (x ∷ letters) (suc w) e =
          let rest : map (λ (y : Letter). vec_capacity y.words) letters ≡ replicate n most = cc in go n letters w rest

pub column_short : (p most w : ℕ) (rows : List Sheet) → ((i : ℕ) (s : Sheet) → slice_get rows i ≡ Some s → IsSheet p most s) →
    longest (picked w rows) ≤ most
column_short p most w [] each = omega arith
column_short p most w (s ∷ rows) each =
    let one = sheet_short p most s (each 0 s refl) w in
    let rest = column_short p most w rows (λ i t e. each (suc i) t e) in
    grind (arith, nat_tests, one, rest)

-- the same rooms, the same row
pub still_sheet : (p most : ℕ) (old new : Sheet) → IsSheet p most old → rooms_in new ≡ rooms_in old → IsSheet p most new
still_sheet p most old new is same = same ∙ is
