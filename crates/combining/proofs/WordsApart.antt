-- Asks whose words ascend: none is for the cell of another by the same read.
use Rattle.std.proofs.Common.{◌≡◌, ℕ, ◌+◌, ◌*◌, ◌/◌, ◌%◌, ◌^◌, ◌<◌, ◌≤◌, List, [], ◌∷◌, Bool, true, false, Option, Some, None, refl, ap}
use Rattle.std.proofs.Common.{◌∙◌}
use Rattle.std.proofs.Common.{eqb, ⊎_elim, arith}
use Rattle.std.specs.Prelude.{if◌then◌else◌, ◌&&◌, nat_lt}
use Rattle.std.specs.List.{cons_option}
use Rattle.std.proofs.lemmas.Bool.{cases_eq, eqb-true}
use Rattle.pram_values.specs.Total.{total}
use Rattle.address_map.specs.Lawful.{Shape}
use Rattle.superstep_machine.specs.Sending.{several, is_several, asked_in}
use Rattle.superstep_machine.specs.WordReading.{is_set, read_ask, asks_in, askers_of_column, askers_read}
use Rattle.combining.specs.Merged.{IsLeastShared}
use Rattle.combining.specs.Alone.{AscendTo, AscendWords}
use Rattle.combining.proofs.OnlyPuts.{ascend_up}

-- a word below the mark of two askers has it not
unmarked : (w : ℕ) → w < 2 ^ 23 → is_set (w / 2 ^ 23) ≡ false
unmarked w l = ap is_set none
  where
    none : w / 2 ^ 23 ≡ 0
    none = omega (arith, l)

-- and is the number of its read and its cell
number_of : (w k c : ℕ) → w < 2 ^ 23 → w / 2 ^ 20 % 2 ^ 3 ≡ k → w % 2 ^ 20 ≡ c → w ≡ c + 2 ^ 20 * k
number_of w k c l p q = omega (arith, l, p, q)

module _ (m : Shape) (j k c : ℕ) where
  abbrev key : ℕ
  key = c + 2 ^ 20 * k

  abbrev asked : ℕ → Option Bool
  asked w = asked_in k c (read_ask w)

  -- another word is no ask for this cell by this read
  asked_other : (w : ℕ) → w < 2 ^ 23 → (w ≡ key → ⊥) → asked w ≡ None
  asked_other w l ne = go (eqb (w / 2 ^ 20 % 2 ^ 3) k) (eqb (w % 2 ^ 20) c) refl refl
    where
      go : (a b : Bool) → eqb (w / 2 ^ 20 % 2 ^ 3) k ≡ a → eqb (w % 2 ^ 20) c ≡ b →
          ◌≡◌ {A = Option Bool} (if a && b then Some (is_set (w / 2 ^ 23)) else None) None
      go true true p q = absurd (ne (number_of w k c l (eqb-true _ _ p) (eqb-true _ _ q)))
      go true false p q = refl
      go false b p q = refl

  -- and one of a single processor is never one of several
  asked_once : (w : ℕ) → w < 2 ^ 23 → is_several (asked w) ≡ false
  asked_once w l = go (eqb (w / 2 ^ 20 % 2 ^ 3) k && eqb (w % 2 ^ 20) c)
    where
      go : (b : Bool) → is_several (if b then Some (is_set (w / 2 ^ 23)) else None) ≡ false
      go true = unmarked w l
      go false = refl

  -- what the first word adds, if it is an ask of the module
  first : (w : ℕ) (ws : List ℕ) → asked w ≡ None → askers_of_column m j k c (w ∷ ws) ≡ askers_of_column m j k c ws
  first w ws none = go (nat_lt w (2 ^ 24) && nat_lt (w % 2 ^ 20) m.count && eqb (m.part (w % 2 ^ 20)) j)
    where
      go : (b : Bool) → total None several (asked_in k c) (cons_option (if b then Some (read_ask w) else None) (asks_in m j ws))
          ≡ askers_of_column m j k c ws
      go true = ap (λ x. several x (askers_of_column m j k c ws)) none
      go false = refl

  first_once : (w : ℕ) (ws : List ℕ) → w < 2 ^ 23 → askers_of_column m j k c ws ≡ None →
      is_several (askers_of_column m j k c (w ∷ ws)) ≡ false
  first_once w ws l none = go (nat_lt w (2 ^ 24) && nat_lt (w % 2 ^ 20) m.count && eqb (m.part (w % 2 ^ 20)) j)
    where
      alone : (x : Option Bool) → is_several x ≡ false → is_several (several x None) ≡ false
      alone None h = h
      alone (Some b) h = h

      go : (b : Bool) → is_several (total None several (asked_in k c) (cons_option (if b then Some (read_ask w) else None)
          (asks_in m j ws)))
          ≡ false
      go true = ap (λ x. is_several (several (asked w) x)) none ∙ alone (asked w) (asked_once w l)
      go false = ap is_several none

  none_below : (ws : List ℕ) (n b : ℕ) → AscendTo n ws b → b ≤ 2 ^ 23 → key < n → askers_of_column m j k c ws ≡ None
  none_below [] n b h s l = refl
  none_below (w ∷ ws) n b h s l =
      let up = ascend_up (w + 1) ws b h.1 in
      let from = h.0 in
      first w ws (asked_other w (omega (arith, up, s)) (λ e. absurd (omega (arith, from, l, e))))
      ∙ none_below ws (w + 1) b h.1 s (omega (arith, from, l))

  -- no two of a column ask, with those behind it
  few_of_column : (ws : List ℕ) (n b : ℕ) → AscendTo n ws b → b ≤ 2 ^ 23 → (rest : Option Bool) → (key < b → rest ≡ None) →
      is_several rest ≡ false → is_several (several (askers_of_column m j k c ws) rest) ≡ false
  few_of_column [] n b h s rest none few = few
  few_of_column (w ∷ ws) n b h s rest none few =
      let up = ascend_up (w + 1) ws b h.1 in
      let from = h.0 in
      ⊎_elim
      (λ e.
      ap (λ x. is_several (several (askers_of_column m j k c (w ∷ ws)) x)) (none (omega (arith, up, e)))
      ∙ ends (askers_of_column m j k c (w ∷ ws))
      (first_once w ws (omega (arith, up, s)) (none_below ws (w + 1) b h.1 s (omega (arith, e)))))
      (λ ne.
      ap (λ x. is_several (several x rest)) (first w ws (asked_other w (omega (arith, up, s)) ne))
      ∙ few_of_column ws (w + 1) b h.1 s rest none few)
      (cases_eq w key)
    where
      ends : (x : Option Bool) → is_several x ≡ false → is_several (several x None) ≡ false
      ends None h = h
      ends (Some b) h = h

  none_of_all : (columns : List (List ℕ)) (n : ℕ) → AscendWords n columns → key < n → askers_read m j columns k c ≡ None
  none_of_all [] n h l = refl
  none_of_all (ws ∷ columns) n h l =
      let up = ascend_up n ws h.0 h.1 in
      ap (λ x. several x (askers_read m j columns k c)) (none_below ws n h.0 h.1 h.2 l)
      ∙ none_of_all columns h.0 h.3 (omega (arith, up, l))

  few_of_all : (columns : List (List ℕ)) (n : ℕ) → AscendWords n columns → is_several (askers_read m j columns k c) ≡ false
  few_of_all [] n h = refl
  few_of_all (ws ∷ columns) n h =
      few_of_column ws n h.0 h.1 h.2 (askers_read m j columns k c) (none_of_all columns h.0 h.3) (few_of_all columns h.0 h.3)

-- so no cell is asked for by two
pub none_shared : (m : Shape) (j : ℕ) (columns : List (List ℕ)) (k : ℕ) → AscendWords 0 columns → IsLeastShared m j columns k None
none_shared m j columns k h = record {
  none = λ e c p. few_of_all m j k c columns 0 h;
  least = λ c e. cc;
}
