-- The values after all replies were taken are those that came to the machine's worker.
use Rattle.std.proofs.Common.{◌≡◌, ℕ, zero, suc, ℤ, pos, ◌+◌, ◌^◌, ◌<◌, List, [], ◌∷◌, map, Bool, true, false, refl, sym, subst, ap, ◌∙◌}
use Rattle.std.proofs.Common.{arith, ⊎_elim, cond, eqb}
use Rattle.std.specs.Prelude.{if◌then◌else◌, ◌&&◌, FitsSigned, slice_index_or}
use Rattle.std.specs.List.{filter, zip, AllByRecursion}
use Rattle.std.specs.Int.{w64}
use Rattle.std.proofs.lemmas.Bool.{eq-eqb, ne_eqb}
use Rattle.std.proofs.lemmas.Bool.Decides.{eqb_tells}
use Rattle.std.proofs.lemmas.Int.{to_z-of_z}
use Rattle.superstep_machine.specs.Words.{CellAsk, Message, blank, word_of, values_words}
use Rattle.superstep_machine.specs.Sending.{asks_held, after_send}
use Rattle.superstep_machine.specs.Answering.{look_up}
use Rattle.combining.specs.Asked.{HeldAsk, IsAskBelow, ask_key, key_of, answered, replied, value_for}
use Rattle.combining.specs.Adding.{unanswered, asked_by}
use Rattle.combining.proofs.AllReplies.{nothing_replied}
use Rattle.combining.proofs.MachineAsks.{added_fit, fits_small, stay_below, fitting_are_machines}
use Rattle.combining.specs.Came.{HasWords, all_replied, reply_words, ValuesAreTheMachines, AddedAsksGetTheirValues}

abbrev asks_of : List HeldAsk → List CellAsk
asks_of = map (λ (x : HeldAsk). x.ask)

abbrev AreSmall : List CellAsk → Type 0
AreSmall = AllByRecursion (λ (x : CellAsk). x.cell < 2 ^ 20)

-- no reply changes an ask
asks_stay : (part : ℕ → ℕ) (j : ℕ) (ws : List ℕ) (held : List HeldAsk) → asks_of (replied part j ws held) ≡ asks_of held
asks_stay part j ws [] = refl
asks_stay part j [] (x ∷ rest) = refl
asks_stay part j (w ∷ ws) (x ∷ rest) = go (eqb (part x.ask.cell) j) (asks_stay part j ws rest) (asks_stay part j (w ∷ ws) rest)
  where
    go : (b : Bool) → asks_of (replied part j ws rest) ≡ asks_of rest → asks_of (replied part j (w ∷ ws) rest) ≡ asks_of rest
        → asks_of (if b then answered x w ∷ replied part j ws rest else x ∷ replied part j (w ∷ ws) rest) ≡ asks_of (x ∷ rest)
    go true e f = ap (λ xs. x.ask ∷ xs) e
    go false e f = ap (λ xs. x.ask ∷ xs) f

small_stay : (part : ℕ → ℕ) (j : ℕ) (ws : List ℕ) (held : List HeldAsk) → AreSmall (asks_of held)
    → AreSmall (asks_of (replied part j ws held))
small_stay part j ws held small = subst AreSmall (sym (asks_stay part j ws held)) small

nothing_there : (read cell : ℕ) (xs : List CellAsk) → look_up read cell (zip xs []) ≡ pos 0
nothing_there read cell [] = refl
nothing_there read cell (x ∷ xs) = refl

module _ (part : ℕ → ℕ) (read cell : ℕ) (low : cell < 2 ^ 20) where
  abbrev is_meant : HeldAsk → Bool
  is_meant x = eqb (key_of x.ask) (ask_key read cell)

  -- asks of small cells have the same key where read and cell are the same
  meant_by_both : (x : HeldAsk) → x.ask.cell < 2 ^ 20 → is_meant x ≡ (eqb x.ask.read read && eqb x.ask.cell cell)
  meant_by_both x small =
      ⊎_elim
      (λ r.
      ⊎_elim
      (λ c. eq-eqb (key_of x.ask) (ask_key read cell) (λ i. ask_key (r.1 i) (c.1 i)) ∙ sym (λ i. r.0 i && c.0 i))
      (λ c. (let same = r.1 in ne_eqb (key_of x.ask) (ask_key read cell) (λ e. c.1 (omega (arith, e, same)))) ∙ sym (λ i. r.0 i && c.0 i))
      (eqb_tells x.ask.cell cell))
      (λ r. ne_eqb (key_of x.ask) (ask_key read cell) (λ e. r.1 (omega (arith, e, small, low)))
      ∙ sym (ap (λ b. b && eqb x.ask.cell cell) r.0))
      (eqb_tells x.ask.read read)

  -- an ask of another module isn't meant
  not_meant : (x : HeldAsk) → x.ask.cell < 2 ^ 20 → (part x.ask.cell ≡ part cell → ⊥) → is_meant x ≡ false
  not_meant x small apart =
      ne_eqb (key_of x.ask) (ask_key read cell) (λ e. let same : x.ask.cell ≡ cell = omega (arith, e, small, low) in apart (ap part same))

  -- the replies of other modules change nothing
  other_reply : (j : ℕ) → (j ≡ part cell → ⊥) → (ws : List ℕ) (held : List HeldAsk) → AreSmall (asks_of held)
      → value_for read cell (replied part j ws held) ≡ value_for read cell held
  other_reply j apart ws [] small = refl
  other_reply j apart [] (x ∷ rest) small = refl
  other_reply j apart (w ∷ ws) (x ∷ rest) small =
      let yes = answered x w ∷ replied part j ws rest in
      let no = x ∷ replied part j (w ∷ ws) rest in
      ⊎_elim
      (λ here.
      let skip = not_meant x small.0 (λ e. apart (sym here.1 ∙ e)) in
      ap (λ b. value_for read cell (if b then yes else no)) here.0
      ∙ ap (λ b. if b then (answered x w).value else value_for read cell (replied part j ws rest)) skip
      ∙ other_reply j apart ws rest small.1
      ∙ sym (ap (λ b. if b then x.value else value_for read cell rest) skip))
      (λ there.
      ap (λ b. value_for read cell (if b then yes else no)) there.0
      ∙ ap (λ v. if is_meant x then x.value else v) (other_reply j apart (w ∷ ws) rest small.1))
      (eqb_tells (part x.ask.cell) j)

  others_replied : (j : ℕ) → part cell < j → (column : List (List ℕ)) (held : List HeldAsk) → AreSmall (asks_of held)
      → value_for read cell (all_replied part j column held) ≡ value_for read cell held
  others_replied j above [] held small = refl
  others_replied j above (ws ∷ column) held small =
      others_replied (j + 1) (omega (arith, above)) column (replied part j ws held) (small_stay part j ws held small)
      ∙ other_reply j (λ e. omega (arith, above, e)) ws held small

  -- no value came yet from the cell's module
  abbrev Waits : List HeldAsk → Type 0
  Waits = AllByRecursion (λ (x : HeldAsk). part x.ask.cell ≡ part cell → x.value ≡ pos 0)

  waits_on : (j : ℕ) → (j ≡ part cell → ⊥) → (ws : List ℕ) (held : List HeldAsk) → Waits held → Waits (replied part j ws held)
  waits_on j apart ws [] waits = tt
  waits_on j apart [] (x ∷ rest) waits = waits
  waits_on j apart (w ∷ ws) (x ∷ rest) waits =
      let yes = answered x w ∷ replied part j ws rest in
      let no = x ∷ replied part j (w ∷ ws) rest in
      ⊎_elim
      (λ here.
      subst (λ (b : Bool). Waits (if b then yes else no)) (sym here.0)
      (λ e. absurd (apart (sym here.1 ∙ e)), waits_on j apart ws rest waits.1))
      (λ there. subst (λ (b : Bool). Waits (if b then yes else no)) (sym there.0) (waits.0, waits_on j apart (w ∷ ws) rest waits.1))
      (eqb_tells (part x.ask.cell) j)

  no_value : (held : List HeldAsk) → AreSmall (asks_of held) → Waits held → value_for read cell held ≡ pos 0
  no_value [] small waits = refl
  no_value (x ∷ rest) small waits =
      ⊎_elim
      (λ same.
      let here : x.ask.cell ≡ cell = (let e = same.1 in let s = small.0 in omega (arith, e, s, low)) in
      ap (λ b. if b then x.value else value_for read cell rest) same.0 ∙ waits.0 (ap part here))
      (λ other. ap (λ b. if b then x.value else value_for read cell rest) other.0 ∙ no_value rest small.1 waits.1)
      (eqb_tells (key_of x.ask) (ask_key read cell))

  -- the reply of the cell's module
  abbrev is_there : CellAsk → Bool
  is_there x = eqb (part x.cell) (part cell)

  own_reply : (vs : List ℤ) (held : List HeldAsk) → AllByRecursion (FitsSigned w64) vs → AreSmall (asks_of held) → Waits held
      → value_for read cell (replied part (part cell) (values_words vs) held) ≡ look_up read cell (zip (filter is_there (asks_of held)) vs)
  own_reply [] held fit small waits =
      ap (value_for read cell) (nothing_replied part (part cell) held)
      ∙ no_value held small waits
      ∙ sym (nothing_there read cell (filter is_there (asks_of held)))
  own_reply (v ∷ vs) [] fit small waits = refl
  own_reply (v ∷ vs) (x ∷ rest) fit small waits =
      let ws = values_words vs in
      let there = filter is_there (asks_of rest) in
      let yes = answered x (word_of v) ∷ replied part (part cell) ws rest in
      let no = x ∷ replied part (part cell) (word_of v ∷ ws) rest in
      ⊎_elim
      (λ here.
      ap (λ b. value_for read cell (if b then yes else no)) here.0
      ∙ ap (λ b. if b then (answered x (word_of v)).value else value_for read cell (replied part (part cell) ws rest))
      (meant_by_both x small.0)
      ∙ (λ i. if eqb x.ask.read read && eqb x.ask.cell cell then to_z-of_z w64 v fit.0 i else own_reply vs rest fit.1 small.1 waits.1 i)
      ∙ sym (ap (λ b. look_up read cell (zip (cond b (x.ask ∷ there) there) (v ∷ vs))) here.0))
      (λ other.
      ap (λ b. value_for read cell (if b then yes else no)) other.0
      ∙ ap (λ b. if b then x.value else value_for read cell (replied part (part cell) (word_of v ∷ ws) rest)) (not_meant x small.0 other.1)
      ∙ own_reply (v ∷ vs) rest fit small.1 waits.1
      ∙ sym (ap (λ b. look_up read cell (zip (cond b (x.ask ∷ there) there) (v ∷ vs))) other.0))
      (eqb_tells (part x.ask.cell) (part cell))

  -- from module j on, where the cell's module is the n-th from there
  abbrev looked_up : List HeldAsk → List Message → ℕ → ℤ
  looked_up held column n = look_up read cell (zip (filter is_there (asks_of held)) (slice_index_or column n blank).values)

  values_are : (n j : ℕ) → j + n ≡ part cell → (column : List Message) → AllByRecursion HasWords column
      → (held : List HeldAsk) → AreSmall (asks_of held) → Waits held
      → value_for read cell (all_replied part j (reply_words column) held) ≡ looked_up held column n
  values_are n j at [] fit held small waits = no_value held small waits ∙ sym (nothing_there read cell (filter is_there (asks_of held)))
  values_are zero j at (m ∷ column) fit held small waits =
      let here : j ≡ part cell = omega (arith, at) in
      let ws = values_words m.values in
      others_replied (j + 1) (omega (arith, at)) (reply_words column) (replied part j ws held) (small_stay part j ws held small)
      ∙ ap (λ k. value_for read cell (replied part k ws held)) here
      ∙ own_reply m.values held fit.0 small waits
  values_are (suc n) j at (m ∷ column) fit held small waits =
      let apart : j ≡ part cell → ⊥ = λ e. omega (arith, at, e) in
      let ws = values_words m.values in
      values_are n (j + 1) (omega (arith, at)) column fit.1 (replied part j ws held)
      (small_stay part j ws held small) (waits_on j apart ws held waits)
      ∙ ap (λ xs. look_up read cell (zip (filter is_there xs) (slice_index_or column n blank).values)) (asks_stay part j ws held)

  all_wait : (xs : List CellAsk) → Waits (map unanswered xs)
  all_wait [] = tt
  all_wait (x ∷ xs) = (λ e. refl, all_wait xs)

same_asks : (xs : List CellAsk) → asks_of (map unanswered xs) ≡ xs
same_asks [] = refl
same_asks (x ∷ xs) = ap (λ ys. x ∷ ys) (same_asks xs)

pub values_are_machines : ValuesAreTheMachines
values_are_machines t s column read cell small fit low =
    let part = t.map.part in
    let asks = same_asks s.wanted in
    values_are part read cell low (part cell) 0 (omega arith) column fit (map unanswered s.wanted)
    (subst AreSmall (sym asks) small) (all_wait part read cell low s.wanted)
    ∙ ap (λ xs. look_up read cell (zip (filter (λ (x : CellAsk). eqb (part x.cell) (part cell)) xs)
    (slice_index_or column (part cell) blank).values)) asks

-- ---- of asks that were added

small_asks : (xs : List CellAsk) → AllByRecursion (IsAskBelow (2 ^ 20)) (map unanswered xs) → AreSmall xs
small_asks [] all = tt
small_asks (x ∷ xs) all = (all.0, small_asks xs all.1)

pub added_get_values : AddedAsksGetTheirValues
added_get_values t w s sends column read cell fits sides words low =
    let same = fitting_are_machines t s fits sides in
    let below = stay_below (2 ^ 20) (asked_by s) [] (fits_small t.map.count fits.small (asked_by s) (added_fit t s fits)) tt in
    let small : AreSmall (asks_held s) = small_asks (asks_held s) (subst (AllByRecursion (IsAskBelow (2 ^ 20))) same below) in
    ap (λ held. value_for read cell (all_replied t.map.part 0 (reply_words column) held)) same
    ∙ values_are_machines t (after_send t w s sends) column read cell small words low
