-- A sum over the cells of all modules is one over the cells of the layout.
use Rattle.std.proofs.Common.{◌≡◌, ℕ, zero, suc, ◌+◌, ◌<◌, ◌≤◌, List, Bool, true, false, cond, eqb, refl, sym, ap, ◌∙◌, arith}
use Rattle.std.specs.List.{range_with_len}
use Rattle.pram_model.specs.Layout.{total_size}
use Rattle.pram_values.specs.Total.{IsMonoid, total}
use Rattle.pram_values.proofs.Totals.{total_map, total_within, total_none, total_swap, total_at}
use Rattle.superstep_machine.specs.Setting.{Setting, workers, module_cells}
use Rattle.flat_machine.specs.Flat.{cells}
use Rattle.flat_machine.specs.Flatness.{IsMapFor}
use Rattle.superstep_machine.proofs.Numbers.{same_number, with_itself}

module _ {M : Type 0} (e : M) (op : M → M → M) (m : IsMonoid M e op) where
  -- nothing behind a place
  total_beyond : (f : ℕ → M) (n k : ℕ) → ((c : ℕ) → k ≤ c → f c ≡ e) → total e op f (range_with_len k n) ≡ e
  total_beyond f zero k h = refl
  total_beyond f (suc n) k h =
      ap (λ a. op a (total e op f (range_with_len (k + 1) n))) (h k (omega arith))
      ∙ m.neutral (total e op f (range_with_len (k + 1) n))
      ∙ total_beyond f n (k + 1) (λ c above. h c (omega (arith, above)))

  total_cut : (f : ℕ → M) (n count k : ℕ) → n ≤ count → ((c : ℕ) → k + n ≤ c → f c ≡ e) →
      total e op f (range_with_len k count) ≡ total e op f (range_with_len k n)
  total_cut f zero count k within h = total_beyond f count k (λ c above. h c (omega (arith, above)))
  total_cut f (suc n) zero k within h = absurd (omega (arith, within))
  total_cut f (suc n) (suc count) k within h =
      ap (op (f k)) (total_cut f n count (k + 1) (omega (arith, within)) (λ c above. h c (omega (arith, above))))

module _ (t : Setting) (fits : IsMapFor t.code t.map) {M : Type 0} (e : M) (op : M → M → M) (m : IsMonoid M e op) (f : ℕ → M) where
  abbrev all : List ℕ
  all = range_with_len 0 (workers t)

  abbrev counted : List ℕ
  counted = range_with_len 0 t.map.count

  -- what a place gives for cell c
  abbrev given : ℕ → ℕ → ℕ → M
  given w o c = cond (eqb (t.map.cell w o) c) (f (t.map.cell w o)) e

  -- only the place of c gives something for it
  one_place : (c w o : ℕ) → c < t.map.count → w < workers t → o < t.map.width w →
      given w o c ≡ cond (eqb (t.map.part c) w) (cond (eqb (t.map.offset c) o) (f c) e) e
  one_place c w o c_below w_below o_below = go (eqb (t.map.cell w o) c) refl
    where
      elsewhere : eqb (t.map.cell w o) c ≡ false → (a b : Bool) → eqb (t.map.part c) w ≡ a → eqb (t.map.offset c) o ≡ b →
          e ≡ cond a (cond b (f c) e) e
      elsewhere apart false b part_is offset_is = refl
      elsewhere apart true false part_is offset_is = refl
      elsewhere apart true true part_is offset_is =
          let place : t.map.cell w o ≡ c =
          (λ i. t.map.cell (sym (same_number (t.map.part c) w part_is) i) (sym (same_number (t.map.offset c) o offset_is) i))
          ∙ fits.lawful.back c c_below in
          let no : true ≡ false = sym (with_itself c) ∙ ap (λ d. eqb d c) (sym place) ∙ apart in
          absurd (cc)

      go : (b : Bool) → eqb (t.map.cell w o) c ≡ b → cond b (f (t.map.cell w o)) e ≡ cond (eqb (t.map.part c) w)
          (cond (eqb (t.map.offset c) o) (f c) e) e
      go true is =
          let same = same_number (t.map.cell w o) c is in
          let part_is : eqb (t.map.part c) w ≡ true = ap (λ d. eqb (t.map.part d) w) (sym same)
          ∙ ap (λ j. eqb j w) (fits.lawful.forth w o w_below o_below).here ∙ with_itself w in
          let offset_is : eqb (t.map.offset c) o ≡ true = ap (λ d. eqb (t.map.offset d) o) (sym same)
          ∙ ap (λ j. eqb j o) (fits.lawful.again w o w_below o_below) ∙ with_itself o in
          ap f same ∙ sym (ap (λ b. cond b (cond (eqb (t.map.offset c) o) (f c) e) e) part_is ∙ ap (λ b. cond b (f c) e) offset_is)
      go false is = elsewhere is (eqb (t.map.part c) w) (eqb (t.map.offset c) o) refl refl

  given_by : (c w : ℕ) → c < t.map.count → w < workers t →
      total e op (λ o. given w o c) (range_with_len 0 (t.map.width w)) ≡ cond (eqb (t.map.part c) w) (f c) e
  given_by c w c_below w_below =
      total_within e op (λ o. given w o c) (λ o. cond (eqb (t.map.part c) w) (cond (eqb (t.map.offset c) o) (f c) e) e) (t.map.width w) 0
      (λ o l. one_place c w o c_below w_below (omega (arith, l)))
      ∙ go (eqb (t.map.part c) w) refl
    where
      go : (b : Bool) → eqb (t.map.part c) w ≡ b →
          total e op (λ o. cond b (cond (eqb (t.map.offset c) o) (f c) e) e) (range_with_len 0 (t.map.width w)) ≡ cond b (f c) e
      go true is =
          let here = ap t.map.width (same_number (t.map.part c) w is) in
          let room = fits.lawful.offset_below c c_below in
          total_at e op m (f c) (t.map.offset c) (t.map.width w) 0 (omega arith) (omega (arith, here, room))
      go false is = total_none e op m (λ o. e) (λ o. refl) (range_with_len 0 (t.map.width w))

  given_once : (c : ℕ) → c < t.map.count → total e op (λ w. total e op (λ o. given w o c) (range_with_len 0 (t.map.width w))) all ≡ f c
  given_once c c_below =
      total_within e op (λ w. total e op (λ o. given w o c) (range_with_len 0 (t.map.width w))) (λ w. cond (eqb (t.map.part c) w) (f c) e)
      (workers t) 0
      (λ w l. given_by c w c_below (omega (arith, l)))
      ∙ total_at e op m (f c) (t.map.part c) (workers t) 0 (omega arith) (let below = fits.lawful.part_below c c_below in
      omega (arith, below))

  -- what one module has, by cells
  of_module : (w : ℕ) → w < workers t →
      total e op f (module_cells t w) ≡ total e op (λ c. total e op (λ o. given w o c) (range_with_len 0 (t.map.width w))) counted
  of_module w w_below =
      let offsets = range_with_len 0 (t.map.width w) in
      total_map e op f (t.map.cell w) offsets
      ∙ total_within e op (λ o. f (t.map.cell w o)) (λ o. total e op (given w o) counted) (t.map.width w) 0
      (λ o l. let below = (fits.lawful.forth w o w_below (omega (arith, l))).below in sym
      (total_at e op m (f (t.map.cell w o)) (t.map.cell w o) t.map.count 0 (omega arith) (omega (arith, below))))
      ∙ total_swap e op m (given w) offsets counted

  -- the sum over all modules, of what is nothing beyond the layout
  pub of_modules : ((c : ℕ) → total_size t.code.layout ≤ c → f c ≡ e) →
      total e op (λ w. total e op f (module_cells t w)) all ≡ total e op f (cells t.code)
  of_modules beyond =
      let by_cell = λ (w c : ℕ). total e op (λ o. given w o c) (range_with_len 0 (t.map.width w)) in
      total_within e op (λ w. total e op f (module_cells t w)) (λ w. total e op (by_cell w) counted) (workers t) 0
      (λ w l. of_module w (omega (arith, l)))
      ∙ total_swap e op m by_cell all counted
      ∙ total_within e op (λ c. total e op (λ w. by_cell w c) all) f t.map.count 0 (λ c l. given_once c (omega (arith, l)))
      ∙ total_cut e op m f (total_size t.code.layout) t.map.count 0 fits.room (λ c above. beyond c (omega (arith, above)))

  -- the same where each module has terms of its own, which are these for its cells
  pub of_modules_each : (g : ℕ → ℕ → M) → ((w c : ℕ) → w < workers t → t.map.part c ≡ w → g w c ≡ f c) →
      ((c : ℕ) → total_size t.code.layout ≤ c → f c ≡ e) →
      total e op (λ w. total e op (g w) (module_cells t w)) all ≡ total e op f (cells t.code)
  of_modules_each g same beyond =
      total_within e op (λ w. total e op (g w) (module_cells t w)) (λ w. total e op f (module_cells t w)) (workers t) 0
      (λ w l. go w (omega (arith, l)))
      ∙ of_modules beyond
    where
      go : (w : ℕ) → w < workers t → total e op (g w) (module_cells t w) ≡ total e op f (module_cells t w)
      go w w_below =
          let offsets = range_with_len 0 (t.map.width w) in
          total_map e op (g w) (t.map.cell w) offsets
          ∙ total_within e op (λ o. g w (t.map.cell w o)) (λ o. f (t.map.cell w o)) (t.map.width w) 0
          (λ o l. same w (t.map.cell w o) w_below (fits.lawful.forth w o w_below (omega (arith, l))).here)
          ∙ sym (total_map e op f (t.map.cell w) offsets)
