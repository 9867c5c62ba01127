-- Puts whose cells ascend: nothing else comes for the cell of one.
use Rattle.std.proofs.Common.{◌≡◌, ℕ, ℤ, ◌+◌, ◌<◌, ◌≤◌, List, [], ◌∷◌, length, map, set, Option, Some, None, refl, sym, ap, ◌∙◌, subst}
use Rattle.std.proofs.Common.{arith}
use Rattle.std.proofs.Common.{⊎_elim, pos, take, drop, ◌%◌, ◌^◌, Bool, true, false}
use Rattle.std.specs.Prelude.{if◌then◌else◌}
use Rattle.std.specs.List.{cons_option}
use Rattle.std.proofs.lemmas.List.{get_or-set_same, get_or-set_other}
use Rattle.std.proofs.lemmas.Bool.{cases_eq}
use Rattle.std.proofs.Math.Nat.{mod-eq_of_lt}
use Rattle.pram_values.specs.declared.kind.Kind.{Kind}
use Rattle.pram_values.specs.Total.{total}
use Rattle.pram_model.specs.declared.rule.Rule.{Rule}
use Rattle.write_rules.specs.declared.entry.Entry.{Entry}
use Rattle.address_map.specs.Lawful.{Shape, IsOf, IsLawful}
use Rattle.superstep_machine.specs.Words.{CellPut}
use Rattle.superstep_machine.specs.WordReading.{word, put_length, read_put, entry_of_column, entry_read}
use Rattle.superstep_machine.specs.Sending.{join, entry_in, verdict_on, settled}
use Rattle.combining.specs.declared.words.PlacedPut.{PlacedPut}
use Rattle.combining.specs.Held.{put_at}
use Rattle.combining.specs.Items.{placed_if, puts_placed}
use Rattle.combining.specs.ItemLaws.{puts_more}
use Rattle.combining.specs.Gathering.{value_at, IsNoted, note}
use Rattle.combining.specs.Merged.{refusal, IsMerged}
use Rattle.combining.specs.Alone.{cells_put, AscendTo, AscendAll, Leaves}
use Rattle.combining.proofs.Columns.{here, of_items, entry_other, entry_here}
use Rattle.combining.proofs.Gathered.{offsets_apart, offset_within, note_one}

-- they end behind where they begin, and may begin earlier
pub ascend_up : (n : ℕ) (cs : List ℕ) (k : ℕ) → AscendTo n cs k → n ≤ k
ascend_up n [] k h = h
ascend_up n (c ∷ cs) k h = let a = ascend_up (c + 1) cs k h.1 in let b = h.0 in omega (arith, a, b)

pub ascend_sooner : (m n : ℕ) (cs : List ℕ) (k : ℕ) → m ≤ n → AscendTo n cs k → AscendTo m cs k
ascend_sooner m n [] k l h = omega (arith, l, h)
ascend_sooner m n (c ∷ cs) k l h = (let b = h.0 in omega (arith, l, b), h.1)

-- one more group of words, whose first word is the cell of the put that it is, if it is one
pub ascend_next : (rule : Rule) (m : Shape) (j : ℕ) (ws : List ℕ) (size least first k : ℕ) → size ≡ put_length rule → size ≤ length ws →
    first ≡ word (take size ws) 0 → least ≤ first → first < 2 ^ 20 → AscendTo (first + 1) (cells_put rule m j (drop size ws)) k →
    AscendTo least (cells_put rule m j ws) k
ascend_next rule m j ws size least first k e long is up small h =
    subst (λ (ps : List PlacedPut). AscendTo least (map (λ (x : PlacedPut). x.cell) ps) k)
    (sym (puts_more rule m j ws (omega (arith, e, long)))
    ) (go _ (read_put rule (take (put_length rule) ws)) (puts_placed rule m j (drop (put_length rule) ws)) cell
    (subst (λ (n : ℕ). AscendTo (first + 1) (cells_put rule m j (drop n ws)) k) e h))
  where
    cell : word (take (put_length rule) ws) 0 % 2 ^ 20 ≡ first
    cell = let w = ap (λ (n : ℕ). word (take n ws) 0) e in mod-eq_of_lt (omega (arith, w, is, small)) ∙ sym (is ∙ w)

    go : (b : Bool) (x : CellPut) (ps : List PlacedPut) → x.cell ≡ first → AscendTo (first + 1) (map (λ (x : PlacedPut). x.cell) ps) k →
        AscendTo least (map (λ (x : PlacedPut). x.cell) (cons_option (placed_if m (if b then Some x else None)) ps)) k
    go true x ps at known = (
      omega (arith, at, up),
      subst (λ (c : ℕ). AscendTo (c + 1) (map (λ (x : PlacedPut). x.cell) ps) k)
          (sym at) known,
    )
    go false x ps at known = ascend_sooner least (first + 1) (map (λ (x : PlacedPut). x.cell) ps) k (omega (arith, up)) known

module _ (rule : Rule) (m : Shape) (j : ℕ) where
  -- no item is for a cell below the first
  items_below : (xs : List PlacedPut) (n k c : ℕ) → AscendTo n (map (λ (x : PlacedPut). x.cell) xs) k → c < n →
      total None (join rule) (here rule m j c) xs ≡ None
  items_below [] n k c h l = refl
  items_below (x ∷ xs) n k c h l =
      let b = h.0 in
      ap (λ y. join rule y (total None (join rule) (here rule m j c) xs))
      (entry_other c (put_at x.cell x.entry) (λ e. absurd (omega (arith, l, b, e))))
      ∙ items_below xs (x.cell + 1) k c h.1 (omega (arith, l, b))

  pub none_below : (ws : List ℕ) (n k c : ℕ) → AscendTo n (cells_put rule m j ws) k → c < n → entry_of_column rule m j c ws ≡ None
  none_below ws n k c h l = of_items rule m j c ws ∙ items_below (puts_placed rule m j ws) n k c h l

  pub none_of_all : (columns : List (List ℕ)) (n c : ℕ) → AscendAll rule m j n columns → c < n → entry_read rule m j columns c ≡ None
  none_of_all [] n c h l = refl
  none_of_all (ws ∷ columns) n c h l =
      let b = ascend_up n (cells_put rule m j ws) h.0 h.1 in
      ap (λ y. join rule y (entry_read rule m j columns c)) (none_below ws n h.0 c h.1 l)
      ∙ none_of_all columns h.0 c h.2 (omega (arith, l, b))

  -- the same is left
  pub Leaves_same : (due : ℕ → ℤ) (found : ℕ → Option Kind) (values : List ℤ) (noted : Option (ℕ × Kind)) (left other : ℕ → Option Entry) →
      ((c : ℕ) → left c ≡ other c) → Leaves m rule j due found values noted left → Leaves m rule j due found values noted other
  Leaves_same due found values noted left other same known = record {
    owed = λ c p. ap (λ (x : Option Entry). settled (verdict_on rule x) (value_at values (m.offset c))) (sym (same c)) ∙ known.owed c p;
    least = least_same (λ c. refusal (verdict_on rule (left c))) (λ c. refusal (verdict_on rule (other c)))
        (λ c. ap (λ (x : Option Entry). refusal (verdict_on rule x)) (same c)) found noted known.least;
  }
    where
      least_same : (f g : ℕ → Option Kind) → ((c : ℕ) → f c ≡ g c) → (found : ℕ → Option Kind) (noted : Option (ℕ × Kind)) →
          IsNoted m j found f noted → IsNoted m j found g noted
      least_same f g e found None h = λ c p. h c p ∙ e c
      least_same f g e found (Some q) h = (h.0, h.1, λ c p l. h.2 c p l ∙ e c)

  -- one put is settled, behind which nothing comes for its cell
  pub settle_only : IsLawful m → (due : ℕ → ℤ) (found : ℕ → Option Kind) (values : List ℤ) → length values ≡ m.width j →
      (noted : Option (ℕ × Kind)) (d : ℕ) (e : Entry) → IsOf m j d → (behind : ℕ → Option Entry) → behind d ≡ None →
      Leaves m rule j due found values noted (λ c. join rule (entry_in c (put_at d e)) (behind c)) →
      Leaves m rule j due found (set values (m.offset d) (settled (verdict_on rule (Some e)) (value_at values (m.offset d))))
      (note d (refusal (verdict_on rule (Some e))) noted) behind
  settle_only lawful due found values long noted d e of behind gone known = record {
    owed = λ c p.
        ⊎_elim
        (λ eq.
        subst (λ (k : ℕ). settled (verdict_on rule (behind k)) (value_at after (m.offset k)) ≡ due k) (sym eq)
        (ap (λ (x : Option Entry). settled (verdict_on rule x) (value_at after o)) gone ∙ get_or-set_same values o v (pos 0) room
        ∙ sym (ap (λ (x : Option Entry). settled (verdict_on rule x) (value_at values o)) only) ∙ known.owed d of))
        (λ ne.
        ap (settled (verdict_on rule (behind c)))
        (get_or-set_other values o (m.offset c) v (pos 0) (λ e. ne (offsets_apart m lawful j c d p of e)))
        ∙ sym (ap (λ (x : Option Entry). settled (verdict_on rule x) (value_at values (m.offset c))) (others c ne)) ∙ known.owed c p)
        (cases_eq c d);
    least = subst (λ (x : Option Entry). IsNoted m j found (λ c. refusal (verdict_on rule (behind c)))
        (note d (refusal (verdict_on rule x)) noted)) only
        (note_one m j found (λ c. refusal (verdict_on rule (before c))) (λ c. refusal (verdict_on rule (behind c))) d of
        (ap (λ (x : Option Entry). refusal (verdict_on rule x)) gone)
        (λ c p ne. ap (λ (x : Option Entry). refusal (verdict_on rule x)) (sym (others c ne))) noted known.least);
  }
    where
      o : ℕ
      o = m.offset d

      v : ℤ
      v = settled (verdict_on rule (Some e)) (value_at values (m.offset d))

      after : List ℤ
      after = set values (m.offset d) v

      before : ℕ → Option Entry
      before c = join rule (entry_in c (put_at d e)) (behind c)

      room : m.offset d < length values
      room = let w = offset_within m lawful j d of in omega (arith, w, long)

      only : before d ≡ Some e
      only = ap (λ x. join rule x (behind d)) (entry_here d e) ∙ ap (join rule (Some e)) gone

      others : (c : ℕ) → (c ≡ d → ⊥) → before c ≡ behind c
      others c ne = ap (λ x. join rule x (behind c)) (entry_other c (put_at d e) ne)

  -- nothing is left of all: they are merged
  pub all_settled : (columns : List (List ℕ)) (old new : List ℤ) (result : Option (ℕ × Kind)) → length new ≡ length old →
      Leaves m rule j (λ c. settled (verdict_on rule (entry_read rule m j columns c)) (value_at old (m.offset c)))
      (λ c. refusal (verdict_on rule (entry_read rule m j columns c))) new result (λ c. None) → IsMerged m rule j columns old new result
  all_settled columns old new result long done = record {
    long = long;
    each = done.owed;
    none = λ e. subst (λ (x : Option (ℕ × Kind)). IsNoted m j found (λ c. None) x) e done.least;
    least = λ c kind e. subst (λ (x : Option (ℕ × Kind)). IsNoted m j found (λ c. None) x) e done.least;
  }
    where
      found : ℕ → Option Kind
      found c = refusal (verdict_on rule (entry_read rule m j columns c))
