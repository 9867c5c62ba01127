-- What is read from a column of asks, word by word, and the least cell that is shared.
use Rattle.std.proofs.Common.{◌≡◌, ℕ, ◌<◌, List, [], ◌∷◌, Bool, true, false, Option, Some, None, refl, sym, ap, ◌∙◌, subst, eqb}
use Rattle.std.specs.Prelude.{if◌then◌else◌, ◌&&◌}
use Rattle.std.proofs.lemmas.Bool.{eq-eqb, ne_eqb}
use Rattle.std.proofs.lemmas.Option.{same_Some}
use Rattle.pram_values.specs.declared.kind.Kind.{Kind}
use Rattle.pram_values.specs.declared.kind.Kind.TheVariants.{ReadConflict}
use Rattle.pram_values.specs.Total.{total}
use Rattle.pram_values.proofs.Totals.{total_map}
use Rattle.address_map.specs.Lawful.{Shape, IsOf}
use Rattle.superstep_machine.specs.WordReading.{asks_in, askers_of_column, askers_read}
use Rattle.superstep_machine.specs.Sending.{several, is_several}
use Rattle.superstep_machine.proofs.Collected.{askers_are_monoid}
use Rattle.combining.specs.declared.words.PlacedAsk.{PlacedAsk}
use Rattle.combining.specs.Items.{ask_placed, asks_placed}
use Rattle.combining.specs.Merged.{shared, noted_cell, IsLeastShared}

-- what is read from a column, ask by ask
module _ (m : Shape) (j k : ℕ) where
  -- an ask for a cell by this read, or by another
  abbrev pub here : ℕ → PlacedAsk → Option Bool
  here c x = if eqb x.read k && eqb x.cell c then Some x.twice else None

  of_items : (c : ℕ) (ws : List ℕ) → askers_of_column m j k c ws ≡ total None several (here c) (asks_placed m j ws)
  of_items c ws = sym (total_map None several (here c) (ask_placed m) (asks_in m j ws))

  pub askers_next : (ws behind : List ℕ) (x : PlacedAsk) → asks_placed m j ws ≡ x ∷ asks_placed m j behind →
      (rest : ℕ → Option Bool) (c : ℕ) →
      several (askers_of_column m j k c ws) (rest c) ≡ several (here c x) (several (askers_of_column m j k c behind) (rest c))
  askers_next ws behind x e rest c =
      ap (λ y. several y (rest c)) (of_items c ws ∙ ap (total None several (here c)) e ∙ ap (several (here c x)) (sym (of_items c behind)))
      ∙ askers_are_monoid.associative (here c x) (askers_of_column m j k c behind) (rest c)

  pub askers_end : (ws : List ℕ) → asks_placed m j ws ≡ [] → (rest : ℕ → Option Bool) (c : ℕ) →
      several (askers_of_column m j k c ws) (rest c) ≡ rest c
  askers_end ws e rest c = ap (λ y. several y (rest c)) (of_items c ws ∙ ap (total None several (here c)) e)

  pub asked_here : (x : PlacedAsk) → x.read ≡ k → here x.cell x ≡ Some x.twice
  asked_here x is =
      ap (λ (b : Bool). if b && eqb x.cell x.cell then Some x.twice else None) (eq-eqb x.read k is)
      ∙ ap (λ (b : Bool). if b then Some x.twice else None) (eq-eqb x.cell x.cell refl)

  pub asked_others : (x : PlacedAsk) → x.read ≡ k → (c : ℕ) → (c ≡ x.cell → ⊥) → here c x ≡ None
  asked_others x is c ne =
      ap (λ (b : Bool). if b && eqb x.cell c then Some x.twice else None) (eq-eqb x.read k is)
      ∙ ap (λ (b : Bool). if b then Some x.twice else None) (ne_eqb x.cell c (λ q. ne (sym q)))

  pub nothing_asked : (x : PlacedAsk) → (x.read ≡ k → ⊥) → (c : ℕ) → here c x ≡ None
  nothing_asked x other c = ap (λ (b : Bool). if b && eqb x.cell c then Some x.twice else None) (ne_eqb x.read k other)

-- ---- at the end

shared_none : (x : Option Bool) → shared x ≡ None → is_several x ≡ false
shared_none x = go (is_several x)
  where
    go : (b : Bool) → ◌≡◌ {A = Option Kind} (if b then Some ReadConflict else None) None → b ≡ false
    go true h = cc
    go false h = refl

shared_some : (x : Option Bool) (kind : Kind) → shared x ≡ Some kind → is_several x ≡ true
shared_some x kind = go (is_several x)
  where
    go : (b : Bool) → ◌≡◌ {A = Option Kind} (if b then Some ReadConflict else None) (Some kind) → b ≡ true
    go true h = refl
    go false h = cc

-- what was noted is the least cell that is shared
pub least_shared : (m : Shape) (j : ℕ) (columns : List (List ℕ)) (k : ℕ) (noted : Option (ℕ × Kind))
    → (noted ≡ None → (c : ℕ) → IsOf m j c → shared (askers_read m j columns k c) ≡ None)
    → ((c : ℕ) (kind : Kind) → noted ≡ Some (c, kind) → IsOf m j c × (shared (askers_read m j columns k c) ≡ Some kind)
    × ((d : ℕ) → IsOf m j d → d < c → shared (askers_read m j columns k d) ≡ None))
    → IsLeastShared m j columns k (noted_cell noted)
least_shared m j columns k None none least = record {
  none = λ e c p. shared_none (askers_read m j columns k c) (none refl c p);
  least = λ c e. cc;
}
least_shared m j columns k (Some q) none least = record {
  none = λ e. cc;
  least = λ c e.
      let l = least q.0 q.1 refl in
      let p : q.0 ≡ c = same_Some _ _ e in
      subst
      (λ (x : ℕ). IsOf m j x × (is_several (askers_read m j columns k x) ≡ true)
      × ((d : ℕ) → IsOf m j d → d < x → is_several (askers_read m j columns k d) ≡ false))
      p
      (l.0, shared_some (askers_read m j columns k q.0) q.1 l.1, λ d o b. shared_none (askers_read m j columns k d) (l.2 d o b));
}
