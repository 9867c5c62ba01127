-- One more write to a cell.
use Rattle.std.proofs.Common.{◌≡◌, ◌≢◌, ◌⊎◌, inl, inr, ℕ, zero, suc, ◌<◌, ◌≤◌, List, [], ◌∷◌, ◌++◌, map, length, get_or, set, nat_eq, true}
use Rattle.std.proofs.Common.{false, if◌then◌else◌, append-nil, refl, ap, sym, ◌∙◌, subst, arith}
use Rattle.std.proofs.lemmas.List.{length-set, get_or-set_same, get_or-set_other}
use Rattle.std.proofs.lemmas.Bool.{cases_lt}
use Rattle.std.proofs.lemmas.Bool.Decides.{eqb_tells}
use Rattle.pram_meaning.specs.Slates.{Group, group_is, kept, kept_in, no_writes, writes_in, IsMarked, IsMore, IsPlace}
use Rattle.pram_meaning.specs.declared.slate as rust
use Rattle.write_rules.specs.declared.write.Write.{Write}
use Rattle.write_rules.proofs.Writes.{same_item}

pub same_number : (d : ℕ) → nat_eq d d ≡ true
same_number d = grind arith

pub other_number : (c d : ℕ) → c ≢ d → nat_eq c d ≡ false
other_number c d h = grind arith

-- a write to the cell c, among those to the cell d
abbrev more : ℕ → ℕ → Write → List Write
more d c w = if nat_eq d c then w ∷ [] else []

no_more : (c d : ℕ) (w : Write) → d ≢ c → more d c w ≡ []
no_more c d w h = ap (λ b. if b then w ∷ [] else []) (other_number d c h)

one_more : (c : ℕ) (w : Write) → more c c w ≡ w ∷ []
one_more c w = ap (λ b. if b then w ∷ [] else []) (same_number c)

-- a group of another cell has none
not_there : (d : ℕ) (g : Group) → d ≢ g.cell → writes_in d g ≡ []
not_there d g h = ap (λ b. if b then g.writes else []) (other_number d g.cell h)

there : (g : Group) → writes_in g.cell g ≡ g.writes
there g = ap (λ b. if b then g.writes else []) (same_number g.cell)

-- ---- a group of its own

at_end : (groups : List Group) (g d : Group) → get_or (groups ++ g ∷ []) (length groups) d ≡ g
at_end [] g d = refl
at_end (h ∷ groups) g d = at_end groups g d

pub past : {X : Type 0} (xs : List X) (i : ℕ) (d : X) → length xs ≤ i → get_or xs i d ≡ d
past [] i d h = refl
past (x ∷ xs) zero d h = absurd (omega arith)
past (x ∷ xs) (suc i) d h = past xs i d (omega arith)

elsewhere : (groups : List Group) (g : Group) (p d : ℕ) → d ≢ g.cell →
    writes_in d (get_or (groups ++ g ∷ []) p (no_writes d)) ≡ writes_in d (get_or groups p (no_writes d))
elsewhere [] g zero d h = not_there d g h ∙ sym (there (no_writes d))
elsewhere [] g (suc p) d h = refl
elsewhere (k ∷ groups) g zero d h = refl
elsewhere (k ∷ groups) g (suc p) d h = elsewhere groups g p d h

length-more : {X : Type 0} (xs : List X) (x : X) → length (xs ++ x ∷ []) ≡ suc (length xs)
length-more [] x = refl
length-more (y ∷ xs) x = ap suc (length-more xs x)

module _ (c : ℕ) (w : Write) (old new : List ℕ) (groups : List Group) (is : IsMarked c (length groups) old new) where
  abbrev own : Group
  own = record { cell = c; writes = w ∷ [] }

  abbrev longer : List Group
  longer = groups ++ own ∷ []

  opened_here : kept_in new longer c ≡ w ∷ []
  opened_here =
      ap (λ p. writes_in c (get_or longer p (no_writes c))) (same_item new c (length longer) (length groups) is.inside ∙ is.here)
      ∙ ap (writes_in c) (at_end groups own (no_writes c))
      ∙ there own

  opened_by : (d : ℕ) → d ≢ c → (d < length new) ⊎ (length new ≤ d) → kept_in new longer d ≡ kept_in old groups d
  opened_by d h (inl l) =
      ap (λ p. writes_in d (get_or longer p (no_writes d))) (same_item new d (length longer) (length groups) l ∙ is.others d h)
      ∙ elsewhere groups own (get_or old d (length groups)) d h
  opened_by d h (inr l) =
      ap (λ p. writes_in d (get_or longer p (no_writes d))) (past new d (length longer) l)
      ∙ ap (writes_in d) (past longer (length longer) (no_writes d) (omega arith))
      ∙ sym (ap (λ p. writes_in d (get_or groups p (no_writes d))) (sym (is.others d h) ∙ past new d (length groups) l)
      ∙ ap (writes_in d) (past groups (length groups) (no_writes d) (omega arith)))

  opened : kept_in old groups c ≡ [] → (d : ℕ) → kept_in new longer d ≡ kept_in old groups d ++ more d c w
  opened none d = elim (eqb_tells d c) [
    | inl e ↦ subst (λ d. kept_in new longer d ≡ kept_in old groups d ++ more d c w) (sym e.1) (opened_here
        ∙ sym (ap (λ ws. ws ++ more c c w) none ∙ one_more c w))
    | inr e ↦ opened_by d e.1 (cases_lt d (length new))
        ∙ sym (append-nil (kept_in old groups d)) ∙ ap (λ ws. kept_in old groups d ++ ws) (sym (no_more c d w e.1))
  ]

map_push : (groups : List rust.Group.Group) (g : rust.Group.Group) → map group_is (groups ++ g ∷ []) ≡ map group_is groups ++ group_is g
    ∷ []
map_push [] g = refl
map_push (h ∷ groups) g = ap (λ r. group_is h ∷ r) (map_push groups g)

pub map_length : (groups : List rust.Group.Group) → length (map group_is groups) ≡ length groups
map_length [] = refl
map_length (g ∷ groups) = ap suc (map_length groups)

pub group_opens : (c : ℕ) (w : Write) (s t : rust.Slate.Slate) (g : rust.Group.Group) → kept s c ≡ [] →
    IsMarked c (length s.groups.items) s.places.items t.places.items → g.cell ≡ c → g.writes.items ≡ w ∷ [] →
    t.groups.items ≡ s.groups.items ++ g ∷ [] → IsMore c w s t
group_opens c w s t g none is named has grown =
    let long : length (map group_is s.groups.items) ≡ length s.groups.items = map_length s.groups.items in
    let all : map group_is t.groups.items ≡ map group_is s.groups.items ++ record { cell = c; writes = w ∷ [] } ∷ [] =
    ap (map group_is) grown ∙ map_push s.groups.items g ∙ (λ j. map group_is s.groups.items ++ record { cell = named j; writes = has j }
    ∷ []) in
    let marked : IsMarked c (length (map group_is s.groups.items)) s.places.items t.places.items =
    subst (λ n. IsMarked c n s.places.items t.places.items) (sym long) is in
    record {
      more = λ d. ap (λ gs. kept_in t.places.items gs d) all
          ∙ opened c w s.places.items t.places.items (map group_is s.groups.items) marked none d;
    }

-- ---- a group that is there

module _ (c : ℕ) (w : Write) (places : List ℕ) (groups : List Group) (place : ℕ) (named : get_or places c (length groups) ≡ place)
    (inside : place < length groups) (own : (get_or groups place (no_writes c)).cell ≡ c) where
  abbrev more_here : List Group
  more_here = set groups place (record { cell = c; writes = (get_or groups place (no_writes c)).writes ++ w ∷ [] })

  same_places : (d : ℕ) → get_or places d (length more_here) ≡ get_or places d (length groups)
  same_places d = ap (get_or places d) (length-set groups place (record {
    cell = c;
    writes = (get_or groups place (no_writes c)).writes ++ w
        ∷ [];
  }))

  other_cell : (d : ℕ) → d ≢ c → (g : Group) → g.cell ≡ c → writes_in d g ≡ []
  other_cell d h g e = not_there d g (λ k. h (k ∙ e))

  extended_here : kept_in places more_here c ≡ kept_in places groups c ++ w ∷ []
  extended_here =
      let g : Group = get_or groups place (no_writes c) in
      let before : kept_in places groups c ≡ g.writes = ap (λ p. writes_in c (get_or groups p (no_writes c))) named
      ∙ ap (λ n. if nat_eq c n then g.writes else []) own ∙ ap (λ b. if b then g.writes else []) (same_number c) in
      ap (λ p. writes_in c (get_or more_here p (no_writes c))) (same_places c ∙ named)
      ∙ ap (writes_in c) (get_or-set_same groups place (record { cell = c; writes = g.writes ++ w ∷ [] }) (no_writes c) inside)
      ∙ there (record { cell = c; writes = g.writes ++ w ∷ [] })
      ∙ ap (λ ws. ws ++ w ∷ []) (sym before)

  extended_by : (d : ℕ) → d ≢ c → ((p : ℕ) × (get_or places d (length groups) ≡ p) × ((p ≡ place) ⊎ (p ≢ place))) →
      kept_in places more_here d ≡ kept_in places groups d
  extended_by d h (p, at, inl e) =
      ap (λ p. writes_in d (get_or more_here p (no_writes d))) (same_places d ∙ at ∙ e)
      ∙ ap (writes_in d) (get_or-set_same groups place (record { cell = c; writes = (get_or groups place (no_writes c)).writes ++ w ∷ [] })
      (no_writes d) inside)
      ∙ other_cell d h (record { cell = c; writes = (get_or groups place (no_writes c)).writes ++ w ∷ [] }) refl
      ∙ sym (ap (λ p. writes_in d (get_or groups p (no_writes d))) (at ∙ e)
      ∙ ap (writes_in d) (same_item groups place (no_writes d) (no_writes c) inside)
      ∙ other_cell d h (get_or groups place (no_writes c)) own)
  extended_by d h (p, at, inr e) =
      ap (λ p. writes_in d (get_or more_here p (no_writes d))) (same_places d ∙ at)
      ∙ ap (writes_in d) (get_or-set_other groups place p (record {
        cell = c;
        writes = (get_or groups place (no_writes c)).writes ++ w
            ∷ [];
      }) (no_writes d) e)
      ∙ sym (ap (λ p. writes_in d (get_or groups p (no_writes d))) at)

  extended : (d : ℕ) → kept_in places more_here d ≡ kept_in places groups d ++ more d c w
  extended d = elim (eqb_tells d c) [
    | inl e ↦ subst (λ d. kept_in places more_here d ≡ kept_in places groups d ++ more d c w) (sym e.1) (extended_here
        ∙ sym (ap (λ ws. kept_in places groups c ++ ws) (one_more c w)))
    | inr e ↦ extended_by d e.1 (
      get_or places d (length groups),
      refl,
      elim (eqb_tells (get_or places d (length groups)) place) [ inl f ↦ inl f.1 | inr f ↦ inr f.1 ],
    )
        ∙ sym (append-nil (kept_in places groups d)) ∙ ap (λ ws. kept_in places groups d ++ ws) (sym (no_more c d w e.1))
  ]

map_set : (groups : List rust.Group.Group) (p : ℕ) (g : rust.Group.Group) →
    map group_is (set groups p g) ≡ set (map group_is groups) p (group_is g)
map_set [] p g = refl
map_set (h ∷ groups) zero g = refl
map_set (h ∷ groups) (suc p) g = ap (λ r. group_is h ∷ r) (map_set groups p g)

map_at : (groups : List rust.Group.Group) (p : ℕ) (g : rust.Group.Group) (d : Group) → p < length groups → g ≡ get_or groups p g →
    get_or (map group_is groups) p d ≡ group_is g
map_at [] p g d h e = absurd (omega arith)
map_at (x ∷ groups) zero g d h e = ap group_is (sym e)
map_at (x ∷ groups) (suc p) g d h e = map_at groups p g d (omega arith) e

pub group_grows : (c place : ℕ) (w : Write) (s t : rust.Slate.Slate) (g h : rust.Group.Group) → IsPlace s c place →
    place < length s.groups.items → g ≡ get_or s.groups.items place g → h.cell ≡ g.cell → h.writes.items ≡ g.writes.items ++ w ∷ [] →
    t.groups.items ≡ set s.groups.items place h → t.places.items ≡ s.places.items → IsMore c w s t
group_grows c place w s t g h is lt at same grown new old =
    let gs : List Group = map group_is s.groups.items in
    let long : length gs ≡ length s.groups.items = map_length s.groups.items in
    let first : get_or gs place (no_writes c) ≡ group_is g = map_at s.groups.items place g (no_writes c) lt at in
    let own : g.cell ≡ c = sym (ap (λ (k : Group). k.cell) first) ∙ is.own in
    let all : map group_is t.groups.items ≡ set gs place (record { cell = c; writes = (get_or gs place (no_writes c)).writes ++ w ∷ [] }) =
    ap (map group_is) new ∙ map_set s.groups.items place h
    ∙ (λ j. set gs place (record { cell = (same ∙ own) j; writes = (grown ∙ ap (λ (k : Group). k.writes ++ w ∷ []) (sym first)) j })) in
    record {
      more = λ d. ap (λ ps. kept_in ps (map group_is t.groups.items) d) old ∙ ap (λ gs. kept_in s.places.items gs d) all
          ∙ extended c w s.places.items gs place (ap (get_or s.places.items c) long ∙ is.named) (omega (arith, long, lt)) is.own d;
    }
