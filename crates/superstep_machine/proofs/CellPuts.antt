-- The puts of a worker for a module come, at a cell of the module, to what its writers of the cell come to.
use Rattle.std.proofs.Common.{◌≡◌, ℕ, List, [], ◌∷◌, map, Bool, true, false, not, cond, Option, Some, None, eqb, refl, sym, ap, ◌∙◌}
use Rattle.std.specs.Prelude.{if◌then◌else◌, ◌||◌}
use Rattle.std.specs.List.{filter, filter_map, cons_option, list_any}
use Rattle.pram_model.specs.declared.rule.Rule.{Rule}
use Rattle.pram_values.specs.Total.{IsMonoid, total}
use Rattle.pram_values.proofs.Totals.{neutral_right, total_map, total_same}
use Rattle.write_rules.specs.declared.entry.Entry.{Entry}
use Rattle.superstep_machine.specs.Setting.{combining}
use Rattle.superstep_machine.specs.Words.{CellPut, Message}
use Rattle.superstep_machine.specs.Worker.{HeldWrite, Worker}
use Rattle.superstep_machine.specs.Sending.{firsts, join, entry_to, entry_held, put_of, puts_held, entry_in, sent}
use Rattle.superstep_machine.specs.WrittenCells.{EntriesThatCame}
use Rattle.superstep_machine.proofs.Collected.{entries_are_monoid}
use Rattle.superstep_machine.proofs.Numbers.{same_number, with_itself, turned}
use Rattle.superstep_machine.proofs.Written.{entries_of_all}

-- whether a number is in a list
abbrev pub has : ℕ → List ℕ → Bool
has c xs = list_any (λ d. eqb d c) xs

-- a test that c passes keeps it
has_filtered : (test : ℕ → Bool) (c : ℕ) → test c ≡ true → (ds : List ℕ) → has c (filter test ds) ≡ has c ds
has_filtered test c h [] = refl
has_filtered test c h (d ∷ ds) = go (has_filtered test c h ds) (test d) refl (eqb d c) refl
  where
    go : has c (filter test ds) ≡ has c ds → (b : Bool) → test d ≡ b → (a : Bool) → eqb d c ≡ a →
        has c (cond b (d ∷ filter test ds) (filter test ds)) ≡ (eqb d c || has c ds)
    go rest true e a is = ap (λ z. eqb d c || z) rest
    go rest false e true is = let no : true ≡ false = sym h ∙ ap test (sym (same_number d c is)) ∙ e in absurd (cc)
    go rest false e false is = rest ∙ ap (λ z. z || has c ds) (sym is)

pub has_firsts : (c : ℕ) (xs : List ℕ) → has c (firsts xs) ≡ has c xs
has_firsts c [] = refl
has_firsts c (x ∷ xs) = go (has_firsts c xs) (eqb x c) refl
  where
    go : has c (firsts xs) ≡ has c xs → (b : Bool) → eqb x c ≡ b → (b || has c (filter (λ y. not (eqb x y)) (firsts xs))) ≡ (b || has c xs)
    go rest true e = refl
    go rest false e = has_filtered (λ y. not (eqb x y)) c (ap not e) (firsts xs) ∙ rest

module _ {A : Type 0} (op : Option A → Option A → Option A) (m : IsMonoid (Option A) None op) (f : ℕ → Option A) (c : ℕ) where
  -- what stands at c among these
  abbrev pub at_c : ℕ → Option A
  at_c d = cond (eqb d c) (f d) None

  sum_filtered : (test : ℕ → Bool) → test c ≡ true → (ds : List ℕ) → total None op at_c (filter test ds) ≡ total None op at_c ds
  sum_filtered test h [] = refl
  sum_filtered test h (d ∷ ds) = go (sum_filtered test h ds) (test d) refl (eqb d c) refl
    where
      go : total None op at_c (filter test ds) ≡ total None op at_c ds → (b : Bool) → test d ≡ b → (a : Bool) → eqb d c ≡ a →
          total None op at_c (cond b (d ∷ filter test ds) (filter test ds)) ≡ op (cond (eqb d c) (f d) None) (total None op at_c ds)
      go rest true e a is = ap (op (at_c d)) rest
      go rest false e true is = let no : true ≡ false = sym h ∙ ap test (sym (same_number d c is)) ∙ e in absurd (cc)
      go rest false e false is =
          rest ∙ sym (m.neutral (total None op at_c ds)) ∙ ap (λ b. op (cond b (f d) None) (total None op at_c ds)) (sym is)

  sum_without : (ds : List ℕ) → total None op at_c (filter (λ y. not (eqb c y)) ds) ≡ None
  sum_without [] = refl
  sum_without (d ∷ ds) = go (sum_without ds) (eqb c d) refl
    where
      go : total None op at_c (filter (λ y. not (eqb c y)) ds) ≡ None → (b : Bool) → eqb c d ≡ b →
          total None op at_c (cond (not b) (d ∷ filter (λ y. not (eqb c y)) ds) (filter (λ y. not (eqb c y)) ds)) ≡ None
      go rest true e = rest
      go rest false e =
          ap (λ b. op (cond b (f d) None) (total None op at_c (filter (λ y. not (eqb c y)) ds))) (turned d c ∙ e) ∙ m.neutral _ ∙ rest

  -- of a list in which each stands once
  pub sum_firsts : (xs : List ℕ) → total None op at_c (firsts xs) ≡ cond (has c xs) (f c) None
  sum_firsts [] = refl
  sum_firsts (x ∷ xs) = go (sum_firsts xs) (eqb x c) refl
    where
      go : total None op at_c (firsts xs) ≡ cond (has c xs) (f c) None → (b : Bool) → eqb x c ≡ b →
          op (cond b (f x) None) (total None op at_c (filter (λ y. not (eqb x y)) (firsts xs))) ≡ cond (b || has c xs) (f c) None
      go rest true e =
          ap (λ (y : ℕ). op (f y) (total None op at_c (filter (λ z. not (eqb y z)) (firsts xs)))) (same_number x c e)
          ∙ ap (op (f c)) (sum_without (firsts xs))
          ∙ neutral_right None op m (f c)
      go rest false e = m.neutral _ ∙ sum_filtered (λ y. not (eqb x y)) (ap not e) (firsts xs) ∙ rest

-- ---- what is put

pub same_either : {A : Type 0} (b : Bool) (x : A) → x ≡ cond b x x
same_either true x = refl
same_either false x = refl

-- the puts of such entries whose cells pass a test
abbrev puts_passing : (ℕ → Bool) → (ℕ → Option Entry) → List ℕ → List CellPut
puts_passing test f ds = filter (λ (x : CellPut). test x.cell) (filter_map (λ d. put_of d (f d)) ds)

-- where c passes, they come to what stands at c
puts_sum : (rule : Rule) (f : ℕ → Option Entry) (c : ℕ) (test : ℕ → Bool) → test c ≡ true → (ds : List ℕ) →
    total None (join rule) (entry_in c) (puts_passing test f ds) ≡ total None (join rule) (λ d. cond (eqb d c) (f d) None) ds
puts_sum rule f c test h [] = refl
puts_sum rule f c test h (d ∷ ds) = go (puts_sum rule f c test h ds) (f d)
  where
    passed : (e : Entry) (b : Bool) → test d ≡ b → (a : Bool) → eqb d c ≡ a →
        total None (join rule) (entry_in c) (cond b (record { cell = d; entry = e } ∷ puts_passing test f ds) (puts_passing test f ds))
        ≡ join rule (cond (eqb d c) (Some e) None) (total None (join rule) (entry_in c) (puts_passing test f ds))
    passed e true is a at = refl
    passed e false is true at = let no : true ≡ false = sym h ∙ ap test (sym (same_number d c at)) ∙ is in absurd (cc)
    passed e false is false at =
        ap (λ b. join rule (cond b (Some e) None) (total None (join rule) (entry_in c) (puts_passing test f ds))) (sym at)

    go : total None (join rule) (entry_in c) (puts_passing test f ds) ≡ total None (join rule) (λ y. cond (eqb y c) (f y) None) ds →
        (o : Option Entry) →
        total None (join rule) (entry_in c)
        (filter (λ (x : CellPut). test x.cell) (cons_option (put_of d o) (filter_map (λ y. put_of y (f y)) ds)))
        ≡ join rule (cond (eqb d c) o None) (total None (join rule) (λ y. cond (eqb y c) (f y) None) ds)
    go same None = same ∙ ap (λ e. join rule e (total None (join rule) (λ y. cond (eqb y c) (f y) None) ds)) (same_either (eqb d c) None)
    go same (Some e) = passed e (test d) refl (eqb d c) refl ∙ ap (join rule (cond (eqb d c) (Some e) None)) same

-- nothing is held for a cell that isn't listed
none_held : (rule : Rule) (c : ℕ) (held : List HeldWrite) → has c (map (λ (x : HeldWrite). x.cell) held) ≡ false →
    total None (join rule) (entry_to rule c) held ≡ None
none_held rule c [] h = refl
none_held rule c (x ∷ held) h = go (none_held rule c held) (eqb x.cell c) h
  where
    go : (has c (map (λ (y : HeldWrite). y.cell) held) ≡ false → total None (join rule) (entry_to rule c) held ≡ None) → (b : Bool) →
        (b || has c (map (λ (y : HeldWrite). y.cell) held)) ≡ false →
        join rule (if b then Some ((combining rule).single x.processor x.value) else None) (total None (join rule) (entry_to rule c) held)
        ≡ None
    go rest true h = absurd (cc)
    go rest false h = rest h

-- one message, at a cell of its module
pub puts_message : (rule : Rule) (s : Worker) (c : ℕ) (test : ℕ → Bool) → test c ≡ true →
    total None (join rule) (entry_in c) (filter (λ (x : CellPut). test x.cell) (puts_held rule s)) ≡ entry_held rule s c
puts_message rule s c test h =
    let cells = map (λ (x : HeldWrite). x.cell) s.held in
    puts_sum rule (entry_held rule s) c test h (firsts cells)
    ∙ sum_firsts (join rule) (entries_are_monoid rule) (entry_held rule s) c cells
    ∙ go (has c cells) refl
  where
    go : (b : Bool) → has c (map (λ (x : HeldWrite). x.cell) s.held) ≡ b → cond b (entry_held rule s c) None ≡ entry_held rule s c
    go true e = refl
    go false e = sym (none_held rule c s.held e)

-- those of all workers
pub entries_that_came : EntriesThatCame
entries_that_came t j c ss here =
    let rule = t.code.rule in
    total_map None (join rule) (λ (m : Message). total None (join rule) (entry_in c) m.puts) (λ (s : Worker). sent t s j) ss
    ∙ total_same None (join rule) (λ (s : Worker). total None (join rule) (entry_in c) (sent t s j).puts)
    (λ (s : Worker). entry_held rule s c)
    (λ s. puts_message rule s c (λ d. eqb (t.map.part d) j) (ap (λ k. eqb k j) here ∙ with_itself j)) ss
    ∙ entries_of_all rule c ss
