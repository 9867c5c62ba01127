-- Printing one part behind the other, and the elements of a list.
use Rattle.std.proofs.Common.{◌≡◌, ℕ, List, [], ◌∷◌, ◌++◌, Bool, true, false, refl, sym, ap, ◌∙◌, subst, append_assoc, suc, ◌+◌, ◌<◌, ◌≤◌}
use Rattle.std.proofs.Common.{length, drop, drop-cons, get_or, add-one}
use Rattle.std.proofs.lemmas.List.{append-nil, drop_all}
use Rattle.text_out.specs.Out.{OutState, StopsIn, with_bytes}
use Rattle.text_out.specs.Printing.{Printing, Prints, PrintsBy, printing}
use Rattle.text_out.proofs.Writing.{stops_before, stops_behind, with_bytes-nothing, writes_then}

then_by : (s t u : OutState) (a b c : Bool) (x y : List ℕ) → PrintsBy s a t b x → PrintsBy t b u c y → PrintsBy s a u c (x ++ y)
then_by s t u true true c x y p q = (q.0 ∙ p.0, q.1)
then_by s t u true false c x y p q = absurd (cc p.1)
then_by s t u false true true x y p q = subst (λ v. StopsIn s v (x ++ y)) (sym q.0) (stops_before y p)
then_by s t u false true false x y p q = absurd (cc q.1)
then_by s t u false false true x y p q = stops_behind s t u x y p q
then_by s t u false false false x y p q = writes_then s t u x y p q

-- one text behind the other
pub prints_then : {s t u : Printing} {x y : List ℕ} → Prints s t x → Prints t u y → Prints s u (x ++ y)
prints_then {s} {t} {u} {x} {y} p q = record { by = then_by s.out t.out u.out s.failed t.failed u.failed x y p.by q.by }

nothing_by : (s : OutState) (a : Bool) → PrintsBy s a s a []
nothing_by s true = (refl, refl)
nothing_by s false = with_bytes-nothing s

pub prints_nothing : (s : Printing) → Prints s s []
prints_nothing s = record { by = nothing_by s.out s.failed }

-- the text by another name
pub printed_as : {s u : Printing} {x y : List ℕ} → y ≡ x → Prints s u x → Prints s u y
printed_as {s} {u} is p = subst (Prints s u) (sym is) p

-- the elements before that place are printed
pub record PrintedTo {A : Type 0} (all : List A → List ℕ) (start now : Printing) (xs : List A) (i : ℕ) : Type 0 where
  pub front : List ℕ
  pub prints : Prints start now front
  pub whole : front ++ all (drop i xs) ≡ all xs

module _ {A : Type 0} (all : List A → List ℕ) where
  pub printed_none : (s : Printing) (xs : List A) → PrintedTo all s s xs 0
  printed_none s xs = record { front = []; prints = prints_nothing s; whole = refl }

  -- one turn of a loop over them
  pub printed_more : (text : A → List ℕ) → ((y : A) (ys : List A) → all (y ∷ ys) ≡ text y ++ all ys) → (start now next : Printing)
      (xs : List A) (i : ℕ) (x : A) → PrintedTo all start now xs i →
      i < length xs → x ≡ get_or xs i x → Prints now next (text x) → PrintedTo all start next xs (i + 1)
  printed_more text more start now next xs i x before within is prints =
      let rest = drop (suc i) xs in
      let next : drop (i + 1) xs ≡ rest = ap (λ n. drop n xs) (add-one i) in
      let cons : drop i xs ≡ x ∷ rest = drop-cons xs i x within ∙ ap (λ z. z ∷ rest) (sym is) in
      record {
        front = before.front ++ text x;
        prints = prints_then before.prints prints;
        whole = append_assoc before.front (text x) (all (drop (i + 1) xs)) ∙ ap (λ l. before.front ++ (text x ++ all l)) next
            ∙ ap (λ l. before.front ++ l) (sym (more x rest) ∙ ap all (sym cons)) ∙ before.whole;
      }

  pub printed_all : (start now : Printing) (xs : List A) (i : ℕ) → all [] ≡ [] → length xs ≤ i → PrintedTo all start now xs i →
      Prints start now (all xs)
  printed_all start now xs i none past before =
      printed_as (sym before.whole ∙ ap (λ l. before.front ++ all l) (drop_all i xs past) ∙ ap (λ l. before.front ++ l) none
      ∙ append-nil before.front) before.prints

-- what is known at the end of a printing that began with a writer that had not failed

pub stopped : {s t : OutState} {f : Bool} {x : List ℕ} → Prints (printing s false) (printing t f) x → f ≡ true → StopsIn s t x
stopped {s} {t} {f} {x} p is = subst (λ b. PrintsBy s false t b x) is p.by

pub finished : {s t : OutState} {f : Bool} {x : List ℕ} → Prints (printing s false) (printing t f) x → f ≡ false → t ≡ with_bytes s x
finished {s} {t} {f} {x} p is = subst (λ b. PrintsBy s false t b x) is p.by
