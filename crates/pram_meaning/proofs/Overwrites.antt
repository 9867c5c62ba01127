-- Cells that are overwritten write by write.
use Rattle.std.proofs.Common.{zero, suc, ◌≡◌, ◌≢◌, ◌⊎◌, inl, inr, ℕ, ◌+◌, ◌<◌, ◌≤◌, ℤ, pos, List, [], ◌∷◌, ◌++◌, drop, take, length, get_or}
use Rattle.std.proofs.Common.{set, Ok, Err, if◌then◌else◌, refl, ap, sym, ◌∙◌, subst, arith}
use Rattle.std.proofs.lemmas.List.{drop_more, drop_all, take-append-drop, length-map, length-set, get_or-map, get_or-set_same}
use Rattle.std.proofs.lemmas.List.{get_or-set_other, ext_get_or}
use Rattle.std.proofs.lemmas.Grind.{flat_map-append}
use Rattle.std.proofs.lemmas.Bool.Decides.{eqb_tells}
use Rattle.pram_meaning.specs.declared.access.Access.{Access}
use Rattle.pram_meaning.specs.declared.access.Judged.{Judged}
use Rattle.pram_meaning.specs.Accesses.{judged, judged_in, write_for, writes_for, writes_made}
use Rattle.pram_meaning.specs.Conflict.{Part, writes_to}
use Rattle.pram_meaning.specs.Judging.{with_value}
use Rattle.pram_meaning.specs.Together.{overwritten, settled}
use Rattle.pram_meaning.proofs.Groups.{other_number, same_number}
use Rattle.pram_meaning.proofs.Written.{same_writes}
use Rattle.pram_model.specs.declared.rule.Rule.{Rule}
use Rattle.pram_values.specs.Value.{Value}
use Rattle.write_rules.specs.Rule.{written}
use Rattle.write_rules.specs.declared.write.Write.{Write}

-- what the cell c comes to
abbrev final : Rule → List Access → List ℤ → ℕ → ℤ
final rule all start c = settled (get_or start c (pos 0)) (written rule (get_or start c (pos 0)) (writes_for c all))

-- each cell is as at the start or has come to what it comes to, and so has each to which no write of the rest goes
pub record InOver (rule : Rule) (all rest : List Access) (start now : List ℤ) : Type 0 where
  pub long : length now ≡ length start
  pub each : (c : ℕ) → c < length start → (get_or now c (pos 0) ≡ get_or start c (pos 0)) ⊎ (get_or now c (pos 0) ≡ final rule all start c)
  pub done : (c : ℕ) → c < length start → writes_for c rest ≡ [] → get_or now c (pos 0) ≡ final rule all start c

-- with a writer, the old value doesn't matter
written_any : (rule : Rule) (o p : ℤ) (a : List Write) (w : Write) (b : List Write) →
    written rule o (a ++ w ∷ b) ≡ written rule p (a ++ w ∷ b)
written_any rule o p [] w b = refl
written_any rule o p (v ∷ a) w b = refl

module _ (rule : Rule) (all front tail : List Access) (a : Access) (split : all ≡ front ++ a ∷ tail) (start now : List ℤ)
    (b : InOver rule all (a ∷ tail) start now) where
  wrote : (o : ℤ) → written rule (pos 0) (writes_for a.cell all) ≡ written rule o (writes_for a.cell all)
  wrote o =
      let e : writes_for a.cell all ≡ writes_for a.cell front ++ a.write ∷ writes_for a.cell tail =
      ap (writes_for a.cell) split ∙ flat_map-append (write_for a.cell) front (a ∷ tail)
      ∙ ap (λ c. writes_for a.cell front ++ ((if c then a.write ∷ [] else []) ++ writes_for a.cell tail)) (same_number a.cell) in
      ap (written rule (pos 0)) e ∙ written_any rule (pos 0) o (writes_for a.cell front) a.write (writes_for a.cell tail)
      ∙ sym (ap (written rule o) e)

  -- a cell that this write doesn't go to
  behind : (c : ℕ) → c ≢ a.cell → writes_for c tail ≡ [] → writes_for c (a ∷ tail) ≡ []
  behind c h e = ap (λ b. (if b then a.write ∷ [] else []) ++ writes_for c tail) (other_number c a.cell h) ∙ e

  set_value : (r : Value) → ((o : ℤ) → r ≡ written rule o (writes_for a.cell all)) → InOver rule all tail start (with_value a.cell r now)
  set_value (Ok z) is =
      let here : (c : ℕ) → c < length start → c ≡ a.cell → get_or (set now a.cell z) c (pos 0) ≡ final rule all start c = λ c l e.
      subst (λ c. get_or (set now a.cell z) c (pos 0) ≡ final rule all start c) (sym e)
      (get_or-set_same now a.cell z (pos 0) (let k = b.long in omega (arith, e))
      ∙ ap (settled (get_or start a.cell (pos 0))) (is (get_or start a.cell (pos 0)))) in
      record {
        long = length-set now a.cell z ∙ b.long;
        each = λ c l. elim (eqb_tells c a.cell) [
          | inl e ↦ inr (here c l e.1)
          | inr e ↦ elim (b.each c l) [
            | inl f ↦ inl (get_or-set_other now a.cell c z (pos 0) e.1
                ∙ f)
            | inr f ↦ inr (get_or-set_other now a.cell c z (pos 0) e.1 ∙ f)
          ]
        ];
        done = λ c l h. elim (eqb_tells c a.cell) [
          | inl e ↦ here c l e.1
          | inr e ↦ get_or-set_other now a.cell c z (pos 0) e.1 ∙ b.done c l (behind c e.1 h)
        ];
      }
  set_value (Err k) is =
      let old : (c : ℕ) → c ≡ a.cell → get_or start c (pos 0) ≡ final rule all start c = λ c e.
      subst (λ c. get_or start c (pos 0) ≡ final rule all start c) (sym e)
      (ap (settled (get_or start a.cell (pos 0))) (is (get_or start a.cell (pos 0)))) in
      record {
        long = b.long;
        each = b.each;
        done = λ c l h. elim (eqb_tells c a.cell) [
          | inl e ↦ elim (b.each c l) [ inl f ↦ f ∙ old c e.1 | inr f ↦ f ]
          | inr e ↦ b.done c l (behind c e.1 h)
        ];
      }

  pub step : InOver rule all tail start (with_value a.cell (written rule (pos 0) (writes_for a.cell all)) now)
  step = set_value (written rule (pos 0) (writes_for a.cell all)) wrote

-- ---- the loop

pub over_starts : (rule : Rule) (all : List Access) (start : List ℤ) → InOver rule all (drop 0 all) start start
over_starts rule all start = record {
  long = refl;
  each = λ c l. inl refl;
  done = λ c l e. let o : ℤ = get_or start c (pos 0) in sym (ap (λ ws. settled o (written rule o ws)) e);
}

pub over_goes : (rule : Rule) (all : List Access) (items : List Judged) (i : ℕ) (d : Judged) (start now new : List ℤ) →
    InOver rule all (drop i all) start now → items ≡ judged rule all → i < length items →
    new ≡ with_value (get_or items i d).access.cell (get_or items i d).verdict now → InOver rule all (drop (i + 1) all) start new
over_goes rule all items i d start now new b said h e =
    let a : Access = get_or all i d.access in
    let inside : i < length all = (let k = length-map all (judged_in rule all) in let l = ap length said in omega (arith, k, l)) in
    let one : get_or items i d ≡ judged_in rule all a = ap (λ js. get_or js i d) said
    ∙ get_or-map (judged_in rule all) all i d.access d inside in
    let left : drop i all ≡ a ∷ drop (i + 1) all = drop_more all i d.access inside in
    let split : all ≡ take i all ++ a ∷ drop (i + 1) all = sym (take-append-drop i all) ∙ ap (λ r. take i all ++ r) left in
    subst (InOver rule all (drop (i + 1) all) start) (sym (e ∙ ap (λ (j : Judged). with_value j.access.cell j.verdict now) one))
    (step rule all (take i all) (drop (i + 1) all) a split start now (subst (λ r. InOver rule all r start now) left b))

pub length_over : (rule : Rule) (xs : List Part) (k : ℕ) (cells : List ℤ) → length (overwritten rule xs k cells) ≡ length cells
length_over rule xs k [] = refl
length_over rule xs k (o ∷ cells) = ap suc (length_over rule xs (k + 1) cells)

pub at_over : (rule : Rule) (xs : List Part) (k : ℕ) (cells : List ℤ) (c : ℕ) → c < length cells →
    get_or (overwritten rule xs k cells) c (pos 0) ≡ settled (get_or cells c (pos 0))
    (written rule (get_or cells c (pos 0)) (writes_to (k + c) xs))
at_over rule xs k [] c h = absurd (omega arith)
at_over rule xs k (o ∷ cells) zero h = ap (λ n. settled o (written rule o (writes_to n xs))) (let e : k ≡ k + 0 = omega arith in e)
at_over rule xs k (o ∷ cells) (suc c) h =
    let p : ℤ = get_or cells c (pos 0) in
    at_over rule xs (k + 1) cells c (omega arith) ∙ ap (λ n. settled p (written rule p (writes_to n xs))) (let e : k + 1 + c ≡ k + suc c =
    omega arith in e)

pub over_done : (rule : Rule) (xs : List Part) (start now : List ℤ) → InOver rule (writes_made xs) [] start now →
    now ≡ overwritten rule xs 0 start
over_done rule xs start now b =
    ext_get_or (pos 0) now (overwritten rule xs 0 start) (b.long ∙ sym (length_over rule xs 0 start))
    (λ c l. let m : c < length start = (let k = b.long in omega arith) in
    let p : ℤ = get_or start c (pos 0) in
    b.done c m refl
    ∙ ap (λ ws. settled p (written rule p ws)) (same_writes c xs)
    ∙ sym (at_over rule xs 0 start c m ∙ ap (λ n. settled p (written rule p (writes_to n xs))) (let e : 0 + c ≡ c = omega arith in e)))

pub over_ends : (rule : Rule) (xs : List Part) (items : List Judged) (i : ℕ) (start now : List ℤ) → InOver rule (writes_made xs)
    (drop i (writes_made xs)) start now → items ≡ judged rule (writes_made xs) → length items ≤ i → now ≡ overwritten rule xs 0 start
over_ends rule xs items i start now b said h =
    let all : List Access = writes_made xs in
    let past : length all ≤ i = (let k = length-map all (judged_in rule all) in let l = ap length said in omega (arith, k, l)) in
    over_done rule xs start now (subst (λ r. InOver rule all r start now) (drop_all i all past) b)
