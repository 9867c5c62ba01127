-- Writes that leave their own values, one by one.
use Rattle.std.proofs.Common.{◌≡◌, ℕ, ℤ, pos, ◌+◌, ◌<◌, ◌≤◌, List, ◌∷◌, ◌++◌, map, take, drop, length, get_or, false, Option, Some, None}
use Rattle.std.proofs.Common.{Ok, ap, sym, ◌∙◌, subst}
use Rattle.std.proofs.lemmas.List.{drop_more, drop_all, map-append, take-append-drop}
use Rattle.std.proofs.lemmas.Grind.{flat_map-append}
use Rattle.pram_values.specs.Value.{Value}
use Rattle.pram_model.specs.declared.rule.Rule.{Rule}
use Rattle.write_rules.specs.Rule.{is_sum, written}
use Rattle.write_rules.specs.declared.write.Write.{Write}
use Rattle.pram_meaning.specs.declared.access.Access.{Access}
use Rattle.pram_meaning.specs.declared.part as part
use Rattle.pram_meaning.specs.Accesses.{access_to, made_by, writes_for, writes_made}
use Rattle.pram_meaning.specs.Ascents.{AscendFrom, cell_written, with_write}
use Rattle.pram_meaning.specs.Conflict.{Part, trail_of}
use Rattle.pram_meaning.specs.Judging.{part_is, with_value}
use Rattle.pram_meaning.specs.Together.{overwritten, value_in}
use Rattle.pram_meaning.proofs.Ascents.{alone_in, made_is, one_written}
use Rattle.pram_meaning.proofs.Overwrites.{InOver, over_done, over_starts, step}

put_one : (rule : Rule) (all front tail : List Access) (p : ℕ) (o : Option ℕ) (w : Write) (start now : List ℤ) → is_sum rule ≡ false →
    all ≡ front ++ (access_to p o w ++ tail) → AscendFrom 0 all → InOver rule all (access_to p o w ++ tail) start now →
    InOver rule all tail start (with_write o w.value now)
put_one rule all front tail p None w start now plain e h b = b
put_one rule all front tail p (Some c) w start now plain e h b =
    let a : Access = record { at = p; cell = c; write = w } in
    let one : ◌≡◌ {A = Value} (written rule (pos 0) (writes_for c all)) (Ok w.value) =
    ap (written rule (pos 0)) (ap (writes_for c) e ∙ alone_in 0 front tail a (subst (AscendFrom 0) e h))
    ∙ one_written rule (pos 0) w plain in
    subst (InOver rule all tail start) (ap (λ (v : Value). with_value c v now) one) (step rule all front tail a e start now b)

-- under each rule that adds nothing up
pub record InPut (all rest : List Part) (start now : List ℤ) : Type 0 where
  pub each : (rule : Rule) → is_sum rule ≡ false → InOver rule (writes_made all) (writes_made rest) start now

pub put_starts : (items : List part.Part.Part) (start : List ℤ) → InPut (map part_is items) (map part_is (drop 0 items)) start start
put_starts items start = record { each = λ rule plain. over_starts rule (writes_made (map part_is items)) start }

parts_split : (items : List part.Part.Part) (i : ℕ) → writes_made (map part_is items) ≡
    writes_made (map part_is (take i items)) ++ writes_made (map part_is (drop i items))
parts_split items i =
    ap (λ ys. writes_made (map part_is ys)) (sym (take-append-drop i items))
    ∙ ap writes_made (map-append part_is (take i items) (drop i items))
    ∙ flat_map-append (λ (x : Part). made_by x.processor x.attempt) (map part_is (take i items)) (map part_is (drop i items))

pub put_goes : (items : List part.Part.Part) (i : ℕ) (x : part.Part.Part) (start now new : List ℤ) →
    InPut (map part_is items) (map part_is (drop i items)) start now → AscendFrom 0 (writes_made (map part_is items)) →
    i < length items → x ≡ get_or items i x →
    new ≡ with_write (cell_written (part_is x).attempt) (value_in (part_is x).attempt) now →
    InPut (map part_is items) (map part_is (drop (i + 1) items)) start new
put_goes items i x start now new b h l is e =
    let all : List Access = writes_made (map part_is items) in
    let tail : List Access = writes_made (map part_is (drop (i + 1) items)) in
    let w : Write = record { processor = x.processor; value = value_in (part_is x).attempt } in
    let p : ℕ = length (trail_of (part_is x).attempt) in
    let left : writes_made (map part_is (drop i items)) ≡ access_to p (cell_written (part_is x).attempt) w ++ tail =
    ap (λ ys. writes_made (map part_is ys)) (drop_more items i x l ∙ ap (λ y. y ∷ drop (i + 1) items) (sym is))
    ∙ ap (λ bs. bs ++ tail) (made_is x.processor (part_is x).attempt) in
    record {
      each = λ rule plain. subst (InOver rule all tail start) (sym e)
          (put_one rule all (writes_made (map part_is (take i items))) tail p (cell_written (part_is x).attempt) w start now plain
          (parts_split items i ∙ ap (λ bs. writes_made (map part_is (take i items)) ++ bs) left) h
          (subst (λ r. InOver rule all r start now) left (b.each rule plain)));
    }

pub put_ends : (items : List part.Part.Part) (i : ℕ) (start now : List ℤ) →
    InPut (map part_is items) (map part_is (drop i items)) start now → length items ≤ i →
    (rule : Rule) → is_sum rule ≡ false → now ≡ overwritten rule (map part_is items) 0 start
put_ends items i start now b h rule plain =
    over_done rule (map part_is items) start now
    (subst (λ ys. InOver rule (writes_made (map part_is items)) (writes_made (map part_is ys)) start now) (drop_all i items h)
    (b.each rule plain))
