-- Reads that are added, one behind the other.
use Rattle.std.proofs.Common.{◌≡◌, ℕ, List, [], ◌∷◌, ◌++◌, ◌+◌, ◌<◌, ◌≤◌, Bool, refl, ap, sym, ◌∙◌, Global, Box, Vec, drop, length, get_or}
use Rattle.std.proofs.Common.{append_assoc}
use Rattle.std.specs.Prelude.{Result, Ok, Err, OnOk}
use Rattle.std.proofs.lemmas.List.{append-nil, drop_more, drop_all}
use Rattle.pram_names.specs.declared.body.Expression.{Chain, Expression, Row_of-Link, end_of-Link, items-the_row-Link}
use Rattle.pram_names.specs.declared.body.Expression.{items_hidden-the_row-Link-0, more_of-Link}
use Rattle.pram_names.specs.declared.body.Expression.TheBlock.{hidden-the_row-Link-0}
use Rattle.pram_names.specs.declared.body.Link.{Link}
use Rattle.pictures.specs.Flows.Subscripts.{asides, link_asides, row_asides}

pub no_reads : (all : List Bool) → all ≡ all ++ []
no_reads all = sym (append-nil all)

-- one part, and another behind it
pub behind : (all mid more first second : List Bool) → mid ≡ all ++ first → more ≡ mid ++ second → more ≡ all ++ (first ++ second)
behind all mid more first second a b = b ∙ ap (λ l. l ++ second) a ∙ append_assoc all first second

row_is : (inside : Bool) {n : _} (row : Row_of-Link n) → row_asides inside row ≡ link_asides inside (items-the_row-Link n row)
row_is inside end_of-Link = refl
row_is inside (more_of-Link o e row) = ap (λ l. asides inside e ++ l) (row_is inside row)

pub first_reads : (inside : Bool) (e : Expression) (first : Box Expression Global) (links : Vec Link Global) (items : List Link)
    (all mid : List Bool) → e ≡ Chain first links → items ≡ links.items → mid ≡ all ++ asides inside first.value →
    mid ++ link_asides inside (drop 0 items) ≡ all ++ asides inside e
first_reads inside e first links items all mid is same h =
    ap (λ l. l ++ link_asides inside items) h
    ∙ append_assoc all (asides inside first.value) (link_asides inside items)
    ∙ ap (λ l. all ++ (asides inside first.value ++ l)) (ap (link_asides inside) (same ∙ sym (items_hidden-the_row-Link-0 links))
    ∙ sym (row_is inside (hidden-the_row-Link-0 links)))
    ∙ sym (ap (λ x. all ++ asides inside x) is)

pub more_reads : (inside : Bool) (items : List Link) (i : ℕ) (mid more whole : List Bool) (l : Link) →
    mid ++ link_asides inside (drop i items) ≡ whole → i < length items → l ≡ get_or items i l → more ≡ mid ++ asides inside l.operand →
    more ++ link_asides inside (drop (i + 1) items) ≡ whole
more_reads inside items i mid more whole l so h is n =
    ap (λ x. x ++ link_asides inside (drop (i + 1) items)) n
    ∙ append_assoc mid (asides inside l.operand) (link_asides inside (drop (i + 1) items))
    ∙ sym (ap (λ x. mid ++ link_asides inside x) (drop_more items i l h ∙ ap (λ x. x ∷ drop (i + 1) items) (sym is))) ∙ so

pub all_reads : (inside : Bool) (items : List Link) (i : ℕ) (mid whole : List Bool) → mid ++ link_asides inside (drop i items) ≡ whole →
    length items ≤ i → mid ≡ whole
all_reads inside items i mid whole so h =
    sym (append-nil mid) ∙ sym (ap (λ x. mid ++ link_asides inside x) (drop_all i items h)) ∙ so

pub on_ok : {P Q : Type 0} {A E : Type 0} (r : Result A E) → (P → Q) → OnOk r P → OnOk r Q
on_ok (Ok u) f p = f p
on_ok (Err x) f p = p

pub ruleset chain_reads = (first_reads, more_reads, all_reads, no_reads, behind)
