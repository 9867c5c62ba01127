-- Elements that are added, one behind the other.
use Rattle.std.proofs.Common.{◌≡◌, ℕ, List, [], ◌∷◌, ◌++◌, ◌+◌, ◌<◌, ◌≤◌, ap, sym, ◌∙◌, append_assoc, drop, length, get_or}
use Rattle.std.specs.Prelude.{Result, Ok, Err, OnOk}
use Rattle.std.proofs.lemmas.List.{append-nil, drop_more, drop_all}
use Rattle.pram_tokens.specs.declared.token.Binary.{Binary}
use Rattle.pram_trees.specs.declared.tree.Expr.{Expr}
use Rattle.pram_trees.specs.declared.tree.Stmt.{Stmt}
use Rattle.element_places.specs.Elements.{block_elements, elements, link_elements, statement_elements}

pub nothing : (all : List ℕ) → all ≡ all ++ []
nothing all = sym (append-nil all)

-- one part, and another behind it
pub two : (all mid more first second : List ℕ) → mid ≡ all ++ first → more ≡ mid ++ second → more ≡ all ++ (first ++ second)
two all mid more first second a b = b ∙ ap (λ l. l ++ second) a ∙ append_assoc all first second

pub on_ok : {P Q : Type 0} {A E : Type 0} (r : Result A E) → (P → Q) → OnOk r P → OnOk r Q
on_ok (Ok u) f p = f p
on_ok (Err x) f p = p

pub links_more : (w : List ℕ) (items : List (Binary × Expr)) (i : ℕ) (mid more whole : List ℕ) (s : Binary × Expr) →
    mid ++ link_elements w (drop i items) ≡ whole → i < length items → s ≡ get_or items i s → more ≡ mid ++ elements w s.1 →
    more ++ link_elements w (drop (i + 1) items) ≡ whole
links_more w items i mid more whole s so h is n =
    ap (λ x. x ++ link_elements w (drop (i + 1) items)) n
    ∙ append_assoc mid (elements w s.1) (link_elements w (drop (i + 1) items))
    ∙ sym (ap (λ x. mid ++ link_elements w x) (drop_more items i s h ∙ ap (λ x. x ∷ drop (i + 1) items) (sym is))) ∙ so

pub links_end : (w : List ℕ) (items : List (Binary × Expr)) (i : ℕ) (mid whole : List ℕ) → mid ++ link_elements w (drop i items) ≡ whole →
    length items ≤ i → mid ≡ whole
links_end w items i mid whole so h =
    sym (append-nil mid) ∙ sym (ap (λ x. mid ++ link_elements w x) (drop_all i items h)) ∙ so

pub statements_more : (w : List ℕ) (at : ℕ) (items : List Stmt) (i : ℕ) (mid more whole : List ℕ) (s : Stmt) →
    mid ++ block_elements w at (drop i items) ≡ whole → i < length items → s ≡ get_or items i s → more ≡ mid ++ statement_elements w at s →
    more ++ block_elements w at (drop (i + 1) items) ≡ whole
statements_more w at items i mid more whole s so h is n =
    ap (λ x. x ++ block_elements w at (drop (i + 1) items)) n
    ∙ append_assoc mid (statement_elements w at s) (block_elements w at (drop (i + 1) items))
    ∙ sym (ap (λ x. mid ++ block_elements w at x) (drop_more items i s h ∙ ap (λ x. x ∷ drop (i + 1) items) (sym is))) ∙ so

pub statements_end : (w : List ℕ) (at : ℕ) (items : List Stmt) (i : ℕ) (mid whole : List ℕ) →
    mid ++ block_elements w at (drop i items) ≡ whole → length items ≤ i → mid ≡ whole
statements_end w at items i mid whole so h =
    sym (append-nil mid) ∙ sym (ap (λ x. mid ++ block_elements w at x) (drop_all i items h)) ∙ so

-- one part, a second, and a third behind them
pub three : (all mid more most first second third : List ℕ) → mid ≡ all ++ first → more ≡ mid ++ second → most ≡ more ++ third →
    most ≡ all ++ (first ++ (second ++ third))
three all mid more most first second third a b c =
    c ∙ ap (λ l. l ++ third) (b ∙ ap (λ l. l ++ second) a ∙ append_assoc all first second)
    ∙ append_assoc all (first ++ second) third ∙ ap (λ l. all ++ l) (append_assoc first second third)
