-- Where each node stands behind its parent in an order, all parents lead to the first node.
use Rattle.std.proofs.Common.{◌≡◌, ◌∙◌, ◌<◌, zero, suc, ℕ, ℤ, List, length, get_or, pos, refl, subst, arith, Result, Ok, Err, IfOk}
use Rattle.std.proofs.lemmas.List.FromFn.{get_or-map-range_with_len}
use Rattle.scopes.proofs.Parts.{part_below}
use Rattle.drawn_kinds.specs.Orders.{IsOrder}
use Rattle.drawn_kinds.specs.Kinds.{AreWords, Climbs, Follows, IsTree, above, at, node, parents_by}
use Rattle.drawn_kinds.proofs.Distinct.{order_below, order_count, order_holds}

above_before : (words : List ℕ) (k : ℕ) → AreWords words → above words (suc k) < suc k
above_before words k fit = part_below (get_or words k 0) (suc k) (fit k) (omega arith)

parent_at : (words order : List ℕ) (values : List ℤ) (k : ℕ) → Follows order (parents_by words order) values → k < length order →
    at values (get_or order k 0) ≡ node 1 (get_or order (above words k) 0)
parent_at words order values k follows l =
    follows k l
    ∙ get_or-map-range_with_len (λ j. node 1 (get_or order (above words j) 0)) 0 (length order) k k (pos 0) l (omega arith)

climb : (words order : List ℕ) (values : List ℤ) (most k : ℕ) → AreWords words → Follows order (parents_by words order) values →
    k < most → k < length order → (steps : ℕ) × Climbs values steps (get_or order k 0) (get_or order 0 0)
climb words order values zero k fit follows small l = absurd (omega (arith, small))
climb words order values (suc most) zero fit follows small l = (0, refl)
climb words order values (suc most) (suc k) fit follows small l =
    let before = above_before words k fit in
    let rest =
    climb words order values most (above words (suc k)) fit follows (omega (arith, before, small)) (omega (arith, before, l)) in
    (suc rest.0, (get_or order (above words (suc k)) 0, parent_at words order values (suc k) follows l, rest.1))

pub rooted : (words order : List ℕ) (values : List ℤ) → AreWords words → IsOrder (length values) order →
    Follows order (parents_by words order) values → IsTree values
rooted words order values fit is follows some = record {
  root = get_or order 0 0;
  within = order_below (length values) order 0 is (omega (arith, count, some));
  own = parent_at words order values 0 follows (omega (arith, count, some));
  climbs = λ place l. by place (order_holds (length values) order place is l);
}
  where
    count : length order ≡ length values
    count = order_count (length values) order is

    by : (place : ℕ) → (k : ℕ) × (k < length order) × (get_or order k 0 ≡ place) →
        (steps : ℕ) × Climbs values steps place (get_or order 0 0)
    by place (k, l, e) =
        subst (λ x. (steps : ℕ) × Climbs values steps x (get_or order 0 0)) e
        (climb words order values (suc k) k fit follows (omega arith) l)

pub both_ok : {T E : Type 0} (r : Result T E) (P Q R : T → Type 0) → ((x : T) → P x → Q x → R x) → IfOk r P → IfOk r Q → IfOk r R
both_ok (Ok x) P Q R f p q = f x p q
both_ok (Err e) P Q R f p q = tt
