-- Texts written one behind the other.
use Rattle.std.proofs.Common.{◌≡◌, ◌++◌, ◌∙◌, ◌+◌, ◌<◌, [], List, ℕ, ap, sym, refl, subst, append_assoc, drop, get_or, length}
use Rattle.std.proofs.lemmas.List.{append-nil, drop_more}
use Rattle.std.proofs.lemmas.Result.{err_from_is_err_and}
use Rattle.std.specs.Prelude.{Option, Some, None, Result, IsErrAnd}
use Rattle.std.specs.Borrow.{Bor}
use Rattle.text_out.specs.Out.{OutState, StopsIn, Writes, behind, joined, with_bytes, with_failure}

pub behind-append : (s : Option (List ℕ)) (a b : List ℕ) → behind (behind s a) b ≡ behind s (a ++ b)
behind-append None a b = refl
behind-append (Some taken) a b = ap Some (append_assoc taken a b)

pub behind-nothing : (s : Option (List ℕ)) → s ≡ behind s []
behind-nothing None = refl
behind-nothing (Some taken) = ap Some (sym (append-nil taken))

pub with_bytes-append : (s : OutState) (a b : List ℕ) → with_bytes (with_bytes s a) b ≡ with_bytes s (a ++ b)
with_bytes-append s a b = ap (λ t. record { taken = t; failed = s.failed }) (behind-append s.taken a b)

pub with_bytes-nothing : (s : OutState) → s ≡ with_bytes s []
with_bytes-nothing s = ap (λ t. record { taken = t; failed = s.failed }) (behind-nothing s.taken)

-- a text written whole, and another one behind it
pub writes_then : (old mid new : OutState) (a b : List ℕ) → mid ≡ with_bytes old a → new ≡ with_bytes mid b → new ≡ with_bytes old (a ++ b)
writes_then old mid new a b first second = second ∙ ap (λ s. with_bytes s b) first ∙ with_bytes-append old a b

-- a writer that stops in the first of two texts stops in both
pub stops_before : {old new : OutState} {a : List ℕ} (b : List ℕ) → StopsIn old new a → StopsIn old new (a ++ b)
stops_before b s = record {
  front = s.front;
  rest = s.rest ++ b;
  whole = ap (λ l. l ++ b) s.whole ∙ append_assoc s.front s.rest b;
  stopped =
      s.stopped;
}

-- and so does one that stops in the second
pub stops_behind : (old mid new : OutState) (a b : List ℕ) → mid ≡ with_bytes old a → StopsIn mid new b → StopsIn old new (a ++ b)
stops_behind old mid new a b first s = record {
  front = a ++ s.front;
  rest = s.rest;
  whole = ap (λ l. a ++ l) s.whole ∙ sym (append_assoc a s.front s.rest);
  stopped = s.stopped ∙ ap with_failure (ap (λ m. with_bytes m s.front) first ∙ with_bytes-append old a s.front);
}

-- a writer that stopped, with any error
pub writes_stopped : {E : Type 0} (old new : OutState) (text : List ℕ) (r : Result Unit E) (P : E → Type 0)
    → IsErrAnd r P → StopsIn old new text → Writes old new text r
writes_stopped old new text r P is stops = subst (Writes old new text) (sym (err_from_is_err_and r is).1) stops

-- the part at i, and what stands behind it
pub joined_at : (parts : List (Bor (List ℕ))) (i : ℕ) (d : Bor (List ℕ)) → i < length parts
    → joined (drop i parts) ≡ (get_or parts i d).now ++ joined (drop (i + 1) parts)
joined_at parts i d below = ap joined (drop_more parts i d below)

-- a text by what is written, the next piece, and the rest
pub one_more : (all front left piece rest : List ℕ) → all ≡ front ++ left → left ≡ piece ++ rest → all ≡ front ++ piece ++ rest
one_more all front left piece rest whole next = whole ∙ ap (λ l. front ++ l) next ∙ sym (append_assoc front piece rest)
