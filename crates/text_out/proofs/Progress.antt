-- How far a text is written.
use Rattle.std.proofs.Common.{◌≡◌, ◌++◌, ◌∙◌, [], List, ℕ, ap, drop, refl, sym, subst, take}
use Rattle.std.proofs.lemmas.List.{append-nil, take-append-drop}
use Rattle.std.specs.Prelude.{Result, Ok, Err, IsErrAnd}
use Rattle.text_out.specs.Out.{OutState, StopsIn, Writes, with_bytes, with_failure}
use Rattle.text_out.proofs.Writing.{one_more, stops_before, stops_behind, with_bytes-nothing, writes_stopped, writes_then}

-- from old to new all of the text but what is left was written
pub record Progress (old new : OutState) (all left : List ℕ) : Type 0 where
  pub front : List ℕ
  pub whole : all ≡ front ++ left
  pub taken : new ≡ with_bytes old front

pub starts : (s : OutState) (all : List ℕ) → Progress s s all all
starts s all = record { front = []; whole = refl; taken = with_bytes-nothing s }

pub goes_on : (old now new : OutState) (all left piece rest : List ℕ)
    → Progress old now all left → left ≡ piece ++ rest → new ≡ with_bytes now piece → Progress old new all rest
goes_on old now new all left piece rest p next more = record {
  front = p.front ++ piece;
  whole = one_more all p.front left piece rest p.whole next;
  taken = writes_then old now new p.front piece p.taken more;
}

pub stops : (old now new : OutState) (all left piece rest : List ℕ)
    → Progress old now all left → left ≡ piece ++ rest → StopsIn now new piece → StopsIn old new all
stops old now new all left piece rest p next s =
    subst (StopsIn old new) (sym (p.whole ∙ ap (λ l. p.front ++ l) next)) (stops_behind old now new p.front (piece
    ++ rest) p.taken (stops_before rest s))

pub ends : (old new : OutState) (all left : List ℕ) → Progress old new all left → left ≡ [] → new ≡ with_bytes old all
ends old new all left p over = p.taken ∙ ap (with_bytes old) (sym (p.whole ∙ ap (λ l. p.front ++ l) over ∙ append-nil p.front))

-- the last piece, whatever comes of it
pub closes : {E : Type 0} (old now new : OutState) (all left : List ℕ) (r : Result Unit E) → Progress old now all left →
    Writes now new left r → Writes old new all r
closes old now new all left (Ok u) p written =
    ends old new all [] (goes_on old now new all left left [] p (sym (append-nil left)) written) refl
closes old now new all left (Err e) p stopped = stops old now new all left left [] p (sym (append-nil left)) stopped

-- a piece at which the writer stopped, by an error that is handed on
pub breaks_off : {E : Type 0} (old now new : OutState) (all left piece rest : List ℕ) (r : Result Unit E) (P : E → Type 0)
    → IsErrAnd r P → Progress old now all left → left ≡ piece ++ rest → StopsIn now new piece → Writes old new all r
breaks_off old now new all left piece rest r P is p next s =
    writes_stopped old new all r P is (stops old now new all left piece rest p next s)

-- a writer that took a beginning of what is left
pub takes : (old now new : OutState) (all left rest : List ℕ) (n : ℕ)
    → Progress old now all left → rest ≡ drop n left → new ≡ with_bytes now (take n left) → Progress old new all rest
takes old now new all left rest n p next more =
    goes_on old now new all left (take n left) rest p (sym (take-append-drop n left) ∙ ap (λ l. take n left ++ l) (sym next)) more

-- a writer that failed, and took nothing
pub fails : (old now new : OutState) (all left : List ℕ) → Progress old now all left → new ≡ with_failure now → StopsIn old new all
fails old now new all left p failed =
    stops old now new all left [] left p refl (record {
      front = [];
      rest = [];
      whole = refl;
      stopped =
          failed ∙ ap with_failure (with_bytes-nothing now);
    })
