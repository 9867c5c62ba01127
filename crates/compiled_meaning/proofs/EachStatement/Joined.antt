-- Parts of a program one behind the other: the run of both follows both.
use Rattle.std.proofs.Common.{◌≡◌, ℕ, ◌+◌, ◌≤◌, List, [], ◌∷◌, ◌++◌, Bool, sym, ap, ◌∙◌, subst, arith}
use Rattle.std.proofs.Common.{append-nil}
use Rattle.write_rules.specs.Verdict.{Verdict, GoesOn}
use Rattle.pram_meaning.specs.Store.{State}
use Rattle.pram_meaning.specs.Bounded.{Done, Goes, Stops, Reaches, then_do}
use Rattle.flat_stretches.specs.Along.{Run}
use Rattle.flat_stretches.specs.Closes.{ComesOut}
use Rattle.exchange_bound.specs.Events.{Event, behind}
use Rattle.exchange_bound.specs.Bound.{one_if}
use Rattle.exchange_bound.specs.Spent.{held_behind}
use Rattle.compiled_meaning.specs.Paid.{spent}
use Rattle.exchange_bound.specs.Spent.{held_after}
use Rattle.exchange_bound.proofs.Shared.{held_joins}
use Rattle.compiled_meaning.specs.Follows.{Follows, HoldsBehind, in_all}

-- the run is out by no more than this
pub comes_out_sooner : (t : Run) (v : Verdict) (spent more : ℕ) → spent ≤ more → ComesOut t v spent → ComesOut t v more
comes_out_sooner t v spent more l c = record { outcome = c.outcome; few = (let k = c.few in omega (arith, k, l)) }

-- what is said of where it goes on may be said otherwise
pub follows_also : (t : Run) (before : ℕ) (held : Bool) (es : List Event) (P Q : State → Type 0) (d : Done) → ((m : State) → P m → Q m) →
    Follows t before held es P d → Follows t before held es Q d
follows_also t before held es P Q (Goes u m) g h = g m h
follows_also t before held es P Q (Stops fault out) g h = h
follows_also t before held es P Q (Reaches out) g h = h

-- by as many exchanges in all, or more
pub follows_sooner : (t : Run) (before more : ℕ) (held left : Bool) (es fs : List Event) (P : State → Type 0) (d : Done) →
    before + in_all t es held ≤ more + in_all t fs left → Follows t before held es P d → Follows t more left fs P d
follows_sooner t before more held left es fs P (Goes u m) l h = h
follows_sooner t before more held left es fs P (Stops fault out) l h = h
follows_sooner t before more held left es fs P (Reaches out) l h =
    comes_out_sooner t (GoesOn out) (before + in_all t es held + 1) (more + in_all t fs left + 1) (omega (arith, l)) h

spent_joins : (t : Run) (es fs : List Event) (held : Bool) → spent t (es ++ fs) held ≡ spent t es held + spent t fs (held_behind es held)
spent_joins t [] fs held = omega arith
spent_joins t (e ∷ es) fs held = let h = spent_joins t es fs (held_after e held) in omega (arith, h)

-- two lists of events, one behind the other, spend what each of them does
pub in_all_joins : (t : Run) (es fs : List Event) (held left : Bool) → held_behind es held ≡ left →
    in_all t (es ++ fs) held ≡ spent t es held + in_all t fs left
in_all_joins t es fs held left e =
    let s = spent_joins t es fs held in
    let same : spent t fs (held_behind es held) ≡ spent t fs left = ap (spent t fs) e in
    let h : one_if (held_behind (es ++ fs) held) ≡ one_if (held_behind fs left) =
    ap one_if (held_joins es fs held ∙ ap (held_behind fs) e) in
    omega (arith, s, same, h)

pub spent_behind : (t : Run) (es fs : List Event) (held left : Bool) → held_behind es held ≡ left →
    spent t (es ++ fs) held ≡ spent t es held + spent t fs left
spent_behind t es fs held left e =
    let s = spent_joins t es fs held in
    let same : spent t fs (held_behind es held) ≡ spent t fs left = ap (spent t fs) e in omega (arith, s, same)

-- what follows the second one from behind the first follows both
pub follows_behind : (t : Run) (before : ℕ) (held left : Bool) (es fs : List Event) (P : State → Type 0) (d : Done) →
    held_behind es held ≡ left → Follows t (before + spent t es held) left fs P d → Follows t before held (es ++ fs) P d
follows_behind t before held left es fs P d e h =
    let n = in_all_joins t es fs held left e in
    follows_sooner t (before + spent t es held) before left held fs (es ++ fs) P d (omega (arith, n)) h

-- A part, and what is done behind it: where the first one goes on, from there.
pub follows_then : (t : Run) (before : ℕ) (held left : Bool) (es : List Event) (fs : State → List Event) (P : State → Type 0)
    (Q : List Event → State → Type 0) (d : Done) (k : State → Done) → Follows t before held es P d → HoldsBehind held es left d →
    ((m : State) → P m → held_behind es held ≡ left → Follows t (before + spent t es held) left (fs m) (Q (es ++ fs m)) (k m)) →
    Follows t before held (es ++ behind d (λ u m. fs m)) (Q (es ++ behind d (λ u m. fs m))) (then_do d (λ u m. k m))
follows_then t before held left es fs P Q (Goes u m) k h l g =
    follows_behind t before held left es (fs m) (Q (es ++ fs m)) (k m) l (g m h l)
follows_then t before held left es fs P Q (Stops fault out) k h l g = h
follows_then t before held left es fs P Q (Reaches out) k h l g =
    subst (λ xs. ComesOut t (GoesOn out) (before + in_all t xs held + 1)) (sym (append-nil es)) h

-- and what is held behind both
pub holds_behind : (held left last : Bool) (es fs : List Event) (d : Done) → held_behind es held ≡ left → HoldsBehind left fs last d →
    HoldsBehind held (es ++ fs) last d
holds_behind held left last es fs (Goes u m) e g = held_joins es fs held ∙ ap (held_behind fs) e ∙ g
holds_behind held left last es fs (Stops fault out) e g = tt
holds_behind held left last es fs (Reaches out) e g = tt

pub holds_then : (held left last : Bool) (es : List Event) (fs : State → List Event) (d : Done) (k : State → Done) →
    HoldsBehind held es left d → ((m : State) → HoldsBehind left (fs m) last (k m)) →
    HoldsBehind held (es ++ behind d (λ u m. fs m)) last (then_do d (λ u m. k m))
holds_then held left last es fs (Goes u m) k h g = holds_behind held left last es (fs m) (k m) h (g m)
holds_then held left last es fs (Stops fault out) k h g = tt
holds_then held left last es fs (Reaches out) k h g = tt
