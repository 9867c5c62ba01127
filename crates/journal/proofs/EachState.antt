-- What is told of the first statements of a run gives the state behind them.
use Rattle.std.proofs.Common.{◌≡◌, ◌∙◌, ℕ, zero, suc, ◌+◌, ◌-◌, ℤ, pos, List, [], ◌∷◌, ◌++◌, Option, Some, None, ap, arith, drop, length}
use Rattle.std.proofs.Common.{length-append}
use Rattle.std.proofs.Common.{refl, replicate, subst, sym}
use Rattle.std.specs.Prelude.{map, slice_index_or, take}
use Rattle.std.specs.List.{flat_map, fold}
use Rattle.pram_check.specs.Checked.{Checked}
use Rattle.pram_model.specs.Layout.{total_size}
use Rattle.pram_tokens.specs.declared.token.Location.{Location}
use Rattle.pram_meaning.specs.declared.key.Key.{Key}
use Rattle.pram_meaning.specs.Attempt.{Attempt, Fails, Gives}
use Rattle.pram_meaning.specs.Conflict.{Part}
use Rattle.pram_meaning.specs.Moments.{Action, Alone, Closed, Moment, StepAction, Together, run_moments}
use Rattle.pram_meaning.specs.Outcome.{opening}
use Rattle.pram_meaning.specs.Store.{State}
use Rattle.pram_meaning.proofs.OneOutcome.{one_outcome}
use Rattle.moment_laws.specs.Following.{IsLeft, IsLeftAlone, IsLeftBySet, IsSameStore, Lead, state_behind}
use Rattle.moment_laws.proofs.Whole.{moments_lead_to_the_outcome}
use Rattle.journal.specs.declared.change.Change.{Change}
use Rattle.journal.specs.declared.local_change.LocalChange.{LocalChange}
use Rattle.journal.specs.Entries.{Act, Entry}
use Rattle.journal.specs.Replay.{with_cells, with_change, with_printed, with_value, with_variables}
use Rattle.journal.specs.Acts.{act_of, alone_acts, held}
use Rattle.journal.specs.Changes.{difference}
use Rattle.journal.specs.RunEntries.{ChangesGiveEachState, HasSameValues, IsStore, by_one, by_set, entries_of, ran}
use Rattle.journal.specs.Locals.{locals_changed}
use Rattle.journal.proofs.Applied.{applied}
use Rattle.journal.proofs.Pushed.{gained}

-- ---- lists behind which all are 0

with_same : (xs ys : List ℤ) (at : ℕ) (v : ℤ) → HasSameValues xs ys → HasSameValues (with_value xs at v) (with_value ys at v)
with_same [] [] at v same c = refl
with_same [] (y ∷ ys) zero v same zero = refl
with_same [] (y ∷ ys) zero v same (suc c) = same (suc c)
with_same [] (y ∷ ys) (suc at) v same zero = same zero
with_same [] (y ∷ ys) (suc at) v same (suc c) = with_same [] ys at v (λ c. same (suc c)) c
with_same (x ∷ xs) [] zero v same zero = refl
with_same (x ∷ xs) [] zero v same (suc c) = same (suc c)
with_same (x ∷ xs) [] (suc at) v same zero = same zero
with_same (x ∷ xs) [] (suc at) v same (suc c) = with_same xs [] at v (λ c. same (suc c)) c
with_same (x ∷ xs) (y ∷ ys) zero v same zero = refl
with_same (x ∷ xs) (y ∷ ys) zero v same (suc c) = same (suc c)
with_same (x ∷ xs) (y ∷ ys) (suc at) v same zero = same zero
with_same (x ∷ xs) (y ∷ ys) (suc at) v same (suc c) = with_same xs ys at v (λ c. same (suc c)) c

all_same : (ds : List Change) (xs ys : List ℤ) → HasSameValues xs ys → HasSameValues (fold with_change xs ds) (fold with_change ys ds)
all_same [] xs ys same = same
all_same (d ∷ ds) xs ys same =
    all_same ds (with_value xs d.cell d.after) (with_value ys d.cell d.after) (with_same xs ys d.cell d.after same)

-- a difference gives the second list
given : (xs old new : List ℤ) → length new ≡ length old → HasSameValues xs old → HasSameValues
    (fold with_change xs (difference old new)) new
given xs old new size same =
    subst (HasSameValues (fold with_change xs (difference old new))) (applied old new size) (all_same (difference old new) xs old same)

zeros : (j c : ℕ) → pos 0 ≡ slice_index_or (replicate j (pos 0)) c (pos 0)
zeros zero c = refl
zeros (suc j) zero = refl
zeros (suc j) (suc c) = zeros j c

padded : (xs : List ℤ) (j : ℕ) → HasSameValues xs (xs ++ replicate j (pos 0))
padded [] j c = zeros j c
padded (x ∷ xs) j zero = refl
padded (x ∷ xs) j (suc c) = padded xs j c

-- ---- one statement

-- the state in which it begins has the store of the one before it
begins : (cells variables : List ℤ) (printed : ℕ) (m before : State) → IsStore cells variables printed m → IsSameStore m before →
    IsStore cells variables printed before
begins cells variables printed m before is same = record {
  cells = subst (HasSameValues cells) (sym same.cells) is.cells;
  variables = subst (HasSameValues variables) (sym same.uniforms) is.variables;
  printed = is.printed ∙ ap length (sym same.output);
}

ran_store : (cells variables : List ℤ) (printed : ℕ) (before behind : State) (here : Location) (acts : List Act)
    (locals : List LocalChange) →
    IsStore cells variables printed before → IsLeft before behind →
    IsStore (with_cells cells (ran here acts locals before behind)) (with_variables variables (ran here acts locals before behind))
    (with_printed printed (ran here acts locals before behind)) behind
ran_store cells variables printed before behind here acts locals is left = record {
  cells = given cells before.cells behind.cells left.cells is.cells;
  variables = given variables before.uniforms behind.uniforms left.uniforms is.variables;
  printed =
      let e : drop (length before.output) behind.output ≡ left.printed =
      ap (drop (length before.output)) left.output ∙ gained before.output left.printed in
      let f = ap (λ (xs : List ℤ). length xs) e in
      let g = ap (λ (xs : List ℤ). length xs) left.output ∙ length-append before.output left.printed in
      let h = is.printed in omega (arith, f, g, h);
}

alone_store : (p : Checked) (cells variables : List ℤ) (printed : ℕ) (here : Location) (act : Action) (before behind : State)
    (tried : Attempt (Option ℕ)) → IsStore cells variables printed before → IsLeftAlone tried before behind →
    IsStore (with_cells cells (by_one p here act before tried behind)) (with_variables variables (by_one p here act before tried behind))
    (with_printed printed (by_one p here act before tried behind)) behind
alone_store p cells variables printed here act before behind (Gives t c) is left =
    ran_store cells variables printed before behind here (alone_acts before.cells t c (held behind.cells c)) [] is left
alone_store p cells variables printed here act before behind (Fails t kind) is left =
    subst (IsStore cells variables printed) (sym left) is

set_store : (p : Checked) (cells variables : List ℤ) (printed : ℕ) (here : Location) (act : StepAction) (before behind : State)
    (xs : List Part) (key : Option Key) → IsStore cells variables printed before → IsLeftBySet key before behind →
    IsStore (with_cells cells (by_set p here act before xs key behind)) (with_variables variables (by_set p here act before xs key behind))
    (with_printed printed (by_set p here act before xs key behind)) behind
set_store p cells variables printed here act before behind xs None is left =
    ran_store cells variables printed before behind here (map (act_of before.cells) xs) (locals_changed act xs before.team) is left
set_store p cells variables printed here act before behind xs (Some key) is left =
    subst (IsStore cells variables printed) (sym left) is

-- ---- all of them

each : (p : Checked) (ms : List Moment) (k : ℕ) (m last : State) (cells variables : List ℤ) (printed : ℕ) → Lead ms m last →
    IsStore cells variables printed m →
    IsStore (fold with_cells cells (take k (flat_map (entries_of p) ms)))
    (fold with_variables variables (take k (flat_map (entries_of p) ms)))
    (fold with_printed printed (take k (flat_map (entries_of p) ms))) (state_behind k ms m)
each p ms zero m last cells variables printed lead is = is
each p [] (suc k) m last cells variables printed lead is = is
each p (Alone here act before tried behind ∷ ms) (suc k) m last cells variables printed lead is =
    let e = by_one p here act before tried behind in
    each p ms k behind last (with_cells cells e) (with_variables variables e) (with_printed printed e) lead.2
    (alone_store p cells variables printed here act before behind tried (begins cells variables printed m before is lead.0.0) lead.1)
each p (Together here act before xs key behind ∷ ms) (suc k) m last cells variables printed lead is =
    let e = by_set p here act before xs key behind in
    each p ms k behind last (with_cells cells e) (with_variables variables e) (with_printed printed e) lead.2
    (set_store p cells variables printed here act before behind xs key (begins cells variables printed m before is lead.0.0) lead.1)
each p (Closed ∷ ms) (suc k) m last cells variables printed lead is = each p ms (suc k) m last cells variables printed lead is

pub changes_give_each_state : ChangesGiveEachState
changes_give_each_state p input n k =
    let o = one_outcome p input n in
    let leads = moments_lead_to_the_outcome p input n o.outcome o.is in
    each p (run_moments p input n) k (opening p input) leads.0 input [] 0 leads.1 (record {
      cells = padded input (total_size p.layout - length input);
      variables = zeros p.uniforms;
      printed = refl;
    })
