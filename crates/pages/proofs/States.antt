-- States behind entries, and the last entries that are kept.
use Rattle.std.proofs.Common.{◌≡◌, ◌∙◌, ◌+◌, ◌-◌, ◌++◌, ◌∷◌, [], List, ℕ, ℤ, ap, append_assoc, append-nil, arith, length, length-append}
use Rattle.std.proofs.Common.{map, subst, sym, take}
use Rattle.std.proofs.lemmas.Grind.{fold-append}
use Rattle.std.proofs.lemmas.List.{length-map, map-append, take_all}
use Rattle.std.specs.List.{fold}
use Rattle.journal.specs.Entries.{Entry, entry_is}
use Rattle.journal.specs.Replay.{with_cells, with_printed, with_variables}
use Rattle.journal.specs.declared.entry as rust
use Rattle.pages.specs.declared.recent.Recent.{Recent}
use Rattle.pages.specs.declared.state.RunState.{RunState}
use Rattle.pages.specs.Gathered.{AreRecent, IsAfter, IsBehind}
use Rattle.pages.specs.GatheredLaws.{take_both}

-- ---- states

-- the changes of more entries
made_on : {S : Type 0} (f : S → Entry → S) (a b c : S) (xs ys : List Entry) → b ≡ fold f a xs → c ≡ fold f b ys →
    c ≡ fold f a (xs ++ ys)
made_on f a b c xs ys h g = g ∙ ap (λ s. fold f s ys) h ∙ sym (fold-append f a xs ys)

pub after_all : (input : List ℤ) (xs ys : List Entry) (s t : RunState) → IsAfter input xs s →
    t.cells.items ≡ fold with_cells s.cells.items ys → t.variables.items ≡ fold with_variables s.variables.items ys →
    t.printed ≡ fold with_printed s.printed ys → IsAfter input (xs ++ ys) t
after_all input xs ys s t h cells variables printed = record {
  cells = made_on with_cells input s.cells.items t.cells.items xs ys h.cells cells;
  variables = made_on with_variables [] s.variables.items t.variables.items xs ys h.variables variables;
  printed = made_on with_printed 0 s.printed t.printed xs ys h.printed printed;
}

pub after_none : (input : List ℤ) (s : RunState) → s.cells.items ≡ input → s.variables.items ≡ [] → s.printed ≡ 0 → IsAfter input [] s
after_none input s cells variables printed = record { cells = cells; variables = variables; printed = printed }

-- ---- the last entries

pub recent_none : (input : List ℤ) (r : Recent) → r.left ≡ 0 → r.state.cells.items ≡ input → r.state.variables.items ≡ [] →
    r.state.printed ≡ 0 → r.older.items ≡ [] → r.newer.items ≡ [] → AreRecent input [] r
recent_none input r left cells variables printed older newer = record {
  before = [];
  left = left;
  state = after_none input r.state cells variables printed;
  whole = sym (ap (λ l. map entry_is l ++ map entry_is r.newer.items) older ∙ ap (map entry_is) newer);
}

-- the older ones were let go
pub recent_shifted : (input : List ℤ) (es : List Entry) (r q : Recent) → AreRecent input es r → q.left ≡ r.left + length r.older.items →
    q.state.cells.items ≡ fold with_cells r.state.cells.items (map entry_is r.older.items) →
    q.state.variables.items ≡ fold with_variables r.state.variables.items (map entry_is r.older.items) →
    q.state.printed ≡ fold with_printed r.state.printed (map entry_is r.older.items) → q.older.items ≡ r.newer.items → q.newer.items ≡ [] →
    AreRecent input es q
recent_shifted input es r q h left cells variables printed older newer =
    let gone = map entry_is r.older.items in
    let kept = map entry_is r.newer.items in
    record {
      before = h.before ++ gone;
      left = let a = length-append h.before gone in let b : length gone ≡ length r.older.items = length-map r.older.items entry_is in
          let c : r.left ≡ length h.before = h.left in omega (arith, left, a, b, c);
      state = after_all input h.before gone r.state q.state h.state cells variables printed;
      whole = h.whole ∙ sym (append_assoc h.before gone kept)
          ∙ sym (ap (λ l. (h.before ++ gone) ++ (map entry_is l ++ map entry_is q.newer.items)) older
          ∙ ap (λ l. (h.before ++ gone) ++ (kept ++ map entry_is l)) newer ∙ ap (λ l. (h.before ++ gone) ++ l) (append-nil kept));
    }

-- one more was kept
pub recent_kept : (input : List ℤ) (es : List Entry) (r q : Recent) (e : rust.Entry.Entry) → AreRecent input es r → q.left ≡ r.left →
    q.state ≡ r.state → q.older ≡ r.older → q.newer.items ≡ r.newer.items ++ e ∷ [] → AreRecent input (es ++ entry_is e ∷ []) q
recent_kept input es r q e h left state older newer =
    let gone = map entry_is r.older.items in
    let kept = map entry_is r.newer.items in
    let one : List Entry = entry_is e ∷ [] in
    record {
      before = h.before;
      left = left ∙ h.left;
      state = subst (IsAfter input h.before) (sym state) h.state;
      whole = ap (λ l. l ++ one) h.whole ∙ append_assoc h.before (gone ++ kept) one ∙ ap (λ l. h.before ++ l) (append_assoc gone kept one)
          ∙ sym (ap (λ l. h.before ++ (map entry_is l.items ++ map entry_is q.newer.items)) older
          ∙ ap (λ l. h.before ++ (gone ++ map entry_is l)) newer
          ∙ ap (λ l. h.before ++ (gone ++ l)) (map-append entry_is r.newer.items (e ∷ [])));
    }

-- the state behind one of these
pub recent_behind : (input : List ℤ) (es : List Entry) (behind more rest : ℕ) (r : Recent) (s t : RunState) → AreRecent input es r →
    behind ≡ more + r.left → rest ≡ more - length r.older.items →
    s.cells.items ≡ fold with_cells r.state.cells.items (take more (map entry_is r.older.items)) →
    s.variables.items ≡ fold with_variables r.state.variables.items (take more (map entry_is r.older.items)) →
    s.printed ≡ fold with_printed r.state.printed (take more (map entry_is r.older.items)) →
    t.cells.items ≡ fold with_cells s.cells.items (take rest (map entry_is r.newer.items)) →
    t.variables.items ≡ fold with_variables s.variables.items (take rest (map entry_is r.newer.items)) →
    t.printed ≡ fold with_printed s.printed (take rest (map entry_is r.newer.items)) → IsBehind input es behind t
recent_behind input es behind more rest r s t h at over cells variables printed cells_on variables_on printed_on =
    subst (λ es. IsAfter input es t) (sym taken)
    (after_all input (h.before ++ take more gone) (take rest kept) s t
    (after_all input h.before (take more gone) r.state s h.state cells variables printed) cells_on variables_on printed_on)
  where
    gone : List Entry
    gone = map entry_is r.older.items

    kept : List Entry
    kept = map entry_is r.newer.items

    parted : take more (gone ++ kept) ≡ take more gone ++ take rest kept
    parted = take_both more gone kept
        ∙ ap (λ n. take more gone ++ take n kept)
        (let l : length gone ≡ length r.older.items = length-map r.older.items entry_is in
        let e : more - length gone ≡ rest = omega (arith, l, over) in e)

    taken : take behind es ≡ (h.before ++ take more gone) ++ take rest kept
    taken = ap (take behind) h.whole ∙ take_both behind h.before (gone ++ kept)
        ∙ ap (λ l. l ++ take (behind - length h.before) (gone ++ kept))
        (take_all behind h.before (let l : r.left ≡ length h.before = h.left in omega (arith, l, at)))
        ∙ ap (λ n. h.before ++ take n (gone ++ kept))
        (let l : r.left ≡ length h.before = h.left in let e : behind - length h.before ≡ more = omega (arith, l, at) in e)
        ∙ ap (λ l. h.before ++ l) parted ∙ sym (append_assoc h.before (take more gone) (take rest kept))
