-- A tally of the exchanges so far, and of one more.
use Rattle.std.proofs.Common.{◌≡◌, ℕ, zero, suc, ◌+◌, List, [], ◌∷◌, ◌++◌, map, Bool, true, sym, ap, ◌∙◌}
use Rattle.std.proofs.lemmas.List.{length-append}
use Rattle.flat_machine.proofs.Lists.{map_joined}
use Rattle.exchange_counts.specs.declared.count.Count.{Count}
use Rattle.exchange_counts.specs.declared.tally.Tally.{Tally}
use Rattle.exchange_counts.specs.Tallies.{is_kept, made_of, rows_of}
use Rattle.worker_histories.specs.Shares.{Share}
use Rattle.bsp_machine.specs.declared.counted.CountedWorker.{CountedWorker}
use Rattle.bsp_machine.specs.Workers.{share_told, IsTold, AreKept}
use Rattle.bsp_machine.proofs.ListLemmas.{some_is}

-- nothing was counted
pub none_told : (x : Tally) → rows_of x ≡ [] → made_of x ≡ 0 → IsTold x []
none_told x rows made = record { made = made; rows = λ kept. ap (map share_told) rows }

-- more room, and all that was counted
pub still_told : {x y : Tally} {told : List Share} → is_kept y ≡ is_kept x → made_of y ≡ made_of x → rows_of y ≡ rows_of x →
    IsTold x told → IsTold y told
still_told kept made rows t = record {
  made = made ∙ t.made;
  rows = λ h. ap (map share_told) rows ∙ t.rows (sym kept ∙ h);
}

-- one exchange more
pub one_more_told : {x y : Tally} {told : List Share} (count : Count) → is_kept y ≡ is_kept x → made_of y ≡ made_of x + 1 →
    (is_kept x ≡ true → rows_of y ≡ rows_of x ++ count ∷ []) → IsTold x told → IsTold y (told ++ share_told count ∷ [])
one_more_told {x} {y} {told} count kept made rows t = record {
  made = made ∙ ap (λ (k : ℕ). k + 1) t.made ∙ sym (length-append told (share_told count ∷ []));
  rows = λ h.
      let before = sym kept ∙ h in
      ap (map share_told) (rows before) ∙ map_joined share_told (rows_of x) (count ∷ [])
      ∙ ap (λ (ss : List Share). ss ++ share_told count ∷ []) (t.rows before);
}

-- one worker more before the others
pub one_more_kept : (kept : Bool) (x : CountedWorker) (xs : List CountedWorker) → is_kept x.counts ≡ kept → AreKept kept xs → AreKept
    kept (x ∷ xs)
one_more_kept kept x xs here all zero y e = ap (λ (z : CountedWorker). is_kept z.counts) (some_is y x (sym e)) ∙ here
one_more_kept kept x xs here all (suc w) y e = all w y e
