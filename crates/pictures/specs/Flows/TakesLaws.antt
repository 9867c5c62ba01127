-- The laws of entries that are taken for a picture: it is the same behind none, and entries come behind entries.
use Rattle.std.proofs.Common.{◌≡◌, Bool, List, [], ◌++◌, append_assoc, append-nil, subst, sym, Bor}
use Rattle.pram_check.specs.Checked.{Checked}
use Rattle.journal.specs.Entries.{Entry}
use Rattle.pictures.specs.Flows.Asides.{asides_in}
use Rattle.pictures.specs.Flows.Taken.{HasTaken}
use Rattle.pictures.specs.declared.flows.flow.Flow.{Flow}
use Rattle.pictures.specs.Flows.Takes.{Takes}

pub takes_nothing : (aside : Entry → List Bool) (f : Flow) → Takes aside f f []
takes_nothing aside f = record {
  taken = λ opening from to before h. subst (λ (es : List Entry). HasTaken aside opening from to es f) (sym (append-nil before)) h;
}

both_taken : (aside : Entry → List Bool) (f g h : Flow) (xs ys : List Entry) → Takes aside f g xs → Takes aside g h ys →
    Takes aside f h (xs ++ ys)
both_taken aside f g h xs ys a b = record {
  taken = λ opening from to before t.
      subst (λ (es : List Entry). HasTaken aside opening from to es h) (append_assoc before xs ys)
      (b.taken opening from to (before ++ xs) (a.taken opening from to before t));
}

pub takes_on : (p q : Bor Checked) (f g h : Flow) (xs ys : List Entry) → q ≡ p → Takes (asides_in p.now.body) f g xs →
    Takes (asides_in q.now.body) g h ys → Takes (asides_in p.now.body) f h (xs ++ ys)
takes_on p q f g h xs ys same a b =
    both_taken (asides_in p.now.body) f g h xs ys a (subst (λ (p : Bor Checked). Takes (asides_in p.now.body) g h ys) same b)
