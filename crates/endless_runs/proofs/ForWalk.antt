-- What is known of a `for`, from what is known of its turns.
use Rattle.std.proofs.Common.{◌≡◌, ◌≤◌, ◌<ℤ◌, ◌≤ℤ◌, ◌∙◌, ℕ, ℤ, pos, ◌+ℤ◌, ◌++◌, [], ◌∷◌, List, Global, Vec, Result, Ok, Err, ap, arith}
use Rattle.std.proofs.Common.{refl, slice_set, subst, sym}
use Rattle.std.proofs.lemmas.Int.{ints}
use Rattle.pram_model.specs.Layout.{width}
use Rattle.pram_check.specs.Checked.{Checked}
use Rattle.pram_tokens.specs.declared.token.Location.{Location}
use Rattle.pram_names.specs.declared.body.Expression.{Expression}
use Rattle.pram_names.specs.declared.body.Statement.{For, Statement}
use Rattle.pram_names.specs.declared.body.Statement.TheBlock.{hidden-the_row-Statement-0}
use Rattle.pram_meaning.specs.Attempt.{attempt_bounds}
use Rattle.pram_meaning.specs.Bounded.{Goes, counted, evaluated, perform_list, perform_row}
use Rattle.pram_meaning.specs.Meaning.{Begins, Ends, Evaluated, ForTurns, Means, MeansList, Then, on}
use Rattle.pram_meaning.specs.Moments.{Closed, Moment, behind, bounds_moment, closing, for_moments, for_turns_moments, list_moments}
use Rattle.pram_meaning.specs.Moments.{moments}
use Rattle.pram_meaning.specs.Moments.{setting_moment}
use Rattle.pram_meaning.specs.Store.{State, seen, with_uniform}
use Rattle.pram_meaning.proofs.Agree.{Shows, agree_counted, agree_evaluated}
use Rattle.pram_meaning.proofs.Blocks.{block_is}
use Rattle.pram_meaning.proofs.ForLoops.{width_more, width_none}
use Rattle.pram_meaning.proofs.HeardBlocks.{told_is}
use Rattle.endless_runs.specs.Endless.{IsEndless}
use Rattle.endless_runs.specs.Search.{IsKnown, RunPart, of_for, of_list, of_statement, of_turns}
use Rattle.endless_runs.specs.declared.stop.Stop.{Stop}
use Rattle.endless_runs.specs.declared.stop.Stop.TheVariants as stop
use Rattle.endless_runs.proofs.Cycles.{IsSure, endless_first, endless_then, sure}
use Rattle.endless_runs.proofs.Told.{Holds, IsWithin, behind_goes, first_within, holds_on, list_goes, shown_in}
use Rattle.endless_runs.proofs.Walk.{Leads, block_means, leads_here, sure_list}

-- ---- the bounds

pub ran_bounds : (w : Checked) (n line : ℕ) (e f : Expression) (m new : State) (r : ℤ × ℤ) → m.count ≤ n →
    evaluated n line (λ m. attempt_bounds (seen w m) e f) m ≡ Goes r new →
    Evaluated line (λ m. attempt_bounds (seen w m) e f) m (Ends r new) × (new.count ≤ n)
ran_bounds w n line e f m new r low is =
    subst (Shows n (Evaluated line (λ m. attempt_bounds (seen w m) e f) m)) is
    ((agree_evaluated n line (λ m. attempt_bounds (seen w m) e f)).shows m low)

sure_bounds : (w : Checked) (line : ℕ) (e f : Expression) → IsSure (Evaluated line (λ m. attempt_bounds (seen w m) e f))
sure_bounds w line e f = sure (Evaluated line (λ m. attempt_bounds (seen w m) e f))
    (λ n. evaluated n line (λ m. attempt_bounds (seen w m) e f))
    (λ n. agree_evaluated n line (λ m. attempt_bounds (seen w m) e f))

bounds_hold : (w : Checked) (here : Location) (x : ℕ) (e f : Expression) (body : List Statement) (m k : State) (a z : ℤ) →
    Evaluated here.line (λ m. attempt_bounds (seen w m) e f) m (Ends (a, z) k) →
    Holds (of_for w here e f x body m).told (of_turns w here a z x body k).told
bounds_hold w here x e f body m k a z p =
    let grows : m.count ≤ k.count = (agree_evaluated 0 here.line (λ m. attempt_bounds (seen w m) e f)).grows m (Ends (a, z) k) p in (
      k.count,
      λ n low. behind_goes (bounds_moment w n here e f m) (evaluated n here.line (λ m. attempt_bounds (seen w m) e f) m)
          (λ r. for_turns_moments n here (width r.0 r.1) x r.0 (list_moments w n body) (perform_list w n body)) (a, z) k
          ((agree_evaluated n here.line (λ m. attempt_bounds (seen w m) e f)).comes m (omega (arith, grows, low)) (Ends (a, z) k) p low),
    )

pub bounds_known : (w : Checked) (here : Location) (x : ℕ) (e f : Expression) (body : List Statement) (m k new : State) (a z : ℤ)
    (r : Result (Unit {0}) Stop) → Evaluated here.line (λ m. attempt_bounds (seen w m) e f) m (Ends (a, z) k) →
    IsKnown (of_turns w here a z x body k) new r → IsKnown (of_for w here e f x body m) new r
bounds_known w here x e f body m k new a z (Ok u) p known = on p known
bounds_known w here x e f body m k new a z (Err (stop.Cycle c)) p known = (
  endless_then (Evaluated here.line (λ m. attempt_bounds (seen w m) e f)) (λ r. ForTurns (width r.0 r.1) x r.0 (MeansList w body))
      (sure_bounds w here.line e f) m k (a, z) p known.0,
  shown_in (of_for w here e f x body m).told (of_turns w here a z x body k).told c (bounds_hold w here x e f body m k a z p) known.1,
)
bounds_known w here x e f body m k new a z (Err stop.Unknown) p known = tt

pub for_known : (w : Checked) (here : Location) (s : Statement) (x : ℕ) (e f : Expression) (body : Vec Statement Global) (m new : State)
    (r : Result (Unit {0}) Stop) → s ≡ For here x e f body → IsKnown (of_for w here e f x body.items m) new r →
    IsKnown (of_statement w s m) new r
for_known w here s x e f body m new r is known = subst (λ p. IsKnown p new r) (sym same) known
  where
    means : Means w s m ≡ (of_for w here e f x body.items m).means
    means = ap (λ s. Means w s m) is ∙ ap (λ B. Then (ℤ × ℤ) (Unit {0}) (Evaluated here.line (λ m. attempt_bounds (seen w m) e f) m)
        (λ r. ForTurns (width r.0 r.1) x r.0 B)) (block_means w body)

    told : (n : ℕ) → moments w n s m ≡ (of_for w here e f x body.items m).told n
    told n = ap (λ s. moments w n s m) is
        ∙ ap (λ g. for_moments w n here x e f g (perform_row w n (hidden-the_row-Statement-0 body)) m) (told_is w n body)
        ∙ ap (λ g. for_moments w n here x e f (list_moments w n body.items) g m) (block_is w n body)

    same : of_statement w s m ≡ of_for w here e f x body.items m
    same = λ j. record { means = means j; told = λ n. told n j }

-- ---- the turns

-- where a `for` stands that began at `first`, and comes to `value`, wherever it is in the text
pub record InFor (w : Checked) (x : ℕ) (body : List Statement) (first last : ℤ) (start : State) (value end : ℤ) (now : State) : Type 0 where
  pub leads : (here : Location) → Leads (of_turns w here first last x body start) (of_turns w here value last x body now)
  pub within : value ≤ℤ last
  pub to : end ≡ last

pub for_starts : (w : Checked) (x : ℕ) (body : List Statement) (first last : ℤ) (m : State) → first ≤ℤ last →
    InFor w x body first last m first last m
for_starts w x body first last m low = record { leads = λ here. leads_here (of_turns w here first last x body m); within = low; to = refl }

pub for_is_empty : (w : Checked) (x : ℕ) (body : List Statement) (first last : ℤ) (m : State) → last <ℤ first → (here : Location) →
    (of_turns w here first last x body m).means (Ends tt m)
for_is_empty w x body first last m high here =
    subst (λ k. ForTurns k x first (MeansList w body) m (Ends tt m)) (sym (width_none first last high)) refl

-- one statement more
pub ran_one : (n : ℕ) (m new : State) → m.count ≤ n → counted n m ≡ Goes tt new → Begins m (Ends tt new) × (new.count ≤ n)
ran_one n m new low is = subst (Shows n (Begins m)) is ((agree_counted n).shows m low)

-- the store with another value of a variable
pub with_variable : (m : State) (x : ℕ) (v : ℤ) (uniforms : List ℤ) → uniforms ≡ slice_set m.uniforms x v →
    record m { uniforms = uniforms } ≡ with_uniform x v m
with_variable m x v uniforms is = ap (λ u. record m { uniforms = u }) is

sure_begins : IsSure Begins
sure_begins = sure Begins counted agree_counted

module _ (w : Checked) (x : ℕ) (body : List Statement) where
  -- those from the next number on
  abbrev rest_told : Location → ℕ → (value last : ℤ) → State → List Moment
  rest_told here n value last =
      for_turns_moments n here (width (value +ℤ pos 1) last) x (value +ℤ pos 1) (list_moments w n body) (perform_list w n body)

  abbrev turn_told : Location → ℕ → (value last : ℤ) → State → List Moment
  turn_told here n value last m = closing (list_moments w n body (with_uniform x value m))
      ++ behind (perform_list w n body (with_uniform x value m)) (λ u. rest_told here n value last)

  -- a turn, and behind it those from the next number on
  Turn : Location → (value last : ℤ) → State → RunPart
  Turn here value last now = record {
    means = Then (Unit {0}) (Unit {0}) (Begins now) (λ u m. Then (Unit {0}) (Unit {0}) (MeansList w body (with_uniform x value m))
        (λ u. ForTurns (width (value +ℤ pos 1) last) x (value +ℤ pos 1) (MeansList w body)));
    told = λ n. setting_moment n here x value now ++ behind (counted n now) (λ u. turn_told here n value last);
  }

  next_turn : (first last value end : ℤ) (start now : State) → InFor w x body first last start value end now → (here : Location) →
      Leads (of_turns w here first last x body start) (Turn here value last now)
  unfolding Turn
  next_turn first last value end start now i here =
      subst (λ k. Leads (of_turns w here first last x body start) (record {
        means = ForTurns k x value (MeansList w body) now;
        told = λ n. for_turns_moments n here k x value (list_moments w n body) (perform_list w n body) now;
      })) (width_more value last i.within) (i.leads here)

  turn_ends : (here : Location) (value last : ℤ) (now mid set new k : State) → Begins now (Ends tt mid) → set ≡ with_uniform x value mid →
      MeansList w body set (Ends tt new) → ForTurns (width (value +ℤ pos 1) last) x (value +ℤ pos 1) (MeansList w body) new (Ends tt k) →
      (Turn here value last now).means (Ends tt k)
  unfolding Turn
  turn_ends here value last now mid set new k b is p q = on b (on (subst (λ m. MeansList w body m (Ends tt new)) is p) q)

  turn_endless : (here : Location) (value last : ℤ) (now mid set : State) → Begins now (Ends tt mid) → set ≡ with_uniform x value mid →
      IsEndless (Then (Unit {0}) (Unit {0}) (MeansList w body set)
      (λ u. ForTurns (width (value +ℤ pos 1) last) x (value +ℤ pos 1) (MeansList w body))) → IsEndless (Turn here value last now).means
  unfolding Turn
  turn_endless here value last now mid set b is never =
      endless_then Begins (λ u m. Then (Unit {0}) (Unit {0}) (MeansList w body (with_uniform x value m))
      (λ u. ForTurns (width (value +ℤ pos 1) last) x (value +ℤ pos 1) (MeansList w body))) sure_begins now mid tt b
      (subst (λ m. IsEndless (Then (Unit {0}) (Unit {0}) (MeansList w body m)
      (λ u. ForTurns (width (value +ℤ pos 1) last) x (value +ℤ pos 1) (MeansList w body)))) is never)

  -- its variable is set, as the bound allows it
  set_holds : (here : Location) (value last : ℤ) (now mid set : State) → Begins now (Ends tt mid) → set ≡ with_uniform x value mid →
      Holds (Turn here value last now).told (λ n. closing (list_moments w n body set)
      ++ behind (perform_list w n body set) (λ u. rest_told here n value last))
  unfolding Turn
  set_holds here value last now mid set b is =
      let grows : now.count ≤ mid.count = (agree_counted 0).grows now (Ends tt mid) b in (
        mid.count,
        λ n low. subst (λ m. IsWithin (closing (list_moments w n body m)
            ++ behind (perform_list w n body m) (λ u. rest_told here n value last)) ((Turn here value last now).told n)) (sym is)
            (behind_goes (setting_moment n here x value now) (counted n now) (λ u. turn_told here n value last) tt mid
            ((agree_counted n).comes now (omega (arith, grows, low)) (Ends tt mid) b low)),
      )

  turn_holds : (here : Location) (value last : ℤ) (now mid set new : State) → Begins now (Ends tt mid) → set ≡ with_uniform x value mid →
      MeansList w body set (Ends tt new) →
      Holds (Turn here value last now).told (λ n. rest_told here n value last new)
  turn_holds here value last now mid set new b is p =
      holds_on (Turn here value last now).told (λ n. closing (list_moments w n body set)
      ++ behind (perform_list w n body set) (λ u. rest_told here n value last)) (λ n. rest_told here n value last new)
      (set_holds here value last now mid set b is) (
        new.count,
        λ n low. behind_goes (closing (list_moments w n body set)) (perform_list w n body set)
            (λ u. rest_told here n value last) tt new (list_goes w n body set new p low),
      )

  body_holds : (here : Location) (value last : ℤ) (now mid set : State) → Begins now (Ends tt mid) → set ≡ with_uniform x value mid →
      Holds (Turn here value last now).told (of_list w body set).told
  body_holds here value last now mid set b is =
      holds_on (Turn here value last now).told (λ n. closing (list_moments w n body set)
      ++ behind (perform_list w n body set) (λ u. rest_told here n value last)) (of_list w body set).told
      (set_holds here value last now mid set b is) (
        0,
        λ n low m has. first_within (closing (list_moments w n body set))
            (behind (perform_list w n body set) (λ u. rest_told here n value last)) m
            (first_within (list_moments w n body set) (Closed ∷ []) m has),
      )

  pub for_goes : (first last value end next till : ℤ) (start now mid set new : State) → InFor w x body first last start value end now →
      Begins now (Ends tt mid) → set ≡ with_uniform x value mid → MeansList w body set (Ends tt new) → next ≡ value +ℤ pos 1 → till ≡ end →
      ¬ (value ≡ end) → InFor w x body first last start next till new
  for_goes first last value end next till start now mid set new i b is p k t h = record {
    leads = λ here. let leads = next_turn first last value end start now i here in
        subst (λ v. Leads (of_turns w here first last x body start) (of_turns w here v last x body new)) (sym k) (record {
          ends = λ to q. leads.ends to (turn_ends here value last now mid set new to b is p q);
          endless = λ never. leads.endless (turn_endless here value last now mid set b is
              (endless_then (MeansList w body) (λ u. ForTurns (width (value +ℤ pos 1) last) x (value +ℤ pos 1) (MeansList w body))
              (sure_list w body) set new tt p never));
          told = holds_on (of_turns w here first last x body start).told (Turn here value last now).told
              (λ n. rest_told here n value last new) leads.told (turn_holds here value last now mid set new b is p);
        });
    within = let l = i.within in let m : end ≡ last = i.to in grind (arith, ints);
    to = t ∙ i.to;
  }

  pub for_ends : (first last value end : ℤ) (start now mid set new : State) → InFor w x body first last start value end now →
      Begins now (Ends tt mid) → set ≡ with_uniform x value mid → MeansList w body set (Ends tt new) → value ≡ end → (here : Location) →
      (of_turns w here first last x body start).means (Ends tt new)
  for_ends first last value end start now mid set new i b is p at_end here =
      (next_turn first last value end start now i here).ends new (turn_ends here value last now mid set new new b is p
      (subst (λ k. ForTurns k x (value +ℤ pos 1) (MeansList w body) new (Ends tt new))
      (sym (width_none (value +ℤ pos 1) last (let m : end ≡ last = i.to in grind (arith, ints)))) refl))

  pub for_stops : (first last value end : ℤ) (start now mid set new : State) (why : Stop) → InFor w x body first last start value end now →
      Begins now (Ends tt mid) → set ≡ with_uniform x value mid → IsKnown (of_list w body set) new (Err why) → (here : Location) →
      IsKnown (of_turns w here first last x body start) new (Err why)
  for_stops first last value end start now mid set new (stop.Cycle c) i b is known here =
      let leads = next_turn first last value end start now i here in (
        leads.endless (turn_endless here value last now mid set b is
            (endless_first (MeansList w body set) (λ u. ForTurns (width (value +ℤ pos 1) last) x (value +ℤ pos 1) (MeansList w body))
            known.0)),
        shown_in (of_turns w here first last x body start).told (of_list w body set).told c
            (holds_on (of_turns w here first last x body start).told (Turn here value last now).told (of_list w body set).told leads.told
            (body_holds here value last now mid set b is)) known.1,
      )
  for_stops first last value end start now mid set new stop.Unknown i b is known here = tt
