-- Positions that an attempt has gone along.
use Rattle.std.proofs.Common.{◌≡◌, ℕ, List, [], ◌∷◌, ◌++◌, length, Option, Some, None, refl, ap, sym, subst, ◌∙◌, ◌+◌, ◌≤◌, arith}
use Rattle.std.proofs.Common.{append_assoc, append-nil}
use Rattle.pram_meaning.specs.Attempt.{Attempt, Gives, Fails, Trail, and_then}
use Rattle.abstract_runs.specs.declared.findings.Findings.{Findings}
use Rattle.abstract_runs.specs.declared.reach.Reach.{Reach}
use Rattle.abstract_runs.specs.Finding.{AreKept, MayBy}
use Rattle.pram_values.specs.declared.kind.Kind.{Kind}
use Rattle.abstract_runs.specs.Tried.{AreRead, AreReadBefore, EndsAt, IsRead, IsReadIn, GoesAlong, GoesThrough, IsTried, IsLonger}

abbrev pub Reaches : Type 0
Reaches = List (Option Reach)

pub along_more : (rs more : Reaches) (t : Trail) → GoesAlong rs t → GoesAlong (rs ++ more) t
along_more rs more [] h = tt
along_more [] more (c ∷ t) h = absurd h
along_more (r ∷ rs) more (c ∷ t) h = (h.0, along_more rs more t h.1)

pub along_longer : (rs more : Reaches) (t : Trail) → IsLonger rs more → GoesAlong rs t → GoesAlong more t
along_longer rs more t l h = subst (λ m. GoesAlong m t) (sym l.1) (along_more rs l.0 t h)

before_more : (rs more : Reaches) (t : Trail) → GoesAlong rs t → AreReadBefore rs t → AreReadBefore (rs ++ more) t
before_more rs more [] h b = tt
before_more rs more (c ∷ []) h b = tt
before_more [] more (c ∷ d ∷ t) h b = absurd h
before_more (r ∷ rs) more (c ∷ d ∷ t) h b = (b.0, before_more rs more (d ∷ t) h.1 b.1)

pub ends_longer : (rs more : Reaches) (t : Trail) → IsLonger rs more → EndsAt rs t → EndsAt more t
ends_longer rs more t l h = record {
  along = along_longer rs more t l h.along;
  reads = subst (λ m. AreReadBefore m t) (sym l.1) (before_more rs l.0 t h.along h.reads);
}

along_next : (rs : Reaches) (t : Trail) (r : Option Reach) (c : Option ℕ) → GoesAlong rs t → length t ≡ length rs → IsReadIn r c →
    GoesAlong (rs ++ r ∷ []) (t ++ c ∷ [])
along_next [] [] r c h e i = (i, tt)
along_next (r' ∷ rs) [] r c h e i = absurd (omega (arith, e))
along_next [] (d ∷ t) r c h e i = absurd h
along_next (r' ∷ rs) (d ∷ t) r c h e i = (h.0, along_next rs t r c h.1 (omega (arith, e)) i)

length_next : {A : Type 0} (xs : List A) (x : A) → length (xs ++ x ∷ []) ≡ length xs + 1
length_next [] x = refl
length_next (y ∷ xs) x = let h = length_next xs x in omega (arith, h)

-- no position yet
pub nothing_yet : (rs : Reaches) → rs ≡ [] → GoesThrough rs []
nothing_yet rs e = record { along = tt; all = sym (ap length e); reads = subst (λ rs. AreRead rs []) (sym e) tt }

pub read_there : (r : Option Reach) (rs : Reaches) (c : Option ℕ) (t : Trail) → AreRead (r ∷ rs) (c ∷ t) → IsRead r c × AreRead rs t
read_there None rs c t h = (tt, h)
read_there (Some reach) rs None t h = absurd h
read_there (Some reach) rs (Some d) t h = (tt, h)

before_last : (rs : Reaches) (t : Trail) (r : Option Reach) (c : Option ℕ) → AreRead rs t → length t ≡ length rs →
    AreReadBefore (rs ++ r ∷ []) (t ++ c ∷ [])
before_last rs [] r c h e = tt
before_last [] (d ∷ t) r c h e = absurd (omega (arith, e))
before_last (q ∷ rs) (d ∷ []) r c h e = ((read_there q rs d [] h).0, tt)
before_last (q ∷ rs) (d ∷ b ∷ t) r c h e =
    let both = read_there q rs d (b ∷ t) h in (both.0, before_last rs (b ∷ t) r c both.1 (omega (arith, e)))

-- one position on, where the attempt may have failed
pub ends_last : (rs more : Reaches) (t : Trail) (r : Option Reach) (c : Option ℕ) → GoesThrough rs t → IsReadIn r c →
    more ≡ rs ++ r ∷ [] → EndsAt more (t ++ c ∷ [])
ends_last rs more t r c h i e = subst (λ m. EndsAt m (t ++ c ∷ [])) (sym e) (record {
  along = along_next rs t r c h.along h.all i;
  reads = before_last rs t r c h.reads h.all;
})

-- there the trail is as long as they are
pub last_position : (rs more : Reaches) (t : Trail) (r : Option Reach) (c : Option ℕ) → GoesThrough rs t → more ≡ rs ++ r ∷ [] →
    length more ≡ length (t ++ c ∷ [])
last_position rs more t r c h e = ap length e ∙ length_next rs r ∙ ap (λ n. n + 1) (sym h.all) ∙ sym (length_next t c)

-- what may come at the end of these positions may come there
pub may_last : (kind : Kind) (faults : Findings) (rs more : Reaches) (t : Trail) (r : Option Reach) (c : Option ℕ) → GoesThrough rs t →
    more ≡ rs ++ r ∷ [] → MayBy kind (length more) faults → MayBy kind (length (t ++ c ∷ [])) faults
may_last kind faults rs more t r c h e may = subst (λ n. MayBy kind n faults) (last_position rs more t r c h e) may

-- a trail is no longer than the positions along which it goes
pub along_short : (rs : Reaches) (t : Trail) → GoesAlong rs t → length t ≤ length rs
along_short rs [] h = omega arith
along_short [] (c ∷ t) h = absurd h
along_short (r ∷ rs) (c ∷ t) h = let l = along_short rs t h.1 in omega (arith, l)

read_last : (r : Option Reach) (c : Option ℕ) → IsRead r c → AreRead (r ∷ []) (c ∷ [])
read_last None c i = tt
read_last (Some reach) None i = i
read_last (Some reach) (Some c) i = tt

read_next : (rs : Reaches) (t : Trail) (r : Option Reach) (c : Option ℕ) → AreRead rs t → length t ≡ length rs → IsRead r c →
    AreRead (rs ++ r ∷ []) (t ++ c ∷ [])
read_next [] [] r c h e i = read_last r c i
read_next (q ∷ rs) [] r c h e i = absurd (omega (arith, e))
read_next [] (d ∷ t) r c h e i = absurd (omega (arith, e))
read_next (None ∷ rs) (d ∷ t) r c h e i = read_next rs t r c h (omega (arith, e)) i
read_next (Some reach ∷ rs) (None ∷ t) r c h e i = absurd h
read_next (Some reach ∷ rs) (Some d ∷ t) r c h e i = read_next rs t r c h (omega (arith, e)) i

-- one position on
pub through_next : (rs more : Reaches) (t : Trail) (r : Option Reach) (c : Option ℕ) → GoesThrough rs t → IsReadIn r c → IsRead r c →
    more ≡ rs ++ r ∷ [] →
    GoesThrough more (t ++ c ∷ [])
through_next rs more t r c h i read e = subst (λ m. GoesThrough m (t ++ c ∷ [])) (sym e) (record {
  along = along_next rs t r c h.along h.all i;
  all = length_next t c ∙ ap (λ n. n + 1) h.all ∙ sym (length_next rs r);
  reads = read_next rs t r c h.reads h.all read;
})

pub longer_next : (rs more : Reaches) (r : Option Reach) → more ≡ rs ++ r ∷ [] → IsLonger rs more
longer_next rs more r e = (r ∷ [], e)

pub longer_same : (rs : Reaches) → IsLonger rs rs
longer_same rs = ([], sym (append-nil rs))

pub longer_then : (rs some more : Reaches) → IsLonger rs some → IsLonger some more → IsLonger rs more
longer_then rs some more l m = (l.0 ++ m.0, m.1 ∙ ap (λ x. x ++ m.0) l.1 ∙ append_assoc rs l.0 m.0)

-- an attempt, and then another from what it gives
pub tried_then : {A B : Type 0} (P : A → Type 0) (Q : B → Type 0) (rs more : Reaches) (faults all : Findings) (a : Attempt A)
    (f : Trail → A → Attempt B) → IsTried P rs faults a → IsLonger rs more → AreKept faults all →
    ((t : Trail) (x : A) → P x → GoesThrough rs t → IsTried Q more all (f t x)) → IsTried Q more all (and_then a f)
tried_then P Q rs more faults all (Gives t x) f h l k g = g t x h.0 h.1
tried_then P Q rs more faults all (Fails t kind) f h l k g = (ends_longer rs more t l h.0, k kind (length t) h.1)
