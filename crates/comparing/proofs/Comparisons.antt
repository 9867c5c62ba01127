-- The runs under the five rules, one behind the other, are a comparison.
use Rattle.std.proofs.Common.{◌≡◌, ◌∙◌, ℕ, List, [], ◌∷◌, ap, subst, sym}
use Rattle.std.specs.Prelude.{ℤ, Option, None}
use Rattle.pram_model.specs.declared.rule.Rule.{Rule}
use Rattle.pram_model.specs.declared.rule.Rule.TheVariants.{Erew, Crew, Common, Priority, Sum}
use Rattle.pram_check.specs.Bounded.{IsBounded}
use Rattle.pram_check.specs.Checked.{Checked}
use Rattle.pram_check.specs.OtherRule.{under}
use Rattle.write_rules.specs.Verdict.{Verdict}
use Rattle.pram_meaning.specs.Outcome.{IsOutcome}
use Rattle.pram_meaning.specs.Values.{AreValues}
use Rattle.pram_meaning.proofs.OneOutcome.{one_outcome}
use Rattle.comparing.specs.Compared.{IsComparison, end_beside, finding_of}
use Rattle.comparing.specs.FirstEnd.{or_end}
use Rattle.comparing.specs.RulesFound.{IsFound, first_end}
use Rattle.comparing.specs.Judged.{IsFoundUnder, IsJudged}
use Rattle.comparing.specs.RulesTold.{ahead}
use Rattle.comparing.specs.declared.rules.UnderRules.{UnderRules}
use Rattle.comparing.specs.declared.finding.Finding.{Finding}
use Rattle.comparing.proofs.Beside.{beside}
use Rattle.comparing.proofs.Told.{ends_kept, settled}
use Rattle.comparing.proofs.FirstEnds.{ends_are_first, ends_from, stays_found}

-- a program that was under another rule before
pub next : (q r : Rule) (p one two : Checked) → one ≡ under q p → two ≡ under r one → two ≡ under r p
next q r p one two first second = second ∙ ap (under r) first

-- what is found of a program under a rule is found of it where it is under another one
pub moved : (q r : Rule) (p one : Checked) (input : List ℤ) (n : ℕ) (f g : Option (List ℤ × List ℤ)) (x : Finding) →
    one ≡ under q p → IsFoundUnder r p input n f x g → IsFoundUnder r one input n f x g
moved q r p one input n f g x first is = subst (λ (s : Checked). IsFoundUnder r s input n f x g) (sym first) is

-- what is found of a program is found of what it was under another rule
pub found_under : (q r : Rule) (p one : Checked) (input : List ℤ) (n : ℕ) (f g : Option (List ℤ × List ℤ)) (x : Finding) →
    one ≡ under q p → IsFoundUnder r one input n f x g → IsFoundUnder r p input n f x g
found_under q r p one input n f g x first is = subst (λ (s : Checked). IsFoundUnder r s input n f x g) first is

-- what was found is known of the program as it is then
pub then_known : (r : Rule) (p one : Checked) (input : List ℤ) (n : ℕ) (f g : Option (List ℤ × List ℤ)) (x : Finding) →
    one ≡ under r p → IsFoundUnder r p input n f x g → IsFoundUnder r one input n g x g
then_known r p one input n f g x first is = moved r r p one input n g g x first (settled r p input n f g x is)

-- what is found of a run is found of it beside the first end of all runs
in_all : (f g : Option (List ℤ × List ℤ)) (v : Verdict) (x : Finding) (vs : List Verdict) → IsJudged f v x g →
    IsFound (ends_from f (v ∷ vs)) v x
in_all f g v x vs is = stays_found f v vs x (subst (λ h. IsFound h v x) is.first is.found)

-- five verdicts by their rules
abbrev pub by_rule : (a b c d e : Verdict) → Rule → Verdict
by_rule a b c d e Erew = a
by_rule a b c d e Crew = b
by_rule a b c d e Common = c
by_rule a b c d e Priority = d
by_rule a b c d e Sum = e

module _ (p : Checked) (input : List ℤ) (n : ℕ) (found : UnderRules) (early : Finding) (a b z c d e : Verdict)
    (none one two three four five six : Option (List ℤ × List ℤ)) (nothing : none ≡ None) (at_erew : IsJudged none a found.erew one)
    (at_crew : IsJudged one b found.crew two) (at_ahead : IsJudged two z early three) (at_common : IsJudged three c found.common four)
    (at_priority : IsJudged four d found.priority five) (at_sum : IsJudged five e found.sum six) where
  abbrev all : List Verdict
  all = a ∷ b ∷ z ∷ c ∷ d ∷ e ∷ []

  -- the first ends behind the runs
  behind_erew : one ≡ or_end None a
  behind_erew = at_erew.first ∙ ap (λ f. or_end f a) nothing

  behind_crew : two ≡ or_end (or_end None a) b
  behind_crew = at_crew.first ∙ ap (λ f. or_end f b) behind_erew

  behind_ahead : three ≡ or_end (or_end (or_end None a) b) z
  behind_ahead = at_ahead.first ∙ ap (λ f. or_end f z) behind_crew

  behind_common : four ≡ or_end (or_end (or_end (or_end None a) b) z) c
  behind_common = at_common.first ∙ ap (λ f. or_end f c) behind_ahead

  behind_priority : five ≡ or_end (or_end (or_end (or_end (or_end None a) b) z) c) d
  behind_priority = at_priority.first ∙ ap (λ f. or_end f d) behind_common

  -- a run among all of them
  among : (f g h : Option (List ℤ × List ℤ)) (v : Verdict) (x : Finding) (vs : List Verdict) → f ≡ h → IsJudged f v x g →
      ends_from h (v ∷ vs) ≡ first_end all → IsFound (first_end all) v x
  among f g h v x vs same is whole =
      subst (λ k. IsFound k v x) (ap (λ k. ends_from k (v ∷ vs)) same ∙ whole) (in_all f g v x vs is)

  all_found : (r : Rule) → IsFound (first_end all) (by_rule a b c d e r) (finding_of found r)
  all_found Erew = among none one None a found.erew (b ∷ z ∷ c ∷ d ∷ e ∷ []) nothing at_erew (ends_are_first all)
  all_found Crew = among one two (or_end None a) b found.crew (z ∷ c ∷ d ∷ e ∷ []) behind_erew at_crew (ends_are_first all)
  all_found Common =
      among three four (or_end (or_end (or_end None a) b) z) c found.common (d ∷ e ∷ []) behind_ahead at_common (ends_are_first all)
  all_found Priority =
      among four five (or_end (or_end (or_end (or_end None a) b) z) c) d found.priority (e ∷ []) behind_common at_priority
      (ends_are_first all)
  all_found Sum =
      among five six (or_end (or_end (or_end (or_end (or_end None a) b) z) c) d) e found.sum [] behind_priority at_sum
      (ends_are_first all)

  -- the first end among them is that beside which all are told, since outcomes are kept from rule to rule
  pub compared : found.declared ≡ p.rule → IsBounded p → AreValues input → IsOutcome (under (ahead p.rule) p) input n z →
      ((r : Rule) → IsOutcome (under r p) input n (by_rule a b c d e r)) → IsComparison p input n found
  compared declared bounded values early_is outcomes =
      let v = by_rule a b c d e in
      let one_alone = one_outcome (under (ahead p.rule) p) input n in
      let same : z ≡ v (ahead p.rule) = one_alone.alone z early_is ∙ sym (one_alone.alone (v (ahead p.rule)) (outcomes (ahead p.rule))) in
      let first : first_end all ≡ end_beside p.rule v =
      ap (λ y. first_end (a ∷ b ∷ y ∷ c ∷ d ∷ e ∷ [])) same ∙ beside v (ends_kept p input n bounded values v outcomes) p.rule in
      record {
        verdict = v;
        outcome = outcomes;
        declared = declared;
        found = λ r. subst (λ f. IsFound f (v r) (finding_of found r)) first (all_found r);
      }
