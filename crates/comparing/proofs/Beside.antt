-- The first end, in the order in which the rules are gone through, is the end beside which all are told.
use Rattle.std.proofs.Common.{◌≡◌, ◌∙◌, List, [], ◌∷◌, ap, refl, sym}
use Rattle.pram_model.specs.declared.rule.Rule.{Rule}
use Rattle.pram_model.specs.declared.rule.Rule.TheVariants.{Erew, Crew, Common, Priority, Sum}
use Rattle.write_rules.specs.Verdict.{Verdict, Ended, Faulted, GoesOn}
use Rattle.rule_laws.specs.Order.{from_crew, from_erew, to_priority}
use Rattle.comparing.specs.Compared.{end_beside}
use Rattle.comparing.specs.RulesFound.{first_end}
use Rattle.comparing.specs.RulesTold.{ahead}
use Rattle.comparing.proofs.Told.{AreEndsKept, IsEnd}

-- a verdict may go before one that is no other end
before : (x a : Verdict) (rest : List Verdict) → (IsEnd a → x ≡ a) → first_end (x ∷ a ∷ rest) ≡ first_end (a ∷ x ∷ rest)
before x (Ended output memory) rest same = ap (λ y. first_end (y ∷ Ended output memory ∷ rest)) (same tt)
before (Ended out mem) (Faulted fault output) rest same = refl
before (Faulted other out) (Faulted fault output) rest same = refl
before (GoesOn out) (Faulted fault output) rest same = refl
before (Ended out mem) (GoesOn output) rest same = refl
before (Faulted other out) (GoesOn output) rest same = refl
before (GoesOn out) (GoesOn output) rest same = refl

twice : (x : Verdict) (rest : List Verdict) → first_end (x ∷ x ∷ rest) ≡ first_end (x ∷ rest)
twice (Ended output memory) rest = refl
twice (Faulted fault output) rest = refl
twice (GoesOn output) rest = refl

behind : (x : Verdict) (vs ws : List Verdict) → first_end vs ≡ first_end ws → first_end (x ∷ vs) ≡ first_end (x ∷ ws)
behind (Ended output memory) vs ws same = refl
behind (Faulted fault output) vs ws same = same
behind (GoesOn output) vs ws same = same

module _ (v : Rule → Verdict) (kept : AreEndsKept v) where
  abbrev a : Verdict
  a = v Erew

  abbrev b : Verdict
  b = v Crew

  abbrev c : Verdict
  c = v Common

  abbrev d : Verdict
  d = v Priority

  abbrev e : Verdict
  e = v Sum

  -- crew stands there twice
  plain : first_end (a ∷ b ∷ b ∷ c ∷ d ∷ e ∷ []) ≡ first_end (a ∷ b ∷ c ∷ d ∷ e ∷ [])
  plain = behind a (b ∷ b ∷ c ∷ d ∷ e ∷ []) (b ∷ c ∷ d ∷ e ∷ []) (twice b (c ∷ d ∷ e ∷ []))

  from_common : first_end (c ∷ a ∷ b ∷ c ∷ d ∷ e ∷ []) ≡ first_end (a ∷ b ∷ c ∷ d ∷ e ∷ [])
  from_common =
      before c a (b ∷ c ∷ d ∷ e ∷ []) (kept Erew Common from_erew)
      ∙ behind a (c ∷ b ∷ c ∷ d ∷ e ∷ []) (b ∷ c ∷ c ∷ d ∷ e ∷ []) (before c b (c ∷ d ∷ e ∷ []) (kept Crew Common (from_crew refl)))
      ∙ behind a (b ∷ c ∷ c ∷ d ∷ e ∷ []) (b ∷ c ∷ d ∷ e ∷ [])
      (behind b (c ∷ c ∷ d ∷ e ∷ []) (c ∷ d ∷ e ∷ []) (twice c (d ∷ e ∷ [])))

  from_priority : first_end (d ∷ a ∷ b ∷ c ∷ d ∷ e ∷ []) ≡ first_end (a ∷ b ∷ c ∷ d ∷ e ∷ [])
  from_priority =
      before d a (b ∷ c ∷ d ∷ e ∷ []) (kept Erew Priority from_erew)
      ∙ behind a (d ∷ b ∷ c ∷ d ∷ e ∷ []) (b ∷ d ∷ c ∷ d ∷ e ∷ []) (before d b (c ∷ d ∷ e ∷ []) (kept Crew Priority (from_crew refl)))
      ∙ behind a (b ∷ d ∷ c ∷ d ∷ e ∷ []) (b ∷ c ∷ d ∷ e ∷ [])
      (behind b (d ∷ c ∷ d ∷ e ∷ []) (c ∷ d ∷ e ∷ [])
      (before d c (d ∷ e ∷ []) (kept Common Priority to_priority) ∙ behind c (d ∷ d ∷ e ∷ []) (d ∷ e ∷ []) (twice d (e ∷ []))))

  from_sum : first_end (e ∷ a ∷ b ∷ c ∷ d ∷ e ∷ []) ≡ first_end (a ∷ b ∷ e ∷ c ∷ d ∷ e ∷ [])
  from_sum =
      before e a (b ∷ c ∷ d ∷ e ∷ []) (kept Erew Sum from_erew)
      ∙ behind a (e ∷ b ∷ c ∷ d ∷ e ∷ []) (b ∷ e ∷ c ∷ d ∷ e ∷ []) (before e b (c ∷ d ∷ e ∷ []) (kept Crew Sum (from_crew refl)))

  pub beside : (declared : Rule) → first_end (a ∷ b ∷ v (ahead declared) ∷ c ∷ d ∷ e ∷ []) ≡ end_beside declared v
  beside Erew = plain ∙ sym (twice a (b ∷ c ∷ d ∷ e ∷ []))
  beside Crew = sym (before b a (b ∷ c ∷ d ∷ e ∷ []) (kept Erew Crew from_erew))
  beside Common = plain ∙ sym from_common
  beside Priority = plain ∙ sym from_priority
  beside Sum = sym from_sum
