use Rattle.std.proofs.Common.{◌∙◌, ℕ, List, ap, inl, inr, refl, subst, sym}
use Rattle.pram_check.specs.Checked.{Checked}
use Rattle.pram_tokens.specs.Plain.{IsPlain}
use Rattle.command_pairs.specs.Limits.{AreMostProcs, HasNoMostProcs, HaveNoLimits}
use Rattle.command_pairs.specs.Pairs.{IsCompared, IsFoundOn, IsRefusedPair, drawn_beside, drawn_of, under_rule}
use Rattle.command_pairs.proofs.PairInputs.{pair_refused, words_held}
use Rattle.command_facts.proofs.Programs.{of_text}
use Rattle.command_facts.proofs.Same.{named_held, named_stops, same_through, text_held}
use Rattle.command_requests.proofs.Sizes.{hands_on}
use Rattle.command_pairs.proofs.pairing.find_pair.Goals as goal

pub compare_pair-requires : goal.compare_pair-requires
compare_pair-requires g c = record { plain = subst IsPlain (sym c.deref-2.ensures.value) c.in_ok-written.ensures.plain }

pub returns-in_err-precondition-clause-refused : goal.returns-in_err-precondition-clause-refused
returns-in_err-precondition-clause-refused g c =
    let before = g.S.Sources.holds c.args.sources.now in
    let then = g.S.Sources.holds c.load.new.sources in
    let now = g.S.Sources.holds c.load_with_text.new.sources in
    let same = same_through before then now c.load_with_text.ensures.same c.load.ensures.same in
    let h = c.in_err-precondition.field-0.0 in
    hands_on _ h _ c.from_residual-in_err-precondition.ensures.1
    (inr (inr (inl (named_stops now before same c.args.words.now.precondition h c.in_err-precondition.ensures.refused))))

pub returns-in_err-most_procs-clause-refused : goal.returns-in_err-most_procs-clause-refused
returns-in_err-most_procs-clause-refused g c =
    let before = g.S.Sources.holds c.args.sources.now in
    let then = g.S.Sources.holds c.load.new.sources in
    let next = g.S.Sources.holds c.load_with_text.new.sources in
    let through = same_through before then next c.load_with_text.ensures.same c.load.ensures.same in
    let words = c.args.words.now in
    let written = c.in_ok-written.written in
    let text = c.in_ok-written.text.items in
    let h = c.in_err-most_procs.field-0.0 in
    let second = text_held then before c.load.ensures.same words.second text written c.in_ok-written.ensures.loaded in
    hands_on _ h _ c.from_residual-in_err-most_procs.ensures.1 (inr (inr (inr (record {
      first = c.in_ok-first.first;
      written = written;
      second = under_rule words.under written;
      is_first = c.in_ok-first.ensures.loaded;
      is_second = of_text before words.second text written second;
      ran = refl;
      precondition = c.in_ok-precondition.precondition;
      is_precondition = named_held next before through words.precondition c.in_ok-precondition.precondition
          c.in_ok-precondition.ensures.loaded;
      refused = inr (inl (
        text,
        second.held,
        inr
            (subst (λ (t : List ℕ). HasNoMostProcs words t h) c.deref.ensures.value c.in_err-most_procs.ensures.refused),
      ));
    }))))

pub returns-in_err-comparison-clause-refused : goal.returns-in_err-comparison-clause-refused
returns-in_err-comparison-clause-refused g c =
    let before = g.S.Sources.holds c.args.sources.now in
    let then = g.S.Sources.holds c.load.new.sources in
    let next = g.S.Sources.holds c.load_with_text.new.sources in
    let now = g.S.Sources.holds c.load_where_named.new.sources in
    let through = same_through before then next c.load_with_text.ensures.same c.load.ensures.same in
    let same = same_through before next now c.load_where_named.ensures.same through in
    let words = c.args.words.now in
    let p = c.in_ok-first.first in
    let written = c.in_ok-written.written in
    let q = c.under-second.result in
    let pre = c.in_ok-precondition.precondition in
    let text = c.in_ok-written.text.items in
    let h = c.in_err-comparison.field-0.0 in
    let second = text_held then before c.load.ensures.same words.second text written c.in_ok-written.ensures.loaded in
    hands_on _ h _ c.from_residual-in_err-comparison.ensures.1 (inr (inr (inr (record {
      first = p;
      written = written;
      second = q;
      is_first = c.in_ok-first.ensures.loaded;
      is_second = of_text before words.second text written second;
      ran = c.under-second.ensures;
      precondition = pre;
      is_precondition = named_held next before through words.precondition pre c.in_ok-precondition.ensures.loaded;
      refused = elim c.in_err-comparison.ensures.refused [
        | inl u ↦ inl u
        | inr (inl n) ↦ inr (inl (text, second.held, inl (subst (λ (t : List ℕ). HaveNoLimits words t h) c.deref-2.ensures.value n)))
        | inr (inr r) ↦ inr (inr (pair_refused now before same words.inputs pre p q (drawn_beside words.is_graded p q) h
            (subst (λ (b : Checked). IsRefusedPair now words.inputs pre p q b h) c.drawn_beside-beside.ensures r)))
      ];
    }))))

pub returns-clause-found : goal.returns-clause-found
returns-clause-found g c =
    let before = g.S.Sources.holds c.args.sources.now in
    let then = g.S.Sources.holds c.load.new.sources in
    let next = g.S.Sources.holds c.load_with_text.new.sources in
    let now = g.S.Sources.holds c.load_where_named.new.sources in
    let through = same_through before then next c.load_with_text.ensures.same c.load.ensures.same in
    let same = same_through before next now c.load_where_named.ensures.same through in
    let words = c.args.words.now in
    let p = c.in_ok-first.first in
    let written = c.in_ok-written.written in
    let q = c.under-second.result in
    let pre = c.in_ok-precondition.precondition in
    let text = c.in_ok-written.text.items in
    let of = c.in_ok-comparison.ensures.found in
    let found = subst (λ (b : Checked). IsFoundOn now pre p q b of.0 words.inputs words.bound c.in_ok-comparison.comparison)
    c.drawn_beside-beside.ensures of.2 in
    record {
      first = c.in_ok-first.ensures.loaded;
      text = text;
      written = written;
      second = text_held then before c.load.ensures.same words.second text written c.in_ok-written.ensures.loaded;
      ran = c.under-second.ensures;
      declared = c.rule-rule.ensures;
      procs = subst (λ (t : List ℕ). AreMostProcs words t c.in_ok-most_procs.most_procs) c.deref.ensures.value
          c.in_ok-most_procs.ensures.most;
      precondition = named_held next before through words.precondition pre c.in_ok-precondition.ensures.loaded;
      drawn = c.drawn_of-drawn.ensures ∙ ap (λ (b : Checked). drawn_of words.inputs p b) c.drawn_beside-beside.ensures;
      compared = of.0;
      is_compared = subst (λ (t : List ℕ). IsCompared words p.layout q.layout t of.0) c.deref-2.ensures.value of.1;
      found = (found.0, words_held now before same words.inputs p (drawn_beside words.is_graded p q) found.0 found.1, found.2);
    }
