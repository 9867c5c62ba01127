use Rattle.std.proofs.Common.{◌≡◌, None, Some, SFits, ap, ◌∙◌, arith, rules, sym, w64}
use Rattle.std.proofs.lemmas.Int.{to_z-of_z}
use Rattle.std.proofs.lemmas.Str.Pattern.{split_parts}
use Rattle.pram_tokens.specs.Input.{number_of}
use Rattle.scopes.specs.Intervals.{behind_dot}
use Rattle.scopes.proofs.Dots.{cut_of, in_order, out_of_order, spelled_so}
use Rattle.scopes.proofs.interval.read_interval.Goals as goal

pub returns-in_err-first-clause-found : goal.returns-in_err-first-clause-found
returns-in_err-first-clause-found c = λ low high p. absurd (cut_of c.args.word.now low high None c.in_err-first.ensures.cases p)

pub returns-in_err-second-clause-found : goal.returns-in_err-second-clause-found
returns-in_err-second-clause-found c = λ low high p.
    let cut = cut_of c.args.word.now low high (Some (c.in_ok-first.first, c.in_ok-first.behind)) c.in_ok-first.ensures.cases p in
    let e : Some p.second ≡ None = sym (ap behind_dot (c.as_bytes.ensures.value ∙ cut.1)) ∙ c.in_err-second.ensures in
    absurd (cc e)

pub returns-in_err-low-clause-found : goal.returns-in_err-low-clause-found
returns-in_err-low-clause-found c = λ low high p.
    let cut = cut_of c.args.word.now low high (Some (c.in_ok-first.first, c.in_ok-first.behind)) c.in_ok-first.ensures.cases p in
    let e : None ≡ Some low = c.in_err-low.ensures ∙ ap number_of (c.as_bytes-2.ensures.value ∙ cut.0) ∙ p.low_is in
    absurd (cc e)

pub returns-in_err-high-clause-found : goal.returns-in_err-high-clause-found
returns-in_err-high-clause-found c = λ low high p.
    let cut = cut_of c.args.word.now low high (Some (c.in_ok-first.first, c.in_ok-first.behind)) c.in_ok-first.ensures.cases p in
    let s : Some p.second ≡ Some c.in_ok-second.second.now = sym (ap behind_dot (c.as_bytes.ensures.value ∙ cut.1)) ∙
    c.in_ok-second.ensures in
    let t : c.in_ok-second.second.now ≡ p.second = cc s in
    let e : None ≡ Some high = c.in_err-high.ensures ∙ ap number_of t ∙ p.high_is in
    absurd (cc e)

pub returns-then-high-low-clause-found : goal.returns-then-high-low-clause-found
returns-then-high-low-clause-found c = λ low high p.
    let cut = cut_of c.args.word.now low high (Some (c.in_ok-first.first, c.in_ok-first.behind)) c.in_ok-first.ensures.cases p in
    let s : Some p.second ≡ Some c.in_ok-second.second.now = sym (ap behind_dot (c.as_bytes.ensures.value ∙ cut.1)) ∙
    c.in_ok-second.ensures in
    let t : c.in_ok-second.second.now ≡ p.second = cc s in
    let l : Some c.in_ok-low.low ≡ Some low = c.in_ok-low.ensures ∙ ap number_of (c.as_bytes-2.ensures.value ∙ cut.0) ∙ p.low_is in
    let h : Some c.in_ok-high.high ≡ Some high = c.in_ok-high.ensures ∙ ap number_of t ∙ p.high_is in
    let x : c.in_ok-low.low ≡ low = cc l in
    let y : c.in_ok-high.high ≡ high = cc h in
    let low_fits : SFits w64 c.in_ok-low.low = search rules in
    let high_fits : SFits w64 c.in_ok-high.high = search rules in
    let less = rw (to_z-of_z w64 c.in_ok-high.high high_fits, to_z-of_z w64 c.in_ok-low.low low_fits) at c.if-high-low.true in
    absurd (out_of_order c.in_ok-low.low c.in_ok-high.high low high x y less p.ordered)

pub returns-clause-spelled : goal.returns-clause-spelled
returns-clause-spelled c =
    let low_fits : SFits w64 c.in_ok-low.low = search rules in
    let high_fits : SFits w64 c.in_ok-high.high = search rules in
    let parts = split_parts 46 c.args.word.now (Some (c.in_ok-first.first, c.in_ok-first.behind)) c.in_ok-first.ensures.cases
    (omega arith) in
    let order = rw (to_z-of_z w64 c.in_ok-high.high high_fits, to_z-of_z w64 c.in_ok-low.low low_fits) at c.if-high-low.false in
    rw (to_z-of_z w64 c.in_ok-low.low low_fits, to_z-of_z w64 c.in_ok-high.high high_fits)
    (record {
      first = c.in_ok-first.first.now;
      second = c.in_ok-second.second.now;
      spelled = spelled_so c.args.word.now c.in_ok-first.first.now c.in_ok-first.behind.now c.in_ok-second.second parts.0
          (ap behind_dot (sym c.as_bytes.ensures.value) ∙ c.in_ok-second.ensures);
      low_is = ap number_of (sym c.as_bytes-2.ensures.value) ∙ sym c.in_ok-low.ensures;
      high_is = sym c.in_ok-high.ensures;
      ordered = in_order c.in_ok-low.low c.in_ok-high.high order;
    })

pub returns-clause-found : goal.returns-clause-found
returns-clause-found c = λ low high p.
    let cut = cut_of c.args.word.now low high (Some (c.in_ok-first.first, c.in_ok-first.behind)) c.in_ok-first.ensures.cases p in
    let s : Some p.second ≡ Some c.in_ok-second.second.now = sym (ap behind_dot (c.as_bytes.ensures.value ∙ cut.1)) ∙
    c.in_ok-second.ensures in
    let t : c.in_ok-second.second.now ≡ p.second = cc s in
    let l : Some c.in_ok-low.low ≡ Some low = c.in_ok-low.ensures ∙ ap number_of (c.as_bytes-2.ensures.value ∙ cut.0) ∙ p.low_is in
    let h : Some c.in_ok-high.high ≡ Some high = c.in_ok-high.ensures ∙ ap number_of t ∙ p.high_is in
    let low_fits : SFits w64 c.in_ok-low.low = search rules in
    let high_fits : SFits w64 c.in_ok-high.high = search rules in
    rw (to_z-of_z w64 c.in_ok-low.low low_fits, to_z-of_z w64 c.in_ok-high.high high_fits)
    cc (l, h)
