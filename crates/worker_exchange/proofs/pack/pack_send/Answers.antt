use Rattle.std.proofs.Common.{◌≡◌, ℕ, ◌<◌, [], map, refl, ◌∙◌, arith, vec_capacity}
use Rattle.combining.specs.AllModules.{column}
use Rattle.worker_exchange.specs.Sends.{words_of}
use Rattle.worker_exchange.proofs.SendLemmas.{as_many, room_for_asks, few_words, all_written}
use Rattle.worker_exchange.proofs.pack.pack_send.Goals as goal

pub count_puts-requires-clause-few : goal.count_puts-requires-clause-few
count_puts-requires-clause-few g c = λ j l.
    let rule = g.R.WriteRule.rule c.args.rule.now in
    let m = g.M.AddressMap.shape c.args.map.now in
    let rooms = map vec_capacity c.args.columns.now in
    let puts = c.args.puts.now.held in
    let asks = c.args.asks.now.held in
    let can = c.requires.held in
    let n = as_many rule m puts asks rooms can c.args.columns.now refl in
    let k = as_many rule m puts asks rooms can c.pack_all.new.columns (c.pack_all.ensures.rooms ∙ c.clear_all.ensures.rooms) in
    let empty : (i : ℕ) → i < m.parts → column (words_of c.clear_all.new.columns) i ≡ [] = λ i b. c.clear_all.ensures.words i
    (omega (arith, n, b)) in
    few_words rule m puts asks rooms can c.clear_all.new.columns c.pack_all.new.columns empty c.pack_all.ensures.words j
    (omega (arith, l, k))

pub pack_all-requires-2-clause-room : goal.pack_all-requires-2-clause-room
pack_all-requires-2-clause-room g c =
    let rule = g.R.WriteRule.rule c.args.rule.now in
    let m = g.M.AddressMap.shape c.args.map.now in
    let rooms = map vec_capacity c.args.columns.now in
    let puts = c.args.puts.now.held in
    let asks = c.args.asks.now.held in
    let can = c.requires.held in
    let n = as_many rule m puts asks rooms can c.args.columns.now refl in
    let empty : (i : ℕ) → i < m.parts → column (words_of c.clear_all.new.columns) i ≡ [] = λ i b. c.clear_all.ensures.words i
    (omega (arith, n, b)) in
    room_for_asks rule m puts asks rooms can c.clear_all.new.columns c.pack_all.new.columns empty c.pack_all.ensures.words
    (c.pack_all.ensures.rooms ∙ c.clear_all.ensures.rooms)

pub returns-clause-written : goal.returns-clause-written
returns-clause-written g c =
    let rule = g.R.WriteRule.rule c.args.rule.now in
    let m = g.M.AddressMap.shape c.args.map.now in
    let rooms = map vec_capacity c.args.columns.now in
    let puts = c.args.puts.now.held in
    let asks = c.args.asks.now.held in
    let can = c.requires.held in
    let n = as_many rule m puts asks rooms can c.args.columns.now refl in
    let k = as_many rule m puts asks rooms can c.pack_all.new.columns (c.pack_all.ensures.rooms ∙ c.clear_all.ensures.rooms) in
    let empty : (i : ℕ) → i < m.parts → column (words_of c.clear_all.new.columns) i ≡ [] = λ i b. c.clear_all.ensures.words i
    (omega (arith, n, b)) in
    all_written rule m puts asks rooms can c.clear_all.new.columns c.pack_all.new.columns empty c.pack_all.ensures.words
    c.pack_all-2.new.columns c.count_puts.new.counts c.pack_all-2.ensures.words (λ j l. c.count_puts.ensures.counts j (omega (arith, l, k)))
