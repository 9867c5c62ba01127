use Rattle.std.proofs.Common.{sym, subst, ◌≤◌}
use Rattle.worker_exchange.specs.Equipped.{most_words}
use Rattle.code_tests.proofs.strange_words.exchange.Goals as goal

pub until_exchange-requires-clause-going : goal.until_exchange-requires-clause-going
until_exchange-requires-clause-going g c = c.requires.flooded.somewhere.between.going c.requires.going

pub until_exchange-requires-clause-workers : goal.until_exchange-requires-clause-workers
until_exchange-requires-clause-workers g c = sym c.requires.flooded.two

pub returns : goal.returns
returns g c =
    let f = c.requires.flooded in
    let s = f.somewhere in
    record {
      runnable = f.runnable;
      somewhere = record {
        states = _;
        told = _;
        between = c.receive.ensures.behind s.states s.told 0 _ (c.until_exchange.ensures.at s.states s.told 0 s.between);
      };
      two = f.two;
      enough = subst (λ n. most_words c.args.code.now (g.M.AddressMap.shape c.args.map.now) ≤ n)
          (sym c.until_exchange.ensures.room) f.enough;
      few = f.few;
    }
